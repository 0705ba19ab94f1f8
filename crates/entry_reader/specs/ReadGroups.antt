-- Groups of answers and entries, by their keywords.
use Rattle.std.specs.Prelude.{Bool, true, false}
use Rattle.dtx_values.specs.declared.entry.Answer.{Answer}
use Rattle.dtx_values.specs.declared.entry.Answer.TheVariants.{Fine, True, False, Wait, Id, StillActive, OutcomeIs, StillOpen, Did, NotBegun, Ended, TooLate, Many, NoSuch, Already, Finished, Over, Connected, Stopped, Deep, Isolation, NoScope, Nested, Fault, NotALog}
use Rattle.dtx_values.specs.declared.entry.Entry.{Entry}
use Rattle.dtx_values.specs.declared.entry.Entry.TheVariants.{Called, Answered, Began, Cloned, Completed, Enlisted, Init, Clock, Asked, Voted, PromoteReply, Requested, Handed, OwnerAnswered, Decided, Told, Promoting, Promoted, Down, Lost, Restarted, Reenlisted, Recovered, Acked, Scope, LogWord}
use Rattle.dtx_values.specs.declared.entry.LogNote.TheVariants.{Armed, Opened as LogOpened}
use Rattle.dtx_values.specs.declared.entry.ScopeNote.TheVariants.{Opened, Finished as ScopeFinished, Closed}

-- answers of a call that goes on or ended
abbrev pub is_plain_answer : Answer → Bool
is_plain_answer Fine = true
is_plain_answer True = true
is_plain_answer False = true
is_plain_answer Wait = true
is_plain_answer StillActive = true
is_plain_answer (OutcomeIs o) = true
is_plain_answer StillOpen = true
is_plain_answer Fault = true
is_plain_answer _ = false

-- answers that refuse a call
abbrev pub is_refusal : Answer → Bool
is_refusal NotBegun = true
is_refusal TooLate = true
is_refusal NoSuch = true
is_refusal Already = true
is_refusal Finished = true
is_refusal Stopped = true
is_refusal Deep = true
is_refusal NoScope = true
is_refusal _ = false

-- answers of several words
abbrev pub is_detailed : Answer → Bool
is_detailed (Id u) = true
is_detailed (Did n) = true
is_detailed (Ended o) = true
is_detailed (Many n) = true
is_detailed (Over r) = true
is_detailed (Connected e) = true
is_detailed (Isolation a b) = true
is_detailed (Nested s) = true
is_detailed (NotALog n) = true
is_detailed _ = false

-- entries of an enlistment alone
abbrev pub is_of_enlistment : Entry → Bool
is_of_enlistment (Init e) = true
is_of_enlistment (Handed e) = true
is_of_enlistment (Lost e) = true
is_of_enlistment (Reenlisted e) = true
is_of_enlistment (Acked e) = true
is_of_enlistment _ = false

-- entries of an enlistment and a word
abbrev pub is_about_enlistment : Entry → Bool
is_about_enlistment (Enlisted e c) = true
is_about_enlistment (Asked e a) = true
is_about_enlistment (Voted e v) = true
is_about_enlistment (PromoteReply e ok) = true
is_about_enlistment (Requested e r) = true
is_about_enlistment (OwnerAnswered e o) = true
is_about_enlistment _ = false

-- entries of one word behind their keyword, other than an enlistment
abbrev pub is_of_word : Entry → Bool
is_of_word (Began n) = true
is_of_word (Completed c) = true
is_of_word (Clock n) = true
is_of_word (Decided o) = true
is_of_word (Promoting c) = true
is_of_word (Restarted found) = true
is_of_word (Recovered r) = true
is_of_word (Scope (ScopeFinished s)) = true
is_of_word (Scope (Closed s)) = true
is_of_word _ = false

-- entries of two words behind their keyword, the first no enlistment, and those that share a keyword with them
abbrev pub is_of_words : Entry → Bool
is_of_words (Cloned c k) = true
is_of_words (Told p o) = true
is_of_words (Promoted u c) = true
is_of_words (Down c d) = true
is_of_words (Scope (Opened s t)) = true
is_of_words (LogWord (Armed n image)) = true
is_of_words (LogWord (LogOpened n)) = true
is_of_words _ = false

-- answers of calls
abbrev pub is_call : Entry → Bool
is_call (Called n a x) = true
is_call (Answered n x) = true
is_call _ = false
