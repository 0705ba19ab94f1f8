-- Script grammar: which bytes are which script, and which lines are run. Each line has one spelling.
use Rattle.std.specs.Prelude.{ℕ, ◌≡◌, ◌+◌, ◌≤◌, ◌==◌, nat_le, Bool, true, false, ◌&&◌, not, List, [], ◌∷◌, ◌++◌, length, codes, decimal, Option, Some, None}
use Rattle.std.specs.List.{flat_map, join_with_byte}
use Rattle.dtx_values.specs.declared.limits.TheConstants.{LINE_BYTES, SCRIPT_BYTES}
use Rattle.dtx_values.specs.declared.message.Conn.{Conn}
use Rattle.dtx_values.specs.declared.message.Conn.TheVariants.{Begin as OnBegin, Voter as OnVoter, Enl as OnEnl, Again}
use Rattle.dtx_values.specs.declared.script.Body.{Body}
use Rattle.dtx_values.specs.declared.script.Body.TheVariants.{Begin, Open, Finish, Close, Current, Volatile, Durable, Promotable, Clone, Complete, Commit, Rollback, Marshal, Status, Await, Tick, Do, Lose, Gone, Reenlist, Recovered, Stop, Restart, Par}
use Rattle.dtx_values.specs.declared.script.EnlistOption.{EnlistOption}
use Rattle.dtx_values.specs.declared.script.EnlistOption.TheVariants.{Plain, DuringPrepare}
use Rattle.dtx_values.specs.declared.script.Line.{Line}
use Rattle.dtx_values.specs.declared.words.CloneKind.{CloneKind}
use Rattle.dtx_values.specs.declared.words.CloneKind.TheVariants.{Block, Rollback as RollbackKind}
use Rattle.dtx_values.specs.declared.words.Image.{Image}
use Rattle.dtx_values.specs.declared.words.Image.TheVariants.{Lose, Keep, Torn}
use Rattle.dtx_values.specs.declared.words.Iso.{Iso}
use Rattle.dtx_values.specs.declared.words.Iso.TheVariants.{Serializable, RepeatableRead, ReadCommitted, ReadUncommitted, Snapshot, Chaos, Unspecified}
use Rattle.dtx_values.specs.declared.script.Opening.{Opening}
use Rattle.dtx_values.specs.declared.script.Opening.TheVariants.{Required, RequiresNew, Suppress}
use Rattle.dtx_values.specs.declared.script.Support.{Support}
use Rattle.dtx_values.specs.declared.script.Support.TheVariants.{SinglePhase, TwoPhase}
use Rattle.dtx_values.specs.declared.words.IsoWord.{IsoWord}
use Rattle.dtx_values.specs.declared.words.IsoWord.TheVariants.{Default as DefaultIso, Level}
use Rattle.dtx_values.specs.declared.words.Outcome.{Outcome}
use Rattle.dtx_values.specs.declared.words.Outcome.TheVariants.{Committed, Aborted, InDoubt}
use Rattle.dtx_values.specs.declared.words.Timeout.{Timeout}
use Rattle.dtx_values.specs.declared.words.Timeout.TheVariants.{Default, Milliseconds}
use Rattle.dtx_values.specs.declared.words.Vote.{Vote}
use Rattle.dtx_values.specs.declared.words.Vote.TheVariants.{Yes, No, Done}
use Rattle.dtx_model.specs.Words.{has, each, always, past_of}

-- a name: a letter and a number
abbrev pub actor_name : ℕ → List ℕ
actor_name n = codes "a" ++ decimal n

abbrev pub transaction_name : ℕ → List ℕ
transaction_name n = codes "t" ++ decimal n

abbrev pub enlistment_name : ℕ → List ℕ
enlistment_name n = codes "e" ++ decimal n

abbrev pub clone_name : ℕ → List ℕ
clone_name n = codes "c" ++ decimal n

abbrev pub scope_name : ℕ → List ℕ
scope_name n = codes "s" ++ decimal n

abbrev pub manager_name : ℕ → List ℕ
manager_name n = codes "r" ++ decimal n

-- a connection: b, v, that of an enlistment, or that of its reenlistment
abbrev pub connection_word : Conn → List ℕ
connection_word OnBegin = codes "b"
connection_word OnVoter = codes "v"
connection_word (OnEnl e) = enlistment_name e.value
connection_word (Again e) = codes "x" ++ decimal e.value

abbrev pub image_word : Image → List ℕ
image_word Lose = codes "lose"
image_word Keep = codes "keep"
image_word Torn = codes "torn"

abbrev pub iso_word : Iso → List ℕ
iso_word Serializable = codes "serializable"
iso_word RepeatableRead = codes "repeatableread"
iso_word ReadCommitted = codes "readcommitted"
iso_word ReadUncommitted = codes "readuncommitted"
iso_word Snapshot = codes "snapshot"
iso_word Chaos = codes "chaos"
iso_word Unspecified = codes "unspecified"

abbrev pub timeout_word : Timeout → List ℕ
timeout_word Default = codes "default"
timeout_word (Milliseconds n) = decimal n

abbrev pub option_word : EnlistOption → List ℕ
option_word Plain = codes "none"
option_word DuringPrepare = codes "during"

abbrev pub vote_word : Option Vote → List ℕ
vote_word (Some Yes) = codes "yes"
vote_word (Some No) = codes "no"
vote_word (Some Done) = codes "done"
vote_word None = codes "silent"

abbrev pub owner_word : Option Outcome → List ℕ
owner_word (Some Committed) = codes "committed"
owner_word (Some Aborted) = codes "aborted"
owner_word (Some InDoubt) = codes "indoubt"
owner_word None = codes "silent"

abbrev pub promote_word : Option Bool → List ℕ
promote_word (Some true) = codes "ok"
promote_word (Some false) = codes "fail"
promote_word None = codes "silent"

abbrev pub kind_word : CloneKind → List ℕ
kind_word Block = codes "block"
kind_word RollbackKind = codes "rollback"

abbrev pub asked_iso_word : IsoWord → List ℕ
asked_iso_word DefaultIso = codes "default"
asked_iso_word (Level i) = iso_word i

-- the words behind a scope's name
abbrev pub opening_words : Opening → List (List ℕ)
opening_words (Required t d i) = codes "required" ∷ transaction_name t.value ∷ timeout_word d ∷ asked_iso_word i ∷ []
opening_words (RequiresNew t d i) = codes "requiresnew" ∷ transaction_name t.value ∷ timeout_word d ∷ asked_iso_word i ∷ []
opening_words Suppress = codes "suppress" ∷ []

-- the words behind a durable's manager
abbrev pub support_words : Support → List (List ℕ)
support_words (SinglePhase v o) = codes "single" ∷ vote_word v ∷ owner_word o ∷ []
support_words (TwoPhase v) = codes "two" ∷ vote_word v ∷ []

-- the words of a command
abbrev pub command_words : Body → List (List ℕ)
command_words (Begin t d) = codes "begin" ∷ transaction_name t.value ∷ timeout_word d ∷ []
command_words (Open s o) = codes "open" ∷ scope_name s.value ∷ opening_words o
command_words (Finish s) = codes "finish" ∷ scope_name s.value ∷ []
command_words (Close s) = codes "close" ∷ scope_name s.value ∷ []
command_words Current = codes "current" ∷ []
command_words (Volatile t e o v) = codes "volatile" ∷ transaction_name t.value ∷ enlistment_name e.value ∷ option_word o ∷ vote_word v ∷ []
command_words (Durable t e r s) = codes "durable" ∷ transaction_name t.value ∷ enlistment_name e.value ∷ manager_name r.value ∷ support_words s
command_words (Promotable t e r v o p) =
    codes "promotable" ∷ transaction_name t.value ∷ enlistment_name e.value ∷ manager_name r.value ∷ vote_word v ∷ owner_word o ∷ promote_word p ∷ []
command_words (Clone t c k) = codes "clone" ∷ transaction_name t.value ∷ clone_name c.value ∷ kind_word k ∷ []
command_words (Complete c) = codes "complete" ∷ clone_name c.value ∷ []
command_words (Commit t) = codes "commit" ∷ transaction_name t.value ∷ []
command_words (Rollback t) = codes "rollback" ∷ transaction_name t.value ∷ []
command_words (Marshal t) = codes "marshal" ∷ transaction_name t.value ∷ []
command_words (Status t) = codes "status" ∷ transaction_name t.value ∷ []
command_words (Await t) = codes "await" ∷ transaction_name t.value ∷ []
command_words (Tick t n) = codes "tick" ∷ transaction_name t.value ∷ decimal n ∷ []
command_words (Do t k n) = codes "do" ∷ transaction_name t.value ∷ decimal k ∷ decimal n ∷ []
command_words (Lose t c up down) = codes "lose" ∷ transaction_name t.value ∷ connection_word c ∷ decimal up ∷ decimal down ∷ []
command_words (Gone e) = codes "gone" ∷ enlistment_name e.value ∷ []
command_words (Reenlist e) = codes "reenlist" ∷ enlistment_name e.value ∷ []
command_words (Recovered t r) = codes "recovered" ∷ transaction_name t.value ∷ manager_name r.value ∷ []
command_words (Stop n i) = codes "stop" ∷ decimal n ∷ image_word i ∷ []
command_words Restart = codes "restart" ∷ []
command_words Par = codes "par" ∷ []

-- the words of a line: its actor and its command
abbrev pub words : Line → List (List ℕ)
words l = actor_name l.actor.value ∷ command_words l.body

-- a line's bytes: its words with exactly one space between them, and LF
abbrev pub line_text : Line → List ℕ
line_text l = join_with_byte 32 (words l) ++ 10 ∷ []

abbrev pub script_text : List Line → List ℕ
script_text s = flat_map line_text s

-- n is from the first number to the last
abbrev pub is_from : ℕ → ℕ → ℕ → Bool
is_from low high n = nat_le low n && nat_le n high

-- a timeout is a number up to 4,294,967,295
abbrev pub is_timeout : Timeout → Bool
is_timeout Default = true
is_timeout (Milliseconds n) = is_from 0 4294967295 n

abbrev pub is_opening_in_range : Opening → Bool
is_opening_in_range (Required t d i) = is_timeout d
is_opening_in_range (RequiresNew t d i) = is_timeout d
is_opening_in_range Suppress = true

-- the numbers of a command are in their ranges; the types of the others keep theirs
abbrev pub is_in_range : Body → Bool
is_in_range (Begin t d) = is_timeout d
is_in_range (Open s o) = is_opening_in_range o
is_in_range (Tick t n) = is_from 1 1000000000 n
is_in_range (Do t k n) = is_from 1 99 k && is_from 1 999 n
is_in_range (Lose t c up down) = is_from 0 999 up && is_from 0 999 down
is_in_range (Stop n i) = is_from 1 99 n
is_in_range _ = true

-- the name of a transaction, an enlistment, a clone or a scope
pub data Name : Type 0 where
  OfTransaction : ℕ → Name
  OfEnlistment : ℕ → Name
  OfClone : ℕ → Name
  OfScope : ℕ → Name

abbrev pub same_name : Name → Name → Bool
same_name (OfTransaction n) (OfTransaction m) = n == m
same_name (OfEnlistment n) (OfEnlistment m) = n == m
same_name (OfClone n) (OfClone m) = n == m
same_name (OfScope n) (OfScope m) = n == m
same_name _ _ = false

-- the transaction that an opening may make
abbrev pub opening_makes : Opening → List Name
opening_makes (Required t d i) = OfTransaction t.value ∷ []
opening_makes (RequiresNew t d i) = OfTransaction t.value ∷ []
opening_makes Suppress = []

-- the names that a command makes
abbrev pub makes : Body → List Name
makes (Begin t d) = OfTransaction t.value ∷ []
makes (Open s o) = OfScope s.value ∷ opening_makes o
makes (Volatile t e o v) = OfEnlistment e.value ∷ []
makes (Durable t e r s) = OfEnlistment e.value ∷ []
makes (Promotable t e r v o p) = OfEnlistment e.value ∷ []
makes (Clone t c k) = OfClone c.value ∷ []
makes _ = []

-- the enlistment whose connection it is
abbrev pub connection_uses : Conn → List Name
connection_uses (OnEnl e) = OfEnlistment e.value ∷ []
connection_uses (Again e) = OfEnlistment e.value ∷ []
connection_uses _ = []

-- the names that a command uses
abbrev pub uses : Body → List Name
uses (Finish s) = OfScope s.value ∷ []
uses (Close s) = OfScope s.value ∷ []
uses (Volatile t e o v) = OfTransaction t.value ∷ []
uses (Durable t e r s) = OfTransaction t.value ∷ []
uses (Promotable t e r v o p) = OfTransaction t.value ∷ []
uses (Clone t c k) = OfTransaction t.value ∷ []
uses (Complete c) = OfClone c.value ∷ []
uses (Commit t) = OfTransaction t.value ∷ []
uses (Rollback t) = OfTransaction t.value ∷ []
uses (Marshal t) = OfTransaction t.value ∷ []
uses (Status t) = OfTransaction t.value ∷ []
uses (Await t) = OfTransaction t.value ∷ []
uses (Tick t n) = OfTransaction t.value ∷ []
uses (Do t k n) = OfTransaction t.value ∷ []
uses (Lose t c up down) = OfTransaction t.value ∷ connection_uses c
uses (Gone e) = OfEnlistment e.value ∷ []
uses (Reenlist e) = OfEnlistment e.value ∷ []
uses (Recovered t r) = OfTransaction t.value ∷ []
uses _ = []

-- a line of these makes the name
abbrev pub is_made : List Line → Name → Bool
is_made before n = has (λ l. has (λ m. same_name n m) (makes l.body)) before

-- the line makes names that weren't made before, and uses names that were
abbrev pub is_named_well : List Line → Line → Bool
is_named_well before l = each (λ n. not (is_made before n)) (makes l.body) && each (λ n. is_made before n) (uses l.body)

-- each line makes names that weren't made before it, and uses names that were
abbrev pub are_named_well : List Line → Bool
are_named_well s = always is_named_well (past_of s)

-- the command makes this enlistment as a durable or promotable one
abbrev pub makes_lasting : ℕ → Body → Bool
makes_lasting e (Durable t f r s) = e == f.value
makes_lasting e (Promotable t f r v o p) = e == f.value
makes_lasting e _ = false

-- and of this transaction
abbrev pub makes_lasting_of : ℕ → ℕ → Body → Bool
makes_lasting_of t e (Durable u f r s) = (t == u.value) && (e == f.value)
makes_lasting_of t e (Promotable u f r v o p) = (t == u.value) && (e == f.value)
makes_lasting_of t e _ = false

abbrev pub is_made_lasting : List Line → ℕ → Bool
is_made_lasting before e = has (λ l. makes_lasting e l.body) before

abbrev pub is_made_lasting_of : List Line → ℕ → ℕ → Bool
is_made_lasting_of before t e = has (λ l. makes_lasting_of t e l.body) before

-- the connection's enlistment is a durable or promotable one of this transaction
abbrev pub is_connection_of : List Line → ℕ → Conn → Bool
is_connection_of before t (OnEnl e) = is_made_lasting_of before t e.value
is_connection_of before t (Again e) = is_made_lasting_of before t e.value
is_connection_of before t _ = true

-- each enlistment that the line names is of the kind that its command asks for
abbrev pub is_of_kind : List Line → Body → Bool
is_of_kind before (Gone e) = is_made_lasting before e.value
is_of_kind before (Reenlist e) = is_made_lasting before e.value
is_of_kind before (Lose t c up down) = is_connection_of before t.value c
is_of_kind before _ = true

abbrev pub is_par : Body → Bool
is_par Par = true
is_par _ = false

-- the line isn't a second `par`
abbrev pub is_par_once : List Line → Body → Bool
is_par_once before b = not (is_par b && has (λ l. is_par l.body) before)

-- the line, with its LF, is no longer than a line may be
abbrev pub is_short : Line → Bool
is_short l = nat_le (length (line_text l)) (LINE_BYTES + 1)

-- the lines are a script: numbers are in their ranges, no line is too long, nor are they together, names are made once, before they
-- are used, enlistments are of the right kind, and there is at most one `par`
pub record IsScript (s : List Line) : Type 0 where
  pub in_range : each (λ l. is_in_range l.body) s ≡ true
  pub short : each is_short s ≡ true
  pub within : length (script_text s) ≤ SCRIPT_BYTES
  pub named : are_named_well s ≡ true
  pub kinds : always (λ before l. is_of_kind before l.body) (past_of s) ≡ true
  pub par : always (λ before l. is_par_once before l.body) (past_of s) ≡ true

-- Reads: these bytes are this script
pub record Reads (b : List ℕ) (s : List Line) : Type 0 where
  pub bytes : b ≡ script_text s
  pub script : IsScript s
