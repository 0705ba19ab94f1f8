-- What must stand before each entry: the table of which entries come where, for the commands that are run.
use Rattle.std.proofs.Common.{Bool, true, false, ◌&&◌, ◌||◌, List, ◌≡◌, ◌∷◌}
use Rattle.std.specs.Prelude.{not}
use Rattle.dtx_values.specs.declared.entry.Ask.TheVariants.{Prepare}
use Rattle.dtx_values.specs.declared.entry.Entry.{Entry}
use Rattle.dtx_values.specs.declared.entry.Entry.TheVariants.{Called, Began, Cloned, Completed, Enlisted, CommitAsked, RollbackAsked, Clock, TimedOut, Late, Asked, Voted, Sealed, Handed, OwnerAnswered, Decided, Told, Init, Lost}
use Rattle.dtx_values.specs.declared.entry.Party.TheVariants.{Client}
use Rattle.dtx_values.specs.Class.{is_volatile}
use Rattle.dtx_model.specs.Words.{has, latest, always}
use Rattle.dtx_model.specs.Entries.{is_commit, is_sealed, is_asked, is_vote, is_hand, is_any_hand, is_lost, decision_of, is_decision}
use Rattle.dtx_model.specs.Outcome.{can_own, durables, enlisted, hears_doubt, is_empty, may_tell, ready}
use Rattle.dtx_model.proofs.Bools.{and_left, and_right}
use Rattle.history_table.proofs.EntryTests.{all_complete, is_decided, is_certain, is_enlisted, zeros_cast, is_cloned, is_answer, is_only, is_volatile_of}

-- the rule of each entry. What has no rule doesn't come.
abbrev pub rule : List Entry → Entry → Bool
rule h (Called n a x) = true
rule h (Began d) = true
rule h (Clock n) = true
rule h Late = true
rule h TimedOut = true
rule h RollbackAsked = true
rule h (Init e) = true
rule h (Enlisted e c) = not (has is_decision h) && not (has is_sealed h) && not (has (is_enlisted e.value) h) && (is_volatile c || (can_own c && is_empty (durables h)))
rule h (Cloned c k) = not (has is_decision h) && not (has is_commit h) && not (has (is_cloned c.value) h)
rule h (Completed c) = not (has is_decision h) && has (is_cloned c.value) h
rule h CommitAsked = not (has is_decision h) && not (has is_commit h)
rule h (Asked e Prepare) = not (has is_decision h) && has is_commit h && has (is_enlisted e.value) h && not (has (is_asked e.value) h) && has (is_volatile_of e.value) (enlisted h)
rule h (Voted e v) = not (has is_decision h) && has (is_enlisted e.value) h && has (is_asked e.value) h && not (has (is_vote e.value) h)
rule h Sealed = not (has is_decision h) && has is_commit h && all_complete h && zeros_cast h
rule h (Handed e) = not (has is_decision h) && has is_sealed h && ready h && is_only e.value (durables h) && not (has is_any_hand h)
rule h (OwnerAnswered e x) = not (has is_decision h) && has (is_hand e.value) h && not (has is_answer h)
rule h (Lost e) = has (is_enlisted e.value) h && not (has (is_lost e.value) h)
rule h (Decided x) = not (has is_decision h) && may_tell h Client x
rule h (Told p x) = is_decided x (latest decision_of h) && (is_certain x || hears_doubt h p)
rule h _ = false

-- each entry keeps its rule
abbrev pub ruled : List Entry → Bool
ruled h = always rule h

-- the newest entry keeps its rule
pub first_rule : (x : Entry) (h : List Entry) → ruled (x ∷ h) ≡ true → rule h x ≡ true
first_rule x h r = and_left (rule h x) (ruled h) r

-- the entries before the newest keep theirs
pub other_rules : (x : Entry) (h : List Entry) → ruled (x ∷ h) ≡ true → ruled h ≡ true
other_rules x h r = and_right (rule h x) (ruled h) r
