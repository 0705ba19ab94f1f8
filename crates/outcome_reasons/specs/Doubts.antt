-- Why an outcome is in doubt, and what the coordinator decided then.
use Rattle.std.specs.Prelude.{ℕ, ◌==◌, Bool, true, false, List, ◌∷◌, Option, Some, None}
use Rattle.dtx_values.specs.declared.entry.Entry.{Entry}
use Rattle.dtx_values.specs.declared.entry.Entry.TheVariants.{Down as End, Got, Handed, Lost, OwnerAnswered}
use Rattle.dtx_values.specs.declared.message.Conn.TheVariants.{Begin, Enl, Voter}
use Rattle.dtx_values.specs.declared.message.Dir.TheVariants.{Up}
use Rattle.dtx_values.specs.declared.message.Message.TheVariants.{EnlistOneCommitted}
use Rattle.dtx_values.specs.declared.number.EnlNo.{EnlNo}
use Rattle.dtx_model.specs.Entries.{is_record}
use Rattle.dtx_model.specs.Learned.{is_first_abort}
use Rattle.dtx_model.specs.Outcome.{doubt, ended_there, is_begin_end, is_voter_end}
use Rattle.outcome_reasons.specs.declared.said.DoubtReason.{DoubtReason}
use Rattle.outcome_reasons.specs.declared.said.DoubtReason.TheVariants.{Answered, Ended, Lost as WasLost, Unheard}
use Rattle.outcome_reasons.specs.declared.said.Why.{Why}
use Rattle.outcome_reasons.specs.declared.said.Why.TheVariants.{CoordinatorAborted, CoordinatorCommitted, CoordinatorUndecided}
use Rattle.outcome_reasons.specs.First.{first_where, when}
use Rattle.outcome_reasons.specs.Moments.{number_at}
use Rattle.outcome_reasons.specs.Roots.{end_root}

-- the coordinator's connection to this enlistment ends by the entry
abbrev pub is_its_end : EnlNo → Entry → Bool
is_its_end e x = by (ended_there x)
  where
    by : Option EnlNo → Bool
    by (Some f) = e.value == f.value
    by None = false

abbrev pub unheard : List ℕ → List Entry → Entry → EnlNo → DoubtReason
unheard ns past x e = Unheard (end_root ns (Enl e) (is_its_end e) (x ∷ past)) e

-- what makes the doubt that stands after this entry: the owner's answer or loss, the end of the one that the coordinator let decide, or the ends of b and v
abbrev pub doubt_reason : List ℕ → List Entry → Entry → DoubtReason
doubt_reason ns past (Handed e) = Answered e
doubt_reason ns past (OwnerAnswered e o) = Answered e
doubt_reason ns past (Lost e) = WasLost e
doubt_reason ns past (End (Enl e) Up) = unheard ns past (End (Enl e) Up) e
doubt_reason ns past (Got (Enl e) Up m) = unheard ns past (Got (Enl e) Up m) e
doubt_reason ns past x = Ended (end_root ns Begin is_begin_end (x ∷ past)) (end_root ns Voter is_voter_end (x ∷ past))

-- the doubt, where it stands after this entry
abbrev pub doubtful : List ℕ → List Entry → Entry → Option DoubtReason
doubtful ns past x = when (doubt (x ∷ past)) (doubt_reason ns past x)

abbrev pub aborted_there : List ℕ → Option ℕ → Why
aborted_there ns (Some i) = CoordinatorAborted (number_at i ns)
aborted_there ns None = CoordinatorUndecided

abbrev pub decided_there : List ℕ → Option ℕ → Option ℕ → Why
decided_there ns (Some i) aborted = CoordinatorCommitted (number_at i ns)
decided_there ns None aborted = aborted_there ns aborted

-- the coordinator commits at the entry: its record is in the log, or the one that it let decide said committed
abbrev pub is_commit_there : Entry → Bool
is_commit_there (Got (Enl e) Up EnlistOneCommitted) = true
is_commit_there x = is_record x

abbrev pub committed_at : List Entry → Entry → Bool
committed_at past x = is_commit_there x

-- what the coordinator decided: that it committed goes first, then that it aborted; else it decided nothing
abbrev pub at_coordinator : List ℕ → List Entry → Why
at_coordinator ns h = decided_there ns (first_where committed_at h) (first_where is_first_abort h)
