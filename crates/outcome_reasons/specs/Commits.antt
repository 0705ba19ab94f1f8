-- What the evidence of a commit is.
use Rattle.std.specs.Prelude.{Bool, true, false, List, ◌∷◌, Option, Some, None, slice_get}
use Rattle.dtx_values.specs.declared.entry.Entry.{Entry}
use Rattle.dtx_values.specs.declared.entry.Entry.TheVariants.{Logged, OwnerAnswered, Restarted, Sealed}
use Rattle.dtx_values.specs.declared.number.EnlNo.{EnlNo}
use Rattle.dtx_values.specs.declared.words.Class.{Class}
use Rattle.dtx_model.specs.Outcome.{all_vote, durables, evidence}
use Rattle.outcome_reasons.specs.declared.said.CommitReason.{CommitReason}
use Rattle.outcome_reasons.specs.declared.said.CommitReason.TheVariants.{Logged as ByLog, Owner as ByOwner, Sealed as BySeal}
use Rattle.outcome_reasons.specs.First.{when}

abbrev pub commit_by : Bool → Option (EnlNo × Class) → CommitReason
commit_by true owner = ByLog
commit_by false (Some x) = ByOwner x.0
commit_by false None = BySeal

-- what the evidence in h is: the log where the durables and promotables vote too; else the answer of the durable or promotable, else the seal
abbrev pub commit_reason : List Entry → CommitReason
commit_reason h = commit_by (all_vote h) (slice_get (durables h) 0)

-- the evidence, where it stands after this entry
abbrev pub evident : List Entry → Entry → Option CommitReason
evident past x = when (evidence (x ∷ past)) (commit_reason (x ∷ past))

-- the entry is a seal, an owner's answer, or what a record was logged or looked for by: without one there is no evidence
abbrev pub is_mark : Entry → Bool
is_mark Sealed = true
is_mark (OwnerAnswered e o) = true
is_mark Logged = true
is_mark (Restarted found) = true
is_mark _ = false
