-- What is at a place of the pending steps.
use Rattle.std.specs.Prelude.{ℕ, ◌+◌, ◌≡◌, List, [], ◌∷◌, length, Option, Some, None, slice_get, Bool, true, false, ◌||◌, if◌then◌else◌}
use Rattle.dtx_values.specs.declared.note.Note.{Note}
use Rattle.dtx_values.specs.declared.note.Plan.{Plan}
use Rattle.dtx_values.specs.declared.note.Reply.{Reply}
use Rattle.dtx_values.specs.declared.number.EnlNo.{EnlNo}
use Rattle.dtx_model.specs.Observed.{Observed}
use Rattle.dtx_model.specs.Outcome.{is_empty}
use Rattle.dtx_model.specs.Acts.{act_entries}
use Rattle.dtx_model.specs.Coordinated.{may_free, may_log}
use Rattle.dtx_model.specs.Plans.{plan_of, planned}
use Rattle.dtx_model.specs.World.{World, half, core, has_left}
use Rattle.dtx_model.specs.Replies.{due_of}
use Rattle.dtx_model.specs.Steps.{Step, Replies, Acts, Coordinates, Delivers, Done, StepName, ReplyOf, LocalAct, CoordinatorAct, Delivery}
use Rattle.world_parts.specs.declared.pending.PendingStep.{PendingStep}
use Rattle.world_parts.specs.declared.pending.PendingStep.TheVariants.{Reply as PendingReply, Act, Coordinate, Deliver}
use Rattle.world_parts.specs.declared.pending.At.{At}
use Rattle.world_parts.specs.declared.pending.At.TheVariants.{Step as StepHere, Beyond}

-- its name
abbrev pub name_of : PendingStep → StepName
name_of (PendingReply e n r) = ReplyOf e
name_of Act = LocalAct
name_of Coordinate = CoordinatorAct
name_of (Deliver c d) = Delivery c d

-- it is the local act or a delivery
abbrev pub is_alone_step : PendingStep → Bool
is_alone_step Act = true
is_alone_step (Deliver c d) = true
is_alone_step _ = false

-- the step that it is; the log answers the coordinator's act, here that it is done
abbrev pub step_of : PendingStep → Step
step_of (PendingReply e n r) = Replies e r
step_of Act = Acts
step_of Coordinate = Coordinates Done
step_of (Deliver c d) = Delivers c d

-- its name alone, where it is pending
abbrev pub step_if : Bool → PendingStep → List StepName
step_if b s = if b then name_of s ∷ [] else []

-- this step is at the place k, from 0, or the list ends so many places before it
abbrev pub IsAt : List StepName → ℕ → At → Type 0
IsAt ms k (StepHere s) = slice_get ms k ≡ Some (name_of s)
IsAt ms k (Beyond n) = k ≡ length ms + n

-- where it is a reply, it is due to this note, and the plan has it
abbrev pub IsPlanned : (ℕ → Plan) → Observed → PendingStep → Type 0
IsPlanned p o (PendingReply e n r) = (due_of o e.value ≡ Some n) × (planned (p e.value) n ≡ Some r)
IsPlanned p o s = Unit {0}

abbrev pub IsPlannedAt : (ℕ → Plan) → Observed → At → Type 0
IsPlannedAt p o (StepHere s) = IsPlanned p o s
IsPlannedAt p o (Beyond n) = Unit {0}

abbrev pub IsReply : PendingStep → Type 0
IsReply (PendingReply e n r) = Unit {0}
IsReply s = ⊥

-- it may be done: the reply is due, and planned; there is an act; or something is left
abbrev pub IsDueIn : World → PendingStep → Type 0
IsDueIn w (PendingReply e n r) = (due_of (half w).seen e.value ≡ Some n) × (planned (plan_of w.calls e.value) n ≡ Some r)
IsDueIn w Act = is_empty (act_entries (half w)) ≡ false
IsDueIn w Coordinate = (may_log (core w) || may_free (core w)) ≡ true
IsDueIn w (Deliver c d) = has_left c d w.past ≡ true

abbrev pub IsDueAt : World → At → Type 0
IsDueAt w (StepHere s) = IsDueIn w s
IsDueAt w (Beyond n) = Unit {0}

-- the reply that a plan has to what is due
abbrev pub planned_to : Plan → Option Note → Option Reply
planned_to p (Some n) = planned p n
planned_to p None = None

-- the step of an enlistment that has a reply
abbrev pub reply_if : EnlNo → Option Reply → List StepName
reply_if e (Some r) = ReplyOf e ∷ []
reply_if e None = []

-- the step of an enlistment, where a reply of it is due and planned
abbrev pub reply_step : (ℕ → Plan) → Observed → EnlNo → List StepName
reply_step p o e = reply_if e (planned_to (p e.value) (due_of o e.value))
