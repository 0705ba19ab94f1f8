-- The k-th pending step of a transaction, and steps that come one after the other.
use Rattle.std.specs.Prelude.{ℕ, zero, suc, ◌≡◌, Bool, true, false, [], Option, Some, None}
use Rattle.dtx_values.specs.declared.note.Note.{Note}
use Rattle.dtx_values.specs.TxIds.{number_of}
use Rattle.dtx_values.specs.declared.note.Note.TheVariants.{Promote}
use Rattle.dtx_values.specs.declared.number.EnlNo.{EnlNo}
use Rattle.dtx_model.specs.Words.{kth}
use Rattle.dtx_model.specs.Plans.{plan_of, planned}
use Rattle.dtx_model.specs.Replies.{due_of, with_note}
use Rattle.dtx_model.specs.World.{World, core, half}
use Rattle.dtx_model.specs.Steps.{Step, Replies, Coordinates, StepName, ReplyOf, CoordinatorAct, pending}
use Rattle.dtx_model.specs.Caused.{IsNamed}
use Rattle.coordinator_log.specs.State.{LogState}
use Rattle.tx_world.specs.State.{TxState, life_after, turned}
use Rattle.tx_world.specs.AtLog.{Answered, id_of, kept_after, kept_of}

-- the enlistment and the note of a pending step that is a reply
abbrev pub reply_in : World → Option StepName → Option (EnlNo × Note)
reply_in w (Some (ReplyOf e)) = with_note e (due_of (half w).seen e.value)
reply_in w _ = None

abbrev pub is_to_promote : Option Note → Bool
is_to_promote (Some Promote) = true
is_to_promote _ = false

-- a pending step of this name needs the log: it is the coordinator's act, or a reply to promote
abbrev pub is_at_log : World → Option StepName → Bool
is_at_log w (Some CoordinatorAct) = true
is_at_log w (Some (ReplyOf e)) = is_to_promote (due_of (half w).seen e.value)
is_at_log w _ = false

abbrev pub needs_log : World → ℕ → Bool
needs_log w k = is_at_log w (kth (pending w) k)

-- a reply is the one that the enlistment's call plans
abbrev pub IsToPlan : World → Step → Type 0
IsToPlan w (Replies e r) = (n : Note) × (due_of (half w).seen e.value ≡ Some n) × (planned (plan_of w.calls e.value) n ≡ Some r)
IsToPlan w _ = Unit {0}

-- the coordinator's act goes by what the log answered
abbrev pub IsAnswered : {D : Type 0} → (D → ℕ) → TxState → LogState D → LogState D → Step → Type 0
IsAnswered faults old from to (Coordinates a) = Answered faults (core old.world) (id_of old) old.life from to a
IsAnswered faults old from to m = to ≡ from

-- what is kept of the log after a step: the coordinator's act makes it anew, by what the log answered, and no other step changes the record, or how sure it is
abbrev pub IsKeptAfter : TxState → TxState → Step → Type 0
IsKeptAfter old new (Coordinates a) = kept_of new ≡ kept_after (number_of old.transaction) (core old.world) a (kept_of old)
IsKeptAfter old new m = (new.ours ≡ old.ours) × (new.unsure ≡ old.unsure)

-- This step was done, where this says whether the log is up, and in which life.
pub record DoesAt (up : Bool) (log_life : ℕ) (m : Step) (old new : TxState) : Type 0 where
  pub transaction : new.transaction ≡ old.transaction
  pub world : new.world ≡ turned up (number_of old.transaction) old.world m
  pub life : new.life ≡ life_after log_life (number_of old.transaction) old.world m old.life
  pub kept : IsKeptAfter old new m

-- this step was done, while the log went from one state to the other
pub record Does {D : Type 0} (faults : D → ℕ) (m : Step) (old : TxState) (from : LogState D) (new : TxState) (to : LogState D) : Type 0 where
  pub transaction : new.transaction ≡ old.transaction
  pub world : new.world ≡ turned from.is_up (number_of old.transaction) old.world m
  pub life : new.life ≡ life_after from.life (number_of old.transaction) old.world m old.life
  pub answered : IsAnswered faults old from to m
  pub kept : IsKeptAfter old new m

-- the k-th step that is pending in a world was done so; a reply is the planned one
pub record DoesPending (does : Step → Type 0) (k : ℕ) (w : World) : Type 0 where
  pub name : StepName
  pub step : Step
  pub stands : kth (pending w) k ≡ Some name
  pub named : IsNamed w name step
  pub planned : IsToPlan w step
  pub done : does step

-- the k-th pending step was done, while the log went from one state to the other
abbrev pub DoesKth : {D : Type 0} → (D → ℕ) → ℕ → TxState → LogState D → TxState → LogState D → Type 0
DoesKth faults k old from new to = DoesPending (λ m. Does faults m old from new to) k old.world

-- so many steps were done, each the k-th that was pending
abbrev pub Stepped : {D : Type 0} → (D → ℕ) → ℕ → ℕ → TxState → LogState D → TxState → LogState D → Type 0
Stepped faults k zero old from new to = (new ≡ old) × (to ≡ from)
Stepped {D} faults k (suc m) old from new to = (x : TxState) × (l : LogState D) × Stepped faults k m old from x l × DoesKth faults k x l new to

-- some steps were done, each the k-th that was pending, and nothing else
abbrev pub SomeSteps : {D : Type 0} → (D → ℕ) → ℕ → TxState → LogState D → TxState → LogState D → Type 0
SomeSteps faults k old from new to = (m : ℕ) × Stepped faults k m old from new to

-- the first pending step was done so many times, until none was left
pub record Settles {D : Type 0} (faults : D → ℕ) (count : ℕ) (old : TxState) (from : LogState D) (new : TxState) (to : LogState D) : Type 0 where
  pub stepped : Stepped faults 1 count old from new to
  pub settled : pending new.world ≡ []
