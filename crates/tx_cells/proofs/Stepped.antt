-- What a cell keeps after a pending step: a reply that its own calls plan is the one that the script plans.
use Rattle.std.proofs.Common.{◌≡◌, ℕ, Bool, true, false, List, Option, Some, inl, inr, refl, ap, sym, ◌∙◌, is_some}
use Rattle.std.specs.Prelude.{IsTrue, Result, Ok}
use Rattle.dtx_values.specs.declared.call.Call.{Call}
use Rattle.dtx_values.specs.TxIds.{number_of}
use Rattle.dtx_values.specs.declared.note.Note.{Note}
use Rattle.dtx_values.specs.declared.note.Note.TheVariants.{Promote}
use Rattle.dtx_values.specs.declared.note.Reply.{Reply}
use Rattle.dtx_values.specs.declared.number.EnlNo.{EnlNo}
use Rattle.dtx_values.specs.declared.script.Line.{Line}
use Rattle.dtx_model.specs.Plans.{plan_of, planned as reply_planned}
use Rattle.dtx_model.specs.Replies.{due_of, fits}
use Rattle.dtx_model.specs.World.{World, half}
use Rattle.dtx_model.specs.Steps.{Step, Replies, StepName, ReplyOf, LocalAct, CoordinatorAct, Delivery}
use Rattle.dtx_model.specs.Caused.{IsNamed, IsOwnRun, has_object, plans_of}
use Rattle.script_histories.proofs.ReplayRuns.{named_no_call, no_call_entered}
use Rattle.script_calls.specs.SeenRow.{SeenRow}
use Rattle.coordinator_log.specs.Slots.{open_records}
use Rattle.coordinator_log.specs.State.{LogState}
use Rattle.local_half.specs.Half.{fits_due}
use Rattle.tx_world.specs.State.{TxState, turned}
use Rattle.tx_world.specs.OwnCalls.{DoesKthAlone}
use Rattle.tx_world.proofs.StillTied.{named_elsewhere}
use Rattle.tx_world.specs.Stepping.{DoesKth, IsToPlan, is_at_log, is_to_promote, needs_log}
use Rattle.tx_cells.specs.Cell.{IsKept, MayReply}
use Rattle.tx_cells.proofs.Asked.{IsOwed}
use Rattle.tx_cells.specs.LogCell.{AreOwn}
use Rattle.tx_cells.proofs.Kept.{kept_step, turned_silent}
use Rattle.tx_cells.proofs.NeverFull.{finds_full, never_full}
use Rattle.script_calls.proofs.PlannedReplies.{planned_here}
use Rattle.script_calls.proofs.RightReplies.{IsReplyRight, free_to, reply_to}
use Rattle.turn_parts.specs.Marks.{same_note}

-- What an enlistment plans to a note to which a reply of it is due is the same by the cell's calls as by the script.
planned_kept : (s : List Line) (k : ℕ) (honest : Bool) (x : TxState) (rows : List (SeenRow Call)) (e : ℕ) (n : Note) → IsKept s k honest x rows → IsOwnRun (number_of x.transaction) x.world → due_of (half x.world).seen e ≡ Some n
    → reply_planned (plan_of x.world.calls e) n ≡ reply_planned (plans_of s e) n
planned_kept s k honest x rows e n kept own due = planned_here s (number_of x.transaction) x.world e n kept.script.script.named kept.given own due

to_plan : (s : List Line) (k : ℕ) (honest : Bool) (x : TxState) (rows : List (SeenRow Call)) (m : Step) → IsKept s k honest x rows → IsOwnRun (number_of x.transaction) x.world → IsToPlan x.world m → IsReplyRight (plans_of s) (has_object s k) m
to_plan s k honest x rows (Replies e r) kept own (n, due, plan) = reply_to (plans_of s) (has_object s k) e n r (sym (planned_kept s k honest x rows e.value n kept own due) ∙ plan)
to_plan s k honest x rows m kept own q = tt

-- A pending step that needs no log doesn't find it full.
alone_room : (w : World) (n : StepName) (m : Step) → IsNamed w n m → is_at_log w (Some n) ≡ false → finds_full m ≡ false
alone_room w (ReplyOf e) m i alone = ap (λ (x : Step). finds_full x) i.4
alone_room w LocalAct m i alone = ap (λ (x : Step). finds_full x) i
alone_room w CoordinatorAct m i alone = absurd cc
alone_room w (Delivery c d) m i alone = ap (λ (x : Step). finds_full x) i

-- So the cell keeps what it kept, after a pending step without the log, and after one with it, where that has only records of the run.
pub kept_alone : (s : List Line) (k : ℕ) (honest : Bool) (x y : TxState) (rows : List (SeenRow Call)) (place : ℕ) → IsKept s k honest x rows → IsOwnRun (number_of x.transaction) x.world → needs_log x.world place ≡ false → DoesKthAlone place x y → IsKept s k honest y rows
kept_alone s k honest x y rows place kept own alone d =
    kept_step s k honest true x y rows d.step (no_call_entered x.world.calls d.step (named_no_call x.world d.name d.step d.named)) (to_plan s k honest x rows d.step kept own d.planned)
    (λ _. alone_room x.world d.name d.step d.named (ap (λ (o : Option StepName). is_at_log x.world o) (sym d.stands) ∙ alone)) (named_elsewhere x.world d.name d.step d.named) d.done.transaction
    (d.done.world ∙ turned_silent (number_of x.transaction) x.world d.step) kept

pub kept_over : {D : Type 0} (faults : D → ℕ) (from to : LogState D) (s : List Line) (k : ℕ) (honest : Bool) (x y : TxState) (rows : List (SeenRow Call)) (place : ℕ) → IsKept s k honest x rows → IsOwnRun (number_of x.transaction) x.world
    → (IsTrue honest → IsTrue from.is_up → AreOwn s (open_records from.slots)) → DoesKth faults place x from y to → IsKept s k honest y rows
kept_over faults from to s k honest x y rows place kept own run_only d =
    kept_step s k honest from.is_up x y rows d.step (no_call_entered x.world.calls d.step (named_no_call x.world d.name d.step d.named)) (to_plan s k honest x rows d.step kept own d.planned)
    (λ is. never_full faults s x from to d.step d.done.answered (run_only is)) (named_elsewhere x.world d.name d.step d.named) d.done.transaction d.done.world kept

-- A reply that may come is right: it is planned, or free; where it is owed.
reply_right : (s : List Line) (k : ℕ) (honest : Bool) (x : TxState) (rows : List (SeenRow Call)) (e : EnlNo) (n : Note) (r : Reply) → IsKept s k honest x rows → IsOwnRun (number_of x.transaction) x.world → IsOwed x.world e n → MayReply s k e n r
    → IsReplyRight (plans_of s) (has_object s k) (Replies e r)
reply_right s k honest x rows e n r kept own owed may = elim may.right [
  | inl free ↦
      let unsilent : is_some (reply_planned (plans_of s e.value) n) ≡ true = ap is_some (sym (planned_kept s k honest x rows e.value n kept own owed.due)) ∙ owed.unsilent in
      free_to (plans_of s) (has_object s k) e n r free may.fitting unsilent
  | inr plan ↦ reply_to (plans_of s) (has_object s k) e n r plan
]

pub kept_reply : (s : List Line) (k : ℕ) (honest up : Bool) (x y : TxState) (rows : List (SeenRow Call)) (e : EnlNo) (n : Note) (r : Reply) → IsKept s k honest x rows → IsOwnRun (number_of x.transaction) x.world → IsOwed x.world e n → MayReply s k e n r
    → y.transaction ≡ x.transaction → y.world ≡ turned up (number_of x.transaction) x.world (Replies e r) → IsKept s k honest y rows
kept_reply s k honest up x y rows e n r kept own owed may t w = kept_step s k honest up x y rows (Replies e r) refl (reply_right s k honest x rows e n r kept own owed may) (λ _. refl) refl t w kept

-- What a reply that is owed needs of the note.
pub fits_owed : (w : World) (e : EnlNo) (n : Note) (r : Reply) → IsOwed w e n → fits r n ≡ true → fits_due r (due_of (half w).seen e.value) ≡ true
fits_owed w e n r owed fit = ap (fits_due r) owed.due ∙ fit

not_to_promote : (n : Note) → same_note n Promote ≡ false → is_to_promote (Some n) ≡ false
not_to_promote Promote k = absurd cc
not_to_promote n k = refl

pub alone_owed : (w : World) (e : EnlNo) (n : Note) → IsOwed w e n → same_note n Promote ≡ false → is_to_promote (due_of (half w).seen e.value) ≡ false
alone_owed w e n owed k = ap is_to_promote owed.due ∙ not_to_promote n k

-- It was done.
pub reply_done : {E : Type 0} (w : World) (e : EnlNo) (n : Note) (b : Bool) (result : Result Bool E) → IsOwed w e n → result ≡ Ok b → b ≡ is_some (due_of (half w).seen e.value) → result ≡ Ok true
reply_done w e n b result owed is due = is ∙ ap Ok (due ∙ ap is_some owed.due)
