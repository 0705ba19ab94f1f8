-- A reply that is pending leaves fewer steps that can come, whether it is the planned one or not.
use Rattle.std.proofs.Common.{◌≡◌, ◌<◌, Bool, true, refl, sym, subst}
use Rattle.dtx_values.specs.declared.note.Note.{Note}
use Rattle.dtx_values.specs.TxIds.{number_of}
use Rattle.dtx_values.specs.declared.note.Reply.{Reply}
use Rattle.dtx_values.specs.declared.number.EnlNo.{EnlNo}
use Rattle.dtx_model.specs.Replies.{fits}
use Rattle.dtx_model.specs.World.{World}
use Rattle.dtx_model.specs.Steps.{Replies, ReplyOf}
use Rattle.dtx_model.specs.Caused.{IsIn, IsOwnRun}
use Rattle.world_laws.specs.Left.{steps_left}
use Rattle.tx_world.specs.State.{TxState, turned}
use Rattle.tx_world.proofs.LeftSteps.{step_nearer}
use Rattle.tx_cells.proofs.Asked.{owed}
use Rattle.turn_parts.specs.Marks.{is_due}

pub reply_nearer : (up : Bool) (x y : TxState) (e : EnlNo) (n : Note) (r : Reply) → IsOwnRun (number_of x.transaction) x.world → is_due x.world (e, n) ≡ true → fits r n ≡ true
    → y.world ≡ turned up (number_of x.transaction) x.world (Replies e r) → steps_left y.world < steps_left x.world
reply_nearer up x y e n r run due fit is =
    let P : World → Type 0 = λ w. steps_left w < steps_left x.world in
    let there = owed x.world (e, n) due in
    subst P (sym is) (step_nearer (IsIn x.world.calls) up (number_of x.transaction) run.0 x.world (ReplyOf e) (Replies e r) there.place run.1 there.stands (r, n, there.due, fit, refl))
