-- Going through the pending steps, one place after the other.
use Rattle.std.proofs.Common.{◌≡◌, ℕ, ◌+◌, ◌<◌, Bool, true, false, List, length, drop, Option, Some, None, refl, ap, sym, subst, ◌∙◌, if◌then◌else◌}
use Rattle.dtx_values.specs.declared.call.Call.{Call}
use Rattle.dtx_values.specs.declared.note.Note.{Note}
use Rattle.dtx_values.specs.declared.number.EnlNo.{EnlNo}
use Rattle.dtx_model.specs.Words.{kth}
use Rattle.dtx_model.specs.World.{World}
use Rattle.dtx_model.specs.Steps.{StepName, pending}
use Rattle.script_calls.specs.SeenRow.{SeenRow}
use Rattle.tx_world.specs.State.{TxState}
use Rattle.turn_parts.proofs.Placing.{from_here, here}
use Rattle.tx_world.specs.Stepping.{reply_in}
use Rattle.tx_cells.specs.Cell.{Cell}
use Rattle.tx_cells.specs.Turns.{first_turn, turn_of, turn_or}
use Rattle.tx_cells.specs.declared.turns.Turn.{Turn}
use Rattle.tx_cells.specs.declared.turns.Turn.TheVariants.{Step, Ask}
use Rattle.turn_parts.specs.Marks.{is_out}

-- What is known at place k: the cell is seen so, the turn is the first one from here on, and this is the reply here.
pub record IsAtTurn (x : TxState) (rows : List (SeenRow Call)) (out : List (EnlNo × Note)) (seen : Cell) (k : ℕ) (o : Option (EnlNo × Note)) : Type 0 where
  pub view : record { tx = x; rows = rows; out = out } ≡ seen
  pub below : k < length (pending x.world)
  pub so_far : first_turn seen.tx.world seen.out (k + 1) (drop k (pending seen.tx.world)) ≡ turn_of seen
  pub reply : o ≡ reply_in x.world (kth (pending x.world) (k + 1))

turn_step : (w : World) (out : List (EnlNo × Note)) (ms : List StepName) (k : ℕ) → k < length ms
    → first_turn w out (k + 1) (drop k ms) ≡ turn_or out (k + 1) (reply_in w (kth ms (k + 1))) (first_turn w out (k + 1 + 1) (drop (k + 1) ms))
turn_step w out ms k h =
    ap (first_turn w out (k + 1)) (from_here ms k h)
    ∙ ap (λ (o : Option StepName). turn_or out (k + 1) (reply_in w o) (first_turn w out (k + 1 + 1) (drop (k + 1) ms))) (sym (here ms k h))

turn_here : (x : TxState) (rows : List (SeenRow Call)) (out : List (EnlNo × Note)) (seen : Cell) (k : ℕ) (o : Option (EnlNo × Note)) → IsAtTurn x rows out seen k o
    → turn_or out (k + 1) o (first_turn x.world out (k + 1 + 1) (drop (k + 1) (pending x.world))) ≡ turn_of seen
turn_here x rows out seen k o t =
    let c : Cell = record { tx = x; rows = rows; out = out } in
    let so_far : first_turn x.world out (k + 1) (drop k (pending x.world)) ≡ turn_of c =
    subst (λ (z : Cell). first_turn z.tx.world z.out (k + 1) (drop k (pending z.tx.world)) ≡ turn_of z) (sym t.view) t.so_far in
    ap (λ (p : Option (EnlNo × Note)). turn_or out (k + 1) p (first_turn x.world out (k + 1 + 1) (drop (k + 1) (pending x.world)))) t.reply
    ∙ (sym (turn_step x.world out (pending x.world) k t.below) ∙ (so_far ∙ ap turn_of t.view))

pub turn_step_there : (x : TxState) (rows : List (SeenRow Call)) (out : List (EnlNo × Note)) (seen : Cell) (k : ℕ) (o : Option (EnlNo × Note)) → IsAtTurn x rows out seen k o → o ≡ None → Step (k + 1) ≡ turn_of seen
turn_step_there x rows out seen k o t e =
    ap (λ (p : Option (EnlNo × Note)). turn_or out (k + 1) p (first_turn x.world out (k + 1 + 1) (drop (k + 1) (pending x.world)))) (sym e) ∙ turn_here x rows out seen k o t

tested : (b : Bool) (r s : Turn) → b ≡ false → s ≡ (if b then r else s)
tested false r s e = refl
tested true r s e = absurd cc

passed : (b : Bool) (r s : Turn) → b ≡ true → r ≡ (if b then r else s)
passed true r s e = refl
passed false r s e = absurd cc

pub turn_ask : (x : TxState) (rows : List (SeenRow Call)) (out : List (EnlNo × Note)) (seen : Cell) (k : ℕ) (o : Option (EnlNo × Note)) (y : EnlNo × Note) → IsAtTurn x rows out seen k o → o ≡ Some y → is_out out y ≡ false
    → Ask y.0 y.1 ≡ turn_of seen
turn_ask x rows out seen k o y t e f =
    let rest = first_turn x.world out (k + 1 + 1) (drop (k + 1) (pending x.world)) in
    tested (is_out out y) rest (Ask y.0 y.1) f ∙ (ap (λ (p : Option (EnlNo × Note)). turn_or out (k + 1) p rest) (sym e) ∙ turn_here x rows out seen k o t)

pub turn_on : (x : TxState) (rows : List (SeenRow Call)) (out : List (EnlNo × Note)) (seen : Cell) (k : ℕ) (o : Option (EnlNo × Note)) (y : EnlNo × Note) → IsAtTurn x rows out seen k o → o ≡ Some y → is_out out y ≡ true
    → first_turn seen.tx.world seen.out (k + 1 + 1) (drop (k + 1) (pending seen.tx.world)) ≡ turn_of seen
turn_on x rows out seen k o y t e f =
    let rest = first_turn x.world out (k + 1 + 1) (drop (k + 1) (pending x.world)) in
    let on : rest ≡ turn_of seen = passed (is_out out y) rest (Ask y.0 y.1) f ∙ (ap (λ (p : Option (EnlNo × Note)). turn_or out (k + 1) p rest) (sym e) ∙ turn_here x rows out seen k o t) in
    subst (λ (z : Cell). first_turn z.tx.world z.out (k + 1 + 1) (drop (k + 1) (pending z.tx.world)) ≡ turn_of seen) t.view on
