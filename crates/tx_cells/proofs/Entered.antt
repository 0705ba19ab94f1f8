-- A cell after the next call of an actor was entered there.
use Rattle.std.proofs.Common.{◌≡◌, ◌≢◌, ℕ, Bool, true, false, List, Some, None, refl, ap, sym, subst, ◌∙◌}
use Rattle.dtx_values.specs.declared.call.Call.{Call}
use Rattle.dtx_values.specs.TxIds.{number_of}
use Rattle.dtx_values.specs.declared.entry.Answer.{Answer}
use Rattle.dtx_values.specs.declared.note.Note.{Note}
use Rattle.dtx_values.specs.declared.number.ActorNo.{ActorNo}
use Rattle.dtx_values.specs.declared.number.EnlNo.{EnlNo}
use Rattle.dtx_values.specs.declared.script.Line.{Line}
use Rattle.dtx_model.specs.World.{World, answer_at}
use Rattle.dtx_model.specs.Steps.{Step, Calls}
use Rattle.dtx_model.specs.Caused.{MayAnswer}
use Rattle.script_calls.proofs.Entered.{next_entered, next_given}
use Rattle.script_calls.specs.Rows.{further, next_in, row_at}
use Rattle.script_calls.specs.SeenRow.{SeenRow}
use Rattle.tx_world.specs.State.{TxState, may_enter, turned}
use Rattle.tx_world.specs.OwnCalls.{is_alone}
use Rattle.tx_cells.specs.Cell.{Cell, IsKept}
use Rattle.tx_cells.specs.Entering.{Enters, may_promote_at, next_of, put_off}
use Rattle.tx_cells.specs.declared.turns.Turned.TheVariants.{Did}
use Rattle.tx_cells.proofs.Kept.{alone_given, kept_call, may_answer, next_may, unput}

-- What a cell was before it: its fields, which are seen so, and the call of line n that is next in actor a's row.
pub record IsBefore (s : List Line) (k : ℕ) (honest : Bool) (x : TxState) (rows : List (SeenRow Call)) (out : List (EnlNo × Note)) (seen : Cell) (a : ActorNo) (n : ℕ) (c : Call) : Type 0 where
  pub view : record { tx = x; rows = rows; out = out } ≡ seen
  pub kept : IsKept s k honest x rows
  pub due : put_off seen.tx.world n (next_of a seen) ≡ None
  pub next : next_of a seen ≡ Some (record { line = n; call = c })

next_here : (s : List Line) (k : ℕ) (honest : Bool) (x : TxState) (rows : List (SeenRow Call)) (out : List (EnlNo × Note)) (seen : Cell) (a : ActorNo) (n : ℕ) (c : Call) → IsBefore s k honest x rows out seen a n c
    → next_in (row_at a rows) ≡ Some (record { line = n; call = c })
next_here s k honest x rows out seen a n c b = subst (λ (z : Cell). next_of a z ≡ Some (record { line = n; call = c })) (sym b.view) b.next

pub may_be_entered : (s : List Line) (k : ℕ) (honest : Bool) (x : TxState) (rows : List (SeenRow Call)) (out : List (EnlNo × Note)) (seen : Cell) (a : ActorNo) (n : ℕ) (c : Call) → IsBefore s k honest x rows out seen a n c → may_enter x.world n c ≡ true
may_be_entered s k honest x rows out seen a n c b = next_may s k honest x rows a n c b.kept (next_here s k honest x rows out seen a n c b)

pub needs_no_log : (s : List Line) (k : ℕ) (honest : Bool) (x : TxState) (rows : List (SeenRow Call)) (out : List (EnlNo × Note)) (seen : Cell) (a : ActorNo) (n : ℕ) (c : Call) → IsBefore s k honest x rows out seen a n c → may_promote_at s n ≡ false → is_alone c ≡ true
needs_no_log s k honest x rows out seen a n c b f =
    alone_given s (number_of x.transaction) n a c b.kept.script (next_given s (number_of x.transaction) rows x.world.calls a (record { line = n; call = c }) b.kept.in_order (next_here s k honest x rows out seen a n c b)) f

pub may_be_answered : (s : List Line) (k : ℕ) (honest : Bool) (x : TxState) (rows : List (SeenRow Call)) (out : List (EnlNo × Note)) (seen : Cell) (a : ActorNo) (n : ℕ) (c : Call) → IsBefore s k honest x rows out seen a n c
    → MayAnswer (number_of x.transaction) x.world c 0
may_be_answered s k honest x rows out seen a n c b =
    let given = next_given s (number_of x.transaction) rows x.world.calls a (record { line = n; call = c }) b.kept.in_order (next_here s k honest x rows out seen a n c b) in
    let due : put_off x.world n (Some (record { line = n; call = c })) ≡ None =
    subst (λ (w : World). put_off w n (Some (record { line = n; call = c })) ≡ None) (ap (λ (z : Cell). z.tx.world) (sym b.view)) (ap (put_off seen.tx.world n) (sym b.next) ∙ b.due) in
    may_answer s (number_of x.transaction) n a c (number_of x.transaction) x.world b.kept.script given (unput x.world n c due)

pub still_kept : (s : List Line) (k : ℕ) (honest : Bool) (x : TxState) (rows : List (SeenRow Call)) (out : List (EnlNo × Note)) (seen : Cell) (a : ActorNo) (n : ℕ) (c : Call) (up : Bool) (y : TxState) (qs : List (SeenRow Call)) → IsBefore s k honest x rows out seen a n c
    → y.transaction ≡ x.transaction → y.world ≡ turned up (number_of x.transaction) x.world (Calls n a c 0) → row_at a qs ≡ further (row_at a rows) → ((b : ActorNo) → b ≢ a → row_at b qs ≡ row_at b rows) → IsKept s k honest y qs
still_kept s k honest x rows out seen a n c up y qs b t w row others =
    let next = next_here s k honest x rows out seen a n c b in
    kept_call s k honest up x y rows qs n a c 0 (next_given s (number_of x.transaction) rows x.world.calls a (record { line = n; call = c }) b.kept.in_order next)
    (next_entered s (number_of x.transaction) rows qs x.world.calls a (record { line = n; call = c }) b.kept.in_order next row others) t w b.kept

pub enters_here : (does : Step → TxState → TxState → Type 0) (s : List Line) (k : ℕ) (honest : Bool) (x : TxState) (rows : List (SeenRow Call)) (out : List (EnlNo × Note)) (seen : Cell) (a : ActorNo) (n : ℕ) (c : Call) (y : TxState) (qs : List (SeenRow Call)) (r : Answer)
    → IsBefore s k honest x rows out seen a n c → r ≡ answer_at (number_of x.transaction) x.world c 0 → does (Calls n a c 0) x y → (y.ours ≡ x.ours) × (y.unsure ≡ x.unsure) → row_at a qs ≡ further (row_at a rows)
    → ((b : ActorNo) → b ≢ a → row_at b qs ≡ row_at b rows) → Enters does a n (Did r) seen (record { tx = y; rows = qs; out = out })
enters_here does s k honest x rows out seen a n c y qs r b answer done ours row others =
    subst (λ (z : Cell). Enters does a n (Did r) z (record { tx = y; rows = qs; out = out })) b.view (record {
      call = c;
      next = next_here s k honest x rows out seen a n c b;
      answered = ap Did answer;
      done = done;
      ours = ours.0;
      unsure = ours.1;
      row = row;
      others = others;
      out = refl;
    })
