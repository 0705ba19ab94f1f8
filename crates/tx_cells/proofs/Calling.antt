-- What may come of a call that is to be entered, by the script alone.
use Rattle.std.proofs.Common.{◌≡◌, ◌==◌, ℕ, Bool, true, false, List, Option, Some, None, inl, inr, refl, sym, subst, ◌∙◌, eq-eqb, if◌then◌else◌}
use Rattle.std.specs.Prelude.{Err, IfOk, Ok, Result}
use Rattle.std.proofs.lemmas.Bool.{eqb-true}
use Rattle.dtx_values.specs.declared.call.Call.{Call}
use Rattle.dtx_values.specs.TxIds.{number_of}
use Rattle.dtx_values.specs.declared.call.Call.TheVariants.{Await}
use Rattle.dtx_values.specs.declared.entry.Answer.{Answer}
use Rattle.dtx_values.specs.declared.entry.Answer.TheVariants.{Fine}
use Rattle.dtx_values.specs.declared.entry.Entry.{Entry}
use Rattle.dtx_values.specs.declared.number.ActorNo.{ActorNo}
use Rattle.dtx_values.specs.declared.script.Body.{Body}
use Rattle.dtx_values.specs.declared.script.Body.TheVariants.{Restart as RestartLine, Stop as StopLine}
use Rattle.dtx_values.specs.declared.script.Line.{Line}
use Rattle.dtx_model.specs.AtLog.{is_log_line}
use Rattle.dtx_model.specs.Caused.{IsCallOf}
use Rattle.dtx_model.specs.Steps.{Step}
use Rattle.dtx_values.proofs.SameNumbers.{same_actor}
use Rattle.script_calls.proofs.AtLog.{next_log_given}
use Rattle.script_calls.proofs.Entered.{next_given}
use Rattle.script_calls.specs.Due.{log_call}
use Rattle.script_calls.specs.Prefix.{IsLogPrefix}
use Rattle.script_calls.specs.Rows.{next_in, row_at}
use Rattle.script_calls.specs.SeenRow.{SeenRow}
use Rattle.script_calls.specs.declared.calls.LogCall.{LogCall}
use Rattle.script_calls.specs.declared.calls.LogCall.TheVariants.{Restart, Stop}
use Rattle.script_calls.specs.declared.rows.Due.{Due}
use Rattle.tx_world.specs.State.{TxState}
use Rattle.tx_cells.specs.Cell.{Cell, IsKept}
use Rattle.tx_cells.specs.Entering.{Enters, MayTurn, later_if, must_wait, next_of, put_off}
use Rattle.tx_cells.specs.LogCell.{LogCell}
use Rattle.tx_cells.specs.LogEntering.{EntersLog, IsDoneAtLog, IsLogLine, MayTurnAtLog}
use Rattle.tx_cells.specs.declared.turns.Turned.{Turned}
use Rattle.tx_cells.specs.declared.turns.Turned.TheVariants.{Did, Later, NotNext}
use Rattle.turn_parts.specs.Reopening.{restart_answer}

-- What is said to a line instead of entering its call may be said,
put_off_may : (s : List Line) (k : ℕ) (honest : Bool) (x : TxState) (rows : List (SeenRow Call)) (a : ActorNo) (n : ℕ) (r : Turned) → IsKept s k honest x rows → put_off x.world n (next_in (row_at a rows)) ≡ Some r
    → MayTurn s (number_of x.transaction) a n r
put_off_may s k honest x rows a n r kept off = by (next_in (row_at a rows)) refl off
  where
    waits : (c : Call) → must_wait x.world c ≡ true → IsCallOf s (number_of x.transaction) n a c → MayTurn s (number_of x.transaction) a n Later
    waits (Await u) w given = (u, given)
    waits c w given = absurd cc

    given : (d : Due Call) → next_in (row_at a rows) ≡ Some d → IsCallOf s (number_of x.transaction) d.line a d.call
    given d e = next_given s (number_of x.transaction) rows x.world.calls a d kept.in_order e

    here : (d : Due Call) → next_in (row_at a rows) ≡ Some d → (b : Bool) → (d.line == n) ≡ b → (q : Bool) → must_wait x.world d.call ≡ q → (if b then later_if q else Some (NotNext d.line)) ≡ Some r → MayTurn s (number_of x.transaction) a n r
    here d e true line true w off =
        let is : Later ≡ r = cc in
        subst (λ (y : Turned). MayTurn s (number_of x.transaction) a n y) is (waits d.call w (subst (λ (m : ℕ). IsCallOf s (number_of x.transaction) m a d.call) (eqb-true d.line n line) (given d e)))
    here d e true line false w off = absurd cc
    here d e false line q w off =
        let is : NotNext d.line ≡ r = cc in
        subst (λ (y : Turned). MayTurn s (number_of x.transaction) a n y) is (inr (λ (same : d.line ≡ n). let clash : true ≡ false = sym (eq-eqb d.line n same) ∙ line in cc, d.call, given d e))

    by : (o : Option (Due Call)) → next_in (row_at a rows) ≡ o → put_off x.world n o ≡ Some r → MayTurn s (number_of x.transaction) a n r
    by None e off = let is : NotNext 0 ≡ r = cc in subst (λ (y : Turned). MayTurn s (number_of x.transaction) a n y) is (inl refl)
    by (Some d) e off = here d e (d.line == n) refl (must_wait x.world d.call) refl off

-- and what is answered where it is entered.
pub called : {E : Type 0} (does : Step → TxState → TxState → Type 0) (s : List Line) (k : ℕ) (honest : Bool) (old new : Cell) (a : ActorNo) (n : ℕ) (result : Result Turned E) → IsKept s k honest old.tx old.rows
    → (put_off old.tx.world n (next_of a old) ≡ None → IfOk result (λ r. Enters does a n r old new)) → ((x : Turned) → put_off old.tx.world n (next_of a old) ≡ Some x → IfOk result (λ r. (r ≡ x) × (new ≡ old)))
    → IfOk result (MayTurn s (number_of old.tx.transaction) a n)
called does s k honest old new a n (Err e) kept entered off = tt
called does s k honest old new a n (Ok r) kept entered off = by (put_off old.tx.world n (next_of a old)) refl
  where
    by : (o : Option Turned) → put_off old.tx.world n (next_of a old) ≡ o → MayTurn s (number_of old.tx.transaction) a n r
    by None e =
        let d = entered e in
        subst (λ (y : Turned). MayTurn s (number_of old.tx.transaction) a n y) (sym d.answered)
        (d.call, next_given s (number_of old.tx.transaction) old.rows old.tx.world.calls a (record { line = n; call = d.call }) kept.in_order d.next)
    by (Some x) e = subst (λ (y : Turned). MayTurn s (number_of old.tx.transaction) a n y) (sym (off x e).0) (put_off_may s k honest old.tx old.rows a n x kept e)

-- At the log an actor's next call is that of a line of the actor, which stops the log or opens it again,
pub log_given : (s : List Line) (rows : List (SeenRow LogCall)) (h : List Entry) (a : ActorNo) (d : Due LogCall) → IsLogPrefix s rows h → next_in (row_at a rows) ≡ Some d → IsLogLine s a d.line
log_given s rows h a d order next =
    let due = next_log_given s rows h a d order next in
    (due.line, due.stands, same_actor due.line.actor a due.by_actor, by due.line.body due.gives)
  where
    by : (b : Body) → log_call b ≡ Some d.call → is_log_line b ≡ true
    by (StopLine k i) e = refl
    by RestartLine e = refl
    by b e = absurd cc

pub log_other : (s : List Line) (rows : List (SeenRow LogCall)) (h : List Entry) (a : ActorNo) (d : Due LogCall) (n : ℕ) → IsLogPrefix s rows h → next_in (row_at a rows) ≡ Some d → (d.line ≡ n → ⊥) → MayTurnAtLog s a n (NotNext d.line)
log_other s rows h a d n order next other = inr (other, log_given s rows h a d order next)

-- and so is one that was entered.
pub log_called : {D : Type 0} (faults : D → ℕ) (honest : Bool) (seen : D → List ℕ) (s : List Line) (a : ActorNo) (n : ℕ) (x : Turned) (old new : LogCell D) → IsLogPrefix s old.rows old.past → EntersLog faults honest seen a n x old new → MayTurnAtLog s a n x
log_called faults honest seen s a n x old new order e =
    let did = answered e.call e.done in
    subst (λ (y : Turned). MayTurnAtLog s a n y) (sym did.1) (log_given s old.rows old.past a (record { line = n; call = e.call }) order e.next)
  where
    answered : (c : LogCall) → IsDoneAtLog faults honest seen n a c x old new → (y : Answer) × (x ≡ Did y)
    answered (Stop k i) d = (Fine, d.0)
    answered Restart d = (restart_answer d.0, d.1)
