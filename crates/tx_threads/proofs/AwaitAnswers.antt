-- What an await is answered.
use Rattle.std.proofs.Common.{◌≡◌, arith, ℕ, zero, suc, Bool, true, false, List, Option, Some, None, slice_get, refl, ap, sym, subst, ◌∙◌, if◌then◌else◌, ◌==◌}
use Rattle.std.specs.Prelude.{◌&&◌, ◌||◌, not, is_some, IfOk, IsSome, Ok, Result}
use Rattle.std.proofs.lemmas.Bool.Decides.{nat_tests}
use Rattle.dtx_values.specs.declared.call.Call.{Call}
use Rattle.dtx_values.specs.TxIds.{number_of}
use Rattle.dtx_values.specs.declared.call.Call.TheVariants.{Await}
use Rattle.dtx_values.specs.declared.entry.Answer.{Answer}
use Rattle.dtx_values.specs.declared.entry.Answer.TheVariants.{OutcomeIs, StillOpen}
use Rattle.dtx_values.specs.declared.number.ActorNo.{ActorNo}
use Rattle.dtx_values.specs.declared.number.TxNo.{TxNo}
use Rattle.dtx_values.specs.declared.script.Body.{Body}
use Rattle.dtx_values.specs.declared.script.Body.TheVariants.{Await as AwaitLine}
use Rattle.dtx_values.specs.declared.script.Line.{Line}
use Rattle.dtx_values.specs.declared.words.Outcome.{Outcome}
use Rattle.dtx_model.specs.Answers.{await_answer, if_begun, local_answer}
use Rattle.dtx_model.specs.Calls.{call_of}
use Rattle.dtx_model.specs.Caused.{IsCallOf}
use Rattle.dtx_values.specs.declared.scope.OpenScope.{OpenScope}
use Rattle.dtx_model.specs.Contexts.{lines_before, scope_calls, scopes_of}
use Rattle.dtx_model.specs.Entries.{client_told_of}
use Rattle.dtx_model.specs.Observed.{observe}
use Rattle.dtx_model.specs.Outcome.{is_empty}
use Rattle.dtx_model.specs.Steps.{pending}
use Rattle.dtx_model.specs.Words.{latest, put}
use Rattle.dtx_model.specs.World.{World, answer_at, half}
use Rattle.history_table.proofs.Tests.{eq_self}
use Rattle.script_calls.specs.declared.rows.Due.{Due}
use Rattle.tx_cells.specs.Cell.{Cell}
use Rattle.tx_cells.specs.Entering.{Enters, IsDone, MayTurn, later_if, must_wait, next_of, put_off}
use Rattle.tx_cells.specs.declared.error.TurnError.{TurnError}
use Rattle.tx_cells.specs.declared.turns.Turned.{Turned}
use Rattle.tx_cells.specs.declared.turns.Turned.TheVariants.{Did, Later, NotNext}
use Rattle.tx_threads.specs.Turning.{is_await, is_await_at, is_await_line, is_of_line, is_quiet}

-- the call of an item, where there is one
call_in : TxNo → Option (TxNo × Call) → Call
call_in u (Some x) = x.1
call_in u None = Await u

-- an await gives its transaction an await, and nothing else
await_given : (s : List Line) (b : Body) (xs : List OpenScope) (place : ℕ) (t : TxNo) (c : Call) → is_await_line b ≡ true → slice_get (put (call_of s b) (scope_calls b xs)) place ≡ Some (t, c) → (u : TxNo) × (c ≡ Await u)
unfolding call_in
await_given s (AwaitLine u) xs zero t c q e = (u, ap (call_in u) (sym e))
await_given s (AwaitLine u) xs (suc k) t c q e = absurd cc
await_given s b xs place t c q e = absurd cc

pub await_call : (s : List Line) (t n : ℕ) (a : ActorNo) (c : Call) → is_await_at s n ≡ true → IsCallOf s t n a c → (u : TxNo) × (c ≡ Await u)
await_call s t n a c q g = await_given s g.line.body (scopes_of g.line.actor.value (lines_before s n)) g.place g.name c (ap is_await (sym g.stands) ∙ q) g.gives

-- what the client was told, by the answer
outcome_told : (t : ℕ) (w : World) (u : TxNo) (o : Outcome) → answer_at t w (Await u) 0 ≡ OutcomeIs o → IsSome (latest client_told_of w.past)
unfolding answer_at local_answer observe
outcome_told t w u o e = by (half w).seen.limit (latest client_told_of w.past) e
  where
    by : (l : Option ℕ) (x : Option Outcome) → if_begun l (await_answer x) ≡ OutcomeIs o → IsSome x
    by None x e = absurd cc
    by (Some l) None e = absurd cc
    by (Some l) (Some y) e = refl

open_untold : (t : ℕ) (w : World) (u : TxNo) → answer_at t w (Await u) 0 ≡ StillOpen → latest client_told_of w.past ≡ None
unfolding answer_at local_answer observe
open_untold t w u e = by (half w).seen.limit (latest client_told_of w.past) e
  where
    by : (l : Option ℕ) (x : Option Outcome) → if_begun l (await_answer x) ≡ StillOpen → x ≡ None
    by None x e = absurd cc
    by (Some l) None e = refl
    by (Some l) (Some y) e = absurd cc

-- the call that is put off isn't answered
never_did : (w : World) (n : ℕ) (d : Option (Due Call)) (x : Answer) → put_off w n d ≡ Some (Did x) → ⊥
never_did w n None x e = absurd cc
never_did w n (Some d) x e = by (d.line == n) (must_wait w d.call) e
  where
    by : (b c : Bool) → (if b then later_if c else Some (NotNext d.line)) ≡ Some (Did x) → ⊥
    by true true e = absurd cc
    by true false e = absurd cc
    by false c e = absurd cc

-- what is answered was entered
pub was_entered : (a : ActorNo) (n : ℕ) (x : Answer) (r : Result Turned TurnError) (old new : Cell) → (put_off old.tx.world n (next_of a old) ≡ None → IfOk r (λ q. Enters IsDone a n q old new))
    → ((y : Turned) → put_off old.tx.world n (next_of a old) ≡ Some y → IfOk r (λ q. (q ≡ y) × (new ≡ old))) → r ≡ Ok (Did x) → Enters IsDone a n (Did x) old new
was_entered a n x r old new entered off e = by (put_off old.tx.world n (next_of a old)) refl
  where
    by : (p : Option Turned) → put_off old.tx.world n (next_of a old) ≡ p → Enters IsDone a n (Did x) old new
    by None p = subst (λ (z : Result Turned TurnError). IfOk z (λ q. Enters IsDone a n q old new)) e (entered p)
    by (Some y) p =
        absurd (never_did old.tx.world n (next_of a old) x (p ∙ ap Some (sym (subst (λ (z : Result Turned TurnError). IfOk z (λ q. (q ≡ y) × (new ≡ old))) e (off y p)).0)))

-- the answer of the await of this line
answered : (s : List Line) (a : ActorNo) (n : ℕ) (x : Answer) (old new : Cell) → is_await_at s n ≡ true → ((d : Due Call) → next_of a old ≡ Some d → IsCallOf s (number_of old.tx.transaction) d.line a d.call) → Enters IsDone a n (Did x) old new
    → (u : TxNo) × (answer_at (number_of old.tx.transaction) old.tx.world (Await u) 0 ≡ x)
answered s a n x old new q ours e =
    let c = await_call s (number_of old.tx.transaction) n a e.call q (ours (record { line = n; call = e.call }) e.next) in
    (c.0, ap (λ d. answer_at (number_of old.tx.transaction) old.tx.world d 0) (sym c.1) ∙ sym (same x _ e.answered))
  where
    same : (y z : Answer) → Did y ≡ Did z → y ≡ z
    same y z e = cc

pub entered_told : (s : List Line) (a : ActorNo) (n : ℕ) (o : Outcome) (old new : Cell) → is_await_at s n ≡ true → ((d : Due Call) → next_of a old ≡ Some d → IsCallOf s (number_of old.tx.transaction) d.line a d.call)
    → Enters IsDone a n (Did (OutcomeIs o)) old new → IsSome (latest client_told_of old.tx.world.past)
entered_told s a n o old new q ours e = let r = answered s a n (OutcomeIs o) old new q ours e in outcome_told (number_of old.tx.transaction) old.tx.world r.0 o r.1

pub entered_open : (s : List Line) (a : ActorNo) (n : ℕ) (old new : Cell) → is_await_at s n ≡ true → ((d : Due Call) → next_of a old ≡ Some d → IsCallOf s (number_of old.tx.transaction) d.line a d.call)
    → Enters IsDone a n (Did StillOpen) old new → latest client_told_of old.tx.world.past ≡ None
entered_open s a n old new q ours e = let r = answered s a n StillOpen old new q ours e in open_untold (number_of old.tx.transaction) old.tx.world r.0 r.1

-- a call that waits
pub was_later : (a : ActorNo) (n : ℕ) (r : Result Turned TurnError) (old new : Cell) → (put_off old.tx.world n (next_of a old) ≡ None → IfOk r (λ q. Enters IsDone a n q old new))
    → ((y : Turned) → put_off old.tx.world n (next_of a old) ≡ Some y → IfOk r (λ q. (q ≡ y) × (new ≡ old))) → r ≡ Ok Later → (put_off old.tx.world n (next_of a old) ≡ Some Later) × (new ≡ old)
was_later a n r old new entered off e = by (put_off old.tx.world n (next_of a old)) refl
  where
    by : (p : Option Turned) → put_off old.tx.world n (next_of a old) ≡ p → (put_off old.tx.world n (next_of a old) ≡ Some Later) × (new ≡ old)
    by None p = let x = subst (λ (z : Result Turned TurnError). IfOk z (λ q. Enters IsDone a n q old new)) e (entered p) in absurd (never x.answered)
      where
        never : {y : Answer} → Later ≡ Did y → ⊥
        never e = absurd cc
    by (Some y) p = let x = subst (λ (z : Result Turned TurnError). IfOk z (λ q. (q ≡ y) × (new ≡ old))) e (off y p) in (p ∙ ap Some (sym x.0), x.1)

goes : (w : World) (out : Bool) (c : Call) → must_wait w c ≡ true → (latest client_told_of w.past ≡ None) × ((is_empty (pending w) && out) ≡ false)
unfolding observe
goes w out (Await u) e = by (latest client_told_of w.past) (is_empty (pending w)) e
  where
    by : (x : Option Outcome) (b : Bool) → not (is_some x || b) ≡ true → (x ≡ None) × ((b && out) ≡ false)
    by None false e = (refl, refl)
    by None true e = absurd cc
    by (Some y) b e = absurd cc
goes w out c e = absurd cc

pub later_goes : (c : Cell) (n : ℕ) (d : Option (Due Call)) → put_off c.tx.world n d ≡ Some Later → (latest client_told_of c.tx.world.past ≡ None) × (is_quiet c ≡ false)
later_goes c n None e = absurd cc
later_goes c n (Some d) e = goes c.tx.world (is_empty c.out) d.call (by (d.line == n) (must_wait c.tx.world d.call) e)
  where
    by : (b w : Bool) → (if b then later_if w else Some (NotNext d.line)) ≡ Some Later → w ≡ true
    by true true e = refl
    by true false e = absurd cc
    by false w e = absurd cc

-- a transaction that doesn't go on, whose client wasn't told
pub still_quiet : (told : Option Outcome) (q : Bool) → told ≡ None → (not (is_some told) && not q) ≡ false → q ≡ true
still_quiet None true e f = refl
still_quiet None false e f = absurd cc
still_quiet (Some x) q e f = absurd cc

-- the call that was entered was that of the line
pub of_line : (n : ℕ) (d : Option (Due Call)) (c : Call) → d ≡ Some (record { line = n; call = c }) → is_of_line n d ≡ true
of_line n d c e = ap (is_of_line n) e ∙ eq_self n

same_line : (m n : ℕ) → (m == n) ≡ true → m ≡ n
same_line m n e = grind (arith, nat_tests)

-- the await of this line, where it is the actor's next call
pub later_called : (s : List Line) (t n : ℕ) (a : ActorNo) (d : Option (Due Call)) → is_await_at s n ≡ true → is_of_line n d ≡ true → ((x : Due Call) → d ≡ Some x → IsCallOf s t x.line a x.call) → MayTurn s t a n Later
later_called s t n a None q of ours = absurd cc
later_called s t n a (Some x) q of ours =
    let here : IsCallOf s t n a x.call = subst (λ m. IsCallOf s t m a x.call) (same_line x.line n of) (ours x refl) in
    let c = await_call s t n a x.call q here in
    (c.0, subst (IsCallOf s t n a) c.1 here)
