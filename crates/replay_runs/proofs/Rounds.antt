-- The steps of one transaction in a row, and the rounds at the end of a replay.
use Rattle.std.proofs.Common.{◌≡◌, ◌≢◌, ◌⊎◌, ℕ, suc, ◌+◌, ◌<◌, ◌≤◌, true, List, [], ◌∷◌, Some, None, refl, sym, subst, arith, inl, inr}
use Rattle.std.proofs.lemmas.Bool.Decides.{eqb_tells, nat_tests}
use Rattle.dtx_values.specs.declared.number.TxNo.{TxNo}
use Rattle.dtx_values.specs.declared.entry.Entry.{Entry}
use Rattle.dtx_values.specs.declared.script.Line.{Line}
use Rattle.dtx_model.specs.Words.{kth, past_of}
use Rattle.dtx_model.specs.Caused.{HasDone, HasStepped, Settled}
use Rattle.dtx_model.specs.World.{World}
use Rattle.dtx_model.specs.Traces.{Placed, history}
use Rattle.dtx_model.specs.Replay.{is_passed, HasDoneAt, IsReplayed, LinesRan, last_turn, world_at}
use Rattle.dtx_model.specs.Steps.{Step, pending}
use Rattle.replay_runs.specs.RunState.{Advances, AreSettledBelow, IsRoundAt, Settles, StepsDone}

-- one step more
pub steps-more : (s : List Line) (t : TxNo) (k m : ℕ) (start trace new : List Placed) → StepsDone s t k m start trace → Advances s t k trace new → StepsDone s t k (suc m) start new
steps-more s t k m start trace new ran a = (past_of trace, ran, a.name, a.step, a.stands, a.named, a.in_replay, a.done)

-- a `do`: so many steps were done, and fewer than it says only where no k-th was pending
pub done_some : (s : List Line) (t : TxNo) (k n m : ℕ) (start trace : List Placed) → m < n → StepsDone s t k m start trace → kth (pending (world_at s t (past_of trace))) k ≡ None
    → HasDoneAt s t k n m (past_of start) (past_of trace)
done_some s t k n m start trace less ran none = record { ran = ran; most = omega (arith, less); stopped = λ l. none }

pub done_all : (s : List Line) (t : TxNo) (k n m : ℕ) (start trace : List Placed) → m ≡ n → StepsDone s t k m start trace → HasDoneAt s t k n n (past_of start) (past_of trace)
done_all s t k n m start trace same ran = record { ran = subst (λ i. StepsDone s t k i start trace) same ran; most = omega arith; stopped = λ l. absurd (omega (arith, l)) }

-- and the same of the transaction's world
pub did_some : (t k n m : ℕ) (start w : World) → m < n → HasStepped t k m start w → kth (pending w) k ≡ None → HasDone t w k n m
did_some t k n m start w less ran none = record { before = start; stepped = ran; most = omega (arith, less); fewer = λ l. none }

pub did_all : (t k n m : ℕ) (start w : World) → m ≡ n → HasStepped t k m start w → HasDone t w k n n
did_all t k n m start w same ran = record { before = start; stepped = subst (λ i. HasStepped t k i start w) same ran; most = omega arith; fewer = λ l. absurd (omega (arith, l)) }

-- the first, and the others
pub others : {A : Type 0} (xs : List A) (x : A) → kth xs 1 ≡ Some x → (ys : List A) × (xs ≡ x ∷ ys)
others [] x e = absurd (cc)
others (y ∷ ys) x e = (ys, cc)

-- where nothing is left, the steps that were done settled t
pub settles-here : (s : List Line) (t : TxNo) (m : ℕ) (old new : List Placed) → StepsDone s t 1 m old new → Settled s (history t.value (past_of new)) → Settles s t old new
settles-here s t m old new ran none = record { count = m; settled = record { ran = ran; settled = none } }

-- Rounds. Nobody comes before the one whose turn it was.
none-passed : (t v : ℕ) → is_passed t t v ≡ true → ⊥
none-passed t v p = grind (arith, nat_tests)

-- a step of t at its turn leaves it its turn
pub turn-more : (s : List Line) (start : List Placed) (t : TxNo) (old new : List Placed) → IsRoundAt s start t.value (past_of old) → Advances s t 1 old new → IsRoundAt s start t.value (past_of new)
turn-more s start t old new b a =
    let first = others (pending (world_at s t (past_of old))) a.name a.stands in
    record {
      turns = (t, a.step) ∷ b.turns;
      rounds = (
        past_of old,
        b.rounds,
        record { name = a.name; others = first.0; first = first.1; named = a.named; in_replay = a.in_replay; passed = b.passed },
        a.done,
      );
      passed = λ v p. absurd (none-passed t.value v.value p);
    }

-- going round, whoever comes before the next one comes before t, or is t
passed-next : (u t v : ℕ) → is_passed u (t + 1) v ≡ true → (is_passed u t v ≡ true) ⊎ (v ≡ t)
passed-next u t v p = elim (eqb_tells v t) [ inl e ↦ inr e.1 | inr e ↦ inl (grind (arith, nat_tests)) ]

-- where t is settled, it is the next one's turn
pub turn-next : (s : List Line) (start : List Placed) (t : TxNo) (T : List Placed) → IsRoundAt s start t.value T → Settled s (history t.value T) → IsRoundAt s start (t.value + 1) T
turn-next s start t T b here =
    record {
      turns = b.turns;
      rounds = b.rounds;
      passed = λ v p. elim (passed-next (last_turn b.turns) t.value v.value p) [ inl q ↦ b.passed v q | inr e ↦ subst (λ n. Settled s (history n T)) (sym e) here ];
    }

-- after the last one it is the first one's turn again
last-few : (xs : List (TxNo × Step)) → last_turn xs ≤ 256
last-few [] = omega arith
last-few (x ∷ xs) = omega (arith, x.0.in_range.1)

passed-round : (n u v : ℕ) → 257 ≤ n → u ≤ 256 → 1 ≤ v → v ≤ 256 → is_passed u 1 v ≡ true → is_passed u n v ≡ true
passed-round n u v past few first last p = grind (arith, nat_tests)

pub turn-round : (s : List Line) (start T : List Placed) (n : ℕ) → 257 ≤ n → IsRoundAt s start n T → IsRoundAt s start 1 T
turn-round s start T n past b =
    record { turns = b.turns; rounds = b.rounds; passed = λ v p. b.passed v (passed-round n (last_turn b.turns) v.value past (last-few b.turns) v.in_range.0 v.in_range.1 p) }

-- before the first turn it is the first one's
pub turn-first : (s : List Line) (T : List Placed) → IsRoundAt s T 1 T
turn-first s T = record { turns = []; rounds = refl; passed = λ v p. absurd (none-passed 1 v.value p) }

-- the lines, and then the rounds
pub is_replayed : (s : List Line) (n : ℕ) (lines trace : List Placed) → LinesRan s (past_of s) (past_of lines) → IsRoundAt s (past_of lines) n (past_of trace) → IsReplayed s (past_of trace)
is_replayed s n lines trace ran b = record { by_lines = past_of lines; lines = ran; turns = b.turns; rounds = b.rounds }

-- What is settled below t stays so where the other histories do,
pub below-apart : (s : List Line) (t : TxNo) (T U : List Placed) → ((u : TxNo) → u ≢ t → history u.value U ≡ history u.value T) → AreSettledBelow s t.value T → AreSettledBelow s t.value U
below-apart s t T U apart b = λ v less.
    let other : v ≢ t = λ e. let same : v.value ≡ t.value = subst (λ (u : TxNo). v.value ≡ u.value) e refl in omega (arith, less, same) in
    subst (λ (h : List Entry). Settled s h) (sym (apart v other)) (b v less)

-- and where t is settled too, so is what is below the next
pub below-next : (s : List Line) (t : TxNo) (T : List Placed) → AreSettledBelow s t.value T → Settled s (history t.value T) → AreSettledBelow s (t.value + 1) T
below-next s t T b here = λ v less. elim (eqb_tells v.value t.value) [ inl e ↦ subst (λ n. Settled s (history n T)) (sym e.1) here | inr e ↦ b v (omega (arith, e.1, less)) ]

-- nothing is below the first
pub below-first : (s : List Line) (T : List Placed) → AreSettledBelow s 1 T
below-first s T = λ v less. absurd (omega (arith, v.in_range.0, less))
