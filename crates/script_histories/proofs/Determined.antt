-- The trace of a replay in which the log is sound, and each reply is as planned, is determined by its script, promoted or not.
use Rattle.std.proofs.Common.{◌≡◌, ◌<◌, ◌≤◌, ◌⊎◌, ℕ, zero, suc, Bool, true, List, [], ◌∷◌, length, reverse, Option, Some, None, inl, inr, refl, ◌∙◌, ap, sym, subst, arith}
use Rattle.std.proofs.Math.Nat.{eq-or-lt_of_le}
use Rattle.std.proofs.lemmas.Bool.Decides.{leb_tells, nat_tests}
use Rattle.std.proofs.lemmas.List.{reverse-reverse}
use Rattle.dtx_values.specs.declared.call.Call.{Call}
use Rattle.dtx_values.specs.declared.call.Call.TheVariants.{Await, Do}
use Rattle.dtx_values.specs.declared.number.ActorNo.{ActorNo}
use Rattle.dtx_values.specs.declared.number.TxNo.{TxNo}
use Rattle.dtx_values.specs.declared.script.Line.{Line}
use Rattle.dtx_model.specs.Words.{kth, onto, past_of}
use Rattle.dtx_model.specs.Steps.{Step, Calls, StepName, pending}
use Rattle.dtx_model.specs.Caused.{IsNamed, Settled}
use Rattle.dtx_model.specs.History.{IsHistory, IsReplay}
use Rattle.dtx_model.specs.Traces.{Placed, history, placed}
use Rattle.dtx_model.specs.Replay.{block_in, is_passed, IsTurn, last_turn, world_at}
use Rattle.dtx_model.proofs.Pasts.{past-reverse}
use Rattle.dtx_values.proofs.SameNumbers.{same_transaction}
use Rattle.script_histories.specs.LogQuiet.{is_log_sound}
use Rattle.script_histories.proofs.ReplayTurns.{CallDone, IsAwait, IsDo, LineDone, LinesDone, ReplayDone, RoundsDone, StepsDone, after_block, replay_done}
use Rattle.script_histories.proofs.PlannedReplays.{AllPlanned, IsOwn, line_planned_before, one_block, planned_before, rounds_planned_before, step_planned}
use Rattle.script_histories.proofs.SoundLogs.{all_planned, past_quiet}

-- one number is below the other, or they are the same
compare : (m n : ℕ) → (m < n) ⊎ ((m ≡ n) ⊎ (n < m))
compare m n = elim (leb_tells (suc m) n) [
  | inl k ↦ inl k.1
  | inr k ↦ inr (elim (leb_tells (suc n) m) [
    | inl j ↦ inr j.1
    | inr j ↦ inl (grind (arith, nat_tests))
  ])
]

-- below the next number is below this one, or this one
below_next : (m n : ℕ) → m < suc n → (m ≡ n) ⊎ (m < n)
below_next m n lt = let le : m ≤ n = omega arith in eq-or-lt_of_le le

-- what stands at a place is one thing
same_some : {A : Type 0} (o : Option A) (x y : A) → o ≡ Some x → o ≡ Some y → x ≡ y
same_some o x y p q = let e : Some x ≡ Some y = sym p ∙ q in cc

-- what stands at a place isn't nothing
some_none : {A : Type 0} (o : Option A) (x : A) → o ≡ Some x → o ≡ None → ⊥
some_none o x p q = let e : Some x ≡ None = sym p ∙ q in cc

-- so many steps, each the k-th that was pending, make one trace
steps_same : (s : List Line) (t : TxNo) (k m : ℕ) (start T U : List Placed) → AllPlanned s T → AllPlanned s U → StepsDone s t k m start T → StepsDone s t k m start U → T ≡ U
steps_same s t k zero start T U p q a b = a ∙ sym b
steps_same s t k (suc m) start T U p q a b =
    let first = subst (AllPlanned s) a.7 p in
    let second = subst (AllPlanned s) b.7 q in
    let past : b.0 ≡ a.0 = sym (steps_same s t k m start a.0 b.0 (planned_before s t a.3 a.0 first) (planned_before s t b.3 b.0 second) a.1 b.1) in
    let name : b.2 ≡ a.2 =
    same_some (kth (pending (world_at s t a.0)) k) b.2 a.2 (subst (λ p. kth (pending (world_at s t p)) k ≡ Some b.2) past b.4) a.4 in
    let named : IsNamed (world_at s t a.0) a.2 b.3 = subst (λ n. IsNamed (world_at s t a.0) n b.3) name (subst (λ p. IsNamed (world_at s t p) b.2 b.3) past b.5) in
    let same =
    one_block s t a.0 a.2 a.3 b.3 a.5 named (record { goes = a.6; planned = step_planned s t a.3 a.0 first })
    (subst (λ p. IsOwn s t p b.3) past (record { goes = b.6; planned = step_planned s t b.3 b.0 second })) in
    a.7 ∙ ap (λ es. onto a.0 (placed t es)) same ∙ ap (λ p. after_block s t b.3 p) (sym past) ∙ sym b.7

-- where more steps were done, the k-th was pending after so many
steps_more : (s : List Line) (t : TxNo) (k m n : ℕ) (start T : List Placed) → m < n → AllPlanned s T → StepsDone s t k n start T
    → (past : List Placed) × AllPlanned s past × StepsDone s t k m start past × (name : StepName) × (kth (pending (world_at s t past)) k ≡ Some name)
steps_more s t k m zero start T lt p a = absurd (omega arith)
steps_more s t k m (suc n) start T lt p a =
    let before = planned_before s t a.3 a.0 (subst (AllPlanned s) a.7 p) in
    elim (below_next m n lt) [
      | inl same ↦ (a.0, before, subst (λ j. StepsDone s t k j start a.0) (sym same) a.1, a.2, a.4)
      | inr less ↦ steps_more s t k m n start a.0 less before a.1
    ]

-- after the last step no more are done
no_more : (s : List Line) (t : TxNo) (k m n : ℕ) (start T U : List Placed) → AllPlanned s T → AllPlanned s U → StepsDone s t k m start T → kth (pending (world_at s t T)) k ≡ None
    → m < n → StepsDone s t k n start U → ⊥
no_more s t k m n start T U p q a none lt b =
    let more = steps_more s t k m n start U lt q b in
    let same : more.0 ≡ T = steps_same s t k m start more.0 T more.1 p more.2 a in
    some_none (kth (pending (world_at s t T)) k) more.3 (subst (λ p. kth (pending (world_at s t p)) k ≡ Some more.3) same more.4) none

-- as many steps make one trace
as_many : (s : List Line) (t : TxNo) (k m n : ℕ) (start T U : List Placed) → m ≡ n → AllPlanned s T → AllPlanned s U → StepsDone s t k m start T → StepsDone s t k n start U → (m ≡ n) × (T ≡ U)
as_many s t k m n start T U same p q a b = (same, steps_same s t k n start T U p q (subst (λ j. StepsDone s t k j start T) same a) b)

-- a `do` does so many steps and no others
done_same : (s : List Line) (t : TxNo) (k n i j : ℕ) (start T U : List Placed) → AllPlanned s T → AllPlanned s U → IsDo s t k n i start T → IsDo s t k n j start U → (i ≡ j) × (T ≡ U)
done_same s t k n i j start T U p q a b = elim (compare i j) [
  | inl lt ↦ let most = b.most in absurd (no_more s t k i j start T U p q a.ran (a.stopped (omega arith)) lt b.ran)
  | inr (inl same) ↦ as_many s t k i j start T U same p q a.ran b.ran
  | inr (inr lt) ↦ let most = a.most in absurd (no_more s t k j i start U T q p b.ran (b.stopped (omega arith)) lt a.ran)
]

-- an `await` does so many steps and no others
settled_same : (s : List Line) (t : TxNo) (i j : ℕ) (start T U : List Placed) → AllPlanned s T → AllPlanned s U → IsAwait s t i start T → IsAwait s t j start U → (i ≡ j) × (T ≡ U)
settled_same s t i j start T U p q a b = elim (compare i j) [
  | inl lt ↦ absurd (no_more s t 1 i j start T U p q a.ran (ap (λ ns. kth ns 1) a.settled) lt b.ran)
  | inr (inl same) ↦ as_many s t 1 i j start T U same p q a.ran b.ran
  | inr (inr lt) ↦ absurd (no_more s t 1 j i start U T q p b.ran (ap (λ ns. kth ns 1) b.settled) lt a.ran)
]

-- what a line does by its own words makes one trace
call_same : (s : List Line) (a : ActorNo) (i : ℕ) (c : Option (TxNo × Call)) (start T U : List Placed) → AllPlanned s T → AllPlanned s U → CallDone s a i c start T → CallDone s a i c start U → T ≡ U
call_same s a i (Some (t, Do u k n)) start T U p q x y =
    let d = done_same s t k n x.0 y.0 start x.1 y.1 (planned_before s t (Calls i a (Do u k n) x.0) x.1 (subst (AllPlanned s) x.3 p)) (planned_before s t (Calls i a (Do u k n) y.0) y.1 (subst (AllPlanned s) y.3 q)) x.2 y.2 in
    x.3 ∙ ap (λ m. after_block s t (Calls i a (Do u k n) m) x.1) d.0 ∙ ap (λ p. after_block s t (Calls i a (Do u k n) y.0) p) d.1 ∙ sym y.3
call_same s a i (Some (t, Await u)) start T U p q x y =
    let d = settled_same s t x.0 y.0 start x.1 y.1 (planned_before s t (Calls i a (Await u) 0) x.1 (subst (AllPlanned s) x.3 p)) (planned_before s t (Calls i a (Await u) 0) y.1 (subst (AllPlanned s) y.3 q)) x.2 y.2 in
    x.3 ∙ ap (λ p. after_block s t (Calls i a (Await u) 0) p) d.1 ∙ sym y.3
call_same s a i (Some (t, c)) start T U p q x y = x ∙ sym y
call_same s a i None start T U p q x y = x ∙ sym y

-- the lines make one trace
lines_same : (s ls : List Line) (T U : List Placed) → AllPlanned s T → AllPlanned s U → LinesDone s ls T → LinesDone s ls U → T ≡ U
lines_same s [] T U p q a b = a ∙ sym b
lines_same s (l ∷ before) T U p q a b =
    let past : a.0 ≡ b.0 = lines_same s before a.0 b.0 (line_planned_before s before l a.0 T p a.2) (line_planned_before s before l b.0 U q b.2) a.1 b.1 in
    let other = subst (λ p. LineDone s before l p U) (sym past) b.2 in
    call_same s l.actor _ _ _ T U p q a.2.1 other.1

-- of two turns one comes before the other, going round
either_passed : (u t v : ℕ) → t < v → (is_passed u v t ≡ true) ⊎ (is_passed u t v ≡ true)
either_passed u t v lt = elim (leb_tells u t) [
  | inl k ↦ inl (let le : u ≤ v = omega arith in grind (arith, nat_tests))
  | inr k ↦ elim (leb_tells u v) [
    | inl j ↦ inr (grind (arith, nat_tests))
    | inr j ↦ inl (grind (arith, nat_tests))
  ]
]

-- whose turn it is has something pending
turn_open : (s : List Line) (T : List Placed) (u : ℕ) (t : TxNo) (m : Step) → IsTurn s T u t m → Settled s (history t.value T) → ⊥
turn_open s T u t m a e = let none : a.name ∷ a.others ≡ [] = sym a.first ∙ e in absurd cc

-- it is one transaction's turn
turn_number : (s : List Line) (T : List Placed) (u : ℕ) (t v : TxNo) (m n : Step) → IsTurn s T u t m → IsTurn s T u v n → t.value ≡ v.value
turn_number s T u t v m n a b = elim (compare t.value v.value) [
  | inl lt ↦ absurd (apart u t v m n a b lt)
  | inr (inl same) ↦ same
  | inr (inr lt) ↦ absurd (apart u v t n m b a lt)
]
  where
    apart : (u : ℕ) (t v : TxNo) (m n : Step) → IsTurn s T u t m → IsTurn s T u v n → t.value < v.value → ⊥
    apart u t v m n a b lt = elim (either_passed u t.value v.value lt) [
      | inl p ↦ turn_open s T u t m a (b.passed t p)
      | inr p ↦ turn_open s T u v n b (a.passed v p)
    ]

-- a turn, the step of which goes on and is planned
pub record IsOwnTurn (s : List Line) (T : List Placed) (u : ℕ) (t : TxNo) (m : Step) : Type 0 where
  pub turn : IsTurn s T u t m
  pub own : IsOwn s t T m

-- of one transaction it makes one block
own_same : (s : List Line) (T : List Placed) (u : ℕ) (t : TxNo) (m n : Step) → IsOwnTurn s T u t m → IsOwnTurn s T u t n → block_in s t m T ≡ block_in s t n T
own_same s T u t m n a b =
    let there : b.turn.name ∷ b.turn.others ≡ a.turn.name ∷ a.turn.others = sym b.turn.first ∙ a.turn.first in
    let name : b.turn.name ≡ a.turn.name = cc in
    one_block s t T a.turn.name m n a.turn.named (subst (λ k. IsNamed (world_at s t T) k n) name b.turn.named) a.own b.own

-- it is one transaction's, and makes one trace
turn_same : (s : List Line) (T : List Placed) (u : ℕ) (x y : TxNo × Step) → IsOwnTurn s T u x.0 x.1 → IsOwnTurn s T u y.0 y.1 → (x.0 ≡ y.0) × (after_block s x.0 x.1 T ≡ after_block s y.0 y.1 T)
turn_same s T u x y a b =
    let t : y.0 ≡ x.0 = sym (same_transaction x.0 y.0 (turn_number s T u x.0 y.0 x.1 y.1 a.turn b.turn)) in
    let block = own_same s T u x.0 x.1 y.1 a (subst (λ v. IsOwnTurn s T u v y.1) t b) in
    (sym t, ap (λ es. onto T (placed x.0 es)) block ∙ ap (λ v. after_block s v y.1 T) (sym t))

-- the last turn of some rounds
last_own : (s : List Line) (start : List Placed) (x : TxNo × Step) (xs : List (TxNo × Step)) (T : List Placed) → AllPlanned s T → (r : RoundsDone s start (x ∷ xs) T)
    → AllPlanned s r.0 × IsOwnTurn s r.0 (last_turn xs) x.0 x.1
last_own s start x xs T p r =
    let here = subst (AllPlanned s) r.4 p in
    (planned_before s x.0 x.1 r.0 here, record { turn = r.2; own = record { goes = r.3; planned = step_planned s x.0 x.1 r.0 here } })

-- so many turns make one trace, and the last is one transaction's
rounds_same : (s : List Line) (start : List Placed) (xs ys : List (TxNo × Step)) (T U : List Placed) → length xs ≡ length ys → AllPlanned s T → AllPlanned s U → RoundsDone s start xs T
    → RoundsDone s start ys U → (last_turn xs ≡ last_turn ys) × (T ≡ U)
rounds_same s start [] [] T U n p q a b = (refl, a ∙ sym b)
rounds_same s start [] (y ∷ ys) T U n p q a b = absurd (omega arith)
rounds_same s start (x ∷ xs) [] T U n p q a b = absurd (omega arith)
rounds_same s start (x ∷ xs) (y ∷ ys) T U n p q a b =
    let first = last_own s start x xs T p a in
    let second = last_own s start y ys U q b in
    let before = rounds_same s start xs ys a.0 b.0 (omega arith) first.0 second.0 a.1 b.1 in
    let turn = subst (λ p. IsOwnTurn s p (last_turn xs) y.0 y.1) (sym before.1) (subst (λ u. IsOwnTurn s b.0 u y.0 y.1) (sym before.0) second.1) in
    let same = turn_same s a.0 (last_turn xs) x y first.1 turn in
    (ap (λ (t : TxNo). t.value) same.0, a.4 ∙ same.1 ∙ ap (λ p. after_block s y.0 y.1 p) before.1 ∙ sym b.4)

-- where more turns came, one came after so many
rounds_more : (s : List Line) (start : List Placed) (m : ℕ) (ys : List (TxNo × Step)) (U : List Placed) → m < length ys → AllPlanned s U → RoundsDone s start ys U
    → (zs : List (TxNo × Step)) × (past : List Placed) × (x : TxNo × Step) × (length zs ≡ m) × AllPlanned s past × RoundsDone s start zs past × IsTurn s past (last_turn zs) x.0 x.1
rounds_more s start m [] U lt q b = absurd (omega arith)
rounds_more s start m (y ∷ ys) U lt q b =
    let own = last_own s start y ys U q b in
    elim (below_next m (length ys) lt) [
      | inl same ↦ (ys, b.0, y, sym same, own.0, b.1, b.2)
      | inr less ↦ rounds_more s start m ys b.0 less own.0 b.1
    ]

-- where nothing is pending any more no turn comes
no_turn : (s : List Line) (start : List Placed) (xs ys : List (TxNo × Step)) (T U : List Placed) → ((t : TxNo) → Settled s (history t.value T)) → AllPlanned s T → AllPlanned s U
    → RoundsDone s start xs T → length xs < length ys → RoundsDone s start ys U → ⊥
no_turn s start xs ys T U settled p q a lt b =
    let more = rounds_more s start (length xs) ys U lt q b in
    let same = rounds_same s start more.0 xs more.1 T more.3 more.4 p more.5 a in
    let x = more.2 in
    turn_open s more.1 (last_turn more.0) x.0 x.1 more.6 (subst (λ p. Settled s (history x.0.value p)) (sym same.1) (settled x.0))

-- the rounds make one trace
rounds_end : (s : List Line) (start : List Placed) (xs ys : List (TxNo × Step)) (T U : List Placed) → ((t : TxNo) → Settled s (history t.value T))
    → ((t : TxNo) → Settled s (history t.value U)) → AllPlanned s T → AllPlanned s U → RoundsDone s start xs T → RoundsDone s start ys U → T ≡ U
rounds_end s start xs ys T U v w p q a b = elim (compare (length xs) (length ys)) [
  | inl lt ↦ absurd (no_turn s start xs ys T U v p q a lt b)
  | inr (inl same) ↦ (rounds_same s start xs ys T U same p q a b).1
  | inr (inr lt) ↦ absurd (no_turn s start ys xs U T w q p b lt a)
]

-- a replay that is settled makes one trace
replayed_same : (s : List Line) (T U : List Placed) → ((t : TxNo) → Settled s (history t.value T)) → ((t : TxNo) → Settled s (history t.value U)) → AllPlanned s T → AllPlanned s U
    → ReplayDone s T → ReplayDone s U → T ≡ U
replayed_same s T U v w p q a b =
    let lines : a.by_lines ≡ b.by_lines =
    lines_same s (past_of s) a.by_lines b.by_lines (rounds_planned_before s a.by_lines a.turns T p a.rounds) (rounds_planned_before s b.by_lines b.turns U q b.rounds) a.lines b.lines in
    rounds_end s a.by_lines a.turns b.turns T U v w p q a.rounds (subst (λ p. RoundsDone s p b.turns U) (sym lines) b.rounds)

-- two lists with one history are one
past_same : {E : Type 0} (xs ys : List E) → past_of xs ≡ past_of ys → xs ≡ ys
past_same xs ys e =
    let turned : reverse xs ≡ reverse ys = sym (past-reverse xs) ∙ e ∙ past-reverse ys in
    sym (reverse-reverse xs) ∙ ap reverse turned ∙ reverse-reverse ys

-- a script has one trace in which the log is sound
pub history_same : (s : List Line) (T U : List Placed) (rise : ℕ) (honest : Bool) → IsHistory s 0 rise T → IsReplay s rise honest T → IsHistory s 0 rise U
    → IsReplay s rise honest U → is_log_sound T ≡ true → is_log_sound U ≡ true → T ≡ U
history_same s T U rise honest a r b q l k =
    past_same T U
    (replayed_same s (past_of T) (past_of U) a.settled b.settled (all_planned s rise T a l) (all_planned s rise U b k) (replay_done s (past_of T) (past_quiet T l) r.replayed)
    (replay_done s (past_of U) (past_quiet U k) q.replayed))
