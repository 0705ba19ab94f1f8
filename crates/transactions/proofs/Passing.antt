-- What a tick makes of a transaction.
use Rattle.std.proofs.Common.{ℕ, ◌≡◌, ◌<◌, ◌+◌, ◌==◌, ◌∙◌, min, not, Bool, true, false, List, [], ◌∷◌, Option, Some, None, is_some, refl, ap, arith, subst, sym}
use Rattle.std.proofs.lemmas.Bool.Decides.{nat_tests}
use Rattle.dtx_values.specs.declared.call.Call.TheVariants.{Tick}
use Rattle.dtx_values.specs.declared.entry.Answer.{Answer}
use Rattle.dtx_values.specs.declared.number.TxNo.{TxNo}
use Rattle.dtx_values.specs.declared.words.Outcome.{Outcome}
use Rattle.dtx_values.specs.declared.words.Outcome.TheVariants.{Aborted, Committed, InDoubt}
use Rattle.dtx_values.specs.declared.words.Status.TheVariants.{Active}
use Rattle.dtx_model.specs.Words.{has}
use Rattle.dtx_model.specs.World.{half}
use Rattle.dtx_model.proofs.Bools.{or_false}
use Rattle.coordinator_log.specs.State.{LogState}
use Rattle.tx_world.specs.OwnCalls.{status_of}
use Rattle.transactions.specs.Calling.{IsCalled, Ticks, TicksUnless, passed}
use Rattle.transactions.specs.State.{LiveState}

-- none passes a test that none passes
pub none-false : {A : Type 0} (xs : List A) → has (λ x. false) xs ≡ false
none-false [] = refl
none-false (x ∷ xs) = none-false xs

-- what is active isn't decided
pub active-undecided : (o : Option Outcome) → status_of o ≡ Active → is_some o ≡ false
active-undecided (Some Committed) h = absurd cc
active-undecided (Some Aborted) h = absurd cc
active-undecided (Some InDoubt) h = absurd cc
active-undecided None h = refl

-- where time passed and nothing is decided, the call of a tick, and the time after it, are what the time's going on is
pub ticks : {D : Type 0} (faults : D → ℕ) (log : LogState D) (now : ℕ) (old mid : LiveState) (line : ℕ) (answer : Answer) (time : ℕ)
    → (passed old.time now == 0) ≡ false → is_some (half old.tx.world).seen.decided ≡ false → IsCalled faults log (Tick old.number.t (passed old.time now)) line answer old mid
    → time ≡ old.time + passed old.time now → Ticks faults log now old (record mid { time = time })
ticks faults log now old mid line answer time some undecided called same =
    subst (λ (b : Bool). TicksUnless b faults log now old (record mid { time = time }))
    (sym (or_false (passed old.time now == 0) (is_some (half old.tx.world).seen.decided) some undecided))
    (line, answer, mid, called, ap (λ n. record mid { time = n }) same)

-- where it isn't so that something isn't true, it is true
pub true-of-not : (b : Bool) → false ≡ not b → b ≡ true
true-of-not true h = refl
true-of-not false h = absurd cc

-- a number that isn't 0 isn't 0 by the test
not-zero : (n : ℕ) → (n ≡ 0 → ⊥) → (n == 0) ≡ false
not-zero n h = grind (arith, nat_tests)

-- the time that was added doesn't pass the reading of the clock
time-on : (from n now time : ℕ) → n ≡ passed from now → (n ≡ 0 → ⊥) → now < 18446744073709551616 → time ≡ min (from + n) 18446744073709551615 → time ≡ from + n
time-on from n now time h some fits e = omega arith

-- the same, of the values that the code reads
pub ticked : {D : Type 0} (faults : D → ℕ) (log : LogState D) (now : ℕ) (x old y mid : LiveState) (line : ℕ) (answer : Answer) (n time : ℕ) (p : TxNo)
    → p ≡ x.number.t → x ≡ old → y ≡ mid → IsCalled faults log (Tick p n) line answer old mid → n ≡ passed x.time now → (n ≡ 0 → ⊥) → is_some (half x.tx.world).seen.decided ≡ false
    → now < 18446744073709551616 → time ≡ min (y.time + n) 18446744073709551615 → Ticks faults log now old (record y { time = time })
ticked faults log now x old y mid line answer n time p number was is called_by amount some undecided fits sum =
    let called : IsCalled faults log (Tick x.number.t n) line answer old mid = subst (λ (q : TxNo). IsCalled faults log (Tick q n) line answer old mid) number called_by in
    let amount_old : n ≡ passed old.time now = amount ∙ ap (λ (z : LiveState). passed z.time now) was in
    let called_old : IsCalled faults log (Tick old.number.t n) line answer old mid = subst (λ (z : LiveState). IsCalled faults log (Tick z.number.t n) line answer old mid) was called in
    let called_so : IsCalled faults log (Tick old.number.t (passed old.time now)) line answer old mid =
    subst (λ (k : ℕ). IsCalled faults log (Tick old.number.t k) line answer old mid) amount_old called_old in
    let some_old : (passed old.time now == 0) ≡ false = subst (λ (k : ℕ). (k == 0) ≡ false) amount_old (not-zero n some) in
    let undecided_old : is_some (half old.tx.world).seen.decided ≡ false = subst (λ (z : LiveState). is_some (half z.tx.world).seen.decided ≡ false) was undecided in
    let since : y.time ≡ old.time = ap (λ (z : LiveState). z.time) is ∙ ap (λ (z : LiveState). z.time) called.rest in
    let sum_old : time ≡ min (old.time + n) 18446744073709551615 = sum ∙ ap (λ k. min (k + n) 18446744073709551615) since in
    let time_is : time ≡ old.time + passed old.time now = time-on old.time n now time amount_old some fits sum_old ∙ ap (λ k. old.time + k) amount_old in
    subst (λ (z : LiveState). Ticks faults log now old (record z { time = time })) (sym is) (ticks faults log now old mid line answer time some_old undecided_old called_so time_is)
