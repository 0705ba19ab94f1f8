-- A call of one transaction of a manager.
use Rattle.std.proofs.Common.{ℕ, false, ◌≡◌, ◌≢◌, ◌-◌, ◌^◌, ◌∙◌, List, Option, Some, None, Result, Ok, Err, IfOk, IfErr, OnErr, ◌⊎◌, refl, ap, subst, sym, inl, inr}
use Rattle.dtx_values.specs.declared.call.Call.{Call}
use Rattle.dtx_values.specs.declared.entry.Answer.{Answer}
use Rattle.dtx_values.specs.declared.tx_id.TxId.{TxId}
use Rattle.dtx_model.specs.declared.waiting.EnteredCall.{EnteredCall}
use Rattle.dtx_model.specs.Grammar.{Name}
use Rattle.dtx_model.specs.Words.{has}
use Rattle.coordinator_log.specs.State.{LogState}
use Rattle.tx_world.specs.State.{is_maker}
use Rattle.transactions.specs.declared.error.TxError.{TxError}
use Rattle.transactions.specs.declared.error.TxError.TheVariants.{LogFull, LogStopped, Memory, Many, NoEpoch, Refused, Waits}
use Rattle.transactions.specs.Calling.{IsCalled}
use Rattle.transactions.specs.Doing.{CallsAt, MayFail}
use Rattle.transactions.specs.Enlisting.{MayNotMake}
use Rattle.transactions.specs.Slots.{live_at}
use Rattle.transactions.specs.State.{LiveState}
use Rattle.transactions.proofs.Passing.{none-false}

-- a call that makes nothing makes nothing that was made
pub none_made : (ks : List EnteredCall) (o : Option Name) → o ≡ None → has (λ k. is_maker o k.call) ks ≡ false
none_made ks o e = subst (λ p. has (λ k. is_maker p k.call) ks ≡ false) (sym e) (none-false ks)

-- a call leaves the number and what it is used for
pub call_leaves : {D : Type 0} (faults : D → ℕ) (log : LogState D) (c : Call) (z : Result (ℕ × Answer) TxError) (x y : LiveState) → IfOk z (λ r. IsCalled faults log c r.0 r.1 x y) → OnErr z (y ≡ x) → (y.usage ≡ x.usage) × (y.number ≡ x.number)
call_leaves faults log c (Ok r) x y called same = (ap (λ (v : LiveState). v.usage) called.rest, ap (λ (v : LiveState). v.number) called.rest)
call_leaves faults log c (Err e) x y called same = (ap (λ (v : LiveState). v.usage) same, ap (λ (v : LiveState). v.number) same)

-- the call of the transaction at its place
pub calls_at : {D : Type 0} (faults : D → ℕ) (log : LogState D) (t : TxId) (c : Call) (z : Result (ℕ × Answer) TxError) (xs ys : List LiveState) (x y : LiveState) → live_at t xs ≡ Some x → live_at t ys ≡ Some y
    → IfOk z (λ r. IsCalled faults log c r.0 r.1 x y) → IfOk z (λ r. CallsAt faults log t c r.0 r.1 xs ys)
calls_at faults log t c (Ok r) xs ys x y was now called = record { before = x; after = y; was = was; now = now; called = called }
calls_at faults log t c (Err e) xs ys x y was now called = tt

-- a call that wasn't done left the transaction
pub stays_at : {A : Type 0} (t : TxId) (z : Result A TxError) (xs ys : List LiveState) (x y : LiveState) → live_at t xs ≡ Some x → live_at t ys ≡ Some y → OnErr z (y ≡ x) → OnErr z (live_at t ys ≡ live_at t xs)
stays_at t (Ok r) xs ys x y was now same = tt
stays_at t (Err e) xs ys x y was now same = now ∙ (ap (λ (v : LiveState). Some v) same ∙ sym was)

-- what isn't done for another cause than want of memory has that cause
pub memory_or : {P : Type 0} (e : TxError) → (e ≢ Memory → P) → (e ≡ Memory) ⊎ P
memory_or Memory why = inl refl
memory_or (Refused a) why = inr (why (λ q. cc))
memory_or Waits why = inr (why (λ q. cc))
memory_or Many why = inr (why (λ q. cc))
memory_or LogFull why = inr (why (λ q. cc))
memory_or LogStopped why = inr (why (λ q. cc))
memory_or NoEpoch why = inr (why (λ q. cc))

-- why a call wasn't done
pub may_fail : {A : Type 0} (t : TxId) (z : Result A TxError) (xs : List LiveState) (x : LiveState) → live_at t xs ≡ Some x → IfErr z (λ e. e ≢ Memory → (e ≡ Many) × (x.lines ≡ 2 ^ 32 - 1)) → IfErr z (MayFail t xs)
may_fail t (Ok r) xs x was cause = tt
may_fail t (Err e) xs x was cause = elim (memory_or e cause) [
  | inl memory ↦ inl memory
  | inr many ↦ inr (inr (many.0, x, was, many.1))
]

-- why nothing was made
pub may_not_make : {A : Type 0} (all_used : LiveState → Type 0) (t : TxId) (z : Result A TxError) (xs : List LiveState) (x : LiveState) → live_at t xs ≡ Some x
    → IfErr z (λ e. e ≢ Memory → (e ≡ Many) × (all_used x ⊎ (x.lines ≡ 2 ^ 32 - 1))) → IfErr z (MayNotMake all_used t xs)
may_not_make all_used t (Ok r) xs x was cause = tt
may_not_make all_used t (Err e) xs x was cause = elim (memory_or e cause) [
  | inl memory ↦ inl memory
  | inr many ↦ inr (inr (many.0, x, was, many.1))
]
