-- What a place is used for changes, or the time of its transaction goes on; the others are as they were.
use Rattle.std.proofs.Common.{ℕ, zero, suc, Bool, true, false, ◌≡◌, ◌+◌, ◌-◌, ◌∙◌, ◌==◌, ◌&&◌, List, [], ◌∷◌, Some, None, Result, Ok, Err, OnOk, OnErr, ◌⊎◌, inl, inr, slice_get, slice_set, ap, arith, subst, sym, if◌then◌else◌}
use Rattle.dtx_values.specs.TxIds.{number_of}
use Rattle.dtx_values.specs.declared.tx_id.TxId.{TxId}
use Rattle.coordinator_log.specs.State.{LogState}
use Rattle.tx_world.specs.AtLog.{Fits}
use Rattle.transactions.specs.declared.error.TxError.{TxError}
use Rattle.transactions.specs.declared.usage.Usage.{Usage}
use Rattle.transactions.specs.declared.usage.Usage.TheVariants.{Left}
use Rattle.transactions.specs.Ending.{IsLeft, IsOver}
use Rattle.transactions.specs.Calling.{Ticks, TicksUnless}
use Rattle.transactions.specs.Keeping.{AreNumbered, FitsAll}
use Rattle.transactions.specs.Slots.{is_live, is_used, live_at, live_in}
use Rattle.transactions.specs.State.{LiveState}
use Rattle.transactions.proofs.Fitted.{fits_set}
use Rattle.transactions.proofs.Standing.{get_here, numbered_set}

-- an item that is put back where it stood changes nothing
pub put_back : {A : Type 0} (xs : List A) (i : ℕ) (x : A) → slice_get xs i ≡ Some x → slice_set xs i x ≡ xs
put_back [] i x e = absurd cc
put_back (z ∷ xs) zero x e = ap (λ v. v ∷ xs) (same e)
  where
    same : Some z ≡ Some x → x ≡ z
    same q = cc
put_back (z ∷ xs) (suc i) x e = ap (λ l. z ∷ l) (put_back xs i x e)

-- a transaction doesn't go on where none of its number does at its place
pub gone_off : (t : TxId) (xs : List LiveState) (i : ℕ) (x y : LiveState) → i + 1 ≡ t.t.value → slice_get xs i ≡ Some x → is_live t y ≡ false → live_at t (slice_set xs i y) ≡ None
gone_off t xs i x y place here off =
    let same : t.t.value - 1 ≡ i = omega (arith, place) in
    ap (live_in t) (ap (slice_get (slice_set xs i y)) same ∙ get_here xs i x y here) ∙ ap (λ b. if b then Some y else None) off

-- so none does at a place that isn't used
pub gone_here : (t : TxId) (xs : List LiveState) (i : ℕ) (x y : LiveState) (u : Usage) → i + 1 ≡ t.t.value → slice_get xs i ≡ Some x → y ≡ record x { usage = u } → is_used u ≡ false → live_at t (slice_set xs i y) ≡ None
gone_here t xs i x y u place here e is = gone_off t xs i x y place here (ap (λ b. b && (number_of y.number == number_of t)) (ap (λ (v : LiveState). is_used v.usage) e ∙ is))

-- a transaction whose place is used for something else is still at it
pub numbered_used : (xs : List LiveState) (i : ℕ) (x y : LiveState) (u : Usage) → slice_get xs i ≡ Some x → y ≡ record x { usage = u } → AreNumbered xs → AreNumbered (slice_set xs i y)
numbered_used xs i x y u here e numbered =
    let number : y.number ≡ x.number = ap (λ (v : LiveState). v.number) e in
    numbered_set xs i x y here numbered number (ap (λ (v : LiveState). v.tx.transaction) e ∙ ((numbered i x here).1 ∙ sym number))

-- and the log fits all, as before
pub fits_used : {D : Type 0} (image : D → List ℕ → Type 0) (log : LogState D) (xs : List LiveState) (i : ℕ) (x y : LiveState) (u : Usage) (last : ℕ) → slice_get xs i ≡ Some x
    → y ≡ record x { usage = u } → FitsAll image log xs last → FitsAll image log (slice_set xs i y) last
fits_used image log xs i x y u last here e all = fits_set image log xs i x y last here (ap (λ (v : LiveState). v.number) e) (λ rs f. subst (λ (v : LiveState). Fits v.tx rs) (sym e) f) all

-- the time's going on leaves the number
ticks_leave : {D : Type 0} (b : Bool) (faults : D → ℕ) (log : LogState D) (now : ℕ) (x y : LiveState) → TicksUnless b faults log now x y → y.number ≡ x.number
ticks_leave true faults log now x y ticked = ap (λ (v : LiveState). v.number) ticked
ticks_leave false faults log now x y ticked = ap (λ (v : LiveState). v.number) ticked.4 ∙ ap (λ (v : LiveState). v.number) ticked.3.rest

-- also where it failed
pub pass_leaves : {A D : Type 0} (faults : D → ℕ) (log : LogState D) (now : ℕ) (z : Result A TxError) (x y : LiveState) → OnOk z (Ticks faults log now x y) → OnErr z (y ≡ x) → y.number ≡ x.number
pass_leaves faults log now (Ok r) x y ticked same = ticks_leave _ faults log now x y ticked
pass_leaves faults log now (Err e) x y ticked same = ap (λ (v : LiveState). v.number) same

-- a transaction that is over is so whoever holds it
over_still : (x : LiveState) (u : Usage) → IsOver (record x { usage = u }) → IsOver x
over_still x u o = record { told = o.told; idle = o.idle; unrecorded = o.unrecorded; resolved = o.resolved }

-- so what was left goes on, or was taken off
pub left_by : (t : TxId) (x y : LiveState) (new : List LiveState) → y ≡ record x { usage = Left } → (live_at t new ≡ Some y) ⊎ ((live_at t new ≡ None) × IsOver y × (y.usage ≡ Left)) → IsLeft t x new
left_by t x y new is (inl on) = inl (on ∙ ap (λ (v : LiveState). Some v) is)
left_by t x y new is (inr off) = inr (off.0, over_still x Left (subst (λ (v : LiveState). IsOver v) is off.1))
