-- What the recovery of one store leaves of the log.
use Rattle.std.specs.Prelude.{IfErr, IsFalse, IsTrue}
use Rattle.std.proofs.Common.{◌≡◌, ◌⊎◌, inl, inr, ℕ, Bool, true, false, ◌<◌, ◌-◌, ◌^◌, ◌∙◌, Result, Ok, Err, refl, ap, arith, sym}
use Rattle.outside.specs.Faults.{Rose}
use Rattle.kv_resource.specs.Store.{KvState}
use Rattle.transactions.specs.Recovery.{is_early, is_finished}
use Rattle.transactions.specs.Slots.{Standing}
use Rattle.transactions.specs.declared.recovered.Recovered.{Recovered}
use Rattle.transactions.specs.declared.recovered.RecoverRefusal.{RecoverRefusal}
use Rattle.transactions.specs.declared.recovered.RecoverRefusal.TheVariants.{Later, GoesOn, NotNamed, Memory, Failed, LogStopped}

-- It is as it was, unless all that was in doubt is finished.
pub log_or : {D C : Type 0} (P : Type 0) (z : Result Recovered RecoverRefusal) (old new : Standing D C) → IfErr z (λ e. is_early e ≡ true → new ≡ old) → (z ≡ Err Failed → new ≡ old) → (is_finished z ≡ true → P) → (new.log ≡ old.log) ⊎ P
log_or P (Ok x) old new early failed done = inr (done refl)
log_or P (Err (Later e)) old new early failed done = inl (ap (λ (s : Standing _ _). s.log) (early refl))
log_or P (Err (GoesOn e)) old new early failed done = inl (ap (λ (s : Standing _ _). s.log) (early refl))
log_or P (Err (NotNamed e)) old new early failed done = inl (ap (λ (s : Standing _ _). s.log) (early refl))
log_or P (Err Memory) old new early failed done = inl (ap (λ (s : Standing _ _). s.log) (early refl))
log_or P (Err Failed) old new early failed done = inl (ap (λ (s : Standing _ _). s.log) (failed refl))
log_or P (Err LogStopped) old new early failed done = inr (done refl)

-- what is so of each error where it's early is so without the rest that is
pub early_only : {A : Type 0} (P Q R : Type 0) (z : Result A RecoverRefusal) → IfErr z (λ e. is_early e ≡ true → P × Q × R) → IfErr z (λ e. is_early e ≡ true → P)
early_only P Q R (Ok x) k = tt
early_only P Q R (Err e) k = λ early. (k early).0

-- A store that wasn't stopped isn't, where what fails from now on fails counted from before, and the count isn't at its greatest.
pub up_still : {D : Type 0} (faults : D → ℕ) (old new : KvState D)
    → ((x : KvState D) → IsTrue new.memory.stopped ⊎ Rose (faults new.disk) (faults x.disk) → IsTrue old.memory.stopped ⊎ Rose (faults old.disk) (faults x.disk)) → faults old.disk < 2 ^ 64 - 1 → IsFalse old.memory.stopped
    → IsFalse new.memory.stopped
up_still faults old new since low up = by new.memory.stopped refl
  where
    off : ◌≡◌ {A = Bool} true false → ⊥
    off q = absurd cc

    never : IsTrue old.memory.stopped ⊎ Rose (faults old.disk) (faults old.disk) → ⊥
    never (inl down) = off (sym down ∙ up)
    never (inr rose) = absurd (omega (arith, low, rose))

    by : (b : Bool) → new.memory.stopped ≡ b → IsFalse new.memory.stopped
    by false is = is
    by true is = absurd (never (since old (inl is)))
