-- A free of the record of an identifier that is given twice.
use Rattle.std.proofs.Common.{◌≡◌, ℕ, Bool, true, false, List, Option, Some, None, Result, Ok, Err, inl, inr, ap, sym, subst, ◌∙◌}
use Rattle.std.specs.Prelude.{◌⊎◌, IfErr, is_some}
use Rattle.dtx_values.specs.declared.entry.Entry.TheVariants.{Freed}
use Rattle.dtx_model.specs.Coordinated.{Coordinated, follow, may_free}
use Rattle.dtx_model.specs.Log.{first_of}
use Rattle.coordinator_log.specs.declared.refusal.LogRefusal.{LogRefusal}
use Rattle.coordinator_log.specs.declared.refusal.LogRefusal.TheVariants.{Stopped as Refused, StoppedNow as Broken, NoSuch}
use Rattle.world_parts.specs.AtLog.{IsFit}
use Rattle.world_parts.proofs.Fitting.{one_found}
use Rattle.world_parts.proofs.Keeping.{runs_still}
use Rattle.dtx_model.specs.Log.{CommitRecord, without_first_of}
use Rattle.coordinator_log.specs.Crash.{AllHoldEither}

pub records_of : (id i : ℕ) (rs ss : List CommitRecord) → i ≡ id → rs ≡ without_first_of i ss → rs ≡ without_first_of id ss
records_of id i rs ss e s = let P : ℕ → Type 0 = λ n. rs ≡ without_first_of n ss in subst P e s

pub images_of : (id i : ℕ) (image : List ℕ → Type 0) (ss : List CommitRecord) → i ≡ id → AllHoldEither image ss (without_first_of i ss) → AllHoldEither image ss (without_first_of id ss)
images_of id i image ss e s = let P : ℕ → Type 0 = λ n. AllHoldEither image ss (without_first_of n ss) in subst P e s

-- a free is refused for want of a record only of the identifier that was asked
pub lost_id : {A : Type 0} (r : Result A LogRefusal) (id x : ℕ) → r ≡ Err (NoSuch x) → IfErr r (λ e. (e ≡ Refused) ⊎ ((e ≡ NoSuch id) ⊎ (e ≡ Broken))) → r ≡ Err (NoSuch id)
lost_id (Ok y) id x a o = absurd cc
lost_id (Err e) id x a o = elim o [ inl p ↦ absurd cc | inr p ↦ elim p [ inl q ↦ ap (λ (f : LogRefusal). Err f) q | inr q ↦ absurd cc ] ]

-- an honest log has the record that is kept, and nothing is unsure
pub never_lost : (id : ℕ) (o : Option CommitRecord) (u : Bool) (rs : List CommitRecord) → is_some o ≡ true → u ≡ false → IsFit id o u rs → first_of id rs ≡ None → ⊥
never_lost id None u rs s n f g = absurd cc
never_lost id (Some r) u rs s n f g = clash (sym g ∙ one_found id (Some r) u rs n f)
  where
    clash : None ≡ Some r → ⊥
    clash e = absurd cc

-- a coordinator whose record was freed runs
pub freed_runs : (k j : Coordinated) → may_free k ≡ true → j ≡ follow k Freed → j.stopped ≡ true → ⊥
unfolding follow
freed_runs k j m e s = clash (sym (runs_still k m) ∙ sym (ap (λ (x : Coordinated). x.stopped) e) ∙ s)
  where
    clash : false ≡ true → ⊥
    clash e = absurd cc
