use Rattle.std.proofs.Common.{◌≡◌, ◌∙◌, Option, Some, None, IfSome, refl, subst, sym}
use Rattle.world_parts.proofs.managers.manager_of.Goals as goal

-- what holds of each that is there holds where none is
of_none : {A : Type 0} (P : A → Type 0) {o : Option A} → o ≡ None → IfSome o P
of_none {A} P {o} e = subst (λ (x : Option A). IfSome x P) (sym e) tt

-- and of the one that is there
of_some : {A : Type 0} (P : A → Type 0) {o : Option A} (x : A) → o ≡ Some x → P x → IfSome o P
of_some {A} P {o} x e p = subst (λ (y : Option A). IfSome y P) (sym e) p

pub returns-in-Some : goal.returns-in-Some
returns-in-Some c = of_some _ c.in-Some.b (sym c.branch_of.ensures ∙ c.in-Some.is) refl

pub returns-in-None : goal.returns-in-None
returns-in-None c = of_none _ (sym c.branch_of.ensures ∙ c.in-None.is)
