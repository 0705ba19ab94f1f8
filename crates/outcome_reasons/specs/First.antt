-- The first entry of a history that says something. A history stands newest first.
use Rattle.std.specs.Prelude.{ℕ, Bool, true, false, List, [], ◌∷◌, Option, Some, None, length}
use Rattle.std.specs.Option.{option_map}
use Rattle.dtx_model.specs.Words.{or_else}

-- what the first entry says that says anything, by what stands before it; and how many entries stand before it
abbrev pub first_of : {E A : Type 0} → (List E → E → Option A) → List E → Option (ℕ × A)
first_of f [] = None
first_of f (x ∷ past) = or_else (first_of f past) (option_map (λ a. (length past, a)) (f past x))

-- it says this, where it passes
abbrev pub when : {A : Type 0} → Bool → A → Option A
when true a = Some a
when false a = None

-- how many entries stand before the first one that passes
abbrev pub first_where : {E : Type 0} → (List E → E → Bool) → List E → Option ℕ
first_where t [] = None
first_where t (x ∷ past) = or_else (first_where t past) (when (t past x) (length past))
