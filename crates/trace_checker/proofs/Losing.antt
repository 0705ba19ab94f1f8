-- What a history loses with its newest entry.
use Rattle.std.proofs.Common.{◌≡◌, Bool, true, false, ◌||◌, List, ◌∷◌, ap, ◌∙◌, refl}
use Rattle.dtx_values.specs.declared.entry.Entry.{Entry}
use Rattle.dtx_model.specs.Outcome.{is_first_veto, is_just, justified, vetoed}
use Rattle.dtx_model.proofs.Bools.{and_both}

pub not_just : (h : List Entry) (x : Entry) → is_just h x ≡ false → justified (x ∷ h) ≡ false
unfolding justified
not_just h x e = rw e refl

pub still_just : (h : List Entry) (x : Entry) → is_just h x ≡ true → justified h ≡ true → justified (x ∷ h) ≡ true
unfolding justified
still_just h x e k = and_both (is_just h x) (justified h) e k

or_turned : (a b : Bool) → (a || b) ≡ (b || a)
or_turned true true = refl
or_turned true false = refl
or_turned false true = refl
or_turned false false = refl

pub vetoed_more : (h : List Entry) (x : Entry) (v r : Bool) → v ≡ vetoed h → r ≡ is_first_veto h x → (v || r) ≡ vetoed (x ∷ h)
unfolding vetoed
vetoed_more h x v r p q = or_turned v r ∙ (ap (λ b. b || v) q ∙ ap (λ b. is_first_veto h x || b) p)

pub ruleset losing = (not_just, still_just)
