-- A history is its list, reversed.
use Rattle.std.proofs.Common.{◌≡◌, Bool, true, List, [], ◌∷◌, length, reverse, refl, ap, ◌∙◌}
use Rattle.std.proofs.lemmas.List.{length-reverse}
use mathlib.Core.List.{reverse_aux}
use Rattle.dtx_model.specs.Words.{always, onto, past_of}
use Rattle.dtx_model.proofs.Bools.{and_right}

-- a block that is put behind others is it reversed, with the others
pub onto-reverse : {E : Type 0} (h xs : List E) → onto h xs ≡ reverse_aux xs h
onto-reverse h [] = refl
onto-reverse h (x ∷ xs) = onto-reverse (x ∷ h) xs

-- the history of a list is it reversed
pub past-reverse : {E : Type 0} (xs : List E) → past_of xs ≡ reverse xs
past-reverse xs = onto-reverse [] xs

-- a history is as long as its list
pub length-past : {E : Type 0} (xs : List E) → length (past_of xs) ≡ length xs
length-past xs = ap length (past-reverse xs) ∙ length-reverse xs

-- what holds of each with those before it, with others after, held before
pub always-before : {E : Type 0} (t : List E → E → Bool) (h xs : List E) → always t (onto h xs) ≡ true → always t h ≡ true
always-before t h [] k = k
always-before t h (x ∷ xs) k = and_right (t h x) (always t h) (always-before t (x ∷ h) xs k)
