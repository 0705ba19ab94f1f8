-- The faults of words, place by place.
use Rattle.std.proofs.Common.{◌≡◌, ℕ, true, false, List, [], ◌∷◌, refl, Some, None, ◌∙◌, ap}
use Rattle.dtx_values.specs.declared.script.BadCause.{BadCause}
use Rattle.dtx_values.specs.declared.script.BadCause.TheVariants.{MissingWord}
use Rattle.dtx_model.specs.Faults.{Pattern, allows}
use Rattle.script_words.specs.Places.{IsAt, place_fault, cause_of, is_numbered, tail}

-- no word is there
pub missing : (s : Pattern) (old : List (List ℕ)) → old ≡ [] → place_fault s old ≡ Some MissingWord
unfolding place_fault
missing s old e = rw e refl

-- the word may not stand there
pub misplaced : (s : Pattern) (old : List (List ℕ)) (w : List ℕ) (new : List (List ℕ)) (c : BadCause) → old ≡ w ∷ new → allows s w ≡ false → c ≡ cause_of s.letters (is_numbered s.number) w
    → place_fault s old ≡ Some c
unfolding place_fault
misplaced s old w new c e n k = rw (e, n, k) refl

-- the word may stand there
allowed : (s : Pattern) (w : List ℕ) (new : List (List ℕ)) → allows s w ≡ true → place_fault s (w ∷ new) ≡ None
unfolding place_fault
allowed s w new n = rw n refl

-- a word that may stand there is taken
pub taken : (s : Pattern) (old : List (List ℕ)) (v w : List ℕ) (new : List (List ℕ)) → old ≡ v ∷ new → v ≡ w → allows s w ≡ true → IsAt s old w new
taken s old v w new e k n =
    let whole : old ≡ w ∷ new = cc in
    (whole, ap (place_fault s) whole ∙ allowed s w new n, ap tail whole)
