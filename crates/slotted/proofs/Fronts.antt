-- Lists in a record, whose elements are read one after the other.
use Rattle.std.proofs.Common.{◌≡◌, ℕ, List, [], ◌∷◌, ◌++◌, Result, Ok, Err, refl, ap, append_assoc}
use Rattle.dtx_model.specs.Log.{◌>>=◌}

-- what was read before, in front of what is still read
abbrev pub with_front : {A : Type 0} → List A → Result (List A × List ℕ) ℕ → Result (List A × List ℕ) ℕ
with_front front read = read >>= λ x. Ok (front ++ x.0, x.1)

-- one more that was read goes to the end of the front
pub regroup : {A : Type 0} (front : List A) (p : A) (read : Result (List A × List ℕ) ℕ) → with_front front (read >>= λ x. Ok (p ∷ x.0, x.1)) ≡ with_front (front ++ p ∷ []) read
regroup {A} front p (Ok x) = ap (λ (ps : List A). Ok (ps, x.1)) (simp append_assoc)
regroup front p (Err f) = refl
