-- Where nothing is left, and where the log is as it was.
use Rattle.std.proofs.Common.{◌≡◌, Bool, true, false, IsTrue, List, [], ◌∷◌, None, refl, sym}
use Rattle.dtx_model.specs.Words.{kth}

-- where no step is the first, none is pending
pub none_first : {A : Type 0} (xs : List A) → kth xs 1 ≡ None → xs ≡ []
none_first [] e = refl
none_first (x ∷ xs) e = absurd (cc)

-- the log is as it was between two moments at which it is alike
pub up_between : (a b c : Bool) → (IsTrue b → IsTrue a) → (IsTrue c → IsTrue b) → c ≡ a → b ≡ a
up_between true true c h k e = refl
up_between true false c h k e = k e
up_between false true c h k e = sym (h refl)
up_between false false c h k e = refl
