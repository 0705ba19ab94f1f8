-- Texts cut at a separator.
use Rattle.std.specs.Prelude.{ℕ, ◌≡◌, ◌==◌, false, List, [], ◌∷◌, if◌then◌else◌}
use Rattle.dtx_model.specs.Words.{has}

-- no byte is c
abbrev pub IsWithout : ℕ → List ℕ → Type 0
IsWithout c bs = has (λ b. b == c) bs ≡ false

-- what comes before the first c
abbrev pub front : ℕ → List ℕ → List ℕ
front c [] = []
front c (x ∷ xs) = if x == c then [] else x ∷ front c xs

-- what comes after it
abbrev pub behind : ℕ → List ℕ → List ℕ
behind c [] = []
behind c (x ∷ xs) = if x == c then xs else behind c xs
