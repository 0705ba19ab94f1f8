-- The pieces of a picture: lines and words.
use Rattle.std.specs.Prelude.{ℕ, List, [], ◌∷◌, codes}
use Rattle.reason_text.specs.Phrases.{phrases_text}
use Rattle.reason_text.specs.declared.phrases.Head.TheVariants.{Nothing, Number}

-- a line from one place to another
unfoldable pub line : List ℕ → (x1 y1 x2 y2 : ℕ) → List ℕ
line kind x1 y1 x2 y2 =
    phrases_text
    ((Nothing, codes "<path class=\"") ∷ (Nothing, kind) ∷ (Nothing, codes "\" d=\"M") ∷ (Number x1, codes " ") ∷ (Number y1, codes "L") ∷ (Number x2, codes " ") ∷ (Number y2, codes "\"/>") ∷ [])

-- where words begin
unfoldable pub words_at : List ℕ → (x y : ℕ) → List ℕ
words_at kind x y =
    phrases_text
    ((Nothing, codes "<text class=\"") ∷ (Nothing, kind) ∷ (Nothing, codes "\" x=\"") ∷ (Number x, codes "\" y=\"") ∷ (Number y, codes "\">") ∷ [])

-- and where they end
abbrev pub words_end : List ℕ
words_end = codes "</text>\n"

-- the box at the top of a lane
unfoldable pub title_box : List ℕ → ℕ → List ℕ
title_box kind x = phrases_text ((Nothing, codes "<rect class=\"") ∷ (Nothing, kind) ∷ (Nothing, codes "\" y=\"8\" width=\"100\" height=\"26\" x=\"") ∷ (Number x, codes "\"/>") ∷ [])
