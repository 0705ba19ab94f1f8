-- A script's text, a line at a time.
use Rattle.std.proofs.Common.{◌≡◌, ◌+◌, ◌<◌, ℕ, List, [], ◌∷◌, ◌++◌, length, take, get_or, ap, sym, ◌∙◌, append_assoc}
use Rattle.std.proofs.lemmas.List.{append-nil, take_more}
use Rattle.dtx_values.specs.declared.script.Line.{Line}
use Rattle.dtx_model.specs.Grammar.{line_text, script_text}

-- one line more
text-snoc : (xs : List Line) (l : Line) → script_text (xs ++ l ∷ []) ≡ script_text xs ++ line_text l
text-snoc [] l = append-nil (line_text l)
text-snoc (x ∷ xs) l = ap (λ (t : List ℕ). line_text x ++ t) (text-snoc xs l) ∙ sym (append_assoc (line_text x) (script_text xs) (line_text l))

-- a loop's step from line k
pub text-step : (xs : List Line) (k : ℕ) (l : Line) → k < length xs → l ≡ get_or xs k l → script_text (take (k + 1) xs) ≡ script_text (take k xs) ++ line_text l
text-step xs k l h e = ap script_text (take_more xs k l h ∙ ap (λ (x : Line). take k xs ++ x ∷ []) (sym e)) ∙ text-snoc (take k xs) l
