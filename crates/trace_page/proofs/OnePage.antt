-- The trace of a page is what stands after its last bracket, up to what each page ends with.
use Rattle.std.proofs.Common.{◌≡◌, ℕ, suc, ◌==◌, ◌||◌, true, List, [], ◌∷◌, ◌++◌, append_assoc, cond, codes, refl, ap, sym, ◌∙◌}
use Rattle.std.proofs.lemmas.Bool.{eq-eqb, or_right}
use Rattle.std.proofs.lemmas.List.{append_cancel_right}
use Rattle.dtx_values.specs.declared.script.Line.{Line}
use Rattle.dtx_model.specs.Traces.{Placed}
use Rattle.dtx_model.specs.TraceText.{lines_from, trace_line, trace_text}
use Rattle.dtx_model.specs.Words.{has}
use Rattle.line_tail.specs.Cut.{IsWithout}
use Rattle.line_tail.proofs.CutLemmas.{without_append}
use Rattle.outcome_reasons.specs.Whys.{whys}
use Rattle.trace_lines.proofs.Plain.{line_unbracketed}
use Rattle.trace_page.specs.Page.{page, sections}
use Rattle.trace_page.specs.Style.{style}

-- what comes after the last q
abbrev after_last : ℕ → List ℕ → List ℕ
after_last q [] = []
after_last q (x ∷ xs) = cond (has (λ b. b == q) xs) (after_last q xs) xs

found : (q : ℕ) (xs ys : List ℕ) → has (λ b. b == q) (xs ++ q ∷ ys) ≡ true
found q [] ys = ap (λ b. b || has (λ c. c == q) ys) (itself q)
  where
    itself : (n : ℕ) → (n == n) ≡ true
    itself n = eq-eqb n n refl
found q (x ∷ xs) ys = or_right (x == q) (has (λ b. b == q) (xs ++ q ∷ ys)) (found q xs ys)

last_is : (q : ℕ) (xs ys : List ℕ) → IsWithout q ys → after_last q (xs ++ q ∷ ys) ≡ ys
last_is q [] ys k = rw k refl
last_is q (x ∷ xs) ys k = rw (found q xs ys) (last_is q xs ys k)

lines_unbracketed : (n : ℕ) (T : List Placed) → IsWithout 62 (lines_from n T)
lines_unbracketed n [] = refl
lines_unbracketed n (x ∷ xs) = without_append 62 (trace_line n x) (lines_from (suc n) xs) (line_unbracketed n x) (lines_unbracketed (suc n) xs)

trace_unbracketed : (T : List Placed) → IsWithout 62 (trace_text T)
unfolding trace_text
trace_unbracketed T = lines_unbracketed 1 T

-- a page is something, a bracket, the trace, and the end
abbrev before : List Line → List Placed → List ℕ
before s T = (style ++ sections s (whys s T) T) ++ codes "<pre"

parts : (s : List Line) (T : List Placed) → page s T ≡ (before s T ++ 62 ∷ trace_text T) ++ codes "</pre>\n"
unfolding page
parts s T =
    let all : List ℕ = sections s (whys s T) T in
    let end : List ℕ = codes "</pre>\n" in
    sym (append_assoc style all (codes "<pre>" ++ (trace_text T ++ end))) ∙ sym (append_assoc (style ++ all) (codes "<pre") (62 ∷ (trace_text T ++ end)))
    ∙ sym (append_assoc (before s T) (62 ∷ trace_text T) end)

pub one : (s r : List Line) (S T : List Placed) → page s S ≡ page r T → trace_text S ≡ trace_text T
one s r S T k =
    let same : before s S ++ 62 ∷ trace_text S ≡ before r T ++ 62 ∷ trace_text T =
    append_cancel_right (before s S ++ 62 ∷ trace_text S) (before r T ++ 62 ∷ trace_text T) (codes "</pre>\n") (sym (parts s S) ∙ k ∙ parts r T) in
    sym (last_is 62 (before s S) (trace_text S) (trace_unbracketed S)) ∙ ap (after_last 62) same ∙ last_is 62 (before r T) (trace_text T) (trace_unbracketed T)
