-- A text has one trace.
use Rattle.std.proofs.Common.{◌≡◌, ℕ, suc, true, List, [], ◌∷◌, ◌++◌, map, length, length-append, decimal, refl, ap, sym, ◌∙◌, arith}
use Rattle.dtx_values.specs.declared.message.Info.{Info}
use Rattle.dtx_model.specs.Words.{each}
use Rattle.dtx_model.specs.Traces.{Placed}
use Rattle.dtx_model.specs.TraceText.{entry_text, lines_from, place_text, trace_line, trace_text}
use Rattle.dtx_model.proofs.Bools.{and_left, and_right}
use Rattle.line_tail.proofs.CutLemmas.{cut_same}
use Rattle.line_words.proofs.Without.{without_decimal}
use Rattle.trace_lines.specs.OneTrace.{is_carried_at, is_typed_at, named_at, told_at}
use Rattle.trace_lines.specs.Forms.{line_words}
use Rattle.trace_lines.proofs.CutWords.{place_apart}
use Rattle.trace_lines.proofs.LineEnds.{body_without, line-append, line_long}
use Rattle.trace_lines.proofs.TellEntries.{entry_of, entry_is, named_told}
use Rattle.trace_lines.proofs.TellPieces.{of_three, three_are}
use Rattle.trace_lines.proofs.TellWords.{place_of, place_is}

-- the place and the entry of a line, with this identifier and this recovery information in its message
abbrev line_of : ℕ → Info → List ℕ → Placed
line_of u i w = of_three (λ n p x. (p, x)) (λ n. n) place_of (entry_of u i) w

-- a line is read back
line_is : (u : ℕ) (i : Info) (n : ℕ) (x : Placed) → is_typed_at x ≡ true → line_of u i (line_words n x) ≡ named_at u i x
line_is u i n x h =
    three_are (λ n p y. (p, y)) (λ n. n) place_of (entry_of u i) (decimal n) x.0 _ (decimal n) (place_text x.0) (entry_text x.1) (without_decimal 32 n (omega arith)) (place_apart x.0) refl
    (place_is x.0) (entry_is u i x.1 h)

-- a text that begins with a line isn't empty
pub no_line : (n : ℕ) (x : Placed) (w : List ℕ) → [] ≡ trace_line n x ++ w → ⊥
no_line n x w e = omega (arith, ap length e, line_long n x, length-append (trace_line n x) w)

-- so lines of one text are read back alike
lines_one : (u : ℕ) (i : Info) (n : ℕ) (S T : List Placed) → each is_typed_at S ≡ true → each is_typed_at T ≡ true → lines_from n S ≡ lines_from n T → map (named_at u i) S ≡ map (named_at u i) T
lines_one u i n [] [] h k e = refl
lines_one u i n [] (y ∷ T) h k e = absurd (no_line n y (lines_from (suc n) T) e)
lines_one u i n (x ∷ S) [] h k e = absurd (no_line n x (lines_from (suc n) S) (sym e))
lines_one u i n (x ∷ S) (y ∷ T) h k e =
    let cut = cut_same 10 (line_words n x) (line_words n y) (lines_from (suc n) S) (lines_from (suc n) T) (body_without n x) (body_without n y)
    (sym (line-append n x (lines_from (suc n) S)) ∙ e ∙ line-append n y (lines_from (suc n) T)) in
    let first : named_at u i x ≡ named_at u i y =
    sym (line_is u i n x (and_left (is_typed_at x) (each is_typed_at S) h)) ∙ ap (line_of u i) cut.0 ∙ line_is u i n y (and_left (is_typed_at y) (each is_typed_at T) k) in
    let rest = lines_one u i (suc n) S T (and_right (is_typed_at x) (each is_typed_at S) h) (and_right (is_typed_at y) (each is_typed_at T) k) cut.1 in
    λ j. first j ∷ rest j

-- and traces
pub text_names : (S T : List Placed) (u : ℕ) (i : Info) → each is_typed_at S ≡ true → each is_typed_at T ≡ true → trace_text S ≡ trace_text T → map (named_at u i) S ≡ map (named_at u i) T
unfolding trace_text
text_names S T u i h k e = lines_one u i 1 S T h k e

-- messages that their connections carry are told by their names
all_told : (u : ℕ) (i : Info) (T : List Placed) → each is_carried_at T ≡ true → map (named_at u i) T ≡ map (told_at u i) T
all_told u i [] h = refl
all_told u i (x ∷ T) h =
    let first = named_told u i x.1 (and_left (is_carried_at x) (each is_carried_at T) h) in
    let rest = all_told u i T (and_right (is_carried_at x) (each is_carried_at T) h) in
    λ j. (x.0, first j) ∷ rest j

pub text_one : (S T : List Placed) (u : ℕ) (i : Info) → each is_typed_at S ≡ true → each is_typed_at T ≡ true → each is_carried_at S ≡ true → each is_carried_at T ≡ true
    → trace_text S ≡ trace_text T → map (told_at u i) S ≡ map (told_at u i) T
text_one S T u i h k a b e = sym (all_told u i S a) ∙ text_names S T u i h k e ∙ all_told u i T b
