-- The line at the front of bytes.
use Rattle.std.proofs.Common.{◌≡◌, ℕ, ◌+◌, ◌≤◌, ◌<◌, ◌==◌, Bool, true, false, List, [], ◌∷◌, ◌++◌, length, refl, ap, sym, ◌∙◌, arith, Some, append_assoc, if◌then◌else◌, nat_lt}
use Rattle.std.specs.Prelude.{not}
use Rattle.std.specs.List.{join_with_byte}
use Rattle.std.proofs.lemmas.Bool.Decides.{nat_tests}
use Rattle.dtx_values.specs.declared.limits.TheConstants.{LINE_BYTES, SCRIPT_BYTES}
use Rattle.dtx_values.specs.declared.script.BadCause.TheVariants.{TooLong, LongLine, NoNewline, BadByte}
use Rattle.dtx_values.specs.declared.script.Line.{Line}
use Rattle.dtx_model.specs.Words.{has, each}
use Rattle.dtx_model.specs.Grammar.{is_from, words, line_text}
use Rattle.dtx_model.specs.Faults.{front, has_newline, words_of, form_fault, word_fault, line_forms}
use Rattle.dtx_model.proofs.Bools.{or_first, or_second}
use Rattle.line_tail.specs.Cut.{IsWithout}
use Rattle.line_reader.proofs.LineTexts.{front_cut, newline_there, join_words}

-- bytes without LF are all in front
pub front_whole : (t : List ℕ) → IsWithout 10 t → front t ≡ t
front_whole [] h = refl
front_whole (b ∷ t) h = rw (or_first (b == 10) (has (λ x. x == 10) t) h, front_whole t (or_second (b == 10) _ h)) refl

-- how a line is cut: its text, and whether an LF is there
pub record IsFront (bs t : List ℕ) (n : ℕ) (l : Bool) : Type 0 where
  pub text : front bs ≡ t
  pub newline : has_newline bs ≡ l
  pub reached : n ≡ length t + (if l then 1 else 0)

-- bytes with an LF are cut at the first
pub cut_front : (bs t r : List ℕ) → bs ≡ t ++ 10 ∷ r → IsWithout 10 t → IsFront bs t (length t + 1) true
cut_front bs t r e h = record { text = rw e (front_cut t r h); newline = rw e (newline_there t r); reached = refl }

-- bytes without LF are not cut
pub whole_front : (bs : List ℕ) → IsWithout 10 bs → IsFront bs bs (length bs) false
whole_front bs h = record { text = front_whole bs h; newline = h; reached = omega arith }

-- the line reaches too far
pub too_long : (taken : ℕ) (bs t : List ℕ) (n : ℕ) (l : Bool) → IsFront bs t n l → SCRIPT_BYTES < taken + n → form_fault taken bs ≡ Some TooLong
unfolding form_fault
too_long taken bs t n l f k =
    let long : nat_lt SCRIPT_BYTES (taken + n) ≡ true = grind (arith, nat_tests) in
    rw (f.text, f.newline, sym f.reached, long) refl

-- it has too many bytes
pub long_line : (taken : ℕ) (bs t : List ℕ) (n : ℕ) (l : Bool) → IsFront bs t n l → taken + n ≤ SCRIPT_BYTES → LINE_BYTES < length t → form_fault taken bs ≡ Some LongLine
unfolding form_fault
long_line taken bs t n l f k m =
    let within : nat_lt SCRIPT_BYTES (taken + n) ≡ false = grind (arith, nat_tests) in
    let long : nat_lt LINE_BYTES (length t) ≡ true = grind (arith, nat_tests) in
    rw (f.text, f.newline, sym f.reached, within, long) refl

-- its LF isn't there
pub no_newline : (taken : ℕ) (bs : List ℕ) → IsWithout 10 bs → taken + length bs ≤ SCRIPT_BYTES → length bs ≤ LINE_BYTES → form_fault taken bs ≡ Some NoNewline
unfolding form_fault
no_newline taken bs h k m =
    let f = whole_front bs h in
    let within : nat_lt SCRIPT_BYTES (taken + length bs) ≡ false = grind (arith, nat_tests) in
    let short : nat_lt LINE_BYTES (length bs) ≡ false = grind (arith, nat_tests) in
    rw (f.text, f.newline, sym f.reached, within, short) refl

-- a byte isn't printed, or only the words are left to look at
pub cut_line : (taken : ℕ) (bs t r : List ℕ) (b : Bool) → bs ≡ t ++ 10 ∷ r → IsWithout 10 t → taken + length t + 1 ≤ SCRIPT_BYTES → length t ≤ LINE_BYTES → each (is_from 32 126) t ≡ b
    → form_fault taken bs ≡ (if b then word_fault line_forms (words_of t) else Some BadByte)
unfolding form_fault
cut_line taken bs t r b e h k m p =
    let f = cut_front bs t r e h in
    let within : nat_lt SCRIPT_BYTES (taken + (length t + 1)) ≡ false = grind (arith, nat_tests) in
    let short : nat_lt LINE_BYTES (length t) ≡ false = grind (arith, nat_tests) in
    rw (f.text, f.newline, within, short, p) (not_turn b _ _)
  where
    not_turn : {A : Type 0} (b : Bool) (x y : A) → (if not b then y else x) ≡ (if b then x else y)
    not_turn true x y = refl
    not_turn false x y = refl

-- bytes begin with the line whose words stand before their first LF
pub spelled_line : (l : Line) (bytes text after : List ℕ) → bytes ≡ text ++ 10 ∷ after → words_of text ≡ words l → bytes ≡ line_text l ++ after
spelled_line l bytes text after e w =
    let same : text ≡ join_with_byte 32 (words l) = sym (join_words text) ∙ ap (join_with_byte 32) w in
    e ∙ ap (λ t. t ++ 10 ∷ after) same ∙ sym (append_assoc (join_with_byte 32 (words l)) (10 ∷ []) after)
