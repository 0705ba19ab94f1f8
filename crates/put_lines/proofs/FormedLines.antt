-- The line at the front of bytes, by any forms.
use Rattle.std.proofs.Common.{◌≡◌, ℕ, ◌+◌, ◌≤◌, ◌<◌, Bool, true, false, List, ◌∷◌, ◌++◌, length, refl, sym, arith, Some, if◌then◌else◌, nat_lt}
use Rattle.std.specs.Prelude.{not}
use Rattle.std.proofs.lemmas.Bool.Decides.{nat_tests}
use Rattle.dtx_values.specs.declared.limits.TheConstants.{LINE_BYTES, SCRIPT_BYTES}
use Rattle.dtx_values.specs.declared.script.BadCause.TheVariants.{TooLong, LongLine, NoNewline, BadByte}
use Rattle.dtx_model.specs.Words.{each}
use Rattle.dtx_model.specs.Grammar.{is_from}
use Rattle.dtx_model.specs.Faults.{Pattern, reach, words_of, form_fault, word_fault, line_forms}
use Rattle.line_tail.specs.Cut.{IsWithout}
use Rattle.line_reader.proofs.Fronts.{IsFront, cut_front, whole_front}
use Rattle.put_lines.specs.Input.{form_fault_by}

-- a test of what isn't less
pub not_less : (m n : ℕ) → n ≤ m → nat_lt m n ≡ false
not_less m n h = grind (arith, nat_tests)

-- and of what is
pub less : (m n : ℕ) → m < n → nat_lt m n ≡ true
less m n h = grind (arith, nat_tests)

-- the line reaches too far
pub too_long : (fs : List (List Pattern)) (taken : ℕ) (bs t : List ℕ) (n : ℕ) (l : Bool) → IsFront bs t n l → SCRIPT_BYTES < taken + n → form_fault_by fs taken bs ≡ Some TooLong
unfolding form_fault_by
too_long fs taken bs t n l f k = rw (f.text, f.newline, sym f.reached, less SCRIPT_BYTES (taken + n) k) refl

-- it has too many bytes
pub long_line : (fs : List (List Pattern)) (taken : ℕ) (bs t : List ℕ) (n : ℕ) (l : Bool) → IsFront bs t n l → taken + n ≤ SCRIPT_BYTES → LINE_BYTES < length t → form_fault_by fs taken bs ≡ Some LongLine
unfolding form_fault_by
long_line fs taken bs t n l f k m = rw (f.text, f.newline, sym f.reached, not_less SCRIPT_BYTES (taken + n) k, less LINE_BYTES (length t) m) refl

-- its LF isn't there
pub no_newline : (fs : List (List Pattern)) (taken : ℕ) (bs : List ℕ) → IsWithout 10 bs → taken + length bs ≤ SCRIPT_BYTES → length bs ≤ LINE_BYTES → form_fault_by fs taken bs ≡ Some NoNewline
unfolding form_fault_by
no_newline fs taken bs h k m =
    let f = whole_front bs h in
    rw (f.text, f.newline, sym f.reached, not_less SCRIPT_BYTES (taken + length bs) k, not_less LINE_BYTES (length bs) m) refl

-- of two things the one that a test says, turned
not_turn : {A : Type 0} (b : Bool) (x y : A) → (if not b then y else x) ≡ (if b then x else y)
not_turn true x y = refl
not_turn false x y = refl

-- a byte isn't printed, or only the words are left to look at
pub cut_line : (fs : List (List Pattern)) (taken : ℕ) (bs t r : List ℕ) (b : Bool) → bs ≡ t ++ 10 ∷ r → IsWithout 10 t → taken + length t + 1 ≤ SCRIPT_BYTES → length t ≤ LINE_BYTES → each (is_from 32 126) t ≡ b
    → form_fault_by fs taken bs ≡ (if b then word_fault fs (words_of t) else Some BadByte)
unfolding form_fault_by
cut_line fs taken bs t r b e h k m p =
    let f = cut_front bs t r e h in
    rw (f.text, f.newline, not_less SCRIPT_BYTES (taken + (length t + 1)) (omega arith), not_less LINE_BYTES (length t) m, p) (not_turn b _ _)

-- how far a line with its LF reaches
pub cut_reach : (bs t r : List ℕ) → bs ≡ t ++ 10 ∷ r → IsWithout 10 t → reach bs ≡ length t + 1
cut_reach bs t r e h =
    let f = cut_front bs t r e h in
    rw (f.text, f.newline) refl

-- what doesn't reach too far has the same fault after fewer bytes: that of a script's line
pub same_form : (taken own : ℕ) (rest : List ℕ) → taken + own + reach rest ≤ SCRIPT_BYTES → form_fault own rest ≡ form_fault_by line_forms (taken + own) rest
unfolding form_fault form_fault_by
same_form taken own rest h =
    rw (not_less SCRIPT_BYTES (own + reach rest) (omega arith), not_less SCRIPT_BYTES (taken + own + reach rest) h) refl
