-- Lines before the script that are read one after another.
use Rattle.std.proofs.Common.{◌≡◌, ℕ, ◌+◌, ◌-◌, ◌≤◌, true, List, [], ◌∷◌, ◌++◌, length, refl, ap, sym, ◌∙◌, arith, append_assoc, length-append}
use Rattle.std.proofs.lemmas.List.{append-nil}
use Rattle.dtx_values.specs.declared.limits.TheConstants.{SCRIPT_BYTES}
use Rattle.dtx_model.specs.Faults.{words_of}
use Rattle.dtx_model.proofs.Bools.{and_both, and_left, and_right}
use Rattle.heard_notes.specs.declared.put.Put.{Put}
use Rattle.put_lines.specs.Input.{HasFront, HasPuts, are_in_range, is_put_in_range, put_text, puts_text, script_line}
use Rattle.put_lines.specs.FrontLine.{BeginsWith, front_line_text, front_words_of, is_front_in_range}
use Rattle.put_lines.specs.declared.words.FrontLine.{FrontLine}
use Rattle.put_lines.specs.declared.words.FrontLine.TheVariants.{Put as APut, Script}
use Rattle.put_lines.proofs.FrontTexts.{front_text-words, length-front_text, spelled_front}

-- the bytes begin with the line that was read
pub begins : (taken : ℕ) (bytes text after : List ℕ) (l : FrontLine) → bytes ≡ text ++ 10 ∷ after → taken + length text + 1 ≤ SCRIPT_BYTES → words_of text ≡ front_words_of l → is_front_in_range l ≡ true
    → BeginsWith taken bytes l after
begins taken bytes text after l e k w h = record {
  text = spelled_front l bytes text after e w;
  in_range = h;
  within = omega (arith, length-front_text l text w);
}

-- the text of more puts
pub puts_text-append : (ps qs : List Put) → puts_text (ps ++ qs) ≡ puts_text ps ++ puts_text qs
puts_text-append [] qs = refl
puts_text-append (p ∷ ps) qs = ap (λ t. put_text p ++ t) (puts_text-append ps qs) ∙ sym (append_assoc (put_text p) (puts_text ps) (puts_text qs))

-- and of one more
puts_text-snoc : (ps : List Put) (p : Put) → puts_text (ps ++ p ∷ []) ≡ puts_text ps ++ put_text p
puts_text-snoc ps p = puts_text-append ps (p ∷ []) ∙ ap (λ t. puts_text ps ++ t) (append-nil (put_text p))

-- the numbers of one more are in their ranges
in_range-snoc : (ps : List Put) (p : Put) → are_in_range ps ≡ true → is_put_in_range p ≡ true → are_in_range (ps ++ p ∷ []) ≡ true
in_range-snoc [] p h k = and_both (is_put_in_range p) true k refl
in_range-snoc (q ∷ ps) p h k = and_both (is_put_in_range q) (are_in_range (ps ++ p ∷ [])) (and_left _ _ h) (in_range-snoc ps p (and_right (is_put_in_range q) _ h) k)

-- no puts yet
pub no_puts : (b : List ℕ) → HasPuts b [] b
no_puts b = record { bytes = refl; in_range = refl; within = omega arith }

-- how many bytes the puts have
pub taken_by : (b : List ℕ) (ps : List Put) (rest : List ℕ) → HasPuts b ps rest → length b - length rest ≡ length (puts_text ps)
taken_by b ps rest h = omega (arith, ap length h.bytes, length-append (puts_text ps) rest)

-- one put more
pub puts_more : (b : List ℕ) (ps : List Put) (rest : List ℕ) (p : Put) (after : List ℕ) → HasPuts b ps rest → BeginsWith (length b - length rest) rest (APut p) after → HasPuts b (ps ++ p ∷ []) after
puts_more b ps rest p after h k = record {
  bytes = h.bytes ∙ ap (λ t. puts_text ps ++ t) k.text ∙ sym (append_assoc (puts_text ps) (put_text p) after) ∙ ap (λ t. t ++ after) (sym (puts_text-snoc ps p));
  in_range = in_range-snoc ps p h.in_range k.in_range;
  within = omega (arith, taken_by b ps rest h, k.within, ap length (puts_text-snoc ps p), length-append (puts_text ps) (put_text p));
}

-- the line `script`
pub puts_end : (b : List ℕ) (ps : List Put) (rest after : List ℕ) → HasPuts b ps rest → BeginsWith (length b - length rest) rest Script after → HasFront b ps after
puts_end b ps rest after h k = record {
  bytes = h.bytes ∙ ap (λ t. puts_text ps ++ t) k.text ∙ sym (append_assoc (puts_text ps) script_line after);
  in_range = h.in_range;
  within = omega (arith, taken_by b ps rest h, k.within, length-append (puts_text ps) script_line);
}

-- puts have no more lines than bytes
pub length_puts : (ps : List Put) → length ps ≤ length (puts_text ps)
length_puts [] = omega arith
length_puts (p ∷ ps) = omega (arith, length_puts ps, length-append (put_text p) (puts_text ps), put_long p)
  where
    put_long : (p : Put) → 1 ≤ length (put_text p)
    put_long p = omega (arith, ap length (front_text-words (APut p)), length-append (front_line_text Script) [])

-- what has no bytes is nothing
pub nothing : (bs : List ℕ) → length bs ≡ 0 → bs ≡ []
nothing [] h = refl
nothing (b ∷ bs) h = absurd (omega arith)
