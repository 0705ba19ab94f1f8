-- Words without spaces.
use Rattle.std.proofs.Common.{◌≡◌, ℕ, ◌^◌, ◌<◌, ◌≤◌, ◌==◌, ◌&&◌, ◌||◌, Bool, true, List, [], ◌∷◌, refl, subst, arith, Option, Some, None}
use Rattle.std.specs.Prelude.{nat_le}
use Rattle.std.proofs.lemmas.Bool.Decides.{nat_tests}
use Rattle.dtx_values.specs.declared.number.TheConstants.EnlNo.{MAX as ENLISTMENTS}
use Rattle.dtx_model.specs.Words.{has, each}
use Rattle.dtx_model.specs.Grammar.{is_from}
use Rattle.dtx_model.specs.Faults.{Pattern, allows, is_name, is_number, same_bytes, writes, line_forms}
use Rattle.dtx_model.proofs.Bools.{and_both, and_left, and_right, or_case}
use Rattle.line_tail.proofs.SameBytes.{same_bytes-equal}
use Rattle.script_words.proofs.Numbers.{to_high, writes_one}
use Rattle.line_reader.proofs.Figures.{clean_decimal}
use Rattle.line_reader.proofs.WordFaults.{fits, fits_some}

-- no byte of the word is a space or none that a line may have
abbrev pub is_clean : List ℕ → Bool
is_clean w = each (λ b. is_from 33 126 b) w

-- a number that stands there is no larger than a timeout can be
abbrev has_small_numbers : Option (ℕ × ℕ) → Bool
has_small_numbers (Some r) = nat_le r.1 4294967295
has_small_numbers None = true

-- the place allows clean words only
abbrev is_clean_pattern : Pattern → Bool
is_clean_pattern s = each is_clean s.words && (each (λ b. is_from 33 126 b) s.letters && (nat_le s.most ENLISTMENTS && has_small_numbers s.number))

-- what is the same as a clean word is clean
clean_same : (w : List ℕ) (vs : List (List ℕ)) → each is_clean vs ≡ true → has (same_bytes w) vs ≡ true → is_clean w ≡ true
clean_same w [] h k = absurd (cc k)
clean_same w (v ∷ vs) h k =
    or_case (same_bytes w v) (has (same_bytes w) vs) (λ e. rw (same_bytes-equal w v e) (and_left _ _ h)) (clean_same w vs (and_right _ _ h)) k

-- what is one of some clean bytes is clean
clean_letter : (b : ℕ) (cs : List ℕ) → each (λ b. is_from 33 126 b) cs ≡ true → has (λ c. b == c) cs ≡ true → is_from 33 126 b ≡ true
clean_letter b [] h k = absurd (cc k)
clean_letter b (c ∷ cs) h k =
    or_case (b == c) (has (λ c. b == c) cs) (λ e. let q : b ≡ c = grind (arith, nat_tests) in rw q (and_left _ _ h)) (clean_letter b cs (and_right _ _ h)) k

-- numbers that aren't large are written by clean bytes
clean_written : (low high : ℕ) (w : List ℕ) → nat_le high 4294967295 ≡ true → writes low high w ≡ true → is_clean w ≡ true
clean_written low high w h k =
    let n = writes_one low high w k in
    let below : high ≤ 4294967295 = grind (arith, nat_tests) in
    let small : n.0.0 < 2 ^ 32 = omega (arith, to_high low high n.0.0 n.0.1) in
    subst (λ (v : List ℕ). is_clean v ≡ true) n.1 (clean_decimal n.0.0 small)

-- a name is clean
clean_name : (s : Pattern) (w : List ℕ) → each (λ b. is_from 33 126 b) s.letters ≡ true → nat_le s.most ENLISTMENTS ≡ true → is_name s w ≡ true → is_clean w ≡ true
clean_name s [] h k e = absurd (cc e)
clean_name s (b ∷ bs) h k e =
    let most : nat_le s.most 4294967295 ≡ true = grind (arith, nat_tests) in
    let first = clean_letter b s.letters h (and_left _ _ e) in
    and_both (is_from 33 126 b) (is_clean bs) first (clean_written 1 s.most bs most (and_right _ _ e))

-- so is a number
clean_number : (o : Option (ℕ × ℕ)) (w : List ℕ) → has_small_numbers o ≡ true → is_number o w ≡ true → is_clean w ≡ true
clean_number (Some r) w h e = clean_written r.0 r.1 w h e
clean_number None w h e = absurd (cc e)

-- so what such a place allows is clean
clean_word : (s : Pattern) (w : List ℕ) → is_clean_pattern s ≡ true → allows s w ≡ true → is_clean w ≡ true
clean_word s w h k =
    let rest = and_right _ _ h in
    let numbers = and_right _ _ rest in
    let named = clean_name s w (and_left _ _ rest) (and_left _ _ numbers) in
    let by_words = or_case (has (same_bytes w) s.words) (is_name s w) (clean_same w s.words (and_left _ _ h)) named in
    or_case (has (same_bytes w) s.words || is_name s w) (is_number s.number w) by_words (clean_number s.number w (and_right _ _ numbers)) k

-- words that fill a form of such places are clean
clean_form : (f : List Pattern) (ws : List (List ℕ)) → each is_clean_pattern f ≡ true → fits f ws ≡ true → each is_clean ws ≡ true
clean_form [] [] h k = refl
clean_form [] (w ∷ ws) h k = absurd (cc k)
clean_form (s ∷ f) [] h k = absurd (cc k)
clean_form (s ∷ f) (w ∷ ws) h k =
    and_both (is_clean w) (each is_clean ws) (clean_word s w (and_left _ _ h) (and_left _ _ k)) (clean_form f ws (and_right _ _ h) (and_right _ _ k))

-- where words fill one of some forms of such places, they are clean
clean_some : (forms : List (List Pattern)) (ws : List (List ℕ)) → each (λ f. each is_clean_pattern f) forms ≡ true → fits_some forms ws ≡ true → each is_clean ws ≡ true
clean_some [] ws h k = absurd (cc k)
clean_some (f ∷ fs) ws h k = or_case (fits f ws) (fits_some fs ws) (clean_form f ws (and_left _ _ h)) (clean_some fs ws (and_right _ _ h)) k

-- words that fill the form of a line are clean
pub clean_line : (ws : List (List ℕ)) → fits_some line_forms ws ≡ true → each is_clean ws ≡ true
clean_line ws h = clean_some line_forms ws refl h
