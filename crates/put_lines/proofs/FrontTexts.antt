-- The texts of the lines before the script.
use Rattle.std.proofs.Common.{◌≡◌, ℕ, ◌+◌, ◌^◌, ◌<◌, ◌≤◌, true, List, [], ◌∷◌, ◌++◌, length, refl, ap, sym, ◌∙◌, arith, append_assoc, length-append, codes, decimal}
use Rattle.std.specs.List.{join_with_byte}
use Rattle.std.specs.Str.Parse.{AllDigits}
use Rattle.std.proofs.lemmas.Bool.Decides.{nat_tests}
use Rattle.std.proofs.lemmas.Fmt.{digits_decimal, decimal_injective, length-decimal-le}
use Rattle.std.proofs.lemmas.Str.Parse.{digit_from_value}
use Rattle.dtx_values.proofs.SameNumbers.{same_enlistment, same_transaction}
use Rattle.dtx_model.specs.Words.{each}
use Rattle.dtx_model.specs.Grammar.{enlistment_name, is_from, transaction_name}
use Rattle.dtx_model.specs.Faults.{allows, front, number, words_of}
use Rattle.dtx_model.proofs.Bools.{and_both, and_left, and_right}
use Rattle.dtx_model.proofs.Digits.{own}
use Rattle.line_reader.proofs.CleanWords.{is_clean}
use Rattle.line_reader.proofs.LineTexts.{behind_front, behind_text, front_text as front_of_text, is_text, join_words, text_words, words_joined}
use Rattle.line_reader.proofs.WordFaults.{fits_some}
use Rattle.script_words.proofs.Numbers.{to_high, writes-decimal}
use Rattle.script_words.proofs.Patterns.{allows-number, enlistment_allowed, number_allowed, transaction_allowed}
use Rattle.heard_notes.specs.declared.put.Put.{Put}
use Rattle.put_lines.specs.Input.{is_put_in_range, put_forms, put_text}
use Rattle.put_lines.specs.FrontLine.{front_line_text, front_words_of, is_front_in_range, put_words}
use Rattle.put_lines.specs.declared.words.FrontLine.{FrontLine}
use Rattle.put_lines.specs.declared.words.FrontLine.TheVariants.{Put as APut, Script}

-- a value may stand at its place
pub value_allowed : (n : ℕ) → is_from 0 18446744073709551615 n ≡ true → allows (number 0 18446744073709551615) (decimal n) ≡ true
value_allowed n k =
    let below = to_high 0 18446744073709551615 n k in
    allows-number 0 18446744073709551615 (decimal n) true (writes-decimal 0 18446744073709551615 n (omega arith) k)

-- a number of a range is in it
pub in_range : (low high n : ℕ) → low ≤ n → n ≤ high → is_from low high n ≡ true
in_range low high n h k = grind (arith, nat_tests)

-- digits are bytes without space
clean_digits : (ds : List ℕ) → AllDigits 10 ds → is_clean ds ≡ true
clean_digits [] d = refl
clean_digits (x ∷ xs) d =
    let r = digit_from_value x d.0 in
    and_both (is_from 33 126 x) (is_clean xs) (in_range 33 126 x (omega arith) (omega arith)) (clean_digits xs d.1)

-- a number's text is clean
clean_number : (n : ℕ) → n < 2 ^ 64 → is_clean (decimal n) ≡ true
clean_number n h = clean_digits (decimal n) (digits_decimal own n h)

-- a put's key and value are numbers of their sizes
pub key_small : (p : Put) → is_put_in_range p ≡ true → p.key ≤ 4294967295
key_small p h = to_high 0 4294967295 p.key (and_left _ _ h)

pub value_small : (p : Put) → is_put_in_range p ≡ true → p.value ≤ 18446744073709551615
value_small p h = to_high 0 18446744073709551615 p.value (and_right (is_from 0 4294967295 p.key) _ h)

-- the words of a put are clean
clean_put : (p : Put) → is_put_in_range p ≡ true → each is_clean (put_words p) ≡ true
clean_put p h =
    let k = key_small p h in
    let v = value_small p h in
    and_both (is_clean (transaction_name p.transaction.value)) _ (clean_number p.transaction.value (omega arith))
    (and_both (is_clean (enlistment_name p.enlistment.value)) _ (clean_number p.enlistment.value (omega arith))
    (and_both (is_clean (decimal p.key)) _ (clean_number p.key (omega arith))
    (and_both (is_clean (decimal p.value)) true (clean_number p.value (omega arith)) refl)))

-- so are those of each line
pub clean_front : (l : FrontLine) → is_front_in_range l ≡ true → each is_clean (front_words_of l) ≡ true
clean_front (APut p) h = clean_put p h
clean_front Script h = refl

-- the words of a put fill its form
put_fits : (p : Put) → is_put_in_range p ≡ true → fits_some put_forms (put_words p) ≡ true
put_fits p h =
    let k = number_allowed 0 4294967295 p.key (omega arith) (and_left _ _ h) in
    let v = value_allowed p.value (and_right (is_from 0 4294967295 p.key) _ h) in
    rw (transaction_allowed p.transaction, enlistment_allowed p.enlistment, k, v) refl

-- so do those of each line
pub front_fits : (l : FrontLine) → is_front_in_range l ≡ true → fits_some put_forms (front_words_of l) ≡ true
front_fits (APut p) h = put_fits p h
front_fits Script h = refl

-- nine texts, one after another
regroup : (a b c d e f g h k : List ℕ) → (((((((a ++ b) ++ c) ++ d) ++ e) ++ f) ++ g) ++ h) ++ k ≡ a ++ (b ++ (c ++ (d ++ (e ++ (f ++ (g ++ (h ++ k)))))))
regroup a b c d e f g h k = simp append_assoc

-- words that are joined, and what follows them
unjoin : (a b c d k : List ℕ) → (a ++ 32 ∷ 101 ∷ (b ++ 32 ∷ (c ++ 32 ∷ d))) ++ k ≡ a ++ 32 ∷ 101 ∷ (b ++ 32 ∷ (c ++ 32 ∷ (d ++ k)))
unjoin a b c d k =
    append_assoc a (32 ∷ 101 ∷ (b ++ 32 ∷ (c ++ 32 ∷ d))) k
    ∙ ap (λ t. a ++ 32 ∷ 101 ∷ t) (append_assoc b (32 ∷ (c ++ 32 ∷ d)) k ∙ ap (λ t. b ++ 32 ∷ t) (append_assoc c (32 ∷ d) k))

-- the text of a put is its words, joined
put_text-words : (p : Put) → put_text p ≡ join_with_byte 32 (put_words p) ++ 10 ∷ []
put_text-words p =
    regroup (codes "put t") (decimal p.transaction.value) (codes " e") (decimal p.enlistment.value) (codes " ") (decimal p.key) (codes " ") (decimal p.value) (10 ∷ [])
    ∙ ap (λ t. codes "put t" ++ t) (sym (unjoin (decimal p.transaction.value) (decimal p.enlistment.value) (decimal p.key) (decimal p.value) (10 ∷ [])))

-- so is that of each line
pub front_text-words : (l : FrontLine) → front_line_text l ≡ join_with_byte 32 (front_words_of l) ++ 10 ∷ []
front_text-words (APut p) = put_text-words p
front_text-words Script = refl

-- what follows a line stands after its LF
pub front_text-append : (l : FrontLine) (after : List ℕ) → front_line_text l ++ after ≡ join_with_byte 32 (front_words_of l) ++ 10 ∷ after
front_text-append l after = ap (λ t. t ++ after) (front_text-words l) ∙ append_assoc (join_with_byte 32 (front_words_of l)) (10 ∷ []) after

-- the bytes before its LF
front_bytes : (l : FrontLine) (text : List ℕ) → words_of text ≡ front_words_of l → text ≡ join_with_byte 32 (front_words_of l)
front_bytes l text w = sym (join_words text) ∙ ap (join_with_byte 32) w

-- bytes begin with the line whose words stand before their first LF
pub spelled_front : (l : FrontLine) (bytes text after : List ℕ) → bytes ≡ text ++ 10 ∷ after → words_of text ≡ front_words_of l → bytes ≡ front_line_text l ++ after
spelled_front l bytes text after e w = e ∙ ap (λ t. t ++ 10 ∷ after) (front_bytes l text w) ∙ sym (front_text-append l after)

-- the length of the line
pub length-front_text : (l : FrontLine) (text : List ℕ) → words_of text ≡ front_words_of l → length (front_line_text l) ≡ length text + 1
length-front_text l text w =
    omega (arith, ap length (front_text-words l), length-append (join_with_byte 32 (front_words_of l)) (10 ∷ []), ap length (front_bytes l text w))

-- its bytes are a text
pub front_is_text : (l : FrontLine) → is_front_in_range l ≡ true → is_text (join_with_byte 32 (front_words_of l)) ≡ true
front_is_text l h = text_words (front_words_of l) (clean_front l h)

-- it is the front
pub front_line_front : (l : FrontLine) (after : List ℕ) → is_front_in_range l ≡ true → front (front_line_text l ++ after) ≡ join_with_byte 32 (front_words_of l)
front_line_front l after h = ap front (front_text-append l after) ∙ front_of_text (join_with_byte 32 (front_words_of l)) after (front_is_text l h)

-- what follows is after it
pub front_line_behind : (l : FrontLine) (after : List ℕ) → is_front_in_range l ≡ true → behind_front (front_line_text l ++ after) ≡ after
front_line_behind l after h = ap behind_front (front_text-append l after) ∙ behind_text (join_with_byte 32 (front_words_of l)) after (front_is_text l h)

-- the words are those of the joined text
rejoined : (l : FrontLine) → is_front_in_range l ≡ true → words_of (join_with_byte 32 (front_words_of l)) ≡ front_words_of l
rejoined (APut p) h = words_joined 112 (117 ∷ 116 ∷ []) _ (clean_put p h)
rejoined Script h = words_joined 115 (codes "cript") [] refl

-- the front has its words
pub front_line_words : (l : FrontLine) (after : List ℕ) → is_front_in_range l ≡ true → words_of (front (front_line_text l ++ after)) ≡ front_words_of l
front_line_words l after h = ap words_of (front_line_front l after h) ∙ rejoined l h

-- the first words of two equal lists
first : {a b : List ℕ} {x y : List (List ℕ)} → a ∷ x ≡ b ∷ y → a ≡ b
first {b} e = ap first_of e
  where
    first_of : List (List ℕ) → List ℕ
    first_of [] = b
    first_of (w ∷ ws) = w

-- the rest of two equal lists
behind_first : {a b : List ℕ} {x y : List (List ℕ)} → a ∷ x ≡ b ∷ y → x ≡ y
behind_first e = ap rest_of e
  where
    rest_of : List (List ℕ) → List (List ℕ)
    rest_of [] = []
    rest_of (w ∷ ws) = ws

-- numbers of names with one text are one
named : (letter m n : ℕ) → m < 2 ^ 64 → n < 2 ^ 64 → letter ∷ decimal m ≡ letter ∷ decimal n → m ≡ n
named letter m n h k e =
    let rest : decimal m ≡ decimal n = cc in
    decimal_injective m n h k rest

-- puts of the same names, key and value are one
same_fields : (p q : Put) → p.transaction ≡ q.transaction → p.enlistment ≡ q.enlistment → p.key ≡ q.key → p.value ≡ q.value → p ≡ q
same_fields p q t e k v = λ i. record { transaction = t i; enlistment = e i; key = k i; value = v i }

-- puts with the same words are one
same_put : (p q : Put) → is_put_in_range p ≡ true → is_put_in_range q ≡ true → put_words p ≡ put_words q → p ≡ q
same_put p q h k e =
    let behind = behind_first e in
    let numbers = behind_first (behind_first behind) in
    let pk = key_small p h in
    let qk = key_small q k in
    let pv = value_small p h in
    let qv = value_small q k in
    same_fields p q
    (same_transaction p.transaction q.transaction (named 116 p.transaction.value q.transaction.value (omega arith) (omega arith) (first behind)))
    (same_enlistment p.enlistment q.enlistment (named 101 p.enlistment.value q.enlistment.value (omega arith) (omega arith) (first (behind_first behind))))
    (decimal_injective p.key q.key (omega arith) (omega arith) (first numbers))
    (decimal_injective p.value q.value (omega arith) (omega arith) (first (behind_first numbers)))

-- bytes begin with one put only
pub same_first_put : (p q : Put) (a b : List ℕ) → is_put_in_range p ≡ true → is_put_in_range q ≡ true → put_text p ++ a ≡ put_text q ++ b → (p ≡ q) × (a ≡ b)
same_first_put p q a b h k e = (
  same_put p q h k (sym (front_line_words (APut p) a h) ∙ ap (λ t. words_of (front t)) e ∙ front_line_words (APut q) b k),
  sym (front_line_behind (APut p) a h) ∙ ap behind_front e ∙ front_line_behind (APut q) b k,
)

-- a put's line isn't too long before its LF
short_put : (p : Put) → is_put_in_range p ≡ true → length (join_with_byte 32 (put_words p)) ≤ 200
short_put p h =
    let k = key_small p h in
    let v = value_small p h in
    let a = number_short p.transaction.value (omega arith) in
    let b = number_short p.enlistment.value (omega arith) in
    let c = number_short p.key (omega arith) in
    let d = number_short p.value (omega arith) in
    simp length-append (omega arith)
  where
    number_short : (n : ℕ) → n < 2 ^ 64 → length (decimal n) ≤ 20
    number_short n h = length-decimal-le 20 n (omega arith) (omega arith) h

-- no line before the script is too long
pub short_front : (l : FrontLine) → is_front_in_range l ≡ true → length (join_with_byte 32 (front_words_of l)) ≤ 200
short_front (APut p) h = short_put p h
short_front Script h = omega arith
