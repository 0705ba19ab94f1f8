-- Longer inputs.
use Rattle.std.proofs.Common.{◌≡◌, ◌≢◌, ℕ, ◌+◌, ◌<◌, ◌≤◌, ◌==◌, Bool, true, false, List, [], ◌∷◌, ◌++◌, length, take, drop, refl, ap, sym, ◌∙◌, subst, arith, append_assoc, length-append, Some}
use Rattle.std.specs.Prelude.{nat_lt}
use Rattle.std.proofs.lemmas.Bool.Decides.{nat_tests}
use Rattle.std.proofs.lemmas.List.{length-drop, length-take, take-append-drop, append-nil}
use Rattle.dtx_values.specs.declared.limits.TheConstants.{SCRIPT_BYTES}
use Rattle.dtx_values.specs.declared.script.BadCause.{BadCause}
use Rattle.dtx_values.specs.declared.script.BadCause.TheVariants.{TooLong}
use Rattle.dtx_values.specs.declared.script.Line.{Line}
use Rattle.dtx_model.specs.Grammar.{script_text}
use Rattle.dtx_model.specs.Faults.{front, has_newline, reach, form_fault, words_of, IsBadFor, ByForm, ByNames, Bad}
use Rattle.script_text.proofs.GoodLines.{none_formed}

-- what begins with something isn't empty
nonempty-append : (xs ys : List ℕ) → xs ≢ [] → xs ++ ys ≢ []
nonempty-append [] ys h e = h refl
nonempty-append (x ∷ xs) ys h e = cc e

-- the front of bytes with an LF is that of more bytes
front_more : (bs more : List ℕ) → has_newline bs ≡ true → front (bs ++ more) ≡ front bs
front_more [] more h = absurd (cc h)
front_more (b ∷ bs) more h = by (b == 10) refl (front_more bs more)
  where
    by : (k : Bool) → (b == 10) ≡ k → (has_newline bs ≡ true → front (bs ++ more) ≡ front bs) → front (b ∷ (bs ++ more)) ≡ front (b ∷ bs)
    by true e f = rw e refl
    by false e f =
        let k : has_newline bs ≡ true = rw e at h in
        rw (e, f k) refl

-- so is the LF
newline_more : (bs more : List ℕ) → has_newline bs ≡ true → has_newline (bs ++ more) ≡ true
newline_more [] more h = absurd (cc h)
newline_more (b ∷ bs) more h = by (b == 10) refl (newline_more bs more)
  where
    by : (k : Bool) → (b == 10) ≡ k → (has_newline bs ≡ true → has_newline (bs ++ more) ≡ true) → has_newline (b ∷ (bs ++ more)) ≡ true
    by true e f = rw e refl
    by false e f =
        let k : has_newline bs ≡ true = rw e at h in
        rw e (f k)

-- without an LF all bytes are in the front
front_whole : (bs : List ℕ) → has_newline bs ≡ false → front bs ≡ bs
front_whole [] h = refl
front_whole (b ∷ bs) h = by (b == 10) refl (front_whole bs)
  where
    by : (k : Bool) → (b == 10) ≡ k → (has_newline bs ≡ false → front bs ≡ bs) → front (b ∷ bs) ≡ b ∷ bs
    by true e f = let k = rw e at h in absurd (cc k)
    by false e f =
        let k : has_newline bs ≡ false = rw e at h in
        rw (e, f k) refl

-- the front reaches at least to the first LF
front_reaches : (bs more : List ℕ) → has_newline bs ≡ false → length bs ≤ length (front (bs ++ more))
front_reaches [] more h = omega arith
front_reaches (b ∷ bs) more h = by (b == 10) refl (front_reaches bs more)
  where
    by : (k : Bool) → (b == 10) ≡ k → (has_newline bs ≡ false → length bs ≤ length (front (bs ++ more))) → length (b ∷ bs) ≤ length (front (b ∷ (bs ++ more)))
    by true e f = let k = rw e at h in absurd (cc k)
    by false e f =
        let k : has_newline bs ≡ false = rw e at h in
        rw e (let far = f k in omega arith)

-- a front with an LF has the same fault in more bytes
same_fault : (taken : ℕ) (bs more : List ℕ) → has_newline bs ≡ true → form_fault taken (bs ++ more) ≡ form_fault taken bs
unfolding form_fault
same_fault taken bs more h = rw (front_more bs more h, newline_more bs more h, h) refl

-- what reaches too far is too long
too_long : (taken : ℕ) (bs : List ℕ) → SCRIPT_BYTES < taken + length (front bs) → form_fault taken bs ≡ Some TooLong
unfolding form_fault
too_long taken bs h =
    let k : nat_lt SCRIPT_BYTES (taken + reach bs) ≡ true = grind (arith, nat_tests) in
    rw k refl

-- the front is bad for the same cause where more bytes follow, if the bytes before have an LF or are too long
form_more : (taken : ℕ) (bs more : List ℕ) (c : BadCause) (k : Bool) → has_newline bs ≡ k → (has_newline bs ≡ false → SCRIPT_BYTES < taken + length bs) → form_fault taken bs ≡ Some c
    → form_fault taken (bs ++ more) ≡ Some c
form_more taken bs more c true e h f = same_fault taken bs more e ∙ f
form_more taken bs more c false e h f =
    let far = h e in
    let now : form_fault taken bs ≡ Some TooLong = too_long taken bs (omega (arith, ap length (front_whole bs e))) in
    let later : form_fault taken (bs ++ more) ≡ Some TooLong = too_long taken (bs ++ more) (omega (arith, front_reaches bs more e)) in
    later ∙ sym now ∙ f

-- so are the names of its line
bad_more : (before : List Line) (rest more : List ℕ) (c : BadCause) → (has_newline rest ≡ false → SCRIPT_BYTES < length (script_text before) + length rest) → IsBadFor before rest c
    → IsBadFor before (rest ++ more) c
bad_more before rest more c h (ByForm e) = ByForm (form_more (length (script_text before)) rest more c (has_newline rest) refl h e)
bad_more before rest more c h (ByNames l e w r n) =
    let there = (none_formed (length (script_text before)) rest e).newline in
    ByNames l (same_fault (length (script_text before)) rest more there ∙ e) (ap words_of (front_more rest more there) ∙ w) r n

-- what stands after a long front is nothing, or the front is as long as can be
taken_whole : (k : ℕ) (b : List ℕ) → length (take k b) < k → drop k b ≡ []
taken_whole k b h = by (drop k b) (omega (arith, length-take k b, length-drop k b))
  where
    by : (xs : List ℕ) → length xs ≡ 0 → xs ≡ []
    by [] e = refl
    by (x ∷ xs) e = absurd (omega arith)

-- its cause is one of the whole
cause_more : (k : ℕ) (b : List ℕ) (n : ℕ) (c : BadCause) (y : Bad (take k b) n c) (short : Bool) → SCRIPT_BYTES < k → nat_lt (length (take k b)) k ≡ short → IsBadFor y.before (y.rest ++ drop k b) c
cause_more k b n c y true h e =
    let less : length (take k b) < k = grind (arith, nat_tests) in
    subst (λ (r : List ℕ). IsBadFor y.before r c) (sym (ap (λ xs. y.rest ++ xs) (taken_whole k b less) ∙ append-nil y.rest)) y.cause
cause_more k b n c y false h e =
    let whole : k ≤ length (take k b) = grind (arith, nat_tests) in
    bad_more y.before y.rest (drop k b) c (λ _. omega (arith, ap length y.bytes, length-append (script_text y.before) y.rest)) y.cause

-- the bad line of a long front is the bad line of the whole
longer_than : (k : ℕ) (b : List ℕ) (n : ℕ) (c : BadCause) → SCRIPT_BYTES < k → Bad (take k b) n c → Bad b n c
longer_than k b n c h y = record {
  before = y.before;
  rest = y.rest ++ drop k b;
  bytes = sym (take-append-drop k b) ∙ ap (λ t. t ++ drop k b) y.bytes ∙ append_assoc (script_text y.before) y.rest (drop k b);
  script = y.script;
  number = y.number;
  left = nonempty-append y.rest (drop k b) y.left;
  cause = cause_more k b n c y (nat_lt (length (take k b)) k) h refl;
}

-- what is bad in the first 1,048,577 bytes is bad in the whole: a script ends before the last of them
pub longer : (b : List ℕ) (n : ℕ) (c : BadCause) → Bad (take (SCRIPT_BYTES + 1) b) n c → Bad b n c
longer b n c y = longer_than (SCRIPT_BYTES + 1) b n c (omega arith) y
