-- Bytes have one front: the lines `put`, and what stops them.
use Rattle.std.proofs.Common.{◌≡◌, ◌≢◌, ℕ, ◌+◌, ◌≤◌, ◌==◌, Bool, true, false, List, [], ◌∷◌, ◌++◌, length, refl, ap, ap₂, sym, subst, ◌∙◌, arith, append_assoc, length-append, Some, None}
use Rattle.std.specs.List.{join_with_byte}
use Rattle.dtx_values.specs.declared.limits.TheConstants.{LINE_BYTES, SCRIPT_BYTES}
use Rattle.dtx_values.specs.declared.script.BadCause.{BadCause}
use Rattle.dtx_model.specs.Faults.{front, has_newline, reach, words_of, word_fault}
use Rattle.dtx_model.proofs.Bools.{and_left, and_right}
use Rattle.line_reader.proofs.LineTexts.{is_text, newline_there}
use Rattle.line_reader.proofs.WordFaults.{fits_none}
use Rattle.heard_notes.specs.declared.put.Put.{Put}
use Rattle.put_lines.specs.Input.{HasFront, HasPuts, are_in_range, form_fault_by, is_put_in_range, put_forms, put_text, puts_text, script_line}
use Rattle.put_lines.specs.FrontLine.{front_line_text, front_words_of, is_front_in_range}
use Rattle.put_lines.specs.declared.words.FrontLine.{FrontLine}
use Rattle.put_lines.specs.declared.words.FrontLine.TheVariants.{Put as APut, Script}
use Rattle.put_lines.proofs.FormedLines.{not_less}
use Rattle.put_lines.proofs.FrontTexts.{front_fits, front_is_text, front_line_front, front_line_words, front_text-append, front_text-words, same_first_put, short_front}

-- what stops the puts: the end, a bad line, or the line `script` with what follows it
pub data Stop : Type 0 where
  AtEnd : Stop
  AtBad : BadCause → Stop
  AtScript : List ℕ → Stop

-- it stands at the front of bytes, after so many others
abbrev pub StopsAt : ℕ → List ℕ → Stop → Type 0
StopsAt taken b AtEnd = b ≡ []
StopsAt taken b (AtBad c) = (b ≢ []) × (form_fault_by put_forms taken b ≡ Some c)
StopsAt taken b (AtScript rest) = (b ≡ script_line ++ rest) × (taken + length script_line ≤ SCRIPT_BYTES)

-- these puts stand there, and then that
abbrev pub Stops : ℕ → List ℕ → List Put → Stop → Type 0
Stops taken b [] z = StopsAt taken b z
Stops taken b (p ∷ ps) z = (after : List ℕ) × (b ≡ put_text p ++ after) × (is_put_in_range p ≡ true) × (taken + length (put_text p) ≤ SCRIPT_BYTES) × Stops (taken + length (put_text p)) after ps z

-- a line before the script that is within the most bytes has no fault by its form
good_front : (taken : ℕ) (l : FrontLine) (after : List ℕ) → is_front_in_range l ≡ true → taken + length (front_line_text l) ≤ SCRIPT_BYTES → form_fault_by put_forms taken (front_line_text l ++ after) ≡ None
unfolding form_fault_by
good_front taken l after h k =
    let bytes = front_line_text l ++ after in
    let text = join_with_byte 32 (front_words_of l) in
    let at_front : front bytes ≡ text = front_line_front l after h in
    let there : has_newline bytes ≡ true = ap has_newline (front_text-append l after) ∙ newline_there text after in
    let far : reach bytes ≡ length text + 1 = rw (there, at_front) refl in
    let long : length (front_line_text l) ≡ length text + 1 = omega (arith, ap length (front_text-words l), length-append text (10 ∷ [])) in
    let within = not_less SCRIPT_BYTES (taken + reach bytes) (omega arith) in
    let short = not_less LINE_BYTES (length (front bytes)) (omega (arith, ap length at_front, short_front l h)) in
    let texts : is_text (front bytes) ≡ true = ap is_text at_front ∙ front_is_text l h in
    let fine : word_fault put_forms (words_of (front bytes)) ≡ None = ap (word_fault put_forms) (front_line_words l after h) ∙ fits_none put_forms (front_words_of l) (front_fits l h) in
    rw (within, short, there, texts, fine) refl

-- so no bad line stands there
good_or_bad : (taken : ℕ) (b : List ℕ) (l : FrontLine) (after : List ℕ) (c : BadCause) → is_front_in_range l ≡ true → taken + length (front_line_text l) ≤ SCRIPT_BYTES → b ≡ front_line_text l ++ after
    → form_fault_by put_forms taken b ≡ Some c → ⊥
good_or_bad taken b l after c h k e f =
    let none : form_fault_by put_forms taken b ≡ None = ap (form_fault_by put_forms taken) e ∙ good_front taken l after h k in
    cc (sym none ∙ f)

-- the bytes begin with the letter of a put
begins_as_put : List ℕ → Bool
begins_as_put [] = false
begins_as_put (b ∷ bs) = b == 112

-- a put isn't the line `script`
put_or_script : (p : Put) (after rest : List ℕ) → put_text p ++ after ≡ script_line ++ rest → ⊥
unfolding begins_as_put
put_or_script p after rest e =
    let same : true ≡ false = ap begins_as_put e in
    cc same

-- a put isn't nothing
put_or_end : (p : Put) (after : List ℕ) → [] ≡ put_text p ++ after → ⊥
put_or_end p after e = cc (e ∙ front_text-append (APut p) after)

-- two stops at one place are one
one_stop : (taken : ℕ) (b : List ℕ) (z y : Stop) → StopsAt taken b z → StopsAt taken b y → z ≡ y
one_stop taken b AtEnd AtEnd h k = refl
one_stop taken b AtEnd (AtBad d) h k = absurd (k.0 h)
one_stop taken b AtEnd (AtScript r) h k = absurd (cc (sym h ∙ k.0))
one_stop taken b (AtBad c) AtEnd h k = absurd (h.0 k)
one_stop taken b (AtBad c) (AtBad d) h k =
    let causes : Some c ≡ Some d = sym h.1 ∙ k.1 in
    let same : c ≡ d = cc causes in
    ap (λ x. AtBad x) same
one_stop taken b (AtBad c) (AtScript r) h k = absurd (good_or_bad taken b Script r c refl k.1 k.0 h.1)
one_stop taken b (AtScript q) AtEnd h k = absurd (cc (sym k ∙ h.0))
one_stop taken b (AtScript q) (AtBad d) h k = absurd (good_or_bad taken b Script q d refl h.1 h.0 k.1)
one_stop taken b (AtScript q) (AtScript r) h k =
    let both : script_line ++ q ≡ script_line ++ r = sym h.0 ∙ k.0 in
    let same : q ≡ r = cc both in
    ap (λ x. AtScript x) same

-- a put doesn't stop the puts
goes_on : (taken : ℕ) (b : List ℕ) (z : Stop) (p : Put) (after : List ℕ) → StopsAt taken b z → b ≡ put_text p ++ after → is_put_in_range p ≡ true → taken + length (put_text p) ≤ SCRIPT_BYTES → ⊥
goes_on taken b AtEnd p after h e r w = put_or_end p after (sym h ∙ e)
goes_on taken b (AtBad c) p after h e r w = good_or_bad taken b (APut p) after c r w e h.1
goes_on taken b (AtScript q) p after h e r w = put_or_script p after q (sym e ∙ h.0)

-- bytes have the same puts, and then the same
pub one_front : (taken : ℕ) (b : List ℕ) (ps qs : List Put) (z y : Stop) → Stops taken b ps z → Stops taken b qs y → (ps ≡ qs) × (z ≡ y)
one_front taken b [] [] z y h k = (refl, one_stop taken b z y h k)
one_front taken b [] (q ∷ qs) z y h k = absurd (goes_on taken b z q k.0 h k.1 k.2 k.3)
one_front taken b (p ∷ ps) [] z y h k = absurd (goes_on taken b y p h.0 k h.1 h.2 h.3)
one_front taken b (p ∷ ps) (q ∷ qs) z y h k =
    let same = same_first_put p q h.0 k.0 h.2 k.2 (sym h.1 ∙ k.1) in
    let there = subst (λ (x : Put). Stops (taken + length (put_text x)) h.0 ps z) same.0 h.4 in
    let moved = subst (λ (x : List ℕ). Stops (taken + length (put_text q)) x ps z) same.1 there in
    let r = one_front (taken + length (put_text q)) k.0 ps qs z y moved k.4 in
    (ap₂ (λ x xs. x ∷ xs) same.0 r.0, r.1)

-- puts with what follows them
pub stops : (taken n : ℕ) (b : List ℕ) (ps : List Put) (rest : List ℕ) (z : Stop) → b ≡ puts_text ps ++ rest → are_in_range ps ≡ true → n ≡ taken + length (puts_text ps) → n ≤ SCRIPT_BYTES → StopsAt n rest z
    → Stops taken b ps z
stops taken n b [] rest z e r m k h = subst (λ (x : List ℕ). StopsAt taken x z) (sym e) (subst (λ (i : ℕ). StopsAt i rest z) (omega arith) h)
stops taken n b (p ∷ ps) rest z e r m k h =
    let long = length-append (put_text p) (puts_text ps) in (
      puts_text ps ++ rest,
      e ∙ append_assoc (put_text p) (puts_text ps) rest,
      and_left _ _ r,
      omega (arith, long),
      stops (taken + length (put_text p)) n (puts_text ps ++ rest) ps rest z refl (and_right (is_put_in_range p) _ r) (omega (arith, long)) k h,
    )

-- what stops puts that were read
pub stops_puts : (b : List ℕ) (ps : List Put) (rest : List ℕ) (z : Stop) → HasPuts b ps rest → StopsAt (length (puts_text ps)) rest z → Stops 0 b ps z
stops_puts b ps rest z h k = stops 0 (length (puts_text ps)) b ps rest z h.bytes h.in_range (omega arith) h.within k

-- so the line `script` does
pub stops_front : (b : List ℕ) (ps : List Put) (rest : List ℕ) → HasFront b ps rest → Stops 0 b ps (AtScript rest)
stops_front b ps rest h =
    let long = length-append (puts_text ps) script_line in
    stops 0 (length (puts_text ps)) b ps (script_line ++ rest) (AtScript rest) (h.bytes ∙ append_assoc (puts_text ps) script_line rest) h.in_range (omega arith) (omega (arith, long, h.within))
    (refl, omega (arith, long, h.within))
