-- Inputs of which only the first bytes are read.
use Rattle.std.proofs.Common.{◌≡◌, ◌≢◌, ℕ, ◌+◌, ◌<◌, ◌≤◌, ◌==◌, Bool, true, false, List, [], ◌∷◌, ◌++◌, length, take, drop, refl, ap, sym, ◌∙◌, subst, arith, append_assoc, length-append, Some, None, nat_lt}
use Rattle.std.proofs.lemmas.Bool.Decides.{nat_tests}
use Rattle.std.proofs.lemmas.List.{append-nil, length-take, take-append-drop, take_all}
use Rattle.dtx_values.specs.declared.limits.TheConstants.{SCRIPT_BYTES}
use Rattle.dtx_values.specs.declared.script.BadCause.{BadCause}
use Rattle.dtx_values.specs.declared.script.BadCause.TheVariants.{TooLong}
use Rattle.dtx_values.specs.declared.script.Line.{Line}
use Rattle.dtx_model.specs.Caused.{Of}
use Rattle.dtx_model.specs.Grammar.{script_text}
use Rattle.dtx_model.specs.Faults.{Pattern, front, has_newline, line_forms, reach, words_of}
use Rattle.dtx_model.specs.Words.{has}
use Rattle.dtx_model.proofs.Bools.{or_first, or_second}
use Rattle.heard_notes.specs.declared.put.Put.{Put}
use Rattle.put_lines.specs.Input.{AtFront, AtPut, ByForm, ByNames, HasFront, HasPuts, InScript, IsBadLineAfter, IsRefused, NoScript, ReadsInput, form_fault_by, front_text, put_forms, puts_text}
use Rattle.put_lines.proofs.FormedLines.{too_long}

-- what begins with something isn't empty
some_more : (xs more : List ℕ) → xs ≢ [] → xs ++ more ≢ []
some_more [] more h e = h refl
some_more (x ∷ xs) more h e = cc e

-- bytes with an LF have the same front where more follow, and the LF is there
ended_more : (bs more : List ℕ) → has_newline bs ≡ true → (front (bs ++ more) ≡ front bs) × (has_newline (bs ++ more) ≡ true)
ended_more [] more h = absurd (cc h)
ended_more (b ∷ bs) more h = by (b == 10) refl (ended_more bs more)
  where
    by : (k : Bool) → (b == 10) ≡ k → (has_newline bs ≡ true → (front (bs ++ more) ≡ front bs) × (has_newline (bs ++ more) ≡ true))
        → (front (b ∷ (bs ++ more)) ≡ front (b ∷ bs)) × (has_newline (b ∷ (bs ++ more)) ≡ true)
    by true e f = rw e (refl, refl)
    by false e f =
        let k : has_newline bs ≡ true = rw e at h in
        let same = f k in
        rw e (ap (λ xs. b ∷ xs) same.0, same.1)

-- bytes without LF are all in front, and those that follow go on with them
open_more : (bs more : List ℕ) → has_newline bs ≡ false → front (bs ++ more) ≡ bs ++ front more
open_more [] more h = refl
open_more (b ∷ bs) more h = rw (or_first (b == 10) (has (λ x. x == 10) bs) h, open_more bs more (or_second (b == 10) _ h)) refl

-- a front that passes the most bytes is too long
past_most : (fs : List (List Pattern)) (taken : ℕ) (bs : List ℕ) → SCRIPT_BYTES < taken + length (front bs) → form_fault_by fs taken bs ≡ Some TooLong
past_most fs taken bs h = too_long fs taken bs (front bs) (reach bs) (has_newline bs) (record { text = refl; newline = refl; reached = refl }) (omega arith)

-- so is one without LF, where the bytes pass the most, whatever follows them
open_past : (fs : List (List Pattern)) (taken : ℕ) (bs more : List ℕ) → has_newline bs ≡ false → SCRIPT_BYTES < taken + length bs → form_fault_by fs taken (bs ++ more) ≡ Some TooLong
open_past fs taken bs more e h = past_most fs taken (bs ++ more) (omega (arith, h, ap length (open_more bs more e), length-append bs (front more)))

-- so is the front alone
alone_past : (fs : List (List Pattern)) (taken : ℕ) (bs : List ℕ) → has_newline bs ≡ false → SCRIPT_BYTES < taken + length bs → form_fault_by fs taken bs ≡ Some TooLong
alone_past fs taken bs e h = ap (form_fault_by fs taken) (sym (append-nil bs)) ∙ open_past fs taken bs [] e h

-- the front with an LF has the same fault in more bytes
ended_fault : (fs : List (List Pattern)) (taken : ℕ) (bs more : List ℕ) → has_newline bs ≡ true → form_fault_by fs taken (bs ++ more) ≡ form_fault_by fs taken bs
unfolding form_fault_by
ended_fault fs taken bs more e =
    let same = ended_more bs more e in
    rw (same.0, same.1, e) refl

-- so has any front of bytes that pass the most
same_fault : (fs : List (List Pattern)) (taken : ℕ) (bs more : List ℕ) (k : Bool) → has_newline bs ≡ k → SCRIPT_BYTES < taken + length bs → form_fault_by fs taken (bs ++ more) ≡ form_fault_by fs taken bs
same_fault fs taken bs more true e h = ended_fault fs taken bs more e
same_fault fs taken bs more false e h = open_past fs taken bs more e h ∙ sym (alone_past fs taken bs e h)

-- where it has no fault, it is the same front
same_front : (fs : List (List Pattern)) (taken : ℕ) (bs more : List ℕ) (k : Bool) → has_newline bs ≡ k → SCRIPT_BYTES < taken + length bs → form_fault_by fs taken bs ≡ None → front (bs ++ more) ≡ front bs
same_front fs taken bs more true e h f = (ended_more bs more e).0
same_front fs taken bs more false e h f =
    let never : None ≡ Some TooLong = sym f ∙ alone_past fs taken bs e h in
    absurd (cc never)

-- a bad line of bytes that pass the most is bad for the same cause where more bytes follow
same_line : (taken : ℕ) (before : List Line) (rest more : List ℕ) (c : BadCause) → SCRIPT_BYTES < taken + length (script_text before) + length rest → IsBadLineAfter taken before rest c
    → IsBadLineAfter taken before (rest ++ more) c
same_line taken before rest more c h (ByForm e) = ByForm (same_fault line_forms (taken + length (script_text before)) rest more (has_newline rest) refl h ∙ e)
same_line taken before rest more c h (ByNames l e w r n) =
    let start = taken + length (script_text before) in
    ByNames l (same_fault line_forms start rest more (has_newline rest) refl h ∙ e) (ap words_of (same_front line_forms start rest more (has_newline rest) refl h e) ∙ w) r n

-- the same puts stand before more bytes
puts_more : (b : List ℕ) (ps : List Put) (rest more : List ℕ) → HasPuts b ps rest → HasPuts (b ++ more) ps (rest ++ more)
puts_more b ps rest more h = record { bytes = ap (λ t. t ++ more) h.bytes ∙ append_assoc (puts_text ps) rest more; in_range = h.in_range; within = h.within }

-- so does the same front
front_more : (b : List ℕ) (ps : List Put) (rest more : List ℕ) → HasFront b ps rest → HasFront (b ++ more) ps (rest ++ more)
front_more b ps rest more h = record { bytes = ap (λ t. t ++ more) h.bytes ∙ append_assoc (front_text ps) rest more; in_range = h.in_range; within = h.within }

-- what bytes that pass the most refuse is refused where more bytes follow
refused_more : (most : ℕ) (o : Of) (b more : List ℕ) (n : ℕ) (c : BadCause) → SCRIPT_BYTES < length b → IsRefused most o b n c → IsRefused most o (b ++ more) n c
refused_more most o b more n c h (AtFront ps rest p some e f) =
    let far : SCRIPT_BYTES < length (puts_text ps) + length rest = omega (arith, h, ap length p.bytes, length-append (puts_text ps) rest) in
    AtFront ps (rest ++ more) (puts_more b ps rest more p) (some_more rest more some) e (same_fault put_forms (length (puts_text ps)) rest more (has_newline rest) refl far ∙ f)
refused_more most o b more n c h (NoScript ps p e f) = absurd (omega (arith, h, p.within, ap length p.bytes, length-append (puts_text ps) []))
refused_more most o b more n c h (InScript ps before rest p s w some e bad) =
    let far : SCRIPT_BYTES < length (front_text ps) + length (script_text before) + length rest
    = omega (arith, h, ap length p.bytes, length-append (front_text ps) (script_text before ++ rest), length-append (script_text before) rest) in
    let there : HasFront (b ++ more) ps (script_text before ++ (rest ++ more))
    = subst (λ (t : List ℕ). HasFront (b ++ more) ps t) (append_assoc (script_text before) rest more) (front_more b ps (script_text before ++ rest) more p) in
    InScript ps before (rest ++ more) there s w (some_more rest more some) e (same_line (length (front_text ps)) before rest more c far bad)
refused_more most o b more n c h (AtPut before p after s there w hs e good f) = absurd (omega (arith, h, w))

-- the first bytes are the whole, or pass the most
whole_or_past : {C : Type 0} (k : ℕ) (b : List ℕ) (past : Bool) → SCRIPT_BYTES < k → nat_lt SCRIPT_BYTES (length b) ≡ past → (take k b ≡ b → C) → (SCRIPT_BYTES < length (take k b) → C) → C
whole_or_past k b true h e f g =
    let far : SCRIPT_BYTES < length b = grind (arith, nat_tests) in
    g (omega (arith, h, far, length-take k b))
whole_or_past k b false h e f g =
    let near : length b ≤ SCRIPT_BYTES = grind (arith, nat_tests) in
    f (take_all k b (omega (arith, h, near)))

-- what so many first bytes refuse is refused as a whole, if they may pass the most
longer_than : (k : ℕ) (most : ℕ) (o : Of) (b : List ℕ) (n : ℕ) (c : BadCause) → SCRIPT_BYTES < k → IsRefused most o (take k b) n c → IsRefused most o b n c
longer_than k most o b n c h y =
    whole_or_past k b (nat_lt SCRIPT_BYTES (length b)) h refl (λ e. subst (λ (t : List ℕ). IsRefused most o t n c) e y)
    (λ far. subst (λ (t : List ℕ). IsRefused most o t n c) (take-append-drop k b) (refused_more most o (take k b) (drop k b) n c far y))

-- what the first 1,048,577 bytes refuse is refused as a whole
pub longer : (most : ℕ) (o : Of) (b : List ℕ) (n : ℕ) (c : BadCause) → IsRefused most o (take (SCRIPT_BYTES + 1) b) n c → IsRefused most o b n c
longer most o b n c y = longer_than (SCRIPT_BYTES + 1) most o b n c (omega arith) y

-- where so many first bytes are an input, they are the whole
whole_within : (k : ℕ) (most : ℕ) (o : Of) (b : List ℕ) (ps : List Put) (s : List Line) → SCRIPT_BYTES < k → ReadsInput most o (take k b) ps s → ReadsInput most o b ps s
whole_within k most o b ps s h y =
    let all : take k b ≡ b = whole_or_past k b (nat_lt SCRIPT_BYTES (length b)) h refl (λ e. e) (λ far. absurd (omega (arith, far, y.within))) in
    subst (λ (t : List ℕ). ReadsInput most o t ps s) all y

-- so the first 1,048,577 bytes are
pub whole : (most : ℕ) (o : Of) (b : List ℕ) (ps : List Put) (s : List Line) → ReadsInput most o (take (SCRIPT_BYTES + 1) b) ps s → ReadsInput most o b ps s
whole most o b ps s y = whole_within (SCRIPT_BYTES + 1) most o b ps s (omega arith) y
