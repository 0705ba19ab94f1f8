-- Bytes are a script, or have a first bad line.
use Rattle.std.proofs.Common.{◌≡◌, ◌≢◌, ℕ, true, zero, suc, ◌+◌, ◌≤◌, List, [], ◌∷◌, ◌++◌, length, refl, ap, sym, ◌∙◌, arith, length-append, Option, Some, None, ◌⊎◌, inl, inr}
use Rattle.std.specs.List.{join_with_byte}
use Rattle.std.proofs.lemmas.Bool.Decides.{nat_tests}
use Rattle.std.proofs.lemmas.List.{append-nil}
use Rattle.dtx_values.specs.declared.limits.TheConstants.{LINE_BYTES}
use Rattle.dtx_values.specs.declared.script.BadCause.{BadCause}
use Rattle.dtx_values.specs.declared.script.Line.{Line}
use Rattle.dtx_model.specs.Words.{past_of}
use Rattle.dtx_model.specs.Grammar.{words, line_text, script_text, IsScript, Reads}
use Rattle.dtx_model.specs.Faults.{front, has_newline, words_of, reach, form_fault, name_fault, line_forms, IsBadFor, ByForm, ByNames, Bad}
use Rattle.line_reader.proofs.WordFaults.{none_fits}
use Rattle.line_reader.proofs.LineTexts.{behind_front, join_words, cut_front}
use Rattle.script_text.proofs.Filled.{AreLineWords, line_of}
use Rattle.line_reader.proofs.Scripts.{IsGood, script_none, script_more, bytes_more}
use Rattle.script_text.proofs.GoodLines.{IsFormed, none_formed, line_text-append}

-- what bytes are
abbrev Found : List ℕ → Type 0
Found b = ((s : List Line) × Reads b s) ⊎ ((n : ℕ) × (c : BadCause) × Bad b n c)

-- the line's text is the front
front_is : (rest : List ℕ) (y : AreLineWords (words_of (front rest))) → join_with_byte 32 (words y.line) ≡ front rest
front_is rest y = ap (join_with_byte 32) y.is ∙ join_words (front rest)

-- the bytes begin with the line
begins_with : (rest : List ℕ) (y : AreLineWords (words_of (front rest))) → has_newline rest ≡ true → rest ≡ line_text y.line ++ behind_front rest
begins_with rest y h = cut_front rest h ∙ ap (λ t. t ++ 10 ∷ behind_front rest) (sym (front_is rest y)) ∙ sym (line_text-append y.line (behind_front rest))

-- a line without fault is good
without_fault : (before : List Line) (rest : List ℕ) (y : AreLineWords (words_of (front rest))) → IsFormed (length (script_text before)) rest
    → name_fault (past_of before) y.line ≡ None → IsGood before y.line
without_fault before rest y f n =
    let long : length (line_text y.line) ≡ length (front rest) + 1 = omega (arith, length-append (join_with_byte 32 (words y.line)) (10 ∷ []), ap length (front_is rest y)) in
    let far : reach rest ≡ length (front rest) + 1 = rw f.newline refl in
    let short : length (line_text y.line) ≤ LINE_BYTES + 1 = omega (arith, f.short) in
    record { in_range = y.in_range; short = grind (arith, nat_tests); within = omega (arith, f.within); names = n }

-- what the bytes are, from what they are where the line at the front is good
one_more : (b : List ℕ) (before : List Line) (rest : List ℕ) → rest ≢ [] → b ≡ script_text before ++ rest → IsScript before
    → ((l : Line) (after : List ℕ) → rest ≡ line_text l ++ after → IsGood before l → Found b) → Found b
one_more b before rest some e s next = by_form (form_fault (length (script_text before)) rest) refl
  where
    bad : (c : BadCause) → IsBadFor before rest c → Found b
    bad c k = inr (length before + 1, c, record { before = before; rest = rest; bytes = e; script = s; number = refl; left = some; cause = k })

    by_names : form_fault (length (script_text before)) rest ≡ None → (y : AreLineWords (words_of (front rest))) (o : Option BadCause) → name_fault (past_of before) y.line ≡ o → Found b
    by_names h y (Some c) k = bad c (ByNames y.line h (sym y.is) y.in_range k)
    by_names h y None k =
        let f = none_formed (length (script_text before)) rest h in
        next y.line (behind_front rest) (begins_with rest y f.newline) (without_fault before rest y f k)

    by_form : (o : Option BadCause) → form_fault (length (script_text before)) rest ≡ o → Found b
    by_form (Some c) h = bad c (ByForm h)
    by_form None h =
        let f = none_formed (length (script_text before)) rest h in
        let y = line_of (words_of (front rest)) (none_fits line_forms (words_of (front rest)) f.words) in
        by_names h y (name_fault (past_of before) y.line) refl

-- what bytes are after a script that they begin with
behind_script : (k : ℕ) (b : List ℕ) (before : List Line) (rest : List ℕ) → length rest ≤ k → b ≡ script_text before ++ rest → IsScript before → Found b
behind_script k b before [] h e s = inl (before, record { bytes = e ∙ append-nil (script_text before); script = s })
behind_script zero b before (x ∷ xs) h e s = absurd (omega arith)
behind_script (suc k) b before (x ∷ xs) h e s =
    one_more b before (x ∷ xs) (λ q. cc q) e s (λ l after f g.
    let shorter : length after ≤ k = omega (arith, ap length f, length-append (line_text l) after, length-append (join_with_byte 32 (words l)) (10 ∷ [])) in
    behind_script k b (before ++ l ∷ []) after shorter (bytes_more before l b (x ∷ xs) after e f) (script_more before l s g))

-- bytes are a script, or have a first bad line
pub script_or_first_bad : (b : List ℕ) → ((s : List Line) × Reads b s) ⊎ ((n : ℕ) × (c : BadCause) × Bad b n c)
script_or_first_bad b = behind_script (length b) b [] b (omega arith) refl script_none
