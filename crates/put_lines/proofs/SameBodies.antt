-- A script behind other bytes has one first bad line, with one first cause.
use Rattle.std.proofs.Common.{◌≡◌, ℕ, suc, ◌+◌, ◌≤◌, ◌==◌, ◌||◌, Bool, true, false, List, [], ◌∷◌, ◌++◌, length, refl, ap, sym, subst, ◌∙◌, arith, append_assoc, length-append, Some, if◌then◌else◌}
use Rattle.std.specs.List.{join_with_byte}
use Rattle.std.proofs.lemmas.List.{append-nil}
use Rattle.dtx_values.specs.declared.limits.TheConstants.{SCRIPT_BYTES}
use Rattle.dtx_values.specs.declared.script.BadCause.{BadCause}
use Rattle.dtx_values.specs.declared.script.Line.{Line}
use Rattle.dtx_model.specs.Words.{past_of}
use Rattle.dtx_model.specs.Grammar.{IsScript, line_text, script_text, words}
use Rattle.dtx_model.specs.Faults.{front, has_newline, reach, name_fault, IsBadFor, ByForm as BadByForm, ByNames as BadByNames}
use Rattle.line_reader.proofs.LineTexts.{newline_there}
use Rattle.line_reader.proofs.Scripts.{last_good, script_front, script_text-append}
use Rattle.script_text.proofs.GoodLines.{line_text-append, not_bad_here, same_first}
use Rattle.script_text.proofs.SameLines.{same_line}
use Rattle.put_lines.specs.Input.{ByForm, ByNames, IsBadLineAfter}
use Rattle.put_lines.proofs.FormedLines.{same_form}

-- one byte more in front, or none
front_byte : (k : Bool) (b : ℕ) (xs : List ℕ) (n : ℕ) → length xs ≤ n → length (if k then [] else b ∷ xs) ≤ suc n
front_byte true b xs n h = omega arith
front_byte false b xs n h = omega arith

-- the front ends at an LF, or before
front_short : (t a : List ℕ) → length (front (t ++ 10 ∷ a)) ≤ length t
front_short [] a = omega arith
front_short (b ∷ t) a = front_byte (b == 10) b (front (t ++ 10 ∷ a)) (length t) (front_short t a)

-- a line reaches no farther than its text
line_reach : (l : Line) (after : List ℕ) → reach (line_text l ++ after) ≤ length (line_text l)
line_reach l after =
    let text = join_with_byte 32 (words l) in
    let there : has_newline (line_text l ++ after) ≡ true = ap has_newline (line_text-append l after) ∙ newline_there text after in
    let short : length (front (line_text l ++ after)) ≤ length text = rw (line_text-append l after) (front_short text after) in
    rw there (omega (arith, short, length-append text (10 ∷ [])))

-- one byte more is in front, or none, and an LF is there, or not
reach_byte : (k has_more : Bool) (b : ℕ) (xs : List ℕ) (n : ℕ) → length xs + (if has_more then 1 else 0) ≤ n → length (if k then [] else b ∷ xs) + (if (k || has_more) then 1 else 0) ≤ suc n
reach_byte true m b xs n h = omega arith
reach_byte false true b xs n h = omega arith
reach_byte false false b xs n h = omega arith

-- no line reaches farther than the bytes
pub reach_whole : (bs : List ℕ) → reach bs ≤ length bs
reach_whole [] = omega arith
reach_whole (b ∷ bs) = reach_byte (b == 10) (has_newline bs) b (front bs) (length bs) (reach_whole bs)

-- a bad line that is within the most bytes is one of the script alone
pub fits_within : (taken : ℕ) (before : List Line) (rest : List ℕ) (c : BadCause) → taken + length (script_text before) + reach rest ≤ SCRIPT_BYTES → IsBadLineAfter taken before rest c → IsBadFor before rest c
fits_within taken before rest c h (ByForm e) = BadByForm (same_form taken (length (script_text before)) rest h ∙ e)
fits_within taken before rest c h (ByNames l e w r n) = BadByNames l (same_form taken (length (script_text before)) rest h ∙ e) w r n

-- the length of a script with one more line
length-script_text-snoc : (s : List Line) (l : Line) → length (script_text (s ++ l ∷ [])) ≡ length (script_text s) + length (line_text l)
length-script_text-snoc s l = omega (arith, ap length (script_text-append s (l ∷ [])), length-append (script_text s) (script_text (l ∷ [])), length-append (line_text l) [])

-- where a script goes on with a line, its front isn't bad
stuck : (taken : ℕ) (done : List Line) (m : Line) (r whole : List Line) (a after : List ℕ) (c : BadCause) → done ++ m ∷ r ≡ whole → IsScript whole → taken + length (script_text whole) ≤ SCRIPT_BYTES
    → a ≡ line_text m ++ after → IsBadLineAfter taken done a c → ⊥
stuck taken done m r whole a after c e s w f bad =
    let more : (done ++ m ∷ []) ++ r ≡ whole = append_assoc done (m ∷ []) r ∙ e in
    let script : IsScript (done ++ m ∷ []) = script_front (done ++ m ∷ []) r (subst IsScript (sym more) s) in
    let long : length (script_text whole) ≡ length (script_text (done ++ m ∷ [])) + length (script_text r)
    = ap (λ (x : List Line). length (script_text x)) (sym more) ∙ ap length (script_text-append (done ++ m ∷ []) r) ∙ length-append (script_text (done ++ m ∷ [])) (script_text r) in
    let near : reach a ≤ length (line_text m) = rw f (line_reach m after) in
    not_bad_here done m a after c script f (fits_within taken done a c (omega (arith, long, near, length-script_text-snoc done m)) bad)

-- two causes of one front are one
one_cause : (taken : ℕ) (before : List Line) (rest : List ℕ) (c d : BadCause) → IsBadLineAfter taken before rest c → IsBadLineAfter taken before rest d → c ≡ d
one_cause taken before rest c d (ByForm e) (ByForm f) = let k : Some c ≡ Some d = sym e ∙ f in cc k
one_cause taken before rest c d (ByForm e) (ByNames m f w r n) = absurd (cc (sym e ∙ f))
one_cause taken before rest c d (ByNames l e v q o) (ByForm f) = absurd (cc (sym e ∙ f))
one_cause taken before rest c d (ByNames l e v q o) (ByNames m f w r n) =
    let same = same_line l m q r (sym v ∙ w) in
    let k : Some c ≡ Some d = sym o ∙ ap (name_fault (past_of before)) same ∙ n in
    cc k

-- two bad lines behind scripts of the same bytes are one, with one cause
same_bad : (taken : ℕ) (done s r ss rs : List Line) (a b : List ℕ) (c d : BadCause) → done ++ s ≡ ss → done ++ r ≡ rs → IsScript ss → IsScript rs → taken + length (script_text ss) ≤ SCRIPT_BYTES
    → taken + length (script_text rs) ≤ SCRIPT_BYTES → script_text s ++ a ≡ script_text r ++ b → IsBadLineAfter taken ss a c → IsBadLineAfter taken rs b d → (length s ≡ length r) × (c ≡ d)
same_bad taken done [] [] ss rs a b c d es er hs hr ws wr e x y =
    let moved = subst (λ (t : List ℕ). IsBadLineAfter taken ss t c) e x in
    (refl, one_cause taken rs b c d (subst (λ (t : List Line). IsBadLineAfter taken t b c) (sym es ∙ er) moved) y)
same_bad taken done [] (m ∷ r) ss rs a b c d es er hs hr ws wr e x y =
    let here = subst (λ (t : List Line). IsBadLineAfter taken t a c) (sym es ∙ append-nil done) x in
    absurd (stuck taken done m r rs a (script_text r ++ b) c er hr wr (e ∙ append_assoc (line_text m) (script_text r) b) here)
same_bad taken done (l ∷ s) [] ss rs a b c d es er hs hr ws wr e x y =
    let here = subst (λ (t : List Line). IsBadLineAfter taken t b d) (sym er ∙ append-nil done) y in
    absurd (stuck taken done l s ss b (script_text s ++ a) d es hs ws (sym e ∙ append_assoc (line_text l) (script_text s) a) here)
same_bad taken done (l ∷ s) (m ∷ r) ss rs a b c d es er hs hr ws wr e x y =
    let es2 : (done ++ l ∷ []) ++ s ≡ ss = append_assoc done (l ∷ []) s ∙ es in
    let er2 : (done ++ m ∷ []) ++ r ≡ rs = append_assoc done (m ∷ []) r ∙ er in
    let gl = last_good done l (script_front (done ++ l ∷ []) s (subst IsScript (sym es2) hs)) in
    let gm = last_good done m (script_front (done ++ m ∷ []) r (subst IsScript (sym er2) hr)) in
    let both = sym (append_assoc (line_text l) (script_text s) a) ∙ e ∙ append_assoc (line_text m) (script_text r) b in
    let k = same_first l m (script_text s ++ a) (script_text r ++ b) gl.in_range gm.in_range both in
    let er3 : (done ++ l ∷ []) ++ r ≡ rs = ap (λ (z : Line). (done ++ z ∷ []) ++ r) k.0 ∙ er2 in
    let rest = same_bad taken (done ++ l ∷ []) s r ss rs a b c d es2 er3 hs hr ws wr k.1 x y in
    (ap (λ n. suc n) rest.0, rest.1)

-- so are two bad lines of a script
pub one_bad_line : (taken : ℕ) (s r : List Line) (a b : List ℕ) (c d : BadCause) → IsScript s → IsScript r → taken + length (script_text s) ≤ SCRIPT_BYTES → taken + length (script_text r) ≤ SCRIPT_BYTES
    → script_text s ++ a ≡ script_text r ++ b → IsBadLineAfter taken s a c → IsBadLineAfter taken r b d → (length s ≡ length r) × (c ≡ d)
one_bad_line taken s r a b c d hs hr ws wr e x y = same_bad taken [] s r s r a b c d refl refl hs hr ws wr e x y
