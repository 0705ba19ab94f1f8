-- Bytes are one script, or have one first bad line with one first cause.
use Rattle.std.proofs.Common.{◌≡◌, ℕ, Bool, true, List, [], ◌∷◌, ◌++◌, length, refl, ap, ap₂, sym, ◌∙◌, subst, arith, append_assoc, Some}
use Rattle.std.proofs.lemmas.List.{append-nil}
use Rattle.dtx_values.specs.declared.script.BadCause.{BadCause}
use Rattle.dtx_values.specs.declared.script.Line.{Line}
use Rattle.dtx_model.specs.Words.{each, past_of}
use Rattle.dtx_model.specs.Grammar.{line_text, script_text, is_in_range, IsScript, Reads}
use Rattle.dtx_model.specs.Faults.{name_fault, IsBadFor, ByForm, ByNames, Bad}
use Rattle.dtx_model.proofs.Bools.{and_left, and_right}
use Rattle.script_text.proofs.GoodLines.{same_first, not_bad_here}
use Rattle.script_text.proofs.SameLines.{same_line}
use Rattle.line_reader.proofs.Scripts.{script_front, line_nonempty}

-- the numbers of each line are in their ranges
abbrev are_in_range : List Line → Bool
are_in_range s = each (λ (l : Line). is_in_range l.body) s

-- of two scripts before the same bytes one is the front of the other
data Compared (s r : List Line) (a b : List ℕ) : Type 0 where
  Front : (q : List Line) → r ≡ s ++ q → a ≡ script_text q ++ b → Compared s r a b
  Beyond : (l : Line) (q : List Line) → s ≡ r ++ l ∷ q → b ≡ line_text l ++ (script_text q ++ a) → Compared s r a b

-- one line before both changes nothing
compare_more : (l m : Line) (s r : List Line) (a b : List ℕ) → l ≡ m → Compared s r a b → Compared (l ∷ s) (m ∷ r) a b
compare_more l m s r a b e (Front q h k) = Front q (ap₂ (λ x xs. x ∷ xs) (sym e) h) k
compare_more l m s r a b e (Beyond n q h k) = Beyond n q (ap₂ (λ x xs. x ∷ xs) e h) k

-- two scripts before the same bytes compare
compared : (s r : List Line) (a b : List ℕ) → are_in_range s ≡ true → are_in_range r ≡ true → script_text s ++ a ≡ script_text r ++ b → Compared s r a b
compared [] r a b hs hr e = Front r refl e
compared (l ∷ s) [] a b hs hr e = Beyond l s refl (sym e ∙ append_assoc (line_text l) (script_text s) a)
compared (l ∷ s) (m ∷ r) a b hs hr e =
    let both = sym (append_assoc (line_text l) (script_text s) a) ∙ e ∙ append_assoc (line_text m) (script_text r) b in
    let k = same_first l m (script_text s ++ a) (script_text r ++ b) (and_left _ _ hs) (and_left _ _ hr) both in
    compare_more l m s r a b k.0 (compared s r a b (and_right _ _ hs) (and_right _ _ hr) k.1)

-- a script up to one of its lines is a script
script_to : (s : List Line) (l : Line) (r : List Line) → IsScript (s ++ l ∷ r) → IsScript (s ++ l ∷ [])
script_to s l r h = script_front (s ++ l ∷ []) r (subst IsScript (sym (append_assoc s (l ∷ []) r)) h)

-- nothing stands after anything in an empty list
nothing_behind : (xs ys : List ℕ) → [] ≡ xs ++ ys → ys ≡ []
nothing_behind [] ys e = sym e
nothing_behind (x ∷ xs) ys e = absurd (cc e)

-- two scripts with nothing after them are one
both : (s r : List Line) → Compared s r [] [] → s ≡ r
both s r (Front [] e k) = sym (e ∙ append-nil s)
both s r (Front (l ∷ q) e k) = absurd (line_nonempty l (script_text q ++ []) (k ∙ append_assoc (line_text l) (script_text q) []))
both s r (Beyond l q e k) = absurd (line_nonempty l (script_text q ++ []) k)

-- lines after which a script goes on aren't followed by a bad one
goes_on : (b : List ℕ) (n : ℕ) (c : BadCause) (y : Bad b n c) (s : List Line) (l : Line) (q : List Line) (a : List ℕ) → IsScript s → s ≡ y.before ++ l ∷ q → y.rest ≡ line_text l ++ a → ⊥
goes_on b n c y s l q a h e k = not_bad_here y.before l y.rest a c (script_to y.before l q (subst IsScript e h)) k y.cause

-- a script with nothing after it doesn't compare with lines of which the next is bad
neither : (s : List Line) (b : List ℕ) (n : ℕ) (c : BadCause) (y : Bad b n c) → IsScript s → Compared s y.before [] y.rest → ⊥
neither s b n c y h (Front q e k) = y.left (nothing_behind (script_text q) y.rest k)
neither s b n c y h (Beyond l q e k) = goes_on b n c y s l q (script_text q ++ []) h e k

-- two causes of one front are one
one_cause : (before : List Line) (rest : List ℕ) (c d : BadCause) → IsBadFor before rest c → IsBadFor before rest d → c ≡ d
one_cause before rest c d (ByForm e) (ByForm f) = let k : Some c ≡ Some d = sym e ∙ f in cc k
one_cause before rest c d (ByForm e) (ByNames m f w r n) = absurd (cc (sym e ∙ f))
one_cause before rest c d (ByNames l e v q o) (ByForm f) = absurd (cc (sym e ∙ f))
one_cause before rest c d (ByNames l e v q o) (ByNames m f w r n) =
    let same = same_line l m q r (sym v ∙ w) in
    let k : Some c ≡ Some d = sym o ∙ ap (name_fault (past_of before)) same ∙ n in
    cc k

-- two fronts after the same lines are one
same_front : (b : List ℕ) (n m : ℕ) (c d : BadCause) (y : Bad b n c) (z : Bad b m d) → y.before ≡ z.before → y.rest ≡ z.rest → (n ≡ m) × (c ≡ d)
same_front b n m c d y z e f =
    (omega (arith, y.number, z.number, ap length e), one_cause z.before z.rest c d (subst (λ (r : List ℕ). IsBadFor z.before r c) f (subst (λ (s : List Line). IsBadFor s y.rest c) e y.cause)) z.cause)

-- two first bad lines are one, with one cause
same_bad : (b : List ℕ) (n m : ℕ) (c d : BadCause) (y : Bad b n c) (z : Bad b m d) → Compared y.before z.before y.rest z.rest → (n ≡ m) × (c ≡ d)
same_bad b n m c d y z (Front [] e k) = same_front b n m c d y z (sym (e ∙ append-nil y.before)) k
same_bad b n m c d y z (Front (l ∷ q) e k) = absurd (goes_on b n c y z.before l q (script_text q ++ z.rest) z.script e (k ∙ append_assoc (line_text l) (script_text q) z.rest))
same_bad b n m c d y z (Beyond l q e k) = absurd (goes_on b m d z y.before l q (script_text q ++ y.rest) y.script e k)

-- bytes are one script at most
pub one_script : (b : List ℕ) (s r : List Line) → Reads b s → Reads b r → s ≡ r
one_script b s r h k =
    both s r (compared s r [] [] h.script.in_range k.script.in_range (append-nil (script_text s) ∙ sym h.bytes ∙ k.bytes ∙ sym (append-nil (script_text r))))

-- bytes that are a script have no bad line
pub script_or_bad : (b : List ℕ) (s : List Line) (n : ℕ) (c : BadCause) → Reads b s → Bad b n c → ⊥
script_or_bad b s n c h y =
    neither s b n c y h.script (compared s y.before [] y.rest h.script.in_range y.script.in_range (append-nil (script_text s) ∙ sym h.bytes ∙ y.bytes))

-- bytes have one first bad line at most, with one first cause
pub one_bad : (b : List ℕ) (n m : ℕ) (c d : BadCause) → Bad b n c → Bad b m d → (n ≡ m) × (c ≡ d)
one_bad b n m c d y z = same_bad b n m c d y z (compared y.before z.before y.rest z.rest y.script.in_range z.script.in_range (sym y.bytes ∙ z.bytes))
