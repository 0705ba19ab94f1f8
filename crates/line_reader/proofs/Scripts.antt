-- Scripts that grow by a line.
use Rattle.std.proofs.Common.{◌≡◌, ℕ, ◌+◌, ◌≤◌, ◌&&◌, Bool, true, false, List, [], ◌∷◌, ◌++◌, length, refl, ap, sym, ◌∙◌, arith, append_assoc, length-append, Option, Some, None}
use Rattle.std.specs.Prelude.{not, if◌then◌else◌}
use Rattle.std.specs.List.{join_with_byte}
use Rattle.std.proofs.lemmas.List.{append-nil}
use Rattle.dtx_values.specs.declared.limits.TheConstants.{SCRIPT_BYTES}
use Rattle.dtx_values.specs.declared.script.BadCause.{BadCause}
use Rattle.dtx_values.specs.declared.script.BadCause.TheVariants.{NameTwice, NameUnknown, WrongKind, ParTwice}
use Rattle.dtx_values.specs.declared.script.Line.{Line}
use Rattle.dtx_model.proofs.Bools.{and_both, and_left, and_right}
use Rattle.dtx_model.specs.Words.{each, always, past_of}
use Rattle.dtx_model.specs.Grammar.{words, line_text, script_text, is_in_range, is_short, is_made, makes, uses, is_named_well, is_of_kind, is_par_once, IsScript}
use Rattle.dtx_model.specs.Faults.{name_fault}
use Rattle.dtx_model.proofs.Histories.{onto-append, past_of-snoc}
use Rattle.dtx_model.proofs.Pasts.{always-before}

-- each of a list passes, and one more
each-snoc : {A : Type 0} (p : A → Bool) (xs : List A) (x : A) → each p xs ≡ true → p x ≡ true → each p (xs ++ x ∷ []) ≡ true
each-snoc p [] x h k = and_both (p x) true k refl
each-snoc p (y ∷ xs) x h k = and_both (p y) _ (and_left _ _ h) (each-snoc p xs x (and_right _ _ h) k)

-- where each of a list passes, its last passes
each-last : {A : Type 0} (p : A → Bool) (xs : List A) (x : A) → each p (xs ++ x ∷ []) ≡ true → p x ≡ true
each-last p [] x h = and_left _ _ h
each-last p (y ∷ xs) x h = each-last p xs x (and_right _ _ h)

-- where each passes, each of the front passes
each-front : {A : Type 0} (p : A → Bool) (xs ys : List A) → each p (xs ++ ys) ≡ true → each p xs ≡ true
each-front p [] ys h = refl
each-front p (x ∷ xs) ys h = and_both (p x) (each p xs) (and_left _ _ h) (each-front p xs ys (and_right _ _ h))

-- each passes with what stands before it, and one more
always-snoc : {A : Type 0} (t : List A → A → Bool) (xs : List A) (x : A) → always t (past_of xs) ≡ true → t (past_of xs) x ≡ true → always t (past_of (xs ++ x ∷ [])) ≡ true
always-snoc t xs x h k = ap (always t) (past_of-snoc xs x) ∙ and_both (t (past_of xs) x) (always t (past_of xs)) k h

-- where each passes with what stands before it, the last does
always-last : {A : Type 0} (t : List A → A → Bool) (xs : List A) (x : A) → always t (past_of (xs ++ x ∷ [])) ≡ true → t (past_of xs) x ≡ true
always-last t xs x h = and_left _ _ (ap (always t) (sym (past_of-snoc xs x)) ∙ h)

-- so does each of the front
always-front : {A : Type 0} (t : List A → A → Bool) (xs ys : List A) → always t (past_of (xs ++ ys)) ≡ true → always t (past_of xs) ≡ true
always-front t xs ys h = always-before t (past_of xs) ys (ap (always t) (sym (onto-append [] xs ys)) ∙ h)

-- the text of a script with more lines
pub script_text-append : (s r : List Line) → script_text (s ++ r) ≡ script_text s ++ script_text r
script_text-append [] r = refl
script_text-append (l ∷ s) r = ap (λ t. line_text l ++ t) (script_text-append s r) ∙ sym (append_assoc (line_text l) (script_text s) (script_text r))

-- its length with one more
length-script_text-snoc : (s : List Line) (l : Line) → length (script_text (s ++ l ∷ [])) ≡ length (script_text s) + length (line_text l)
length-script_text-snoc s l = omega (arith, ap length (script_text-append s (l ∷ [])), length-append (script_text s) (script_text (l ∷ [])), length-append (line_text l) [])

-- no line is a script
pub script_none : IsScript []
script_none = record { in_range = refl; short = refl; within = omega arith; named = refl; kinds = refl; par = refl }

-- the line may stand behind these ones
pub record IsGood (before : List Line) (l : Line) : Type 0 where
  pub in_range : is_in_range l.body ≡ true
  pub short : is_short l ≡ true
  pub within : length (script_text before) + length (line_text l) ≤ SCRIPT_BYTES
  pub names : name_fault (past_of before) l ≡ None

-- a line that makes and uses names well, with enlistments of the right kind, and isn't a second `par`, has no fault by its names
well_named : (past : List Line) (l : Line) → is_named_well past l ≡ true → is_of_kind past l.body ≡ true → is_par_once past l.body ≡ true → name_fault past l ≡ None
well_named past l n k p =
    let made = each (λ m. not (is_made past m)) (makes l.body) in
    let used = each (λ m. is_made past m) (uses l.body) in
    rw (and_left made used n, and_right made used n, k, p) refl

-- the first of four tests that fails
abbrev first_failure : Bool → Bool → Bool → Bool → Option BadCause
first_failure a b c d = if not a then Some NameTwice else if not b then Some NameUnknown else if not c then Some WrongKind else if not d then Some ParTwice else None

-- where none fails, all hold
all_hold : (a b c d : Bool) → first_failure a b c d ≡ None → ((a && b) ≡ true) × (c ≡ true) × (d ≡ true)
all_hold true true true true h = (refl, refl, refl)
all_hold true true true false h = absurd (cc h)
all_hold true true false d h = absurd (cc h)
all_hold true false c d h = absurd (cc h)
all_hold false b c d h = absurd (cc h)

-- and the other way round
by_names : (past : List Line) (l : Line) → name_fault past l ≡ None → (is_named_well past l ≡ true) × (is_of_kind past l.body ≡ true) × (is_par_once past l.body ≡ true)
by_names past l h = all_hold (each (λ n. not (is_made past n)) (makes l.body)) (each (λ n. is_made past n) (uses l.body)) (is_of_kind past l.body) (is_par_once past l.body) h

-- a script goes on with a good line
pub script_more : (s : List Line) (l : Line) → IsScript s → IsGood s l → IsScript (s ++ l ∷ [])
script_more s l h g =
    let n = by_names (past_of s) l g.names in
    record {
      in_range = each-snoc (λ (x : Line). is_in_range x.body) s l h.in_range g.in_range;
      short = each-snoc is_short s l h.short g.short;
      within = omega (arith, length-script_text-snoc s l, g.within);
      named = always-snoc is_named_well s l h.named n.0;
      kinds = always-snoc (λ (past : List Line) (x : Line). is_of_kind past x.body) s l h.kinds n.1;
      par = always-snoc (λ (past : List Line) (x : Line). is_par_once past x.body) s l h.par n.2;
    }

-- the last line of a script is good
pub last_good : (s : List Line) (l : Line) → IsScript (s ++ l ∷ []) → IsGood s l
last_good s l h = record {
  in_range = each-last (λ (x : Line). is_in_range x.body) s l h.in_range;
  short = each-last is_short s l h.short;
  within = omega (arith, length-script_text-snoc s l, h.within);
  names = well_named (past_of s) l (always-last is_named_well s l h.named) (always-last (λ (past : List Line) (x : Line). is_of_kind past x.body) s l h.kinds)
      (always-last (λ (past : List Line) (x : Line). is_par_once past x.body) s l h.par);
}

-- the front of a script is a script
pub script_front : (s r : List Line) → IsScript (s ++ r) → IsScript s
script_front s r h = record {
  in_range = each-front (λ (l : Line). is_in_range l.body) s r h.in_range;
  short = each-front is_short s r h.short;
  within = omega (arith, h.within, ap length (script_text-append s r), length-append (script_text s) (script_text r));
  named = always-front is_named_well s r h.named;
  kinds = always-front (λ (past : List Line) (x : Line). is_of_kind past x.body) s r h.kinds;
  par = always-front (λ (past : List Line) (x : Line). is_par_once past x.body) s r h.par;
}

-- the bytes of a script that goes on
pub bytes_more : (s : List Line) (l : Line) (bytes rest after : List ℕ) → bytes ≡ script_text s ++ rest → rest ≡ line_text l ++ after → bytes ≡ script_text (s ++ l ∷ []) ++ after
bytes_more s l bytes rest after e k =
    let text : script_text (s ++ l ∷ []) ≡ script_text s ++ line_text l = script_text-append s (l ∷ []) ∙ ap (λ t. script_text s ++ t) (append-nil (line_text l)) in
    e ∙ ap (λ t. script_text s ++ t) k ∙ sym (append_assoc (script_text s) (line_text l) after) ∙ ap (λ t. t ++ after) (sym text)

-- a line's text isn't empty
pub line_nonempty : (l : Line) (a : List ℕ) → [] ≡ line_text l ++ a → ⊥
line_nonempty l a e = omega (arith, ap length e, length-append (line_text l) a, length-append (join_with_byte 32 (words l)) (10 ∷ []))

-- the length of a line
pub length-line_text : (l : Line) (bytes text after : List ℕ) → bytes ≡ text ++ 10 ∷ after → bytes ≡ line_text l ++ after → length (line_text l) ≡ length text + 1
length-line_text l bytes text after e s = omega (arith, ap length (sym e ∙ s), length-append text (10 ∷ after), length-append (line_text l) after)

-- a script has no more lines than bytes
pub length_script : (s : List Line) → length s ≤ length (script_text s)
length_script [] = omega arith
length_script (l ∷ s) = omega (arith, length_script s, length-append (line_text l) (script_text s), length-append (join_with_byte 32 (words l)) (10 ∷ []))
