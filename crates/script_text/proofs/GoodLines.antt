-- Lines at the front of bytes.
use Rattle.std.proofs.Common.{◌≡◌, ℕ, ◌+◌, ◌≤◌, Bool, true, false, List, [], ◌∷◌, ◌++◌, length, refl, ap, sym, ◌∙◌, subst, arith, append_assoc, length-append, decimal, Option, Some, None}
use Rattle.std.specs.Prelude.{not, nat_lt, if◌then◌else◌}
use Rattle.std.specs.List.{join_with_byte}
use Rattle.std.proofs.lemmas.Bool.Decides.{nat_tests}
use Rattle.dtx_values.specs.declared.limits.TheConstants.{LINE_BYTES, SCRIPT_BYTES}
use Rattle.dtx_values.specs.declared.script.BadCause.{BadCause}
use Rattle.dtx_values.specs.declared.script.BadCause.TheVariants.{TooLong, LongLine, NoNewline, BadByte}
use Rattle.dtx_values.specs.declared.script.Line.{Line}
use Rattle.dtx_model.specs.Words.{each, past_of}
use Rattle.dtx_model.specs.Grammar.{words, command_words, line_text, script_text, is_in_range, is_short, IsScript}
use Rattle.dtx_model.specs.Faults.{front, has_newline, words_of, reach, form_fault, name_fault, word_fault, line_forms, IsBadFor, ByForm, ByNames}
use Rattle.line_reader.proofs.WordFaults.{fits_none}
use Rattle.line_reader.proofs.CleanWords.{is_clean, clean_line}
use Rattle.script_text.proofs.Fitting.{line_fits}
use Rattle.line_reader.proofs.LineTexts.{is_text, behind_front, text_words, front_text, behind_text, newline_there, words_joined}
use Rattle.script_text.proofs.SameLines.{same_line}
use Rattle.line_reader.proofs.Scripts.{IsGood, last_good}

-- the line at the front has no fault by its bytes
pub record IsFormed (taken : ℕ) (bs : List ℕ) : Type 0 where
  pub within : taken + reach bs ≤ SCRIPT_BYTES
  pub short : length (front bs) ≤ LINE_BYTES
  pub newline : has_newline bs ≡ true
  pub text : is_text (front bs) ≡ true
  pub words : word_fault line_forms (words_of (front bs)) ≡ None

-- a test of what isn't less
not_less : (m n : ℕ) → n ≤ m → nat_lt m n ≡ false
not_less m n h = grind (arith, nat_tests)

-- and the other way round
at_most : (m n : ℕ) → nat_lt m n ≡ false → n ≤ m
at_most m n h = grind (arith, nat_tests)

-- so there is none
pub formed_none : (taken : ℕ) (bs : List ℕ) → IsFormed taken bs → form_fault taken bs ≡ None
unfolding form_fault
formed_none taken bs f = rw (not_less SCRIPT_BYTES (taken + reach bs) f.within, not_less LINE_BYTES (length (front bs)) f.short, f.newline, f.text, f.words) refl

-- the first of four tests that fails, or else a fault of words
abbrev first_failure : Bool → Bool → Bool → Bool → Option BadCause → Option BadCause
first_failure a b c d o = if a then Some TooLong else if b then Some LongLine else if not c then Some NoNewline else if not d then Some BadByte else o

-- where none fails, all hold
all_hold : (a b c d : Bool) (o : Option BadCause) → first_failure a b c d o ≡ None → (a ≡ false) × (b ≡ false) × (c ≡ true) × (d ≡ true) × (o ≡ None)
all_hold true b c d o h = absurd (cc h)
all_hold false true c d o h = absurd (cc h)
all_hold false false false d o h = absurd (cc h)
all_hold false false true false o h = absurd (cc h)
all_hold false false true true o h = (refl, refl, refl, refl, h)

-- and the other way round
pub none_formed : (taken : ℕ) (bs : List ℕ) → form_fault taken bs ≡ None → IsFormed taken bs
unfolding form_fault
none_formed taken bs h =
    let k = all_hold (nat_lt SCRIPT_BYTES (taken + reach bs)) (nat_lt LINE_BYTES (length (front bs))) (has_newline bs) (is_text (front bs)) (word_fault line_forms (words_of (front bs))) h in
    record { within = at_most SCRIPT_BYTES (taken + reach bs) k.0; short = at_most LINE_BYTES (length (front bs)) k.1; newline = k.2; text = k.3; words = k.4 }

-- what follows a line stands after its LF
pub line_text-append : (l : Line) (after : List ℕ) → line_text l ++ after ≡ join_with_byte 32 (words l) ++ 10 ∷ after
line_text-append l after = append_assoc (join_with_byte 32 (words l)) (10 ∷ []) after

-- the words of a line are clean
clean_words : (l : Line) → is_in_range l.body ≡ true → each is_clean (words l) ≡ true
clean_words l h = clean_line (words l) (line_fits l h)

-- its bytes are a text
line_is_text : (l : Line) → is_in_range l.body ≡ true → is_text (join_with_byte 32 (words l)) ≡ true
line_is_text l h = text_words (words l) (clean_words l h)

-- it is the front
line_front : (l : Line) (after : List ℕ) → is_in_range l.body ≡ true → front (line_text l ++ after) ≡ join_with_byte 32 (words l)
line_front l after h = ap front (line_text-append l after) ∙ front_text (join_with_byte 32 (words l)) after (line_is_text l h)

-- what follows is after it
line_behind : (l : Line) (after : List ℕ) → is_in_range l.body ≡ true → behind_front (line_text l ++ after) ≡ after
line_behind l after h = ap behind_front (line_text-append l after) ∙ behind_text (join_with_byte 32 (words l)) after (line_is_text l h)

-- the front has its words
line_words : (l : Line) (after : List ℕ) → is_in_range l.body ≡ true → words_of (front (line_text l ++ after)) ≡ words l
line_words l after h = ap words_of (line_front l after h) ∙ words_joined 97 (decimal l.actor.value) (command_words l.body) (clean_words l h)

-- bytes begin with one line only
pub same_first : (l m : Line) (a b : List ℕ) → is_in_range l.body ≡ true → is_in_range m.body ≡ true → line_text l ++ a ≡ line_text m ++ b → (l ≡ m) × (a ≡ b)
same_first l m a b h k e = (
  same_line l m h k (sym (line_words l a h) ∙ ap (λ t. words_of (front t)) e ∙ line_words m b k),
  sym (line_behind l a h) ∙ ap behind_front e ∙ line_behind m b k,
)

-- a line that isn't too long is so before its LF
short_line : (l : Line) → is_short l ≡ true → length (join_with_byte 32 (words l)) ≤ LINE_BYTES
short_line l h =
    let k : length (line_text l) ≤ LINE_BYTES + 1 = grind (arith, nat_tests) in
    omega (arith, length-append (join_with_byte 32 (words l)) (10 ∷ []))

-- a good line has no fault by its bytes
good_formed : (before : List Line) (l : Line) (after : List ℕ) → IsGood before l → IsFormed (length (script_text before)) (line_text l ++ after)
good_formed before l after g =
    let there : has_newline (line_text l ++ after) ≡ true = ap has_newline (line_text-append l after) ∙ newline_there (join_with_byte 32 (words l)) after in
    let far : reach (line_text l ++ after) ≡ length (join_with_byte 32 (words l)) + 1 = rw (there, line_front l after g.in_range) refl in
    record {
      within = omega (arith, far, g.within, length-append (join_with_byte 32 (words l)) (10 ∷ []));
      short = omega (arith, ap length (line_front l after g.in_range), short_line l g.short);
      newline = there;
      text = ap is_text (line_front l after g.in_range) ∙ line_is_text l g.in_range;
      words = ap (word_fault line_forms) (line_words l after g.in_range) ∙ fits_none line_forms (words l) (line_fits l g.in_range);
    }

-- nor is the front bad where a good line stands there
not_bad : (before : List Line) (l : Line) (after : List ℕ) (c : BadCause) → IsGood before l → IsBadFor before (line_text l ++ after) c → ⊥
not_bad before l after c g (ByForm e) =
    let k = formed_none (length (script_text before)) (line_text l ++ after) (good_formed before l after g) in
    cc (e, k)
not_bad before l after c g (ByNames m e w r n) =
    let same = same_line l m g.in_range r (sym (line_words l after g.in_range) ∙ w) in
    let none = subst (λ (x : Line). name_fault (past_of before) x ≡ None) same g.names in
    cc (none, n)

-- where a script goes on with a line, its front isn't bad
pub not_bad_here : (before : List Line) (l : Line) (rest after : List ℕ) (c : BadCause) → IsScript (before ++ l ∷ []) → rest ≡ line_text l ++ after → IsBadFor before rest c → ⊥
not_bad_here before l rest after c s e b = not_bad before l after c (last_good before l s) (subst (λ (r : List ℕ). IsBadFor before r c) e b)
