-- A made script, line by line.
use Rattle.std.proofs.Common.{◌≡◌, ℕ, ◌+◌, ◌*◌, ◌≤◌, Bool, true, false, List, [], ◌∷◌, ◌++◌, length, refl, ap, sym, ◌∙◌, subst, arith, length-append}
use Rattle.std.specs.Prelude.{nat_le, not}
use Rattle.std.proofs.lemmas.Bool.Decides.{nat_tests}
use Rattle.std.proofs.lemmas.List.{append-nil}
use Rattle.std.proofs.lemmas.List.Folds.{list_any-append}
use Rattle.dtx_values.specs.declared.limits.TheConstants.{LINE_BYTES}
use Rattle.dtx_values.specs.declared.script.Line.{Line}
use Rattle.dtx_model.specs.Words.{each, past_of}
use Rattle.dtx_model.specs.Grammar.{IsScript, is_in_range, is_made, is_of_kind, is_par_once, line_text, makes, script_text, uses}
use Rattle.dtx_model.proofs.Bools.{or_false}
use Rattle.dtx_model.proofs.Histories.{past_of-snoc}
use Rattle.line_reader.proofs.Scripts.{IsGood, script_more, script_none, script_text-append}
use Rattle.script_maker.proofs.Names.{Named, named_more, named_none}
use Rattle.dtx_model.specs.AtLog.{has_log_line, is_log_line}

-- at most n lines, of this text and none at the log, are a script, and make these names
pub record Stage (t e c : ℕ) (p : Bool) (n : ℕ) (x : List ℕ) (s : List Line) : Type 0 where
  pub script : IsScript s
  pub text : script_text s ≡ x
  pub long : length (script_text s) ≤ 200 * n
  pub no_log_line : has_log_line s ≡ false
  pub named : Named t e c p (past_of s)

-- no line
pub stage_none : Stage 0 0 0 false 0 [] []
stage_none = record { script = script_none; text = refl; long = omega arith; no_log_line = refl; named = named_none }

-- what a line shows alone
pub record IsFit (l : Line) : Type 0 where
  pub in_range : is_in_range l.body ≡ true
  pub short : length (line_text l) ≤ 200
  pub kind : (past : List Line) → is_of_kind past l.body ≡ true
  pub not_at_log : is_log_line l.body ≡ false

-- such a line may come next, where its names may
pub record IsNext (past : List Line) (l : Line) : Type 0 where
  pub makes_new : each (λ n. not (is_made past n)) (makes l.body) ≡ true
  pub uses_old : each (λ n. is_made past n) (uses l.body) ≡ true
  pub par_once : is_par_once past l.body ≡ true

-- lines that are not at the log, and one more
no_log_line_more : (s : List Line) (l : Line) → has_log_line s ≡ false → is_log_line l.body ≡ false → has_log_line (s ++ l ∷ []) ≡ false
no_log_line_more s l h f = list_any-append (λ x. is_log_line x.body) s (l ∷ []) ∙ or_false _ _ h (or_false _ _ f refl)

-- a line's length as a test
short_enough : (n : ℕ) → n ≤ 200 → nat_le n (LINE_BYTES + 1) ≡ true
short_enough n h = grind (arith, nat_tests)

-- it is good
good : (s : List Line) (l : Line) → IsFit l → IsNext (past_of s) l → length (script_text s) ≤ 1000000 → IsGood s l
good s l f g h = record {
  in_range = f.in_range;
  short = short_enough (length (line_text l)) f.short;
  within = omega (arith, f.short);
  names = rw (g.makes_new, g.uses_old, f.kind (past_of s), g.par_once) refl;
}

-- and the script goes on with it
pub goes_on : (t e c t' e' c' n : ℕ) (p p' : Bool) (x y : List ℕ) (s : List Line) (l : Line) → Stage t e c p n x s → n ≤ 2000 → IsFit l → IsNext (past_of s) l → line_text l ≡ y
    → Named t' e' c' p' (l ∷ past_of s) → Stage t' e' c' p' (n + 1) (x ++ y) (s ++ l ∷ [])
goes_on t e c t' e' c' n p p' x y s l h few f g u w =
    let more : script_text (s ++ l ∷ []) ≡ script_text s ++ line_text l = script_text-append s (l ∷ []) ∙ ap (λ z. script_text s ++ z) (append-nil (line_text l)) in
    record {
      script = script_more s l h.script (good s l f g (omega (arith, h.long)));
      text = more ∙ ap (λ z. z ++ line_text l) h.text ∙ ap (λ z. x ++ z) u;
      no_log_line = no_log_line_more s l h.no_log_line f.not_at_log;
      long = omega (arith, ap length more, length-append (script_text s) (line_text l), h.long, f.short);
      named = subst (λ (past : List Line). Named t' e' c' p' past) (sym (past_of-snoc s l)) w;
    }

-- a stage of fewer lines and names is one of more
pub stage_more : (t e c n i j m : ℕ) (p : Bool) (x : List ℕ) (s : List Line) → Stage t e c p n x s → e ≤ i → c ≤ j → n ≤ m → Stage t i j p m x s
stage_more t e c n i j m p x s h above over more =
    record { script = h.script; text = h.text; long = omega (arith, h.long); no_log_line = h.no_log_line; named = named_more t e c i j p (past_of s) h.named above over }
