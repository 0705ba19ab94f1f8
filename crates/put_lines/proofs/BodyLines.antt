-- Lines of a script behind other bytes, one after another.
use Rattle.std.proofs.Common.{◌≡◌, ℕ, ◌+◌, ◌≤◌, List, [], ◌∷◌, ◌++◌, length, ap, sym, ◌∙◌, arith, length-append, Some}
use Rattle.std.specs.List.{join_with_byte}
use Rattle.dtx_values.specs.declared.limits.TheConstants.{SCRIPT_BYTES}
use Rattle.dtx_values.specs.declared.script.BadCause.{BadCause}
use Rattle.dtx_values.specs.declared.script.Line.{Line}
use Rattle.dtx_model.specs.Grammar.{line_text, script_text, words}
use Rattle.dtx_model.specs.Faults.{form_fault, front, line_forms, IsBadFor, ByForm as BadByForm, ByNames as BadByNames}
use Rattle.line_tail.specs.Cut.{IsWithout}
use Rattle.line_reader.specs.Reader.{Continues}
use Rattle.line_reader.proofs.CleanWords.{clean_line}
use Rattle.line_reader.proofs.LineTexts.{front_text, text_words}
use Rattle.line_reader.proofs.Scripts.{last_good}
use Rattle.script_text.proofs.Fitting.{line_fits}
use Rattle.script_text.proofs.GoodLines.{line_text-append}
use Rattle.put_lines.specs.Input.{ByForm, ByNames, IsBadLineAfter, form_fault_by}
use Rattle.put_lines.proofs.FormedLines.{cut_reach, same_form}

-- a line that was read reaches as far as the bytes before its LF
pub within_line : (room : ℕ) (draft : List Line) (rest text : List ℕ) (l : Line) (after : List ℕ) → front rest ≡ text → room + length text + 1 ≤ SCRIPT_BYTES → Continues draft rest l after
    → room + length (line_text l) ≤ SCRIPT_BYTES
within_line room draft rest text l after e w k =
    let spelled = join_with_byte 32 (words l) in
    let clean = text_words (words l) (clean_line (words l) (line_fits l (last_good draft l k.1).in_range)) in
    let same : front rest ≡ spelled = ap front (k.0 ∙ line_text-append l after) ∙ front_text spelled after clean in
    omega (arith, ap length (sym e ∙ same), length-append spelled (10 ∷ []))

-- a line is bad by its bytes
pub bad_by_form : (taken own : ℕ) (draft : List Line) (rest : List ℕ) (c : BadCause) → own ≡ length (script_text draft) → form_fault_by line_forms (taken + own) rest ≡ Some c → IsBadLineAfter taken draft rest c
bad_by_form taken own draft rest c e f = ByForm (ap (λ n. form_fault_by line_forms (taken + n) rest) (sym e) ∙ f)

-- what is bad in the script alone is bad behind other bytes, where it is within the most bytes
pub bad_behind : (taken own : ℕ) (draft : List Line) (rest text after : List ℕ) (c : BadCause) → own ≡ length (script_text draft) → rest ≡ text ++ 10 ∷ after → IsWithout 10 text → taken + own + length text + 1 ≤ SCRIPT_BYTES
    → IsBadFor draft rest c → IsBadLineAfter taken draft rest c
bad_behind taken own draft rest text after c e cut without w bad = by bad
  where
    same : form_fault_by line_forms (taken + length (script_text draft)) rest ≡ form_fault (length (script_text draft)) rest
    same = sym (same_form taken (length (script_text draft)) rest (omega (arith, e, cut_reach rest text after cut without)))

    by : IsBadFor draft rest c → IsBadLineAfter taken draft rest c
    by (BadByForm f) = ByForm (same ∙ f)
    by (BadByNames l f v r n) = ByNames l (same ∙ f) v r n
