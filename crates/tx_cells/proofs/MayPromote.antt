-- What the table of the lines that may begin a promotion says of one.
use Rattle.std.proofs.Common.{◌≡◌, ◌<◌, ◌-◌, ℕ, zero, suc, Bool, false, List, map, slice_get, Option, Some, None, refl, ap, sym, ◌∙◌, arith, Bor}
use native.Mathlib.Numerals.{unary_clauses}
use Rattle.std.specs.Option.{option_copied, option_map, unwrap_or}
use Rattle.std.specs.Slice.{IsItemAt}
use Rattle.std.proofs.lemmas.Option.{slice_get-get_or, slice_get-map, slice_get_past}
use Rattle.dtx_values.specs.declared.script.Line.{Line}
use Rattle.tx_cells.specs.Entering.{is_promoting, is_promoting_line, may_promote_at}

of_line : (o : Option Line) → unwrap_or (option_map (λ l. is_promoting_line l.body) o) false ≡ is_promoting o
of_line (Some l) = refl
of_line None = refl

pub said_at : (s : List Line) (ps : List Bool) (n : ℕ) → ps ≡ map (λ l. is_promoting_line l.body) s → 0 < n → unwrap_or (slice_get ps (n - 1)) false ≡ may_promote_at s n
said_at s ps zero is above = absurd (omega (arith, above))
said_at s ps (suc k) is above =
    simp unary_clauses (ap (λ qs. unwrap_or (slice_get qs k) false) is ∙ (ap (λ o. unwrap_or o false) (slice_get-map (λ (l : Line). is_promoting_line l.body) s k) ∙ of_line (slice_get s k)))

-- What is read there is what the table has there.
pub copied_at : (ps : List Bool) (k : ℕ) (r : Option (Bor Bool)) → IsItemAt ps k r → option_copied r ≡ slice_get ps k
copied_at ps k None h = sym (slice_get_past ps k h.3)
copied_at ps k (Some x) h = ap Some h.1 ∙ sym (slice_get-get_or ps k x.now h.3.0)
