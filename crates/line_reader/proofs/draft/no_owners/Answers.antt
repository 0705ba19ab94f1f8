use Rattle.std.proofs.Common.{◌≡◌, ℕ, Option, None, replicate, arith, ap, ◌∙◌}
use Rattle.dtx_values.specs.declared.number.TheConstants.EnlNo.{MAX as ENLISTMENTS}
use Rattle.dtx_values.specs.declared.number.TxNo.{TxNo}
use Rattle.line_reader.proofs.draft.no_owners.Goals as goal

pub returns : goal.returns
returns c =
    let full : c.loop-slot._slot ≡ ENLISTMENTS = omega arith in
    c.loop-slot.invariant.0 ∙ ap (λ (n : ℕ). replicate {A = Option TxNo} n None) full
