use Rattle.std.proofs.Common.{arith, ◌≡◌, ◌∷◌, ◌∙◌, Some, codes}
use Rattle.dtx_model.specs.Faults.{word_fault, command_forms}
use Rattle.line_reader.proofs.Forms.{pass_one, stop_one}
use Rattle.line_reader.proofs.transactions.promotable.Goals as goal

pub returns-in_err-o : goal.returns-in_err-o
returns-in_err-o c =
    let e : word_fault command_forms (codes "promotable" ∷ c.args.words.now) ≡ Some c.in_err-o.field-0.0 =
    pass_one _ _ _ _ _ c.in_ok-t.ensures.ok ∙ pass_one _ _ _ _ _ c.in_ok-e.ensures.ok ∙ pass_one _ _ _ _ _ c.in_ok-r.ensures.ok ∙ pass_one _ _ _ _ _ c.in_ok-v.ensures.ok
    ∙ stop_one _ _ _ _ c.in_err-o.ensures.err
    in grind arith
