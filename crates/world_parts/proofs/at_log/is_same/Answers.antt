use Rattle.std.proofs.Common.{◌≡◌, List}
use Rattle.world_parts.proofs.at_log.is_same.Goals as goal
use Rattle.std.proofs.Common.{◌∙◌, ap, sym}
use Rattle.std.specs.Prelude.{take}
use Rattle.std.specs.Cmp.Lexicographic.{pointwise}
use Rattle.dtx_values.specs.declared.number.EnlNo.{EnlNo}
use Rattle.dtx_values.specs.declared.number.RmNo.{RmNo}
use Rattle.world_laws.proofs.Found.{same_decided, same_pair}

-- src/at_log.rt:41:1
pub returns-then-a-b : goal.returns-then-a-b
returns-then-a-b c =
    let same : c.eq.result ≡ pointwise same_pair (take c.args.a.now.count c.args.a.now.durables) (take c.args.b.now.count c.args.b.now.durables)
    = c.eq.ensures ∙ ap (λ (ps : List (RmNo × EnlNo)). pointwise same_pair ps c.pairs-then-a-b.result.now) c.pairs.ensures
    ∙ ap (pointwise same_pair (take c.args.a.now.count c.args.a.now.durables)) c.pairs-then-a-b.ensures in
    let decided = same_decided c.args.a.now c.args.b.now c.if-a-b.true in
    (λ t. decided.0 (sym same ∙ t), λ e. same ∙ decided.1 e)
