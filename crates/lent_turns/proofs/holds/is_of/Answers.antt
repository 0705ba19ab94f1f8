use Rattle.std.proofs.Common.{◌≡◌, ◌∙◌, ap, sym, arith}
use Rattle.std.proofs.lemmas.Bool.Decides.{nat_tests}
use Rattle.dtx_values.proofs.SameNumbers.{same_transaction}
use Rattle.dtx_values.specs.TxIds.{first_id}
use Rattle.lent_turns.proofs.holds.is_of.Goals as goal

-- src/holds.rt
pub returns-clause-of : goal.returns-clause-of
returns-clause-of g c =
    let told = c.if-ne.ensures in
    let same : c.t-found.result.value ≡ c.args.t.value = grind (arith, nat_tests) in
    ap first_id (sym (same_transaction c.t-found.result c.args.t same)) ∙ c.t-found.ensures.first
