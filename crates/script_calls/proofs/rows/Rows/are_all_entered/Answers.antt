use Rattle.std.proofs.Common.{◌≡◌, ◌≤◌, List, ap, length, arith, subst}
use Rattle.dtx_values.specs.declared.number.TheConstants.ActorNo.{MAX}
use Rattle.script_calls.specs.SeenRow.{SeenRow}
use Rattle.script_calls.proofs.NoneLeft.{none_left}
use Rattle.script_calls.proofs.rows.Rows.are_all_entered.Goals as goal

pub returns-clause-none : goal.returns-clause-none
returns-clause-none g c = λ none. none_left c.args.self.now (subst (λ (rs : List (SeenRow g.row.C.Denot)). length rs ≤ MAX) c.self.view_is (omega (arith, c.self.invariant))) none
