use Rattle.std.proofs.Common.{◌≡◌, ◌<◌, ◌∙◌, is_some, false, sym, arith, rules}
use denote.Enum.Bare.{same_true}
use Rattle.dtx_values.specs.contracts.words.Status.{the_type}
use Rattle.dtx_values.specs.declared.words.Status.TheVariants.{Active}
use Rattle.dtx_model.specs.World.{half}
use Rattle.transactions.proofs.Passing.{active-undecided, none-false, ticked, true-of-not}
use Rattle.transactions.proofs.live.Live.pass.Goals as goal

pub call-requires-clause-unmade : goal.call-requires-clause-unmade
call-requires-clause-unmade g c = none-false c.args.self.now.tx.world.calls

pub returns-clause-ticked : goal.returns-clause-ticked
returns-clause-ticked g c =
    let active : c.status.result ≡ Active = same_true the_type (search rules) _ _ (true-of-not _ c.if-ne.ensures) in
    let undecided : is_some (half c.self.inside.world.world).seen.decided ≡ false = active-undecided _ (sym c.status.ensures.decided ∙ active) in
    let fits : c.args.now < 18446744073709551616 = omega arith in
    ticked g.D.Disk.faults c.args.log.now c.args.now _ _ _ _ c.in_ok-call.field-0.0 c.in_ok-call.field-0.1 c.min-passed.result c.saturating_add-self-inside.result _
    c.t.ensures c.self.view_is c.self-2.view_is c.in_ok-call.ensures.called (omega arith) c.if-passed-eq0.false undecided fits c.saturating_add-self-inside.ensures
