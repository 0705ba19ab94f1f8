use Rattle.std.proofs.Common.{ap}
use Rattle.dtx_model.specs.Words.{past_of}
use Rattle.tx_world.proofs.Living.{whole_new}
use Rattle.tx_world.proofs.Onward.{new_kept}
use Rattle.tx_world.proofs.world.TxWorld.new.Goals as goal

pub invariant_of-result : goal.invariant_of-result
invariant_of-result c =
    whole_new (new_kept c.args.t _ _ c.in_ok-new.field-0 c.new-2.result (ap past_of c.new-4.ensures.items) c.in_ok-new-2.ensures c.in_ok-new.ensures c.new-2.ensures) c.new-2.ensures c.in_ok-new-2.ensures c.new-5.ensures
