use Rattle.call_order.proofs.Counted.{each_called}
use Rattle.call_order.proofs.Ordered.{in_actor_order, replayed_in_order}
use Rattle.call_order.proofs.call_order.Goals as goal

pub returns-clause-ordered : goal.returns-clause-ordered
returns-clause-ordered c = in_actor_order

pub returns-clause-called : goal.returns-clause-called
returns-clause-called c = each_called

pub returns-clause-replayed : goal.returns-clause-replayed
returns-clause-replayed c = replayed_in_order
