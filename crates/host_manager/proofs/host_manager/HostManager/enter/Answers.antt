use Rattle.host_manager.proofs.Passing.{as_result}
use Rattle.host_manager.proofs.host_manager.HostManager.enter.Goals as goal

pub returns : goal.returns
returns c = as_result c.args.number _ c.args.self.now c.pass-entered.new.self c.pass-entered.result (record {
  transaction = c.in-Some.tx.number;
  named = c.in-Some.ensures.found.0;
  does = c.pass-entered.ensures.entered;
  others = c.pass-entered.ensures.others;
  rest = c.pass-entered.ensures.rest;
})
