use Rattle.script_calls.proofs.PlanTable.{put_there}
use Rattle.script_calls.proofs.plans.put_at.Goals as goal

pub returns : goal.returns
returns g c = put_there c.args.items.now.items c.reach.new.items.items c.args.place c.args.blank c.args.item c.in_ok-reach.ensures.room c.in_ok-reach.ensures.same
