use Rattle.std.proofs.Common.{◌∙◌, ap}
use Rattle.dtx_model.specs.World.{has_left}
use Rattle.dtx_model.specs.Words.{past_of}
use Rattle.world_laws.specs.Course.{Course}
use Rattle.world_laws.proofs.Ended.{left_is}
use Rattle.world_parts.proofs.history.History.has_left.Goals as goal

pub returns : goal.returns
returns c =
    c.has_left.ensures.value
    ∙ left_is c.args.c c.args.d c.self.inside.session.wires (past_of c.self.inside.entries.items) c.self.invariant.0
    ∙ ap (λ (x : Course). has_left c.args.c c.args.d x.past) c.self.view_is
