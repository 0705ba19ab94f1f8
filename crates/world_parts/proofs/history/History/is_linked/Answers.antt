use Rattle.std.proofs.Common.{◌∙◌, ◌||◌, ap, sym}
use Rattle.dtx_model.specs.World.{has_left, is_linked}
use Rattle.dtx_values.specs.declared.message.Dir.TheVariants.{Up, Down}
use Rattle.dtx_model.specs.Wires.{is_open_wire}
use Rattle.dtx_model.specs.Words.{past_of}
use Rattle.world_laws.specs.Course.{Course}
use Rattle.world_laws.proofs.Ended.{linked_is}
use Rattle.world_parts.proofs.history.History.is_linked.Goals as goal

pub returns : goal.returns
returns c =
    let i = c.self.inside in
    (λ j. c.is_one_of_three.ensures j)
    ∙ (λ j. c.is_open.ensures j || c.has_left.ensures j || c.has_left-2.ensures j)
    ∙ ap (λ (x : Course). is_open_wire c.args.c x.past || has_left c.args.c Up x.past || has_left c.args.c Down x.past) (sym c.self.view_is)
    ∙ linked_is c.args.c i.session.wires (past_of i.entries.items) c.self.invariant.0 c.self.invariant.1
    ∙ ap (λ (x : Course). is_linked c.args.c x.past) c.self.view_is
