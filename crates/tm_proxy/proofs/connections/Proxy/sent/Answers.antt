use Rattle.std.proofs.Common.{◌∙◌, ◌≤◌, length, sym, subst}
use Rattle.dtx_values.specs.declared.entry.Entry.TheVariants.{Sent}
use Rattle.dtx_values.specs.declared.limits.TheConstants.{CONNECTIONS}
use Rattle.dtx_values.specs.declared.message.Dir.TheVariants.{Up}
use Rattle.dtx_values.specs.Ends.{ends_after}
use Rattle.tm_proxy.proofs.Room.{few_others}
use Rattle.tm_proxy.proofs.connections.Proxy.sent.Goals as goal

pub open_by-requires : goal.open_by-requires
open_by-requires c =
    let few = subst (λ ns. length (ends_after (Sent c.args.c Up c.args.m.now) ns) ≤ CONNECTIONS) (sym c.self.view_is) c.requires.few in
    few_others c.args.c c.args.m.now c.self.inside.ends.items CONNECTIONS (sym c.is_opening.ensures ∙ c.if-is_opening.true) few
