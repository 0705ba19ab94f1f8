use Rattle.std.proofs.Common.{◌∙◌, ap, sym}
use Rattle.dtx_model.specs.Half.{is_gone}
use Rattle.half_parts.specs.Half.{Known}
use Rattle.half_parts.proofs.Lost.{none_lost}
use Rattle.local_half.proofs.half.LocalHalf.is_gone.Goals as goal

pub returns-else-self : goal.returns-else-self
returns-else-self c =
    let e = c.args.e.value in
    c.if-self.false ∙ sym (none_lost e c.self.inside.listeners.items (c.self.invariant.9 c.if-self.false)) ∙ ap (λ (k : Known). is_gone k.half.seen e) c.self.view_is
