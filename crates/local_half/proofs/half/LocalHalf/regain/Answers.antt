use Rattle.std.proofs.Common.{None, is_some, ◌∙◌}
use Rattle.std.proofs.lemmas.List.{length-map}
use Rattle.dtx_model.specs.Observed.{come_back}
use Rattle.half_parts.specs.declared.branches.BranchChange.TheVariants.{Due}
use Rattle.half_parts.proofs.Links.{links-changed}
use Rattle.half_parts.proofs.Lost.{lost-come_back}
use Rattle.local_half.proofs.half.LocalHalf.regain.Goals as goal

pub invariant_of-self : goal.invariant_of-self
invariant_of-self c =
    let b = c.self.invariant in
    let i = c.self.inside in
    let e = c.args.e.value in
    rw (c.regain.ensures.items, c.regain.ensures.capacity, c.change.ensures.items, c.change.ensures.capacity) (
      b.0,
      b.1,
      b.2,
      length-map i.listeners.items (come_back e) ∙ b.3,
      b.4,
      b.5,
      links-changed (is_some i.decided) i.table i.waits.items i.branches.items i.proxy e (Due None) b.6,
      b.7,
      b.8,
      λ none. lost-come_back e i.listeners.items (b.9 none),
    )
