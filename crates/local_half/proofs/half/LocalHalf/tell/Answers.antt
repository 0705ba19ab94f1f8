use Rattle.std.proofs.Common.{is_some, ◌∙◌}
use Rattle.std.proofs.lemmas.List.{length-map}
use Rattle.dtx_model.specs.Observed.{hear}
use Rattle.half_parts.specs.declared.branches.BranchChange.TheVariants.{Aborted}
use Rattle.half_parts.proofs.Links.{links-changed}
use Rattle.half_parts.proofs.Lost.{lost-hear}
use Rattle.local_half.proofs.half.LocalHalf.tell.Goals as goal

pub invariant_of-self-then-eq : goal.invariant_of-self-then-eq
invariant_of-self-then-eq c =
    let b = c.self.invariant in
    let i = c.self.inside in
    let e = c.in-Enl.e.value in
    rw (c.tell.ensures.items, c.tell.ensures.capacity, c.change.ensures.items, c.change.ensures.capacity) (
      b.0,
      b.1,
      b.2,
      length-map i.listeners.items (hear e) ∙ b.3,
      b.4,
      b.5,
      links-changed (is_some i.decided) i.table i.waits.items i.branches.items i.proxy e Aborted b.6,
      b.7,
      b.8,
      λ none. lost-hear e i.listeners.items ∙ b.9 none,
    )

pub invariant_of-self-else-eq : goal.invariant_of-self-else-eq
invariant_of-self-else-eq c =
    let b = c.self.invariant in
    let i = c.self.inside in
    let e = c.in-Enl.e.value in
    rw (c.tell.ensures.items, c.tell.ensures.capacity) (
      b.0,
      b.1,
      b.2,
      length-map i.listeners.items (hear e) ∙ b.3,
      b.4,
      b.5,
      b.6,
      b.7,
      b.8,
      λ none. lost-hear e i.listeners.items ∙ b.9 none,
    )
