use Rattle.std.proofs.Common.{◌≡◌, false, arith, subst, sym}
use Rattle.dtx_model.specs.Answers.{has_promotion}
use Rattle.dtx_values.specs.Table.{insert_by}
use Rattle.dtx_model.specs.Waiting.{waiter_line, wanted_by}
use Rattle.dtx_model.proofs.Bools.{or_first}
use Rattle.half_parts.specs.Half.{Known}
use Rattle.half_parts.specs.Linked.{AreRows}
use Rattle.half_parts.proofs.Waiting.{waits_seen}
use Rattle.local_half.proofs.half.LocalHalf.wait_first.Goals as goal

pub invariant_of-self : goal.invariant_of-self
invariant_of-self c =
    let b = c.self.invariant in
    let i = c.self.inside in
    let unstarted = subst (λ (k : Known). has_promotion k.half.seen ≡ false) (sym c.self.view_is) c.requires.unstarted in
    let more = waits_seen _ _ c.self.view_is c.args.line c.args.c.now c.requires.own c.requires.waits c.requires.new i.manager b.4 b.5 b.6 in
    let unpromoted : i.handover.over ≡ false = or_first i.handover.over _ unstarted in
    rw (c.start.ensures, c.add.ensures.items, c.wanted_by.ensures) (
      b.0,
      b.1,
      omega (arith, c.add.ensures.capacity, b.2),
      b.3,
      subst (λ p. AreRows i.limit p i.table i.manager (insert_by waiter_line (c.args.line, wanted_by c.args.c.now) i.waits.items)) unpromoted more.rows,
      more.waiting,
      more.links,
      λ k. absurd (cc),
      λ none. absurd (cc),
      b.9,
    )
