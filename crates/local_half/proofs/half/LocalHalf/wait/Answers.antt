use Rattle.std.proofs.Common.{◌≡◌, true, arith, is_some, subst, sym}
use Rattle.dtx_model.specs.Answers.{has_promotion}
use Rattle.half_parts.specs.Half.{Known}
use Rattle.half_parts.proofs.Waiting.{waits_seen, started_cause}
use Rattle.local_half.proofs.half.LocalHalf.wait.Goals as goal

pub invariant_of-self : goal.invariant_of-self
invariant_of-self c =
    let b = c.self.invariant in
    let i = c.self.inside in
    let started = subst (λ (k : Known). has_promotion k.half.seen ≡ true) (sym c.self.view_is) c.requires.started in
    let more = waits_seen _ _ c.self.view_is c.args.line c.args.c.now c.requires.own c.requires.waits c.requires.new i.manager b.4 b.5 b.6 in
    rw (c.add.ensures.items, c.wanted_by.ensures) (
      b.0,
      b.1,
      omega (arith, c.add.ensures.capacity, b.2),
      b.3,
      more.rows,
      more.waiting,
      more.links,
      b.7,
      λ none. absurd (started_cause i.handover.over i.handover.failed (is_some i.handover.cause) started none),
      b.9,
    )
