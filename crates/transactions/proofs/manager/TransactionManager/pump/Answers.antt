use Rattle.std.proofs.Common.{false, true, ◌≡◌, ◌<◌, ◌+◌, ◌∙◌, length, arith, subst, sym}
use Rattle.transactions.proofs.Turning.{numbers_within, stopped_next, turn_fails, turned_next}
use Rattle.transactions.proofs.manager.TransactionManager.pump.Goals as goal

pub returns-in_default-new-clause-heard : goal.returns-in_default-new-clause-heard
returns-in_default-new-clause-heard g c =
    let low : c.loop-i.i < length c.self.inside.lives.items = omega arith in
    let high = numbers_within c.self.inside.lives.items c.loop-i.i c.self.invariant.0 low in
    absurd (never (c.in_default-new.ensures.in_range.1 (omega (arith, high), omega (arith, high))))
  where
    never : false ≡ true → ⊥
    never q = cc

pub returns-in-Err-clause-stopped : goal.returns-in-Err-clause-stopped
returns-in-Err-clause-stopped g c =
    let value = c.in-Some.ensures.value in
    let number : c.in-Some.place.value ≡ c.loop-i.i + 1 = omega (arith, value) in
    stopped_next g.D.Disk.faults g.D.Disk.honest g.D.Disk.image g.O.ResourceManager.gives c.loop-i.i c.in-Some.place c.at_place-t.result c.args.self.now c.loop-i.self c.turn.new.self c.args.o.now c.loop-i.o c.turn.new.o number c.at_place-t.ensures.standing c.loop-i.invariant.2
    c.in-Err.ensures.stopped c.turn.ensures.others c.turn.ensures.time

pub loop-i-preserved : goal.loop-i-preserved
loop-i-preserved g c =
    let value = c.in-Some.ensures.value in
    let number : c.in-Some.place.value ≡ c.loop-i.i + 1 = omega (arith, value) in
    let time = c.turn.ensures.time in (
      subst (λ k. g.C.Clock.reads c.args.self.now.clock c.now-reading.result k) (sym time.0.0) c.loop-i.invariant.0,
      time.0.1 ∙ c.loop-i.invariant.1,
      turned_next g.D.Disk.faults g.D.Disk.honest g.D.Disk.image g.O.ResourceManager.gives c.loop-i.i c.in-Some.place c.at_place-t.result c.args.self.now c.loop-i.self c.turn.new.self c.args.o.now c.loop-i.o c.turn.new.o number c.at_place-t.ensures.standing c.loop-i.invariant.2
          c.in_default-turn.ensures.turned c.turn.ensures.others time,
    )

pub returns-in-Err-clause-cause : goal.returns-in-Err-clause-cause
returns-in-Err-clause-cause g c = turn_fails c.at_place-t.result c.loop-i.self.lives c.in-Err.e c.in-Err.ensures.cause
