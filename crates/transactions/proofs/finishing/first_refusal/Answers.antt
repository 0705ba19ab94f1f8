use Rattle.std.proofs.Common.{arith, sym}
use Rattle.coordinator_log.specs.Slots.{open_records}
use Rattle.resource_managers.specs.Holding.{holding_of}
use Rattle.transactions.proofs.Obstacles.{clear_named, ended, nothing_at, told_first, told_none}
use Rattle.transactions.proofs.finishing.first_refusal.Goals.{in-Some+in_default-refusal, in_default}
use Rattle.transactions.proofs.finishing.first_refusal.Goals as goal

pub returns-in-Some-refusal-clause-told : goal.returns-in-Some-refusal-clause-told
returns-in-Some-refusal-clause-told g c =
    told_first (open_records c.args.log.now.slots) c.args.lives.now c.args.rm.value c.loop-place.place (g.R.Recoverable.holds c.args.r.now) (holding_of c.in-Some.h) _ c.loop-place.invariant (sym c.in-Some.ensures) c.in-Some-refusal.ensures.told

pub loop-place-preserved : goal.loop-place-preserved
loop-place-preserved g c = elim c.match-held.branch [
  | in-Some+in_default-refusal w ↦
      told_none (open_records c.args.log.now.slots) c.args.lives.now c.args.rm.value c.loop-place.place (g.R.Recoverable.holds c.args.r.now) (holding_of w.in-Some.h) c.loop-place.invariant (sym w.in-Some.ensures)
      w.in_default-refusal.ensures.told
  | in_default w ↦ nothing_at (open_records c.args.log.now.slots) c.args.lives.now c.args.rm.value c.loop-place.place (g.R.Recoverable.holds c.args.r.now) c.loop-place.invariant (sym w.in_default.ensures)
]

pub returns-clause-named : goal.returns-clause-named
returns-clause-named g c none =
    let hs = g.R.Recoverable.holds c.args.r.now in
    clear_named _ _ _ hs (ended (open_records c.args.log.now.slots) c.args.lives.now c.args.rm.value c.loop-place.place hs c.loop-place.invariant (let end = c.loop-place-test.false in let at = c.loop-place.auto.place-end in let count = c.count-place-end.ensures in omega (arith, end, at, count)))
