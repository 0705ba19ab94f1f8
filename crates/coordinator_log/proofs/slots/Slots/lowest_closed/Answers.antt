use Rattle.std.specs.Prelude.{is_none, position}
use Rattle.std.proofs.Common.{◌≡◌, ◌∙◌, None, Some, ap, arith, sym}
use Rattle.coordinator_log.specs.Slots.{with_closed}
use Rattle.coordinator_log.proofs.Marks.{first_after, first_kept, length-with_closed, none_first}
use Rattle.coordinator_log.proofs.OpenRecords.{closed_none, closed_some}
use Rattle.coordinator_log.proofs.slots.Slots.lowest_closed.Goals as goal
use Rattle.coordinator_log.proofs.slots.Slots.lowest_closed.Goals.{After-first_closed}

-- what was looked for in the slots that are kept
scanned : (c : After-first_closed) → c.first_closed.result ≡ position is_none c.self.inside.records.items
scanned c = rw (← c.deref.ensures.value) c.first_closed.ensures

pub returns-in-Some-clause-some : goal.returns-in-Some-clause-some
returns-in-Some-clause-some c =
    let kept = c.self.inside.records.items in
    closed_some (with_closed 1024 kept) c.args.self.now 1024 (Some c.in-Some.k) c.self.view_is (length-with_closed 1024 kept c.self.invariant.0)
    (first_kept 1024 kept c.in-Some.k (sym c.in-Some.is ∙ scanned (goal.at.returns-in-Some-clause-some c).After-first_closed))

pub returns-in-None-clause-some : goal.returns-in-None-clause-some
returns-in-None-clause-some c =
    let kept = c.self.inside.records.items in
    closed_some (with_closed 1024 kept) c.args.self.now 1024 (Some c.len-in-None.result) c.self.view_is (length-with_closed 1024 kept c.self.invariant.0)
    (ap Some (omega (arith, c.len-in-None.ensures, c.self.inside.records.ok.0)) ∙ first_after 1024 kept (sym c.in-None.is ∙ scanned (goal.at.returns-in-None-clause-some c).After-first_closed) (omega (arith, c.len.ensures, c.self.inside.records.ok.0, c.if-len-lt-SLOTS.true)))

pub returns-in-None-2-clause-none : goal.returns-in-None-2-clause-none
returns-in-None-2-clause-none c =
    let kept = c.self.inside.records.items in
    closed_none (with_closed 1024 kept) c.args.self.now 1024 None c.self.view_is (length-with_closed 1024 kept c.self.invariant.0)
    (none_first 1024 kept (sym c.in-None-2.is ∙ scanned (goal.at.returns-in-None-2-clause-none c).After-first_closed) (omega (arith, c.len.ensures, c.self.inside.records.ok.0, c.if-len-lt-SLOTS.false)))
