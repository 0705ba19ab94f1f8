use Rattle.std.specs.Prelude.{position}
use Rattle.std.proofs.Common.{◌≡◌, ◌∙◌}
use Rattle.coordinator_log.specs.Slots.{has_record_of, with_closed}
use Rattle.coordinator_log.proofs.Marks.{length-with_closed, position_kept}
use Rattle.coordinator_log.proofs.OpenRecords.{found_some, found_rest, found_none}
use Rattle.coordinator_log.proofs.slots.Slots.found.Goals as goal
use Rattle.coordinator_log.proofs.slots.Slots.found.Goals.{After-first_with}

-- the scan of the slots that are kept finds what one of all slots does
all : (c : After-first_with) → c.first_with.result ≡ position (has_record_of c.args.id) (with_closed 1024 c.self.inside.records.items)
all c =
    let e : c.first_with.result ≡ position (has_record_of c.args.id) c.self.inside.records.items = rw (← c.deref.ensures.value) c.first_with.ensures in
    e ∙ position_kept c.args.id 1024 c.self.inside.records.items

pub returns-clause-some : goal.returns-clause-some
returns-clause-some c =
    let kept = c.self.inside.records.items in
    found_some (with_closed 1024 kept) c.args.self.now 1024 c.args.id c.first_with.result c.self.view_is (length-with_closed 1024 kept c.self.invariant.0) (all c)

pub returns-clause-rest : goal.returns-clause-rest
returns-clause-rest c = found_rest (with_closed 1024 c.self.inside.records.items) c.args.self.now c.args.id c.first_with.result c.self.view_is (all c)

pub returns-clause-none : goal.returns-clause-none
returns-clause-none c = found_none (with_closed 1024 c.self.inside.records.items) c.args.self.now c.args.id c.first_with.result c.self.view_is (all c)
