use Rattle.std.proofs.Common.{◌≡◌, ◌∙◌}
use Rattle.coordinator_log.specs.Slots.{open_records}
use Rattle.log_epochs.specs.Epochs.{commits_of}
use Rattle.log_epochs.proofs.Records.{same_first, same_records}
use Rattle.log_epochs.proofs.beginning.begin_epoch.Given.{Over}
use Rattle.log_epochs.proofs.beginning.begin_epoch.Goals.{After-free_earlier}
use Rattle.log_epochs.proofs.beginning.begin_epoch.Goals as goal

-- where the new record came, the transactions have the same records, whatever was freed
commits : (g : Over) (c : After-free_earlier g) → commits_of (open_records c.free_earlier.new.log.slots) ≡ commits_of (open_records c.args.log.now.slots)
commits g c = c.free_earlier.ensures.records.commits ∙ c.in_ok-append_epoch.ensures.records.commits

pub returns-in_err-free_earlier-clause-others : goal.returns-in_err-free_earlier-clause-others
returns-in_err-free_earlier-clause-others g c id other =
    let b = (goal.at.returns-in_err-free_earlier-clause-others g c).After-free_earlier in
    same_records id (open_records c.args.log.now.slots) (open_records c.free_earlier.new.log.slots) other (commits g b)

pub returns-clause-others : goal.returns-clause-others
returns-clause-others g c id other =
    let b = (goal.at.returns-clause-others g c).After-free_earlier in
    same_records id (open_records c.args.log.now.slots) (open_records c.free_earlier.new.log.slots) other (commits g b)

pub returns-in_err-free_earlier-clause-found : goal.returns-in_err-free_earlier-clause-found
returns-in_err-free_earlier-clause-found g c id other =
    let b = (goal.at.returns-in_err-free_earlier-clause-found g c).After-free_earlier in
    let old = open_records c.args.log.now.slots in
    let new = open_records c.free_earlier.new.log.slots in
    same_first id old new (same_records id old new other (commits g b))

pub returns-clause-found : goal.returns-clause-found
returns-clause-found g c id other =
    let b = (goal.at.returns-clause-found g c).After-free_earlier in
    let old = open_records c.args.log.now.slots in
    let new = open_records c.free_earlier.new.log.slots in
    same_first id old new (same_records id old new other (commits g b))
