use Rattle.std.proofs.Common.{◌≡◌, true}
use Rattle.std.specs.Prelude.{IsTrue}
use Rattle.dtx_model.specs.Log.{first_of}
use Rattle.coordinator_log.specs.Slots.{open_records}
use Rattle.log_epochs.specs.Beginning.{AllAre}
use Rattle.transactions.specs.Recovering.{OnlyFrees, is_found}
use Rattle.transactions.proofs.Freeing.{after_free, all_are, either_are, fewer, frees_none, frees_one, left_free}
use Rattle.transactions.proofs.recovering.free_one.Given.{Over}
use Rattle.transactions.proofs.recovering.free_one.Goals.{After-free}
use Rattle.transactions.proofs.recovering.free_one.Goals as goal

-- what was to be freed was found
found : (g : Over) (c : After-free g) → is_found c.args.desk.now c.args.lives.now (first_of c.in-Some.id (open_records c.args.log.now.slots)) ≡ true
found g c = c.in-Some.ensures.found

-- whatever the free answers
records : (g : Over) (c : After-free g) → OnlyFrees c.args.desk.now c.args.lives.now (open_records c.args.log.now.slots) (open_records c.free.new.self.slots)
records g c =
    let free = c.free.ensures in
    after_free c.args.desk.now c.args.lives.now c.in-Some.id c.args.log.now c.free.new.self c.free.result (found g c) free.records free.only free.unchanged free.stopped_now

images : (g : Over) (c : After-free g) → IsTrue g.D.Disk.honest → AllAre (g.D.Disk.image c.free.new.self.disk) (OnlyFrees c.args.desk.now c.args.lives.now (open_records c.args.log.now.slots))
images g c h =
    let ms = c.args.desk.now in
    let xs = c.args.lives.now in
    let rs = open_records c.args.log.now.slots in
    either_are _ (OnlyFrees ms xs rs) rs _ (c.free.ensures.images h c.requires.up).images (frees_none ms xs rs) (frees_one ms xs c.in-Some.id rs (found g c))

-- each image has what is left of what the log has
left : (g : Over) (c : After-free g) → IsTrue g.D.Disk.honest → AllAre (g.D.Disk.image c.free.new.self.disk) (OnlyFrees c.args.desk.now c.args.lives.now (open_records c.free.new.self.slots))
left g c h =
    let free = c.free.ensures in
    left_free c.args.desk.now c.args.lives.now c.in-Some.id (g.D.Disk.image c.free.new.self.disk) c.args.log.now c.free.new.self c.free.result (found g c) (free.durable h) (free.images h c.requires.up).images
    free.only free.unchanged free.stopped_now

pub returns-in_default-clause-records : goal.returns-in_default-clause-records
returns-in_default-clause-records g c = frees_none c.args.desk.now c.args.lives.now (open_records c.args.log.now.slots)

pub returns-in_default-clause-images : goal.returns-in_default-clause-images
returns-in_default-clause-images g c h =
    let rs = open_records c.args.log.now.slots in
    all_are _ (OnlyFrees c.args.desk.now c.args.lives.now rs) rs (c.is_up.ensures.images h c.requires.up) (frees_none c.args.desk.now c.args.lives.now rs)

pub returns-in_err-free-clause-records : goal.returns-in_err-free-clause-records
returns-in_err-free-clause-records g c = records g (goal.at.returns-in_err-free-clause-records g c).After-free

pub returns-in_err-free-clause-images : goal.returns-in_err-free-clause-images
returns-in_err-free-clause-images g c = images g (goal.at.returns-in_err-free-clause-images g c).After-free

pub returns-clause-records : goal.returns-clause-records
returns-clause-records g c = records g (goal.at.returns-clause-records g c).After-free

pub returns-clause-fewer : goal.returns-clause-fewer
returns-clause-fewer g c = λ id is. rw c.in_ok-free.ensures.records (fewer c.args.desk.now c.args.lives.now c.in-Some.id (open_records c.args.log.now.slots) c.in-Some.ensures.found)

pub returns-clause-images : goal.returns-clause-images
returns-clause-images g c = images g (goal.at.returns-clause-images g c).After-free

pub returns-in_default-clause-left : goal.returns-in_default-clause-left
returns-in_default-clause-left g c h =
    let rs = open_records c.args.log.now.slots in
    all_are _ (OnlyFrees c.args.desk.now c.args.lives.now rs) rs (c.is_up.ensures.images h c.requires.up) (frees_none c.args.desk.now c.args.lives.now rs)

pub returns-in_err-free-clause-left : goal.returns-in_err-free-clause-left
returns-in_err-free-clause-left g c = left g (goal.at.returns-in_err-free-clause-left g c).After-free

pub returns-clause-left : goal.returns-clause-left
returns-clause-left g c = left g (goal.at.returns-clause-left g c).After-free
