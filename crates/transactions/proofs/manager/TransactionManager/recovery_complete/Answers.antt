use Rattle.std.proofs.Common.{List, subst}
use Rattle.std.specs.Prelude.{IsTrue}
use Rattle.coordinator_log.specs.Crash.{AllHold}
use Rattle.coordinator_log.specs.Slots.{open_records}
use Rattle.dtx_values.specs.declared.number.RmNo.{RmNo}
use Rattle.log_epochs.specs.Beginning.{AllAre}
use Rattle.transactions.specs.Recovering.{OnlyFrees}
use Rattle.transactions.specs.Slots.{Standing}
use Rattle.transactions.proofs.Freeing.{all_are, frees_none}
use Rattle.transactions.proofs.manager.TransactionManager.recovery_complete.Given.{Over}
use Rattle.transactions.proofs.manager.TransactionManager.recovery_complete.Goals.{After-is_up}
use Rattle.transactions.proofs.manager.TransactionManager.recovery_complete.Goals as goal

-- each image has the records that stand
images : (g : Over) (c : After-is_up g) (ms : List RmNo) → IsTrue g.D.Disk.honest → IsTrue c.args.self.now.log.is_up
    → AllAre (g.D.Disk.image c.args.self.now.log.disk) (OnlyFrees ms c.args.self.now.lives (open_records c.args.self.now.log.slots))
images g c ms honest up =
    let now = c.args.self.now in
    let rs = open_records now.log.slots in
    let held : AllHold (g.D.Disk.image now.log.disk) rs =
    subst (λ (s : Standing _ _). IsTrue s.log.is_up → AllHold (g.D.Disk.image s.log.disk) (open_records s.log.slots)) c.self.view_is (c.is_up.ensures.images honest) up in
    all_are (g.D.Disk.image now.log.disk) (OnlyFrees ms now.lives rs) rs held (frees_none ms now.lives rs)

pub returns-in-Err-clause-records : goal.returns-in-Err-clause-records
returns-in-Err-clause-records g c = frees_none c.args.desk.now c.args.self.now.lives (open_records c.args.self.now.log.slots)

pub returns-in-Err-clause-images : goal.returns-in-Err-clause-images
returns-in-Err-clause-images g c = images g (goal.at.returns-in-Err-clause-images g c).After-is_up c.args.desk.now

pub returns-in-Err-add-clause-records : goal.returns-in-Err-add-clause-records
returns-in-Err-add-clause-records g c = frees_none c.add.new.self c.args.self.now.lives (open_records c.args.self.now.log.slots)

pub returns-in-Err-add-clause-images : goal.returns-in-Err-add-clause-images
returns-in-Err-add-clause-images g c = images g (goal.at.returns-in-Err-add-clause-images g c).After-is_up c.add.new.self
