use Rattle.std.proofs.Common.{◌≡◌, ◌∙◌, Some, None, Ok, Err, ap, sym}
use Rattle.dtx_values.specs.declared.call.Call.TheVariants.{Commit}
use Rattle.dtx_values.specs.declared.words.Outcome.TheVariants.{Aborted, Committed, InDoubt}
use Rattle.transactions.specs.declared.error.CommitError.TheVariants.{InDoubt as InDoubtError, Waits}
use Rattle.transactions.specs.Telling.{told}
use Rattle.transactions.proofs.Committing.{Asked, asked_of, told_aborted, told_there}
use Rattle.transactions.proofs.Entering.{goes_heard, unentered_heard}
use Rattle.transactions.proofs.manager.TransactionManager.commit.Goals as goal

pub returns-in-Err-clause-heard : goal.returns-in-Err-clause-heard
returns-in-Err-clause-heard g c =
    let t = c.args.tx.now.number in
    unentered_heard g.D.Disk.faults g.D.Disk.honest g.D.Disk.image g.O.ResourceManager.gives t (Commit t.t) c.args.self.now c.begin_commit.new.self c.args.o.now c.in-Err.e c.begin_commit.ensures.rest c.in-Err.ensures.entered

pub returns-in-Err-drive-clause-heard : goal.returns-in-Err-drive-clause-heard
returns-in-Err-drive-clause-heard g c =
    let t = c.args.tx.now.number in
    goes_heard g.D.Disk.faults g.D.Disk.honest g.D.Disk.image g.O.ResourceManager.gives t (Commit t.t) c.args.self.now c.begin_commit.new.self c.drive.new.self c.args.o.now c.drive.new.o
    c.in_default.ensures.entered c.begin_commit.ensures.rest
    c.is_within.ensures c.drive.ensures.heard

pub returns-in-Some-Committed-clause-told : goal.returns-in-Some-Committed-clause-told
returns-in-Some-Committed-clause-told g c =
    let t = c.args.tx.now.number in
    let xs = c.drive.new.self.lives in
    let z : Asked t xs =
    asked_of g.D.Disk.faults c.args.self.now.log g.D.Disk.honest g.D.Disk.image g.O.ResourceManager.gives t t.t c.args.self.now.lives c.begin_commit.new.self c.drive.new.self c.args.o.now c.drive.new.o
    c.in_default.ensures.entered c.drive.ensures.heard in
    let said : told z.state ≡ Some Committed = sym (c.told.ensures.told z.state z.at) ∙ (c.in-Some-Committed.is ∙ ap (λ x. Some x) c.in-Some-Committed.field-0-is) in
    told_there {A = Unit {0}} (Ok tt) t xs z.state z.at (said, z.commit)

pub returns-in-Some-Committed-clause-heard : goal.returns-in-Some-Committed-clause-heard
returns-in-Some-Committed-clause-heard g c =
    let t = c.args.tx.now.number in
    goes_heard g.D.Disk.faults g.D.Disk.honest g.D.Disk.image g.O.ResourceManager.gives t (Commit t.t) c.args.self.now c.begin_commit.new.self c.drive.new.self c.args.o.now c.drive.new.o
    c.in_default.ensures.entered c.begin_commit.ensures.rest
    c.is_within.ensures c.drive.ensures.heard

pub returns-in-Some-Aborted-clause-told : goal.returns-in-Some-Aborted-clause-told
returns-in-Some-Aborted-clause-told g c =
    let t = c.args.tx.now.number in
    let xs = c.drive.new.self.lives in
    let z : Asked t xs =
    asked_of g.D.Disk.faults c.args.self.now.log g.D.Disk.honest g.D.Disk.image g.O.ResourceManager.gives t t.t c.args.self.now.lives c.begin_commit.new.self c.drive.new.self c.args.o.now c.drive.new.o
    c.in_default.ensures.entered c.drive.ensures.heard in
    let said : told z.state ≡ Some Aborted = sym (c.told.ensures.told z.state z.at) ∙ (c.in-Some-Aborted.is ∙ ap (λ x. Some x) c.in-Some-Aborted.field-0-is) in
    told_there {A = Unit {0}} (Err c.aborted.result) t xs z.state z.at (told_aborted (Unit {0}) c.aborted.result z.state (c.aborted.ensures.aborted z.state z.at) said z.commit)

pub returns-in-Some-Aborted-clause-heard : goal.returns-in-Some-Aborted-clause-heard
returns-in-Some-Aborted-clause-heard g c =
    let t = c.args.tx.now.number in
    goes_heard g.D.Disk.faults g.D.Disk.honest g.D.Disk.image g.O.ResourceManager.gives t (Commit t.t) c.args.self.now c.begin_commit.new.self c.drive.new.self c.args.o.now c.drive.new.o
    c.in_default.ensures.entered c.begin_commit.ensures.rest
    c.is_within.ensures c.drive.ensures.heard

pub returns-in-Some-InDoubt-clause-told : goal.returns-in-Some-InDoubt-clause-told
returns-in-Some-InDoubt-clause-told g c =
    let t = c.args.tx.now.number in
    let xs = c.drive.new.self.lives in
    let z : Asked t xs =
    asked_of g.D.Disk.faults c.args.self.now.log g.D.Disk.honest g.D.Disk.image g.O.ResourceManager.gives t t.t c.args.self.now.lives c.begin_commit.new.self c.drive.new.self c.args.o.now c.drive.new.o
    c.in_default.ensures.entered c.drive.ensures.heard in
    let said : told z.state ≡ Some InDoubt = sym (c.told.ensures.told z.state z.at) ∙ (c.in-Some-InDoubt.is ∙ ap (λ x. Some x) c.in-Some-InDoubt.field-0-is) in
    told_there {A = Unit {0}} (Err InDoubtError) t xs z.state z.at (said, z.commit)

pub returns-in-Some-InDoubt-clause-heard : goal.returns-in-Some-InDoubt-clause-heard
returns-in-Some-InDoubt-clause-heard g c =
    let t = c.args.tx.now.number in
    goes_heard g.D.Disk.faults g.D.Disk.honest g.D.Disk.image g.O.ResourceManager.gives t (Commit t.t) c.args.self.now c.begin_commit.new.self c.drive.new.self c.args.o.now c.drive.new.o
    c.in_default.ensures.entered c.begin_commit.ensures.rest
    c.is_within.ensures c.drive.ensures.heard

pub returns-in-None-clause-told : goal.returns-in-None-clause-told
returns-in-None-clause-told g c =
    let t = c.args.tx.now.number in
    let xs = c.drive.new.self.lives in
    let z : Asked t xs =
    asked_of g.D.Disk.faults c.args.self.now.log g.D.Disk.honest g.D.Disk.image g.O.ResourceManager.gives t t.t c.args.self.now.lives c.begin_commit.new.self c.drive.new.self c.args.o.now c.drive.new.o
    c.in_default.ensures.entered c.drive.ensures.heard in
    let untold : told z.state ≡ None = sym (c.told.ensures.told z.state z.at) ∙ c.in-None.is in
    told_there {A = Unit {0}} (Err Waits) t xs z.state z.at (c.is_waiting.ensures z.state z.at untold z.commit (c.in_default-drive.ensures.all z.state z.at).1, z.commit)

pub returns-in-None-clause-heard : goal.returns-in-None-clause-heard
returns-in-None-clause-heard g c =
    let t = c.args.tx.now.number in
    goes_heard g.D.Disk.faults g.D.Disk.honest g.D.Disk.image g.O.ResourceManager.gives t (Commit t.t) c.args.self.now c.begin_commit.new.self c.drive.new.self c.args.o.now c.drive.new.o
    c.in_default.ensures.entered c.begin_commit.ensures.rest
    c.is_within.ensures c.drive.ensures.heard
