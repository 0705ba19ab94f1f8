use Rattle.std.proofs.Common.{◌≡◌, ◌≤◌, ◌<◌, ◌+◌, ◌*◌, arith, subst, sym}
use Rattle.coordinator_log.specs.Slots.{open_records}
use Rattle.log_epochs.specs.Epochs.{epoch_of}
use Rattle.transactions.specs.Numbering.{IsUpTo, MayNotNumber, NumbersLog, last_in, number_refusal}
use Rattle.transactions.specs.declared.error.TxError.{TxError}
use Rattle.transactions.specs.Slots.{Standing}
use Rattle.transactions.proofs.Beginning.{fits_next}
use Rattle.transactions.proofs.Numbers.{down_same, may_not_number, numbers_log}
use Rattle.transactions.proofs.Recorded.{recorded_new, recorded_next}
use Rattle.transactions.proofs.manager.TransactionManager.next_epoch.Goals as goal

pub invariant_of-self : goal.invariant_of-self
invariant_of-self g c =
    let e = c.begin_epoch.ensures in
    let from = c.self.inside.log in
    let to = c.begin_epoch.new.log in
    let last = 65536 * c.self.inside.epoch + c.self.inside.given in
    let down = down_same c.begin_epoch.result from to e.stopped e.unchanged in
    let log = numbers_log g.D.Disk.honest g.D.Disk.image g.D.Disk.faults c.begin_epoch.result from to (record { commits = e.commits; epoch = e.either }) e.images e.stopped e.unchanged e.grows in (
      c.self.invariant.0,
      λ honest. fits_next g.D.Disk.image from to c.self.inside.lives.items last last (omega arith) c.no_transaction_is_an_epoch.ensures.test e.others (e.images honest) down (c.self.invariant.1 honest),
      e.unarmed c.self.invariant.2,
      recorded_next g.D.Disk.honest g.D.Disk.image g.D.Disk.faults from to last log down c.self.invariant.3,
    )

pub invariant_of-self-2 : goal.invariant_of-self-2
invariant_of-self-2 g c =
    let e = c.begin_epoch.ensures in
    let from = c.self.inside.log in
    let to = c.begin_epoch.new.log in
    let down = down_same c.begin_epoch.result from to e.stopped e.unchanged in
    let latest : epoch_of (open_records to.slots) ≡ c.in-Ok.n = c.in-Ok.ensures.latest in
    let up : 65536 * c.in-Ok.n + 0 ≤ 65536 * epoch_of (open_records to.slots) + 256 = omega (arith, latest) in
    let last = 65536 * c.self.inside.epoch + c.self.inside.given in
    let held : IsUpTo last (open_records from.slots) = c.self.invariant.3.held in
    let next : c.in-Ok.n ≡ epoch_of (open_records from.slots) + 1 = c.in-Ok.ensures.next in
    let rises : last ≤ 65536 * c.in-Ok.n + 0 = omega (arith, held, next) in (
      c.self.invariant.0,
      λ honest. fits_next g.D.Disk.image from to c.self.inside.lives.items last (65536 * c.in-Ok.n + 0) rises c.no_transaction_is_an_epoch.ensures.test e.others (e.images honest) down (c.self.invariant.1 honest),
      e.unarmed c.self.invariant.2,
      recorded_new g.D.Disk.honest g.D.Disk.image to (65536 * c.in-Ok.n + 0) up (λ honest. c.in-Ok.ensures.durable honest),
    )

pub returns-clause-recorded : goal.returns-clause-recorded
returns-clause-recorded g c =
    let to = c.begin_epoch.new.log in
    let latest : epoch_of (open_records to.slots) ≡ c.in-Ok.n = c.in-Ok.ensures.latest in
    let up : last_in c.in-Ok.n ≤ 65536 * epoch_of (open_records to.slots) + 256 = omega (arith, latest) in
    recorded_new g.D.Disk.honest g.D.Disk.image to (last_in c.in-Ok.n) up (λ honest. c.in-Ok.ensures.durable honest)

pub returns-clause-above : goal.returns-clause-above
returns-clause-above g c =
    let held : IsUpTo (65536 * c.self.inside.epoch + c.self.inside.given) (open_records c.self.inside.log.slots) = c.self.invariant.3.held in
    let next : c.in-Ok.n ≡ epoch_of (open_records c.self.inside.log.slots) + 1 = c.in-Ok.ensures.next in
    subst (λ (s : Standing _ _). s.last < 65536 * c.in-Ok.n + 0) c.self.view_is (omega (arith, held, next))

pub returns-clause-log : goal.returns-clause-log
returns-clause-log g c =
    let e = c.begin_epoch.ensures in
    let from = c.self.inside.log in
    let to = c.begin_epoch.new.log in
    subst (λ (s : Standing _ _). NumbersLog g.D.Disk.honest g.D.Disk.image g.D.Disk.faults s.log to) c.self.view_is
    (numbers_log g.D.Disk.honest g.D.Disk.image g.D.Disk.faults c.begin_epoch.result from to (record { commits = e.commits; epoch = e.either }) e.images e.stopped e.unchanged e.grows)

pub returns-in-Err-clause-log : goal.returns-in-Err-clause-log
returns-in-Err-clause-log g c =
    let e = c.begin_epoch.ensures in
    let from = c.self.inside.log in
    let to = c.begin_epoch.new.log in
    subst (λ (s : Standing _ _). NumbersLog g.D.Disk.honest g.D.Disk.image g.D.Disk.faults s.log to) c.self.view_is
    (numbers_log g.D.Disk.honest g.D.Disk.image g.D.Disk.faults c.begin_epoch.result from to (record { commits = e.commits; epoch = e.either }) e.images e.stopped e.unchanged e.grows)

pub returns-in-Err-clause-cause : goal.returns-in-Err-clause-cause
returns-in-Err-clause-cause g c =
    let e = c.in-Err.ensures in
    let from = c.self.inside.log in
    let to = c.begin_epoch.new.log in
    let may = may_not_number g.D.Disk.faults from to c.in-Err.e e.stopped e.last e.full e.only e.unchanged e.stopped_now e.cause c.self.invariant.2 in
    subst (λ (x : TxError). MayNotNumber g.D.Disk.faults c.args.self.now.log to x) (sym c.number_error.ensures)
    (subst (λ (s : Standing _ _). MayNotNumber g.D.Disk.faults s.log to (number_refusal c.in-Err.e)) c.self.view_is may)
