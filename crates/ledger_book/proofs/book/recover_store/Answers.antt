use Rattle.std.proofs.Common.{◌≡◌, ◌∷◌, ◌++◌, true, [], List, Result, Ok, Err, ap, refl, subst}
use Rattle.std.specs.Prelude.{OnOk}
use Rattle.dtx_values.specs.declared.number.RmNo.{RmNo}
use Rattle.coordinator_log.specs.Slots.{open_records as logged}
use Rattle.log_epochs.specs.Beginning.{AllAre}
use Rattle.transactions.specs.Recovering.{OnlyFrees}
use Rattle.transactions.specs.Recovery.{is_finished}
use Rattle.transactions.specs.declared.recovered.Recovered.{Recovered}
use Rattle.transactions.specs.declared.recovered.RecoverRefusal.{RecoverRefusal}
use Rattle.ledger_book.specs.Recovered.{EndsOne, FreesFor, SettlesStore}
use Rattle.ledger_book.proofs.Sides.{early_only, log_or, up_still}
use Rattle.ledger_book.proofs.Within.{from_ok}
use Rattle.ledger_book.proofs.book.recover_store.Given.{Over}
use Rattle.ledger_book.proofs.book.recover_store.Goals.{After-is_stopped}
use Rattle.ledger_book.proofs.book.recover_store.Goals as goal

-- all is settled, once it is finished
settles : (g : Over) (c : After-is_stopped g) → is_finished c.recover-recovered.result ≡ true
    → SettlesStore g.D.Disk.honest g.D.Disk.image g.D.Disk.faults (logged c.args.manager.now.log.slots) c.args.rm.value c.args.store.now c.recover-recovered.new.r
settles g c done =
    let e = c.recover-recovered.ensures in
    record { settled = e.settled done; up = up_still g.D.Disk.faults c.args.store.now c.recover-recovered.new.r (e.since done); images = c.is_stopped.ensures.images }

-- and records may be freed
frees : (g : Over) (c : After-is_stopped g) → is_finished c.recover-recovered.result ≡ true
    → FreesFor g.D.Disk.honest g.D.Disk.image (c.args.desk.now ++ c.args.rm ∷ []) c.args.manager.now.lives c.args.manager.now.log c.recover-recovered.new.self.log
frees g c done =
    let e = c.recover-recovered.ensures in
    let f = e.frees done in
    let m = c.args.manager.now in
    let n = c.recover-recovered.new.self in
    record {
      records = subst (λ (d : List RmNo). OnlyFrees d m.lives (logged m.log.slots) (logged n.log.slots)) (e.added done) f.records;
      images = λ honest up. subst (λ (d : List RmNo). AllAre (g.D.Disk.image n.log.disk) (OnlyFrees d m.lives (logged m.log.slots))) (e.added done) (f.images honest up);
    }

pub returns-clause-leaves : goal.returns-clause-leaves
returns-clause-leaves g c =
    let e = c.recover-recovered.ensures in
    record {
      store = record { partly = e.partly; images = e.images; many = c.is_stopped.ensures.many };
      rest = e.rest;
      log = log_or _ c.recover-recovered.result c.args.manager.now c.recover-recovered.new.self (early_only _ _ _ c.recover-recovered.result e.untouched) (λ failed. (e.failed failed).1) (λ done. (settles g (goal.at.returns-clause-leaves g c).After-is_stopped done, frees g (goal.at.returns-clause-leaves g c).After-is_stopped done));
    }

-- what is so after Ok
ends : (g : Over) (c : After-is_stopped g) → OnOk c.recover-recovered.result (EndsOne g.D.Disk.honest g.D.Disk.image g.D.Disk.faults c.args.desk.now c.recover-recovered.new.desk c.args.rm c.args.manager.now c.recover-recovered.new.self c.args.store.now
    c.recover-recovered.new.r)
ends g c = by c.recover-recovered.result refl
  where
    by : (z : Result Recovered RecoverRefusal) → c.recover-recovered.result ≡ z → OnOk z (EndsOne g.D.Disk.honest g.D.Disk.image g.D.Disk.faults c.args.desk.now c.recover-recovered.new.desk c.args.rm c.args.manager.now c.recover-recovered.new.self
        c.args.store.now c.recover-recovered.new.r)
    by (Ok x) is =
        let e = c.recover-recovered.ensures in
        let done : is_finished c.recover-recovered.result ≡ true = ap is_finished is in
        let f = e.frees done in
        record {
          added = e.added done;
          one = e.one_of done;
          clear = from_ok c.recover-recovered.result x is e.clear;
          settles = settles g c done;
          frees = frees g c done;
          up = from_ok c.recover-recovered.result x is f.up;
          durable = λ honest up. from_ok c.recover-recovered.result x is (f.durable honest up);
        }
    by (Err x) is = tt

pub returns-clause-ends : goal.returns-clause-ends
returns-clause-ends g c = ends g (goal.at.returns-clause-ends g c).After-is_stopped
