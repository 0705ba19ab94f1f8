use Rattle.std.proofs.Common.{◌≡◌, None, ap, subst, sym, ◌+◌, ◌*◌, ◌<◌}
use Rattle.dtx_values.specs.TxIds.{number_of}
use Rattle.dtx_values.specs.declared.call.Call.TheVariants.{Begin}
use Rattle.dtx_values.specs.declared.number.TxNo.{TxNo}
use Rattle.dtx_model.specs.Log.{first_of}
use Rattle.dtx_model.specs.Promotes.{identifier_of}
use Rattle.coordinator_log.specs.Slots.{open_records}
use Rattle.transactions.specs.Calling.{IsCalled}
use Rattle.transactions.specs.Slots.{Standing}
use Rattle.transactions.specs.State.{LiveState, blank}
use Rattle.dtx_values.specs.declared.entry.Answer.TheVariants.{Fine}
use Rattle.tx_world.specs.AtLog.{AreFit, Fits}
use Rattle.transactions.proofs.Beginning.{begins, fits_new, images_new}
use Rattle.transactions.proofs.manager.TransactionManager.begun.Goals as goal

pub returns-clause-begun : goal.returns-clause-begun
returns-clause-begun g c =
    let log = c.self.inside.log in
    let t = c.args.t in
    let y = c.call.new.self in
    let called : IsCalled g.D.Disk.faults log (Begin t.t c.args.timeout) c.in-Ok-call.field-0.0 c.in-Ok-call.field-0.1 c.in-Ok.live y =
    subst (λ (p : TxNo). IsCalled g.D.Disk.faults log (Begin p c.args.timeout) c.in-Ok-call.field-0.0 c.in-Ok-call.field-0.1 c.in-Ok.live y) c.t.ensures c.in-Ok-call.ensures.called in
    let so = begins g.D.Disk.faults log t c.args.timeout c.self.inside.reading c.in-Ok-call.field-0.0 c.in-Ok-call.field-0.1 c.in-Ok.live y c.in-Ok.ensures.blank called in
    subst (λ (s : Standing _ _). IsCalled g.D.Disk.faults s.log (Begin t.t c.args.timeout) 1 Fine (blank t s.reading) y) c.self.view_is so

pub returns-clause-fits : goal.returns-clause-fits
returns-clause-fits g c =
    let log = c.self.inside.log in
    let t = c.args.t in
    let y = c.call.new.self in
    let unrecorded : first_of (identifier_of (number_of t)) (open_records log.slots) ≡ None =
    subst (λ (s : Standing _ _). first_of (identifier_of (number_of t)) (open_records s.log.slots) ≡ None) (sym c.self.view_is) c.requires.unrecorded in
    subst (λ (s : Standing _ _). Fits y.tx (open_records s.log.slots)) c.self.view_is
    (c.call.ensures.fits (open_records log.slots) (fits_new t c.in-Ok.live.tx (open_records log.slots) (ap (λ (v : LiveState). v.tx.transaction) c.in-Ok.ensures.blank) unrecorded c.in-Ok.ensures.fits))

pub returns-clause-imaged : goal.returns-clause-imaged
returns-clause-imaged g c = λ honest.
    let log = c.self.inside.log in
    let t = c.args.t in
    let y = c.call.new.self in
    let unrecorded : first_of (identifier_of (number_of t)) (open_records log.slots) ≡ None =
    subst (λ (s : Standing _ _). first_of (identifier_of (number_of t)) (open_records s.log.slots) ≡ None) (sym c.self.view_is) c.requires.unrecorded in
    let above : 65536 * c.self.inside.epoch + c.self.inside.given < number_of t = subst (λ (s : Standing _ _). s.last < number_of t) (sym c.self.view_is) c.requires.above in
    subst (λ (s : Standing _ _). AreFit (g.D.Disk.image s.log.disk) (Fits y.tx)) c.self.view_is
    (images_new (g.D.Disk.image log.disk) t c.in-Ok.live.tx y.tx (ap (λ (v : LiveState). v.tx.transaction) c.in-Ok.ensures.blank) c.call.ensures.fits c.in-Ok.ensures.fits
    ((c.self.invariant.1 honest).unknown t above unrecorded))
