use Rattle.std.proofs.Common.{◌∷◌, [], Ok, true, ap, ◌∙◌}
use Rattle.dtx_model.specs.Replies.{reply_entries}
use Rattle.dtx_model.specs.World.{half}
use Rattle.transactions.specs.Hearing.{Given}
use Rattle.transactions.proofs.Driving.{given_by_answer, given_none}
use Rattle.transactions.proofs.Entering.{given_heard, heard_on_at, replied_on}
use Rattle.transactions.proofs.Waiting.{ok_is}
use Rattle.transactions.proofs.manager.TransactionManager.reply.Goals as goal

pub returns-in_err-is_done-clause-heard : goal.returns-in_err-is_done-clause-heard
returns-in_err-is_done-clause-heard g c =
    let n : Given = (c.args.e.number, c.args.r) in
    let t = c.args.e.transaction in
    given_heard g.D.Disk.honest g.D.Disk.image g.O.ResourceManager.gives (n ∷ []) t c.args.self.now c.answer.new.self c.args.o.now
    (given_none (n ∷ []) t c.args.self.now.lives c.answer.new.self.lives c.in_err-is_done.ensures.failed) c.answer.ensures.rest

pub returns-in_err-drive-clause-heard : goal.returns-in_err-drive-clause-heard
returns-in_err-drive-clause-heard g c =
    let gives = g.O.ResourceManager.gives in
    let n : Given = (c.args.e.number, c.args.r) in
    let t = c.args.e.transaction in
    let x = c.args.self.now in
    let y = c.answer.new.self in
    let a = c.args.o.now in
    heard_on_at g.D.Disk.honest g.D.Disk.image gives (n ∷ []) [] t x y c.drive.new.self a a c.drive.new.o
    (given_heard g.D.Disk.honest g.D.Disk.image gives (n ∷ []) t x y a (given_by_answer n t x.lives y.lives c.answer.result c.in_ok-is_done.is_done c.in_ok-is_done.was c.answer.ensures.replied c.answer.ensures.unchanged) c.answer.ensures.rest)
    c.is_within.ensures c.drive.ensures.heard

pub returns-clause-heard : goal.returns-clause-heard
returns-clause-heard g c =
    let gives = g.O.ResourceManager.gives in
    let n : Given = (c.args.e.number, c.args.r) in
    let t = c.args.e.transaction in
    let x = c.args.self.now in
    let y = c.answer.new.self in
    let a = c.args.o.now in
    heard_on_at g.D.Disk.honest g.D.Disk.image gives (n ∷ []) [] t x y c.drive.new.self a a c.drive.new.o
    (given_heard g.D.Disk.honest g.D.Disk.image gives (n ∷ []) t x y a (given_by_answer n t x.lives y.lives c.answer.result c.in_ok-is_done.is_done c.in_ok-is_done.was c.answer.ensures.replied c.answer.ensures.unchanged) c.answer.ensures.rest)
    c.is_within.ensures c.drive.ensures.heard

pub returns-clause-replied : goal.returns-clause-replied
returns-clause-replied g c = λ done x at.
    let r = c.args.r in
    let y = c.answer.ensures.replied (c.in_ok-is_done.was ∙ ap (λ b. Ok b) (ok_is c.in_ok-is_done.is_done true done)) x at in
    replied_on g.D.Disk.honest g.D.Disk.image g.O.ResourceManager.gives (reply_entries (half x.tx.world) c.args.e.number r) x.tx.world.past c.args.e.transaction c.answer.new.self c.drive.new.self y.0 c.args.o.now
    c.drive.new.o y.1 y.4 y.5 c.drive.ensures.heard
