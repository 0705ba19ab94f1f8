use Rattle.std.proofs.Common.{ap, ◌∙◌, List, ℕ, arith}
use Rattle.outside.specs.Disk.{overwritten}
use Rattle.slotted.proofs.Blanks.{blank_made}
use Rattle.slotted.proofs.Results.{on_ok}
use Rattle.slotted.proofs.empty.blank.Goals as goal

pub returns-clause-blank : goal.returns-clause-blank
returns-clause-blank g c h =
    on_ok c.sync-2.result _
    (blank_made (g.D.Disk.seen c.args.disk.now) (g.D.Disk.seen c.write_at.new.self) (g.D.Disk.seen c.sync-2.new.self) c.args.zeros.now c.args.head.now
    c.requires.zeros c.requires.many (omega arith) (c.in_ok-write_at.ensures.written h)
    (c.sync-2.ensures.seen h ∙ c.in_ok-write_at-2.ensures.written h ∙ ap (λ (l : List ℕ). overwritten l 0 c.args.head.now) (c.in_ok-sync.ensures.seen h)))
