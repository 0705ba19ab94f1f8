use Rattle.std.proofs.Common.{◌≡◌, ◌-◌, false, slice_get, ap, arith, ◌∙◌}
use Rattle.std.specs.Option.{unwrap_or}
use Rattle.tx_cells.proofs.MayPromote.{copied_at, said_at}
use Rattle.tx_cells.proofs.cells.Cells.needs_log.Goals as goal

pub returns : goal.returns
returns g c =
    let k = c.args.line - 1 in
    let lines = c.self.inside.promoting.items in
    let found : c.copied.result ≡ slice_get lines k =
    c.copied.ensures ∙ (copied_at c.deref.result.now k c.get.result c.get.ensures.lookup ∙ ap (λ xs. slice_get xs k) c.deref.ensures.value) in
    c.unwrap_or.ensures ∙ (ap (λ o. unwrap_or o false) found ∙ said_at g.N.Run.script lines c.args.line c.self.invariant.3 (omega (arith, c.if-line-eq0.false)))
