use Rattle.std.proofs.Common.{sym, ◌∙◌, is_some}
use Rattle.std.proofs.lemmas.List.{length-map}
use Rattle.dtx_values.specs.Row.{mark_in}
use Rattle.dtx_values.specs.Table.{marks, with_mark}
use Rattle.half_parts.proofs.Links.{links-table}
use Rattle.half_parts.proofs.Rows.{lasts-mark, row-mark, rows-mark}
use Rattle.half_parts.proofs.Waiters.{other_table}
use Rattle.local_half.proofs.half.LocalHalf.ask.Goals as goal

pub invariant_of-self : goal.invariant_of-self
invariant_of-self c =
    let b = c.self.invariant in
    let i = c.self.inside in
    let e = c.args.e.value in
    rw c.set_asked.ensures.marked (
      b.0,
      b.1,
      b.2,
      b.3 ∙ sym (length-map i.table (mark_in e (marks i.table))),
      rows-mark i.limit i.handover.over i.table i.manager i.waits.items e b.4,
      other_table i.table (with_mark e i.table) i.waits.items (λ f a. row-mark e i.table f) b.5,
      links-table (is_some i.decided) i.table (with_mark e i.table) i.waits.items i.branches.items i.proxy (lasts-mark e i.table) b.6,
      b.7,
      b.8,
      b.9,
    )
