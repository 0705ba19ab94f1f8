use Rattle.std.specs.Prelude.{insert}
use Rattle.std.proofs.Common.{sym, ap, subst, ◌∙◌, arith, set}
use Rattle.kv_resource.specs.Store.{with_write}
use Rattle.kv_resource.specs.Table.{IsRising}
use Rattle.kv_resource.proofs.Rising.{Rows, write_rises}
use Rattle.kv_resource.proofs.rows.put_row.Goals as goal

pub returns-in-Ok-clause-rises : goal.returns-in-Ok-clause-rises
returns-in-Ok-clause-rises c =
    let t = c.args.rows.now.items in
    let seen = c.deref.ensures.value in
    let is = ap (λ (l : Rows). set l c.in-Ok.at (c.args.key, c.args.value)) (sym seen) ∙ c.in-Ok.ensures.found.put c.args.value ∙ ap (with_write c.args.key c.args.value) seen in
    subst IsRising (sym is) (write_rises 0 c.args.key c.args.value t (omega arith) c.requires.rises)

pub returns-in-Ok-insert-clause-rises : goal.returns-in-Ok-insert-clause-rises
returns-in-Ok-insert-clause-rises c =
    let t = c.args.rows.now.items in
    let seen = c.deref.ensures.value in
    let is = ap (λ (l : Rows). insert l c.in-Err.at (c.args.key, c.args.value)) (sym seen) ∙ c.in-Err.ensures.absent.put c.args.value ∙ ap (with_write c.args.key c.args.value) seen in
    subst IsRising (sym (c.in-Ok-insert.ensures.items ∙ is)) (write_rises 0 c.args.key c.args.value t (omega arith) c.requires.rises)
