use Rattle.std.proofs.Common.{◌≡◌, ◌+◌, ◌∙◌, None, ap, arith, set, rules}
use Rattle.std.specs.BTreeMap.{get}
use Rattle.std.specs.Ordering.{nat_cmp}
use Rattle.put_lines.proofs.KeyTables.{any_default, keys_again, keys_more, mine_is}
use Rattle.put_lines.proofs.keys.Keys.add.Goals as goal

pub returns-then-has-clause-kept : goal.returns-then-has-clause-kept
returns-then-has-clause-kept c = λ before a e.
    keys_again before c.args.put.now c.args.self.now (mine_is c.args.put.now.enlistment (get nat_cmp c.args.self.now.owners c.args.put.now.key) (search rules)) a

pub returns-clause-kept : goal.returns-clause-kept
returns-clause-kept c = λ before a e.
    let none : get nat_cmp c.args.self.now.owners c.args.put.now.key ≡ None = search rules in
    let count = c.index-count.ensures ∙ any_default c.args.self.now.counts.items c.index-place.result _ 0 (omega arith) in
    keys_more before c.args.put.now c.args.self.now _ c.index-place.result none c.index-place.ensures.place (λ k. c.in_ok-insert.ensures.updates.0 k)
    (ap (λ n. set c.args.self.now.counts.items c.index-place.result (n + 1)) count) a
