use Rattle.std.proofs.Common.{arith, ◌≡◌, true, subst}
use Rattle.std.proofs.lemmas.Grind.{common_steps}
use Rattle.dtx_values.specs.Table.{rises_above}
use Rattle.half_parts.specs.Half.{Known}
use Rattle.half_parts.proofs.Due.{due_rows}
use Rattle.local_half.proofs.half.LocalHalf.first_by_rows.Goals as goal

pub returns-in-Some : goal.returns-in-Some
returns-in-Some c =
    let rise = subst (λ (k : Known). rises_above 0 k.half.seen.table ≡ true) c.self.view_is c.rows-x-items.ensures.rise in
    rw (due_rows c.args.self.now.half.seen rise) (grind (arith, common_steps))

pub returns : goal.returns
returns c =
    let rise = subst (λ (k : Known). rises_above 0 k.half.seen.table ≡ true) c.self.view_is c.rows-x-items.ensures.rise in
    rw (due_rows c.args.self.now.half.seen rise) (grind (arith, common_steps))
