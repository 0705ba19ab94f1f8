use Rattle.std.proofs.Common.{rules, sym}
use Rattle.std.proofs.lemmas.Int.{to_z-of_z}
use mir.Syntax.{w32}
use mir.Val.{SFits}
use Rattle.wirtozhak_c.proofs.Called.{by_call}
use Rattle.wirtozhak_c.proofs.wz_identifier.Goals as goal

pub returns : goal.returns
returns c =
    let made = c.identifier-given in
    let fits : SFits w32 c.give_identifier.result = search rules in
    by_call _ _ _ c.take-m.result.value c.deref_mut.result.now made.new.self c.give_identifier.result _ c.take-m.ensures.taken c.deref_mut.ensures.value c.put.ensures (sym (to_z-of_z w32 c.give_identifier.result fits))
    (made.result, c.give_identifier.ensures, made.ensures)
