use Rattle.std.proofs.Common.{Some, rules, sym}
use Rattle.std.proofs.lemmas.Int.{to_z-of_z}
use mir.Syntax.{w32}
use mir.Val.{SFits}
use Rattle.wirtozhak_c.proofs.Called.{by_call}
use Rattle.wirtozhak_c.proofs.wz_lost.Goals as goal

pub returns : goal.returns
returns c =
    let made = c.lost-given in
    let fits : SFits w32 c.done.result = search rules in
    by_call _ _ _ c.take-m.result.value c.deref_mut.result.now made.new.self c.done.result _ c.take-m.ensures.taken c.deref_mut.ensures.value c.put.ensures (sym (to_z-of_z w32 c.done.result fits))
    (Some c.in-Some.e, c.in-Some.ensures, (made.result, c.done.ensures, made.ensures))
