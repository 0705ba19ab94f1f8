use Rattle.std.proofs.Common.{rules, sym}
use Rattle.std.proofs.lemmas.Int.{to_z-of_z}
use mir.Syntax.{w32}
use mir.Val.{SFits}
use Rattle.wirtozhak_c.proofs.Called.{by_call, with_word}
use Rattle.wirtozhak_c.proofs.wz_clone.Goals as goal

pub returns : goal.returns
returns c =
    let made = c.dependent_clone-given in
    let fits : SFits w32 c.give_clone.result = search rules in
    by_call _ _ _ c.take-m.result.value c.deref_mut.result.now made.new.self c.give_clone.result _ c.take-m.ensures.taken c.deref_mut.ensures.value c.put.ensures (sym (to_z-of_z w32 c.give_clone.result fits))
    (with_word _ _ _ c.in-Some.k _ _ _ (sym c.in-Some.ensures) (made.result, c.give_clone.ensures, made.ensures))
