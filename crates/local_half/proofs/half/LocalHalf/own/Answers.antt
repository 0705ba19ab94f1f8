use Rattle.std.proofs.Common.{◌≡◌, ◌||◌, Bool, true, false, not, Some, ap, subst, sym, ◌∙◌}
use Rattle.dtx_values.specs.Class.{is_volatile}
use Rattle.dtx_values.specs.Row.{is_lasting}
use Rattle.dtx_values.specs.Table.{with_row}
use Rattle.dtx_model.specs.Acts.{lasts}
use Rattle.dtx_model.specs.Words.{has}
use Rattle.dtx_model.specs.Observed.{track}
use Rattle.dtx_model.specs.Half.{heeds_all}
use Rattle.half_parts.specs.Half.{Known}
use Rattle.half_parts.proofs.Rows.{lasts-new, no_manager, rows-managed}
use Rattle.local_half.proofs.half.LocalHalf.own.Goals as goal

alone : (v l : Bool) → v ≡ false → (v || not l) ≡ true → l ≡ false
alone true l k a = absurd cc
alone false true k a = absurd cc
alone false false k a = k

pub prove-unreachable-requires : goal.prove-unreachable-requires
prove-unreachable-requires c =
    let none = subst (λ (k : Known). has is_lasting k.half.seen.table ≡ false) (sym c.self.view_is) (alone (is_volatile c.args.class) (has is_lasting c.args.self.now.half.seen.table) c.requires.lasting c.requires.taken.alone) in
    let empty = no_manager c.self.inside.table c.self.inside.manager c.self.invariant.4.managed none in
    let some = c.is_none.ensures ∙ ap not c.if-prove.true in
    cc

pub invariant_of-self : goal.invariant_of-self
unfolding track heeds_all
invariant_of-self c =
    let table : c.self-2.inside.table ≡ with_row c.args.e c.args.class c.args.self.now.half.seen.table =
    ap (λ (k : Known). k.half.seen.table) c.self-2.view_is ∙ ap (λ (k : Known). k.half.seen.table) c.write.ensures.state in
    let b = c.self-2.invariant in
    let i = c.self-2.inside in
    let stands : lasts i.table c.args.e.value ≡ true = rw table (lasts-new c.args.e c.args.class c.args.self.now.half.seen.table c.requires.lasting) in
    (b.0, b.1, b.2, b.3, rows-managed i.limit i.handover.over i.table i.manager (Some (c.args.e, c.args.manager)) i.waits.items stands b.4, b.5, b.6, b.7, b.8, b.9)
