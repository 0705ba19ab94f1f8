use Rattle.std.proofs.Common.{◌∷◌, ◌++◌, [], List, length, map, ap, arith, ◌∙◌}
use Rattle.dtx_model.specs.Words.{each}
use Rattle.dtx_values.specs.declared.entry.Entry.{Entry}
use Rattle.dtx_values.specs.declared.trace.Place.{Place}
use Rattle.entry_lists.specs.declared.brief.Brief.{Brief}
use Rattle.entry_lists.specs.declared.short.ShortPlace.{ShortPlace}
use Rattle.entry_lists.specs.Held.{HeldPlaced, is_placed_within, placed_in}
use Rattle.entry_lists.proofs.Keeping.{placed_more}
use Rattle.entry_lists.proofs.placed.PlacedEntries.push_reserved.Goals as goal

pub invariant_of-self : goal.invariant_of-self
invariant_of-self c =
    let k = c.keep-brief.ensures in
    let put = placed_more _ _ c.self.inside.briefs.items c.short_place.result c.keep-brief.result k.others c.self.invariant.0 k.within in
    let room = ap (λ (h : HeldPlaced). h.room) c.self.view_is in
    (ap (λ (bs : List (ShortPlace × Brief)). each (is_placed_within (length c.keep-brief.new.wholes.items)) bs) c.push_reserved.ensures.items ∙ put.1, omega (arith, room), omega (arith, room), omega (arith, room))

pub returns-clause-items : goal.returns-clause-items
returns-clause-items c =
    let k = c.keep-brief.ensures in
    let put = placed_more _ _ c.self.inside.briefs.items c.short_place.result c.keep-brief.result k.others c.self.invariant.0 k.within in
    ap (λ (bs : List (ShortPlace × Brief)). map (placed_in c.keep-brief.new.wholes.items) bs) c.push_reserved.ensures.items ∙ put.0
    ∙ ap (λ (e : Place × Entry). map (placed_in c.self.inside.wholes.items) c.self.inside.briefs.items ++ e ∷ []) (λ i. (c.short_place.ensures i, k.entry i)) ∙ ap (λ (h : HeldPlaced). h.items ++ c.args.x ∷ []) c.self.view_is
