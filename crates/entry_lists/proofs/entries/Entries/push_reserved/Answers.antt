use Rattle.std.proofs.Common.{◌∷◌, ◌++◌, [], List, length, map, ap, arith, ◌∙◌}
use Rattle.dtx_model.specs.Words.{each}
use Rattle.dtx_values.specs.declared.entry.Entry.{Entry}
use Rattle.entry_lists.specs.declared.brief.Brief.{Brief}
use Rattle.entry_lists.specs.Held.{Held, entry_in, is_within}
use Rattle.entry_lists.proofs.Keeping.{briefs_more}
use Rattle.entry_lists.proofs.entries.Entries.push_reserved.Goals as goal

pub invariant_of-self : goal.invariant_of-self
invariant_of-self c =
    let k = c.keep-brief.ensures in
    let put = briefs_more _ _ c.self.inside.briefs.items c.keep-brief.result k.others c.self.invariant.0 k.within in
    let room = ap (λ (h : Held). h.room) c.self.view_is in
    (ap (λ (bs : List Brief). each (is_within (length c.keep-brief.new.wholes.items)) bs) c.push_reserved.ensures.items ∙ put.1, omega (arith, room), omega (arith, room), omega (arith, room))

pub returns-clause-items : goal.returns-clause-items
returns-clause-items c =
    let k = c.keep-brief.ensures in
    let put = briefs_more _ _ c.self.inside.briefs.items c.keep-brief.result k.others c.self.invariant.0 k.within in
    ap (λ (bs : List Brief). map (entry_in c.keep-brief.new.wholes.items) bs) c.push_reserved.ensures.items ∙ put.0
    ∙ ap (λ (e : Entry). map (entry_in c.self.inside.wholes.items) c.self.inside.briefs.items ++ e ∷ []) k.entry ∙ ap (λ (h : Held). h.items ++ c.args.e.now ∷ []) c.self.view_is
