use Rattle.std.proofs.Common.{arith, length, refl, sym, ◌∙◌}
use Rattle.entry_lists.proofs.Keeping.{brief_alike}
use Rattle.entry_lists.proofs.brief.keep_from.Goals as goal

pub returns-else-is_whole : goal.returns-else-is_whole
returns-else-is_whole c =
    let alike = brief_alike c.args.wholes.now.items c.args.list.now (length c.args.wholes.now.items) c.args.b (sym c.is_whole.ensures ∙ c.if-is_whole.false) in
    record {
      entry = alike.0;
      within = alike.1;
      others = λ x h. (refl, h);
      grows = omega arith;
      capacity = refl;
    }
