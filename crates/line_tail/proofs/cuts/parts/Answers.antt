use Rattle.std.proofs.Common.{◌∙◌, ap, sym, rules, arith, length}
use Rattle.std.proofs.lemmas.List.{drop_all}
use Rattle.line_tail.specs.Cut.{front, behind}
use Rattle.line_tail.proofs.CutLemmas.{front_cut, behind_cut, front_whole, behind_whole}
use Rattle.line_tail.proofs.cuts.parts.Goals as goal

pub returns-in-Some-clause-front : goal.returns-in-Some-clause-front
returns-in-Some-clause-front c =
    let k = c.in-Some.ensures.some in
    sym (ap (λ b. front c.args.separator b) k.0 ∙ front_cut c.args.separator c.in-Some.parts.0.now c.in-Some.parts.1.now k.1)

pub returns-in-Some-clause-behind : goal.returns-in-Some-clause-behind
returns-in-Some-clause-behind c =
    let k = c.in-Some.ensures.some in
    sym (ap (λ b. behind c.args.separator b) k.0 ∙ behind_cut c.args.separator c.in-Some.parts.0.now c.in-Some.parts.1.now k.1)

pub returns-in-None-clause-front : goal.returns-in-None-clause-front
returns-in-None-clause-front c = sym (front_whole c.args.separator c.args.bytes.now c.in-None.ensures.none)

pub returns-in-None-clause-behind : goal.returns-in-None-clause-behind
returns-in-None-clause-behind c =
    rw (drop_all (length c.args.bytes.now) c.args.bytes.now (omega arith), behind_whole c.args.separator c.args.bytes.now c.in-None.ensures.none) (search rules)
