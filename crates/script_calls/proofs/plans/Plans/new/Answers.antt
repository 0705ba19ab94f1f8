use Rattle.std.proofs.Common.{◌≡◌, ◌+◌, ◌∷◌, [], ◌++◌, take, sym, ◌∙◌, ap}
use Rattle.std.proofs.lemmas.List.{take_more}
use Rattle.dtx_values.specs.declared.script.Line.{Line}
use Rattle.script_calls.proofs.PlanTable.{planned-none, planned-snoc}
use Rattle.script_calls.proofs.plans.Plans.new.Goals as goal

pub loop-line-init : goal.loop-line-init
loop-line-init c = rw (c.new-enlistments.ensures.items, c.new-clones.ensures.items) planned-none

pub loop-line-preserved : goal.loop-line-preserved
loop-line-preserved c =
    let more : take (c.loop-line.line-index + 1) c.args.lines.now ≡ take c.loop-line.line-index c.args.lines.now ++ c.line-item.result ∷ [] = take_more c.args.lines.now c.loop-line.line-index c.line-item.result c.loop-line-test.true ∙ ap (λ (x : Line). take c.loop-line.line-index c.args.lines.now ++ x ∷ []) (sym c.line-item.is) in
    rw more
    (planned-snoc (take c.loop-line.line-index c.args.lines.now) c.line-item.result c.loop-line.enlistments.items c.enlist.new.enlistments.items c.loop-line.clones.items c.own.new.clones.items c.loop-line.invariant
    c.in_ok-enlist.ensures c.in_ok-own.ensures)
