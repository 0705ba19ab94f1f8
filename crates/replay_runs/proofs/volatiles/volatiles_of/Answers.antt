use Rattle.std.proofs.Common.{rules, ◌≡◌, ◌+◌, ◌∷◌, [], ◌++◌, take, sym, ◌∙◌, ap}
use Rattle.std.proofs.lemmas.List.{take_more}
use Rattle.dtx_values.specs.declared.script.Line.{Line}
use Rattle.replay_runs.proofs.Marking.{volatiles-none, volatiles-snoc}
use Rattle.replay_runs.proofs.volatiles.volatiles_of.Goals as goal

pub loop-line-init : goal.loop-line-init
loop-line-init c = (search rules, volatiles-none c.args.lines.now c.resize.new.self.items _ _ (ap (take 9999) c.new-volatiles.ensures.items) c.in_ok-resize.ensures.items)

pub loop-line-preserved : goal.loop-line-preserved
loop-line-preserved c =
    let s = c.args.lines.now in
    let i = c.loop-line.line-index in
    let more : take (i + 1) s ≡ take i s ++ c.line-item.result ∷ [] = take_more s i c.line-item.result c.loop-line-test.true ∙ ap (λ (x : Line). take i s ++ x ∷ []) (sym c.line-item.is) in (
      c.keep.ensures.full,
      rw more (volatiles-snoc s (take i s) c.line-item.result c.loop-line.volatiles.items c.keep.new.volatiles.items c.loop-line.invariant.1 c.keep.ensures.kept),
    )
