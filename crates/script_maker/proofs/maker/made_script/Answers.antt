use Rattle.std.proofs.Common.{◌≡◌, ◌++◌, ap, ◌∙◌, arith}
use Rattle.dtx_model.specs.Grammar.{script_text}
use Rattle.script_maker.specs.Gen.{begin_line, gen, par_line, up_to, work_lines}
use Rattle.script_maker.proofs.Pushes.{text_work}
use Rattle.script_maker.proofs.maker.made_script.Goals as goal

pub loop-done-2-preserved : goal.loop-done-2-preserved
loop-done-2-preserved c =
    text_work (up_to begin_line c.args.n ++ par_line) c.loop-done-2.done c.loop-done-2.lines.items c.push_work.new.lines.items c.in_ok-push_work.ensures c.loop-done-2.invariant

pub returns : goal.returns
unfolding gen
returns c =
    let all : c.loop-done-2.done ≡ c.args.n = omega arith in
    ap script_text c.new.ensures ∙ c.loop-done-2.invariant ∙ ap (λ k. up_to begin_line c.args.n ++ par_line ++ up_to work_lines k) all
