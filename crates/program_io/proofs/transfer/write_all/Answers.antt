use Rattle.std.proofs.Common.{arith, ◌∙◌}
use Rattle.std.proofs.lemmas.Grind.{common_steps}
use Rattle.std.proofs.lemmas.List.{take_rest}
use Rattle.outside.proofs.Pieces.{written_on}
use Rattle.program_io.proofs.Transfers.{cut_at, stalled_at}
use Rattle.program_io.proofs.transfer.write_all.Goals as goal

pub loop-at-preserved : goal.loop-at-preserved
loop-at-preserved g c = record {
  within = grind (arith, common_steps);
  smooth = c.in-Ok.ensures.smooth (omega (arith, c.in-Ok.n-test.1)) ∙ c.loop-at.invariant.smooth;
  written = λ w told.
      let now = c.in-Ok.ensures.added _ (c.loop-at.invariant.written w told) in
      let rest = take_rest c.args.bytes.now c.loop-at.at in
      let on = written_on w c.args.bytes.now c.loop-at.at c.in-Ok.n in
      cc;
  untold = λ none. c.write.ensures.untold (c.loop-at.invariant.untold none);
}

pub returns-in-Err-Memory-clause-part : goal.returns-in-Err-Memory-clause-part
returns-in-Err-Memory-clause-part g c = λ w told.
    cut_at w c.args.bytes.now _ c.loop-at.at (grind (arith, common_steps)) (c.in-Err-Memory.ensures.kept ∙ c.loop-at.invariant.written w told)

pub returns-in-Ok-eq0-clause-part : goal.returns-in-Ok-eq0-clause-part
returns-in-Ok-eq0-clause-part g c = λ w told.
    stalled_at w c.args.bytes.now _ _ c.loop-at.at _ (grind (arith, common_steps)) c.in-Ok-eq0.field-0-test (c.in-Ok-eq0.ensures.added _ (c.loop-at.invariant.written w told))

pub returns-in-Err-Failed-clause-part : goal.returns-in-Err-Failed-clause-part
returns-in-Err-Failed-clause-part g c = λ w told.
    cut_at w c.args.bytes.now _ c.loop-at.at (grind (arith, common_steps)) (c.in-Err-Failed.ensures.kept ∙ c.loop-at.invariant.written w told)
