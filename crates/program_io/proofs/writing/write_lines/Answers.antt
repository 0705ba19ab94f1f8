use Rattle.std.proofs.Common.{Some, refl, subst, take, ap, arith, length, sym, ◌++◌, ◌≡◌, ◌∙◌}
use Rattle.std.proofs.lemmas.Grind.{common_steps}
use Rattle.std.proofs.lemmas.List.{take_all}
use Rattle.trace_text.specs.Forms.{lines_text}
use Rattle.program_io.specs.Transfer.{IsPartWritten}
use Rattle.program_io.proofs.Transfers.{before_piece, none_written, part_of_piece, piece_on, piece_written}
use Rattle.program_io.proofs.writing.write_lines.Goals as goal

pub loop-at-init : goal.loop-at-init
loop-at-init g c = record {
  within = omega arith;
  smooth = refl;
  written = λ w told. told ∙ ap Some (sym (none_written c.args.wire c.args.trace.now w));
}

pub returns-in_default-clause-part : goal.returns-in_default-clause-part
returns-in_default-clause-part g c = λ w told.
    before_piece c.args.wire c.args.trace.now c.loop-at.at w _ (grind (arith, common_steps)) (c.loop-at.invariant.written w told)

pub returns-in-Err-clause-part : goal.returns-in-Err-clause-part
returns-in-Err-clause-part g c =
    let on = piece_on c.args.wire c.args.trace.now c.loop-at.at c.min-to.result _ _ c.in-Ok.ensures.text c.clear.ensures.items in
    λ w told. part_of_piece c.args.wire c.args.trace.now c.loop-at.at c.min-to.result w _ _ on
    (subst (λ x. IsPartWritten (w ++ lines_text c.args.wire (take c.loop-at.at c.args.trace.now)) x (g.K.Sink.written c.write_all.new.sink)) c.deref.ensures.value (c.in-Err.ensures.part _ (c.loop-at.invariant.written w told)))

pub loop-at-preserved : goal.loop-at-preserved
loop-at-preserved g c =
    let on = piece_on c.args.wire c.args.trace.now c.loop-at.at c.min-to.result _ _ c.in-Ok.ensures.text c.clear.ensures.items in
    record {
      within = grind (arith, common_steps);
      smooth = c.in-Ok-write_all.ensures.smooth ∙ c.loop-at.invariant.smooth;
      written = λ w told.
          piece_written c.args.wire c.args.trace.now c.loop-at.at c.min-to.result w _ _ on
          (c.in-Ok-write_all.ensures.all _ (c.loop-at.invariant.written w told) ∙ ap Some (ap (λ x. (w ++ lines_text c.args.wire (take c.loop-at.at c.args.trace.now)) ++ x) c.deref.ensures.value));
    }
