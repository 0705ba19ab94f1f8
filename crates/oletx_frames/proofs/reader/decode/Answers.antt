use Rattle.std.proofs.Common.{◌+◌, Ok, ap, ◌∙◌}
use Rattle.dtx_model.specs.Frames.{body_length, field_fault}
use Rattle.oletx_frames.specs.Refusals.{fault_of}
use Rattle.oletx_frames.specs.Shapes.{kind_of}
use Rattle.oletx_frames.proofs.Faults.{framed}
use Rattle.oletx_frames.proofs.Pieces.{not_refused, read_same}
use Rattle.oletx_frames.proofs.reader.decode.Goals as goal

pub returns-in_err-shape-clause-read : goal.returns-in_err-shape-clause-read
returns-in_err-shape-clause-read c = λ m rest valid is.
    absurd (not_refused c.args.b.now m rest (fault_of c.in_err-shape.field-0.0) valid is c.in_err-shape.ensures.refused)

pub returns-in_err-body-clause-read : goal.returns-in_err-body-clause-read
returns-in_err-body-clause-read c = λ m rest valid is.
    absurd (not_refused c.args.b.now m rest (fault_of c.in_err-body.field-0.0) valid is (c.in_ok-shape.ensures.next ∙ c.in_err-body.ensures.refused))

pub returns-in-Ok-clause-frame : goal.returns-in-Ok-clause-frame
returns-in-Ok-clause-frame c =
    let body = c.in_ok-body.ensures in
    framed c.args.b.now c.in_ok-body.body.now (body_length (kind_of c.in_ok-shape.shape)) c.body_length.result c.in-Ok.m (c.in-Ok.ensures.made _ _ c.in_ok-shape.ensures.head) body.cut body.long
    body.counted c.body_length.ensures

pub returns-in-Ok-clause-read : goal.returns-in-Ok-clause-read
returns-in-Ok-clause-read c = λ m rest valid is.
    let body = c.in_ok-body.ensures in
    let frame = framed c.args.b.now c.in_ok-body.body.now (body_length (kind_of c.in_ok-shape.shape)) c.body_length.result c.in-Ok.m (c.in-Ok.ensures.made _ _ c.in_ok-shape.ensures.head) body.cut body.long
    body.counted c.body_length.ensures in
    let same = read_same c.args.b.now c.in-Ok.m (4 + c.body_length.result) m rest frame.0 frame.1 valid is in
    λ k. Ok (same.0 k, same.1 k)

pub returns-in-Err-clause-read : goal.returns-in-Err-clause-read
returns-in-Err-clause-read c = λ m rest valid is.
    absurd (not_refused c.args.b.now m rest _ valid is (c.in_ok-shape.ensures.next ∙ c.in_ok-body.ensures.next ∙ ap field_fault c.in-Err.ensures.bad))
