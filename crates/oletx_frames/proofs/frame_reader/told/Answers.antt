use Rattle.std.proofs.Common.{◌≡◌, Some, ap, ◌∙◌}
use Rattle.dtx_model.specs.Frames.{frame_fault, TooShort}
use Rattle.oletx_frames.specs.Refusals.{fault_of}
use Rattle.oletx_frames.proofs.Fronts.{counted}
use Rattle.oletx_frames.proofs.frame_reader.told.Goals as goal

pub returns-in-Err-Short : goal.returns-in-Err-Short
returns-in-Err-Short c =
    let arm = c.in-Err-Short in
    let short : frame_fault c.args.b.now ≡ Some (TooShort arm.count) = arm.ensures.refused ∙ ap (λ e. Some (fault_of e)) arm.field-0-is in
    let all = counted c.args.b.now arm.count short in
    (all, short ∙ ap (λ n. Some (TooShort n)) all)
