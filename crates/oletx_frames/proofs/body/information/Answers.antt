use Rattle.std.proofs.Common.{Err, ap}
use Rattle.oletx_frames.proofs.Identifiers.{field_within}
use Rattle.oletx_frames.proofs.body.information.Goals as goal

pub returns-in-Err-Value-clause-small : goal.returns-in-Err-Value-clause-small
returns-in-Err-Value-clause-small c =
    let arm = c.in-Err-Value in
    field_within c.args.body.now arm.place (arm.ensures.value arm.place (ap Err arm.field-0-is)).1
