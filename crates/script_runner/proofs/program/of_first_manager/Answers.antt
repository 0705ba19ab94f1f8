use Rattle.std.proofs.Common.{◌∙◌, ap, sym}
use Rattle.dtx_model.specs.Caused.{Manager}
use Rattle.dtx_values.proofs.SameNumbers.{same_manager}
use Rattle.script_runner.proofs.program.of_first_manager.Goals as goal

pub returns : goal.returns
returns c = λ r one. ap Manager (same_manager c.in-Some.first r (c.in-Some.ensures.value ∙ sym one))
