use Rattle.script_runner.proofs.Pictures.{arrows_of}
use Rattle.script_runner.proofs.arrows.each_run_has_its_arrows.Goals as goal

pub returns : goal.returns
returns c = record { arrows = λ s k rise T run. arrows_of s k rise T run }
