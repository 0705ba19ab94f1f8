use Rattle.std.proofs.Common.{◌∙◌, ap, arith, length, sym}
use Rattle.program_io.specs.Judged.{first_do}
use Rattle.program_io.proofs.Threadable.{no_do}
use Rattle.script_calls.proofs.Scripts.{few}
use Rattle.program_io.proofs.judging.script_to_run.Goals as goal

pub first_do-requires : goal.first_do-requires
first_do-requires c =
    let same = ap length c.lines.ensures in
    let most = few c.in-Ok.script c.in-Ok.ensures.read.script in
    omega (arith, same, most)

pub returns-in-None-clause-script : goal.returns-in-None-clause-script
returns-in-None-clause-script c =
    rw c.in-Threads.is (c.in-Ok.ensures.read, record { script = c.in-Ok.ensures.read.script; free_of_do = no_do 1 c.in-Ok.script (ap (λ s. first_do s) (sym c.lines.ensures) ∙ (sym c.first_do.ensures ∙ c.in-None.is)) })
