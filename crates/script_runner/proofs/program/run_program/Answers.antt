use Rattle.std.proofs.Common.{inl, inr, subst, vec_len}
use Rattle.program_words.specs.declared.command.Command.{Command}
use Rattle.script_runner.specs.Promises.{Does, devices, telling}
use Rattle.script_runner.proofs.Doing.{faults_of, no_faults}
use Rattle.script_runner.proofs.program.run_program.Goals as goal

-- the words ask for one command
pub returns-in-Some-clause-headline : goal.returns-in-Some-clause-headline
returns-in-Some-clause-headline g c d asks =
    subst (λ (x : Command). Does (telling g.S.Source.left g.S.Source.faults g.K.Sink.written g.K.Sink.faults g.D.Disk.honest g.D.Disk.seen g.D.Disk.image g.D.Disk.size g.D.Disk.faults) x (vec_len c.args.resources) (devices c.args.source.now c.args.sink.now c.args.disk) c.run_command.result.0 (devices c.run_command.new.source c.run_command.new.sink c.run_command.result.1))
    (c.in-Some.ensures.one c.in-Some.command d c.in-Some.ensures.some asks) c.run_command.ensures.does

pub returns-in-Some-clause-faults : goal.returns-in-Some-clause-faults
returns-in-Some-clause-faults g c = faults_of (telling g.S.Source.left g.S.Source.faults g.K.Sink.written g.K.Sink.faults g.D.Disk.honest g.D.Disk.seen g.D.Disk.image g.D.Disk.size g.D.Disk.faults) c.in-Some.command _ _ _ _ c.run_command.ensures.does

pub returns-in-None-clause-faults : goal.returns-in-None-clause-faults
returns-in-None-clause-faults g c = no_faults (telling g.S.Source.left g.S.Source.faults g.K.Sink.written g.K.Sink.faults g.D.Disk.honest g.D.Disk.seen g.D.Disk.image g.D.Disk.size g.D.Disk.faults) (devices c.args.source.now c.args.sink.now c.args.disk)

pub returns-in-Some-clause-asked : goal.returns-in-Some-clause-asked
returns-in-Some-clause-asked g c = inl (c.in-Some.command, c.in-Some.ensures.some)

pub returns-in-None-clause-asked : goal.returns-in-None-clause-asked
returns-in-None-clause-asked g c = inr c.in-None.ensures.none
