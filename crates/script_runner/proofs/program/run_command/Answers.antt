use Rattle.std.proofs.Common.{refl, subst, sym, vec_len}
use Rattle.std.proofs.Math.Nat.{le_refl}
use Rattle.program_io.specs.declared.exit.Exit.TheVariants.{LogFault, ReadFault, Usage}
use Rattle.program_words.specs.declared.command.Command.{Command}
use Rattle.script_runner.specs.Promises.{Does, devices, telling}
use Rattle.script_runner.specs.Tables.{RunsTable}
use Rattle.dtx_model.specs.Caused.{Of}
use Rattle.script_runner.proofs.Refusals.{check_asked, list_asked, list_unread, made_done, made_other, sure_asked, sure_done, sure_unread}
use Rattle.script_runner.proofs.Tabled.{table_asked}
use Rattle.script_runner.proofs.program.run_command.Goals as goal

pub returns-in-Replay-clause-does : goal.returns-in-Replay-clause-does
returns-in-Replay-clause-does g c =
    subst (λ (d : Command). Does (telling g.S.Source.left g.S.Source.faults g.K.Sink.written g.K.Sink.faults g.D.Disk.honest g.D.Disk.seen g.D.Disk.image g.D.Disk.size g.D.Disk.faults) d (vec_len c.args.setting.resources) (devices c.args.source.now c.args.sink.now c.args.disk) c.run_in.result.0 (devices c.run_in.new.source c.run_in.new.sink c.run_in.result.1))
    (sym c.in-Replay.is) c.run_in.ensures.runs

pub returns-in-Threads-clause-does : goal.returns-in-Threads-clause-does
returns-in-Threads-clause-does g c =
    let run = c.run_in-in-Threads in
    subst (λ (d : Command). Does (telling g.S.Source.left g.S.Source.faults g.K.Sink.written g.K.Sink.faults g.D.Disk.honest g.D.Disk.seen g.D.Disk.image g.D.Disk.size g.D.Disk.faults) d (vec_len c.args.setting.resources) (devices c.args.source.now c.args.sink.now c.args.disk) run.result.0 (devices run.new.source run.new.sink run.result.1))
    (sym c.in-Threads.is) run.ensures.runs

pub returns-in-Make-clause-does : goal.returns-in-Make-clause-does
returns-in-Make-clause-does g c =
    let made = c.make_in.ensures in
    subst (λ (d : Command). Does (telling g.S.Source.left g.S.Source.faults g.K.Sink.written g.K.Sink.faults g.D.Disk.honest g.D.Disk.seen g.D.Disk.image g.D.Disk.size g.D.Disk.faults) d (vec_len c.args.setting.resources) (devices c.args.source.now c.args.sink.now c.args.disk) c.make_in.result (devices c.args.source.now c.make_in.new.sink c.args.disk))
    (sym c.in-Make.is)
    (record {
      made = made.made;
      short = made.short;
      answers = made.answers;
      unread = refl;
      untouched = refl;
      faults =
          record {
            read_fault = λ e. absurd (made_other c.make_in.result ReadFault made.answers e (λ k. cc) (λ k. cc) (λ k. cc));
            log_fault = λ e. absurd (made_other c.make_in.result LogFault made.answers e (λ k. cc) (λ k. cc) (λ k. cc));
            write_fault = made.write_fault;
            read_smooth = λ e. refl;
            log_grows = λ e. le_refl (g.D.Disk.faults c.args.disk);
            write_smooth = made.write_smooth;
          };
      done = λ calm. made_done c.make_in.result made.answers (λ e. calm.sink (made.write_fault e));
    })

pub returns-in-Demo-clause-does : goal.returns-in-Demo-clause-does
returns-in-Demo-clause-does g c =
    let shown = c.demo_in.ensures in
    subst (λ (d : Command). Does (telling g.S.Source.left g.S.Source.faults g.K.Sink.written g.K.Sink.faults g.D.Disk.honest g.D.Disk.seen g.D.Disk.image g.D.Disk.size g.D.Disk.faults) d (vec_len c.args.setting.resources) (devices c.args.source.now c.args.sink.now c.args.disk) c.demo_in.result.0 (devices c.args.source.now c.demo_in.new.sink c.demo_in.result.1))
    (sym c.in-Demo.is)
    (record {
      writes = shown.writes;
      answers = shown.answers;
      unread = refl;
      logs = shown.logs;
      given_up_whole = shown.given_up_whole;
      faults =
          record {
            read_fault = λ e. absurd (sure_unread c.demo_in.result.0 shown.answers e);
            log_fault = shown.log_fault;
            write_fault = shown.write_fault;
            read_smooth = λ e. refl;
            log_grows = shown.log_grows;
            write_smooth = shown.write_smooth;
          };
      done = λ calm. sure_done c.demo_in.result.0 shown.answers (λ e. calm.disk (shown.log_fault e)) (λ e. calm.sink (shown.write_fault e));
    })

pub returns-in-Log-clause-does : goal.returns-in-Log-clause-does
returns-in-Log-clause-does g c =
    let list = c.list_in.ensures in
    subst (λ (d : Command). Does (telling g.S.Source.left g.S.Source.faults g.K.Sink.written g.K.Sink.faults g.D.Disk.honest g.D.Disk.seen g.D.Disk.image g.D.Disk.size g.D.Disk.faults) d (vec_len c.args.setting.resources) (devices c.args.source.now c.args.sink.now c.args.disk) c.list_in.result.0 (devices c.args.source.now c.list_in.new.sink c.list_in.result.1))
    (sym c.in-Log.is)
    (record {
      listed = list.listed;
      short = list.cut_short;
      memory = list.memory;
      unwritten = list.unwritten;
      answers = list.answers;
      no_log = list.no_log;
      no_log_refused = list.refused;
      unread = refl;
      kept = list.kept;
      size = list.size;
      faults =
          record {
            read_fault = λ e. absurd (list_unread c.list_in.result.0 list.answers e);
            log_fault = list.log_fault;
            write_fault = list.write_fault;
            read_smooth = λ e. refl;
            log_grows = list.log_grows;
            write_smooth = list.write_smooth;
          };
    })

pub returns-in-Make-clause-asked : goal.returns-in-Make-clause-asked
returns-in-Make-clause-asked g c e = made_other c.make_in.result Usage c.make_in.ensures.answers e (λ k. cc) (λ k. cc) (λ k. cc)

pub returns-in-Demo-clause-asked : goal.returns-in-Demo-clause-asked
returns-in-Demo-clause-asked g c e = sure_asked c.demo_in.result.0 c.demo_in.ensures.answers e

pub returns-in-Log-clause-asked : goal.returns-in-Log-clause-asked
returns-in-Log-clause-asked g c e = list_asked c.list_in.result.0 c.list_in.ensures.answers e

pub returns-in-Check-clause-does : goal.returns-in-Check-clause-does
returns-in-Check-clause-does g c =
    subst (λ (d : Command). Does (telling g.S.Source.left g.S.Source.faults g.K.Sink.written g.K.Sink.faults g.D.Disk.honest g.D.Disk.seen g.D.Disk.image g.D.Disk.size g.D.Disk.faults) d (vec_len c.args.setting.resources) (devices c.args.source.now c.args.sink.now c.args.disk) c.check_in.result.0 (devices c.check_in.new.source c.check_in.new.sink c.check_in.result.1))
    (sym c.in-Check.is) c.check_in.ensures.checks

pub returns-in-Check-clause-asked : goal.returns-in-Check-clause-asked
returns-in-Check-clause-asked g c e = check_asked c.check_in.result.0 c.check_in.ensures.checks.answers e

pub returns-in-Store-clause-does : goal.returns-in-Store-clause-does
returns-in-Store-clause-does g c =
    let tell = telling g.S.Source.left g.S.Source.faults g.K.Sink.written g.K.Sink.faults g.D.Disk.honest g.D.Disk.seen g.D.Disk.image g.D.Disk.size g.D.Disk.faults in
    let old = devices c.args.source.now c.args.sink.now c.args.disk in
    let new = devices c.table_in.new.source c.table_in.new.sink c.table_in.result.1 in
    subst (λ (d : Command). Does tell d (vec_len c.args.setting.resources) old c.table_in.result.0 new)
    (sym c.in-Store.is) (λ r first. subst (λ (o : Of). RunsTable tell o old c.table_in.result.0 new) (c.of_first_manager.ensures r first) c.table_in.ensures.runs)

pub returns-in-Map-clause-does : goal.returns-in-Map-clause-does
returns-in-Map-clause-does g c =
    subst (λ (d : Command). Does (telling g.S.Source.left g.S.Source.faults g.K.Sink.written g.K.Sink.faults g.D.Disk.honest g.D.Disk.seen g.D.Disk.image g.D.Disk.size g.D.Disk.faults) d (vec_len c.args.setting.resources) (devices c.args.source.now c.args.sink.now c.args.disk) c.table_in-in-Map.result.0 (devices c.table_in-in-Map.new.source c.table_in-in-Map.new.sink c.table_in-in-Map.result.1))
    (sym c.in-Map.is) c.table_in-in-Map.ensures.runs

pub returns-in-Store-clause-asked : goal.returns-in-Store-clause-asked
returns-in-Store-clause-asked g c e = table_asked c.table_in.result.0 c.table_in.ensures.runs.answers e

pub returns-in-Map-clause-asked : goal.returns-in-Map-clause-asked
returns-in-Map-clause-asked g c e = table_asked c.table_in-in-Map.result.0 c.table_in-in-Map.ensures.runs.answers e
