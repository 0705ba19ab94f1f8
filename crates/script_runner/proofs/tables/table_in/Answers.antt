use Rattle.std.proofs.Common.{◌≡◌, ◌∙◌, ℕ, List, Option, ap, subst, sym, Err}
use Rattle.std.specs.Option.{ForSome}
use Rattle.std.specs.Prelude.{Result, Ok, IfErr, IfOk}
use Rattle.dtx_values.specs.declared.script.Line.{Line}
use Rattle.dtx_model.specs.Caused.{Of}
use Rattle.heard_notes.specs.declared.put.Put.{Put}
use Rattle.program_io.specs.InputRead.{RefusesInput}
use Rattle.program_io.specs.declared.exit.Exit.{Exit}
use Rattle.put_lines.specs.Input.{ReadsInput}
use Rattle.script_runner.specs.Devices.{telling}
use Rattle.heard_notes.specs.Whose.{whose}
use Rattle.put_lines.specs.Rows.{pairs_of}
use Rattle.put_lines.specs.declared.table.TableRow.{TableRow}
use Rattle.script_runner.specs.Tables.{IsTableOf, most_keys}
use Rattle.script_runner.proofs.Tabled.{at_refused_input, at_table_stop, at_table_text}
use Rattle.script_runner.proofs.tables.table_in.Goals as goal

-- what is said with the number that the call gave is said with the table's
refused_so : (m n : ℕ) (o : Of) (given : Option (List ℕ)) (x : Exit) → m ≡ n → RefusesInput m o given x → RefusesInput n o given x
refused_so m n o given x e h = subst (λ (k : ℕ). RefusesInput k o given x) e h

read_so : (m n : ℕ) (o : Of) (given : Option (List ℕ)) (ps : List Put) (s : List Line) → m ≡ n → ForSome given (λ b. ReadsInput m o b ps s) → ForSome given (λ b. ReadsInput n o b ps s)
read_so m n o given ps s e h = subst (λ (k : ℕ). ForSome given (λ b. ReadsInput k o b ps s)) e h

of_ok : {A E : Type 0} (P : A → Type 0) (r : Result A E) (x : A) → r ≡ Ok x → IfOk r P → P x
of_ok P r x e h = subst (λ s. IfOk s P) e h

of_err : {A E : Type 0} (P : E → Type 0) (r : Result A E) (x : E) → r ≡ Err x → IfErr r P → P x
of_err P r x e h = subst (λ s. IfErr s P) e h

not_both : {A E : Type 0} (r : Result A E) (x : A) (y : E) → r ≡ Ok x → r ≡ Err y → ⊥
not_both r x y ok err = cc

one_error : {A E : Type 0} (r : Result A E) (x y : E) → r ≡ Err x → r ≡ Err y → x ≡ y
one_error r x y e f = cc

pub returns-in-Err-clause-runs : goal.returns-in-Err-clause-runs
returns-in-Err-clause-runs g c =
    at_refused_input (telling g.S.Source.left g.S.Source.faults g.K.Sink.written g.K.Sink.faults g.D.Disk.honest g.D.Disk.seen g.D.Disk.image g.D.Disk.size g.D.Disk.faults) (whose c.args.of)
    c.reads_one_input.ensures.either c.reads_one_input.ensures.first c.args.source.now c.input_from.new.source c.args.sink.now c.args.disk c.in-Err.exit
    (refused_so c.most_keys.result (most_keys (whose c.args.of)) (whose c.args.of) _ c.in-Err.exit c.most_keys.ensures c.in-Err.ensures.refused)
    (λ n d e. c.in-Err.ensures.judged n d (ap Err e)) c.in-Err.ensures.cause c.in-Err.ensures.unfaulted

pub returns-in-Ok-rows-clause-runs : goal.returns-in-Ok-rows-clause-runs
returns-in-Ok-rows-clause-runs g c =
    let run = c.rows_anew-rows.ensures in
    let is = c.in-Ok-rows.is in
    let left = of_ok _ _ _ is run.table in
    let found = subst (λ (xs : List TableRow). IsTableOf (whose c.args.of) c.in-Ok.input.script c.in-Ok.input.puts.items (g.D.Disk.faults c.args.disk) (g.D.Disk.faults c.rows_anew-rows.result.1) g.D.Disk.honest (pairs_of xs) left.0) (sym c.deref.ensures.value) left.1 in
    at_table_text (telling g.S.Source.left g.S.Source.faults g.K.Sink.written g.K.Sink.faults g.D.Disk.honest g.D.Disk.seen g.D.Disk.image g.D.Disk.size g.D.Disk.faults) (whose c.args.of)
    c.reads_one_input.ensures.either c.in-Ok.input.puts.items c.in-Ok.input.script c.args.source.now c.input_from.new.source c.args.disk c.rows_anew-rows.result.1
    (read_so c.most_keys.result (most_keys (whose c.args.of)) (whose c.args.of) _ c.in-Ok.input.puts.items c.in-Ok.input.script c.most_keys.ensures c.in-Ok.ensures.read)
    c.in-Ok.ensures.script c.in-Ok.ensures.smooth run.whole _ left.0 found
    c.args.sink.now c.rows_written.new.sink c.rows_written.result c.rows_written.ensures.answers c.in-Ok.ensures.left
    c.rows_written.ensures.all c.rows_written.ensures.cut c.rows_written.ensures.memory c.rows_written.ensures.fault c.rows_written.ensures.smooth
    (run.grows (λ k. not_both _ _ _ is k)) (λ h. run.logs h (λ k. not_both _ _ _ is k))

pub returns-clause-runs : goal.returns-clause-runs
returns-clause-runs g c =
    let run = c.rows_anew-rows.ensures in
    let is = c.in-Err-rows.is in
    at_table_stop (telling g.S.Source.left g.S.Source.faults g.K.Sink.written g.K.Sink.faults g.D.Disk.honest g.D.Disk.seen g.D.Disk.image g.D.Disk.size g.D.Disk.faults) (whose c.args.of)
    c.reads_one_input.ensures.either c.in-Ok.input.puts.items c.in-Ok.input.script c.args.source.now c.input_from.new.source c.args.disk c.rows_anew-rows.result.1
    (read_so c.most_keys.result (most_keys (whose c.args.of)) (whose c.args.of) _ c.in-Ok.input.puts.items c.in-Ok.input.script c.most_keys.ensures c.in-Ok.ensures.read)
    c.in-Ok.ensures.script c.in-Ok.ensures.smooth run.whole
    c.args.sink.now c.in-Err-rows.exit (of_err _ _ _ is run.only)
    (λ e. run.fault (is ∙ ap Err e)) (λ ne. run.grows (λ k. ne (one_error _ _ _ is k))) (λ h ne. run.logs h (λ k. ne (one_error _ _ _ is k)))
