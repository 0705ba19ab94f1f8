use Rattle.std.proofs.Common.{◌+◌, ℕ, List, [], arith, subst, sym}
use Rattle.dtx_values.specs.declared.script.Line.{Line}
use Rattle.dtx_values.specs.declared.number.TxNo.{TxNo}
use Rattle.dtx_model.specs.AtLog.{at_log, faults as faults_told}
use Rattle.dtx_model.specs.Caused.{CausedBy, answers}
use Rattle.dtx_model.specs.Outcome.{is_empty}
use Rattle.dtx_model.proofs.Bools.{and_left, and_right}
use Rattle.history_table.proofs.Owned.{empty_list}
use Rattle.dtx_model.specs.Traces.{history}
use Rattle.dtx_model.specs.Words.{past_of}
use Rattle.coordinator_log.specs.Slots.{open_records}
use Rattle.replay_runs.specs.Exact.{faults_made}
use Rattle.replay_runs.proofs.Exactness.{broken_of, exact_of, stops_of}
use Rattle.replay_runs.proofs.LogEvents.{replayed_log}
use Rattle.replay_runs.proofs.Replayed.{IsOfScript, called_at, of_script, rise_known, rise_of, rise_told}
use Rattle.replay_runs.specs.Whose.{named}
use Rattle.heard_notes.specs.Heard.{heard}
use Rattle.replay_runs.proofs.run.run_of.Given.{Over}
use Rattle.replay_runs.proofs.run.run_of.Goals.{In-Ok}
use Rattle.replay_runs.proofs.run.run_of.Goals as goal

-- What the trace is, of which every clause speaks,
of_run : (g : Over) (c : In-Ok g) → IsOfScript c.args.s.now (named c.args.of) (past_of c.in-Ok.trace)
of_run g c = of_script c.args.s.now _ (named c.args.of) (past_of c.in-Ok.trace) c.lines.ensures c.in-Ok.ensures.replayed c.in-Ok.ensures.settled c.in-Ok.ensures.planned

-- and that each of its histories is one that the script's lines cause.
all_caused : (g : Over) (c : In-Ok g) (t : TxNo) → CausedBy c.args.s.now (answers c.args.s.now (named c.args.of)) t.value (history t.value (past_of c.in-Ok.trace))
all_caused g c = let e = of_run g c in c.replay.ensures.caused c.args.s.now (past_of c.in-Ok.trace) e.replayed (answers c.args.s.now (named c.args.of)) e.planned

pub returns-in-Ok-clause-run : goal.returns-in-Ok-clause-run
returns-in-Ok-clause-run g c =
    let s = c.args.s.now in
    let T = past_of c.in-Ok.trace in
    let b = (goal.at.returns-in-Ok-clause-run g c).In-Ok in
    let e = of_run g b in
    let well = c.requires.script.named in
    let before : ℕ = g.D.Disk.faults c.args.log.now.disk in
    let now : ℕ = g.D.Disk.faults c.trace_of.new.log.disk in
    let told : ℕ = faults_told (at_log T) + faults_made [] T in
    let caused = all_caused g b in
    record {
      rise = rise_of before now told;
      risen = rise_known before now told;
      replay = record {
        called = c.replay.ensures.called s T e.replayed;
        replayed = e.replayed;
        stops = stops_of before now told c.trace_of.new.log.armed T (omega arith) c.in-Ok.ensures.counted;
        opens = λ h.
            c.in-Ok.ensures.opens (and_left g.D.Disk.honest (is_empty (open_records c.args.log.now.slots)) h)
            (empty_list (open_records c.args.log.now.slots) (and_right g.D.Disk.honest (is_empty (open_records c.args.log.now.slots)) h));
      };
      history = record {
        caused = caused;
        promotes = λ sound t. c.crossings.ensures.promotes s t.value (history t.value T) well (caused t).freely (sound t);
        wires = λ t. c.crossings.ensures.wires s t.value (history t.value T) (caused t).freely;
        settled = e.settled;
        contexts = c.replay.ensures.contexts s T e.replayed;
        called = called_at s T (c.replay.ensures.called s T e.replayed);
        at_log = replayed_log s T e.replayed;
        faulted = rise_told before now told c.trace_of.new.log.armed T (omega arith) c.in-Ok.ensures.counted;
        followed = c.replay.ensures.followed s T e.replayed;
      };
      exact = exact_of before now c.trace_of.new.log.armed T c.in-Ok.ensures.counted;
      broken = broken_of before now told c.trace_of.new.log.armed T (omega arith) c.in-Ok.ensures.counted;
    }

pub returns-in-Ok-clause-lawful : goal.returns-in-Ok-clause-lawful
returns-in-Ok-clause-lawful g c =
    let b = (goal.at.returns-in-Ok-clause-lawful g c).In-Ok in
    let e = of_run g b in
    let slots = c.args.log.now.slots in
    c.lawful.ensures g.D.Disk.honest (is_empty (open_records slots)) c.args.s.now c.in-Ok.trace c.requires.script.named (λ t. (all_caused g b t).freely) (λ sound. e.settled) c.in-Ok.ensures.tied c.in-Ok.ensures.unlike
    (λ h fresh. c.in-Ok.ensures.unfilled h (empty_list (open_records slots) fresh))

pub trace_of-requires-clause-made : goal.trace_of-requires-clause-made
trace_of-requires-clause-made g c = subst (λ (s : List Line). g.O.Objects.is_for s (named c.args.of) c.args.objects.now) (sym c.lines.ensures) c.requires.made

pub returns-in-Ok-clause-heard : goal.returns-in-Ok-clause-heard
returns-in-Ok-clause-heard g c start =
    let T = past_of c.in-Ok.trace in
    let x = c.args.objects.now in
    subst (λ (s : List Line). g.O.Objects.reached s x [] x → g.O.Objects.reached s x (heard s (named c.args.of) T) c.trace_of.new.objects) c.lines.ensures (c.in-Ok.ensures.heard x) start
