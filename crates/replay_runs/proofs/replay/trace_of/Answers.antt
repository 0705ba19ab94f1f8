use Rattle.std.proofs.Common.{◌≡◌, ℕ, Bool, List, [], None, ap, arith, inl, inr, refl, subst, sym, ◌∙◌}
use Rattle.std.specs.Prelude.{IsTrue}
use Rattle.dtx_values.specs.declared.entry.Entry.{Entry}
use Rattle.dtx_values.specs.declared.script.Line.{Line}
use Rattle.dtx_model.specs.AtLog.{at_log, has_log_line, is_log_up, open_right}
use Rattle.dtx_model.specs.Caused.{Of, Settled}
use Rattle.dtx_model.specs.Grammar.{IsScript}
use Rattle.dtx_model.specs.Replay.{IsReplayed, LinesRan}
use Rattle.dtx_model.specs.Tied.{tied}
use Rattle.dtx_model.specs.Traces.{Placed, history}
use Rattle.dtx_model.specs.Words.{has, past_of}
use Rattle.coordinator_log.specs.Crash.{AllHold}
use Rattle.coordinator_log.specs.Slots.{open_records}
use Rattle.coordinator_log.specs.State.{LogState}
use Rattle.scope_context.specs.Standing.{Standing}
use Rattle.turn_parts.specs.Reopening.{is_no_log_answer}
use Rattle.script_histories.specs.LogQuiet.{is_log_full}
use Rattle.replay_runs.specs.Found.{Finds, finds_as_wished}
use Rattle.replay_runs.specs.LogRun.{IsCounted}
use Rattle.replay_runs.specs.RunState.{AreBelow, AreSettledBelow, Holds, IsRoundAt, IsToPlan, RunState, Tells}
use Rattle.script_calls.specs.Scoped.{AreOpen}
use Rattle.replay_runs.proofs.Finding.{found_first}
use Rattle.replay_runs.proofs.NeverFull.{full_nowhere}
use Rattle.replay_runs.proofs.Going.{goes_then, stays_then}
use Rattle.script_calls.proofs.Openings.{open_none}
use Rattle.replay_runs.proofs.Recorded.{ends_as, holds_at_start, tells_at_start}
use Rattle.replay_runs.proofs.Rounds.{is_replayed, turn-first}
use Rattle.heard_notes.specs.Heard.{heard}
use Rattle.replay_runs.specs.Whose.{named}
use Rattle.replay_runs.proofs.replay.trace_of.Given.{Over}
use Rattle.replay_runs.proofs.replay.trace_of.Goals.{In_ok-settle_all}
use Rattle.replay_runs.proofs.replay.trace_of.Goals as goal

-- before the first step the trace tells of the log
told_first : {D : Type 0} (faults : D → ℕ) (honest : Bool) (image : D → List ℕ → Type 0) (log : LogState D) (lines : List Line) (objects : Of) (contexts : List Standing) (run : RunState)
    → run ≡ record { script = lines; objects = objects; worlds = []; contexts = contexts; trace = [] } → log.armed ≡ None → (IsTrue honest → AllHold (image log.disk) (open_records log.slots)) → Tells faults honest image log log (past_of run.trace)
told_first faults honest image log lines objects contexts run is unarmed held =
    subst (λ (r : RunState). Tells faults honest image log log (past_of r.trace)) (sym is) (tells_at_start faults honest image log unarmed held)

pub lines-requires-clause-holds : goal.lines-requires-clause-holds
lines-requires-clause-holds g c =
    subst (λ (r : RunState). Holds g.D.Disk.honest g.D.Disk.image c.args.log.now r) (sym c.in_ok-run.ensures)
    (holds_at_start g.D.Disk.honest g.D.Disk.image c.args.log.now c.args.lines.now _ _ c.requires.up c.requires.none (λ h. c.is_up.ensures.images h c.requires.up))

pub lines-requires-clause-contexts : goal.lines-requires-clause-contexts
lines-requires-clause-contexts g c = subst (λ (r : RunState). AreOpen r.contexts []) (sym c.in_ok-run.ensures) open_none

pub lines-requires-clause-below : goal.lines-requires-clause-below
lines-requires-clause-below g c = subst (λ (r : RunState). AreBelow 1 r.worlds) (sym c.in_ok-run.ensures) (λ t. refl)

pub lines-requires-clause-script : goal.lines-requires-clause-script
lines-requires-clause-script g c = subst IsScript (sym (ap (λ (r : RunState). r.script) c.in_ok-run.ensures)) c.requires.script

pub returns-in_err-lines-clause-stays : goal.returns-in_err-lines-clause-stays
returns-in_err-lines-clause-stays g c none = c.lines.ensures.stays (ap has_log_line (ap (λ (r : RunState). r.script) c.in_ok-run.ensures) ∙ none)

pub returns-in_err-settle_all-clause-log : goal.returns-in_err-settle_all-clause-log
returns-in_err-settle_all-clause-log g c = goes_then g.D.Disk.faults g.D.Disk.honest g.D.Disk.image c.args.log.now c.lines.new.log c.settle_all.new.log c.lines.ensures.log c.settle_all.ensures.goes.log

pub returns-in_err-settle_all-clause-stays : goal.returns-in_err-settle_all-clause-stays
returns-in_err-settle_all-clause-stays g c none =
    let first = c.lines.ensures.stays (ap has_log_line (ap (λ (r : RunState). r.script) c.in_ok-run.ensures) ∙ none) in
    stays_then g.D.Disk.faults c.args.log.now c.lines.new.log c.settle_all.new.log c.lines.ensures.log.grows c.settle_all.ensures.goes.log.grows first c.settle_all.ensures.goes.stays

pub returns-clause-log : goal.returns-clause-log
returns-clause-log g c = goes_then g.D.Disk.faults g.D.Disk.honest g.D.Disk.image _ _ _ c.lines.ensures.log c.settle_all.ensures.goes.log

pub returns-clause-stays : goal.returns-clause-stays
returns-clause-stays g c none =
    let first = c.lines.ensures.stays (ap has_log_line (ap (λ (r : RunState). r.script) c.in_ok-run.ensures) ∙ none) in
    stays_then g.D.Disk.faults c.args.log.now c.lines.new.log c.settle_all.new.log c.lines.ensures.log.grows c.settle_all.ensures.goes.log.grows first c.settle_all.ensures.goes.stays

pub returns-clause-replayed : goal.returns-clause-replayed
returns-clause-replayed g c =
    let s = c.args.lines.now in
    let first : c.in_ok-run.run'.script ≡ s = ap (λ (r : RunState). r.script) c.in_ok-run.ensures in
    let lines = c.lines.new.self.trace in
    let end = c.settle_all.new.self.trace in
    let ran : LinesRan s (past_of s) (past_of lines) = subst (λ (r : List Line). LinesRan r (past_of r) (past_of lines)) first c.in_ok-lines.ensures.ran in
    let rounds : IsRoundAt s (past_of lines) 1 (past_of end) =
    subst (λ (r : List Line). IsRoundAt r (past_of lines) 1 (past_of end)) (c.in_ok-lines.ensures.runs.script ∙ first) (c.in_ok-settle_all.ensures.turns (past_of lines) (turn-first c.lines.new.self.script (past_of lines))) in
    subst (λ (T : List Placed). IsReplayed s (past_of T)) (sym c.into_trace.ensures.trace) (is_replayed s 1 lines end ran rounds)

pub returns-clause-settled : goal.returns-clause-settled
returns-clause-settled g c t =
    let s = c.args.lines.now in
    let first : c.in_ok-run.run'.script ≡ s = ap (λ (r : RunState). r.script) c.in_ok-run.ensures in
    let below : AreSettledBelow s 257 (past_of c.settle_all.new.self.trace) =
    subst (λ (r : List Line). AreSettledBelow r 257 (past_of c.settle_all.new.self.trace)) (c.in_ok-lines.ensures.runs.script ∙ first) c.in_ok-settle_all.ensures.settled in
    subst (λ (T : List Placed). Settled s (history t.value (past_of T))) (sym c.into_trace.ensures.trace) (below t (omega (arith, t.in_range.1)))

pub returns-clause-planned : goal.returns-clause-planned
returns-clause-planned g c t =
    let s = c.args.lines.now in
    let o = named c.args.whose in
    let script : c.in_ok-run.run'.script ≡ s = ap (λ (r : RunState). r.script) c.in_ok-run.ensures in
    let objects : c.in_ok-run.run'.objects ≡ o = ap (λ (r : RunState). r.objects) c.in_ok-run.ensures in
    let end = c.settle_all.new.self in
    let tied = c.in_ok-settle_all.ensures.runs.holds.tied t in
    subst (λ (T : List Placed). IsToPlan s o (history t.value (past_of T))) (sym c.into_trace.ensures.trace)
    (subst (λ (r : List Line). IsToPlan r o (history t.value (past_of end.trace))) (c.in_ok-settle_all.ensures.runs.script ∙ (c.in_ok-lines.ensures.runs.script ∙ script))
    (subst (λ (k : Of). IsToPlan end.script k (history t.value (past_of end.trace))) (c.in_ok-settle_all.ensures.runs.objects ∙ (c.in_ok-lines.ensures.runs.objects ∙ objects))
    (subst (λ (h : List Entry). IsToPlan end.script end.objects h) tied.past tied.planned)))

-- what restarts found is right at the end, where no fault came
pub returns-clause-found : goal.returns-clause-found
returns-clause-found g c is calm =
    let log = c.args.log.now in
    let first : Finds g.D.Disk.faults g.D.Disk.seen log log (past_of c.in_ok-run.run'.trace) =
    subst (λ (r : RunState). Finds g.D.Disk.faults g.D.Disk.seen log log (past_of r.trace)) (sym c.in_ok-run.ensures) (found_first g.D.Disk.faults g.D.Disk.seen log c.requires.unarmed) in
    let end = c.in_ok-settle_all.ensures.runs.finds is log (c.in_ok-lines.ensures.runs.finds is log first) in
    ap (λ (T : List Placed). finds_as_wished (past_of T)) c.into_trace.ensures.trace ∙ elim end.found [ inl rose ↦ absurd (calm rose) | inr f ↦ f.found ]

-- so it does at the end
told_at_end : (g : Over) (c : In_ok-settle_all g) → Tells g.D.Disk.faults g.D.Disk.honest g.D.Disk.image c.args.log.now c.settle_all.new.log (past_of c.settle_all.new.self.trace)
told_at_end g c =
    let log = c.args.log.now in
    let told = told_first g.D.Disk.faults g.D.Disk.honest g.D.Disk.image log c.args.lines.now _ _ c.in_ok-run.run' c.in_ok-run.ensures c.requires.unarmed (λ k. c.is_up.ensures.images k c.requires.up) in
    c.in_ok-settle_all.ensures.runs.tells log (c.in_ok-lines.ensures.runs.tells log told)

pub returns-clause-counted : goal.returns-clause-counted
returns-clause-counted g c =
    let log = c.args.log.now in
    let end = told_at_end g (goal.at.returns-clause-counted g c).In_ok-settle_all in
    subst (λ (T : List Placed). IsCounted (g.D.Disk.faults log.disk) (g.D.Disk.faults c.settle_all.new.log.disk) c.settle_all.new.log.armed (past_of T)) (sym c.into_trace.ensures.trace) end.counted

pub returns-clause-opens : goal.returns-clause-opens
returns-clause-opens g c h empty =
    let end = told_at_end g (goal.at.returns-clause-opens g c).In_ok-settle_all in
    ap (λ (T : List Placed). open_right [] (past_of T)) c.into_trace.ensures.trace ∙ end.opens h empty

pub returns-clause-unlike : goal.returns-clause-unlike
returns-clause-unlike g c h =
    let end = told_at_end g (goal.at.returns-clause-unlike g c).In_ok-settle_all in
    ap (λ (T : List Placed). has is_no_log_answer (at_log (past_of T))) c.into_trace.ensures.trace ∙ end.unlike h

pub returns-clause-unfilled : goal.returns-clause-unfilled
returns-clause-unfilled g c h empty t =
    let end = told_at_end g (goal.at.returns-clause-unfilled g c).In_ok-settle_all in
    ap (λ (T : List Placed). has is_log_full (history t.value (past_of T))) c.into_trace.ensures.trace ∙ full_nowhere (past_of c.settle_all.new.self.trace) (end.unfilled h empty) t.value

pub returns-clause-tied : goal.returns-clause-tied
returns-clause-tied g c h t =
    let end = c.in_ok-settle_all.ensures.runs.holds in
    ap (λ (T : List Placed). tied (history t.value (past_of T))) c.into_trace.ensures.trace ∙ (ap tied (sym (end.tied t).past) ∙ end.sound h t)

pub returns-clause-up : goal.returns-clause-up
returns-clause-up g c = c.in_ok-settle_all.ensures.runs.holds.up ∙ ap (λ (T : List Placed). is_log_up (past_of T)) (sym c.into_trace.ensures.trace)

pub returns-clause-ends : goal.returns-clause-ends
returns-clause-ends g c h =
    let image = g.D.Disk.image in
    let log = c.args.log.now in
    let last = c.settle_all.new.log in
    let end = told_at_end g (goal.at.returns-clause-ends g c).In_ok-settle_all in
    let went = goes_then g.D.Disk.faults g.D.Disk.honest image log c.lines.new.log last c.lines.ensures.log c.settle_all.ensures.goes.log in
    ends_as g.D.Disk.faults image log last c.settle_all.new.self c.into_trace.result c.into_trace.ensures.trace c.into_trace.ensures.numbered
    (subst (λ b. Holds b image last c.settle_all.new.self) h c.in_ok-settle_all.ensures.runs.holds) (end.foreign h) (went.logs h (λ bytes among. (_, c.is_up.ensures.images h c.requires.up bytes among))) (c.is_up-2.ensures.images h)

pub lines-requires-clause-made : goal.lines-requires-clause-made
lines-requires-clause-made g c = subst (λ (r : RunState). g.O.Objects.is_for r.script r.objects c.args.objects.now) (sym c.in_ok-run.ensures) c.requires.made

pub returns-clause-heard : goal.returns-clause-heard
returns-clause-heard g c from start =
    let s = c.args.lines.now in
    let o = named c.args.whose in
    let run = c.in_ok-run.run' in
    let end = c.settle_all.new.self in
    let z = c.settle_all.new.objects in
    let first : g.O.Objects.reached run.script from (heard run.script run.objects (past_of run.trace)) c.args.objects.now =
    subst (λ (r : RunState). g.O.Objects.reached r.script from (heard r.script r.objects (past_of r.trace)) c.args.objects.now) (sym c.in_ok-run.ensures) start in
    let last = c.in_ok-settle_all.ensures.heard.reached from (c.in_ok-lines.ensures.heard.reached from first) in
    let script : end.script ≡ s = c.in_ok-settle_all.ensures.runs.script ∙ (c.in_ok-lines.ensures.runs.script ∙ ap (λ (r : RunState). r.script) c.in_ok-run.ensures) in
    let objects : end.objects ≡ o = c.in_ok-settle_all.ensures.runs.objects ∙ (c.in_ok-lines.ensures.runs.objects ∙ ap (λ (r : RunState). r.objects) c.in_ok-run.ensures) in
    subst (λ (T : List Placed). g.O.Objects.reached s from (heard s o (past_of T)) z) (sym c.into_trace.ensures.trace)
    (subst (λ (r : List Line). g.O.Objects.reached r from (heard r o (past_of end.trace)) z) script
    (subst (λ (k : Of). g.O.Objects.reached end.script from (heard end.script k (past_of end.trace)) z) objects last))
