use Rattle.std.proofs.Common.{ℕ, List, map, ap, sym, subst, ◌∙◌}
use Rattle.std.specs.Prelude.{IsTrue}
use Rattle.dtx_values.specs.declared.entry.Entry.{Entry}
use Rattle.dtx_values.specs.declared.number.TxNo.{TxNo}
use Rattle.dtx_model.specs.AtLog.{at_log, faults as faults_told}
use Rattle.dtx_model.specs.Caused.{Caused}
use Rattle.dtx_model.specs.Traces.{Placed, history}
use Rattle.dtx_model.specs.Words.{has, past_of}
use Rattle.coordinator_log.specs.Crash.{AllHold}
use Rattle.coordinator_log.specs.Slots.{open_records}
use Rattle.call_order.specs.InOrder.{AreInActorOrder}
use Rattle.script_calls.specs.FirstCalls.{are_first, par_line}
use Rattle.script_calls.specs.Prefix.{lines_by}
use Rattle.tx_cells.specs.LogAnswers.{is_no_log_answer}
use Rattle.thread_runs.proofs.Ended.{ends_there, is_gathered, lines_there, put_together, up_there}
use Rattle.turn_parts.specs.LogEvents.{IsLogHistory}
use Rattle.turn_parts.proofs.Counting.{rise_known, rise_of, rise_told}
use Rattle.thread_runs.proofs.Laying.{laid_all}
use Rattle.thread_runs.proofs.Standing.{all_follow, caused_there, first_there, followed_there, settled_there, tied_there, unfilled_there}
use Rattle.thread_runs.proofs.gathering.gathered.Goals as goal

pub returns-clause-run : goal.returns-clause-run
returns-clause-run g c =
    let s = g.N.Run.script in
    let k : ℕ = g.N.Run.objects in
    let from : ℕ = g.N.Run.faults in
    let image = g.D.Disk.image in
    let ess : List (List Entry) = map (λ e. e.items) c.args.contexts.now in
    let log = c.args.log.now in
    let to : ℕ = g.D.Disk.faults log.log.disk in
    let T : List Placed = past_of c.new.result in
    let is = put_together c.args.states.now log.past c.entries.result.now c.new.result c.write_contexts.new.trace.items c.write_histories.new.trace.items c.write_log.new.trace.items c.new.ensures c.in_ok-write_log.ensures c.entries.ensures c.in_ok-write_histories.ensures in
    let all = is_gathered g.D.Disk.faults g.D.Disk.honest image s k g.N.Run.honest from ess c.args.states.now log (past_of c.write_contexts.new.trace.items) T c.requires.finished c.are_kept.ensures c.is_kept.ensures c.in_ok-write_contexts.ensures is in
    let caused : (t : TxNo) → Caused s k t.value (history t.value T) = λ t. caused_there s k g.N.Run.honest log t (history t.value T) (all.stands t) in
    let ordered : AreInActorOrder s c.new.result =
    c.call_order.ensures.ordered s c.new.result
    (λ t a. lines_there s k g.N.Run.honest log t (history t.value T) (λ rows w. c.entered_calls.ensures.whole s t.value rows w) (λ none. c.entered_calls.ensures.unnamed s t.value c.is_kept.ensures.script.script none) (all.stands t) a)
    (λ a. all.contexts a ∙ c.requires.contexts a) (λ a. ap (lines_by a.value) all.at_the_log ∙ c.entered_calls.ensures.whole_log s log.rows log.past c.is_kept.ensures.in_order c.requires.finished.entered_at_log a) in
    let held : IsTrue g.D.Disk.honest → IsTrue log.log.is_up → AllHold (image log.log.disk) (open_records log.log.slots) =
    λ h. subst (λ l. IsTrue l.is_up → AllHold (image l.disk) (open_records l.slots)) c.log.ensures.same (c.is_up.ensures.images h) in
    record {
      run = record {
        rise = rise_of from to (faults_told (at_log T));
        risen = rise_known from to (faults_told (at_log T));
        ordered = ordered;
        first = λ t. first_there s k g.N.Run.honest log t (history t.value T) (all.stands t);
        first_at_log = ap (are_first (par_line s)) all.at_the_log ∙ c.requires.finished.first_at_log;
        history = record {
          caused = caused;
          wires = λ t. c.crossings.ensures.wires s t.value (history t.value T) (caused t).freely;
          settled = λ t. settled_there s k g.N.Run.honest log t (history t.value T) (all.stands t);
          contexts = λ a. all.contexts a ∙ c.requires.contexts a;
          called = c.call_order.ensures.called s c.new.result ordered;
          at_log = subst (IsLogHistory s) (sym all.at_the_log) c.is_kept.ensures.events;
          faulted = rise_told from to log.log.armed log.past (at_log T) all.at_the_log c.is_kept.ensures.counted;
          followed = all_follow T (λ t. followed_there s k g.N.Run.honest log T t all.at_the_log (all.stands t));
          promotes = λ sound t. c.crossings.ensures.promotes s t.value (history t.value T) c.is_kept.ensures.script.script.named (caused t).freely (sound t);
        };
      };
      tied = λ h t. tied_there s k g.N.Run.honest log t (history t.value T) (sym c.is_kept.ensures.honest_is ∙ h) (all.stands t);
      up = up_there g.D.Disk.faults g.D.Disk.honest image s k g.N.Run.honest from ess log T all;
      ended = λ h. ends_there g.D.Disk.faults g.D.Disk.honest image s k g.N.Run.honest from ess log c.new.result h (held h) all;
      unlike = λ h. ap (has is_no_log_answer) all.at_the_log ∙ c.is_kept.ensures.unlike h;
      unfilled = λ h t. unfilled_there s k g.N.Run.honest log t (history t.value T) (sym c.is_kept.ensures.honest_is ∙ h) (all.stands t);
    }

pub returns-clause-laid : goal.returns-clause-laid
returns-clause-laid g c =
    let log = c.args.log.now in
    let is = put_together c.args.states.now log.past c.entries.result.now c.new.result c.write_contexts.new.trace.items c.write_histories.new.trace.items c.write_log.new.trace.items c.new.ensures c.in_ok-write_log.ensures c.entries.ensures
    c.in_ok-write_histories.ensures in
    laid_all g.N.Run.script c.args.states.now log.past (past_of c.write_contexts.new.trace.items) (past_of c.new.result) c.requires.finished.named is c.in_ok-write_contexts.ensures.laid
