-- The trace of a run on threads is one of the script, and the log at its end is as the trace says.
use Rattle.std.proofs.Common.{◌≡◌, ◌⊎◌, ◌≤◌, ◌<◌, ◌+◌, ◌-◌, ℕ, nat_lt, Bool, true, false, List, [], Option, arith, inl, inr, refl, ap, sym, subst, ◌∙◌, if◌then◌else◌}
use Rattle.std.specs.Prelude.{IsTrue, IfOk, Result, Ok, Err}
use Rattle.std.specs.List.{All}
use Rattle.std.proofs.lemmas.Bool.{cases_Bool}
use Rattle.std.proofs.lemmas.Bool.Decides.{nat_tests}
use Rattle.dtx_values.specs.declared.tx_id.TxId.{TxId}
use Rattle.dtx_values.specs.TxIds.{number_of}
use Rattle.dtx_values.specs.declared.entry.Entry.{Entry}
use Rattle.dtx_values.specs.declared.number.ActorNo.{ActorNo}
use Rattle.dtx_values.specs.declared.number.TxNo.{TxNo}
use Rattle.dtx_values.specs.declared.script.Line.{Line}
use Rattle.dtx_model.specs.AtLog.{at_log, is_log_up, is_up_by}
use Rattle.dtx_model.specs.Caused.{IsOwnRun}
use Rattle.dtx_model.specs.Grammar.{OfTransaction, is_made}
use Rattle.dtx_model.specs.Log.{CommitRecord, log_has}
use Rattle.dtx_model.specs.Traces.{Placed, at_context, history}
use Rattle.dtx_model.specs.Words.{past_of}
use Rattle.dtx_model.specs.World.{World}
use Rattle.dtx_values.specs.declared.call.Call.{Call}
use Rattle.coordinator_log.specs.Crash.{AllHold}
use Rattle.coordinator_log.specs.Slots.{open_records}
use Rattle.script_calls.specs.Due.{calls_at}
use Rattle.script_calls.specs.Prefix.{IsPrefix, lines_by}
use Rattle.script_calls.specs.Rows.{are_entered}
use Rattle.script_calls.specs.SeenRow.{SeenRow}
use Rattle.call_order.specs.InOrder.{lines_of}
use Rattle.tx_cells.specs.Cell.{Cell}
use Rattle.tx_cells.specs.LogCell.{AreOwn, IsLogKept, LogCell}
use Rattle.turn_parts.proofs.Records.{found_so}
use Rattle.thread_runs.specs.Contexts.{entries_of}
use Rattle.run_endings.specs.Finished.{AreFinished}
use Rattle.thread_runs.specs.Gathering.{HasContexts, IsCellOf, with_histories, with_log}
use Rattle.thread_runs.specs.Run.{EndsOnThreads}
use Rattle.thread_runs.proofs.ByCell.{Rises, find_cell, rises_transactions, unmade}
use Rattle.thread_runs.proofs.Marked.{marked_there}
use Rattle.thread_runs.proofs.Placing.{contexts_before_log, contexts_kept, histories_before_log, log_kept, log_there}
use Rattle.thread_runs.proofs.Standing.{IsDone, Stands, all_done, found_stands}

-- What is known of a run that ended, and of its trace, newest first.
pub record IsGathered {D : Type 0} (faults : D → ℕ) (sure : Bool) (image : D → List ℕ → Type 0) (s : List Line) (k : ℕ) (honest : Bool) (from : ℕ) (ess : List (List Entry)) (log : LogCell D) (T : List Placed) : Type 0 where
  pub stands : (t : TxNo) → Stands s k honest log (history t.value T) t
  pub contexts : (a : ActorNo) → at_context a.value T ≡ past_of (entries_of a ess)
  pub at_the_log : at_log T ≡ log.past
  pub kept : IsLogKept faults sure image s honest from log

pub is_gathered : {D : Type 0} (faults : D → ℕ) (sure : Bool) (image : D → List ℕ → Type 0) (s : List Line) (k : ℕ) (honest : Bool) (from : ℕ) (ess : List (List Entry)) (cs : List Cell) (log : LogCell D) (start T : List Placed)
    → AreFinished s cs log → All (IsCellOf s k honest) cs → IsLogKept faults sure image s honest from log → HasContexts ess start → T ≡ with_log log.past (with_histories cs start)
    → IsGathered faults sure image s k honest from ess log T
is_gathered {D} faults sure image s k honest from ess cs log start T done cells kept first is =
    record {
      stands = λ t. found_stands s k honest log t cs (history t.value T) (with_histories cs start) done.named (ap (history t.value) is ∙ histories_before_log t.value log.past (with_histories cs start))
          (find_cell (IsDone s k honest log) t.value 1 cs start (subst (Rises 1) (sym done.named) (rises_transactions s)) (all_done s k honest log cs done.entered done.settled done.tied done.followed done.first cells) (first.transactions t.value));
      contexts = λ a. ap (at_context a.value) is ∙ (contexts_before_log a.value log.past (with_histories cs start) ∙ (contexts_kept a.value cs start ∙ first.contexts a));
      at_the_log = ap at_log is ∙ log_there log.past (with_histories cs start) (log_kept cs start ∙ first.log);
      kept = kept;
    }

-- The trace, where its parts were written one after the other: U after the contexts, V after the histories, and W after the log.
pub put_together : (cs : List Cell) (h es : List Entry) (T U V W : List Placed) → T ≡ W → past_of W ≡ with_log (past_of es) (past_of V) → past_of es ≡ h → past_of V ≡ with_histories cs (past_of U) → past_of T ≡ with_log h (with_histories cs (past_of U))
put_together cs h es T U V W same log past histories =
    ap past_of same ∙ (log ∙ (ap (λ (x : List Entry). with_log x (past_of V)) past ∙ ap (λ (X : List Placed). with_log h X) histories))

-- Each actor's calls there are those that its lines make, by the laws of their order.
pub lines_there : {D : Type 0} (s : List Line) (k : ℕ) (honest : Bool) (log : LogCell D) (t : TxNo) (h : List Entry)
    → ((rows : List (SeenRow Call)) (w : World) → IsOwnRun t.value w → IsPrefix s t.value rows w.calls → are_entered rows ≡ true → (a : ActorNo) → lines_by a.value w.past ≡ lines_of (calls_at s a.value t.value))
    → (is_made s (OfTransaction t.value) ≡ false → (a : ℕ) → calls_at s a t.value ≡ []) → Stands s k honest log h t → (a : ActorNo) → lines_by a.value h ≡ lines_of (calls_at s a.value t.value)
lines_there s k honest log t h whole unnamed (inl f) a =
    let c = f.0 in
    let d = f.2 in
    let run = subst (λ (u : TxId). IsOwnRun (number_of u) c.tx.world) f.1 d.cell.run in
    let prefix = subst (λ (u : TxId). IsPrefix s (number_of u) c.rows c.tx.world.calls) f.1 d.cell.kept.in_order in
    ap (lines_by a.value) f.3 ∙ whole c.rows c.tx.world run prefix d.entered a
lines_there s k honest log t h whole unnamed (inr f) a = ap (lines_by a.value) f.1 ∙ ap lines_of (sym (unnamed (unmade s t f.0) a.value))

-- Whether the log is up.
pub up_there : {D : Type 0} (faults : D → ℕ) (sure : Bool) (image : D → List ℕ → Type 0) (s : List Line) (k : ℕ) (honest : Bool) (from : ℕ) (ess : List (List Entry)) (log : LogCell D) (T : List Placed) → IsGathered faults sure image s k honest from ess log T
    → log.log.is_up ≡ is_log_up T
up_there faults sure image s k honest from ess log T g = sym g.kept.up ∙ ap is_up_by (sym g.at_the_log)

-- The log at the end.
pub ends_there : {D : Type 0} (faults : D → ℕ) (sure : Bool) (image : D → List ℕ → Type 0) (s : List Line) (k : ℕ) (honest : Bool) (from : ℕ) (ess : List (List Entry)) (log : LogCell D) (T : List Placed) → IsTrue sure
    → (IsTrue log.log.is_up → AllHold (image log.log.disk) (open_records log.log.slots)) → IsGathered faults sure image s k honest from ess log (past_of T) → EndsOnThreads s (image log.log.disk) T
ends_there faults sure image s k honest from ess log T h held g =
    let is = up_there faults sure image s k honest from ess log (past_of T) g in
    record {
      up = λ said. let up : log.log.is_up ≡ true = is ∙ said in (
        open_records log.log.slots,
        held up,
        λ t. marked_there s k honest log t (history t.value (past_of T)) (g.kept.up ∙ up) up (g.kept.held h up) (g.stands t),
      );
      own = λ c i. let l = g.kept.logs h c i in (l.0, l.1, found_so (AreOwn s) (log_has c) l.0 l.1 (g.kept.imaged h c i));
    }
