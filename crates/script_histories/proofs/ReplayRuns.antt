-- A step of a replay is one of its transaction's world, of the calls that were entered, those of scope lines too.
use Rattle.std.proofs.Common.{◌≡◌, true, List, refl, ℕ, [], ◌∷◌, ap, sym, ◌∙◌}
use Rattle.dtx_values.specs.declared.call.Call.{Call}
use Rattle.dtx_values.specs.declared.entry.Entry.{Entry}
use Rattle.dtx_values.specs.declared.entry.Entry.TheVariants.{Called}
use Rattle.dtx_values.specs.declared.message.Conn.{Conn}
use Rattle.dtx_values.specs.declared.message.Dir.{Dir}
use Rattle.dtx_values.specs.declared.message.Message.{Message}
use Rattle.dtx_values.specs.declared.number.TxNo.{TxNo}
use Rattle.dtx_values.specs.declared.script.Line.{Line}
use Rattle.dtx_model.specs.Words.{each, onto}
use Rattle.dtx_model.specs.Coordinated.{may_log}
use Rattle.dtx_model.specs.declared.waiting.EnteredCall.{EnteredCall}
use Rattle.dtx_model.specs.Acts.{act_entries}
use Rattle.dtx_model.specs.Replies.{reply_entries}
use Rattle.dtx_model.specs.Facts.{facts_if, has_facts}
use Rattle.dtx_model.specs.Wires.{in_transit}
use Rattle.dtx_model.specs.Traces.{Placed, history}
use Rattle.dtx_model.specs.World.{World, core, half, answer_at, facts_at}
use Rattle.dtx_model.specs.Steps.{delivered, ended_at, got_by, Step, Calls, Replies, Acts, Coordinates, Delivers, Stops, Restarts, block_at, coordinates, restarted, StepName, ReplyOf, LocalAct, CoordinatorAct, Delivery, entered, pending, after}
use Rattle.dtx_model.specs.Caused.{IsNamed, IsCallOf, IsRun, MayCome, FreelyCaused}
use Rattle.dtx_model.specs.Replay.{world_at, block_in}
use Rattle.dtx_model.proofs.Histories.{history-same}
use Rattle.dtx_model.proofs.Quiet.{Quiet, is_quiet, q_ended_at, q_got_by, q_act, q_appended, q_freed, q_if, q_reply, q_restarted, q_called}
use Rattle.history_table.proofs.Scans.{each_more}
use Rattle.history_table.proofs.Tests.{eq_self}
use Rattle.script_histories.proofs.Pending.{is_not_called, is_no_call}
use Rattle.script_histories.proofs.ReplayTurns.{world_with, after_block}
use Rattle.script_histories.specs.LineCalls.{AreCalls}
use Rattle.script_histories.proofs.ScriptCalls.{ran_calls}
use Rattle.script_histories.proofs.ReplaySame.{pending_same, block_same}

-- Blocks of steps that aren't calls have no call.
quiet_not_called : (es : List Entry) → Quiet es → each is_not_called es ≡ true
quiet_not_called es q = each_more is_quiet is_not_called one es q.proof
  where
    one : (x : Entry) → is_quiet x ≡ true → is_not_called x ≡ true
    one (Called n a y) k = absurd cc
    one _ k = refl

delivered_not_called : (t : ℕ) (w : World) (c : Conn) (d : Dir) (ms : List Message) → each is_not_called (delivered t w c d ms) ≡ true
delivered_not_called t w c d [] = quiet_not_called (ended_at w c d) (q_ended_at w c d)
delivered_not_called t w c d (m ∷ ms) = quiet_not_called (got_by t w c d m) (q_got_by t w c d m)

pub block_not_called : (t : ℕ) (w : World) (m : Step) → is_no_call m ≡ true → each is_not_called (block_at t w m) ≡ true
unfolding block_at
block_not_called t w (Calls n a c k) p = absurd cc
block_not_called t w (Replies e r) p = quiet_not_called (reply_entries (half w) e r) (q_reply (half w) e r)
block_not_called t w Acts p = quiet_not_called (act_entries (half w)) (q_act (half w))
block_not_called t w (Coordinates x) p = quiet_not_called (coordinates (core w) x) (q_if (may_log (core w)) (q_appended (core w) x) (q_freed x))
block_not_called t w (Delivers c d) p = delivered_not_called t w c d (in_transit c d w.past)
block_not_called t w Stops p = refl
block_not_called t w (Restarts found) p = quiet_not_called (restarted (core w).stopped found) (q_restarted (core w).stopped found)

-- and so have the facts of a call
pub facts_not_called : (t : ℕ) (w : World) (c : Call) (k : ℕ) → each is_not_called (facts_if (has_facts (answer_at t w c k)) (facts_at t w c (answer_at t w c k))) ≡ true
facts_not_called t w c k = quiet_not_called (facts_if (has_facts (answer_at t w c k)) (facts_at t w c (answer_at t w c k))) (q_called t w c (answer_at t w c k))

-- a step that has a name is no call, and enters none
pub named_no_call : (w : World) (n : StepName) (m : Step) → IsNamed w n m → is_no_call m ≡ true
named_no_call w (ReplyOf e) m (r, note, due, fit, same) = ap is_no_call same
named_no_call w LocalAct m same = ap is_no_call same
named_no_call w CoordinatorAct m (a, may, same) = ap is_no_call same
named_no_call w (Delivery c d) m same = ap is_no_call same

pub no_call_entered : (ks : List EnteredCall) (m : Step) → is_no_call m ≡ true → entered m ks ≡ ks
no_call_entered ks (Calls n a c k) q = absurd cc
no_call_entered ks _ q = refl

-- the world of these calls is run
abbrev pub IsRunWith : List Line → List EnteredCall → TxNo → List Placed → Type 0
IsRunWith s ks t T = IsRun (IsCallOf s t.value) t.value (world_with ks t T)

-- its calls are those of its history
pub run_calls : (s : List Line) (ks : List EnteredCall) (t : TxNo) (T : List Placed) → IsRunWith s ks t T → AreCalls s t.value ks (history t.value T)
run_calls s ks t T r = ran_calls s t.value r.0 (world_with ks t T) r.1

-- what is pending in a world that is run is pending by the script
pub pending_script : (s : List Line) (ks : List EnteredCall) (t : TxNo) (T : List Placed) → IsRunWith s ks t T → pending (world_with ks t T) ≡ pending (world_at s t T)
pending_script s ks t T r = pending_same s t.value ks (history t.value T) (run_calls s ks t T r)

-- the world after a step
pub after_same : (s : List Line) (ks : List EnteredCall) (t : TxNo) (m : Step) (T : List Placed) → IsRunWith s ks t T → world_with (entered m ks) t (after_block s t m T) ≡ after t.value (world_with ks t T) m
unfolding after
after_same s ks t m T r =
    let h = history t.value T in
    ap (λ past. record { calls = entered m ks; past = past })
    (history-same t.value t T (block_in s t m T) (eq_self t.value) ∙ ap (onto h) (sym (block_same s t.value ks h m (run_calls s ks t T r))))

-- a step that may come keeps the world run
pub run_step : (s : List Line) (ks : List EnteredCall) (t : TxNo) (m : Step) (T : List Placed) → IsRunWith s ks t T → MayCome (IsCallOf s t.value) t.value (world_with ks t T) m
    → IsRunWith s (entered m ks) t (after_block s t m T)
run_step s ks t m T r q = (m ∷ r.0, (world_with ks t T, r.1, q, after_same s ks t m T r))

-- a name says the same in two worlds of one past
pub named_same : (ks js : List EnteredCall) (h : List Entry) (n : StepName) (m : Step) → IsNamed (record { calls = ks; past = h }) n m → IsNamed (record { calls = js; past = h }) n m
named_same ks js h (ReplyOf e) m k = k
named_same ks js h LocalAct m k = k
named_same ks js h CoordinatorAct m k = k
named_same ks js h (Delivery c d) m k = k

-- each transaction's history is freely caused
abbrev pub AllFree : List Line → List Placed → Type 0
AllFree s T = (u : TxNo) → FreelyCaused (IsCallOf s u.value) u.value (history u.value T)
