use Rattle.std.proofs.Common.{◌≡◌, ◌≤◌, ◌+◌, ◌-◌, ◌∙◌, ℕ, Option, ap, arith, get_or, is_some, length, refl, set, subst, sym, true}
use Rattle.std.specs.Prelude.{IfSome}
use Rattle.dtx_values.specs.declared.entry.Entry.TheVariants.{Restarted}
use Rattle.dtx_values.specs.TxIds.{first_id, number_of}
use Rattle.dtx_values.specs.declared.tx_id.TxId.{TxId}
use Rattle.dtx_values.specs.declared.number.TxNo.{TxNo}
use Rattle.dtx_model.specs.Caused.{is_begin_sent}
use Rattle.dtx_model.specs.Tied.{tied}
use Rattle.dtx_model.specs.Traces.{placed}
use Rattle.dtx_model.specs.Words.{has, onto, past_of}
use Rattle.dtx_model.specs.World.{core}
use Rattle.coordinator_log.specs.Slots.{open_records}
use Rattle.tx_world.specs.AtLog.{Fits}
use Rattle.tx_world.specs.State.{TxState, is_reached_by}
use Rattle.replay_runs.specs.RunState.{IsRecordKept, RunState, record_in, reopened, state_of}
use Rattle.replay_runs.proofs.ByNumber.{one_where}
use Rattle.replay_runs.proofs.Halting.{IsThrough, is_reopened, reopened_blank, reopened_calls, reopened_past, reopened_trace, through_all, through_here, through_next, through_none}
use Rattle.replay_runs.proofs.Noting.{as_long, grown, trace_noted}
use Rattle.replay_runs.proofs.Numbered.{state_reached}
use Rattle.replay_runs.proofs.Steps.{each_set, step_calls}
use Rattle.replay_runs.proofs.replay.Run.restart_all.Given.{Over}
use Rattle.replay_runs.proofs.replay.Run.restart_all.Goals.{In_ok-coordinator_restarted}
use Rattle.replay_runs.proofs.replay.Run.restart_all.Goals as goal

pub loop-place-init : goal.loop-place-init
loop-place-init g c =
    let log = c.args.log.now in
    record {
      same = record { plans = refl; managers = refl; objects = refl; contexts = refl };
      through = through_none (reopened log) (is_reached_by log.life) (λ t. Restarted (is_some (record_in log.slots t.value))) c.self.inside.worlds.items (past_of c.self.inside.trace.items) c.self.invariant.0;
      kept = λ kept. kept;
      sound = λ h sound. sound;
    }

pub coordinator_restarted-requires-clause-fits : goal.coordinator_restarted-requires-clause-fits
coordinator_restarted-requires-clause-fits g c = λ h.
    let log = c.args.log.now in
    let vs = c.loop-place.self-inside.worlds.items in
    let u = c.unwrap-t.result in
    let x = c.index_mut-world.result.now in
    let value : u.value ≡ c.loop-place.place + 1 = subst (λ (o : Option TxNo). IfSome o (λ z. z.value ≡ c.loop-place.place + 1)) c.unwrap-t.ensures c.new.ensures.value in
    let here : u.value - 1 ≡ c.loop-place.place = omega (arith, value) in
    let within : u.value ≤ length vs = omega (arith, value, c.loop-place-test.true, c.len-place-end.ensures, c.loop-place.invariant.through.long) in
    let at : state_of u vs ≡ x = state_reached u vs x within (subst (λ (i : ℕ). x ≡ get_or vs i x) (sym here) c.index_mut-world.ensures.value) in
    let before : state_of u c.args.self.now.worlds ≡ x =
    subst (λ (r : RunState). state_of u r.worlds ≡ x) c.self.view_is
    (sym (through_here (reopened log) (is_reached_by log.life) (λ t. Restarted (is_some (record_in log.slots t.value))) c.self.inside.worlds.items vs (past_of c.self.inside.trace.items)
    (past_of c.loop-place.self-inside.trace.items) c.loop-place.place u value c.loop-place.invariant.through) ∙ at) in
    subst (λ (z : TxState). Fits z (open_records log.slots)) before (c.requires.fits h u)

-- the transaction stands at the place that the loop has come to
number : (g : Over) (c : In_ok-coordinator_restarted g) → c.unwrap-t.result.value ≡ c.loop-place.place + 1
number g c = subst (λ (o : Option TxNo). IfSome o (λ x. x.value ≡ c.loop-place.place + 1)) c.unwrap-t.ensures c.new.ensures.value

place : (g : Over) (c : In_ok-coordinator_restarted g) → c.unwrap-t.result.value - 1 ≡ c.loop-place.place
place g c = let value = number g c in omega (arith, value)

made : (g : Over) (c : In_ok-coordinator_restarted g) → c.unwrap-t.result.value ≤ length c.loop-place.self-inside.worlds.items
made g c = let value = number g c in omega (arith, value, c.loop-place-test.true, c.len-place-end.ensures, c.loop-place.invariant.through.long)

there : (g : Over) (c : In_ok-coordinator_restarted g) → c.index_mut-world.result.now ≡ get_or c.loop-place.self-inside.worlds.items (c.unwrap-t.result.value - 1) c.index_mut-world.result.now
there g c = subst (λ (i : ℕ). c.index_mut-world.result.now ≡ get_or c.loop-place.self-inside.worlds.items i c.index_mut-world.result.now) (sym (place g c)) c.index_mut-world.ensures.value

-- it is as it was before
reached : (g : Over) (c : In_ok-coordinator_restarted g) → state_of c.unwrap-t.result c.loop-place.self-inside.worlds.items ≡ c.index_mut-world.result.now
reached g c = state_reached c.unwrap-t.result c.loop-place.self-inside.worlds.items c.index_mut-world.result.now (made g c) (there g c)

was : (g : Over) (c : In_ok-coordinator_restarted g) → state_of c.unwrap-t.result c.args.self.now.worlds ≡ c.index_mut-world.result.now
was g c =
    let log = c.args.log.now in
    subst (λ (r : RunState). state_of c.unwrap-t.result r.worlds ≡ c.index_mut-world.result.now) c.self.view_is
    (sym (through_here (reopened log) (is_reached_by log.life) (λ t. Restarted (is_some (record_in log.slots t.value))) c.self.inside.worlds.items c.loop-place.self-inside.worlds.items (past_of c.self.inside.trace.items)
    (past_of c.loop-place.self-inside.trace.items) c.loop-place.place c.unwrap-t.result (number g c) c.loop-place.invariant.through) ∙ reached g c)

-- and is what an opening makes of it
is_told : (g : Over) (c : In_ok-coordinator_restarted g) → c.coordinator_restarted.new.self ≡ reopened c.args.log.now c.index_mut-world.result.now
is_told g c =
    is_reopened c.args.log.now c.index_mut-world.result.now c.coordinator_restarted.new.self c.coordinator_restarted.ensures.transaction c.in_ok-coordinator_restarted.ensures.reached
    c.coordinator_restarted.ensures.unreached

past : (g : Over) (c : In_ok-coordinator_restarted g) → c.coordinator_restarted.new.self.world.past
    ≡ onto c.index_mut-world.result.now.world.past (one_where (is_reached_by c.args.log.now.life c.index_mut-world.result.now) (Restarted (is_some (record_in c.args.log.now.slots c.unwrap-t.result.value))))
past g c =
    let log = c.args.log.now in
    let x = c.index_mut-world.result.now in
    let same : x.transaction ≡ first_id c.unwrap-t.result = sym (ap (λ (z : TxState). z.transaction) (reached g c)) ∙ c.loop-place.invariant.through.numbered.numbered c.unwrap-t.result in
    ap (λ (z : TxState). z.world.past) (is_told g c)
    ∙ (reopened_past log x (subst (λ (z : TxState). has is_begin_sent z.world.past ≡ true → (core z.world).stopped ≡ true) (was g c) (c.requires.stopped c.unwrap-t.result))
    ∙ ap (λ (u : TxId). onto x.world.past (one_where (is_reached_by log.life x) (Restarted (is_some (record_in log.slots (number_of u)))))) same)

calls : (g : Over) (c : In_ok-coordinator_restarted g) → c.coordinator_restarted.new.self.world.calls ≡ c.index_mut-world.result.now.world.calls
calls g c = ap (λ (z : TxState). z.world.calls) (is_told g c) ∙ reopened_calls c.args.log.now c.index_mut-world.result.now

pub note-requires : goal.note-requires
note-requires g c =
    let b = (goal.at.note-requires g c).In_ok-coordinator_restarted in
    let x = c.index_mut-world.result.now in
    let found = Restarted (is_some (record_in c.args.log.now.slots c.unwrap-t.result.value)) in
    subst (λ (n : ℕ). n ≤ length c.coordinator_restarted.new.self.world.past) (sym c.len-from.ensures)
    (grown c.history.result.now.items x.world.past c.coordinator_restarted.new.self.world.past (one_where (is_reached_by c.args.log.now.life x) found) c.history.ensures (past g b))

pub returns-in_err-note-clause-calls : goal.returns-in_err-note-clause-calls
returns-in_err-note-clause-calls g c =
    let b = (goal.at.returns-in_err-note-clause-calls g c).In_ok-coordinator_restarted in
    let vs = c.loop-place.self-inside.worlds.items in
    let y = c.coordinator_restarted.new.self in
    λ v.
    subst (λ (i : ℕ). (state_of v (set vs i y)).world.calls ≡ (state_of v vs).world.calls) (place g b)
    (step_calls vs c.unwrap-t.result y (made g b) (calls g b ∙ sym (ap (λ (z : TxState). z.world.calls) (reached g b))) v)
    ∙ (c.loop-place.invariant.through.calls v ∙ ap (λ (r : RunState). (state_of v r.worlds).world.calls) c.self.view_is)

pub loop-place-preserved : goal.loop-place-preserved
loop-place-preserved g c =
    let b = (goal.at.loop-place-preserved g c).In_ok-coordinator_restarted in
    let x = c.index_mut-world.result.now in
    let y = c.coordinator_restarted.new.self in
    let u = c.unwrap-t.result in
    let log = c.args.log.now in
    let ws = c.self.inside.worlds.items in
    let vs = c.loop-place.self-inside.worlds.items in
    let start = past_of c.self.inside.trace.items in
    let before = c.loop-place.self-inside.trace.items in
    let found = Restarted (is_some (record_in log.slots u.value)) in
    let es = one_where (is_reached_by log.life x) found in
    let noted = c.in_ok-note.ensures x.world.past es (sym (as_long c.history.result.now.items x.world.past c.history.ensures) ∙ sym c.len-from.ensures) (past g b) in
    let written : past_of c.note.new.trace.items ≡ onto (past_of before) (placed u es) = ap past_of noted ∙ trace_noted before u es in
    let record_kept : IsRecordKept y = record { own = c.is_own_run.ensures.run; once = c.is_own_run.ensures.once; ours = c.is_own_run.ensures.ours; tried = c.is_own_run.ensures.tried } in
    record {
      same = c.loop-place.invariant.same;
      through =
          subst (λ (i : ℕ). IsThrough (reopened log) (is_reached_by log.life) (λ t. Restarted (is_some (record_in log.slots t.value))) ws start (c.loop-place.place + 1) (set vs i y) (past_of c.note.new.trace.items)) (place g b)
          (through_next (reopened log) (is_reached_by log.life) (λ t. Restarted (is_some (record_in log.slots t.value))) ws vs start (past_of before) (past_of c.note.new.trace.items) c.loop-place.place u x y (number g b)
          c.loop-place.invariant.through (made g b) (there g b) (is_told g b) c.coordinator_restarted.ensures.transaction (calls g b) written);
      kept = λ all.
          subst (λ (i : ℕ). (t : TxNo) → IsRecordKept (state_of t (set vs i y))) (place g b)
          (each_set IsRecordKept vs u y (made g b) record_kept (c.loop-place.invariant.kept all));
      sound = λ h all.
          let before_it = c.loop-place.invariant.sound h all in
          subst (λ (i : ℕ). (t : TxNo) → tied (state_of t (set vs i y)).world.past ≡ true) (place g b)
          (each_set (λ z. tied z.world.past ≡ true) vs u y (made g b) (c.coordinator_restarted.ensures.tied h (subst (λ (z : TxState). tied z.world.past ≡ true) (reached g b) (before_it u))) before_it);
    }

pub returns-clause-worlds : goal.returns-clause-worlds
returns-clause-worlds g c =
    let log = c.args.log.now in
    let vs = c.loop-place.self-inside.worlds.items in
    subst (λ (r : RunState). (t : TxNo) → state_of t vs ≡ reopened log (state_of t r.worlds)) c.self.view_is
    (through_all (reopened log) (is_reached_by log.life) (λ t. Restarted (is_some (record_in log.slots t.value))) c.self.inside.worlds.items vs (past_of c.self.inside.trace.items) (past_of c.loop-place.self-inside.trace.items)
    c.loop-place.place c.loop-place.invariant.through (omega (arith, c.loop-place-test.false, c.len-place-end.ensures)) (reopened_blank log))

pub returns-clause-trace : goal.returns-clause-trace
returns-clause-trace g c =
    let log = c.args.log.now in
    let vs = c.loop-place.self-inside.worlds.items in
    let new = past_of c.loop-place.self-inside.trace.items in
    let n = c.loop-place.place in
    let r = c.args.self.now in
    let through =
    subst (λ (q : RunState). IsThrough (reopened log) (is_reached_by log.life) (λ t. Restarted (is_some (record_in log.slots t.value))) q.worlds (past_of q.trace) n vs new) c.self.view_is c.loop-place.invariant.through in
    let all = subst (λ (q : RunState). length q.worlds ≤ n) c.self.view_is (omega (arith, c.loop-place-test.false, c.len-place-end.ensures)) in
    reopened_trace r.script r.objects log r.worlds vs (past_of r.trace) new n through all c.requires.tied c.requires.lives

pub returns-clause-kept : goal.returns-clause-kept
returns-clause-kept g c =
    subst (λ (r : RunState). ((t : TxNo) → IsRecordKept (state_of t r.worlds)) → (t : TxNo) → IsRecordKept (state_of t c.loop-place.self-inside.worlds.items)) c.self.view_is c.loop-place.invariant.kept

pub returns-clause-sound : goal.returns-clause-sound
returns-clause-sound g c =
    λ h.
    subst (λ (r : RunState). ((t : TxNo) → tied (state_of t r.worlds).world.past ≡ true) → (t : TxNo) → tied (state_of t c.loop-place.self-inside.worlds.items).world.past ≡ true) c.self.view_is
    (c.loop-place.invariant.sound h)
