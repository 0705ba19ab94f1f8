use Rattle.std.proofs.Common.{◌≡◌, ◌≤◌, ◌+◌, ◌-◌, ◌∙◌, ℕ, Option, ap, arith, get_or, length, refl, set, subst, sym}
use Rattle.std.specs.Prelude.{IfSome}
use Rattle.dtx_values.specs.declared.entry.Entry.TheVariants.{Stopped}
use Rattle.dtx_values.specs.TxIds.{number_of}
use Rattle.dtx_values.specs.declared.number.TxNo.{TxNo}
use Rattle.dtx_model.specs.Traces.{placed}
use Rattle.dtx_model.specs.Words.{onto, past_of}
use Rattle.dtx_model.specs.World.{World}
use Rattle.tx_world.specs.State.{is_hit_by}
use Rattle.replay_runs.specs.RunState.{IsRecordKept, RunState, halted, state_of}
use Rattle.replay_runs.proofs.ByNumber.{one_where}
use Rattle.replay_runs.proofs.Halting.{IsThrough, halted_blank, halted_trace, hit_calls, hit_past, is_halted, through_all, through_next, through_none}
use Rattle.replay_runs.proofs.Noting.{as_long, grown, trace_noted}
use Rattle.replay_runs.proofs.Numbered.{state_reached}
use Rattle.replay_runs.proofs.Steps.{each_set, step_calls}
use Rattle.replay_runs.proofs.replay.Run.stop_all.Goals.{In_ok-coordinator_stopped}
use Rattle.replay_runs.proofs.replay.Run.stop_all.Goals as goal

pub loop-place-init : goal.loop-place-init
loop-place-init c =
    record {
      same = record { plans = refl; managers = refl; objects = refl; contexts = refl };
      through = through_none (halted c.args.life) (is_hit_by c.args.life) (λ t. Stopped) c.self.inside.worlds.items (past_of c.self.inside.trace.items) c.self.invariant.0;
      kept = λ kept. kept;
    }

pub note-requires : goal.note-requires
note-requires c =
    let x = c.index_mut-world.result.now in
    let hit = is_hit_by c.args.life x in
    subst (λ (n : ℕ). n ≤ length c.coordinator_stopped.new.self.world.past) (sym c.len-from.ensures)
    (grown c.history.result.now.items x.world.past c.coordinator_stopped.new.self.world.past (one_where hit Stopped) c.history.ensures
    (ap (λ (w : World). w.past) c.in_ok-coordinator_stopped.ensures.world ∙ hit_past hit (number_of x.transaction) x.world))

-- the transaction stands at the place that the loop has come to
number : (c : In_ok-coordinator_stopped) → c.unwrap-t.result.value ≡ c.loop-place.place + 1
number c = subst (λ (o : Option TxNo). IfSome o (λ x. x.value ≡ c.loop-place.place + 1)) c.unwrap-t.ensures c.new.ensures.value

place : (c : In_ok-coordinator_stopped) → c.unwrap-t.result.value - 1 ≡ c.loop-place.place
place c = let value = number c in omega (arith, value)

made : (c : In_ok-coordinator_stopped) → c.unwrap-t.result.value ≤ length c.loop-place.self-inside.worlds.items
made c = let value = number c in omega (arith, value, c.loop-place-test.true, c.len-place-end.ensures, c.loop-place.invariant.through.long)

there : (c : In_ok-coordinator_stopped) → c.index_mut-world.result.now ≡ get_or c.loop-place.self-inside.worlds.items (c.unwrap-t.result.value - 1) c.index_mut-world.result.now
there c = subst (λ (i : ℕ). c.index_mut-world.result.now ≡ get_or c.loop-place.self-inside.worlds.items i c.index_mut-world.result.now) (sym (place c)) c.index_mut-world.ensures.value

calls : (c : In_ok-coordinator_stopped) → c.coordinator_stopped.new.self.world.calls ≡ c.index_mut-world.result.now.world.calls
calls c =
    let x = c.index_mut-world.result.now in
    ap (λ (w : World). w.calls) c.in_ok-coordinator_stopped.ensures.world ∙ hit_calls (is_hit_by c.args.life x) (number_of x.transaction) x.world

pub returns-in_err-note-clause-calls : goal.returns-in_err-note-clause-calls
returns-in_err-note-clause-calls c =
    let b = (goal.at.returns-in_err-note-clause-calls c).In_ok-coordinator_stopped in
    let vs = c.loop-place.self-inside.worlds.items in
    let y = c.coordinator_stopped.new.self in
    let at = state_reached c.unwrap-t.result vs c.index_mut-world.result.now (made b) (there b) in
    λ v.
    subst (λ (i : ℕ). (state_of v (set vs i y)).world.calls ≡ (state_of v vs).world.calls) (place b)
    (step_calls vs c.unwrap-t.result y (made b) (calls b ∙ sym (ap (λ z. z.world.calls) at)) v)
    ∙ (c.loop-place.invariant.through.calls v ∙ ap (λ (r : RunState). (state_of v r.worlds).world.calls) c.self.view_is)

pub loop-place-preserved : goal.loop-place-preserved
loop-place-preserved c =
    let b = (goal.at.loop-place-preserved c).In_ok-coordinator_stopped in
    let x = c.index_mut-world.result.now in
    let y = c.coordinator_stopped.new.self in
    let u = c.unwrap-t.result in
    let ws = c.self.inside.worlds.items in
    let vs = c.loop-place.self-inside.worlds.items in
    let start = past_of c.self.inside.trace.items in
    let before = c.loop-place.self-inside.trace.items in
    let life = c.args.life in
    let hit = is_hit_by life x in
    let world = c.in_ok-coordinator_stopped.ensures.world in
    let number_same = c.coordinator_stopped.ensures.transaction in
    let kept = c.coordinator_stopped.ensures.kept in
    let past : y.world.past ≡ onto x.world.past (one_where hit Stopped) = ap (λ (w : World). w.past) world ∙ hit_past hit (number_of x.transaction) x.world in
    let noted = c.in_ok-note.ensures x.world.past (one_where hit Stopped) (sym (as_long c.history.result.now.items x.world.past c.history.ensures) ∙ sym c.len-from.ensures) past in
    let written : past_of c.note.new.trace.items ≡ onto (past_of before) (placed u (one_where hit Stopped)) = ap past_of noted ∙ trace_noted before u (one_where hit Stopped) in
    let record_kept : IsRecordKept y = record { own = c.is_own_run.ensures.run; once = c.is_own_run.ensures.once; ours = c.is_own_run.ensures.ours; tried = c.is_own_run.ensures.tried } in
    record {
      same = c.loop-place.invariant.same;
      through =
          subst (λ (i : ℕ). IsThrough (halted life) (is_hit_by life) (λ t. Stopped) ws start (c.loop-place.place + 1) (set vs i y) (past_of c.note.new.trace.items)) (place b)
          (through_next (halted life) (is_hit_by life) (λ t. Stopped) ws vs start (past_of before) (past_of c.note.new.trace.items) c.loop-place.place u x y (number b) c.loop-place.invariant.through (made b)
          (there b) (is_halted life x y number_same world kept.0 kept.1 kept.2) number_same (calls b) written);
      kept = λ all.
          subst (λ (i : ℕ). (t : TxNo) → IsRecordKept (state_of t (set vs i y))) (place b)
          (each_set IsRecordKept vs u y (made b) record_kept (c.loop-place.invariant.kept all));
    }

pub returns-clause-worlds : goal.returns-clause-worlds
returns-clause-worlds c =
    let ws = c.self.inside.worlds.items in
    let vs = c.loop-place.self-inside.worlds.items in
    let life = c.args.life in
    subst (λ (r : RunState). (t : TxNo) → state_of t vs ≡ halted life (state_of t r.worlds)) c.self.view_is
    (through_all (halted life) (is_hit_by life) (λ t. Stopped) ws vs (past_of c.self.inside.trace.items) (past_of c.loop-place.self-inside.trace.items) c.loop-place.place c.loop-place.invariant.through
    (omega (arith, c.loop-place-test.false, c.len-place-end.ensures)) (halted_blank life))

pub returns-clause-trace : goal.returns-clause-trace
returns-clause-trace c =
    let vs = c.loop-place.self-inside.worlds.items in
    let new = past_of c.loop-place.self-inside.trace.items in
    let life = c.args.life in
    let n = c.loop-place.place in
    let r = c.args.self.now in
    let through = subst (λ (q : RunState). IsThrough (halted life) (is_hit_by life) (λ t. Stopped) q.worlds (past_of q.trace) n vs new) c.self.view_is c.loop-place.invariant.through in
    let all = subst (λ (q : RunState). length q.worlds ≤ n) c.self.view_is (omega (arith, c.loop-place-test.false, c.len-place-end.ensures)) in
    halted_trace r.script r.objects life r.worlds vs (past_of r.trace) new n through all c.requires.tied c.requires.lives

pub returns-clause-kept : goal.returns-clause-kept
returns-clause-kept c =
    subst (λ (r : RunState). ((t : TxNo) → IsRecordKept (state_of t r.worlds)) → (t : TxNo) → IsRecordKept (state_of t c.loop-place.self-inside.worlds.items)) c.self.view_is c.loop-place.invariant.kept
