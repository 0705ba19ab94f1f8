use Rattle.std.proofs.Common.{◌≡◌, ◌+◌, ◌∷◌, None, Some, List, arith, ap, sym, subst, ◌∙◌}
use Rattle.std.proofs.lemmas.Result.{on_ok_weaker}
use Rattle.dtx_model.specs.Calls.{call_of}
use Rattle.dtx_model.specs.Words.{past_of}
use Rattle.script_histories.proofs.Replays.{own_call_of}
use Rattle.scope_context.specs.Standing.{Standing}
use Rattle.replay_runs.specs.RunState.{IsBelow, RunState, state_of}
use Rattle.script_calls.specs.Scoped.{AreOpen}
use Rattle.replay_runs.proofs.Entering.{below_next}
use Rattle.replay_runs.proofs.Going.{below_same, goes_same, hears_none, on_ok_both, stays_same}
use Rattle.script_calls.proofs.Openings.{no_scope_call, open_same}
use Rattle.replay_runs.proofs.RunningLines.{log_no_scope, other_off, own_line, restart_line, scope_line, stop_line}
use Rattle.replay_runs.proofs.Replying.{heard_restart}
use Rattle.heard_notes.specs.Heard.{heard}
use Rattle.replay_runs.proofs.replay.Run.line.Goals as goal
use Rattle.dtx_model.specs.AtLog.{is_log_line}

pub own_call-requires-clause-given : goal.own_call-requires-clause-given
own_call-requires-clause-given g c =
    let b = c.args.l.now.body in
    let s = c.args.self.now.script in
    let gives : call_of s b ≡ Some (c.in-Some.t, c.in-Some.c) = ap (λ (r : RunState). call_of r.script b) (sym c.self.view_is) ∙ sym c.call_of.ensures ∙ c.in-Some.is in
    own_call_of s c.args.l.now c.args.n c.in-Some.t c.in-Some.c c.requires.stands gives

pub scope-requires-clause-no_call : goal.scope-requires-clause-no_call
scope-requires-clause-no_call g c =
    let b = c.args.l.now.body in
    ap (λ (r : RunState). call_of r.script b) (sym c.self.view_is) ∙ sym c.call_of.ensures ∙ c.in-None.is

pub returns-in_ok-arm-in-Stop-clause-entered : goal.returns-in_ok-arm-in-Stop-clause-entered
returns-in_ok-arm-in-Stop-clause-entered g c = λ t.
    subst (λ ws. IsBelow (c.args.n + 1) (state_of t ws)) (sym c.arm.ensures.worlds) (below_next c.args.n (state_of t c.args.self.now.worlds) (c.requires.below t))

pub returns-in_ok-arm-in-Stop-clause-done : goal.returns-in_ok-arm-in-Stop-clause-done
returns-in_ok-arm-in-Stop-clause-done g c = λ before number is ties.
    stop_line c.args.self.now.script c.args.l.now before c.args.n c.in-Stop.k c.in-Stop.image (past_of c.args.self.now.trace) (past_of c.arm.new.self.trace) c.in-Stop.is number c.in_ok-arm-in-Stop.ensures.done

pub returns-in_ok-arm-in-Stop-clause-scopes : goal.returns-in_ok-arm-in-Stop-clause-scopes
returns-in_ok-arm-in-Stop-clause-scopes g c = λ before ties.
    subst (λ (cs : List Standing). AreOpen cs (c.args.l.now ∷ before)) (sym c.arm.ensures.contexts)
    (open_same c.args.self.now.contexts before c.args.l.now (λ xs. log_no_scope c.args.l.now.body xs (ap is_log_line c.in-Stop.is)) ties)

pub returns-in-Restart-clause-entered : goal.returns-in-Restart-clause-entered
returns-in-Restart-clause-entered g c =
    on_ok_weaker c.restart.result
    (λ held t. below_next c.args.n (state_of t c.restart.new.self.worlds) (below_same c.args.n c.args.self.now.worlds c.restart.new.self.worlds c.restart.ensures.calls c.requires.below t)) c.restart.ensures.runs

pub returns-in-Restart-clause-done : goal.returns-in-Restart-clause-done
returns-in-Restart-clause-done g c =
    on_ok_weaker c.restart.result
    (λ did before number is ties. restart_line c.args.self.now.script c.args.l.now before c.args.n (past_of c.args.self.now.trace) (past_of c.restart.new.self.trace) c.in-Restart.is number did) c.restart.ensures.done

pub returns-in-Restart-clause-scopes : goal.returns-in-Restart-clause-scopes
returns-in-Restart-clause-scopes g c =
    on_ok_weaker c.restart.result
    (λ held before ties.
    subst (λ (cs : List Standing). AreOpen cs (c.args.l.now ∷ before)) (sym c.restart.ensures.contexts)
    (open_same c.args.self.now.contexts before c.args.l.now (λ xs. log_no_scope c.args.l.now.body xs (ap is_log_line c.in-Restart.is)) ties))
    c.restart.ensures.runs

pub returns-in-Some-clause-life : goal.returns-in-Some-clause-life
returns-in-Some-clause-life g c = let same = c.own_call.ensures.stays.life in omega (arith, same)

pub returns-in-Some-clause-done : goal.returns-in-Some-clause-done
returns-in-Some-clause-done g c =
    let l = c.args.l.now in
    let s = c.args.self.now.script in
    let gives : call_of s l.body ≡ Some (c.in-Some.t, c.in-Some.c) = ap (λ (r : RunState). call_of r.script l.body) (sym c.self.view_is) ∙ sym c.call_of.ensures ∙ c.in-Some.is in
    on_ok_weaker c.own_call.result
    (λ ran before number is ties. own_line s l before c.args.n c.in-Some.t c.in-Some.c (past_of c.args.self.now.trace) (past_of c.own_call.new.self.trace) gives number ran) c.own_call.ensures.done

pub returns-in-Some-clause-scopes : goal.returns-in-Some-clause-scopes
returns-in-Some-clause-scopes g c =
    let l = c.args.l.now in
    let s = c.args.self.now.script in
    let gives : call_of s l.body ≡ Some (c.in-Some.t, c.in-Some.c) = ap (λ (r : RunState). call_of r.script l.body) (sym c.self.view_is) ∙ sym c.call_of.ensures ∙ c.in-Some.is in
    on_ok_weaker c.own_call.result
    (λ held before ties. subst (λ (cs : List Standing). AreOpen cs (l ∷ before)) (sym c.own_call.ensures.contexts)
    (open_same c.args.self.now.contexts before l (λ xs. no_scope_call s l.body (c.in-Some.t, c.in-Some.c) xs gives) ties))
    c.own_call.ensures.runs

pub returns-in-None-clause-log : goal.returns-in-None-clause-log
returns-in-None-clause-log g c = goes_same g.D.Disk.faults g.D.Disk.honest g.D.Disk.image c.args.log.now

pub returns-in-None-clause-stays : goal.returns-in-None-clause-stays
returns-in-None-clause-stays g c = λ off. stays_same g.D.Disk.faults c.args.log.now

pub returns-in-None-clause-done : goal.returns-in-None-clause-done
returns-in-None-clause-done g c =
    let l = c.args.l.now in
    let s = c.args.self.now.script in
    let none : call_of s l.body ≡ None = ap (λ (r : RunState). call_of r.script l.body) (sym c.self.view_is) ∙ sym c.call_of.ensures ∙ c.in-None.is in
    on_ok_weaker c.scope.result
    (λ did before number is ties.
    scope_line s l before c.args.n c.args.self.now.contexts (past_of c.args.self.now.trace) (past_of c.scope.new.self.trace) (other_off l.body c.in_default.not-Stop c.in_default.not-Restart) none number ties did)
    c.scope.ensures.done

-- An object hears nothing of what is done at the log.
pub returns-in_ok-arm-in-Stop-clause-heard : goal.returns-in_ok-arm-in-Stop-clause-heard
returns-in_ok-arm-in-Stop-clause-heard g c =
    let r = c.args.self.now in
    let did = c.in_ok-arm-in-Stop.ensures in
    hears_none g.O.Objects.is_for g.O.Objects.reached r c.arm.new.self c.args.objects.now did.runs.script did.runs.objects c.requires.made (ap (heard r.script r.objects) did.done)

pub returns-in-Restart-clause-heard : goal.returns-in-Restart-clause-heard
returns-in-Restart-clause-heard g c =
    let r = c.args.self.now in
    let q = c.restart.new.self in
    on_ok_both c.restart.result
    (λ runs did.
    hears_none g.O.Objects.is_for g.O.Objects.reached r q c.args.objects.now runs.script runs.objects c.requires.made
    (ap (heard r.script r.objects) did.1 ∙ heard_restart r.script r.objects c.args.n c.args.l.now.actor did.0 (past_of r.trace)))
    c.restart.ensures.runs c.restart.ensures.done
