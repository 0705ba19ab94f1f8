use Rattle.std.proofs.Common.{◌≡◌, ◌+◌, ℕ, List, Option, arith, subst, sym, ◌∙◌}
use Rattle.std.specs.Prelude.{IfSome}
use Rattle.dtx_values.specs.declared.number.TxNo.{TxNo}
use Rattle.dtx_values.specs.declared.script.Line.{Line}
use Rattle.dtx_model.specs.Words.{past_of}
use Rattle.turn_parts.proofs.Settling.{up_between}
use Rattle.replay_runs.specs.RunState.{AreSettledBelow, IsRoundAt}
use Rattle.replay_runs.proofs.Going.{hears_same, hears_then, runs_same, runs_then, steps_same, steps_then}
use Rattle.replay_runs.proofs.Rounds.{below-first, turn-round}
use Rattle.replay_runs.proofs.replay.Run.settle_round.Goals as goal

pub loop-n-init : goal.loop-n-init
loop-n-init g c =
    record {
      goes = steps_same g.D.Disk.faults g.D.Disk.honest g.D.Disk.image c.args.log.now c.args.self.now;
      runs = runs_same g.D.Disk.faults g.D.Disk.honest g.D.Disk.image g.D.Disk.obeys g.D.Disk.seen c.args.log.now c.args.self.now c.requires.holds;
      heard = hears_same g.O.Objects.is_for g.O.Objects.reached c.args.self.now c.args.objects.now c.requires.made;
      turns = λ start b. b;
      settled = λ same. below-first c.args.self.now.script (past_of c.args.self.now.trace);
    }

pub loop-n-preserved : goal.loop-n-preserved
loop-n-preserved g c =
    let t = c.unwrap-t.result in
    let s = c.args.self.now.script in
    let was = c.loop-n.invariant in
    let old = c.loop-n.log in
    let new = c.settle.new.log in
    let n : t.value ≡ c.loop-n.n = subst (λ (o : Option TxNo). IfSome o (λ x. x.value ≡ c.loop-n.n)) c.unwrap-t.ensures c.new.ensures.value in
    record {
      goes = steps_then g.D.Disk.faults g.D.Disk.honest g.D.Disk.image c.args.log.now old new c.args.self.now c.loop-n.self c.settle.new.self was.goes c.settle.ensures.goes;
      runs = runs_then g.D.Disk.faults g.D.Disk.honest g.D.Disk.image g.D.Disk.obeys g.D.Disk.seen c.args.log.now old new c.args.self.now c.loop-n.self c.settle.new.self was.runs c.in_ok-settle.ensures.runs;
      heard = hears_then g.O.Objects.is_for g.O.Objects.reached c.args.self.now c.loop-n.self c.settle.new.self c.args.objects.now c.loop-n.objects c.settle.new.objects c.loop-n.invariant.heard c.in_ok-settle.ensures.heard;
      turns = λ start b.
          let here : IsRoundAt s start t.value (past_of c.loop-n.self.trace) = subst (λ (m : ℕ). IsRoundAt s start m (past_of c.loop-n.self.trace)) (sym n) (was.turns start b) in
          let next : IsRoundAt s start t.value (past_of c.loop-n.self.trace) → IsRoundAt s start (t.value + 1) (past_of c.settle.new.self.trace) =
          subst (λ (r : List Line). IsRoundAt r start t.value (past_of c.loop-n.self.trace) → IsRoundAt r start (t.value + 1) (past_of c.settle.new.self.trace)) was.runs.script (c.in_ok-settle.ensures.turns start) in
          subst (λ (m : ℕ). IsRoundAt s start (m + 1) (past_of c.settle.new.self.trace)) n (next here);
      settled = λ same.
          let mid : old.is_up ≡ c.args.log.now.is_up = up_between c.args.log.now.is_up old.is_up new.is_up was.goes.stays.still c.settle.ensures.goes.stays.still same in
          let here : AreSettledBelow s t.value (past_of c.loop-n.self.trace) = subst (λ (m : ℕ). AreSettledBelow s m (past_of c.loop-n.self.trace)) (sym n) (was.settled mid) in
          let next : AreSettledBelow s t.value (past_of c.loop-n.self.trace) → AreSettledBelow s (t.value + 1) (past_of c.settle.new.self.trace) =
          subst (λ (r : List Line). AreSettledBelow r t.value (past_of c.loop-n.self.trace) → AreSettledBelow r (t.value + 1) (past_of c.settle.new.self.trace)) was.runs.script (c.in_ok-settle.ensures.below (same ∙ sym mid)) in
          subst (λ (m : ℕ). AreSettledBelow s (m + 1) (past_of c.settle.new.self.trace)) n (next here);
    }

pub returns-in_err-settle-clause-goes : goal.returns-in_err-settle-clause-goes
returns-in_err-settle-clause-goes g c = steps_then g.D.Disk.faults g.D.Disk.honest g.D.Disk.image c.args.log.now c.loop-n.log c.settle.new.log c.args.self.now c.loop-n.self c.settle.new.self c.loop-n.invariant.goes c.settle.ensures.goes

pub returns-clause-turns : goal.returns-clause-turns
returns-clause-turns g c = λ start b. turn-round c.args.self.now.script start (past_of c.loop-n.self.trace) c.loop-n.n c.loop-n-test.false (c.loop-n.invariant.turns start b)

pub returns-clause-settled : goal.returns-clause-settled
returns-clause-settled g c = λ same v less. c.loop-n.invariant.settled same v (omega (arith, less, c.loop-n-test.false))
