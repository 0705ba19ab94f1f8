use Rattle.std.proofs.Common.{◌≡◌, true, false, List, subst, sym, ◌∙◌}
use Rattle.std.proofs.lemmas.Result.{on_ok_weaker}
use Rattle.dtx_values.specs.declared.script.Line.{Line}
use Rattle.dtx_model.specs.Words.{past_of}
use Rattle.replay_runs.specs.RunState.{AreSettledBelow, IsRoundAt}
use Rattle.replay_runs.proofs.Going.{down_still, hears_then, runs_then, steps_then}
use Rattle.replay_runs.proofs.replay.Run.settle_all.Goals as goal

pub returns-then-not-was_up-clause-settled : goal.returns-then-not-was_up-clause-settled
returns-then-not-was_up-clause-settled g c =
    let down : c.args.log.now.is_up ≡ false = sym c.is_up-was_up.ensures.up ∙ c.if-not-was_up.true in
    c.in_ok-settle_round.ensures.settled (down_still c.args.log.now.is_up c.settle_round.new.log.is_up c.settle_round.ensures.goes.stays.still down)

pub returns-then-is_up-clause-settled : goal.returns-then-is_up-clause-settled
returns-then-is_up-clause-settled g c =
    let was : c.args.log.now.is_up ≡ true = sym c.is_up-was_up.ensures.up ∙ c.if-not-was_up.false in
    let here : c.settle_round.new.log.is_up ≡ true = sym c.is_up.ensures.up ∙ c.if-is_up.true in
    c.in_ok-settle_round.ensures.settled (here ∙ sym was)

pub returns-clause-goes : goal.returns-clause-goes
returns-clause-goes g c =
    steps_then g.D.Disk.faults g.D.Disk.honest g.D.Disk.image c.args.log.now c.settle_round.new.log c.settle_round-2.new.log c.args.self.now c.settle_round.new.self c.settle_round-2.new.self c.settle_round.ensures.goes c.settle_round-2.ensures.goes

pub returns-clause-runs : goal.returns-clause-runs
returns-clause-runs g c =
    on_ok_weaker c.settle_round-2.result
    (runs_then g.D.Disk.faults g.D.Disk.honest g.D.Disk.image g.D.Disk.obeys g.D.Disk.seen c.args.log.now c.settle_round.new.log c.settle_round-2.new.log c.args.self.now c.settle_round.new.self c.settle_round-2.new.self c.in_ok-settle_round.ensures.runs) c.settle_round-2.ensures.runs

pub returns-clause-turns : goal.returns-clause-turns
returns-clause-turns g c =
    let same = c.in_ok-settle_round.ensures.runs.script in
    on_ok_weaker c.settle_round-2.result
    (λ turns start b. subst (λ (r : List Line). IsRoundAt r start 1 (past_of c.settle_round-2.new.self.trace)) same
    (turns start (subst (λ (r : List Line). IsRoundAt r start 1 (past_of c.settle_round.new.self.trace)) (sym same) (c.in_ok-settle_round.ensures.turns start b))))
    c.settle_round-2.ensures.turns

pub returns-clause-settled : goal.returns-clause-settled
returns-clause-settled g c =
    let down : c.settle_round.new.log.is_up ≡ false = sym c.is_up.ensures.up ∙ c.if-is_up.false in
    on_ok_weaker c.settle_round-2.result
    (λ settled. subst (λ (r : List Line). AreSettledBelow r 257 (past_of c.settle_round-2.new.self.trace)) c.in_ok-settle_round.ensures.runs.script
    (settled (down_still c.settle_round.new.log.is_up c.settle_round-2.new.log.is_up c.settle_round-2.ensures.goes.stays.still down)))
    c.settle_round-2.ensures.settled

pub returns-clause-heard : goal.returns-clause-heard
returns-clause-heard g c =
    on_ok_weaker c.settle_round-2.result
    (hears_then g.O.Objects.is_for g.O.Objects.reached c.args.self.now c.settle_round.new.self c.settle_round-2.new.self c.args.objects.now c.settle_round.new.objects c.settle_round-2.new.objects c.in_ok-settle_round.ensures.heard)
    c.settle_round-2.ensures.heard
