use Rattle.std.proofs.Common.{◌≡◌, Ok, true, refl, arith}
use Rattle.tx_world.proofs.Chained.{kth_more}
use Rattle.world_tests.proofs.worlds.step_and_say.Goals as goal

pub did-requires-clause-answers : goal.did-requires-clause-answers
did-requires-clause-answers g c =
    let done : c.step.result ≡ Ok true = cc in
    record {
      before = c.args.run.now.world.world;
      stepped = kth_more _ 1 0 c.args.run.now.world.world c.args.run.now.world c.args.run.now.log c.step.new.self c.step.new.log refl (c.step.ensures.some done);
      most = omega arith;
      fewer = λ less. absurd (omega (arith, less));
    }
