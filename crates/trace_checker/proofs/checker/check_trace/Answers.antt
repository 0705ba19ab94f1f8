use Rattle.std.proofs.Common.{◌<◌, List, arith, length, take, refl, subst}
use Rattle.dtx_model.specs.Traces.{Placed}
use Rattle.trace_checker.specs.Checking.{IsCheckerOf}
use Rattle.trace_checker.specs.Keeps.{Loses}
use Rattle.trace_checker.proofs.Stepping.{kept_here, lost_here}
use Rattle.trace_checker.proofs.Tracing.{with_next}
use Rattle.trace_checker.proofs.checker.check_trace.Goals as goal

pub returns-in-Some : goal.returns-in-Some
returns-in-Some c =
    let xs = c.args.trace.now in let i = c.loop-i.i in let y = c.at-at.result in
    let before_end : i < c.len-i-end.result = c.loop-i-test.true in
    let within : i < length xs = omega (arith, before_end, c.len-i-end.ensures) in
    let L : List Placed → Type 0 = λ T. Loses c.in-Some.why T in
    record {
      place = i;
      number = refl;
      within = within;
      before = c.loop-i.invariant.keeps;
      lost = subst L (with_next xs i y within c.at-at.ensures) (lost_here (take i xs) y c.in_ok-loss.loss c.in-Some.why c.follow.new.self c.in-Some.is (c.in_ok-loss.ensures (take i xs) c.loop-i.invariant));
    }

pub loop-i-preserved : goal.loop-i-preserved
loop-i-preserved c =
    let xs = c.args.trace.now in let i = c.loop-i.i in let y = c.at-at.result in
    let before_end : i < c.len-i-end.result = c.loop-i-test.true in
    let within : i < length xs = omega (arith, before_end, c.len-i-end.ensures) in
    let C : List Placed → Type 0 = λ T. IsCheckerOf T c.follow.new.self in
    subst C (with_next xs i y within c.at-at.ensures) (kept_here (take i xs) y c.in_ok-loss.loss c.follow.new.self c.in-None.is (c.in_ok-loss.ensures (take i xs) c.loop-i.invariant))
