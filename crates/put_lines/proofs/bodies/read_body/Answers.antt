use Rattle.std.proofs.Common.{arith, rules}
use Rattle.line_reader.proofs.Scripts.{length_script}
use Rattle.put_lines.proofs.bodies.read_body.Goals as goal

pub overflow_cast-result : goal.overflow_cast-result
overflow_cast-result c = omega (arith, length_script c.loop-rest.draft, c.loop-rest.invariant.within)

pub overflow_add-result-in-Err : goal.overflow_add-result-in-Err
overflow_add-result-in-Err c = omega (arith, length_script c.loop-rest.draft, c.loop-rest.invariant.within)

pub returns-in-Err-clause-bad : goal.returns-in-Err-clause-bad
returns-in-Err-clause-bad c = record {
  before = c.loop-rest.draft;
  rest = c.loop-rest.rest.now;
  bytes = c.loop-rest.invariant.bytes;
  script = c.loop-rest.invariant.script;
  within = c.loop-rest.invariant.within;
  left = search rules;
  number = omega arith;
  cause = c.in-Err.ensures.bad;
}
