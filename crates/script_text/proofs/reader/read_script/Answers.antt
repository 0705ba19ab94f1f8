use Rattle.std.proofs.Common.{◌≡◌, ◌++◌, ◌∷◌, [], arith, rules, sym, subst}
use Rattle.dtx_model.specs.Grammar.{IsScript}
use Rattle.line_reader.proofs.Scripts.{bytes_more, length_script}
use Rattle.script_text.proofs.reader.read_script.Goals as goal

pub loop-rest-preserved : goal.loop-rest-preserved
loop-rest-preserved c =
    let s = c.loop-rest.draft in
    let l = c.in-Ok-next_line.line in
    let after = c.in-Ok-next_line.after.now in
    let next = c.in-Ok-next_line.ensures.ok in
    let pushed : c.push.new.self ≡ s ++ l ∷ [] = search rules in
    record {
      bytes = rw pushed (bytes_more s l c.args.bytes.now c.loop-rest.rest.now after c.loop-rest.invariant.bytes next.0);
      script = subst IsScript (sym pushed) next.1;
    }

pub overflow_cast-result : goal.overflow_cast-result
overflow_cast-result c = omega (arith, length_script c.loop-rest.draft, c.loop-rest.invariant.script.within)

pub overflow_add-result : goal.overflow_add-result
overflow_add-result c = omega (arith, length_script c.loop-rest.draft, c.loop-rest.invariant.script.within)

pub returns-in-Err-clause-bad : goal.returns-in-Err-clause-bad
returns-in-Err-clause-bad c = record {
  before = c.loop-rest.draft;
  rest = c.loop-rest.rest.now;
  bytes = c.loop-rest.invariant.bytes;
  script = c.loop-rest.invariant.script;
  number = omega arith;
  left = search rules;
  cause = c.in-Err.ensures.bad;
}
