use Rattle.std.proofs.Common.{◌≡◌, ◌++◌, ◌∷◌, [], List, ℕ, length, arith, rules, ap, refl, sym, subst, ◌∙◌}
use Rattle.std.proofs.lemmas.Bool.Decides.{nat_tests}
use Rattle.put_lines.specs.Input.{AtFront, HasPuts, NoScript, form_fault_by, put_forms}
use Rattle.put_lines.proofs.FrontLines.{length_puts, nothing, puts_more, taken_by}
use Rattle.put_lines.proofs.fronts.read_front.Goals as goal

pub loop-rest-preserved : goal.loop-rest-preserved
loop-rest-preserved c =
    let ps = c.loop-rest.puts.items in
    let p = c.in-Ok-Put-default.put in
    let begins = rw c.in-Ok-Put-default.field-0-0-is at c.in-Ok-Put-default.ensures.ok in
    let pushed : c.push.new.self.items ≡ ps ++ p ∷ [] = search rules in
    rw pushed (puts_more c.args.bytes.now ps c.loop-rest.rest.now p c.in-Ok-Put-default.after.now c.loop-rest.invariant begins)

pub overflow_cast-result : goal.overflow_cast-result
overflow_cast-result c = omega (arith, length_puts c.loop-rest.puts.items, c.loop-rest.invariant.within)

pub overflow_add-result : goal.overflow_add-result
overflow_add-result c = omega (arith, length_puts c.loop-rest.puts.items, c.loop-rest.invariant.within)

pub overflow_cast-result-2 : goal.overflow_cast-result-2
overflow_cast-result-2 c = omega (arith, length_puts c.loop-rest.puts.items, c.loop-rest.invariant.within)

pub overflow_add-result-2 : goal.overflow_add-result-2
overflow_add-result-2 c = omega (arith, length_puts c.loop-rest.puts.items, c.loop-rest.invariant.within)

pub returns-in-Err-clause-bad : goal.returns-in-Err-clause-bad
returns-in-Err-clause-bad c = λ most o.
    let b = c.args.bytes.now in
    let ps = c.loop-rest.puts.items in
    let rest = c.loop-rest.rest.now in
    AtFront ps rest c.loop-rest.invariant (search rules) (omega arith) (ap (λ n. form_fault_by put_forms n rest) (sym (taken_by b ps rest c.loop-rest.invariant)) ∙ c.in-Err.ensures.bad)

pub returns-clause-bad : goal.returns-clause-bad
returns-clause-bad c = λ most o.
    let ps = c.loop-rest.puts.items in
    let short : length c.loop-rest.rest.now ≡ 0 = grind (arith, nat_tests) in
    let none = nothing c.loop-rest.rest.now short in
    NoScript ps (subst (λ (r : List ℕ). HasPuts c.args.bytes.now ps r) none c.loop-rest.invariant) (omega arith) refl
