use Rattle.std.proofs.Common.{◌≡◌, ℕ, List, ◌+◌, ◌-◌, length, arith, rules, subst}
use Rattle.dtx_values.specs.declared.script.Line.{Line}
use Rattle.heard_notes.specs.Whose.{whose}
use Rattle.heard_notes.specs.declared.put.Put.{Put}
use Rattle.put_lines.specs.Refusals.{IsBadBody, IsBadPut}
use Rattle.put_lines.proofs.Refusing.{front_lines, of_error, why_put, why_script}
use Rattle.put_lines.proofs.reader.read_input.Goals as goal

pub returns-in_err-puts-clause-bad : goal.returns-in_err-puts-clause-bad
returns-in_err-puts-clause-bad c =
    let k = c.in_err-puts.ensures.bad c.args.most (whose c.args.of) in
    of_error c.from_residual.result _ _ c.from_residual.ensures.1 (λ e q. rw q k)

pub read_body-requires-clause-lines : goal.read_body-requires-clause-lines
read_body-requires-clause-lines c = omega (arith, front_lines c.args.bytes.now c.in_ok-puts.puts.items c.in_ok-puts.rest.now c.in_ok-puts.ensures.ok)

pub returns-in_err-script-clause-bad : goal.returns-in_err-script-clause-bad
returns-in_err-script-clause-bad c =
    let b = c.args.bytes.now in
    let ps = c.in_ok-puts.puts.items in
    let rest = c.in_ok-puts.rest.now in
    let many : c.len.result ≡ length ps = search rules in
    let bad = subst (λ (n : ℕ). IsBadBody (length b - length rest) (n + 1) rest c.in_err-script.field-0.0) many c.in_err-script.ensures.bad in
    let k = why_script c.args.most (whose c.args.of) b ps rest c.in_err-script.field-0.0 c.in_ok-puts.ensures.ok bad in
    of_error c.from_residual-in_err-script.result _ _ c.from_residual-in_err-script.ensures.1 (λ e q. rw q k)

pub check_puts-requires-clause-few : goal.check_puts-requires-clause-few
check_puts-requires-clause-few c =
    let same : length c.deref.result.now ≡ length c.in_ok-puts.puts.items = search rules in
    omega (arith, same, front_lines c.args.bytes.now c.in_ok-puts.puts.items c.in_ok-puts.rest.now c.in_ok-puts.ensures.ok)

pub returns-in_err-check_puts-clause-bad : goal.returns-in_err-check_puts-clause-bad
returns-in_err-check_puts-clause-bad c =
    let ps = c.in_ok-puts.puts.items in
    let s = c.in_ok-script.script in
    let puts : c.deref.result.now ≡ ps = search rules in
    let lines : c.lines.result.now ≡ s = search rules in
    let e0 = c.in_err-check_puts.field-0.0 in
    let moved = subst (λ (xs : List Put). IsBadPut c.args.most c.lines.result.now (whose c.args.of) xs e0) puts c.in_err-check_puts.ensures.bad in
    let bad = subst (λ (xs : List Line). IsBadPut c.args.most xs (whose c.args.of) ps e0) lines moved in
    let k = why_put c.args.most (whose c.args.of) c.args.bytes.now ps c.in_ok-puts.rest.now s e0 c.in_ok-puts.ensures.ok c.in_ok-script.ensures.ok c.in_ok-script.ensures.within bad in
    of_error c.from_residual-in_err-check_puts.result _ _ c.from_residual-in_err-check_puts.ensures.1 (λ e q. rw q k)
