use Rattle.std.proofs.Common.{rules, arith, decimal}
use Rattle.dtx_model.specs.Faults.{number}
use Rattle.script_words.proofs.Meanings.{counted, no_value, not_allowed}
use Rattle.script_words.proofs.Numbers.{to_high}
use Rattle.script_words.proofs.Places.{misplaced, missing, taken}
use Rattle.put_lines.proofs.FrontTexts.{in_range, value_allowed}
use Rattle.put_lines.proofs.words.value.Goals as goal

pub returns-in-Some-number_of-clause-ok : goal.returns-in-Some-number_of-clause-ok
returns-in-Some-number_of-clause-ok c =
    let n = c.in-Some-number_of.n in
    let fits = in_range 0 18446744073709551615 n (omega arith) (omega arith) in
    (taken (number 0 18446744073709551615) c.args.words.now c.in-Some.word.now (decimal n) c.next.new.self (search rules) c.in-Some-number_of.ensures.some (value_allowed n fits), fits)

pub returns-in-None-clause-err : goal.returns-in-None-clause-err
returns-in-None-clause-err c =
    misplaced (number 0 18446744073709551615) c.args.words.now c.in-Some.word.now c.next.new.self _ (search rules)
    (not_allowed (counted 0 18446744073709551615) c.in-Some.word.now (λ n e. no_value (c.in-None.ensures.of n.0 (let most = to_high 0 18446744073709551615 n.0 n.1 in omega arith) e)))
    c.number_cause.ensures

pub returns-in_default-clause-err : goal.returns-in_default-clause-err
returns-in_default-clause-err c = missing (number 0 18446744073709551615) c.args.words.now (search rules)
