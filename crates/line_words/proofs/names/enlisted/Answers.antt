use Rattle.std.proofs.Common.{arith}
use Rattle.std.proofs.lemmas.Bool.Decides.{nat_tests}
use Rattle.dtx_values.proofs.SameNumbers.{same_enlistment}
use Rattle.line_words.proofs.Values.{made}
use Rattle.line_words.proofs.names.enlisted.Goals as goal

pub returns-clause-of : goal.returns-clause-of
returns-clause-of c = λ x e.
    let n = c.in_ok-name_of in
    made (λ y. y.value) same_enlistment c.new.result 9999 n.field-0 x c.new.ensures.value c.new.ensures.in_range n.ensures.some.1 (n.ensures.of x.value (grind (arith, nat_tests)) e)
