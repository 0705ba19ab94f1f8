use Rattle.std.proofs.Common.{◌≡◌, ◌∙◌, ◌/◌, ap, arith, refl, true}
use Rattle.std.proofs.lemmas.Bool.{both_ways, false_from_ne_true}
use Rattle.log_epochs.specs.Epochs.{identifier_of_epoch, is_epoch}
use Rattle.log_epochs.proofs.Names.{epoch_again, epoch_is}
use Rattle.log_epochs.proofs.naming.epoch_at.Goals as goal
use Rattle.log_epochs.proofs.naming.epoch_at.Goals.{else-number-eq0-via-then-number-eq0+then-n-ge1+else-n, else-number-eq0-via-then-number-eq0+else-n-ge1, else-number-eq0-via-else-number-eq0}

pub returns-in_err-number-clause-none : goal.returns-in_err-number-clause-none
returns-in_err-number-clause-none c =
    (λ e. false_from_ne_true (is_epoch c.args.id) (λ yes. let is = epoch_is c.args.id yes in c.in_err-number.ensures (omega (arith, is.2))), λ e. c.from_residual.ensures)

pub returns-then-n-clause-none : goal.returns-then-n-clause-none
returns-then-n-clause-none c =
    let n = c.in_ok-number.number / 65536 in
    let is : c.args.id ≡ identifier_of_epoch n = omega (arith, c.in_ok-number.ensures) in
    let test : is_epoch c.args.id ≡ true = ap is_epoch is ∙ epoch_again n (omega arith) (omega arith) in
    (λ e. absurd cc, λ e. absurd (both_ways (is_epoch c.args.id) e test))

pub returns-else-number-eq0-clause-none : goal.returns-else-number-eq0-clause-none
returns-else-number-eq0-clause-none c = (
  λ e. false_from_ne_true (is_epoch c.args.id)
      (λ yes. let is = epoch_is c.args.id yes in
      elim c.else-number-eq0.branch [
        | else-number-eq0-via-then-number-eq0+then-n-ge1+else-n w ↦ omega (arith, is, c.in_ok-number.ensures)
        | else-number-eq0-via-then-number-eq0+else-n-ge1 w ↦ omega (arith, is, c.in_ok-number.ensures)
        | else-number-eq0-via-else-number-eq0 w ↦ omega (arith, is, c.in_ok-number.ensures)
      ]),
  λ e. refl,
)
