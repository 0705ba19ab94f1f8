-- Enlistments with the same numbers.
use Rattle.std.specs.Prelude.{◌≡◌}
use Rattle.std.proofs.Common.{ap, ◌∙◌}
use Rattle.dtx_values.specs.TxIds.{number_of}
use Rattle.dtx_values.proofs.Ids.{same_id}
use Rattle.dtx_values.proofs.SameNumbers.{same_enlistment}
use Rattle.resource_managers.specs.Pairs.{enlistment}
use Rattle.resource_managers.specs.declared.enlistment.Enlistment.{Enlistment}

pub same_pair : (a b : Enlistment) → number_of a.transaction ≡ number_of b.transaction → a.number.value ≡ b.number.value → a ≡ b
same_pair a b p q =
    ap (λ t. enlistment t a.number) (same_id a.transaction b.transaction p)
    ∙ ap (λ n. enlistment b.transaction n) (same_enlistment a.number b.number q)
