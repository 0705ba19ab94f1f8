-- The isolation of a transaction, read from its scopes.
use Rattle.std.proofs.Common.{◌≡◌, ℕ, ◌==◌, true, false, cond, List, [], ◌∷◌, Option, Some, None, is_some, refl, ap, ◌∙◌}
use Rattle.std.specs.Bool.{if◌then◌else◌}
use Rattle.std.specs.List.{find}
use Rattle.std.specs.Option.{option_map}
use Rattle.dtx_values.specs.declared.scope.Entered.{Entered}
use Rattle.dtx_values.specs.declared.scope.Entered.TheVariants.{Made, Joined, NoTx}
use Rattle.dtx_values.specs.declared.number.TxNo.{TxNo}
use Rattle.dtx_values.specs.declared.scope.OpenScope.{OpenScope}
use Rattle.dtx_model.specs.Words.{or_else}
use Rattle.dtx_model.specs.Scopes.{isolation_made, isolation_of}

-- the isolation of the first scope that made the transaction
isolation-first : (t : ℕ) (e : Entered) (x : OpenScope) (o : Option OpenScope) → or_else (isolation_made t e x.isolation) (option_map (λ x. x.isolation) o)
    ≡ option_map (λ (x : OpenScope). x.isolation) (cond (is_some (isolation_made t e x.isolation)) (Some x) o)
isolation-first t (Made u) x o = elim (t == u.value) as
    (λ b. or_else (if b then Some x.isolation else None) (option_map (λ (x : OpenScope). x.isolation) o) ≡ option_map (λ (x : OpenScope). x.isolation) (cond (is_some (if b then Some x.isolation else None)) (Some x) o))
    [ true ↦ refl | false ↦ refl ]
isolation-first t (Joined u) x o = refl
isolation-first t NoTx x o = refl

-- the isolation of a transaction is that of the first scope that made it
pub isolation_found : (t : TxNo) (xs : List OpenScope)
    → isolation_of xs t ≡ option_map (λ x. x.isolation) (find (λ x. is_some (isolation_made t.value x.entered x.isolation)) xs)
isolation_found t [] = refl
isolation_found t (x ∷ xs) = ap (or_else (isolation_made t.value x.entered x.isolation)) (isolation_found t xs)
    ∙ isolation-first t.value x.entered x (find (λ y. is_some (isolation_made t.value y.entered y.isolation)) xs)
