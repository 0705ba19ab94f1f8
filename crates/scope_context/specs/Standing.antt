-- What stands in a context.
use Rattle.std.specs.Prelude.{Bool, true, ◌&&◌, not, List, [], ◌∷◌}
use Rattle.dtx_values.specs.declared.number.TxNo.{TxNo}
use Rattle.dtx_values.specs.declared.scope.OpenScope.{OpenScope}
use Rattle.dtx_model.specs.Words.{has}
use Rattle.dtx_model.specs.Scopes.{is_scope}

-- the scopes that are open, the top first, and the transactions that the last nested close is to roll back
pub record Standing : Type 0 where
  pub scopes : List OpenScope
  pub rolled : List TxNo

-- no scope is open twice
abbrev pub distinct : List OpenScope → Bool
distinct [] = true
distinct (x ∷ xs) = not (has (is_scope x.scope.value) xs) && distinct xs
