-- What is written when a write stops early.
use Rattle.std.specs.Prelude.{◌≡◌, ◌≢◌, ◌++◌, ℕ, List, [], Option, Some}

-- of these bytes only the first are written after what was there, and some are not
pub record IsPartWritten (before bytes : List ℕ) (after : Option (List ℕ)) : Type 0 where
  pub part : List ℕ
  pub rest : List ℕ
  pub split : bytes ≡ part ++ rest
  pub more : rest ≢ []
  pub written : after ≡ Some (before ++ part)
