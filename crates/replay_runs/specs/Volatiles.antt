-- The volatiles of a script.
use Rattle.std.specs.Prelude.{ℕ, ◌-◌, ◌==◌, ◌≡◌, Bool, false, List, slice_index_or}
use Rattle.dtx_values.specs.declared.number.EnlNo.{EnlNo}
use Rattle.dtx_values.specs.declared.script.Body.{Body}
use Rattle.dtx_values.specs.declared.script.Body.TheVariants.{Volatile}
use Rattle.dtx_values.specs.declared.script.Line.{Line}
use Rattle.dtx_model.specs.Caused.{calls_in, makes_volatile}
use Rattle.dtx_model.specs.Words.{has, past_of}

-- a line's command makes this volatile
abbrev pub volatile_in : ℕ → Body → Bool
volatile_in e (Volatile t f x v) = e == f.value
volatile_in e _ = false

-- a table has at the place of each enlistment whether these lines of the script make it a volatile
abbrev pub AreVolatiles : List Line → List Line → List Bool → Type 0
AreVolatiles s ls vs = (e : EnlNo) → slice_index_or vs (e.value - 1) false ≡ has (λ k. makes_volatile e.value k.call) (calls_in s (past_of ls))
