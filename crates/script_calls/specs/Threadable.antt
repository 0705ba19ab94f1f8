-- Scripts that can run on threads.
use Rattle.std.specs.Prelude.{◌≡◌, Bool, true, false, List}
use Rattle.dtx_values.specs.declared.script.Body.{Body}
use Rattle.dtx_values.specs.declared.script.Body.TheVariants.{Do as DoLine}
use Rattle.dtx_values.specs.declared.script.Line.{Line}
use Rattle.dtx_model.specs.Words.{has}
use Rattle.dtx_model.specs.Grammar.{IsScript}

-- the line is a `do`, which is for a replay alone
abbrev pub is_do_line : Body → Bool
is_do_line (DoLine t k n) = true
is_do_line _ = false

-- the lines are a script that can run on threads: no line is a `do`
pub record IsThreadable (s : List Line) : Type 0 where
  pub script : IsScript s
  pub free_of_do : has (λ l. is_do_line l.body) s ≡ false
