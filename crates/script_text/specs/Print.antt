-- Commands that name at most one thing.
use Rattle.std.specs.Prelude.{Bool, true, false}
use Rattle.dtx_values.specs.declared.script.Body.{Body}
use Rattle.dtx_values.specs.declared.script.Body.TheVariants.{Finish, Close, Current, Complete, Gone, Reenlist, Restart, Par}

-- the command names a scope, a clone or an enlistment alone, or nothing
abbrev pub is_simple : Body → Bool
is_simple (Finish s) = true
is_simple (Close s) = true
is_simple Current = true
is_simple (Complete c) = true
is_simple (Gone e) = true
is_simple (Reenlist e) = true
is_simple Restart = true
is_simple Par = true
is_simple _ = false
