-- The calls of a history, those of scope lines too.
use Rattle.std.specs.Prelude.{ℕ, ◌≡◌, List, [], ◌∷◌}
use Rattle.dtx_values.specs.declared.call.Call.{Call}
use Rattle.dtx_values.specs.declared.entry.Entry.{Entry}
use Rattle.dtx_values.specs.declared.entry.Entry.TheVariants.{Called}
use Rattle.dtx_values.specs.declared.script.Line.{Line}
use Rattle.dtx_model.specs.Caused.{IsCallOf}
use Rattle.dtx_model.specs.declared.waiting.EnteredCall.{EnteredCall}

-- these are the calls of a history of transaction t: for each line's call that stands in it, newest first, one that the line gives t
unfoldable pub AreCalls : List Line → ℕ → List EnteredCall → List Entry → Type 0
AreCalls s t ks [] = ks ≡ []
AreCalls s t ks (Called n a x ∷ past) =
    (c : Call) × (rest : List EnteredCall) × IsCallOf s t n a c × AreCalls s t rest past × (ks ≡ record { line = n; actor = a; call = c } ∷ rest)
AreCalls s t ks (x ∷ past) = AreCalls s t ks past
