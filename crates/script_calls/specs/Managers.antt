-- The managers of a script's enlistments.
use Rattle.std.specs.Prelude.{ℕ, ◌-◌, ◌==◌, ◌≡◌, List, Option, None, slice_index_or}
use Rattle.dtx_values.specs.declared.number.EnlNo.{EnlNo}
use Rattle.dtx_values.specs.declared.number.RmNo.{RmNo}
use Rattle.dtx_values.specs.declared.script.Body.{Body}
use Rattle.dtx_values.specs.declared.script.Body.TheVariants.{Durable, Promotable}
use Rattle.dtx_values.specs.declared.script.Line.{Line}
use Rattle.dtx_model.specs.Caused.{calls_in}
use Rattle.dtx_model.specs.Plans.{manager_if, manager_of}
use Rattle.dtx_model.specs.Words.{past_of}

-- the manager that a line's command enlists e at
abbrev pub manager_in : ℕ → Body → Option RmNo
manager_in e (Durable t f r s) = manager_if (e == f.value) r
manager_in e (Promotable t f r v x p) = manager_if (e == f.value) r
manager_in e _ = None

-- a table has at the place of each enlistment the manager at which these lines of the script enlist it
abbrev pub AreManagers : List Line → List Line → List (Option RmNo) → Type 0
AreManagers s ls ms = (e : EnlNo) → slice_index_or ms (e.value - 1) None ≡ manager_of (calls_in s (past_of ls)) e.value
