-- What a line of a script plans for an enlistment.
use Rattle.std.specs.Prelude.{ℕ, ◌==◌, Option, Some, None}
use Rattle.dtx_values.specs.declared.note.Plan.{Plan}
use Rattle.dtx_values.specs.declared.script.Body.{Body}
use Rattle.dtx_values.specs.declared.script.Body.TheVariants.{Durable, Promotable, Volatile}
use Rattle.dtx_values.specs.declared.script.Line.{Line}
use Rattle.dtx_model.specs.Plans.{plan_if, support_plan}

abbrev pub plan_in : ℕ → Body → Option Plan
plan_in e (Volatile t f x v) = plan_if (e == f.value) (record { vote = v; owner = None; promote = None })
plan_in e (Durable t f r s) = plan_if (e == f.value) (support_plan s)
plan_in e (Promotable t f r v x p) = plan_if (e == f.value) (record { vote = v; owner = x; promote = p })
plan_in e _ = None

abbrev pub line_plan : ℕ → Line → Option Plan
line_plan e l = plan_in e l.body

abbrev pub or_plan : Option Plan → Plan → Plan
or_plan (Some p) q = p
or_plan None q = q
