-- What the light committer does after the seal.
use Rattle.std.specs.Prelude.{Bool, ◌||◌, not, List, Option, Some, None, if◌then◌else◌}
use Rattle.dtx_values.specs.declared.number.EnlNo.{EnlNo}
use Rattle.dtx_values.specs.Waves.{all_voted}
use Rattle.dtx_values.specs.Owners.{owner_of}
use Rattle.dtx_values.specs.declared.row.Row.{Row}
use Rattle.light_committer.specs.declared.decision.LightAct.{LightAct}
use Rattle.light_committer.specs.declared.decision.LightAct.TheVariants.{Nothing, HandTo, CommitNow}

-- to the owner where there is one, else at once
abbrev pub act_with : Option EnlNo → LightAct
act_with (Some e) = HandTo e
act_with None = CommitNow

-- nothing while a volatile hasn't voted, or once the commit was handed over
abbrev pub light_act : List Row → Bool → LightAct
light_act xs handed = if not (all_voted xs) || handed then Nothing else act_with (owner_of xs)
