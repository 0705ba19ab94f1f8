-- Whose enlistments have an object.
use Rattle.dtx_model.specs.Caused.{Managers, Of}
use Rattle.heard_notes.specs.Whose.{whose}
use Rattle.replay_runs.specs.declared.whose.Whose.{Whose}
use Rattle.replay_runs.specs.declared.whose.Whose.TheVariants.{First, One}

-- those that are named so
abbrev pub named : Whose → Of
named (First k) = Managers k
named (One f) = whose f
