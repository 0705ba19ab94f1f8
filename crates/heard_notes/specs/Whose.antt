-- For whom an object answers.
use Rattle.dtx_model.specs.Caused.{Of, Manager as ByManager, Volatiles as ByVolatiles}
use Rattle.heard_notes.specs.declared.of.Of.{Of as Given}
use Rattle.heard_notes.specs.declared.of.Of.TheVariants.{Manager, Volatiles}

-- the enlistments for which it answers
abbrev pub whose : Given → Of
whose (Manager r) = ByManager r
whose Volatiles = ByVolatiles
