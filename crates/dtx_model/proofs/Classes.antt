-- The classes that calls enlist with.
use Rattle.std.proofs.Common.{◌≡◌, true, refl}
use Rattle.dtx_values.specs.declared.script.EnlistOption.{EnlistOption}
use Rattle.dtx_values.specs.declared.script.EnlistOption.TheVariants.{DuringPrepare, Plain}
use Rattle.dtx_values.specs.Class.{is_volatile}
use Rattle.dtx_model.specs.Answers.{class_of}

-- what a call of volatile enlists is volatile
pub volatile_class : (x : EnlistOption) → is_volatile (class_of x) ≡ true
volatile_class Plain = refl
volatile_class DuringPrepare = refl
