-- What a refusal says of the bytes.
use Rattle.std.specs.Prelude.{ℕ, List}
use Rattle.dtx_model.specs.Faults.{Bad}
use Rattle.script_text.specs.declared.reader.ScriptError.{ScriptError}
use Rattle.script_text.specs.declared.reader.ScriptError.TheVariants.{BadScript, Memory}

-- the bytes are bad at this line for this cause; nothing is said of want of memory
abbrev pub IsBadScript : List ℕ → ScriptError → Type 0
IsBadScript b (BadScript n c) = Bad b n c
IsBadScript b Memory = Unit {0}
