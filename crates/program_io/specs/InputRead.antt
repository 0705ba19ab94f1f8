-- Why no input came of the bytes that the source gives.
use Rattle.std.specs.Prelude.{ℕ, List, Option}
use Rattle.std.specs.Option.{ForSome}
use Rattle.dtx_model.specs.Caused.{Of}
use Rattle.put_lines.specs.Input.{IsRefused}
use Rattle.program_io.specs.declared.exit.Exit.{Exit}
use Rattle.program_io.specs.declared.exit.Exit.TheVariants.{BadScript, Memory as MemoryExit, ReadFault}

-- no puts with a script came of the bytes that the source may give, for the cause that the answer says; nothing is said of a fault of the source and of want of memory, and no other answer is given for this
abbrev pub RefusesInput : ℕ → Of → Option (List ℕ) → Exit → Type 0
RefusesInput most o given (BadScript n c) = ForSome given (λ b. IsRefused most o b n c)
RefusesInput most o given ReadFault = Unit {0}
RefusesInput most o given MemoryExit = Unit {0}
RefusesInput most o given _ = ⊥
