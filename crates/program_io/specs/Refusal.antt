-- Why bytes have no run.
use Rattle.std.specs.Prelude.{ℕ, ◌≡◌, List, Option, Some}
use Rattle.std.specs.Option.{ForSome}
use Rattle.dtx_values.specs.declared.script.Line.{Line}
use Rattle.dtx_model.specs.Faults.{Bad}
use Rattle.dtx_model.specs.Grammar.{IsScript, Reads}
use Rattle.script_calls.specs.Threadable.{IsThreadable}
use Rattle.program_io.specs.Judged.{HasDoAt, first_do}
use Rattle.program_io.specs.declared.exit.Exit.{Exit}
use Rattle.program_io.specs.declared.exit.Exit.TheVariants.{BadScript, NotThreadable, ReadFault, Memory as MemoryExit}
use Rattle.program_io.specs.declared.judging.Refusal.{Refusal}
use Rattle.program_io.specs.declared.judging.Refusal.TheVariants.{Bad as BadBytes, HasDo, Memory}
use Rattle.program_io.specs.declared.way.Way.{Way}
use Rattle.program_io.specs.declared.way.Way.TheVariants.{Replay, Threads}

-- the lines are a script, and one for threads where they are to run on threads
abbrev pub IsRunnable : Way → List Line → Type 0
IsRunnable Replay s = IsScript s
IsRunnable (Threads h) s = IsThreadable s

-- the input is a script that can be run this way
abbrev pub IsGoodFor : Way → Option (List ℕ) → Type 0
IsGoodFor w given = (b : List ℕ) × (s : List Line) × (given ≡ Some b) × Reads b s × IsRunnable w s

-- the script was to run on threads
abbrev pub IsOnThreads : Way → Type 0
IsOnThreads w = (h : ℕ) × (w ≡ Threads h)

-- the bytes have no run of this way for this cause; nothing is said of want of memory
abbrev pub HasNoRun : Way → List ℕ → Refusal → Type 0
HasNoRun w b (BadBytes n c) = Bad b n c
HasNoRun w b (HasDo n) = IsOnThreads w × HasDoAt b n
HasNoRun w b Memory = Unit {0}

-- no script to be run this way came of the bytes that the source may give, for the cause that the answer says; nothing is said of a fault of the source and of want of memory, and no other answer stands for this
abbrev pub Refuses : Way → Option (List ℕ) → Exit → Type 0
Refuses w given (BadScript n c) = ForSome given (λ b. Bad b n c)
Refuses w given (NotThreadable n) = IsOnThreads w × ForSome given (λ b. HasDoAt b n)
Refuses w given ReadFault = Unit {0}
Refuses w given MemoryExit = Unit {0}
Refuses w given _ = ⊥
