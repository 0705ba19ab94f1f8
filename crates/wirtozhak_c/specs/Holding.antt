-- What an export makes of what its handle holds.
use Rattle.std.specs.Prelude.{ℤ, ◌≡◌, Option, Some, None, Result}
use Rattle.host_manager.specs.Host.{HostView}
use Rattle.wirtozhak_c.specs.declared.code.TheConstants.{CLOSED, OK, OPEN}

-- What a call makes of what a handle holds: where it is closed the answer says so, and it stays closed; where it holds a manager, the call did this to it, and the handle holds it still.
abbrev pub Calls : (HostView → HostView → ℤ → Type 0) → Option HostView → Option HostView → ℤ → Type 0
Calls does None None answer = answer ≡ CLOSED
Calls does (Some old) (Some new) answer = does old new answer
Calls does _ _ answer = ⊥

-- It opens a handle that is closed, with a manager of which this holds; or why it doesn't. One that is open stays as it was.
abbrev pub Opens : (HostView → Type 0) → (ℤ → Type 0) → Option HostView → Option HostView → ℤ → Type 0
Opens made why (Some old) new answer = (answer ≡ OPEN) × (new ≡ Some old)
Opens made why None (Some new) answer = (answer ≡ OK) × made new
Opens made why None None answer = why answer

-- What a call makes of a number or a word: with what was read of it, the call did this; where nothing was read, the answer is this code, and nothing was done.
abbrev pub DoesWith : {A : Type 0} → ℤ → (A → HostView → HostView → ℤ → Type 0) → Option A → HostView → HostView → ℤ → Type 0
DoesWith code does (Some x) old new answer = does x old new answer
DoesWith code does None old new answer = (answer ≡ code) × (new ≡ old)

-- The call came to a result, of which the answer and what is written say this.
abbrev pub ComesTo : {A E : Type 0} → (HostView → HostView → Result A E → Type 0) → (Result A E → ℤ → Type 0) → HostView → HostView → ℤ → Type 0
ComesTo {A} {E} does says old new answer = (r : Result A E) × says r answer × does old new r

-- The call asked for a result, and changed nothing.
abbrev pub Reads : {A E : Type 0} → (HostView → Result A E → Type 0) → (Result A E → ℤ → Type 0) → HostView → HostView → ℤ → Type 0
Reads {A} {E} does says old new answer = (new ≡ old) × (r : Result A E) × says r answer × does old r
