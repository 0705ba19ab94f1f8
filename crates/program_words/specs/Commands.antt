-- The words of each command, and no others.
use Rattle.std.specs.Prelude.{ℕ, ◌≡◌, Bool, true, false, nat_le, ◌&&◌, List, [], ◌∷◌, codes, decimal}
use Rattle.program_words.specs.declared.command.Form.{Form}
use Rattle.program_words.specs.declared.command.Form.TheVariants.{Plain, Wire, Json, Summary, Why, Html}
use Rattle.program_words.specs.declared.command.Command.{Command}
use Rattle.program_words.specs.declared.command.Command.TheVariants.{Replay, Make, Demo, Threads, Log, Check, Store, Map}

-- the words that ask for a form
abbrev pub form_words : Form → List (List ℕ)
form_words Plain = []
form_words Wire = codes "--wire" ∷ []
form_words Json = codes "--json" ∷ []
form_words Summary = codes "--summary" ∷ []
form_words Why = codes "--why" ∷ []
form_words Html = codes "--html" ∷ []

-- the words of a command; its number is in decimal, without sign or leading zero
abbrev pub words_of : Command → List (List ℕ)
words_of (Replay f) = codes "replay" ∷ form_words f
words_of (Make n) = codes "make" ∷ decimal n ∷ []
words_of (Demo n) = codes "demo" ∷ decimal n ∷ []
words_of (Threads h f) = codes "threads" ∷ decimal h ∷ form_words f
words_of Log = codes "log" ∷ []
words_of Check = codes "check" ∷ []
words_of Store = codes "store" ∷ []
words_of Map = codes "map" ∷ []

-- so many transactions can be made: from 1 to 256
abbrev pub is_count : ℕ → Bool
is_count n = nat_le 1 n && nat_le n 256

-- so many helpers can go beside the actors: from 1 to 16
abbrev pub is_helpers : ℕ → Bool
is_helpers h = nat_le 1 h && nat_le h 16

-- the trace of a run on threads is written as it is, as its summary, or as why
abbrev pub is_form_on_threads : Form → Bool
is_form_on_threads Plain = true
is_form_on_threads Summary = true
is_form_on_threads Why = true
is_form_on_threads _ = false

abbrev pub is_command : Command → Bool
is_command (Replay f) = true
is_command (Make n) = is_count n
is_command (Demo n) = is_count n
is_command (Threads h f) = is_form_on_threads f && is_helpers h
is_command Log = true
is_command Check = true
is_command Store = true
is_command Map = true

-- the words ask for this command
pub record Asks (ws : List (List ℕ)) (c : Command) : Type 0 where
  pub words : ws ≡ words_of c
  pub within : is_command c ≡ true

-- the words ask for none
abbrev pub AsksNothing : List (List ℕ) → Type 0
AsksNothing ws = (c : Command) → Asks ws c → ⊥
