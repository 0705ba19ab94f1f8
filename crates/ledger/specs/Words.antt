-- The words of each command, and no others.
use Rattle.std.specs.Prelude.{ℕ, ◌≡◌, Bool, true, nat_le, ◌&&◌, List, [], ◌∷◌, ◌++◌, get_or, codes, decimal, Option, Some, None}
use Rattle.ledger.specs.declared.command.Asked.{Asked}
use Rattle.ledger.specs.declared.command.Command.{Command}
use Rattle.ledger.specs.declared.command.Command.TheVariants.{Make, Move, Show}
use Rattle.ledger_book.specs.declared.account.Account.{Account}
use Rattle.ledger_book.specs.declared.account.Side.{Side}
use Rattle.ledger_book.specs.declared.account.Side.TheVariants.{Left, Right}

-- the letter of a store
abbrev pub letter_of : Side → ℕ
letter_of Left = 108
letter_of Right = 114

-- the name of an account: the letter of its store, and its number in decimal without leading zeros
abbrev pub account_word : Account → List ℕ
account_word a = letter_of a.side ∷ decimal a.number

-- the words of a command over this folder
abbrev pub command_words : List ℕ → Command → List (List ℕ)
command_words dir (Make count amount) = codes "make" ∷ dir ∷ decimal count ∷ decimal amount ∷ []
command_words dir (Move from to amount) = codes "move" ∷ dir ∷ account_word from ∷ account_word to ∷ decimal amount ∷ []
command_words dir Show = codes "show" ∷ dir ∷ []

-- so many accounts can be made in each store: from 1 to 40
abbrev pub is_command : Command → Bool
is_command (Make count amount) = nat_le 1 count && nat_le count 40
is_command (Move from to amount) = true
is_command Show = true

-- the words ask for this command; the second of them names the folder
pub record AsksFor (ws : List (List ℕ)) (c : Command) : Type 0 where
  pub words : ws ≡ command_words (get_or ws 1 []) c
  pub within : is_command c ≡ true

-- the word that ends the process before its write or sync of this number
abbrev pub stop_word : ℕ → List ℕ
stop_word k = codes "--stop=" ++ decimal k

-- the word at the end that says where the process ends
abbrev pub stop_words : Option ℕ → List (List ℕ)
stop_words None = []
stop_words (Some k) = stop_word k ∷ []

-- The words ask for this: the words of a command, and where the process ends.
pub record Asks (ws : List (List ℕ)) (a : Asked) : Type 0 where
  pub before : List (List ℕ)
  pub command : AsksFor before a.command
  pub words : ws ≡ before ++ stop_words a.stop
