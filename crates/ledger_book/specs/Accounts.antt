-- Accounts and their stores.
use Rattle.std.specs.Prelude.{◌≡◌, ◌≢◌, ℕ, ◌+◌, ◌≤◌, ◌<◌, ◌^◌, Option, Some}
use Rattle.kv_resource.specs.Store.{KvState, get_in, open_records, table_of}
use Rattle.ledger_book.specs.declared.account.Account.{Account}
use Rattle.ledger_book.specs.declared.account.Side.{Side}
use Rattle.ledger_book.specs.declared.account.Side.TheVariants.{Left, Right}

-- the number of a store's resource manager
abbrev pub manager_of : Side → ℕ
manager_of Left = 1
manager_of Right = 2

-- the one of two that is at this side
abbrev pub at_side : {A : Type 0} → Side → A → A → A
at_side Left left right = left
at_side Right left right = right

-- what an account of a store has
abbrev pub amount_of : {D : Type 0} → ℕ → KvState D → Option ℕ
amount_of number s = get_in number (table_of (open_records s.memory.slots))

-- A move can be: the accounts are two, and have these amounts; the first has enough, and the second has room.
pub record CanMove (from to : Account) (gives gets : Option ℕ) (amount : ℕ) : Type 0 where
  pub two : from ≢ to
  pub first : ℕ
  pub has_first : gives ≡ Some first
  pub second : ℕ
  pub has_second : gets ≡ Some second
  pub enough : amount ≤ first
  pub room : second + amount < 2 ^ 64
