-- Where the cell of each transaction of a run is.
use Rattle.std.specs.Prelude.{ℕ, ◌≡◌, ◌-◌, List, length, MatchOption, Option, Some, None, slice_index_or}
use Rattle.std.specs.List.{slice_get}
use Rattle.dtx_values.specs.declared.number.TxNo.{TxNo}
use Rattle.dtx_values.specs.declared.number.TheConstants.TxNo.{MAX}
use Rattle.tx_cells.specs.Board.{Named, board_of}

-- Among `cells`, the last cells of `all`, that of transaction t is at this place in `all`; None where none of them is.
abbrev pub IsAt : List Named → List Named → ℕ → Option ℕ → Type 0
IsAt all cells t place = MatchOption place (board_of cells t ≡ None) (λ i. (c : Named) × (slice_get all i ≡ Some c) × (board_of cells t ≡ Some c.board) × (c.transaction.value ≡ t))

-- a table has at the place of each transaction where its cell is in `all`, for these last cells of `all`
abbrev pub AreAt : List Named → List Named → List (Option ℕ) → Type 0
AreAt all cells places = (length places ≡ MAX) × ((t : TxNo) → IsAt all cells t.value (slice_index_or places (t.value - 1) None))

-- a table has at the place of each transaction where its cell is
abbrev pub AreFound : List Named → List (Option ℕ) → Type 0
AreFound cells places = AreAt cells cells places
