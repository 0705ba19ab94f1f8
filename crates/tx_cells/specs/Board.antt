-- What the board of a transaction has, what is known of it, and the cells of a run.
use Rattle.std.specs.Prelude.{ℕ, ◌≡◌, ◌==◌, List, [], ◌∷◌, filter, Option, Some, None, if◌then◌else◌}
use Rattle.std.specs.List.{range_with_len}
use Rattle.dtx_values.specs.declared.entry.Entry.{Entry}
use Rattle.dtx_values.specs.declared.number.TxNo.{TxNo}
use Rattle.dtx_values.specs.declared.script.Line.{Line}
use Rattle.dtx_values.specs.declared.words.Outcome.{Outcome}
use Rattle.dtx_model.specs.Words.{latest}
use Rattle.dtx_model.specs.Entries.{client_told_of}
use Rattle.dtx_model.specs.Grammar.{OfTransaction, is_made}
use Rattle.dtx_model.specs.Caused.{Caused}

-- a transaction, what its client was told, and its history up to there, newest entry first
pub record Post : Type 0 where
  pub transaction : TxNo
  pub outcome : Outcome
  pub past : List Entry

-- The history is one of this transaction in a run of the script s in which the first k managers have an object, and its client was told this outcome in it.
pub record IsPosted (s : List Line) (k : ℕ) (p : Post) : Type 0 where
  pub caused : Caused s k p.transaction.value p.past
  pub told : latest client_told_of p.past ≡ Some p.outcome

-- a note of a board cell: the cell's name, and what is known to be in it
pub record Noted : Type 0 where
  pub cell : ℕ
  pub known : Option Post

-- a transaction, and the name of its board cell
pub record Named : Type 0 where
  pub transaction : TxNo
  pub board : ℕ

-- the name of the board cell of transaction t
abbrev pub board_of : List Named → ℕ → Option ℕ
board_of [] t = None
board_of (c ∷ cs) t = if c.transaction.value == t then Some c.board else board_of cs t

-- the numbers of the transactions that the script names, in order: those that a line of it makes
unfoldable pub transactions_of : List Line → List ℕ
transactions_of s = filter (λ n. is_made s (OfTransaction n)) (range_with_len 1 256)
