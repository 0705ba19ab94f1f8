-- What the caller of a run leaves after its threads ended.
use Rattle.std.specs.Prelude.{◌≡◌, ◌&&◌, ◌||◌, true, List, map}
use Rattle.dtx_values.specs.declared.script.Line.{Line}
use Rattle.dtx_model.specs.AtLog.{follows}
use Rattle.dtx_model.specs.Outcome.{is_empty}
use Rattle.dtx_model.specs.Steps.{pending}
use Rattle.dtx_model.specs.Words.{each}
use Rattle.script_calls.specs.FirstCalls.{are_first, par_line}
use Rattle.script_calls.specs.Rows.{are_entered}
use Rattle.std.specs.List.{All}
use Rattle.tx_cells.specs.Board.{transactions_of}
use Rattle.tx_cells.specs.Cell.{Cell}
use Rattle.tx_cells.specs.LogCell.{LogCell}
use Rattle.tx_cells.specs.Ties.{TiesWith}

-- The cells of a run of the script s after its threads ended and the caller did the rest: they are those of the script's transactions, by number; each call was entered at each of them and at the log; nothing is pending; each ties with the log, and
-- follows it; and at each, and at the log, the calls of the lines before `par` come first.
pub record AreFinished {D : Type 0} (s : List Line) (cells : List Cell) (log : LogCell D) : Type 0 where
  pub named : map (λ c. c.tx.transaction.t.value) cells ≡ transactions_of s
  pub entered : each (λ c. are_entered c.rows) cells ≡ true
  pub entered_at_log : are_entered log.rows ≡ true
  pub settled : each (λ c. is_empty (pending c.tx.world)) cells ≡ true
  pub tied : All (λ c. TiesWith c.tx log.log) cells
  pub followed : each (λ c. follows log.past c.tx.world.past) cells ≡ true
  pub first : each (λ c. are_first (par_line s) c.tx.world.past) cells ≡ true
  pub first_at_log : are_first (par_line s) log.past ≡ true
