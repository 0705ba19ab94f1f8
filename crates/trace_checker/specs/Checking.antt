-- What holds of a checker after a trace. The trace stands oldest entry first here.
use Rattle.std.specs.Prelude.{◌-◌, List, [], ◌∷◌, ◌++◌, Option, Some, None, slice_index_or}
use Rattle.dtx_values.specs.declared.number.TxNo.{TxNo}
use Rattle.dtx_model.specs.Traces.{Placed, history}
use Rattle.dtx_model.specs.Words.{past_of}
use Rattle.trace_checker.specs.declared.book.Book.{Book}
use Rattle.trace_checker.specs.declared.checked.Why.{Why}
use Rattle.trace_checker.specs.declared.checker.Checker.{Checker}
use Rattle.trace_checker.specs.Keeps.{Keeps, Loses}
use Rattle.trace_checker.specs.Kept.{IsBookOf}

-- the trace keeps all, and there is a book of each transaction
pub record IsCheckerOf (T : List Placed) (c : Checker) : Type 0 where
  pub keeps : Keeps T
  pub books : (t : TxNo) (d : Book) → IsBookOf (history t.value (past_of T)) (slice_index_or c.books.items (t.value - 1) d)

-- after one more entry either all is kept and noted, or this is the first of the three that is lost
abbrev pub IsCheckedWith : List Placed → Placed → Option Why → Checker → Type 0
IsCheckedWith T x None c = IsCheckerOf (T ++ x ∷ []) c
IsCheckedWith T x (Some why) c = Loses why (T ++ x ∷ [])
