use Rattle.std.proofs.Common.{rules, not}
use Rattle.dtx_values.specs.Row.{has_voted}
use Rattle.dtx_values.specs.declared.row.Row.{Row}
use Rattle.dtx_values.proofs.Counts.{how_many-count_by, how_many-le-length}
use Rattle.enlist_table.proofs.table.EnlistTable.voters_left.Goals as goal

pub returns : goal.returns
returns c = search (rules, how_many-count_by (λ (x : Row). not (has_voted x)) c.args.self.now, how_many-le-length (λ (x : Row). not (has_voted x)) c.args.self.now)
