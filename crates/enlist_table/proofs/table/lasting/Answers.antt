use Rattle.std.proofs.Common.{rules}
use Rattle.dtx_values.specs.Row.{is_lasting}
use Rattle.dtx_values.proofs.Counts.{how_many-count_by}
use Rattle.enlist_table.proofs.table.lasting.Goals as goal

pub returns : goal.returns
returns c = search (rules, how_many-count_by is_lasting c.args.rows.now)
