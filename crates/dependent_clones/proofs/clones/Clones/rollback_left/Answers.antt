use Rattle.std.proofs.Common.{rules}
use Rattle.dtx_values.specs.Clones.{is_open_rollback}
use Rattle.dtx_values.proofs.Counts.{how_many-count_by, how_many-le-length}
use Rattle.dependent_clones.proofs.clones.Clones.rollback_left.Goals as goal

pub returns : goal.returns
returns c = search (rules, how_many-count_by is_open_rollback c.args.self.now, how_many-le-length is_open_rollback c.args.self.now)
