use Rattle.std.proofs.Common.{rules}
use Rattle.dtx_values.proofs.Counts.{how_many-count_by, how_many-le-length}
use Rattle.dtx_model.specs.Entries.{is_enlist_got}
use Rattle.history_judge.proofs.scans.enlists_got.Goals as goal

-- src/scans.rt:124:1
pub returns : goal.returns
returns c = search (rules, how_many-count_by is_enlist_got c.args.h.now, how_many-le-length is_enlist_got c.args.h.now)
