use Rattle.std.proofs.Common.{rules}
use Rattle.dtx_values.proofs.Counts.{how_many-count_by}
use Rattle.dtx_model.specs.Waiting.{is_place}
use Rattle.half_parts.proofs.waits.places.Goals as goal

pub returns : goal.returns
returns c = search (rules, how_many-count_by is_place c.args.waits.now)
