use Rattle.std.proofs.Common.{◌∙◌, ◌==◌, ℕ, ap}
use Rattle.dtx_values.specs.Clones.{is_open_block}
use Rattle.dtx_values.proofs.Counts.{how_many-none}
use Rattle.phase_zero.proofs.waves.is_free.Goals as goal

pub returns : goal.returns
returns c = ap (λ (n : ℕ). n == 0) c.blocking_left.ensures ∙ how_many-none is_open_block c.args.c.now
