use Rattle.std.proofs.Common.{◌≡◌, false, take}
use Rattle.dtx_model.specs.Caused.{is_begin_sent}
use Rattle.dtx_model.specs.Words.{has}
use Rattle.world_parts.proofs.writing.has_begun.Given as goal

abbrev pub invariant-loop-i : goal.invariant-loop-i
invariant-loop-i l = has is_begin_sent (take l.i l.entries.items) ≡ false
