use Rattle.std.proofs.Common.{◌≡◌, take}
use Rattle.dtx_model.specs.Caused.{is_begin_sent}
use Rattle.dtx_model.specs.Words.{has, past_of}
use Rattle.run_endings.proofs.finishing.testing.has_begun.Given as goal

abbrev pub invariant-loop-i : goal.invariant-loop-i
invariant-loop-i l = l.begun ≡ has is_begin_sent (past_of (take l.i l.h.items))
