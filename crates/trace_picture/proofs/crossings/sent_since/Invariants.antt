use Rattle.std.proofs.Common.{◌≡◌, take}
use Rattle.dtx_model.specs.Words.{past_of}
use Rattle.trace_picture.specs.Crossings.{sent_since}
use Rattle.trace_picture.proofs.crossings.sent_since.Given as goal

abbrev pub invariant-loop-i : goal.invariant-loop-i
invariant-loop-i l = l.rows.items ≡ sent_since l.c l.d (past_of (take l.i l.h))
