use Rattle.std.proofs.Common.{◌≡◌, ◌≤◌, take}
use Rattle.dtx_model.specs.Words.{past_of}
use Rattle.trace_page.specs.Geometry.{enlistment_place}
use Rattle.trace_page.proofs.geometry.enlistment_place.Given as goal

abbrev pub invariant-loop-i : goal.invariant-loop-i
invariant-loop-i l = (l.place ≡ enlistment_place l.e.value (past_of (take l.i l.enlistments))) × (l.place ≤ l.i)
