use Rattle.std.proofs.Common.{◌≡◌, take}
use Rattle.dtx_model.specs.Words.{past_of}
use Rattle.trace_page.specs.Geometry.{client_place}
use Rattle.trace_page.proofs.geometry.client_place.Given as goal

abbrev pub invariant-loop-i : goal.invariant-loop-i
invariant-loop-i l = l.place ≡ client_place l.a.value (past_of (take l.i l.clients))
