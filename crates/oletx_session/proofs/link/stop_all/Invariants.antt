use Rattle.std.proofs.Common.{◌≡◌, ◌++◌, map, take, drop}
use Rattle.oletx_session.specs.Queues.{stopped_link}
use Rattle.oletx_session.proofs.link.stop_all.Given as goal

abbrev pub invariant-loop-link : goal.invariant-loop-link
invariant-loop-link l = l.link-items ≡ map stopped_link (take l.link-index l.initial.link-items) ++ drop l.link-index l.initial.link-items
