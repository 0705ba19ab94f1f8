use Rattle.std.proofs.Common.{◌≡◌, ◌++◌, map, take, drop}
use Rattle.dtx_values.specs.Ends.{note_end}
use Rattle.tm_proxy.proofs.ends.note_end.Given as goal

abbrev pub invariant-loop-n : goal.invariant-loop-n
invariant-loop-n l = l.ends ≡ map (note_end l.c) (take l.n-index l.initial.ends) ++ drop l.n-index l.initial.ends
