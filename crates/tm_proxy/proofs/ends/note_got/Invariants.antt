use Rattle.std.proofs.Common.{◌≡◌, ◌++◌, map, take, drop}
use Rattle.dtx_values.specs.Ends.{note_got, tag_of}
use Rattle.tm_proxy.proofs.ends.note_got.Given as goal

abbrev pub invariant-loop-n : goal.invariant-loop-n
invariant-loop-n l = l.ends ≡ map (note_got l.c (tag_of l.m)) (take l.n-index l.initial.ends) ++ drop l.n-index l.initial.ends
