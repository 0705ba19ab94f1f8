use Rattle.std.proofs.Common.{◌≡◌, ◌++◌, map, take, drop}
use Rattle.dtx_values.specs.Ends.{note_sent, tag_of}
use Rattle.tm_proxy.proofs.ends.note_sent.Given as goal

abbrev pub invariant-loop-n : goal.invariant-loop-n
invariant-loop-n l = l.ends ≡ map (note_sent l.c (tag_of l.m)) (take l.n-index l.initial.ends) ++ drop l.n-index l.initial.ends
