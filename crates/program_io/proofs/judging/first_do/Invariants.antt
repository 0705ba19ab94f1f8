use Rattle.std.proofs.Common.{◌≡◌, ◌+◌, ◌-◌, drop, length}
use Rattle.program_io.specs.Judged.{first_do, first_do_from}
use Rattle.program_io.proofs.judging.first_do.Given as goal

abbrev pub invariant-loop-l : goal.invariant-loop-l
invariant-loop-l l = record {
  count : l.n ≡ l.l-index;
  left : first_do_from (l.n + 1) (drop l.l-index l.lines) ≡ first_do l.lines;
}
