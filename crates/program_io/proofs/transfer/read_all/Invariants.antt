use Rattle.std.proofs.Common.{length, ◌-◌, ◌≡◌, ◌≤◌, take, drop}
use Rattle.std.specs.Option.{ForSome}
use Rattle.std.specs.Prelude.{Some, None}
use Rattle.program_io.proofs.transfer.read_all.Given as goal

abbrev pub invariant-loop-piece : goal.invariant-loop-piece
invariant-loop-piece g l = record {
  short : length l.bytes.items ≤ l.most;
  smooth : g.S.Source.faults l.source ≡ g.S.Source.faults l.initial.source;
  read : ForSome (g.S.Source.left l.initial.source) (λ b. l.bytes.items ≡ take (length l.bytes.items) b);
  left : ForSome (g.S.Source.left l.initial.source) (λ b. g.S.Source.left l.source ≡ Some (drop (length l.bytes.items) b));
  untold : g.S.Source.left l.initial.source ≡ None → g.S.Source.left l.source ≡ None;
}

abbrev pub decreases-loop-piece : goal.decreases-loop-piece
decreases-loop-piece g l = l.most - length l.bytes.items
