use Rattle.std.proofs.Common.{◌≡◌, ◌≤◌, ◌++◌, drop, length, map}
use Rattle.entry_lists.proofs.placed.PlacedEntries.push_from.Given as goal

abbrev pub invariant-loop-i : goal.invariant-loop-i
invariant-loop-i l = record {
  all : l.self.items ++ map (λ e. (l.place, e)) (drop l.i l.entries.items) ≡ l.initial.self.items ++ map (λ e. (l.place, e)) (drop l.fn.from l.entries.items);
  room : length (drop l.i l.entries.items) ≤ l.self.room;
}
