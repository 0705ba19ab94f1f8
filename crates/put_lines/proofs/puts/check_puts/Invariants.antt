use Rattle.std.proofs.Common.{◌≡◌, take, true, []}
use Rattle.dtx_model.specs.Words.{past_of}
use Rattle.heard_notes.specs.Whose.{whose}
use Rattle.put_lines.specs.Input.{are_good}
use Rattle.put_lines.specs.Keys.{AreKeys}
use Rattle.put_lines.proofs.puts.check_puts.Given as goal

abbrev pub invariant-loop-i : goal.invariant-loop-i
invariant-loop-i l = record {
  good : are_good l.most l.lines (whose l.fn.of) [] (take l.i l.puts) ≡ true;
  keys : AreKeys (past_of (take l.i l.puts)) l.keys;
}
