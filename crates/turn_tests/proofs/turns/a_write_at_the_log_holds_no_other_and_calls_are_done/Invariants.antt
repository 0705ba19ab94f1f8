use Rattle.std.proofs.Common.{false}
use Rattle.turn_tests.proofs.turns.a_write_at_the_log_holds_no_other_and_calls_are_done.Given as goal

-- the run is named by what the test has
abbrev pub ghosts-ran : goal.ghosts-ran
ghosts-ran g a = record { script = a.script.now; objects = 0; honest = false; faults = 0 }
