use Rattle.std.proofs.Common.{◌≡◌, ◌+◌, ◌++◌, drop, length, take, vec_capacity, vec_len}
use Rattle.dtx_model.specs.Scopes.{taken_off}
use Rattle.dtx_model.specs.Words.{past_of}
use Rattle.script_calls.proofs.Closing.{closed_notes}
use Rattle.script_calls.proofs.scope_lines.put_closed.Given as goal

abbrev pub invariant-loop-x : goal.invariant-loop-x
invariant-loop-x l =
    (l.entries.items ≡ l.initial.entries.items ++ closed_notes (take (length l.yielded) (past_of l.scopes)))
    × (taken_off l.s.value (past_of l.scopes) ≡ take (length l.yielded) (past_of l.scopes) ++ taken_off l.s.value (drop (length l.yielded) (past_of l.scopes)))
    × (vec_len l.entries ≡ vec_len l.initial.entries + length l.yielded)
    × (vec_capacity l.entries ≡ vec_capacity l.initial.entries)
