use Rattle.std.proofs.Common.{◌≡◌, ◌≤◌, ◌+◌, ◌++◌, length, vec_capacity}
use Rattle.dtx_model.specs.Words.{all_of, past_of}
use Rattle.dtx_model.specs.Scopes.{beneath, once, taken_off, scope_transaction}
use Rattle.scope_context.proofs.context.take_off.Given as goal

abbrev pub invariant-loop-x : goal.invariant-loop-x
invariant-loop-x l =
    (beneath l.s.value (past_of l.initial.scopes.items) ≡ beneath l.s.value (past_of l.scopes.items))
    × (l.initial.rolled.items ++ once (past_of l.initial.rolled.items) (all_of scope_transaction (taken_off l.s.value (past_of l.initial.scopes.items)))
    ≡ l.rolled.items ++ once (past_of l.rolled.items) (all_of scope_transaction (taken_off l.s.value (past_of l.scopes.items))))
    × (length l.rolled.items + length l.scopes.items ≤ vec_capacity l.rolled)
    × (vec_capacity l.initial.scopes ≤ vec_capacity l.scopes)
    × (vec_capacity l.initial.rolled ≤ vec_capacity l.rolled)

abbrev pub decreases-loop-x : goal.decreases-loop-x
decreases-loop-x l = length l.scopes.items
