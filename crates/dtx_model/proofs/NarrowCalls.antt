-- What calls are answered, and write, while nothing is promoted.
use Rattle.std.proofs.Common.{◌≡◌, ℕ, ◌+◌, Bool, true, false, List, [], refl, ap, length, nat_le, arith}
use Rattle.dtx_values.specs.declared.call.Call.{Call}
use Rattle.dtx_values.specs.declared.call.Call.TheVariants.{Begin, Volatile, Durable, Promotable, Clone, Complete, Commit, Rollback, Marshal, Status, Await, Tick, Do, Lose, Gone, Reenlist, Recovered}
use Rattle.dtx_values.specs.declared.limits.TheConstants.{DURABLES, ENLISTMENTS}
use Rattle.dtx_values.specs.declared.number.EnlNo.{EnlNo}
use Rattle.dtx_values.specs.declared.number.RmNo.{RmNo}
use Rattle.dtx_values.specs.Row.{is_lasting}
use Rattle.dtx_values.specs.Table.{how_many}
use Rattle.dtx_model.specs.Observed.{Observed, branches, observe}
use Rattle.dtx_model.specs.Waiting.{managed}
use Rattle.dtx_model.specs.Answers.{is_full, is_full_of_durables, local_answer}
use Rattle.dtx_model.specs.World.{World, answer_at, half}
use Rattle.dtx_model.proofs.Narrow.{answer}
use Rattle.dtx_model.proofs.Unpromoted.{are_local, at_home, half-local, observe-local, unopened-local}

more_none : (n : ℕ) → n + 0 ≡ n
more_none n = grind (arith)

full_same : (o : Observed) (ms : List (EnlNo × RmNo)) → is_full (at_home o ms) ≡ nat_le ENLISTMENTS (length o.table)
full_same o ms = ap (nat_le ENLISTMENTS) (more_none (length o.table))

durables_same : (o : Observed) (ms : List (EnlNo × RmNo)) → is_full_of_durables (at_home o ms) ≡ nat_le DURABLES (how_many is_lasting o.table)
durables_same o ms = ap (nat_le DURABLES) (more_none (how_many is_lasting o.table))

-- the local side answers the call
abbrev pub is_answered_here : Call → Bool
is_answered_here (Lose t c u w) = false
is_answered_here (Gone e) = false
is_answered_here (Reenlist e) = false
is_answered_here (Recovered t r) = false
is_answered_here _ = true

-- what the local side answers
pub local-narrow : (t : ℕ) (o : Observed) (ms : List (EnlNo × RmNo)) (c : Call) (k : ℕ) → is_answered_here c ≡ true → local_answer t (at_home o ms) c k ≡ answer o c k
unfolding local_answer answer
local-narrow t o ms (Begin u d) k p = refl
local-narrow t o ms (Volatile u e x v) k p = rw (full_same o ms) refl
local-narrow t o ms (Durable u e r s) k p = rw (full_same o ms, durables_same o ms) refl
local-narrow t o ms (Promotable u e r v x q) k p = rw (full_same o ms) refl
local-narrow t o ms (Clone u c d) k p = refl
local-narrow t o ms (Complete c) k p = refl
local-narrow t o ms (Commit u) k p = refl
local-narrow t o ms (Rollback u) k p = refl
local-narrow t o ms (Marshal u) k p = refl
local-narrow t o ms (Status u) k p = refl
local-narrow t o ms (Await u) k p = refl
local-narrow t o ms (Tick u n) k p = refl
local-narrow t o ms (Do u n m) k p = refl
local-narrow t o ms _ k p = absurd cc

no_branches : (w : World) → are_local w.past ≡ true → branches w.past ≡ []
unfolding observe
no_branches w p = ap (λ (o : Observed). o.branches) (observe-local w.past p)

-- what any call is answered
answer_by : (t : ℕ) (w : World) (c : Call) (k : ℕ) (ms : List (EnlNo × RmNo)) → are_local w.past ≡ true → half w ≡ at_home (observe w.past) ms → answer_at t w c k ≡ answer (observe w.past) c k
unfolding answer_at answer observe
answer_by t w (Lose u c n m) k ms p h = rw (unopened-local c w.past p) refl
answer_by t w (Gone e) k ms p h = refl
answer_by t w (Reenlist e) k ms p h = rw (no_branches w p) refl
answer_by t w (Recovered u r) k ms p h = rw (no_branches w p) refl
answer_by t w (Begin u d) k ms p h = rw h (local-narrow t (observe w.past) ms (Begin u d) k refl)
answer_by t w (Volatile u e x v) k ms p h = rw h (local-narrow t (observe w.past) ms (Volatile u e x v) k refl)
answer_by t w (Durable u e r s) k ms p h = rw h (local-narrow t (observe w.past) ms (Durable u e r s) k refl)
answer_by t w (Promotable u e r v x q) k ms p h = rw h (local-narrow t (observe w.past) ms (Promotable u e r v x q) k refl)
answer_by t w (Clone u c d) k ms p h = rw h (local-narrow t (observe w.past) ms (Clone u c d) k refl)
answer_by t w (Complete c) k ms p h = rw h (local-narrow t (observe w.past) ms (Complete c) k refl)
answer_by t w (Commit u) k ms p h = rw h (local-narrow t (observe w.past) ms (Commit u) k refl)
answer_by t w (Rollback u) k ms p h = rw h (local-narrow t (observe w.past) ms (Rollback u) k refl)
answer_by t w (Marshal u) k ms p h = rw h (local-narrow t (observe w.past) ms (Marshal u) k refl)
answer_by t w (Status u) k ms p h = rw h (local-narrow t (observe w.past) ms (Status u) k refl)
answer_by t w (Await u) k ms p h = rw h (local-narrow t (observe w.past) ms (Await u) k refl)
answer_by t w (Tick u n) k ms p h = rw h (local-narrow t (observe w.past) ms (Tick u n) k refl)
answer_by t w (Do u n m) k ms p h = rw h (local-narrow t (observe w.past) ms (Do u n m) k refl)

pub answer-narrow : (t : ℕ) (w : World) (c : Call) (k : ℕ) → are_local w.past ≡ true → answer_at t w c k ≡ answer (observe w.past) c k
answer-narrow t w c k p = answer_by t w c k (managed w.calls w.past) p (half-local w.calls w.past p)
