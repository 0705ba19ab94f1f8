-- What a call writes while nothing is promoted; and that a call which waits begins a promotion.
use Rattle.std.proofs.Common.{◌≡◌, ℕ, Bool, true, false, ◌&&◌, ◌||◌, not, List, [], ◌∷◌, Option, Some, None, refl, sym, ap, ◌∙◌, filter, is_some, if◌then◌else◌}
use Rattle.dtx_values.specs.declared.call.Call.{Call}
use Rattle.dtx_values.specs.declared.call.Call.TheVariants.{Begin, Volatile, Durable, Promotable, Clone, Complete, Commit, Rollback, Marshal, Status, Await, Tick, Do, Lose, Gone, Reenlist, Recovered}
use Rattle.dtx_values.specs.declared.entry.Answer.{Answer}
use Rattle.dtx_values.specs.declared.entry.Answer.TheVariants.{Fine, True, Wait, NoSuch, TooLate}
use Rattle.dtx_values.specs.declared.entry.Entry.{Entry}
use Rattle.dtx_values.specs.declared.entry.Entry.TheVariants.{Called, Clock, CommitAsked, Lost}
use Rattle.dtx_values.specs.declared.message.Conn.{Conn}
use Rattle.dtx_values.specs.declared.number.ActorNo.{ActorNo}
use Rattle.dtx_values.specs.declared.number.EnlNo.{EnlNo}
use Rattle.dtx_values.specs.declared.number.RmNo.{RmNo}
use Rattle.dtx_values.specs.declared.words.Outcome.{Outcome}
use Rattle.dtx_values.specs.declared.words.Outcome.TheVariants.{InDoubt}
use Rattle.dtx_values.specs.Clones.{is_open_rollback}
use Rattle.dtx_values.specs.Table.{voted}
use Rattle.dtx_model.specs.Words.{has}
use Rattle.dtx_model.specs.Observed.{Observed, observe, track}
use Rattle.dtx_model.specs.Waiting.{managed}
use Rattle.dtx_model.specs.Half.{Half, decide, is_handed, sees, veto, veto_if as full_veto_if}
use Rattle.dtx_model.specs.Wires.{is_open_wire}
use Rattle.dtx_model.specs.Facts.{facts_if, has_facts, is_late as full_late, local_facts, reaches, ticked, time_up as full_time_up, is_done, is_waiting_answer, lost_outcome}
use Rattle.dtx_model.specs.Answers.{if_begun, unless_ended}
use Rattle.dtx_model.specs.World.{World, connections_of, facts_at, gone_by, gone_unlinked, half, open_ones}
use Rattle.dtx_model.specs.Steps.{Calls, block_at}
use Rattle.dtx_model.proofs.Narrow.{answer, block, decided_if, facts, is_late, time_up, veto_if}
use Rattle.dtx_model.proofs.Bools.{not_both}
use Rattle.dtx_model.proofs.NarrowCalls.{answer-narrow, is_answered_here}
use Rattle.dtx_model.proofs.Unpromoted.{are_local, at_home, half-local, narrow, unopened-local}

veto_same : (o : Observed) (ms : List (EnlNo × RmNo)) (b : Bool) → full_veto_if b (sees (at_home o ms) CommitAsked) ≡ veto_if b
unfolding track veto
veto_same o ms true = refl
veto_same o ms false = refl

time_same : (o : Observed) (ms : List (EnlNo × RmNo)) (late reached : Bool) → full_late (narrow o) ≡ late → (if reached then full_time_up (at_home o ms) else []) ≡ (if reached then time_up late else [])
unfolding veto
time_same o ms late false e = refl
time_same o ms true true e = rw e refl
time_same o ms false true e = rw e refl

-- the calls whose facts the local side writes
abbrev pub is_written_here : Call → Bool
is_written_here (Marshal t) = false
is_written_here c = is_answered_here c

-- the facts of a call that was done, where the local side answers it
pub facts-narrow : (t : ℕ) (o : Observed) (ms : List (EnlNo × RmNo)) (c : Call) (x : Answer) → is_written_here c ≡ true → is_done x ≡ true → local_facts t (at_home o ms) c x ≡ facts o c
unfolding track veto
facts-narrow t o ms (Begin u d) x p q = refl
facts-narrow t o ms (Volatile u e y v) x p q = refl
facts-narrow t o ms (Durable u e r s) Fine p q = refl
facts-narrow t o ms (Durable u e r s) True p q = refl
facts-narrow t o ms (Durable u e r s) _ p q = absurd cc
facts-narrow t o ms (Promotable u e r v y z) x p q = refl
facts-narrow t o ms (Clone u c d) x p q = refl
facts-narrow t o ms (Complete c) x p q = refl
facts-narrow t o ms (Commit u) x p q = ap (λ es. CommitAsked ∷ es) (veto_same o ms (has is_open_rollback o.clones))
facts-narrow t o ms (Rollback u) x p q = refl
facts-narrow t o ms (Marshal u) x p q = absurd cc
facts-narrow t o ms (Status u) x p q = refl
facts-narrow t o ms (Await u) x p q = refl
facts-narrow t o ms (Tick u n) x p q = ap (λ es. Clock (ticked o.clock n) ∷ es) (time_same o ms (is_late o) (reaches o.limit o.clock (ticked o.clock n)) refl)
facts-narrow t o ms (Do u n m) x p q = refl
facts-narrow t o ms _ x p q = absurd cc

-- an enlistment is lost: no connection of it is open
closed : (w : World) (c : Conn) → are_local w.past ≡ true → is_open_wire c w.past ≡ false
closed w c p = rw (unopened-local c w.past p) refl

none_open : (w : World) (cs : List Conn) → are_local w.past ≡ true → filter (λ c. is_open_wire c w.past) cs ≡ []
none_open w [] p = refl
none_open w (c ∷ cs) p = rw (closed w c p) (none_open w cs p)

decides_same : (o : Observed) (ms : List (EnlNo × RmNo)) (e : EnlNo) (decided voted handed : Bool) →
    (if decided || voted then [] else if handed then decide (sees (at_home o ms) (Lost e)) InDoubt else veto (sees (at_home o ms) (Lost e))) ≡ decided_if (not decided && not voted) (lost_outcome handed)
unfolding track veto
decides_same o ms e true voted handed = refl
decides_same o ms e false true handed = refl
decides_same o ms e false false true = refl
decides_same o ms e false false false = refl

pub unlinked-narrow : (o : Observed) (ms : List (EnlNo × RmNo)) (e : EnlNo) → gone_unlinked (at_home o ms) e ≡ facts o (Gone e)
unfolding track
unlinked-narrow o ms e = ap (λ es. Lost e ∷ es) (decides_same o ms e (is_some o.decided) (voted e.value o.table) (is_handed o.handed e.value))

pub open_ones-local : (w : World) (e : EnlNo) → are_local w.past ≡ true → open_ones w e ≡ []
open_ones-local w e p = none_open w (connections_of (half w).seen e) p

gone_same : (t : ℕ) (w : World) (e : EnlNo) (x : Answer) → are_local w.past ≡ true → facts_at t w (Gone e) x ≡ facts (observe w.past) (Gone e)
gone_same t w e x p =
    ap (gone_by w e) (open_ones-local w e p) ∙ ap (λ (h : Half). gone_unlinked h e) (half-local w.calls w.past p) ∙ unlinked-narrow (observe w.past) (managed w.calls w.past) e

-- the block of a call
written_same : (t : ℕ) (w : World) (c : Call) (x : Answer) → are_local w.past ≡ true → is_written_here c ≡ true → facts_at t w c x ≡ local_facts t (half w) c x
written_same t w (Begin u d) x p q = refl
written_same t w (Volatile u e y v) x p q = refl
written_same t w (Durable u e r s) x p q = refl
written_same t w (Promotable u e r v y z) x p q = refl
written_same t w (Clone u c d) x p q = refl
written_same t w (Complete c) x p q = refl
written_same t w (Commit u) x p q = refl
written_same t w (Rollback u) x p q = refl
written_same t w (Status u) x p q = refl
written_same t w (Await u) x p q = refl
written_same t w (Tick u n) x p q = refl
written_same t w (Do u n m) x p q = refl
written_same t w _ x p q = absurd cc

here_same : (t : ℕ) (w : World) (c : Call) (x : Answer) → are_local w.past ≡ true → is_written_here c ≡ true → is_done x ≡ true → facts_at t w c x ≡ facts (observe w.past) c
here_same t w c x p q d =
    written_same t w c x p q ∙ ap (λ (h : Half). local_facts t h c x) (half-local w.calls w.past p) ∙ facts-narrow t (observe w.past) (managed w.calls w.past) c x q d

if_same : (x : Answer) (es fs : List Entry) → is_waiting_answer x ≡ false → (is_done x ≡ true → es ≡ fs) → facts_if (has_facts x) es ≡ facts_if (is_done x) fs
if_same Fine es fs p f = f refl
if_same True es fs p f = f refl
if_same Wait es fs p f = absurd cc
if_same _ es fs p f = refl

undone_late : (l : Option ℕ) (d : Option Outcome) (sealed : Bool) → is_done (if_begun l (unless_ended d (if sealed then TooLate else Wait))) ≡ false
undone_late None d sealed = refl
undone_late (Some n) (Some x) sealed = refl
undone_late (Some n) None true = refl
undone_late (Some n) None false = refl

undone_unknown : (l : Option ℕ) → is_done (if_begun l NoSuch) ≡ false
undone_unknown None = refl
undone_unknown (Some n) = refl

done_facts : (t : ℕ) (w : World) (c : Call) (k : ℕ) (x : Answer) → are_local w.past ≡ true → answer (observe w.past) c k ≡ x → is_done x ≡ true → facts_at t w c x ≡ facts (observe w.past) c
unfolding answer observe
done_facts t w (Marshal u) k x p e d = absurd (not_both (is_done x) d (ap is_done (sym e) ∙ undone_late (observe w.past).limit (observe w.past).decided (observe w.past).sealed))
done_facts t w (Lose u c n m) k x p e d = absurd (not_both (is_done x) d (ap is_done (sym e) ∙ undone_unknown (observe w.past).limit))
done_facts t w (Gone e) k x p q d = gone_same t w e x p
done_facts t w (Reenlist e) k x p q d = absurd (not_both (is_done x) d (ap is_done (sym q) ∙ undone_unknown (observe w.past).limit))
done_facts t w (Recovered u r) k x p e d = absurd (not_both (is_done x) d (ap is_done (sym e) ∙ undone_unknown (observe w.past).limit))
done_facts t w (Begin u y) k x p e d = here_same t w (Begin u y) x p refl d
done_facts t w (Volatile u e y v) k x p q d = here_same t w (Volatile u e y v) x p refl d
done_facts t w (Durable u e r s) k x p q d = here_same t w (Durable u e r s) x p refl d
done_facts t w (Promotable u e r v y z) k x p q d = here_same t w (Promotable u e r v y z) x p refl d
done_facts t w (Clone u c y) k x p e d = here_same t w (Clone u c y) x p refl d
done_facts t w (Complete c) k x p e d = here_same t w (Complete c) x p refl d
done_facts t w (Commit u) k x p e d = here_same t w (Commit u) x p refl d
done_facts t w (Rollback u) k x p e d = here_same t w (Rollback u) x p refl d
done_facts t w (Status u) k x p e d = here_same t w (Status u) x p refl d
done_facts t w (Await u) k x p e d = here_same t w (Await u) x p refl d
done_facts t w (Tick u n) k x p e d = here_same t w (Tick u n) x p refl d
done_facts t w (Do u n m) k x p e d = here_same t w (Do u n m) x p refl d

pub call-narrow : (t : ℕ) (w : World) (n : ℕ) (a : ActorNo) (c : Call) (k : ℕ) → are_local w.past ≡ true → is_waiting_answer (answer (observe w.past) c k) ≡ false →
    block_at t w (Calls n a c k) ≡ block (observe w.past) (Calls n a c k)
unfolding block_at block
call-narrow t w n a c k p q =
    ap (λ x. Called n a x ∷ facts_if (has_facts x) (facts_at t w c x)) (answer-narrow t w c k p)
    ∙ ap (λ es. Called n a (answer (observe w.past) c k) ∷ es)
    (if_same (answer (observe w.past) c k) (facts_at t w c (answer (observe w.past) c k)) (facts (observe w.past) c) q (done_facts t w c k (answer (observe w.past) c k) p refl))
