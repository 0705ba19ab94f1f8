-- Where no promotion begins, each entry that steps make is local, and each block is that of proofs/Narrow.
use Rattle.std.specs.List.{flat_map}
use Rattle.std.proofs.Common.{◌≡◌, ◌⊎◌, inl, inr, ℕ, Bool, true, false, ◌&&◌, ◌||◌, not, List, [], ◌∷◌, ◌++◌, Option, Some, None, refl, sym, ap, ◌∙◌, find, is_some, if◌then◌else◌, subst, length, nat_le}
use Rattle.dtx_values.specs.declared.call.Call.{Call}
use Rattle.dtx_values.specs.declared.call.Call.TheVariants.{Begin, Volatile, Durable, Promotable, Clone, Complete, Commit, Rollback, Marshal, Status, Await, Tick, Do, Lose, Gone, Reenlist, Recovered}
use Rattle.dtx_values.specs.declared.entry.Answer.{Answer}
use Rattle.dtx_values.specs.declared.entry.Answer.TheVariants.{Fine, True, False, Wait, Did, TooLate, Many, NoSuch, Already}
use Rattle.dtx_values.specs.declared.entry.Entry.{Entry}
use Rattle.dtx_values.specs.declared.entry.Entry.TheVariants.{Called}
use Rattle.dtx_values.specs.declared.limits.TheConstants.{CLONES, DURABLES, ENLISTMENTS}
use Rattle.dtx_values.specs.declared.note.Reply.{Reply}
use Rattle.dtx_values.specs.declared.note.Reply.TheVariants.{Vote as VoteReply}
use Rattle.dtx_values.specs.declared.number.ActorNo.{ActorNo}
use Rattle.dtx_values.specs.declared.number.EnlNo.{EnlNo}
use Rattle.dtx_values.specs.declared.number.RmNo.{RmNo}
use Rattle.dtx_values.specs.declared.number.TxNo.{TxNo}
use Rattle.dtx_values.specs.declared.script.Support.{Support}
use Rattle.dtx_values.specs.declared.words.Cause.{Cause}
use Rattle.dtx_values.specs.declared.words.Outcome.{Outcome}
use Rattle.dtx_values.specs.Clones.{is_clone, is_complete_clone, is_open_rollback}
use Rattle.dtx_values.specs.Owners.{cause_of, may_own, owner_of}
use Rattle.dtx_values.specs.Row.{is_lasting}
use Rattle.dtx_values.specs.Support.{is_single}
use Rattle.dtx_values.specs.Table.{how_many, voted}
use Rattle.dtx_values.specs.Vote.{is_no}
use Rattle.dtx_values.specs.Waves.{all_voted, is_over, next_ask}
use Rattle.dtx_model.specs.declared.listener.Listener.{Listener}
use Rattle.dtx_model.specs.Words.{has, onto}
use Rattle.dtx_model.specs.Observed.{Observed, observe}
use Rattle.dtx_model.specs.Waiting.{managed}
use Rattle.dtx_model.specs.Plans.{plan_of}
use Rattle.dtx_model.specs.Half.{Half, is_gone, is_handed, stands}
use Rattle.dtx_model.specs.Coordinated.{may_free, may_log}
use Rattle.dtx_model.specs.Acts.{act_entries as full_act, tell}
use Rattle.dtx_model.specs.Replies.{due_of, reply_entries as full_reply}
use Rattle.dtx_model.specs.Answers.{await_answer, clone_answer, complete_answer, gone_answer, if_begun, status_answer, unless_ended, unless_late, wait_for}
use Rattle.dtx_model.specs.Facts.{begin_promotion, durable_waits, facts_if, has_facts, local_facts, reaches, ticked, is_done, is_waiting_answer, lost_outcome}
use Rattle.dtx_model.specs.World.{World, core, facts_at, half, has_left}
use Rattle.dtx_model.specs.Steps.{LogAnswer, Step, Calls, Replies, Acts, Coordinates, Delivers, Stops, Restarts, after, block_at, core_act, deliveries_on, local_pending, pending}
use Rattle.dtx_model.specs.Caused.{FreelyCaused, MayCome, Ran, is_begin_sent, is_unpromoted, may_coordinate}
use Rattle.dtx_model.proofs.Bools.{and_both, and_left, and_right, not_both, not_true, or_first, or_second}
use Rattle.dtx_model.proofs.Narrow.{act_by, act_entries, after_seal, answer, before_seal, block, commit_act, decided_if, facts, is_late, is_to_tell, reply_entries, time_up, undecided_act, veto_if}
use Rattle.dtx_model.proofs.Narrowing.{act-narrow}
use Rattle.dtx_model.proofs.NarrowReplies.{reply-narrow}
use Rattle.dtx_model.proofs.NarrowCalls.{answer-narrow}
use Rattle.dtx_model.proofs.NarrowFacts.{call-narrow}
use Rattle.dtx_model.proofs.Unpromoted.{are_local, at_home, begin-local, coordinate-local, half-local, is_local, left-local, observe-local}
use Rattle.dtx_model.specs.Promotes.{is_promoting}

-- blocks are local
veto_local : (b : Bool) → are_local (veto_if b) ≡ true
veto_local true = refl
veto_local false = refl

decided_local : (b : Bool) (x : Outcome) → are_local (decided_if b x) ≡ true
decided_local true x = refl
decided_local false x = refl

time_local : (reached late : Bool) → are_local (if reached then time_up late else []) ≡ true
time_local true true = refl
time_local true false = refl
time_local false late = refl

facts_local : (o : Observed) (c : Call) → are_local (facts o c) ≡ true
facts_local o (Commit u) = veto_local (has is_open_rollback o.clones)
facts_local o (Tick u n) = time_local (reaches o.limit o.clock (ticked o.clock n)) (is_late o)
facts_local o (Gone e) = decided_local (not (is_some o.decided) && not (voted e.value o.table)) (lost_outcome (is_handed o.handed e.value))
facts_local o _ = refl

if_local : (b : Bool) (es : List Entry) → are_local es ≡ true → are_local (facts_if b es) ≡ true
if_local true es p = p
if_local false es p = refl

called_local : (n : ℕ) (a : ActorNo) (x : Answer) (es : List Entry) → is_waiting_answer x ≡ false → are_local es ≡ true → are_local (Called n a x ∷ es) ≡ true
called_local n a Wait es p q = absurd cc
called_local n a _ es p q = q

pub call_local : (o : Observed) (n : ℕ) (a : ActorNo) (c : Call) (k : ℕ) → is_waiting_answer (answer o c k) ≡ false → are_local (block o (Calls n a c k)) ≡ true
unfolding block
call_local o n a c k p = called_local n a (answer o c k) (facts_if (is_done (answer o c k)) (facts o c)) p (if_local (is_done (answer o c k)) (facts o c) (facts_local o c))

pub reply_local : (e : EnlNo) (r : Reply) → are_local (reply_entries e r) ≡ true
reply_local e (VoteReply v) = veto_local (is_no v)
reply_local e _ = refl

tell_local : (x : Outcome) (l : Option Listener) (told : Option Outcome) → are_local (tell x l told) ≡ true
tell_local x (Some l) told = refl
tell_local x None (Some y) = refl
tell_local x None None = refl

zero_local : (e : Option EnlNo) (over : Bool) → are_local (before_seal e over) ≡ true
zero_local (Some e) over = refl
zero_local None true = refl
zero_local None false = refl

commit_local : (handed : Bool) (owner : Option EnlNo) → are_local (commit_act handed owner) ≡ true
commit_local true owner = refl
commit_local false (Some e) = refl
commit_local false None = refl

seal_local : (e : Option EnlNo) (voted : Bool) (xs : List Entry) → are_local xs ≡ true → are_local (after_seal e voted xs) ≡ true
seal_local (Some e) voted xs h = refl
seal_local None true xs h = h
seal_local None false xs h = refl

undecided_local : (commit sealed : Bool) (xs ys : List Entry) → are_local xs ≡ true → are_local ys ≡ true → are_local (undecided_act commit sealed xs ys) ≡ true
undecided_local false sealed xs ys h k = refl
undecided_local true false xs ys h k = h
undecided_local true true xs ys h k = k

act_by_local : (d : Option Outcome) (o : Observed) → are_local (act_by d o) ≡ true
act_by_local (Some x) o = tell_local x (find (is_to_tell o x) o.listeners) o.told_client
act_by_local None o =
    undecided_local o.commit o.sealed (before_seal (next_ask o.table true) (is_over o.table o.clones 0)) (after_seal (next_ask o.table false) (all_voted o.table) (commit_act (is_some o.handed) (owner_of o.table)))
    (zero_local (next_ask o.table true) (is_over o.table o.clones 0)) (seal_local (next_ask o.table false) (all_voted o.table) (commit_act (is_some o.handed) (owner_of o.table)) (commit_local (is_some o.handed) (owner_of o.table)))

pub act_local : (o : Observed) → are_local (act_entries o) ≡ true
unfolding act_entries
act_local o = act_by_local o.decided o

-- a call that waits begins a promotion
durable_waits_for : (l : Option ℕ) (d : Option Outcome) (sealed full many : Bool) (c : Option Cause) →
    if_begun l (unless_ended d (if sealed then TooLate else if full then Many ENLISTMENTS else if many then Many DURABLES else wait_for c)) ≡ Wait → (x : Cause) × (c ≡ Some x)
durable_waits_for None d sealed full many c p = absurd cc
durable_waits_for (Some n) (Some x) sealed full many c p = absurd cc
durable_waits_for (Some n) None true full many c p = absurd cc
durable_waits_for (Some n) None false true many c p = absurd cc
durable_waits_for (Some n) None false false true c p = absurd cc
durable_waits_for (Some n) None false false false None p = absurd cc
durable_waits_for (Some n) None false false false (Some x) p = (x, refl)

over_wait : (l : Option ℕ) (d : Option Outcome) (x : Answer) → is_waiting_answer x ≡ false → is_waiting_answer (if_begun l (unless_ended d x)) ≡ false
over_wait None d x p = refl
over_wait (Some n) (Some y) x p = refl
over_wait (Some n) None x p = p

begun_wait : (l : Option ℕ) (x : Answer) → is_waiting_answer x ≡ false → is_waiting_answer (if_begun l x) ≡ false
begun_wait None x p = refl
begun_wait (Some n) x p = p

one_bar : (a : Bool) → is_waiting_answer (if a then TooLate else Fine) ≡ false
one_bar true = refl
one_bar false = refl

two_bars : (a b : Bool) (x : ℕ) → is_waiting_answer (if a then TooLate else if b then Many x else Fine) ≡ false
two_bars true b x = refl
two_bars false true x = refl
two_bars false false x = refl

three_bars : (a b c : Bool) (x : ℕ) → is_waiting_answer (if a then TooLate else if not b then False else if c then Many x else True) ≡ false
three_bars true b c x = refl
three_bars false false c x = refl
three_bars false true true x = refl
three_bars false true false x = refl

two_ends : (a b : Bool) → is_waiting_answer (if not a then NoSuch else if b then Already else Fine) ≡ false
two_ends false b = refl
two_ends true true = refl
two_ends true false = refl

status_wait : (x : Option Outcome) → is_waiting_answer (status_answer x) ≡ false
status_wait (Some x) = refl
status_wait None = refl

await_wait : (x : Option Outcome) → is_waiting_answer (await_answer x) ≡ false
await_wait (Some x) = refl
await_wait None = refl

promotes_durable : (t : ℕ) (w : World) (u : TxNo) (e : EnlNo) (r : RmNo) (s : Support) (k : ℕ) (n : ℕ) (a : ActorNo) (c : Cause) → are_local w.past ≡ true → cause_of (observe w.past).table (is_single s) ≡ Some c →
    has is_promoting (Called n a Wait ∷ facts_if true (facts_at t w (Durable u e r s) Wait)) ≡ true
promotes_durable t w u e r s k n a c p q =
    ap (λ (h : Half). has is_promoting (durable_waits t h e r (is_single s))) (half-local w.calls w.past p)
    ∙ ap (λ x. has is_promoting (begin_promotion (at_home (observe w.past) (managed w.calls w.past)) x)) q

promotes_marshal : (t : ℕ) (w : World) (u : TxNo) (n : ℕ) (a : ActorNo) → are_local w.past ≡ true → has is_promoting (Called n a Wait ∷ facts_if true (facts_at t w (Marshal u) Wait)) ≡ true
promotes_marshal t w u n a p = ap (λ (h : Half). has is_promoting (local_facts t h (Marshal u) Wait)) (half-local w.calls w.past p)

waits_block : (t : ℕ) (w : World) (n : ℕ) (a : ActorNo) (c : Call) (k : ℕ) → are_local w.past ≡ true → answer (observe w.past) c k ≡ Wait →
    has is_promoting (Called n a Wait ∷ facts_if true (facts_at t w c Wait)) ≡ true
unfolding answer observe
waits_block t w n a (Durable u e r s) k p q =
    let o = observe w.past in
    let x = durable_waits_for o.limit o.decided o.sealed (nat_le ENLISTMENTS (length o.table)) (nat_le DURABLES (how_many is_lasting o.table)) (cause_of o.table (is_single s)) q in
    promotes_durable t w u e r s k n a x.0 p x.1
waits_block t w n a (Marshal u) k p q = promotes_marshal t w u n a p
waits_block t w n a (Begin u d) k p q = absurd cc
waits_block t w n a (Volatile u e y v) k p q =
    let o = observe w.past in
    absurd (not_both (is_waiting_answer (answer o (Volatile u e y v) k)) (ap is_waiting_answer q) (over_wait o.limit o.decided (if o.sealed then TooLate else if nat_le ENLISTMENTS (length o.table) then Many ENLISTMENTS else Fine) (two_bars o.sealed (nat_le ENLISTMENTS (length o.table)) ENLISTMENTS)))
waits_block t w n a (Promotable u e r v y z) k p q =
    let o = observe w.past in
    absurd (not_both (is_waiting_answer (answer o (Promotable u e r v y z) k)) (ap is_waiting_answer q) (over_wait o.limit o.decided (if o.sealed then TooLate else if not (may_own o.table false) then False else if nat_le ENLISTMENTS (length o.table) then Many ENLISTMENTS else True) (three_bars o.sealed (may_own o.table false) (nat_le ENLISTMENTS (length o.table)) ENLISTMENTS)))
waits_block t w n a (Clone u c d) k p q =
    let o = observe w.past in
    absurd (not_both (is_waiting_answer (answer o (Clone u c d) k)) (ap is_waiting_answer q) (over_wait o.limit o.decided (clone_answer o.commit (length o.clones)) (two_bars o.commit (nat_le CLONES (length o.clones)) CLONES)))
waits_block t w n a (Complete c) k p q =
    let o = observe w.past in
    absurd (not_both (is_waiting_answer (answer o (Complete c) k)) (ap is_waiting_answer q) (over_wait o.limit o.decided (complete_answer (has (is_clone c.value) o.clones) (has (is_complete_clone c.value) o.clones)) (two_ends (has (is_clone c.value) o.clones) (has (is_complete_clone c.value) o.clones))))
waits_block t w n a (Commit u) k p q =
    let o = observe w.past in absurd (not_both (is_waiting_answer (answer o (Commit u) k)) (ap is_waiting_answer q) (over_wait o.limit o.decided (unless_late o.commit) (one_bar o.commit)))
waits_block t w n a (Rollback u) k p q =
    let o = observe w.past in absurd (not_both (is_waiting_answer (answer o (Rollback u) k)) (ap is_waiting_answer q) (over_wait o.limit o.decided (unless_late o.sealed) (one_bar o.sealed)))
waits_block t w n a (Status u) k p q =
    let o = observe w.past in absurd (not_both (is_waiting_answer (answer o (Status u) k)) (ap is_waiting_answer q) (begun_wait o.limit (status_answer o.decided) (status_wait o.decided)))
waits_block t w n a (Await u) k p q =
    let o = observe w.past in absurd (not_both (is_waiting_answer (answer o (Await u) k)) (ap is_waiting_answer q) (begun_wait o.limit (await_answer o.told_client) (await_wait o.told_client)))
waits_block t w n a (Tick u m) k p q = let o = observe w.past in absurd (not_both (is_waiting_answer (answer o (Tick u m) k)) (ap is_waiting_answer q) (begun_wait o.limit Fine refl))
waits_block t w n a (Do u i m) k p q = let o = observe w.past in absurd (not_both (is_waiting_answer (answer o (Do u i m) k)) (ap is_waiting_answer q) (begun_wait o.limit (Did k) refl))
waits_block t w n a (Lose u c i m) k p q = let o = observe w.past in absurd (not_both (is_waiting_answer (answer o (Lose u c i m) k)) (ap is_waiting_answer q) (begun_wait o.limit NoSuch refl))
waits_block t w n a (Gone e) k p q =
    let o = observe w.past in absurd (not_both (is_waiting_answer (answer o (Gone e) k)) (ap is_waiting_answer q) (begun_wait o.limit (gone_answer (stands o e.value) (is_gone o e.value)) (two_ends (stands o e.value) (is_gone o e.value))))
waits_block t w n a (Reenlist e) k p q = let o = observe w.past in absurd (not_both (is_waiting_answer (answer o (Reenlist e) k)) (ap is_waiting_answer q) (begun_wait o.limit NoSuch refl))
waits_block t w n a (Recovered u r) k p q = let o = observe w.past in absurd (not_both (is_waiting_answer (answer o (Recovered u r) k)) (ap is_waiting_answer q) (begun_wait o.limit NoSuch refl))

pub waits_promotes : (t : ℕ) (w : World) (n : ℕ) (a : ActorNo) (c : Call) (k : ℕ) → are_local w.past ≡ true → answer (observe w.past) c k ≡ Wait → has is_promoting (block_at t w (Calls n a c k)) ≡ true
unfolding block_at
waits_promotes t w n a c k p q =
    ap (λ x. has is_promoting (Called n a x ∷ facts_if (has_facts x) (facts_at t w c x))) (answer-narrow t w c k p ∙ q) ∙ waits_block t w n a c k p q

-- the block of a step that may come, where nothing was promoted before it: the narrow block, or a promotion begins
abbrev pub IsNarrow : ℕ → World → Step → Type 0
IsNarrow t w m = (block_at t w m ≡ block (observe w.past) m) × (are_local (block (observe w.past) m) ≡ true)

pub may_nothing : (w : World) (a : LogAnswer) → are_local w.past ≡ true → may_coordinate (core w) a ≡ false
unfolding may_log may_free
may_nothing w a p = rw (coordinate-local w.past p) refl

wait_case : (t : ℕ) (w : World) (n : ℕ) (a : ActorNo) (c : Call) (k : ℕ) (x : Answer) → are_local w.past ≡ true → answer (observe w.past) c k ≡ x → (has is_promoting (block_at t w (Calls n a c k)) ≡ true) ⊎ IsNarrow t w (Calls n a c k)
wait_case t w n a c k Wait p e = inl (waits_promotes t w n a c k p e)
wait_case t w n a c k x p e = inr (call-narrow t w n a c k p (ap is_waiting_answer e), call_local (observe w.past) n a c k (ap is_waiting_answer e))

pub step-narrow : (G : ℕ → ActorNo → Call → Type 0) (t : ℕ) (w : World) (m : Step) → are_local w.past ≡ true → MayCome G t w m → (has is_promoting (block_at t w m) ≡ true) ⊎ IsNarrow t w m
unfolding block_at block
step-narrow G t w (Calls n a c k) p q = wait_case t w n a c k (answer (observe w.past) c k) p refl
step-narrow G t w (Replies e r) p q =
    let o = observe w.past in
    let h = half-local w.calls w.past p in
    inr (ap (λ (h : Half). full_reply h e r) h ∙ reply-narrow o (managed w.calls w.past) e r q.0 (ap (λ (o : Observed). due_of o e.value) (sym (observe-local w.past p)) ∙ q.1) q.2, reply_local e r)
step-narrow G t w Acts p q =
    let o = observe w.past in
    inr (ap full_act (half-local w.calls w.past p) ∙ act-narrow o (managed w.calls w.past), act_local o)
step-narrow G t w (Coordinates a) p q = absurd (not_both (may_coordinate (core w) a) q (may_nothing w a p))
step-narrow G t w (Delivers c d) p q = absurd (not_both (has_left c d w.past) q (left-local c d w.past p))
step-narrow G t w Stops p q = absurd (not_both (has is_begin_sent w.past) (and_left (has is_begin_sent w.past) (not (core w).stopped) q) (begin-local w.past p))
step-narrow G t w (Restarts found) p q = absurd (not_both (has is_begin_sent w.past) q (begin-local w.past p))

-- a history that steps make is local where no promotion begins
local_onto : (h xs : List Entry) → are_local h ≡ true → are_local xs ≡ true → are_local (onto h xs) ≡ true
local_onto h [] p q = p
local_onto h (x ∷ xs) p q = local_onto (x ∷ h) xs (and_both (is_local x) (are_local h) (and_left (is_local x) (are_local xs) q) p) (and_right (is_local x) (are_local xs) q)

or_turn : (a b c : Bool) → (a || (b || c)) ≡ ((b || a) || c)
or_turn true true c = refl
or_turn true false c = refl
or_turn false true c = refl
or_turn false false c = refl

pub has-onto : {A : Type 0} (p : A → Bool) (h xs : List A) → has p (onto h xs) ≡ (has p xs || has p h)
has-onto p h [] = refl
has-onto p h (x ∷ xs) = has-onto p (x ∷ h) xs ∙ or_turn (has p xs) (p x) (has p h)

local_step : (G : ℕ → ActorNo → Call → Type 0) (t : ℕ) (v : World) (m : Step) → are_local v.past ≡ true → has is_promoting (block_at t v m) ≡ false →
    (has is_promoting (block_at t v m) ≡ true) ⊎ IsNarrow t v m → are_local (onto v.past (block_at t v m)) ≡ true
local_step G t v m p q (inl k) = absurd (not_both (has is_promoting (block_at t v m)) k q)
local_step G t v m p q (inr k) = subst (λ xs. are_local (onto v.past xs) ≡ true) (sym k.0) (local_onto v.past (block (observe v.past) m) p k.1)

ran_local : (G : ℕ → ActorNo → Call → Type 0) (t : ℕ) (ms : List Step) (w : World) → Ran G t ms w → has is_promoting w.past ≡ false → are_local w.past ≡ true
unfolding after
ran_local G t [] w r q = rw r.1 refl
ran_local G t (m ∷ ms) w r q =
    let v = r.0 in
    let e = ap (λ (w : World). w.past) r.3 in
    let n = sym (has-onto is_promoting v.past (block_at t v m)) ∙ ap (has is_promoting) (sym e) ∙ q in
    let p = ran_local G t ms v r.1 (or_second (has is_promoting (block_at t v m)) (has is_promoting v.past) n) in
    subst (λ h. are_local h ≡ true) (sym e) (local_step G t v m p (or_first (has is_promoting (block_at t v m)) (has is_promoting v.past) n) (step-narrow G t v m p r.2))

pub free-local : (G : ℕ → ActorNo → Call → Type 0) (t : ℕ) (h : List Entry) → FreelyCaused G t h → is_unpromoted h ≡ true → are_local h ≡ true
free-local G t h r p = ran_local G t r.1.0 (record { calls = r.0; past = h }) r.1.1 (not_true (has is_promoting h) p)

-- what is pending there is pending at the local side
ends-local : (w : World) → are_local w.past ≡ true → (half w).seen.ends ≡ []
unfolding observe
ends-local w p = ap (λ (o : Observed). o.ends) (observe-local w.past p)

core_act-local : (w : World) → are_local w.past ≡ true → core_act (core w) ≡ []
unfolding may_log may_free
core_act-local w p = rw (coordinate-local w.past p) refl

more_nothing : {A : Type 0} (xs : List A) → xs ++ [] ≡ xs
more_nothing [] = refl
more_nothing (x ∷ xs) = ap (λ ys. x ∷ ys) (more_nothing xs)

pub pending-local : (w : World) → are_local w.past ≡ true → pending w ≡ local_pending (plan_of w.calls) (half w)
unfolding pending
pending-local w p =
    let xs = local_pending (plan_of w.calls) (half w) in
    ap (λ ys. (xs ++ ys) ++ flat_map (deliveries_on w.past) (half w).seen.ends) (core_act-local w p)
    ∙ ap (λ ns. (xs ++ []) ++ flat_map (deliveries_on w.past) ns) (ends-local w p)
    ∙ more_nothing (xs ++ []) ∙ more_nothing xs
