-- Whoever came to the coordinator is done with the record once that is gone, whatever stops and restarts came: it is finished at the local side, or its manager recovered. So it was where the
-- record was freed, and where a restart found it gone, it had been freed.
use Rattle.std.proofs.Common.{◌≡◌, ℕ, ◌==◌, Bool, true, false, ◌&&◌, ◌||◌, ◌⊎◌, inl, inr, List, [], ◌∷◌, Option, Some, None, refl, ◌∙◌, sym, subst, if◌then◌else◌}
use Rattle.std.specs.Prelude.{find, not}
use Rattle.std.proofs.lemmas.Bool.{eqb-true}
use Rattle.dtx_values.specs.declared.call.Call.{Call}
use Rattle.dtx_values.specs.declared.call.Call.TheVariants.{Reenlist}
use Rattle.dtx_values.specs.declared.entry.Entry.{Entry}
use Rattle.dtx_values.specs.declared.entry.Entry.TheVariants.{Called, Freed, Got, LogFull, Logged, Recovered, Restarted, Stopped}
use Rattle.dtx_values.specs.declared.message.Conn.{Conn}
use Rattle.dtx_values.specs.declared.message.Conn.TheVariants.{Enl, Again}
use Rattle.dtx_values.specs.declared.message.Dir.{Dir}
use Rattle.dtx_values.specs.declared.message.Dir.TheVariants.{Up, Down}
use Rattle.dtx_values.specs.declared.message.Info.{Info}
use Rattle.dtx_values.specs.declared.message.Message.{Message}
use Rattle.dtx_values.specs.declared.message.Message.TheVariants.{EnlistAck, EnlistEnlist, EnlistPrepared, ReenlistAck}
use Rattle.dtx_values.specs.declared.number.ActorNo.{ActorNo}
use Rattle.dtx_values.specs.declared.number.EnlNo.{EnlNo}
use Rattle.dtx_values.specs.Ends.{is_in, with_tag}
use Rattle.dtx_model.specs.declared.branch.Branch.{Branch}
use Rattle.dtx_model.specs.declared.desk.Desk.{Desk}
use Rattle.dtx_model.specs.Words.{all_of, each, has, onto}
use Rattle.dtx_model.specs.Entries.{is_record}
use Rattle.dtx_model.specs.Observed.{is_branch}
use Rattle.dtx_model.specs.Promotes.{identifier_of}
use Rattle.dtx_model.specs.Tied.{before_last_stop, can_free, enlist_got, has_mark, is_acked, is_done_there, is_prepared_got, is_recovery}
use Rattle.dtx_model.specs.Wires.{in_transit}
use Rattle.dtx_model.specs.Coordinated.{Coordinated, abort_sends, ballot_of, commit_sends, coordinate, core_got, follow, is_desk_of, is_finished, is_prepared, may_free, may_log, recovered_after}
use Rattle.dtx_model.specs.Arrivals.{local_got}
use Rattle.dtx_model.specs.Acts.{act_entries}
use Rattle.dtx_model.specs.Facts.{facts_if, has_facts}
use Rattle.dtx_model.specs.Replies.{reply_entries}
use Rattle.dtx_model.specs.World.{World, answer_at, core, facts_at, half, reenlist_facts}
use Rattle.dtx_model.specs.Steps.{LogAnswer, Done, Full, StoppedBefore, StoppedNow, Step, Calls, Replies, Acts, Coordinates, Delivers, Stops, Restarts, after, appended, block_at, delivered, ended_at, freed, restarted}
use Rattle.dtx_model.specs.Caused.{MayCome, may_coordinate}
use Rattle.dtx_model.proofs.Bools.{and_left, and_right, not_both, not_true, or_case, or_right}
use Rattle.history_table.proofs.Tests.{eq_self}
use Rattle.history_table.proofs.Scans.{has_more}
use Rattle.history_table.proofs.Table.{is_enlist_got}
use Rattle.history_table.proofs.Keeping.{Keeps, keeps_before, newest, newest_tied}
use Rattle.history_table.proofs.Crossed.{got_sent, is_sent_on}
use Rattle.history_table.proofs.Sendings.{own_info, record_of_mark}
use Rattle.history_table.proofs.CoreStages.{desks_backed, said_of}
use Rattle.history_table.proofs.CoreBlocks.{commit_if_record}
use Rattle.history_table.proofs.HalfKnows.{with_other, with_own}
use Rattle.settled_histories.proofs.MildBlocks.{IsWide, Mild, is_mild, m_abort, m_act, m_commit, m_core_got, m_ended_at, m_local_got, wide_called, wide_mild, wide_reply}
use Rattle.history_table.proofs.Handing.{keeps_within}
use Rattle.history_table.proofs.Managed.{desks_managed, is_enlist_by, is_managed_desk, named_sent, names, is_prepared_desk}
use Rattle.settled_histories.proofs.Finished.{again_finished, desks_done, finished_more, is_done_desk, is_finished as is_finished_here, is_read_only, own_finished}
use Rattle.settled_histories.proofs.Desked.{placed_there, uncome}

-- it is finished, or its manager recovered
abbrev pub IsDone : EnlNo → List Entry → Type 0
IsDone e h = (is_finished_here e.value h ≡ true) ⊎ ((r : ℕ) × (has (is_enlist_by e.value r) h ≡ true) × (is_in r (coordinate h).recovered ≡ true))

abbrev pub AreDone : List Entry → Type 0
AreDone h = (e : EnlNo) → has (is_enlist_got e.value) h ≡ true → IsDone e h

-- once there was a record, and it is gone
abbrev pub AreFreed : List Entry → Type 0
AreFreed h = has is_record h ≡ true → has_mark h ≡ false → AreDone h

-- Who is done stays so, and where there was a record none comes any more.
recovered_more : (r : ℕ) (x : Entry) (rs : ℕ) → is_in r rs ≡ true → is_in r (recovered_after x rs) ≡ true
recovered_more r (Recovered q) rs t = with_other r q.value rs t
recovered_more r _ rs t = t

done_more : (e : EnlNo) (x : Entry) (h : List Entry) → Keeps (x ∷ h) → IsDone e h → IsDone e (x ∷ h)
unfolding coordinate follow
done_more e x h k (inl f) = inl (finished_more e x h k f)
done_more e x h k (inr w) = inr (w.0, or_right (is_enlist_by e.value w.0 x) (has (is_enlist_by e.value w.0) h) w.1, recovered_more w.0 x (coordinate h).recovered w.2)

all_done_more : (x : Entry) (h : List Entry) → Keeps (x ∷ h) → has is_record h ≡ true → AreDone h → AreDone (x ∷ h)
all_done_more x h k r f = λ e t.
    let c = commit_if_record h (keeps_before x h k) r in
    done_more e x h k (f e (or_case (is_enlist_got e.value x) (has (is_enlist_got e.value) h) (λ a. absurd (uncome e.value x h k c a)) (λ a. a) t))

-- Where the record is freed, each desk that said PREPARED acknowledged, or its manager recovered.
abbrev is_settled_desk : ℕ → Desk → Bool
is_settled_desk rs d = not (is_prepared d.ballot) || is_finished rs d

desk_done : (e : EnlNo) (h : List Entry) (d : Desk) → is_prepared_desk e.value d ≡ true → is_settled_desk (coordinate h).recovered d ≡ true → is_done_desk h d ≡ true → is_managed_desk h d ≡ true → IsDone e h
desk_done e h d p s f m =
    let same : e.value ≡ d.enlistment.value = eqb-true e.value d.enlistment.value (and_left (is_desk_of e.value d) (is_prepared d.ballot) p) in
    let F : ℕ → Type 0 = λ n. is_finished_here n h ≡ true in
    let M : ℕ → Type 0 = λ n. has (is_enlist_by n d.manager.value) h ≡ true in
    by (ballots (is_prepared d.ballot) d.acked (is_in d.manager.value (coordinate h).recovered) (is_read_only d.ballot) (is_finished_here d.enlistment.value h) (and_right (is_desk_of e.value d) (is_prepared d.ballot) p) s f)
    (λ t. subst F (sym same) t) (subst M (sym same) m)
  where
    ballots : (b a i r f : Bool) → b ≡ true → (not b || (a || i)) ≡ true → (not (a || r) || f) ≡ true → (f ≡ true) ⊎ (i ≡ true)
    ballots true true i r f p s t = inl t
    ballots true false i r f p s t = inr s
    ballots false a i r f p s t = absurd cc

    by : (is_finished_here d.enlistment.value h ≡ true) ⊎ (is_in d.manager.value (coordinate h).recovered ≡ true) → (is_finished_here d.enlistment.value h ≡ true → is_finished_here e.value h ≡ true)
        → has (is_enlist_by e.value d.manager.value) h ≡ true → IsDone e h
    by (inl t) g m = inl (g t)
    by (inr t) g m = inr (d.manager.value, m, t)

desks_over : (e : EnlNo) (h : List Entry) (ds : List Desk) → has (is_prepared_desk e.value) ds ≡ true → each (is_settled_desk (coordinate h).recovered) ds ≡ true → each (is_done_desk h) ds ≡ true
    → each (is_managed_desk h) ds ≡ true → IsDone e h
desks_over e h [] t s f m = absurd cc
desks_over e h (d ∷ ds) t s f m =
    let settled = is_settled_desk (coordinate h).recovered in
    or_case (is_prepared_desk e.value d) (has (is_prepared_desk e.value) ds)
    (λ p. desk_done e h d p (and_left (settled d) (each settled ds) s) (and_left (is_done_desk h d) (each (is_done_desk h) ds) f) (and_left (is_managed_desk h d) (each (is_managed_desk h) ds) m))
    (λ p. desks_over e h ds p (and_right (settled d) (each settled ds) s) (and_right (is_done_desk h d) (each (is_done_desk h) ds) f) (and_right (is_managed_desk h d) (each (is_managed_desk h) ds) m)) t

settled_done : (h : List Entry) → Keeps h → has_mark h ≡ true → each (is_settled_desk (coordinate h).recovered) (coordinate h).desks ≡ true → AreDone h
settled_done h k m s = λ e t.
    or_case (is_finished_here e.value h) (has (is_prepared_desk e.value) (coordinate h).desks) (λ f. inl f) (λ p. desks_over e h (coordinate h).desks p s (desks_done h k) (desks_managed h k)) (placed_there e h k m t)

-- The same by the entries alone: where it could be freed, each that said PREPARED acknowledged, or its manager recovered.
acked_done : (e : EnlNo) (h : List Entry) → Keeps h → is_acked e.value h ≡ true → is_finished_here e.value h ≡ true
acked_done e [] k t = absurd cc
acked_done e (Got (Enl f) Up EnlistAck ∷ h) k t =
    let x = Got (Enl f) Up EnlistAck in
    let P : ℕ → Type 0 = λ n. is_finished_here n h ≡ true in
    finished_more e x h k
    (or_case (e.value == f.value) (is_acked e.value h) (λ q. subst P (sym (eqb-true e.value f.value q)) (own_finished f EnlistAck h k refl)) (λ q. acked_done e h (keeps_before x h k) q) t)
acked_done e (Got (Again f) Up ReenlistAck ∷ h) k t =
    let x = Got (Again f) Up ReenlistAck in
    let P : ℕ → Type 0 = λ n. is_finished_here n h ≡ true in
    finished_more e x h k
    (or_case (e.value == f.value) (is_acked e.value h) (λ q. subst P (sym (eqb-true e.value f.value q)) (again_finished f ReenlistAck h k refl)) (λ q. acked_done e h (keeps_before x h k) q) t)
acked_done e (Restarted found ∷ h) k t = absurd cc
acked_done e (x ∷ h) k t = finished_more e x h k (acked_done e h (keeps_before x h k) t)

recovery_seen : (r : ℕ) (h : List Entry) → has (is_recovery r) h ≡ true → is_in r (coordinate h).recovered ≡ true
unfolding coordinate follow
recovery_seen r [] t = absurd cc
recovery_seen r (Recovered q ∷ h) t =
    let P : ℕ → Type 0 = λ n. is_in n (with_tag q.value (coordinate h).recovered) ≡ true in
    or_case (r == q.value) (has (is_recovery r) h) (λ s. subst P (sym (eqb-true r q.value s)) (with_own q.value (coordinate h).recovered)) (λ s. with_other r q.value (coordinate h).recovered (recovery_seen r h s)) t
recovery_seen r (x ∷ h) t = recovery_seen r h t

-- who came is one of those whose ENLIST was got, and the manager there is its own
pub record IsAmong (e : EnlNo) (q : Info → Bool) (h : List Entry) : Type 0 where
  pub info : Info
  pub own : e.value ≡ info.enl.value
  pub by : has (is_enlist_by e.value info.rm.value) h ≡ true
  pub passes : q info ≡ true

named_more : (e : EnlNo) (q : Info → Bool) (x : Entry) (h : List Entry) → IsAmong e q h → IsAmong e q (x ∷ h)
named_more e q x h w = record { info = w.info; own = w.own; by = or_right (is_enlist_by e.value w.info.rm.value x) (has (is_enlist_by e.value w.info.rm.value) h) w.by; passes = w.passes }

named_there : (e : EnlNo) (q : Info → Bool) (h : List Entry) → Keeps h → has (is_enlist_got e.value) h ≡ true → each q (all_of enlist_got h) ≡ true → IsAmong e q h
named_there e q [] k t a = absurd cc
named_there e q (Got (Enl f) Up (EnlistEnlist i) ∷ h) k t a =
    let x = Got (Enl f) Up (EnlistEnlist i) in
    or_case (e.value == f.value) (has (is_enlist_got e.value) h)
    (λ s. let same : e.value ≡ f.value = eqb-true e.value f.value s in
    let P : ℕ → Type 0 = λ n. has (is_enlist_by n i.rm.value) h ≡ true in
    let sent = has_more (is_sent_on (Enl f) Up (names i.rm.value)) (is_enlist_by f.value i.rm.value) (named_sent f i.rm.value) h (got_sent (Enl f) Up (EnlistEnlist i) (names i.rm.value) h k.wires.0 (eq_self i.rm.value)) in
    record { info = i; own = same ∙ eqb-true f.value i.enl.value (own_info f i h k); by = subst P (sym same) sent; passes = and_left (q i) (each q (all_of enlist_got h)) a })
    (λ s. named_more e q x h (named_there e q h (keeps_before x h k) s (and_right (q i) (each q (all_of enlist_got h)) a))) t
named_there e q (x ∷ h) k t a = named_more e q x h (named_there e q h (keeps_before x h k) t a)

prepared_from : (e f : EnlNo) (m : Message) → (e.value == f.value) ≡ true → is_prepared (ballot_of m) ≡ true → is_prepared_got e.value (Got (Enl f) Up m) ≡ true
prepared_from e f EnlistPrepared q a = q
prepared_from e f _ q a = absurd cc

free_done : (h : List Entry) → Keeps h → can_free h ≡ true → AreDone h
free_done h k c = λ e t.
    or_case (is_finished_here e.value h) (has (is_prepared_desk e.value) (coordinate h).desks) (λ f. inl f)
    (λ p. by e (named_there e (is_done_there h) h k t (and_right (has_mark h) (each (is_done_there h) (all_of enlist_got h)) c))
    (said_of is_prepared is_prepared_got e.value h (coordinate h).desks (desks_backed is_prepared is_prepared_got (record { none = refl; from = prepared_from; one = λ e f q t. absurd cc }) h) p))
    (placed_there e h k (and_left (has_mark h) (each (is_done_there h) (all_of enlist_got h)) c) t)
  where
    by : (e : EnlNo) → IsAmong e (is_done_there h) h → has (is_prepared_got e.value) h ≡ true → IsDone e h
    by e w p =
        let i = w.info in
        let P : ℕ → Type 0 = λ n. has (is_prepared_got n) h ≡ true in
        let A : ℕ → Type 0 = λ n. is_acked n h ≡ true in
        or_case (not (has (is_prepared_got i.enl.value) h) || is_acked i.enl.value h) (has (is_recovery i.rm.value) h)
        (λ t. or_case (not (has (is_prepared_got i.enl.value) h)) (is_acked i.enl.value h) (λ n. absurd (not_both (has (is_prepared_got i.enl.value) h) (subst P w.own p) (not_true (has (is_prepared_got i.enl.value) h) n)))
        (λ a. inl (acked_done e h k (subst A (sym w.own) a))) t) (λ r. inr (i.rm.value, w.by, recovery_seen i.rm.value h r)) w.passes

-- where it could be freed before the last stop
pub record IsFreedBefore (h : List Entry) : Type 0 where
  pub recorded : has is_record h ≡ true
  pub done : AreDone h

freed_before : (h : List Entry) → Keeps h → can_free (before_last_stop h) ≡ true → IsFreedBefore h
freed_before [] k c = absurd cc
freed_before (Stopped ∷ h) k c =
    let past = keeps_before Stopped h k in
    let r = record_of_mark h (and_left (has_mark h) (each (is_done_there h) (all_of enlist_got h)) c) in
    record { recorded = r; done = all_done_more Stopped h k r (free_done h past c) }
freed_before (x ∷ h) k c =
    let w = freed_before h (keeps_before x h k) c in
    record { recorded = or_right (is_record x) (has is_record h) w.recorded; done = all_done_more x h k w.recorded w.done }

-- the entry neither appends nor frees a record, and is no restart
abbrev is_unmarking : Entry → Bool
is_unmarking Logged = false
is_unmarking Freed = false
is_unmarking (Restarted found) = false
is_unmarking _ = true

wide_unmarking : IsWide is_unmarking
wide_unmarking = record { mild = one; commit = refl; rollback = refl; timeout = refl; promise = λ e ok. refl }
  where
    one : (x : Entry) → is_mild x ≡ true → is_unmarking x ≡ true
    one Logged q = absurd cc
    one Freed q = absurd cc
    one (Restarted b) q = absurd cc
    one _ q = refl

mild_unmarking : (es : List Entry) → Mild es → each is_unmarking es ≡ true
mild_unmarking es q = wide_mild is_unmarking wide_unmarking es q

-- the marks stay
record_before : (x : Entry) (h : List Entry) → is_unmarking x ≡ true → has is_record (x ∷ h) ≡ true → has is_record h ≡ true
record_before Logged h u t = absurd cc
record_before (Restarted b) h u t = absurd cc
record_before _ h u t = t

mark_before : (x : Entry) (h : List Entry) → is_unmarking x ≡ true → has_mark (x ∷ h) ≡ has_mark h
mark_before Logged h u = absurd cc
mark_before Freed h u = absurd cc
mark_before (Restarted b) h u = absurd cc
mark_before _ h u = refl

unmarking_freed : (x : Entry) (h : List Entry) → is_unmarking x ≡ true → Keeps (x ∷ h) → AreFreed h → AreFreed (x ∷ h)
unmarking_freed x h u k w = λ r m.
    let past = record_before x h u r in
    all_done_more x h k past (w past (sym (mark_before x h u) ∙ m))

unmarking_onto : (h es : List Entry) → each is_unmarking es ≡ true → Keeps (onto h es) → AreFreed h → AreFreed (onto h es)
unmarking_onto h [] u k w = w
unmarking_onto h (x ∷ es) u k w =
    unmarking_onto (x ∷ h) es (and_right (is_unmarking x) (each is_unmarking es) u) k
    (unmarking_freed x h (and_left (is_unmarking x) (each is_unmarking es) u) (keeps_within (x ∷ h) es k) w)

-- An append, and a free.
free_parts : (k : Coordinated) → may_free k ≡ true → each (is_settled_desk k.recovered) k.desks ≡ true
unfolding may_free
free_parts k f = and_right (not k.stopped && _) (each (is_settled_desk k.recovered) k.desks) f

freed_now : (h : List Entry) → Keeps (Freed ∷ h) → may_free (coordinate h) ≡ true → AreFreed (Freed ∷ h)
freed_now h k f = λ q m.
    let mark = newest Freed h k in
    all_done_more Freed h k (record_of_mark h mark) (settled_done h (keeps_before Freed h k) mark (free_parts (coordinate h) f))

log_freed : (h : List Entry) (a : LogAnswer) → Keeps (onto h (appended (coordinate h) a)) → AreFreed h → AreFreed (onto h (appended (coordinate h) a))
log_freed h Done k w =
    let sends = commit_sends (follow (coordinate h) Logged) in
    unmarking_onto (Logged ∷ h) sends (mild_unmarking sends (m_commit (follow (coordinate h) Logged))) k (λ r m. absurd cc)
log_freed h Full k w =
    let sends = abort_sends (follow (coordinate h) LogFull) in
    unmarking_onto (LogFull ∷ h) sends (mild_unmarking sends (m_abort (follow (coordinate h) LogFull))) k (unmarking_freed LogFull h refl (keeps_within (LogFull ∷ h) sends k) w)
log_freed h StoppedNow k w = unmarking_freed Stopped h refl k w
log_freed h StoppedBefore k w = unmarking_freed Stopped h refl k w

free_freed : (h : List Entry) (a : LogAnswer) → may_log (coordinate h) ≡ false → may_coordinate (coordinate h) a ≡ true → Keeps (onto h (freed a)) → AreFreed h → AreFreed (onto h (freed a))
free_freed h Done n c k w =
    freed_now h k
    (or_case (may_log (coordinate h)) (may_free (coordinate h) && true) (λ t. absurd (not_both (may_log (coordinate h)) t n)) (λ t. and_left (may_free (coordinate h)) true t) c)
free_freed h Full n c k w = w
free_freed h StoppedNow n c k w = unmarking_freed Stopped h refl k w
free_freed h StoppedBefore n c k w = unmarking_freed Stopped h refl k w

coordinates_freed : (h : List Entry) (a : LogAnswer) (b : Bool) → may_log (coordinate h) ≡ b → may_coordinate (coordinate h) a ≡ true → Keeps (onto h (if b then appended (coordinate h) a else freed a)) → AreFreed h
    → AreFreed (onto h (if b then appended (coordinate h) a else freed a))
coordinates_freed h a true e c k w = log_freed h a k w
coordinates_freed h a false e c k w = free_freed h a e c k w

-- A restart: it finds none where the record was gone, or could be freed before the last stop.
restart_freed : (h : List Entry) (found : Bool) → Keeps (Restarted found ∷ h) → AreFreed h → AreFreed (Restarted found ∷ h)
restart_freed h true k w = λ r m. absurd cc
restart_freed h false k w = λ r m.
    all_done_more (Restarted false) h k r
    (or_case (not (has_mark h)) (can_free (before_last_stop h)) (λ n. w r (not_true (has_mark h) n)) (λ c. (freed_before h (keeps_before (Restarted false) h k) c).done) (newest_tied (Restarted false) h k))

restarted_freed : (h : List Entry) (b found : Bool) → Keeps (onto h (restarted b found)) → AreFreed h → AreFreed (onto h (restarted b found))
restarted_freed h true found k w = restart_freed h found k w
restarted_freed h false found k w = restart_freed (Stopped ∷ h) found k (unmarking_freed Stopped h refl (keeps_before (Restarted found) (Stopped ∷ h) k) w)

reenlist_unmarking : (t : ℕ) (o : Option Branch) (f : Bool) → each is_unmarking (facts_if f (reenlist_facts t o)) ≡ true
reenlist_unmarking t o false = refl
reenlist_unmarking t None true = refl
reenlist_unmarking t (Some b) true = refl

delivered_unmarking : (t : ℕ) (w : World) (c : Conn) (d : Dir) (ms : List Message) → each is_unmarking (delivered t w c d ms) ≡ true
delivered_unmarking t w c d [] = mild_unmarking (ended_at w c d) (m_ended_at w c d)
delivered_unmarking t w c Up (m ∷ ms) = mild_unmarking (core_got (identifier_of t) (core w) c m) (m_core_got (identifier_of t) (core w) c m)
delivered_unmarking t w c Down (m ∷ ms) = mild_unmarking (local_got t (half w) c m) (m_local_got t (half w) c m)

-- after each step
pub step_freed : (G : ℕ → ActorNo → Call → Type 0) (t : ℕ) (w : World) (m : Step) → MayCome G t w m → Keeps (after t w m).past → AreFreed w.past → AreFreed (after t w m).past
unfolding after block_at
step_freed G t w (Calls n a (Reenlist e) i) q k r =
    let y = answer_at t w (Reenlist e) i in
    let o = find (is_branch e.value) (half w).seen.branches in
    unmarking_onto w.past (Called n a y ∷ facts_if (has_facts y) (reenlist_facts t o)) (reenlist_unmarking t o (has_facts y)) k r
step_freed G t w (Calls n a c i) q k r =
    let y = answer_at t w c i in
    unmarking_onto w.past (Called n a y ∷ facts_if (has_facts y) (facts_at t w c y)) (wide_called is_unmarking wide_unmarking t w c y refl) k r
step_freed G t w (Replies e x) q k r = unmarking_onto w.past (reply_entries (half w) e x) (wide_reply is_unmarking wide_unmarking (half w) e x) k r
step_freed G t w Acts q k r = unmarking_onto w.past (act_entries (half w)) (mild_unmarking (act_entries (half w)) (m_act (half w))) k r
step_freed G t w (Coordinates a) q k r = coordinates_freed w.past a (may_log (core w)) refl q k r
step_freed G t w (Delivers c d) q k r = unmarking_onto w.past (delivered t w c d (in_transit c d w.past)) (delivered_unmarking t w c d (in_transit c d w.past)) k r
step_freed G t w Stops q k r = unmarking_freed Stopped w.past refl k r
step_freed G t w (Restarts found) q k r = restarted_freed w.past (core w).stopped found k r

pub none_freed : AreFreed []
none_freed = λ r m. absurd cc

-- So a record isn't gone while one that came isn't finished, and its manager hasn't recovered.
pub never_freed : (e : EnlNo) (h : List Entry) → AreFreed h → has is_record h ≡ true → has_mark h ≡ false → has (is_enlist_got e.value) h ≡ true → is_finished_here e.value h ≡ false
    → ((r : ℕ) → has (is_enlist_by e.value r) h ≡ true → is_in r (coordinate h).recovered ≡ false) → ⊥
never_freed e h w r m g n f = by (w r m e g)
  where
    by : IsDone e h → ⊥
    by (inl t) = not_both (is_finished_here e.value h) t n
    by (inr t) = not_both (is_in t.0 (coordinate h).recovered) t.2 (f t.0 t.1)
