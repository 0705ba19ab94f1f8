-- After COMMIT for two phases, while the coordinator has decided nothing, it has asked each enlistment of which it got ENLIST to prepare: so in each world that steps make.
use Rattle.std.proofs.Common.{◌≡◌, true, List, Bool, false, refl, ◌||◌, [], ◌∷◌, ◌∙◌, ap, sym, ◌&&◌, ℕ, ◌==◌, subst}
use Rattle.std.specs.Prelude.{not}
use Rattle.dtx_values.specs.declared.call.Call.{Call}
use Rattle.dtx_values.specs.declared.entry.Entry.{Entry}
use Rattle.dtx_values.specs.declared.entry.Entry.TheVariants.{Got, Sent, Down as Ended, Called, Stopped}
use Rattle.dtx_values.specs.declared.message.Conn.{Conn}
use Rattle.dtx_values.specs.declared.message.Conn.TheVariants.{Begin, Enl}
use Rattle.dtx_values.specs.declared.message.Dir.{Dir}
use Rattle.dtx_values.specs.declared.message.Dir.TheVariants.{Up, Down}
use Rattle.dtx_values.specs.declared.message.Message.{Message}
use Rattle.dtx_values.specs.declared.message.Message.TheVariants.{BeginCommit, EnlistPrepare, EnlistEnlist}
use Rattle.dtx_values.specs.declared.number.ActorNo.{ActorNo}
use Rattle.dtx_values.specs.declared.number.EnlNo.{EnlNo}
use Rattle.dtx_values.specs.Ends.{same_connection}
use Rattle.dtx_model.specs.Words.{has, onto, always}
use Rattle.dtx_model.specs.Promotes.{identifier_of}
use Rattle.dtx_model.specs.Wires.{in_transit}
use Rattle.dtx_model.specs.Coordinated.{coordinate, core_got, is_active, may_log}
use Rattle.dtx_model.specs.Acts.{act_entries}
use Rattle.dtx_model.specs.Replies.{reply_entries}
use Rattle.dtx_model.specs.Facts.{facts_if, has_facts}
use Rattle.dtx_model.specs.World.{World, answer_at, core, facts_at, half}
use Rattle.dtx_model.specs.Steps.{got_by, delivered, ended_at, Step, Calls, Replies, Acts, Coordinates, Delivers, Stops, Restarts, after, block_at, coordinates, restarted}
use Rattle.dtx_model.specs.Caused.{Ran}
use Rattle.dtx_model.proofs.Bools.{or_right, and_left, not_both, not_true}
use Rattle.dtx_model.proofs.Quiet.{is_quiet, Quiet, q_head, q_tail, q_got_by, q_ended_at, q_act, q_appended, q_called, q_freed, q_if, q_one, q_reply, q_restarted}
use Rattle.history_table.proofs.Messages.{COMMIT, COMMIT_TWO, ENLIST, PREPARE}
use Rattle.history_table.proofs.Crossed.{is_sent_on, is_got_on}
use Rattle.history_table.proofs.Scans.{has_after, has_more}
use Rattle.history_table.proofs.Tests.{not_up}
use Rattle.settled_histories.proofs.Stages.{IsOpenThere, first_active, there_before, uncommitted_two}
use Rattle.settled_histories.proofs.Recorded.{commit_asks, is_prepare_to}
use Rattle.settled_histories.proofs.Desks.{desk_there, desks_known}
use Rattle.settled_histories.proofs.Rest.{is_once_committed, is_ordered}

abbrev pub IsPrepared : List Entry → Type 0
IsPrepared h = has (is_got_on Begin Up COMMIT_TWO) h ≡ true → (e : EnlNo) → has (is_got_on (Enl e) Up ENLIST) h ≡ true → has (is_sent_on (Enl e) Down PREPARE) h ≡ true

-- nothing is got in a quiet block
ungot : (c : Conn) (d : Dir) (p : Message → Bool) (x : Entry) → is_quiet x ≡ true → is_got_on c d p x ≡ false
ungot c d p (Got e r m) q = absurd cc
ungot c d p _ q = refl

quiet_got : (c : Conn) (d : Dir) (p : Message → Bool) (past es : List Entry) → Quiet es → has (is_got_on c d p) (onto past es) ≡ has (is_got_on c d p) past
quiet_got c d p past [] q = refl
quiet_got c d p past (x ∷ es) q = quiet_got c d p (x ∷ past) es (q_tail x es q) ∙ ap (λ b. b || has (is_got_on c d p) past) (ungot c d p x (q_head x es q))

quiet_keeps : (past es : List Entry) → Quiet es → IsPrepared past → IsPrepared (onto past es)
quiet_keeps past es q p = λ c e k.
    has_after (is_sent_on (Enl e) Down PREPARE) past es (p (sym (quiet_got Begin Up COMMIT_TWO past es q) ∙ c) e (sym (quiet_got (Enl e) Up ENLIST past es q) ∙ k))

-- and so it is after an entry that is neither COMMIT nor ENLIST got
head_keeps : (x : Entry) (past es : List Entry) → is_got_on Begin Up COMMIT_TWO x ≡ false → ((e : EnlNo) → is_got_on (Enl e) Up ENLIST x ≡ false) → Quiet es → IsPrepared past
    → IsPrepared (onto (x ∷ past) es)
head_keeps x past es n f q p =
    quiet_keeps (x ∷ past) es q
    (λ c e k. or_right (is_sent_on (Enl e) Down PREPARE x) (has (is_sent_on (Enl e) Down PREPARE) past) (p (rest (is_got_on Begin Up COMMIT_TWO x) _ n c) e (rest (is_got_on (Enl e) Up ENLIST x) _ (f e) k)))
  where
    rest : (a b : Bool) → a ≡ false → (a || b) ≡ true → b ≡ true
    rest true b n k = absurd cc
    rest false b n k = k

off_name : (a : Bool) → (a && true && false) ≡ false
off_name true = refl
off_name false = refl

-- before a block nothing was decided there either
there_onto : (past es : List Entry) → IsOpenThere (onto past es) → IsOpenThere past
there_onto past [] u = u
there_onto past (x ∷ es) u = there_before x past (there_onto (x ∷ past) es u)

-- the block of COMMIT
commit_prepares : (id : ℕ) (h : List Entry) → IsOpenThere (onto (Got Begin Up BeginCommit ∷ h) (core_got id (coordinate h) Begin BeginCommit)) → Quiet (core_got id (coordinate h) Begin BeginCommit)
    → IsPrepared h → IsPrepared (onto (Got Begin Up BeginCommit ∷ h) (core_got id (coordinate h) Begin BeginCommit))
commit_prepares id h u q p = λ c e k.
    by e (sym (quiet_got (Enl e) Up ENLIST (Got Begin Up BeginCommit ∷ h) (core_got id (coordinate h) Begin BeginCommit) q) ∙ k)
  where
    now : IsOpenThere (Got Begin Up BeginCommit ∷ h)
    now = there_onto (Got Begin Up BeginCommit ∷ h) (core_got id (coordinate h) Begin BeginCommit) u

    past : IsOpenThere h
    past = there_before (Got Begin Up BeginCommit) h now

    active : is_active (coordinate h).stage ≡ true
    active = ap is_active (first_active BeginCommit h refl now)

    sent : (e : EnlNo) (x : Entry) → is_prepare_to e.value x ≡ true → is_sent_on (Enl e) Down PREPARE x ≡ true
    sent e (Sent (Enl f) Down EnlistPrepare) k = rw k refl
    sent e x k = absurd cc

    first : has (is_got_on Begin Up COMMIT) h ≡ false
    first = not_true (has (is_got_on Begin Up COMMIT) h) (and_left (not (has (is_got_on Begin Up COMMIT) h)) (always is_once_committed h) now.once)

    by : (e : EnlNo) → has (is_got_on (Enl e) Up ENLIST) h ≡ true → has (is_sent_on (Enl e) Down PREPARE) (onto (Got Begin Up BeginCommit ∷ h) (core_got id (coordinate h) Begin BeginCommit)) ≡ true
    by e k =
        has_more (is_prepare_to e.value) (is_sent_on (Enl e) Down PREPARE) (sent e) (onto (Got Begin Up BeginCommit ∷ h) (core_got id (coordinate h) Begin BeginCommit))
        (commit_asks id h e.value active (desks_known h past first) (desk_there e h past k))

-- a message got by the coordinator
got_prepares : (t : ℕ) (w : World) (c : Conn) (m : Message) → IsOpenThere (onto (Got c Up m ∷ w.past) (got_by t w c Up m)) → IsPrepared w.past → IsPrepared (onto (Got c Up m ∷ w.past) (got_by t w c Up m))
got_prepares t w Begin BeginCommit u p = commit_prepares (identifier_of t) w.past u (q_got_by t w Begin Up BeginCommit) p
got_prepares t w (Enl f) (EnlistEnlist i) u p = λ c e k.
    let now = there_onto (Got (Enl f) Up (EnlistEnlist i) ∷ w.past) (got_by t w (Enl f) Up (EnlistEnlist i)) u in
    let early : has (is_got_on Begin Up COMMIT) w.past ≡ false = not_true (has (is_got_on Begin Up COMMIT) w.past) (and_left (not (has (is_got_on Begin Up COMMIT) w.past)) (always is_ordered w.past) now.ordered) in
    absurd
    (not_both (has (is_got_on Begin Up COMMIT_TWO) w.past)
    (sym (quiet_got Begin Up COMMIT_TWO (Got (Enl f) Up (EnlistEnlist i) ∷ w.past) (got_by t w (Enl f) Up (EnlistEnlist i)) (q_got_by t w (Enl f) Up (EnlistEnlist i))) ∙ c) (uncommitted_two w.past early))
got_prepares t w (Enl f) m u p = head_keeps (Got (Enl f) Up m) w.past (got_by t w (Enl f) Up m) refl (λ e. off_name (e.value == f.value)) (q_got_by t w (Enl f) Up m) p
got_prepares t w c m u p = head_keeps (Got c Up m) w.past (got_by t w c Up m) refl (λ e. refl) (q_got_by t w c Up m) p

delivered_prepares : (t : ℕ) (w : World) (c : Conn) (d : Dir) (ms : List Message) → IsOpenThere (onto w.past (delivered t w c d ms)) → IsPrepared w.past → IsPrepared (onto w.past (delivered t w c d ms))
delivered_prepares t w c d [] u p = head_keeps (Ended c d) w.past (ended_at w c d) refl (λ e. refl) (q_ended_at w c d) p
delivered_prepares t w c Up (m ∷ ms) u p = got_prepares t w c m u p
delivered_prepares t w c Down (m ∷ ms) u p =
    head_keeps (Got c Down m) w.past (got_by t w c Down m) (not_up (same_connection Begin c) (COMMIT_TWO m)) (λ e. not_up (same_connection (Enl e) c) (ENLIST m)) (q_got_by t w c Down m) p

-- after each step
step_prepares : (t : ℕ) (w : World) (m : Step) → IsOpenThere (after t w m).past → IsPrepared w.past → IsPrepared (after t w m).past
unfolding after block_at
step_prepares t w (Calls n a c m) u p =
    head_keeps (Called n a (answer_at t w c m)) w.past (facts_if (has_facts (answer_at t w c m)) (facts_at t w c (answer_at t w c m))) refl (λ e. refl) (q_called t w c (answer_at t w c m)) p
step_prepares t w (Replies e x) u p = quiet_keeps w.past (reply_entries (half w) e x) (q_reply (half w) e x) p
step_prepares t w Acts u p = quiet_keeps w.past (act_entries (half w)) (q_act (half w)) p
step_prepares t w (Coordinates x) u p = quiet_keeps w.past (coordinates (core w) x) (q_if (may_log (core w)) (q_appended (core w) x) (q_freed x)) p
step_prepares t w (Delivers c d) u p = delivered_prepares t w c d (in_transit c d w.past) u p
step_prepares t w Stops u p = quiet_keeps w.past (Stopped ∷ []) (q_one Stopped refl) p
step_prepares t w (Restarts found) u p = quiet_keeps w.past (restarted (core w).stopped found) (q_restarted (core w).stopped found) p

-- so in each world that steps made
pub ran_prepares : (G : ℕ → ActorNo → Call → Type 0) (t : ℕ) (ms : List Step) (w : World) → Ran G t ms w → IsOpenThere w.past → IsPrepared w.past
unfolding after
ran_prepares G t [] w r u = λ c e k. absurd (not_both (has (is_got_on Begin Up COMMIT_TWO) w.past) c (ap (has (is_got_on Begin Up COMMIT_TWO)) r.1))
ran_prepares G t (m ∷ ms) w r u =
    let v = r.0 in
    let past : w.past ≡ onto v.past (block_at t v m) = ap (λ (x : World). x.past) r.3 in
    let now = subst IsOpenThere past u in
    subst IsPrepared (sym past) (step_prepares t v m now (ran_prepares G t ms v r.1 (there_onto v.past (block_at t v m) now)))
