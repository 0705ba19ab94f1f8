-- Where the coordinator may free its record, the law of marks lets it: each enlistment that said PREPARED has a desk that says so, and is finished there.
use Rattle.std.proofs.Common.{◌≡◌, ◌⊎◌, inl, inr, ℕ, ◌==◌, Bool, true, false, ◌&&◌, ◌||◌, List, [], ◌∷◌, Option, Some, None, refl, sym, subst, ◌∙◌}
use Rattle.std.specs.Prelude.{not, map, filter, if◌then◌else◌}
use Rattle.std.proofs.lemmas.Nat.Bits.{bit_at-zero}
use Rattle.std.proofs.lemmas.Bool.{eqb-true, false_from_ne_true, or_left}
use Rattle.dtx_values.specs.declared.entry.Entry.{Entry}
use Rattle.dtx_values.specs.declared.entry.Entry.TheVariants.{Freed, Got, Logged, Recovered, Restarted, Voted}
use Rattle.dtx_values.specs.declared.message.Conn.TheVariants.{Enl, Again}
use Rattle.dtx_values.specs.declared.message.Dir.TheVariants.{Up}
use Rattle.dtx_values.specs.declared.message.Info.{Info}
use Rattle.dtx_values.specs.declared.message.Message.{Message}
use Rattle.dtx_values.specs.declared.message.Message.TheVariants.{EnlistAck, EnlistEnlist, EnlistNo, EnlistOneAborted, EnlistPrepared, EnlistReadonly, ReenlistAck}
use Rattle.dtx_values.specs.declared.number.EnlNo.{EnlNo}
use Rattle.dtx_values.specs.declared.words.Vote.{Vote}
use Rattle.dtx_values.specs.declared.words.Vote.TheVariants.{Yes, No, Done}
use Rattle.dtx_values.specs.Ends.{is_in}
use Rattle.dtx_values.specs.Lines.{has_line}
use Rattle.dtx_values.specs.Table.{insert_by}
use Rattle.dtx_model.specs.declared.desk.Ballot.{Ballot}
use Rattle.dtx_model.specs.declared.desk.Ballot.TheVariants.{Prepared, Refused}
use Rattle.dtx_model.specs.declared.desk.Desk.{Desk}
use Rattle.dtx_model.specs.declared.desk.Stage.{Stage}
use Rattle.dtx_model.specs.declared.desk.Stage.TheVariants.{Idle, Active, Sole, Given, Answered as AnsweredStage, Aborted, Recorded, Over, Unknown}
use Rattle.dtx_model.specs.Words.{all_of, each, has, latest}
use Rattle.dtx_model.specs.Entries.{is_any_single_sent, is_asked, is_commit_got, is_decision, is_lost, is_one_got, is_record, is_single_sent, is_two_phase_got, is_vote, is_vote_got}
use Rattle.dtx_model.specs.Caused.{same_vote}
use Rattle.dtx_model.specs.Learned.{coordinator_aborted}
use Rattle.dtx_model.specs.Tied.{before_first_stop, can_free, can_log, enlist_got, has_mark, is_acked, is_done_there, is_logged, is_prepared_got, is_ready_got, is_recovery, is_stop, is_unmarked, mark_of}
use Rattle.dtx_model.specs.Coordinated.{Coordinated, accepts, ballot_of, coordinate, desk_number, desks_after, follow, has_aborted, has_desk, hears_one, is_active, is_desk_of, is_finished, is_prepared, is_recorded, is_undecided, may_free, stage_after, unacked, with_ack, with_ballot}
use Rattle.dtx_model.proofs.Bools.{and_left, and_right, and_both, not_both, not_true, or_case, or_first, or_right, or_second}
use Rattle.coordinator_core.proofs.Causes.{heard_why}
use Rattle.history_table.proofs.Tests.{eq_self, eq_swap, third_of_five}
use Rattle.history_table.proofs.Scans.{has_more}
use Rattle.history_table.proofs.Lists.{has-insert}
use Rattle.history_table.proofs.EntryTests.{is_enlisted}
use Rattle.history_table.proofs.Table.{is_cast, is_enlist_got, is_opening_got, message_row, stands_volatile}
use Rattle.history_table.proofs.Keeping.{Keeps, arrived, keeps_before, newest, newest_tied}
use Rattle.history_table.proofs.Crossed.{is_got_on, is_sent_on, was_sent}
use Rattle.history_table.proofs.Sendings.{from_got, own_info, record_of_mark}
use Rattle.history_table.proofs.Recording.{can_commit, can_live, can_ready, can_two_phase, can_unstopped, from_first, if_record, live_first, stopped_stop}
use Rattle.history_table.proofs.LetDecide.{one_apart, one_if_single, single_any}
use Rattle.history_table.proofs.CoreStages.{active_begun, changed, has_recorded, is_after_one, one_if_after, open_before, recorded_mark, restart_open}
use Rattle.history_table.proofs.CoreKnown.{aborted_there, desk_there, enlist_of, has_made, later_opened, record_seen, unanswered_if_unsent, work_begun}
use Rattle.history_table.proofs.JointVotes.{vote_joint, vote_two}
use Rattle.history_table.proofs.Managed.{each_inserted, desks_managed, is_enlist_by, is_managed_desk, one_manager, named_sent, names, is_prepared_desk}
use Rattle.history_table.proofs.HalfKnows.{one_tag_more}
use Rattle.world_parts.proofs.Keeping.{active_unrecorded, heard_unrecorded}

-- An enlistment that said PREPARED said nothing else: it votes once.
abbrev is_unprepared : ℕ → Entry → Bool
is_unprepared e (Got (Enl f) Up EnlistNo) = e == f.value
is_unprepared e (Got (Enl f) Up EnlistReadonly) = e == f.value
is_unprepared e _ = false

abbrev is_other_cast : EnlNo → Entry → Bool
is_other_cast e (Voted f w) = (e.value == f.value) && not (same_vote Yes w)
is_other_cast e _ = false

abbrev is_yes_vote : Message → Bool
is_yes_vote EnlistPrepared = true
is_yes_vote _ = false

abbrev is_other_vote : Message → Bool
is_other_vote EnlistNo = true
is_other_vote EnlistReadonly = true
is_other_vote _ = false

one_vote : (e f : EnlNo) (w : Vote) (p : Entry → Bool) (h : List Entry) → Keeps (Voted f w ∷ h) → (e.value == f.value) ≡ true → ((x : Entry) → p x ≡ true → is_vote e.value x ≡ true) → has p h ≡ true → ⊥
one_vote e f w p h k q votes t =
    not_both (has (is_vote f.value) h) (subst (λ n. has (is_vote n) h ≡ true) (eqb-true e.value f.value q) (has_more p (is_vote e.value) votes h t))
    (not_true (has (is_vote f.value) h) (third_of_five (has (is_enlisted f.value) h) (has (is_asked f.value) h) (not (has (is_vote f.value) h)) (not (has (is_lost f.value) h)) (not (stands_volatile f.value h && has is_decision h)) (newest (Voted f w) h k)))

yes_votes : (e : EnlNo) (x : Entry) → is_cast (Enl e) Yes x ≡ true → is_vote e.value x ≡ true
yes_votes e (Voted f w) t = and_left (e.value == f.value) (same_vote Yes w) t
yes_votes e _ t = absurd cc

other_votes : (e : EnlNo) (x : Entry) → is_other_cast e x ≡ true → is_vote e.value x ≡ true
other_votes e (Voted f w) t = and_left (e.value == f.value) (not (same_vote Yes w)) t
other_votes e _ t = absurd cc

casts_agree : (e : EnlNo) (h : List Entry) → Keeps h → has (is_cast (Enl e) Yes) h ≡ true → has (is_other_cast e) h ≡ true → ⊥
casts_agree e [] k s t = absurd cc
casts_agree e (x ∷ h) k s t =
    or_case (is_cast (Enl e) Yes x) (has (is_cast (Enl e) Yes) h)
    (λ a. or_case (is_other_cast e x) (has (is_other_cast e) h) (λ b. both x a b) (λ b. yes_now x k a b) t)
    (λ a. or_case (is_other_cast e x) (has (is_other_cast e) h) (λ b. other_now x k b a) (λ b. casts_agree e h (keeps_before x h k) a b) t) s
  where
    both : (y : Entry) → is_cast (Enl e) Yes y ≡ true → is_other_cast e y ≡ true → ⊥
    both (Voted f w) a b = not_both (same_vote Yes w) (and_right (e.value == f.value) (same_vote Yes w) a) (not_true (same_vote Yes w) (and_right (e.value == f.value) (not (same_vote Yes w)) b))
    both _ a b = absurd cc

    yes_now : (y : Entry) → Keeps (y ∷ h) → is_cast (Enl e) Yes y ≡ true → has (is_other_cast e) h ≡ true → ⊥
    yes_now (Voted f w) k a b = one_vote e f w (is_other_cast e) h k (and_left (e.value == f.value) (same_vote Yes w) a) (other_votes e) b
    yes_now _ k a b = absurd cc

    other_now : (y : Entry) → Keeps (y ∷ h) → is_other_cast e y ≡ true → has (is_cast (Enl e) Yes) h ≡ true → ⊥
    other_now (Voted f w) k a b = one_vote e f w (is_cast (Enl e) Yes) h k (and_left (e.value == f.value) (not (same_vote Yes w)) a) (yes_votes e) b
    other_now _ k a b = absurd cc

-- so what was got of it was sent after such a vote
yes_row : (e : EnlNo) (m : Message) (h : List Entry) → Keeps h → is_yes_vote m ≡ true → has_line (Enl e) Up m ≡ true → message_row h (Enl e) m ≡ true → has (is_cast (Enl e) Yes) h ≡ true
yes_row e EnlistPrepared h k t l r = r
yes_row e _ h k t l r = absurd cc

other_cast : (e : EnlNo) (v : Vote) → same_vote Yes v ≡ false → (x : Entry) → is_cast (Enl e) v x ≡ true → is_other_cast e x ≡ true
other_cast e v n (Voted f w) t = and_both (e.value == f.value) (not (same_vote Yes w)) (and_left (e.value == f.value) (same_vote v w) t) (by v w n (and_right (e.value == f.value) (same_vote v w) t))
  where
    by : (v w : Vote) → same_vote Yes v ≡ false → same_vote v w ≡ true → not (same_vote Yes w) ≡ true
    by Yes w n s = absurd cc
    by No No n s = refl
    by Done Done n s = refl
    by No _ n s = absurd cc
    by Done _ n s = absurd cc
other_cast e v n _ t = absurd cc

other_row : (e : EnlNo) (m : Message) (h : List Entry) → Keeps h → is_other_vote m ≡ true → has_line (Enl e) Up m ≡ true → message_row h (Enl e) m ≡ true → has (is_other_cast e) h ≡ true
other_row e EnlistNo h k t l r = has_more (is_cast (Enl e) No) (is_other_cast e) (other_cast e No refl) h r
other_row e EnlistReadonly h k t l r = has_more (is_cast (Enl e) Done) (is_other_cast e) (other_cast e Done refl) h r
other_row e _ h k t l r = absurd cc

prepared_on : (e : EnlNo) (x : Entry) → is_prepared_got e.value x ≡ true → is_got_on (Enl e) Up is_yes_vote x ≡ true
prepared_on e (Got (Enl f) Up EnlistPrepared) t = rw t refl
prepared_on e _ t = absurd cc

unprepared_on : (e : EnlNo) (x : Entry) → is_unprepared e.value x ≡ true → is_got_on (Enl e) Up is_other_vote x ≡ true
unprepared_on e (Got (Enl f) Up EnlistNo) t = rw t refl
unprepared_on e (Got (Enl f) Up EnlistReadonly) t = rw t refl
unprepared_on e _ t = absurd cc

votes_agree : (e : EnlNo) (h : List Entry) → Keeps h → has (is_prepared_got e.value) h ≡ true → has (is_unprepared e.value) h ≡ true → ⊥
votes_agree e h k s t =
    casts_agree e h k
    (from_got (Enl e) Up is_yes_vote (λ g. has (is_cast (Enl e) Yes) g) (λ x g q. or_right (is_cast (Enl e) Yes x) (has (is_cast (Enl e) Yes) g) q) (yes_row e) h k
    (has_more (is_prepared_got e.value) (is_got_on (Enl e) Up is_yes_vote) (prepared_on e) h s))
    (from_got (Enl e) Up is_other_vote (λ g. has (is_other_cast e) g) (λ x g q. or_right (is_other_cast e x) (has (is_other_cast e) g) q) (other_row e) h k
    (has_more (is_unprepared e.value) (is_got_on (Enl e) Up is_other_vote) (unprepared_on e) h t))

-- PREPARED comes after ENLIST.
prepared_is : (e : ℕ) (x : Entry) → is_prepared_got e x ≡ true → (f : EnlNo) × (x ≡ Got (Enl f) Up EnlistPrepared) × ((e == f.value) ≡ true)
prepared_is e (Got (Enl f) Up EnlistPrepared) t = (f, refl, t)
prepared_is e _ t = absurd cc

came_before : (e f : EnlNo) (h : List Entry) → (e.value == f.value) ≡ true → Keeps (Got (Enl f) Up EnlistPrepared ∷ h) → has (is_enlist_got e.value) h ≡ true
came_before e f h q k = has_more (is_opening_got (Enl f)) (is_enlist_got e.value) (enlist_of e.value f q) h (later_opened (Enl f) EnlistPrepared h k refl)

-- PREPARED comes after COMMIT for two phases, so who said it isn't let decide, and answers nothing as the owner.
prepared_vote : (e : ℕ) (x : Entry) → is_prepared_got e x ≡ true → is_vote_got e x ≡ true
prepared_vote e (Got (Enl f) Up EnlistPrepared) t = t
prepared_vote e _ t = absurd cc

prepared_two : (e : ℕ) (h : List Entry) → Keeps h → has (is_prepared_got e) h ≡ true → has is_two_phase_got h ≡ true
prepared_two e h k t =
    arrived (is_prepared_got e) (λ g. has is_two_phase_got g) (λ x g q. or_right (is_two_phase_got x) (has is_two_phase_got g) q) (λ x g w a. vote_two e x g w (prepared_vote e x a)) h k t

no_answer : (e : ℕ) (x : Entry) (h : List Entry) → Keeps (x ∷ h) → has (is_prepared_got e) h ≡ true → is_one_got e x ≡ false
no_answer e x h k t =
    let two : has is_two_phase_got (x ∷ h) ≡ true = or_right (is_two_phase_got x) (has is_two_phase_got h) (prepared_two e h (keeps_before x h k) t) in
    or_first (is_one_got e x) (has (is_one_got e) h)
    (unanswered_if_unsent e (x ∷ h) k
    (false_from_ne_true (has (is_single_sent e) (x ∷ h))
    (λ s. not_both (has is_two_phase_got (x ∷ h)) two (one_apart (x ∷ h) k (one_if_single (x ∷ h) k (has_more (is_single_sent e) is_any_single_sent (single_any e) (x ∷ h) s))))))

-- The desk of an enlistment that said PREPARED: no message but another vote of it, or its refusal as the one that was let decide, undoes that.
for_ballot : (e f : ℕ) (o : Option Ballot) (d : Desk) → (is_prepared o ≡ true) ⊎ ((o ≡ None) ⊎ ((e == f) ≡ false)) → is_prepared_desk e d ≡ true → is_prepared_desk e (with_ballot f o d) ≡ true
for_ballot e f None d c t = t
for_ballot e f (Some b) d c t = by (is_desk_of f d) refl
  where
    by : (z : Bool) → is_desk_of f d ≡ z → is_prepared_desk e (if z then record { enlistment = d.enlistment; manager = d.manager; ballot = Some b; acked = d.acked } else d) ≡ true
    by false q = t
    by true q =
        let here = and_left (is_desk_of e d) (is_prepared d.ballot) t in
        elim c [
          | inl p ↦ and_both (is_desk_of e d) (is_prepared (Some b)) here p
          | inr n ↦ elim n [ inl m ↦ absurd (none m) | inr m ↦ absurd (not_both (e == f) (subst (λ x. (e == x) ≡ true) (eqb-true e d.enlistment.value here ∙ sym (eqb-true f d.enlistment.value q)) (eq_self e)) m) ]
        ]
      where
        none : Some b ≡ None → ⊥
        none m = absurd cc

for_acked : (e f : ℕ) (d : Desk) → is_prepared_desk e d ≡ true → is_prepared_desk e (with_ack f d) ≡ true
for_acked e f d t = t

if_both : {A : Type 0} (p : A → Bool) (b : Bool) (xs ys : List A) → has p xs ≡ true → has p ys ≡ true → has p (if b then xs else ys) ≡ true
if_both p true xs ys a k = a
if_both p false xs ys a k = k

if_runs : {A : Type 0} (p : A → Bool) (b : Bool) (xs ys : List A) → (b ≡ true → has p xs ≡ true) → has p ys ≡ true → has p (if b then xs else ys) ≡ true
if_runs p true xs ys a k = a refl
if_runs p false xs ys a k = k

ballot_stays : (e : ℕ) (f : EnlNo) (m : Message) (k : Coordinated) → (is_active k.stage ≡ true → (is_prepared (ballot_of m) ≡ true) ⊎ ((ballot_of m ≡ None) ⊎ ((e == f.value) ≡ false))) → has (is_prepared_desk e) k.desks ≡ true
    → has (is_prepared_desk e) (if is_active k.stage then map (with_ballot f.value (ballot_of m)) k.desks else k.desks) ≡ true
ballot_stays e f m k c t =
    if_runs (is_prepared_desk e) (is_active k.stage) (map (with_ballot f.value (ballot_of m)) k.desks) k.desks
    (λ a. has_made (is_prepared_desk e) (is_prepared_desk e) (with_ballot f.value (ballot_of m)) (λ d s. for_ballot e f.value (ballot_of m) d (c a) s) k.desks t) t

-- the entry is no restart
abbrev is_no_restart : Entry → Bool
is_no_restart (Restarted found) = false
is_no_restart _ = true

desk_stays : (e : ℕ) (k : Coordinated) (x : Entry) → is_no_restart x ≡ true → (is_recorded k.stage ≡ false → (is_unprepared e x ≡ false) × (is_one_got e x ≡ false)) → has (is_prepared_desk e) k.desks ≡ true
    → has (is_prepared_desk e) (desks_after k x) ≡ true
desk_stays e k (Got (Enl f) Up (EnlistEnlist i)) n u t =
    let new : Desk = record { enlistment = f; manager = i.rm; ballot = None; acked = false } in
    if_both (is_prepared_desk e) (accepts k) (insert_by desk_number new k.desks) k.desks (has-insert (is_prepared_desk e) desk_number new k.desks ∙ or_right (is_prepared_desk e new) (has (is_prepared_desk e) k.desks) t) t
desk_stays e k (Got (Enl f) Up EnlistAck) n u t = has_made (is_prepared_desk e) (is_prepared_desk e) (with_ack f.value) (λ d a. for_acked e f.value d a) k.desks t
desk_stays e k (Got (Again f) Up ReenlistAck) n u t = has_made (is_prepared_desk e) (is_prepared_desk e) (with_ack f.value) (λ d a. for_acked e f.value d a) k.desks t
desk_stays e k (Got (Enl f) Up EnlistPrepared) n u t = ballot_stays e f EnlistPrepared k (λ a. inl refl) t
desk_stays e k (Got (Enl f) Up EnlistNo) n u t = ballot_stays e f EnlistNo k (λ a. inr (inr (u (active_unrecorded k.stage a)).0)) t
desk_stays e k (Got (Enl f) Up EnlistReadonly) n u t = ballot_stays e f EnlistReadonly k (λ a. inr (inr (u (active_unrecorded k.stage a)).0)) t
desk_stays e k (Got (Enl f) Up EnlistOneAborted) n u t =
    if_runs (is_prepared_desk e) (hears_one k f.value) (map (with_ballot f.value (Some Refused)) k.desks) k.desks
    (λ a. has_made (is_prepared_desk e) (is_prepared_desk e) (with_ballot f.value (Some Refused))
    (λ d s. for_ballot e f.value (Some Refused) d (inr (inr (u (heard_unrecorded k.stage (has_desk k f.value) a)).1)) s) k.desks t) t
desk_stays e k (Got (Enl f) Up m) n u t = ballot_stays e f m k (λ a. inr (inl refl)) t
desk_stays e k (Restarted b) n u t = absurd cc
desk_stays e k x n u t = t

-- a restart that finds the record keeps it
for_kept : (e : ℕ) (ds : List Desk) → has (is_prepared_desk e) ds ≡ true → has (is_prepared_desk e) (map unacked (filter (λ d. is_prepared d.ballot) ds)) ≡ true
for_kept e [] t = absurd cc
for_kept e (d ∷ ds) t = by (for_kept e ds) (is_prepared d.ballot) refl
  where
    by : (has (is_prepared_desk e) ds ≡ true → has (is_prepared_desk e) (map unacked (filter (λ d. is_prepared d.ballot) ds)) ≡ true) → (b : Bool) → is_prepared d.ballot ≡ b
        → has (is_prepared_desk e) (map unacked (if b then d ∷ filter (λ d. is_prepared d.ballot) ds else filter (λ d. is_prepared d.ballot) ds)) ≡ true
    by ih true q =
        or_case (is_prepared_desk e d) (has (is_prepared_desk e) ds) (λ a. or_left (is_prepared_desk e d) (has (is_prepared_desk e) (map unacked (filter (λ d. is_prepared d.ballot) ds))) a)
        (λ a. or_right (is_prepared_desk e d) (has (is_prepared_desk e) (map unacked (filter (λ d. is_prepared d.ballot) ds))) (ih a)) t
    by ih false q =
        or_case (is_prepared_desk e d) (has (is_prepared_desk e) ds) (λ a. absurd (not_both (is_prepared d.ballot) (and_right (is_desk_of e d) (is_prepared d.ballot) a) q)) ih t

-- PREPARED is noted at the desk, while nothing is decided,
noted_now : (e : EnlNo) (f : EnlNo) (k : Coordinated) → (e.value == f.value) ≡ true → is_active k.stage ≡ true → has (is_desk_of e.value) k.desks ≡ true
    → has (is_prepared_desk e.value) (if is_active k.stage then map (with_ballot f.value (Some Prepared)) k.desks else k.desks) ≡ true
noted_now e f k q a t =
    let P : Bool → Type 0 = λ c. has (is_prepared_desk e.value) (if c then map (with_ballot f.value (Some Prepared)) k.desks else k.desks) ≡ true in
    subst P (sym a) (has_made (is_desk_of e.value) (is_prepared_desk e.value) (with_ballot f.value (Some Prepared)) at k.desks t)
  where
    at : (d : Desk) → is_desk_of e.value d ≡ true → is_prepared_desk e.value (with_ballot f.value (Some Prepared) d) ≡ true
    at d s = by (is_desk_of f.value d) (let P : ℕ → Type 0 = λ n. (n == d.enlistment.value) ≡ true in subst P (eqb-true e.value f.value q) s)
      where
        by : (c : Bool) → c ≡ true → is_prepared_desk e.value (if c then record { enlistment = d.enlistment; manager = d.manager; ballot = Some Prepared; acked = d.acked } else d) ≡ true
        by true r = and_both (is_desk_of e.value d) true s refl
        by false r = absurd cc

no_other : (e : EnlNo) (x : Entry) (h : List Entry) → Keeps (x ∷ h) → has (is_prepared_got e.value) h ≡ true → is_unprepared e.value x ≡ false
no_other e x h k t =
    false_from_ne_true (is_unprepared e.value x)
    (λ u. votes_agree e (x ∷ h) k (or_right (is_prepared_got e.value x) (has (is_prepared_got e.value) h) t) (or_left (is_unprepared e.value x) (has (is_unprepared e.value) h) u))

not_restarting : (k : Coordinated) (x : Entry) → is_undecided (stage_after k x) ≡ true → is_no_restart x ≡ true
not_restarting k (Restarted b) u = absurd (restart_open b k.stage u)
not_restarting k _ u = refl

noted_open : (e : EnlNo) (h : List Entry) → Keeps h → is_undecided (coordinate h).stage ≡ true → has (is_prepared_got e.value) h ≡ true → has (is_prepared_desk e.value) (coordinate h).desks ≡ true
unfolding coordinate follow
noted_open e [] k u t = absurd cc
noted_open e (x ∷ h) k u t =
    let early = open_before (coordinate h) x u in
    or_case (is_prepared_got e.value x) (has (is_prepared_got e.value) h)
    (λ a. let w = prepared_is e.value x a in
    let now = subst (λ y. Keeps (y ∷ h)) w.1 k in
    let active = active_begun h (work_begun (Enl w.0) EnlistPrepared h refl now) (vote_joint e.value x h k (prepared_vote e.value x a)) early in
    subst (λ y. has (is_prepared_desk e.value) (desks_after (coordinate h) y) ≡ true) (sym w.1)
    (noted_now e w.0 (coordinate h) w.2 active (desk_there e.value h (keeps_before x h k) early (came_before e w.0 h w.2 now))))
    (λ a. desk_stays e.value (coordinate h) x (not_restarting (coordinate h) x u) (λ z. (no_other e x h k a, no_answer e.value x h k a)) (noted_open e h (keeps_before x h k) early a)) t

-- Nothing is decided where a record may be appended, and where an append may have been tried.
open_stage : (s : Stage) → has_aborted s ≡ false → has_recorded s ≡ false → is_after_one s ≡ false → is_undecided s ≡ true
open_stage Idle a r n = refl
open_stage Active a r n = refl
open_stage Sole a r n = refl
open_stage Given a r n = absurd cc
open_stage AnsweredStage a r n = absurd cc
open_stage Aborted a r n = absurd cc
open_stage Unknown a r n = absurd cc
open_stage Recorded a r n = absurd cc
open_stage Over a r n = absurd cc

record_marks : (x : Entry) → is_record x ≡ true → is_unmarked (mark_of x) ≡ false
record_marks Logged t = refl
record_marks (Restarted b) t = refl
record_marks _ t = absurd cc

unmarked_unrecorded : (h : List Entry) → is_unmarked (latest mark_of h) ≡ true → has is_record h ≡ true → ⊥
unmarked_unrecorded [] u t = absurd cc
unmarked_unrecorded (Logged ∷ h) u t = absurd cc
unmarked_unrecorded (Freed ∷ h) u t = absurd cc
unmarked_unrecorded (Restarted b ∷ h) u t = absurd cc
unmarked_unrecorded (x ∷ h) u t = unmarked_unrecorded h u t

tried_open : (h : List Entry) → Keeps h → is_unmarked (latest mark_of h) ≡ true → coordinator_aborted h ≡ false → has is_two_phase_got h ≡ true → is_undecided (coordinate h).stage ≡ true
tried_open h k u live two =
    open_stage (coordinate h).stage (false_from_ne_true (has_aborted (coordinate h).stage) (λ a. not_both (coordinator_aborted h) (aborted_there h k a) live))
    (false_from_ne_true (has_recorded (coordinate h).stage) (λ r. unmarked_unrecorded h u (record_seen h k r)))
    (false_from_ne_true (is_after_one (coordinate h).stage) (λ a. not_both (has is_two_phase_got h) two (one_apart h k (one_if_after h a))))

-- where nothing was logged and the coordinator never stopped, no entry says whether there is a record
unlogged_unmarked : (h : List Entry) → Keeps h → has is_logged h ≡ false → has is_stop h ≡ false → is_unmarked (latest mark_of h) ≡ true
unlogged_unmarked [] k l s = refl
unlogged_unmarked (Logged ∷ h) k l s = absurd cc
unlogged_unmarked (Freed ∷ h) k l s =
    absurd (unmarked_unrecorded h (unlogged_unmarked h (keeps_before Freed h k) l s) (record_of_mark h (newest Freed h k)))
unlogged_unmarked (Restarted b ∷ h) k l s = absurd (not_both (has is_stop h) (stopped_stop h (newest (Restarted b) h k)) s)
unlogged_unmarked (x ∷ h) k l s = unlogged_unmarked h (keeps_before x h k) (or_second (is_logged x) (has is_logged h) l) (or_second (is_stop x) (has is_stop h) s)

can_unlogged : (h : List Entry) → can_log h ≡ true → has is_logged h ≡ false
can_unlogged h t = not_true (has is_logged h) (and_right _ (not (has is_logged h)) (and_left _ (not (has is_stop h)) t))

can_open : (h : List Entry) → Keeps h → can_log h ≡ true → is_undecided (coordinate h).stage ≡ true
can_open h k c = tried_open h k (unlogged_unmarked h k (can_unlogged h c) (can_unstopped h c)) (can_live h c) (can_two_phase h c)

-- Where there is a record, each whose ENLIST was got said PREPARED or READONLY.
ready_among : (e : EnlNo) (g h : List Entry) → Keeps h → each (λ i. has (is_ready_got i.enl.value) g) (all_of enlist_got h) ≡ true → has (is_enlist_got e.value) h ≡ true → has (is_ready_got e.value) g ≡ true
ready_among e g [] k a t = absurd cc
ready_among e g (Got (Enl f) Up (EnlistEnlist i) ∷ h) k a t =
    or_case (e.value == f.value) (has (is_enlist_got e.value) h)
    (λ q. subst (λ n. has (is_ready_got n) g ≡ true) (sym (eqb-true e.value f.value q ∙ eqb-true f.value i.enl.value (own_info f i h k)))
    (and_left (has (is_ready_got i.enl.value) g) (each (λ i. has (is_ready_got i.enl.value) g) (all_of enlist_got h)) a))
    (λ q. ready_among e g h (keeps_before (Got (Enl f) Up (EnlistEnlist i)) h k) (and_right (has (is_ready_got i.enl.value) g) (each (λ i. has (is_ready_got i.enl.value) g) (all_of enlist_got h)) a) q) t
ready_among e g (x ∷ h) k a t = ready_among e g h (keeps_before x h k) a t

implied : (b c : Bool) → b ≡ true → (not b || c) ≡ true → c ≡ true
implied true c q t = t
implied false c q t = absurd cc

abbrev is_ready_there : ℕ → List Entry → Bool
is_ready_there e g = has is_commit_got g && (not (has (is_enlist_got e) g) || has (is_ready_got e) g)

ready_at : (e : EnlNo) (h : List Entry) → Keeps h → can_log h ≡ true → is_ready_there e.value h ≡ true
ready_at e h k c = and_both (has is_commit_got h) (not (has (is_enlist_got e.value) h) || has (is_ready_got e.value) h) (can_commit h c) (by (has (is_enlist_got e.value) h) refl)
  where
    by : (b : Bool) → has (is_enlist_got e.value) h ≡ b → (not b || has (is_ready_got e.value) h) ≡ true
    by false q = refl
    by true q = ready_among e h h k (can_ready h c) q

ready_stays : (e : ℕ) (x : Entry) (h : List Entry) → Keeps (x ∷ h) → is_ready_there e h ≡ true → is_ready_there e (x ∷ h) ≡ true
ready_stays e (Got (Enl f) Up (EnlistEnlist i)) h k t =
    absurd (not_both (has is_commit_got h) (and_left (has is_commit_got h) (not (has (is_enlist_got e) h) || has (is_ready_got e) h) t) (not_true (has is_commit_got h) (newest (Got (Enl f) Up (EnlistEnlist i)) h k)))
ready_stays e x h k t =
    and_both (has is_commit_got (x ∷ h)) (not (has (is_enlist_got e) h) || has (is_ready_got e) (x ∷ h))
    (or_right (is_commit_got x) (has is_commit_got h) (and_left (has is_commit_got h) (not (has (is_enlist_got e) h) || has (is_ready_got e) h) t))
    (more (not (has (is_enlist_got e) h)) (is_ready_got e x) (has (is_ready_got e) h) (and_right (has is_commit_got h) (not (has (is_enlist_got e) h) || has (is_ready_got e) h) t))
  where
    more : (a b c : Bool) → (a || c) ≡ true → (a || (b || c)) ≡ true
    more true b c t = refl
    more false b c t = or_right b c t

ready_then : (e : EnlNo) (h : List Entry) → Keeps h → has is_record h ≡ true → has (is_enlist_got e.value) h ≡ true → has (is_ready_got e.value) h ≡ true
ready_then e h k r t =
    implied (has (is_enlist_got e.value) h) (has (is_ready_got e.value) h) t
    (and_right (has is_commit_got h) (not (has (is_enlist_got e.value) h) || has (is_ready_got e.value) h) (if_record (is_ready_there e.value) (ready_stays e.value) (ready_at e) h k r))

ready_splits : (e : ℕ) (x : Entry) → is_ready_got e x ≡ true → (is_prepared_got e x || is_unprepared e x) ≡ true
ready_splits e (Got (Enl f) Up EnlistPrepared) t = or_left (e == f.value) false t
ready_splits e (Got (Enl f) Up EnlistReadonly) t = t
ready_splits e _ t = absurd cc

ready_said : (e : ℕ) (h : List Entry) → has (is_ready_got e) h ≡ true → has (is_prepared_got e) h ≡ false → has (is_unprepared e) h ≡ true
ready_said e [] t n = absurd cc
ready_said e (x ∷ h) t n =
    or_case (is_ready_got e x) (has (is_ready_got e) h)
    (λ a. or_left (is_unprepared e x) (has (is_unprepared e) h) (second (is_prepared_got e x) (is_unprepared e x) (has (is_prepared_got e) h) (ready_splits e x a) n))
    (λ a. or_right (is_unprepared e x) (has (is_unprepared e) h) (ready_said e h a (or_second (is_prepared_got e x) (has (is_prepared_got e) h) n))) t
  where
    second : (a b c : Bool) → (a || b) ≡ true → (a || c) ≡ false → b ≡ true
    second true b c t n = absurd cc
    second false b c t n = t

-- and while there is a record.
still_noted : (e : EnlNo) (x : Entry) (h : List Entry) → Keeps (x ∷ h) → is_no_restart x ≡ true → has_mark h ≡ true → (has (is_prepared_got e.value) h ≡ true → has (is_prepared_desk e.value) (coordinate h).desks ≡ true)
    → has (is_prepared_got e.value) (x ∷ h) ≡ true → has (is_prepared_desk e.value) (desks_after (coordinate h) x) ≡ true
still_noted e x h k n m ih t =
    desk_stays e.value (coordinate h) x n (λ a. absurd (not_both (is_recorded (coordinate h).stage) (recorded_mark h ∙ m) a)) (ih (by (has (is_prepared_got e.value) h) refl))
  where
    by : (b : Bool) → has (is_prepared_got e.value) h ≡ b → has (is_prepared_got e.value) h ≡ true
    by true q = q
    by false q =
        or_case (is_prepared_got e.value x) (has (is_prepared_got e.value) h)
        (λ a. let w = prepared_is e.value x a in
        let now = subst (λ y. Keeps (y ∷ h)) w.1 k in
        let said = ready_said e.value h (ready_then e h (keeps_before x h k) (record_of_mark h m) (came_before e w.0 h w.2 now)) q in
        absurd (votes_agree e (x ∷ h) k t (or_right (is_unprepared e.value x) (has (is_unprepared e.value) h) said)))
        (λ a. a) t

pub noted_recorded : (e : EnlNo) (h : List Entry) → Keeps h → has_mark h ≡ true → has (is_prepared_got e.value) h ≡ true → has (is_prepared_desk e.value) (coordinate h).desks ≡ true
unfolding coordinate follow
noted_recorded e [] k m t = absurd cc
noted_recorded e (Logged ∷ h) k m t = noted_open e h (keeps_before Logged h k) (can_open h (keeps_before Logged h k) (newest Logged h k)) t
noted_recorded e (Freed ∷ h) k m t = absurd cc
noted_recorded e (Restarted false ∷ h) k m t = absurd cc
noted_recorded e (Restarted true ∷ h) k m t =
    let past = keeps_before (Restarted true) h k in
    for_kept e.value (coordinate h).desks (or_case (has_mark h) (is_unmarked (latest mark_of h) && can_log (before_first_stop h)) (λ u. noted_recorded e h past u t)
    (λ u. let none = and_left (is_unmarked (latest mark_of h)) (can_log (before_first_stop h)) u in
    let can = and_right (is_unmarked (latest mark_of h)) (can_log (before_first_stop h)) u in
    let two = from_first (λ g. has is_two_phase_got g) (λ x g w q. or_right (is_two_phase_got x) (has is_two_phase_got g) q) h past (can_two_phase (before_first_stop h) can) in
    noted_open e h past (tried_open h past none (live_first h past (stopped_stop h (newest (Restarted true) h k)) none (can_live (before_first_stop h) can)) two) t)
    (newest_tied (Restarted true) h k))
noted_recorded e (x ∷ h) k m t = still_noted e x h k refl m (λ p. noted_recorded e h (keeps_before x h k) m p) t

-- What the desks say of acknowledgements, and what is said of recoveries, was got.
abbrev is_acked_desk : List Entry → Desk → Bool
is_acked_desk h d = not d.acked || is_acked d.enlistment.value h

acked_now : (e : ℕ) (x : Entry) (h : List Entry) → ((n : ℕ) → is_acked n (x ∷ h) ≡ ((n == e) || is_acked n h)) → (d : Desk) → is_acked_desk h d ≡ true → is_acked_desk (x ∷ h) (with_ack e d) ≡ true
acked_now e x h says d t = by (is_desk_of e d) d.acked refl t
  where
    by : (b c : Bool) → is_desk_of e d ≡ b → (not c || is_acked d.enlistment.value h) ≡ true → (not (b || c) || is_acked d.enlistment.value (x ∷ h)) ≡ true
    by true c q t =
        let same : (d.enlistment.value == e) ≡ true = eq_swap d.enlistment.value e ∙ q in
        subst (λ z. (not (true || c) || z) ≡ true) (sym (says d.enlistment.value)) (or_left (d.enlistment.value == e) (is_acked d.enlistment.value h) same)
    by false true q t = subst (λ z. (not true || z) ≡ true) (sym (says d.enlistment.value)) (or_right (d.enlistment.value == e) (is_acked d.enlistment.value h) t)
    by false false q t = refl

acked_ballot : (h : List Entry) (f : ℕ) (o : Option Ballot) (d : Desk) → is_acked_desk h d ≡ true → is_acked_desk h (with_ballot f o d) ≡ true
acked_ballot h f None d t = t
acked_ballot h f (Some b) d t = by (is_desk_of f d)
  where
    by : (c : Bool) → is_acked_desk h (if c then record { enlistment = d.enlistment; manager = d.manager; ballot = Some b; acked = d.acked } else d) ≡ true
    by true = t
    by false = t

each_if_both : {A : Type 0} (p : A → Bool) (b : Bool) (xs ys : List A) → each p xs ≡ true → each p ys ≡ true → each p (if b then xs else ys) ≡ true
each_if_both p true xs ys a k = a
each_if_both p false xs ys a k = k

desks_acked : (h : List Entry) → each (is_acked_desk h) (coordinate h).desks ≡ true
unfolding coordinate follow
desks_acked [] = refl
desks_acked (Got (Enl e) Up (EnlistEnlist i) ∷ h) =
    let new : Desk = record { enlistment = e; manager = i.rm; ballot = None; acked = false } in
    each_if_both (is_acked_desk h) (accepts (coordinate h)) (insert_by desk_number new (coordinate h).desks) (coordinate h).desks
    (each_inserted (is_acked_desk h) new (coordinate h).desks refl (desks_acked h)) (desks_acked h)
desks_acked (Got (Enl e) Up EnlistAck ∷ h) =
    changed (is_acked_desk h) (is_acked_desk (Got (Enl e) Up EnlistAck ∷ h)) (with_ack e.value) (λ d t. acked_now e.value (Got (Enl e) Up EnlistAck) h (λ n. refl) d t) (coordinate h).desks (desks_acked h)
desks_acked (Got (Again e) Up ReenlistAck ∷ h) =
    changed (is_acked_desk h) (is_acked_desk (Got (Again e) Up ReenlistAck ∷ h)) (with_ack e.value) (λ d t. acked_now e.value (Got (Again e) Up ReenlistAck) h (λ n. refl) d t) (coordinate h).desks (desks_acked h)
desks_acked (Got (Enl e) Up EnlistOneAborted ∷ h) =
    each_if_both (is_acked_desk h) (hears_one (coordinate h) e.value) (map (with_ballot e.value (Some Refused)) (coordinate h).desks) (coordinate h).desks
    (changed (is_acked_desk h) (is_acked_desk h) (with_ballot e.value (Some Refused)) (λ d t. acked_ballot h e.value (Some Refused) d t) (coordinate h).desks (desks_acked h)) (desks_acked h)
desks_acked (Got (Enl e) Up m ∷ h) =
    each_if_both (is_acked_desk h) (is_active (coordinate h).stage) (map (with_ballot e.value (ballot_of m)) (coordinate h).desks) (coordinate h).desks
    (changed (is_acked_desk h) (is_acked_desk h) (with_ballot e.value (ballot_of m)) (λ d t. acked_ballot h e.value (ballot_of m) d t) (coordinate h).desks (desks_acked h)) (desks_acked h)
desks_acked (Restarted true ∷ h) = all_unacked (filter (λ d. is_prepared d.ballot) (coordinate h).desks)
  where
    all_unacked : (ds : List Desk) → each (is_acked_desk (Restarted true ∷ h)) (map unacked ds) ≡ true
    all_unacked [] = refl
    all_unacked (d ∷ ds) = all_unacked ds
desks_acked (Restarted false ∷ h) = refl
desks_acked (x ∷ h) = desks_acked h

none_recovered : (r : ℕ) → is_in r 0 ≡ true → ⊥
none_recovered r t = never (subst (λ n. (n == 1) ≡ true) (bit_at-zero r) t)
  where
    never : (0 == 1) ≡ true → ⊥
    never e = absurd cc

pub recovered_seen : (r : ℕ) (h : List Entry) → is_in r (coordinate h).recovered ≡ true → has (is_recovery r) h ≡ true
unfolding coordinate follow
recovered_seen r [] t = absurd (none_recovered r t)
recovered_seen r (Recovered q ∷ h) t = by (recovered_seen r h) (r == q.value) refl
  where
    by : (is_in r (coordinate h).recovered ≡ true → has (is_recovery r) h ≡ true) → (b : Bool) → (r == q.value) ≡ b → (b || has (is_recovery r) h) ≡ true
    by ih true e = refl
    by ih false e = ih (one_tag_more r q.value (coordinate h).recovered t e)
recovered_seen r (x ∷ h) t = or_right (is_recovery r x) (has (is_recovery r) h) (recovered_seen r h t)

-- The ENLIST that was got names the manager of the desk.
abbrev pub is_enlist_as : ℕ → ℕ → Entry → Bool
is_enlist_as e r (Got (Enl f) Up (EnlistEnlist i)) = (e == f.value) && (r == i.rm.value)
is_enlist_as e r _ = false

as_got : (e : EnlNo) (r : ℕ) (x : Entry) → is_enlist_as e.value r x ≡ true → is_got_on (Enl e) Up (names r) x ≡ true
as_got e r (Got (Enl f) Up (EnlistEnlist i)) t =
    and_both ((e.value == f.value) && true) (r == i.rm.value) (and_both (e.value == f.value) true (and_left (e.value == f.value) (r == i.rm.value) t) refl) (and_right (e.value == f.value) (r == i.rm.value) t)
as_got e r _ t = absurd cc

pub enlist_by : (e : EnlNo) (r : ℕ) (h : List Entry) → Keeps h → has (is_enlist_as e.value r) h ≡ true → has (is_enlist_by e.value r) h ≡ true
enlist_by e r h k t =
    has_more (is_sent_on (Enl e) Up (names r)) (is_enlist_by e.value r) (named_sent e r) h (was_sent (Enl e) Up (names r) h k.wires (has_more (is_enlist_as e.value r) (is_got_on (Enl e) Up (names r)) (as_got e r) h t))

-- So each enlistment that said PREPARED is finished where its desk is.
finished_at : (h : List Entry) → Keeps h → (e : EnlNo) (r : ℕ) → has (is_enlist_by e.value r) h ≡ true → (ds : List Desk) → each (λ d. not (is_prepared d.ballot) || is_finished (coordinate h).recovered d) ds ≡ true
    → each (is_acked_desk h) ds ≡ true → each (is_managed_desk h) ds ≡ true → has (is_prepared_desk e.value) ds ≡ true → (is_acked e.value h || has (is_recovery r) h) ≡ true
finished_at h k e r by [] f a m t = absurd cc
finished_at h k e r by (d ∷ ds) f a m t =
    or_case (is_prepared_desk e.value d) (has (is_prepared_desk e.value) ds)
    (λ s. here (and_left (is_desk_of e.value d) (is_prepared d.ballot) s) (and_right (is_desk_of e.value d) (is_prepared d.ballot) s))
    (λ s. finished_at h k e r by ds (and_right (not (is_prepared d.ballot) || is_finished (coordinate h).recovered d) (each (λ d. not (is_prepared d.ballot) || is_finished (coordinate h).recovered d) ds) f)
    (and_right (is_acked_desk h d) (each (is_acked_desk h) ds) a) (and_right (is_managed_desk h d) (each (is_managed_desk h) ds) m) s) t
  where
    here : is_desk_of e.value d ≡ true → is_prepared d.ballot ≡ true → (is_acked e.value h || has (is_recovery r) h) ≡ true
    here own prepared =
        let same = eqb-true e.value d.enlistment.value own in
        let managed = and_left (is_managed_desk h d) (each (is_managed_desk h) ds) m in
        let manager : r ≡ d.manager.value = one_manager e r d.manager.value h k by (subst (λ n. has (is_enlist_by n d.manager.value) h ≡ true) (sym same) managed) in
        or_case d.acked (is_in d.manager.value (coordinate h).recovered)
        (λ z. or_left (is_acked e.value h) (has (is_recovery r) h) (subst (λ n. is_acked n h ≡ true) (sym same) (implied d.acked (is_acked d.enlistment.value h) z (and_left (is_acked_desk h d) (each (is_acked_desk h) ds) a))))
        (λ z. or_right (is_acked e.value h) (has (is_recovery r) h) (subst (λ n. has (is_recovery n) h ≡ true) (sym manager) (recovered_seen d.manager.value h z)))
        (implied (is_prepared d.ballot) (is_finished (coordinate h).recovered d) prepared
        (and_left (not (is_prepared d.ballot) || is_finished (coordinate h).recovered d) (each (λ d. not (is_prepared d.ballot) || is_finished (coordinate h).recovered d) ds) f))

-- what holds of each whose ENLIST was got, by its number and its manager, holds of what the ENLISTs name
pub each_info : (P : Info → Bool) (h : List Entry) → Keeps h → ((i : Info) → has (is_enlist_as i.enl.value i.rm.value) h ≡ true → P i ≡ true) → each P (all_of enlist_got h) ≡ true
each_info P [] k f = refl
each_info P (Got (Enl e) Up (EnlistEnlist i) ∷ h) k f =
    and_both (P i) (each P (all_of enlist_got h))
    (f i (or_left ((i.enl.value == e.value) && (i.rm.value == i.rm.value)) (has (is_enlist_as i.enl.value i.rm.value) h)
    (and_both (i.enl.value == e.value) (i.rm.value == i.rm.value) (eq_swap i.enl.value e.value ∙ own_info e i h k) (eq_self i.rm.value))))
    (each_info P h (keeps_before (Got (Enl e) Up (EnlistEnlist i)) h k) (λ j t. f j (or_right ((j.enl.value == e.value) && (j.rm.value == i.rm.value)) (has (is_enlist_as j.enl.value j.rm.value) h) t)))
each_info P (x ∷ h) k f = each_info P h (keeps_before x h k) (λ j t. f j (or_right (is_enlist_as j.enl.value j.rm.value x) (has (is_enlist_as j.enl.value j.rm.value) h) t))

-- Where the coordinator may free its record, the law of marks lets it.
pub may_free_can : (h : List Entry) → Keeps h → may_free (coordinate h) ≡ true → can_free h ≡ true
may_free_can h k m =
    let why = heard_why (coordinate h) m in
    let marked : has_mark h ≡ true = sym (recorded_mark h) ∙ why.stands in
    and_both (has_mark h) (each (is_done_there h) (all_of enlist_got h)) marked
    (each_info (is_done_there h) h k (λ i t. by i (enlist_by i.enl i.rm.value h k t) marked why.finished (has (is_prepared_got i.enl.value) h) refl))
  where
    by : (i : Info) → has (is_enlist_by i.enl.value i.rm.value) h ≡ true → has_mark h ≡ true → each (λ d. not (is_prepared d.ballot) || is_finished (coordinate h).recovered d) (coordinate h).desks ≡ true
        → (b : Bool) → has (is_prepared_got i.enl.value) h ≡ b → (not b || is_acked i.enl.value h || has (is_recovery i.rm.value) h) ≡ true
    by i named marked finished false q = refl
    by i named marked finished true q =
        finished_at h k i.enl i.rm.value named (coordinate h).desks finished (desks_acked h) (desks_managed h k) (noted_recorded i.enl h k marked q)
