-- While there is a record, each whose ENLIST was got is finished at the local side, or has a desk that said PREPARED, whatever stops and restarts came: so it was where the append could be
-- tried first, and a restart that finds the record keeps the desks that said PREPARED.
use Rattle.std.proofs.Common.{◌≡◌, true, false, List, refl, Bool, Option, Some, ℕ, None, [], ◌∷◌, ◌∙◌, ◌||◌, ◌&&◌, ◌⊎◌, inl, inr, sym, subst, ◌==◌}
use Rattle.std.specs.Prelude.{not, if◌then◌else◌, map, is_some, filter}
use Rattle.std.proofs.lemmas.Bool.{false_from_ne_true, eqb-true, or_left}
use Rattle.dtx_values.specs.declared.entry.Entry.{Entry}
use Rattle.dtx_values.specs.declared.entry.Entry.TheVariants.{Got, Restarted, Freed, Logged}
use Rattle.dtx_values.specs.declared.message.Conn.TheVariants.{Enl, Again}
use Rattle.dtx_values.specs.declared.message.Dir.TheVariants.{Up}
use Rattle.dtx_values.specs.declared.message.Message.TheVariants.{EnlistAck, EnlistEnlist, EnlistNo, EnlistOneAborted, ReenlistAck, EnlistPrepared, EnlistReadonly}
use Rattle.dtx_values.specs.declared.number.EnlNo.{EnlNo}
use Rattle.dtx_values.specs.Table.{insert_by}
use Rattle.dtx_model.specs.declared.desk.Ballot.{Ballot}
use Rattle.dtx_model.specs.declared.desk.Ballot.TheVariants.{Refused, Prepared, ReadOnly}
use Rattle.dtx_model.specs.declared.desk.Desk.{Desk}
use Rattle.dtx_model.specs.declared.desk.Stage.{Stage}
use Rattle.dtx_model.specs.declared.desk.Stage.TheVariants.{Aborted, Active, Answered, Given, Idle, Over, Recorded, Sole, Unknown}
use Rattle.dtx_model.specs.Words.{has, each, latest, holds}
use Rattle.dtx_model.specs.Entries.{is_record, is_vote_got, is_commit_got, is_two_phase_got}
use Rattle.dtx_model.specs.Learned.{coordinator_aborted}
use Rattle.dtx_model.specs.Tied.{can_log, is_ready_got, mark_of, is_unmarked, before_first_stop, is_logged, has_mark}
use Rattle.dtx_model.specs.Coordinated.{coordinate, decides, has_aborted, hears_one, stage_if, is_undecided, is_desk_of, with_ballot, abort_if, accepts, ballot_of, desk_number, follow, is_active, with_ack, has_voted, is_prepared, desks_after, kept_desks, unacked}
use Rattle.dtx_model.proofs.Bools.{not_both, not_false, and_both, and_left, and_right, or_case, or_right, not_true}
use Rattle.history_table.proofs.Keeping.{Keeps, newest_tied, keeps_before, newest}
use Rattle.history_table.proofs.Recording.{can_live, can_two_phase, can_unstopped, can_ready, named, can_commit, if_record, live_if_record}
use Rattle.history_table.proofs.LetDecide.{one_apart}
use Rattle.history_table.proofs.CoreStages.{has_recorded, is_after_one, one_if_after, changed, each_if, open_before, restart_open, active_open}
use Rattle.history_table.proofs.CoreKnown.{abort_decided, aborted_there, record_seen, vote_kept, has_made, aborts_there, has_if, refuses_there}
use Rattle.history_table.proofs.Lists.{each-insert, has-insert}
use Rattle.history_table.proofs.Managed.{is_prepared_desk}
use Rattle.history_table.proofs.Scans.{has_more}
use Rattle.history_table.proofs.Table.{is_enlist_got}
use Rattle.history_table.proofs.Sendings.{aborted_more, record_of_mark}
use Rattle.history_table.proofs.Owned.{has_filter}
use Rattle.settled_histories.proofs.Unheard.{calm_unmarked, can_unlogged, unmarked_unrecorded}
use Rattle.settled_histories.proofs.Finished.{is_finished, desks_done, is_done_desk, is_read_only, finished_more, own_finished}

-- Where an append may come, nothing is decided.
able_open : (h : List Entry) → Keeps h → can_log h ≡ true → is_undecided (coordinate h).stage ≡ true
able_open h k c =
    by (coordinate h).stage (false_from_ne_true (is_after_one (coordinate h).stage) (λ o. not_both (has is_two_phase_got h) (can_two_phase h c) (one_apart h k (one_if_after h o)))) (false_from_ne_true (has_aborted (coordinate h).stage) (λ a. not_both (coordinator_aborted h) (aborted_there h k a) (can_live h c)))
    (false_from_ne_true (has_recorded (coordinate h).stage) (λ r. not_both (has is_record h) (record_seen h k r) (unmarked_unrecorded h (calm_unmarked h k (can_unstopped h c) (can_unlogged h c)))))
  where
    by : (s : Stage) → is_after_one s ≡ false → has_aborted s ≡ false → has_recorded s ≡ false → is_undecided s ≡ true
    by Idle o a r = refl
    by Active o a r = refl
    by Sole o a r = refl
    by Given o a r = absurd cc
    by Answered o a r = absurd cc
    by Aborted o a r = absurd cc
    by Recorded o a r = absurd cc
    by Over o a r = absurd cc
    by Unknown o a r = absurd cc

-- While nothing is decided, no desk said NO.
abbrev is_refused : Option Ballot → Bool
is_refused (Some Refused) = true
is_refused _ = false

abbrev is_unrefused : Desk → Bool
is_unrefused d = not (is_refused d.ballot)

unrefused_ballot : (e : ℕ) (o : Option Ballot) → is_refused o ≡ false → (d : Desk) → is_unrefused d ≡ true → is_unrefused (with_ballot e o d) ≡ true
unrefused_ballot e None n d t = t
unrefused_ballot e (Some b) n d t = by (is_desk_of e d)
  where
    by : (c : Bool) → is_unrefused (if c then record { enlistment = d.enlistment; manager = d.manager; ballot = Some b; acked = d.acked } else d) ≡ true
    by true = not_false (is_refused (Some b)) n
    by false = t

none_refused : (h : List Entry) → is_undecided (coordinate h).stage ≡ true → each is_unrefused (coordinate h).desks ≡ true
unfolding coordinate follow
none_refused [] u = refl
none_refused (Got (Enl f) Up (EnlistEnlist i) ∷ h) u =
    let new : Desk = record { enlistment = f; manager = i.rm; ballot = None; acked = false } in
    let rest = none_refused h (open_before (coordinate h) (Got (Enl f) Up (EnlistEnlist i)) u) in
    each_if is_unrefused (accepts (coordinate h)) (insert_by desk_number new (coordinate h).desks) (coordinate h).desks
    (each-insert is_unrefused desk_number new (coordinate h).desks ∙ rest) rest
none_refused (Got (Enl f) Up EnlistAck ∷ h) u =
    changed is_unrefused is_unrefused (with_ack f.value) (λ d t. t) (coordinate h).desks (none_refused h (open_before (coordinate h) (Got (Enl f) Up EnlistAck) u))
none_refused (Got (Again f) Up ReenlistAck ∷ h) u =
    changed is_unrefused is_unrefused (with_ack f.value) (λ d t. t) (coordinate h).desks (none_refused h (open_before (coordinate h) (Got (Again f) Up ReenlistAck) u))
none_refused (Got (Enl f) Up EnlistNo ∷ h) u = absurd (not_both (is_undecided (abort_if true (coordinate h).stage)) u (abort_decided true (coordinate h).stage refl))
none_refused (Got (Enl f) Up EnlistOneAborted ∷ h) u = absurd (refused (is_undecided (coordinate h).stage) (decides (coordinate h) f.value) (open_before (coordinate h) (Got (Enl f) Up EnlistOneAborted) u) u)
  where
    refused : (a b : Bool) → a ≡ true → is_undecided (stage_if (a || b) Aborted (coordinate h).stage) ≡ true → ⊥
    refused true b q u = absurd cc
    refused false b q u = absurd cc
none_refused (Got (Enl f) Up m ∷ h) u =
    let rest = none_refused h (open_before (coordinate h) (Got (Enl f) Up m) u) in
    each_if is_unrefused (is_active (coordinate h).stage) (map (with_ballot f.value (ballot_of m)) (coordinate h).desks) (coordinate h).desks
    (changed is_unrefused is_unrefused (with_ballot f.value (ballot_of m)) (unrefused_ballot f.value (ballot_of m) refl) (coordinate h).desks rest) rest
none_refused (Restarted b ∷ h) u = absurd (restart_open b (coordinate h).stage u)
none_refused (x ∷ h) u = none_refused h (open_before (coordinate h) x u)

abbrev pub is_placed : EnlNo → List Entry → Bool
is_placed e h = is_finished e.value h || has (is_prepared_desk e.value) (coordinate h).desks

-- so is each whose ENLIST was got, where an append may come
placed_at : (e : EnlNo) (h : List Entry) → Keeps h → can_log h ≡ true → has (is_enlist_got e.value) h ≡ true → is_placed e h ≡ true
placed_at e h k c t =
    let u = able_open h k c in
    let ready : has (is_ready_got e.value) h ≡ true = named e.value (λ n. has (is_ready_got n) h) h k t (can_ready h c) in
    both (is_finished e.value h) (has (is_prepared_desk e.value) (coordinate h).desks)
    (walk (coordinate h).desks (vote_kept e.value h k u (has_more (is_ready_got e.value) (is_vote_got e.value) (voted e.value) h ready)) (none_refused h u) (desks_done h k))
  where
    both : (a b : Bool) → (a ≡ true) ⊎ (b ≡ true) → (a || b) ≡ true
    both a b (inl t) = or_left a b t
    both a b (inr t) = or_right a b t

    voted : (n : ℕ) (x : Entry) → is_ready_got n x ≡ true → is_vote_got n x ≡ true
    voted n (Got (Enl f) Up EnlistPrepared) q = q
    voted n (Got (Enl f) Up EnlistReadonly) q = q
    voted n _ q = absurd cc

    ballots : (o : Option Ballot) (a f : Bool) → is_some o ≡ true → not (is_refused o) ≡ true → (not (a || is_read_only o) || f) ≡ true → (f ≡ true) ⊎ (is_prepared o ≡ true)
    ballots (Some Prepared) a f v r d = inr refl
    ballots (Some ReadOnly) true f v r d = inl d
    ballots (Some ReadOnly) false f v r d = inl d
    ballots (Some Refused) a f v r d = absurd cc
    ballots None a f v r d = absurd cc

    here : (d : Desk) → (is_desk_of e.value d && has_voted d) ≡ true → is_unrefused d ≡ true → is_done_desk h d ≡ true → (is_finished e.value h ≡ true) ⊎ (is_prepared_desk e.value d ≡ true)
    here d q r w = by (ballots d.ballot d.acked (is_finished d.enlistment.value h) (and_right (is_desk_of e.value d) (has_voted d) q) r w)
      where
        by : (is_finished d.enlistment.value h ≡ true) ⊎ (is_prepared d.ballot ≡ true) → (is_finished e.value h ≡ true) ⊎ (is_prepared_desk e.value d ≡ true)
        by (inl f) =
            let P : ℕ → Type 0 = λ n. is_finished n h ≡ true in
            inl (subst P (sym (eqb-true e.value d.enlistment.value (and_left (is_desk_of e.value d) (has_voted d) q))) f)
        by (inr p) = inr (and_both (is_desk_of e.value d) (is_prepared d.ballot) (and_left (is_desk_of e.value d) (has_voted d) q) p)

    first : (d : Desk) (ds : List Desk) → (is_finished e.value h ≡ true) ⊎ (is_prepared_desk e.value d ≡ true) → (is_finished e.value h ≡ true) ⊎ (has (is_prepared_desk e.value) (d ∷ ds) ≡ true)
    first d ds (inl f) = inl f
    first d ds (inr p) = inr (or_left (is_prepared_desk e.value d) (has (is_prepared_desk e.value) ds) p)

    rest : (d : Desk) (ds : List Desk) → (is_finished e.value h ≡ true) ⊎ (has (is_prepared_desk e.value) ds ≡ true) → (is_finished e.value h ≡ true) ⊎ (has (is_prepared_desk e.value) (d ∷ ds) ≡ true)
    rest d ds (inl f) = inl f
    rest d ds (inr p) = inr (or_right (is_prepared_desk e.value d) (has (is_prepared_desk e.value) ds) p)

    walk : (ds : List Desk) → has (λ d. is_desk_of e.value d && has_voted d) ds ≡ true → each is_unrefused ds ≡ true → each (is_done_desk h) ds ≡ true
        → (is_finished e.value h ≡ true) ⊎ (has (is_prepared_desk e.value) ds ≡ true)
    walk [] v r w = absurd cc
    walk (d ∷ ds) v r w =
        or_case (is_desk_of e.value d && has_voted d) (has (λ x. is_desk_of e.value x && has_voted x) ds)
        (λ q. first d ds (here d q (and_left (is_unrefused d) (each is_unrefused ds) r) (and_left (is_done_desk h d) (each (is_done_desk h) ds) w)))
        (λ q. rest d ds (walk ds q (and_right (is_unrefused d) (each is_unrefused ds) r) (and_right (is_done_desk h d) (each (is_done_desk h) ds) w))) v

-- the record is gone, or the coordinator aborted
abbrev is_gone : Option Bool → Bool
is_gone (Some b) = not b
is_gone None = false

abbrev is_past : List Entry → Bool
is_past h = is_gone (latest mark_of h) || coordinator_aborted h

unfound : (o : Option Bool) (b : Bool) → is_gone o ≡ true → (holds o || (is_unmarked o && b)) ≡ true → ⊥
unfound (Some true) b g t = absurd cc
unfound (Some false) b g t = absurd cc
unfound None b g t = absurd cc

past_more : (x : Entry) (h : List Entry) → Keeps (x ∷ h) → is_logged x ≡ false → is_past h ≡ true → is_past (x ∷ h) ≡ true
past_more Logged h k n t = absurd cc
past_more Freed h k n t = refl
past_more (Restarted false) h k n t = refl
past_more (Restarted true) h k n t =
    or_case (is_gone (latest mark_of h)) (coordinator_aborted h) (λ g. absurd (unfound (latest mark_of h) (can_log (before_first_stop h)) g (newest_tied (Restarted true) h k)))
    (λ a. aborted_more (Restarted true) h a) t
past_more x h k n t =
    or_case (is_gone (latest mark_of h)) (coordinator_aborted h) (λ g. or_left (is_gone (latest mark_of h)) (coordinator_aborted (x ∷ h)) g)
    (λ a. or_right (is_gone (latest mark_of h)) (coordinator_aborted (x ∷ h)) (aborted_more x h a)) t

-- A desk that said PREPARED stays, unless its enlistment is finished, or the record is gone, or the coordinator aborts.
abbrev is_still_placed : EnlNo → List Entry → Bool
is_still_placed e h = is_placed e h || is_past h

stays_placed : (f p q : Bool) → p ≡ true → ((f || p) || q) ≡ true
stays_placed f p q t = or_left (f || p) q (or_right f p t)

ack_kept : (e f : ℕ) (ds : List Desk) → has (is_prepared_desk e) ds ≡ true → has (is_prepared_desk e) (map (with_ack f) ds) ≡ true
ack_kept e f ds t = has_made (is_prepared_desk e) (is_prepared_desk e) (with_ack f) (λ d a. a) ds t

prepared_kept : (e f : ℕ) (d : Desk) → is_prepared_desk e d ≡ true → is_prepared_desk e (with_ballot f (Some Prepared) d) ≡ true
prepared_kept e f d t = by (is_desk_of f d)
  where
    by : (c : Bool) → is_prepared_desk e (if c then record { enlistment = d.enlistment; manager = d.manager; ballot = Some Prepared; acked = d.acked } else d) ≡ true
    by true = and_both (is_desk_of e d) true (and_left (is_desk_of e d) (is_prepared d.ballot) t) refl
    by false = t

other_kept : (e f : ℕ) (o : Option Ballot) (d : Desk) → (e == f) ≡ false → is_prepared_desk e d ≡ true → is_prepared_desk e (with_ballot f o d) ≡ true
other_kept e f None d n t = t
other_kept e f (Some b) d n t = by (is_desk_of f d) refl
  where
    by : (c : Bool) → is_desk_of f d ≡ c → is_prepared_desk e (if c then record { enlistment = d.enlistment; manager = d.manager; ballot = Some b; acked = d.acked } else d) ≡ true
    by false q = t
    by true q =
        let P : ℕ → Type 0 = λ n. (e == n) ≡ true in
        absurd (not_both (e == f) (subst P (sym (eqb-true f d.enlistment.value q)) (and_left (is_desk_of e d) (is_prepared d.ballot) t)) n)

desk_kept : (e : EnlNo) (x : Entry) (h : List Entry) → Keeps (x ∷ h) → has (is_prepared_desk e.value) (coordinate h).desks ≡ true → is_still_placed e (x ∷ h) ≡ true
unfolding coordinate follow
desk_kept e (Got (Enl f) Up (EnlistEnlist i)) h k t =
    let x = Got (Enl f) Up (EnlistEnlist i) in
    let new : Desk = record { enlistment = f; manager = i.rm; ballot = None; acked = false } in
    let p = is_prepared_desk e.value in
    stays_placed (is_finished e.value (x ∷ h)) (has p (desks_after (coordinate h) x)) (is_past (x ∷ h))
    (has_if p (accepts (coordinate h)) (insert_by desk_number new (coordinate h).desks) (coordinate h).desks (has-insert p desk_number new (coordinate h).desks ∙ or_right (p new) (has p (coordinate h).desks) t) t)
desk_kept e (Got (Enl f) Up EnlistAck) h k t =
    let x = Got (Enl f) Up EnlistAck in
    stays_placed (is_finished e.value (x ∷ h)) (has (is_prepared_desk e.value) (desks_after (coordinate h) x)) (is_past (x ∷ h)) (ack_kept e.value f.value (coordinate h).desks t)
desk_kept e (Got (Again f) Up ReenlistAck) h k t =
    let x = Got (Again f) Up ReenlistAck in
    stays_placed (is_finished e.value (x ∷ h)) (has (is_prepared_desk e.value) (desks_after (coordinate h) x)) (is_past (x ∷ h)) (ack_kept e.value f.value (coordinate h).desks t)
desk_kept e (Got (Enl f) Up EnlistPrepared) h k t =
    let x = Got (Enl f) Up EnlistPrepared in
    let p = is_prepared_desk e.value in
    stays_placed (is_finished e.value (x ∷ h)) (has p (desks_after (coordinate h) x)) (is_past (x ∷ h))
    (has_if p (is_active (coordinate h).stage) (map (with_ballot f.value (Some Prepared)) (coordinate h).desks) (coordinate h).desks
    (has_made p p (with_ballot f.value (Some Prepared)) (prepared_kept e.value f.value) (coordinate h).desks t) t)
desk_kept e (Got (Enl f) Up EnlistReadonly) h k t = by (e.value == f.value) refl
  where
    by : (b : Bool) → (e.value == f.value) ≡ b → is_still_placed e (Got (Enl f) Up EnlistReadonly ∷ h) ≡ true
    by true q =
        let x = Got (Enl f) Up EnlistReadonly in
        let P : ℕ → Type 0 = λ n. is_finished n h ≡ true in
        let done : is_finished e.value (x ∷ h) ≡ true = finished_more e x h k (subst P (sym (eqb-true e.value f.value q)) (own_finished f EnlistReadonly h k refl)) in
        or_left (is_placed e (x ∷ h)) (is_past (x ∷ h)) (or_left (is_finished e.value (x ∷ h)) (has (is_prepared_desk e.value) (coordinate (x ∷ h)).desks) done)
    by false q =
        let x = Got (Enl f) Up EnlistReadonly in
        let p = is_prepared_desk e.value in
        stays_placed (is_finished e.value (x ∷ h)) (has p (desks_after (coordinate h) x)) (is_past (x ∷ h))
        (has_if p (is_active (coordinate h).stage) (map (with_ballot f.value (Some ReadOnly)) (coordinate h).desks) (coordinate h).desks
        (has_made p p (with_ballot f.value (Some ReadOnly)) (λ d a. other_kept e.value f.value (Some ReadOnly) d q a) (coordinate h).desks t) t)
desk_kept e (Got (Enl f) Up EnlistNo) h k t = by (is_active (coordinate h).stage) refl
  where
    by : (b : Bool) → is_active (coordinate h).stage ≡ b → is_still_placed e (Got (Enl f) Up EnlistNo ∷ h) ≡ true
    by true q =
        let x = Got (Enl f) Up EnlistNo in
        or_right (is_placed e (x ∷ h)) (is_past (x ∷ h))
        (or_right (is_gone (latest mark_of h)) (coordinator_aborted (x ∷ h)) (aborts_there h (keeps_before x h k) x (active_open (coordinate h).stage q)))
    by false q =
        let x = Got (Enl f) Up EnlistNo in
        let p = is_prepared_desk e.value in
        let P : Bool → Type 0 = λ b. has p (if b then map (with_ballot f.value (Some Refused)) (coordinate h).desks else (coordinate h).desks) ≡ true in
        stays_placed (is_finished e.value (x ∷ h)) (has p (desks_after (coordinate h) x)) (is_past (x ∷ h)) (subst P (sym q) t)
desk_kept e (Got (Enl f) Up EnlistOneAborted) h k t = by (hears_one (coordinate h) f.value) refl
  where
    by : (b : Bool) → hears_one (coordinate h) f.value ≡ b → is_still_placed e (Got (Enl f) Up EnlistOneAborted ∷ h) ≡ true
    by true q =
        let x = Got (Enl f) Up EnlistOneAborted in
        or_right (is_placed e (x ∷ h)) (is_past (x ∷ h)) (or_right (is_gone (latest mark_of h)) (coordinator_aborted (x ∷ h)) (refuses_there h (keeps_before x h k) f q))
    by false q =
        let x = Got (Enl f) Up EnlistOneAborted in
        let p = is_prepared_desk e.value in
        let P : Bool → Type 0 = λ b. has p (if b then map (with_ballot f.value (Some Refused)) (coordinate h).desks else (coordinate h).desks) ≡ true in
        stays_placed (is_finished e.value (x ∷ h)) (has p (desks_after (coordinate h) x)) (is_past (x ∷ h)) (subst P (sym q) t)
desk_kept e (Got (Enl f) Up m) h k t =
    let p = is_prepared_desk e.value in
    stays_placed (is_finished e.value (Got (Enl f) Up m ∷ h)) (has p (desks_after (coordinate h) (Got (Enl f) Up m))) (is_past (Got (Enl f) Up m ∷ h))
    (has_if p (is_active (coordinate h).stage) (map (with_ballot f.value (ballot_of m)) (coordinate h).desks) (coordinate h).desks
    (has_made p p (with_ballot f.value (ballot_of m)) (λ d a. a) (coordinate h).desks t) t)
desk_kept e (Restarted false) h k t = or_right (is_placed e (Restarted false ∷ h)) (is_past (Restarted false ∷ h)) refl
desk_kept e (Restarted true) h k t =
    let x = Restarted true in
    let p = is_prepared_desk e.value in
    let said : Desk → Bool = λ d. is_prepared d.ballot in
    stays_placed (is_finished e.value (x ∷ h)) (has p (kept_desks true (coordinate h).desks)) (is_past (x ∷ h))
    (has_made p p unacked (λ d a. a) (filter said (coordinate h).desks)
    (has_filter p said (coordinate h).desks
    ∙ has_more p (λ d. p d && said d) (λ d a. and_both (p d) (said d) a (and_right (is_desk_of e.value d) (said d) a)) (coordinate h).desks t))
desk_kept e x h k t = stays_placed (is_finished e.value (x ∷ h)) (has (is_prepared_desk e.value) (coordinate h).desks) (is_past (x ∷ h)) t

-- So once an append could be tried.
abbrev is_accounted : EnlNo → List Entry → Bool
is_accounted e h = has is_commit_got h && (not (has (is_enlist_got e.value) h) || is_still_placed e h)

accounted : (c g p : Bool) → c ≡ true → (g ≡ true → p ≡ true) → (c && (not g || p)) ≡ true
accounted true true p c f = f refl
accounted true false p c f = refl
accounted false g p c f = absurd cc

accounted_at : (e : EnlNo) (h : List Entry) → Keeps h → can_log h ≡ true → is_accounted e h ≡ true
accounted_at e h k c =
    accounted (has is_commit_got h) (has (is_enlist_got e.value) h) (is_still_placed e h) (can_commit h c) (λ t. or_left (is_placed e h) (is_past h) (placed_at e h k c t))

-- no ENLIST comes after COMMIT
pub uncome : (e : ℕ) (x : Entry) (h : List Entry) → Keeps (x ∷ h) → has is_commit_got h ≡ true → is_enlist_got e x ≡ true → ⊥
uncome e (Got (Enl f) Up (EnlistEnlist i)) h k c t = not_both (has is_commit_got h) c (not_true (has is_commit_got h) (newest (Got (Enl f) Up (EnlistEnlist i)) h k))
uncome e _ h k c t = absurd cc

placed_more : (e : EnlNo) (x : Entry) (h : List Entry) → Keeps (x ∷ h) → has (is_enlist_got e.value) h ≡ true → is_still_placed e h ≡ true → is_still_placed e (x ∷ h) ≡ true
placed_more e x h k g t = by (is_logged x) refl
  where
    by : (b : Bool) → is_logged x ≡ b → is_still_placed e (x ∷ h) ≡ true
    by true q = logged x q k
      where
        logged : (y : Entry) → is_logged y ≡ true → Keeps (y ∷ h) → is_still_placed e (y ∷ h) ≡ true
        logged Logged q k =
            let past = keeps_before Logged h k in
            or_case (is_finished e.value h) (has (is_prepared_desk e.value) (coordinate h).desks)
            (λ f. or_left (is_placed e (Logged ∷ h)) (is_past (Logged ∷ h)) (or_left (is_finished e.value (Logged ∷ h)) (has (is_prepared_desk e.value) (coordinate (Logged ∷ h)).desks) (finished_more e Logged h k f)))
            (λ p. desk_kept e Logged h k p) (placed_at e h past (newest Logged h k) g)
        logged _ q k = absurd cc
    by false q =
        or_case (is_placed e h) (is_past h)
        (λ p. or_case (is_finished e.value h) (has (is_prepared_desk e.value) (coordinate h).desks)
        (λ f. or_left (is_placed e (x ∷ h)) (is_past (x ∷ h)) (or_left (is_finished e.value (x ∷ h)) (has (is_prepared_desk e.value) (coordinate (x ∷ h)).desks) (finished_more e x h k f)))
        (λ d. desk_kept e x h k d) p)
        (λ p. or_right (is_placed e (x ∷ h)) (is_past (x ∷ h)) (past_more x h k q p)) t

accounted_more : (e : EnlNo) (x : Entry) (h : List Entry) → Keeps (x ∷ h) → is_accounted e h ≡ true → is_accounted e (x ∷ h) ≡ true
accounted_more e x h k t =
    let c = and_left (has is_commit_got h) (not (has (is_enlist_got e.value) h) || is_still_placed e h) t in
    accounted (has is_commit_got (x ∷ h)) (has (is_enlist_got e.value) (x ∷ h)) (is_still_placed e (x ∷ h)) (or_right (is_commit_got x) (has is_commit_got h) c)
    (λ g. let came = or_case (is_enlist_got e.value x) (has (is_enlist_got e.value) h) (λ a. absurd (uncome e.value x h k c a)) (λ a. a) g in
    placed_more e x h k came
    (or_case (not (has (is_enlist_got e.value) h)) (is_still_placed e h) (λ n. absurd (not_both (has (is_enlist_got e.value) h) came (not_true (has (is_enlist_got e.value) h) n))) (λ p. p)
    (and_right (has is_commit_got h) (not (has (is_enlist_got e.value) h) || is_still_placed e h) t)))

marked_there : (o : Option Bool) → holds o ≡ true → is_gone o ≡ true → ⊥
marked_there (Some true) m g = absurd cc
marked_there (Some false) m g = absurd cc
marked_there None m g = absurd cc

-- While there is a record, each whose ENLIST was got is finished, or has a desk that said PREPARED.
pub placed_there : (e : EnlNo) (h : List Entry) → Keeps h → has_mark h ≡ true → has (is_enlist_got e.value) h ≡ true → is_placed e h ≡ true
placed_there e h k m g =
    let r = record_of_mark h m in
    or_case (is_placed e h) (is_past h) (λ p. p)
    (λ p. or_case (is_gone (latest mark_of h)) (coordinator_aborted h) (λ q. absurd (marked_there (latest mark_of h) m q)) (λ a. absurd (not_both (coordinator_aborted h) a (live_if_record h k r))) p)
    (or_case (not (has (is_enlist_got e.value) h)) (is_still_placed e h) (λ n. absurd (not_both (has (is_enlist_got e.value) h) g (not_true (has (is_enlist_got e.value) h) n))) (λ p. p)
    (and_right (has is_commit_got h) (not (has (is_enlist_got e.value) h) || is_still_placed e h) (if_record (is_accounted e) (accounted_more e) (accounted_at e) h k r)))
