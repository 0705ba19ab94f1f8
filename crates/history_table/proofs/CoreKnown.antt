-- What the coordinator knows, where the history keeps the table: COMMIT, YES and votes that were got while it is undecided are noted, each ENLIST has its desk, it aborts where
-- the law says so, and where it may append a record, the table lets it.
use Rattle.std.proofs.Common.{◌≡◌, ap, arith, suc, length, ℕ, ◌==◌, Bool, true, false, ◌&&◌, ◌||◌, List, [], ◌∷◌, Option, Some, None, refl, sym, subst, ◌∙◌}
use Rattle.std.specs.Prelude.{not, map, is_some, if◌then◌else◌}
use Rattle.std.proofs.lemmas.Bool.{eqb-true, false_from_ne_true, or_left}
use Rattle.std.proofs.lemmas.Bool.Decides.{nat_tests}
use Rattle.std.proofs.lemmas.List.{length-map}
use Rattle.dtx_values.specs.declared.entry.Entry.{Entry}
use Rattle.dtx_values.specs.declared.entry.Entry.TheVariants.{Down as End, Freed, Got, LogFull, Logged, Restarted, Sent}
use Rattle.dtx_values.specs.declared.message.Conn.{Conn}
use Rattle.dtx_values.specs.declared.message.Conn.TheVariants.{Begin, Voter, Enl, Again}
use Rattle.dtx_values.specs.declared.message.Dir.TheVariants.{Up, Down}
use Rattle.dtx_values.specs.declared.message.Info.{Info}
use Rattle.dtx_values.specs.declared.message.Message.{Message}
use Rattle.dtx_values.specs.declared.message.Message.TheVariants.{BeginAbort, BeginBegin, BeginBegun, BeginCommit, BeginCommitOne, VoterNo, VoterVoter, VoterYes, EnlistAck, EnlistEnlist, EnlistNo, EnlistOneAborted, EnlistPrepared, EnlistReadonly, EnlistSingle, ReenlistAck}
use Rattle.dtx_values.specs.declared.number.EnlNo.{EnlNo}
use Rattle.dtx_values.specs.Ends.{same_connection}
use Rattle.dtx_values.specs.Lines.{has_line, is_opening}
use Rattle.dtx_values.specs.Table.{how_many, insert_by}
use Rattle.dtx_model.specs.declared.desk.Ballot.{Ballot}
use Rattle.dtx_model.specs.declared.desk.Ballot.TheVariants.{Prepared, Refused, ReadOnly}
use Rattle.dtx_model.specs.declared.desk.Desk.{Desk}
use Rattle.dtx_model.specs.declared.desk.Stage.{Stage}
use Rattle.dtx_model.specs.declared.desk.Stage.TheVariants.{Idle, Active, Sole, Given, Answered as AnsweredStage, Aborted as AbortedStage, Recorded, Over}
use Rattle.dtx_model.specs.Words.{all_of, each, ever, has}
use Rattle.dtx_model.specs.Entries.{is_any_single_sent, is_commit_got, is_enlist_got as is_any_enlist, is_one_got, is_record, is_single_sent, is_two_phase_got, is_vote_got, is_yes_got}
use Rattle.dtx_model.specs.Outcome.{is_lone, is_veto_end}
use Rattle.dtx_model.specs.Learned.{coordinator_aborted, is_abort, is_first_abort}
use Rattle.dtx_model.specs.Promotes.{is_begun_got, is_promoting}
use Rattle.dtx_model.specs.Tied.{can_log, enlist_got, is_logged, is_ready_got, is_stop}
use Rattle.dtx_model.specs.Wires.{WireRun, opens}
use Rattle.dtx_model.specs.Caused.{is_begin_sent}
use Rattle.dtx_model.specs.Coordinated.{Coordinated, abort_if, aborts, accepts, ballot_of, behind_restart, coordinate, decides, desk_number, desks_after, ended_stage, follow, has_aborted, has_desk, has_voted, hears_one, is_active, is_desk_of, is_early, is_given, is_going, is_one, is_ready, is_sole, is_undecided, may_log, sole_if, stage_after, with_ack, with_ballot}
use Rattle.dtx_model.proofs.Bools.{and_left, and_right, and_both, not_both, not_false, not_true, or_case, or_false, or_first, or_right, or_second}
use Rattle.history_table.proofs.Tests.{eq_swap, first_of_five, second_of_five, third_of_five, fourth_of_five, second_of_four, third_of_four, fourth_of_four}
use Rattle.dtx_model.proofs.Counts.{length-insert_by}
use Rattle.history_table.proofs.Scans.{has_less, has_more}
use Rattle.history_table.proofs.Lists.{has-insert}
use Rattle.history_table.proofs.Table.{is_enlist_got, is_one_phase_got, is_opening_got, is_there, message_row, rule}
use Rattle.history_table.proofs.Keeping.{Keeps, arrived, before, earlier, fifth_of_five, keeps_before, newest}
use Rattle.history_table.proofs.Crossed.{got_sent, is_got_on, is_sent_on, was_sent}
use Rattle.history_table.proofs.Sendings.{aborted_more, got_line, got_promoting, opened_promoting, own_info, record_of_mark, logged_record, single_row}
use Rattle.history_table.proofs.Recording.{can_commit, if_record}
use Rattle.history_table.proofs.Leading.{led_got, opening_came, opening_was_sent, sent_opens}
use Rattle.history_table.proofs.CoreStages.{active_begun, active_open, commit_noted, desks_ready, desks_voted, going_begun, going_case, has_recorded, has_said, is_backed, is_marking, of_record, IsLive, come, open_before, open_unrecorded, record_after, record_stage, restart_open, said_of, stage_step, stop_seen, yes_noted}
use Rattle.history_table.proofs.LetDecide.{handed_if_owner, one_phase_commit, owner_if_one, single_any, single_if_handed, single_unrecorded}
use Rattle.history_table.proofs.JointVotes.{vote_is, vote_joint}
use Rattle.dtx_model.proofs.Connections.{same_is}

no : false ≡ true → ⊥
no e = absurd cc

-- Where anything came on the voter's connection or an enlistment's, BEGIN came.
abbrev pub is_work : Conn → Bool
is_work Voter = true
is_work (Enl e) = true
is_work _ = false

row_begun : (c : Conn) (m : Message) (h : List Entry) → is_work c ≡ true → is_opening c m ≡ true → message_row h c m ≡ true → has is_begun_got h ≡ true
row_begun Voter (VoterVoter u) h w o r = and_left (has is_begun_got h) (not (has (opens Voter) h)) r
row_begun (Enl e) (EnlistEnlist i) h w o r = second_of_four (e.value == i.enl.value) (has is_begun_got h) _ _ r
row_begun _ _ h w o r = absurd cc

opens_begun : (c : Conn) → is_work c ≡ true → (x : Entry) (h : List Entry) → Keeps h → rule h x ≡ true → opens c x ≡ true → has is_begun_got h ≡ true
opens_begun c w (Sent e Up m) h k r t =
    let s = and_left (same_connection c e) (is_opening e m) t in
    let P : Conn → Type 0 = λ y. is_work y ≡ true in
    row_begun e m h (subst P (same_is c e s) w) (and_right (same_connection c e) (is_opening e m) t)
    (fourth_of_four (has_line e Up m) (has is_promoting h) (is_there h e Up m) (message_row h e m) r)
opens_begun c w (Sent e Down m) h k r t = absurd (no t)
opens_begun c w _ h k r t = absurd (no t)

pub begun_on : (x : Entry) → is_begun_got x ≡ true → is_got_on Begin Down (λ m. true) x ≡ true
begun_on (Got Begin Down (BeginBegun u)) t = refl
begun_on _ t = absurd cc

-- what was sent downward was sent on a connection whose opening message was got
sent_there : (c : Conn) (p : Message → Bool) (x : Entry) (h : List Entry) → Keeps h → rule h x ≡ true → is_sent_on c Down p x ≡ true → has (is_opening_got c) h ≡ true
sent_there c p (Sent e Down m) h k r t =
    let s = and_left (same_connection c e) true (and_left (same_connection c e && true) (p m) t) in
    let P : Conn → Type 0 = λ y. has (is_opening_got y) h ≡ true in
    subst P (sym (same_is c e s)) (third_of_four (has_line e Down m) (has is_promoting h) (has (is_opening_got e) h) (message_row h e m) r)
sent_there c p (Sent e Up m) h k r t = absurd (never (same_connection c e) (p m) t)
  where
    never : (a b : Bool) → (a && false && b) ≡ true → ⊥
    never true b k = absurd cc
    never false b k = absurd cc
sent_there c p _ h k r t = absurd (no t)

pub sent_opened_there : (c : Conn) (p : Message → Bool) (h : List Entry) → Keeps h → has (is_sent_on c Down p) h ≡ true → has (is_opening_got c) h ≡ true
sent_opened_there c p h k t = earlier (is_sent_on c Down p) (λ g. has (is_opening_got c) g) (λ x g q. or_right (is_opening_got c x) (has (is_opening_got c) g) q) (sent_there c p) h k t

pub got_there : (c : Conn) (p : Message → Bool) (h : List Entry) → Keeps h → has (is_got_on c Down p) h ≡ true → has (is_opening_got c) h ≡ true
got_there c p h k t =
    earlier (is_sent_on c Down p) (λ g. has (is_opening_got c) g) (λ x g q. or_right (is_opening_got c x) (has (is_opening_got c) g) q) (sent_there c p) h k (was_sent c Down p h k.wires t)

opened_begun : (c : Conn) (h : List Entry) → is_work c ≡ true → Keeps h → has (opens c) h ≡ true → has (is_opening_got Begin) h ≡ true
opened_begun c h w k t =
    got_there Begin (λ m. true) h k (has_more is_begun_got (is_got_on Begin Down (λ m. true)) begun_on h (before (opens c) is_begun_got (opens_begun c w) h k t))

-- what comes on a connection comes where that was opened
pub got_opened : (c : Conn) (m : Message) (h : List Entry) → Keeps (Got c Up m ∷ h) → has (opens c) h ≡ true
got_opened c m h k =
    or_case (is_opening c m) (has (is_opening_got c) h)
    (λ t. has_more (is_sent_on c Up (is_opening c)) (opens c) (sent_opens c) h (got_sent c Up m (is_opening c) h k.wires.0 t)) (λ t. opening_was_sent c h k.wires.1 t)
    (led_got c m h k.wires.1 k.wires.0)

pub work_begun : (c : Conn) (m : Message) (h : List Entry) → is_work c ≡ true → Keeps (Got c Up m ∷ h) → has (is_opening_got Begin) h ≡ true
work_begun c m h w k = opened_begun c h w (keeps_before (Got c Up m) h k) (got_opened c m h k)

-- a message that doesn't open the connection comes after the one that does
pub later_opened : (c : Conn) (m : Message) (h : List Entry) → Keeps (Got c Up m ∷ h) → is_opening c m ≡ false → has (is_opening_got c) h ≡ true
later_opened c m h k o = or_case (is_opening c m) (has (is_opening_got c) h) (λ t. absurd (not_both (is_opening c m) t o)) (λ t. t) (led_got c m h k.wires.1 k.wires.0)

-- all this is of a promotion
pub known_promoting : (c : Conn) (h : List Entry) → Keeps h → has (is_opening_got c) h ≡ true → has is_promoting h ≡ true
known_promoting c h k t = opened_promoting c h k (opening_was_sent c h k.wires t)

-- and BEGIN was sent
begin_opens : (x : Entry) → opens Begin x ≡ true → is_begin_sent x ≡ true
begin_opens (Sent e Up m) t = by e m t
  where
    by : (e : Conn) (m : Message) → (same_connection Begin e && is_opening e m) ≡ true → is_begin_sent (Sent e Up m) ≡ true
    by Begin BeginBegin t = refl
    by _ _ t = absurd cc
begin_opens (Sent e Down m) t = absurd cc
begin_opens _ t = absurd cc

pub begin_was_sent : (h : List Entry) → WireRun h → has (is_opening_got Begin) h ≡ true → has is_begin_sent h ≡ true
begin_was_sent h w t = has_more (opens Begin) is_begin_sent begin_opens h (opening_was_sent Begin h w t)

commit_on : (x : Entry) → is_commit_got x ≡ true → is_got_on Begin Up (λ m. true) x ≡ true
commit_on (Got Begin Up BeginCommit) t = refl
commit_on (Got Begin Up BeginCommitOne) t = refl
commit_on _ t = absurd cc

record_at : (h : List Entry) → Keeps h → can_log h ≡ true → has is_begin_sent h ≡ true
record_at h k c =
    begin_was_sent h k.wires (opening_came Begin (λ m. true) h k.wires (has_more is_commit_got (is_got_on Begin Up (λ m. true)) commit_on h (can_commit h c)))

pub record_begun : (h : List Entry) → Keeps h → has is_record h ≡ true → has is_begin_sent h ≡ true
record_begun h k t = if_record (λ g. has is_begin_sent g) (λ x g w q. or_right (is_begin_sent x) (has is_begin_sent g) q) record_at h k t

-- COMMIT and YES that were got while it is undecided are noted.
commit_is : (x : Entry) → is_commit_got x ≡ true → (m : Message) × (x ≡ Got Begin Up m) × (is_opening Begin m ≡ false)
commit_is (Got Begin Up BeginCommit) t = (BeginCommit, refl, refl)
commit_is (Got Begin Up BeginCommitOne) t = (BeginCommitOne, refl, refl)
commit_is _ t = absurd cc

yes_is : (x : Entry) → is_yes_got x ≡ true → x ≡ Got Voter Up VoterYes
yes_is (Got Voter Up VoterYes) t = refl
yes_is _ t = absurd cc

-- what waits for its one enlistment noted its COMMIT
pub sole_live : IsLive is_sole
sole_live = record { aborted = refl; recorded = refl; over = refl; unknown = refl }

committed_new : (k : Coordinated) (x : Entry) → is_sole (stage_after k x) ≡ true → ((is_commit_got x && is_active k.stage) || is_sole k.stage) ≡ true
committed_new k x a =
    come is_sole sole_live k x
    (record {
      stays = λ u. or_right (is_commit_got x && is_active k.stage) (is_sole k.stage) u;
      begun = λ u o q. absurd cc;
      alone = λ u a o q.
          or_left (is_commit_got x && is_active k.stage) (is_sole k.stage)
          (and_both (is_commit_got x) (is_active k.stage) (one_phase_commit x q) (and_left (is_active k.stage) (not k.commit) a));
      lets = λ u a q. absurd cc;
      answers = λ u g. absurd cc;
    }) a

pub sole_committed : (h : List Entry) → is_sole (coordinate h).stage ≡ true → (coordinate h).commit ≡ true
unfolding coordinate follow
sole_committed [] a = absurd cc
sole_committed (x ∷ h) a =
    or_case (is_commit_got x && is_active (coordinate h).stage) (is_sole (coordinate h).stage) (λ t. or_left (is_commit_got x && is_active (coordinate h).stage) (coordinate h).commit t)
    (λ t. or_right (is_commit_got x && is_active (coordinate h).stage) (coordinate h).commit (sole_committed h t)) (committed_new (coordinate h) x a)

pub commit_kept : (h : List Entry) → Keeps h → is_undecided (coordinate h).stage ≡ true → has is_commit_got h ≡ true → (coordinate h).commit ≡ true
unfolding coordinate follow
commit_kept [] k u t = absurd (no t)
commit_kept (x ∷ h) k u t =
    let early = open_before (coordinate h) x u in
    or_case (is_commit_got x) (has is_commit_got h)
    (λ a. let w = commit_is x a in
    let P : Entry → Type 0 = λ y. Keeps (y ∷ h) in
    going_case (coordinate h).stage (going_begun h (later_opened Begin w.0 h (subst P w.1 k) w.2) early)
    (λ g. or_left (is_commit_got x && is_active (coordinate h).stage) (coordinate h).commit (and_both (is_commit_got x) (is_active (coordinate h).stage) a g))
    (λ g. or_right (is_commit_got x && is_active (coordinate h).stage) (coordinate h).commit (sole_committed h g)))
    (λ a. or_right (is_commit_got x && is_active (coordinate h).stage) (coordinate h).commit (commit_kept h (keeps_before x h k) early a)) t

pub yes_kept : (h : List Entry) → Keeps h → is_undecided (coordinate h).stage ≡ true → has is_yes_got h ≡ true → (coordinate h).yes ≡ true
unfolding coordinate follow
yes_kept [] k u t = absurd (no t)
yes_kept (x ∷ h) k u t =
    let early = open_before (coordinate h) x u in
    let P : Entry → Type 0 = λ y. Keeps (y ∷ h) in
    or_case (is_yes_got x) (has is_yes_got h)
    (λ a. or_left (is_yes_got x && is_going (coordinate h).stage) (coordinate h).yes
    (and_both (is_yes_got x) (is_going (coordinate h).stage) a (going_begun h (work_begun Voter VoterYes h refl (subst P (yes_is x a) k)) early)))
    (λ a. or_right (is_yes_got x && is_going (coordinate h).stage) (coordinate h).yes (yes_kept h (keeps_before x h k) early a)) t

-- Each ENLIST that was got has a desk, while it is undecided.
pub has_made : {A : Type 0} (p q : A → Bool) (f : A → A) → ((x : A) → p x ≡ true → q (f x) ≡ true) → (xs : List A) → has p xs ≡ true → has q (map f xs) ≡ true
has_made p q f sub [] k = absurd cc
has_made p q f sub (x ∷ xs) k = or_case (p x) (has p xs) (λ a. or_left (q (f x)) (has q (map f xs)) (sub x a)) (λ a. or_right (q (f x)) (has q (map f xs)) (has_made p q f sub xs a)) k

pub has_if : {A : Type 0} (p : A → Bool) (b : Bool) (xs ys : List A) → has p xs ≡ true → has p ys ≡ true → has p (if b then xs else ys) ≡ true
has_if p true xs ys a k = a
has_if p false xs ys a k = k

-- a test of desks that no message of an enlistment undoes
pub record IsLasting (q : Desk → Bool) : Type 0 where
  pub acks : (e : ℕ) (d : Desk) → q d ≡ true → q (with_ack e d) ≡ true
  pub ballots : (e : ℕ) (o : Option Ballot) (d : Desk) → q d ≡ true → q (with_ballot e o d) ≡ true

pub desk_stays : (q : Desk → Bool) → IsLasting q → (k : Coordinated) (x : Entry) → ((b : Bool) → x ≡ Restarted b → ⊥) → has q k.desks ≡ true → has q (desks_after k x) ≡ true
desk_stays q l k (Got (Enl e) Up (EnlistEnlist i)) u t =
    let new : Desk = record { enlistment = e; manager = i.rm; ballot = None; acked = false } in
    has_if q (accepts k) (insert_by desk_number new k.desks) k.desks (has-insert q desk_number new k.desks ∙ or_right (q new) (has q k.desks) t) t
desk_stays q l k (Got (Enl e) Up EnlistAck) u t = has_made q q (with_ack e.value) (λ d a. l.acks e.value d a) k.desks t
desk_stays q l k (Got (Again e) Up ReenlistAck) u t = has_made q q (with_ack e.value) (λ d a. l.acks e.value d a) k.desks t
desk_stays q l k (Got (Enl e) Up EnlistOneAborted) u t =
    has_if q (hears_one k e.value) (map (with_ballot e.value (Some Refused)) k.desks) k.desks (has_made q q (with_ballot e.value (Some Refused)) (λ d a. l.ballots e.value (Some Refused) d a) k.desks t) t
desk_stays q l k (Got (Enl e) Up m) u t =
    has_if q (is_active k.stage) (map (with_ballot e.value (ballot_of m)) k.desks) k.desks (has_made q q (with_ballot e.value (ballot_of m)) (λ d a. l.ballots e.value (ballot_of m) d a) k.desks t) t
desk_stays q l k (Restarted b) u t = absurd (u b refl)
desk_stays q l k x u t = t

-- an entry after which it is undecided is no restart
unrestarted : (k : Coordinated) (x : Entry) → is_undecided (stage_after k x) ≡ true → (b : Bool) → x ≡ Restarted b → ⊥
unrestarted k x u b q = let P : Entry → Type 0 = λ y. is_undecided (stage_after k y) ≡ true in restart_open b k.stage (subst P q u)

pub numbered : (e : ℕ) → IsLasting (is_desk_of e)
numbered e = record { acks = λ f d a. a; ballots = by }
  where
    by : (f : ℕ) (o : Option Ballot) (d : Desk) → is_desk_of e d ≡ true → is_desk_of e (with_ballot f o d) ≡ true
    by f None d a = a
    by f (Some b) d a = at (is_desk_of f d)
      where
        at : (c : Bool) → is_desk_of e (if c then record { enlistment = d.enlistment; manager = d.manager; ballot = Some b; acked = d.acked } else d) ≡ true
        at true = a
        at false = a

abbrev is_cast_by : ℕ → Desk → Bool
is_cast_by e d = is_desk_of e d && has_voted d

cast_lasts : (e : ℕ) → IsLasting (is_cast_by e)
cast_lasts e = record { acks = λ f d a. a; ballots = by }
  where
    by : (f : ℕ) (o : Option Ballot) (d : Desk) → is_cast_by e d ≡ true → is_cast_by e (with_ballot f o d) ≡ true
    by f None d a = a
    by f (Some b) d a = at (is_desk_of f d)
      where
        at : (c : Bool) → is_cast_by e (if c then record { enlistment = d.enlistment; manager = d.manager; ballot = Some b; acked = d.acked } else d) ≡ true
        at true = and_both (is_desk_of e d) true (and_left (is_desk_of e d) (has_voted d) a) refl
        at false = a

enlist_is : (e : ℕ) (x : Entry) → is_enlist_got e x ≡ true → (f : EnlNo) × (i : Info) × (x ≡ Got (Enl f) Up (EnlistEnlist i)) × ((e == f.value) ≡ true)
enlist_is e (Got (Enl f) Up (EnlistEnlist i)) t = (f, i, refl, t)
enlist_is e _ t = absurd cc

-- an ENLIST that comes while it is undecided is accepted
enlist_accepted : (f : EnlNo) (i : Info) (h : List Entry) → Keeps (Got (Enl f) Up (EnlistEnlist i) ∷ h) → is_undecided (coordinate h).stage ≡ true → accepts (coordinate h) ≡ true
enlist_accepted f i h k u =
    let early = not_true (has is_commit_got h) (newest (Got (Enl f) Up (EnlistEnlist i)) h k) in
    let uncommitted = false_from_ne_true (coordinate h).commit (λ a. not_both (has is_commit_got h) (commit_noted h a) early) in
    let single = has_less is_one_phase_got is_commit_got one_phase_commit h early in
    and_both (is_active (coordinate h).stage) (not (coordinate h).commit) (active_begun h (work_begun (Enl f) (EnlistEnlist i) h refl k) single u) (not_false (coordinate h).commit uncommitted)

desk_new : (e : ℕ) (f : EnlNo) (i : Info) (h : List Entry) → Keeps (Got (Enl f) Up (EnlistEnlist i) ∷ h) → is_undecided (coordinate h).stage ≡ true → (e == f.value) ≡ true
    → has (is_desk_of e) (desks_after (coordinate h) (Got (Enl f) Up (EnlistEnlist i))) ≡ true
desk_new e f i h k u q =
    let new : Desk = record { enlistment = f; manager = i.rm; ballot = None; acked = false } in
    let P : Bool → Type 0 = λ b. has (is_desk_of e) (if b then insert_by desk_number new (coordinate h).desks else (coordinate h).desks) ≡ true in
    subst P (sym (enlist_accepted f i h k u)) (has-insert (is_desk_of e) desk_number new (coordinate h).desks ∙ or_left (is_desk_of e new) (has (is_desk_of e) (coordinate h).desks) q)

pub desk_there : (e : ℕ) (h : List Entry) → Keeps h → is_undecided (coordinate h).stage ≡ true → has (is_enlist_got e) h ≡ true → has (is_desk_of e) (coordinate h).desks ≡ true
unfolding coordinate follow
desk_there e [] k u t = absurd (no t)
desk_there e (x ∷ h) k u t =
    let early = open_before (coordinate h) x u in
    or_case (is_enlist_got e x) (has (is_enlist_got e) h)
    (λ a. let w = enlist_is e x a in
    let P : Entry → Type 0 = λ y. Keeps (y ∷ h) in
    let Q : Entry → Type 0 = λ y. has (is_desk_of e) (desks_after (coordinate h) y) ≡ true in
    subst Q (sym w.2) (desk_new e w.0 w.1 h (subst P w.2 k) early w.3))
    (λ a. desk_stays (is_desk_of e) (numbered e) (coordinate h) x (unrestarted (coordinate h) x u) (desk_there e h (keeps_before x h k) early a)) t

-- and a vote that was got is cast at its desk
cast_now : (e : ℕ) (f : EnlNo) (b : Ballot) (k : Coordinated) → (e == f.value) ≡ true → is_active k.stage ≡ true → has (is_desk_of e) k.desks ≡ true
    → has (is_cast_by e) (if is_active k.stage then map (with_ballot f.value (Some b)) k.desks else k.desks) ≡ true
cast_now e f b k q a t =
    let P : Bool → Type 0 = λ c. has (is_cast_by e) (if c then map (with_ballot f.value (Some b)) k.desks else k.desks) ≡ true in
    subst P (sym a) (has_made (is_desk_of e) (is_cast_by e) (with_ballot f.value (Some b)) at k.desks t)
  where
    at : (d : Desk) → is_desk_of e d ≡ true → is_cast_by e (with_ballot f.value (Some b) d) ≡ true
    at d s = by (is_desk_of f.value d) (let P : ℕ → Type 0 = λ n. (n == d.enlistment.value) ≡ true in subst P (eqb-true e f.value q) s)
      where
        by : (c : Bool) → c ≡ true → is_cast_by e (if c then record { enlistment = d.enlistment; manager = d.manager; ballot = Some b; acked = d.acked } else d) ≡ true
        by true r = and_both (is_desk_of e d) true s refl
        by false r = absurd cc

vote_new : (e : ℕ) (k : Coordinated) (x : Entry) → is_vote_got e x ≡ true → is_active k.stage ≡ true → has (is_desk_of e) k.desks ≡ true → has (is_cast_by e) (desks_after k x) ≡ true
vote_new e k (Got (Enl f) Up EnlistPrepared) t a d = cast_now e f Prepared k t a d
vote_new e k (Got (Enl f) Up EnlistNo) t a d = cast_now e f Refused k t a d
vote_new e k (Got (Enl f) Up EnlistReadonly) t a d = cast_now e f ReadOnly k t a d
vote_new e k _ t a d = absurd (no t)

pub enlist_of : (e : ℕ) (f : EnlNo) → (e == f.value) ≡ true → (x : Entry) → is_opening_got (Enl f) x ≡ true → is_enlist_got e x ≡ true
enlist_of e f q (Got c Up m) t = by c m (and_left (same_connection (Enl f) c) (is_opening c m) t) (and_right (same_connection (Enl f) c) (is_opening c m) t)
  where
    by : (c : Conn) (m : Message) → same_connection (Enl f) c ≡ true → is_opening c m ≡ true → is_enlist_got e (Got c Up m) ≡ true
    by (Enl g) (EnlistEnlist i) s o = let P : ℕ → Type 0 = λ n. (n == g.value) ≡ true in subst P (sym (eqb-true e f.value q)) s
    by _ _ s o = absurd cc
enlist_of e f q _ t = absurd (no t)

pub vote_kept : (e : ℕ) (h : List Entry) → Keeps h → is_undecided (coordinate h).stage ≡ true → has (is_vote_got e) h ≡ true → has (is_cast_by e) (coordinate h).desks ≡ true
unfolding coordinate follow
vote_kept e [] k u t = absurd (no t)
vote_kept e (x ∷ h) k u t =
    let early = open_before (coordinate h) x u in
    or_case (is_vote_got e x) (has (is_vote_got e) h)
    (λ a. let w = vote_is e x a in
    let P : Entry → Type 0 = λ y. Keeps (y ∷ h) in
    let now = subst P w.2 k in
    let come = has_more (is_opening_got (Enl w.0)) (is_enlist_got e) (enlist_of e w.0 w.3) h (later_opened (Enl w.0) w.1 h now w.4) in
    vote_new e (coordinate h) x a (active_begun h (work_begun (Enl w.0) w.1 h refl now) (vote_joint e x h k a) early) (desk_there e h (keeps_before x h k) early come))
    (λ a. desk_stays (is_cast_by e) (cast_lasts e) (coordinate h) x (unrestarted (coordinate h) x u) (vote_kept e h (keeps_before x h k) early a)) t

-- SINGLE is sent once, and then it is decided there, or the one enlistment decides.
single_now : (k : Coordinated) (x : Entry) → is_sole k.stage ≡ true → is_any_single_sent x ≡ true → is_undecided (stage_after k x) ≡ false
single_now k (Sent (Enl e) Down EnlistSingle) s t = let P : Bool → Type 0 = λ b. is_undecided (if b then Given else k.stage) ≡ false in subst P (sym s) refl
single_now k _ s t = absurd (no t)

pub single_decided : (h : List Entry) → Keeps h → has is_any_single_sent h ≡ true → is_undecided (coordinate h).stage ≡ false
unfolding coordinate follow
single_decided [] k t = absurd (no t)
single_decided (x ∷ h) k t =
    or_case (is_any_single_sent x) (has is_any_single_sent h)
    (λ a. let w = single_row x h (newest x h k) a in
    single_now (coordinate h) x
    (and_left (is_sole (coordinate h).stage) (has_desk (coordinate h) w.0.value)
    (fourth_of_four (has is_one_phase_got h) (has is_yes_got h) (not (coordinator_aborted h)) (is_sole (coordinate h).stage && has_desk (coordinate h) w.0.value) w.2)) a)
    (λ a. false_from_ne_true (is_undecided (stage_after (coordinate h) x)) (λ u. not_both (is_undecided (coordinate h).stage) (open_before (coordinate h) x u) (single_decided h (keeps_before x h k) a))) t

-- while it is undecided nobody was let decide, and no answer came
pub open_single : (h : List Entry) → Keeps h → is_undecided (coordinate h).stage ≡ true → has is_any_single_sent h ≡ false
open_single h k u = false_from_ne_true (has is_any_single_sent h) (λ t. not_both (is_undecided (coordinate h).stage) u (single_decided h k t))

open_unsent : (e : ℕ) (h : List Entry) → Keeps h → is_undecided (coordinate h).stage ≡ true → has (is_single_sent e) h ≡ false
open_unsent e h k u = has_less (is_single_sent e) is_any_single_sent (single_any e) h (open_single h k u)

pub unanswered_if_unsent : (e : ℕ) (h : List Entry) → Keeps h → has (is_single_sent e) h ≡ false → has (is_one_got e) h ≡ false
unanswered_if_unsent e h k n =
    false_from_ne_true (has (is_one_got e) h) (λ t. not_both (has (is_single_sent e) h) (single_if_handed e h k (one_promoting e h k t) (handed_if_owner e h k (owner_if_one e h k t))) n)
  where
    one_promoting : (e : ℕ) (h : List Entry) → Keeps h → has (is_one_got e) h ≡ true → has is_promoting h ≡ true
    one_promoting e h k t = arrived (is_one_got e) (λ g. has is_promoting g) (λ x g q. or_right (is_promoting x) (has is_promoting g) q) (some e) h k t
      where
        some : (e : ℕ) (x : Entry) (h : List Entry) → Keeps (x ∷ h) → is_one_got e x ≡ true → has is_promoting h ≡ true
        some e (Got c d m) h k t = got_promoting c d m h k
        some e _ h k t = absurd (no t)

-- It counts each enlistment that came, while it is undecided.
if_length : (b : Bool) (f : Desk → Desk) (ds : List Desk) → length (if b then map f ds else ds) ≡ length ds
if_length true f ds = length-map ds f
if_length false f ds = refl

same_length : (k : Coordinated) (x : Entry) → is_any_enlist x ≡ false → is_undecided (stage_after k x) ≡ true → length (desks_after k x) ≡ length k.desks
same_length k (Got (Enl e) Up (EnlistEnlist i)) n u = absurd cc
same_length k (Got (Enl e) Up EnlistAck) n u = length-map k.desks (with_ack e.value)
same_length k (Got (Again e) Up ReenlistAck) n u = length-map k.desks (with_ack e.value)
same_length k (Got (Enl e) Up EnlistOneAborted) n u = if_length (hears_one k e.value) (with_ballot e.value (Some Refused)) k.desks
same_length k (Got (Enl e) Up m) n u = if_length (is_active k.stage) (with_ballot e.value (ballot_of m)) k.desks
same_length k (Restarted b) n u = absurd (restart_open b k.stage u)
same_length k x n u = refl

any_enlist_is : (x : Entry) → is_any_enlist x ≡ true → (f : EnlNo) × (i : Info) × (x ≡ Got (Enl f) Up (EnlistEnlist i))
any_enlist_is (Got (Enl f) Up (EnlistEnlist i)) t = (f, i, refl)
any_enlist_is _ t = absurd cc

desks_count : (h : List Entry) → Keeps h → is_undecided (coordinate h).stage ≡ true → length (coordinate h).desks ≡ how_many is_any_enlist h
unfolding coordinate follow
desks_count [] k u = refl
desks_count (x ∷ h) k u = by (desks_count h (keeps_before x h k) (open_before (coordinate h) x u)) (is_any_enlist x) refl
  where
    new : (f : EnlNo) (i : Info) → x ≡ Got (Enl f) Up (EnlistEnlist i) → length (desks_after (coordinate h) x) ≡ suc (length (coordinate h).desks)
    new f i q =
        let P : Entry → Type 0 = λ y. Keeps (y ∷ h) in
        let Q : Entry → Type 0 = λ y. length (desks_after (coordinate h) y) ≡ suc (length (coordinate h).desks) in
        let made : Desk = record { enlistment = f; manager = i.rm; ballot = None; acked = false } in
        let R : Bool → Type 0 = λ b. length (if b then insert_by desk_number made (coordinate h).desks else (coordinate h).desks) ≡ suc (length (coordinate h).desks) in
        subst Q (sym q) (subst R (sym (enlist_accepted f i h (subst P q k) (open_before (coordinate h) x u))) (length-insert_by desk_number made (coordinate h).desks))

    by : length (coordinate h).desks ≡ how_many is_any_enlist h → (b : Bool) → is_any_enlist x ≡ b → length (desks_after (coordinate h) x) ≡ (if b then suc (how_many is_any_enlist h) else how_many is_any_enlist h)
    by ih true q = let w = any_enlist_is x q in new w.0 w.1 w.2 ∙ ap suc ih
    by ih false q = same_length (coordinate h) x q u ∙ ih

one_length : (ds : List Desk) → is_one ds ≡ (length ds == 1)
one_length [] = refl
one_length (d ∷ []) = refl
one_length (d ∷ e ∷ ds) = many (length ds)
  where
    many : (n : ℕ) → false ≡ (suc (suc n) == 1)
    many n = grind (arith, nat_tests)

pub one_seen : (h : List Entry) → Keeps h → is_undecided (coordinate h).stage ≡ true → is_one (coordinate h).desks ≡ is_lone h
one_seen h k u = one_length (coordinate h).desks ∙ ap (λ n. n == 1) (desks_count h k u)

-- So an end that is early is a veto, and what makes the coordinator abort is an abort of the law's.
pub early_veto : (h : List Entry) → Keeps h → is_undecided (coordinate h).stage ≡ true → (c : Conn) → is_early (coordinate h) c ≡ true → is_veto_end h c Up ≡ true
early_veto h k u Begin t =
    not_false (has is_commit_got h) (false_from_ne_true (has is_commit_got h) (λ a. not_both (coordinate h).commit (commit_kept h k u a) (not_true (coordinate h).commit t)))
early_veto h k u Voter t = not_false (has is_yes_got h) (false_from_ne_true (has is_yes_got h) (λ a. not_both (coordinate h).yes (yes_kept h k u a) (not_true (coordinate h).yes t)))
early_veto h k u (Enl e) t =
    let there = has (is_cast_by e.value) (coordinate h).desks in
    and_both (not (has (is_vote_got e.value) h)) (not (has (is_single_sent e.value) h))
    (not_false (has (is_vote_got e.value) h) (false_from_ne_true (has (is_vote_got e.value) h) (λ a. not_both there (vote_kept e.value h k u a) (not_true there t))))
    (not_false (has (is_single_sent e.value) h) (open_unsent e.value h k u))
early_veto h k u (Again e) t = absurd (no t)

pub aborts_is : (h : List Entry) → Keeps h → is_undecided (coordinate h).stage ≡ true → (x : Entry) → aborts (coordinate h) x ≡ true → is_abort h x ≡ true
aborts_is h k u (Got Begin Up BeginAbort) a = refl
aborts_is h k u (Got Voter Up VoterNo) a = refl
aborts_is h k u (Got (Enl e) Up EnlistNo) a = refl
aborts_is h k u (Got Begin Up BeginCommitOne) a = absurd (no a)
aborts_is h k u (Got (Enl e) Up EnlistOneAborted) a = refl
aborts_is h k u (Got c Up m) a =
    and_both (not (has_line c Up m)) (is_veto_end h c Up) (and_left (not (has_line c Up m)) (is_early (coordinate h) c) a)
    (early_veto h k u c (and_right (not (has_line c Up m)) (is_early (coordinate h) c) a))
aborts_is h k u (End c Up) a = early_veto h k u c a
aborts_is h k u LogFull a = refl
aborts_is h k u _ a = absurd (no a)

-- An end that is a veto is early.
pub veto_early : (h : List Entry) → Keeps h → (c : Conn) → is_veto_end h c Up ≡ true → is_early (coordinate h) c ≡ true
veto_early h k Begin t =
    not_false (coordinate h).commit (false_from_ne_true (coordinate h).commit (λ a. not_both (has is_commit_got h) (commit_noted h a) (not_true (has is_commit_got h) t)))
veto_early h k Voter t = not_false (coordinate h).yes (false_from_ne_true (coordinate h).yes (λ a. not_both (has is_yes_got h) (yes_noted h a) (not_true (has is_yes_got h) t)))
veto_early h k (Enl e) t =
    let there = has (λ d. is_desk_of e.value d && has_voted d) (coordinate h).desks in
    let unvoted = not_true (has (is_vote_got e.value) h) (and_left (not (has (is_vote_got e.value) h)) (not (has (is_single_sent e.value) h)) t) in
    let unsent = not_true (has (is_single_sent e.value) h) (and_right (not (has (is_vote_got e.value) h)) (not (has (is_single_sent e.value) h)) t) in
    not_false there
    (false_from_ne_true there (λ a. not_both (has (has_said e.value) h) (said_of is_some has_said e.value h (coordinate h).desks (desks_voted h) a)
    (none_said e.value h unvoted (unanswered_if_unsent e.value h k unsent))))
  where
    none_said : (e : ℕ) (h : List Entry) → has (is_vote_got e) h ≡ false → has (is_one_got e) h ≡ false → has (has_said e) h ≡ false
    none_said e [] a b = refl
    none_said e (x ∷ h) a b =
        or_false (has_said e x) (has (has_said e) h) (or_false (is_vote_got e x) (is_one_got e x) (or_first (is_vote_got e x) (has (is_vote_got e) h) a) (or_first (is_one_got e x) (has (is_one_got e) h) b))
        (none_said e h (or_second (is_vote_got e x) (has (is_vote_got e) h) a) (or_second (is_one_got e x) (has (is_one_got e) h) b))
veto_early h k (Again e) t = absurd cc

pub abort_decided : (b : Bool) (s : Stage) → b ≡ true → is_undecided (abort_if b s) ≡ false
abort_decided true Idle e = refl
abort_decided true Active e = refl
abort_decided true Sole e = refl
abort_decided true _ e = refl
abort_decided false s e = absurd cc

ended_decided : (k : Coordinated) (c : Conn) (x : Entry) → aborts k x ≡ true → is_undecided (ended_stage k c x) ≡ false
ended_decided k (Enl e) x a = by (decides k e.value)
  where
    by : (b : Bool) → is_undecided (if b then AnsweredStage else abort_if (aborts k x) k.stage) ≡ false
    by true = refl
    by false = abort_decided (aborts k x) k.stage a
ended_decided k Begin x a = abort_decided (aborts k x) k.stage a
ended_decided k Voter x a = abort_decided (aborts k x) k.stage a
ended_decided k (Again e) x a = abort_decided (aborts k x) k.stage a

-- COMMIT for a single phase where not exactly one enlistment came aborts
several_decided : (h : List Entry) → Keeps (Got Begin Up BeginCommitOne ∷ h) → (not (is_lone h) && is_veto_end h Begin Up) ≡ true → is_undecided (coordinate h).stage ≡ true
    → is_undecided (sole_if (accepts (coordinate h)) (is_one (coordinate h).desks) (coordinate h).stage) ≡ false
several_decided h k t u =
    let past = keeps_before (Got Begin Up BeginCommitOne) h k in
    let unlone = not_true (is_lone h) (and_left (not (is_lone h)) (is_veto_end h Begin Up) t) in
    let uncommitted = not_true (has is_commit_got h) (and_right (not (is_lone h)) (is_veto_end h Begin Up) t) in
    let active = active_begun h (later_opened Begin BeginCommitOne h k refl) (has_less is_one_phase_got is_commit_got one_phase_commit h uncommitted) u in
    let bare = false_from_ne_true (coordinate h).commit (λ a. not_both (has is_commit_got h) (commit_noted h a) uncommitted) in
    by (accepts (coordinate h)) (is_one (coordinate h).desks) (and_both (is_active (coordinate h).stage) (not (coordinate h).commit) active (not_false (coordinate h).commit bare)) (one_seen h past u ∙ unlone)
  where
    by : (a o : Bool) → a ≡ true → o ≡ false → is_undecided (sole_if a o (coordinate h).stage) ≡ false
    by true false p q = refl
    by true true p q = absurd cc
    by false o p q = absurd cc

-- where it aborts it is decided
aborts_decided : (h : List Entry) (x : Entry) → Keeps (x ∷ h) → is_abort h x ≡ true → is_undecided (stage_after (coordinate h) x) ≡ true → ⊥
aborts_decided h (Got Begin Up BeginAbort) k a u = not_both (is_undecided (abort_if true (coordinate h).stage)) u (abort_decided true (coordinate h).stage refl)
aborts_decided h (Got Voter Up VoterNo) k a u = not_both (is_undecided (abort_if true (coordinate h).stage)) u (abort_decided true (coordinate h).stage refl)
aborts_decided h (Got (Enl e) Up EnlistNo) k a u = not_both (is_undecided (abort_if true (coordinate h).stage)) u (abort_decided true (coordinate h).stage refl)
aborts_decided h (Got Begin Up BeginBegin) k a u = absurd cc
aborts_decided h (Got Begin Up BeginCommitOne) k a u =
    not_both (is_undecided (stage_after (coordinate h) (Got Begin Up BeginCommitOne))) u (several_decided h k a (open_before (coordinate h) (Got Begin Up BeginCommitOne) u))
aborts_decided h (Got (Enl e) Up EnlistOneAborted) k a u =
    let early = open_before (coordinate h) (Got (Enl e) Up EnlistOneAborted) u in
    let P : Bool → Type 0 = λ b. is_undecided (if b then AbortedStage else (coordinate h).stage) ≡ true in
    let never : false ≡ true = subst P (or_left (is_undecided (coordinate h).stage) (decides (coordinate h) e.value) early) u in absurd cc
aborts_decided h (Got c Up m) k a u = absurd (not_both (has_line c Up m) (got_line c Up m h k) (not_true (has_line c Up m) (and_left (not (has_line c Up m)) (is_veto_end h c Up) a)))
aborts_decided h (End c Up) k a u = not_both (is_undecided (ended_stage (coordinate h) c (End c Up))) u (ended_decided (coordinate h) c (End c Up) (veto_early h (keeps_before (End c Up) h k) c a))
aborts_decided h LogFull k a u = not_both (is_undecided (abort_if true (coordinate h).stage)) u (abort_decided true (coordinate h).stage refl)
aborts_decided h (Restarted b) k a u = restart_open b (coordinate h).stage u
aborts_decided h _ k a u = absurd cc

pub open_unaborted : (h : List Entry) → Keeps h → is_undecided (coordinate h).stage ≡ true → coordinator_aborted h ≡ false
unfolding coordinate follow coordinator_aborted
open_unaborted [] k u = refl
open_unaborted (x ∷ h) k u =
    or_false (is_first_abort h x) (ever is_first_abort h)
    (false_from_ne_true (is_first_abort h x) (λ t. aborts_decided h x k (and_left (is_abort h x) (not (has is_record h)) t) u)) (open_unaborted h (keeps_before x h k) (open_before (coordinate h) x u))

-- where it aborts while it is undecided, the law says that it aborted
pub aborts_there : (h : List Entry) → Keeps h → (x : Entry) → (aborts (coordinate h) x && is_undecided (coordinate h).stage) ≡ true → coordinator_aborted (x ∷ h) ≡ true
unfolding coordinator_aborted
aborts_there h k x t =
    let u = and_right (aborts (coordinate h) x) (is_undecided (coordinate h).stage) t in
    or_left (is_first_abort h x) (ever is_first_abort h)
    (and_both (is_abort h x) (not (has is_record h)) (aborts_is h k u x (and_left (aborts (coordinate h) x) (is_undecided (coordinate h).stage) t)) (not_false (has is_record h) (open_unrecorded h u)))

restart_case : (s : Stage) → has_aborted (behind_restart false s) ≡ true → has_recorded s ≡ false
restart_case Recorded a = absurd cc
restart_case Over a = absurd cc
restart_case _ a = refl

restart_aborts : (h : List Entry) → has_recorded (coordinate h).stage ≡ false → coordinator_aborted (Restarted false ∷ h) ≡ true
unfolding coordinator_aborted
restart_aborts h r =
    or_left (not (has is_record h)) (ever is_first_abort h)
    (not_false (has is_record h) (false_from_ne_true (has is_record h) (λ t. not_both (has_recorded (coordinate h).stage) (record_stage h t) r)))

-- where COMMIT for a single phase came and not exactly one enlistment, too
pub several_there : (h : List Entry) → Keeps h → accepts (coordinate h) ≡ true → is_one (coordinate h).desks ≡ false → coordinator_aborted (Got Begin Up BeginCommitOne ∷ h) ≡ true
unfolding coordinator_aborted
several_there h k a o =
    let u = active_open (coordinate h).stage (and_left (is_active (coordinate h).stage) (not (coordinate h).commit) a) in
    let bare = not_true (coordinate h).commit (and_right (is_active (coordinate h).stage) (not (coordinate h).commit) a) in
    or_left (is_first_abort h (Got Begin Up BeginCommitOne)) (ever is_first_abort h)
    (and_both (not (is_lone h) && is_veto_end h Begin Up) (not (has is_record h))
    (and_both (not (is_lone h)) (is_veto_end h Begin Up) (not_false (is_lone h) (sym (one_seen h k u) ∙ o))
    (not_false (has is_commit_got h) (false_from_ne_true (has is_commit_got h) (λ t. not_both (coordinate h).commit (commit_kept h k u t) bare))))
    (not_false (has is_record h) (open_unrecorded h u)))

-- Where its one enlistment decides, SINGLE was sent, and no record stands.
pub given_live : IsLive is_given
given_live = record { aborted = refl; recorded = refl; over = refl; unknown = refl }

pub given_new : (k : Coordinated) (x : Entry) → is_given (stage_after k x) ≡ true → (is_any_single_sent x || is_given k.stage) ≡ true
given_new k x a =
    come is_given given_live k x
    (record {
      stays = λ u. or_right (is_any_single_sent x) (is_given k.stage) u;
      begun = λ u o q. absurd cc;
      alone = λ u a o q. absurd cc;
      lets = λ u a q. or_left (is_any_single_sent x) (is_given k.stage) q;
      answers = λ u g. absurd cc;
    }) a

pub single_if_given : (h : List Entry) → is_given (coordinate h).stage ≡ true → has is_any_single_sent h ≡ true
unfolding coordinate follow
single_if_given [] a = absurd cc
single_if_given (x ∷ h) a =
    or_case (is_any_single_sent x) (is_given (coordinate h).stage) (λ t. or_left (is_any_single_sent x) (has is_any_single_sent h) t)
    (λ t. or_right (is_any_single_sent x) (has is_any_single_sent h) (single_if_given h t)) (given_new (coordinate h) x a)

-- its Aborted makes the coordinator abort
pub refuses_there : (h : List Entry) → Keeps h → (e : EnlNo) → hears_one (coordinate h) e.value ≡ true → coordinator_aborted (Got (Enl e) Up EnlistOneAborted ∷ h) ≡ true
unfolding coordinator_aborted
refuses_there h k e t =
    or_left (is_first_abort h (Got (Enl e) Up EnlistOneAborted)) (ever is_first_abort h)
    (not_false (has is_record h)
    (or_case (is_undecided (coordinate h).stage) (decides (coordinate h) e.value) (open_unrecorded h)
    (λ d. single_unrecorded h k (single_if_given h (and_left (is_given (coordinate h).stage) (has_desk (coordinate h) e.value) d))) t))

none_aborted : (h : List Entry) (x : Entry) → is_marking x ≡ false → Keeps (x ∷ h) → (has_aborted (coordinate h).stage ≡ true → coordinator_aborted h ≡ true)
    → has_aborted (stage_after (coordinate h) x) ≡ true → coordinator_aborted (x ∷ h) ≡ true
none_aborted h x n k ih =
    let past = keeps_before x h k in
    let P : Entry → Type 0 = λ y. coordinator_aborted (y ∷ h) ≡ true in
    stage_step (λ s. has_aborted s ≡ true → coordinator_aborted (x ∷ h) ≡ true) (coordinate h) x n
    (record {
      stays = λ a. aborted_more x h (ih a);
      begun = λ o q a. absurd cc;
      aborted = λ q a. aborts_there h past x q;
      alone = λ b o q a. absurd cc;
      several = λ b o q a. subst P (sym q) (several_there h past b o);
      lets = λ b q a. absurd cc;
      answers = λ e q a. absurd cc;
      refuses = λ e r q a. subst P (sym r) (refuses_there h past e q);
    })

pub aborted_there : (h : List Entry) → Keeps h → has_aborted (coordinate h).stage ≡ true → coordinator_aborted h ≡ true
unfolding coordinate follow
aborted_there [] k a = absurd (no a)
aborted_there (Logged ∷ h) k a = absurd (no a)
aborted_there (Freed ∷ h) k a = absurd (no a)
aborted_there (Restarted true ∷ h) k a = absurd (no a)
aborted_there (Restarted false ∷ h) k a = restart_aborts h (restart_case (coordinate h).stage a)
aborted_there (x ∷ h) k a = none_aborted h x refl k (aborted_there h (keeps_before x h k)) a

-- and where it is recorded or over, a record stands
none_recorded : (s : Stage) → has_recorded (behind_restart false s) ≡ true → has_recorded s ≡ true
none_recorded Recorded a = refl
none_recorded Over a = refl
none_recorded _ a = absurd cc

pub record_seen : (h : List Entry) → Keeps h → has_recorded (coordinate h).stage ≡ true → has is_record h ≡ true
unfolding coordinate follow
record_seen [] k a = absurd (no a)
record_seen (Logged ∷ h) k a = refl
record_seen (Freed ∷ h) k a = record_of_mark h (newest Freed h k)
record_seen (Restarted true ∷ h) k a = refl
record_seen (Restarted false ∷ h) k a = record_seen h (keeps_before (Restarted false) h k) (none_recorded (coordinate h).stage a)
record_seen (x ∷ h) k a = or_right (is_record x) (has is_record h) (record_seen h (keeps_before x h k) (sym (record_after has_recorded of_record (coordinate h) x refl) ∙ a))

-- COMMIT that is noted while it is active was for two phases: what is idle noted none, and COMMIT for a single phase leaves it active only after another.
abbrev is_idle : Stage → Bool
is_idle Idle = true
is_idle _ = false

idle_live : IsLive is_idle
idle_live = record { aborted = refl; recorded = refl; over = refl; unknown = refl }

idle_new : (k : Coordinated) (x : Entry) → is_idle (stage_after k x) ≡ true → is_idle k.stage ≡ true
idle_new k x a =
    come is_idle idle_live k x
    (record { stays = λ u. u; begun = λ u o q. absurd cc; alone = λ u a o q. absurd cc; lets = λ u a q. absurd cc; answers = λ u g. absurd cc }) a

idle_inactive : (s : Stage) → is_idle s ≡ true → is_active s ≡ false
idle_inactive Idle q = refl
idle_inactive _ q = absurd cc

idle_uncommitted : (h : List Entry) → is_idle (coordinate h).stage ≡ true → (coordinate h).commit ≡ true → ⊥
unfolding coordinate follow
idle_uncommitted [] q t = no t
idle_uncommitted (x ∷ h) q t =
    let early = idle_new (coordinate h) x q in
    or_case (is_commit_got x && is_active (coordinate h).stage) (coordinate h).commit
    (λ c. not_both (is_active (coordinate h).stage) (and_right (is_commit_got x) (is_active (coordinate h).stage) c) (idle_inactive (coordinate h).stage early)) (λ c. idle_uncommitted h early c) t

active_live : IsLive is_active
active_live = record { aborted = refl; recorded = refl; over = refl; unknown = refl }

active_new : (k : Coordinated) (x : Entry) → is_active (stage_after k x) ≡ true → (is_idle k.stage || is_active k.stage) ≡ true
active_new k x a =
    come is_active active_live k x
    (record {
      stays = λ u. or_right (is_idle k.stage) (is_active k.stage) u;
      begun = λ u o q. or_left (is_idle k.stage) (is_active k.stage) (ap is_idle q);
      alone = λ u a o q. absurd cc;
      lets = λ u a q. absurd cc;
      answers = λ u g. absurd cc;
    }) a

sole_shut : (k : Coordinated) → accepts k ≡ true → is_active (sole_if (accepts k) (is_one k.desks) k.stage) ≡ true → ⊥
sole_shut k b a = by (accepts k) (is_one k.desks) b a
  where
    by : (b o : Bool) → b ≡ true → is_active (sole_if b o k.stage) ≡ true → ⊥
    by true true q z = absurd cc
    by true false q z = absurd cc
    by false o q z = absurd cc

active_two : (h : List Entry) → is_active (coordinate h).stage ≡ true → (coordinate h).commit ≡ true → has is_two_phase_got h ≡ true
unfolding coordinate follow
active_two [] a t = absurd cc
active_two (x ∷ h) a t =
    or_case (is_commit_got x && is_active (coordinate h).stage) (coordinate h).commit
    (λ c. by (active_two h) x (and_left (is_commit_got x) (is_active (coordinate h).stage) c) (and_right (is_commit_got x) (is_active (coordinate h).stage) c) a)
    (λ c. or_right (is_two_phase_got x) (has is_two_phase_got h) (earlier_two (active_two h) c (active_new (coordinate h) x a))) t
  where
    earlier_two : (is_active (coordinate h).stage ≡ true → (coordinate h).commit ≡ true → has is_two_phase_got h ≡ true) → (coordinate h).commit ≡ true
        → (is_idle (coordinate h).stage || is_active (coordinate h).stage) ≡ true → has is_two_phase_got h ≡ true
    earlier_two ih c t = or_case (is_idle (coordinate h).stage) (is_active (coordinate h).stage) (λ q. absurd (idle_uncommitted h q c)) (λ b. ih b c) t

    at : (is_active (coordinate h).stage ≡ true → (coordinate h).commit ≡ true → has is_two_phase_got h ≡ true) → is_active (coordinate h).stage ≡ true
        → is_active (sole_if (accepts (coordinate h)) (is_one (coordinate h).desks) (coordinate h).stage) ≡ true → (d : Bool) → (coordinate h).commit ≡ d → has is_two_phase_got h ≡ true
    at ih b a true q = ih b q
    at ih b a false q = absurd (sole_shut (coordinate h) (and_both (is_active (coordinate h).stage) (not (coordinate h).commit) b (not_false (coordinate h).commit q)) a)

    by : (is_active (coordinate h).stage ≡ true → (coordinate h).commit ≡ true → has is_two_phase_got h ≡ true) → (x : Entry) → is_commit_got x ≡ true → is_active (coordinate h).stage ≡ true
        → is_active (stage_after (coordinate h) x) ≡ true → has is_two_phase_got (x ∷ h) ≡ true
    by ih (Got Begin Up BeginCommit) c b a = refl
    by ih (Got Begin Up BeginCommitOne) c b a = at ih b a (coordinate h).commit refl
    by ih _ c b a = absurd (no c)

-- Where it may append a record, the table lets it.
ready_of : (e : ℕ) (h : List Entry) (ds : List Desk) → each (λ d. is_ready d.ballot) ds ≡ true → each (is_backed is_ready is_ready_got h) ds ≡ true → has (is_desk_of e) ds ≡ true
    → has (is_ready_got e) h ≡ true
ready_of e h [] r a t = absurd (no t)
ready_of e h (d ∷ ds) r a t =
    or_case (is_desk_of e d) (has (is_desk_of e) ds)
    (λ q. let P : ℕ → Type 0 = λ n. has (is_ready_got n) h ≡ true in
    subst P (sym (eqb-true e d.enlistment.value q))
    (backed (is_ready d.ballot) (has (is_ready_got d.enlistment.value) h) (and_left (is_backed is_ready is_ready_got h d) (each (is_backed is_ready is_ready_got h) ds) a)
    (and_left (is_ready d.ballot) (each (λ d. is_ready d.ballot) ds) r)))
    (λ q. ready_of e h ds (and_right (is_ready d.ballot) (each (λ d. is_ready d.ballot) ds) r) (and_right (is_backed is_ready is_ready_got h d) (each (is_backed is_ready is_ready_got h) ds) a) q) t
  where
    backed : (b r : Bool) → (not b || r) ≡ true → b ≡ true → r ≡ true
    backed true r k q = k
    backed false r k q = absurd cc

-- what holds of each whose ENLIST was got holds of each that an ENLIST names
each_named : (P : ℕ → Bool) (h : List Entry) → Keeps h → ((e : ℕ) → has (is_enlist_got e) h ≡ true → P e ≡ true) → each (λ i. P i.enl.value) (all_of enlist_got h) ≡ true
each_named P [] k f = refl
each_named P (Got (Enl e) Up (EnlistEnlist i) ∷ h) k f =
    and_both (P i.enl.value) (each (λ j. P j.enl.value) (all_of enlist_got h))
    (f i.enl.value (or_left (i.enl.value == e.value) (has (is_enlist_got i.enl.value) h) (eq_swap i.enl.value e.value ∙ own_info e i h k)))
    (each_named P h (keeps_before (Got (Enl e) Up (EnlistEnlist i)) h k) (λ n t. f n (or_right (n == e.value) (has (is_enlist_got n) h) t)))
each_named P (x ∷ h) k f = each_named P h (keeps_before x h k) (λ n t. f n (or_right (is_enlist_got n x) (has (is_enlist_got n) h) t))

six_hold : (a b c d e f : Bool) → a ≡ true → b ≡ true → c ≡ true → d ≡ true → e ≡ true → f ≡ true → (a && b && c && d && e && f) ≡ true
six_hold a b c d e f p q r s t u =
    and_both (a && b && c && d && e) f (and_both (a && b && c && d) e (and_both (a && b && c) d (and_both (a && b) c (and_both a b p q) r) s) t) u

pub may_log_can : (h : List Entry) → Keeps h → may_log (coordinate h) ≡ true → can_log h ≡ true
unfolding may_log
may_log_can h k m =
    let c = coordinate h in
    let running = first_of_five (not c.stopped) (is_active c.stage) c.commit c.yes (each (λ d. is_ready d.ballot) c.desks) m in
    let active = second_of_five (not c.stopped) (is_active c.stage) c.commit c.yes (each (λ d. is_ready d.ballot) c.desks) m in
    let u = active_open c.stage active in
    let ready = fifth_of_five (not c.stopped) (is_active c.stage) c.commit c.yes (each (λ d. is_ready d.ballot) c.desks) m in
    six_hold (has is_two_phase_got h) (has is_yes_got h) (each (λ i. has (is_ready_got i.enl.value) h) (all_of enlist_got h)) (not (coordinator_aborted h)) (not (has is_logged h)) (not (has is_stop h))
    (active_two h active (third_of_five (not c.stopped) (is_active c.stage) c.commit c.yes (each (λ d. is_ready d.ballot) c.desks) m))
    (yes_noted h (fourth_of_five (not c.stopped) (is_active c.stage) c.commit c.yes (each (λ d. is_ready d.ballot) c.desks) m))
    (each_named (λ n. has (is_ready_got n) h) h k (λ e t. ready_of e h c.desks ready (desks_ready h) (desk_there e h k u t)))
    (not_false (coordinator_aborted h) (open_unaborted h k u))
    (not_false (has is_logged h) (false_from_ne_true (has is_logged h) (λ t. not_both (has is_record h) (has_more is_logged is_record logged_record h t) (open_unrecorded h u))))
    (not_false (has is_stop h) (false_from_ne_true (has is_stop h) (λ t. not_both c.stopped (stop_seen h t u) (not_true c.stopped running))))
