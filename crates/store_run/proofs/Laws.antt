-- What a history says of a durable or promotable one when it votes, answers as the owner, or acknowledges.
use Rattle.std.proofs.Common.{ℕ, ◌≡◌, ◌==◌, ◌||◌, ◌&&◌, Bool, true, false, not, find, map, List, [], ◌∷◌, filter, Option, Some, None, is_some, refl, sym, subst, ◌∙◌}
use Rattle.std.specs.Prelude.{if◌then◌else◌}
use Rattle.std.proofs.lemmas.Bool.{eqb-true, false_from_ne_true, or_left}
use Rattle.dtx_values.specs.declared.entry.Entry.{Entry}
use Rattle.dtx_values.specs.declared.entry.Entry.TheVariants.{Acked, Got, Reenlisted, Sent, Told, Voted}
use Rattle.dtx_values.specs.declared.entry.Party.TheVariants.{Enl as Member}
use Rattle.dtx_values.specs.declared.message.Conn.{Conn}
use Rattle.dtx_values.specs.declared.message.Conn.TheVariants.{Again, Enl}
use Rattle.dtx_values.specs.declared.message.Dir.TheVariants.{Down, Up}
use Rattle.dtx_values.specs.declared.message.Message.TheVariants.{EnlistCommit, EnlistEnlist, EnlistEnlisted, EnlistPrepare, ReenlistCommitted}
use Rattle.dtx_values.specs.declared.note.Note.{Note}
use Rattle.dtx_values.specs.declared.note.Note.TheVariants.{Hand, Prepare, Promote as PromoteNote, Single}
use Rattle.dtx_values.specs.declared.note.Reply.TheVariants.{Vote as VoteReply}
use Rattle.dtx_values.specs.declared.number.EnlNo.{EnlNo}
use Rattle.dtx_values.specs.declared.row.Row.{Row}
use Rattle.dtx_values.specs.declared.words.Outcome.{Outcome}
use Rattle.dtx_values.specs.declared.words.Outcome.TheVariants.{Aborted, Committed, InDoubt}
use Rattle.dtx_values.specs.declared.words.Vote.{Vote}
use Rattle.dtx_values.specs.declared.words.Vote.TheVariants.{Done, No, Yes}
use Rattle.dtx_values.specs.Class.{is_volatile}
use Rattle.dtx_values.specs.Ends.{knows}
use Rattle.dtx_values.specs.Row.{has_voted, is_marked, is_of}
use Rattle.dtx_values.specs.Vote.{is_good}
use Rattle.dtx_model.specs.declared.branch.Branch.{Branch}
use Rattle.dtx_model.specs.Entries.{decision_of, is_any_owner, is_asked, is_decision, is_final, is_good_vote, is_lost, is_record, is_told, is_two_phase_got, is_vote}
use Rattle.dtx_model.specs.Half.{is_gone, was_told}
use Rattle.dtx_model.specs.Observed.{Observed, branch_acked, branch_due, branch_number, branches, due_in, ends_of, is_branch, listeners, observe, rows}
use Rattle.dtx_model.specs.Outcome.{evidence}
use Rattle.dtx_model.specs.Replies.{conn_due, due_conn, due_of, may_still_vote, note_of_conn, note_of_row, owes_outcome, owes_promotion, owes_request, owes_vote}
use Rattle.dtx_model.specs.Words.{always, each, has, latest, or_else}
use Rattle.dtx_model.specs.Learned.{coordinator_aborted}
use Rattle.dtx_model.proofs.Bools.{and_both, and_left, and_right, not_both, not_true, or_case, or_right, three_hold}
use Rattle.history_table.proofs.Aborting.{decided_off, off_open}
use Rattle.history_table.proofs.CameBack.{alone_by_got, came_if_enlisted}
use Rattle.history_table.proofs.CoreKnown.{enlist_of, got_there, known_promoting, sent_opened_there}
use Rattle.history_table.proofs.Crossed.{got_sent, is_got_on}
use Rattle.history_table.proofs.EntryTests.{is_decided, is_enlisted}
use Rattle.history_table.proofs.Evident.{evidence-handed}
use Rattle.history_table.proofs.Handed.{is_answered}
use Rattle.history_table.proofs.HalfReplies.{owed, volatile_seen}
use Rattle.history_table.proofs.JointVotes.{two_if_prepared}
use Rattle.history_table.proofs.Keeping.{Keeps, arrived, before, keeps_before, newest}
use Rattle.history_table.proofs.LetDecide.{answered_handed, answered_once, any_single_if_handed, handed_if_owner, one_apart, one_if_single}
use Rattle.history_table.proofs.Lists.{each-insert, found_at, has-at}
use Rattle.history_table.proofs.Owned.{listens}
use Rattle.history_table.proofs.Recording.{came_voted, evidence_if_record, live_if_record}
use Rattle.history_table.proofs.Scans.{each-at, each_more, has_more}
use Rattle.history_table.proofs.Sendings.{aborted_more, record_by_got}
use Rattle.history_table.proofs.Standing.{prepared_if_asked}
use Rattle.history_table.proofs.Table.{brings_commit, is_enlist_got, is_opening_got, is_prepare_got, rule, stands_volatile}
use Rattle.history_table.proofs.Tests.{eq_swap, first_of_five, first_of_three, second_of_five}
use Rattle.script_histories.proofs.HalfHeard.{is_told_here, listener_heard}
use Rattle.script_histories.proofs.OneOutcome.{final_cause, heard_aborted}
use Rattle.store_run.proofs.Dues.{is_commit, is_owed, is_prepare}
use Rattle.store_run.proofs.Lasting.{at_place}

-- Who owes an acknowledgement was brought a commit.
brought : List Entry → Branch → Bool
brought h b = not (is_some b.due) || has (brings_commit b.enlistment.value) h

each_through : (p q : Branch → Bool) (f : Branch → Branch) → ((b : Branch) → p b ≡ true → q (f b) ≡ true) → (bs : List Branch) → each p bs ≡ true → each q (map f bs) ≡ true
each_through p q f g [] k = refl
each_through p q f g (b ∷ bs) k = and_both (q (f b)) (each q (map f bs)) (g b (and_left (p b) (each p bs) k)) (each_through p q f g bs (and_right (p b) (each p bs) k))

each_left : (p q : Branch → Bool) (bs : List Branch) → each p bs ≡ true → each p (filter q bs) ≡ true
each_left p q [] k = refl
each_left p q (b ∷ bs) k = step (q b) (each_left p q bs (and_right (p b) (each p bs) k))
  where
    step : (c : Bool) → each p (filter q bs) ≡ true → each p (if c then b ∷ filter q bs else filter q bs) ≡ true
    step true ih = and_both (p b) (each p (filter q bs)) (and_left (p b) (each p bs) k) ih
    step false ih = ih

none_due : (h : List Entry) (b : Branch) (c : Bool) → brought h b ≡ true → (not (is_some (due_in c None b.due)) || has (brings_commit b.enlistment.value) h) ≡ true
unfolding brought
none_due h b true t = refl
none_due h b false t = t

now_due : (h : List Entry) (e : EnlNo) (d : Conn) (b : Branch) (c : Bool) → is_branch e.value b ≡ c → brought h b ≡ true → (not (is_some (due_in c (Some d) b.due)) || ((b.enlistment.value == e.value) || has (brings_commit b.enlistment.value) h)) ≡ true
unfolding brought
now_due h e d b true q t = or_left (b.enlistment.value == e.value) (has (brings_commit b.enlistment.value) h) (eq_swap b.enlistment.value e.value ∙ q)
now_due h e d b false q t = more (is_some b.due) (b.enlistment.value == e.value) (has (brings_commit b.enlistment.value) h) t
  where
    more : (x y z : Bool) → (not x || z) ≡ true → (not x || (y || z)) ≡ true
    more true y z t = or_right y z t
    more false y z t = refl

branches_brought : (h : List Entry) → each (brought h) (branches h) ≡ true
unfolding brought
branches_brought [] = refl
branches_brought (Sent (Enl e) Up (EnlistEnlist i) ∷ h) =
    each-insert (brought h) branch_number (record { enlistment = e; manager = i.rm; enlisted = false; aborted = false; acked = false; due = None }) (filter (λ b. not (is_branch e.value b)) (branches h))
    ∙ each_left (brought h) (λ b. not (is_branch e.value b)) (branches h) (branches_brought h)
branches_brought (Got (Enl e) Down EnlistEnlisted ∷ h) = each_through (brought h) (brought h) _ (λ b t. t) (branches h) (branches_brought h)
branches_brought (Got (Enl e) Down EnlistCommit ∷ h) =
    each_through (brought h) (brought (Got (Enl e) Down EnlistCommit ∷ h)) (branch_due e.value (Some (Enl e))) (λ b t. now_due h e (Enl e) b (is_branch e.value b) refl t) (branches h) (branches_brought h)
branches_brought (Got (Again e) Down ReenlistCommitted ∷ h) =
    each_through (brought h) (brought (Got (Again e) Down ReenlistCommitted ∷ h)) (branch_due e.value (Some (Again e))) (λ b t. now_due h e (Again e) b (is_branch e.value b) refl t) (branches h) (branches_brought h)
branches_brought (Told (Member e) Aborted ∷ h) = each_through (brought h) (brought h) _ (λ b t. t) (branches h) (branches_brought h)
branches_brought (Acked e ∷ h) = each_through (brought h) (brought h) (branch_acked e.value) (λ b t. none_due h b (is_branch e.value b) t) (branches h) (branches_brought h)
branches_brought (Reenlisted e ∷ h) = each_through (brought h) (brought h) (branch_due e.value None) (λ b t. none_due h b (is_branch e.value b) t) (branches h) (branches_brought h)
branches_brought (x ∷ h) =
    each_more (brought h) (brought (x ∷ h)) (λ b t. more (is_some b.due) (brings_commit b.enlistment.value x) (has (brings_commit b.enlistment.value) h) t) (branches h) (branches_brought h)
  where
    more : (x y z : Bool) → (not x || z) ≡ true → (not x || (y || z)) ≡ true
    more true y z t = or_right y z t
    more false y z t = refl

due_brought : (e : ℕ) (h : List Entry) → is_some (conn_due (observe h) e) ≡ true → has (brings_commit e) h ≡ true
unfolding observe brought
due_brought e h d = by (find (is_branch e) (branches h)) refl d
  where
    so : (a b : Bool) → a ≡ true → (not a || b) ≡ true → b ≡ true
    so true b p t = t
    so false b p t = absurd cc

    by : (o : Option Branch) → find (is_branch e) (branches h) ≡ o → is_some (due_conn o) ≡ true → has (brings_commit e) h ≡ true
    by None q t = absurd cc
    by (Some b) q t =
        let place = found_at (is_branch e) (branches h) b q in
        let own : (not (is_some b.due) || has (brings_commit b.enlistment.value) h) ≡ true = each-at (brought h) (branches h) place.0 b (branches_brought h) place.1 in
        subst (λ n. has (brings_commit n) h ≡ true) (sym (eqb-true e b.enlistment.value place.2)) (so (is_some b.due) (has (brings_commit b.enlistment.value) h) t own)

-- an acknowledgement that is due is due on a connection
due_there : (o : Observed) (e : ℕ) → is_commit (due_of o e) ≡ true → is_some (conn_due o e) ≡ true
unfolding due_of
due_there o e t = by (is_gone o e) (find (is_of e) o.table) t
  where
    row : (a b c d : Bool) (x : Option Conn) → is_commit (or_else (if a then Some Prepare else if b then Some PromoteNote else if c then Some Hand else if d then Some Single else None) (note_of_conn x)) ≡ true → is_some x ≡ true
    row true b c d x t = absurd cc
    row false true c d x t = absurd cc
    row false false true d x t = absurd cc
    row false false false true x t = absurd cc
    row false false false false (Some x) t = refl
    row false false false false None t = absurd cc

    by : (g : Bool) (r : Option Row) → is_commit (if g then None else or_else (note_of_row o r) (note_of_conn (conn_due o e))) ≡ true → is_some (conn_due o e) ≡ true
    by true r t = absurd cc
    by false (Some r) t = row (owes_vote o r) (owes_promotion o r) (owes_outcome o r) (owes_request o r) (conn_due o e) t
    by false None t = row false false false false (conn_due o e) t

-- Who was brought a commit came to the coordinator, and there is a record; so it voted well, and nothing aborted.
record_new : (n : ℕ) (x : Entry) (h : List Entry) → Keeps (x ∷ h) → brings_commit n x ≡ true → has is_record h ≡ true
record_new n (Got (Enl f) Down EnlistCommit) h k t = record_by_got (Enl f) EnlistCommit h k refl
record_new n (Got (Again f) Down ReenlistCommitted) h k t = record_by_got (Again f) ReenlistCommitted h k refl
record_new n _ h k t = absurd cc

brought_record : (n : ℕ) (h : List Entry) → Keeps h → has (brings_commit n) h ≡ true → has is_record h ≡ true
brought_record n h k t = arrived (brings_commit n) (λ g. has is_record g) (λ x g q. or_right (is_record x) (has is_record g) q) (record_new n) h k t

came_new : (n : ℕ) (x : Entry) (h : List Entry) → Keeps (x ∷ h) → brings_commit n x ≡ true → has (is_enlist_got n) h ≡ true
came_new n (Got (Enl f) Down EnlistCommit) h k t =
    has_more (is_opening_got (Enl f)) (is_enlist_got n) (enlist_of n f t) h (sent_opened_there (Enl f) (λ m. true) h (keeps_before (Got (Enl f) Down EnlistCommit) h k) (got_sent (Enl f) Down EnlistCommit (λ m. true) h k.wires.0 refl))
came_new n (Got (Again f) Down ReenlistCommitted) h k t =
    let alone = alone_by_got f ReenlistCommitted h k in
    subst (λ m. has (is_enlist_got m) h ≡ true) (sym (eqb-true n f.value t)) (came_if_enlisted f h (keeps_before (Got (Again f) Down ReenlistCommitted) h k) (first_of_three _ _ _ alone))
came_new n _ h k t = absurd cc

brought_came : (n : ℕ) (h : List Entry) → Keeps h → has (brings_commit n) h ≡ true → has (is_enlist_got n) h ≡ true
brought_came n h k t = arrived (brings_commit n) (λ g. has (is_enlist_got n) g) (λ x g q. or_right (is_enlist_got n x) (has (is_enlist_got n) g) q) (came_new n) h k t

acked_brought : (e : EnlNo) (h : List Entry) → is_owed h (Acked e) ≡ true → has (brings_commit e.value) h ≡ true
acked_brought e h o = due_brought e.value h (due_there (observe h) e.value o)

pub acked_voted : (e : EnlNo) (h : List Entry) → Keeps h → is_owed h (Acked e) ≡ true → has (is_good_vote e.value) h ≡ true
acked_voted e h k o = let b = acked_brought e h o in came_voted e h k (brought_record e.value h k b) (brought_came e.value h k b)

-- where there is a record, no abort is final
record_unaborted : (h : List Entry) → Keeps h → has is_record h ≡ true → has (is_final Aborted) h ≡ false
record_unaborted h k r = false_from_ne_true (has (is_final Aborted) h) (λ t.
    or_case (is_decided Aborted (latest decision_of h) || has (is_answered Aborted) h) (coordinator_aborted h)
    (λ s. not_both (evidence h) (evidence_if_record h k r) (or_case (is_decided Aborted (latest decision_of h)) (has (is_answered Aborted) h)
    (λ d. off_open h k (decided_off h k (decided_so (latest decision_of h) d))) (λ a. evidence-handed h k (answered_handed Aborted h k a) ∙ answered_once h k a) s))
    (λ a. not_both (coordinator_aborted h) a (live_if_record h k r)) (final_cause Aborted coordinator_aborted aborted_more heard_aborted h k t))
  where
    decided_so : (o : Option Outcome) → is_decided Aborted o ≡ true → o ≡ Some Aborted
    decided_so (Some Aborted) t = refl
    decided_so (Some Committed) t = absurd cc
    decided_so (Some InDoubt) t = absurd cc
    decided_so None t = absurd cc

pub acked_unaborted : (e : EnlNo) (h : List Entry) → Keeps h → is_owed h (Acked e) ≡ true → has (is_final Aborted) h ≡ false
acked_unaborted e h k o = record_unaborted h k (brought_record e.value h k (acked_brought e h o))

-- Who votes, and is no volatile, was told nothing.
untold : (e : ℕ) (h : List Entry) → Keeps h → always is_told_here h ≡ true → has (is_enlisted e) h ≡ true → was_told (observe h) e ≡ false → has (is_told e) h ≡ false
unfolding observe
untold e h k t n w =
    let at = at_place (λ l. e == l.enlistment.value) (listeners h) (listens e h ∙ n) in
    let heard = listener_heard h at.0 at.1 k t at.2 in
    false_from_ne_true (has (is_told e) h) (λ q.
    not_both (has (λ l. (e == l.enlistment.value) && l.told) (listeners h))
    (has-at (λ l. (e == l.enlistment.value) && l.told) (listeners h) at.0 at.1 at.2
    (and_both (e == at.1.enlistment.value) at.1.told at.3 (heard.told ∙ subst (λ m. has (is_told m) h ≡ true) (eqb-true e at.1.enlistment.value at.3) q))) w)

pub voted_untold : (e : EnlNo) (v : Vote) (h : List Entry) → Keeps (Voted e v ∷ h) → always is_told_here h ≡ true → stands_volatile e.value h ≡ false → is_owed h (Voted e v) ≡ true → has (is_told e.value) h ≡ false
unfolding observe
voted_untold e v h k t f o =
    let w = owed h (VoteReply v) Prepare e.value refl (is_due (due_of (observe h) e.value) o) refl in
    let place = found_at (is_of e.value) (rows h) w.row w.stands in
    let may = and_right (is_marked w.row && not (has_voted w.row)) (may_still_vote (observe h) w.row) w.answers in
    let firm : is_volatile w.row.class ≡ false =
    false_from_ne_true (is_volatile w.row.class) (λ q.
    not_both (stands_volatile e.value h) (sym (volatile_seen h e.value) ∙ has-at (λ y. is_of e.value y && is_volatile y.class) (rows h) place.0 w.row place.1 (and_both (is_of e.value w.row) (is_volatile w.row.class) place.2 q)) f) in
    let enlisted = first_of_five (has (is_enlisted e.value) h) (has (is_asked e.value) h) (not (has (is_vote e.value) h)) (not (has (is_lost e.value) h)) (not (stands_volatile e.value h && has is_decision h)) (newest (Voted e v) h k) in
    untold e.value h (keeps_before (Voted e v) h k) t enlisted
    (subst (λ n. was_told (observe h) n ≡ false) (sym (eqb-true e.value w.row.number.value place.2)) (last w.row.number.value (is_some (observe h).decided) (knows (Enl w.row.number) (ends_of h)) (is_volatile w.row.class) firm may))
  where
    is_due : (x : Option Note) → is_prepare x ≡ true → x ≡ Some Prepare
    is_due (Some Prepare) q = refl
    is_due _ q = absurd cc

    last : (n : ℕ) (d k c : Bool) → c ≡ false → (if c then not d else k && not (was_told (observe h) n)) ≡ true → was_told (observe h) n ≡ false
    last n d k true e m = absurd cc
    last n d k false e m = not_true (was_told (observe h) n) (and_right k (not (was_told (observe h) n)) m)

-- Who votes, and is no volatile, is no owner.
asked_new : (n : ℕ) (x : Entry) (h : List Entry) → Keeps h → rule h x ≡ true → is_vote n x ≡ true → has (is_asked n) h ≡ true
asked_new n (Voted f v) h k r t =
    subst (λ m. has (is_asked m) h ≡ true) (sym (eqb-true n f.value t))
    (second_of_five (has (is_enlisted f.value) h) (has (is_asked f.value) h) (not (has (is_vote f.value) h)) (not (has (is_lost f.value) h)) (not (stands_volatile f.value h && has is_decision h)) r)
asked_new n _ h k r t = absurd cc

prepare_on : (e : EnlNo) (x : Entry) → is_prepare_got e.value x ≡ true → is_got_on (Enl e) Down (λ m. true) x ≡ true
prepare_on e (Got (Enl f) Down EnlistPrepare) t = three_hold (e.value == f.value) true true t refl refl
prepare_on e _ t = absurd cc

pub voted_unowned : (e : EnlNo) (h : List Entry) → Keeps h → stands_volatile e.value h ≡ false → has (is_vote e.value) h ≡ true → has (is_any_owner e.value) h ≡ false
voted_unowned e h k f v =
    let asked = before (is_vote e.value) (is_asked e.value) (asked_new e.value) h k v in
    let got : has (is_prepare_got e.value) h ≡ true = or_case (stands_volatile e.value h) (has (is_prepare_got e.value) h) (λ t. absurd (not_both (stands_volatile e.value h) t f)) (λ t. t) (prepared_if_asked e.value h k asked) in
    let promoting = known_promoting (Enl e) h k (got_there (Enl e) (λ m. true) h k (has_more (is_prepare_got e.value) (is_got_on (Enl e) Down (λ m. true)) (prepare_on e) h got)) in
    false_from_ne_true (has (is_any_owner e.value) h) (λ t.
    not_both (has is_two_phase_got h) (two_if_prepared e.value h k got) (one_apart h k (one_if_single h k (any_single_if_handed e.value h k promoting (handed_if_owner e.value h k t)))))

-- It votes once.
pub voted_once : (e : EnlNo) (v : Vote) (h : List Entry) → Keeps (Voted e v ∷ h) → has (is_vote e.value) h ≡ false
voted_once e v h k =
    not_true (has (is_vote e.value) h) (third (has (is_enlisted e.value) h) (has (is_asked e.value) h) (not (has (is_vote e.value) h)) (not (has (is_lost e.value) h)) (not (stands_volatile e.value h && has is_decision h)) (newest (Voted e v) h k))
  where
    third : (a b c d e : Bool) → (a && b && c && d && e) ≡ true → c ≡ true
    third a b c d e t = and_right (a && b) c (and_left (a && b && c) d (and_left (a && b && c && d) e t))

-- the entry is a vote against
abbrev pub votes_no : ℕ → Entry → Bool
votes_no n (Voted f No) = n == f.value
votes_no n _ = false

pub no_vote : (n : ℕ) (x : Entry) → votes_no n x ≡ true → is_vote n x ≡ true
no_vote n (Voted f No) t = t
no_vote n _ t = absurd cc

good_vote : (n : ℕ) (x : Entry) → is_good_vote n x ≡ true → is_vote n x ≡ true
good_vote n (Voted f v) t = and_left (n == f.value) _ t
good_vote n _ t = absurd cc

pub voted_one_way : (n : ℕ) (h : List Entry) → Keeps h → has (is_good_vote n) h ≡ true → has (votes_no n) h ≡ true → ⊥
voted_one_way n [] k g b = cc
voted_one_way n (Voted f v ∷ h) k g b = by v (n == f.value) refl (voted_one_way n h (keeps_before (Voted f v) h k)) g b
  where
    unvoted : (n == f.value) ≡ true → has (is_vote n) h ≡ false
    unvoted q = subst (λ m. has (is_vote m) h ≡ false) (sym (eqb-true n f.value q)) (voted_once f v h k)

    by : (w : Vote) (c : Bool) → (n == f.value) ≡ c → (has (is_good_vote n) h ≡ true → has (votes_no n) h ≡ true → ⊥) → ((c && is_good w) || has (is_good_vote n) h) ≡ true → (votes_no n (Voted f w) || has (votes_no n) h) ≡ true → ⊥
    by No true q i g b = not_both (has (is_vote n) h) (has_more (is_good_vote n) (is_vote n) (good_vote n) h g) (unvoted q)
    by Yes true q i g b = not_both (has (is_vote n) h) (has_more (votes_no n) (is_vote n) (no_vote n) h b) (unvoted q)
    by Done true q i g b = not_both (has (is_vote n) h) (has_more (votes_no n) (is_vote n) (no_vote n) h b) (unvoted q)
    by No false q i g b = i g (or_case (n == f.value) (has (votes_no n) h) (λ t. absurd (not_both (n == f.value) t q)) (λ t. t) b)
    by Yes false q i g b = i g b
    by Done false q i g b = i g b
voted_one_way n (x ∷ h) k g b = voted_one_way n h (keeps_before x h k) g b
