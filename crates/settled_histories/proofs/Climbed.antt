-- The ladder whole: at rest, a transaction that promotes is decided, and its client was told so; and where nothing bad came, that it is committed.
use Rattle.std.proofs.Common.{◌≡◌, true, false, List, ◌∷◌, Bool, refl, Option, Some, None, ◌∙◌, sym, [], ◌&&◌, subst, ap, ◌==◌, ◌+◌}
use Rattle.std.specs.Prelude.{find, if◌then◌else◌, not, is_some, length}
use Rattle.std.proofs.lemmas.Bool.{false_from_ne_true, true_from_ne_false}
use Rattle.dtx_values.specs.declared.entry.Ask.TheVariants.{Single}
use Rattle.dtx_values.specs.declared.entry.Entry.{Entry}
use Rattle.dtx_values.specs.declared.entry.Entry.TheVariants.{Promoting, PromoteReply, Sealed, Asked, LocalYes, Got, Requested, PromotionFailed, Told}
use Rattle.dtx_values.specs.declared.entry.Party.TheVariants.{Client}
use Rattle.dtx_values.specs.declared.entry.Request.TheVariants.{Commit, Abort}
use Rattle.dtx_values.specs.declared.message.Conn.{Conn}
use Rattle.dtx_values.specs.declared.message.Conn.TheVariants.{Begin, Enl, Voter}
use Rattle.dtx_values.specs.declared.message.Dir.TheVariants.{Up, Down}
use Rattle.dtx_values.specs.declared.message.Message.{Message}
use Rattle.dtx_values.specs.declared.message.Message.TheVariants.{EnlistEnlist, EnlistEnlisted, VoterAsk}
use Rattle.dtx_values.specs.declared.number.EnlNo.{EnlNo}
use Rattle.dtx_values.specs.declared.row.Row.{Row}
use Rattle.dtx_values.specs.declared.words.Outcome.{Outcome}
use Rattle.dtx_values.specs.declared.words.Outcome.TheVariants.{Committed, Aborted, InDoubt}
use Rattle.dtx_values.specs.Class.{is_promotable}
use Rattle.dtx_values.specs.Clones.{is_open_block}
use Rattle.dtx_values.specs.Ends.{tag_of, was_got}
use Rattle.dtx_values.specs.Waves.{name_of, is_over, next_ask, zeros_voted, all_voted}
use Rattle.dtx_model.specs.declared.waiting.Wanted.TheVariants.{Identifier, Place}
use Rattle.dtx_model.specs.Words.{has, each, latest}
use Rattle.dtx_model.specs.Entries.{is_decision, decision_of, is_lost, is_owner_answer, is_promoted, is_sealed, is_commit, is_vote, is_yes, client_told_of, is_client_told}
use Rattle.dtx_model.specs.Observed.{rows, handover, is_promote_reply, is_request, cause_of_promotion, observe, is_ask_promote, is_promotion_failed, clone_rows, ends_of}
use Rattle.dtx_model.specs.Promotes.{is_promoting, is_under_way}
use Rattle.dtx_model.specs.Tied.{is_logged}
use Rattle.dtx_model.specs.Coordinated.{coordinate, may_log}
use Rattle.dtx_model.specs.Wires.{is_lost_wire}
use Rattle.dtx_model.specs.declared.waiting.EnteredCall.{EnteredCall}
use Rattle.dtx_model.specs.Waiting.{Waiter, waiting}
use Rattle.dtx_model.specs.Half.{Half, is_handed, half_of, is_promoting as is_promoting_now}
use Rattle.dtx_model.specs.Acts.{promotable_in, asked_act, undecided_act, ask_or, promoted_act, voter_act, act_by, act_entries, unasked_promotable, commit_sent, sealed_act, after_seal, yes_act, is_to_tell}
use Rattle.dtx_model.proofs.Bools.{or_case, or_first, or_second, and_never, not_both, and_left, not_true, or_right, and_both, not_false}
use Rattle.history_table.proofs.Messages.{BEGIN, ENLIST, COMMIT, COMMIT_ONE, COMMIT_TWO, PREPARE, VOTED, YES}
use Rattle.history_table.proofs.EntryTests.{has_promotable, is_enlisted, is_volatile_made, undecided}
use Rattle.history_table.proofs.Crossed.{is_sent_on, is_got_on}
use Rattle.history_table.proofs.Scans.{find_none, has_less}
use Rattle.history_table.proofs.Owned.{has_rows, handover_stands}
use Rattle.history_table.proofs.Waiters.{is_on_its_way, is_unplaced}
use Rattle.history_table.proofs.NextActs.{zeros_done, ones_done, told_all}
use Rattle.settled_histories.proofs.Followed.{Demands, followed}
use Rattle.settled_histories.proofs.Promoted.{while_open, enlisted_well, good_answer, climb, got_due, promoted}
use Rattle.settled_histories.proofs.Rest.{IsQuiet, IsUnmoved, IsAtRest}
use Rattle.settled_histories.proofs.Committed.{none_decided, plain_first, IsOpen, open_before, IsLinked, is_commit_request, ask_got, commit_got, enlistment_asked, request_commits, seal_commits, vote_got, yes_got}
use Rattle.settled_histories.proofs.Fine.{IsFine, is_bad}
use Rattle.settled_histories.proofs.Unblamed.{fine_before}
use Rattle.settled_histories.proofs.MessageKinds.{ENLISTED, ENLIST_ANSWER, ASK}
use Rattle.settled_histories.proofs.Debts.{enlisted_next}
use Rattle.settled_histories.proofs.Arrived.{arrived}
use Rattle.settled_histories.proofs.Wired.{is_plain}
use Rattle.settled_histories.proofs.Knowledge.{ask_heard}
use Rattle.settled_histories.proofs.LoneCommits.{IsAlone, single_hands}
use Rattle.settled_histories.proofs.Stages.{IsOpenThere, either_phase, one_phase, open_unlogged}
use Rattle.settled_histories.proofs.Foregoing.{prepared_two, voted_prepared, voted_two, yes_asked}
use Rattle.settled_histories.proofs.Joined.{IsJoined}
use Rattle.settled_histories.proofs.Recorded.{may_append}

-- Where no promotable was enlisted, BEGIN is sent after `promoting`; else after the promotable's ok.
begin_due : (y : Entry) (past : List Entry) → has_promotable (y ∷ past) ≡ false → is_promoting y ≡ true → Demands (λ h. has_promotable h ≡ false) past y (is_sent_on Begin Up BEGIN)
begin_due (Promoting c) past n k =
    record { test = is_sent_on Begin Up BEGIN; owed = while_open (has_promotable past) (is_sent_on Begin Up BEGIN) n; serves = λ x s t. t }
begin_due y past n k = absurd cc

plain_begins : (h : List Entry) → IsQuiet h → has_promotable h ≡ false → has is_promoting h ≡ true → has (is_sent_on Begin Up BEGIN) h ≡ true
plain_begins h w n k = followed (λ h. has_promotable h ≡ false) plain_first is_promoting (is_sent_on Begin Up BEGIN) begin_due h n w.paid w.free k

abbrev pub is_ok : Entry → Bool
is_ok (PromoteReply e ok) = ok
is_ok _ = false

ok_due : (y : Entry) (past : List Entry) → IsFine (y ∷ past) → is_ok y ≡ true → Demands IsFine past y (is_sent_on Begin Up BEGIN)
ok_due (PromoteReply e true) past f k = record { test = is_sent_on Begin Up BEGIN; owed = refl; serves = λ x s t. t }
ok_due (PromoteReply e false) past f k = absurd cc
ok_due y past f k = absurd cc

ok_begins : (h : List Entry) → IsFine h → IsQuiet h → has is_ok h ≡ true → has (is_sent_on Begin Up BEGIN) h ≡ true
ok_begins h f w k = followed IsFine fine_before is_ok (is_sent_on Begin Up BEGIN) ok_due h f w.paid w.free k

-- where no promotable is found, none was enlisted
none_found : (h : List Entry) → promotable_in (rows h) ≡ None → has_promotable h ≡ false
none_found h k = sym (has_rows (λ e c. is_promotable c) h) ∙ find_none (λ x. is_promotable x.class) (rows h) (nameless (find (λ x. is_promotable x.class) (rows h)) k)
  where
    nameless : (o : Option Row) → name_of o ≡ None → o ≡ None
    nameless (Some x) e = absurd cc
    nameless None e = refl

-- What is stuck where no act is pending.
if_stuck : (b : Bool) (x : Entry) (xs ys : List Entry) → (if b then xs else x ∷ ys) ≡ [] → (b ≡ true) × (xs ≡ [])
if_stuck true x xs ys k = (refl, k)
if_stuck false x xs ys k = absurd cc

if_part : (b : Bool) (xs ys : List Entry) → b ≡ true → (if b then xs else ys) ≡ [] → xs ≡ []
if_part true xs ys k e = e
if_part false xs ys k e = absurd cc

else_part : (b : Bool) (xs ys : List Entry) → b ≡ false → (if b then xs else ys) ≡ [] → ys ≡ []
else_part true xs ys k e = absurd cc
else_part false xs ys k e = e

promote_stuck : (h : Half) (o : Option EnlNo) → undecided_act h o ≡ [] → (o ≡ None) × ((if h.seen.commit then asked_act h else []) ≡ [])
promote_stuck h (Some e) k = absurd cc
promote_stuck h None k = (refl, k)

asked_promote : (p : Option EnlNo) (e : EnlNo) (way asked : Bool) → p ≡ Some e → way ≡ true → (if way && not asked then p else None) ≡ None → asked ≡ true
asked_promote p e true true q u k = refl
asked_promote (Some f) e true false q u k = absurd cc
asked_promote None e true false q u k = absurd cc
asked_promote p e false asked q u k = absurd cc

zero_stuck : (q : Option EnlNo) (over : Bool) (sends : List Entry) → ask_or q over (Sealed ∷ sends) ≡ [] → (q ≡ None) × (over ≡ false)
zero_stuck (Some e) over sends k = absurd cc
zero_stuck None true sends k = absurd cc
zero_stuck None false sends k = (refl, refl)

-- after the seal: a promotable was asked for its single phase, and the voter does nothing
single_stuck : (h : Half) (p : Option EnlNo) → promoted_act h p ≡ [] → (voter_act h ≡ []) × ((e : EnlNo) → p ≡ Some e → h.seen.single_asked ≡ true)
single_stuck h (Some f) k = let both = if_stuck h.seen.single_asked (Asked f Single) (voter_act h) [] k in (both.1, λ e q. both.0)
single_stuck h None k = (k, λ e q. absurd cc)

yes_stuck : (q : Option EnlNo) (voted said : Bool) (sends : List Entry) → ask_or q voted (if said then [] else LocalYes ∷ sends) ≡ [] → (q ≡ None) × (voted ≡ true → said ≡ true)
yes_stuck (Some e) voted said sends k = absurd cc
yes_stuck None true true sends k = (refl, λ v. refl)
yes_stuck None true false sends k = absurd cc
yes_stuck None false said sends k = (refl, λ v. absurd cc)

-- ENLIST got: ENLISTED
enlisted_due : (e : EnlNo) (m : Message) (past : List Entry) → IsOpen (Got (Enl e) Up m ∷ past) → ENLIST m ≡ true → Demands IsOpen past (Got (Enl e) Up m) (is_sent_on (Enl e) Down ENLISTED)
enlisted_due e (EnlistEnlist i) past r k =
    record {
      test = is_sent_on (Enl e) Down ENLIST_ANSWER;
      owed = refl;
      serves = λ x s t. good_answer (Enl e) Down ENLIST_ANSWER ENLISTED enlisted_well x (or_first (is_bad x) (has is_bad (Got (Enl e) Up (EnlistEnlist i) ∷ past)) s.fine.unbad) t;
    }
enlisted_due e m past r k = absurd cc

-- ENLISTED got of one that doesn't stand: it stands
pub record IsOut (e : EnlNo) (h : List Entry) : Type 0 where
  pub opened : IsOpen h
  pub out : has (is_enlisted e.value) h ≡ false

out_before : (e : EnlNo) (x : Entry) (h : List Entry) → IsOut e (x ∷ h) → IsOut e h
out_before e x h r = record { opened = open_before x h r.opened; out = or_second (is_enlisted e.value x) (has (is_enlisted e.value) h) r.out }

stands_due : (e : EnlNo) (m : Message) (past : List Entry) → IsOut e (Got (Enl e) Down m ∷ past) → ENLISTED m ≡ true → Demands (IsOut e) past (Got (Enl e) Down m) (is_enlisted e.value)
stands_due e EnlistEnlisted past r k =
    let own = is_under_way past && is_handed (handover past) e.value in
    let other : is_handed (handover past) e.value ≡ false = false_from_ne_true (is_handed (handover past) e.value) (λ q. not_both (has (is_enlisted e.value) past) (handover_stands e.value past q) r.out) in
    record {
      test = enlisted_next own e.value;
      owed = while_open (has is_decision past) (enlisted_next own e.value) r.opened.undecided;
      serves = λ x s t. subst (λ b. enlisted_next b e.value x ≡ true) (ap (λ b. is_under_way past && b) other ∙ and_never (is_under_way past)) t;
    }
stands_due e m past r k = absurd cc

-- so an enlistment whose ENLIST was sent on a firm connection stands
pub sent_stands : (e : EnlNo) (h : List Entry) → IsLinked (Enl e) h → IsQuiet h → has (is_sent_on (Enl e) Up ENLIST) h ≡ true → has (is_enlisted e.value) h ≡ true
sent_stands e h r w k =
    true_from_ne_false (has (is_enlisted e.value) h)
    (λ n. let got : has (is_got_on (Enl e) Up ENLIST) h ≡ true = arrived (Enl e) Up ENLIST h r.opened.fine.wired r.firm (w.empty (Enl e) Up) k in
    let back : has (is_got_on (Enl e) Down ENLISTED) h ≡ true = climb IsOpen open_before (λ h r. r.fine) (Enl e) (Enl e) Up Down ENLIST ENLISTED (enlisted_due e) h r.opened r.firm w got in
    not_both (has (is_enlisted e.value) h)
    (followed (IsOut e) (out_before e) (is_got_on (Enl e) Down ENLISTED) (is_enlisted e.value) (got_due (IsOut e) (Enl e) Down ENLISTED (is_enlisted e.value) (stands_due e)) h
    (record { opened = r.opened; out = n }) w.paid w.free back) n)

-- a connection that isn't lost is firm
linked : (c : Conn) (h : List Entry) → IsOpen h → is_plain c ≡ true → is_lost_wire c h ≡ false → IsLinked c h
linked c h r p k = record { opened = r; firm = record { plain = p; kept = k } }

-- so no call waits where each is on its way: its enlistment stands, also where its connection was lost, since then its vote was got
none_waits : (h : List Entry) (ws : List Waiter) → IsOpen h → IsQuiet h → ((e : EnlNo) → is_lost_wire (Enl e) h ≡ true → has (is_enlisted e.value) h ≡ true) → each (is_on_its_way h) ws ≡ true
    → each (is_unplaced h) ws ≡ true → ws ≡ []
none_waits h [] r w t a b = refl
none_waits h ((n, Identifier) ∷ ws) r w t a b = absurd cc
none_waits h ((n, Place e m c) ∷ ws) r w t a b =
    absurd (not_both (has (is_enlisted e.value) h) (by (is_lost_wire (Enl e) h) refl) (not_true (has (is_enlisted e.value) h) (and_left (not (has (is_enlisted e.value) h)) (each (is_unplaced h) ws) b)))
  where
    by : (l : Bool) → is_lost_wire (Enl e) h ≡ l → has (is_enlisted e.value) h ≡ true
    by true k = t e k
    by false k = sent_stands e h (linked (Enl e) h r refl k) w (and_left (has (is_sent_on (Enl e) Up ENLIST) h) (each (is_on_its_way h) ws) a)

-- a reply that stands is a good one
ok_replied : (h : List Entry) → has is_bad h ≡ false → has is_promote_reply h ≡ true → has is_ok h ≡ true
ok_replied h u k = has_good h u k
  where
    has_good : (h : List Entry) → has is_bad h ≡ false → has is_promote_reply h ≡ true → has is_ok h ≡ true
    has_good [] u k = absurd cc
    has_good (PromoteReply e true ∷ h) u k = refl
    has_good (PromoteReply e false ∷ h) u k = absurd cc
    has_good (x ∷ h) u k = or_right (is_ok x) (has is_ok h) (has_good h (or_second (is_bad x) (has is_bad h) u) k)

commit_requested : (h : List Entry) → has is_bad h ≡ false → has is_request h ≡ true → has is_commit_request h ≡ true
commit_requested [] u k = absurd cc
commit_requested (Requested e Commit ∷ h) u k = refl
commit_requested (Requested e Abort ∷ h) u k = absurd cc
commit_requested (x ∷ h) u k = or_right (is_commit_request x) (has is_commit_request h) (commit_requested h (or_second (is_bad x) (has is_bad h) u) k)

-- a promotion began where there is a cause
cause_seen : (h : List Entry) → has is_promoting h ≡ true → is_some (latest cause_of_promotion h) ≡ true
cause_seen [] k = absurd cc
cause_seen (Promoting c ∷ h) k = refl
cause_seen (x ∷ h) k = cause_seen h k

-- nothing is owed, and nothing on the way
rest_quiet : (ks : List EnteredCall) (h : List Entry) → IsUnmoved ks h → IsQuiet h
rest_quiet ks h r = record { paid = r.paying; free = r.free; empty = r.empty }

-- what the local side does where nothing is decided
open_act : (ks : List EnteredCall) (h : List Entry) → IsUnmoved ks h → has is_decision h ≡ false
    → undecided_act (half_of ks h) (unasked_promotable (observe h)) ≡ []
unfolding act_entries observe
open_act ks h r u = ap (λ d. act_by d (half_of ks h)) (sym (none_decided h u)) ∙ r.act

-- where BEGIN wasn't sent by then, it is after the promotable's ok; so a transaction that promotes is promoted
is_promoted_there : (ks : List EnteredCall) (h : List Entry) → IsUnmoved ks h → has is_decision h ≡ false → has is_promoted h ≡ true
unfolding observe
is_promoted_there ks h r u =
    true_from_ne_false (has is_promoted h) (λ n. not_both (has is_promoted h) (promoted h f (r.joined u) u r.later r.sound r.ordered (rest_quiet ks h r) (begins n (promotable_in (rows h)) refl)) n)
  where
    f : IsFine h
    f = r.fine u

    failed : (x : Entry) → is_promotion_failed x ≡ true → is_bad x ≡ true
    failed PromotionFailed k = refl
    failed x k = absurd cc

    going : has is_promoted h ≡ false → is_promoting_now (observe h) ≡ true
    going n =
        and_both (is_some (latest cause_of_promotion h) && not (has is_promoted h)) (not (has is_promotion_failed h))
        (and_both (is_some (latest cause_of_promotion h)) (not (has is_promoted h)) (cause_seen h r.started) (not_false (has is_promoted h) n))
        (not_false (has is_promotion_failed h) (has_less is_promotion_failed is_bad failed h f.unbad))

    begins : has is_promoted h ≡ false → (p : Option EnlNo) → promotable_in (rows h) ≡ p → has (is_sent_on Begin Up BEGIN) h ≡ true
    begins n None q = plain_begins h (rest_quiet ks h r) (none_found h q) r.started
    begins n (Some e) q =
        let asked = asked_promote (promotable_in (rows h)) e (is_promoting_now (observe h)) (has is_ask_promote h) q (going n) (promote_stuck (half_of ks h) (unasked_promotable (observe h)) (open_act ks h r u)).0 in
        ok_begins h f (rest_quiet ks h r) (ok_replied h f.unbad (r.replied u n asked))

-- so no call waits
pub none_waiting : (ks : List EnteredCall) (h : List Entry) → IsUnmoved ks h → has is_decision h ≡ false → waiting ks h ≡ []
none_waiting ks h r u =
    none_waits h (waiting ks h) (record { fine = r.fine u; undecided = u; sound = r.sound }) (rest_quiet ks h r) (λ e l. r.stood e ((r.joined u).cast e l)) (r.waits (is_promoted_there ks h r u)) r.unplaced

-- after the promotion phase zero ends with the seal
is_sealed_there : (ks : List EnteredCall) (h : List Entry) → IsAtRest ks h → has is_decision h ≡ false → has is_logged h ≡ false → waiting ks h ≡ [] → has is_promoted h ≡ true
    → asked_act (half_of ks h) ≡ [] → has is_sealed h ≡ true
unfolding observe is_over
is_sealed_there ks h r u l none p a =
    true_from_ne_false (has is_sealed h)
    (λ n.
    let count = length (waiting ks h) + (if is_promoting_now (observe h) then 1 else 0) in
    let z = zero_stuck (next_ask (rows h) true) (is_over (rows h) (clone_rows h) count) (commit_sent (observe h)) (else_part (has is_sealed h) (sealed_act (half_of ks h)) _ n a) in
    let idle : is_promoting_now (observe h) ≡ false = settled_way (is_some (latest cause_of_promotion h)) (has is_promoted h) (has is_promotion_failed h) p in
    not_both (is_over (rows h) (clone_rows h) count)
    (over (zeros_voted (rows h)) (has is_open_block (clone_rows h)) (waiting ks h) (is_promoting_now (observe h)) (zeros_done (rows h) (r.answered u l) z.0) r.closed none idle) z.1)
  where
    over : (a b : Bool) (ws : List Waiter) (w : Bool) → a ≡ true → b ≡ false → ws ≡ [] → w ≡ false → (a && not b && (length ws + (if w then 1 else 0) == 0)) ≡ true
    over true false [] false p q s t = refl
    over true false [] true p q s t = absurd cc
    over true false (x ∷ ws) w p q s t = absurd cc
    over true true ws w p q s t = absurd cc
    over false b ws w p q s t = absurd cc

    settled_way : (a b c : Bool) → b ≡ true → (a && not b && not c) ≡ false
    settled_way true b c k = rw k refl
    settled_way false b c k = refl

-- at rest it is decided
pub decided_at_rest : (ks : List EnteredCall) (h : List Entry) → IsAtRest ks h → has is_decision h ≡ true
unfolding observe
decided_at_rest ks h r = true_from_ne_false (has is_decision h) (λ u. climb_all u (record { fine = r.unmoved.fine u; undecided = u; sound = r.unmoved.sound }))
  where
    w : IsQuiet h
    w = rest_quiet ks h r.unmoved

    -- COMMIT was sent on b where it is firm, and so it was got
    sends : IsLinked Begin h → has is_promoted h ≡ true → has is_sealed h ≡ true → promoted_act (half_of ks h) (promotable_in (rows h)) ≡ [] → (p : Option EnlNo) → promotable_in (rows h) ≡ p
        → has (is_sent_on Begin Up COMMIT) h ≡ true
    sends o p sealed b None q = seal_commits h (record { linked = o; plain = none_found h q; order = λ k. p }) w sealed
    sends o p sealed b (Some e) q =
        request_commits h o w (commit_requested h o.opened.fine.unbad (r.requested o.opened.undecided ((single_stuck (half_of ks h) (promotable_in (rows h)) b).1 e q)))

    commits : IsOpen h → has is_promoted h ≡ true → has is_sealed h ≡ true → promoted_act (half_of ks h) (promotable_in (rows h)) ≡ [] → (l : Bool) → is_lost_wire Begin h ≡ l → has (is_got_on Begin Up COMMIT) h ≡ true
    commits o p sealed b true l = (r.unmoved.joined o.undecided).commit l
    commits o p sealed b false l = let own = linked Begin h o refl l in commit_got h own w (sends own p sealed b (promotable_in (rows h)) refl)

    -- ASK was got, YES, and each vote
    asks : IsOpenThere h → IsJoined h → has (is_got_on Begin Up COMMIT) h ≡ true → (l : Bool) → is_lost_wire Voter h ≡ l → has (is_got_on Voter Down ASK) h ≡ true
    asks t j got true l =
        yes_asked h r.unmoved.sound
        (true_from_ne_false (has is_yes h) (λ n. not_both (is_lost_wire Voter h) l (j.early Voter refl n).kept))
    asks t j got false l = ask_got h (record { there = t; firm = record { plain = refl; kept = l } }) w got

    answers : IsOpen h → has is_yes h ≡ true → (l : Bool) → is_lost_wire Voter h ≡ l → has (is_got_on Voter Up YES) h ≡ true
    answers o said true l = (r.unmoved.joined o.undecided).yes l
    answers o said false l = yes_got h (linked Voter h o refl l) w said

    votes : IsOpen h → has is_logged h ≡ false → has (is_got_on Begin Up COMMIT_TWO) h ≡ true → (e : EnlNo) → has (is_got_on (Enl e) Up ENLIST) h ≡ true → (l : Bool) → is_lost_wire (Enl e) h ≡ l
        → has (is_got_on (Enl e) Up VOTED) h ≡ true
    votes o n got e k true l = (r.unmoved.joined o.undecided).cast e l
    votes o n got e k false l =
        let own = linked (Enl e) h o refl l in
        vote_got e h (record { linked = own; lasting = r.lasting e k }) w (r.voted o.undecided n e (enlistment_asked e h own w (r.prepares o.undecided n got e k)))

    -- in a single phase the one durable was handed the commit, and so it has answered
    alone : has is_decision h ≡ false → IsOpenThere h → has (is_got_on Begin Up COMMIT_ONE) h ≡ true → has (is_got_on Voter Up YES) h ≡ true → ⊥
    alone u t one answer =
        let none = one_phase h t.once one in
        let lone : IsAlone h =
        record {
          there = t;
          undecided = u;
          alone = none;
          firm = λ e k. record { plain = refl; kept = false_from_ne_true (is_lost_wire (Enl e) h) (λ l. not_both (has (is_got_on Begin Up COMMIT_TWO) h) (voted_two e h t.fine.wired.run t.ordered ((r.unmoved.joined u).cast e l)) none) };
          unlost = λ e k. false_from_ne_true (has (is_lost e.value) h) (λ l. not_both (has (is_got_on Begin Up COMMIT_TWO) h) (prepared_by e k (r.spared u e l)) none);
        } in
        let hand = single_hands h lone w answer in
        not_both (has is_owner_answer h) (r.owned u hand.0 hand.1) (r.unanswered u)
      where
        prepared_by : (e : EnlNo) → has (is_got_on (Enl e) Up ENLIST) h ≡ true → has (is_vote e.value) h ≡ true → has (is_got_on Begin Up COMMIT_TWO) h ≡ true
        prepared_by e k v =
            or_case (has (is_volatile_made e.value) h) (has (is_got_on (Enl e) Down PREPARE) h) (λ q. absurd (not_both (has (is_volatile_made e.value) h) q (r.lasting e k)))
            (λ q. prepared_two e h t.fine.wired.run t.ordered q) (voted_prepared e h t.sound v)

    -- and for two phases the append is pending
    climb_all : has is_decision h ≡ false → IsOpen h → ⊥
    climb_all u o =
        let j = r.unmoved.joined u in
        let n = open_unlogged h j.undecided in
        let p = is_promoted_there ks h r.unmoved u in
        let a = if_part (has is_commit h) (asked_act (half_of ks h)) [] r.asked (promote_stuck (half_of ks h) (unasked_promotable (observe h)) (open_act ks h r.unmoved u)).1 in
        let sealed = is_sealed_there ks h r u n (none_waiting ks h r.unmoved u) p a in
        let b = if_part (has is_promoted h) (promoted_act (half_of ks h) (promotable_in (rows h))) _ p (if_part (has is_sealed h) (sealed_act (half_of ks h)) _ sealed a) in
        let there : IsOpenThere h = record { fine = r.unmoved.fine u; sound = r.unmoved.sound; ordered = r.unmoved.ordered; begun = r.begun; once = r.once; undecided = j.undecided } in
        let got = commits o p sealed b (is_lost_wire Begin h) refl in
        let ask = ask_heard h (r.unmoved.fine u).wired (asks there j got (is_lost_wire Voter h) refl) in
        let y = yes_stuck (next_ask (rows h) false) (all_voted (rows h)) (has is_yes h) _
        (if_part (was_got Voter (tag_of VoterAsk) (ends_of h)) (after_seal (half_of ks h) (yes_act (observe h))) [] ask (single_stuck (half_of ks h) (promotable_in (rows h)) b).0) in
        let answer = answers o (y.1 (ones_done (rows h) (r.answered u n) (r.zeros sealed) y.0)) (is_lost_wire Voter h) refl in
        or_case (has (is_got_on Begin Up COMMIT_ONE) h) (has (is_got_on Begin Up COMMIT_TWO) h) (λ one. alone u there one answer)
        (λ two. not_both (may_log (coordinate h)) (may_append h there two answer (λ e k. votes o n two e k (is_lost_wire (Enl e) h) refl)) r.append) (either_phase h got)

-- what the client was told where nothing bad came
told_well : (h : List Entry) → has is_bad h ≡ false → is_some (latest client_told_of h) ≡ true → has (is_client_told Committed) h ≡ true
told_well [] n k = absurd cc
told_well (Told Client Committed ∷ h) n k = refl
told_well (Told Client Aborted ∷ h) n k = absurd cc
told_well (Told Client InDoubt ∷ h) n k = absurd cc
told_well (x ∷ h) n k = or_right (is_client_told Committed x) (has (is_client_told Committed) h) (told_well h (or_second (is_bad x) (has is_bad h) n) k)

-- where something is decided and no act of the local side is pending, its client was told something
pub told_decided : (ks : List EnteredCall) (h : List Entry) → act_entries (half_of ks h) ≡ [] → has is_decision h ≡ true → is_some (latest client_told_of h) ≡ true
unfolding act_entries observe
told_decided ks h act decided = by_decision (latest decision_of h) refl
  where
    by_decision : (d : Option Outcome) → latest decision_of h ≡ d → is_some (latest client_told_of h) ≡ true
    by_decision (Some x) e =
        told_all x (find (is_to_tell (observe h) x) (observe h).listeners) (latest client_told_of h) (ap (λ d. act_by d (half_of ks h)) (sym e) ∙ act)
    by_decision None e = absurd (not_both (has is_decision h) decided (undecided h e))

-- so it is at rest
pub told_at_rest : (ks : List EnteredCall) (h : List Entry) → IsAtRest ks h → is_some (latest client_told_of h) ≡ true
told_at_rest ks h r = told_decided ks h r.unmoved.act (decided_at_rest ks h r)

-- that it is committed, where nothing bad came
pub committed_at_rest : (ks : List EnteredCall) (h : List Entry) → IsAtRest ks h → has is_bad h ≡ false → has (is_client_told Committed) h ≡ true
committed_at_rest ks h r n = told_well h n (told_at_rest ks h r)
