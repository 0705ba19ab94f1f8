-- The rungs after COMMIT for a single phase: SINGLE, and the handing of the commit. So where nothing is owed and nothing is on the way, the one durable was handed the commit.
use Rattle.std.proofs.Common.{◌≡◌, true, false, ◌&&◌, List, [], ◌∷◌, ◌==◌, refl, ◌∙◌, ap}
use Rattle.std.specs.Prelude.{not}
use Rattle.std.proofs.lemmas.Bool.{false_from_ne_true, or_left, true_from_ne_false}
use Rattle.dtx_values.specs.declared.entry.Entry.{Entry}
use Rattle.dtx_values.specs.declared.entry.Entry.TheVariants.{Got, Sent}
use Rattle.dtx_values.specs.declared.message.Conn.TheVariants.{Begin, Enl, Voter}
use Rattle.dtx_values.specs.declared.message.Dir.TheVariants.{Down, Up}
use Rattle.dtx_values.specs.declared.message.Message.{Message}
use Rattle.dtx_values.specs.declared.message.Message.TheVariants.{EnlistEnlist, EnlistSingle, VoterYes}
use Rattle.dtx_values.specs.declared.number.EnlNo.{EnlNo}
use Rattle.dtx_values.specs.Lines.{is_opening}
use Rattle.dtx_model.specs.declared.desk.Desk.{Desk}
use Rattle.dtx_model.specs.Words.{each, has, latest}
use Rattle.dtx_model.specs.Entries.{decision_of, is_any_single_sent, is_decision, is_hand, is_lost, is_yes}
use Rattle.dtx_model.specs.Observed.{observe}
use Rattle.dtx_model.specs.Coordinated.{coordinate, is_one, is_sole}
use Rattle.dtx_model.specs.Half.{is_gone}
use Rattle.dtx_model.specs.Arrivals.{is_called_off}
use Rattle.dtx_model.proofs.Bools.{and_both, and_left, and_right, not_both, not_false, or_case, or_right, or_second}
use Rattle.history_table.proofs.Crossed.{got_sent, is_got_on, is_sent_on}
use Rattle.history_table.proofs.Messages.{BEGIN, COMMIT_ONE, COMMIT_TWO, ENLIST, SINGLE, YES}
use Rattle.history_table.proofs.Scans.{has_more}
use Rattle.history_table.proofs.SinglePhase.{sole_one}
use Rattle.history_table.proofs.Tests.{eq_self}
use Rattle.settled_histories.proofs.Arrived.{arrived}
use Rattle.settled_histories.proofs.Committed.{none_decided}
use Rattle.settled_histories.proofs.Debts.{is_desk_there}
use Rattle.settled_histories.proofs.Followed.{Demands, followed}
use Rattle.settled_histories.proofs.Foregoing.{yes_commit}
use Rattle.settled_histories.proofs.Knowledge.{opening_known}
use Rattle.settled_histories.proofs.LostVoters.{gone_lost}
use Rattle.settled_histories.proofs.Promoted.{got_due, if_so}
use Rattle.settled_histories.proofs.Recorded.{desk_seen, desks_seen}
use Rattle.settled_histories.proofs.Rest.{IsQuiet, is_ordered}
use Rattle.settled_histories.proofs.Stages.{IsOpenThere, earlier, either_phase, sent_known, stage_of, stage_seen, there_before}
use Rattle.settled_histories.proofs.Wired.{IsFirm, firm_before, firm_unended}

-- a history in which nothing is decided, on neither side; COMMIT wasn't got for two phases; and of each enlistment that came the connection is firm, and it was never lost
pub record IsAlone (h : List Entry) : Type 0 where
  pub there : IsOpenThere h
  pub undecided : has is_decision h ≡ false
  pub alone : has (is_got_on Begin Up COMMIT_TWO) h ≡ false
  pub firm : (e : EnlNo) → has (is_got_on (Enl e) Up ENLIST) h ≡ true → IsFirm (Enl e) h
  pub unlost : (e : EnlNo) → has (is_got_on (Enl e) Up ENLIST) h ≡ true → has (is_lost e.value) h ≡ false

alone_before : (x : Entry) (h : List Entry) → IsAlone (x ∷ h) → IsAlone h
alone_before x h r = record {
  there = there_before x h r.there;
  undecided = or_second (is_decision x) (has is_decision h) r.undecided;
  alone = or_second (is_got_on Begin Up COMMIT_TWO x) (has (is_got_on Begin Up COMMIT_TWO) h) r.alone;
  firm = λ e k. firm_before (Enl e) x h r.there.fine.wired (r.firm e (or_right (is_got_on (Enl e) Up ENLIST x) (has (is_got_on (Enl e) Up ENLIST) h) k));
  unlost = λ e k. or_second (is_lost e.value x) (has (is_lost e.value) h) (r.unlost e (or_right (is_got_on (Enl e) Up ENLIST x) (has (is_got_on (Enl e) Up ENLIST) h) k));
}

-- YES got where nobody was let decide: SINGLE
record IsUnlet (h : List Entry) : Type 0 where
  lone : IsAlone h
  unlet : has is_any_single_sent h ≡ false

unlet_before : (x : Entry) (h : List Entry) → IsUnlet (x ∷ h) → IsUnlet h
unlet_before x h r = record { lone = alone_before x h r.lone; unlet = or_second (is_any_single_sent x) (has is_any_single_sent h) r.unlet }

enlist_opens : (e : EnlNo) (x : Entry) → is_got_on (Enl e) Up ENLIST x ≡ true → is_got_on (Enl e) Up (is_opening (Enl e)) x ≡ true
enlist_opens e (Got c d m) k =
    and_both _ (is_opening (Enl e) m) (and_left _ (ENLIST m) k) (by m (and_right _ (ENLIST m) k))
  where
    by : (m : Message) → ENLIST m ≡ true → is_opening (Enl e) m ≡ true
    by (EnlistEnlist i) k = refl
    by m k = absurd cc
enlist_opens e x k = absurd cc

opens_enlist : (e : EnlNo) (x : Entry) → is_got_on (Enl e) Up (is_opening (Enl e)) x ≡ true → is_got_on (Enl e) Up ENLIST x ≡ true
opens_enlist e (Got c d m) k =
    and_both _ (ENLIST m) (and_left _ (is_opening (Enl e) m) k) (by m (and_right _ (is_opening (Enl e) m) k))
  where
    by : (m : Message) → is_opening (Enl e) m ≡ true → ENLIST m ≡ true
    by (EnlistEnlist i) k = refl
    by m k = absurd cc
opens_enlist e x k = absurd cc

desk_known : (h : List Entry) → IsAlone h → (d : Desk) → desk_seen h d ≡ true → is_desk_there h d ≡ true
desk_known h r d s =
    let came : has (is_got_on (Enl d.enlistment) Up ENLIST) h ≡ true = and_left (has (is_got_on (Enl d.enlistment) Up ENLIST) h) _ s in
    opening_known (Enl d.enlistment) h r.there.fine.wired (has_more (is_got_on (Enl d.enlistment) Up ENLIST) (is_got_on (Enl d.enlistment) Up (is_opening (Enl d.enlistment))) (enlist_opens d.enlistment) h came)
    (firm_unended (Enl d.enlistment) Up h r.there.fine.wired (r.firm d.enlistment came))

first_known : (h : List Entry) → IsAlone h → (ds : List Desk) → is_one ds ≡ true → each (desk_seen h) ds ≡ true → has (is_desk_there h) ds ≡ true
first_known h r [] o s = absurd cc
first_known h r (d ∷ ds) o s = or_left (is_desk_there h d) (has (is_desk_there h) ds) (desk_known h r d (and_left (desk_seen h d) (each (desk_seen h) ds) s))

-- YES is sent where the local side said yes
yes_said : (x : Entry) (h : List Entry) → is_ordered h x ≡ true → is_sent_on Voter Up YES x ≡ true → has is_yes h ≡ true
yes_said (Sent Voter Up VoterYes) h s k = s
yes_said x h s k = absurd cc

single_due : (m : Message) (past : List Entry) → IsUnlet (Got Voter Up m ∷ past) → YES m ≡ true → Demands IsUnlet past (Got Voter Up m) is_any_single_sent
single_due VoterYes past r k =
    let b = unlet_before (Got Voter Up VoterYes) past r in
    let t = b.lone.there in
    let said = earlier is_ordered (is_sent_on Voter Up YES) (λ h. has is_yes h) (λ x h q. or_right (is_yes x) (has is_yes h) q) yes_said past t.ordered (got_sent Voter Up VoterYes YES past r.lone.there.fine.wired.run.0 refl) in
    let commit = yes_commit past t.fine.wired.run t.sound t.ordered said in
    let one : has (is_got_on Begin Up COMMIT_ONE) past ≡ true =
    or_case (has (is_got_on Begin Up COMMIT_ONE) past) (has (is_got_on Begin Up COMMIT_TWO) past) (λ q. q) (λ q. absurd (not_both (has (is_got_on Begin Up COMMIT_TWO) past) q b.lone.alone)) (either_phase past commit) in
    let sole : is_sole (coordinate past).stage ≡ true =
    ap is_sole (stage_seen past t) ∙ ap (λ o. is_sole (stage_of (has (is_got_on Begin Up BEGIN) past) o (has is_any_single_sent past))) one
    ∙ ap (λ g. is_sole (stage_of (has (is_got_on Begin Up BEGIN) past) true g)) b.unlet in
    record {
      test = is_any_single_sent;
      owed = if_so (is_sole (coordinate past).stage && has (is_desk_there past) (coordinate past).desks) is_any_single_sent
          (and_both (is_sole (coordinate past).stage) (has (is_desk_there past) (coordinate past).desks) sole (first_known past b.lone (coordinate past).desks (sole_one past sole) (desks_seen past t)));
      serves = λ x s t. t;
    }
single_due m past r k = absurd cc

pub single_sent : (h : List Entry) → IsAlone h → IsQuiet h → has (is_got_on Voter Up YES) h ≡ true → has is_any_single_sent h ≡ true
single_sent h r w k =
    true_from_ne_false (has is_any_single_sent h)
    (λ n. not_both (has is_any_single_sent h)
    (followed IsUnlet unlet_before (is_got_on Voter Up YES) is_any_single_sent (got_due IsUnlet Voter Up YES is_any_single_sent single_due) h (record { lone = r; unlet = n }) w.paid w.free k) n)

-- it is sent to one that came
sent_came : (e : EnlNo) (h : List Entry) → IsOpenThere h → has (is_sent_on (Enl e) Down SINGLE) h ≡ true → has (is_got_on (Enl e) Up ENLIST) h ≡ true
sent_came e h t k = has_more (is_got_on (Enl e) Up (is_opening (Enl e))) (is_got_on (Enl e) Up ENLIST) (opens_enlist e) h (sent_known (Enl e) SINGLE h t.sound k)

-- SINGLE got: the commit is handed over
hand_due : (e : EnlNo) (m : Message) (past : List Entry) → IsAlone (Got (Enl e) Down m ∷ past) → SINGLE m ≡ true → Demands IsAlone past (Got (Enl e) Down m) (is_hand e.value)
unfolding observe
hand_due e EnlistSingle past r k =
    let b = alone_before (Got (Enl e) Down EnlistSingle) past r in
    let t = b.there in
    let came = sent_came e past t (got_sent (Enl e) Down EnlistSingle SINGLE past r.there.fine.wired.run.0 refl) in
    record {
      test = is_hand e.value;
      owed = if_so (not (is_called_off (latest decision_of past)) && not (is_gone (observe past) e.value)) (is_hand e.value)
          (and_both (not (is_called_off (latest decision_of past))) (not (is_gone (observe past) e.value)) (ap (λ o. not (is_called_off o)) (none_decided past b.undecided))
          (not_false (is_gone (observe past) e.value) (false_from_ne_true (is_gone (observe past) e.value) (λ g. not_both (has (is_lost e.value) past) (gone_lost e.value past g) (b.unlost e came)))));
      serves = λ x s t. t;
    }
hand_due e m past r k = absurd cc

single_name : (h : List Entry) → has is_any_single_sent h ≡ true → (e : EnlNo) × (has (is_sent_on (Enl e) Down SINGLE) h ≡ true)
single_name [] k = absurd cc
single_name (Sent (Enl e) Down EnlistSingle ∷ h) k =
    (e, or_left ((e.value == e.value) && true && true) (has (is_sent_on (Enl e) Down SINGLE) h) (and_both ((e.value == e.value) && true) true (and_both (e.value == e.value) true (eq_self e.value) refl) refl))
single_name (x ∷ h) k = let v = single_name h k in (v.0, or_right (is_sent_on (Enl v.0) Down SINGLE x) (has (is_sent_on (Enl v.0) Down SINGLE) h) v.1)

-- so where YES was got, the commit was handed to one
pub single_hands : (h : List Entry) → IsAlone h → IsQuiet h → has (is_got_on Voter Up YES) h ≡ true → (e : EnlNo) × (has (is_hand e.value) h ≡ true)
single_hands h r w k =
    let v = single_name h (single_sent h r w k) in
    let e = v.0 in (
      e,
      followed IsAlone alone_before (is_got_on (Enl e) Down SINGLE) (is_hand e.value) (got_due IsAlone (Enl e) Down SINGLE (is_hand e.value) (hand_due e)) h r w.paid w.free
          (arrived (Enl e) Down SINGLE h r.there.fine.wired (r.firm e (sent_came e h r.there v.1)) (w.empty (Enl e) Down) v.1),
    )
