-- A history in which the coordinator stopped: b is lost from then on, whatever was started again, and so is v, where COMMIT was got. And where nothing is left to deliver, the local side saw the
-- end of each connection that is lost.
use Rattle.std.proofs.Common.{◌≡◌, Bool, true, false, ◌&&◌, ◌||◌, List, [], ◌∷◌, Option, Some, None, refl}
use Rattle.std.specs.Prelude.{is_some, not, if◌then◌else◌}
use Rattle.std.specs.List.{flat_map}
use Rattle.std.proofs.lemmas.Bool.{or_left}
use Rattle.dtx_values.specs.declared.entry.Entry.{Entry}
use Rattle.dtx_values.specs.declared.entry.Entry.TheVariants.{Down as Ended, Got, Sent, Stopped}
use Rattle.dtx_values.specs.declared.message.Conn.{Conn}
use Rattle.dtx_values.specs.declared.message.Conn.TheVariants.{Begin, Voter}
use Rattle.dtx_values.specs.declared.message.Dir.TheVariants.{Up, Down}
use Rattle.dtx_values.specs.declared.message.Message.TheVariants.{BeginBegin}
use Rattle.dtx_values.specs.Ends.{same_connection, same_direction}
use Rattle.dtx_values.specs.Lines.{has_line}
use Rattle.dtx_model.specs.Words.{has, holds}
use Rattle.dtx_model.specs.Caused.{is_begin_sent}
use Rattle.dtx_model.specs.Observed.{ends_of}
use Rattle.dtx_model.specs.Steps.{deliveries_on}
use Rattle.dtx_model.specs.Tied.{is_stop}
use Rattle.dtx_model.specs.Wires.{ended_after, ends, is_ended, is_lost_wire, is_stopped, loses, lost_after, lost_since, opens}
use Rattle.dtx_model.proofs.Bools.{and_left, and_right, not_both, not_true, or_case, or_right}
use Rattle.history_table.proofs.Scans.{has_more}
use Rattle.history_table.proofs.Keeping.{Keeps, keeps_before, newest}
use Rattle.history_table.proofs.Messages.{COMMIT}
use Rattle.settled_histories.proofs.MessageKinds.{CREATED}
use Rattle.history_table.proofs.Crossed.{IsStill, is_got_on, still_more, still_silent, stopped_down}
use Rattle.history_table.proofs.Sendings.{got_line}
use Rattle.history_table.proofs.Leading.{opening_was_sent}
use Rattle.history_table.proofs.CoreKnown.{got_there}
use Rattle.history_table.proofs.Doubting.{begin_once, voter_once}
use Rattle.history_table.proofs.Reenlisted.{opened_since}
use Rattle.settled_histories.proofs.BeforeRows.{kept_sound}
use Rattle.settled_histories.proofs.Foregoing.{got_promoted}
use Rattle.settled_histories.proofs.Committed.{promoted_created}
use Rattle.settled_histories.proofs.EndsNoted.{noted}
use Rattle.settled_histories.proofs.Idle.{lost_ended, opened_if_lost}
use Rattle.settled_histories.proofs.Wired.{is_end_on}

-- A stop loses each connection that was opened, and what is lost stays so where it isn't opened anew.
stop_loses : (c : Conn) (h : List Entry) → has (opens c) h ≡ true → is_lost_wire c (Stopped ∷ h) ≡ true
stop_loses c h k = step (lost_since c h) (opened_since c h k)
  where
    step : (o : Option Bool) → is_some o ≡ true → holds (lost_after c h Stopped o) ≡ true
    step (Some l) s = or_right l true refl
    step None s = absurd cc

lost_stays : (c : Conn) (x : Entry) (h : List Entry) → (opens c x ≡ true → has (opens c) h ≡ false) → is_lost_wire c h ≡ true → is_lost_wire c (x ∷ h) ≡ true
lost_stays c x h once lost = step (lost_since c h) lost
  where
    later : (l b : Bool) → opens c x ≡ b → l ≡ true → holds (if b then Some (is_stopped h) else Some (l || loses c x)) ≡ true
    later l true q k = absurd (not_both (has (opens c) h) (opened_if_lost c h lost) (once q))
    later l false q k = or_left l (loses c x) k

    step : (o : Option Bool) → holds o ≡ true → holds (lost_after c h x o) ≡ true
    step None k = absurd cc
    step (Some l) k = later l (opens c x) refl k

-- A stop comes only where BEGIN was sent, and b is opened once: so it is lost from the first stop on.
begin_sent : (x : Entry) → is_begin_sent x ≡ true → opens Begin x ≡ true
begin_sent (Sent Begin Up BeginBegin) k = refl
begin_sent _ k = absurd cc

pub begin_lost : (h : List Entry) → Keeps h → has is_stop h ≡ true → is_lost_wire Begin h ≡ true
begin_lost [] k s = absurd cc
begin_lost (Stopped ∷ h) k s = stop_loses Begin h (has_more is_begin_sent (opens Begin) begin_sent h (and_left (has is_begin_sent h) (not (is_stopped h)) (newest Stopped h k)))
begin_lost (x ∷ h) k s = lost_stays Begin x h (λ o. begin_once x h (newest x h k) o) (begin_lost h (keeps_before x h k) s)

-- so nothing goes up on it any more
begin_silent : (h : List Entry) → Keeps h → has is_stop h ≡ true → IsStill Begin Up h
begin_silent [] k s = absurd cc
begin_silent (Stopped ∷ h) k s = (stopped_down Begin (Stopped ∷ h) refl).still
begin_silent (x ∷ h) k s =
    let past = keeps_before x h k in
    let opened = opened_if_lost Begin h (begin_lost h past s) in
    still_more Begin Up x h (λ m o. absurd (not_both (has (opens Begin) h) opened (begin_once x h (newest x h k) o)))
    (λ o. absurd (not_both (has (opens Begin) h) opened (begin_once x h (newest x h k) o))) (begin_silent h past s)

-- COMMIT is got after v was opened, and none after a stop: so v is lost as well.
commit_opened : (h : List Entry) → Keeps h → has (is_got_on Begin Up COMMIT) h ≡ true → has (opens Voter) h ≡ true
commit_opened h k g =
    let sound = kept_sound h k in
    opening_was_sent Voter h k.wires (got_there Voter CREATED h k (promoted_created h sound (got_promoted h k.wires sound g)))

pub voter_lost : (h : List Entry) → Keeps h → has is_stop h ≡ true → has (is_got_on Begin Up COMMIT) h ≡ true → is_lost_wire Voter h ≡ true
voter_lost [] k s g = absurd cc
voter_lost (Stopped ∷ h) k s g = stop_loses Voter h (commit_opened h (keeps_before Stopped h k) g)
voter_lost (Got Begin Up m ∷ h) k s g = absurd (still_silent Begin Up m h (begin_silent h (keeps_before (Got Begin Up m) h k) s) k.wires.0)
voter_lost (x ∷ h) k s g = lost_stays Voter x h (λ o. voter_once x h (newest x h k) o) (voter_lost h (keeps_before x h k) s g)

-- The end of a connection is seen by its own entry, since each message that is got has a line.
end_there : (c : Conn) (x : Entry) (h : List Entry) → Keeps (x ∷ h) → ends c Down x ≡ true → is_end_on c Down x ≡ true
end_there c (Ended e r) h k q = q
end_there c (Got e r m) h k q =
    absurd (not_both (has_line e r m) (got_line e r m h k) (not_true (has_line e r m) (and_right (same_connection c e && same_direction Down r) (not (has_line e r m)) q)))
end_there c _ h k q = absurd cc

end_saw : (c : Conn) (h : List Entry) → Keeps h → is_ended c Down h ≡ true → has (is_end_on c Down) h ≡ true
end_saw c [] k q = absurd cc
end_saw c (x ∷ h) k q = step (end_saw c h (keeps_before x h k)) (opens c x) q
  where
    step : (is_ended c Down h ≡ true → has (is_end_on c Down) h ≡ true) → (b : Bool) → ended_after b false (ends c Down x || is_ended c Down h) ≡ true
        → (is_end_on c Down x || has (is_end_on c Down) h) ≡ true
    step ih true q = absurd cc
    step ih false q =
        or_case (ends c Down x) (is_ended c Down h) (λ a. or_left (is_end_on c Down x) (has (is_end_on c Down) h) (end_there c x h k a))
        (λ a. or_right (is_end_on c Down x) (has (is_end_on c Down) h) (ih a)) q

-- so where nothing is left to deliver, the local side saw the end of each that is lost
pub lost_seen : (c : Conn) (h : List Entry) → Keeps h → flat_map (deliveries_on h) (ends_of h) ≡ [] → is_lost_wire c h ≡ true → has (is_end_on c Down) h ≡ true
lost_seen c h k e l = end_saw c h k (lost_ended c h (noted c h (opened_if_lost c h l)) e l Down)
