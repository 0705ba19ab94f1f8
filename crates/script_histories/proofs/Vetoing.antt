-- Where the coordinator aborts, or the local side decided an abort, a veto came first.
use Rattle.std.proofs.Common.{◌≡◌, true, List, ◌∷◌, false, Bool, ℕ, ◌&&◌, ◌∙◌, subst, sym, refl, [], ◌==◌, Some, ◌||◌, ◌⊎◌, inl, inr}
use Rattle.std.specs.Prelude.{not}
use Rattle.std.proofs.lemmas.Bool.{eqb-true, false_from_ne_true, or_left}
use Rattle.dtx_values.specs.declared.entry.Entry.{Entry}
use Rattle.dtx_values.specs.declared.entry.Entry.TheVariants.{Sent, Got, OwnerAnswered, Voted, Requested, PromotionFailed, Decided, Down as End, LogFull, Restarted}
use Rattle.dtx_values.specs.declared.entry.Request.TheVariants.{Abort}
use Rattle.dtx_values.specs.declared.message.Conn.{Conn}
use Rattle.dtx_values.specs.declared.message.Conn.TheVariants.{Begin, Voter, Enl}
use Rattle.dtx_values.specs.declared.message.Dir.{Dir}
use Rattle.dtx_values.specs.declared.message.Dir.TheVariants.{Up, Down}
use Rattle.dtx_values.specs.declared.message.Message.{Message}
use Rattle.dtx_values.specs.declared.message.Message.TheVariants.{BeginAbort, BeginCommitOne, EnlistNo, EnlistOneAborted, VoterNo}
use Rattle.dtx_values.specs.declared.number.EnlNo.{EnlNo}
use Rattle.dtx_values.specs.declared.words.Outcome.{Outcome}
use Rattle.dtx_values.specs.declared.words.Outcome.TheVariants.{Aborted, Committed, InDoubt}
use Rattle.dtx_values.specs.declared.words.Vote.{Vote}
use Rattle.dtx_values.specs.declared.words.Vote.TheVariants.{No, Yes, Done}
use Rattle.dtx_values.specs.Ends.{same_connection, same_direction}
use Rattle.dtx_values.specs.Class.{is_promotable}
use Rattle.dtx_values.specs.Lines.{has_line}
use Rattle.dtx_model.specs.Words.{ever, has, latest}
use Rattle.dtx_model.specs.Entries.{is_any_hand, is_any_single_sent, is_asked, is_good_vote, is_hand, is_owner, is_two_phase_got, is_decision, is_promoted, is_record, is_vote, is_lost, is_sealed, decision_of, is_yes}
use Rattle.dtx_model.specs.Outcome.{durables, enlisted, is_first_veto, vetoed, evidence, is_veto}
use Rattle.dtx_model.specs.Observed.{is_request}
use Rattle.dtx_model.specs.Wires.{is_ended}
use Rattle.dtx_model.specs.Learned.{is_abort, coordinator_aborted, is_first_abort}
use Rattle.dtx_model.specs.Promotes.{ends_told, is_enlisted_got, is_refusal, is_promoting}
use Rattle.dtx_model.proofs.Bools.{or_right, and_both, not_false, and_left, and_right, not_both, not_true, or_case, or_second}
use Rattle.dtx_model.proofs.Connections.{same_is, same_way_is}
use Rattle.history_table.proofs.Crossed.{is_sent_on, got_sent}
use Rattle.history_table.proofs.Tests.{first_of_three, second_of_three, second_of_five, third_of_five, second_of_four, fourth_of_four}
use Rattle.history_table.proofs.EntryTests.{is_answer, is_enlisted, is_no_vote}
use Rattle.history_table.proofs.Table.{stands_volatile, is_cast, ends_with, is_abort_request, stands_promotable, calls_off, is_lost_there, but_failed, ends_called_off, is_abort_decided, is_aborted_for_good, is_commit_sent, is_lone_owner, is_one_aborted, is_prepare_got, is_promotable_of, is_yes_sent, may_answer, message_row, is_there}
use Rattle.history_table.proofs.Keeping.{Keeps, keeps_before, newest, third_of_three}
use Rattle.history_table.proofs.Recording.{promoting_if_promoted, got_calm, abort_promoting, aborted_promoting, well_if_yes}
use Rattle.history_table.proofs.Evident.{evidence-handed, good_voted, unrecorded_open}
use Rattle.history_table.proofs.Handed.{answered_any, hand_any, hand_name, is_answered}
use Rattle.history_table.proofs.LetDecide.{aborted_if_one, any_single_if_handed, lone_if_one, one_apart, one_if_single, owner_answered, single_if_handed, unsingle_unhanded, yes_if_single}
use Rattle.history_table.proofs.JointVotes.{two_if_prepared}
use Rattle.history_table.proofs.SinglePhase.{single_only}
use Rattle.history_table.proofs.CameBack.{came_if_enlisted}
use Rattle.history_table.proofs.Aborting.{IsCalledOff, IsShut}
use Rattle.history_table.proofs.HalfOwner.{unlone_if_promotable}
use Rattle.history_table.proofs.Standing.{prepared_if_asked}
use Rattle.history_table.proofs.Sendings.{end_promoting, ends_has, for_good_more, got_line, refusal_for_good, told_for_good}
use Rattle.history_table.proofs.Scans.{has_less, has_more}
use Rattle.script_histories.proofs.EvidentOwners.{asked_volatile, unvoted_open, volatile_good}
use Rattle.script_histories.proofs.Rules.{decided_same}

-- a veto stays, and a first one is one
pub veto_more : (x : Entry) (h : List Entry) → vetoed h ≡ true → vetoed (x ∷ h) ≡ true
unfolding vetoed
veto_more x h t = or_right (is_first_veto h x) (ever is_first_veto h) t

pub veto_new : (x : Entry) (h : List Entry) → is_first_veto h x ≡ true → vetoed (x ∷ h) ≡ true
unfolding vetoed
veto_new x h t = or_left (is_first_veto h x) (ever is_first_veto h) t

first_now : (x : Entry) (h : List Entry) → is_veto h x ≡ true → evidence h ≡ false → vetoed (x ∷ h) ≡ true
first_now x h v e = veto_new x h (and_both (is_veto h x) (not (evidence h)) v (not_false (evidence h) e))

-- the message carries a veto to the coordinator
abbrev pub is_veto_message : Conn → Message → Bool
is_veto_message Begin BeginAbort = true
is_veto_message Voter VoterNo = true
is_veto_message (Enl e) EnlistNo = true
is_veto_message (Enl e) EnlistOneAborted = true
is_veto_message c m = false

abbrev pub is_veto_sent : Entry → Bool
is_veto_sent (Sent c Up m) = is_veto_message c m
is_veto_sent _ = false

sent_veto : (c : Conn) (x : Entry) → is_sent_on c Up (is_veto_message c) x ≡ true → is_veto_sent x ≡ true
sent_veto c (Sent e r m) t =
    let both = and_left (same_connection c e && same_direction Up r) (is_veto_message c m) t in
    let conn : c ≡ e = same_is c e (and_left (same_connection c e) (same_direction Up r) both) in
    let way : Up ≡ r = same_way_is Up r (and_right (same_connection c e) (same_direction Up r) both) in
    let P : Conn → Type 0 = λ y. is_veto_message y m ≡ true in
    let Q : Dir → Type 0 = λ y. is_veto_sent (Sent e y m) ≡ true in
    subst Q way (subst P conn (and_right (same_connection c e && same_direction Up r) (is_veto_message c m) t))
sent_veto c _ t = absurd cc

-- the abort that it makes of such a message, where the message has a line there; that COMMIT for a single phase comes of none or several is a veto itself
abort_message : (c : Conn) (m : Message) (h : List Entry) → is_abort h (Got c Up m) ≡ true → has_line c Up m ≡ true → (is_veto_message c m ≡ true) ⊎ (is_veto h (Got c Up m) ≡ true)
abort_message Begin BeginAbort h t l = inl refl
abort_message Begin BeginCommitOne h t l = inr t
abort_message Voter VoterNo h t l = inl refl
abort_message (Enl e) EnlistNo h t l = inl refl
abort_message (Enl e) EnlistOneAborted h t l = inl refl
abort_message c m h t l = absurd cc

-- after the handing of a promotion nobody votes: each volatile voted before the local yes, and PREPARE doesn't come where SINGLE does
handed_voted : (e : EnlNo) (v : Vote) (h : List Entry) → Keeps (Voted e v ∷ h) → has is_promoting h ≡ true → has is_any_hand h ≡ true → ⊥
handed_voted e v h k p t =
    let past = keeps_before (Voted e v) h k in
    let row = newest (Voted e v) h k in
    let asked = second_of_five (has (is_enlisted e.value) h) (has (is_asked e.value) h) (not (has (is_vote e.value) h)) (not (has (is_lost e.value) h)) (not (stands_volatile e.value h && has is_decision h)) row in
    let unvoted = not_true (has (is_vote e.value) h) (third_of_five (has (is_enlisted e.value) h) (has (is_asked e.value) h) (not (has (is_vote e.value) h)) (not (has (is_lost e.value) h)) (not (stands_volatile e.value h && has is_decision h)) row) in
    let name = hand_name h t in
    let single = any_single_if_handed name.0 h past p name.1 in
    or_case (stands_volatile e.value h) (has (is_prepare_got e.value) h)
    (λ a. not_both (has (is_vote e.value) h)
    (has_more (is_good_vote e.value) (is_vote e.value) (good_voted e.value) h (volatile_good e.value h a (well_if_yes h past (yes_if_single h past single)))) unvoted)
    (λ a. not_both (has is_two_phase_got h) (two_if_prepared e.value h past a) (one_apart h past (one_if_single h past single)))
    (prepared_if_asked e.value h past asked)

-- a vote comes where there is no evidence yet, unless there is a record
early : (e : EnlNo) (v : Vote) (h : List Entry) → Keeps (Voted e v ∷ h) → has is_record h ≡ false → evidence h ≡ false
early e v h k s = step (has is_promoted h) refl
  where
    past : Keeps h
    past = keeps_before (Voted e v) h k

    step : (b : Bool) → has is_promoted h ≡ b → evidence h ≡ false
    step true p =
        unrecorded_open h past (promoting_if_promoted h past p) (false_from_ne_true (has is_any_hand h) (λ t. handed_voted e v h k (promoting_if_promoted h past p) t)) s
    step false p =
        let asked = second_of_five (has (is_enlisted e.value) h) (has (is_asked e.value) h) (not (has (is_vote e.value) h)) (not (has (is_lost e.value) h)) (not (stands_volatile e.value h && has is_decision h)) (newest (Voted e v) h k) in
        let unvoted = third_of_five (has (is_enlisted e.value) h) (has (is_asked e.value) h) (not (has (is_vote e.value) h)) (not (has (is_lost e.value) h)) (not (stands_volatile e.value h && has is_decision h)) (newest (Voted e v) h k) in
        let volatile = or_case (stands_volatile e.value h) (has is_promoted h) (λ t. t) (λ t. absurd (not_both (has is_promoted h) t p)) (asked_volatile e.value h past asked) in
        unvoted_open e.value h volatile (not_true (has (is_vote e.value) h) unvoted) p

-- a vote no is a veto, unless there is a record
no_vetoed : (h : List Entry) → Keeps h → has is_record h ≡ false → has is_no_vote h ≡ true → vetoed h ≡ true
no_vetoed [] k s t = absurd cc
no_vetoed (Voted e No ∷ h) k s t = first_now (Voted e No) h refl (early e No h k s)
no_vetoed (x ∷ h) k s t = veto_more x h (no_vetoed h (keeps_before x h k) (or_second (is_record x) (has is_record h) s) t)

cast_no : (e : EnlNo) (x : Entry) → is_cast (Enl e) No x ≡ true → is_no_vote x ≡ true
cast_no e (Voted f No) t = refl
cast_no e (Voted f Yes) t = let never = and_right (e.value == f.value) false t in absurd cc
cast_no e (Voted f Done) t = let never = and_right (e.value == f.value) false t in absurd cc
cast_no e _ t = absurd cc

-- a promotable that stands has the commit to itself: no owner was handed it
promotable_unhanded : (e : ℕ) (h : List Entry) → Keeps h → has is_promoting h ≡ true → stands_promotable e h ≡ true → has is_any_hand h ≡ false
promotable_unhanded e h k p t =
    false_from_ne_true (has is_any_hand h) (λ a. let name = hand_name h a in
    let lone = lone_if_one h k (one_if_single h k (any_single_if_handed name.0 h k p name.1)) in
    not_both (is_lone_owner (durables h)) (and_right (has is_sealed h) (is_lone_owner (durables h)) lone)
    (unlone_if_promotable h (has_more (is_promotable_of e) (λ x. is_promotable x.1) (λ x. and_right (e == x.0.value) (is_promotable x.1)) (enlisted h) t)))

-- the request of an abort is a veto, unless there is a record
request_vetoed : (h : List Entry) → Keeps h → has is_record h ≡ false → ends_with is_abort_request h ≡ true → vetoed h ≡ true
request_vetoed (Requested e Abort ∷ h) k s t =
    let past = keeps_before (Requested e Abort) h k in
    let row = newest (Requested e Abort) h k in
    let promoted = second_of_four (not (has is_decision h)) (has is_promoted h) (has is_sealed h) (stands_promotable e.value h && not (has is_request h)) row in
    let stands = and_left (stands_promotable e.value h) (not (has is_request h)) (fourth_of_four (not (has is_decision h)) (has is_promoted h) (has is_sealed h) (stands_promotable e.value h && not (has is_request h)) row) in
    first_now (Requested e Abort) h refl (unrecorded_open h past (promoting_if_promoted h past promoted) (promotable_unhanded e.value h past (promoting_if_promoted h past promoted) stands) s)
request_vetoed _ k s t = absurd cc

-- an owner answers where there is no evidence yet, so that it answered Aborted is a veto
answers_open : (e : EnlNo) (o : Outcome) (h : List Entry) → Keeps (OwnerAnswered e o ∷ h) → evidence h ≡ false
answers_open e o h k =
    let row = newest (OwnerAnswered e o) h k in
    evidence-handed h (keeps_before (OwnerAnswered e o) h k)
    (has_more (is_hand e.value) is_any_hand (hand_any e.value) h (second_of_three (may_answer h) (has (is_hand e.value) h) (not (has is_answer h)) row))
    ∙ has_less (is_answered Committed) is_answer (answered_any Committed) h (not_true (has is_answer h) (third_of_three (may_answer h) (has (is_hand e.value) h) (not (has is_answer h)) row))

pub answered_vetoed : (h : List Entry) → Keeps h → has (is_answered Aborted) h ≡ true → vetoed h ≡ true
answered_vetoed [] k t = absurd cc
answered_vetoed (OwnerAnswered e Aborted ∷ h) k t = first_now (OwnerAnswered e Aborted) h refl (answers_open e Aborted h k)
answered_vetoed (x ∷ h) k t = veto_more x h (answered_vetoed h (keeps_before x h k) t)

-- the three that show a veto: an abort that was decided; one of the coordinator, where nobody was handed the commit; and a veto's message, unless there is a record
pub record IsVetoed (h : List Entry) : Type 0 where
  pub decided : latest decision_of h ≡ Some Aborted → vetoed h ≡ true
  pub aborted : coordinator_aborted h ≡ true → has is_any_hand h ≡ false → vetoed h ≡ true
  pub sent : has is_record h ≡ false → has is_veto_sent h ≡ true → vetoed h ≡ true

-- what the local side aborts after shows a veto, or the coordinator's abort
off_either : (x : Entry) (h : List Entry) → Keeps (x ∷ h) → calls_off h x ≡ true → (vetoed (x ∷ h) ≡ true) ⊎ (is_aborted_for_good (x ∷ h) ≡ true)
off_either x h k t =
    or_case (is_first_veto h x && (not (has is_yes h) || is_lost_there h x)) (is_refusal x || ends_told h x)
    (λ v. inl (veto_new x h (and_left (is_first_veto h x) (not (has is_yes h) || is_lost_there h x) v)))
    (λ a. inr (for_good_more x h (newest x h k) (or_case (is_refusal x) (ends_told h x) (refusal_for_good x h k) (told_for_good x h (keeps_before x h k)) a))) t

abort_vetoed : (h : List Entry) → Keeps h → (is_aborted_for_good h ≡ true → vetoed h ≡ true) → ends_called_off (but_failed h) ≡ true → vetoed h ≡ true
abort_vetoed [] k f t = absurd cc
abort_vetoed (PromotionFailed ∷ []) k f t = absurd cc
abort_vetoed (PromotionFailed ∷ x ∷ h) k f t = elim (off_either x h (keeps_before PromotionFailed (x ∷ h) k) t) [
  | inl v ↦ veto_more PromotionFailed (x ∷ h) v
  | inr a ↦ f (for_good_more PromotionFailed (x ∷ h) (newest PromotionFailed (x ∷ h) k) a)
]
abort_vetoed (x ∷ h) k f t = elim (off_either x h k t) [
  | inl v ↦ v
  | inr a ↦ f a
]

-- where the coordinator aborted for good, nobody was handed the commit, or the owner answered Aborted
good_by : (h : List Entry) → Keeps h → (coordinator_aborted h ≡ true → has is_any_hand h ≡ false → vetoed h ≡ true) → is_aborted_for_good h ≡ true → vetoed h ≡ true
good_by h k f t =
    let aborted = and_left (coordinator_aborted h) (not (has is_any_single_sent h) || has is_one_aborted h) t in
    or_case (not (has is_any_single_sent h)) (has is_one_aborted h)
    (λ n. f aborted (unsingle_unhanded h k (aborted_promoting h k aborted) (not_true (has is_any_single_sent h) n))) (λ o. answered_vetoed h k (aborted_if_one h k o))
    (and_right (coordinator_aborted h) (not (has is_any_single_sent h) || has is_one_aborted h) t)

decided_step : (x : Entry) (h : List Entry) → Keeps (x ∷ h) → IsVetoed h → latest decision_of (x ∷ h) ≡ Some Aborted → vetoed (x ∷ h) ≡ true
decided_step (Decided Aborted) h k w d =
    veto_more (Decided Aborted) h
    (abort_vetoed h (keeps_before (Decided Aborted) h k) (good_by h (keeps_before (Decided Aborted) h k) w.aborted) (and_right (not (has is_decision h)) (ends_called_off (but_failed h)) (newest (Decided Aborted) h k)))
decided_step (Decided Committed) h k w d = absurd cc
decided_step (Decided InDoubt) h k w d = absurd cc
decided_step x h k w d = veto_more x h (w.decided d)

cause_step : (x : Entry) (h : List Entry) → Keeps (x ∷ h) → IsVetoed h → is_abort h x ≡ true → has is_record h ≡ false → has is_any_hand h ≡ false → vetoed (x ∷ h) ≡ true
cause_step (Got c Up m) h k w t s u = elim (abort_message c m h t (got_line c Up m h k)) [
  | inl message ↦
      veto_more (Got c Up m) h (w.sent s (has_more (is_sent_on c Up (is_veto_message c)) is_veto_sent (sent_veto c) h (got_sent c Up m (is_veto_message c) h k.wires.0 message)))
  | inr v ↦ first_now (Got c Up m) h v (unrecorded_open h (keeps_before (Got c Up m) h k) (abort_promoting (Got c Up m) h k t) u s)
]
cause_step (Got c Down m) h k w t s u = absurd (not_both (is_abort h (Got c Down m)) t (got_calm c m h))
cause_step (End c Up) h k w t s u = first_now (End c Up) h t (unrecorded_open h (keeps_before (End c Up) h k) (end_promoting c Up h k) u s)
cause_step LogFull h k w t s u = first_now LogFull h refl (unrecorded_open h (keeps_before LogFull h k) (abort_promoting LogFull h k t) u s)
cause_step (Restarted b) h k w t s u = first_now (Restarted b) h t (unrecorded_open h (keeps_before (Restarted b) h k) (abort_promoting (Restarted b) h k t) u s)
cause_step _ h k w t s u = absurd cc

aborted_step : (x : Entry) (h : List Entry) → Keeps (x ∷ h) → IsVetoed h → coordinator_aborted (x ∷ h) ≡ true → has is_any_hand h ≡ false → vetoed (x ∷ h) ≡ true
unfolding coordinator_aborted
aborted_step x h k w t u =
    or_case (is_first_abort h x) (ever is_first_abort h)
    (λ a. cause_step x h k w (and_left (is_abort h x) (not (has is_record h)) a) (not_true (has is_record h) (and_right (is_abort h x) (not (has is_record h)) a)) u)
    (λ a. veto_more x h (w.aborted a u)) t

message_vetoed : (h : List Entry) → Keeps h → IsVetoed h → has is_record h ≡ false → (c : Conn) (m : Message) → is_veto_message c m ≡ true → message_row h c m ≡ true → vetoed h ≡ true
message_vetoed h k w s Begin BeginAbort t r =
    or_case (is_abort_decided h) (ends_with is_abort_request h) (λ d. w.decided (decided_same Aborted (latest decision_of h) d)) (λ q. request_vetoed h k s q)
    (and_left (is_abort_decided h || ends_with is_abort_request h) (not (has is_commit_sent h)) r)
message_vetoed h k w s Voter VoterNo t r = w.decided (decided_same Aborted (latest decision_of h) (and_left (is_abort_decided h) (not (has is_yes_sent h)) r))
message_vetoed h k w s (Enl e) EnlistNo t r = no_vetoed h k s (has_more (is_cast (Enl e) No) is_no_vote (cast_no e) h r)
message_vetoed h k w s (Enl e) EnlistOneAborted t r =
    answered_vetoed h k (has_more (is_owner e.value Aborted) (is_answered Aborted) (owner_answered e.value Aborted) h (ends_has (is_owner e.value Aborted) h r))
message_vetoed h k w s c m t r = absurd cc

sent_step : (x : Entry) (h : List Entry) → Keeps (x ∷ h) → IsVetoed h → has is_record h ≡ false → is_veto_sent x ≡ true → vetoed h ≡ true
sent_step (Sent c Up m) h k w s t =
    message_vetoed h (keeps_before (Sent c Up m) h k) w s c m t (fourth_of_four (has_line c Up m) (has is_promoting h) (is_there h c Up m) (message_row h c m) (newest (Sent c Up m) h k))
sent_step _ h k w s t = absurd cc

pub vetoes : (h : List Entry) → Keeps h → IsVetoed h
unfolding coordinator_aborted
vetoes [] k = record { decided = λ d. absurd cc; aborted = λ t u. absurd cc; sent = λ s t. absurd cc }
vetoes (x ∷ h) k =
    let w = vetoes h (keeps_before x h k) in
    record {
      decided = λ d. decided_step x h k w d;
      aborted = λ t u. aborted_step x h k w t (or_second (is_any_hand x) (has is_any_hand h) u);
      sent = λ s t.
          veto_more x h
          (or_case (is_veto_sent x) (has is_veto_sent h) (λ u. sent_step x h k w (or_second (is_record x) (has is_record h) s) u) (λ u. w.sent (or_second (is_record x) (has is_record h) s) u) t);
    }

-- Where the coordinator's abort stands, a veto came: nobody was handed the commit, or the owner answered Aborted.
shut_unhanded : (h : List Entry) → Keeps h → (w : IsShut h) → has is_any_hand h ≡ false
shut_unhanded h k w =
    let e = w.name in
    let got = first_of_three (has (is_enlisted_got e.value) h) (not (has (is_hand e.value) h)) (is_ended (Enl e) Down h) w.alone in
    let unhanded = not_true (has (is_hand e.value) h) (second_of_three (has (is_enlisted_got e.value) h) (not (has (is_hand e.value) h)) (is_ended (Enl e) Down h) w.alone) in
    false_from_ne_true (has is_any_hand h) (λ t. let name = hand_name h t in
    let single = single_if_handed name.0 h k (aborted_promoting h k w.aborted) name.1 in
    let same : e.value ≡ name.0 = eqb-true e.value name.0 (single_only e.value name.0 h k single (came_if_enlisted e h k got)) in
    not_both (has (is_hand e.value) h) (subst (λ n. has (is_hand n) h ≡ true) (sym same) name.1) unhanded)

pub called_off_vetoed : (h : List Entry) → Keeps h → IsCalledOff h → vetoed h ≡ true
called_off_vetoed h k (inl a) = good_by h k (vetoes h k).aborted a
called_off_vetoed h k (inr (inl b)) = answered_vetoed h k b
called_off_vetoed h k (inr (inr w)) = (vetoes h k).aborted w.aborted (shut_unhanded h k w)
