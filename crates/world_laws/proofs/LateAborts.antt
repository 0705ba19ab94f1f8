-- Where the log stopped first when an append could be tried, no abort is decided: what the coordinator sent before was no abort, and on b, on v and to the enlistments that came it
-- sends nothing after a stop.
use Rattle.std.proofs.Common.{◌≡◌, ◌==◌, Bool, true, false, ◌&&◌, ◌||◌, List, [], ◌∷◌, refl, sym, subst}
use Rattle.std.specs.Prelude.{is_some, not}
use Rattle.std.proofs.lemmas.Bool.{false_from_ne_true}
use Rattle.dtx_values.specs.declared.entry.Entry.{Entry}
use Rattle.dtx_values.specs.declared.entry.Entry.TheVariants.{Decided, Got, Lost, PromotionFailed, Sent, Stopped}
use Rattle.dtx_values.specs.declared.message.Conn.{Conn}
use Rattle.dtx_values.specs.declared.message.Conn.TheVariants.{Again, Begin, Enl, Voter}
use Rattle.dtx_values.specs.declared.message.Dir.TheVariants.{Down, Up}
use Rattle.dtx_values.specs.declared.message.Message.{Message}
use Rattle.dtx_values.specs.declared.message.Message.TheVariants.{BeginAborted, BeginBegin, BeginCommit, BeginCommitOne, EnlistAbort, EnlistEnlist, EnlistRefused, VoterAbort, VoterRefused, VoterVoter, VoterYes}
use Rattle.dtx_values.specs.declared.number.EnlNo.{EnlNo}
use Rattle.dtx_values.specs.declared.words.Outcome.TheVariants.{Aborted}
use Rattle.dtx_values.specs.Ends.{same_connection}
use Rattle.dtx_values.specs.Lines.{has_line, is_opening}
use Rattle.dtx_model.specs.Words.{has}
use Rattle.dtx_model.specs.Entries.{is_commit_got, is_decision, is_good_vote, is_hand, is_vote, is_yes, is_yes_got}
use Rattle.dtx_model.specs.Frames.{is_valid}
use Rattle.dtx_model.specs.Learned.{coordinator_aborted}
use Rattle.dtx_model.specs.Outcome.{evidence, is_first_veto, is_veto}
use Rattle.dtx_model.specs.Promotes.{ends_told, is_begun_got, is_promoting, is_refusal, is_told_abort}
use Rattle.dtx_model.specs.Tied.{before_first_stop, can_log, is_stop}
use Rattle.dtx_model.specs.Wires.{begins_ended, ended_after, ends, is_ended, lost_since, opens}
use Rattle.dtx_model.proofs.Bools.{and_left, and_right, not_both, not_true, or_case, or_false, or_right}
use Rattle.history_table.specs.Appended.{is_abort_decision, stopped_at_append}
use Rattle.history_table.proofs.Tests.{fourth_of_four, third_of_four}
use Rattle.history_table.proofs.Scans.{has_more}
use Rattle.history_table.proofs.Table.{but_failed, ends_called_off, is_enlist_got, is_lost_there, is_of_conn, is_opening_got, is_there, is_volatile_conn, message_row, rule}
use Rattle.history_table.proofs.Keeping.{Keeps, arrived, earlier, keeps_before, newest}
use Rattle.history_table.proofs.Crossed.{got_sent, is_sent_on}
use Rattle.dtx_model.proofs.Connections.{same_is}
use Rattle.history_table.proofs.Sendings.{abort_of, aborted_more, is_abort_message, sent_row}
use Rattle.history_table.proofs.Recording.{came_voted_at, came_voted_stays, can_commit, can_live, can_yes, first_none, first_some, from_first, keeps_first, yes_at}
use Rattle.history_table.proofs.Evident.{good_voted}
use Rattle.history_table.proofs.Aborting.{decided_off, abort_latest, barred_unable}
use Rattle.history_table.proofs.CoreKnown.{got_opened, sent_opened_there}
use Rattle.history_table.proofs.Standing.{opened_if_got}
use Rattle.world_laws.specs.Carried.{are_sendable, is_sendable}
use Rattle.world_laws.proofs.SendingApt.{can_send}

-- what holds of the history before the first stop and stays, holds before the newest entry, where it stopped by then
before_newest : (Q : List Entry → Bool) → ((x : Entry) (h : List Entry) → Keeps (x ∷ h) → Q h ≡ true → Q (x ∷ h) ≡ true) → (x : Entry) (h : List Entry) → Keeps (x ∷ h) → has is_stop (x ∷ h) ≡ true
    → Q (before_first_stop (x ∷ h)) ≡ true → Q h ≡ true
before_newest Q stays Stopped h k s q = from_first Q stays h (keeps_before Stopped h k) q
before_newest Q stays x h k s q = from_first Q stays h (keeps_before x h k) (subst (λ g. Q g ≡ true) (first_some (x ∷ h) h h s) q)

-- it stopped first at the same place before the newest entry, where it stopped before that
able_before : (Q : List Entry → Bool) (x : Entry) (h : List Entry) → has is_stop h ≡ true → Q (before_first_stop (x ∷ h)) ≡ true → Q (before_first_stop h) ≡ true
able_before Q Stopped h s q = q
able_before Q x h s q = subst (λ g. Q g ≡ true) (first_some (x ∷ h) h h s) q

-- b, v and an enlistment's connection are opened once
abbrev is_side : Conn → Bool
is_side (Again e) = false
is_side _ = true

once_row : (c : Conn) (m : Message) (h : List Entry) → is_side c ≡ true → is_opening c m ≡ true → message_row h c m ≡ true → has (opens c) h ≡ false
once_row Begin BeginBegin h w o r = not_true (has (opens Begin) h) r
once_row Voter (VoterVoter u) h w o r = not_true (has (opens Voter) h) (and_right (has is_begun_got h) (not (has (opens Voter) h)) r)
once_row (Enl e) (EnlistEnlist i) h w o r =
    not_true (has (opens (Enl e)) h) (third_of_four (is_of_conn (Enl e) i) (has is_begun_got h) (not (has (opens (Enl e)) h)) (not (is_volatile_conn (Enl e) h)) r)
once_row _ m h w o _ = absurd cc

once_at : (c : Conn) (x : Entry) (h : List Entry) → is_side c ≡ true → rule h x ≡ true → opens c x ≡ true → has (opens c) h ≡ false
once_at c (Sent e Up m) h w r t =
    let same : c ≡ e = same_is c e (and_left (same_connection c e) (is_opening e m) t) in
    let P : Conn → Type 0 = λ d. is_side d ≡ true in
    let R : Conn → Type 0 = λ d. has (opens d) h ≡ false in
    subst R (sym same)
    (once_row e m h (subst P same w) (and_right (same_connection c e) (is_opening e m) t)
    (fourth_of_four (has_line e Up m) (has is_promoting h) (is_there h e Up m) (message_row h e m) r))
once_at c _ h _ _ t = absurd cc

opened_since_first : (c : Conn) (h : List Entry) → Keeps h → has (opens c) (before_first_stop h) ≡ true → has (opens c) h ≡ true
opened_since_first c h k o = from_first (λ g. has (opens c) g) (λ x g w t. or_right (opens c x) (has (opens c) g) t) h k o

-- so after a stop the coordinator has seen the end of what was opened before the first
ended_since : (c : Conn) (h : List Entry) → is_side c ≡ true → Keeps h → has is_stop h ≡ true → has (opens c) (before_first_stop h) ≡ true → is_ended c Up h ≡ true
ended_since c [] w k s o = absurd cc
ended_since c (Stopped ∷ h) w k s o = refl
ended_since c (x ∷ h) w k s o =
    let past = keeps_before x h k in
    let first : has (opens c) (before_first_stop h) ≡ true = able_before (λ g. has (opens c) g) x h s o in
    step (opens c x) (begins_ended Up h) (ends c Up x) (is_ended c Up h)
    (false_from_ne_true (opens c x) (λ t. not_both (has (opens c) h) (opened_since_first c h past first) (once_at c x h w (newest x h k) t))) (ended_since c h w past s first)
  where
    step : (b f e d : Bool) → b ≡ false → d ≡ true → ended_after b f (e || d) ≡ true
    step true f e d n t = absurd cc
    step false f e d n t = or_right e d t

-- and sends nothing more there
late : (c : Conn) (x : Entry) (h : List Entry) → is_sendable h x ≡ true → is_sent_on c Down is_abort_message x ≡ true → is_ended c Up h ≡ false
late c (Sent e Down m) h q z =
    let same : c ≡ e = same_is c e (and_left (same_connection c e) true (and_left (same_connection c e && true) (is_abort_message m) z)) in
    let P : Conn → Type 0 = λ d. is_ended d Up h ≡ false in
    subst P (sym same) (not_true (is_ended e Up h) (and_right (is_some (lost_since e h)) (not (is_ended e Up h)) (and_right (is_valid m && has_line e Down m) (can_send e Down h) q)))
late c (Sent e Up m) h q z = absurd (never (same_connection c e) (is_abort_message m) z)
  where
    never : (a b : Bool) → (a && false && b) ≡ true → ⊥
    never true b z = absurd cc
    never false b z = absurd cc
late c _ h _ z = absurd cc

sent_aborted : (c : Conn) (h : List Entry) → Keeps h → has (is_sent_on c Down is_abort_message) h ≡ true → coordinator_aborted h ≡ true
sent_aborted c h k z = earlier (is_sent_on c Down is_abort_message) coordinator_aborted aborted_more (sent_row c Down is_abort_message coordinator_aborted (abort_of c)) h k z

unaborted_since : (c : Conn) (h : List Entry) → is_side c ≡ true → Keeps h → are_sendable h ≡ true → has is_stop h ≡ true → can_log (before_first_stop h) ≡ true → has (opens c) (before_first_stop h) ≡ true
    → has (is_sent_on c Down is_abort_message) h ≡ false
unaborted_since c [] w k d s a o = absurd cc
unaborted_since c (Stopped ∷ h) w k d s a o = by (λ t. unaborted_since c h w (keeps_before Stopped h k) (and_right (is_sendable h Stopped) (are_sendable h) d) t a o) (has is_stop h) refl
  where
    by : (has is_stop h ≡ true → has (is_sent_on c Down is_abort_message) h ≡ false) → (b : Bool) → has is_stop h ≡ b → has (is_sent_on c Down is_abort_message) h ≡ false
    by ih true t = ih t
    by ih false t =
        false_from_ne_true (has (is_sent_on c Down is_abort_message) h)
        (λ z. not_both (coordinator_aborted h) (sent_aborted c h (keeps_before Stopped h k) z) (can_live h (subst (λ g. can_log g ≡ true) (first_none h h t) a)))
unaborted_since c (x ∷ h) w k d s a o =
    let past = keeps_before x h k in
    let first : has (opens c) (before_first_stop h) ≡ true = able_before (λ g. has (opens c) g) x h s o in
    or_false (is_sent_on c Down is_abort_message x) (has (is_sent_on c Down is_abort_message) h)
    (false_from_ne_true (is_sent_on c Down is_abort_message x)
    (λ z. not_both (is_ended c Up h) (ended_since c h w past s first) (late c x h (and_left (is_sendable h x) (are_sendable h) d) z)))
    (unaborted_since c h w past (and_right (is_sendable h x) (are_sendable h) d) s (able_before can_log x h s a) first)

-- What was opened before the first stop, where an append could be tried there: b, v, and the connection of each that came.
begin_opened : (h : List Entry) → Keeps h → has is_commit_got h ≡ true → has (opens Begin) h ≡ true
begin_opened h k c = arrived is_commit_got (λ g. has (opens Begin) g) (λ x g t. or_right (opens Begin x) (has (opens Begin) g) t) from h k c
  where
    from : (x : Entry) (h : List Entry) → Keeps (x ∷ h) → is_commit_got x ≡ true → has (opens Begin) h ≡ true
    from (Got Begin Up BeginCommit) h k t = got_opened Begin BeginCommit h k
    from (Got Begin Up BeginCommitOne) h k t = got_opened Begin BeginCommitOne h k
    from _ h k t = absurd cc

voter_opened : (h : List Entry) → Keeps h → has is_yes_got h ≡ true → has (opens Voter) h ≡ true
voter_opened h k c = arrived is_yes_got (λ g. has (opens Voter) g) (λ x g t. or_right (opens Voter x) (has (opens Voter) g) t) from h k c
  where
    from : (x : Entry) (h : List Entry) → Keeps (x ∷ h) → is_yes_got x ≡ true → has (opens Voter) h ≡ true
    from (Got Voter Up VoterYes) h k t = got_opened Voter VoterYes h k
    from _ h k t = absurd cc

commit_since : (h : List Entry) → Keeps h → has is_commit_got (before_first_stop h) ≡ true → has is_commit_got h ≡ true
commit_since h k c = from_first (λ g. has is_commit_got g) (λ x g w t. or_right (is_commit_got x) (has is_commit_got g) t) h k c

enlist_late : (e : EnlNo) (x : Entry) (h : List Entry) → rule h x ≡ true → is_opening_got (Enl e) x ≡ true → has is_commit_got h ≡ false
enlist_late e (Got (Enl f) Up (EnlistEnlist i)) h r t = not_true (has is_commit_got h) r
enlist_late e (Got (Enl f) Up m) h r t = let never : false ≡ true = and_right (e.value == f.value) false t in absurd cc
enlist_late e (Got Begin Up m) h _ t = absurd cc
enlist_late e (Got Voter Up m) h _ t = absurd cc
enlist_late e (Got (Again f) Up m) h _ t = absurd cc
enlist_late e (Got c Down m) h _ t = absurd cc
enlist_late e _ h _ t = absurd cc

enlist_first : (e : EnlNo) (h : List Entry) → Keeps h → has is_stop h ≡ true → has is_commit_got (before_first_stop h) ≡ true → has (is_opening_got (Enl e)) h ≡ true
    → has (is_opening_got (Enl e)) (before_first_stop h) ≡ true
enlist_first e [] k s c o = absurd cc
enlist_first e (Stopped ∷ h) k s c o = by (λ t. enlist_first e h (keeps_before Stopped h k) t c o) (has is_stop h) refl
  where
    by : (has is_stop h ≡ true → has (is_opening_got (Enl e)) (before_first_stop h) ≡ true) → (b : Bool) → has is_stop h ≡ b → has (is_opening_got (Enl e)) (before_first_stop h) ≡ true
    by ih true t = ih t
    by ih false t = subst (λ g. has (is_opening_got (Enl e)) g ≡ true) (sym (first_none h h t)) o
enlist_first e (x ∷ h) k s c o =
    let past = keeps_before x h k in
    let first : has is_commit_got (before_first_stop h) ≡ true = able_before (λ g. has is_commit_got g) x h s c in
    subst (λ g. has (is_opening_got (Enl e)) g ≡ true) (sym (first_some (x ∷ h) h h s))
    (enlist_first e h past s first
    (or_case (is_opening_got (Enl e) x) (has (is_opening_got (Enl e)) h)
    (λ t. absurd (not_both (has is_commit_got h) (commit_since h past first) (enlist_late e x h (newest x h k) t))) (λ t. t) o))

-- Nothing that calls it off comes after the first stop: no abort or refusal of the coordinator, and no veto before the local yes, which stands, or of one that came and hadn't voted.
refused_late : (c : Conn) (m : Message) (h : List Entry) → is_side c ≡ true → Keeps (Got c Down m ∷ h) → are_sendable h ≡ true → has is_stop h ≡ true → can_log (before_first_stop h) ≡ true
    → has (opens c) (before_first_stop h) ≡ true → is_abort_message m ≡ true → ⊥
refused_late c m h w k d s a o t =
    not_both (has (is_sent_on c Down is_abort_message) h) (got_sent c Down m is_abort_message h k.wires.0 t) (unaborted_since c h w (keeps_before (Got c Down m) h k) d s a o)

enlist_refused : (e : EnlNo) (m : Message) (h : List Entry) → Keeps (Got (Enl e) Down m ∷ h) → are_sendable h ≡ true → has is_stop h ≡ true → can_log (before_first_stop h) ≡ true → is_abort_message m ≡ true → ⊥
enlist_refused e m h k d s a t =
    let past = keeps_before (Got (Enl e) Down m) h k in
    let came = sent_opened_there (Enl e) is_abort_message h past (got_sent (Enl e) Down m is_abort_message h k.wires.0 t) in
    let first = enlist_first e h past s (can_commit (before_first_stop h) a) came in
    refused_late (Enl e) m h refl k d s a (opened_if_got (Enl e) (before_first_stop h) (keeps_first h past) first) t

refusal_late : (x : Entry) (h : List Entry) → Keeps (x ∷ h) → are_sendable h ≡ true → has is_stop (x ∷ h) ≡ true → can_log (before_first_stop (x ∷ h)) ≡ true → is_refusal x ≡ true → ⊥
refusal_late (Got Begin Down BeginAborted) h k d s a t =
    let past = keeps_before (Got Begin Down BeginAborted) h k in
    let able = able_before can_log (Got Begin Down BeginAborted) h s a in
    refused_late Begin BeginAborted h refl k d s able (begin_opened (before_first_stop h) (keeps_first h past) (can_commit (before_first_stop h) able)) refl
refusal_late (Got Voter Down (VoterRefused cause)) h k d s a t =
    let past = keeps_before (Got Voter Down (VoterRefused cause)) h k in
    let able = able_before can_log (Got Voter Down (VoterRefused cause)) h s a in
    refused_late Voter (VoterRefused cause) h refl k d s able (voter_opened (before_first_stop h) (keeps_first h past) (can_yes (before_first_stop h) able)) refl
refusal_late (Got Voter Down VoterAbort) h k d s a t =
    let past = keeps_before (Got Voter Down VoterAbort) h k in
    let able = able_before can_log (Got Voter Down VoterAbort) h s a in
    refused_late Voter VoterAbort h refl k d s able (voter_opened (before_first_stop h) (keeps_first h past) (can_yes (before_first_stop h) able)) refl
refusal_late (Got (Enl e) Down (EnlistRefused cause)) h k d s a t =
    enlist_refused e (EnlistRefused cause) h k d s (able_before can_log (Got (Enl e) Down (EnlistRefused cause)) h s a) refl
refusal_late (Got (Enl e) Down EnlistAbort) h k d s a t = enlist_refused e EnlistAbort h k d s (able_before can_log (Got (Enl e) Down EnlistAbort) h s a) refl
refusal_late _ h _ _ _ _ t = absurd cc

told_late : (x : Entry) (h : List Entry) → Keeps h → are_sendable h ≡ true → has is_stop (x ∷ h) ≡ true → can_log (before_first_stop (x ∷ h)) ≡ true → ends_told h x ≡ true → ⊥
told_late x (Got (Enl e) Down EnlistAbort ∷ h) k d s a t =
    let there = unstopping x t s in
    let able = able_before can_log x (Got (Enl e) Down EnlistAbort ∷ h) there a in
    enlist_refused e EnlistAbort h k (and_right (is_sendable h (Got (Enl e) Down EnlistAbort)) (are_sendable h) d) there (able_before can_log (Got (Enl e) Down EnlistAbort) h there able) refl
  where
    unstopping : (x : Entry) → is_told_abort e.value x ≡ true → (is_stop x || has is_stop h) ≡ true → has is_stop h ≡ true
    unstopping Stopped t s = absurd cc
    unstopping x t s = s
told_late x _ _ _ _ _ t = absurd cc

good_since : (e : EnlNo) (x : Entry) (h : List Entry) → Keeps (x ∷ h) → has is_stop (x ∷ h) ≡ true → can_log (before_first_stop (x ∷ h)) ≡ true → has (is_enlist_got e.value) h ≡ true → has (is_vote e.value) h ≡ true
good_since e x h k s a came =
    has_more (is_good_vote e.value) (is_vote e.value) (good_voted e.value) h
    (so (has (is_enlist_got e.value) h) (has (is_good_vote e.value) h) came
    (and_right (has is_commit_got h) (not (has (is_enlist_got e.value) h) || has (is_good_vote e.value) h)
    (before_newest (λ g. has is_commit_got g && (not (has (is_enlist_got e.value) g) || has (is_good_vote e.value) g)) (came_voted_stays e.value) x h k s
    (came_voted_at e (before_first_stop (x ∷ h)) (keeps_first (x ∷ h) k) a))))
  where
    so : (a b : Bool) → a ≡ true → (not a || b) ≡ true → b ≡ true
    so true b p t = t
    so false b p t = absurd cc

lost_late : (x : Entry) (h : List Entry) → Keeps (x ∷ h) → has is_stop (x ∷ h) ≡ true → can_log (before_first_stop (x ∷ h)) ≡ true → is_veto h x ≡ true → is_lost_there h x ≡ true → ⊥
lost_late (Lost e) h k s a v t =
    not_both (has (is_vote e.value) h) (good_since e (Lost e) h k s a t)
    (not_true (has (is_vote e.value) h) (and_left (not (has (is_vote e.value) h)) (not (has (is_hand e.value) h)) v))
lost_late _ h _ _ _ _ t = absurd cc

head_late : (h : List Entry) → Keeps h → are_sendable h ≡ true → has is_stop h ≡ true → can_log (before_first_stop h) ≡ true → ends_called_off h ≡ true → ⊥
head_late [] k d s a t = absurd cc
head_late (x ∷ h) k d s a t =
    let sent = and_right (is_sendable h x) (are_sendable h) d in
    let said : has is_yes h ≡ true =
    before_newest (λ g. has is_yes g) (λ y g w z. or_right (is_yes y) (has is_yes g) z) x h k s (yes_at (before_first_stop (x ∷ h)) (keeps_first (x ∷ h) k) a) in
    or_case (is_first_veto h x && (not (has is_yes h) || is_lost_there h x)) (is_refusal x || ends_told h x)
    (λ v. or_case (not (has is_yes h)) (is_lost_there h x) (λ n. not_both (has is_yes h) said (not_true (has is_yes h) n))
    (λ l. lost_late x h k s a (and_left (is_veto h x) (not (evidence h)) (and_left (is_first_veto h x) (not (has is_yes h) || is_lost_there h x) v)) l)
    (and_right (is_first_veto h x) (not (has is_yes h) || is_lost_there h x) v))
    (λ r. or_case (is_refusal x) (ends_told h x) (refusal_late x h k sent s a) (told_late x h (keeps_before x h k) sent s a) r) t

row_late : (h : List Entry) → Keeps h → are_sendable h ≡ true → has is_stop h ≡ true → can_log (before_first_stop h) ≡ true → ends_called_off (but_failed h) ≡ true → ⊥
row_late (PromotionFailed ∷ h) k d s a t =
    head_late h (keeps_before PromotionFailed h k) (and_right (is_sendable h PromotionFailed) (are_sendable h) d) s (able_before can_log PromotionFailed h s a) t
row_late h k d s a t = head_late h k d s a t

-- So no abort is decided there: none was before the first stop, and none is after it.
abort_late : (h : List Entry) → Keeps h → are_sendable h ≡ true → has is_stop h ≡ true → can_log (before_first_stop h) ≡ true → has is_abort_decision h ≡ true → ⊥
abort_late [] k d s a z = absurd cc
abort_late (Stopped ∷ h) k d s a z = by (λ t. abort_late h past (and_right (is_sendable h Stopped) (are_sendable h) d) t a z) (has is_stop h) refl
  where
    past : Keeps h
    past = keeps_before Stopped h k

    by : (has is_stop h ≡ true → ⊥) → (b : Bool) → has is_stop h ≡ b → ⊥
    by ih true t = ih t
    by ih false t = barred_unable h past (decided_off h past (abort_latest h past z)).barred (subst (λ g. can_log g ≡ true) (first_none h h t) a)
abort_late (Decided Aborted ∷ h) k d s a z =
    row_late h (keeps_before (Decided Aborted) h k) (and_right (is_sendable h (Decided Aborted)) (are_sendable h) d) s (able_before can_log (Decided Aborted) h s a)
    (and_right (not (has is_decision h)) (ends_called_off (but_failed h)) (newest (Decided Aborted) h k))
abort_late (x ∷ h) k d s a z = abort_late h (keeps_before x h k) (and_right (is_sendable h x) (are_sendable h) d) s (able_before can_log x h s a) z

pub abort_untried : (h : List Entry) → Keeps h → are_sendable h ≡ true → has is_abort_decision h ≡ true → stopped_at_append h ≡ false
abort_untried h k d z =
    false_from_ne_true (stopped_at_append h)
    (λ t. abort_late h k d (and_left (has is_stop h) (can_log (before_first_stop h)) t) (and_right (has is_stop h) (can_log (before_first_stop h)) t) z)
