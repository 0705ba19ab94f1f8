-- Where the right to commit stands: the local side sees it, it is in one place, and each entry moves it as it should.
use Rattle.std.proofs.Common.{◌≡◌, ◌≤◌, ◌<◌, ℕ, suc, ◌==◌, Bool, true, false, ◌&&◌, ◌||◌, List, [], ◌∷◌, map, filter, is_some, refl, ◌∙◌, ap, sym, subst, arith}
use Rattle.std.specs.Prelude.{not, if◌then◌else◌}
use Rattle.std.proofs.lemmas.Bool.{false_from_ne_true, or_left}
use Rattle.dtx_values.specs.declared.call.Call.{Call}
use Rattle.dtx_values.specs.declared.end.End.{End}
use Rattle.dtx_values.specs.declared.entry.Entry.{Entry}
use Rattle.dtx_values.specs.declared.entry.Entry.TheVariants.{Decided, Down as Ended, Got, Handed, Promoted, Promoting, PromotionFailed, Sent}
use Rattle.dtx_values.specs.declared.message.Conn.{Conn}
use Rattle.dtx_values.specs.declared.message.Conn.TheVariants.{Begin}
use Rattle.dtx_values.specs.declared.message.Dir.TheVariants.{Down, Up}
use Rattle.dtx_values.specs.declared.message.Message.{Message}
use Rattle.dtx_values.specs.declared.message.Message.TheVariants.{BeginAbort, BeginBegin, BeginCommit, BeginCommitOne}
use Rattle.dtx_values.specs.declared.number.ActorNo.{ActorNo}
use Rattle.dtx_values.specs.Ends.{end_order, is_end_of, is_in, note_end, note_got, note_sent, same_connection, tag_of, was_commit_sent, with_opened, with_tag}
use Rattle.dtx_values.specs.Lines.{has_line, is_opening}
use Rattle.dtx_values.specs.Table.{how_many}
use Rattle.dtx_model.specs.Words.{has}
use Rattle.dtx_model.specs.Entries.{is_any_hand, is_any_single_sent, is_commit_got, is_commit_message, is_decision, is_promoted, is_sealed, is_single_sent}
use Rattle.dtx_model.specs.Frames.{is_valid}
use Rattle.dtx_model.specs.Observed.{ends_of, is_promotion_failed, is_request, observe}
use Rattle.dtx_model.specs.Outcome.{durables, ready}
use Rattle.dtx_model.specs.Promotes.{ends_refused, is_begun_got, is_created_got, is_promoting, is_under_way}
use Rattle.dtx_model.specs.Steps.{Step}
use Rattle.dtx_model.specs.Wires.{is_ended, lost_since, opens}
use Rattle.dtx_model.specs.World.{World, is_linked}
use Rattle.dtx_model.specs.Caused.{AreMadeOnce, Ran}
use Rattle.local_half.specs.Rights.{is_commit_sent, is_handed_on, is_in_one_place, right_after, right_of, right_seen}
use Rattle.dtx_model.proofs.Bools.{and_both, and_left, and_never, and_right, not_both, not_true, or_case, or_right, three_hold}
use Rattle.history_table.proofs.Tests.{first_of_five, first_of_three, fourth_of_four, second_of_four, second_of_three, third_of_five, third_of_four}
use Rattle.history_table.proofs.Scans.{has_more}
use Rattle.history_table.proofs.Lists.{has-insert, has_kept, if_kept}
use Rattle.history_table.proofs.Owned.{any_hand_seen, decision_seen, has_filter}
use Rattle.history_table.proofs.EntryTests.{has_promotable, is_decided, is_only}
use Rattle.history_table.proofs.Table.{ends_with, have_come, is_abort_decided, is_abort_sent, is_lone_owner, is_single_got, is_there, may_commit, may_hand, message_row, rule}
use Rattle.history_table.proofs.Keeping.{Keeps, before, fifth_of_five, keeps_before, newest, third_of_three}
use Rattle.history_table.proofs.Crossed.{is_got_on, is_sent_on, since_opened, was_sent}
use Rattle.history_table.proofs.Messages.{COMMIT}
use Rattle.history_table.proofs.Sendings.{commit_got_on}
use Rattle.history_table.proofs.Handed.{hand_name}
use Rattle.history_table.proofs.LetDecide.{any_single_if_handed, commit_if_single, got_single, promoted_if_sent as promoted_if, promoted_if_single, single_any}
use Rattle.dtx_model.proofs.Connections.{same_is}
use Rattle.history_table.proofs.Recording.{promoting_if_promoted}
use Rattle.history_table.proofs.Evident.{sealed_if_handed}
use Rattle.history_table.proofs.HalfKnows.{other_stays, with_other, with_own, end_same, got_same, one_tag_more, sent_same, unmapped, way_seen}
use Rattle.history_table.proofs.CoreKnown.{has_made}
use Rattle.world_laws.specs.Carried.{are_sendable, is_sendable}
use Rattle.world_laws.proofs.SendingApt.{can_send}
use Rattle.world_laws.proofs.SendingOpened.{some_many}
use Rattle.world_laws.proofs.Sendable.{id_valid, ran_ends}

-- COMMIT for a single phase, or for two
abbrev commit_for : Bool → Message
commit_for true = BeginCommitOne
commit_for false = BeginCommit

abbrev commit_tag : Bool → ℕ
commit_tag one = tag_of (commit_for one)

-- it was sent, and it was sent by what is known of the end of b
abbrev is_it : Bool → Message → Bool
is_it one BeginCommitOne = one
is_it one BeginCommit = not one
is_it one _ = false

abbrev is_one_sent : Bool → Entry → Bool
is_one_sent one (Sent Begin Up m) = is_it one m
is_one_sent one _ = false

abbrev is_seen : Bool → End → Bool
is_seen one n = is_end_of Begin n && is_in (commit_tag one) n.sent

sendable_before : (x : Entry) (h : List Entry) → are_sendable (x ∷ h) ≡ true → are_sendable h ≡ true
sendable_before x h s = and_right (is_sendable h x) (are_sendable h) s

-- what is sent has a line
sent_line : (e : Conn) (m : Message) (h : List Entry) → are_sendable (Sent e Up m ∷ h) ≡ true → has_line e Up m ≡ true
sent_line e m h s =
    and_right (is_valid m) (has_line e Up m) (and_left (is_valid m && has_line e Up m) (if opens e (Sent e Up m) then not (is_linked e h) else can_send e Up h) (and_left (is_sendable h (Sent e Up m)) (are_sendable h) s))

-- a message that opens b isn't COMMIT, and COMMIT alone has its tag there
opening_apart : (one : Bool) → (e : Conn) (m : Message) → is_opening e m ≡ true → (same_connection Begin e && is_in (commit_tag one) (with_tag (tag_of m) 0)) ≡ true → ⊥
opening_apart true Begin BeginBegin o k = not_both (is_in (commit_tag true) 0) (one_tag_more (commit_tag true) (tag_of BeginBegin) 0 k refl) refl
opening_apart false Begin BeginBegin o k = not_both (is_in (commit_tag false) 0) (one_tag_more (commit_tag false) (tag_of BeginBegin) 0 k refl) refl
opening_apart one Begin _ o k = absurd cc
opening_apart one _ m o k = absurd cc

commit_by : (one : Bool) → (e : Conn) (m : Message) → has_line e Up m ≡ true → (same_connection Begin e && (commit_tag one == tag_of m)) ≡ true → (is_one_sent one) (Sent e Up m) ≡ true
commit_by false Begin BeginCommit l t = refl
commit_by true Begin BeginCommit l t = absurd cc
commit_by true Begin BeginCommitOne l t = refl
commit_by false Begin BeginCommitOne l t = absurd cc
commit_by true Begin BeginBegin l t = absurd cc
commit_by false Begin BeginBegin l t = absurd cc
commit_by true Begin BeginAbort l t = absurd cc
commit_by false Begin BeginAbort l t = absurd cc
commit_by one Begin _ l t = absurd cc
commit_by one _ m l t = absurd cc

commit_is : (one : Bool) → (e : Conn) (m : Message) → (is_one_sent one) (Sent e Up m) ≡ true → (same_connection Begin e ≡ true) × (is_opening e m ≡ false) × (commit_tag one ≡ tag_of m)
commit_is false Begin BeginCommit k = (refl, refl, refl)
commit_is true Begin BeginCommitOne k = (refl, refl, refl)
commit_is true Begin _ k = absurd cc
commit_is false Begin _ k = absurd cc
commit_is true _ m k = absurd cc
commit_is false _ m k = absurd cc

no_commit_down : (one : Bool) → (e : Conn) (m : Message) → (is_one_sent one) (Sent e Down m) ≡ true → ⊥
no_commit_down true Begin m k = absurd cc
no_commit_down false Begin m k = absurd cc
no_commit_down true _ m k = absurd cc
no_commit_down false _ m k = absurd cc

-- what a message that is sent changes: COMMIT on b is noted, and each that was noted stays
sent_noted : (one : Bool) → (e : Conn) (m : Message) (ns : List End) → has (is_seen one) (map (note_sent e (tag_of m)) ns) ≡ true → ((same_connection Begin e && (commit_tag one == tag_of m)) || has (is_seen one) ns) ≡ true
sent_noted one e m ns k = unmapped (same_connection Begin e && (commit_tag one == tag_of m)) (is_seen one) (note_sent e (tag_of m)) (λ n t. by n (is_end_of e n) refl t) ns k
  where
    by : (n : End) (b : Bool) → is_end_of e n ≡ b → is_seen one (if b then record { connection = n.connection; sent = with_tag (tag_of m) n.sent; got = n.got; ended = n.ended } else n) ≡ true
        → ((same_connection Begin e && (commit_tag one == tag_of m)) || is_seen one n) ≡ true
    by n false q t = or_right (same_connection Begin e && (commit_tag one == tag_of m)) (is_seen one n) t
    by n true q t = tagged (commit_tag one == tag_of m) refl
      where
        here : is_end_of Begin n ≡ true
        here = and_left (is_end_of Begin n) (is_in (commit_tag one) (with_tag (tag_of m) n.sent)) t

        tagged : (s : Bool) → (commit_tag one == tag_of m) ≡ s → ((same_connection Begin e && s) || is_seen one n) ≡ true
        tagged true z =
            let P : Conn → Type 0 = λ d. same_connection Begin d ≡ true in
            or_left (same_connection Begin e && true) (is_seen one n) (and_both (same_connection Begin e) true (subst P (sym (same_is e n.connection q)) here) refl)
        tagged false z =
            or_right (same_connection Begin e && false) (is_seen one n)
            (and_both (is_end_of Begin n) (is_in (commit_tag one) n.sent) here (one_tag_more (commit_tag one) (tag_of m) n.sent (and_right (is_end_of Begin n) (is_in (commit_tag one) (with_tag (tag_of m) n.sent)) t) z))

sent_stays : (one : Bool) → (e : Conn) (m : Message) (ns : List End) → has (is_seen one) ns ≡ true → has (is_seen one) (map (note_sent e (tag_of m)) ns) ≡ true
sent_stays one e m ns k = has_made (is_seen one) (is_seen one) (note_sent e (tag_of m)) (λ n t. step n (is_end_of e n) t) ns k
  where
    step : (n : End) (b : Bool) → is_seen one n ≡ true → is_seen one (if b then record { connection = n.connection; sent = with_tag (tag_of m) n.sent; got = n.got; ended = n.ended } else n) ≡ true
    step n true t =
        and_both (is_end_of Begin n) (is_in (commit_tag one) (with_tag (tag_of m) n.sent)) (and_left (is_end_of Begin n) (is_in (commit_tag one) n.sent) t)
        (with_other (commit_tag one) (tag_of m) n.sent (and_right (is_end_of Begin n) (is_in (commit_tag one) n.sent) t))
    step n false t = t

commit_noted : (one : Bool) → (e : Conn) (m : Message) (ns : List End) → same_connection Begin e ≡ true → commit_tag one ≡ tag_of m → has (is_end_of Begin) ns ≡ true → has (is_seen one) (map (note_sent e (tag_of m)) ns) ≡ true
commit_noted one e m ns s c k = has_made (is_end_of Begin) (is_seen one) (note_sent e (tag_of m)) (λ n t. step n (is_end_of e n) refl t) ns k
  where
    step : (n : End) (b : Bool) → is_end_of e n ≡ b → is_end_of Begin n ≡ true
        → is_seen one (if b then record { connection = n.connection; sent = with_tag (tag_of m) n.sent; got = n.got; ended = n.ended } else n) ≡ true
    step n true q t =
        and_both (is_end_of Begin n) (is_in (commit_tag one) (with_tag (tag_of m) n.sent)) t
        (subst (λ g. is_in (commit_tag one) (with_tag g n.sent) ≡ true) c (with_own (commit_tag one) n.sent))
    step n false q t =
        let P : Conn → Type 0 = λ d. is_end_of d n ≡ true in absurd (not_both (is_end_of e n) (subst P (same_is Begin e s) t) q)

got_stays : (one : Bool) → (e : Conn) (tag : ℕ) (ns : List End) → has (is_seen one) (map (note_got e tag) ns) ≡ has (is_seen one) ns
got_stays one e tag ns =
    has_kept (is_seen one) (note_got e tag) (λ n. if_kept (is_seen one) (is_end_of e n) (record { connection = n.connection; sent = n.sent; got = with_tag tag n.got; ended = n.ended }) n refl) ns

end_stays : (one : Bool) → (e : Conn) (ns : List End) → has (is_seen one) (map (note_end e) ns) ≡ has (is_seen one) ns
end_stays one e ns = has_kept (is_seen one) (note_end e) (λ n. if_kept (is_seen one) (is_end_of e n) (record { connection = n.connection; sent = n.sent; got = n.got; ended = true }) n refl) ns

-- what is seen was sent
seen_sent : (one : Bool) → (h : List Entry) → are_sendable h ≡ true → has (is_seen one) (ends_of h) ≡ true → has (is_one_sent one) h ≡ true
seen_sent one [] s k = absurd cc
seen_sent one (Sent e Up m ∷ h) s k = step (seen_sent one h (sendable_before (Sent e Up m) h s)) (is_opening e m) refl k
  where
    step : (has (is_seen one) (ends_of h) ≡ true → has (is_one_sent one) h ≡ true) → (o : Bool) → is_opening e m ≡ o
        → has (is_seen one) (if o then with_opened e (tag_of m) (ends_of h) else map (note_sent e (tag_of m)) (ends_of h)) ≡ true → (is_one_sent one (Sent e Up m) || has (is_one_sent one) h) ≡ true
    step ih true o k =
        let new : End = record { connection = e; sent = with_tag (tag_of m) 0; got = 0; ended = false } in
        let others = filter (λ n. not (is_end_of e n)) (ends_of h) in
        or_case (is_seen one new) (has (is_seen one) others) (λ t. absurd (opening_apart one e m o t))
        (λ t. or_right (is_one_sent one (Sent e Up m)) (has (is_one_sent one) h)
        (ih (has_more (λ n. is_seen one n && not (is_end_of e n)) (is_seen one) (λ n. and_left (is_seen one n) (not (is_end_of e n))) (ends_of h) (sym (has_filter (is_seen one) (λ n. not (is_end_of e n)) (ends_of h)) ∙ t))))
        (sym (has-insert (is_seen one) end_order new others) ∙ k)
    step ih false o k =
        or_case (same_connection Begin e && (commit_tag one == tag_of m)) (has (is_seen one) (ends_of h))
        (λ t. or_left (is_one_sent one (Sent e Up m)) (has (is_one_sent one) h) (commit_by one e m (sent_line e m h s) t)) (λ t. or_right (is_one_sent one (Sent e Up m)) (has (is_one_sent one) h) (ih t))
        (sent_noted one e m (ends_of h) k)
seen_sent one (Got e Down m ∷ h) s k = seen_sent one h (sendable_before (Got e Down m) h s) (step (has_line e Down m) k)
  where
    step : (l : Bool) → has (is_seen one) (if l then map (note_got e (tag_of m)) (ends_of h) else map (note_end e) (ends_of h)) ≡ true → has (is_seen one) (ends_of h) ≡ true
    step true k = sym (got_stays one e (tag_of m) (ends_of h)) ∙ k
    step false k = sym (end_stays one e (ends_of h)) ∙ k
seen_sent one (Ended e Down ∷ h) s k = seen_sent one h (sendable_before (Ended e Down) h s) (sym (end_stays one e (ends_of h)) ∙ k)
seen_sent one (x ∷ h) s k = or_right (is_one_sent one x) (has (is_one_sent one) h) (seen_sent one h (sendable_before x h s) k)

-- b was opened where COMMIT was sent on it, and what was opened has its end
commit_opened : (one : Bool) → (h : List Entry) → are_sendable h ≡ true → has (is_one_sent one) h ≡ true → has (opens Begin) h ≡ true
commit_opened one [] s k = absurd cc
commit_opened one (Sent Begin Up BeginCommit ∷ h) s k =
    since_opened Begin h (and_left (is_some (lost_since Begin h)) (not (is_ended Begin Down h)) (and_right (is_valid BeginCommit && true) (can_send Begin Up h) (and_left (is_sendable h (Sent Begin Up BeginCommit)) (are_sendable h) s)))
commit_opened one (Sent Begin Up BeginCommitOne ∷ h) s k =
    since_opened Begin h (and_left (is_some (lost_since Begin h)) (not (is_ended Begin Down h)) (and_right (is_valid BeginCommitOne && true) (can_send Begin Up h) (and_left (is_sendable h (Sent Begin Up BeginCommitOne)) (are_sendable h) s)))
commit_opened one (x ∷ h) s k = or_right (opens Begin x) (has (opens Begin) h) (commit_opened one h (sendable_before x h s) k)

end_there : (h : List Entry) → has (opens Begin) h ≡ true → has (is_end_of Begin) (ends_of h) ≡ true
end_there [] k = absurd cc
end_there (Sent e Up m ∷ h) k = step (end_there h) (is_opening e m) (same_connection Begin e) refl k
  where
    step : (has (opens Begin) h ≡ true → has (is_end_of Begin) (ends_of h) ≡ true) → (o s : Bool) → same_connection Begin e ≡ s → ((s && o) || has (opens Begin) h) ≡ true
        → has (is_end_of Begin) (if o then with_opened e (tag_of m) (ends_of h) else map (note_sent e (tag_of m)) (ends_of h)) ≡ true
    step ih true true q k =
        let new : End = record { connection = e; sent = with_tag (tag_of m) 0; got = 0; ended = false } in
        let others = filter (λ n. not (is_end_of e n)) (ends_of h) in
        has-insert (is_end_of Begin) end_order new others ∙ or_left (same_connection Begin e) (has (is_end_of Begin) others) q
    step ih true false q k = other_stays Begin e (is_end_of Begin) (tag_of m) (ends_of h) q (λ n t. t) (ih k)
    step ih false true q k = sent_same Begin e (tag_of m) (ends_of h) ∙ ih k
    step ih false false q k = sent_same Begin e (tag_of m) (ends_of h) ∙ ih k
end_there (Got e Down m ∷ h) k = step (has_line e Down m) (end_there h k)
  where
    step : (l : Bool) → has (is_end_of Begin) (ends_of h) ≡ true → has (is_end_of Begin) (if l then map (note_got e (tag_of m)) (ends_of h) else map (note_end e) (ends_of h)) ≡ true
    step true t = got_same Begin e (tag_of m) (ends_of h) ∙ t
    step false t = end_same Begin e (ends_of h) ∙ t
end_there (Ended e Down ∷ h) k = end_same Begin e (ends_of h) ∙ end_there h k
end_there (x ∷ h) k = end_there h k

-- b is opened once, also before the newest entry; and where that opens it, it wasn't opened before
fewer : (b : Bool) (n : ℕ) → (if b then suc n else n) ≤ 1 → n ≤ 1
fewer true n k = omega (arith, k)
fewer false n k = k

none_before : (b : Bool) (h : List Entry) → b ≡ true → (if b then suc (how_many (opens Begin) h) else how_many (opens Begin) h) ≤ 1 → has (opens Begin) h ≡ false
none_before true h q k = false_from_ne_true (has (opens Begin) h) (λ t. let some = some_many (opens Begin) h t in omega (arith, k, some))
none_before false h q k = absurd cc

-- what was sent is seen, where b was opened once
sent_seen : (one : Bool) → (h : List Entry) → are_sendable h ≡ true → how_many (opens Begin) h ≤ 1 → has (is_one_sent one) h ≡ true → has (is_seen one) (ends_of h) ≡ true
sent_seen one [] s o k = absurd cc
sent_seen one (Sent e Up m ∷ h) s o k = step (sent_seen one h past (fewer (opens Begin (Sent e Up m)) (how_many (opens Begin) h) o)) (is_opening e m) refl
  where
    past : are_sendable h ≡ true
    past = sendable_before (Sent e Up m) h s

    unsent : is_opening e m ≡ true → has (is_one_sent one) h ≡ true
    unsent q = or_case (is_one_sent one (Sent e Up m)) (has (is_one_sent one) h) (λ t. absurd (not_both (is_opening e m) q (commit_is one e m t).1)) (λ t. t) k

    anew : (has (is_one_sent one) h ≡ true → has (is_seen one) (ends_of h) ≡ true) → is_opening e m ≡ true → (c : Bool) → same_connection Begin e ≡ c → has (is_seen one) (with_opened e (tag_of m) (ends_of h)) ≡ true
    anew ih q true c =
        absurd (not_both (has (opens Begin) h) (commit_opened one h past (unsent q)) (none_before (opens Begin (Sent e Up m)) h (and_both (same_connection Begin e) (is_opening e m) c q) o))
    anew ih q false c = other_stays Begin e (is_seen one) (tag_of m) (ends_of h) c (λ n t. and_left (is_end_of Begin n) (is_in (commit_tag one) n.sent) t) (ih (unsent q))

    step : (has (is_one_sent one) h ≡ true → has (is_seen one) (ends_of h) ≡ true) → (b : Bool) → is_opening e m ≡ b
        → has (is_seen one) (if b then with_opened e (tag_of m) (ends_of h) else map (note_sent e (tag_of m)) (ends_of h)) ≡ true
    step ih true q = anew ih q (same_connection Begin e) refl
    step ih false q =
        or_case (is_one_sent one (Sent e Up m)) (has (is_one_sent one) h)
        (λ t. let c = commit_is one e m t in
        let unopening : opens Begin (Sent e Up m) ≡ false = ap (λ b. same_connection Begin e && b) q ∙ and_never (same_connection Begin e) in
        commit_noted one e m (ends_of h) c.0 c.2
        (end_there h (or_case (opens Begin (Sent e Up m)) (has (opens Begin) h) (λ z. absurd (not_both (opens Begin (Sent e Up m)) z unopening)) (λ z. z) (commit_opened one (Sent e Up m ∷ h) s k))))
        (λ t. sent_stays one e m (ends_of h) (ih t)) k
sent_seen one (Sent e Down m ∷ h) s o k =
    sent_seen one h (sendable_before (Sent e Down m) h s) o (or_case (is_one_sent one (Sent e Down m)) (has (is_one_sent one) h) (λ t. absurd (no_commit_down one e m t)) (λ t. t) k)
sent_seen one (Got e Down m ∷ h) s o k = step (has_line e Down m) (sent_seen one h (sendable_before (Got e Down m) h s) o k)
  where
    step : (l : Bool) → has (is_seen one) (ends_of h) ≡ true → has (is_seen one) (if l then map (note_got e (tag_of m)) (ends_of h) else map (note_end e) (ends_of h)) ≡ true
    step true t = got_stays one e (tag_of m) (ends_of h) ∙ t
    step false t = end_stays one e (ends_of h) ∙ t
sent_seen one (Ended e Down ∷ h) s o k = end_stays one e (ends_of h) ∙ sent_seen one h (sendable_before (Ended e Down) h s) o k
sent_seen one (x ∷ h) s o k = sent_seen one h (sendable_before x h s) o k

same_test : (a b : Bool) → (a ≡ true → b ≡ true) → (b ≡ true → a ≡ true) → a ≡ b
same_test true b f g = sym (f refl)
same_test false true f g = g refl
same_test false false f g = refl

-- COMMIT of either name
either_is : (x : Entry) → (is_one_sent false x || is_one_sent true x) ≡ is_commit_sent x
either_is (Sent Begin Up BeginCommit) = refl
either_is (Sent Begin Up BeginCommitOne) = refl
either_is (Sent Begin Up m) = refl
either_is _ = refl

of_either : (h : List Entry) → (has (is_one_sent false) h || has (is_one_sent true) h) ≡ has is_commit_sent h
of_either [] = refl
of_either (x ∷ h) = apart (is_one_sent false x) (has (is_one_sent false) h) (is_one_sent true x) (has (is_one_sent true) h) ∙ (λ k. either_is x k || of_either h k)
  where
    apart : (a b c d : Bool) → ((a || b) || (c || d)) ≡ ((a || c) || (b || d))
    apart true b c d = refl
    apart false true true d = refl
    apart false true false d = refl
    apart false false c d = refl

-- So the local side sees where the right stands.
placed_by : (h : List Entry) → are_sendable h ≡ true → how_many (opens Begin) h ≤ 1 → right_seen (observe h) ≡ right_of h
unfolding observe
placed_by h s o =
    let two = same_test (has (is_seen false) (ends_of h)) (has (is_one_sent false) h) (seen_sent false h s) (sent_seen false h s o) in
    let one = same_test (has (is_seen true) (ends_of h)) (has (is_one_sent true) h) (seen_sent true h s) (sent_seen true h s o) in
    let sent : was_commit_sent (ends_of h) ≡ has is_commit_sent h = (λ k. two k || one k) ∙ of_either h in
    rw (decision_seen h, any_hand_seen h, sent, way_seen h) refl

pub right_placed : (G : ℕ → ActorNo → Call → Type 0) (t : ℕ) (ms : List Step) (w : World) → 1 ≤ t → t < 281474976710656 → AreMadeOnce G → Ran G t ms w → right_seen (observe w.past) ≡ right_of w.past
right_placed G t ms w low high once r = let e = ran_ends G t ms w (id_valid t low high) once r in placed_by w.past e.sendable e.opened.on_begin.single

-- the parts of a promotion that is under way
way_began : (h : List Entry) → is_under_way h ≡ true → has is_promoting h ≡ true
way_began h w = and_left (has is_promoting h) (not (has is_promoted h)) (and_left (has is_promoting h && not (has is_promoted h)) (not (has is_promotion_failed h)) w)

way_open : (h : List Entry) → is_under_way h ≡ true → has is_promoted h ≡ false
way_open h w = not_true (has is_promoted h) (and_right (has is_promoting h) (not (has is_promoted h)) (and_left (has is_promoting h && not (has is_promoted h)) (not (has is_promotion_failed h)) w))

way_whole : (h : List Entry) → is_under_way h ≡ true → has is_promotion_failed h ≡ false
way_whole h w = not_true (has is_promotion_failed h) (and_right (has is_promoting h && not (has is_promoted h)) (not (has is_promotion_failed h)) w)

-- By the table: COMMIT is sent where it is promoted, and who was handed the commit of a promotion got SINGLE.
commit_is_table : (x : Entry) → is_commit_sent x ≡ is_sent_on Begin Up COMMIT x
commit_is_table (Sent Begin Up m) = same m
  where
    same : (m : Message) → is_commit_message m ≡ COMMIT m
    same BeginCommit = refl
    same BeginCommitOne = refl
    same _ = refl
commit_is_table (Sent Begin Down m) = refl
commit_is_table _ = refl

sent_in_table : (h : List Entry) → has is_commit_sent h ≡ has (is_sent_on Begin Up COMMIT) h
sent_in_table [] = refl
sent_in_table (x ∷ h) = λ k. commit_is_table x k || sent_in_table h k

promoted_if_sent : (h : List Entry) → Keeps h → has is_commit_sent h ≡ true → has is_promoted h ≡ true
promoted_if_sent h k s = promoted_if h k (sym (sent_in_table h) ∙ s)

unsent : (h : List Entry) → Keeps h → has is_promoted h ≡ false → has is_commit_sent h ≡ false
unsent h k n = false_from_ne_true (has is_commit_sent h) (λ s. not_both (has is_promoted h) (promoted_if_sent h k s) n)

unpromoted : (h : List Entry) → Keeps h → has is_promoting h ≡ false → has is_promoted h ≡ false
unpromoted h k n = false_from_ne_true (has is_promoted h) (λ s. not_both (has is_promoting h) (promoting_if_promoted h k s) n)

-- where a promotion began and the commit was handed over, SINGLE was sent, and so COMMIT
single_if_hand : (h : List Entry) → Keeps h → has is_promoting h ≡ true → has is_any_hand h ≡ true → has is_any_single_sent h ≡ true
single_if_hand h k p s = let n = hand_name h s in any_single_if_handed n.0 h k p n.1

commit_if_single_sent : (h : List Entry) → Keeps h → has is_any_single_sent h ≡ true → has is_commit_sent h ≡ true
commit_if_single_sent h k s = sent_in_table h ∙ was_sent Begin Up COMMIT h k.wires (has_more is_commit_got (is_got_on Begin Up COMMIT) commit_got_on h (commit_if_single h k s))

-- so nothing is handed over while a promotion is under way
unhanded : (h : List Entry) → Keeps h → is_under_way h ≡ true → has is_any_hand h ≡ false
unhanded h k w = false_from_ne_true (has is_any_hand h) (λ s. not_both (has is_promoted h) (promoted_if_single h k (single_if_hand h k (way_began h w) s)) (way_open h w))

failed_way : (x : Entry) (h : List Entry) → Keeps h → rule h x ≡ true → is_promotion_failed x ≡ true → has is_promoting h ≡ true
failed_way PromotionFailed h k r t =
    let way = and_left (is_under_way h) (ends_refused h) r in
    and_left (has is_promoting h) (not (has is_promoted h)) (and_left (has is_promoting h && not (has is_promoted h)) (not (has is_promotion_failed h)) way)
failed_way _ h k r t = absurd cc

unfailed : (h : List Entry) → Keeps h → has is_promoting h ≡ false → has is_promotion_failed h ≡ false
unfailed h k n = false_from_ne_true (has is_promotion_failed h) (λ s. not_both (has is_promoting h) (before is_promotion_failed is_promoting failed_way h k s) n)

-- Of the three at most one stands.
apart : (a b : Bool) → (a ≡ true → b ≡ true → ⊥) → not (a && b) ≡ true
apart true true f = absurd (f refl refl)
apart true false f = refl
apart false b f = refl

on : (a b c : Bool) → (a ≡ true → b ≡ true → c ≡ true) → (not (a && b) || c) ≡ true
on true true c f = f refl refl
on true false c f = refl
on false b c f = refl

pub in_one_place : (h : List Entry) → Keeps h → is_in_one_place h ≡ true
in_one_place h k =
    three_hold (is_handed_on h) (not (has is_any_hand h && is_under_way h)) (not (has is_commit_sent h && is_under_way h))
    (on (has is_any_hand h) (has is_commit_sent h) (has is_any_single_sent h) (λ a s. single_if_hand h k (promoting_if_promoted h k (promoted_if_sent h k s)) a))
    (apart (has is_any_hand h) (is_under_way h) (λ a w. not_both (has is_any_hand h) a (unhanded h k w)))
    (apart (has is_commit_sent h) (is_under_way h) (λ s w. not_both (has is_promoted h) (promoted_if_sent h k s) (way_open h w)))

-- COMMIT takes it to the coordinator, of either name
commit_moves : (one : Bool) (h : List Entry) → Keeps h → may_commit h ≡ true → right_of (Sent Begin Up (commit_for one) ∷ h) ≡ right_after (Sent Begin Up (commit_for one)) (right_of h)
commit_moves one h past may = by one (has is_commit_sent h) (has is_any_hand h) refl refl
  where
    decided : has is_decision h ≡ false
    decided = not_true (has is_decision h) (third_of_four (has is_sealed h) (has is_promoted h) (not (has is_decision h)) (not (has is_abort_sent h) && (not (has_promotable h) || has is_request h)) may)

    promoted : has is_promoted h ≡ true
    promoted = second_of_four (has is_sealed h) (has is_promoted h) (not (has is_decision h)) (not (has is_abort_sent h) && (not (has_promotable h) || has is_request h)) may

    settled : is_under_way h ≡ false
    settled = false_from_ne_true (is_under_way h) (λ w. not_both (has is_promoted h) promoted (way_open h w))

    by : (one s a : Bool) → has is_commit_sent h ≡ s → has is_any_hand h ≡ a → right_of (Sent Begin Up (commit_for one) ∷ h) ≡ right_after (Sent Begin Up (commit_for one)) (right_of h)
    by true true true p q = rw (decided, q) refl
    by false true true p q = rw (decided, q) refl
    by true true false p q = rw (decided, q, p) refl
    by false true false p q = rw (decided, q, p) refl
    by one false true p q =
        absurd (not_both (has is_commit_sent h) (commit_if_single_sent h past (single_if_hand h past (promoting_if_promoted h past promoted) q)) p)
    by true false false p q = rw (decided, q, p, settled) refl
    by false false false p q = rw (decided, q, p, settled) refl

-- Each entry moves it as it should.
pub right_moves : (x : Entry) (h : List Entry) → Keeps (x ∷ h) → right_of (x ∷ h) ≡ right_after x (right_of h)
right_moves (Promoting c) h k =
    let past = keeps_before (Promoting c) h k in
    let r = newest (Promoting c) h k in
    let decided = not_true (has is_decision h) (first_of_three (not (has is_decision h)) (not (has is_sealed h)) (not (has is_promoting h)) r) in
    let unsealed = not_true (has is_sealed h) (second_of_three (not (has is_decision h)) (not (has is_sealed h)) (not (has is_promoting h)) r) in
    let began = not_true (has is_promoting h) (third_of_three (not (has is_decision h)) (not (has is_sealed h)) (not (has is_promoting h)) r) in
    let handed = false_from_ne_true (has is_any_hand h) (λ s. not_both (has is_sealed h) (sealed_if_handed h past s) unsealed) in
    let promoted = unpromoted h past began in
    rw (decided, handed, unsent h past promoted, began, promoted, unfailed h past began) refl
right_moves (Promoted u c) h k =
    let past = keeps_before (Promoted u c) h k in
    let r = newest (Promoted u c) h k in
    let way = third_of_five (not (has is_decision h)) (not (has is_sealed h)) (is_under_way h) (have_come h) (has is_begun_got h && has is_created_got h) r in
    let decided = not_true (has is_decision h) (first_of_five (not (has is_decision h)) (not (has is_sealed h)) (is_under_way h) (have_come h) (has is_begun_got h && has is_created_got h) r) in
    rw (decided, unhanded h past way, unsent h past (way_open h way), way_began h way, way_open h way, way_whole h way) refl
right_moves PromotionFailed h k = by (has is_decision h) refl
  where
    past : Keeps h
    past = keeps_before PromotionFailed h k

    way : is_under_way h ≡ true
    way = and_left (is_under_way h) (ends_refused h) (newest PromotionFailed h k)

    by : (b : Bool) → has is_decision h ≡ b → right_of (PromotionFailed ∷ h) ≡ right_after PromotionFailed (right_of h)
    by true d = rw d refl
    by false d = rw (d, unhanded h past way, unsent h past (way_open h way), way_began h way, way_open h way, way_whole h way) refl
right_moves (Handed e) h k = by (has is_promoting h) (has is_decision h) refl refl
  where
    past : Keeps h
    past = keeps_before (Handed e) h k

    r : (may_hand h e.value && has is_sealed h && ready h && is_only e.value (durables h) && not (has is_any_hand h)) ≡ true
    r = newest (Handed e) h k

    handed : has is_any_hand h ≡ false
    handed = not_true (has is_any_hand h) (fifth_of_five (may_hand h e.value) (has is_sealed h) (ready h) (is_only e.value (durables h)) (not (has is_any_hand h)) r)

    may : (if has is_promoting h then ends_with (is_single_got e.value) h && not (is_abort_decided h) else not (has is_decision h)) ≡ true
    may = first_of_five (may_hand h e.value) (has is_sealed h) (ready h) (is_only e.value (durables h)) (not (has is_any_hand h)) r

    by : (b d : Bool) → has is_promoting h ≡ b → has is_decision h ≡ d → right_of (Handed e ∷ h) ≡ right_after (Handed e) (right_of h)
    by b true p q = rw q refl
    by false false p q = rw (q, handed, unsent h past (unpromoted h past p), p) refl
    by true false p q =
        let single = ap (λ (b : Bool). if b then ends_with (is_single_got e.value) h && not (is_abort_decided h) else not (has is_decision h)) (sym p) ∙ may in
        let sent = commit_if_single_sent h past (has_more (is_single_sent e.value) is_any_single_sent (single_any e.value) h (got_single e.value h past (and_left (ends_with (is_single_got e.value) h) (not (is_abort_decided h)) single))) in
        rw (q, handed, sent) refl
right_moves (Sent Begin Up BeginCommit) h k =
    let row = fourth_of_four (has_line Begin Up BeginCommit) (has is_promoting h) (is_there h Begin Up BeginCommit) (message_row h Begin BeginCommit) (newest (Sent Begin Up BeginCommit) h k) in
    commit_moves false h (keeps_before (Sent Begin Up BeginCommit) h k) (and_left (may_commit h) (not (is_lone_owner (durables h))) row)
right_moves (Sent Begin Up BeginCommitOne) h k =
    let row = fourth_of_four (has_line Begin Up BeginCommitOne) (has is_promoting h) (is_there h Begin Up BeginCommitOne) (message_row h Begin BeginCommitOne) (newest (Sent Begin Up BeginCommitOne) h k) in
    commit_moves true h (keeps_before (Sent Begin Up BeginCommitOne) h k) (and_left (may_commit h) (is_lone_owner (durables h)) row)
right_moves (Decided o) h k = refl
right_moves _ h k = refl
