-- The blocks of BEGUN, CREATED and ENLISTED keep the table: v is opened, the one that stood at the start is handed over, the promotion succeeds, and a call has its place.
use Rattle.std.proofs.Common.{◌≡◌, ℕ, ◌==◌, Bool, true, false, ◌&&◌, ◌||◌, List, [], ◌∷◌, ◌++◌, Option, Some, None, refl, ◌∙◌, ap, sym, subst}
use Rattle.std.specs.Prelude.{find, is_some, not, if◌then◌else◌}
use Rattle.std.specs.List.{flat_map}
use Rattle.std.proofs.lemmas.Bool.{false_from_ne_true, or_left}
use Rattle.dtx_values.specs.declared.entry.Answer.TheVariants.{Id}
use Rattle.dtx_values.specs.declared.entry.Entry.{Entry}
use Rattle.dtx_values.specs.declared.entry.Entry.TheVariants.{Answered, Got, Handed, Lost, Promoted, Sent}
use Rattle.dtx_values.specs.declared.message.Conn.{Conn}
use Rattle.dtx_values.specs.declared.message.Conn.TheVariants.{Begin, Voter, Enl}
use Rattle.dtx_values.specs.declared.message.Dir.TheVariants.{Up, Down}
use Rattle.dtx_values.specs.declared.message.Message.{Message}
use Rattle.dtx_values.specs.declared.message.Message.TheVariants.{BeginAbort, BeginBegun, VoterVoter, VoterCreated, EnlistEnlist}
use Rattle.dtx_values.specs.declared.number.EnlNo.{EnlNo}
use Rattle.dtx_values.specs.declared.number.RmNo.{RmNo}
use Rattle.dtx_values.specs.declared.words.Cause.{Cause}
use Rattle.dtx_values.specs.declared.words.Class.{Class}
use Rattle.dtx_values.specs.declared.words.Outcome.{Outcome}
use Rattle.dtx_values.specs.declared.words.Outcome.TheVariants.{Committed, Aborted, InDoubt}
use Rattle.dtx_values.specs.Class.{is_volatile}
use Rattle.dtx_values.specs.Ends.{same_connection}
use Rattle.dtx_values.specs.Lines.{has_line}
use Rattle.dtx_model.specs.Words.{all_of, each, ever, has, latest, onto}
use Rattle.dtx_model.specs.Entries.{decision_of, handed_of, is_any_hand, is_decision, is_hand, is_owner, is_promoted, is_sealed, is_yes}
use Rattle.dtx_model.specs.Observed.{cause_of_promotion, handover, is_promotion_failed, observe}
use Rattle.dtx_model.specs.Outcome.{coordinator_doubt, doubt, enlisted, is_begin_end, is_lost_owner, is_outcome_got, is_voter_end, owner_doubt}
use Rattle.dtx_model.specs.Promotes.{identifier_of, is_begun_got, is_created_got, is_promoting, is_under_way}
use Rattle.dtx_model.specs.Wires.{opens}
use Rattle.dtx_model.specs.declared.waiting.Wanted.TheVariants.{Identifier, Place}
use Rattle.dtx_model.specs.Waiting.{Waiter, is_place_of}
use Rattle.dtx_model.specs.Half.{by_manager, enlist_sent, given, info, is_handed, over, promoted_by, to_up, is_promoting as sees_promoting}
use Rattle.dtx_model.specs.Arrivals.{begun, created, hand_over}
use Rattle.dtx_model.proofs.Bools.{and_both, and_left, and_never, and_right, not_both, not_false, not_true, or_case, or_right}
use Rattle.history_table.proofs.Tests.{eq_self, first_of_four, five_hold, third_of_four}
use Rattle.history_table.proofs.Scans.{each_both, each_more, has_more}
use Rattle.history_table.proofs.EntryTests.{is_answer, is_decided, is_enlisted}
use Rattle.history_table.proofs.Handed.{hand_any}
use Rattle.history_table.proofs.Table.{ends_with, have_come, is_abort_decided, is_abort_request, is_commit_sent, is_enlist_got, is_opening_got, is_there, message_row, rule, stands_volatile}
use Rattle.history_table.proofs.Keeping.{Keeps, earlier, keeps_before}
use Rattle.history_table.proofs.Crossed.{got_sent, is_sent_on}
use Rattle.history_table.proofs.Sendings.{got_promoting}
use Rattle.history_table.proofs.Recording.{promoted_if_sealed, promoted_if_yes}
use Rattle.history_table.proofs.Evident.{sealed_if_evident}
use Rattle.history_table.proofs.Doubting.{decided_doubt, doubt_case, single_if_doubt}
use Rattle.history_table.proofs.LetDecide.{any_single_if_handed, promoted_if_sent, promoted_if_single, yes_if_single}
use Rattle.history_table.proofs.Aborting.{decided_evident}
use Rattle.history_table.proofs.Standing.{begun_if_voter, opened_if_got}
use Rattle.history_table.proofs.HalfKnows.{cause_seen, way_seen}
use Rattle.history_table.proofs.Deciding.{seen_half}
use Rattle.history_table.proofs.Undecided.{Stands, going_as, stand, way_unsealed}
use Rattle.history_table.proofs.HalfCalls.{begun_if_promoted, enlist_stands}
use Rattle.history_table.proofs.HalfReplies.{to_up_stands}
use Rattle.history_table.proofs.MessageArrivals.{open_block}
use Rattle.dtx_model.proofs.Connections.{same_is}

-- What comes down comes where the coordinator got the message that opened the connection.
down_row : (c : Conn) (x : Entry) (h : List Entry) → Keeps h → rule h x ≡ true → is_sent_on c Down (λ m. true) x ≡ true → has (is_opening_got c) h ≡ true
down_row c (Sent e Down m) h k r t =
    let same : c ≡ e = same_is c e (and_left (same_connection c e) true (and_left (same_connection c e && true) true t)) in
    let P : Conn → Type 0 = λ d. has (is_opening_got d) h ≡ true in
    subst P (sym same) (third_of_four (has_line e Down m) (has is_promoting h) (is_there h e Down m) (message_row h e m) r)
down_row c (Sent e Up m) h k r t = absurd (not_both (same_connection c e && false) (and_left (same_connection c e && false) true t) (and_never (same_connection c e)))
down_row c _ h k r t = absurd cc

pub opening_before : (c : Conn) (m : Message) (h : List Entry) → Keeps (Got c Down m ∷ h) → has (is_opening_got c) h ≡ true
opening_before c m h k =
    earlier (is_sent_on c Down (λ n. true)) (λ g. has (is_opening_got c) g) (λ x g t. or_right (is_opening_got c x) (has (is_opening_got c) g) t) (down_row c) h (keeps_before (Got c Down m) h k)
    (got_sent c Down m (λ n. true) h k.wires.0 refl)

-- BEGUN. What was decided before it is an abort.
owner_hand : (h : List Entry) → owner_doubt h ≡ true → has is_any_hand h ≡ true
unfolding owner_doubt
owner_hand h d = or_case (has (λ e. has (is_owner e.value InDoubt) h) (all_of handed_of h)) (ever is_lost_owner h) (λ t. listed h (λ e. has (is_owner e.value InDoubt) h) t) (λ t. lost h t) d
  where
    listed : (g : List Entry) (p : EnlNo → Bool) → has p (all_of handed_of g) ≡ true → has is_any_hand g ≡ true
    listed [] p t = absurd cc
    listed (Handed f ∷ g) p t = refl
    listed (x ∷ g) p t = or_right (is_any_hand x) (has is_any_hand g) (listed g p t)

    now : (x : Entry) (g : List Entry) → is_lost_owner g x ≡ true → has is_any_hand g ≡ true
    now (Lost e) g t = has_more (is_hand e.value) is_any_hand (hand_any e.value) g (and_left (has (is_hand e.value) g) _ t)
    now _ g t = absurd cc

    lost : (g : List Entry) → ever is_lost_owner g ≡ true → has is_any_hand g ≡ true
    lost [] t = absurd cc
    lost (x ∷ g) t = or_right (is_any_hand x) (has is_any_hand g) (or_case (is_lost_owner g x) (ever is_lost_owner g) (λ q. now x g q) (λ q. lost g q) t)

named_hand : (h : List Entry) → has is_any_hand h ≡ true → (e : ℕ) × (has (is_hand e) h ≡ true)
named_hand [] k = absurd cc
named_hand (Handed f ∷ h) k = (f.value, rw (eq_self f.value) refl)
named_hand (x ∷ h) k = let n = named_hand h k in (n.0, or_right (is_hand n.0 x) (has (is_hand n.0) h) n.1)

yes_doubt : (h : List Entry) → coordinator_doubt h ≡ true → has is_yes h ≡ true
unfolding coordinator_doubt
yes_doubt h t = first_of_four (has is_yes h) (has is_begin_end h) (has is_voter_end h) (not (has is_outcome_got h)) t

doubt_by : {C : Type 0} (h : List Entry) → Keeps h → doubt h ≡ true → (has is_any_hand h ≡ true → C) → (has is_yes h ≡ true → C) → C
doubt_by h k d f g = doubt_case h d (λ t. f (owner_hand h t)) (λ t. g (yes_doubt h t)) (λ t. g (yes_if_single h k (single_if_doubt h t)))

early_abort : (h : List Entry) (o : Outcome) → Keeps h → has is_promoting h ≡ true → has is_promoted h ≡ false → latest decision_of h ≡ Some o → latest decision_of h ≡ Some Aborted
early_abort h Aborted k p n d = d
early_abort h Committed k p n d = absurd (not_both (has is_promoted h) (promoted_if_sealed h k (sealed_if_evident h k (decided_evident h k d)) p) n)
early_abort h InDoubt k p n d =
    doubt_by h k (decided_doubt h k d) (λ t. let e = named_hand h t in absurd (not_both (has is_promoted h) (promoted_if_single h k (any_single_if_handed e.0 h k p e.1)) n))
    (λ t. absurd (not_both (has is_promoted h) (promoted_if_yes h k t) n))

pub begun_stands : (t : ℕ) (h : List Entry) (ws : List Waiter) (ms : List (EnlNo × RmNo)) (u : ℕ) → Keeps (Got Begin Down (BeginBegun u) ∷ h) → Stands h → has is_begun_got h ≡ false
    → Stands (onto (Got Begin Down (BeginBegun u) ∷ h) (begun t (seen_half (Got Begin Down (BeginBegun u) ∷ h) ws ms)))
unfolding observe
begun_stands t h ws ms u a k n = step (latest decision_of h) (sees_promoting (observe (Got Begin Down (BeginBegun u) ∷ h))) refl
  where
    promoting : has is_promoting h ≡ true
    promoting = got_promoting Begin Down (BeginBegun u) h a

    unpromoted : has is_promoted h ≡ false
    unpromoted = false_from_ne_true (has is_promoted h) (λ p. not_both (has is_begun_got h) (begun_if_promoted h k.keeps p) n)

    unopened : has (opens Voter) h ≡ false
    unopened = false_from_ne_true (has (opens Voter) h) (λ o. not_both (has is_begun_got h) (begun_if_voter h k.keeps o) n)

    alone : Stands (Got Begin Down (BeginBegun u) ∷ h)
    alone = stand (Got Begin Down (BeginBegun u)) h refl a.wires.0 k refl (λ g. g)

    abort : (x : Outcome) → latest decision_of h ≡ Some x → message_row (Got Begin Down (BeginBegun u) ∷ h) Begin BeginAbort ≡ true
    abort x d =
        and_both (is_abort_decided h || ends_with is_abort_request (Got Begin Down (BeginBegun u) ∷ h)) (not (has is_commit_sent h))
        (or_left (is_abort_decided h) (ends_with is_abort_request (Got Begin Down (BeginBegun u) ∷ h)) (ap (is_decided Aborted) (early_abort h x k.keeps promoting unpromoted d)))
        (not_false (has is_commit_sent h) (false_from_ne_true (has is_commit_sent h) (λ s. not_both (has is_promoted h) (promoted_if_sent h k.keeps s) unpromoted)))

    step : (o : Option Outcome) (b : Bool) → latest decision_of h ≡ o
        → Stands (onto (Got Begin Down (BeginBegun u) ∷ h) (if is_some o then to_up (observe (Got Begin Down (BeginBegun u) ∷ h)) Begin BeginAbort else if b then Sent Voter Up (VoterVoter (identifier_of t)) ∷ [] else []))
    step (Some x) b d = to_up_stands (Got Begin Down (BeginBegun u) ∷ h) (Got Begin Down (BeginBegun u) ∷ h) Begin BeginAbort alone refl (λ o. o) (abort x d)
    step None true d =
        stand (Sent Voter Up (VoterVoter (identifier_of t))) (Got Begin Down (BeginBegun u) ∷ h) refl tt alone
        (and_both (has is_promoting h && true) (not (has (opens Voter) h)) (and_both (has is_promoting h) true promoting refl) (not_false (has (opens Voter) h) unopened)) (λ g. g)
    step None false d = alone

-- The calls that wait. The place of each is free: its ENLIST wasn't sent, and it is no volatile's; and no two wait for one.
abbrev pub is_unsent : List Entry → Waiter → Bool
is_unsent h (n, Identifier) = true
is_unsent h (n, Place e r c) = not (has (opens (Enl e)) h) && not (stands_volatile e.value h)

abbrev pub same_place : Waiter → Waiter → Bool
same_place (n, Place e r c) (m, Place f q d) = f.value == e.value
same_place _ _ = false

abbrev pub are_apart : List Waiter → Bool
are_apart [] = true
are_apart (w ∷ ws) = each (λ v. not (same_place w v)) ws && are_apart ws

given_stands : (t : ℕ) (ws : List Waiter) (h : List Entry) → Stands h → has is_promoting h ≡ true → has is_begun_got h ≡ true → each (is_unsent h) ws ≡ true → are_apart ws ≡ true
    → Stands (onto h (flat_map (given t) ws))
given_stands t [] h k p b u a = k
given_stands t ((n, Identifier) ∷ ws) h k p b u a =
    given_stands t ws (Answered n (Id (identifier_of t)) ∷ h) (stand (Answered n (Id (identifier_of t))) h refl tt k refl (λ g. g)) p b
    (each_more (is_unsent h) (is_unsent (Answered n (Id (identifier_of t)) ∷ h)) (λ w q. same w q) ws u) (and_right _ (are_apart ws) a)
  where
    same : (w : Waiter) → is_unsent h w ≡ true → is_unsent (Answered n (Id (identifier_of t)) ∷ h) w ≡ true
    same (m, Identifier) q = refl
    same (m, Place e r c) q = q
given_stands t ((n, Place e r c) ∷ ws) h k p b u a =
    let first = and_left (not (has (opens (Enl e)) h) && not (stands_volatile e.value h)) (each (is_unsent h) ws) u in
    given_stands t ws (Sent (Enl e) Up (EnlistEnlist (info t e r)) ∷ h)
    (enlist_stands t h e r k p b (not_true (has (opens (Enl e)) h) (and_left (not (has (opens (Enl e)) h)) (not (stands_volatile e.value h)) first))
    (not_true (stands_volatile e.value h) (and_right (not (has (opens (Enl e)) h)) (not (stands_volatile e.value h)) first))) p b
    (each_both (λ v. not (same_place (n, Place e r c) v)) (is_unsent h) (is_unsent (Sent (Enl e) Up (EnlistEnlist (info t e r)) ∷ h)) (λ w d q. other w d q) ws
    (and_left (each (λ v. not (same_place (n, Place e r c) v)) ws) (are_apart ws) a) (and_right (not (has (opens (Enl e)) h) && not (stands_volatile e.value h)) (each (is_unsent h) ws) u))
    (and_right (each (λ v. not (same_place (n, Place e r c) v)) ws) (are_apart ws) a)
  where
    step : (s o v : Bool) → not s ≡ true → (not o && v) ≡ true → (not ((s && true) || o) && v) ≡ true
    step true o v d q = absurd cc
    step false o v d q = q

    other : (w : Waiter) → not (same_place (n, Place e r c) w) ≡ true → is_unsent h w ≡ true → is_unsent (Sent (Enl e) Up (EnlistEnlist (info t e r)) ∷ h) w ≡ true
    other (m, Identifier) d q = refl
    other (m, Place f y z) d q = step (f.value == e.value) (has (opens (Enl f)) h) (not (stands_volatile f.value h)) d q

-- The promotion succeeds.
pub over_stands : (t : ℕ) (h : List Entry) (ws : List Waiter) (ms : List (EnlNo × RmNo)) → Stands h → has is_decision h ≡ false → is_under_way h ≡ true → have_come h ≡ true → has is_begun_got h ≡ true
    → has is_created_got h ≡ true → each (is_unsent h) ws ≡ true → are_apart ws ≡ true → Stands (onto h (over t (seen_half h ws ms)))
unfolding observe
over_stands t h ws ms k d w c b r u a = step (latest cause_of_promotion h) refl
  where
    promoting : has is_promoting h ≡ true
    promoting = and_left (has is_promoting h) (not (has is_promoted h)) (and_left (has is_promoting h && not (has is_promoted h)) (not (has is_promotion_failed h)) w)

    same : (v : Waiter) → (x : Cause) → is_unsent h v ≡ true → is_unsent (Promoted (identifier_of t) x ∷ h) v ≡ true
    same (m, Identifier) x q = refl
    same (m, Place e y z) x q = q

    step : (o : Option Cause) → latest cause_of_promotion h ≡ o → Stands (onto h (promoted_by t o ++ flat_map (given t) ws))
    step None e = absurd (not_both (has is_promoting h) promoting (sym (cause_seen h) ∙ ap is_some e))
    step (Some x) e =
        given_stands t ws (Promoted (identifier_of t) x ∷ h)
        (stand (Promoted (identifier_of t) x) h refl tt k
        (five_hold (not (has is_decision h)) (not (has is_sealed h)) (is_under_way h) (have_come h) (has is_begun_got h && has is_created_got h) (not_false (has is_decision h) d)
        (not_false (has is_sealed h) (way_unsealed h k.keeps w)) w c (and_both (has is_begun_got h) (has is_created_got h) b r)) (going_as h (not (has is_answer h) || true) (or_right (not (has is_answer h)) true refl))) promoting b
        (each_more (is_unsent h) (is_unsent (Promoted (identifier_of t) x ∷ h)) (λ v q. same v x q) ws u) a

-- Who stands at the end of each block of a promotion that is under way: the one that is handed over, whose ENLIST wasn't sent before CREATED; and the calls that wait.
pub record IsWaitedFor (h : List Entry) (ws : List Waiter) : Type 0 where
  pub handed : is_under_way h ≡ true → each (λ x. is_volatile x.1 || is_handed (handover h) x.0.value) (enlisted h) ≡ true
  pub lasting : (e : EnlNo) → handover h ≡ Some e → stands_volatile e.value h ≡ false
  pub unsent : has is_created_got h ≡ false → (e : EnlNo) → has (opens (Enl e)) h ≡ false
  pub places : is_under_way h ≡ true → each (is_unsent h) ws ≡ true
  pub apart : are_apart ws ≡ true
  pub free : (e : EnlNo) (n : ℕ) (r : RmNo) (c : Class) → has (is_sealed) h ≡ false → find (is_place_of e.value) ws ≡ Some (n, Place e r c) → (has (is_enlisted e.value) h ≡ false) × (is_volatile c ≡ false)
  pub quiet : has is_sealed h ≡ true → ws ≡ []

-- CREATED
managed_stands : (t : ℕ) (ms : List (EnlNo × RmNo)) (h : List Entry) (e : EnlNo) → Stands h → has is_promoting h ≡ true → has is_begun_got h ≡ true → has (opens (Enl e)) h ≡ false
    → stands_volatile e.value h ≡ false → Stands (onto h (by_manager (enlist_sent t) ms e))
managed_stands t [] h e k p b o v = k
managed_stands t (m ∷ ms) h e k p b o v = step (e.value == m.0.value) (managed_stands t ms h e k p b o v)
  where
    step : (q : Bool) → Stands (onto h (by_manager (enlist_sent t) ms e)) → Stands (onto h (if q then enlist_sent t e m.1 else by_manager (enlist_sent t) ms e))
    step true ih = enlist_stands t h e m.1 k p b o v
    step false ih = ih

pub created_stands : (t : ℕ) (h : List Entry) (ws : List Waiter) (ms : List (EnlNo × RmNo)) → Keeps (Got Voter Down VoterCreated ∷ h) → Stands h → IsWaitedFor h ws → has is_created_got h ≡ false
    → Stands (onto (Got Voter Down VoterCreated ∷ h) (created t (seen_half (Got Voter Down VoterCreated ∷ h) ws ms)))
unfolding observe
created_stands t h ws ms a k w n =
    open_block (Got Voter Down VoterCreated ∷ h) ws ms (if sees_promoting (observe (Got Voter Down VoterCreated ∷ h)) then hand_over t (seen_half (Got Voter Down VoterCreated ∷ h) ws ms) (handover h) else []) a
    (λ d. step (sees_promoting (observe h)) refl d)
  where
    alone : Stands (Got Voter Down VoterCreated ∷ h)
    alone = stand (Got Voter Down VoterCreated) h refl a.wires.0 k refl (λ g. g)

    begun_before : has is_begun_got h ≡ true
    begun_before = begun_if_voter h k.keeps (opened_if_got Voter h k.keeps (opening_before Voter VoterCreated h a))

    none_handed : handover h ≡ None → is_under_way h ≡ true → have_come (Got Voter Down VoterCreated ∷ h) ≡ true
    none_handed e y =
        each_more (λ x. is_volatile x.1 || is_handed None x.0.value) (λ x. is_volatile x.1 || has (is_enlist_got x.0.value) h) (λ x q. or_case (is_volatile x.1) false (λ v. or_left (is_volatile x.1) _ v) (λ v. absurd cc) q) (enlisted h)
        (let P : Option EnlNo → Type 0 = λ o. each (λ x. is_volatile x.1 || is_handed o x.0.value) (enlisted h) ≡ true in subst P e (w.handed y))

    by_handover : (o : Option EnlNo) → handover h ≡ o → is_under_way h ≡ true → has is_decision h ≡ false
        → Stands (onto (Got Voter Down VoterCreated ∷ h) (hand_over t (seen_half (Got Voter Down VoterCreated ∷ h) ws ms) o))
    by_handover (Some e) q y d = managed_stands t ms (Got Voter Down VoterCreated ∷ h) e alone (got_promoting Voter Down VoterCreated h a) begun_before (w.unsent n e) (w.lasting e q)
    by_handover None q y d =
        over_stands t (Got Voter Down VoterCreated ∷ h) ws ms alone d y (none_handed q y) begun_before refl
        (each_more (is_unsent h) (is_unsent (Got Voter Down VoterCreated ∷ h)) (λ v z. same v z) ws (w.places y)) w.apart
      where
        same : (v : Waiter) → is_unsent h v ≡ true → is_unsent (Got Voter Down VoterCreated ∷ h) v ≡ true
        same (m, Identifier) z = refl
        same (m, Place e r c) z = z

    step : (b : Bool) → sees_promoting (observe h) ≡ b → has is_decision h ≡ false
        → Stands (onto (Got Voter Down VoterCreated ∷ h) (if b then hand_over t (seen_half (Got Voter Down VoterCreated ∷ h) ws ms) (handover h) else []))
    step true q d = by_handover (handover h) refl (sym (way_seen h) ∙ q) d
    step false q d = alone
