-- The block of each reply that is due keeps the table, promoted or not: a vote, the answer of a promotable, that of an owner, and an acknowledgement.
use Rattle.std.proofs.Common.{◌≡◌, ℕ, ◌==◌, Bool, true, false, ◌&&◌, ◌||◌, List, [], ◌∷◌, Option, Some, None, refl, ◌∙◌, ap, sym, subst, inl, inr}
use Rattle.std.specs.Prelude.{is_some, not, if◌then◌else◌}
use Rattle.std.proofs.lemmas.Bool.{eqb-true, false_from_ne_true, or_left}
use Rattle.dtx_values.specs.declared.entry.Entry.{Entry}
use Rattle.dtx_values.specs.declared.entry.Entry.TheVariants.{Acked, OwnerAnswered, PromoteReply, Requested, Sent, Voted}
use Rattle.dtx_values.specs.declared.entry.Request.{Request}
use Rattle.dtx_values.specs.declared.entry.Request.TheVariants.{Commit as RequestCommit, Abort as RequestAbort}
use Rattle.dtx_values.specs.declared.message.Conn.{Conn}
use Rattle.dtx_values.specs.declared.message.Conn.TheVariants.{Begin as OnBegin, Voter as OnVoter, Enl as OnEnl, Again}
use Rattle.dtx_values.specs.declared.message.Dir.TheVariants.{Up, Down}
use Rattle.dtx_values.specs.declared.message.Message.TheVariants.{BeginBegin, BeginCommit, BeginAbort, EnlistAck, ReenlistAck}
use Rattle.dtx_values.specs.declared.note.Note.{Note}
use Rattle.dtx_values.specs.declared.note.Reply.{Reply}
use Rattle.dtx_values.specs.declared.note.Reply.TheVariants.{Vote as VoteReply, Promote as Promotes, Owner as OwnerReply, Ack}
use Rattle.dtx_values.specs.declared.number.EnlNo.{EnlNo}
use Rattle.dtx_values.specs.declared.number.RmNo.{RmNo}
use Rattle.dtx_values.specs.declared.words.Class.{Class}
use Rattle.dtx_values.specs.declared.words.Outcome.{Outcome}
use Rattle.dtx_values.specs.declared.words.Outcome.TheVariants.{Committed, Aborted, InDoubt}
use Rattle.dtx_values.specs.declared.words.Vote.{Vote}
use Rattle.dtx_values.specs.declared.words.Vote.TheVariants.{Yes, No, Done}
use Rattle.dtx_values.specs.Class.{is_promotable, is_volatile}
use Rattle.dtx_values.specs.Lines.{has_line}
use Rattle.dtx_values.specs.Row.{is_of}
use Rattle.dtx_values.specs.Vote.{is_good, is_no}
use Rattle.dtx_model.specs.Words.{all_of, each, has, latest, onto}
use Rattle.dtx_model.specs.Entries.{decision_of, handed_of, is_any_hand, is_asked, is_decision, is_good_vote, is_hand, is_lost, is_owner, is_owner_answer, is_promoted, is_sealed, is_vote, is_yes}
use Rattle.dtx_model.specs.Observed.{is_ask_promote, is_ask_single, is_promote_reply, is_promotion_failed, is_request, observe, rows, track}
use Rattle.dtx_model.specs.Outcome.{doubt, durables, enlisted, evidence, owner_doubt}
use Rattle.dtx_model.specs.Promotes.{is_begun_got, is_promoting, is_under_way}
use Rattle.dtx_model.specs.Wires.{opens}
use Rattle.dtx_model.specs.Waiting.{Waiter, managed, waiting}
use Rattle.dtx_model.specs.Half.{decide, fails_if, is_handed, sees, to_up, veto_if, is_promoting as sees_promoting}
use Rattle.dtx_model.specs.Replies.{ack_on, owes_outcome, owes_promotion, owes_request, owes_vote, conn_due, due_of, fits, is_unsettled, may_still_answer, one_message, owner_entries, promote_entries, reply_entries, request_message, request_of, vote_message, voted_by}
use Rattle.dtx_model.specs.World.{World, half}
use Rattle.dtx_model.proofs.Bools.{and_both, and_left, and_right, not_both, not_false, not_true, or_case, or_right, three_hold}
use Rattle.history_table.proofs.Tests.{eq_self, eq_swap, first_of_four, second_of_four, third_of_four, fourth_of_four, four_hold}
use Rattle.history_table.proofs.Scans.{each_both, each_more, has_less, has_more}
use Rattle.history_table.proofs.Lists.{found_at, has-at, none_each}
use Rattle.history_table.proofs.EntryTests.{has_promotable, is_answer, is_decided, is_enlisted, is_volatile_of, undecided}
use Rattle.history_table.proofs.Handed.{answered_any, hand_listed, hand_any, is_answered}
use Rattle.history_table.proofs.Owned.{decision_seen, has_rows}
use Rattle.history_table.proofs.TableRows.{unvoted_unwell}
use Rattle.history_table.proofs.Table.{calls_off, is_abort_decided, is_abort_sent, is_commit_sent, is_lone_owner, is_promotable_of, decision_row, is_there, may_answer, may_commit, message_row, rule, stands_promotable, stands_volatile}
use Rattle.history_table.proofs.Keeping.{Keeps, earlier}
use Rattle.history_table.proofs.Crossed.{is_got_on, is_sent_on, was_sent}
use Rattle.history_table.proofs.Recording.{promoted_if_sealed, promoted_if_yes, promoting_if_promoted, sealed_if_yes, well_if_yes}
use Rattle.history_table.proofs.Standing.{opened_if_got}
use Rattle.history_table.proofs.Evident.{evidence-handed, sealed_if_handed, unsealed_open, unyes_open}
use Rattle.history_table.proofs.Doubting.{owner_doubts}
use Rattle.history_table.proofs.HalfOwner.{unlone_if_promotable}
use Rattle.history_table.proofs.HalfRows.{voted_enlisted, voted_once}
use Rattle.history_table.proofs.HalfKnows.{way_seen}
use Rattle.history_table.proofs.Deciding.{decide_decides, decide_keeps, decided_there, one_more, seen_half}
use Rattle.history_table.proofs.Undecided.{Stands, all_willing, decided_stand, goes_on, hand_seen, is_going, is_unanswered, is_willing, promotes_on, stand, unwilling_open, way_unsealed}
use Rattle.history_table.proofs.HalfCalls.{begun_if_promoted, veto_stands}
use Rattle.history_table.proofs.HalfReplies.{Answers, IsLeft, IsOwed, owed, requested_if_sent, to_up_stands, unaborted_yet, volatile_seen, vote_rule}
use Rattle.history_table.proofs.CoreKnown.{begun_on}
use Rattle.history_table.proofs.Managed.{due_opened}

-- A vote: each volatile that voted, voted well after it, where it is good or no volatile's.
good_willing : (h : List Entry) (e : EnlNo) (v : Vote) → is_good v ≡ true → all_willing h ≡ true → all_willing (Voted e v ∷ h) ≡ true
good_willing h e v g k = each_more (is_willing h) (is_willing (Voted e v ∷ h)) (λ x. step (is_volatile x.1) (x.0.value == e.value) (is_good v) (has (is_vote x.0.value) h) (has (is_good_vote x.0.value) h) g) (enlisted h) k
  where
    step : (v s g t r : Bool) → g ≡ true → (not v || (not t || r)) ≡ true → (not v || (not (s || t) || ((s && g) || r))) ≡ true
    step false s g t r e k = refl
    step true true true t r e k = refl
    step true true false t r e k = absurd cc
    step true false g t r e k = k

other_willing : (h : List Entry) (e : EnlNo) (v : Vote) → stands_volatile e.value h ≡ false → all_willing h ≡ true → all_willing (Voted e v ∷ h) ≡ true
other_willing h e v n k =
    each_both (λ x. not (is_volatile_of e.value x)) (is_willing h) (is_willing (Voted e v ∷ h))
    (λ x a b. step (is_volatile x.1) (e.value == x.0.value) (x.0.value == e.value) (is_good v) (has (is_vote x.0.value) h) (has (is_good_vote x.0.value) h) (eq_swap x.0.value e.value) a b) (enlisted h)
    (none_each (is_volatile_of e.value) (λ x. not (is_volatile_of e.value x)) (λ x q. not_false (is_volatile_of e.value x) q) (enlisted h) n) k
  where
    step : (v s z g t r : Bool) → z ≡ s → not (s && v) ≡ true → (not v || (not t || r)) ≡ true → (not v || (not (z || t) || ((z && g) || r))) ≡ true
    step false s z g t r e n k = refl
    step true true z g t r e n k = absurd cc
    step true false true g t r e n k = absurd cc
    step true false false g t r e n k = k

going_voted : (h : List Entry) (e : EnlNo) (v : Vote) → (all_willing h ≡ true → all_willing (Voted e v ∷ h) ≡ true) → is_going h ≡ true → is_going (Voted e v ∷ h) ≡ true
going_voted h e v f g = step (has is_decision h) (all_willing h) (all_willing (Voted e v ∷ h)) _ _ _ f g
  where
    step : (d w z a c r : Bool) → (w ≡ true → z ≡ true) → (d || (w && a && c && r)) ≡ true → (d || (z && a && c && r)) ≡ true
    step true w z a c r f k = refl
    step false true true a c r f k = k
    step false true false a c r f k = absurd (not_both false (f refl) refl)
    step false false z a c r f k = absurd cc

-- where not both hold and the first does, the second doesn't
other_false : (a b : Bool) → a ≡ true → not (a && b) ≡ true → b ≡ false
other_false true true p q = absurd cc
other_false true false p q = refl
other_false false b p q = absurd cc

-- what each volatile passes, one that stands passes
well_passes : (e : ℕ) (q : ℕ → Bool) (xs : List (EnlNo × Class)) → has (is_volatile_of e) xs ≡ true → each (λ x. not (is_volatile x.1) || q x.0.value) xs ≡ true → q e ≡ true
well_passes e q [] s a = absurd cc
well_passes e q (x ∷ xs) s a =
    or_case (is_volatile_of e x) (has (is_volatile_of e) xs)
    (λ t. let same : e ≡ x.0.value = eqb-true e x.0.value (and_left (e == x.0.value) (is_volatile x.1) t) in
    let Q : ℕ → Type 0 = λ n. q n ≡ true in
    subst Q (sym same) (or_case (not (is_volatile x.1)) (q x.0.value) (λ n. absurd (not_both (is_volatile x.1) (and_right (e == x.0.value) (is_volatile x.1) t) (not_true (is_volatile x.1) n))) (λ g. g)
    (and_left (not (is_volatile x.1) || q x.0.value) (each (λ x. not (is_volatile x.1) || q x.0.value) xs) a)))
    (λ t. well_passes e q xs t (and_right (not (is_volatile x.1) || q x.0.value) (each (λ x. not (is_volatile x.1) || q x.0.value) xs) a)) s

-- the block of a vote
vote_block : (h : List Entry) (ws : List Waiter) (ms : List (EnlNo × RmNo)) (e : EnlNo) (v : Vote) (b : Bool) → Stands h → rule h (Voted e v) ≡ true → stands_volatile e.value h ≡ b
    → Stands (onto (Voted e v ∷ h) (if b then veto_if (is_no v) (seen_half (Voted e v ∷ h) ws ms) else to_up (observe (Voted e v ∷ h)) (OnEnl e) (vote_message v)))
vote_block h ws ms e Yes true k r s = stand (Voted e Yes) h refl tt k r (going_voted h e Yes (good_willing h e Yes refl))
vote_block h ws ms e Done true k r s = stand (Voted e Done) h refl tt k r (going_voted h e Done (good_willing h e Done refl))
vote_block h ws ms e No true k r s =
    let d = other_false (stands_volatile e.value h) (has is_decision h) s (and_right (has (is_enlisted e.value) h && has (is_asked e.value) h && not (has (is_vote e.value) h) && not (has (is_lost e.value) h)) (not (stands_volatile e.value h && has is_decision h)) r) in
    let bare = unvoted_unwell e.value h (voted_once e No h r) in
    veto_stands (Voted e No) h ws ms refl (one_more (Voted e No) h refl tt k.keeps r) d refl (unmoved d bare (has is_promoted h) refl) (or_left (not (has is_yes h)) false (not_false (has is_yes h) (unyes bare)))
  where
    unyes : has (is_good_vote e.value) h ≡ false → has is_yes h ≡ false
    unyes n =
        false_from_ne_true (has is_yes h) (λ y. not_both (has (is_good_vote e.value) h)
        (well_passes e.value (λ n. has (is_good_vote n) h) (enlisted h) s (well_if_yes h k.keeps y)) n)

    unmoved : has is_decision h ≡ false → has (is_good_vote e.value) h ≡ false → (p : Bool) → has is_promoted h ≡ p → evidence h ≡ false
    unmoved d n true p = unyes_open h k.keeps (promoting_if_promoted h k.keeps p) (unyes n)
    unmoved d n false p = unwilling_open h e.value k.keeps (voted_enlisted e No h r) n ((goes_on h k d).unanswered p)
vote_block h ws ms e Yes false k r s =
    to_up_stands (Voted e Yes ∷ h) (Voted e Yes ∷ h) (OnEnl e) (vote_message Yes) (stand (Voted e Yes) h refl tt k r (going_voted h e Yes (good_willing h e Yes refl))) refl (λ o. o) (rw (eq_self e.value) refl)
vote_block h ws ms e Done false k r s =
    to_up_stands (Voted e Done ∷ h) (Voted e Done ∷ h) (OnEnl e) (vote_message Done) (stand (Voted e Done) h refl tt k r (going_voted h e Done (good_willing h e Done refl))) refl (λ o. o) (rw (eq_self e.value) refl)
vote_block h ws ms e No false k r s =
    to_up_stands (Voted e No ∷ h) (Voted e No ∷ h) (OnEnl e) (vote_message No) (stand (Voted e No) h refl tt k r (going_voted h e No (other_willing h e No s))) refl (λ o. o) (rw (eq_self e.value) refl)

-- a vote that is due
vote_reply : (w : World) (e : EnlNo) (v : Vote) (n : Note) → Stands w.past → IsLeft w.past e → due_of (observe w.past) e.value ≡ Some n → fits (VoteReply v) n ≡ true
    → Stands (onto w.past (Voted e v ∷ voted_by (sees (half w) (Voted e v)) e v))
unfolding observe track
vote_reply w e v n k l d f =
    let h = w.past in
    let B : Bool → Type 0 = λ b. Stands (onto (Voted e v ∷ h) (if b then veto_if (is_no v) (sees (half w) (Voted e v)) else to_up (sees (half w) (Voted e v)).seen (OnEnl e) (vote_message v))) in
    subst B (sym (volatile_seen (Voted e v ∷ h) e.value))
    (vote_block h (waiting w.calls h) (managed w.calls h) e v (stands_volatile e.value h) k (vote_rule h e v n k l (owed h (VoteReply v) n e.value refl d f)) refl)

down_opened : (x : Entry) (h : List Entry) → Keeps h → rule h x ≡ true → is_sent_on OnBegin Down (λ m. true) x ≡ true → has (opens OnBegin) h ≡ true
down_opened (Sent OnBegin Down m) h k r t =
    opened_if_got OnBegin h k (third_of_four (has_line OnBegin Down m) (has is_promoting h) (is_there h OnBegin Down m) (message_row h OnBegin m) r)
down_opened _ h k r t = absurd cc

pub opened_if_begun : (h : List Entry) → Keeps h → has is_begun_got h ≡ true → has (opens OnBegin) h ≡ true
opened_if_begun h k b =
    earlier (is_sent_on OnBegin Down (λ m. true)) (λ g. has (opens OnBegin) g) (λ x g t. or_right (opens OnBegin x) (has (opens OnBegin) g) t) down_opened h k
    (was_sent OnBegin Down (λ m. true) h k.wires (has_more is_begun_got (is_got_on OnBegin Down (λ m. true)) begun_on h b))

-- Who was asked to promote, or to commit in a single phase, at the end of each block: a promotion began; b is opened after the promotable's reply; and the single phase
-- comes after the seal of what is promoted.
pub record IsAsked (h : List Entry) : Type 0 where
  pub left : (e : EnlNo) → IsLeft h e
  pub promote : has is_ask_promote h ≡ true → has is_promoting h ≡ true
  pub replied : (e : ℕ) → stands_promotable e h ≡ true → has (opens OnBegin) h ≡ true → has is_promote_reply h ≡ true
  pub single : has is_ask_single h ≡ true → (has is_sealed h ≡ true) × (has is_promoted h ≡ true)

-- the row is that of a promotable that stands
promotable_row : (h : List Entry) (r : Reply) (n : Note) (e : ℕ) (w : IsOwed h r n e) → is_promotable w.row.class ≡ true → stands_promotable e h ≡ true
promotable_row h r n e w p =
    let place = found_at (is_of e) (rows h) w.row w.stands in
    sym (has_rows (λ (f : EnlNo) (c : Class). (e == f.value) && is_promotable c) h)
    ∙ has-at (λ y. is_of e y && is_promotable y.class) (rows h) place.0 w.row place.1 (and_both (is_of e w.row) (is_promotable w.row.class) place.2 p)

pub record MayPromote (h : List Entry) (e : EnlNo) : Type 0 where
  pub row : (ok : Bool) → rule h (PromoteReply e ok) ≡ true
  pub open_yet : has is_decision h ≡ false
  pub way : is_under_way h ≡ true
  pub unopened : has (opens OnBegin) h ≡ false

may_promote : (h : List Entry) (e : EnlNo) (ok : Bool) (n : Note) → Stands h → IsAsked h → IsOwed h (Promotes ok) n e.value → MayPromote h e
unfolding observe
may_promote h e ok n k a w =
    let asked = first_of_four (has is_ask_promote h) (not (has is_promote_reply h)) (is_promotable w.row.class) (not (is_some (latest decision_of h))) w.answers in
    let unreplied = not_true (has is_promote_reply h) (second_of_four (has is_ask_promote h) (not (has is_promote_reply h)) (is_promotable w.row.class) (not (is_some (latest decision_of h))) w.answers) in
    let promotable = promotable_row h (Promotes ok) n e.value w (third_of_four (has is_ask_promote h) (not (has is_promote_reply h)) (is_promotable w.row.class) (not (is_some (latest decision_of h))) w.answers) in
    let d = sym (decision_seen h) ∙ not_true (is_some (latest decision_of h)) (fourth_of_four (has is_ask_promote h) (not (has is_promote_reply h)) (is_promotable w.row.class) (not (is_some (latest decision_of h))) w.answers) in
    let shut = false_from_ne_true (has (opens OnBegin) h) (λ o. not_both (has is_promote_reply h) (a.replied e.value promotable o) unreplied) in
    let unpromoted = false_from_ne_true (has is_promoted h) (λ p. not_both (has (opens OnBegin) h) (opened_if_begun h k.keeps (begun_if_promoted h k.keeps p)) shut) in
    let way = promotes_on h (a.promote asked) unpromoted (goes_on h k d).unfailed in
    record {
      row = λ b. and_both (not (has is_decision h) && is_under_way h) (stands_promotable e.value h) (and_both (not (has is_decision h)) (is_under_way h) (not_false (has is_decision h) d) way) promotable;
      open_yet = d;
      way = way;
      unopened = shut;
    }

way_promoting : (h : List Entry) → is_under_way h ≡ true → has is_promoting h ≡ true
way_promoting h w = and_left (has is_promoting h) (not (has is_promoted h)) (and_left (has is_promoting h && not (has is_promoted h)) (not (has is_promotion_failed h)) w)

promote_reply : (w : World) (e : EnlNo) (ok : Bool) → Stands w.past → MayPromote w.past e → Stands (onto w.past (promote_entries (half w) e ok))
unfolding observe track
promote_reply w e true k p =
    let h = w.past in
    stand (Sent OnBegin Up BeginBegin) (PromoteReply e true ∷ h) refl tt (stand (PromoteReply e true) h refl tt k (p.row true) (λ g. g))
    (and_both (has is_promoting h && true) (not (has (opens OnBegin) h)) (and_both (has is_promoting h) true (way_promoting h p.way) refl) (not_false (has (opens OnBegin) h) p.unopened)) (λ g. g)
promote_reply w e false k p =
    let h = w.past in
    let s = way_unsealed h k.keeps p.way in
    veto_stands (PromoteReply e false) h (waiting w.calls h) (managed w.calls h) refl (one_more (PromoteReply e false) h refl tt k.keeps (p.row false)) p.open_yet refl (unsealed_open h k.keeps s)
    (or_left (not (has is_yes h)) false (not_false (has is_yes h) (false_from_ne_true (has is_yes h) (λ y. not_both (has is_sealed h) (sealed_if_yes h k.keeps y) s))))

-- An owner's answer to the handing.
doubted : (h : List Entry) (e : EnlNo) → has (is_hand e.value) h ≡ true → doubt (OwnerAnswered e InDoubt ∷ h) ≡ true
unfolding owner_doubt
doubted h e u =
    let heard : has (λ f. has (is_owner f.value InDoubt) (OwnerAnswered e InDoubt ∷ h)) (all_of handed_of h) ≡ true =
    has_more (λ f. f.value == e.value) (λ f. has (is_owner f.value InDoubt) (OwnerAnswered e InDoubt ∷ h))
    (λ f g. or_left ((f.value == e.value) && true) (has (is_owner f.value InDoubt) h) (and_both (f.value == e.value) true g refl)) (all_of handed_of h) (hand_listed e.value h u) in
    owner_doubts (OwnerAnswered e InDoubt ∷ h) (or_left (has (λ f. has (is_owner f.value InDoubt) (OwnerAnswered e InDoubt ∷ h)) (all_of handed_of h)) _ heard)

owner_block : (h : List Entry) (ws : List Waiter) (ms : List (EnlNo × RmNo)) (e : EnlNo) (x : Outcome) → Stands h → has is_decision h ≡ false → has is_promoted h ≡ false → has (is_hand e.value) h ≡ true
    → Stands (onto (OwnerAnswered e x ∷ h) (decide (seen_half (OwnerAnswered e x ∷ h) ws ms) x))
owner_block h ws ms e x k d p u =
    let row : rule h (OwnerAnswered e x) ≡ true = three_hold (may_answer h) (has (is_hand e.value) h) (not (has is_answer h))
    (or_left (not (has is_decision h)) _ (not_false (has is_decision h) d)) u (not_false (has is_answer h) ((goes_on h k d).unanswered p)) in
    let after = one_more (OwnerAnswered e x) h refl tt k.keeps row in
    decided_stand (onto (OwnerAnswered e x ∷ h) (decide (seen_half (OwnerAnswered e x ∷ h) ws ms) x))
    (decide_keeps (OwnerAnswered e x ∷ h) ws ms x after d (λ w. absurd (settled x w)) (λ b q. by_way b q x after))
    (decided_there (onto (OwnerAnswered e x ∷ h) (decide (seen_half (OwnerAnswered e x ∷ h) ws ms) x)) x (decide_decides (OwnerAnswered e x ∷ h) ws ms x))
  where
    any : has is_any_hand h ≡ true
    any = has_more (is_hand e.value) is_any_hand (hand_any e.value) h u

    unpromoting : has is_promoting h ≡ false
    unpromoting = false_from_ne_true (has is_promoting h) (λ q. not_both (has is_promoted h) (promoted_if_sealed h k.keeps (sealed_if_handed h k.keeps any) q) p)

    settled : (y : Outcome) → is_under_way (OwnerAnswered e y ∷ h) ≡ true → ⊥
    settled y w = not_both (has is_promoting h) (way_promoting h w) unpromoting

    bare : evidence h ≡ false
    bare = evidence-handed h k.keeps any ∙ has_less (is_answered Committed) is_answer (answered_any Committed) h ((goes_on h k d).unanswered p)

    unyes : has is_yes h ≡ false
    unyes = false_from_ne_true (has is_yes h) (λ y. not_both (has is_promoted h) (promoted_if_yes h k.keeps y) p)

    off : calls_off h (OwnerAnswered e Aborted) ≡ true
    off = rw (bare, unyes) refl

    by_outcome : (y : Outcome) → Keeps (OwnerAnswered e y ∷ h) → decision_row (OwnerAnswered e y ∷ h) y ≡ true
    by_outcome Committed a =
        and_both (not (has is_promoted h)) (evidence (OwnerAnswered e Committed ∷ h)) (not_false (has is_promoted h) p) (evidence-handed (OwnerAnswered e Committed ∷ h) a any)
    by_outcome Aborted a = off
    by_outcome InDoubt a = doubted h e u

    by_way : (b : Bool) → sees_promoting (observe (OwnerAnswered e x ∷ h)) ≡ b → (y : Outcome) → Keeps (OwnerAnswered e y ∷ h) → decision_row (onto (OwnerAnswered e y ∷ h) (fails_if b)) y ≡ true
    by_way true q y a = absurd (settled x (sym (way_seen (OwnerAnswered e x ∷ h)) ∙ q))
    by_way false q y a = by_outcome y a

-- of a promotion the coordinator is told
told_block : (h : List Entry) (e : EnlNo) (x : Outcome) → Stands h → has is_promoted h ≡ true → may_answer h ≡ true → has (is_hand e.value) h ≡ true → has is_answer h ≡ false
    → Stands (onto (OwnerAnswered e x ∷ h) (to_up (observe h) (OnEnl e) (one_message x)))
told_block h e x k p m u n =
    to_up_stands h (OwnerAnswered e x ∷ h) (OnEnl e) (one_message x)
    (stand (OwnerAnswered e x) h refl tt k (three_hold (may_answer h) (has (is_hand e.value) h) (not (has is_answer h)) m u (not_false (has is_answer h) n))
    (λ g. step (has is_decision h) (all_willing h) (is_unanswered h) (has is_promoted h) _ _ p g)) (line x) (λ o. o) (row x)
  where
    step : (d w a q c r : Bool) → q ≡ true → (d || (w && a && c && r)) ≡ true → (d || (w && q && c && r)) ≡ true
    step true w a q c r t g = refl
    step false true true q c r t g = rw t g
    step false true false q c r t g = absurd cc
    step false false a q c r t g = absurd cc

    line : (y : Outcome) → has_line (OnEnl e) Up (one_message y) ≡ true
    line Committed = refl
    line Aborted = refl
    line InDoubt = refl

    row : (y : Outcome) → message_row (OwnerAnswered e y ∷ h) (OnEnl e) (one_message y) ≡ true
    row Committed = and_both (e.value == e.value) true (eq_self e.value) refl
    row Aborted = and_both (e.value == e.value) true (eq_self e.value) refl
    row InDoubt = and_both (e.value == e.value) true (eq_self e.value) refl

unsettled_answers : (h : List Entry) → has is_promoted h ≡ true → is_unsettled (latest decision_of h) ≡ true → may_answer h ≡ true
unsettled_answers h p t = by (latest decision_of h) refl t
  where
    by : (o : Option Outcome) → latest decision_of h ≡ o → is_unsettled o ≡ true → may_answer h ≡ true
    by None q t = or_left (not (has is_decision h)) _ (not_false (has is_decision h) (undecided h q))
    by (Some InDoubt) q t =
        or_right (not (has is_decision h)) (has is_promoted h && is_decided InDoubt (latest decision_of h)) (and_both (has is_promoted h) (is_decided InDoubt (latest decision_of h)) p (ap (is_decided InDoubt) q))
    by (Some Committed) q t = absurd cc
    by (Some Aborted) q t = absurd cc

-- an owner's answer, to the handing or to the single phase
owner_reply : (w : World) (e : EnlNo) (x : Outcome) (n : Note) → Stands w.past → IsAsked w.past → IsOwed w.past (OwnerReply x) n e.value → Stands (onto w.past (owner_entries (half w) e x (Some n)))
unfolding observe track
owner_reply w e x n k a o = by_note o.answers
  where
    h : List Entry
    h = w.past

    requested : (y : Outcome) → has is_decision w.past ≡ false → (has is_sealed w.past ≡ true) × (has is_promoted w.past ≡ true) → stands_promotable e.value w.past ≡ true → has is_request w.past ≡ false
        → Stands (onto w.past (Requested e (request_of y) ∷ to_up (half w).seen OnBegin (request_message y)))
    requested y d s p u = by_outcome y
      where
        promotable : has_promotable w.past ≡ true
        promotable = has_more (is_promotable_of e.value) (λ x. is_promotable x.1) (λ x. and_right (e.value == x.0.value) (is_promotable x.1)) (enlisted w.past) p

        uncommitted : has is_commit_sent w.past ≡ false
        uncommitted =
            false_from_ne_true (has is_commit_sent w.past) (λ s.
            or_case (not (has_promotable w.past)) (has is_request w.past) (λ a. not_both (has_promotable w.past) promotable (not_true (has_promotable w.past) a)) (λ a. not_both (has is_request w.past) a u)
            (requested_if_sent w.past k.keeps s))

        row : (r : Request) → Stands (Requested e r ∷ w.past)
        row r =
            stand (Requested e r) w.past refl tt k
            (four_hold (not (has is_decision w.past)) (has is_promoted w.past) (has is_sealed w.past) (stands_promotable e.value w.past && not (has is_request w.past)) (not_false (has is_decision w.past) d) s.1 s.0
            (and_both (stands_promotable e.value w.past) (not (has is_request w.past)) p (not_false (has is_request w.past) u))) (λ g. g)

        commits : (r : Request) → message_row (Requested e r ∷ w.past) OnBegin BeginCommit ≡ true
        commits r =
            and_both (may_commit (Requested e r ∷ w.past)) (not (is_lone_owner (durables w.past)))
            (four_hold (has is_sealed w.past) (has is_promoted w.past) (not (has is_decision w.past)) (not (has is_abort_sent w.past) && (not (has_promotable w.past) || true)) s.0 s.1 (not_false (has is_decision w.past) d)
            (and_both (not (has is_abort_sent w.past)) (not (has_promotable w.past) || true) (not_false (has is_abort_sent w.past) (unaborted_yet w.past k.keeps d u)) (or_right (not (has_promotable w.past)) true refl)))
            (not_false (is_lone_owner (durables w.past)) (unlone_if_promotable w.past promotable))

        by_outcome : (z : Outcome) → Stands (onto w.past (Requested e (request_of z) ∷ to_up (half w).seen OnBegin (request_message z)))
        by_outcome Aborted =
            to_up_stands w.past (Requested e RequestAbort ∷ w.past) OnBegin BeginAbort (row RequestAbort) refl (λ q. q)
            (and_both (is_abort_decided w.past || true) (not (has is_commit_sent w.past)) (or_right (is_abort_decided w.past) true refl) (not_false (has is_commit_sent w.past) uncommitted))
        by_outcome Committed = to_up_stands w.past (Requested e RequestCommit ∷ w.past) OnBegin BeginCommit (row RequestCommit) refl (λ q. q) (commits RequestCommit)
        by_outcome InDoubt = to_up_stands w.past (Requested e RequestCommit ∷ w.past) OnBegin BeginCommit (row RequestCommit) refl (λ q. q) (commits RequestCommit)

    answered : (b : Bool) → has is_promoted w.past ≡ b → (if b then not (has is_owner_answer w.past) && is_unsettled (latest decision_of w.past) else not (is_some (latest decision_of w.past))) ≡ true → has (is_hand e.value) w.past ≡ true
        → Stands (onto w.past (OwnerAnswered e x ∷ (if b then to_up (observe w.past) (OnEnl e) (one_message x) else decide (half w) x)))
    answered true p t u =
        told_block w.past e x k p (unsettled_answers w.past p (and_right (not (has is_owner_answer w.past)) (is_unsettled (latest decision_of w.past)) t)) u
        (has_less is_answer is_owner_answer answers_own w.past (not_true (has is_owner_answer w.past) (and_left (not (has is_owner_answer w.past)) (is_unsettled (latest decision_of w.past)) t)))
      where
        answers_own : (y : Entry) → is_answer y ≡ true → is_owner_answer y ≡ true
        answers_own (OwnerAnswered f z) a = refl
        answers_own _ a = absurd cc
    answered false p t u =
        owner_block w.past (waiting w.calls w.past) (managed w.calls w.past) e x k (sym (decision_seen w.past) ∙ not_true (is_some (latest decision_of w.past)) t) p u

    by_note : Answers (OwnerReply x) n (owes_vote (observe w.past) o.row) (owes_promotion (observe w.past) o.row) (owes_outcome (observe w.past) o.row) (owes_request (observe w.past) o.row)
        → Stands (onto w.past (owner_entries (half w) e x (Some n)))
    by_note (inl q) =
        let place = found_at (is_of e.value) (rows w.past) o.row o.stands in
        let number : e.value ≡ o.row.number.value = eqb-true e.value o.row.number.value place.2 in
        let P : ℕ → Type 0 = λ m. is_handed (latest handed_of w.past) m ≡ true in
        let handed = subst P (sym number) (and_left (is_handed (latest handed_of w.past) o.row.number.value) (may_still_answer (observe w.past)) q.1) in
        let N : Note → Type 0 = λ m. Stands (onto w.past (owner_entries (half w) e x (Some m))) in
        subst N (sym q.0) (answered (has is_promoted w.past) refl (and_right (is_handed (latest handed_of w.past) o.row.number.value) (may_still_answer (observe w.past)) q.1) (sym (hand_seen e.value w.past k.keeps) ∙ handed))
    by_note (inr q) =
        let b1 = has is_ask_single w.past in
        let b2 = not (has is_request w.past) in
        let b3 = is_promotable o.row.class in
        let b4 = not (is_some (latest decision_of w.past)) in
        let N : Note → Type 0 = λ m. Stands (onto w.past (owner_entries (half w) e x (Some m))) in
        subst N (sym q.0)
        (requested x (sym (decision_seen w.past) ∙ not_true (is_some (latest decision_of w.past)) (fourth_of_four b1 b2 b3 b4 q.1)) (a.single (first_of_four b1 b2 b3 b4 q.1))
        (promotable_row w.past (OwnerReply x) n e.value o (third_of_four b1 b2 b3 b4 q.1)) (not_true (has is_request w.past) (second_of_four b1 b2 b3 b4 q.1)))

-- An acknowledgement.
ack_stands : (w : World) (e : EnlNo) (c : Option Conn) → conn_due (observe w.past) e.value ≡ c → Stands w.past → Stands (onto w.past (Acked e ∷ ack_on (half w).seen c))
unfolding observe
ack_stands w e c d k = by_conn c d
  where
    alone : Stands (Acked e ∷ w.past)
    alone = stand (Acked e) w.past refl tt k refl (λ g. g)

    by_conn : (c : Option Conn) → conn_due (observe w.past) e.value ≡ c → Stands (onto (Acked e ∷ w.past) (ack_on (half w).seen c))
    by_conn (Some (OnEnl f)) d = to_up_stands w.past (Acked e ∷ w.past) (OnEnl f) EnlistAck alone refl (λ q. q) (due_opened e f (OnEnl f) w.past d (eq_self f.value))
    by_conn (Some (Again f)) d = to_up_stands w.past (Acked e ∷ w.past) (Again f) ReenlistAck alone refl (λ q. q) (due_opened e f (Again f) w.past d (eq_self f.value))
    by_conn (Some OnBegin) d = alone
    by_conn (Some OnVoter) d = alone
    by_conn None d = alone

-- The entries of each reply that is due keep it.
pub reply_stands : (w : World) (e : EnlNo) (r : Reply) (n : Note) → Stands w.past → IsAsked w.past → due_of (half w).seen e.value ≡ Some n → fits r n ≡ true → Stands (onto w.past (reply_entries (half w) e r))
unfolding reply_entries
reply_stands w e (VoteReply v) n k a d f = vote_reply w e v n k (a.left e) d f
reply_stands w e (Promotes ok) n k a d f = promote_reply w e ok k (may_promote w.past e ok n k a (owed w.past (Promotes ok) n e.value refl d f))
reply_stands w e (OwnerReply x) n k a d f =
    let D : Option Note → Type 0 = λ m. Stands (onto w.past (owner_entries (half w) e x m)) in subst D (sym d) (owner_reply w e x n k a (owed w.past (OwnerReply x) n e.value refl d f))
reply_stands w e Ack n k a d f = ack_stands w e (conn_due (half w).seen e.value) refl k
