-- The block of a decision, and of a veto, keeps the table: a promotion that is under way fails, the outcome is decided, each call that waits is answered, and the
-- coordinator is told of the veto.
use Rattle.std.proofs.Common.{◌≡◌, Bool, true, false, ◌||◌, List, [], ◌∷◌, ◌++◌, Some, refl, ◌∙◌, ap, sym, subst}
use Rattle.std.specs.Prelude.{not, if◌then◌else◌}
use Rattle.dtx_values.specs.declared.entry.Answer.TheVariants.{Ended}
use Rattle.dtx_values.specs.declared.entry.Entry.{Entry}
use Rattle.dtx_values.specs.declared.entry.Entry.TheVariants.{Answered, Decided, PromotionFailed, Sent}
use Rattle.dtx_values.specs.declared.message.Conn.{Conn}
use Rattle.dtx_values.specs.declared.message.Conn.TheVariants.{Begin, Voter}
use Rattle.dtx_values.specs.declared.message.Dir.TheVariants.{Up}
use Rattle.dtx_values.specs.declared.message.Message.{Message}
use Rattle.dtx_values.specs.declared.message.Message.TheVariants.{BeginAbort, VoterNo}
use Rattle.dtx_values.specs.declared.number.EnlNo.{EnlNo}
use Rattle.dtx_values.specs.declared.number.RmNo.{RmNo}
use Rattle.dtx_values.specs.declared.words.Outcome.{Outcome}
use Rattle.dtx_values.specs.declared.words.Outcome.TheVariants.{Aborted}
use Rattle.dtx_values.specs.Ends.{knows, may_abort_by_begin, may_abort_by_voter}
use Rattle.dtx_values.specs.Lines.{has_line, is_opening}
use Rattle.dtx_model.specs.Words.{has, latest, onto}
use Rattle.dtx_model.specs.Entries.{decision_of, is_decision}
use Rattle.dtx_model.specs.Observed.{ends_of, observe}
use Rattle.dtx_model.specs.Promotes.{ends_refused, is_promoting, is_under_way}
use Rattle.dtx_model.specs.Tied.{is_tied, tied}
use Rattle.dtx_model.specs.Waiting.{Waiter}
use Rattle.dtx_model.specs.Half.{Half, decide, ended, fails_if, to_up, veto, veto_message, is_promoting as sees_promoting}
use Rattle.dtx_model.specs.Wires.{MayCross, opens}
use Rattle.dtx_model.proofs.Bools.{and_both, and_right, not_false, or_false, or_right}
use Rattle.std.proofs.lemmas.Bool.{or_left}
use Rattle.history_table.proofs.Crossed.{is_sent_on}
use Rattle.history_table.proofs.Messages.{COMMIT, YES}
use Rattle.history_table.proofs.SentSeen.{commit_unsent, yes_unsent}
use Rattle.dtx_model.proofs.Reading.{has-onto}
use Rattle.history_table.proofs.Tests.{four_hold}
use Rattle.history_table.proofs.Table.{but_failed, decision_row, ends_called_off, ends_with, is_abort_decided, is_abort_request, is_commit_sent, is_there, is_yes_sent, message_row, rule, ruled}
use Rattle.history_table.proofs.Keeping.{Keeps}
use Rattle.history_table.proofs.Sendings.{opened_promoting}
use Rattle.history_table.proofs.HalfKnows.{known_opened, way_seen}
use Rattle.dtx_model.proofs.Histories.{onto-append}

-- one more entry keeps the table where it keeps its row, finds what may be found, and comes where it may cross
pub one_more : (x : Entry) (h : List Entry) → is_tied h x ≡ true → MayCross h x → Keeps h → rule h x ≡ true → Keeps (x ∷ h)
one_more x h t c k r = record { rules = and_both (rule h x) (ruled h) r k.rules; ties = and_both (is_tied h x) (tied h) t k.ties; wires = (c, k.wires) }

-- what some entry passes, some passes after a block
pub stays : (p : Entry → Bool) (h es : List Entry) → has p h ≡ true → has p (onto h es) ≡ true
stays p h es k = has-onto p h es ∙ or_right (has p es) (has p h) k

-- the answers of the calls that wait have no row, and decide nothing
answers_keep : (ws : List Waiter) (o : Outcome) (h : List Entry) → Keeps h → Keeps (onto h (ended ws o))
answers_keep [] o h k = k
answers_keep (w ∷ ws) o h k = answers_keep ws o (Answered w.0 (Ended o) ∷ h) (one_more (Answered w.0 (Ended o)) h refl tt k refl)

answers_decide : (ws : List Waiter) (o : Outcome) (h : List Entry) → latest decision_of (onto h (ended ws o)) ≡ latest decision_of h
answers_decide [] o h = refl
answers_decide (w ∷ ws) o h = answers_decide ws o (Answered w.0 (Ended o) ∷ h)

-- a decision, where this is under way or not
decided_block : (b : Bool) (ws : List Waiter) (o : Outcome) (h : List Entry) → Keeps h → has is_decision h ≡ false → (b ≡ true → rule h PromotionFailed ≡ true)
    → decision_row (onto h (fails_if b)) o ≡ true → Keeps (onto h (fails_if b ++ Decided o ∷ ended ws o))
decided_block true ws o h k d f r =
    answers_keep ws o (Decided o ∷ PromotionFailed ∷ h)
    (one_more (Decided o) (PromotionFailed ∷ h) refl tt (one_more PromotionFailed h refl tt k (f refl))
    (and_both (not (has is_decision h)) (decision_row (PromotionFailed ∷ h) o) (not_false (has is_decision h) d) r))
decided_block false ws o h k d f r =
    answers_keep ws o (Decided o ∷ h) (one_more (Decided o) h refl tt k (and_both (not (has is_decision h)) (decision_row h o) (not_false (has is_decision h) d) r))

-- it is decided after that
decided_last : (b : Bool) (ws : List Waiter) (o : Outcome) (h : List Entry) → latest decision_of (onto h (fails_if b ++ Decided o ∷ ended ws o)) ≡ Some o
decided_last true ws o h = answers_decide ws o (Decided o ∷ PromotionFailed ∷ h)
decided_last false ws o h = answers_decide ws o (Decided o ∷ h)

pub decided_there : (h : List Entry) (o : Outcome) → latest decision_of h ≡ Some o → has is_decision h ≡ true
decided_there [] o k = absurd cc
decided_there (Decided p ∷ h) o k = refl
decided_there (x ∷ h) o k = decided_there h o k

-- the half that has seen this history
abbrev pub seen_half : List Entry → List Waiter → List (EnlNo × RmNo) → Half
seen_half h ws ms = record { seen = observe h; waits = ws; managers = ms }

-- a promotion fails after a veto, a refusal or an abort
failed_row : (h : List Entry) → (is_under_way h ≡ true → ends_refused h ≡ true) → sees_promoting (observe h) ≡ true → rule h PromotionFailed ≡ true
failed_row h f b = let way = sym (way_seen h) ∙ b in and_both (is_under_way h) (ends_refused h) way (f way)

-- a decision keeps the table, and stands after it
pub decide_keeps : (h : List Entry) (ws : List Waiter) (ms : List (EnlNo × RmNo)) (o : Outcome) → Keeps h → has is_decision h ≡ false → (is_under_way h ≡ true → ends_refused h ≡ true)
    → ((b : Bool) → sees_promoting (observe h) ≡ b → decision_row (onto h (fails_if b)) o ≡ true) → Keeps (onto h (decide (seen_half h ws ms) o))
decide_keeps h ws ms o k d f r = decided_block (sees_promoting (observe h)) ws o h k d (failed_row h f) (r (sees_promoting (observe h)) refl)

pub decide_decides : (h : List Entry) (ws : List Waiter) (ms : List (EnlNo × RmNo)) (o : Outcome) → latest decision_of (onto h (decide (seen_half h ws ms) o)) ≡ Some o
decide_decides h ws ms o = decided_last (sees_promoting (observe h)) ws o h

-- an abort, after an entry that calls it off
pub abort_keeps : (h : List Entry) (ws : List Waiter) (ms : List (EnlNo × RmNo)) → Keeps h → has is_decision h ≡ false → (is_under_way h ≡ true → ends_refused h ≡ true)
    → ends_called_off h ≡ true → ends_called_off (but_failed h) ≡ true → Keeps (onto h (decide (seen_half h ws ms) Aborted))
abort_keeps h ws ms k d f c e = decide_keeps h ws ms Aborted k d f (λ b q. row b)
  where
    row : (b : Bool) → decision_row (onto h (fails_if b)) Aborted ≡ true
    row true = c
    row false = e

-- a message that is sent on a connection that was opened, and opens none
pub sent_keeps : (c : Conn) (m : Message) (h : List Entry) → Keeps h → has_line c Up m ≡ true → has (opens c) h ≡ true → message_row h c m ≡ true → Keeps (Sent c Up m ∷ h)
sent_keeps c m h k l o r =
    one_more (Sent c Up m) h refl tt k
    (four_hold (has_line c Up m) (has is_promoting h) (is_there h c Up m) (message_row h c m) l (opened_promoting c h k o) (or_right (is_opening c m) (has (opens c) h) o) r)

-- a message that is sent where the connection is known
pub to_up_keeps : (g h : List Entry) (c : Conn) (m : Message) → Keeps h → has_line c Up m ≡ true → (has (opens c) g ≡ true → has (opens c) h ≡ true) → message_row h c m ≡ true
    → Keeps (onto h (to_up (observe g) c m))
unfolding observe
to_up_keeps g h c m k l w r = step (knows c (ends_of g)) refl
  where
    step : (b : Bool) → knows c (ends_of g) ≡ b → Keeps (onto h (if b then Sent c Up m ∷ [] else []))
    step true e = sent_keeps c m h k l (w (known_opened c g e)) r
    step false e = k

-- the message of a veto, where nothing was sent since
message_keeps : (g h : List Entry) → Keeps g → Keeps h → ((c : Conn) → has (opens c) g ≡ true → has (opens c) h ≡ true)
    → ((c : Conn) (p : Message → Bool) → has (is_sent_on c Up p) g ≡ false → has (is_sent_on c Up p) h ≡ false) → latest decision_of h ≡ Some Aborted
    → Keeps (onto h (veto_message (observe g)))
unfolding observe
message_keeps g h l k w s d = step (may_abort_by_begin (ends_of g)) (may_abort_by_voter (ends_of g)) refl refl
  where
    called : is_abort_decided h ≡ true
    called = rw d refl

    aborted : may_abort_by_begin (ends_of g) ≡ true → message_row h Begin BeginAbort ≡ true
    aborted t =
        and_both (is_abort_decided h || ends_with is_abort_request h) (not (has is_commit_sent h)) (or_left (is_abort_decided h) (ends_with is_abort_request h) called)
        (not_false (has is_commit_sent h) (s Begin COMMIT (commit_unsent g l t)))

    refused : may_abort_by_voter (ends_of g) ≡ true → message_row h Voter VoterNo ≡ true
    refused t = and_both (is_abort_decided h) (not (has is_yes_sent h)) called (not_false (has is_yes_sent h) (s Voter YES (yes_unsent g l t)))

    step : (a b : Bool) → may_abort_by_begin (ends_of g) ≡ a → may_abort_by_voter (ends_of g) ≡ b
        → Keeps (onto h (if a then Sent Begin Up BeginAbort ∷ [] else if b then Sent Voter Up VoterNo ∷ [] else []))
    step true b p q = sent_keeps Begin BeginAbort h k refl (w Begin (known_opened Begin g (and_right _ (knows Begin (ends_of g)) p))) (aborted p)
    step false true p q = sent_keeps Voter VoterNo h k refl (w Voter (known_opened Voter g (and_right _ (knows Voter (ends_of g)) q))) (refused q)
    step false false p q = k

-- a decision sends nothing
ended_unsent : (c : Conn) (p : Message → Bool) (ws : List Waiter) (o : Outcome) → has (is_sent_on c Up p) (ended ws o) ≡ false
ended_unsent c p [] o = refl
ended_unsent c p (w ∷ ws) o = ended_unsent c p ws o

decide_unsent : (c : Conn) (p : Message → Bool) (h : List Entry) (v : Half) (o : Outcome) → has (is_sent_on c Up p) h ≡ false → has (is_sent_on c Up p) (onto h (decide v o)) ≡ false
decide_unsent c p h v o n = has-onto (is_sent_on c Up p) h (decide v o) ∙ or_false (has (is_sent_on c Up p) (decide v o)) (has (is_sent_on c Up p) h) (none (sees_promoting v.seen)) n
  where
    none : (b : Bool) → has (is_sent_on c Up p) (fails_if b ++ Decided o ∷ ended v.waits o) ≡ false
    none true = ended_unsent c p v.waits o
    none false = ended_unsent c p v.waits o

-- a veto keeps the table
pub veto_keeps : (h : List Entry) (ws : List Waiter) (ms : List (EnlNo × RmNo)) → Keeps h → has is_decision h ≡ false → (is_under_way h ≡ true → ends_refused h ≡ true)
    → ends_called_off h ≡ true → ends_called_off (but_failed h) ≡ true → Keeps (onto h (veto (seen_half h ws ms)))
unfolding veto
veto_keeps h ws ms k d f c e =
    let first = decide (seen_half h ws ms) Aborted in
    subst Keeps (sym (onto-append h first (veto_message (observe h))))
    (message_keeps h (onto h first) k (abort_keeps h ws ms k d f c e) (λ n o. stays (opens n) h first o) (λ n p u. decide_unsent n p h (seen_half h ws ms) Aborted u)
    (decide_decides h ws ms Aborted))

-- and is decided after that
pub veto_decides : (h : List Entry) (ws : List Waiter) (ms : List (EnlNo × RmNo)) → has is_decision (onto h (veto (seen_half h ws ms))) ≡ true
unfolding veto
veto_decides h ws ms =
    let first = decide (seen_half h ws ms) Aborted in
    ap (has is_decision) (onto-append h first (veto_message (observe h)))
    ∙ stays is_decision (onto h first) (veto_message (observe h)) (decided_there (onto h first) Aborted (decide_decides h ws ms Aborted))
