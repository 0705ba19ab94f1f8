-- Rows that the joint table gives of what is bad: whoever replies was made with a class that does, and a refusal, an abort, a doubt and what tells them have their cause.
use Rattle.std.proofs.Common.{◌≡◌, ℕ, ◌==◌, Bool, true, false, ◌&&◌, ◌||◌, List, [], ◌∷◌, refl, ap, sym, ◌∙◌}
use Rattle.std.specs.Prelude.{not}
use Rattle.std.proofs.lemmas.Bool.{or_left}
use Rattle.dtx_values.specs.declared.entry.Entry.{Entry}
use Rattle.dtx_values.specs.declared.entry.Entry.TheVariants.{Enlisted, Voted, PromoteReply, Requested, OwnerAnswered, Decided, Told, PromotionFailed, Sent, Got, Restarted}
use Rattle.dtx_values.specs.declared.entry.Party.{Party}
use Rattle.dtx_values.specs.declared.entry.Party.TheVariants.{Client, Enl as Member}
use Rattle.dtx_values.specs.declared.entry.Request.TheVariants.{Abort}
use Rattle.dtx_values.specs.declared.message.Conn.{Conn}
use Rattle.dtx_values.specs.declared.message.Conn.TheVariants.{Enl, Again}
use Rattle.dtx_values.specs.declared.message.Dir.TheVariants.{Down}
use Rattle.dtx_values.specs.declared.message.Message.{Message}
use Rattle.dtx_values.specs.declared.message.Message.TheVariants.{BeginAbort, BeginAborted, BeginInDoubt, VoterNo, VoterRefused, VoterAbort, VoterInDoubt, EnlistNo, EnlistRefused, EnlistAbort, EnlistOneAborted, EnlistOneInDoubt, ReenlistAborted}
use Rattle.dtx_values.specs.declared.number.EnlNo.{EnlNo}
use Rattle.dtx_values.specs.declared.words.Class.{Class}
use Rattle.dtx_values.specs.declared.words.Outcome.{Outcome}
use Rattle.dtx_values.specs.declared.words.Outcome.TheVariants.{Committed, Aborted, InDoubt}
use Rattle.dtx_values.specs.declared.words.Vote.TheVariants.{Yes, No, Done}
use Rattle.dtx_values.specs.Class.{is_promotable, is_volatile}
use Rattle.dtx_model.specs.Words.{has, always, latest}
use Rattle.dtx_model.specs.Entries.{decision_of, is_any_single_sent, is_decision, is_hand, is_owner, is_promoted, is_sealed, is_yes, same_outcome}
use Rattle.dtx_model.specs.Learned.{coordinator_aborted}
use Rattle.dtx_model.specs.Outcome.{can_own, durables, enlisted, evidence, hears_doubt, is_veto}
use Rattle.dtx_model.specs.Promotes.{ends_refused, ends_told, is_refusal, is_under_way}
use Rattle.dtx_model.proofs.Bools.{and_both, and_left, and_right, or_case, or_right}
use Rattle.history_table.proofs.Tests.{first_of_three, second_of_three, first_of_five, fourth_of_four}
use Rattle.history_table.proofs.Scans.{has_more}
use Rattle.history_table.proofs.Owned.{has_filter}
use Rattle.dtx_model.specs.Observed.{is_request}
use Rattle.history_table.proofs.Handed.{is_answered}
use Rattle.history_table.proofs.Sendings.{ends_has}
use Rattle.history_table.proofs.EntryTests.{is_answer, is_certain, is_decided, is_enlisted, is_only, is_no_vote}
use Rattle.settled_histories.proofs.Fine.{any_class, blames, ends_aborted, ends_requested, has_cause, is_caused, is_made}
use Rattle.history_table.proofs.Table.{brings, but_failed, decision_row, ends_again, ends_called_off, ends_with, has_just_answered, hears_decision, hears_here, is_abort_decided, is_abort_request, is_aborted_for_good, is_cast, is_commit_sent, is_lost_there, is_one_aborted, is_yes_sent, may_answer, message_row, rule, stands_promotable}
use Rattle.history_table.proofs.Keeping.{Keeps, keeps_before, newest}
use Rattle.history_table.proofs.Evident.{hand_stands}
use Rattle.settled_histories.proofs.BeforeRows.{by_keeping, row_of}
use Rattle.dtx_model.specs.AtLog.{is_restart}

-- who stands with a class that passes was made with one
pub listed_made : (e : ℕ) (q : Class → Bool) (h : List Entry) → has (λ x. (e == x.0.value) && q x.1) (enlisted h) ≡ has (is_made e q) h
listed_made e q [] = refl
listed_made e q (Enlisted f c ∷ h) = ap (λ b. ((e == f.value) && q c) || b) (listed_made e q h)
listed_made e q (x ∷ h) = listed_made e q h

made_enlisted : (e : ℕ) (x : Entry) → is_enlisted e x ≡ true → is_made e any_class x ≡ true
made_enlisted e (Enlisted f c) k = and_both (e == f.value) true k refl
made_enlisted e _ k = absurd cc

-- the only durable or promotable stands, and can own the commit
only_has : (e : ℕ) (ds : List (EnlNo × Class)) → is_only e ds ≡ true → has (λ x. (e == x.0.value) && can_own x.1) ds ≡ true
only_has e [] k = absurd cc
only_has e (x ∷ []) k = or_left ((e == x.0.value) && can_own x.1) false k
only_has e (x ∷ y ∷ ds) k = absurd cc

handed_made : (e : ℕ) (h : List Entry) → Keeps h → has (is_hand e) h ≡ true → has (is_made e can_own) h ≡ true
handed_made e h k s =
    let owner : EnlNo × Class → Bool = λ x. (e == x.0.value) && can_own x.1 in
    sym (listed_made e can_own h)
    ∙ has_more (λ x. owner x && not (is_volatile x.1)) owner (λ x t. and_left (owner x) (not (is_volatile x.1)) t) (enlisted h)
    (sym (has_filter owner (λ x. not (is_volatile x.1)) (enlisted h)) ∙ only_has e (durables h) (hand_stands e h k s).alone)

-- what the local side aborts after is a veto, a refusal or an abort that was told
called_refused : (h : List Entry) → ends_called_off h ≡ true → ends_refused h ≡ true
called_refused [] k = absurd cc
called_refused (x ∷ h) k = step (is_veto h x) (evidence h) (not (has is_yes h) || is_lost_there h x) (is_refusal x) (ends_told h x) k
  where
    step : (v e l r t : Bool) → (((v && not e) && l) || (r || t)) ≡ true → (v || r || t) ≡ true
    step true e l r t k = refl
    step false e l r t k = k

called_blames : (h : List Entry) → ends_called_off (but_failed h) ≡ true → blames h ≡ true
called_blames [] k = absurd cc
called_blames (PromotionFailed ∷ h) k = called_refused h k
called_blames (x ∷ h) k = called_refused (x ∷ h) k

decided_caused : (h : List Entry) (o : Outcome) → decision_row h o ≡ true → is_caused h (Decided o) ≡ true
decided_caused h Committed k = refl
decided_caused h Aborted k = called_blames h k
decided_caused h InDoubt k = k

-- who is told hears the decision, or a message of the coordinator
abort_ends : (e : ℕ) (h : List Entry) → ends_with (brings e Aborted) h ≡ true → ends_aborted h ≡ true
abort_ends e [] k = absurd cc
abort_ends e (Got (Enl f) Down EnlistAbort ∷ h) k = refl
abort_ends e (Got (Again f) Down ReenlistAborted ∷ h) k = refl
abort_ends e (x ∷ h) k = absurd cc

pub doubt_ends : (e : ℕ) (h : List Entry) → ends_with (brings e InDoubt) h ≡ false
doubt_ends e [] = refl
doubt_ends e (x ∷ h) = refl

told_here : (h : List Entry) (p : Party) (o : Outcome) → hears_here h p o ≡ true → ((same_outcome o Aborted && ends_aborted h) || same_outcome o Committed) ≡ true
told_here h Client o k = absurd cc
told_here h (Member e) Committed k = refl
told_here h (Member e) Aborted k = or_left (ends_aborted h) false (abort_ends e.value h k)
told_here h (Member e) InDoubt k = absurd (no (ends_with (brings e.value InDoubt) h) (doubt_ends e.value h) k)
  where
    no : (b : Bool) → b ≡ false → b ≡ true → ⊥
    no b n k = cc

told_caused : (h : List Entry) (p : Party) (o : Outcome) → rule h (Told p o) ≡ true → is_caused h (Told p o) ≡ true
told_caused h p o k =
    or_case (hears_here h p o) (hears_decision h p o)
    (λ a. three (is_decided o (latest decision_of h)) (same_outcome o Aborted && ends_aborted h) (same_outcome o Committed) (told_here h p o a))
    (λ a. or_left (is_decided o (latest decision_of h) || (same_outcome o Aborted && ends_aborted h)) (same_outcome o Committed)
    (or_left (is_decided o (latest decision_of h)) (same_outcome o Aborted && ends_aborted h)
    (first_of_three (is_decided o (latest decision_of h)) (is_certain o || hears_doubt h p) (not (ends_again h p)) a))) k
  where
    three : (a b c : Bool) → (b || c) ≡ true → (a || b || c) ≡ true
    three true b c k = refl
    three false b c k = k

-- a message that is sent has its cause
request_ends : (h : List Entry) → ends_with is_abort_request h ≡ true → ends_requested h ≡ true
request_ends [] k = absurd cc
request_ends (Requested e Abort ∷ h) k = refl
request_ends (x ∷ h) k = absurd cc

cast_no : (c : Conn) (x : Entry) → is_cast c No x ≡ true → is_no_vote x ≡ true
cast_no (Enl e) (Voted f No) k = refl
cast_no (Enl e) (Voted f Yes) k = absurd (never (e.value == f.value) k)
  where
    never : (a : Bool) → (a && false) ≡ true → ⊥
    never true k = cc
    never false k = cc
cast_no (Enl e) (Voted f Done) k = absurd (never (e.value == f.value) k)
  where
    never : (a : Bool) → (a && false) ≡ true → ⊥
    never true k = cc
    never false k = cc
cast_no c x k = absurd cc

good_abort : (h : List Entry) → is_aborted_for_good h ≡ true → (coordinator_aborted h || has is_restart h) ≡ true
good_abort h k = or_left (coordinator_aborted h) (has is_restart h) (and_left (coordinator_aborted h) (not (has is_any_single_sent h) || has is_one_aborted h) k)

-- who has just answered, answered
owner_said : (e : ℕ) (o : Outcome) (x : Entry) → is_owner e o x ≡ true → is_answered o x ≡ true
owner_said e o (OwnerAnswered f p) k = and_right (e == f.value) (same_outcome o p) k
owner_said e o x k = absurd cc

answer_stood : (c : Conn) (o : Outcome) (h : List Entry) → has_just_answered c o h ≡ true → has (is_answered o) h ≡ true
answer_stood (Enl e) o h k = has_more (is_owner e.value o) (is_answered o) (owner_said e.value o) h (ends_has (is_owner e.value o) h k)
answer_stood c o h k = absurd cc

message_caused : (h : List Entry) (c : Conn) (m : Message) → message_row h c m ≡ true → has_cause h m ≡ true
message_caused h c BeginAbort k =
    or_case (is_abort_decided h) (ends_with is_abort_request h) (λ a. or_left (is_abort_decided h) (ends_requested h) a) (λ a. or_right (is_abort_decided h) (ends_requested h) (request_ends h a))
    (and_left (is_abort_decided h || ends_with is_abort_request h) (not (has is_commit_sent h)) k)
message_caused h c BeginAborted k = good_abort h k
message_caused h c BeginInDoubt k = k
message_caused h c VoterNo k = and_left (is_abort_decided h) (not (has is_yes_sent h)) k
message_caused h c (VoterRefused cause) k = good_abort h k
message_caused h c VoterAbort k = good_abort h k
message_caused h c VoterInDoubt k = k
message_caused h c EnlistNo k = has_more (is_cast c No) is_no_vote (cast_no c) h k
message_caused h c (EnlistRefused cause) k = good_abort h k
message_caused h c EnlistAbort k = good_abort h k
message_caused h c EnlistOneAborted k = answer_stood c Aborted h k
message_caused h c EnlistOneInDoubt k = answer_stood c InDoubt h k
message_caused h c ReenlistAborted k = or_left (coordinator_aborted h) (has is_restart h) k
message_caused h c m k = refl

-- In a history that keeps the table, what is bad has its cause.
pub kept_caused : (h : List Entry) → Keeps h → always is_caused h ≡ true
kept_caused = by_keeping is_caused at
  where
    at : (x : Entry) (h : List Entry) → Keeps (x ∷ h) → is_caused h x ≡ true
    at (Voted e v) h k =
        has_more (is_enlisted e.value) (is_made e.value any_class) (made_enlisted e.value) h
        (first_of_five (has (is_enlisted e.value) h) _ _ _ _ (newest (Voted e v) h k))
    at (OwnerAnswered e o) h k =
        handed_made e.value h (keeps_before (OwnerAnswered e o) h k) (second_of_three (may_answer h) (has (is_hand e.value) h) (not (has is_answer h)) (newest (OwnerAnswered e o) h k))
    at (PromoteReply e ok) h k =
        sym (listed_made e.value is_promotable h) ∙ and_right (not (has is_decision h) && is_under_way h) (stands_promotable e.value h) (newest (PromoteReply e ok) h k)
    at (Requested e r) h k =
        sym (listed_made e.value is_promotable h)
        ∙ and_left (stands_promotable e.value h) (not (has is_request h)) (fourth_of_four (not (has is_decision h)) (has is_promoted h) (has is_sealed h) _ (newest (Requested e r) h k))
    at PromotionFailed h k = and_right (is_under_way h) (ends_refused h) (newest PromotionFailed h k)
    at (Decided o) h k = decided_caused h o (and_right (not (has is_decision h)) (decision_row h o) (newest (Decided o) h k))
    at (Told p o) h k = told_caused h p o (newest (Told p o) h k)
    at (Sent c d m) h k = message_caused h c m (row_of c d m h (newest (Sent c d m) h k))
    at (Restarted found) h k = newest (Restarted found) h k
    at x h k = refl
