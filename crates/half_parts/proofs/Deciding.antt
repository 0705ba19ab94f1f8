-- What a decision leaves as it is, and what it writes.
use Rattle.std.proofs.Common.{◌≡◌, ◌≤◌, ℕ, Bool, true, false, not, ◌&&◌, List, [], ◌∷◌, ◌++◌, length, if◌then◌else◌, refl, ap, arith}
use Rattle.std.proofs.lemmas.List.{length-map}
use Rattle.dtx_values.specs.declared.entry.Answer.TheVariants.{Ended}
use Rattle.dtx_values.specs.declared.entry.Entry.{Entry}
use Rattle.dtx_values.specs.declared.entry.Entry.TheVariants.{Answered, Decided, Sent, Told}
use Rattle.dtx_values.specs.declared.end.End.{End}
use Rattle.dtx_values.specs.declared.words.Outcome.{Outcome}
use Rattle.dtx_values.specs.Outgoing.{Outgoing, sends_of, written}
use Rattle.dtx_model.specs.declared.waiting.EnteredCall.{EnteredCall}
use Rattle.dtx_model.specs.Waiting.{Waiter}
use Rattle.dtx_values.specs.declared.message.Conn.TheVariants.{Begin, Voter}
use Rattle.dtx_values.specs.declared.entry.Party.TheVariants.{Enl as Member}
use Rattle.dtx_values.specs.declared.number.EnlNo.{EnlNo}
use Rattle.dtx_values.specs.declared.words.Outcome.TheVariants.{Aborted}
use Rattle.dtx_model.specs.Arrivals.{aborted_by, told_abort}
use Rattle.dtx_values.specs.declared.message.Dir.TheVariants.{Up}
use Rattle.dtx_values.specs.declared.message.Message.TheVariants.{BeginAbort, VoterNo}
use Rattle.dtx_values.specs.Ends.{may_abort_by_begin, may_abort_by_voter}
use Rattle.dtx_model.specs.Observed.{Observed, track}
use Rattle.dtx_model.specs.Half.{Half, decide, ended, fails_if, heeds, heeds_all, is_gone, is_promoting, stands, veto_message, was_told}
use Rattle.half_parts.specs.Half.{IsLeft}

-- two blocks after each other
pub heeds_all-append : (ks : List EnteredCall) (h : Half) (xs ys : List Entry) → heeds_all ks (heeds_all ks h xs) ys ≡ heeds_all ks h (xs ++ ys)
unfolding heeds_all
heeds_all-append ks h [] ys = refl
heeds_all-append ks h (x ∷ xs) ys = heeds_all-append ks (heeds ks h x) xs ys

-- answers change no connection
ends_answered : (h : Half) (ws : List Waiter) (x : Outcome) → (heeds_all [] h (ended ws x)).seen.ends ≡ h.seen.ends
unfolding heeds_all track
ends_answered h [] x = refl
ends_answered h (w ∷ ws) x = ends_answered (heeds [] h (Answered w.0 (Ended x))) ws x

-- nor does a decision
pub ends_decided : (h : Half) (x : Outcome) → (heeds_all [] h (decide h x)).seen.ends ≡ h.seen.ends
unfolding heeds_all track
ends_decided h x = by (is_promoting h.seen)
  where
    by : (b : Bool) → (heeds_all [] h (fails_if b ++ Decided x ∷ ended h.waits x)).seen.ends ≡ h.seen.ends
    by true = ends_answered _ h.waits x
    by false = ends_answered _ h.waits x

-- few entries that send nothing
pub left_of : (o : Outgoing) (es : List Entry) (n : ℕ) → length es ≤ n → sends_of es ≡ [] → IsLeft n 0 o (written o es)
left_of o es n le none = record { entries_left = omega (arith, le); messages_left = let zero = ap length none in omega (arith, zero) }

pub fails_short : (b : Bool) (x : Outcome) → length (fails_if b ++ Decided x ∷ []) ≤ 2
fails_short true x = omega arith
fails_short false x = omega arith

pub fails_unsent : (b : Bool) (x : Outcome) → sends_of (fails_if b ++ Decided x ∷ []) ≡ []
fails_unsent true x = refl
fails_unsent false x = refl

pub ended_unsent : (ws : List Waiter) (x : Outcome) → sends_of (ended ws x) ≡ []
ended_unsent [] x = refl
ended_unsent (w ∷ ws) x = ended_unsent ws x

pub ended_length : (ws : List Waiter) (x : Outcome) → length (ended ws x) ≡ length ws
ended_length ws x = length-map ws (λ w. Answered w.0 (Ended x))

-- the message of a veto hangs on the connections alone
pub message_by : (o p : Observed) → o.ends ≡ p.ends → veto_message o ≡ veto_message p
message_by o p same =
    ap (λ (ns : List End). if may_abort_by_begin ns then Sent Begin Up BeginAbort ∷ [] else if may_abort_by_voter ns then Sent Voter Up VoterNo ∷ [] else []) same

-- what follows of an abort doesn't hang on whom it was told to
aborted_same : (h : Half) (e : EnlNo) (b : Bool) → aborted_by (heeds_all [] h (if b then Told (Member e) Aborted ∷ [] else [])) ≡ aborted_by h
unfolding heeds_all track
aborted_same h e true = refl
aborted_same h e false = refl

pub aborted_after : (h : Half) (e : EnlNo) → aborted_by (heeds_all [] h (told_abort h e)) ≡ aborted_by h
aborted_after h e = aborted_same h e (stands h.seen e.value && not (was_told h.seen e.value) && not (is_gone h.seen e.value))
