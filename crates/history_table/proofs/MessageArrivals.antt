-- The blocks of the messages that bring an outcome, an abort or a refusal, and of PREPARE, keep the table.
use Rattle.std.proofs.Common.{◌≡◌, true, ◌||◌, List, ◌∷◌, ◌&&◌, false, [], Option, Some, None, refl, Bool, ◌∙◌, sym, ℕ, ap, ◌==◌, ◌++◌}
use Rattle.std.specs.Prelude.{not, is_some, if◌then◌else◌}
use Rattle.std.proofs.lemmas.Bool.{or_left}
use Rattle.dtx_values.specs.declared.entry.Ask.TheVariants.{Prepare}
use Rattle.dtx_values.specs.declared.entry.Entry.{Entry}
use Rattle.dtx_values.specs.declared.entry.Entry.TheVariants.{Down as Ended, Got, Handed, Told, Asked}
use Rattle.dtx_values.specs.declared.entry.Party.TheVariants.{Enl as Member}
use Rattle.dtx_values.specs.declared.message.Conn.{Conn}
use Rattle.dtx_values.specs.declared.message.Conn.TheVariants.{Begin, Voter, Enl, Again}
use Rattle.dtx_values.specs.declared.message.Dir.TheVariants.{Down}
use Rattle.dtx_values.specs.declared.message.Message.{Message}
use Rattle.dtx_values.specs.declared.message.Message.TheVariants.{EnlistAbort, EnlistPrepare, EnlistCommit, EnlistSingle, ReenlistCommitted, ReenlistAborted}
use Rattle.dtx_values.specs.declared.number.EnlNo.{EnlNo}
use Rattle.dtx_values.specs.declared.number.RmNo.{RmNo}
use Rattle.dtx_values.specs.declared.words.Outcome.TheVariants.{InDoubt, Aborted, Committed}
use Rattle.dtx_values.specs.declared.words.Outcome.{Outcome}
use Rattle.dtx_values.specs.Ends.{saw_end}
use Rattle.dtx_values.specs.Row.{is_of}
use Rattle.dtx_values.specs.Table.{voted}
use Rattle.dtx_model.specs.Words.{has, latest, onto}
use Rattle.dtx_model.specs.Entries.{is_yes, decision_of, is_decision, is_record, is_sealed, is_vote, is_asked}
use Rattle.dtx_model.specs.Observed.{observe, ends_of, rows, Observed}
use Rattle.dtx_model.specs.Outcome.{is_veto, is_first_veto, coordinator_doubt, doubt, is_begin_end, is_outcome_got, is_voter_end}
use Rattle.dtx_model.specs.Promotes.{ends_refused, ends_told, is_refusal, is_under_way}
use Rattle.dtx_model.specs.Wires.{MayCross}
use Rattle.dtx_model.specs.Waiting.{Waiter}
use Rattle.dtx_model.specs.Half.{veto, decide, fails_if, is_promoting as sees_promoting, is_gone, stands, was_told}
use Rattle.dtx_model.specs.Arrivals.{unless_decided, ended_there, ended_by, aborted_by, doubted_by, handed_by, is_called_off, refused_by, committed_by, told_abort}
use Rattle.dtx_model.proofs.Bools.{or_case, or_right, not_both, not_false, and_left, and_right, and_both}
use Rattle.history_table.proofs.Table.{calls_off, is_lost_there, decision_row, but_failed, ends_called_off, is_commit_come, is_one_committed, hears_decision, ask_row, rule}
use Rattle.history_table.proofs.EntryTests.{is_decided, undecided}
use Rattle.history_table.proofs.Keeping.{Keeps}
use Rattle.history_table.proofs.Deciding.{decided_there, seen_half, one_more, decide_decides, decide_keeps, abort_keeps, veto_decides, veto_keeps}
use Rattle.history_table.proofs.Undecided.{Stands, decided_stand, way_unsealed, goes_on, stand}
use Rattle.history_table.proofs.Recording.{yes_if_record, sealed_if_yes}
use Rattle.history_table.proofs.Sendings.{end_promoting, is_commit_verdict, verdict_by_got}
use Rattle.history_table.proofs.Doubting.{coordinator_doubts, doubt_by_got, doubt_more, is_doubt_message, sealed_by_doubt}
use Rattle.history_table.proofs.LetDecide.{answered_handed, committed_if_one, sealed_if_handed}
use Rattle.history_table.proofs.LetHand.{hand_row}
use Rattle.history_table.proofs.Evident.{unyes_open}
use Rattle.history_table.proofs.HalfCalls.{veto_stands}
use Rattle.history_table.proofs.HalfKnows.{way_seen}
use Rattle.history_table.proofs.EndsSeen.{begin_end_seen, voter_end_seen}
use Rattle.history_table.proofs.TableRows.{enlisted_in_rows}
use Rattle.history_table.proofs.HalfRows.{unvoted_seen, unenlisted_unvoted}
use Rattle.history_table.proofs.Tests.{eq_self}

-- a refusal or an abort calls it off
refusal_ends : (x : Entry) (h : List Entry) → is_refusal x ≡ true → ends_refused (x ∷ h) ≡ true
refusal_ends x h r = or_left (is_veto h x || is_refusal x) (ends_told h x) (or_right (is_veto h x) (is_refusal x) r)

refusal_off : (x : Entry) (h : List Entry) → is_refusal x ≡ true → calls_off h x ≡ true
refusal_off x h r = or_right (is_first_veto h x && (not (has is_yes h) || is_lost_there h x)) (is_refusal x || ends_told h x) (or_left (is_refusal x) (ends_told h x) r)

-- what is done where nothing is decided, and nothing where something is
pub open_block : (h : List Entry) (ws : List Waiter) (ms : List (EnlNo × RmNo)) (es : List Entry) → Keeps h → (has is_decision h ≡ false → Stands (onto h es))
    → Stands (onto h (unless_decided (seen_half h ws ms) es))
unfolding observe
open_block h ws ms es k f = step (latest decision_of h) refl
  where
    step : (o : Option Outcome) → latest decision_of h ≡ o → Stands (onto h (if is_some o then [] else es))
    step (Some x) e = decided_stand h k (decided_there h x e)
    step None e = f (undecided h e)

-- An end. Before the local yes that of b, v, or of one that hasn't voted is a veto; after it the outcome is in doubt once both are seen.
end_keeps : (c : Conn) (h : List Entry) → MayCross h (Ended c Down) → Keeps h → Keeps (Ended c Down ∷ h)
end_keeps c h m k = one_more (Ended c Down) h refl m k refl

end_veto : (c : Conn) (h : List Entry) (ws : List Waiter) (ms : List (EnlNo × RmNo)) → Keeps (Ended c Down ∷ h) → Stands h → has is_decision h ≡ false → has is_yes h ≡ false
    → is_veto h (Ended c Down) ≡ true → Stands (onto (Ended c Down ∷ h) (veto (seen_half (Ended c Down ∷ h) ws ms)))
end_veto c h ws ms a k d y v =
    veto_stands (Ended c Down) h ws ms refl a d v (unyes_open h k.keeps (end_promoting c Down h a) y) (or_left (not (has is_yes h)) false (not_false (has is_yes h) y))

settled_yes : (h : List Entry) → Keeps h → has is_yes h ≡ true → is_under_way h ≡ true → ⊥
settled_yes h k y w = not_both (has is_sealed h) (sealed_if_yes h k y) (way_unsealed h k w)

both_doubt : (h : List Entry) → has is_yes h ≡ true → has is_begin_end h ≡ true → has is_voter_end h ≡ true → has is_outcome_got h ≡ false → doubt h ≡ true
unfolding coordinator_doubt
both_doubt h y b v o = coordinator_doubts h (rw (y, b, v, o) refl)

end_doubt : (c : Conn) (h : List Entry) (ws : List Waiter) (ms : List (EnlNo × RmNo)) → Keeps (Ended c Down ∷ h) → Stands h → has is_decision h ≡ false → has is_yes h ≡ true
    → (saw_end Begin (ends_of (Ended c Down ∷ h)) && saw_end Voter (ends_of (Ended c Down ∷ h))) ≡ true → Stands (onto (Ended c Down ∷ h) (decide (seen_half (Ended c Down ∷ h) ws ms) InDoubt))
end_doubt c h ws ms a k d y s =
    let g = Ended c Down ∷ h in
    decided_stand (onto (Ended c Down ∷ h) (decide (seen_half (Ended c Down ∷ h) ws ms) InDoubt))
    (decide_keeps (Ended c Down ∷ h) ws ms InDoubt a d (λ w. absurd (settled_yes h k.keeps y w)) (λ b q. by_way b q))
    (decided_there (onto (Ended c Down ∷ h) (decide (seen_half (Ended c Down ∷ h) ws ms) InDoubt)) InDoubt (decide_decides (Ended c Down ∷ h) ws ms InDoubt))
  where
    by_way : (b : Bool) → sees_promoting (observe (Ended c Down ∷ h)) ≡ b → decision_row (onto (Ended c Down ∷ h) (fails_if b)) InDoubt ≡ true
    by_way true q = absurd (settled_yes h k.keeps y (sym (way_seen (Ended c Down ∷ h)) ∙ q))
    by_way false q =
        both_doubt (Ended c Down ∷ h) y (begin_end_seen (Ended c Down ∷ h) (and_left (saw_end Begin (ends_of (Ended c Down ∷ h))) (saw_end Voter (ends_of (Ended c Down ∷ h))) s))
        (voter_end_seen (Ended c Down ∷ h) (and_right (saw_end Begin (ends_of (Ended c Down ∷ h))) (saw_end Voter (ends_of (Ended c Down ∷ h))) s)) (goes_on h k d).unheard

end_alone : (c : Conn) (h : List Entry) → MayCross h (Ended c Down) → Stands h → Stands (Ended c Down ∷ h)
end_alone c h m k = stand (Ended c Down) h refl m k refl (λ g. g)

ended_stands : (c : Conn) (h : List Entry) (ws : List Waiter) (ms : List (EnlNo × RmNo)) → (has is_yes h ≡ false → is_veto h (Ended c Down) ≡ true) → MayCross h (Ended c Down) → Stands h
    → has is_decision h ≡ false → Stands (onto (Ended c Down ∷ h) (ended_there (seen_half (Ended c Down ∷ h) ws ms)))
unfolding observe
ended_stands c h ws ms v m k d = step (has is_yes h) (saw_end Begin (ends_of (Ended c Down ∷ h)) && saw_end Voter (ends_of (Ended c Down ∷ h))) refl refl
  where
    step : (y b : Bool) → has is_yes h ≡ y → (saw_end Begin (ends_of (Ended c Down ∷ h)) && saw_end Voter (ends_of (Ended c Down ∷ h))) ≡ b
        → Stands (onto (Ended c Down ∷ h) (if not y then veto (seen_half (Ended c Down ∷ h) ws ms) else if b then decide (seen_half (Ended c Down ∷ h) ws ms) InDoubt else []))
    step false b e q = end_veto c h ws ms (end_keeps c h m k.keeps) k d e (v e)
    step true true e q = end_doubt c h ws ms (end_keeps c h m k.keeps) k d e q
    step true false e q = end_alone c h m k

-- who has no vote in its row didn't vote
unvoted_here : (h : List Entry) (e : ℕ) → Keeps h → voted e (rows h) ≡ false → has (is_vote e) h ≡ false
unvoted_here h e k v = step (has (is_of e) (rows h)) refl
  where
    step : (b : Bool) → has (is_of e) (rows h) ≡ b → has (is_vote e) h ≡ false
    step true s = unvoted_seen h e k s v
    step false s = unenlisted_unvoted e h k (sym (enlisted_in_rows e h) ∙ s)

-- the end of an enlistment's own connection
enlistment_end : (f : EnlNo) (h : List Entry) (ws : List Waiter) (ms : List (EnlNo × RmNo)) → MayCross h (Ended (Enl f) Down) → Stands h → has is_decision h ≡ false
    → Stands (onto (Ended (Enl f) Down ∷ h) (if has is_yes h || voted f.value (rows h) then [] else veto (seen_half (Ended (Enl f) Down ∷ h) ws ms)))
enlistment_end f h ws ms m k d = step (has is_yes h) (voted f.value (rows h)) refl refl
  where
    step : (y b : Bool) → has is_yes h ≡ y → voted f.value (rows h) ≡ b → Stands (onto (Ended (Enl f) Down ∷ h) (if y || b then [] else veto (seen_half (Ended (Enl f) Down ∷ h) ws ms)))
    step true b e q = end_alone (Enl f) h m k
    step false true e q = end_alone (Enl f) h m k
    step false false e q =
        end_veto (Enl f) h ws ms (end_keeps (Enl f) h m k.keeps) k d e
        (and_both (not (has is_yes h)) (not (has (is_vote f.value) h)) (not_false (has is_yes h) e) (not_false (has (is_vote f.value) h) (unvoted_here h f.value k.keeps q)))

-- The block of an end keeps it.
pub down_stands : (h : List Entry) (ws : List Waiter) (ms : List (EnlNo × RmNo)) (c : Conn) → MayCross h (Ended c Down) → Stands h
    → Stands (onto (Ended c Down ∷ h) (ended_by (seen_half (Ended c Down ∷ h) ws ms) c))
unfolding observe
down_stands h ws ms Begin m k =
    open_block (Ended Begin Down ∷ h) ws ms (ended_there (seen_half (Ended Begin Down ∷ h) ws ms)) (end_keeps Begin h m k.keeps)
    (λ d. ended_stands Begin h ws ms (λ y. not_false (has is_yes h) y) m k d)
down_stands h ws ms Voter m k =
    open_block (Ended Voter Down ∷ h) ws ms (ended_there (seen_half (Ended Voter Down ∷ h) ws ms)) (end_keeps Voter h m k.keeps)
    (λ d. ended_stands Voter h ws ms (λ y. not_false (has is_yes h) y) m k d)
down_stands h ws ms (Enl f) m k =
    open_block (Ended (Enl f) Down ∷ h) ws ms (if has is_yes h || voted f.value (rows h) then [] else veto (seen_half (Ended (Enl f) Down ∷ h) ws ms)) (end_keeps (Enl f) h m k.keeps)
    (λ d. enlistment_end f h ws ms m k d)
down_stands h ws ms (Again f) m k = end_alone (Again f) h m k

pub aborted_stands : (x : Entry) (h : List Entry) (ws : List Waiter) (ms : List (EnlNo × RmNo)) → but_failed (x ∷ h) ≡ x ∷ h → Keeps (x ∷ h) → is_refusal x ≡ true
    → Stands (onto (x ∷ h) (aborted_by (seen_half (x ∷ h) ws ms)))
aborted_stands x h ws ms b k r =
    let off = refusal_off x h r in
    open_block (x ∷ h) ws ms (decide (seen_half (x ∷ h) ws ms) Aborted) k
    (λ d. decided_stand (onto (x ∷ h) (decide (seen_half (x ∷ h) ws ms) Aborted)) (abort_keeps (x ∷ h) ws ms k d (λ w. refusal_ends x h r) off (ap ends_called_off b ∙ off))
    (decided_there (onto (x ∷ h) (decide (seen_half (x ∷ h) ws ms) Aborted)) Aborted (decide_decides (x ∷ h) ws ms Aborted)))

pub refused_stands : (x : Entry) (h : List Entry) (ws : List Waiter) (ms : List (EnlNo × RmNo)) → but_failed (x ∷ h) ≡ x ∷ h → Keeps (x ∷ h) → is_refusal x ≡ true
    → Stands (onto (x ∷ h) (refused_by (seen_half (x ∷ h) ws ms)))
refused_stands x h ws ms b k r =
    let off = refusal_off x h r in
    open_block (x ∷ h) ws ms (veto (seen_half (x ∷ h) ws ms)) k
    (λ d. decided_stand (onto (x ∷ h) (veto (seen_half (x ∷ h) ws ms))) (veto_keeps (x ∷ h) ws ms k d (λ w. refusal_ends x h r) off (ap ends_called_off b ∙ off)) (veto_decides (x ∷ h) ws ms))

-- a commit comes only where it is sealed
come_settled : (c : Conn) (m : Message) (h : List Entry) → Keeps h → Keeps (Got c Down m ∷ h) → is_commit_verdict m ≡ true → is_under_way h ≡ true → ⊥
come_settled c m h k a t w =
    not_both (has is_sealed h)
    (or_case (has is_record h) (has is_one_committed h) (λ r. sealed_if_yes h k (yes_if_record h k r)) (λ o. sealed_if_handed h k (answered_handed Committed h k (committed_if_one h k o)))
    (verdict_by_got c m h a t)) (way_unsealed h k w)

pub committed_stands : (c : Conn) (m : Message) (h : List Entry) (ws : List Waiter) (ms : List (EnlNo × RmNo)) → Keeps h → Keeps (Got c Down m ∷ h) → is_commit_verdict m ≡ true
    → is_commit_come (Got c Down m) ≡ true → Stands (onto (Got c Down m ∷ h) (committed_by (seen_half (Got c Down m ∷ h) ws ms)))
committed_stands c m h ws ms k a t e =
    open_block (Got c Down m ∷ h) ws ms (decide (seen_half (Got c Down m ∷ h) ws ms) Committed) a
    (λ d. decided_stand (onto (Got c Down m ∷ h) (decide (seen_half (Got c Down m ∷ h) ws ms) Committed))
    (decide_keeps (Got c Down m ∷ h) ws ms Committed a d (λ w. absurd (come_settled c m h k a t w)) (λ b q. by_way b q))
    (decided_there (onto (Got c Down m ∷ h) (decide (seen_half (Got c Down m ∷ h) ws ms) Committed)) Committed (decide_decides (Got c Down m ∷ h) ws ms Committed)))
  where
    by_way : (b : Bool) → sees_promoting (observe (Got c Down m ∷ h)) ≡ b → decision_row (onto (Got c Down m ∷ h) (fails_if b)) Committed ≡ true
    by_way true q = absurd (come_settled c m h k a t (sym (way_seen (Got c Down m ∷ h)) ∙ q))
    by_way false q = or_left (is_commit_come (Got c Down m)) _ e

-- What says that it is in doubt decides that.
pub doubted_stands : (c : Conn) (m : Message) (h : List Entry) (ws : List Waiter) (ms : List (EnlNo × RmNo)) → Keeps h → Keeps (Got c Down m ∷ h) → is_doubt_message m ≡ true
    → Stands (onto (Got c Down m ∷ h) (doubted_by (seen_half (Got c Down m ∷ h) ws ms)))
doubted_stands c m h ws ms k a t =
    open_block (Got c Down m ∷ h) ws ms (decide (seen_half (Got c Down m ∷ h) ws ms) InDoubt) a
    (λ d. decided_stand (onto (Got c Down m ∷ h) (decide (seen_half (Got c Down m ∷ h) ws ms) InDoubt))
    (decide_keeps (Got c Down m ∷ h) ws ms InDoubt a d (λ w. absurd (settled w)) (λ b q. by_way b q))
    (decided_there (onto (Got c Down m ∷ h) (decide (seen_half (Got c Down m ∷ h) ws ms) InDoubt)) InDoubt (decide_decides (Got c Down m ∷ h) ws ms InDoubt)))
  where
    settled : is_under_way h ≡ true → ⊥
    settled w = not_both (has is_sealed h) (sealed_by_doubt c m h a t) (way_unsealed h k w)

    by_way : (b : Bool) → sees_promoting (observe (Got c Down m ∷ h)) ≡ b → decision_row (onto (Got c Down m ∷ h) (fails_if b)) InDoubt ≡ true
    by_way true q = absurd (settled (sym (way_seen (Got c Down m ∷ h)) ∙ q))
    by_way false q = doubt_more (Got c Down m) h a (doubt_by_got c m h a t)

-- SINGLE hands the commit over, unless an abort is decided or the enlistment is lost.
called_off_same : (o : Option Outcome) → is_called_off o ≡ is_decided Aborted o
called_off_same (Some Committed) = refl
called_off_same (Some Aborted) = refl
called_off_same (Some InDoubt) = refl
called_off_same None = refl

pub single_stands : (h : List Entry) (ws : List Waiter) (ms : List (EnlNo × RmNo)) (e : EnlNo) → MayCross h (Got (Enl e) Down EnlistSingle) → Stands h
    → Stands (onto (Got (Enl e) Down EnlistSingle ∷ h) (handed_by (seen_half (Got (Enl e) Down EnlistSingle ∷ h) ws ms) e))
unfolding observe
single_stands h ws ms e m k = step (is_called_off (latest decision_of h)) refl (is_gone (observe (Got (Enl e) Down EnlistSingle ∷ h)) e.value)
  where
    alone : Stands (Got (Enl e) Down EnlistSingle ∷ h)
    alone = stand (Got (Enl e) Down EnlistSingle) h refl m k refl (λ g. g)

    handed : is_called_off (latest decision_of h) ≡ false → rule (Got (Enl e) Down EnlistSingle ∷ h) (Handed e) ≡ true
    handed q = hand_row e h alone.keeps (sym (called_off_same (latest decision_of h)) ∙ q)

    step : (b : Bool) → is_called_off (latest decision_of h) ≡ b → (g : Bool) → Stands (onto (Got (Enl e) Down EnlistSingle ∷ h) (if b || g then [] else Handed e ∷ []))
    step true q g = alone
    step false q true = alone
    step false q false = stand (Handed e) (Got (Enl e) Down EnlistSingle ∷ h) refl tt alone (handed q) (λ g. g)

-- The abort of an enlistment: it is told, and then it is decided.
abort_told : (h : List Entry) (ws : List Waiter) (ms : List (EnlNo × RmNo)) (e : EnlNo) → Keeps (Got (Enl e) Down EnlistAbort ∷ h)
    → Stands (onto (Told (Member e) Aborted ∷ Got (Enl e) Down EnlistAbort ∷ h) (aborted_by (seen_half (Told (Member e) Aborted ∷ Got (Enl e) Down EnlistAbort ∷ h) ws ms)))
abort_told h ws ms e a =
    let g = Got (Enl e) Down EnlistAbort ∷ h in
    let own = eq_self e.value in
    let told : Keeps (Told (Member e) Aborted ∷ Got (Enl e) Down EnlistAbort ∷ h) =
    one_more (Told (Member e) Aborted) (Got (Enl e) Down EnlistAbort ∷ h) refl tt a (or_left (e.value == e.value) (hears_decision (Got (Enl e) Down EnlistAbort ∷ h) (Member e) Aborted) own) in
    open_block (Told (Member e) Aborted ∷ Got (Enl e) Down EnlistAbort ∷ h) ws ms (decide (seen_half (Told (Member e) Aborted ∷ Got (Enl e) Down EnlistAbort ∷ h) ws ms) Aborted) told
    (λ d. decided_stand (onto (Told (Member e) Aborted ∷ Got (Enl e) Down EnlistAbort ∷ h) (decide (seen_half (Told (Member e) Aborted ∷ Got (Enl e) Down EnlistAbort ∷ h) ws ms) Aborted))
    (abort_keeps (Told (Member e) Aborted ∷ Got (Enl e) Down EnlistAbort ∷ h) ws ms told d (λ w. own) own own)
    (decided_there (onto (Told (Member e) Aborted ∷ Got (Enl e) Down EnlistAbort ∷ h) (decide (seen_half (Told (Member e) Aborted ∷ Got (Enl e) Down EnlistAbort ∷ h) ws ms) Aborted)) Aborted
    (decide_decides (Told (Member e) Aborted ∷ Got (Enl e) Down EnlistAbort ∷ h) ws ms Aborted)))

pub enlistment_aborted : (h : List Entry) (ws : List Waiter) (ms : List (EnlNo × RmNo)) (e : EnlNo) → Keeps (Got (Enl e) Down EnlistAbort ∷ h)
    → Stands (onto (Got (Enl e) Down EnlistAbort ∷ h) (told_abort (seen_half (Got (Enl e) Down EnlistAbort ∷ h) ws ms) e ++ aborted_by (seen_half (Got (Enl e) Down EnlistAbort ∷ h) ws ms)))
unfolding observe
enlistment_aborted h ws ms e a = step (stands o e.value && not (was_told o e.value) && not (is_gone o e.value))
  where
    o : Observed
    o = observe (Got (Enl e) Down EnlistAbort ∷ h)

    step : (b : Bool) → Stands (onto (Got (Enl e) Down EnlistAbort ∷ h) ((if b then Told (Member e) Aborted ∷ [] else []) ++ aborted_by (seen_half (Got (Enl e) Down EnlistAbort ∷ h) ws ms)))
    step true = abort_told h ws ms e a
    step false = aborted_stands (Got (Enl e) Down EnlistAbort) h ws ms refl a refl

-- PREPARE asks, where it wasn't asked before; COMMIT tells, and so does what a reenlistment gets.
pub prepare_stands : (h : List Entry) (e : EnlNo) → MayCross h (Got (Enl e) Down EnlistPrepare) → Stands h → has (is_asked e.value) h ≡ false
    → Stands (Asked e Prepare ∷ Got (Enl e) Down EnlistPrepare ∷ h)
prepare_stands h e m k n =
    stand (Asked e Prepare) (Got (Enl e) Down EnlistPrepare ∷ h) refl tt (stand (Got (Enl e) Down EnlistPrepare) h refl m k refl (λ g. g))
    (and_both (not (has (is_asked e.value) h)) (ask_row (Got (Enl e) Down EnlistPrepare ∷ h) e.value) (not_false (has (is_asked e.value) h) n)
    (or_right _ (e.value == e.value) (eq_self e.value))) (λ g. g)

pub commit_told : (h : List Entry) (e : EnlNo) → MayCross h (Got (Enl e) Down EnlistCommit) → Stands h → Stands (Told (Member e) Committed ∷ Got (Enl e) Down EnlistCommit ∷ h)
commit_told h e m k =
    stand (Told (Member e) Committed) (Got (Enl e) Down EnlistCommit ∷ h) refl tt (stand (Got (Enl e) Down EnlistCommit) h refl m k refl (λ g. g))
    (or_left (e.value == e.value) (hears_decision (Got (Enl e) Down EnlistCommit ∷ h) (Member e) Committed) (eq_self e.value)) (λ g. g)

pub again_committed : (h : List Entry) (e : EnlNo) → MayCross h (Got (Again e) Down ReenlistCommitted) → Stands h → Stands (Told (Member e) Committed ∷ Got (Again e) Down ReenlistCommitted ∷ h)
again_committed h e m k =
    stand (Told (Member e) Committed) (Got (Again e) Down ReenlistCommitted ∷ h) refl tt (stand (Got (Again e) Down ReenlistCommitted) h refl m k refl (λ g. g))
    (or_left (e.value == e.value) (hears_decision (Got (Again e) Down ReenlistCommitted ∷ h) (Member e) Committed) (eq_self e.value)) (λ g. g)

pub again_aborted : (h : List Entry) (e : EnlNo) → MayCross h (Got (Again e) Down ReenlistAborted) → Stands h → Stands (Told (Member e) Aborted ∷ Got (Again e) Down ReenlistAborted ∷ h)
again_aborted h e m k =
    stand (Told (Member e) Aborted) (Got (Again e) Down ReenlistAborted ∷ h) refl tt (stand (Got (Again e) Down ReenlistAborted) h refl m k refl (λ g. g))
    (or_left (e.value == e.value) (hears_decision (Got (Again e) Down ReenlistAborted ∷ h) (Member e) Aborted) (eq_self e.value)) (λ g. g)
