-- In each world that steps made, in which the coordinator didn't stop: while nothing is decided, whoever was lost had voted, or its own connection is lost, or an owner answered, or it is a
-- promotable, b is lost and nothing was requested. For one that has no open connection and hadn't voted ends the transaction by its loss, and a loss cuts each open one.
use Rattle.std.proofs.Common.{◌≡◌, ℕ, ◌==◌, Bool, true, false, ◌&&◌, ◌||◌, ◌⊎◌, inl, inr, List, [], ◌∷◌, Option, Some, None, refl, ◌∙◌, ap, map, subst, sym, if◌then◌else◌}
use Rattle.std.specs.Prelude.{filter, find, is_some, not}
use Rattle.std.proofs.lemmas.Bool.{eqb-true, false_from_ne_true, or_left, true_from_ne_false}
use Rattle.dtx_values.specs.declared.call.Call.{Call}
use Rattle.dtx_values.specs.declared.call.Call.TheVariants.{Gone, Reenlist, Tick}
use Rattle.dtx_values.specs.declared.entry.Answer.{Answer}
use Rattle.dtx_values.specs.declared.entry.Entry.{Entry}
use Rattle.dtx_values.specs.declared.entry.Entry.TheVariants.{Called, Clock, Cut, Enlisted, Late, Lost, Reenlisted, Requested, TimedOut, Told}
use Rattle.dtx_values.specs.declared.entry.Party.TheVariants.{Enl as Member}
use Rattle.dtx_values.specs.declared.message.Conn.{Conn}
use Rattle.dtx_values.specs.declared.message.Conn.TheVariants.{Begin, Enl, Again}
use Rattle.dtx_values.specs.declared.message.Dir.TheVariants.{Up, Down}
use Rattle.dtx_values.specs.declared.note.Note.TheVariants.{Single}
use Rattle.dtx_values.specs.declared.note.Reply.TheVariants.{Owner as OwnerReply}
use Rattle.dtx_values.specs.declared.number.ActorNo.{ActorNo}
use Rattle.dtx_values.specs.declared.number.EnlNo.{EnlNo}
use Rattle.dtx_values.specs.declared.row.Row.{Row}
use Rattle.dtx_values.specs.declared.words.Class.{Class}
use Rattle.dtx_values.specs.declared.words.Class.TheVariants.{Promotable}
use Rattle.dtx_values.specs.declared.words.Outcome.TheVariants.{InDoubt}
use Rattle.dtx_values.specs.Class.{is_promotable, is_volatile}
use Rattle.dtx_values.specs.Ends.{knows, same_connection}
use Rattle.dtx_values.specs.Table.{voted}
use Rattle.dtx_model.specs.declared.branch.Branch.{Branch}
use Rattle.dtx_model.specs.declared.listener.Listener.{Listener}
use Rattle.dtx_model.specs.Words.{each, has, holds, latest, onto, or_else}
use Rattle.dtx_model.specs.History.{is_still_lost, loss_of}
use Rattle.dtx_model.specs.Entries.{decision_of, is_decision, is_lost, is_owner_answer, is_promoted, is_sealed, is_vote}
use Rattle.dtx_model.specs.Observed.{Observed, come_back, ends_of, hear, is_branch, is_request, listener_number, listeners, lose, observe, rows, track}
use Rattle.dtx_model.specs.Outcome.{enlisted}
use Rattle.dtx_model.specs.Wires.{WireRun, is_kept, is_lost_wire, is_open_wire, is_stopped, loses, lost_after, lost_since, opens}
use Rattle.dtx_model.specs.Half.{Half, decide, is_gone, is_handed, sees, to_up, veto}
use Rattle.dtx_model.specs.Facts.{facts_if, has_facts, is_late, reaches, ticked}
use Rattle.dtx_model.specs.Replies.{due_of, request_message, request_of}
use Rattle.dtx_model.specs.World.{World, answer_at, cut_upward, gone_by, half, has_answered_there, is_promotable_row, on_the_way, open_ones, reenlist_facts}
use Rattle.dtx_model.specs.Steps.{Step, Calls, after, block_at}
use Rattle.dtx_model.specs.Caused.{AreMadeOnce, Ran}
use Rattle.dtx_model.proofs.Bools.{and_both, and_left, and_right, not_both, not_false, not_true, or_case, or_right}
use Rattle.dtx_model.proofs.Reading.{has-onto}
use Rattle.dtx_values.proofs.SameNumbers.{same_enlistment}
use Rattle.history_table.proofs.Lists.{has-insert, has_kept}
use Rattle.history_table.proofs.Scans.{each_both, each_more, has_more}
use Rattle.history_table.proofs.EntryTests.{is_enlisted}
use Rattle.history_table.proofs.Tests.{eq_self, fourth_of_four, second_of_four}
use Rattle.settled_histories.proofs.Wired.{IsWired, firm_before, firm_unended, is_plain}
use Rattle.settled_histories.proofs.Onto.{none_before, stood_before}
use Rattle.history_table.proofs.Messages.{COMMIT}
use Rattle.history_table.proofs.Table.{is_enlist_got, is_opening_got, is_promotable_of, rule, stands_promotable}
use Rattle.history_table.proofs.Keeping.{Keeps, before, keeps_before, newest}
use Rattle.history_table.proofs.CoreKnown.{has_made}
use Rattle.history_table.proofs.Owned.{decision_seen, has_filter, has_rows, is_lost_listener, listens}
use Rattle.settled_histories.proofs.SameRows.{voted_cast}
use Rattle.history_table.proofs.Standing.{opened_if_got}
use Rattle.history_table.proofs.Recording.{come_if_promoted}
use Rattle.history_table.proofs.HalfOwner.{enlist_opening}
use Rattle.history_table.proofs.HalfReplies.{owed}
use Rattle.history_table.proofs.Reenlisted.{opened_since}
use Rattle.settled_histories.proofs.Knowledge.{knows_where}
use Rattle.settled_histories.proofs.Ending.{decide_decides, veto_decides}
use Rattle.settled_histories.proofs.CommonBlocks.{common_veto, is_usual, usual, usual_block}
use Rattle.history_table.proofs.BareBlocks.{Requests}
use Rattle.settled_histories.proofs.RequestBlocks.{BlockKind, block_kind, is_meek, request_passes, seal_passes}
use Rattle.history_table.proofs.Marks.{IsMarked, opened_if_enlisted}
use Rattle.history_table.proofs.AskedWhom.{is_left}
use Rattle.history_table.proofs.Steady.{run_stands}
use Rattle.settled_histories.proofs.Requests.{IsLone, IsRequesting, lone_same, promotable_stands, ran_alone}
use Rattle.settled_histories.proofs.Returned.{AreReturned, ran_returned}
use Rattle.settled_histories.proofs.Announced.{IsUnstopped, unstopped_before, unstopped_under, unstopped_wired}
use Rattle.history_table.proofs.Crossed.{is_got_on, since_opened, was_sent}

-- it had voted, or its own connection is lost, or an owner answered, or it is a promotable, b is lost and nothing was requested
abbrev pub is_spared_loss : EnlNo → List Entry → Bool
is_spared_loss e h = has (is_vote e.value) h || is_lost_wire (Enl e) h || has is_owner_answer h || (stands_promotable e.value h && is_lost_wire Begin h && not (has is_request h))

-- while nothing is decided, so it is of whoever was lost
abbrev pub AreVoters : List Entry → Type 0
AreVoters h = has is_decision h ≡ false → (e : EnlNo) → has (is_lost e.value) h ≡ true → is_spared_loss e h ≡ true

-- the cases of it
abbrev IsSparedBy : EnlNo → List Entry → Type 0
IsSparedBy e h =
    (has (is_vote e.value) h ≡ true)
    ⊎ ((is_lost_wire (Enl e) h ≡ true) ⊎ ((has is_owner_answer h ≡ true) ⊎ ((stands_promotable e.value h ≡ true) × (is_lost_wire Begin h ≡ true) × (has is_request h ≡ false))))

spared_cases : (e : EnlNo) (h : List Entry) → is_spared_loss e h ≡ true → IsSparedBy e h
spared_cases e h k =
    or_case (has (is_vote e.value) h || is_lost_wire (Enl e) h || has is_owner_answer h) (stands_promotable e.value h && is_lost_wire Begin h && not (has is_request h))
    (λ a. or_case (has (is_vote e.value) h || is_lost_wire (Enl e) h) (has is_owner_answer h) (λ b. or_case (has (is_vote e.value) h) (is_lost_wire (Enl e) h) (λ v. inl v) (λ l. inr (inl l)) b) (λ o. inr (inr (inl o))) a)
    (λ a. let both = and_left (stands_promotable e.value h && is_lost_wire Begin h) (not (has is_request h)) a in
    inr (inr (inr (
      and_left (stands_promotable e.value h) (is_lost_wire Begin h) both,
      and_right (stands_promotable e.value h) (is_lost_wire Begin h) both,
      not_true (has is_request h) (and_right (stands_promotable e.value h && is_lost_wire Begin h) (not (has is_request h)) a),
    )))) k

spared_so : (e : EnlNo) (h : List Entry) → IsSparedBy e h → is_spared_loss e h ≡ true
spared_so e h (inl v) =
    or_left (has (is_vote e.value) h || is_lost_wire (Enl e) h || has is_owner_answer h) _
    (or_left (has (is_vote e.value) h || is_lost_wire (Enl e) h) (has is_owner_answer h) (or_left (has (is_vote e.value) h) (is_lost_wire (Enl e) h) v))
spared_so e h (inr (inl l)) =
    or_left (has (is_vote e.value) h || is_lost_wire (Enl e) h || has is_owner_answer h) _
    (or_left (has (is_vote e.value) h || is_lost_wire (Enl e) h) (has is_owner_answer h) (or_right (has (is_vote e.value) h) (is_lost_wire (Enl e) h) l))
spared_so e h (inr (inr (inl o))) =
    or_left (has (is_vote e.value) h || is_lost_wire (Enl e) h || has is_owner_answer h) _ (or_right (has (is_vote e.value) h || is_lost_wire (Enl e) h) (has is_owner_answer h) o)
spared_so e h (inr (inr (inr t))) =
    or_right (has (is_vote e.value) h || is_lost_wire (Enl e) h || has is_owner_answer h) (stands_promotable e.value h && is_lost_wire Begin h && not (has is_request h))
    (and_both (stands_promotable e.value h && is_lost_wire Begin h) (not (has is_request h)) (and_both (stands_promotable e.value h) (is_lost_wire Begin h) t.0 t.1) (not_false (has is_request h) t.2))

-- It stays so. A plain connection that is lost stays lost, since it isn't opened again.
lost_more : (c : Conn) (x : Entry) (h : List Entry) → IsWired (x ∷ h) → is_plain c ≡ true → is_lost_wire c h ≡ true → is_lost_wire c (x ∷ h) ≡ true
lost_more c x h w p l = true_from_ne_false (is_lost_wire c (x ∷ h)) (λ n. not_both (is_lost_wire c h) l (firm_before c x h w (record { plain = p; kept = n })).kept)

lost_onto : (c : Conn) (h es : List Entry) → IsUnstopped (onto h es) → is_plain c ≡ true → is_lost_wire c h ≡ true → is_lost_wire c (onto h es) ≡ true
lost_onto c h [] u p l = l
lost_onto c h (x ∷ es) u p l = lost_onto c (x ∷ h) es u p (lost_more c x h (unstopped_wired (x ∷ h) (unstopped_under (x ∷ h) es u)) p l)

promotable_more : (e : ℕ) (x : Entry) (h : List Entry) → stands_promotable e h ≡ true → stands_promotable e (x ∷ h) ≡ true
promotable_more e (Enlisted f c) h t = or_right ((e == f.value) && is_promotable c) (stands_promotable e h) t
promotable_more e _ h t = t

promotable_onto : (e : ℕ) (h es : List Entry) → stands_promotable e h ≡ true → stands_promotable e (onto h es) ≡ true
promotable_onto e h [] t = t
promotable_onto e h (x ∷ es) t = promotable_onto e (x ∷ h) es (promotable_more e x h t)

-- entries that lose nobody, and that request nothing either
abbrev pub is_lossless : Entry → Bool
is_lossless (Lost e) = false
is_lossless _ = true

abbrev is_harmless : Entry → Bool
is_harmless (Lost e) = false
is_harmless (Requested e r) = false
is_harmless _ = true

pub usual_lossless : (x : Entry) → is_usual x ≡ true → is_lossless x ≡ true
usual_lossless (Lost e) k = absurd cc
usual_lossless _ k = refl

both_harmless : (x : Entry) → is_lossless x ≡ true → is_meek x ≡ true → is_harmless x ≡ true
both_harmless (Lost e) k m = absurd cc
both_harmless (Requested e r) k m = absurd cc
both_harmless _ k m = refl

lossless_lost : (e : ℕ) (x : Entry) → is_lossless x ≡ true → is_lost e x ≡ false
lossless_lost e (Lost f) k = absurd cc
lossless_lost e _ k = refl

harmless_lost : (e : ℕ) (x : Entry) → is_harmless x ≡ true → is_lost e x ≡ false
harmless_lost e (Lost f) k = absurd cc
harmless_lost e _ k = refl

-- a block that requests nothing leaves it so
abbrev is_unrequesting : Entry → Bool
is_unrequesting x = not (is_request x)

harmless_unrequesting : (x : Entry) → is_harmless x ≡ true → is_unrequesting x ≡ true
harmless_unrequesting (Requested e r) k = absurd cc
harmless_unrequesting _ k = refl

harmless_quiet : (es : List Entry) → each is_harmless es ≡ true → each is_unrequesting es ≡ true
harmless_quiet es k = each_more is_harmless is_unrequesting harmless_unrequesting es k

none_requested : (h es : List Entry) → each is_unrequesting es ≡ true → has is_request h ≡ false → has is_request (onto h es) ≡ false
none_requested h es k n =
    false_from_ne_true (has is_request (onto h es)) (λ q. not_both (has is_request h) (stood_before is_request is_unrequesting (λ x t. not_true (is_request x) t) h es k q) n)

spared_onto : (e : EnlNo) (h es : List Entry) → IsUnstopped (onto h es) → each is_unrequesting es ≡ true → IsSparedBy e h → IsSparedBy e (onto h es)
spared_onto e h es u k (inl v) = inl (has-onto (is_vote e.value) h es ∙ or_right (has (is_vote e.value) es) (has (is_vote e.value) h) v)
spared_onto e h es u k (inr (inl l)) = inr (inl (lost_onto (Enl e) h es u refl l))
spared_onto e h es u k (inr (inr (inl o))) = inr (inr (inl (has-onto is_owner_answer h es ∙ or_right (has is_owner_answer es) (has is_owner_answer h) o)))
spared_onto e h es u k (inr (inr (inr t))) =
    inr (inr (inr (
      promotable_onto e.value h es t.0,
      lost_onto Begin h es u refl t.1,
      none_requested h es k t.2,
    )))

harmless_voters : (h es : List Entry) → each is_harmless es ≡ true → IsUnstopped (onto h es) → AreVoters h → AreVoters (onto h es)
harmless_voters h es k u a = λ d e l.
    spared_so e (onto h es)
    (spared_onto e h es u (harmless_quiet es k)
    (spared_cases e h (a (none_before is_decision h es d) e (stood_before (is_lost e.value) is_harmless (harmless_lost e.value) h es k l))))

-- A loss of one that is spared, with what follows it; and one after which it is decided.
gone_more : (f : EnlNo) (h es : List Entry) → each is_harmless es ≡ true → IsUnstopped (onto (Lost f ∷ h) es) → IsSparedBy f (onto (Lost f ∷ h) es) → AreVoters h → AreVoters (onto (Lost f ∷ h) es)
gone_more f h es k u s a = λ d e l.
    or_case (e.value == f.value) (has (is_lost e.value) h)
    (λ q. let same = same_enlistment e f (eqb-true e.value f.value q) in
    let P : EnlNo → Type 0 = λ g. is_spared_loss g (onto (Lost f ∷ h) es) ≡ true in subst P (sym same) (spared_so f (onto (Lost f ∷ h) es) s))
    (λ q. spared_so e (onto (Lost f ∷ h) es)
    (spared_onto e h (Lost f ∷ es) u (harmless_quiet es k) (spared_cases e h (a (none_before is_decision h (Lost f ∷ es) d) e q))))
    (stood_before (is_lost e.value) is_harmless (harmless_lost e.value) (Lost f ∷ h) es k l)

decided_voters : (h : List Entry) → has is_decision h ≡ true → AreVoters h
decided_voters h k = λ d e l. absurd (not_both (has is_decision h) k d)

decided_onto : (h es : List Entry) → has is_decision es ≡ true → AreVoters (onto h es)
decided_onto h es k = decided_voters (onto h es) (has-onto is_decision h es ∙ or_left (has is_decision es) (has is_decision h) k)

decides_voters : (h : List Entry) (k : Half) (e : EnlNo) (o d v g : Bool) → (o ≡ true → has is_owner_answer h ≡ true) → (d ≡ true → has is_decision h ≡ true) → (v ≡ true → has (is_vote e.value) h ≡ true) → AreVoters h
    → IsUnstopped (onto (Lost e ∷ h) (if o then [] else if d || v then [] else if g then decide k InDoubt else veto k))
    → AreVoters (onto (Lost e ∷ h) (if o then [] else if d || v then [] else if g then decide k InDoubt else veto k))
decides_voters h k e true d v g p f q a u = gone_more e h [] refl u (inr (inr (inl (p refl)))) a
decides_voters h k e false true v g p f q a u = decided_voters (Lost e ∷ h) (f refl)
decides_voters h k e false false true g p f q a u = gone_more e h [] refl u (inl (q refl)) a
decides_voters h k e false false false true p f q a u = decided_onto (Lost e ∷ h) (decide k InDoubt) (decide_decides k InDoubt)
decides_voters h k e false false false false p f q a u = decided_onto (Lost e ∷ h) (veto k) (veto_decides k)

-- Whoever has no open connection. Its loss decides, unless it had voted, or answered as the owner.
unlinked_voters : (w : World) (n : ℕ) (a : ActorNo) (e : EnlNo) (y : Answer) → IsUnstopped (onto (Called n a y ∷ w.past) (gone_by w e [])) → AreVoters (Called n a y ∷ w.past)
    → AreVoters (onto (Called n a y ∷ w.past) (gone_by w e []))
unfolding observe track
unlinked_voters w n a e y u s =
    decides_voters (Called n a y ∷ w.past) (sees (half w) (Lost e)) e (has_answered_there (half w).seen e.value) (is_some (latest decision_of w.past)) (voted e.value (rows w.past)) (is_handed (half w).seen.handed e.value)
    (λ o. and_right (has is_promoted w.past && is_handed (half w).seen.handed e.value) (has is_owner_answer w.past) o) (λ d. sym (decision_seen w.past) ∙ d) (λ v. voted_cast e.value w.past v) s u

-- What a cut loses.
some_more : (c : Conn) (x : Entry) (h : List Entry) (o : Option Bool) → is_some o ≡ true → is_some (lost_after c h x o) ≡ true
some_more c x h (Some l) k = by (opens c x)
  where
    by : (b : Bool) → is_some (if b then Some (is_stopped h) else Some (l || loses c x)) ≡ true
    by true = refl
    by false = refl
some_more c x h None k = absurd cc

cut_now : (c d : Conn) (n m : ℕ) (h : List Entry) (o : Option Bool) → is_some o ≡ true → same_connection c d ≡ true → holds (lost_after c h (Cut d n m) o) ≡ true
cut_now c d n m h (Some l) k s = or_right l (same_connection c d) s
cut_now c d n m h None k s = absurd cc

cut_after : (c d : Conn) (n m : ℕ) (h : List Entry) (o : Option Bool) → holds o ≡ true → holds (lost_after c h (Cut d n m) o) ≡ true
cut_after c d n m h (Some l) k = or_left l (same_connection c d) k
cut_after c d n m h None k = absurd cc

cuts_after : (c : Conn) (p h : List Entry) (cs : List Conn) → is_lost_wire c h ≡ true → is_lost_wire c (onto h (map (cut_upward p) cs)) ≡ true
cuts_after c p h [] l = l
cuts_after c p h (d ∷ cs) l = cuts_after c p (cut_upward p d ∷ h) cs (cut_after c d (on_the_way d Up p) 0 h (lost_since c h) l)

cuts_lose : (c : Conn) (p h : List Entry) (cs : List Conn) → is_some (lost_since c h) ≡ true → has (same_connection c) cs ≡ true → is_lost_wire c (onto h (map (cut_upward p) cs)) ≡ true
cuts_lose c p h [] o k = absurd cc
cuts_lose c p h (d ∷ cs) o k =
    or_case (same_connection c d) (has (same_connection c) cs) (λ s. cuts_after c p (cut_upward p d ∷ h) cs (cut_now c d (on_the_way d Up p) 0 h (lost_since c h) o s))
    (λ s. cuts_lose c p (cut_upward p d ∷ h) cs (some_more c (cut_upward p d) h (lost_since c h) o) s) k

cuts_harmless : (p : List Entry) (cs : List Conn) → each is_harmless (map (cut_upward p) cs) ≡ true
cuts_harmless p [] = refl
cuts_harmless p (d ∷ cs) = cuts_harmless p cs

-- a connection that is open was opened, and one that was opened and isn't open is lost
kept_some : (o : Option Bool) → is_kept o ≡ true → is_some o ≡ true
kept_some (Some l) k = refl
kept_some None k = absurd cc

shut_lost : (o : Option Bool) → is_some o ≡ true → is_kept o ≡ false → holds o ≡ true
shut_lost (Some true) k n = refl
shut_lost (Some false) k n = absurd cc
shut_lost None k n = absurd cc

-- Whose own connection is open, it is among those that its loss cuts; whose own wasn't opened, only b is.
own_among : (w : World) (e : EnlNo) → is_open_wire (Enl e) w.past ≡ true → has (same_connection (Enl e)) (open_ones w e) ≡ true
own_among w e o = by (is_promotable_row (half w).seen e.value)
  where
    here : (is_open_wire (Enl e) w.past ≡ true) → ((e.value == e.value) && is_open_wire (Enl e) w.past) ≡ true
    here o = and_both (e.value == e.value) (is_open_wire (Enl e) w.past) (eq_self e.value) o

    by : (b : Bool) → has (same_connection (Enl e)) (filter (λ c. is_open_wire c w.past) (if b then Begin ∷ Enl e ∷ Again e ∷ [] else Enl e ∷ Again e ∷ [])) ≡ true
    by true =
        has_filter (same_connection (Enl e)) (λ c. is_open_wire c w.past) (Begin ∷ Enl e ∷ Again e ∷ [])
        ∙ or_right (false && is_open_wire Begin w.past) _ (or_left ((e.value == e.value) && is_open_wire (Enl e) w.past) _ (here o))
    by false =
        has_filter (same_connection (Enl e)) (λ c. is_open_wire c w.past) (Enl e ∷ Again e ∷ []) ∙ or_left ((e.value == e.value) && is_open_wire (Enl e) w.past) _ (here o)

begin_alone : (w : World) (e : EnlNo) (c : Conn) (cs : List Conn) → open_ones w e ≡ c ∷ cs → is_open_wire (Enl e) w.past ≡ false → is_open_wire (Again e) w.past ≡ false
    → (is_promotable_row (half w).seen e.value ≡ true) × (is_open_wire Begin w.past ≡ true)
begin_alone w e c cs q n m = by (is_promotable_row (half w).seen e.value) refl q
  where
    none : (y z : Bool) → y ≡ false → z ≡ false → (if y then Enl e ∷ (if z then Again e ∷ [] else []) else (if z then Again e ∷ [] else [])) ≡ c ∷ cs → ⊥
    none true z p r k = absurd cc
    none false true p r k = absurd cc
    none false false p r k = cc

    some : (x y z : Bool) → y ≡ false → z ≡ false
        → (if x then Begin ∷ (if y then Enl e ∷ (if z then Again e ∷ [] else []) else (if z then Again e ∷ [] else [])) else (if y then Enl e ∷ (if z then Again e ∷ [] else []) else (if z then Again e ∷ [] else []))) ≡ c ∷ cs
        → x ≡ true
    some true y z p r k = refl
    some false y z p r k = absurd (none y z p r k)

    by : (b : Bool) → is_promotable_row (half w).seen e.value ≡ b → filter (λ d. is_open_wire d w.past) (if b then Begin ∷ Enl e ∷ Again e ∷ [] else Enl e ∷ Again e ∷ []) ≡ c ∷ cs
        → (is_promotable_row (half w).seen e.value ≡ true) × (is_open_wire Begin w.past ≡ true)
    by true p k = (p, some (is_open_wire Begin w.past) (is_open_wire (Enl e) w.past) (is_open_wire (Again e) w.past) n m k)
    by false p k = absurd (none (is_open_wire (Enl e) w.past) (is_open_wire (Again e) w.past) n m k)

begin_among : (w : World) (e : EnlNo) → is_promotable_row (half w).seen e.value ≡ true → is_open_wire Begin w.past ≡ true → has (same_connection Begin) (open_ones w e) ≡ true
begin_among w e p o = by (is_promotable_row (half w).seen e.value) p
  where
    by : (b : Bool) → b ≡ true → has (same_connection Begin) (filter (λ c. is_open_wire c w.past) (if b then Begin ∷ Enl e ∷ Again e ∷ [] else Enl e ∷ Again e ∷ [])) ≡ true
    by true q = has_filter (same_connection Begin) (λ c. is_open_wire c w.past) (Begin ∷ Enl e ∷ Again e ∷ []) ∙ or_left (true && is_open_wire Begin w.past) _ o
    by false q = absurd cc

-- Where a promotable requested, or the promotion succeeded, the own connection of the promotable was opened.
promotable_opened : (e : EnlNo) (h : List Entry) → Keeps h → has is_promoted h ≡ true → stands_promotable e.value h ≡ true → has (opens (Enl e)) h ≡ true
promotable_opened e h k p s = opened_if_got (Enl e) h k (has_more (is_enlist_got e.value) (is_opening_got (Enl e)) (enlist_opening e) h (come (enlisted h) (come_if_promoted h k p) s))
  where
    come : (xs : List (EnlNo × Class)) → each (λ x. is_volatile x.1 || has (is_enlist_got x.0.value) h) xs ≡ true → has (is_promotable_of e.value) xs ≡ true → has (is_enlist_got e.value) h ≡ true
    come [] a t = absurd cc
    come (x ∷ xs) a t =
        let first = and_left (is_volatile x.1 || has (is_enlist_got x.0.value) h) (each (λ x. is_volatile x.1 || has (is_enlist_got x.0.value) h) xs) a in
        or_case ((e.value == x.0.value) && is_promotable x.1) (has (is_promotable_of e.value) xs)
        (λ q. let P : ℕ → Type 0 = λ n. has (is_enlist_got n) h ≡ true in
        subst P (sym (eqb-true e.value x.0.value (and_left (e.value == x.0.value) (is_promotable x.1) q)))
        (or_case (is_volatile x.1) (has (is_enlist_got x.0.value) h) (λ v. absurd (apart x.1 v (and_right (e.value == x.0.value) (is_promotable x.1) q))) (λ g. g) first))
        (λ q. come xs (and_right (is_volatile x.1 || has (is_enlist_got x.0.value) h) (each (λ x. is_volatile x.1 || has (is_enlist_got x.0.value) h) xs) a) q) t
      where
        apart : (c : Class) → is_volatile c ≡ true → is_promotable c ≡ true → ⊥
        apart Promotable v k = absurd cc
        apart c v k = absurd cc

request_promoted : (x : Entry) (h : List Entry) → Keeps h → rule h x ≡ true → is_request x ≡ true → has is_promoted h ≡ true
request_promoted (Requested e r) h k q t = second_of_four (not (has is_decision h)) (has is_promoted h) (has is_sealed h) _ q
request_promoted _ h k q t = absurd cc

-- Whoever has an open connection is spared where its loss cut that.
cut_spared : (w : World) (n : ℕ) (a : ActorNo) (e : EnlNo) (y : Answer) (c : Conn) (cs : List Conn) → open_ones w e ≡ c ∷ cs → IsUnstopped (onto (Called n a y ∷ w.past) (gone_by w e (c ∷ cs))) → AreReturned w.past
    → IsSparedBy e (onto (Called n a y ∷ w.past) (gone_by w e (c ∷ cs)))
unfolding observe
cut_spared w n a e y c cs q u r = by (is_open_wire (Enl e) w.past) refl (has (opens (Enl e)) w.past) refl
  where
    here : List Entry
    here = Lost e ∷ Called n a y ∷ w.past

    keeps : Keeps w.past
    keeps = (unstopped_before (Called n a y) w.past (unstopped_under (Called n a y ∷ w.past) (gone_by w e (c ∷ cs)) u)).keeps

    opened_here : (d : Conn) → is_some (lost_since d w.past) ≡ true → is_some (lost_since d here) ≡ true
    opened_here d o = some_more d (Lost e) (Called n a y ∷ w.past) (lost_since d (Called n a y ∷ w.past)) (some_more d (Called n a y) w.past (lost_since d w.past) o)

    among : (d : Conn) → has (same_connection d) (open_ones w e) ≡ true → has (same_connection d) (c ∷ cs) ≡ true
    among d t = ap (has (same_connection d)) (sym q) ∙ t

    again_shut : has (opens (Enl e)) w.past ≡ false → is_open_wire (Again e) w.past ≡ false
    again_shut o =
        false_from_ne_true (is_open_wire (Again e) w.past)
        (λ t. not_both (has (opens (Enl e)) w.past) (opened_if_enlisted e w.past keeps (r e (since_opened (Again e) w.past (kept_some (lost_since (Again e) w.past) t)))) o)

    by : (b : Bool) → is_open_wire (Enl e) w.past ≡ b → (o : Bool) → has (opens (Enl e)) w.past ≡ o → IsSparedBy e (onto here (map (cut_upward w.past) (c ∷ cs)))
    by true b o p = inr (inl (cuts_lose (Enl e) w.past here (c ∷ cs) (opened_here (Enl e) (kept_some (lost_since (Enl e) w.past) b)) (among (Enl e) (own_among w e b))))
    by false b true p =
        inr (inl (lost_onto (Enl e) w.past (Called n a y ∷ gone_by w e (c ∷ cs)) u refl (shut_lost (lost_since (Enl e) w.past) (opened_since (Enl e) w.past p) b)))
    by false b false p =
        let t = begin_alone w e c cs q b (again_shut p) in
        let stands : stands_promotable e.value w.past ≡ true = sym (has_rows (λ (f : EnlNo) (k : Class). (e.value == f.value) && is_promotable k) w.past) ∙ t.0 in
        let unrequested : has is_request w.past ≡ false =
        false_from_ne_true (has is_request w.past)
        (λ s. not_both (has (opens (Enl e)) w.past) (promotable_opened e w.past keeps (before is_request is_promoted request_promoted w.past keeps s) stands) p) in
        inr (inr (inr (
          promotable_onto e.value w.past (Called n a y ∷ gone_by w e (c ∷ cs)) stands,
          cuts_lose Begin w.past here (c ∷ cs) (opened_here Begin (kept_some (lost_since Begin w.past) t.1)) (among Begin (begin_among w e t.0 t.1)),
          none_requested here (map (cut_upward w.past) (c ∷ cs)) (harmless_quiet (map (cut_upward w.past) (c ∷ cs)) (cuts_harmless w.past (c ∷ cs))) unrequested,
        )))

gone_voters : (w : World) (n : ℕ) (a : ActorNo) (e : EnlNo) (y : Answer) (b : Bool) → IsUnstopped (onto (Called n a y ∷ w.past) (facts_if b (gone_by w e (open_ones w e)))) → AreReturned w.past → AreVoters w.past
    → AreVoters (onto (Called n a y ∷ w.past) (facts_if b (gone_by w e (open_ones w e))))
gone_voters w n a e y false u r s = harmless_voters w.past (Called n a y ∷ []) refl u s
gone_voters w n a e y true u r s = by (open_ones w e) refl u
  where
    called : IsUnstopped (onto (Called n a y ∷ w.past) (gone_by w e (open_ones w e))) → AreVoters (Called n a y ∷ w.past)
    called u = harmless_voters w.past (Called n a y ∷ []) refl (unstopped_under (Called n a y ∷ w.past) (gone_by w e (open_ones w e)) u) s

    by : (cs : List Conn) → open_ones w e ≡ cs → IsUnstopped (onto (Called n a y ∷ w.past) (gone_by w e cs)) → AreVoters (onto (Called n a y ∷ w.past) (gone_by w e cs))
    by [] q v = unlinked_voters w n a e y v (called u)
    by (c ∷ cs) q v = gone_more e (Called n a y ∷ w.past) (map (cut_upward w.past) (c ∷ cs)) (cuts_harmless w.past (c ∷ cs)) v (cut_spared w n a e y c cs q v r) (called u)

-- The block of a request. It is of the one promotable, which isn't gone: where it was lost it came back, and its own connection is lost.
returned_lost : (G : ℕ → ActorNo → Call → Type 0) (h : List Entry) (e : EnlNo) → IsUnstopped h → IsMarked G h → has (is_lost e.value) h ≡ true → is_gone (observe h) e.value ≡ false → has (opens (Enl e)) h ≡ true
    → is_lost_wire (Enl e) h ≡ true
returned_lost G h e u m l g o =
    true_from_ne_false (is_lost_wire (Enl e) h)
    (λ n. let w = unstopped_wired h u in
    not_both (knows (Enl e) (ends_of h)) (knows_where (Enl e) h w o (firm_unended (Enl e) Down h w (record { plain = refl; kept = n }))) (is_left G h u.keeps m e l g).0)

requested_voters : (G : ℕ → ActorNo → Call → Type 0) (h : List Entry) (v : Half) (f : EnlNo) (es : List Entry) → v.seen ≡ observe h → IsUnstopped (onto h es) → IsLone h → IsMarked G h → Requests v f es → AreVoters h
    → AreVoters (onto h es)
requested_voters G h v f es q u lone m s a =
    let x = Requested f (request_of s.0) in
    let rest = to_up v.seen Begin (request_message s.0) in
    let P : List Entry → Type 0 = λ es. AreVoters (onto h es) in
    let Q : List Entry → Type 0 = λ es. IsUnstopped (onto h es) in
    let now : IsUnstopped (onto (x ∷ h) rest) = subst Q s.2 u in
    let at = unstopped_under (x ∷ h) rest now in
    let old = unstopped_before x h at in
    let row = newest x h at.keeps in
    let promoted = second_of_four (not (has is_decision h)) (has is_promoted h) (has is_sealed h) _ row in
    let stands = and_left (stands_promotable f.value h) (not (has is_request h)) (fourth_of_four (not (has is_decision h)) (has is_promoted h) (has is_sealed h) (stands_promotable f.value h && not (has is_request h)) row) in
    let D : Observed → Type 0 = λ o. due_of o f.value ≡ Some Single in
    let here = (owed h (OwnerReply s.0) Single f.value refl (subst D q s.1) refl).here in
    let lost : (e : EnlNo) → has (is_lost e.value) h ≡ true → stands_promotable e.value h ≡ true → is_lost_wire (Enl e) h ≡ true =
    λ e l t. let G2 : ℕ → Type 0 = λ k. is_gone (observe h) k ≡ false in
    returned_lost G h e old m l (subst G2 (sym (lone_same e.value f.value h lone.alone t stands)) here) (promotable_opened e h old.keeps promoted t) in
    subst P (sym s.2)
    (λ d e l. let was = stood_before (is_lost e.value) is_lossless (lossless_lost e.value) h (x ∷ rest) (request_passes is_lossless x (request_message s.0) refl refl v.seen) l in
    spared_so e (onto h (x ∷ rest)) (after_request e (x ∷ rest) now (lost e was) (spared_cases e h (a (none_before is_decision h (x ∷ rest) d) e was))))
  where
    after_request : (e : EnlNo) (es : List Entry) → IsUnstopped (onto h es) → (stands_promotable e.value h ≡ true → is_lost_wire (Enl e) h ≡ true) → IsSparedBy e h → IsSparedBy e (onto h es)
    after_request e es u f (inl v) = inl (has-onto (is_vote e.value) h es ∙ or_right (has (is_vote e.value) es) (has (is_vote e.value) h) v)
    after_request e es u f (inr (inl l)) = inr (inl (lost_onto (Enl e) h es u refl l))
    after_request e es u f (inr (inr (inl o))) = inr (inr (inl (has-onto is_owner_answer h es ∙ or_right (has is_owner_answer es) (has is_owner_answer h) o)))
    after_request e es u f (inr (inr (inr t))) = inr (inl (lost_onto (Enl e) h es u refl (f t.0)))

-- Each block but that of a loss loses nobody.
pub tick_lossless : (v : Half) (n : ℕ) (b r l : Bool) → each is_lossless (facts_if b (Clock n ∷ (if r then (if l then Late ∷ [] else TimedOut ∷ veto v) else []))) ≡ true
tick_lossless v n false r l = refl
tick_lossless v n true false l = refl
tick_lossless v n true true true = refl
tick_lossless v n true true false = each_more is_usual is_lossless usual_lossless (veto v) (usual (veto v) (common_veto v))

pub return_lossless : (t : ℕ) (o : Option Branch) (b : Bool) → each is_lossless (facts_if b (reenlist_facts t o)) ≡ true
return_lossless t o false = refl
return_lossless t None true = refl
return_lossless t (Some b) true = refl

other_voters : (G : ℕ → ActorNo → Call → Type 0) (w : World) (es : List Entry) → each is_lossless es ≡ true → BlockKind w es → IsLone w.past → IsMarked G w.past → IsUnstopped (onto w.past es) → AreVoters w.past
    → AreVoters (onto w.past es)
other_voters G w es k (inl q) lone m u s = harmless_voters w.past es (each_both is_lossless is_meek is_harmless both_harmless es k q.proof) u s
other_voters G w es k (inr (inl q)) lone m u s =
    harmless_voters w.past es (let P : List Entry → Type 0 = λ es. each is_harmless es ≡ true in subst P (sym q.1) (seal_passes is_harmless refl (λ m t. refl) (half w).seen)) u s
other_voters G w es k (inr (inr q)) lone m u s = requested_voters G w.past (half w) q.0 es refl u lone m q.1 s

-- after each step
step_voters : (G : ℕ → ActorNo → Call → Type 0) (t : ℕ) (w : World) (m : Step) → AreReturned w.past → IsLone w.past → IsMarked G w.past → IsUnstopped (after t w m).past → AreVoters w.past → AreVoters (after t w m).past
unfolding after block_at
step_voters G t w (Calls n a (Gone e) i) r l k u s = let y = answer_at t w (Gone e) i in gone_voters w n a e y (has_facts y) u r s
step_voters G t w (Calls n a (Tick x j) i) r l k u s =
    let y = answer_at t w (Tick x j) i in
    let o = (half w).seen in
    let c = ticked o.clock j in
    other_voters G w (block_at t w (Calls n a (Tick x j) i)) (tick_lossless (half w) c (has_facts y) (reaches o.limit o.clock c) (is_late o)) (block_kind t w (Calls n a (Tick x j) i)) l k u s
step_voters G t w (Calls n a (Reenlist e) i) r l k u s =
    let y = answer_at t w (Reenlist e) i in
    other_voters G w (block_at t w (Calls n a (Reenlist e) i)) (return_lossless t (find (is_branch e.value) (half w).seen.branches) (has_facts y)) (block_kind t w (Calls n a (Reenlist e) i)) l k u s
step_voters G t w m r l k u s = other_voters G w (block_at t w m) (each_more is_usual is_lossless usual_lossless (block_at t w m) (usual_block t w m refl)) (block_kind t w m) l k u s

-- so in each world that steps made, in which the coordinator didn't stop
pub ran_voters : (G : ℕ → ActorNo → Call → Type 0) (t : ℕ) (ms : List Step) (w : World) → AreMadeOnce G → Ran G t ms w → IsUnstopped w.past → AreVoters w.past
unfolding after
ran_voters G t [] w once r u = subst AreVoters (sym r.1) (λ d e l. absurd cc)
ran_voters G t (m ∷ ms) w once r u =
    let v = r.0 in
    let now = subst (λ (x : World). IsUnstopped x.past) r.3 u in
    let past = unstopped_under v.past (block_at t v m) now in
    subst (λ (x : World). AreVoters x.past) (sym r.3)
    (step_voters G t v m (ran_returned G t ms v r.1) (ran_alone G t ms v once r.1 past.keeps) (run_stands G t ms v once r.1 past.keeps.ties).marked now (ran_voters G t ms v once r.1 past))

-- where b was lost only after COMMIT, a connection of its own only after the vote, and no owner answered, whoever was lost had voted
pub gone_cast : (h : List Entry) → IsRequesting h → WireRun h → AreVoters h → (is_lost_wire Begin h ≡ true → has (is_got_on Begin Up COMMIT) h ≡ true)
    → ((e : EnlNo) → is_lost_wire (Enl e) h ≡ true → has (is_vote e.value) h ≡ true) → has is_owner_answer h ≡ false → has is_decision h ≡ false → (e : EnlNo) → has (is_lost e.value) h ≡ true
    → has (is_vote e.value) h ≡ true
gone_cast h r run a f g n d e l = by (spared_cases e h (a d e l))
  where
    by : IsSparedBy e h → has (is_vote e.value) h ≡ true
    by (inl v) = v
    by (inr (inl b)) = g e b
    by (inr (inr (inl o))) = absurd (not_both (has is_owner_answer h) o n)
    by (inr (inr (inr t))) = absurd (not_both (has is_request h) (r.asked (was_sent Begin Up COMMIT h run (f t.1)) (promotable_stands e.value h t.0)) t.2)

-- Who is gone was lost.
less : (p : Listener → Bool) (f : Listener → Listener) → ((l : Listener) → p (f l) ≡ true → p l ≡ true) → (ls : List Listener) → has p (map f ls) ≡ true → has p ls ≡ true
less p f sub [] k = absurd cc
less p f sub (l ∷ ls) k = or_case (p (f l)) (has p (map f ls)) (λ a. or_left (p l) (has p ls) (sub l a)) (λ a. or_right (p l) (has p ls) (less p f sub ls a)) k

pub gone_lost : (e : ℕ) (h : List Entry) → has (λ l. (e == l.enlistment.value) && l.lost) (listeners h) ≡ true → has (is_lost e) h ≡ true
gone_lost e [] k = absurd cc
gone_lost e (Enlisted f c ∷ h) k =
    or_case ((e == f.value) && false) (has (λ l. (e == l.enlistment.value) && l.lost) (listeners h)) (λ a. absurd (not_both false (and_right (e == f.value) false a) refl)) (gone_lost e h)
    (sym (has-insert (λ l. (e == l.enlistment.value) && l.lost) listener_number (record { enlistment = f; told = false; lost = false }) (listeners h)) ∙ k)
gone_lost e (Told (Member f) x ∷ h) k = gone_lost e h (sym (has_kept (λ l. (e == l.enlistment.value) && l.lost) (hear f.value) (λ l. refl) (listeners h)) ∙ k)
gone_lost e (Lost f ∷ h) k = step (gone_lost e h) (e == f.value) refl
  where
    still : (l : Listener) → (e == f.value) ≡ false → ((e == l.enlistment.value) && ((f.value == l.enlistment.value) || l.lost)) ≡ true → ((e == l.enlistment.value) && l.lost) ≡ true
    still l q a =
        or_case (f.value == l.enlistment.value) l.lost
        (λ b. let names : e ≡ f.value = eqb-true e l.enlistment.value (and_left (e == l.enlistment.value) ((f.value == l.enlistment.value) || l.lost) a) ∙ sym (eqb-true f.value l.enlistment.value b) in
        absurd (not_both (e == f.value) (subst (λ m. (e == m) ≡ true) names (eq_self e)) q))
        (λ b. and_both (e == l.enlistment.value) l.lost (and_left (e == l.enlistment.value) ((f.value == l.enlistment.value) || l.lost) a) b)
        (and_right (e == l.enlistment.value) ((f.value == l.enlistment.value) || l.lost) a)

    step : (has (λ l. (e == l.enlistment.value) && l.lost) (listeners h) ≡ true → has (is_lost e) h ≡ true) → (b : Bool) → (e == f.value) ≡ b → (b || has (is_lost e) h) ≡ true
    step ih true q = refl
    step ih false q = ih (less (λ l. (e == l.enlistment.value) && l.lost) (lose f.value) (λ l a. still l q a) (listeners h) k)
gone_lost e (Reenlisted f ∷ h) k = gone_lost e h (less (λ l. (e == l.enlistment.value) && l.lost) (come_back f.value) back (listeners h) k)
  where
    back : (l : Listener) → ((e == l.enlistment.value) && (not (f.value == l.enlistment.value) && l.lost)) ≡ true → ((e == l.enlistment.value) && l.lost) ≡ true
    back l a =
        and_both (e == l.enlistment.value) l.lost (and_left (e == l.enlistment.value) (not (f.value == l.enlistment.value) && l.lost) a)
        (and_right (not (f.value == l.enlistment.value)) l.lost (and_right (e == l.enlistment.value) (not (f.value == l.enlistment.value) && l.lost) a))
gone_lost e (x ∷ h) k = or_right (is_lost e x) (has (is_lost e) h) (gone_lost e h k)

pub gone_was_lost : (h : List Entry) (x : Row) → is_gone (observe h) x.number.value ≡ true → has (is_lost x.number.value) h ≡ true
unfolding observe
gone_was_lost h x g = gone_lost x.number.value h g

-- and who was lost and didn't come back is gone
lost_listener : (n : ℕ) (h : List Entry) → Keeps h → is_still_lost n h ≡ true → has (is_lost_listener n) (listeners h) ≡ true
lost_listener n [] k t = absurd cc
lost_listener n (Enlisted e c ∷ h) k t =
    has-insert (is_lost_listener n) listener_number (record { enlistment = e; told = false; lost = false }) (listeners h)
    ∙ or_right ((n == e.value) && false) (has (is_lost_listener n) (listeners h)) (lost_listener n h (keeps_before (Enlisted e c) h k) t)
lost_listener n (Told (Member e) x ∷ h) k t = has_kept (is_lost_listener n) (hear e.value) (λ l. refl) (listeners h) ∙ lost_listener n h (keeps_before (Told (Member e) x) h k) t
lost_listener n (Lost e ∷ h) k t = step (lost_listener n h (keeps_before (Lost e) h k)) (n == e.value) refl t
  where
    step : (is_still_lost n h ≡ true → has (is_lost_listener n) (listeners h) ≡ true) → (b : Bool) → (n == e.value) ≡ b → holds (or_else (if b then Some true else None) (latest (loss_of n) h)) ≡ true
        → has (is_lost_listener n) (map (lose e.value) (listeners h)) ≡ true
    step ih true q t =
        has_made (λ l. n == l.enlistment.value) (is_lost_listener n) (lose e.value)
        (λ l a. and_both (n == l.enlistment.value) ((e.value == l.enlistment.value) || l.lost) a
        (or_left (e.value == l.enlistment.value) l.lost (subst (λ m. (m == l.enlistment.value) ≡ true) (eqb-true n e.value q) a))) (listeners h)
        (listens n h ∙ subst (λ m. has (is_enlisted m) h ≡ true) (sym (eqb-true n e.value q)) (newest (Lost e) h k))
    step ih false q t =
        has_made (is_lost_listener n) (is_lost_listener n) (lose e.value)
        (λ l a. and_both (n == l.enlistment.value) ((e.value == l.enlistment.value) || l.lost) (and_left (n == l.enlistment.value) l.lost a)
        (or_right (e.value == l.enlistment.value) l.lost (and_right (n == l.enlistment.value) l.lost a))) (listeners h) (ih t)
lost_listener n (Reenlisted e ∷ h) k t = step (lost_listener n h (keeps_before (Reenlisted e) h k)) (n == e.value) refl t
  where
    other : (l : Listener) → (n == e.value) ≡ false → (n == l.enlistment.value) ≡ true → (e.value == l.enlistment.value) ≡ false
    other l q a =
        false_from_ne_true (e.value == l.enlistment.value)
        (λ b. let same : n ≡ e.value = eqb-true n l.enlistment.value a ∙ sym (eqb-true e.value l.enlistment.value b) in not_both (n == e.value) (subst (λ m. (n == m) ≡ true) same (eq_self n)) q)

    step : (is_still_lost n h ≡ true → has (is_lost_listener n) (listeners h) ≡ true) → (b : Bool) → (n == e.value) ≡ b → holds (or_else (if b then Some false else None) (latest (loss_of n) h)) ≡ true
        → has (is_lost_listener n) (map (come_back e.value) (listeners h)) ≡ true
    step ih true q t = absurd cc
    step ih false q t =
        has_made (is_lost_listener n) (is_lost_listener n) (come_back e.value)
        (λ l a. let own = and_left (n == l.enlistment.value) l.lost a in
        and_both (n == l.enlistment.value) (not (e.value == l.enlistment.value) && l.lost) own
        (and_both (not (e.value == l.enlistment.value)) l.lost (not_false (e.value == l.enlistment.value) (other l q own)) (and_right (n == l.enlistment.value) l.lost a))) (listeners h) (ih t)
lost_listener n (x ∷ h) k t = lost_listener n h (keeps_before x h k) t

pub lost_is_gone : (h : List Entry) (x : Row) → Keeps h → is_still_lost x.number.value h ≡ true → is_gone (observe h) x.number.value ≡ true
unfolding observe
lost_is_gone h x k t = lost_listener x.number.value h k t
