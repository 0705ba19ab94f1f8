-- In each world that steps made and whose history keeps the table: who comes back had its ENLISTED, who had it is enlisted or the transaction is decided, and so
-- whoever is told an abort is told it after the decision, or was enlisted.
use Rattle.std.proofs.Common.{◌≡◌, ◌==◌, ◌∙◌, ℕ, Bool, true, false, ◌&&◌, ◌||◌, List, [], ◌∷◌, Option, Some, None, refl, ap, subst, sym}
use Rattle.std.specs.Prelude.{find, is_some, not, if◌then◌else◌}
use Rattle.std.proofs.lemmas.Bool.{eqb-true, or_left}
use Rattle.dtx_values.specs.declared.call.Call.{Call}
use Rattle.dtx_values.specs.declared.call.Call.TheVariants.{Gone, Reenlist, Tick}
use Rattle.dtx_values.specs.declared.entry.Answer.{Answer}
use Rattle.dtx_values.specs.declared.entry.Entry.{Entry}
use Rattle.dtx_values.specs.declared.entry.Entry.TheVariants.{Called, Clock, Down as End, Got, Late, Lost, TimedOut, Told}
use Rattle.dtx_values.specs.declared.entry.Party.{Party}
use Rattle.dtx_values.specs.declared.entry.Party.TheVariants.{Client, Enl as Member}
use Rattle.dtx_values.specs.declared.message.Conn.{Conn}
use Rattle.dtx_values.specs.declared.message.Conn.TheVariants.{Begin, Voter, Enl, Again}
use Rattle.dtx_values.specs.declared.message.Dir.{Dir}
use Rattle.dtx_values.specs.declared.message.Dir.TheVariants.{Down, Up}
use Rattle.dtx_values.specs.declared.message.Message.{Message}
use Rattle.dtx_values.specs.declared.message.Message.TheVariants.{EnlistAbort, EnlistCommit, EnlistEnlisted, ReenlistAborted, ReenlistCommitted}
use Rattle.dtx_values.specs.declared.number.ActorNo.{ActorNo}
use Rattle.dtx_values.specs.declared.number.EnlNo.{EnlNo}
use Rattle.dtx_values.specs.declared.words.Outcome.{Outcome}
use Rattle.dtx_values.specs.declared.words.Outcome.TheVariants.{Aborted, Committed, InDoubt}
use Rattle.dtx_model.specs.declared.branch.Branch.{Branch}
use Rattle.dtx_model.specs.declared.listener.Listener.{Listener}
use Rattle.dtx_model.specs.Words.{always, each, has, latest, onto}
use Rattle.dtx_model.specs.Entries.{decision_of, is_decision, is_promoted}
use Rattle.dtx_model.specs.Observed.{handover, is_branch, is_promotion_failed, observe, track}
use Rattle.dtx_model.specs.Promotes.{identifier_of, is_enlisted_got, is_promoting, is_under_way}
use Rattle.dtx_model.specs.Wires.{in_transit, opens}
use Rattle.dtx_model.specs.declared.waiting.Wanted.TheVariants.{Identifier, Place}
use Rattle.dtx_model.specs.Waiting.{Waiter, is_place_of, waiting}
use Rattle.dtx_model.specs.Half.{Half, is_gone, is_handed, is_promoting as sees_promoting, over, sees, stands, veto, was_told}
use Rattle.dtx_model.specs.Acts.{act_by, act_entries, is_to_tell, tell}
use Rattle.dtx_model.specs.Arrivals.{aborted_by, arrived, local_got, place_given, told_abort}
use Rattle.dtx_model.specs.Coordinated.{core_got, may_log}
use Rattle.dtx_model.specs.Facts.{facts_if, has_facts, is_late, reaches, tick_facts, ticked, time_up}
use Rattle.dtx_model.specs.Replies.{reply_entries}
use Rattle.dtx_model.specs.World.{World, answer_at, core, facts_at, gone_by, half, open_ones, reenlist_facts}
use Rattle.dtx_model.specs.Steps.{Step, Calls, Replies, Acts, Coordinates, Delivers, Stops, Restarts, after, block_at, coordinates, delivered, ended_at, got_by, restarted}
use Rattle.dtx_model.specs.Caused.{Ran}
use Rattle.dtx_model.proofs.Bools.{and_both, and_left, and_never, and_right, not_both, or_case, or_right}
use Rattle.dtx_model.proofs.Quiet.{is_quiet, q_act, q_appended, q_called, q_ended_at, q_freed, q_got_by, q_if, q_reply, q_restarted}
use Rattle.history_table.proofs.Scans.{each_more, has_less, has_more}
use Rattle.history_table.proofs.EntryTests.{is_enlisted}
use Rattle.history_table.proofs.TableRows.{enlisted_in_rows}
use Rattle.history_table.proofs.Owned.{decision_seen, handover_stands}
use Rattle.history_table.proofs.Keeping.{Keeps}
use Rattle.history_table.proofs.Deciding.{decided_there, stays}
use Rattle.history_table.proofs.HalfKnows.{way_seen}
use Rattle.history_table.proofs.Handover.{opening_before}
use Rattle.history_table.proofs.Leading.{opening_was_sent}
use Rattle.history_table.proofs.Messages.{ENLIST}
use Rattle.settled_histories.proofs.MessageKinds.{ENLISTED}
use Rattle.settled_histories.proofs.ByTable.{ruled_later}
use Rattle.settled_histories.proofs.Coming.{AreComing}
use Rattle.settled_histories.proofs.ComingRuns.{ran_coming}
use Rattle.script_histories.proofs.HalfHeard.{is_told_here}
use Rattle.settled_histories.proofs.CommonBlocks.{common_act, common_arrived, common_called, common_coordinates, common_core_got, common_decide, common_ended_at, common_gone, common_reply, common_restarted, common_unless, common_veto, gone_parts, gone_rest, is_common}
use Rattle.script_histories.proofs.PromotesRuns.{keeps_past}
use Rattle.dtx_model.proofs.Histories.{onto-append}
use Rattle.history_table.proofs.Crossed.{is_sent_on, is_got_on}
use Rattle.history_table.proofs.Handing.{keeps_within}
use Rattle.settled_histories.proofs.Returned.{AreReturned, ran_returned}
use Rattle.settled_histories.proofs.SealedRows.{opens_sends}

-- Whoever had its ENLISTED is enlisted, or the transaction is decided.
abbrev pub is_placed : ℕ → List Entry → Bool
is_placed n h = has is_decision h || has (is_enlisted n) h

abbrev pub ArePlaced : List Entry → Type 0
ArePlaced h = (e : EnlNo) → has (is_enlisted_got e.value) h ≡ true → is_placed e.value h ≡ true

placed_stays : (n : ℕ) (h es : List Entry) → is_placed n h ≡ true → is_placed n (onto h es) ≡ true
placed_stays n h es k =
    or_case (has is_decision h) (has (is_enlisted n) h) (λ d. or_left (has is_decision (onto h es)) (has (is_enlisted n) (onto h es)) (stays is_decision h es d))
    (λ s. or_right (has is_decision (onto h es)) (has (is_enlisted n) (onto h es)) (stays (is_enlisted n) h es s)) k

-- an entry by which no ENLISTED is got
abbrev is_unplacing : Entry → Bool
is_unplacing (Got (Enl e) Down EnlistEnlisted) = false
is_unplacing _ = true

quiet_unplacing : (x : Entry) → is_quiet x ≡ true → is_unplacing x ≡ true
quiet_unplacing (Got c d m) k = absurd cc
quiet_unplacing _ k = refl

unplaced_got : (n : ℕ) (x : Entry) → is_unplacing x ≡ true → is_enlisted_got n x ≡ false
unplaced_got n (Got (Enl e) Down EnlistEnlisted) k = absurd cc
unplaced_got n _ k = refl

got_before : (n : ℕ) (h es : List Entry) → each is_unplacing es ≡ true → has (is_enlisted_got n) (onto h es) ≡ true → has (is_enlisted_got n) h ≡ true
got_before n h [] k g = g
got_before n h (x ∷ es) k g =
    or_case (is_enlisted_got n x) (has (is_enlisted_got n) h) (λ q. absurd (not_both (is_enlisted_got n x) q (unplaced_got n x (and_left (is_unplacing x) (each is_unplacing es) k)))) (λ q. q)
    (got_before n (x ∷ h) es (and_right (is_unplacing x) (each is_unplacing es) k) g)

unplaced : (h es : List Entry) → each is_unplacing es ≡ true → ArePlaced h → ArePlaced (onto h es)
unplaced h es k p = λ e g. placed_stays e.value h es (p e (got_before e.value h es k g))

quiet_all : (es : List Entry) → each is_quiet es ≡ true → each is_unplacing es ≡ true
quiet_all es k = each_more is_quiet is_unplacing quiet_unplacing es k

quiet_placed : (h es : List Entry) → each is_quiet es ≡ true → ArePlaced h → ArePlaced (onto h es)
quiet_placed h es k p = unplaced h es (quiet_all es k) p

enlisted_on : (e : EnlNo) (x : Entry) → is_got_on (Enl e) Down ENLISTED x ≡ true → is_enlisted_got e.value x ≡ true
enlisted_on e (Got (Enl f) Down EnlistEnlisted) t = and_left (e.value == f.value) true (and_left ((e.value == f.value) && true) true t)
enlisted_on e (Got (Enl f) Down m) t = absurd (not_both (((e.value == f.value) && true) && false) t (and_never ((e.value == f.value) && true)))
enlisted_on e (Got (Enl f) Up m) t = absurd (upward (e.value == f.value) (ENLISTED m) t)
  where
    upward : (a b : Bool) → (a && false && b) ≡ true → ⊥
    upward true b k = cc
    upward false b k = cc
enlisted_on e (Got Begin d m) t = absurd cc
enlisted_on e (Got Voter d m) t = absurd cc
enlisted_on e (Got (Again f) d m) t = absurd cc
enlisted_on e _ t = absurd cc

found_place : (n : ℕ) (h : List Entry) (ws : List Waiter) → has (is_place_of n) ws ≡ true → has (is_enlisted n) (onto h (place_given (find (is_place_of n) ws))) ≡ true
found_place n h [] k = absurd cc
found_place n h (v ∷ ws) k = step (is_place_of n v) refl k (found_place n h ws)
  where
    own : (v : Waiter) → is_place_of n v ≡ true → has (is_enlisted n) (onto h (place_given (Some v))) ≡ true
    own (m, Place f r c) q = or_left (n == f.value) (has (is_enlisted n) h) q
    own (m, Identifier) q = absurd cc

    step : (b : Bool) → is_place_of n v ≡ b → (b || has (is_place_of n) ws) ≡ true → (has (is_place_of n) ws ≡ true → has (is_enlisted n) (onto h (place_given (find (is_place_of n) ws))) ≡ true)
        → has (is_enlisted n) (onto h (place_given (if b then Some v else find (is_place_of n) ws))) ≡ true
    step true q k f = own v q
    step false q k f = f k

enlisted_then : (n : ℕ) (h : List Entry) (b p q : Bool) (xs ys : List Entry) → b ≡ false → p ≡ false → q ≡ true → has (is_enlisted n) (onto h ys) ≡ true
    → has (is_enlisted n) (onto h (if b then [] else if p then xs else if q then ys else [])) ≡ true
enlisted_then n h true p q xs ys e f g k = absurd cc
enlisted_then n h false true q xs ys e f g k = absurd cc
enlisted_then n h false false false xs ys e f g k = absurd cc
enlisted_then n h false false true xs ys e f g k = k

-- where it is promoted no promotion is under way
not_promoting : (h : List Entry) → has is_promoted h ≡ true → sees_promoting (observe h) ≡ false
not_promoting h p = way_seen h ∙ step (has is_promoting h) (has is_promoted h) (has is_promotion_failed h) p
  where
    step : (a b c : Bool) → b ≡ true → (a && not b && not c) ≡ false
    step true true c e = refl
    step false true c e = refl
    step a false c e = absurd cc

promoted_placed : (t : ℕ) (w : World) (e : EnlNo) → has is_decision w.past ≡ false → has is_promoted w.past ≡ true → has (is_place_of e.value) (waiting w.calls w.past) ≡ true
    → has (is_enlisted e.value) (onto (Got (Enl e) Down EnlistEnlisted ∷ w.past) (local_got t (half w) (Enl e) EnlistEnlisted)) ≡ true
unfolding local_got observe track
promoted_placed t w e d p q =
    let g = Got (Enl e) Down EnlistEnlisted ∷ w.past in
    let v = sees (half w) (Got (Enl e) Down EnlistEnlisted) in
    enlisted_then e.value g (is_some (latest decision_of w.past)) (sees_promoting v.seen && is_handed v.seen.handover e.value) (has is_promoted w.past) (over t v) (place_given (find (is_place_of e.value) (waiting w.calls w.past)))
    (decision_seen w.past ∙ d) (ap (λ b. b && is_handed v.seen.handover e.value) (not_promoting g p)) p (found_place e.value g (waiting w.calls w.past) q)

enlisted_placed : (t : ℕ) (w : World) (e : EnlNo) → Keeps (Got (Enl e) Down EnlistEnlisted ∷ w.past) → AreComing w.calls w.past → ArePlaced w.past
    → ArePlaced (onto (Got (Enl e) Down EnlistEnlisted ∷ w.past) (local_got t (half w) (Enl e) EnlistEnlisted))
enlisted_placed t w e k j p = λ f x.
    or_case (f.value == e.value) (has (is_enlisted_got f.value) w.past) (λ q. subst (λ n. is_placed n G ≡ true) (sym (eqb-true f.value e.value q)) (own (has is_decision w.past) refl)) (λ q. placed_stays f.value g es (p f q))
    (got_before f.value g es (quiet_all es (q_got_by t w (Enl e) Down EnlistEnlisted).proof) x)
  where
    g : List Entry
    g = Got (Enl e) Down EnlistEnlisted ∷ w.past

    es : List Entry
    es = local_got t (half w) (Enl e) EnlistEnlisted

    G : List Entry
    G = onto g es

    sent : has (is_sent_on (Enl e) Up ENLIST) w.past ≡ true
    sent = has_more (opens (Enl e)) (is_sent_on (Enl e) Up ENLIST) (opens_sends e) w.past (opening_was_sent (Enl e) w.past k.wires.1 (opening_before (Enl e) EnlistEnlisted w.past k))

    first : has is_decision w.past ≡ false → (b : Bool) → has (is_enlisted_got e.value) w.past ≡ b → is_placed e.value G ≡ true
    first d true q = placed_stays e.value g es (p e q)
    first d false q =
        or_case (is_under_way w.past && is_handed (handover w.past) e.value) (has is_promoted w.past && has (is_place_of e.value) (waiting w.calls w.past))
        (λ c. placed_stays e.value g es
        (or_right (has is_decision w.past) (has (is_enlisted e.value) w.past) (handover_stands e.value w.past (and_right (is_under_way w.past) (is_handed (handover w.past) e.value) c))))
        (λ c. or_right (has is_decision G) (has (is_enlisted e.value) G)
        (promoted_placed t w e d (and_left (has is_promoted w.past) (has (is_place_of e.value) (waiting w.calls w.past)) c) (and_right (has is_promoted w.past) (has (is_place_of e.value) (waiting w.calls w.past)) c)))
        (j d e sent (has_less (is_got_on (Enl e) Down ENLISTED) (is_enlisted_got e.value) (enlisted_on e) w.past q))

    own : (b : Bool) → has is_decision w.past ≡ b → is_placed e.value G ≡ true
    own true d = placed_stays e.value g es (or_left (has is_decision w.past) (has (is_enlisted e.value) w.past) d)
    own false d = first d (has (is_enlisted_got e.value) w.past) refl

got_placed : (t : ℕ) (w : World) (c : Conn) (d : Dir) (m : Message) → Keeps (Got c d m ∷ w.past) → AreComing w.calls w.past → ArePlaced w.past → ArePlaced (onto (Got c d m ∷ w.past) (got_by t w c d m))
got_placed t w (Enl e) Down EnlistEnlisted k j p = enlisted_placed t w e k j p
got_placed t w c d m k j p = quiet_placed (Got c d m ∷ w.past) (got_by t w c d m) (q_got_by t w c d m).proof p

delivered_placed : (t : ℕ) (w : World) (c : Conn) (d : Dir) (ms : List Message) → Keeps (onto w.past (delivered t w c d ms)) → AreComing w.calls w.past → ArePlaced w.past → ArePlaced (onto w.past (delivered t w c d ms))
delivered_placed t w c d [] k j p = quiet_placed (End c d ∷ w.past) (ended_at w c d) (q_ended_at w c d).proof p
delivered_placed t w c d (m ∷ ms) k j p = got_placed t w c d m (keeps_within (Got c d m ∷ w.past) (got_by t w c d m) k) j p

step_placed : (t : ℕ) (w : World) (m : Step) → Keeps (after t w m).past → AreComing w.calls w.past → ArePlaced w.past → ArePlaced (after t w m).past
unfolding after block_at
step_placed t w (Calls n a c m) k j p =
    quiet_placed (Called n a (answer_at t w c m) ∷ w.past) (facts_if (has_facts (answer_at t w c m)) (facts_at t w c (answer_at t w c m))) (q_called t w c (answer_at t w c m)).proof p
step_placed t w (Replies e x) k j p = quiet_placed w.past (reply_entries (half w) e x) (q_reply (half w) e x).proof p
step_placed t w Acts k j p = quiet_placed w.past (act_entries (half w)) (q_act (half w)).proof p
step_placed t w (Coordinates x) k j p = quiet_placed w.past (coordinates (core w) x) (q_if (may_log (core w)) (q_appended (core w) x) (q_freed x)).proof p
step_placed t w (Delivers c d) k j p = delivered_placed t w c d (in_transit c d w.past) k j p
step_placed t w Stops k j p = p
step_placed t w (Restarts found) k j p = quiet_placed w.past (restarted (core w).stopped found) (q_restarted (core w).stopped found).proof p

pub ran_placed : (G : ℕ → ActorNo → Call → Type 0) (t : ℕ) (ms : List Step) (w : World) → Ran G t ms w → Keeps w.past → ArePlaced w.past
ran_placed G t [] w r k = subst ArePlaced (sym r.1) (λ e q. absurd cc)
ran_placed G t (m ∷ ms) w r k =
    let now = subst (λ (x : World). Keeps x.past) r.3 k in
    let past = keeps_past t r.0 m now in
    subst (λ (x : World). ArePlaced x.past) (sym r.3) (step_placed t r.0 m now (ran_coming G t ms r.0 r.1 (ruled_later r.0.past past.rules)) (ran_placed G t ms r.0 r.1 past))

-- Who is told an abort is told it after the decision, or was enlisted.
abbrev AreTold : List Entry → Type 0
AreTold h = always is_told_here h ≡ true

common_told : (h es : List Entry) → each is_common es ≡ true → AreTold h → AreTold (onto h es)
common_told h [] k a = a
common_told h (x ∷ es) k a = common_told (x ∷ h) es (and_right (is_common x) (each is_common es) k) (and_both (is_told_here h x) (always is_told_here h) (one x (and_left (is_common x) (each is_common es) k)) a)
  where
    one : (x : Entry) → is_common x ≡ true → is_told_here h x ≡ true
    one (Told p o) k = absurd cc
    one _ k = refl

after_decision : (h : List Entry) (p : Party) (o : Outcome) → has is_decision h ≡ true → AreTold h → AreTold (Told p o ∷ h)
after_decision h p o d a = and_both (is_told_here h (Told p o)) (always is_told_here h) (by p o) a
  where
    by : (p : Party) (o : Outcome) → is_told_here h (Told p o) ≡ true
    by Client o = refl
    by (Member e) Committed = refl
    by (Member e) Aborted = or_left (has is_decision h) (has (is_enlisted e.value) h) d
    by (Member e) InDoubt = refl

-- the local act
tell_told : (h : List Entry) (x : Outcome) (l : Option Listener) (o : Option Outcome) → has is_decision h ≡ true → AreTold h → AreTold (onto h (tell x l o))
tell_told h x (Some l) o d a = after_decision h (Member l.enlistment) x d a
tell_told h x None (Some y) d a = a
tell_told h x None None d a = after_decision h Client x d a

act_told : (w : World) → AreTold w.past → AreTold (onto w.past (act_entries (half w)))
unfolding observe act_entries
act_told w a = by (latest decision_of w.past) refl
  where
    by : (o : Option Outcome) → latest decision_of w.past ≡ o → AreTold (onto w.past (act_by (latest decision_of w.past) (half w)))
    by (Some x) q =
        let P : Option Outcome → Type 0 = λ o. AreTold (onto w.past (act_by o (half w))) in
        subst P (sym q) (tell_told w.past x (find (is_to_tell (half w).seen x) (half w).seen.listeners) (half w).seen.told_client (decided_there w.past x q) a)
    by None q = common_told w.past (act_entries (half w)) (common_act (half w) q).proof a

-- the calls
time_told : (v : Half) (h : List Entry) (b : Bool) → AreTold h → AreTold (onto h (if b then time_up v else []))
time_told v h false a = a
time_told v h true a = by (is_late v.seen)
  where
    by : (late : Bool) → AreTold (onto h (if late then Late ∷ [] else TimedOut ∷ veto v))
    by true = a
    by false = common_told (TimedOut ∷ h) (veto v) (common_veto v).proof a

tick_told : (h : List Entry) (v : Half) (n : ℕ) (b : Bool) → AreTold h → AreTold (onto h (facts_if b (tick_facts v n)))
tick_told h v n false a = a
tick_told h v n true a = time_told v (Clock n ∷ h) (reaches v.seen.limit v.seen.clock n) a

back_told : (t : ℕ) (h : List Entry) (o : Option Branch) (b : Bool) → AreTold h → AreTold (onto h (facts_if b (reenlist_facts t o)))
back_told t h o false a = a
back_told t h (Some x) true a = a
back_told t h None true a = a

-- a loss
lost_told : (w : World) (h : List Entry) (e : EnlNo) (cs : List Conn) (b : Bool) → AreTold h → AreTold (onto h (facts_if b (gone_by w e cs)))
lost_told w h e cs false a = a
lost_told w h e cs true a = subst (λ (es : List Entry). AreTold (onto h es)) (sym (gone_parts w e cs)) (common_told (Lost e ∷ h) (gone_rest w e cs) (common_gone w e cs).proof a)

call_told : (t : ℕ) (w : World) (n : ℕ) (a : ActorNo) (c : Call) (y : Answer) → AreTold w.past → AreTold (onto w.past (Called n a y ∷ facts_if (has_facts y) (facts_at t w c y)))
call_told t w n a (Tick u i) y k = tick_told (Called n a y ∷ w.past) (half w) (ticked (half w).seen.clock i) (has_facts y) k
call_told t w n a (Reenlist e) y k = back_told t (Called n a y ∷ w.past) (find (is_branch e.value) (half w).seen.branches) (has_facts y) k
call_told t w n a (Gone e) y k = lost_told w (Called n a y ∷ w.past) e (open_ones w e) (has_facts y) k
call_told t w n a c y k = common_told (Called n a y ∷ w.past) (facts_if (has_facts y) (facts_at t w c y)) (common_called t w c y refl).proof k

-- the arrivals
abort_told : (h : List Entry) (v : Half) (e : EnlNo) → (stands v.seen e.value ≡ true → has (is_enlisted e.value) h ≡ true) → AreTold h → AreTold (onto h (told_abort v e))
abort_told h v e f a = by (stands v.seen e.value) (not (was_told v.seen e.value)) (not (is_gone v.seen e.value)) f
  where
    by : (s x y : Bool) → (s ≡ true → has (is_enlisted e.value) h ≡ true) → AreTold (onto h (if s && x && y then Told (Member e) Aborted ∷ [] else []))
    by true true true f = and_both (is_placed e.value h) (always is_told_here h) (or_right (has is_decision h) (has (is_enlisted e.value) h) (f refl)) a
    by true true false f = a
    by true false y f = a
    by false x y f = a

arrived_told : (t : ℕ) (w : World) (c : Conn) (m : Message) → Keeps (Got c Down m ∷ w.past) → ArePlaced w.past → AreReturned w.past → AreTold w.past → AreTold (onto (Got c Down m ∷ w.past) (local_got t (half w) c m))
unfolding local_got observe track
arrived_told t w (Enl e) EnlistCommit k p r a = a
arrived_told t w (Enl e) EnlistAbort k p r a =
    let g = Got (Enl e) Down EnlistAbort ∷ w.past in
    let v = sees (half w) (Got (Enl e) Down EnlistAbort) in
    subst AreTold (sym (onto-append g (told_abort v e) (aborted_by v)))
    (common_told (onto g (told_abort v e)) (aborted_by v) (common_unless v (common_decide v Aborted)).proof (abort_told g v e (λ s. sym (enlisted_in_rows e.value w.past) ∙ s) a))
arrived_told t w (Again e) ReenlistCommitted k p r a = a
arrived_told t w (Again e) ReenlistAborted k p r a =
    and_both (is_placed e.value w.past) (always is_told_here w.past) (p e (r e (opening_was_sent (Again e) w.past k.wires.1 (opening_before (Again e) ReenlistAborted w.past k)))) a
arrived_told t w c m k p r a =
    common_told (Got c Down m ∷ w.past) (arrived t (sees (half w) (Got c Down m)) c m) (common_arrived t (sees (half w) (Got c Down m)) c m refl).proof a

delivered_told : (t : ℕ) (w : World) (c : Conn) (d : Dir) (ms : List Message) → Keeps (onto w.past (delivered t w c d ms)) → ArePlaced w.past → AreReturned w.past → AreTold w.past
    → AreTold (onto w.past (delivered t w c d ms))
delivered_told t w c d [] k p r a = common_told (End c d ∷ w.past) (ended_at w c d) (common_ended_at w c d).proof a
delivered_told t w c Up (m ∷ ms) k p r a = common_told (Got c Up m ∷ w.past) (core_got (identifier_of t) (core w) c m) (common_core_got (identifier_of t) (core w) c m).proof a
delivered_told t w c Down (m ∷ ms) k p r a = arrived_told t w c m (keeps_within (Got c Down m ∷ w.past) (local_got t (half w) c m) k) p r a

step_heard : (t : ℕ) (w : World) (m : Step) → Keeps (after t w m).past → ArePlaced w.past → AreReturned w.past → AreTold w.past → AreTold (after t w m).past
unfolding after block_at
step_heard t w (Calls n a c m) k p r o = call_told t w n a c (answer_at t w c m) o
step_heard t w (Replies e x) k p r o = common_told w.past (reply_entries (half w) e x) (common_reply (half w) e x).proof o
step_heard t w Acts k p r o = act_told w o
step_heard t w (Coordinates x) k p r o = common_told w.past (coordinates (core w) x) (common_coordinates (core w) x).proof o
step_heard t w (Delivers c d) k p r o = delivered_told t w c d (in_transit c d w.past) k p r o
step_heard t w Stops k p r o = o
step_heard t w (Restarts found) k p r o = common_told w.past (restarted (core w).stopped found) (common_restarted (core w).stopped found).proof o

pub ran_heard : (G : ℕ → ActorNo → Call → Type 0) (t : ℕ) (ms : List Step) (w : World) → Ran G t ms w → Keeps w.past → always is_told_here w.past ≡ true
ran_heard G t [] w r k = subst AreTold (sym r.1) refl
ran_heard G t (m ∷ ms) w r k =
    let now = subst (λ (x : World). Keeps x.past) r.3 k in
    let past = keeps_past t r.0 m now in
    subst (λ (x : World). AreTold x.past) (sym r.3)
    (step_heard t r.0 m now (ran_placed G t ms r.0 r.1 past) (ran_returned G t ms r.0 r.1) (ran_heard G t ms r.0 r.1 past))
