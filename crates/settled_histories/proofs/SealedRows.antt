-- In each world that steps made, whose history keeps the table: once it is sealed, each enlistment of which the coordinator got ENLIST stands. So whoever is asked to prepare
-- was enlisted.
use Rattle.std.proofs.Common.{◌≡◌, ℕ, ◌==◌, Bool, true, false, ◌&&◌, ◌||◌, inl, inr, List, [], ◌∷◌, Some, None, refl, sym, subst, ap, ◌∙◌}
use Rattle.std.specs.Prelude.{find, is_some, not, if◌then◌else◌}
use Rattle.std.proofs.lemmas.Bool.{eqb-true, or_left}
use Rattle.dtx_values.specs.declared.call.Call.{Call}
use Rattle.dtx_values.specs.declared.entry.Entry.{Entry}
use Rattle.dtx_values.specs.declared.entry.Entry.TheVariants.{Asked, Called, Down as Ended, Got, Restarted, Sealed, Sent, Stopped}
use Rattle.dtx_values.specs.declared.entry.Ask.TheVariants.{Prepare, Promote, Single}
use Rattle.dtx_values.specs.declared.message.Conn.{Conn}
use Rattle.dtx_values.specs.declared.message.Conn.TheVariants.{Begin, Voter, Enl, Again}
use Rattle.dtx_values.specs.declared.message.Dir.{Dir}
use Rattle.dtx_values.specs.declared.message.Dir.TheVariants.{Up, Down}
use Rattle.dtx_values.specs.declared.message.Message.{Message}
use Rattle.dtx_values.specs.declared.message.Message.TheVariants.{BeginCommit, EnlistEnlist, EnlistEnlisted, EnlistPrepare}
use Rattle.dtx_values.specs.declared.number.ActorNo.{ActorNo}
use Rattle.dtx_values.specs.declared.number.EnlNo.{EnlNo}
use Rattle.dtx_values.specs.Ends.{same_connection}
use Rattle.dtx_values.specs.Lines.{has_line, is_opening}
use Rattle.dtx_model.specs.Words.{always, each, has, latest, onto}
use Rattle.dtx_model.specs.Entries.{decision_of, is_asked, is_commit, is_commit_got, is_two_phase_got, is_decision, is_promoted, is_sealed}
use Rattle.dtx_model.specs.Observed.{handover, is_promotion_failed, observe, track}
use Rattle.dtx_model.specs.Promotes.{identifier_of, is_promoting, is_under_way}
use Rattle.dtx_model.specs.Wires.{MayCross, in_transit, is_next, opens}
use Rattle.dtx_model.specs.declared.waiting.EnteredCall.{EnteredCall}
use Rattle.dtx_model.specs.Waiting.{Waiter, is_place_of, waiting}
use Rattle.dtx_model.specs.declared.waiting.Wanted.TheVariants.{Identifier, Place}
use Rattle.dtx_model.specs.Half.{is_handed, is_promoting as sees_promoting, over, sees}
use Rattle.dtx_model.specs.Arrivals.{local_got, place_given}
use Rattle.dtx_model.specs.Acts.{act_entries, commit_sent}
use Rattle.dtx_model.specs.Coordinated.{core_got}
use Rattle.dtx_model.specs.Replies.{reply_entries}
use Rattle.dtx_model.specs.Facts.{facts_if, has_facts}
use Rattle.dtx_model.specs.World.{World, answer_at, core, facts_at, half}
use Rattle.dtx_model.specs.Steps.{Step, Calls, Replies, Acts, Coordinates, Delivers, Stops, Restarts, after, block_at, coordinates, delivered, ended_at, restarted}
use Rattle.dtx_model.specs.Caused.{Ran}
use Rattle.dtx_model.proofs.Bools.{and_both, and_left, and_never, and_right, not_both, or_case, or_right, or_second}
use Rattle.dtx_model.proofs.Reading.{has-onto}
use Rattle.history_table.proofs.Tests.{third_of_four, fourth_of_four, not_up}
use Rattle.history_table.proofs.Scans.{has_more}
use Rattle.history_table.proofs.EntryTests.{is_enlisted}
use Rattle.history_table.proofs.Messages.{ENLIST, PREPARE}
use Rattle.settled_histories.proofs.MessageKinds.{ENLISTED}
use Rattle.settled_histories.proofs.SameRows.{is_asked_there}
use Rattle.history_table.proofs.Owned.{decision_seen, handover_stands}
use Rattle.history_table.proofs.HalfKnows.{way_seen}
use Rattle.history_table.proofs.HalfRows.{sealed_if_commit, volatile_stands}
use Rattle.history_table.proofs.Deciding.{stays}
use Rattle.history_table.proofs.Table.{ask_row, ends_with, is_opening_got, is_prepare_got, is_there, message_row, rule, stands_volatile, is_enlist_got}
use Rattle.history_table.proofs.Keeping.{Keeps, earlier, keeps_before, newest}
use Rattle.history_table.proofs.Crossed.{got_sent, is_got_on, is_sent_on, was_sent}
use Rattle.history_table.proofs.CoreKnown.{sent_opened_there}
use Rattle.history_table.proofs.Leading.{opening_was_sent}
use Rattle.history_table.proofs.Standing.{ends_has, opened_if_got}
use Rattle.settled_histories.proofs.BeforeRows.{prepare_on}
use Rattle.settled_histories.proofs.ByTable.{ruled_later}
use Rattle.settled_histories.proofs.Coming.{AreComing}
use Rattle.settled_histories.proofs.ComingRuns.{ran_coming}
use Rattle.history_table.proofs.Upward.{IsComing, none_coming, none_waits, step_coming}
use Rattle.settled_histories.proofs.QuietKinds.{ActKind, act_kind, q_called, q_commit_sent, q_core_got, q_ended_at, q_local_got, q_reply}
use Rattle.history_table.proofs.QuietBlocks.{is_quiet, q_coordinates}
use Rattle.dtx_model.proofs.Quiet.{takes_next}
use Rattle.history_table.proofs.Handing.{keeps_within}
use Rattle.dtx_model.proofs.Connections.{same_is}
use Rattle.history_table.proofs.Arrivals.{opening_enlist}

-- whose ENLISTED was got stands, while nothing is decided
abbrev pub IsJoined : List Entry → Type 0
IsJoined h = has is_decision h ≡ false → (e : EnlNo) → has (is_got_on (Enl e) Down ENLISTED) h ≡ true → has (is_enlisted e.value) h ≡ true

-- of whom the coordinator got ENLIST stands, once it is sealed
abbrev pub IsSealedWell : List Entry → Type 0
IsSealedWell h = has is_sealed h ≡ true → (e : EnlNo) → has (is_got_on (Enl e) Up ENLIST) h ≡ true → has (is_enlisted e.value) h ≡ true

-- so it is at each time
abbrev pub AreSealedWell : List Entry → Type 0
AreSealedWell [] = Unit {0}
AreSealedWell (x ∷ h) = IsSealedWell (x ∷ h) × AreSealedWell h

now_well : (h : List Entry) → AreSealedWell h → IsSealedWell h
now_well [] a = λ s. absurd cc
now_well (x ∷ h) a = a.0

-- One more entry that is neither got nor the seal.
quiet_ungot : (c : Conn) (d : Dir) (p : Message → Bool) (x : Entry) → is_quiet x ≡ true → is_got_on c d p x ≡ false
quiet_ungot c d p (Got e r m) q = absurd cc
quiet_ungot c d p _ q = refl

pub quiet_unsealed : (x : Entry) → is_quiet x ≡ true → is_sealed x ≡ false
quiet_unsealed Sealed q = absurd cc
quiet_unsealed _ q = refl

only_rest : (a b : Bool) → a ≡ false → (a || b) ≡ true → b ≡ true
only_rest a b n k = or_case a b (λ t. absurd (not_both a t n)) (λ t. t) k

joined_more : (x : Entry) (h : List Entry) → ((e : EnlNo) → is_got_on (Enl e) Down ENLISTED x ≡ false) → IsJoined h → IsJoined (x ∷ h)
joined_more x h n j = λ d e g.
    or_right (is_enlisted e.value x) (has (is_enlisted e.value) h)
    (j (or_second (is_decision x) (has is_decision h) d) e (only_rest (is_got_on (Enl e) Down ENLISTED x) (has (is_got_on (Enl e) Down ENLISTED) h) (n e) g))

joined_onto : (h es : List Entry) → each is_quiet es ≡ true → IsJoined h → IsJoined (onto h es)
joined_onto h [] q j = j
joined_onto h (x ∷ es) q j =
    joined_onto (x ∷ h) es (and_right (is_quiet x) (each is_quiet es) q)
    (joined_more x h (λ e. quiet_ungot (Enl e) Down ENLISTED x (and_left (is_quiet x) (each is_quiet es) q)) j)

well_more : (x : Entry) (h : List Entry) → is_sealed x ≡ false → ((e : EnlNo) → is_got_on (Enl e) Up ENLIST x ≡ false) → IsSealedWell h → IsSealedWell (x ∷ h)
well_more x h u n w = λ s e g.
    or_right (is_enlisted e.value x) (has (is_enlisted e.value) h)
    (w (only_rest (is_sealed x) (has is_sealed h) u s) e (only_rest (is_got_on (Enl e) Up ENLIST x) (has (is_got_on (Enl e) Up ENLIST) h) (n e) g))

one_well : (x : Entry) (h : List Entry) → is_sealed x ≡ false → ((e : EnlNo) → is_got_on (Enl e) Up ENLIST x ≡ false) → AreSealedWell h → AreSealedWell (x ∷ h)
one_well x h u n a = (well_more x h u n (now_well h a), a)

well_onto : (h es : List Entry) → each is_quiet es ≡ true → AreSealedWell h → AreSealedWell (onto h es)
well_onto h [] q a = a
well_onto h (x ∷ es) q a =
    let own = and_left (is_quiet x) (each is_quiet es) q in
    well_onto (x ∷ h) es (and_right (is_quiet x) (each is_quiet es) q) (one_well x h (quiet_unsealed x own) (λ e. quiet_ungot (Enl e) Up ENLIST x own) a)

no_enlisted : (e : EnlNo) (c : Conn) (m : Message) → ENLISTED m ≡ false → is_got_on (Enl e) Down ENLISTED (Got c Down m) ≡ false
no_enlisted e c m n = ap (λ b. same_connection (Enl e) c && true && b) n ∙ and_never (same_connection (Enl e) c && true)

no_enlist : (e : EnlNo) (c : Conn) (m : Message) → ENLIST m ≡ false → is_got_on (Enl e) Up ENLIST (Got c Up m) ≡ false
no_enlist e c m n = ap (λ b. same_connection (Enl e) c && true && b) n ∙ and_never (same_connection (Enl e) c && true)

-- ENLISTED comes: its enlistment is the handover's, or the call that waited has its place.
pub opens_sends : (e : EnlNo) (x : Entry) → opens (Enl e) x ≡ true → is_sent_on (Enl e) Up ENLIST x ≡ true
opens_sends e (Sent (Enl f) Up (EnlistEnlist i)) t = and_both ((e.value == f.value) && true) true (and_both (e.value == f.value) true (and_left (e.value == f.value) true t) refl) refl
opens_sends e (Sent (Enl f) Up m) t = absurd (not_both ((e.value == f.value) && false) t (and_never (e.value == f.value)))
opens_sends e (Sent Begin Up m) t = absurd cc
opens_sends e (Sent Voter Up m) t = absurd cc
opens_sends e (Sent (Again f) Up m) t = absurd cc
opens_sends e (Sent c Down m) t = absurd cc
opens_sends e _ t = absurd cc

enlist_was_sent : (e : EnlNo) (h : List Entry) → Keeps h → MayCross h (Got (Enl e) Down EnlistEnlisted) → has (is_sent_on (Enl e) Up ENLIST) h ≡ true
enlist_was_sent e h k n =
    has_more (opens (Enl e)) (is_sent_on (Enl e) Up ENLIST) (opens_sends e) h
    (opening_was_sent (Enl e) h k.wires (sent_opened_there (Enl e) (λ y. true) h k (got_sent (Enl e) Down EnlistEnlisted (λ y. true) h n refl)))

given_stands : (e : ℕ) (ws : List Waiter) → has (is_place_of e) ws ≡ true → has (is_enlisted e) (place_given (find (is_place_of e) ws)) ≡ true
given_stands e [] k = absurd cc
given_stands e ((n, Identifier) ∷ ws) k = given_stands e ws k
given_stands e ((n, Place f r c) ∷ ws) k = step (e == f.value) refl k (given_stands e ws)
  where
    step : (b : Bool) → (e == f.value) ≡ b → (b || has (is_place_of e) ws) ≡ true → (has (is_place_of e) ws ≡ true → has (is_enlisted e) (place_given (find (is_place_of e) ws)) ≡ true)
        → has (is_enlisted e) (place_given (if b then Some (n, Place f r c) else find (is_place_of e) ws)) ≡ true
    step true q k ih = or_left (e == f.value) false q
    step false q k ih = ih k

third_branch : (d a p : Bool) (xs ys : List Entry) → d ≡ false → a ≡ false → p ≡ true → (if d then [] else if a then xs else if p then ys else []) ≡ ys
third_branch true a p xs ys d n t = absurd cc
third_branch false true p xs ys d n t = absurd cc
third_branch false false true xs ys d n t = refl
third_branch false false false xs ys d n t = absurd cc

unway : (a b c : Bool) → b ≡ true → (a && not b && not c) ≡ false
unway true true c p = refl
unway true false c p = absurd cc
unway false b c p = refl

place_joins : (t : ℕ) (w : World) (e : EnlNo) → has is_decision w.past ≡ false → has is_promoted w.past ≡ true → has (is_place_of e.value) (waiting w.calls w.past) ≡ true
    → has (is_enlisted e.value) (local_got t (half w) (Enl e) EnlistEnlisted) ≡ true
unfolding local_got observe track
place_joins t w e d p z =
    let h = w.past in
    let v = sees (half w) (Got (Enl e) Down EnlistEnlisted) in
    let way : sees_promoting (observe h) ≡ false = way_seen h ∙ unway (has is_promoting h) (has is_promoted h) (has is_promotion_failed h) p in
    let own : (sees_promoting (observe h) && is_handed (handover h) e.value) ≡ false = ap (λ b. b && is_handed (handover h) e.value) way in
    subst (λ (es : List Entry). has (is_enlisted e.value) es ≡ true)
    (sym (third_branch (is_some (latest decision_of h)) (sees_promoting (observe h) && is_handed (handover h) e.value) (has is_promoted h) (over t v) (place_given (find (is_place_of e.value) (waiting w.calls h)))
    (decision_seen h ∙ d) own p))
    (given_stands e.value (waiting w.calls h) z)

enlisted_joins : (t : ℕ) (w : World) (e : EnlNo) → Keeps w.past → MayCross w.past (Got (Enl e) Down EnlistEnlisted) → AreComing w.calls w.past → IsJoined w.past
    → IsJoined (onto (Got (Enl e) Down EnlistEnlisted ∷ w.past) (local_got t (half w) (Enl e) EnlistEnlisted))
enlisted_joins t w e k n c j = λ d f g.
    let h = w.past in
    let x : Entry = Got (Enl e) Down EnlistEnlisted in
    let es = local_got t (half w) (Enl e) EnlistEnlisted in
    let undecided : has is_decision h ≡ false = or_second (has is_decision es) (has is_decision h) (sym (has-onto is_decision (x ∷ h) es) ∙ d) in
    let before : has (is_got_on (Enl f) Down ENLISTED) (x ∷ h) ≡ true =
    only_rest (has (is_got_on (Enl f) Down ENLISTED) es) (has (is_got_on (Enl f) Down ENLISTED) (x ∷ h)) (none_got f es (q_local_got t (half w) (Enl e) EnlistEnlisted).proof)
    (sym (has-onto (is_got_on (Enl f) Down ENLISTED) (x ∷ h) es) ∙ g) in
    by f undecided (has (is_got_on (Enl f) Down ENLISTED) h) refl before
  where
    none_got : (f : EnlNo) (es : List Entry) → each is_quiet es ≡ true → has (is_got_on (Enl f) Down ENLISTED) es ≡ false
    none_got f [] q = refl
    none_got f (y ∷ es) q =
        ap (λ b. b || has (is_got_on (Enl f) Down ENLISTED) es) (quiet_ungot (Enl f) Down ENLISTED y (and_left (is_quiet y) (each is_quiet es) q)) ∙ none_got f es (and_right (is_quiet y) (each is_quiet es) q)

    block : List Entry
    block = local_got t (half w) (Enl e) EnlistEnlisted

    past_stands : (f : ℕ) → has (is_enlisted f) w.past ≡ true → has (is_enlisted f) (onto (Got (Enl e) Down EnlistEnlisted ∷ w.past) block) ≡ true
    past_stands f s = stays (is_enlisted f) (Got (Enl e) Down EnlistEnlisted ∷ w.past) block s

    own : (f : EnlNo) → has is_decision w.past ≡ false → has (is_got_on (Enl f) Down ENLISTED) w.past ≡ false → (f.value == e.value) ≡ true → has (is_enlisted f.value) (onto (Got (Enl e) Down EnlistEnlisted ∷ w.past) block) ≡ true
    own f u b q =
        let same : Enl f ≡ Enl e = same_is (Enl f) (Enl e) q in
        let P : Conn → Type 0 = λ z. has (is_got_on z Down ENLISTED) w.past ≡ false in
        let coming = c u e (enlist_was_sent e w.past k n) (subst P same b) in
        let N : ℕ → Type 0 = λ m. has (is_enlisted m) (onto (Got (Enl e) Down EnlistEnlisted ∷ w.past) block) ≡ true in
        subst N (sym (eqb-true f.value e.value q))
        (or_case (is_under_way w.past && is_handed (handover w.past) e.value) (has is_promoted w.past && has (is_place_of e.value) (waiting w.calls w.past))
        (λ a. past_stands e.value (handover_stands e.value w.past (and_right (is_under_way w.past) (is_handed (handover w.past) e.value) a)))
        (λ a. has-onto (is_enlisted e.value) (Got (Enl e) Down EnlistEnlisted ∷ w.past) block
        ∙ or_left (has (is_enlisted e.value) block) (has (is_enlisted e.value) w.past)
        (place_joins t w e u (and_left (has is_promoted w.past) (has (is_place_of e.value) (waiting w.calls w.past)) a) (and_right (has is_promoted w.past) (has (is_place_of e.value) (waiting w.calls w.past)) a)))
        coming)

    by : (f : EnlNo) → has is_decision w.past ≡ false → (b : Bool) → has (is_got_on (Enl f) Down ENLISTED) w.past ≡ b → (((f.value == e.value) && true && true) || has (is_got_on (Enl f) Down ENLISTED) w.past) ≡ true
        → has (is_enlisted f.value) (onto (Got (Enl e) Down EnlistEnlisted ∷ w.past) block) ≡ true
    by f u true b g = past_stands f.value (j u f b)
    by f u false b g =
        own f u b
        (or_case ((f.value == e.value) && true && true) (has (is_got_on (Enl f) Down ENLISTED) w.past) (λ a. and_left (f.value == e.value) true (and_left ((f.value == e.value) && true) true a))
        (λ a. absurd (not_both (has (is_got_on (Enl f) Down ENLISTED) w.past) a b)) g)

-- After each step.
got_joined : (t : ℕ) (w : World) (c : Conn) (m : Message) → Keeps w.past → MayCross w.past (Got c Down m) → AreComing w.calls w.past → IsJoined w.past
    → IsJoined (onto (Got c Down m ∷ w.past) (local_got t (half w) c m))
got_joined t w (Enl e) EnlistEnlisted k n a j = enlisted_joins t w e k n a j
got_joined t w (Enl f) m k n a j =
    joined_onto (Got (Enl f) Down m ∷ w.past) (local_got t (half w) (Enl f) m) (q_local_got t (half w) (Enl f) m).proof (joined_more (Got (Enl f) Down m) w.past (λ e. no_enlisted e (Enl f) m refl) j)
got_joined t w Begin m k n a j = joined_onto (Got Begin Down m ∷ w.past) (local_got t (half w) Begin m) (q_local_got t (half w) Begin m).proof (joined_more (Got Begin Down m) w.past (λ e. refl) j)
got_joined t w Voter m k n a j = joined_onto (Got Voter Down m ∷ w.past) (local_got t (half w) Voter m) (q_local_got t (half w) Voter m).proof (joined_more (Got Voter Down m) w.past (λ e. refl) j)
got_joined t w (Again f) m k n a j =
    joined_onto (Got (Again f) Down m ∷ w.past) (local_got t (half w) (Again f) m) (q_local_got t (half w) (Again f) m).proof (joined_more (Got (Again f) Down m) w.past (λ e. refl) j)

down_joined : (t : ℕ) (w : World) (c : Conn) (ms : List Message) → in_transit c Down w.past ≡ ms → Keeps w.past → AreComing w.calls w.past → IsJoined w.past → IsJoined (onto w.past (delivered t w c Down ms))
down_joined t w c [] q k a j = joined_onto w.past (Ended c Down ∷ ended_at w c Down) (and_both true (each is_quiet (ended_at w c Down)) refl (q_ended_at w c Down).proof) j
down_joined t w c (m ∷ ms) q k a j = got_joined t w c m k (takes_next m ms (in_transit c Down w.past) q) a j

up_joined : (t : ℕ) (w : World) (c : Conn) (ms : List Message) → IsJoined w.past → IsJoined (onto w.past (delivered t w c Up ms))
up_joined t w c [] j = joined_onto w.past (Ended c Up ∷ ended_at w c Up) (and_both true (each is_quiet (ended_at w c Up)) refl (q_ended_at w c Up).proof) j
up_joined t w c (m ∷ ms) j =
    joined_onto (Got c Up m ∷ w.past) (core_got (identifier_of t) (core w) c m) (q_core_got (identifier_of t) (core w) c m).proof
    (joined_more (Got c Up m) w.past (λ e. not_up (same_connection (Enl e) c) (ENLISTED m)) j)

act_joined : (w : World) (es : List Entry) → ActKind (half w) es → IsJoined w.past → IsJoined (onto w.past es)
act_joined w es (inl q) j = joined_onto w.past es q.proof j
act_joined w es (inr (inl p)) j = subst (λ (xs : List Entry). IsJoined (onto w.past xs)) (sym p.block) (joined_more (Asked p.who Promote) w.past (λ e. refl) j)
act_joined w es (inr (inr (inl p))) j = subst (λ (xs : List Entry). IsJoined (onto w.past xs)) (sym p.block) (joined_more (Asked p.who Single) w.past (λ e. refl) j)
act_joined w es (inr (inr (inr s))) j =
    subst (λ (xs : List Entry). IsJoined (onto w.past xs)) (sym s.block)
    (joined_onto (Sealed ∷ w.past) (commit_sent (half w).seen) (q_commit_sent (half w).seen).proof (joined_more Sealed w.past (λ e. refl) j))

restarted_joined : (h : List Entry) (b found : Bool) → IsJoined h → IsJoined (onto h (restarted b found))
restarted_joined h true found j = joined_more (Restarted found) h (λ e. refl) j
restarted_joined h false found j = joined_more (Restarted found) (Stopped ∷ h) (λ e. refl) (joined_more Stopped h (λ e. refl) j)

step_joined : (t : ℕ) (w : World) (m : Step) → Keeps w.past → AreComing w.calls w.past → IsJoined w.past → IsJoined (after t w m).past
unfolding after block_at
step_joined t w (Calls n x c m) k a j =
    joined_onto (Called n x (answer_at t w c m) ∷ w.past) (facts_if (has_facts (answer_at t w c m)) (facts_at t w c (answer_at t w c m))) (q_called t w c (answer_at t w c m)).proof
    (joined_more (Called n x (answer_at t w c m)) w.past (λ e. refl) j)
step_joined t w (Replies e r) k a j = joined_onto w.past (reply_entries (half w) e r) (q_reply (half w) e r).proof j
step_joined t w Acts k a j = act_joined w (act_entries (half w)) (act_kind (half w)) j
step_joined t w (Coordinates x) k a j = joined_onto w.past (coordinates (core w) x) (q_coordinates (core w) x).proof j
step_joined t w (Delivers c Up) k a j = up_joined t w c (in_transit c Up w.past) j
step_joined t w (Delivers c Down) k a j = down_joined t w c (in_transit c Down w.past) refl k a j
step_joined t w Stops k a j = joined_onto w.past (Stopped ∷ []) refl j
step_joined t w (Restarts found) k a j = restarted_joined w.past (core w).stopped found j

-- the world before the last step keeps the table where the one after it does
before_step : (G : ℕ → ActorNo → Call → Type 0) (t : ℕ) (m : Step) (ms : List Step) (w : World) (r : Ran G t (m ∷ ms) w) → Keeps w.past → Keeps r.0.past
unfolding after
before_step G t m ms w r k = keeps_within r.0.past (block_at t r.0 m) (subst (λ (x : World). Keeps x.past) r.3 k)

pub coming_of : (G : ℕ → ActorNo → Call → Type 0) (t : ℕ) (ms : List Step) (w : World) → Ran G t ms w → Keeps w.past → AreComing w.calls w.past
coming_of G t ms w r k = ran_coming G t ms w r (ruled_later w.past k.rules)

pub ran_joined : (G : ℕ → ActorNo → Call → Type 0) (t : ℕ) (ms : List Step) (w : World) → Ran G t ms w → Keeps w.past → IsJoined w.past
ran_joined G t [] w r k = subst IsJoined (sym r.1) (λ d e g. absurd cc)
ran_joined G t (m ∷ ms) w r k =
    let b = before_step G t m ms w r k in
    subst (λ (x : World). IsJoined x.past) (sym r.3) (step_joined t r.0 m b (coming_of G t ms r.0 r.1 b) (ran_joined G t ms r.0 r.1 b))

pub ran_upward : (G : ℕ → ActorNo → Call → Type 0) (t : ℕ) (ms : List Step) (w : World) → Ran G t ms w → Keeps w.past → IsComing w.calls w.past
ran_upward G t [] w r k = subst (λ (ks : List EnteredCall). IsComing ks w.past) (sym r.0) (subst (λ (h : List Entry). IsComing [] h) (sym r.1) none_coming)
ran_upward G t (m ∷ ms) w r k =
    let b = before_step G t m ms w r k in
    subst (λ (x : World). IsComing x.calls x.past) (sym r.3) (step_coming G t r.0 m r.2 b (ran_upward G t ms r.0 r.1 b))

-- The seal: nothing is under way, so each whose ENLIST was sent had its ENLISTED.
no_waiter : (e : ℕ) (ws : List Waiter) → ws ≡ [] → has (is_place_of e) ws ≡ false
no_waiter e [] q = refl
no_waiter e (w ∷ ws) q = absurd cc

pub seal_stands : (ks : List EnteredCall) (h : List Entry) → Keeps h → latest decision_of h ≡ None → (waiting ks h ≡ []) × (is_under_way h ≡ false) → AreComing ks h → IsJoined h
    → (e : EnlNo) → has (opens (Enl e)) h ≡ true → has (is_enlisted e.value) h ≡ true
seal_stands ks h k d q c j e o = by e (has_more (opens (Enl e)) (is_sent_on (Enl e) Up ENLIST) (opens_sends e) h o) (has (is_got_on (Enl e) Down ENLISTED) h) refl
  where
    undecided : has is_decision h ≡ false
    undecided = sym (decision_seen h) ∙ ap is_some d

    by : (e : EnlNo) → has (is_sent_on (Enl e) Up ENLIST) h ≡ true → (b : Bool) → has (is_got_on (Enl e) Down ENLISTED) h ≡ b → has (is_enlisted e.value) h ≡ true
    by e s true g = j undecided e g
    by e s false g =
        absurd
        (or_case (is_under_way h && is_handed (handover h) e.value) (has is_promoted h && has (is_place_of e.value) (waiting ks h))
        (λ a. not_both (is_under_way h) (and_left (is_under_way h) (is_handed (handover h) e.value) a) q.1)
        (λ a. not_both (has (is_place_of e.value) (waiting ks h)) (and_right (has is_promoted h) (has (is_place_of e.value) (waiting ks h)) a) (no_waiter e.value (waiting ks h) q.0)) (c undecided e s g))

seal_well : (ks : List EnteredCall) (h : List Entry) → Keeps h → latest decision_of h ≡ None → (waiting ks h ≡ []) × (is_under_way h ≡ false) → AreComing ks h → IsJoined h → IsSealedWell (Sealed ∷ h)
seal_well ks h k d q c j = λ s e g. seal_stands ks h k d q c j e (opened_if_got (Enl e) h k (has_more (is_got_on (Enl e) Up ENLIST) (is_opening_got (Enl e)) (enlist_opened e) h g))
  where
    enlist_opened : (e : EnlNo) (x : Entry) → is_got_on (Enl e) Up ENLIST x ≡ true → is_opening_got (Enl e) x ≡ true
    enlist_opened e (Got c Up m) t = and_both (same_connection (Enl e) c) (is_opening c m) (and_left (same_connection (Enl e) c) true (and_left (same_connection (Enl e) c && true) (ENLIST m) t)) (opened c m (and_left (same_connection (Enl e) c) true (and_left (same_connection (Enl e) c && true) (ENLIST m) t)) (and_right (same_connection (Enl e) c && true) (ENLIST m) t))
      where
        opened : (c : Conn) (m : Message) → same_connection (Enl e) c ≡ true → ENLIST m ≡ true → is_opening c m ≡ true
        opened (Enl f) (EnlistEnlist i) q t = refl
        opened c m q t = absurd cc
    enlist_opened e (Got c Down m) t = absurd (not_both (same_connection (Enl e) c && false && ENLIST m) t (not_up (same_connection (Enl e) c) (ENLIST m)))
    enlist_opened e x t = absurd cc

act_well : (w : World) (es : List Entry) → ActKind (half w) es → Keeps w.past → AreComing w.calls w.past → IsJoined w.past → AreSealedWell w.past → AreSealedWell (onto w.past es)
unfolding observe
act_well w es (inl q) k c j a = well_onto w.past es q.proof a
act_well w es (inr (inl p)) k c j a = subst (λ (xs : List Entry). AreSealedWell (onto w.past xs)) (sym p.block) (one_well (Asked p.who Promote) w.past refl (λ e. refl) a)
act_well w es (inr (inr (inl p))) k c j a = subst (λ (xs : List Entry). AreSealedWell (onto w.past xs)) (sym p.block) (one_well (Asked p.who Single) w.past refl (λ e. refl) a)
act_well w es (inr (inr (inr s))) k c j a =
    let parts = none_waits (waiting w.calls w.past) (sees_promoting (observe w.past)) s.still in
    subst (λ (xs : List Entry). AreSealedWell (onto w.past xs)) (sym s.block)
    (well_onto (Sealed ∷ w.past) (commit_sent (half w).seen) (q_commit_sent (half w).seen).proof
    (seal_well w.calls w.past k s.undecided (parts.0, sym (way_seen w.past) ∙ parts.1) c j, a))

-- ENLIST comes to the coordinator before the seal.
up_first : (w : World) (c : Conn) (m : Message) → MayCross w.past (Got c Up m) → IsComing w.calls w.past → AreSealedWell w.past → AreSealedWell (Got c Up m ∷ w.past)
up_first w (Enl f) (EnlistEnlist i) n u a = (λ s e g. absurd (not_both (has (is_opening (Enl f)) (in_transit (Enl f) Up w.past)) (stands (in_transit (Enl f) Up w.past) n) (u.late s f)), a)
  where
    stands : (ms : List Message) → is_next (EnlistEnlist i) ms → has (is_opening (Enl f)) ms ≡ true
    stands [] n = absurd n
    stands (y ∷ ms) n = let P : Message → Type 0 = λ z. (is_opening (Enl f) z || has (is_opening (Enl f)) ms) ≡ true in subst P n refl
up_first w (Enl f) m n u a = one_well (Got (Enl f) Up m) w.past refl (λ e. no_enlist e (Enl f) m refl) a
up_first w Begin m n u a = one_well (Got Begin Up m) w.past refl (λ e. refl) a
up_first w Voter m n u a = one_well (Got Voter Up m) w.past refl (λ e. refl) a
up_first w (Again f) m n u a = one_well (Got (Again f) Up m) w.past refl (λ e. refl) a

up_well : (t : ℕ) (w : World) (c : Conn) (ms : List Message) → in_transit c Up w.past ≡ ms → IsComing w.calls w.past → AreSealedWell w.past → AreSealedWell (onto w.past (delivered t w c Up ms))
up_well t w c [] q u a = well_onto w.past (Ended c Up ∷ ended_at w c Up) (and_both true (each is_quiet (ended_at w c Up)) refl (q_ended_at w c Up).proof) a
up_well t w c (m ∷ ms) q u a =
    well_onto (Got c Up m ∷ w.past) (core_got (identifier_of t) (core w) c m) (q_core_got (identifier_of t) (core w) c m).proof (up_first w c m (takes_next m ms (in_transit c Up w.past) q) u a)

down_well : (t : ℕ) (w : World) (c : Conn) (ms : List Message) → AreSealedWell w.past → AreSealedWell (onto w.past (delivered t w c Down ms))
down_well t w c [] a = well_onto w.past (Ended c Down ∷ ended_at w c Down) (and_both true (each is_quiet (ended_at w c Down)) refl (q_ended_at w c Down).proof) a
down_well t w c (m ∷ ms) a =
    well_onto (Got c Down m ∷ w.past) (local_got t (half w) c m) (q_local_got t (half w) c m).proof (one_well (Got c Down m) w.past refl (λ e. not_up (same_connection (Enl e) c) (ENLIST m)) a)

restarted_well : (h : List Entry) (b found : Bool) → AreSealedWell h → AreSealedWell (onto h (restarted b found))
restarted_well h true found a = one_well (Restarted found) h refl (λ e. refl) a
restarted_well h false found a = one_well (Restarted found) (Stopped ∷ h) refl (λ e. refl) (one_well Stopped h refl (λ e. refl) a)

step_well : (t : ℕ) (w : World) (m : Step) → Keeps w.past → AreComing w.calls w.past → IsComing w.calls w.past → IsJoined w.past → AreSealedWell w.past → AreSealedWell (after t w m).past
unfolding after block_at
step_well t w (Calls n x c m) k b u j a =
    well_onto (Called n x (answer_at t w c m) ∷ w.past) (facts_if (has_facts (answer_at t w c m)) (facts_at t w c (answer_at t w c m))) (q_called t w c (answer_at t w c m)).proof
    (one_well (Called n x (answer_at t w c m)) w.past refl (λ e. refl) a)
step_well t w (Replies e r) k b u j a = well_onto w.past (reply_entries (half w) e r) (q_reply (half w) e r).proof a
step_well t w Acts k b u j a = act_well w (act_entries (half w)) (act_kind (half w)) k b j a
step_well t w (Coordinates x) k b u j a = well_onto w.past (coordinates (core w) x) (q_coordinates (core w) x).proof a
step_well t w (Delivers c Up) k b u j a = up_well t w c (in_transit c Up w.past) refl u a
step_well t w (Delivers c Down) k b u j a = down_well t w c (in_transit c Down w.past) a
step_well t w Stops k b u j a = well_onto w.past (Stopped ∷ []) refl a
step_well t w (Restarts found) k b u j a = restarted_well w.past (core w).stopped found a

pub ran_well : (G : ℕ → ActorNo → Call → Type 0) (t : ℕ) (ms : List Step) (w : World) → Ran G t ms w → Keeps w.past → AreSealedWell w.past
ran_well G t [] w r k = subst AreSealedWell (sym r.1) tt
ran_well G t (m ∷ ms) w r k =
    let b = before_step G t m ms w r k in
    subst (λ (x : World). AreSealedWell x.past) (sym r.3)
    (step_well t r.0 m b (coming_of G t ms r.0 r.1 b) (ran_upward G t ms r.0 r.1 b) (ran_joined G t ms r.0 r.1 b) (ran_well G t ms r.0 r.1 b))

-- Who is asked to prepare was enlisted: a volatile stands, and a PREPARE comes after COMMIT and ENLIST were got.
two_commit : (x : Entry) → is_two_phase_got x ≡ true → is_commit_got x ≡ true
two_commit (Got Begin Up BeginCommit) t = refl
two_commit _ t = absurd cc

-- where PREPARE is sent, COMMIT was got, and ENLIST on its connection
prepare_after : (e : EnlNo) (x : Entry) (h : List Entry) → Keeps h → rule h x ≡ true → is_sent_on (Enl e) Down PREPARE x ≡ true → (has is_commit_got h && has (is_opening_got (Enl e)) h) ≡ true
prepare_after e (Sent c Down EnlistPrepare) h k r t =
    let same : Enl e ≡ c = same_is (Enl e) c (and_left (same_connection (Enl e) c) true (and_left (same_connection (Enl e) c && true) true t)) in
    let P : Conn → Type 0 = λ z. has (is_opening_got z) h ≡ true in
    and_both (has is_commit_got h) (has (is_opening_got (Enl e)) h)
    (has_more is_two_phase_got is_commit_got two_commit h (fourth_of_four (has_line c Down EnlistPrepare) (has is_promoting h) (is_there h c Down EnlistPrepare) (message_row h c EnlistPrepare) r))
    (subst P (sym same) (third_of_four (has_line c Down EnlistPrepare) (has is_promoting h) (is_there h c Down EnlistPrepare) (message_row h c EnlistPrepare) r))
prepare_after e (Sent c Down m) h k r t = absurd (not_both (same_connection (Enl e) c && true && false) t (and_never (same_connection (Enl e) c && true)))
prepare_after e (Sent c Up m) h k r t = absurd (not_both (same_connection (Enl e) c && false && PREPARE m) t (not_up (same_connection (Enl e) c) (PREPARE m)))
prepare_after e _ h k r t = absurd cc

enlist_on : (e : EnlNo) (x : Entry) → is_enlist_got e.value x ≡ true → is_got_on (Enl e) Up ENLIST x ≡ true
enlist_on e (Got (Enl f) Up (EnlistEnlist i)) t = and_both ((e.value == f.value) && true) true (and_both (e.value == f.value) true t refl) refl
enlist_on e _ t = absurd cc

prepared_stands : (e : EnlNo) (h : List Entry) → Keeps h → AreSealedWell h → has (is_got_on (Enl e) Down PREPARE) h ≡ true → has (is_enlisted e.value) h ≡ true
prepared_stands e h k a g =
    let both =
    earlier (is_sent_on (Enl e) Down PREPARE) (λ g. has is_commit_got g && has (is_opening_got (Enl e)) g)
    (λ x g t. and_both (has is_commit_got (x ∷ g)) (has (is_opening_got (Enl e)) (x ∷ g)) (or_right (is_commit_got x) (has is_commit_got g) (and_left (has is_commit_got g) (has (is_opening_got (Enl e)) g) t))
    (or_right (is_opening_got (Enl e) x) (has (is_opening_got (Enl e)) g) (and_right (has is_commit_got g) (has (is_opening_got (Enl e)) g) t)))
    (prepare_after e) h k (was_sent (Enl e) Down PREPARE h k.wires g) in
    now_well h a (sealed_if_commit h k (and_left (has is_commit_got h) (has (is_opening_got (Enl e)) h) both)) e
    (has_more (is_opening_got (Enl e)) (is_got_on (Enl e) Up ENLIST) (λ x t. enlist_on e x (opening_enlist e x t)) h (and_right (has is_commit_got h) (has (is_opening_got (Enl e)) h) both))

asked_here : (x : Entry) (h : List Entry) → Keeps h → AreSealedWell h → rule h x ≡ true → is_asked_there h x ≡ true
asked_here (Asked e Prepare) h k a r =
    or_case (stands_volatile e.value h && has is_commit h && not (has is_decision h)) (ends_with (is_prepare_got e.value) h)
    (λ t. volatile_stands e.value h (and_left (stands_volatile e.value h) (has is_commit h) (and_left (stands_volatile e.value h && has is_commit h) (not (has is_decision h)) t)))
    (λ t. prepared_stands e h k a (has_more (is_prepare_got e.value) (is_got_on (Enl e) Down PREPARE) (prepare_on e) h (ends_has (is_prepare_got e.value) h t))) (and_right (not (has (is_asked e.value) h)) (ask_row h e.value) r)
asked_here x h k a r = refl

pub kept_there : (h : List Entry) → Keeps h → AreSealedWell h → always is_asked_there h ≡ true
kept_there [] k a = refl
kept_there (x ∷ h) k a =
    and_both (is_asked_there h x) (always is_asked_there h) (asked_here x h (keeps_before x h k) a.1 (newest x h k)) (kept_there h (keeps_before x h k) a.1)
