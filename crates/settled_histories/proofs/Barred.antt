-- Where an abort is decided no append comes any more, and why: the local side said no yes, the coordinator aborted, or one of those whose ENLIST it got was lost without a vote. Of that one
-- the connection is lost: for in each world that steps made, who was lost after its ENLIST was got has no open connection of its own.
use Rattle.std.proofs.Common.{◌≡◌, true, false, List, subst, sym, Bool, ◌||◌, [], ◌∷◌, Option, Some, None, refl, if◌then◌else◌, ℕ, map, ◌==◌, ◌&&◌, ◌∙◌, inl, inr}
use Rattle.std.specs.Prelude.{not, is_some, find}
use Rattle.std.proofs.lemmas.Bool.{or_left, eqb-true, false_from_ne_true}
use Rattle.dtx_values.specs.declared.call.Call.{Call}
use Rattle.dtx_values.specs.declared.call.Call.TheVariants.{Gone, Reenlist, Tick}
use Rattle.dtx_values.specs.declared.entry.Answer.{Answer}
use Rattle.dtx_values.specs.declared.entry.Entry.{Entry}
use Rattle.dtx_values.specs.declared.entry.Entry.TheVariants.{OwnerAnswered, Sent, Lost, Cut, Called, Clock, Late, TimedOut, Voted, Got}
use Rattle.dtx_values.specs.declared.message.Conn.{Conn}
use Rattle.dtx_values.specs.declared.message.Conn.TheVariants.{Enl, Begin, Again}
use Rattle.dtx_values.specs.declared.message.Dir.TheVariants.{Up}
use Rattle.dtx_values.specs.declared.message.Message.{Message}
use Rattle.dtx_values.specs.declared.message.Message.TheVariants.{EnlistEnlist, EnlistNo, EnlistPrepared, EnlistReadonly}
use Rattle.dtx_values.specs.declared.number.ActorNo.{ActorNo}
use Rattle.dtx_values.specs.declared.number.EnlNo.{EnlNo}
use Rattle.dtx_values.specs.declared.words.Outcome.TheVariants.{Aborted, Committed}
use Rattle.dtx_values.specs.declared.words.Vote.{Vote}
use Rattle.dtx_values.specs.declared.words.Vote.TheVariants.{Done, No, Yes}
use Rattle.dtx_values.specs.Ends.{same_connection, same_direction}
use Rattle.dtx_values.specs.Lines.{is_opening}
use Rattle.dtx_model.specs.Words.{has, holds, onto, ever, each, all_of}
use Rattle.dtx_model.specs.Entries.{is_any_single_sent, is_vote, is_vote_got, is_yes}
use Rattle.dtx_model.specs.Outcome.{evidence}
use Rattle.dtx_model.specs.Observed.{is_branch}
use Rattle.dtx_model.specs.Learned.{coordinator_aborted}
use Rattle.dtx_model.specs.Promotes.{is_begun_got}
use Rattle.dtx_model.specs.Tied.{enlist_got}
use Rattle.dtx_model.specs.Wires.{opens, is_stopped, lost_after, lost_since, is_lost_wire, loses, is_kept, is_open_wire, in_transit}
use Rattle.dtx_model.specs.Half.{veto}
use Rattle.dtx_model.specs.Facts.{facts_if, has_facts, is_late, reaches, ticked}
use Rattle.dtx_model.specs.World.{cut_upward, on_the_way, World, connections_of, half, is_promotable_row, open_ones, gone_by, answer_at, reenlist_facts}
use Rattle.dtx_model.specs.Steps.{Step, Calls, after, block_at}
use Rattle.dtx_model.specs.Caused.{Ran, same_vote}
use Rattle.dtx_model.proofs.Bools.{and_left, and_right, not_true, or_right, not_both, or_case, and_both, not_false}
use Rattle.dtx_model.proofs.Connections.{same_is}
use Rattle.history_table.proofs.Tests.{third_of_four, eq_self}
use Rattle.history_table.proofs.Table.{is_one_aborted, is_of_conn, is_volatile_conn, message_row, rule, is_enlist_got, is_opening_got, is_cast}
use Rattle.history_table.proofs.Keeping.{Keeps, newest, keeps_before}
use Rattle.history_table.proofs.Handing.{keeps_within, ran_keeping}
use Rattle.history_table.proofs.Aborting.{loses_there, IsBarred, decided_off, abort_latest, off_open}
use Rattle.history_table.proofs.Evident.{evidence-handed}
use Rattle.history_table.proofs.Handed.{hand_name, is_answered}
use Rattle.history_table.proofs.LetDecide.{answered_handed, any_single_if_handed}
use Rattle.history_table.proofs.Recording.{promoted_if_yes, promoting_if_promoted}
use Rattle.history_table.proofs.Reenlisted.{opened_since}
use Rattle.history_table.proofs.Owned.{has_filter}
use Rattle.history_table.proofs.Scans.{has_more, each_more}
use Rattle.history_table.proofs.Standing.{opened_if_got}
use Rattle.history_table.proofs.HalfOwner.{enlist_opening}
use Rattle.history_table.specs.Appended.{is_abort_decision, is_append_barred, is_barred, is_owner_commit, is_vote_message, never_votes}
use Rattle.history_table.proofs.Crossed.{is_sent_on, is_got_on, came, was_sent}
use Rattle.history_table.proofs.Sendings.{own_info}
use Rattle.settled_histories.proofs.BeforeRows.{row_of}
use Rattle.settled_histories.proofs.LostVoters.{is_lossless, usual_lossless, return_lossless, tick_lossless}
use Rattle.settled_histories.proofs.CommonBlocks.{common_gone, gone_parts, gone_rest, is_usual, usual, usual_block}

-- An enlistment's own connection stays lost, since it is opened once.
opens_new : (e : EnlNo) (x : Entry) (h : List Entry) → rule h x ≡ true → opens (Enl e) x ≡ true → has (opens (Enl e)) h ≡ false
opens_new e (Sent c Up m) h r t =
    let s = and_left (same_connection (Enl e) c) (is_opening c m) t in
    let P : Conn → Type 0 = λ d. message_row h d m ≡ true in
    let Q : Conn → Type 0 = λ d. is_opening d m ≡ true in
    by m (subst P (sym (same_is (Enl e) c s)) (row_of c Up m h r)) (subst Q (sym (same_is (Enl e) c s)) (and_right (same_connection (Enl e) c) (is_opening c m) t))
  where
    by : (m : Message) → message_row h (Enl e) m ≡ true → is_opening (Enl e) m ≡ true → has (opens (Enl e)) h ≡ false
    by (EnlistEnlist i) k q =
        not_true (has (opens (Enl e)) h) (third_of_four (is_of_conn (Enl e) i) (has is_begun_got h) (not (has (opens (Enl e)) h)) (not (is_volatile_conn (Enl e) h)) k)
    by _ k q = absurd cc
opens_new e x h r t = absurd cc

-- whose loss is known was opened
was_opened : (c : Conn) (h : List Entry) (l : Bool) → lost_since c h ≡ Some l → has (opens c) h ≡ true
was_opened c [] l q = absurd cc
was_opened c (x ∷ h) l q = step (lost_since c h) (λ m e. was_opened c h m e) refl q
  where
    first : (b : Bool) → (if b then Some (is_stopped h) else None) ≡ Some l → (b || has (opens c) h) ≡ true
    first true q = refl
    first false q = absurd cc

    step : (o : Option Bool) → ((m : Bool) → lost_since c h ≡ Some m → has (opens c) h ≡ true) → lost_since c h ≡ o → lost_after c h x o ≡ Some l → has (opens c) (x ∷ h) ≡ true
    step None ih e q = first (opens c x) q
    step (Some m) ih e q = or_right (opens c x) (has (opens c) h) (ih m e)

lost_more : (e : EnlNo) (x : Entry) (h : List Entry) → Keeps (x ∷ h) → is_lost_wire (Enl e) h ≡ true → is_lost_wire (Enl e) (x ∷ h) ≡ true
lost_more e x h k l = step (lost_since (Enl e) h) refl l
  where
    by : (m : Bool) → lost_since (Enl e) h ≡ Some m → m ≡ true → (b : Bool) → opens (Enl e) x ≡ b → holds (if b then Some (is_stopped h) else Some (m || loses (Enl e) x)) ≡ true
    by m q t true o = absurd (not_both (has (opens (Enl e)) h) (was_opened (Enl e) h m q) (opens_new e x h (newest x h k) o))
    by m q t false o = or_left m (loses (Enl e) x) t

    step : (o : Option Bool) → lost_since (Enl e) h ≡ o → holds o ≡ true → holds (lost_after (Enl e) h x o) ≡ true
    step None q l = absurd cc
    step (Some m) q l = by m q l (opens (Enl e) x) refl

lost_onto : (e : EnlNo) (h es : List Entry) → Keeps (onto h es) → is_lost_wire (Enl e) h ≡ true → is_lost_wire (Enl e) (onto h es) ≡ true
lost_onto e h [] k l = l
lost_onto e h (x ∷ es) k l = lost_onto e (x ∷ h) es k (lost_more e x h (keeps_within (x ∷ h) es k) l)

-- Whoever was lost after its ENLIST was got has lost its connection.
abbrev pub AreShut : List Entry → Type 0
AreShut h = (e : EnlNo) → ever (loses_there e.value) h ≡ true → is_lost_wire (Enl e) h ≡ true

lossless_there : (e : ℕ) (h : List Entry) (x : Entry) → is_lossless x ≡ true → loses_there e h x ≡ false
lossless_there e h (Lost f) k = absurd cc
lossless_there e h _ k = refl

-- entries that lose nobody leave it so
there_before : (e : ℕ) (h es : List Entry) → each is_lossless es ≡ true → ever (loses_there e) (onto h es) ≡ true → ever (loses_there e) h ≡ true
there_before e h [] k t = t
there_before e h (x ∷ es) k t =
    or_case (loses_there e h x) (ever (loses_there e) h) (λ a. absurd (not_both (loses_there e h x) a (lossless_there e h x (and_left (is_lossless x) (each is_lossless es) k)))) (λ a. a)
    (there_before e (x ∷ h) es (and_right (is_lossless x) (each is_lossless es) k) t)

kept_shut : (h es : List Entry) → each is_lossless es ≡ true → Keeps (onto h es) → AreShut h → AreShut (onto h es)
kept_shut h es q k a = λ e t. lost_onto e h es k (a e (there_before e.value h es q t))

-- The block of a loss. Whose connection was opened and isn't open has lost it.
unopen_lost : (c : Conn) (h : List Entry) → has (opens c) h ≡ true → is_open_wire c h ≡ false → is_lost_wire c h ≡ true
unopen_lost c h o k = step (lost_since c h) (opened_since c h o) k
  where
    step : (o : Option Bool) → is_some o ≡ true → is_kept o ≡ false → holds o ≡ true
    step None s k = absurd cc
    step (Some true) s k = refl
    step (Some false) s k = absurd cc

cut_lost : (c d : Conn) (u n : ℕ) (h : List Entry) → has (opens c) h ≡ true → same_connection c d ≡ true → is_lost_wire c (Cut d u n ∷ h) ≡ true
cut_lost c d u n h o s = step (lost_since c h) (opened_since c h o)
  where
    step : (o : Option Bool) → is_some o ≡ true → holds (lost_after c h (Cut d u n) o) ≡ true
    step None k = absurd cc
    step (Some l) k = or_right l (same_connection c d) s

cuts_lose : (e : EnlNo) (p : List Entry) (cs : List Conn) (h : List Entry) → Keeps (onto h (map (cut_upward p) cs)) → has (opens (Enl e)) h ≡ true → has (same_connection (Enl e)) cs ≡ true
    → is_lost_wire (Enl e) (onto h (map (cut_upward p) cs)) ≡ true
cuts_lose e p [] h k o t = absurd cc
cuts_lose e p (c ∷ cs) h k o t =
    or_case (same_connection (Enl e) c) (has (same_connection (Enl e)) cs)
    (λ s. lost_onto e (cut_upward p c ∷ h) (map (cut_upward p) cs) k (cut_lost (Enl e) c (on_the_way c Up p) 0 h o s))
    (λ s. cuts_lose e p cs (cut_upward p c ∷ h) k (or_right (opens (Enl e) (cut_upward p c)) (has (opens (Enl e)) h) o) s) t

own_among : (w : World) (e : EnlNo) → is_open_wire (Enl e) w.past ≡ true → has (same_connection (Enl e)) (open_ones w e) ≡ true
own_among w e o =
    has_filter (same_connection (Enl e)) (λ c. is_open_wire c w.past) (connections_of (half w).seen e) ∙ by (is_promotable_row (half w).seen e.value)
  where
    own : (r : Bool) → (((e.value == e.value) && is_open_wire (Enl e) w.past) || r) ≡ true
    own r = or_left ((e.value == e.value) && is_open_wire (Enl e) w.past) r (and_both (e.value == e.value) (is_open_wire (Enl e) w.past) (eq_self e.value) o)

    by : (b : Bool) → has (λ c. same_connection (Enl e) c && is_open_wire c w.past) (if b then Begin ∷ Enl e ∷ Again e ∷ [] else Enl e ∷ Again e ∷ []) ≡ true
    by true = own _
    by false = own _

cuts_lossless : (p : List Entry) (cs : List Conn) → each is_lossless (map (cut_upward p) cs) ≡ true
cuts_lossless p [] = refl
cuts_lossless p (c ∷ cs) = cuts_lossless p cs

came_opened : (e : EnlNo) (h : List Entry) → Keeps h → has (is_enlist_got e.value) h ≡ true → has (opens (Enl e)) h ≡ true
came_opened e h k t = opened_if_got (Enl e) h k (has_more (is_enlist_got e.value) (is_opening_got (Enl e)) (enlist_opening e) h t)

-- one that is lost with these connections cut, or with none open
lost_shut : (w : World) (n : ℕ) (a : ActorNo) (y : Answer) (e : EnlNo) (rest : List Entry) → each is_lossless rest ≡ true → Keeps (onto (Lost e ∷ Called n a y ∷ w.past) rest)
    → (has (is_enlist_got e.value) w.past ≡ true → is_lost_wire (Enl e) (onto (Lost e ∷ Called n a y ∷ w.past) rest) ≡ true) → AreShut w.past → AreShut (onto (Lost e ∷ Called n a y ∷ w.past) rest)
lost_shut w n a y e rest q k new s = λ f t.
    or_case ((f.value == e.value) && has (is_enlist_got f.value) w.past) (ever (loses_there f.value) w.past)
    (λ b. let same : Enl e ≡ Enl f = sym (same_is (Enl f) (Enl e) (and_left (f.value == e.value) (has (is_enlist_got f.value) w.past) b)) in
    let P : Conn → Type 0 = λ c. is_lost_wire c (onto (Lost e ∷ Called n a y ∷ w.past) rest) ≡ true in
    subst P same (new (subst (λ m. has (is_enlist_got m) w.past ≡ true) (eqb-true f.value e.value (and_left (f.value == e.value) (has (is_enlist_got f.value) w.past) b)) (and_right (f.value == e.value) (has (is_enlist_got f.value) w.past) b))))
    (λ b. lost_onto f (Lost e ∷ Called n a y ∷ w.past) rest k
    (lost_more f (Lost e) (Called n a y ∷ w.past) (keeps_within (Lost e ∷ Called n a y ∷ w.past) rest k)
    (lost_more f (Called n a y) w.past (keeps_before (Lost e) (Called n a y ∷ w.past) (keeps_within (Lost e ∷ Called n a y ∷ w.past) rest k)) (s f b))))
    (there_before f.value (Lost e ∷ Called n a y ∷ w.past) rest q t)

gone_shut : (w : World) (n : ℕ) (a : ActorNo) (e : EnlNo) (y : Answer) (b : Bool) → Keeps w.past → Keeps (onto (Called n a y ∷ w.past) (facts_if b (gone_by w e (open_ones w e)))) → AreShut w.past
    → AreShut (onto (Called n a y ∷ w.past) (facts_if b (gone_by w e (open_ones w e))))
gone_shut w n a e y false before k s = kept_shut w.past (Called n a y ∷ []) refl k s
gone_shut w n a e y true before k s =
    let rest = gone_rest w e (open_ones w e) in
    let parts = gone_parts w e (open_ones w e) in
    let now : Keeps (onto (Lost e ∷ Called n a y ∷ w.past) rest) = subst (λ (es : List Entry). Keeps (onto (Called n a y ∷ w.past) es)) parts k in
    subst (λ (es : List Entry). AreShut (onto (Called n a y ∷ w.past) es)) (sym parts)
    (lost_shut w n a y e rest (each_more is_usual is_lossless usual_lossless rest (usual rest (common_gone w e (open_ones w e)))) now
    (λ g. by_open (came_opened e w.past before g) (open_ones w e) refl (is_open_wire (Enl e) w.past) refl now) s)
  where
    by_open : has (opens (Enl e)) w.past ≡ true → (cs : List Conn) → open_ones w e ≡ cs → (b : Bool) → is_open_wire (Enl e) w.past ≡ b → Keeps (onto (Lost e ∷ Called n a y ∷ w.past) (gone_rest w e cs))
        → is_lost_wire (Enl e) (onto (Lost e ∷ Called n a y ∷ w.past) (gone_rest w e cs)) ≡ true
    by_open o cs q false u k = lost_onto e w.past (Called n a y ∷ Lost e ∷ gone_rest w e cs) k (unopen_lost (Enl e) w.past o u)
    by_open o [] q true u k = let never : false ≡ true = subst (λ (cs : List Conn). has (same_connection (Enl e)) cs ≡ true) q (own_among w e u) in absurd cc
    by_open o (c ∷ cs) q true u k =
        cuts_lose e w.past (c ∷ cs) (Lost e ∷ Called n a y ∷ w.past) k (or_right (opens (Enl e) (Lost e)) (has (opens (Enl e)) (Called n a y ∷ w.past)) (or_right (opens (Enl e) (Called n a y)) (has (opens (Enl e)) w.past) o))
        (subst (λ (cs : List Conn). has (same_connection (Enl e)) cs ≡ true) q (own_among w e u))

-- after each step
step_shut : (t : ℕ) (w : World) (m : Step) → Keeps w.past → Keeps (after t w m).past → AreShut w.past → AreShut (after t w m).past
unfolding after block_at
step_shut t w (Calls n a (Gone e) i) before k s = let y = answer_at t w (Gone e) i in gone_shut w n a e y (has_facts y) before k s
step_shut t w (Calls n a (Tick x j) i) before k s =
    let y = answer_at t w (Tick x j) i in
    let o = (half w).seen in
    let c = ticked o.clock j in
    kept_shut w.past (Called n a y ∷ facts_if (has_facts y) (Clock c ∷ (if reaches o.limit o.clock c then (if is_late o then Late ∷ [] else TimedOut ∷ veto (half w)) else [])))
    (tick_lossless (half w) c (has_facts y) (reaches o.limit o.clock c) (is_late o)) k s
step_shut t w (Calls n a (Reenlist e) i) before k s =
    let y = answer_at t w (Reenlist e) i in
    let b = find (is_branch e.value) (half w).seen.branches in
    kept_shut w.past (Called n a y ∷ facts_if (has_facts y) (reenlist_facts t b)) (return_lossless t b (has_facts y)) k s
step_shut t w m before k s = kept_shut w.past (block_at t w m) (each_more is_usual is_lossless usual_lossless (block_at t w m) (usual_block t w m refl)) k s

pub ran_shut : (G : ℕ → ActorNo → Call → Type 0) (t : ℕ) (ms : List Step) (w : World) → Ran G t ms w → Keeps w.past → AreShut w.past
ran_shut = ran_keeping AreShut (λ e t. absurd cc) step_shut

-- Who voted at the coordinator, or whose vote is on the way, voted.
cast_vote : (e : EnlNo) (v : Vote) (x : Entry) → is_cast (Enl e) v x ≡ true → is_vote e.value x ≡ true
cast_vote e v (Voted f w) t = and_left (e.value == f.value) (same_vote v w) t
cast_vote e v _ t = absurd cc

row_voted : (e : EnlNo) (h : List Entry) (m : Message) → message_row h (Enl e) m ≡ true → is_vote_message m ≡ true → has (is_vote e.value) h ≡ true
row_voted e h EnlistPrepared r t = has_more (is_cast (Enl e) Yes) (is_vote e.value) (cast_vote e Yes) h r
row_voted e h EnlistNo r t = has_more (is_cast (Enl e) No) (is_vote e.value) (cast_vote e No) h r
row_voted e h EnlistReadonly r t = has_more (is_cast (Enl e) Done) (is_vote e.value) (cast_vote e Done) h r
row_voted e h m r t = absurd cc

sent_voted : (e : EnlNo) (h : List Entry) → Keeps h → has (is_sent_on (Enl e) Up is_vote_message) h ≡ true → has (is_vote e.value) h ≡ true
sent_voted e [] k t = absurd cc
sent_voted e (Sent c d m ∷ h) k t =
    or_right (is_vote e.value (Sent c d m)) (has (is_vote e.value) h)
    (or_case (same_connection (Enl e) c && same_direction Up d && is_vote_message m) (has (is_sent_on (Enl e) Up is_vote_message) h)
    (λ q. let both = and_left (same_connection (Enl e) c && same_direction Up d) (is_vote_message m) q in
    let P : Conn → Type 0 = λ x. message_row h x m ≡ true in
    row_voted e h m (subst P (sym (same_is (Enl e) c (and_left (same_connection (Enl e) c) (same_direction Up d) both))) (row_of c d m h (newest (Sent c d m) h k)))
    (and_right (same_connection (Enl e) c && same_direction Up d) (is_vote_message m) q))
    (λ q. sent_voted e h (keeps_before (Sent c d m) h k) q) t)
sent_voted e (x ∷ h) k t = or_right (is_vote e.value x) (has (is_vote e.value) h) (sent_voted e h (keeps_before x h k) t)

vote_on : (e : EnlNo) (x : Entry) → is_vote_got e.value x ≡ true → is_got_on (Enl e) Up is_vote_message x ≡ true
vote_on e (Got (Enl f) Up EnlistPrepared) t = and_both ((e.value == f.value) && true) true (and_both (e.value == f.value) true t refl) refl
vote_on e (Got (Enl f) Up EnlistNo) t = and_both ((e.value == f.value) && true) true (and_both (e.value == f.value) true t refl) refl
vote_on e (Got (Enl f) Up EnlistReadonly) t = and_both ((e.value == f.value) && true) true (and_both (e.value == f.value) true t refl) refl
vote_on e _ t = absurd cc

-- so what passes of its connection and its number passes of one of these
pub came_among : (e : EnlNo) (Q : Conn → ℕ → Bool) (h : List Entry) → Keeps h → has (is_enlist_got e.value) h ≡ true → Q (Enl e) e.value ≡ true → has (λ i. Q (Enl i.enl) i.enl.value) (all_of enlist_got h) ≡ true
came_among e Q [] k s q = absurd cc
came_among e Q (Got (Enl f) Up (EnlistEnlist i) ∷ h) k s q =
    or_case (e.value == f.value) (has (is_enlist_got e.value) h)
    (λ a. or_left (Q (Enl i.enl) i.enl.value) (has (λ j. Q (Enl j.enl) j.enl.value) (all_of enlist_got h))
    (let same : e.value ≡ i.enl.value = eqb-true e.value f.value a ∙ eqb-true f.value i.enl.value (own_info f i h k) in
    let conn : Enl e ≡ Enl i.enl = same_is (Enl e) (Enl i.enl) (subst (λ n. (e.value == n) ≡ true) same (eq_self e.value)) in
    let P : Conn → Type 0 = λ c. Q c i.enl.value ≡ true in
    subst P conn (subst (λ n. Q (Enl e) n ≡ true) same q)))
    (λ a. or_right (Q (Enl i.enl) i.enl.value) (has (λ j. Q (Enl j.enl) j.enl.value) (all_of enlist_got h)) (came_among e Q h (keeps_before (Got (Enl f) Up (EnlistEnlist i)) h k) a q)) s
came_among e Q (x ∷ h) k s q = came_among e Q h (keeps_before x h k) s q

-- an owner that committed answered so
owner_commits : (x : Entry) → is_owner_commit x ≡ true → is_answered Committed x ≡ true
owner_commits (OwnerAnswered e Committed) t = refl
owner_commits x t = absurd cc

-- Where an abort is decided, no append comes any more, and no owner answered committed.
pub abort_barred : (h : List Entry) → Keeps h → AreShut h → has is_abort_decision h ≡ true → is_barred h ≡ true
abort_barred h k s d =
    let off = decided_off h k (abort_latest h k d) in
    and_both (is_append_barred h) (not (has is_owner_commit h)) (by off.barred)
    (not_false (has is_owner_commit h)
    (false_from_ne_true (has is_owner_commit h)
    (λ t. let committed = has_more is_owner_commit (is_answered Committed) owner_commits h t in
    not_both (evidence h) (evidence-handed h k (answered_handed Committed h k committed) ∙ committed) (off_open h k off))))
  where
    out : Bool
    out = has (λ i. never_votes h i.enl) (all_of enlist_got h)

    early : Bool
    early = not (has is_yes h) || coordinator_aborted h || has is_any_single_sent h

    aborts : coordinator_aborted h ≡ true → is_append_barred h ≡ true
    aborts a = or_left early out (or_left (not (has is_yes h) || coordinator_aborted h) (has is_any_single_sent h) (or_right (not (has is_yes h)) (coordinator_aborted h) a))

    unsaid : has is_yes h ≡ false → is_append_barred h ≡ true
    unsaid n = or_left early out (or_left (not (has is_yes h) || coordinator_aborted h) (has is_any_single_sent h) (or_left (not (has is_yes h)) (coordinator_aborted h) (not_false (has is_yes h) n)))

    -- who answered of a promotion was let decide
    answers : has (is_answered Aborted) h ≡ true → (b : Bool) → has is_yes h ≡ b → is_append_barred h ≡ true
    answers a false n = unsaid n
    answers a true y =
        let name = hand_name h (answered_handed Aborted h k a) in
        or_left early out
        (or_right (not (has is_yes h) || coordinator_aborted h) (has is_any_single_sent h) (any_single_if_handed name.0 h k (promoting_if_promoted h k (promoted_if_yes h k y)) name.1))

    by : IsBarred h → is_append_barred h ≡ true
    by (inl (inl a)) = aborts (and_left (coordinator_aborted h) (not (has is_any_single_sent h) || has is_one_aborted h) a)
    by (inl (inr (inl a))) = answers a (has is_yes h) refl
    by (inl (inr (inr w))) = aborts w.aborted
    by (inr (inl n)) = unsaid n
    by (inr (inr g)) =
        let e = g.name in
        let unsent : has (is_sent_on (Enl e) Up is_vote_message) h ≡ false =
        false_from_ne_true (has (is_sent_on (Enl e) Up is_vote_message) h) (λ q. not_both (has (is_vote e.value) h) (sent_voted e h k q) g.silent) in
        let ungot : has (is_vote_got e.value) h ≡ false =
        false_from_ne_true (has (is_vote_got e.value) h) (λ q. not_both (has (is_sent_on (Enl e) Up is_vote_message) h)
        (was_sent (Enl e) Up is_vote_message h k.wires (has_more (is_vote_got e.value) (is_got_on (Enl e) Up is_vote_message) (vote_on e) h q)) unsent) in
        let none : has is_vote_message (in_transit (Enl e) Up h) ≡ false =
        false_from_ne_true (has is_vote_message (in_transit (Enl e) Up h)) (λ q. not_both (has (is_sent_on (Enl e) Up is_vote_message) h) (came (Enl e) Up is_vote_message h q) unsent) in
        or_right early out
        (came_among e (λ c n. not (has (is_vote_got n) h) && is_lost_wire c h && not (has is_vote_message (in_transit c Up h))) h k g.came
        (and_both (not (has (is_vote_got e.value) h) && is_lost_wire (Enl e) h) (not (has is_vote_message (in_transit (Enl e) Up h)))
        (and_both (not (has (is_vote_got e.value) h)) (is_lost_wire (Enl e) h) (not_false (has (is_vote_got e.value) h) ungot) (s e g.after))
        (not_false (has is_vote_message (in_transit (Enl e) Up h)) none)))
