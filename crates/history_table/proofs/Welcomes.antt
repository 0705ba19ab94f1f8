-- BEGUN, CREATED and an enlistment's ENLISTED come once: each is sent directly after the message that opened its connection, which comes once.
use Rattle.std.proofs.Common.{Bool, true, ◌||◌, List, ◌≡◌, refl, [], ◌∷◌, false, ℕ, sym, subst, ◌&&◌}
use Rattle.std.specs.Prelude.{not, if◌then◌else◌}
use Rattle.std.proofs.lemmas.Bool.{or_left, false_from_ne_true}
use Rattle.dtx_values.specs.declared.entry.Entry.{Entry}
use Rattle.dtx_values.specs.declared.entry.Entry.TheVariants.{Sent, Got, Down as Ended, Called, Stopped}
use Rattle.dtx_values.specs.declared.message.Conn.{Conn}
use Rattle.dtx_values.specs.declared.message.Conn.TheVariants.{Begin, Voter, Enl, Again}
use Rattle.dtx_values.specs.declared.message.Dir.TheVariants.{Down, Up}
use Rattle.dtx_values.specs.declared.message.Message.{Message}
use Rattle.dtx_values.specs.declared.message.Message.TheVariants.{BeginBegin, BeginBegun, VoterVoter, VoterCreated, VoterRefused, VoterAbort, EnlistEnlist, EnlistEnlisted, EnlistRefused, EnlistAbort, ReenlistReenlist, ReenlistCommitted, ReenlistAborted}
use Rattle.dtx_values.specs.Ends.{same_connection}
use Rattle.dtx_values.specs.Lines.{is_opening}
use Rattle.dtx_model.specs.Words.{always, each, onto, has}
use Rattle.dtx_model.specs.Promotes.{identifier_of, is_begun_got, is_created_got}
use Rattle.dtx_model.specs.Wires.{in_transit, is_next, MayCross}
use Rattle.dtx_model.specs.Coordinated.{Coordinated, to, coordinate, core_got, follow, has_aborted, is_recorded, opening_answer, may_log}
use Rattle.dtx_model.specs.World.{World, half, answer_at, core, facts_at}
use Rattle.dtx_model.specs.Facts.{facts_if, has_facts}
use Rattle.dtx_model.specs.Replies.{reply_entries}
use Rattle.dtx_model.specs.Acts.{act_entries}
use Rattle.dtx_model.specs.Arrivals.{local_got}
use Rattle.dtx_model.specs.Steps.{delivered, ended_at, Step, Calls, Replies, Acts, Coordinates, Delivers, Stops, Restarts, after, block_at, coordinates, restarted}
use Rattle.dtx_model.proofs.Bools.{and_both, and_left, and_right, or_right, not_both, not_false, not_true, or_case}
use Rattle.dtx_model.proofs.Connections.{same_is}
use Rattle.history_table.proofs.Table.{ends_with, is_opening_got}
use Rattle.history_table.proofs.StillBlocks.{is_welcome, is_still, Still, st_core_got, st_if, st_none, st_to, st_cons, st_ended_at, st_local_got, st_act, st_appended, st_called, st_freed, st_one, st_reply, st_restarted}
use Rattle.history_table.proofs.Tests.{eq_self}
use Rattle.history_table.proofs.Keeping.{Keeps, keeps_before}
use Rattle.history_table.proofs.Crossed.{is_sent_on, is_got_on}
use Rattle.history_table.proofs.Leading.{is_single, none_again, next_stands}
use Rattle.history_table.proofs.CoreKnown.{sent_opened_there}
use Rattle.history_table.proofs.OnceSent.{is_first_sent, first_got}
use Rattle.history_table.proofs.Scans.{has_less}

-- an answer is sent directly after the message that opened its connection
abbrev pub is_direct : List Entry → Entry → Bool
is_direct h (Sent c Down m) = not (is_welcome m) || ends_with (is_opening_got c) h
is_direct h _ = true

still_direct : (h : List Entry) (x : Entry) → is_still x ≡ true → is_direct h x ≡ true
still_direct h (Sent c Down m) t = or_left (not (is_welcome m)) (ends_with (is_opening_got c) h) t
still_direct h _ t = refl

still_onto : (h es : List Entry) → Still es → always is_direct h ≡ true → always is_direct (onto h es) ≡ true
still_onto h [] s a = a
still_onto h (x ∷ es) s a =
    still_onto (x ∷ h) es (record { proof = and_right (is_still x) (each is_still es) s.proof })
    (and_both (is_direct h x) (always is_direct h) (still_direct h x (and_left (is_still x) (each is_still es) s.proof)) a)

-- the block of a message that opens a connection
welcomed : (h : List Entry) (k : Coordinated) (c : Conn) (n m : Message) → is_opening_got c (Got c Up n) ≡ true → always is_direct h ≡ true → always is_direct (onto (Got c Up n ∷ h) (to k c m)) ≡ true
welcomed h k c n m o a = by (has (same_connection c) k.known)
  where
    by : (b : Bool) → always is_direct (onto (Got c Up n ∷ h) (if b then Sent c Down m ∷ [] else [])) ≡ true
    by true = and_both (not (is_welcome m) || is_opening_got c (Got c Up n)) (always is_direct h) (or_right (not (is_welcome m)) (is_opening_got c (Got c Up n)) o) a
    by false = a

core_direct : (id : ℕ) (c : Conn) (m : Message) (h : List Entry) → always is_direct h ≡ true → always is_direct (onto (Got c Up m ∷ h) (core_got id (coordinate h) c m)) ≡ true
unfolding core_got
core_direct id Begin BeginBegin h a = welcomed h (follow (coordinate h) (Got Begin Up BeginBegin)) Begin BeginBegin (BeginBegun id) refl a
core_direct id Voter (VoterVoter u) h a =
    welcomed h (follow (coordinate h) (Got Voter Up (VoterVoter u))) Voter (VoterVoter u) (opening_answer (coordinate h) VoterCreated VoterAbort VoterRefused) refl a
core_direct id (Enl e) (EnlistEnlist i) h a =
    welcomed h (follow (coordinate h) (Got (Enl e) Up (EnlistEnlist i))) (Enl e) (EnlistEnlist i) (opening_answer (coordinate h) EnlistEnlisted EnlistAbort EnlistRefused) (rw (eq_self e.value) refl) a
core_direct id (Again e) (ReenlistReenlist i) h a =
    let x : Entry = Got (Again e) Up (ReenlistReenlist i) in
    still_onto (x ∷ h)
    (if is_recorded (coordinate h).stage then to (follow (coordinate h) x) (Again e) ReenlistCommitted
    else if has_aborted (coordinate h).stage then to (follow (coordinate h) x) (Again e) ReenlistAborted else [])
    (st_if (is_recorded (coordinate h).stage) (st_to (follow (coordinate h) x) (Again e) ReenlistCommitted refl)
    (st_if (has_aborted (coordinate h).stage) (st_to (follow (coordinate h) x) (Again e) ReenlistAborted refl) st_none)) a
core_direct id c m h a = still_onto (Got c Up m ∷ h) (core_got id (coordinate h) c m) (st_core_got id (coordinate h) c m refl) a

-- after each step
up_direct : (t : ℕ) (w : World) (c : Conn) (ms : List Message) → always is_direct w.past ≡ true → always is_direct (onto w.past (delivered t w c Up ms)) ≡ true
up_direct t w c [] a = still_onto w.past (Ended c Up ∷ ended_at w c Up) (st_cons (Ended c Up) refl (st_ended_at w c Up)) a
up_direct t w c (m ∷ ms) a = core_direct (identifier_of t) c m w.past a

down_direct : (t : ℕ) (w : World) (c : Conn) (ms : List Message) → always is_direct w.past ≡ true → always is_direct (onto w.past (delivered t w c Down ms)) ≡ true
down_direct t w c [] a = still_onto w.past (Ended c Down ∷ ended_at w c Down) (st_cons (Ended c Down) refl (st_ended_at w c Down)) a
down_direct t w c (m ∷ ms) a = still_onto w.past (Got c Down m ∷ local_got t (half w) c m) (st_cons (Got c Down m) refl (st_local_got t (half w) c m)) a

pub step_direct : (t : ℕ) (w : World) (m : Step) → always is_direct w.past ≡ true → always is_direct (after t w m).past ≡ true
unfolding after block_at
step_direct t w (Calls n x c m) a =
    still_onto (Called n x (answer_at t w c m) ∷ w.past) (facts_if (has_facts (answer_at t w c m)) (facts_at t w c (answer_at t w c m))) (st_called t w c (answer_at t w c m)) a
step_direct t w (Replies e r) a = still_onto w.past (reply_entries (half w) e r) (st_reply (half w) e r) a
step_direct t w Acts a = still_onto w.past (act_entries (half w)) (st_act (half w)) a
step_direct t w (Coordinates x) a = still_onto w.past (coordinates (core w) x) (st_if (may_log (core w)) (st_appended (core w) x) (st_freed x)) a
step_direct t w (Delivers c Up) a = up_direct t w c (in_transit c Up w.past) a
step_direct t w (Delivers c Down) a = down_direct t w c (in_transit c Down w.past) a
step_direct t w Stops a = still_onto w.past (Stopped ∷ []) (st_one Stopped refl) a
step_direct t w (Restarts found) a = still_onto w.past (restarted (core w).stopped found) (st_restarted (core w).stopped found) a

-- directly after the message that opened the connection nothing was sent downward on it
no : false ≡ true → ⊥
no e = absurd cc

pub unsent_there : (c : Conn) (p : Message → Bool) (h : List Entry) → is_single c ≡ true → Keeps h → ends_with (is_opening_got c) h ≡ true → has (is_sent_on c Down p) h ≡ false
unsent_there c p [] s k e = absurd (no e)
unsent_there c p (x ∷ h) s k e = by x k e
  where
    by : (x : Entry) → Keeps (x ∷ h) → is_opening_got c x ≡ true → has (is_sent_on c Down p) (x ∷ h) ≡ false
    by (Got d Up n) k e =
        let q = and_left (same_connection c d) (is_opening d n) e in
        let same : c ≡ d = same_is c d q in
        let P : Conn → Type 0 = λ y. is_opening y n ≡ true in
        let N : Conn → Type 0 = λ y. is_next n (in_transit y Up h) in
        let past = keeps_before (Got d Up n) h k in
        let coming = next_stands (is_opening c) n (in_transit c Up h) (subst N (sym same) k.wires.0) (subst P (sym same) (and_right (same_connection c d) (is_opening d n) e)) in
        false_from_ne_true (has (is_sent_on c Down p) h) (λ t. not_both (has (is_opening c) (in_transit c Up h)) coming (none_again c h s past (sent_opened_there c p h past t)))
    by _ k e = absurd (no e)

-- so each answer is the first on its connection
first_answer : (c : Conn) (h : List Entry) (x : Entry) → is_single c ≡ true → Keeps h → is_direct h x ≡ true → is_first_sent c Down is_welcome h x ≡ true
first_answer c h (Sent e Down m) s k d = by (is_sent_on c Down is_welcome (Sent e Down m)) refl
  where
    by : (b : Bool) → is_sent_on c Down is_welcome (Sent e Down m) ≡ b → (not b || not (has (is_sent_on c Down is_welcome) h)) ≡ true
    by false q = refl
    by true q =
        let same : c ≡ e = same_is c e (and_left (same_connection c e) true (and_left (same_connection c e && true) (is_welcome m) q)) in
        let P : Conn → Type 0 = λ y. ends_with (is_opening_got y) h ≡ true in
        let ends = subst P (sym same) (or_case (not (is_welcome m)) (ends_with (is_opening_got e) h) (λ a. absurd (not_both (is_welcome m) (and_right (same_connection c e && true) (is_welcome m) q) (not_true (is_welcome m) a))) (λ a. a) d) in
        not_false (has (is_sent_on c Down is_welcome) h) (unsent_there c is_welcome h s k ends)
first_answer c h (Sent e Up m) s k d = by (same_connection c e)
  where
    by : (b : Bool) → (not (b && false && is_welcome m) || not (has (is_sent_on c Down is_welcome) h)) ≡ true
    by true = refl
    by false = refl
first_answer c h _ s k d = refl

first_answers : (c : Conn) (h : List Entry) → is_single c ≡ true → Keeps h → always is_direct h ≡ true → always (is_first_sent c Down is_welcome) h ≡ true
first_answers c [] s k a = refl
first_answers c (x ∷ h) s k a =
    let past = keeps_before x h k in
    and_both (is_first_sent c Down is_welcome h x) (always (is_first_sent c Down is_welcome) h) (first_answer c h x s past (and_left (is_direct h x) (always is_direct h) a))
    (first_answers c h s past (and_right (is_direct h x) (always is_direct h) a))

-- no answer opens a connection
opening_unwelcome : (c : Conn) (m : Message) → is_opening c m ≡ true → is_welcome m ≡ false
opening_unwelcome Begin BeginBegin t = refl
opening_unwelcome Voter (VoterVoter u) t = refl
opening_unwelcome (Enl e) (EnlistEnlist i) t = refl
opening_unwelcome (Again e) (ReenlistReenlist i) t = refl
opening_unwelcome _ _ t = absurd cc

-- so where an answer comes, none came before
pub answer_new : (c : Conn) (m : Message) (h : List Entry) → is_single c ≡ true → is_welcome m ≡ true → Keeps h → always is_direct h ≡ true → MayCross h (Got c Down m) → has (is_got_on c Down is_welcome) h ≡ false
answer_new c m h s w k a n = first_got c Down is_welcome m (opening_unwelcome c) w h k.wires (first_answers c h s k a) n

begun_on : (x : Entry) → is_begun_got x ≡ true → is_got_on Begin Down is_welcome x ≡ true
begun_on (Got Begin Down (BeginBegun u)) t = refl
begun_on _ t = absurd cc

created_on : (x : Entry) → is_created_got x ≡ true → is_got_on Voter Down is_welcome x ≡ true
created_on (Got Voter Down VoterCreated) t = refl
created_on _ t = absurd cc

-- BEGUN, CREATED and ENLISTED
pub begun_new : (u : ℕ) (h : List Entry) → Keeps h → always is_direct h ≡ true → MayCross h (Got Begin Down (BeginBegun u)) → has is_begun_got h ≡ false
begun_new u h k a n = has_less is_begun_got (is_got_on Begin Down is_welcome) begun_on h (answer_new Begin (BeginBegun u) h refl refl k a n)

pub created_new : (h : List Entry) → Keeps h → always is_direct h ≡ true → MayCross h (Got Voter Down VoterCreated) → has is_created_got h ≡ false
created_new h k a n = has_less is_created_got (is_got_on Voter Down is_welcome) created_on h (answer_new Voter VoterCreated h refl refl k a n)
