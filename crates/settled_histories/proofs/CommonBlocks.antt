-- Which entries most blocks of steps don't have: only a tick's call has one of the clock or of a timeout, only a call of reenlist opens the connection of a
-- reenlistment, only a call of gone loses an enlistment, and only the local act after a decision and the arrivals of an outcome tell anybody.
use Rattle.std.proofs.Common.{◌≡◌, ℕ, Bool, true, false, ◌&&◌, ◌||◌, not, List, [], ◌∷◌, map, Option, Some, None, is_some, find, refl, if◌then◌else◌, subst, sym, ap}
use Rattle.dtx_values.specs.declared.call.Call.{Call}
use Rattle.dtx_values.specs.declared.entry.Answer.{Answer}
use Rattle.dtx_values.specs.declared.entry.Ask.TheVariants.{Promote, Single as AskSingle}
use Rattle.dtx_values.specs.declared.entry.Entry.{Entry}
use Rattle.dtx_values.specs.declared.entry.Entry.TheVariants.{Clock, TimedOut, Late, Asked, Sealed, Told, Sent, Got, Lost as LostEntry, Logged, LogFull, Freed, Stopped, Restarted, Recovered as RecoveredEntry, Cut}
use Rattle.dtx_values.specs.declared.entry.Party.TheVariants.{Enl as Member}
use Rattle.dtx_values.specs.declared.message.Conn.{Conn}
use Rattle.dtx_values.specs.declared.message.Conn.TheVariants.{Begin, Enl, Again}
use Rattle.dtx_values.specs.declared.message.Dir.{Dir}
use Rattle.dtx_values.specs.declared.message.Dir.TheVariants.{Up, Down}
use Rattle.dtx_values.specs.declared.message.Message.{Message}
use Rattle.dtx_values.specs.declared.message.Message.TheVariants.{EnlistCommit, EnlistAbort, ReenlistReenlist, ReenlistCommitted, ReenlistAborted}
use Rattle.dtx_values.specs.declared.note.Reply.{Reply}
use Rattle.dtx_values.specs.declared.number.EnlNo.{EnlNo}
use Rattle.dtx_values.specs.declared.words.Outcome.{Outcome}
use Rattle.dtx_values.specs.declared.words.Outcome.TheVariants.{Aborted}
use Rattle.dtx_model.specs.Wires.{in_transit}
use Rattle.history_table.proofs.Scans.{each-append, each_more}
use Rattle.dtx_model.specs.declared.listener.Listener.{Listener}
use Rattle.dtx_model.specs.Words.{each}
use Rattle.dtx_model.specs.Promotes.{identifier_of}
use Rattle.dtx_model.specs.Coordinated.{Coordinated, core_got}
use Rattle.dtx_model.specs.Half.{Half, sees, decide, veto, stands, is_gone, was_told}
use Rattle.dtx_model.specs.Arrivals.{unless_decided, told_abort, arrived, aborted_by, local_got}
use Rattle.dtx_model.specs.Acts.{tell, is_to_tell, act_by, act_entries}
use Rattle.dtx_model.specs.Replies.{reply_entries}
use Rattle.dtx_model.specs.Facts.{facts_if, has_facts}
use Rattle.dtx_model.specs.World.{World, half, core, cut_upward, facts_at, gone_by, gone_decides, answer_at}
use Rattle.dtx_model.specs.Steps.{LogAnswer, coordinates, ended_at, restarted, Step, Calls, Replies, Acts, Coordinates, Delivers, Stops, Restarts, block_at, delivered}
use Rattle.dtx_model.proofs.Writes.{Each, e_one, IsClosed, each_closed, Source, ByCall, ByReply, ByMessage, ByAct, is_tick, is_telling, ticks, loses, returns, tells, sends, writes, is_outcome_message, is_returning}
use Rattle.dtx_model.proofs.Blocks.{of_core_got, of_core_down, of_coordinates, of_restarted, of_veto, of_unless, of_local_down, of_arrived, of_whole_act, of_reply, of_gone_decides, of_cuts, of_called}
use Rattle.dtx_model.proofs.Bools.{and_both, and_right, not_both, or_first, or_second}
use Rattle.dtx_values.specs.Lines.{has_line}
use Rattle.dtx_model.specs.Entries.{is_commit_message}
use Rattle.dtx_model.specs.Calls.{is_gone_call}

-- the message opens the connection of a reenlistment
abbrev pub is_reenlist : Message → Bool
is_reenlist (ReenlistReenlist i) = true
is_reenlist _ = false

-- the entry is of no clock and no timeout, tells nobody, loses no enlistment, and sends no message that opens the connection of a reenlistment
abbrev pub is_common : Entry → Bool
is_common (Clock n) = false
is_common TimedOut = false
is_common Late = false
is_common (Told p o) = false
is_common (LostEntry e) = false
is_common (Sent c Up m) = not (is_reenlist m)
is_common _ = true

abbrev pub Common : List Entry → Type 0
Common es = Each is_common es

common : IsClosed (λ ws es. Each is_common es)
common = each_closed is_common refl (λ x. refl) (λ n x. refl) refl refl

-- so are the entries of blocks that neither move the clock, tell anybody, lose an enlistment nor take one back
common_up : (s : Source) → returns s ≡ false → (m : Message) → sends s m ≡ true → not (is_reenlist m) ≡ true
common_up s r (ReenlistReenlist i) t = absurd (not_both (returns s) t r)
common_up s r _ t = refl

common_entry : (s : Source) → ticks s ≡ false → tells s ≡ false → loses s ≡ false → returns s ≡ false → (x : Entry) → writes s x ≡ true → Common (x ∷ [])
common_entry s k o l r x t = e_one x (passes x t)
  where
    passes : (x : Entry) → writes s x ≡ true → is_common x ≡ true
    passes (Clock n) t = absurd (not_both (ticks s) t k)
    passes TimedOut t = absurd (not_both (ticks s) t k)
    passes Late t = absurd (not_both (ticks s) t k)
    passes (Told p x) t = absurd (not_both (tells s) t o)
    passes (LostEntry e) t = absurd (not_both (loses s) t l)
    passes (Sent c Up m) t = common_up s r m (and_right (has_line c Up m) (sends s m) t)
    passes _ t = refl

common_sent : (c : Conn) (m : Message) → has_line c Down m ≡ true → is_outcome_message m ≡ true → Common (Sent c Down m ∷ [])
common_sent c m l o = e_one (Sent c Down m) refl

pub common_core_got : (id : ℕ) (k : Coordinated) (c : Conn) (m : Message) → Common (core_got id k c m)
common_core_got id k c m = of_core_got (common.lists []) id k c m (λ d n l a. e_one (Sent d Down n) refl)

pub common_decide : (h : Half) (x : Outcome) → Common (decide h x)
common_decide h x = common.decides h x

pub common_veto : (h : Half) → Common (veto h)
common_veto h = of_veto common h

pub common_unless : (h : Half) {es : List Entry} → Common es → Common (unless_decided h es)
common_unless h q = of_unless common h q

pub common_arrived : (t : ℕ) (h : Half) (c : Conn) (m : Message) → is_telling c m ≡ false → Common (arrived t h c m)
common_arrived t h c m g = of_arrived common t h c m (common_entry (ByMessage h.waits c m) refl g refl refl)

pub common_ended_at : (w : World) (c : Conn) (d : Dir) → Common (ended_at w c d)
common_ended_at w c Up = of_core_down (common.lists []) (core w) c common_sent
common_ended_at w c Down = of_local_down common (half w) c

commit_common : (m : Message) → is_commit_message m ≡ true → not (is_reenlist m) ≡ true
commit_common (ReenlistReenlist i) t = absurd cc
commit_common _ t = refl

-- the local act while nothing is decided
pub common_act : (h : Half) → h.seen.decided ≡ None → Common (act_entries h)
common_act h d =
    of_whole_act common h (common_entry (ByAct (is_some h.seen.decided)) refl (ap is_some d) refl refl) (λ e. e_one (Asked e Promote) refl) (λ e. e_one (Asked e AskSingle) refl) (e_one Sealed refl)
    (λ m t. e_one (Sent Begin Up m) (commit_common m t))

pub common_reply : (h : Half) (e : EnlNo) (r : Reply) → Common (reply_entries h e r)
common_reply h e r = of_reply common h e r (common_entry (ByReply r) refl refl refl refl)

-- the call moves the clock, or brings an enlistment back or loses one
abbrev pub is_marking : Call → Bool
is_marking c = is_tick c || is_returning c || is_gone_call c

-- what stands after a loss
abbrev pub gone_rest : World → EnlNo → List Conn → List Entry
gone_rest w e [] = gone_decides (sees (half w) (LostEntry e)) e
gone_rest w e (c ∷ cs) = map (cut_upward w.past) (c ∷ cs)

pub gone_parts : (w : World) (e : EnlNo) (cs : List Conn) → gone_by w e cs ≡ LostEntry e ∷ gone_rest w e cs
gone_parts w e [] = refl
gone_parts w e (c ∷ cs) = refl

pub common_gone : (w : World) (e : EnlNo) (cs : List Conn) → Common (gone_rest w e cs)
common_gone w e [] = of_gone_decides common (sees (half w) (LostEntry e)) e
common_gone w e (c ∷ cs) = of_cuts common [] w (c ∷ cs) (λ d n m. e_one (Cut d n m) refl)

-- what stands after a call that is none of these
pub common_called : (t : ℕ) (w : World) (c : Call) (a : Answer) → is_marking c ≡ false → Common (facts_if (has_facts a) (facts_at t w c a))
common_called t w c a g =
    let early = or_first (is_tick c || is_returning c) (is_gone_call c) g in
    of_called common t w c a
    (common_entry (ByCall c) (or_first (is_tick c) (is_returning c) early) refl (or_second (is_tick c || is_returning c) (is_gone_call c) g) (or_second (is_tick c) (is_returning c) early))
    (λ d n m. e_one (Cut d n m) refl) (λ r. e_one (RecoveredEntry r) refl)

pub common_coordinates : (k : Coordinated) (a : LogAnswer) → Common (coordinates k a)
common_coordinates k a = of_coordinates (common.lists []) k a common_sent (e_one Logged refl) (e_one LogFull refl) (e_one Freed refl) (e_one Stopped refl)

pub common_restarted : (b found : Bool) → Common (restarted b found)
common_restarted b found = of_restarted (common.lists []) b found (e_one Stopped refl) (e_one (Restarted found) refl)

-- The block of each step but a tick and the return or the loss of an enlistment has such entries alone, and those that tell somebody.
abbrev pub is_usual : Entry → Bool
is_usual (Told p o) = true
is_usual x = is_common x

common_usual : (x : Entry) → is_common x ≡ true → is_usual x ≡ true
common_usual (Told p o) k = absurd cc
common_usual x k = k

pub usual : (es : List Entry) → Common es → each is_usual es ≡ true
usual es c = each_more is_common is_usual common_usual es c.proof

tell_usual : (x : Outcome) (l : Option Listener) (o : Option Outcome) → each is_usual (tell x l o) ≡ true
tell_usual x (Some l) o = refl
tell_usual x None (Some y) = refl
tell_usual x None None = refl

act_usual : (h : Half) (o : Option Outcome) → h.seen.decided ≡ o → each is_usual (act_entries h) ≡ true
unfolding act_entries
act_usual h (Some x) q = let P : Option Outcome → Type 0 = λ o. each is_usual (act_by o h) ≡ true in subst P (sym q) (tell_usual x (find (is_to_tell h.seen x) h.seen.listeners) h.seen.told_client)
act_usual h None q = usual (act_entries h) (common_act h q)

told_usual : (h : Half) (e : EnlNo) → each is_usual (told_abort h e) ≡ true
told_usual h e = by (stands h.seen e.value && not (was_told h.seen e.value) && not (is_gone h.seen e.value))
  where
    by : (b : Bool) → each is_usual (if b then Told (Member e) Aborted ∷ [] else []) ≡ true
    by true = refl
    by false = refl

arrived_usual : (t : ℕ) (h : Half) (c : Conn) (m : Message) → each is_usual (arrived t h c m) ≡ true
arrived_usual t h (Enl e) EnlistCommit = refl
arrived_usual t h (Enl e) EnlistAbort = each-append is_usual (told_abort h e) (aborted_by h) (told_usual h e) (usual (aborted_by h) (common_unless h (common_decide h Aborted)))
arrived_usual t h (Again e) ReenlistCommitted = refl
arrived_usual t h (Again e) ReenlistAborted = refl
arrived_usual t h c m = usual (arrived t h c m) (common_arrived t h c m refl)

delivered_usual : (t : ℕ) (w : World) (c : Conn) (d : Dir) (ms : List Message) → each is_usual (delivered t w c d ms) ≡ true
unfolding local_got
delivered_usual t w c d [] = usual (ended_at w c d) (common_ended_at w c d)
delivered_usual t w c Up (m ∷ ms) = usual (core_got (identifier_of t) (core w) c m) (common_core_got (identifier_of t) (core w) c m)
delivered_usual t w c Down (m ∷ ms) = arrived_usual t (sees (half w) (Got c Down m)) c m

-- a call that moves the clock, or brings an enlistment back or loses one
abbrev pub is_marking_step : Step → Bool
is_marking_step (Calls n a c m) = is_marking c
is_marking_step _ = false

pub usual_block : (t : ℕ) (w : World) (m : Step) → is_marking_step m ≡ false → each is_usual (block_at t w m) ≡ true
unfolding block_at
usual_block t w (Calls n a c m) k = usual (facts_if (has_facts (answer_at t w c m)) (facts_at t w c (answer_at t w c m))) (common_called t w c (answer_at t w c m) k)
usual_block t w (Replies e x) k = usual (reply_entries (half w) e x) (common_reply (half w) e x)
usual_block t w Acts k = act_usual (half w) (half w).seen.decided refl
usual_block t w (Coordinates x) k = usual (coordinates (core w) x) (common_coordinates (core w) x)
usual_block t w (Delivers c d) k = delivered_usual t w c d (in_transit c d w.past)
usual_block t w Stops k = refl
usual_block t w (Restarts found) k = usual (restarted (core w).stopped found) (common_restarted (core w).stopped found)

-- Where such entries pass, and a loss does, the block of a loss passes.
pub gone_passes : (p : Entry → Bool) → ((x : Entry) → is_usual x ≡ true → p x ≡ true) → (w : World) (e : EnlNo) (cs : List Conn) (b : Bool) → p (LostEntry e) ≡ true → each p (facts_if b (gone_by w e cs)) ≡ true
gone_passes p q w e cs false k = refl
gone_passes p q w e cs true k =
    subst (λ (es : List Entry). each p es ≡ true) (sym (gone_parts w e cs)) (and_both (p (LostEntry e)) (each p (gone_rest w e cs)) k (each_more is_usual p q (gone_rest w e cs) (usual (gone_rest w e cs) (common_gone w e cs))))
