-- Which entries the block of a step has: an append or a free that was done is in that of the coordinator's act alone, a stop of it there and in that of a stop or a restart, and the entry of a
-- reply, as its first, in that of a reply.
use Rattle.std.proofs.Common.{◌≡◌, ℕ, Bool, true, false, List, [], ◌∷◌, Option, Some, None, is_some, refl}
use Rattle.dtx_values.specs.declared.call.Call.{Call}
use Rattle.dtx_values.specs.declared.entry.Answer.{Answer}
use Rattle.dtx_values.specs.declared.entry.Ask.TheVariants.{Promote, Single as AskSingle}
use Rattle.dtx_values.specs.declared.entry.Entry.{Entry}
use Rattle.dtx_values.specs.declared.entry.Entry.TheVariants.{Asked, Called, Cut, Voted, PromoteReply, Requested, Sealed, OwnerAnswered, Sent, Got, Down as Ended, Logged, LogFull, Freed, Stopped, Restarted, Recovered as RecoveredEntry, Acked}
use Rattle.dtx_values.specs.declared.message.Conn.{Conn}
use Rattle.dtx_values.specs.declared.message.Conn.TheVariants.{Begin, Voter, Enl, Again}
use Rattle.dtx_values.specs.declared.message.Dir.{Dir}
use Rattle.dtx_values.specs.declared.message.Dir.TheVariants.{Up, Down}
use Rattle.dtx_values.specs.declared.message.Message.{Message}
use Rattle.dtx_values.specs.declared.message.Message.TheVariants.{BeginBegin, EnlistAck, ReenlistAck}
use Rattle.dtx_values.specs.declared.note.Note.{Note}
use Rattle.dtx_values.specs.declared.note.Note.TheVariants.{Single}
use Rattle.dtx_values.specs.declared.note.Reply.{Reply}
use Rattle.dtx_values.specs.declared.note.Reply.TheVariants.{Vote as VoteReply, Promote as Promotes, Owner as OwnerReply, Ack}
use Rattle.dtx_values.specs.declared.number.EnlNo.{EnlNo}
use Rattle.dtx_values.specs.declared.words.Outcome.{Outcome}
use Rattle.dtx_values.specs.declared.words.Vote.{Vote}
use Rattle.dtx_values.specs.Ends.{knows}
use Rattle.dtx_values.specs.Vote.{is_no}
use Rattle.dtx_model.specs.Observed.{Observed}
use Rattle.dtx_model.specs.Promotes.{identifier_of}
use Rattle.dtx_model.specs.Coordinated.{Coordinated, commit_sends, core_got, follow, may_log}
use Rattle.dtx_model.specs.Half.{Half, sees, to_up}
use Rattle.dtx_model.specs.Arrivals.{local_got}
use Rattle.dtx_model.specs.Acts.{act_entries}
use Rattle.dtx_model.specs.Replies.{ack_on, conn_due, due_of, is_volatile_row, one_message, owner_entries, promote_entries, reply_entries, request_message, request_of, vote_message, voted_by}
use Rattle.dtx_model.specs.Facts.{facts_if, has_facts}
use Rattle.dtx_model.specs.World.{World, half, core, answer_at, facts_at}
use Rattle.dtx_model.specs.Steps.{LogAnswer, Done, Full, StoppedNow, StoppedBefore, Step, Calls, Replies, Acts, Coordinates, Delivers, Stops, Restarts, appended, block_at, delivered, ended_at, freed, got_by, restarted}
use Rattle.dtx_model.specs.Wires.{in_transit}
use Rattle.dtx_model.proofs.Blocks.{of_arrived, of_called, of_commit_sends, of_abort_sends, of_core_down, of_core_got, of_local_down, of_veto, of_veto_if, of_whole_act}
use Rattle.dtx_model.proofs.Writes.{ByAct, ByCall, ByMessage, ByReply, Each, IsClosed, Source, e_cons, e_if, e_none, e_one, each_closed, promises, replies, writes}
use Rattle.history_table.proofs.Scans.{each_more}

-- the entry is no reply, but an acknowledgement, no append and no free that was done, and no stop and no restart
abbrev pub is_deed : Entry → Bool
is_deed (Voted e v) = false
is_deed (PromoteReply e ok) = false
is_deed (OwnerAnswered e x) = false
is_deed (Requested e r) = false
is_deed Logged = false
is_deed Freed = false
is_deed Stopped = false
is_deed (Restarted found) = false
is_deed _ = true

-- The blocks of such entries.
deeds : IsClosed (λ ws es. Each is_deed es)
deeds = each_closed is_deed refl (λ x. refl) (λ n x. refl) refl refl

-- what makes a block, other than a reply
abbrev is_no_reply : Source → Bool
is_no_reply (ByReply r) = false
is_no_reply _ = true

no_reply : (s : Source) → is_no_reply s ≡ true → replies s ≡ true → ⊥
no_reply (ByReply r) k q = absurd cc
no_reply (ByCall c) k q = absurd cc
no_reply (ByMessage ws c m) k q = absurd cc
no_reply (ByAct d) k q = absurd cc

no_promise : (s : Source) → is_no_reply s ≡ true → promises s ≡ true → ⊥
no_promise (ByReply r) k q = absurd cc
no_promise (ByCall c) k q = absurd cc
no_promise (ByMessage ws c m) k q = absurd cc
no_promise (ByAct d) k q = absurd cc

passes : (s : Source) (x : Entry) → is_no_reply s ≡ true → writes s x ≡ true → is_deed x ≡ true
passes s (Voted e v) k t = absurd (no_reply s k t)
passes s (PromoteReply e ok) k t = absurd (no_promise s k t)
passes s (OwnerAnswered e x) k t = absurd (no_reply s k t)
passes s (Requested e r) k t = absurd (no_reply s k t)
passes s Logged k t = absurd cc
passes s Freed k t = absurd cc
passes s Stopped k t = absurd cc
passes s (Restarted found) k t = absurd cc
passes s _ k t = refl

deed_entry : (s : Source) → is_no_reply s ≡ true → (x : Entry) → writes s x ≡ true → Each is_deed (x ∷ [])
deed_entry s k x t = e_one x (passes s x k t)

deed_sent : (c : Conn) (m : Message) → Each is_deed (Sent c Down m ∷ [])
deed_sent c m = e_one (Sent c Down m) refl

pub deed_commit : (k : Coordinated) → Each is_deed (commit_sends k)
deed_commit k = of_commit_sends (deeds.lists []) k (λ c m l o. deed_sent c m)

deed_core_got : (id : ℕ) (k : Coordinated) (c : Conn) (m : Message) → Each is_deed (core_got id k c m)
deed_core_got id k c m = of_core_got (deeds.lists []) id k c m (λ d n l a. deed_sent d n)

deed_local_got : (t : ℕ) (h : Half) (c : Conn) (m : Message) → Each is_deed (local_got t h c m)
unfolding local_got
deed_local_got t h c m = let g = sees h (Got c Down m) in of_arrived deeds t g c m (deed_entry (ByMessage g.waits c m) refl)

deed_got : (t : ℕ) (w : World) (c : Conn) (d : Dir) (m : Message) → Each is_deed (got_by t w c d m)
deed_got t w c Up m = deed_core_got (identifier_of t) (core w) c m
deed_got t w c Down m = deed_local_got t (half w) c m

deed_ended : (w : World) (c : Conn) (d : Dir) → Each is_deed (ended_at w c d)
deed_ended w c Up = of_core_down (deeds.lists []) (core w) c (λ e m l o. deed_sent e m)
deed_ended w c Down = of_local_down deeds (half w) c

deed_delivered : (t : ℕ) (w : World) (c : Conn) (d : Dir) (ms : List Message) → Each is_deed (delivered t w c d ms)
deed_delivered t w c d [] = e_cons (Ended c d) refl (deed_ended w c d)
deed_delivered t w c d (m ∷ ms) = e_cons (Got c d m) refl (deed_got t w c d m)

deed_act : (h : Half) → Each is_deed (act_entries h)
deed_act h =
    of_whole_act deeds h (deed_entry (ByAct (is_some h.seen.decided)) refl) (λ e. e_one (Asked e Promote) refl) (λ e. e_one (Asked e AskSingle) refl) (e_one Sealed refl)
    (λ m c. e_one (Sent Begin Up m) refl)

deed_called : (t : ℕ) (w : World) (c : Call) (a : Answer) → Each is_deed (facts_if (has_facts a) (facts_at t w c a))
deed_called t w c a = of_called deeds t w c a (deed_entry (ByCall c) refl) (λ d n m. e_one (Cut d n m) refl) (λ r. e_one (RecoveredEntry r) refl)

-- What each entry of a block passes. Those of a reply: its own pass, and all that aren't the coordinator's.
abbrev pub OfReply : (Entry → Bool) → EnlNo → Reply → Type 0
OfReply p e (VoteReply v) = p (Voted e v) ≡ true
OfReply p e (Promotes ok) = p (PromoteReply e ok) ≡ true
OfReply p e (OwnerReply x) = (p (OwnerAnswered e x) ≡ true) × (p (Requested e (request_of x)) ≡ true)
OfReply p e Ack = Unit {0}

-- those of a step
abbrev pub OfAnswer : (Entry → Bool) → LogAnswer → Type 0
OfAnswer p Done = (p Logged ≡ true) × (p Freed ≡ true)
OfAnswer p Full = Unit {0}
OfAnswer p _ = p Stopped ≡ true

abbrev pub OfStep : (Entry → Bool) → Step → Type 0
OfStep p (Replies e r) = OfReply p e r
OfStep p (Coordinates a) = OfAnswer p a
OfStep p Stops = p Stopped ≡ true
OfStep p (Restarts found) = (p Stopped ≡ true) × (p (Restarted found) ≡ true)
OfStep p _ = Unit {0}

pub of_deeds : (p : Entry → Bool) → ((x : Entry) → is_deed x ≡ true → p x ≡ true) → {es : List Entry} → Each is_deed es → Each p es
of_deeds p q {es} d = record { proof = each_more is_deed p q es d.proof }

up_deed : (o : Observed) (c : Conn) (m : Message) → Each is_deed (to_up o c m)
up_deed o c m = e_if (knows c o.ends) (e_one (Sent c Up m) refl) e_none

-- an acknowledgement is due on e or x alone
ack_deed : (o : Observed) (c : Option Conn) → Each is_deed (ack_on o c)
ack_deed o (Some Begin) = e_none
ack_deed o (Some Voter) = e_none
ack_deed o (Some (Enl e)) = up_deed o (Enl e) EnlistAck
ack_deed o (Some (Again e)) = up_deed o (Again e) ReenlistAck
ack_deed o None = e_none

voted_deed : (h : Half) (e : EnlNo) (v : Vote) → Each is_deed (voted_by h e v)
voted_deed h e v = e_if (is_volatile_row h.seen e.value) (of_veto_if deeds (is_no v) h) (up_deed h.seen (Enl e) (vote_message v))

of_promote : (p : Entry → Bool) → ((x : Entry) → is_deed x ≡ true → p x ≡ true) → (h : Half) (e : EnlNo) (ok : Bool) → p (PromoteReply e ok) ≡ true → Each p (promote_entries h e ok)
of_promote p q h e true k = e_cons (PromoteReply e true) k (of_deeds p q (e_one (Sent Begin Up BeginBegin) refl))
of_promote p q h e false k = e_cons (PromoteReply e false) k (of_deeds p q (of_veto deeds (sees h (PromoteReply e false))))

of_owner : (p : Entry → Bool) → ((x : Entry) → is_deed x ≡ true → p x ≡ true) → (h : Half) (e : EnlNo) (x : Outcome) (n : Option Note) → p (OwnerAnswered e x) ≡ true → p (Requested e (request_of x)) ≡ true
    → Each p (owner_entries h e x n)
of_owner p q h e x (Some Single) k r = e_cons (Requested e (request_of x)) r (of_deeds p q (up_deed h.seen Begin (request_message x)))
of_owner p q h e x _ k r = e_cons (OwnerAnswered e x) k (of_deeds p q (e_if h.seen.promoted (up_deed h.seen (Enl e) (one_message x)) (deeds.decides h x)))

of_reply_block : (p : Entry → Bool) → ((x : Entry) → is_deed x ≡ true → p x ≡ true) → (h : Half) (e : EnlNo) (r : Reply) → OfReply p e r → Each p (reply_entries h e r)
unfolding reply_entries
of_reply_block p q h e (VoteReply v) k = e_cons (Voted e v) k (of_deeds p q (voted_deed (sees h (Voted e v)) e v))
of_reply_block p q h e (Promotes ok) k = of_promote p q h e ok k
of_reply_block p q h e (OwnerReply x) k = of_owner p q h e x (due_of h.seen e.value) k.0 k.1
of_reply_block p q h e Ack k = of_deeds p q (e_cons (Acked e) refl (ack_deed h.seen (conn_due h.seen e.value)))

of_append : (p : Entry → Bool) → ((x : Entry) → is_deed x ≡ true → p x ≡ true) → (k : Coordinated) (a : LogAnswer) → OfAnswer p a → Each p (appended k a)
of_append p q k Done o = e_cons Logged o.0 (of_deeds p q (deed_commit (follow k Logged)))
of_append p q k Full o = of_deeds p q (e_cons LogFull refl (of_abort_sends (deeds.lists []) (follow k LogFull) (λ c m l n. deed_sent c m)))
of_append p q k StoppedNow o = e_one Stopped o
of_append p q k StoppedBefore o = e_one Stopped o

of_free : (p : Entry → Bool) (a : LogAnswer) → OfAnswer p a → Each p (freed a)
of_free p Done o = e_one Freed o.1
of_free p Full o = e_none
of_free p StoppedNow o = e_one Stopped o
of_free p StoppedBefore o = e_one Stopped o

of_restart : (p : Entry → Bool) (b found : Bool) → p Stopped ≡ true → p (Restarted found) ≡ true → Each p (restarted b found)
of_restart p true found s r = e_one (Restarted found) r
of_restart p false found s r = e_cons Stopped s (e_one (Restarted found) r)

-- So the block of each step: where these pass, each entry passes.
pub of_block : (p : Entry → Bool) → ((x : Entry) → is_deed x ≡ true → p x ≡ true) → (t : ℕ) (w : World) (m : Step) → OfStep p m → Each p (block_at t w m)
unfolding block_at
of_block p q t w (Calls n a c k) o = of_deeds p q (e_cons (Called n a (answer_at t w c k)) refl (deed_called t w c (answer_at t w c k)))
of_block p q t w (Replies e r) o = of_reply_block p q (half w) e r o
of_block p q t w Acts o = of_deeds p q (deed_act (half w))
of_block p q t w (Coordinates a) o = e_if (may_log (core w)) (of_append p q (core w) a o) (of_free p a o)
of_block p q t w (Delivers c d) o = of_deeds p q (deed_delivered t w c d (in_transit c d w.past))
of_block p q t w Stops o = e_one Stopped o
of_block p q t w (Restarts found) o = of_restart p (core w).stopped found o.0 o.1
