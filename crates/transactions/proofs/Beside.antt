-- Which entries the block of a step has: an acknowledgement is in that of such a reply alone, and that a manager has recovered in that of such a call alone.
use Rattle.std.proofs.Common.{◌≡◌, ℕ, Bool, true, false, List, [], ◌∷◌, Option, Some, None, find, is_some, refl}
use Rattle.dtx_values.specs.declared.call.Call.{Call}
use Rattle.dtx_values.specs.declared.call.Call.TheVariants.{Gone, Lose, Recovered, Reenlist}
use Rattle.dtx_values.specs.declared.entry.Answer.{Answer}
use Rattle.dtx_values.specs.declared.entry.Ask.TheVariants.{Promote, Single as AskSingle}
use Rattle.dtx_values.specs.declared.entry.Entry.{Entry}
use Rattle.dtx_values.specs.declared.entry.Entry.TheVariants.{Asked, Called, Cut, Voted, PromoteReply, Requested, Sealed, OwnerAnswered, Sent, Got, Down as Ended, Logged, LogFull, Freed, Stopped, Restarted, Recovered as RecoveredEntry, Acked, Lost as LostEntry, Reenlisted}
use Rattle.dtx_values.specs.declared.message.Conn.{Conn}
use Rattle.dtx_values.specs.declared.message.Conn.TheVariants.{Begin, Voter, Enl, Again}
use Rattle.dtx_values.specs.declared.message.Dir.{Dir}
use Rattle.dtx_values.specs.declared.message.Dir.TheVariants.{Up, Down}
use Rattle.dtx_values.specs.declared.message.Message.{Message}
use Rattle.dtx_values.specs.declared.message.Message.TheVariants.{BeginBegin, EnlistAck, ReenlistAck, ReenlistReenlist}
use Rattle.dtx_values.specs.declared.note.Note.{Note}
use Rattle.dtx_values.specs.declared.note.Note.TheVariants.{Single}
use Rattle.dtx_values.specs.declared.note.Reply.{Reply}
use Rattle.dtx_values.specs.declared.note.Reply.TheVariants.{Vote as VoteReply, Promote as Promotes, Owner as OwnerReply, Ack}
use Rattle.dtx_values.specs.declared.number.EnlNo.{EnlNo}
use Rattle.dtx_values.specs.declared.words.Outcome.{Outcome}
use Rattle.dtx_values.specs.declared.words.Vote.{Vote}
use Rattle.dtx_values.specs.Ends.{knows}
use Rattle.dtx_values.specs.Vote.{is_no}
use Rattle.dtx_model.specs.Observed.{Observed, is_branch}
use Rattle.dtx_model.specs.Promotes.{identifier_of}
use Rattle.dtx_model.specs.Coordinated.{Coordinated, commit_sends, follow, may_log}
use Rattle.dtx_model.specs.Half.{Half, sees, to_up}
use Rattle.dtx_model.specs.Arrivals.{local_got}
use Rattle.dtx_model.specs.Acts.{act_entries}
use Rattle.dtx_model.specs.Replies.{ack_on, conn_due, due_of, is_volatile_row, one_message, owner_entries, promote_entries, reply_entries, request_message, request_of, vote_message, voted_by}
use Rattle.dtx_model.specs.Facts.{facts_if, has_facts}
use Rattle.dtx_model.specs.World.{World, half, core, answer_at, cut, facts_at, gone_by, open_ones}
use Rattle.dtx_model.specs.Steps.{LogAnswer, Done, Full, StoppedNow, StoppedBefore, Step, Calls, Replies, Acts, Coordinates, Delivers, Stops, Restarts, appended, block_at, delivered, ended_at, freed, got_by, restarted}
use Rattle.dtx_model.specs.Wires.{in_transit}
use Rattle.dtx_model.proofs.Blocks.{of_arrived, of_commit_sends, of_abort_sends, of_core_down, of_core_got, of_cuts, of_facts, of_gone_unlinked, of_local_down, of_reenlist, of_veto, of_veto_if, of_whole_act}
use Rattle.dtx_model.proofs.Writes.{ByAct, ByCall, ByMessage, ByReply, Each, IsClosed, Source, e_cons, e_if, e_none, e_one, each_closed, replies, writes}
use Rattle.history_table.proofs.Scans.{each_more}

-- the entry is no acknowledgement, and doesn't say that a manager has recovered
abbrev pub is_beside : Entry → Bool
is_beside (Acked e) = false
is_beside (RecoveredEntry r) = false
is_beside _ = true

-- The blocks of such entries.
besides : IsClosed (λ ws es. Each is_beside es)
besides = each_closed is_beside refl (λ x. refl) (λ n x. refl) refl refl

-- what makes a block, other than a reply
abbrev is_no_reply : Source → Bool
is_no_reply (ByReply r) = false
is_no_reply _ = true

no_reply : (s : Source) → is_no_reply s ≡ true → replies s ≡ true → ⊥
no_reply (ByReply r) k q = absurd cc
no_reply (ByCall c) k q = absurd cc
no_reply (ByMessage ws c m) k q = absurd cc
no_reply (ByAct d) k q = absurd cc

passes : (s : Source) (x : Entry) → is_no_reply s ≡ true → writes s x ≡ true → is_beside x ≡ true
passes s (Acked e) k t = absurd (no_reply s k t)
passes s (RecoveredEntry r) k t = absurd cc
passes s _ k t = refl

beside_entry : (s : Source) → is_no_reply s ≡ true → (x : Entry) → writes s x ≡ true → Each is_beside (x ∷ [])
beside_entry s k x t = e_one x (passes s x k t)

beside_sent : (c : Conn) (m : Message) → Each is_beside (Sent c Down m ∷ [])
beside_sent c m = e_one (Sent c Down m) refl

beside_commit : (k : Coordinated) → Each is_beside (commit_sends k)
beside_commit k = of_commit_sends (besides.lists []) k (λ c m l o. beside_sent c m)

beside_local_got : (t : ℕ) (h : Half) (c : Conn) (m : Message) → Each is_beside (local_got t h c m)
unfolding local_got
beside_local_got t h c m = let g = sees h (Got c Down m) in of_arrived besides t g c m (beside_entry (ByMessage g.waits c m) refl)

beside_got : (t : ℕ) (w : World) (c : Conn) (d : Dir) (m : Message) → Each is_beside (got_by t w c d m)
beside_got t w c Up m = of_core_got (besides.lists []) (identifier_of t) (core w) c m (λ d n l a. beside_sent d n)
beside_got t w c Down m = beside_local_got t (half w) c m

beside_ended : (w : World) (c : Conn) (d : Dir) → Each is_beside (ended_at w c d)
beside_ended w c Up = of_core_down (besides.lists []) (core w) c (λ e m l o. beside_sent e m)
beside_ended w c Down = of_local_down besides (half w) c

beside_delivered : (t : ℕ) (w : World) (c : Conn) (d : Dir) (ms : List Message) → Each is_beside (delivered t w c d ms)
beside_delivered t w c d [] = e_cons (Ended c d) refl (beside_ended w c d)
beside_delivered t w c d (m ∷ ms) = e_cons (Got c d m) refl (beside_got t w c d m)

beside_act : (h : Half) → Each is_beside (act_entries h)
beside_act h =
    of_whole_act besides h (beside_entry (ByAct (is_some h.seen.decided)) refl) (λ e. e_one (Asked e Promote) refl) (λ e. e_one (Asked e AskSingle) refl) (e_one Sealed refl)
    (λ m c. e_one (Sent Begin Up m) refl)

beside_gone : (w : World) (e : EnlNo) (cs : List Conn) → Each is_beside (gone_by w e cs)
beside_gone w e [] = of_gone_unlinked besides (half w) e (e_one (LostEntry e) refl)
beside_gone w e (c ∷ cs) = e_cons (LostEntry e) refl (of_cuts besides (half w).waits w (c ∷ cs) (λ d n m. e_one (Cut d n m) refl))

-- What each entry of a block passes: that of an acknowledgement, or of a recovery, and all others.
abbrev pub OfCall : (Entry → Bool) → Call → Type 0
OfCall p (Recovered u r) = p (RecoveredEntry r) ≡ true
OfCall p _ = Unit {0}

abbrev pub OfMore : (Entry → Bool) → Step → Type 0
OfMore p (Calls n a c k) = OfCall p c
OfMore p (Replies e Ack) = p (Acked e) ≡ true
OfMore p _ = Unit {0}

of_besides : (p : Entry → Bool) → ((x : Entry) → is_beside x ≡ true → p x ≡ true) → {es : List Entry} → Each is_beside es → Each p es
of_besides p q {es} d = record { proof = each_more is_beside p q es d.proof }

more_facts : (p : Entry → Bool) → ((x : Entry) → is_beside x ≡ true → p x ≡ true) → (t : ℕ) (w : World) (c : Call) (a : Answer) → OfCall p c → Each p (facts_at t w c a)
more_facts p q t w (Lose u c n m) a o = of_besides p q (e_one (cut w.past c n m) refl)
more_facts p q t w (Gone e) a o = of_besides p q (beside_gone w e (open_ones w e))
more_facts p q t w (Reenlist e) a o =
    of_besides p q (of_reenlist besides (half w).waits t (find (is_branch e.value) (half w).seen.branches) (λ f. e_one (Reenlisted f) refl) (λ f i. e_one (Sent (Again f) Up (ReenlistReenlist i)) refl))
more_facts p q t w (Recovered u r) a o = e_one (RecoveredEntry r) o
more_facts p q t w c a o = of_besides p q (of_facts besides t (half w) c a (beside_entry (ByCall c) refl))

more_called : (p : Entry → Bool) → ((x : Entry) → is_beside x ≡ true → p x ≡ true) → (t : ℕ) (w : World) (c : Call) (a : Answer) → OfCall p c → Each p (facts_if (has_facts a) (facts_at t w c a))
more_called p q t w c a o = by (has_facts a)
  where
    by : (b : Bool) → Each p (facts_if b (facts_at t w c a))
    by true = more_facts p q t w c a o
    by false = e_none

beside_up : (o : Observed) (c : Conn) (m : Message) → Each is_beside (to_up o c m)
beside_up o c m = e_if (knows c o.ends) (e_one (Sent c Up m) refl) e_none

beside_ack : (o : Observed) (c : Option Conn) → Each is_beside (ack_on o c)
beside_ack o (Some Begin) = e_none
beside_ack o (Some Voter) = e_none
beside_ack o (Some (Enl e)) = beside_up o (Enl e) EnlistAck
beside_ack o (Some (Again e)) = beside_up o (Again e) ReenlistAck
beside_ack o None = e_none

beside_voted : (h : Half) (e : EnlNo) (v : Vote) → Each is_beside (voted_by h e v)
beside_voted h e v = e_if (is_volatile_row h.seen e.value) (of_veto_if besides (is_no v) h) (beside_up h.seen (Enl e) (vote_message v))

beside_promote : (h : Half) (e : EnlNo) (ok : Bool) → Each is_beside (promote_entries h e ok)
beside_promote h e true = e_cons (PromoteReply e true) refl (e_one (Sent Begin Up BeginBegin) refl)
beside_promote h e false = e_cons (PromoteReply e false) refl (of_veto besides (sees h (PromoteReply e false)))

beside_owner : (h : Half) (e : EnlNo) (x : Outcome) (n : Option Note) → Each is_beside (owner_entries h e x n)
beside_owner h e x (Some Single) = e_cons (Requested e (request_of x)) refl (beside_up h.seen Begin (request_message x))
beside_owner h e x _ = e_cons (OwnerAnswered e x) refl (e_if h.seen.promoted (beside_up h.seen (Enl e) (one_message x)) (besides.decides h x))

more_reply : (p : Entry → Bool) → ((x : Entry) → is_beside x ≡ true → p x ≡ true) → (h : Half) (e : EnlNo) (r : Reply) → OfMore p (Replies e r) → Each p (reply_entries h e r)
unfolding reply_entries
more_reply p q h e (VoteReply v) o = of_besides p q (e_cons (Voted e v) refl (beside_voted (sees h (Voted e v)) e v))
more_reply p q h e (Promotes ok) o = of_besides p q (beside_promote h e ok)
more_reply p q h e (OwnerReply x) o = of_besides p q (beside_owner h e x (due_of h.seen e.value))
more_reply p q h e Ack o = e_cons (Acked e) o (of_besides p q (beside_ack h.seen (conn_due h.seen e.value)))

beside_append : (k : Coordinated) (a : LogAnswer) → Each is_beside (appended k a)
beside_append k Done = e_cons Logged refl (beside_commit (follow k Logged))
beside_append k Full = e_cons LogFull refl (of_abort_sends (besides.lists []) (follow k LogFull) (λ c m l n. beside_sent c m))
beside_append k StoppedNow = e_one Stopped refl
beside_append k StoppedBefore = e_one Stopped refl

beside_free : (a : LogAnswer) → Each is_beside (freed a)
beside_free Done = e_one Freed refl
beside_free Full = e_none
beside_free StoppedNow = e_one Stopped refl
beside_free StoppedBefore = e_one Stopped refl

beside_restart : (b found : Bool) → Each is_beside (restarted b found)
beside_restart true found = e_one (Restarted found) refl
beside_restart false found = e_cons Stopped refl (e_one (Restarted found) refl)

-- So the block of each step: where these pass, each entry passes.
pub of_more : (p : Entry → Bool) → ((x : Entry) → is_beside x ≡ true → p x ≡ true) → (t : ℕ) (w : World) (m : Step) → OfMore p m → Each p (block_at t w m)
unfolding block_at
of_more p q t w (Calls n a c k) o = e_cons (Called n a (answer_at t w c k)) (q (Called n a (answer_at t w c k)) refl) (more_called p q t w c (answer_at t w c k) o)
of_more p q t w (Replies e r) o = more_reply p q (half w) e r o
of_more p q t w Acts o = of_besides p q (beside_act (half w))
of_more p q t w (Coordinates a) o = of_besides p q (e_if (may_log (core w)) (beside_append (core w) a) (beside_free a))
of_more p q t w (Delivers c d) o = of_besides p q (beside_delivered t w c d (in_transit c d w.past))
of_more p q t w Stops o = of_besides p q (e_one Stopped refl)
of_more p q t w (Restarts found) o = of_besides p q (beside_restart (core w).stopped found)
