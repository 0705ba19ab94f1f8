-- Each vote and each acknowledgement in a history answers a note that was due.
use Rattle.std.proofs.Common.{◌≡◌, ℕ, Bool, true, false, ◌&&◌, List, [], ◌∷◌, ◌++◌, Option, Some, None, refl, sym, subst, ap, ◌∙◌}
use Rattle.std.specs.Prelude.{if◌then◌else◌}
use Rattle.dtx_values.specs.declared.call.Call.{Call}
use Rattle.dtx_values.specs.declared.entry.Entry.{Entry}
use Rattle.dtx_values.specs.declared.entry.Entry.TheVariants.{Acked, OwnerAnswered, PromoteReply, Requested, Sent, Stopped, Voted}
use Rattle.dtx_values.specs.declared.message.Conn.{Conn}
use Rattle.dtx_values.specs.declared.message.Conn.TheVariants.{Again, Begin, Enl, Voter}
use Rattle.dtx_values.specs.declared.message.Dir.TheVariants.{Up}
use Rattle.dtx_values.specs.declared.message.Message.{Message}
use Rattle.dtx_values.specs.declared.message.Message.TheVariants.{BeginBegin, EnlistAck, ReenlistAck}
use Rattle.dtx_values.specs.declared.note.Note.{Note}
use Rattle.dtx_values.specs.declared.note.Note.TheVariants.{Commit, Prepare, Single}
use Rattle.dtx_values.specs.declared.note.Reply.{Reply}
use Rattle.dtx_values.specs.declared.note.Reply.TheVariants.{Ack, Owner as OwnerReply, Promote as Promotes, Vote as VoteReply}
use Rattle.dtx_values.specs.declared.number.ActorNo.{ActorNo}
use Rattle.dtx_values.specs.declared.number.EnlNo.{EnlNo}
use Rattle.dtx_values.specs.Ends.{knows}
use Rattle.dtx_values.specs.Vote.{is_no}
use Rattle.dtx_model.specs.Caused.{FreelyCaused, MayCome, Ran}
use Rattle.dtx_model.specs.Half.{Half, sees, to_up}
use Rattle.dtx_model.specs.Observed.{Observed, observe}
use Rattle.dtx_model.specs.Replies.{ack_on, conn_due, due_of, fits, is_volatile_row, one_message, owner_entries, reply_entries, request_message, request_of, vote_message}
use Rattle.dtx_model.specs.Steps.{Step, Acts, Calls, Coordinates, Delivers, Replies, Restarts, Stops, after, block_at}
use Rattle.dtx_model.specs.Words.{always, each, onto}
use Rattle.dtx_model.specs.World.{World, half}
use Rattle.dtx_model.proofs.Blocks.{of_veto, of_veto_if}
use Rattle.dtx_model.proofs.Bools.{and_both, and_left, and_right}
use Rattle.dtx_model.proofs.Writes.{Each, IsClosed, e_if, e_none, e_one, each_closed}
use Rattle.replay_runs.specs.Objects.{is_no_reply}
use Rattle.replay_runs.proofs.Replying.{is_replying, plain_written}
use Rattle.tx_world.specs.State.{sends_begin}

abbrev pub is_prepare : Option Note → Bool
is_prepare (Some Prepare) = true
is_prepare _ = false

abbrev pub is_commit : Option Note → Bool
is_commit (Some Commit) = true
is_commit _ = false

abbrev pub is_owed : List Entry → Entry → Bool
is_owed past (Voted e v) = is_prepare (due_of (observe past) e.value)
is_owed past (Acked e) = is_commit (due_of (observe past) e.value)
is_owed past _ = true

-- a block without replies keeps it
free : (h : List Entry) (x : Entry) → is_no_reply x ≡ true → is_owed h x ≡ true
free h (Voted e v) k = absurd cc
free h (Acked e) k = absurd cc
free h _ k = refl

others_owed : (h es : List Entry) → each is_no_reply es ≡ true → always is_owed h ≡ true → always is_owed (onto h es) ≡ true
others_owed h [] k o = o
others_owed h (x ∷ es) k o =
    others_owed (x ∷ h) es (and_right (is_no_reply x) (each is_no_reply es) k) (and_both (is_owed h x) (always is_owed h) (free h x (and_left (is_no_reply x) (each is_no_reply es) k)) o)

first_owed : (h : List Entry) (x : Entry) (es : List Entry) → is_owed h x ≡ true → Each is_no_reply es → always is_owed h ≡ true → always is_owed (onto h (x ∷ es)) ≡ true
first_owed h x es k e o = others_owed (x ∷ h) es e.proof (and_both (is_owed h x) (always is_owed h) k o)

-- and so does that of a reply, whose own entry comes first
plain : IsClosed (λ ws es. Each is_no_reply es)
plain = each_closed is_no_reply refl (λ x. refl) (λ n x. refl) refl refl

plain_up : (o : Observed) (c : Conn) (m : Message) → Each is_no_reply (to_up o c m)
plain_up o c m = e_if (knows c o.ends) (e_one (Sent c Up m) refl) e_none

plain_ack : (o : Observed) (c : Option Conn) → Each is_no_reply (ack_on o c)
plain_ack o (Some Begin) = e_none
plain_ack o (Some Voter) = e_none
plain_ack o (Some (Enl e)) = plain_up o (Enl e) EnlistAck
plain_ack o (Some (Again e)) = plain_up o (Again e) ReenlistAck
plain_ack o None = e_none

reply_owed : (h : Half) (past : List Entry) (e : EnlNo) (n : Note) (r : Reply) → h.seen ≡ observe past → due_of h.seen e.value ≡ Some n → fits r n ≡ true → always is_owed past ≡ true → always is_owed (onto past (reply_entries h e r)) ≡ true
unfolding reply_entries
reply_owed h past e Prepare (VoteReply v) s d k o =
    let g = sees h (Voted e v) in
    first_owed past (Voted e v) _ (ap is_prepare (ap (λ x. due_of x e.value) (sym s) ∙ d)) (e_if (is_volatile_row g.seen e.value) (of_veto_if plain (is_no v) g) (plain_up g.seen (Enl e) (vote_message v))) o
reply_owed h past e n (Promotes true) s d k o = first_owed past (PromoteReply e true) _ refl (e_one (Sent Begin Up BeginBegin) refl) o
reply_owed h past e n (Promotes false) s d k o = first_owed past (PromoteReply e false) _ refl (of_veto plain (sees h (PromoteReply e false))) o
reply_owed h past e n (OwnerReply x) s d k o = by (due_of h.seen e.value)
  where
    by : (q : Option Note) → always is_owed (onto past (owner_entries h e x q)) ≡ true
    by (Some Single) = first_owed past (Requested e (request_of x)) _ refl (plain_up h.seen Begin (request_message x)) o
    by _ = first_owed past (OwnerAnswered e x) _ refl (e_if h.seen.promoted (plain_up h.seen (Enl e) (one_message x)) (plain.decides h x)) o
reply_owed h past e Commit Ack s d k o = first_owed past (Acked e) _ (ap is_commit (ap (λ x. due_of x e.value) (sym s) ∙ d)) (plain_ack h.seen (conn_due h.seen e.value)) o
reply_owed h past e n (VoteReply v) s d k o = absurd cc
reply_owed h past e n Ack s d k o = absurd cc

-- no other step writes a reply
plain_block : (t : ℕ) (w : World) (m : Step) → is_replying m ≡ false → each is_no_reply (block_at t w m) ≡ true
plain_block t w m q = by (sends_begin t w m) (plain_written true t w m q)
  where
    by : (b : Bool) → each is_no_reply (if b && false then block_at t w m ++ Stopped ∷ [] else block_at t w m) ≡ true → each is_no_reply (block_at t w m) ≡ true
    by true k = k
    by false k = k

step_owed : (G : ℕ → ActorNo → Call → Type 0) (t : ℕ) (w : World) (m : Step) → MayCome G t w m → always is_owed w.past ≡ true → always is_owed (after t w m).past ≡ true
unfolding after block_at
step_owed G t w (Replies e r) q o = reply_owed (half w) w.past e q.0 r refl q.1 q.2 o
step_owed G t w (Calls n a c k) q o = others_owed w.past (block_at t w (Calls n a c k)) (plain_block t w (Calls n a c k) refl) o
step_owed G t w Acts q o = others_owed w.past (block_at t w Acts) (plain_block t w Acts refl) o
step_owed G t w (Coordinates a) q o = others_owed w.past (block_at t w (Coordinates a)) (plain_block t w (Coordinates a) refl) o
step_owed G t w (Delivers c d) q o = others_owed w.past (block_at t w (Delivers c d)) (plain_block t w (Delivers c d) refl) o
step_owed G t w Stops q o = others_owed w.past (block_at t w Stops) (plain_block t w Stops refl) o
step_owed G t w (Restarts found) q o = others_owed w.past (block_at t w (Restarts found)) (plain_block t w (Restarts found) refl) o

ran_owed : (G : ℕ → ActorNo → Call → Type 0) (t : ℕ) (ms : List Step) (w : World) → Ran G t ms w → always is_owed w.past ≡ true
ran_owed G t [] w r = subst (λ (h : List Entry). always is_owed h ≡ true) (sym r.1) refl
ran_owed G t (m ∷ ms) w r = subst (λ (x : World). always is_owed x.past ≡ true) (sym r.3) (step_owed G t r.0 m r.2 (ran_owed G t ms r.0 r.1))

-- so in each history that is caused
pub caused_owed : (G : ℕ → ActorNo → Call → Type 0) (t : ℕ) (h : List Entry) → FreelyCaused G t h → always is_owed h ≡ true
caused_owed G t h r = ran_owed G t r.1.0 (record { calls = r.0; past = h }) r.1.1
