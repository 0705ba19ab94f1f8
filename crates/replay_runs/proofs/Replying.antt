-- The entry of a reply stands in the block of that reply alone, as its first. So what an object is asked for, and what it is told, are what the block shows.
use Rattle.std.proofs.Common.{◌≡◌, ℕ, Bool, true, false, ◌&&◌, not, List, [], ◌∷◌, ◌++◌, Option, Some, None, is_some, refl, ap, sym, subst, ◌∙◌, if◌then◌else◌}
use Rattle.dtx_values.specs.declared.call.Call.{Call}
use Rattle.dtx_values.specs.declared.entry.Answer.{Answer}
use Rattle.dtx_values.specs.declared.entry.Answer.TheVariants.{Fine, Fault, NotALog}
use Rattle.dtx_values.specs.declared.entry.Ask.TheVariants.{Promote, Single as AskSingle}
use Rattle.dtx_values.specs.declared.entry.Entry.{Entry}
use Rattle.dtx_values.specs.declared.entry.Entry.TheVariants.{Asked, Called, Cut, Voted, PromoteReply, Requested, Sealed, OwnerAnswered, Sent, Got, Down as Ended, Logged, LogFull, Freed, LogWord, Stopped, Restarted, Recovered as RecoveredEntry, Acked}
use Rattle.dtx_values.specs.declared.entry.LogNote.TheVariants.{Opened}
use Rattle.dtx_values.specs.declared.message.Conn.{Conn}
use Rattle.dtx_values.specs.declared.message.Conn.TheVariants.{Begin, Voter, Enl, Again}
use Rattle.dtx_values.specs.declared.message.Dir.{Dir}
use Rattle.dtx_values.specs.declared.message.Dir.TheVariants.{Up, Down}
use Rattle.dtx_values.specs.declared.message.Message.{Message}
use Rattle.dtx_values.specs.declared.message.Message.TheVariants.{BeginBegin, EnlistAck, ReenlistAck}
use Rattle.dtx_values.specs.declared.note.Note.{Note}
use Rattle.dtx_values.specs.declared.note.Note.TheVariants.{Prepare as PrepareNote, Promote as PromoteNote, Hand, Single, Commit as CommitNote}
use Rattle.dtx_values.specs.declared.note.Reply.{Reply}
use Rattle.dtx_values.specs.declared.note.Reply.TheVariants.{Vote as VoteReply, Promote as Promotes, Owner as OwnerReply, Ack}
use Rattle.dtx_values.specs.declared.number.ActorNo.{ActorNo}
use Rattle.dtx_values.specs.declared.number.EnlNo.{EnlNo}
use Rattle.dtx_values.specs.declared.number.TxNo.{TxNo}
use Rattle.dtx_values.specs.declared.script.Line.{Line}
use Rattle.dtx_values.specs.declared.trace.Place.TheVariants.{Context, Transaction}
use Rattle.dtx_values.specs.Ends.{knows}
use Rattle.dtx_values.specs.Vote.{is_no}
use Rattle.dtx_model.specs.Acts.{act_entries}
use Rattle.dtx_model.specs.AtLog.{hit, is_log_up, known}
use Rattle.dtx_model.specs.Arrivals.{local_got}
use Rattle.dtx_model.specs.Caused.{IsNamed, Of, answers, is_volatile_in, plans_of}
use Rattle.dtx_model.specs.Coordinated.{Coordinated, core_got, follow, may_log}
use Rattle.dtx_model.specs.Facts.{facts_if, has_facts}
use Rattle.dtx_model.specs.Half.{Half, sees, to_up}
use Rattle.dtx_model.specs.Observed.{Observed}
use Rattle.dtx_model.specs.Plans.{plan_of, planned}
use Rattle.dtx_model.specs.Promotes.{identifier_of}
use Rattle.dtx_model.specs.Replay.{Reopening, Opens, Faults, Differs, after_halt, after_restart, at_the_log, put_at, stopped_by_restart}
use Rattle.dtx_model.specs.Replies.{ack_on, answered_by, conn_due, due_of, fits, is_volatile_row, one_message, owner_entries, reply_entries, request_message, request_of, vote_message, voted_by, with_note}
use Rattle.dtx_model.specs.Steps.{LogAnswer, Done, Full, StoppedNow, StoppedBefore, Step, Calls, Replies, Acts, Coordinates, Delivers, Stops, Restarts, StepName, ReplyOf, LocalAct, CoordinatorAct, Delivery, appended, block_at, delivered, ended_at, freed, got_by, pending, restarted}
use Rattle.dtx_model.specs.Traces.{Placed, noted}
use Rattle.dtx_model.specs.Wires.{in_transit}
use Rattle.dtx_model.specs.Words.{each, kth, onto, put}
use Rattle.dtx_model.specs.World.{World, half, core, answer_at, facts_at}
use Rattle.dtx_model.proofs.Blocks.{of_abort_sends, of_arrived, of_called, of_commit_sends, of_core_down, of_core_got, of_local_down, of_veto, of_veto_if, of_whole_act}
use Rattle.dtx_model.proofs.Writes.{ByAct, ByCall, ByMessage, ByReply, Each, IsClosed, Source, e_cons, e_if, e_join, e_none, e_one, each_closed, promises, replies, writes}
use Rattle.heard_notes.specs.Heard.{Shows, heard, heard_if, is_reply, note_shown}
use Rattle.tx_world.specs.State.{sends_begin}
use Rattle.tx_world.specs.Stepping.{reply_in}
use Rattle.replay_runs.proofs.Steps.{IsStep, StepOf, did_step, was, wrote}
use Rattle.script_calls.proofs.PlannedReplies.{planned_here}
use Rattle.replay_runs.specs.Objects.{IsBlockOf, IsGiven, IsRepliedIn, IsReplyOf, is_no_reply}
use Rattle.replay_runs.proofs.Turns.{written}

-- The blocks without a reply.
plain : IsClosed (λ ws es. Each is_no_reply es)
plain = each_closed is_no_reply refl (λ x. refl) (λ n x. refl) refl refl

-- what makes a block, other than a reply
abbrev is_other : Source → Bool
is_other (ByReply r) = false
is_other _ = true

no_reply : (s : Source) → is_other s ≡ true → replies s ≡ true → ⊥
no_reply (ByReply r) k q = absurd cc
no_reply (ByCall c) k q = absurd cc
no_reply (ByMessage ws c m) k q = absurd cc
no_reply (ByAct d) k q = absurd cc

no_promise : (s : Source) → is_other s ≡ true → promises s ≡ true → ⊥
no_promise (ByReply r) k q = absurd cc
no_promise (ByCall c) k q = absurd cc
no_promise (ByMessage ws c m) k q = absurd cc
no_promise (ByAct d) k q = absurd cc

passes : (s : Source) (x : Entry) → is_other s ≡ true → writes s x ≡ true → is_no_reply x ≡ true
passes s (Voted e v) k t = absurd (no_reply s k t)
passes s (PromoteReply e ok) k t = absurd (no_promise s k t)
passes s (OwnerAnswered e x) k t = absurd (no_reply s k t)
passes s (Requested e r) k t = absurd (no_reply s k t)
passes s (Acked e) k t = absurd (no_reply s k t)
passes s _ k t = refl

plain_entry : (s : Source) → is_other s ≡ true → (x : Entry) → writes s x ≡ true → Each is_no_reply (x ∷ [])
plain_entry s k x t = e_one x (passes s x k t)

plain_sent : (c : Conn) (m : Message) → Each is_no_reply (Sent c Down m ∷ [])
plain_sent c m = e_one (Sent c Down m) refl

plain_core_got : (id : ℕ) (k : Coordinated) (c : Conn) (m : Message) → Each is_no_reply (core_got id k c m)
plain_core_got id k c m = of_core_got (plain.lists []) id k c m (λ d n l a. plain_sent d n)

plain_local_got : (t : ℕ) (h : Half) (c : Conn) (m : Message) → Each is_no_reply (local_got t h c m)
unfolding local_got
plain_local_got t h c m = let g = sees h (Got c Down m) in of_arrived plain t g c m (plain_entry (ByMessage g.waits c m) refl)

plain_got : (t : ℕ) (w : World) (c : Conn) (d : Dir) (m : Message) → Each is_no_reply (got_by t w c d m)
plain_got t w c Up m = plain_core_got (identifier_of t) (core w) c m
plain_got t w c Down m = plain_local_got t (half w) c m

plain_ended : (w : World) (c : Conn) (d : Dir) → Each is_no_reply (ended_at w c d)
plain_ended w c Up = of_core_down (plain.lists []) (core w) c (λ e m l o. plain_sent e m)
plain_ended w c Down = of_local_down plain (half w) c

plain_delivered : (t : ℕ) (w : World) (c : Conn) (d : Dir) (ms : List Message) → Each is_no_reply (delivered t w c d ms)
plain_delivered t w c d [] = e_cons (Ended c d) refl (plain_ended w c d)
plain_delivered t w c d (m ∷ ms) = e_cons (Got c d m) refl (plain_got t w c d m)

plain_act : (h : Half) → Each is_no_reply (act_entries h)
plain_act h =
    of_whole_act plain h (plain_entry (ByAct (is_some h.seen.decided)) refl) (λ e. e_one (Asked e Promote) refl) (λ e. e_one (Asked e AskSingle) refl) (e_one Sealed refl)
    (λ m c. e_one (Sent Begin Up m) refl)

plain_called : (t : ℕ) (w : World) (c : Call) (a : Answer) → Each is_no_reply (facts_if (has_facts a) (facts_at t w c a))
plain_called t w c a = of_called plain t w c a (plain_entry (ByCall c) refl) (λ d n m. e_one (Cut d n m) refl) (λ r. e_one (RecoveredEntry r) refl)

plain_append : (k : Coordinated) (a : LogAnswer) → Each is_no_reply (appended k a)
plain_append k Done = e_cons Logged refl (of_commit_sends (plain.lists []) (follow k Logged) (λ c m l o. plain_sent c m))
plain_append k Full = e_cons LogFull refl (of_abort_sends (plain.lists []) (follow k LogFull) (λ c m l o. plain_sent c m))
plain_append k StoppedNow = e_one Stopped refl
plain_append k StoppedBefore = e_one Stopped refl

plain_free : (a : LogAnswer) → Each is_no_reply (freed a)
plain_free Done = e_one Freed refl
plain_free Full = e_none
plain_free StoppedNow = e_one Stopped refl
plain_free StoppedBefore = e_one Stopped refl

plain_restart : (b found : Bool) → Each is_no_reply (restarted b found)
plain_restart true found = e_one (Restarted found) refl
plain_restart false found = e_cons Stopped refl (e_one (Restarted found) refl)

abbrev pub is_replying : Step → Bool
is_replying (Replies e r) = true
is_replying _ = false

plain_block : (t : ℕ) (w : World) (m : Step) → is_replying m ≡ false → Each is_no_reply (block_at t w m)
unfolding block_at
plain_block t w (Calls n a c k) q = e_cons (Called n a (answer_at t w c k)) refl (plain_called t w c (answer_at t w c k))
plain_block t w (Replies e r) q = absurd cc
plain_block t w Acts q = plain_act (half w)
plain_block t w (Coordinates a) q = e_if (may_log (core w)) (plain_append (core w) a) (plain_free a)
plain_block t w (Delivers c d) q = plain_delivered t w c d (in_transit c d w.past)
plain_block t w Stops q = e_one Stopped refl
plain_block t w (Restarts found) q = plain_restart (core w).stopped found

-- No other step writes a reply.
pub plain_written : (up : Bool) (t : ℕ) (w : World) (m : Step) → is_replying m ≡ false → each is_no_reply (written up t w m) ≡ true
plain_written up t w m q = by (sends_begin t w m && not up)
  where
    by : (b : Bool) → each is_no_reply (if b then block_at t w m ++ Stopped ∷ [] else block_at t w m) ≡ true
    by true = (e_join (plain_block t w m q) (e_one Stopped refl)).proof
    by false = (plain_block t w m q).proof

-- The block of a reply that fits the note to which it is due.
record IsFirst (h : Half) (e : EnlNo) (n : Note) (r : Reply) : Type 0 where
  entry : Entry
  rest : List Entry
  block : reply_entries h e r ≡ entry ∷ rest
  note : (volatile : ℕ → Bool) → note_shown volatile entry ≡ Some (e, n)
  is : is_reply entry ≡ true
  shows : Shows entry r
  others : Each is_no_reply rest

plain_up : (o : Observed) (c : Conn) (m : Message) → Each is_no_reply (to_up o c m)
plain_up o c m = e_if (knows c o.ends) (e_one (Sent c Up m) refl) e_none

plain_ack : (o : Observed) (c : Option Conn) → Each is_no_reply (ack_on o c)
plain_ack o (Some Begin) = e_none
plain_ack o (Some Voter) = e_none
plain_ack o (Some (Enl e)) = plain_up o (Enl e) EnlistAck
plain_ack o (Some (Again e)) = plain_up o (Again e) ReenlistAck
plain_ack o None = e_none

first : (h : Half) (e : EnlNo) (n : Note) (r : Reply) → due_of h.seen e.value ≡ Some n → fits r n ≡ true → IsFirst h e n r
unfolding reply_entries
first h e PrepareNote (VoteReply v) d k =
    let g = sees h (Voted e v) in
    record {
      entry = Voted e v;
      rest = voted_by g e v;
      block = refl;
      note = λ volatile. refl;
      is = refl;
      shows = refl;
      others = e_if (is_volatile_row g.seen e.value) (of_veto_if plain (is_no v) g) (plain_up g.seen (Enl e) (vote_message v));
    }
first h e PromoteNote (Promotes true) d k =
    record { entry = PromoteReply e true; rest = Sent Begin Up BeginBegin ∷ []; block = refl; note = λ volatile. refl; is = refl; shows = refl; others = e_one (Sent Begin Up BeginBegin) refl }
first h e PromoteNote (Promotes false) d k =
    record { entry = PromoteReply e false; rest = _; block = refl; note = λ volatile. refl; is = refl; shows = refl; others = of_veto plain (sees h (PromoteReply e false)) }
first h e Hand (OwnerReply x) d k =
    record {
      entry = OwnerAnswered e x;
      rest = answered_by h e x;
      block = ap (owner_entries h e x) d;
      note = λ volatile. refl;
      is = refl;
      shows = refl;
      others = e_if h.seen.promoted (plain_up h.seen (Enl e) (one_message x)) (plain.decides h x);
    }
first h e Single (OwnerReply x) d k =
    record {
      entry = Requested e (request_of x);
      rest = to_up h.seen Begin (request_message x);
      block = ap (owner_entries h e x) d;
      note = λ volatile. refl;
      is = refl;
      shows = refl;
      others = plain_up h.seen Begin (request_message x);
    }
first h e CommitNote Ack d k =
    record { entry = Acked e; rest = ack_on h.seen (conn_due h.seen e.value); block = refl; note = λ volatile. refl; is = refl; shows = refl; others = plain_ack h.seen (conn_due h.seen e.value) }
first h e n (VoteReply v) d k = absurd cc
first h e n (Promotes ok) d k = absurd cc
first h e n (OwnerReply x) d k = absurd cc
first h e n Ack d k = absurd cc

-- The reply is the given or the planned one.
reply_of : (s : List Line) (w : World) (e : EnlNo) (n : Note) (r : Reply) (given : Option (EnlNo × Reply)) → due_of (half w).seen e.value ≡ Some n → planned (plan_of w.calls e.value) n ≡ planned (plans_of s e.value) n
    → IsGiven given w (Replies e r) → IsReplyOf (plans_of s) e n given r
reply_of s w e n r (Some x) due same is =
    let number : e ≡ x.0 = cc in
    let reply : r ≡ x.1 = cc in
    λ i. (sym number i, sym reply i)
reply_of s w e n r None due same (m, there, plan) =
    let note : m ≡ n = cc in
    sym same ∙ subst (λ (q : Note). planned (plan_of w.calls e.value) q ≡ Some r) note plan

replied : (s : List Line) (up : Bool) (t : ℕ) (w : World) (e : EnlNo) (n : Note) (r : Reply) (given : Option (EnlNo × Reply)) → IsFirst (half w) e n r → IsReplyOf (plans_of s) e n given r → IsRepliedIn s e n given (written up t w (Replies e r))
unfolding block_at
replied s up t w e n r given f g = by (sends_begin t w (Replies e r) && not up)
  where
    by : (b : Bool) → IsRepliedIn s e n given (if b then reply_entries (half w) e r ++ Stopped ∷ [] else reply_entries (half w) e r)
    by true = record {
      entry = f.entry;
      rest = f.rest ++ Stopped ∷ [];
      reply = r;
      block = ap (λ (es : List Entry). es ++ Stopped ∷ []) f.block;
      note = f.note;
      is = f.is;
      shows = f.shows;
      taken = g;
      others = (e_join f.others (e_one Stopped refl)).proof;
    }
    by false = record { entry = f.entry; rest = f.rest; reply = r; block = f.block; note = f.note; is = f.is; shows = f.shows; taken = g; others = f.others.proof }

-- So it is for each pending step that is done.
pub block_of : (s : List Line) (t : ℕ) (w : World) (k : ℕ) (up : Bool) (name : StepName) (m : Step) (given : Option (EnlNo × Reply)) → kth (pending w) k ≡ Some name → IsNamed w name m → IsGiven given w m
    → ((e : ℕ) (n : Note) → due_of (half w).seen e ≡ Some n → planned (plan_of w.calls e) n ≡ planned (plans_of s e) n) → IsBlockOf s (reply_in w (kth (pending w) k)) given (written up t w m)
block_of s t w k up name m given stands named reply plan = subst (λ (o : Option StepName). IsBlockOf s (reply_in w o) given (written up t w m)) (sym stands) (by name m named reply)
  where
    other : (q m : Step) → m ≡ q → is_replying q ≡ false → each is_no_reply (written up t w m) ≡ true
    other q m is none = plain_written up t w m (ap is_replying is ∙ none)

    by : (name : StepName) (m : Step) → IsNamed w name m → IsGiven given w m → IsBlockOf s (reply_in w (Some name)) given (written up t w m)
    by (ReplyOf e) m (r, n, due, fit, is) reply =
        let here : IsGiven given w (Replies e r) = subst (λ (q : Step). IsGiven given w q) is reply in
        subst (λ (q : Step). IsBlockOf s (with_note e (due_of (half w).seen e.value)) given (written up t w q)) (sym is)
        (subst (λ (o : Option Note). IsBlockOf s (with_note e o) given (written up t w (Replies e r))) (sym due)
        (replied s up t w e n r given (first (half w) e n r due fit) (reply_of s w e n r given due (plan e.value n due) here)))
    by LocalAct m is reply = other Acts m is refl
    by CoordinatorAct m (a, may, is) reply = other (Coordinates a) m is refl
    by (Delivery c d) m is reply = other (Delivers c d) m is refl

pub step_block : {D : Type 0} (faults : D → ℕ) (honest : Bool) (image : D → List ℕ → Type 0) (a : StepOf D) (at : IsStep faults honest image a)
    → IsBlockOf a.run.script (reply_in (was a).world (kth (pending (was a).world) a.k)) a.given (wrote faults honest a (did_step faults honest image a at))
step_block faults honest image a at =
    let d = did_step faults honest image a at in
    block_of a.run.script a.t.value (was a).world a.k a.from.is_up d.does.name d.does.step a.given d.does.stands d.does.named d.does.reply
    (λ e n due. planned_here a.run.script a.t.value (was a).world e n at.names d.tied.given d.own.run due)

-- What stands at the log and at contexts, and that the log stopped or was opened again, shows no note.
heard_put : (s : List Line) (o : Of) (f : TxNo → Entry) → ((volatile : ℕ → Bool) (t : TxNo) → note_shown volatile (f t) ≡ None) → (ts : List TxNo) (T : List Placed) → heard s o (put_at f ts T) ≡ heard s o T
heard_put s o f none [] T = refl
heard_put s o f none (t ∷ ts) T =
    heard_put s o f none ts ((Transaction t, f t) ∷ T) ∙ ap (λ m. put (heard_if (answers s o) t (f t) m) (heard s o T)) (none (is_volatile_in s) t)

pub heard_noted : (s : List Line) (o : Of) (a : ActorNo) (es : List Entry) (T : List Placed) → heard s o (onto T (noted a es)) ≡ heard s o T
heard_noted s o a [] T = refl
heard_noted s o a (x ∷ es) T = heard_noted s o a es ((Context a, x) ∷ T)

pub heard_stops : (s : List Line) (o : Of) (ts : List TxNo) (T : List Placed) → heard s o (put_at (λ t. Stopped) ts T) ≡ heard s o T
heard_stops s o ts T = heard_put s o (λ t. Stopped) (λ volatile t. refl) ts T

heard_halt : (s : List Line) (o : Of) (n : ℕ) (a : ActorNo) (x : Answer) (T : List Placed) → heard s o (after_halt n a x T) ≡ heard s o T
heard_halt s o n a x T = by (is_log_up T)
  where
    by : (b : Bool) → heard s o (stopped_by_restart b (at_the_log (Called n a x) T)) ≡ heard s o T
    by true = heard_stops s o (hit (at_the_log (Called n a x) T)) (at_the_log Stopped (at_the_log (Called n a x) T))
    by false = refl

pub heard_restart : (s : List Line) (o : Of) (n : ℕ) (a : ActorNo) (x : Reopening) (T : List Placed) → heard s o (after_restart n a x T) ≡ heard s o T
heard_restart s o n a (Opens found m) T =
    heard_put s o (λ t. Restarted (found t.value)) (λ volatile t. refl) (known (after_halt n a Fine T)) (at_the_log (LogWord (Opened m)) (after_halt n a Fine T)) ∙ heard_halt s o n a Fine T
heard_restart s o n a Faults T = heard_halt s o n a Fault T
heard_restart s o n a (Differs p) T = heard_halt s o n a (NotALog p) T
