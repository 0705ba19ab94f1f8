-- The coordinator knows of a transaction, and stops there, only once BEGIN was sent.
use Rattle.std.proofs.Common.{Bool, ◌||◌, true, false, ◌≡◌, ◌&&◌, List, [], ◌∷◌, refl, ℕ, is_some, ◌⊎◌, inl, inr, ◌∙◌, ap, sym, subst, not}
use Rattle.std.proofs.lemmas.Bool.{or_left}
use Rattle.dtx_values.specs.declared.call.Call.{Call}
use Rattle.dtx_values.specs.declared.entry.Answer.{Answer}
use Rattle.dtx_values.specs.declared.entry.Ask.TheVariants.{Promote, Single as AskSingle}
use Rattle.dtx_values.specs.declared.entry.Entry.{Entry}
use Rattle.dtx_values.specs.declared.entry.Entry.TheVariants.{Got, Logged, Restarted, Stopped, Freed, Sent, Asked, Sealed, Cut, Recovered as RecoveredEntry, Down as Ended, Called}
use Rattle.dtx_values.specs.declared.message.Conn.{Conn}
use Rattle.dtx_values.specs.declared.message.Conn.TheVariants.{Begin, Voter, Enl, Again}
use Rattle.dtx_values.specs.declared.message.Dir.{Dir}
use Rattle.dtx_values.specs.declared.message.Dir.TheVariants.{Up, Down}
use Rattle.dtx_values.specs.declared.message.Message.{Message}
use Rattle.dtx_values.specs.declared.message.Message.TheVariants.{BeginBegin}
use Rattle.dtx_values.specs.declared.note.Reply.{Reply}
use Rattle.dtx_values.specs.declared.number.ActorNo.{ActorNo}
use Rattle.dtx_values.specs.declared.number.EnlNo.{EnlNo}
use Rattle.dtx_values.specs.Lines.{has_line}
use Rattle.dtx_model.specs.Words.{each, has}
use Rattle.dtx_model.specs.Promotes.{identifier_of}
use Rattle.dtx_model.specs.Wires.{in_transit}
use Rattle.dtx_model.specs.Coordinated.{Coordinated, is_active, is_recorded, follow, follow_all, stage_after, core_got, is_ready, may_log, is_finished, is_prepared, may_free, coordinate}
use Rattle.dtx_model.specs.Half.{Half, sees}
use Rattle.dtx_model.specs.Arrivals.{local_got}
use Rattle.dtx_model.specs.Acts.{act_entries}
use Rattle.dtx_model.specs.Replies.{reply_entries}
use Rattle.dtx_model.specs.Facts.{facts_if, has_facts}
use Rattle.dtx_model.specs.World.{World, core, half, facts_at, answer_at}
use Rattle.dtx_model.specs.Steps.{ended_at, Step, after, block_at, delivered, LogAnswer, Calls, Replies, Acts, Coordinates, Delivers, Stops, Restarts}
use Rattle.dtx_model.specs.Caused.{is_begin_sent, is_full_answer, may_coordinate, MayCome, Ran, IsRun}
use Rattle.dtx_model.proofs.Blocks.{of_core_got, of_arrived, of_core_down, of_local_down, of_whole_act, of_reply, of_called}
use Rattle.dtx_model.proofs.Bools.{or_right, and_left, and_right, or_case, not_both}
use Rattle.dtx_model.proofs.Heeding.{core_behind}
use Rattle.dtx_model.proofs.Reading.{has-onto}
use Rattle.dtx_model.proofs.Writes.{Each, IsClosed, each_closed, Source, e_one, writes, is_outcome_message, ByMessage, ByAct, ByReply, ByCall, e_cons}
use Rattle.history_table.proofs.Crossed.{is_sent_on, came}
use Rattle.history_table.proofs.CoreStages.{is_marking, stage_step}
use Rattle.history_table.proofs.Table.{is_opening_got}
use Rattle.history_table.proofs.Messages.{BEGIN}
use Rattle.history_table.proofs.Scans.{has_more}

-- the coordinator decides on the transaction, or has its record, or is stopped
abbrev knows : Coordinated → Bool
knows k = is_active k.stage || is_recorded k.stage || k.stopped

-- an entry by which it doesn't come to that
abbrev is_mild : Entry → Bool
is_mild (Got Begin Up BeginBegin) = false
is_mild Logged = false
is_mild Stopped = false
is_mild (Restarted found) = false
is_mild _ = true

opening_wild : (x : Entry) → is_opening_got Begin x ≡ true → is_mild x ≡ true → ⊥
opening_wild (Got Begin Up BeginBegin) o m = absurd cc
opening_wild (Got c Up n) o m = absurd cc
opening_wild _ o m = absurd cc

stage_same : (k : Coordinated) (x : Entry) → is_marking x ≡ false → is_mild x ≡ true → (is_active (stage_after k x) || is_recorded (stage_after k x) || k.stopped) ≡ true
    → (is_active k.stage || is_recorded k.stage || k.stopped) ≡ true
stage_same k x n m =
    stage_step (λ s. (is_active s || is_recorded s || k.stopped) ≡ true → (is_active k.stage || is_recorded k.stage || k.stopped) ≡ true) k x n
    (record {
      stays = λ u. u;
      begun = λ o q u. absurd (opening_wild x o m);
      aborted = λ q u. or_right (is_active k.stage || is_recorded k.stage) k.stopped u;
      alone = λ a o q u. or_right (is_active k.stage || is_recorded k.stage) k.stopped u;
      several = λ a o q u. or_right (is_active k.stage || is_recorded k.stage) k.stopped u;
      lets = λ a q u. or_right (is_active k.stage || is_recorded k.stage) k.stopped u;
      answers = λ e q u. or_right (is_active k.stage || is_recorded k.stage) k.stopped u;
      refuses = λ e r q u. or_right (is_active k.stage || is_recorded k.stage) k.stopped u;
    })

mild_knows : (k : Coordinated) (x : Entry) → is_mild x ≡ true → knows (follow k x) ≡ true → knows k ≡ true
unfolding follow
mild_knows k (Got Begin Up BeginBegin) m e = absurd cc
mild_knows k Logged m e = absurd cc
mild_knows k Stopped m e = absurd cc
mild_knows k (Restarted found) m e = absurd cc
mild_knows k Freed m e = or_right (is_active k.stage || is_recorded k.stage) k.stopped e
mild_knows k x m e = stage_same k x refl m e

block_knows : (k : Coordinated) (es : List Entry) → each is_mild es ≡ true → knows (follow_all k es) ≡ true → knows k ≡ true
unfolding follow_all
block_knows k [] m e = e
block_knows k (x ∷ es) m e =
    mild_knows k x (and_left (is_mild x) (each is_mild es) m) (block_knows (follow k x) es (and_right (is_mild x) (each is_mild es) m) e)

-- The blocks of such entries.
mild : IsClosed (λ ws es. Each is_mild es)
mild = each_closed is_mild refl (λ x. refl) (λ n x. refl) refl refl

mild_entry : (s : Source) (x : Entry) → writes s x ≡ true → Each is_mild (x ∷ [])
mild_entry s x t = e_one x (passes x t)
  where
    passes : (x : Entry) → writes s x ≡ true → is_mild x ≡ true
    passes (Got c d m) t = absurd cc
    passes Logged t = absurd cc
    passes Stopped t = absurd cc
    passes (Restarted found) t = absurd cc
    passes _ t = refl

mild_sent : (c : Conn) (m : Message) → has_line c Down m ≡ true → is_outcome_message m ≡ true → Each is_mild (Sent c Down m ∷ [])
mild_sent c m l o = e_one (Sent c Down m) refl

mild_core_got : (id : ℕ) (k : Coordinated) (c : Conn) (m : Message) → Each is_mild (core_got id k c m)
mild_core_got id k c m = of_core_got (mild.lists []) id k c m (λ d n l a. e_one (Sent d Down n) refl)

mild_local_got : (t : ℕ) (h : Half) (c : Conn) (m : Message) → Each is_mild (local_got t h c m)
unfolding local_got
mild_local_got t h c m = let g = sees h (Got c Down m) in of_arrived mild t g c m (mild_entry (ByMessage g.waits c m))

mild_ended_at : (w : World) (c : Conn) (d : Dir) → Each is_mild (ended_at w c d)
mild_ended_at w c Up = of_core_down (mild.lists []) (core w) c mild_sent
mild_ended_at w c Down = of_local_down mild (half w) c

mild_act : (h : Half) → Each is_mild (act_entries h)
mild_act h =
    of_whole_act mild h (mild_entry (ByAct (is_some h.seen.decided))) (λ e. e_one (Asked e Promote) refl) (λ e. e_one (Asked e AskSingle) refl) (e_one Sealed refl)
    (λ m q. e_one (Sent Begin Up m) refl)

mild_reply : (h : Half) (e : EnlNo) (r : Reply) → Each is_mild (reply_entries h e r)
mild_reply h e r = of_reply mild h e r (mild_entry (ByReply r))

mild_called : (t : ℕ) (w : World) (c : Call) (a : Answer) → Each is_mild (facts_if (has_facts a) (facts_at t w c a))
mild_called t w c a = of_called mild t w c a (mild_entry (ByCall c)) (λ d n m. e_one (Cut d n m) refl) (λ r. e_one (RecoveredEntry r) refl)

got_mild : (c : Conn) (m : Message) → (is_mild (Got c Up m) ≡ true) ⊎ ((c ≡ Begin) × (m ≡ BeginBegin))
got_mild Begin BeginBegin = inr (refl, refl)
got_mild Begin _ = inl refl
got_mild Voter m = inl refl
got_mild (Enl e) m = inl refl
got_mild (Again e) m = inl refl

down_mild : (c : Conn) (m : Message) → is_mild (Got c Down m) ≡ true
down_mild Begin m = refl
down_mild Voter m = refl
down_mild (Enl e) m = refl
down_mild (Again e) m = refl

sent_begin : (x : Entry) → is_sent_on Begin Up BEGIN x ≡ true → is_begin_sent x ≡ true
sent_begin (Sent Begin Up BeginBegin) s = refl
sent_begin (Sent Begin Up _) s = absurd cc
sent_begin (Sent Begin Down m) s = absurd cc
sent_begin (Sent Voter d m) s = absurd cc
sent_begin (Sent (Enl e) d m) s = absurd cc
sent_begin (Sent (Again e) d m) s = absurd cc
sent_begin _ s = absurd cc

-- a step after which the coordinator knows of the transaction was one of a transaction that had sent BEGIN, or doesn't let it know
abbrev IsBegun : World → Type 0
IsBegun w = knows (core w) ≡ true → has is_begin_sent w.past ≡ true

still_begun : (t : ℕ) (w : World) (m : Step) → has is_begin_sent w.past ≡ true → has is_begin_sent (after t w m).past ≡ true
unfolding after
still_begun t w m b = has-onto is_begin_sent w.past (block_at t w m) ∙ or_right (has is_begin_sent (block_at t w m)) (has is_begin_sent w.past) b

mild_begun : (t : ℕ) (w : World) (m : Step) → Each is_mild (block_at t w m) → IsBegun w → IsBegun (after t w m)
mild_begun t w m mild before k =
    still_begun t w m (before (block_knows (core w) (block_at t w m) mild.proof (ap knows (sym (core_behind t w m)) ∙ k)))

come_begun : (t : ℕ) (w : World) (c : Conn) (ms : List Message) → in_transit c Up w.past ≡ ms → (m : Step) → block_at t w m ≡ delivered t w c Up ms → IsBegun w → IsBegun (after t w m)
come_begun t w c [] way m block before =
    mild_begun t w m (subst (λ es. Each is_mild es) (sym block) (e_cons (Ended c Up) refl (mild_ended_at w c Up))) before
come_begun t w c (x ∷ ms) way m block before = by (got_mild c x)
  where
    by : (is_mild (Got c Up x) ≡ true) ⊎ ((c ≡ Begin) × (x ≡ BeginBegin)) → IsBegun (after t w m)
    by (inl mild) =
        mild_begun t w m (subst (λ es. Each is_mild es) (sym block) (e_cons (Got c Up x) mild (mild_core_got (identifier_of t) (core w) c x))) before
    by (inr (on, begin)) = λ k.
        still_begun t w m
        (has_more (is_sent_on Begin Up BEGIN) is_begin_sent sent_begin w.past
        (came Begin Up BEGIN w.past
        (ap (λ y. has BEGIN (in_transit y Up w.past)) (sym on) ∙ ap (has BEGIN) way ∙ or_left (BEGIN x) (has BEGIN ms) (ap BEGIN begin))))

logs : (k : Coordinated) → may_log k ≡ true → is_active k.stage ≡ true
unfolding may_log
logs k l =
    let ready = each (λ d. is_ready d.ballot) k.desks in
    and_right (not k.stopped) (is_active k.stage)
    (and_left (not k.stopped && is_active k.stage) k.commit (and_left (not k.stopped && is_active k.stage && k.commit) k.yes (and_left (not k.stopped && is_active k.stage && k.commit && k.yes) ready l)))

frees : (k : Coordinated) → may_free k ≡ true → is_recorded k.stage ≡ true
unfolding may_free
frees k f =
    let finished = each (λ d. not (is_prepared d.ballot) || is_finished k.recovered d) k.desks in
    and_right (not k.stopped) (is_recorded k.stage) (and_left (not k.stopped && is_recorded k.stage) finished f)

pub named_knows : (k : Coordinated) (a : LogAnswer) → may_coordinate k a ≡ true → knows k ≡ true
named_knows k a e =
    or_case (may_log k) (may_free k && not (is_full_answer a)) (λ l. or_left (is_active k.stage || is_recorded k.stage) k.stopped (or_left (is_active k.stage) (is_recorded k.stage) (logs k l)))
    (λ f. or_left (is_active k.stage || is_recorded k.stage) k.stopped (or_right (is_active k.stage) (is_recorded k.stage) (frees k (and_left (may_free k) (not (is_full_answer a)) f)))) e

step_begun : (G : ℕ → ActorNo → Call → Type 0) (t : ℕ) (w : World) (m : Step) → MayCome G t w m → IsBegun w → IsBegun (after t w m)
unfolding block_at
step_begun G t w (Calls n a c d) q b =
    mild_begun t w (Calls n a c d) (e_cons (Called n a (answer_at t w c d)) refl (mild_called t w c (answer_at t w c d))) b
step_begun G t w (Replies e r) q b = mild_begun t w (Replies e r) (mild_reply (half w) e r) b
step_begun G t w Acts q b = mild_begun t w Acts (mild_act (half w)) b
step_begun G t w (Coordinates a) q b = λ k. still_begun t w (Coordinates a) (b (named_knows (core w) a q))
step_begun G t w (Delivers c Up) q b = come_begun t w c (in_transit c Up w.past) refl (Delivers c Up) refl b
step_begun G t w (Delivers c Down) q b = by (in_transit c Down w.past) refl
  where
    by : (ms : List Message) → in_transit c Down w.past ≡ ms → IsBegun (after t w (Delivers c Down))
    by [] way = mild_begun t w (Delivers c Down) (subst (λ ns. Each is_mild (delivered t w c Down ns)) (sym way) (e_cons (Ended c Down) refl (mild_ended_at w c Down))) b
    by (x ∷ ms) way =
        mild_begun t w (Delivers c Down) (subst (λ ns. Each is_mild (delivered t w c Down ns)) (sym way) (e_cons (Got c Down x) (down_mild c x) (mild_local_got t (half w) c x))) b
step_begun G t w Stops q b = λ k. still_begun t w Stops (and_left (has is_begin_sent w.past) (not (core w).stopped) q)
step_begun G t w (Restarts found) q b = λ k. still_begun t w (Restarts found) q

pub ran_begun : (G : ℕ → ActorNo → Call → Type 0) (t : ℕ) (ms : List Step) (w : World) → Ran G t ms w → IsBegun w
unfolding coordinate
ran_begun G t [] w r = λ k. absurd (not_both (knows (core w)) k (ap (λ h. knows (coordinate h)) r.1))
ran_begun G t (m ∷ ms) w r = subst IsBegun (sym r.3) (step_begun G t r.0 m r.2 (ran_begun G t ms r.0 r.1))

-- a coordinator stands stopped only where BEGIN was sent,
pub stopped_begun : (G : ℕ → ActorNo → Call → Type 0) (t : ℕ) (w : World) → IsRun G t w → (core w).stopped ≡ true → has is_begin_sent w.past ≡ true
stopped_begun G t w r s = ran_begun G t r.0 w r.1 (or_right (is_active (core w).stage || is_recorded (core w).stage) (core w).stopped s)

-- has a record only there,
pub recorded_begun : (G : ℕ → ActorNo → Call → Type 0) (t : ℕ) (w : World) → IsRun G t w → is_recorded (core w).stage ≡ true → has is_begin_sent w.past ≡ true
recorded_begun G t w r s =
    ran_begun G t r.0 w r.1 (or_left (is_active (core w).stage || is_recorded (core w).stage) (core w).stopped (or_right (is_active (core w).stage) (is_recorded (core w).stage) s))
