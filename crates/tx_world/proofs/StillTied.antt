-- Which steps write entries of the log: the coordinator's act there, a stop and a restart; and what restarts found stays tied to what was appended in each step but a restart.
use Rattle.std.proofs.Common.{◌≡◌, ℕ, zero, suc, Bool, true, false, ◌&&◌, not, List, [], ◌∷◌, Result, Ok, Err, OnOk, OnErr, refl, ap, sym, subst, if◌then◌else◌}
use Rattle.dtx_values.specs.declared.call.Call.{Call}
use Rattle.dtx_values.specs.TxIds.{number_of}
use Rattle.dtx_values.specs.declared.entry.Answer.{Answer}
use Rattle.dtx_values.specs.declared.entry.Ask.TheVariants.{Promote, Single as AskSingle}
use Rattle.dtx_values.specs.declared.entry.Entry.{Entry}
use Rattle.dtx_values.specs.declared.entry.Entry.TheVariants.{Asked, Called, Cut, Down as Ended, Freed, Got, Logged, Recovered as RecoveredEntry, Restarted, Sealed, Sent, Stopped}
use Rattle.dtx_values.specs.declared.message.Conn.{Conn}
use Rattle.dtx_values.specs.declared.message.Conn.TheVariants.{Begin}
use Rattle.dtx_values.specs.declared.message.Dir.{Dir}
use Rattle.dtx_values.specs.declared.message.Dir.TheVariants.{Up, Down}
use Rattle.dtx_values.specs.declared.message.Message.{Message}
use Rattle.dtx_values.specs.declared.note.Reply.{Reply}
use Rattle.dtx_values.specs.declared.number.EnlNo.{EnlNo}
use Rattle.dtx_values.specs.Lines.{has_line}
use Rattle.dtx_model.specs.Words.{each, onto}
use Rattle.dtx_model.specs.Tied.{is_tied, tied}
use Rattle.dtx_model.specs.Promotes.{identifier_of}
use Rattle.dtx_model.specs.Wires.{in_transit}
use Rattle.dtx_model.specs.Coordinated.{Coordinated, core_got}
use Rattle.dtx_model.specs.Half.{Half, sees}
use Rattle.dtx_model.specs.Arrivals.{local_got}
use Rattle.dtx_model.specs.Acts.{act_entries}
use Rattle.dtx_model.specs.Replies.{reply_entries}
use Rattle.dtx_model.specs.Facts.{facts_if, has_facts}
use Rattle.dtx_model.specs.World.{World, answer_at, core, facts_at, half}
use Rattle.dtx_model.specs.Steps.{Step, Calls, Replies, Acts, Coordinates, Delivers, Stops, Restarts, StepName, ReplyOf, LocalAct, CoordinatorAct, Delivery, after, block_at, coordinates, delivered, ended_at}
use Rattle.dtx_model.specs.Caused.{IsNamed}
use Rattle.dtx_model.proofs.Bools.{and_both, and_left, and_right}
use Rattle.dtx_model.proofs.Writes.{Each, e_cons, e_one, IsClosed, each_closed, Source, ByCall, ByReply, ByMessage, ByAct, writes, is_outcome_message}
use Rattle.dtx_model.proofs.Blocks.{of_act, of_arrived, of_called, of_commit_sent, of_core_down, of_core_got, of_local_down, of_reply}
use Rattle.history_table.proofs.Scans.{each_more}
use Rattle.history_table.proofs.QuietBlocks.{is_quiet, q_coordinates}
use Rattle.std.specs.Prelude.{is_some}
use Rattle.coordinator_log.specs.State.{LogState}
use Rattle.tx_world.specs.State.{TxState, sends_begin, turned}
use Rattle.tx_world.specs.OwnCalls.{DoesAlone, DoesKthAlone}
use Rattle.tx_world.specs.Stepping.{DoesAt, DoesKth, IsKeptAfter, Stepped}
use Rattle.world_parts.proofs.Keeping.{is_elsewhere}

-- the blocks of calls, replies, deliveries and the local act have no entry of the log
elsewhere : IsClosed (λ ws es. Each is_elsewhere es)
elsewhere = each_closed is_elsewhere refl (λ x. refl) (λ n x. refl) refl refl

elsewhere_one : (s : Source) (x : Entry) → writes s x ≡ true → Each is_elsewhere (x ∷ [])
elsewhere_one s x t = e_one x (by x t)
  where
    by : (y : Entry) → writes s y ≡ true → is_elsewhere y ≡ true
    by Logged t = absurd cc
    by Freed t = absurd cc
    by Stopped t = absurd cc
    by (Restarted found) t = absurd cc
    by _ t = refl

elsewhere_sent : (c : Conn) (m : Message) → has_line c Down m ≡ true → is_outcome_message m ≡ true → Each is_elsewhere (Sent c Down m ∷ [])
elsewhere_sent c m l o = e_one (Sent c Down m) refl

elsewhere_called : (t : ℕ) (w : World) (c : Call) (a : Answer) → Each is_elsewhere (facts_if (has_facts a) (facts_at t w c a))
elsewhere_called t w c a = of_called elsewhere t w c a (elsewhere_one (ByCall c)) (λ d n m. e_one (Cut d n m) refl) (λ r. e_one (RecoveredEntry r) refl)

elsewhere_reply : (h : Half) (e : EnlNo) (r : Reply) → Each is_elsewhere (reply_entries h e r)
elsewhere_reply h e r = of_reply elsewhere h e r (elsewhere_one (ByReply r))

elsewhere_act : (h : Half) → Each is_elsewhere (act_entries h)
elsewhere_act h =
    of_act elsewhere (λ es. Each is_elsewhere es) h (elsewhere_one (ByAct (is_some h.seen.decided)))
    (record {
      rest = λ es q. q;
      promote = λ e d w s. e_one (Asked e Promote) refl;
      single = λ e d s p q. e_one (Asked e AskSingle) refl;
      seal = λ d s u. e_cons Sealed refl (of_commit_sent elsewhere [] h.seen (λ m c. e_one (Sent Begin Up m) refl));
    })

elsewhere_down : (t : ℕ) (h : Half) (c : Conn) (m : Message) → Each is_elsewhere (local_got t h c m)
unfolding local_got
elsewhere_down t h c m = let g = sees h (Got c Down m) in of_arrived elsewhere t g c m (elsewhere_one (ByMessage g.waits c m))

elsewhere_up : (id : ℕ) (k : Coordinated) (c : Conn) (m : Message) → Each is_elsewhere (core_got id k c m)
elsewhere_up id k c m = of_core_got (elsewhere.lists []) id k c m (λ d n l a. e_one (Sent d Down n) refl)

elsewhere_ended : (w : World) (c : Conn) (d : Dir) → Each is_elsewhere (ended_at w c d)
elsewhere_ended w c Up = of_core_down (elsewhere.lists []) (core w) c elsewhere_sent
elsewhere_ended w c Down = of_local_down elsewhere (half w) c

elsewhere_delivered : (t : ℕ) (w : World) (c : Conn) (d : Dir) (ms : List Message) → Each is_elsewhere (delivered t w c d ms)
elsewhere_delivered t w c d [] = e_cons (Ended c d) refl (elsewhere_ended w c d)
elsewhere_delivered t w c Up (m ∷ ms) = e_cons (Got c Up m) refl (elsewhere_up (identifier_of t) (core w) c m)
elsewhere_delivered t w c Down (m ∷ ms) = e_cons (Got c Down m) refl (elsewhere_down t (half w) c m)

-- the step is neither the coordinator's at the log, nor a stop, nor a restart
abbrev pub is_apart : Step → Bool
is_apart (Coordinates a) = false
is_apart Stops = false
is_apart (Restarts found) = false
is_apart _ = true

-- such a step keeps the record that is kept, and how sure that is
pub apart_kept : (m : Step) (old new : TxState) → is_apart m ≡ true → (new.ours ≡ old.ours) × (new.unsure ≡ old.unsure) → IsKeptAfter old new m
apart_kept (Coordinates a) old new i same = absurd cc
apart_kept m old new i same = same

pub kept_apart : (m : Step) (old new : TxState) → is_apart m ≡ true → IsKeptAfter old new m → new.ours ≡ old.ours
kept_apart (Coordinates a) old new i kept = absurd cc
kept_apart m old new i kept = kept.0

-- the step is a restart
abbrev pub is_restarting : Step → Bool
is_restarting (Restarts found) = true
is_restarting _ = false

pub block_elsewhere : (t : ℕ) (w : World) (m : Step) → is_apart m ≡ true → each is_elsewhere (block_at t w m) ≡ true
unfolding block_at
block_elsewhere t w (Calls n a c m) i = (e_cons (Called n a (answer_at t w c m)) refl (elsewhere_called t w c (answer_at t w c m))).proof
block_elsewhere t w (Replies e r) i = (elsewhere_reply (half w) e r).proof
block_elsewhere t w Acts i = (elsewhere_act (half w)).proof
block_elsewhere t w (Coordinates a) i = absurd cc
block_elsewhere t w (Delivers c d) i = (elsewhere_delivered t w c d (in_transit c d w.past)).proof
block_elsewhere t w Stops i = absurd cc
block_elsewhere t w (Restarts found) i = absurd cc

-- an entry that is no restart is tied to each history
abbrev pub is_other : Entry → Bool
is_other (Restarted found) = false
is_other _ = true

elsewhere_other : (x : Entry) → is_elsewhere x ≡ true → is_other x ≡ true
elsewhere_other (Restarted found) i = absurd cc
elsewhere_other _ i = refl

quiet_other : (x : Entry) → is_quiet x ≡ true → is_other x ≡ true
quiet_other (Restarted found) i = absurd cc
quiet_other _ i = refl

other_tied : (x : Entry) (h : List Entry) → is_other x ≡ true → is_tied h x ≡ true
other_tied (Restarted found) h i = absurd cc
other_tied _ h i = refl

tied_onto : (h es : List Entry) → each is_other es ≡ true → tied h ≡ true → tied (onto h es) ≡ true
tied_onto h [] i d = d
tied_onto h (x ∷ es) i d =
    tied_onto (x ∷ h) es (and_right (is_other x) (each is_other es) i) (and_both (is_tied h x) (tied h) (other_tied x h (and_left (is_other x) (each is_other es) i)) d)

others : (t : ℕ) (w : World) (m : Step) → is_restarting m ≡ false → each is_other (block_at t w m) ≡ true
unfolding block_at
others t w (Coordinates a) i = each_more is_quiet is_other quiet_other (coordinates (core w) a) (q_coordinates (core w) a).proof
others t w Stops i = refl
others t w (Restarts found) i = absurd cc
others t w (Calls n a c m) i = each_more is_elsewhere is_other elsewhere_other (block_at t w (Calls n a c m)) (block_elsewhere t w (Calls n a c m) refl)
others t w (Replies e r) i = each_more is_elsewhere is_other elsewhere_other (block_at t w (Replies e r)) (block_elsewhere t w (Replies e r) refl)
others t w Acts i = each_more is_elsewhere is_other elsewhere_other (block_at t w Acts) (block_elsewhere t w Acts refl)
others t w (Delivers c d) i = each_more is_elsewhere is_other elsewhere_other (block_at t w (Delivers c d)) (block_elsewhere t w (Delivers c d) refl)

-- What restarts found stays tied to what was appended in each step but a restart,
pub still_tied : (t : ℕ) (w : World) (m : Step) → is_restarting m ≡ false → tied w.past ≡ true → tied (after t w m).past ≡ true
unfolding after
still_tied t w m i d = tied_onto w.past (block_at t w m) (others t w m i) d

-- also where the coordinator stops at once after it,
pub turned_tied : (up : Bool) (t : ℕ) (w : World) (m : Step) → is_restarting m ≡ false → tied w.past ≡ true → tied (turned up t w m).past ≡ true
turned_tied up t w m i d = by (sends_begin t w m && not up)
  where
    by : (b : Bool) → tied (if b then after t (after t w m) Stops else after t w m).past ≡ true
    by true = still_tied t (after t w m) Stops refl (still_tied t w m i d)
    by false = still_tied t w m i d

-- so too from a transaction to what a step made of it, with a log or alone,
abbrev pub StaysTied : TxState → TxState → Type 0
StaysTied old new = tied old.world.past ≡ true → tied new.world.past ≡ true

pub does_tied : (up : Bool) (life : ℕ) (m : Step) (old new : TxState) → is_restarting m ≡ false → DoesAt up life m old new → StaysTied old new
does_tied up life m old new i d k = subst (λ (w : World). tied w.past ≡ true) (sym d.world) (turned_tied up (number_of old.transaction) old.world m i k)

pub alone_tied : (m : Step) (old new : TxState) → is_restarting m ≡ false → DoesAlone m old new → StaysTied old new
alone_tied m old new i d k = subst (λ (w : World). tied w.past ≡ true) (sym d.world) (still_tied (number_of old.transaction) old.world m i k)

-- to what a call made of it that may fail, and then does nothing, or that may have nothing to do,
pub ok_tied : {A E D : Type 0} (r : Result A E) (old new : TxState) → (D → StaysTied old new) → OnOk r D → OnErr r (new ≡ old) → StaysTied old new
ok_tied (Ok a) old new does done same k = does done k
ok_tied (Err e) old new does done same k = subst (λ (x : TxState). tied x.world.past ≡ true) (sym same) k

pub due_tied : {E D F : Type 0} (r : Result Bool E) (old new : TxState) → (r ≡ Ok true → D) → (D → StaysTied old new) → (r ≡ Ok false → new ≡ old) → OnErr r F → (F → new ≡ old) → StaysTied old new
due_tied (Ok true) old new done does none fails same k = does (done refl) k
due_tied (Ok false) old new done does none fails same k = subst (λ (x : TxState). tied x.world.past ≡ true) (sym (none refl)) k
due_tied (Err e) old new done does none fails same k = subst (λ (x : TxState). tied x.world.past ≡ true) (sym (same fails)) k

-- and in pending steps, of which none is a restart.
pub named_elsewhere : (w : World) (n : StepName) (m : Step) → IsNamed w n m → is_restarting m ≡ false
named_elsewhere w (ReplyOf e) m i = ap (λ (s : Step). is_restarting s) i.4
named_elsewhere w LocalAct m i = ap (λ (s : Step). is_restarting s) i
named_elsewhere w CoordinatorAct m i = ap (λ (s : Step). is_restarting s) i.2
named_elsewhere w (Delivery c d) m i = ap (λ (s : Step). is_restarting s) i

pub kth_alone_tied : (k : ℕ) (old new : TxState) → DoesKthAlone k old new → StaysTied old new
kth_alone_tied k old new d = alone_tied d.step old new (named_elsewhere old.world d.name d.step d.named) d.done

pub kth_tied : {D : Type 0} (faults : D → ℕ) (k : ℕ) (old : TxState) (from : LogState D) (new : TxState) (to : LogState D) → DoesKth faults k old from new to → StaysTied old new
kth_tied faults k old from new to d k_tied =
    subst (λ (w : World). tied w.past ≡ true) (sym d.done.world)
    (turned_tied from.is_up (number_of old.transaction) old.world d.step (named_elsewhere old.world d.name d.step d.named) k_tied)

pub stepped_tied : {D : Type 0} (faults : D → ℕ) (k m : ℕ) (old : TxState) (from : LogState D) (new : TxState) (to : LogState D) → Stepped faults k m old from new to → StaysTied old new
stepped_tied faults k zero old from new to s d = subst (λ (x : TxState). tied x.world.past ≡ true) (sym s.0) d
stepped_tied faults k (suc m) old from new to s d = kth_tied faults k s.0 s.1 new to s.3 (stepped_tied faults k m old from s.0 s.1 s.2 d)
