-- The block of each step of the local side keeps the table of a promoted history, where what it goes by stands: calls, replies, the local act, and what comes down.
use Rattle.std.proofs.Common.{◌≡◌, ℕ, true, false, Bool, ◌&&◌, ◌||◌, List, [], ap, ◌∷◌, refl, sym, subst}
use Rattle.std.specs.Prelude.{not}
use Rattle.dtx_values.specs.declared.call.Call.{Call}
use Rattle.dtx_values.specs.declared.call.Call.TheVariants.{Volatile, Durable, Promotable, Clone}
use Rattle.dtx_values.specs.declared.entry.Entry.{Entry}
use Rattle.dtx_values.specs.declared.entry.Entry.TheVariants.{Down as Ended}
use Rattle.dtx_values.specs.declared.message.Conn.{Conn}
use Rattle.dtx_values.specs.declared.message.Dir.TheVariants.{Down, Up}
use Rattle.dtx_values.specs.declared.message.Message.{Message}
use Rattle.dtx_values.specs.declared.number.ActorNo.{ActorNo}
use Rattle.dtx_model.specs.Words.{has, onto}
use Rattle.dtx_model.specs.Entries.{is_call}
use Rattle.dtx_model.specs.Outcome.{is_empty}
use Rattle.dtx_model.specs.Wires.{MayCross, in_transit, is_ended, is_lost_wire, is_next}
use Rattle.dtx_model.specs.Waiting.{waiting}
use Rattle.dtx_model.specs.World.{World, has_left}
use Rattle.dtx_model.specs.Steps.{Step, Calls, Replies, Acts, Delivers, delivered, Coordinates, Stops, Restarts, after, block_at}
use Rattle.dtx_model.specs.Caused.{MayCome}
use Rattle.history_table.proofs.Undecided.{Stands}
use Rattle.history_table.proofs.WorldCalls.{makes_new, call_stands}
use Rattle.history_table.proofs.WorldReplies.{IsAsked, reply_stands}
use Rattle.history_table.proofs.WorldActs.{IsToldOn, act_stands}
use Rattle.history_table.proofs.Handover.{IsWaitedFor}
use Rattle.history_table.proofs.Arrivals.{ComeOnce, end_stands, got_stands}

-- what the local side goes by at the end of each block
pub record IsSteady (G : ℕ → ActorNo → Call → Type 0) (w : World) : Type 0 where
  -- the table, what a restart finds, the wires, and what stands while nothing is decided
  pub stands : Stands w.past
  -- whom was lost votes no more; who was asked to promote, or to commit in a single phase
  pub asked : IsAsked w.past
  -- what a reenlistment got was told
  pub told : IsToldOn w.past
  -- BEGUN, CREATED and PREPARE come once, and no ENLIST is sent before CREATED
  pub once : ComeOnce w.past
  -- who is handed over, and who waits
  pub waited : IsWaitedFor w.past (waiting w.calls w.past)
  -- what a call makes that may still be entered stands nowhere, and no connection was opened for it
  pub new : (n : ℕ) (a : ActorNo) (c : Call) → G n a c → has (is_call n) w.past ≡ false → makes_new w.past c ≡ true

-- a step of the local side
abbrev pub is_local_step : Step → Bool
is_local_step (Calls n a c m) = true
is_local_step (Replies e r) = true
is_local_step Acts = true
is_local_step (Delivers c Down) = true
is_local_step _ = false

-- what is delivered may cross
end_crosses : (c : Conn) (h : List Entry) → in_transit c Down h ≡ [] → has_left c Down h ≡ true → MayCross h (Ended c Down)
end_crosses c h e l =
    step (is_empty (in_transit c Down h)) (is_lost_wire c h) (is_ended c Down h) (ap is_empty e) l
  where
    step : (e l d : Bool) → e ≡ true → (not e || (l && not d)) ≡ true → (l && e && not d) ≡ true
    step true true d p q = q
    step true false d p q = absurd cc
    step false l d p q = absurd cc

down_keeps : (G : ℕ → ActorNo → Call → Type 0) (t : ℕ) (w : World) (c : Conn) (ms : List Message) → in_transit c Down w.past ≡ ms → IsSteady G w → has_left c Down w.past ≡ true
    → Stands (onto w.past (delivered t w c Down ms))
down_keeps G t w c [] e s l = end_stands w c (end_crosses c w.past e l) s.stands
down_keeps G t w c (m ∷ ms) e s l = got_stands t w c m (let P : List Message → Type 0 = λ ns. is_next m ns in subst P (sym e) refl) s.stands s.once s.waited

-- The block of a step of the local side keeps the table.
pub local_keeps : (G : ℕ → ActorNo → Call → Type 0) (t : ℕ) (w : World) (m : Step) → is_local_step m ≡ true → IsSteady G w → MayCome G t w m → Stands (after t w m).past
unfolding after block_at
local_keeps G t w (Calls n a c m) l s k = call_stands t w n a c m s.stands (s.new n a c k.0 k.1)
local_keeps G t w (Replies e r) l s k = reply_stands w e r k.0 s.stands s.asked k.1 k.2
local_keeps G t w Acts l s k = act_stands w s.stands s.told
local_keeps G t w (Delivers c Down) l s k = down_keeps G t w c (in_transit c Down w.past) refl s k
local_keeps G t w (Delivers c Up) l s k = absurd cc
local_keeps G t w (Coordinates x) l s k = absurd cc
local_keeps G t w Stops l s k = absurd cc
local_keeps G t w (Restarts found) l s k = absurd cc

-- At the start all of it stands.
nothing_made : (c : Call) → makes_new [] c ≡ true
nothing_made (Volatile u e x v) = refl
nothing_made (Durable u e r x) = refl
nothing_made (Promotable u e r v x p) = refl
nothing_made (Clone u c k) = refl
nothing_made _ = refl

pub start_steady : (G : ℕ → ActorNo → Call → Type 0) → IsSteady G (record { calls = []; past = [] })
start_steady G =
    record {
      stands = record { keeps = record { rules = refl; ties = refl; wires = tt }; going = refl };
      asked = record { left = λ e t. absurd cc; promote = λ t. absurd cc; replied = λ e s t. absurd cc; single = λ t. absurd cc };
      told = λ e. refl;
      once = record { begun = λ u n. refl; created = λ n. refl; prepared = λ e n. refl; after_created = λ e t. absurd cc };
      waited =
          record {
            handed = λ y. refl;
            lasting = λ e q. refl;
            unsent = λ n e. refl;
            places = λ y. refl;
            apart = refl;
            free = λ e n r c s q. absurd cc;
            quiet = λ s. refl;
          };
      new = λ n a c g u. nothing_made c;
    }
