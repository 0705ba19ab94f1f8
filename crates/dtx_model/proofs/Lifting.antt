-- What may be entered by one rule may be entered by a wider one: a history that is freely caused over some calls is so over more of them.
use Rattle.std.proofs.Common.{◌≡◌, ℕ, suc, zero, List, [], ◌∷◌, Some}
use Rattle.dtx_values.specs.declared.number.ActorNo.{ActorNo}
use Rattle.dtx_values.specs.declared.call.Call.{Call}
use Rattle.dtx_values.specs.declared.entry.Entry.{Entry}
use Rattle.dtx_model.specs.Waiting.{EnteredCall}
use Rattle.dtx_model.specs.Words.{kth}
use Rattle.dtx_model.specs.World.{World}
use Rattle.dtx_model.specs.Steps.{Step, Calls, Replies, Acts, Coordinates, Delivers, Stops, Restarts}
use Rattle.dtx_model.specs.Caused.{IsIn, MayCome, Ran, FreelyCaused}

lift_step : (G H : ℕ → ActorNo → Call → Type 0) → ((n : ℕ) (a : ActorNo) (c : Call) → G n a c → H n a c) → (t : ℕ) (w : World) (m : Step) → MayCome G t w m → MayCome H t w m
lift_step G H f t w (Calls n a c m) k = (f n a c k.0, k.1, k.2)
lift_step G H f t w (Replies e r) k = k
lift_step G H f t w Acts k = k
lift_step G H f t w (Coordinates a) k = k
lift_step G H f t w (Delivers c d) k = k
lift_step G H f t w Stops k = k
lift_step G H f t w (Restarts found) k = k

pub lift_ran : (G H : ℕ → ActorNo → Call → Type 0) → ((n : ℕ) (a : ActorNo) (c : Call) → G n a c → H n a c) → (t : ℕ) (ms : List Step) (w : World) → Ran G t ms w → Ran H t ms w
lift_ran G H f t [] w r = r
lift_ran G H f t (m ∷ ms) w r = (r.0, lift_ran G H f t ms r.0 r.1, lift_step G H f t r.0 m r.2, r.3)

pub lift : (G H : ℕ → ActorNo → Call → Type 0) → ((n : ℕ) (a : ActorNo) (c : Call) → G n a c → H n a c) → (t : ℕ) (h : List Entry) → FreelyCaused G t h → FreelyCaused H t h
lift G H f t h r = (r.0, (r.1.0, lift_ran G H f t r.1.0 (record { calls = r.0; past = h }) r.1.1))

-- a call that was entered stays so
pub still_in : (k : EnteredCall) (ks : List EnteredCall) (n : ℕ) (a : ActorNo) (c : Call) → IsIn ks n a c → IsIn (k ∷ ks) n a c
still_in k ks n a c i = by i.place i.stands
  where
    by : (p : ℕ) → kth ks p ≡ Some (record { line = n; actor = a; call = c }) → IsIn (k ∷ ks) n a c
    by zero s = absurd (cc)
    by (suc p) s = record { place = suc (suc p); stands = s }
