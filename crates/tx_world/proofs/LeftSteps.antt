-- Each pending step leaves less: so `settle` returns.
use Rattle.std.proofs.Common.{◌≡◌, ℕ, ◌<◌, ◌≤◌, Bool, true, false, ◌&&◌, ◌||◌, not, List, [], ◌∷◌, Some, if◌then◌else◌, refl, sym, subst, ap, ◌∙◌, arith}
use Rattle.dtx_values.specs.declared.call.Call.{Call}
use Rattle.dtx_values.specs.declared.entry.Entry.TheVariants.{Stopped}
use Rattle.dtx_values.specs.declared.message.Conn.{Conn}
use Rattle.dtx_values.specs.declared.message.Dir.{Dir}
use Rattle.dtx_values.specs.declared.message.Dir.TheVariants.{Up, Down}
use Rattle.dtx_values.specs.declared.message.Message.{Message}
use Rattle.dtx_values.specs.declared.number.ActorNo.{ActorNo}
use Rattle.dtx_model.specs.Acts.{act_entries}
use Rattle.dtx_model.specs.Caused.{IsNamed, MayCome, Ran}
use Rattle.dtx_model.specs.Outcome.{is_empty}
use Rattle.dtx_model.specs.Promotes.{identifier_of}
use Rattle.dtx_model.specs.Steps.{Step, Stops, StepName, ReplyOf, LocalAct, CoordinatorAct, Delivery, after, block_at, delivered, pending}
use Rattle.dtx_model.specs.Wires.{WireRun, in_transit, is_ended, is_lost_wire}
use Rattle.dtx_model.specs.Words.{kth, onto}
use Rattle.dtx_model.specs.World.{World, half, has_left}
use Rattle.dtx_model.proofs.Bools.{and_right, not_true}
use Rattle.dtx_model.proofs.Quiet.{wire_run}
use Rattle.history_table.proofs.PendingSteps.{pending_comes}
use Rattle.world_laws.specs.Left.{steps_left}
use Rattle.tx_world.specs.State.{sends_begin, turned}
use Rattle.world_laws.proofs.LeftActs.{act_falls, reply_falls}
use Rattle.world_laws.proofs.LeftCommits.{AreFew, commits_few, ran_few}
use Rattle.world_laws.proofs.LeftCoordinator.{coordinates_fall}
use Rattle.world_laws.proofs.LeftGot.{end_up_falls, got_up_falls}
use Rattle.world_laws.proofs.LeftLocal.{end_down_falls, got_down_falls}
use Rattle.world_laws.proofs.LeftOpened.{left_opened}
use Rattle.world_laws.proofs.LeftSpend.{left, spend}

-- where nothing is on the way, the end is left to be seen
unseen : (c : Conn) (d : Dir) (w : World) → has_left c d w.past ≡ true → in_transit c d w.past ≡ [] → is_ended c d w.past ≡ false
unseen c d w k t = by (in_transit c d w.past) t k
  where
    by : (ms : List Message) → ms ≡ [] → (not (is_empty ms) || (is_lost_wire c w.past && not (is_ended c d w.past))) ≡ true → is_ended c d w.past ≡ false
    by [] t k = not_true (is_ended c d w.past) (and_right (is_lost_wire c w.past) (not (is_ended c d w.past)) k)
    by (m ∷ ms) t k = absurd cc

-- a delivery
delivery_falls : (t : ℕ) (w : World) (c : Conn) (d : Dir) → WireRun w.past → AreFew w.past → has_left c d w.past ≡ true → left w.calls (onto w.past (delivered t w c d (in_transit c d w.past))) < left w.calls w.past
delivery_falls t w c d run few k = by d k (in_transit c d w.past) refl
  where
    by : (d : Dir) → has_left c d w.past ≡ true → (ms : List Message) → in_transit c d w.past ≡ ms → left w.calls (onto w.past (delivered t w c d ms)) < left w.calls w.past
    by Up k [] q = end_up_falls w.calls w.past c (unseen c Up w k q) (left_opened c Up w.past k)
    by Down k [] q = end_down_falls w.calls w.past c (unseen c Down w k q) (left_opened c Down w.past k)
    by Down k (m ∷ ms) q = got_down_falls w.calls w.past t c m ms q (left_opened c Down w.past k)
    by Up k (m ∷ ms) q = got_up_falls w.calls w.past (identifier_of t) c m ms q (left_opened c Up w.past k) (λ a b. commits_few w.past m ms run few b (subst (λ (e : Conn). in_transit e Up w.past ≡ m ∷ ms) a q))

-- the step of a name that is pending
named_falls : (G : ℕ → ActorNo → Call → Type 0) (t : ℕ) (w : World) (n : StepName) (m : Step) → WireRun w.past → AreFew w.past → IsNamed w n m → MayCome G t w m → steps_left (after t w m) < steps_left w
unfolding steps_left after block_at
named_falls G t w (ReplyOf e) m run few (r, note, due, fit, same) may =
    subst (λ (m : Step). steps_left (after t w m) < steps_left w) (sym same) (reply_falls w.calls w.past e r note due fit)
named_falls G t w LocalAct m run few same may =
    let come : is_empty (act_entries (half w)) ≡ false = subst (λ (m : Step). MayCome G t w m) same may in
    subst (λ (m : Step). steps_left (after t w m) < steps_left w) (sym same) (act_falls w.calls w.past come)
named_falls G t w CoordinatorAct m run few (a, can, same) may =
    subst (λ (m : Step). steps_left (after t w m) < steps_left w) (sym same) (coordinates_fall w.calls w.past a can)
named_falls G t w (Delivery c d) m run few same may =
    let come : has_left c d w.past ≡ true = subst (λ (m : Step). MayCome G t w m) same may in
    subst (λ (m : Step). steps_left (after t w m) < steps_left w) (sym same) (delivery_falls t w c d run few come)

-- a stop that follows leaves no more
stop_no_more : (t : ℕ) (w : World) → steps_left (after t w Stops) ≤ steps_left w
unfolding steps_left after block_at
stop_no_more t w = let a = spend w.calls Stopped w.past refl in omega arith

-- Each pending step leaves less, whether the log is up or not.
pub step_nearer : (G : ℕ → ActorNo → Call → Type 0) (b : Bool) (t : ℕ) (ms : List Step) (w : World) (n : StepName) (m : Step) (k : ℕ) → Ran G t ms w → kth (pending w) k ≡ Some n → IsNamed w n m
    → steps_left (turned b t w m) < steps_left w
step_nearer G b t ms w n m k r stands named = by (sends_begin t w m && not b)
  where
    one : steps_left (after t w m) < steps_left w
    one = named_falls G t w n m (wire_run G t ms w r) (ran_few G t ms w r) named (pending_comes G t w k n m stands named)

    by : (s : Bool) → steps_left (if s then after t (after t w m) Stops else after t w m) < steps_left w
    by true = let a = one in let z = stop_no_more t (after t w m) in omega arith
    by false = one
