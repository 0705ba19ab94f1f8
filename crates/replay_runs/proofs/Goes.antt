-- A transaction goes with the log: from BEGIN on its coordinator lives in the log's life, and stands stopped exactly where the log isn't up. So it does after each of its steps.
use Rattle.std.proofs.Common.{◌≡◌, ◌≢◌, ◌⊎◌, ℕ, Bool, true, false, ◌&&◌, ◌||◌, not, List, [], ◌∷◌, ◌++◌, inl, inr, refl, ap, sym, subst, ◌∙◌, if◌then◌else◌}
use Rattle.std.specs.Prelude.{IsFalse}
use Rattle.std.proofs.lemmas.Bool.{cases_Bool, or_left}
use Rattle.dtx_values.specs.declared.entry.Entry.{Entry}
use Rattle.dtx_values.specs.TxIds.{number_of}
use Rattle.dtx_values.specs.declared.tx_id.TxId.{TxId}
use Rattle.dtx_values.specs.declared.entry.Entry.TheVariants.{Restarted, Stopped}
use Rattle.dtx_values.specs.declared.number.TxNo.{TxNo}
use Rattle.dtx_model.specs.Words.{each, has, onto}
use Rattle.dtx_model.specs.Coordinated.{Coordinated, coordinate, is_active, is_ready, is_recorded, may_free, may_log}
use Rattle.dtx_model.specs.World.{World, core}
use Rattle.dtx_model.specs.Steps.{LogAnswer, Done, Full, StoppedNow, StoppedBefore, Step, Calls, Replies, Acts, Coordinates, Delivers, Stops, Restarts, StepName, ReplyOf, LocalAct, CoordinatorAct, Delivery, after, appended, block_at, coordinates, freed, restarted}
use Rattle.dtx_model.specs.Caused.{IsNamed, is_begin_sent, is_full_answer, may_coordinate}
use Rattle.dtx_model.specs.Replay.{is_in_replay}
use Rattle.dtx_model.proofs.Bools.{and_both, and_left, and_never, not_both, or_case, or_right}
use Rattle.dtx_model.proofs.Reading.{has-onto}
use Rattle.history_table.proofs.CoreStages.{stopped_same}
use Rattle.script_histories.proofs.SteadyBlocks.{goes_on, steady_block, steady_stopped}
use Rattle.coordinator_log.specs.State.{LogState}
use Rattle.tx_world.specs.AtLog.{Answered, id_of}
use Rattle.tx_world.specs.State.{TxState, life_after, sends_begin, turned}
use Rattle.tx_world.specs.Stepping.{Does, IsAnswered}
use Rattle.replay_runs.specs.RunState.{GoesWith}
use Rattle.replay_runs.proofs.Turns.{IsOwn, acts_begun, turned_past, written}

-- A coordinator stands stopped after a step as before it, where that is neither a stop nor a restart,
pub steady_core : (t : ℕ) (w : World) (m : Step) → goes_on m ≡ true → (core (after t w m)).stopped ≡ (core w).stopped
unfolding after
steady_core t w m k = stopped_same (onto w.past (block_at t w m)) ∙ (steady_stopped w.past (block_at t w m) (steady_block t w m k) ∙ sym (stopped_same w.past))

-- and it is stopped after a stop
pub stops_core : (t : ℕ) (w : World) → (core (after t w Stops)).stopped ≡ true
unfolding after block_at
stops_core t w = stopped_same (Stopped ∷ w.past)

-- and runs after a restart
pub restarts_core : (t : ℕ) (w : World) (found : Bool) → (core (after t w (Restarts found))).stopped ≡ false
unfolding after block_at
restarts_core t w found = by (core w).stopped
  where
    by : (b : Bool) → (coordinate (onto w.past (restarted b found))).stopped ≡ false
    by true = stopped_same (Restarted found ∷ w.past)
    by false = stopped_same (Restarted found ∷ Stopped ∷ w.past)

-- The act of a coordinator that isn't answered is that of one that isn't stopped.
not_true : (b : Bool) → not b ≡ true → b ≡ false
not_true true k = absurd cc
not_true false k = refl

logs_running : (k : Coordinated) → may_log k ≡ true → k.stopped ≡ false
unfolding may_log
logs_running k l =
    let ready = each (λ d. is_ready d.ballot) k.desks in
    not_true k.stopped
    (and_left (not k.stopped) (is_active k.stage)
    (and_left (not k.stopped && is_active k.stage) k.commit
    (and_left (not k.stopped && is_active k.stage && k.commit) k.yes (and_left (not k.stopped && is_active k.stage && k.commit && k.yes) ready l))))

frees_running : (k : Coordinated) → may_free k ≡ true → k.stopped ≡ false
unfolding may_free
frees_running k f = not_true k.stopped (and_left (not k.stopped) (is_recorded k.stage) (and_left (not k.stopped && is_recorded k.stage) _ f))

pub acts_running : (k : Coordinated) (a : LogAnswer) → may_coordinate k a ≡ true → k.stopped ≡ false
acts_running k a e = or_case (may_log k) (may_free k && not (is_full_answer a)) (logs_running k) (λ f. frees_running k (and_left (may_free k) (not (is_full_answer a)) f)) e

-- BEGIN was sent after a step only where it was sent before it or in it.
unsent : (b u : Bool) (x y : World) → b ≡ false → (if b && not u then x else y) ≡ y
unsent true u x y e = absurd cc
unsent false u x y e = refl

stop_follows : (b u : Bool) (x y : World) → b ≡ true → u ≡ false → (if b && not u then x else y) ≡ x
stop_follows true true x y e f = absurd cc
stop_follows true false x y e f = refl
stop_follows false u x y e f = absurd cc

none_follows : (b u : Bool) (x y : World) → u ≡ true → (if b && not u then x else y) ≡ y
none_follows true true x y e = refl
none_follows true false x y e = absurd cc
none_follows false u x y e = refl

or_none : (a b : Bool) → a ≡ false → (a || b) ≡ b
or_none true b e = absurd cc
or_none false b e = refl

begun_before : (up : Bool) (t : ℕ) (w : World) (m : Step) → sends_begin t w m ≡ false → has is_begin_sent (turned up t w m).past ≡ has is_begin_sent w.past
unfolding after
begun_before up t w m e =
    ap (λ (v : World). has is_begin_sent v.past) (unsent (sends_begin t w m) up (after t (after t w m) Stops) (after t w m) e)
    ∙ (has-onto is_begin_sent w.past (block_at t w m) ∙ or_none (sends_begin t w m) (has is_begin_sent w.past) e)

-- What may come in a turn or a call: no stop and no restart, and a coordinator's act only where that may act.
abbrev pub MayTurn : World → Step → Type 0
MayTurn w (Coordinates a) = may_coordinate (core w) a ≡ true
MayTurn w Stops = ⊥
MayTurn w (Restarts found) = ⊥
MayTurn w _ = Unit {0}

pub named_turn : (w : World) (n : StepName) (m : Step) → IsNamed w n m → MayTurn w m
named_turn w (ReplyOf e) m (r, note, due, fit, same) = subst (λ j. MayTurn w j) (sym same) tt
named_turn w LocalAct m same = subst (λ j. MayTurn w j) (sym same) tt
named_turn w CoordinatorAct m (a, may, same) = subst (λ j. MayTurn w j) (sym same) may
named_turn w (Delivery c d) m same = subst (λ j. MayTurn w j) (sym same) tt

-- it lives in the log's life
lives : {D : Type 0} (up : Bool) (t : ℕ) (x y : TxState) (from to : LogState D) (m : Step) → y.world ≡ turned up t x.world m → y.life ≡ life_after from.life t x.world m x.life → to.life ≡ from.life
    → (has is_begin_sent x.world.past ≡ true → x.life ≡ from.life) → has is_begin_sent y.world.past ≡ true → y.life ≡ to.life
lives {D} up t x y from to m world own life before begun = by (cases_Bool (sends_begin t x.world m))
  where
    taken : (b : Bool) (l n : ℕ) → b ≡ true → (if b then l else n) ≡ l
    taken true l n e = refl
    taken false l n e = absurd cc

    left : (b : Bool) (l n : ℕ) → b ≡ false → (if b then l else n) ≡ n
    left true l n e = absurd cc
    left false l n e = refl

    by : (sends_begin t x.world m ≡ true) ⊎ (sends_begin t x.world m ≡ false) → y.life ≡ to.life
    by (inl k) = own ∙ (taken (sends_begin t x.world m) from.life x.life k ∙ sym life)
    by (inr k) =
        own ∙ (left (sends_begin t x.world m) from.life x.life k
        ∙ (before (sym (begun_before up t x.world m k) ∙ (ap (λ (w : World). has is_begin_sent w.past) (sym world) ∙ begun)) ∙ sym life))

begun_after : (up : Bool) (t : ℕ) (w : World) (m : Step) → sends_begin t w m ≡ true → has is_begin_sent (turned up t w m).past ≡ true
begun_after up t w m e = ap (has is_begin_sent) (turned_past up t w m) ∙ (has-onto is_begin_sent w.past (written up t w m) ∙ or_left (has is_begin_sent (written up t w m)) (has is_begin_sent w.past) (wrote (sends_begin t w m && not up)))
  where
    in_front : (es fs : List Entry) → has is_begin_sent es ≡ true → has is_begin_sent (es ++ fs) ≡ true
    in_front [] fs k = absurd cc
    in_front (x ∷ es) fs k =
        or_case (is_begin_sent x) (has is_begin_sent es) (λ h. or_left (is_begin_sent x) (has is_begin_sent (es ++ fs)) h)
        (λ h. or_right (is_begin_sent x) (has is_begin_sent (es ++ fs)) (in_front es fs h)) k

    wrote : (c : Bool) → has is_begin_sent (if c then block_at t w m ++ Stopped ∷ [] else block_at t w m) ≡ true
    wrote true = in_front (block_at t w m) (Stopped ∷ []) e
    wrote false = e

-- where the log stays as it is, the step isn't a stop: it stands stopped where the log isn't up
stands_steady : {D : Type 0} (t : TxNo) (x : TxState) (from : LogState D) (m : Step) → goes_on m ≡ true → GoesWith from x
    → (core (turned from.is_up t.value x.world m)).stopped ≡ (has is_begin_sent (turned from.is_up t.value x.world m).past && not from.is_up)
stands_steady {D} t x from m steady goes = by (cases_Bool (sends_begin t.value x.world m)) (cases_Bool from.is_up)
  where
    by : ((sends_begin t.value x.world m ≡ true) ⊎ (sends_begin t.value x.world m ≡ false)) → ((from.is_up ≡ true) ⊎ (from.is_up ≡ false))
        → (core (turned from.is_up t.value x.world m)).stopped ≡ (has is_begin_sent (turned from.is_up t.value x.world m).past && not from.is_up)
    by (inr k) u =
        ap (λ (w : World). (core w).stopped) (unsent (sends_begin t.value x.world m) from.is_up (after t.value (after t.value x.world m) Stops) (after t.value x.world m) k)
        ∙ (steady_core t.value x.world m steady ∙ (goes.stopped ∙ ap (λ b. b && not from.is_up) (sym (begun_before from.is_up t.value x.world m k))))
    by (inl k) (inl up) =
        ap (λ (w : World). (core w).stopped) (none_follows (sends_begin t.value x.world m) from.is_up (after t.value (after t.value x.world m) Stops) (after t.value x.world m) up)
        ∙ (steady_core t.value x.world m steady
        ∙ (goes.stopped ∙ (ap (λ u. has is_begin_sent x.world.past && not u) up
        ∙ (and_never (has is_begin_sent x.world.past) ∙ (sym (and_never (has is_begin_sent (turned from.is_up t.value x.world m).past))
        ∙ ap (λ u. has is_begin_sent (turned from.is_up t.value x.world m).past && not u) (sym up))))))
    by (inl k) (inr down) =
        ap (λ (w : World). (core w).stopped) (stop_follows (sends_begin t.value x.world m) from.is_up (after t.value (after t.value x.world m) Stops) (after t.value x.world m) k down)
        ∙ (stops_core t.value (after t.value x.world m)
        ∙ sym (and_both (has is_begin_sent (turned from.is_up t.value x.world m).past) (not from.is_up) (begun_after from.is_up t.value x.world m k) (ap not down)))

-- A step at a log that was stopped by it, or found so, stops the coordinator.
pub stop_written : (t : ℕ) (w : World) (a : LogAnswer) → coordinates (core w) a ≡ Stopped ∷ [] → (up : Bool) → (core (turned up t w (Coordinates a))).stopped ≡ true
unfolding after block_at
stop_written t w a e up =
    ap (λ (v : World). (core v).stopped) (unsent (sends_begin t w (Coordinates a)) up (after t (after t w (Coordinates a)) Stops) (after t w (Coordinates a)) (ap (has is_begin_sent) e))
    ∙ (ap (λ (es : List Entry). (coordinate (onto w.past es)).stopped) e ∙ stopped_same (Stopped ∷ w.past))

pub now_block : (w : World) (b : Bool) → (if b then appended (core w) StoppedNow else freed StoppedNow) ≡ Stopped ∷ []
now_block w true = refl
now_block w false = refl

-- What becomes of the log: after an act that was answered it is up as before.
pub answered_up : {D : Type 0} (faults : D → ℕ) (k : Coordinated) (id life : ℕ) (from to : LogState D) (a : LogAnswer) → (a ≡ StoppedNow → ⊥) → (a ≡ StoppedBefore → ⊥) → Answered faults k id life from to a
    → (from.is_up ≡ true) × (to.is_up ≡ true)
answered_up {D} faults k id life from to a n b e = by (cases_Bool from.is_up) (cases_Bool to.is_up)
  where
    by : ((from.is_up ≡ true) ⊎ (from.is_up ≡ false)) → ((to.is_up ≡ true) ⊎ (to.is_up ≡ false)) → (from.is_up ≡ true) × (to.is_up ≡ true)
    by (inr k) u = absurd (b (e.before.1 (inl k)))
    by (inl k) (inr u) = absurd (n (e.now.1 (k, u)))
    by (inl k) (inl u) = (k, u)

-- and where it isn't up, no step changes it
pub answered_down : {D : Type 0} (faults : D → ℕ) (x : TxState) (from to : LogState D) (m : Step) → IsAnswered faults x from to m → IsFalse from.is_up → to ≡ from
answered_down faults x from to (Coordinates Done) e down = let up = answered_up faults (core x.world) (id_of x) x.life from to Done (λ k. cc) (λ k. cc) e in absurd (not_both from.is_up up.0 down)
answered_down faults x from to (Coordinates Full) e down = e.unchanged (λ k. cc) (λ k. cc)
answered_down faults x from to (Coordinates StoppedNow) e down = absurd (not_both from.is_up (e.now.0 refl).0 down)
answered_down faults x from to (Coordinates StoppedBefore) e down = e.unchanged (λ k. cc) (λ k. cc)
answered_down faults x from to m e down = e

-- The coordinator of a transaction that goes with the log never finds it stopped, since then it stands stopped itself.
pub never_before : {D : Type 0} (faults : D → ℕ) (t : TxNo) (x : TxState) (from to : LogState D) → IsOwn t x → may_coordinate (core x.world) StoppedBefore ≡ true → GoesWith from x
    → Answered faults (core x.world) (id_of x) x.life from to StoppedBefore → ⊥
never_before faults t x from to own may goes e = by (e.before.0 refl)
  where
    by : IsFalse from.is_up ⊎ (x.life ≢ from.life) → ⊥
    by (inl k) =
        not_both (core x.world).stopped (goes.stopped ∙ and_both (has is_begin_sent x.world.past) (not from.is_up) (acts_begun t.value x.world own.run may) (ap not k))
        (acts_running (core x.world) StoppedBefore may)
    by (inr k) = k (goes.life (acts_begun t.value x.world own.run may))

-- so each step that has a name may come in a replay
pub named_in_replay : {D : Type 0} (faults : D → ℕ) (t : TxNo) (x : TxState) (from to : LogState D) (n : StepName) (m : Step) → IsOwn t x → IsNamed x.world n m → IsAnswered faults x from to m
    → GoesWith from x → is_in_replay m ≡ true
named_in_replay {D} faults t x from to (ReplyOf e) m own (r, note, due, fit, same) k goes = ap is_in_replay same
named_in_replay {D} faults t x from to LocalAct m own same k goes = ap is_in_replay same
named_in_replay {D} faults t x from to CoordinatorAct m own (a, may, same) k goes = ap is_in_replay same ∙ act a may (subst (λ j. IsAnswered faults x from to j) same k)
  where
    act : (a : LogAnswer) → may_coordinate (core x.world) a ≡ true → Answered faults (core x.world) (id_of x) x.life from to a → is_in_replay (Coordinates a) ≡ true
    act Done may e = refl
    act Full may e = refl
    act StoppedNow may e = refl
    act StoppedBefore may e = absurd (never_before faults t x from to own may goes e)
named_in_replay {D} faults t x from to (Delivery c d) m own same k goes = ap is_in_replay same

-- it stands stopped exactly where the log isn't up
halted_begun : (t : ℕ) (w : World) (a : LogAnswer) → coordinates (core w) a ≡ Stopped ∷ [] → (up : Bool) → has is_begin_sent w.past ≡ true → has is_begin_sent (turned up t w (Coordinates a)).past ≡ true
unfolding after block_at
halted_begun t w a e up k =
    ap (λ (v : World). has is_begin_sent v.past) (unsent (sends_begin t w (Coordinates a)) up (after t (after t w (Coordinates a)) Stops) (after t w (Coordinates a)) (ap (has is_begin_sent) e))
    ∙ (ap (λ (es : List Entry). has is_begin_sent (onto w.past es)) e ∙ k)

stands : {D : Type 0} (faults : D → ℕ) (t : TxNo) (x : TxState) (from to : LogState D) (m : Step) → IsOwn t x → MayTurn x.world m → IsAnswered faults x from to m → GoesWith from x
    → (core (turned from.is_up t.value x.world m)).stopped ≡ (has is_begin_sent (turned from.is_up t.value x.world m).past && not to.is_up)
stands {D} faults t x from to m own may e goes = by m may e
  where
    as_before : (j : Step) → goes_on j ≡ true → from.is_up ≡ to.is_up
        → (core (turned from.is_up t.value x.world j)).stopped ≡ (has is_begin_sent (turned from.is_up t.value x.world j).past && not to.is_up)
    as_before j k up = stands_steady t x from j k goes ∙ ap (λ u. has is_begin_sent (turned from.is_up t.value x.world j).past && not u) up

    by : (j : Step) → MayTurn x.world j → IsAnswered faults x from to j
        → (core (turned from.is_up t.value x.world j)).stopped ≡ (has is_begin_sent (turned from.is_up t.value x.world j).past && not to.is_up)
    by (Coordinates Done) q e = let up = answered_up faults (core x.world) (id_of x) x.life from to Done (λ k. cc) (λ k. cc) e in as_before (Coordinates Done) refl (up.0 ∙ sym up.1)
    by (Coordinates Full) q e = let up = answered_up faults (core x.world) (id_of x) x.life from to Full (λ k. cc) (λ k. cc) e in as_before (Coordinates Full) refl (up.0 ∙ sym up.1)
    by (Coordinates StoppedNow) q e =
        let block = now_block x.world (may_log (core x.world)) in
        stop_written t.value x.world StoppedNow block from.is_up
        ∙ sym (and_both (has is_begin_sent (turned from.is_up t.value x.world (Coordinates StoppedNow)).past) (not to.is_up)
        (halted_begun t.value x.world StoppedNow block from.is_up (acts_begun t.value x.world own.run q)) (ap not (e.now.0 refl).1))
    by (Coordinates StoppedBefore) q e = absurd (never_before faults t x from to own q goes e)
    by (Calls n a c k) q e = as_before (Calls n a c k) refl (ap (λ (l : LogState D). l.is_up) (sym e))
    by (Replies n r) q e = as_before (Replies n r) refl (ap (λ (l : LogState D). l.is_up) (sym e))
    by Acts q e = as_before Acts refl (ap (λ (l : LogState D). l.is_up) (sym e))
    by (Delivers c d) q e = as_before (Delivers c d) refl (ap (λ (l : LogState D). l.is_up) (sym e))
    by Stops q e = absurd q
    by (Restarts found) q e = absurd q

-- So a transaction that goes with the log goes with it after a step of its own: one that has a name, or a call.
pub goes_step : {D : Type 0} (faults : D → ℕ) (t : TxNo) (x y : TxState) (from to : LogState D) (m : Step) → IsOwn t x → Does faults m x from y to → to.life ≡ from.life → GoesWith from x
    → MayTurn x.world m → GoesWith to y
goes_step {D} faults t x y from to m own did life goes may =
    let world : y.world ≡ turned from.is_up t.value x.world m = did.world ∙ ap (λ (u : TxId). turned from.is_up (number_of u) x.world m) own.transaction in
    let own_life : y.life ≡ life_after from.life t.value x.world m x.life = did.life ∙ ap (λ (u : TxId). life_after from.life (number_of u) x.world m x.life) own.transaction in
    record {
      life = lives from.is_up t.value x y from to m world own_life life goes.life;
      stopped = subst (λ (w : World). (core w).stopped ≡ (has is_begin_sent w.past && not to.is_up)) (sym world) (stands faults t x from to m own may did.answered goes);
    }

-- One to which nothing came goes with each log.
pub goes_blank : {D : Type 0} (log : LogState D) (x : TxState) → x.world.past ≡ [] → GoesWith log x
goes_blank log x none =
    record {
      life = λ begun. let k : false ≡ true = sym (ap (has is_begin_sent) none) ∙ begun in absurd cc;
      stopped = ap (λ (h : List Entry). (coordinate h).stopped) none ∙ (stopped_same [] ∙ ap (λ (h : List Entry). has is_begin_sent h && not log.is_up) (sym none));
    }
