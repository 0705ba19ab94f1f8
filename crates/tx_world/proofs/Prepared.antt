-- What comes right before a call lets it be entered, and then it is done.
use Rattle.std.proofs.Common.{◌≡◌, ◌≤◌, ◌∙◌, ℕ, true, List, None, Result, Ok, Err, IfOk, OnOk, OnErr, refl, sym, ap, subst, ◌&&◌, ◌==◌, not, is_some, arith}
use Rattle.dtx_values.specs.declared.call.Call.{Call}
use Rattle.dtx_values.specs.TxIds.{number_of}
use Rattle.dtx_values.specs.declared.tx_id.TxId.{TxId}
use Rattle.dtx_values.specs.declared.call.Call.TheVariants.{Await, Do}
use Rattle.dtx_values.specs.declared.entry.Answer.{Answer}
use Rattle.dtx_values.specs.declared.number.ActorNo.{ActorNo}
use Rattle.dtx_values.specs.declared.number.TxNo.{TxNo}
use Rattle.dtx_model.specs.declared.waiting.EnteredCall.{EnteredCall}
use Rattle.dtx_model.specs.Words.{has, kth}
use Rattle.dtx_model.specs.Outcome.{is_empty}
use Rattle.dtx_model.specs.World.{answer_at, half}
use Rattle.dtx_model.specs.Steps.{Step, StepName, Calls, pending}
use Rattle.dtx_model.specs.Caused.{HasDone, MayAnswer, made_by}
use Rattle.dtx_model.proofs.Bools.{or_right}
use Rattle.coordinator_log.specs.State.{LogState}
use Rattle.tx_world.specs.State.{TxState, is_maker, may_enter}
use Rattle.tx_world.specs.Stepping.{Does, Settles, SomeSteps, Stepped}
use Rattle.tx_world.specs.OwnCalls.{DoesCall, Prepares, Repeats, place_of}
use Rattle.tx_world.proofs.Chained.{has_stepped, stepped_calls}

-- the steps of a `do` are those that it counts
pub has_done : {D : Type 0} (faults : D → ℕ) (k n m : ℕ) (old : TxState) (from : LogState D) (new : TxState) (to : LogState D) → Repeats faults k n m old from new to → HasDone (number_of new.transaction) new.world k n m
has_done faults k n m old from new to r = record { before = old.world; stepped = has_stepped faults k m old from new to r.stepped; most = r.most; fewer = r.fewer }

-- so what is prepared may be answered
pub prepared_may : {D : Type 0} (faults : D → ℕ) (c : Call) (m : ℕ) (old : TxState) (from : LogState D) (new : TxState) (to : LogState D)
    → Prepares faults c m old from new to → MayAnswer (number_of new.transaction) new.world c m
prepared_may faults (Do t k n) m old from new to p = has_done faults k n m old from new to p
prepared_may faults (Await t) m old from new to p =
    or_right (is_some (half new.world).seen.told_client) (is_empty (pending new.world)) (ap (λ (ms : List StepName). is_empty ms) p.2.settled)
prepared_may faults _ m old from new to p = tt

-- and entered: no call came in between
prepared_calls : {D : Type 0} (faults : D → ℕ) (c : Call) (m : ℕ) (old : TxState) (from : LogState D) (new : TxState) (to : LogState D)
    → Prepares faults c m old from new to → new.world.calls ≡ old.world.calls
prepared_calls faults (Do t k n) m old from new to p = stepped_calls faults k m old from new to p.stepped
prepared_calls faults (Await t) m old from new to p = stepped_calls faults 1 p.1 old from new to p.2.stepped
prepared_calls faults _ m old from new to p = ap (λ (x : TxState). x.world.calls) p.1

pub prepared_enters : {D : Type 0} (faults : D → ℕ) (c : Call) (m line : ℕ) (old : TxState) (from : LogState D) (new : TxState) (to : LogState D)
    → Prepares faults c m old from new to → may_enter old.world line c ≡ true → may_enter new.world line c ≡ true
prepared_enters faults c m line old from new to p may =
    ap (λ (ks : List EnteredCall). not (has (λ k. k.line == line) ks) && not (has (λ k. is_maker (made_by c) k.call) ks)) (prepared_calls faults c m old from new to p) ∙ may

-- The steps of a `do` end where fewer are pending, or where all were done.
pub repeated_here : {D : Type 0} (faults : D → ℕ) (k n m : ℕ) (old : TxState) (from : LogState D) (mid : TxState) (at_it : LogState D) (new : TxState) (to : LogState D)
    → Stepped faults k m old from mid at_it → m ≤ n → kth (pending mid.world) k ≡ None → new ≡ mid → to ≡ at_it → Repeats faults k n m old from new to
repeated_here {D} faults k n m old from mid at_it new to before most none same same_log =
    let P : TxState → Type 0 = λ x. Repeats faults k n m old from x to in
    let Q : LogState D → Type 0 = λ l. Repeats faults k n m old from mid l in
    subst P (sym same) (subst Q (sym same_log) (record { stepped = before; most = most; fewer = λ less. none }))

pub repeated_all : {D : Type 0} (faults : D → ℕ) (k n m : ℕ) (old : TxState) (from : LogState D) (new : TxState) (to : LogState D) → Stepped faults k m old from new to → m ≤ n → n ≤ m → Repeats faults k n m old from new to
repeated_all faults k n m old from new to before most all = record { stepped = before; most = most; fewer = λ less. absurd (omega (arith, less, all)) }

-- What was done before is some steps.
prepared_steps : {D : Type 0} (faults : D → ℕ) (c : Call) (m : ℕ) (old : TxState) (from : LogState D) (new : TxState) (to : LogState D)
    → Prepares faults c m old from new to → SomeSteps faults (place_of c) old from new to
prepared_steps faults (Do t k n) m old from new to p = (m, p.stepped)
prepared_steps faults (Await t) m old from new to p = (p.1, p.2.stepped)
prepared_steps faults _ m old from new to p = (0, (p.1, p.2))

-- so where a call isn't entered, some steps were done
pub call_fails : {D A E : Type 0} (faults : D → ℕ) (c : Call) (m : ℕ) (old : TxState) (from : LogState D) (mid new : TxState) (to : LogState D) (r : Result A E)
    → Prepares faults c m old from mid to → OnErr r (new ≡ mid) → OnErr r (SomeSteps faults (place_of c) old from new to)
call_fails faults c m old from mid new to (Ok a) p same = tt
call_fails {D} faults c m old from mid new to (Err e) p same =
    let P : TxState → Type 0 = λ x. SomeSteps faults (place_of c) old from x to in
    subst P (sym same) (prepared_steps faults c m old from mid to p)

-- some steps, by the call that they come before
pub steps_before : {D : Type 0} (faults : D → ℕ) (c d : Call) (k : ℕ) (old : TxState) (from : LogState D) (new : TxState) (to : LogState D)
    → c ≡ d → k ≡ place_of d → SomeSteps faults k old from new to → SomeSteps faults (place_of c) old from new to
steps_before faults c d k old from new to is same s = subst (λ j. SomeSteps faults j old from new to) (same ∙ ap (λ (x : Call). place_of x) (sym is)) s

-- which so holds where memory ran out in them
pub where_failed : {A E : Type 0} {P : Type 0} (r : Result A E) → P → OnErr r P
where_failed (Ok a) p = tt
where_failed (Err e) p = p

-- What comes before a call of a kind, by that kind.
pub repeats : {D : Type 0} (faults : D → ℕ) (c : Call) (t : TxNo) (j i k n m : ℕ) (old : TxState) (from : LogState D) (new : TxState) (to : LogState D)
    → c ≡ Do t j i → k ≡ j → n ≡ i → Repeats faults k n m old from new to → Prepares faults c m old from new to
repeats faults c t j i k n m old from new to is place times r =
    subst (λ (d : Call). Prepares faults d m old from new to) (sym is) (subst (λ p. Repeats faults p i m old from new to) place (subst (λ q. Repeats faults k q m old from new to) times r))

pub settles : {D : Type 0} (faults : D → ℕ) (c : Call) (t : TxNo) (count : ℕ) (old : TxState) (from : LogState D) (new : TxState) (to : LogState D)
    → c ≡ Await t → Settles faults count old from new to → Prepares faults c 0 old from new to
settles faults c t count old from new to is s = subst (λ (d : Call). Prepares faults d 0 old from new to) (sym is) (refl, count, s)

-- then the call is done
pub call_done : {D E : Type 0} (faults : D → ℕ) (line : ℕ) (actor : ActorNo) (c : Call) (m : ℕ) (old : TxState) (from : LogState D) (mid new : TxState) (to : LogState D) (r : Result Answer E)
    → Prepares faults c m old from mid to → mid.transaction ≡ old.transaction → IfOk r (λ a. a ≡ answer_at (number_of mid.transaction) mid.world c m) → OnOk r (Does faults (Calls line actor c m) mid to new to)
    → IfOk r (λ a. DoesCall faults line actor c a old from new to)
call_done faults line actor c m old from mid new to (Ok a) p same answer done =
    record {
      steps = m;
      before = mid;
      prepared = p;
      entered = done;
      answered = answer ∙ ap (λ (t : TxId). answer_at (number_of t) mid.world c m) same;
    }
call_done faults line actor c m old from mid new to (Err e) p same answer done = tt

-- a call is of the same transaction
pub entered_there : {D A E : Type 0} (faults : D → ℕ) (step : Step) (mid new : TxState) (to : LogState D) (r : Result A E) → OnOk r (Does faults step mid to new to) → OnErr r (new ≡ mid) → new.transaction ≡ mid.transaction
entered_there faults step mid new to (Ok a) done same = done.transaction
entered_there faults step mid new to (Err e) done same = ap (λ (x : TxState). x.transaction) same

-- and keeps the record that is kept
pub entered_kept : {D A E : Type 0} (faults : D → ℕ) (n : ℕ) (a : ActorNo) (c : Call) (m : ℕ) (mid new : TxState) (to : LogState D) (r : Result A E) → OnOk r (Does faults (Calls n a c m) mid to new to) → OnErr r (new ≡ mid)
    → (new.ours ≡ mid.ours) × (new.unsure ≡ mid.unsure)
entered_kept faults n a c m mid new to (Ok x) done same = done.kept
entered_kept faults n a c m mid new to (Err e) done same = (ap (λ (x : TxState). x.ours) same, ap (λ (x : TxState). x.unsure) same)
