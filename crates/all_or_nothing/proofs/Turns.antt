-- Turns of the manager, and the end of a scope, keep all or nothing.
use Rattle.std.specs.Prelude.{IsTrue}
use Rattle.std.proofs.Common.{◌≡◌, inl, inr, ◌≤◌, ◌<◌, ℕ, zero, suc, Bool, true, false, List, [], ◌++◌, Option, Some, None, append_assoc, refl, ap, subst, sym, ◌∙◌}
use Rattle.std.proofs.lemmas.Bool.Decides.{eqb_tells}
use Rattle.dtx_values.proofs.Ids.{same_id}
use Rattle.dtx_values.specs.TxIds.{identifier_of_id, number_of}
use Rattle.dtx_values.specs.declared.call.Call.TheVariants.{Tick}
use Rattle.dtx_values.specs.declared.tx_id.TxId.{TxId}
use Rattle.dtx_model.specs.declared.waiting.EnteredCall.{EnteredCall}
use Rattle.coordinator_log.specs.State.{LogState}
use Rattle.recovery_laws.specs.Whole.{Site}
use Rattle.resource_managers.specs.declared.enlistment.Enlistment.{Enlistment}
use Rattle.transactions.specs.declared.usage.Usage.TheVariants.{Left as LeftUsage}
use Rattle.transactions.specs.Calling.{TicksUnless, passed}
use Rattle.transactions.specs.Ending.{IsLeft}
use Rattle.transactions.specs.Hearing.{IsHeard, MovesOn, Takes, Writes}
use Rattle.transactions.specs.Logged.{KeepsRecords, MayHold}
use Rattle.transactions.specs.Keeping.{HasRun}
use Rattle.transactions.specs.Scoping.{ConcludesAll, ConcludesIn, IsConcluded, IsLetGo}
use Rattle.transactions.specs.Slots.{AreSame, KeepsTime, Standing, live_at, standing_at}
use Rattle.transactions.specs.State.{LiveState, past}
use Rattle.transactions.specs.Turning.{HadTurn, Stopped, StoppedAfter, Turned, TurnedUpTo}
use Rattle.transactions.proofs.Driving.{chain_both}
use Rattle.transactions.proofs.Entering.{call_writes, some_same}
use Rattle.all_or_nothing.specs.Marks.{Place}
use Rattle.all_or_nothing.specs.Objects.{AreHolders}
use Rattle.all_or_nothing.specs.Whole.{IsAllOrNothing, IsCall}
use Rattle.all_or_nothing.proofs.Called.{EpochLaw, TellsLaw, VotesLaw}
use Rattle.all_or_nothing.proofs.Calls.{IsMoved, called, given_up, moved_on}
use Rattle.transactions.proofs.Driving.{Gives}

-- ---- where nothing was done

-- Each transaction is as it was, and so are the log and the last number.
pub unchanged : {D C O : Type 0} (image : D → List ℕ → Type 0) (place : O → Enlistment → Place) (keeps : O → Enlistment → Type 0) (leaves : O → List Site → Type 0) (sound : O → Type 0) (m n : Standing D C) (o : O)
    → ((u : TxId) → live_at u n.lives ≡ live_at u m.lives) → n.log ≡ m.log → n.last ≡ m.last → IsAllOrNothing image place keeps leaves sound m o → IsAllOrNothing image place keeps leaves sound n o
unchanged image place keeps leaves sound m n o same log last all = record {
  whole = λ rs may. all.whole rs (subst (λ l. MayHold image l rs) log may);
  ordered = λ rs may. all.ordered rs (subst (λ l. MayHold image l rs) log may);
  tied = λ u y at. all.tied u y (sym (same u) ∙ at);
  routed = λ u y at. all.routed u y (sym (same u) ∙ at);
  begun = λ u y at. subst (λ k. number_of u ≤ k) (sym last) (all.begun u y (sym (same u) ∙ at));
  new = λ u above. all.new u (subst (λ k. k < number_of u) last above);
  memory = all.memory;
}

none_some : {A : Type 0} (z : A) (o : Option A) → o ≡ None → o ≡ Some z → ⊥
none_some z None p q = absurd cc
none_some z (Some y) p q = absurd cc

-- all are as they were, where the others are, and so is this one
all_same : (t : TxId) (old new : List LiveState) → AreSame t old new → live_at t new ≡ live_at t old → (u : TxId) → live_at u new ≡ live_at u old
all_same t old new others this u = elim (eqb_tells (number_of t) (number_of u)) [
  | inl k ↦ subst (λ v. live_at v new ≡ live_at v old) (same_id t u k.1) this
  | inr k ↦ others u (λ e. k.1 (ap number_of (sym e)))
]

-- ---- a turn

-- the moves by which the time of a transaction goes on, and the calls that they enter
record Ticked {O : Type 0} (gives : Gives O) (x y : LiveState) (a : O) : Type 0 where
  count : ℕ
  moves : MovesOn gives [] count x y a a
  entered : List EnteredCall
  calls : y.tx.world.calls ≡ entered ++ x.tx.world.calls

ticked_by : {D O : Type 0} (faults : D → ℕ) (log : LogState D) (now : ℕ) (gives : Gives O) (a : O) (b : Bool) (x y : LiveState) → TicksUnless b faults log now x y → Ticked gives x y a
ticked_by faults log now gives a true x y same = record { count = 0; moves = (same, refl); entered = []; calls = ap (λ (s : LiveState). s.tx.world.calls) same }
ticked_by faults log now gives a false x y k =
    let mid = k.2 in
    let w = call_writes faults log (Tick x.number.t (passed x.time now)) k.0 k.1 x mid k.3 in
    let same = k.4 in
    let writes : Writes [] x y = record {
      written = w.written;
      grown = ap (λ (s : LiveState). past s) same ∙ w.grown;
      said = w.said;
      called = w.called;
      calls = ap (λ (s : LiveState). s.tx.world.calls) same ∙ w.calls;
    } in
    let taken : Takes [] x y = record {
      writes = writes;
      heard = ap (λ (s : LiveState). s.heard) same ∙ ap (λ (s : LiveState). s.heard) k.3.rest;
      number = ap (λ (s : LiveState). s.number) same ∙ ap (λ (s : LiveState). s.number) k.3.rest;
    } in
    record { count = suc zero; moves = (x, a, (refl, refl), inr (inl (taken, refl))); entered = writes.called; calls = writes.calls }

-- A turn, or a part of one, is moves of its transaction.
turn_moved : {D C O : Type 0} (faults : D → ℕ) (honest : Bool) (image : D → List ℕ → Type 0) (gives : Gives O) (t : TxId) (x passed done : LiveState) (old new : Standing D C) (a b : O) (u : Bool) → live_at t old.lives ≡ Some x
    → TicksUnless u faults old.log old.reading x passed → IsHeard gives [] passed done a b → ((y : LiveState) → live_at t new.lives ≡ Some y → y ≡ done) → HasRun honest image old.log x → HasRun honest image new.log done
    → KeepsRecords honest image (identifier_of_id t) old.log new.log → AreSame t old.lives new.lives → KeepsTime old new → IsMoved honest image gives [] t old new a b
turn_moved faults honest image gives t x passed done old new a b u was ticked heard now run_before run logged others time =
    let k = ticked_by faults old.log old.reading gives a u x passed ticked in
    let moves = chain_both gives [] k.count heard.count x passed done a a b k.moves heard.moves in
    let w = heard.writes in
    record {
      before = x;
      was = was;
      after = done;
      now = now;
      run_before = run_before;
      run = run;
      called = w.called ++ k.entered;
      calls = w.calls ∙ (ap (λ ks. w.called ++ ks) k.calls ∙ sym (append_assoc w.called k.entered x.tx.world.calls));
      count = moves.0;
      moves = moves.1;
      records = logged;
      others = others;
      last = time.1;
    }

-- What is asked of the objects, and the laws of the record.
pub record Laws {O : Type 0} (gives : Gives O) (place : O → Enlistment → Place) (keeps : O → Enlistment → Type 0) (leaves : O → List Site → Type 0) (sound : O → Type 0) : Type 0 where
  pub holders : AreHolders gives place keeps leaves sound
  pub votes : VotesLaw
  pub tells : TellsLaw
  pub epochs : EpochLaw

turned : {D C O : Type 0} (faults : D → ℕ) (honest : Bool) (image : D → List ℕ → Type 0) (gives : Gives O) (place : O → Enlistment → Place) (keeps : O → Enlistment → Type 0) (leaves : O → List Site → Type 0) (sound : O → Type 0)
    → Laws gives place keeps leaves sound → (t : TxId) (old new : Standing D C) (a b : O) → IsTrue honest → IsAllOrNothing image place keeps leaves sound old a → Turned faults honest image gives t old new a b
    → AreSame t old.lives new.lives → KeepsTime old new → IsAllOrNothing image place keeps leaves sound new b
unfolding turn_moved
turned {D} {C} {O} faults honest image gives place keeps leaves sound laws t old new a b is all turn others time = by (live_at t old.lives) refl
  where
    ended : (x : LiveState) (h : HadTurn faults honest image gives t x old new a b) (y : LiveState) → live_at t new.lives ≡ Some y → y ≡ h.done
    ended x h y at = elim h.ended [ inl on ↦ some_same (live_at t new.lives) y h.done at on | inr gone ↦ absurd (none_some y (live_at t new.lives) gone.0 at) ]

    by : (q : Option LiveState) → live_at t old.lives ≡ q → IsAllOrNothing image place keeps leaves sound new b
    by (Some x) at =
        let h = turn.0 x at in
        let moved = turn_moved faults honest image gives t x h.passed h.done old new a b _ at h.ticked h.heard (ended x h) h.run_before h.run h.logged others time in
        moved_on honest image gives place keeps leaves sound laws.holders laws.votes laws.tells laws.epochs [] t old new a b is all moved (all.tied t x at)
    by None at =
        let same = turn.1 at in
        subst (λ (s : Standing D C). IsAllOrNothing image place keeps leaves sound s b) (sym same.0) (subst (λ (o : O). IsAllOrNothing image place keeps leaves sound old o) (sym same.1) all)

-- So do turns one after the other,
turned_up_to : {D C O : Type 0} (faults : D → ℕ) (honest : Bool) (image : D → List ℕ → Type 0) (gives : Gives O) (place : O → Enlistment → Place) (keeps : O → Enlistment → Type 0) (leaves : O → List Site → Type 0) (sound : O → Type 0)
    → Laws gives place keeps leaves sound → (n : ℕ) (old new : Standing D C) (a b : O) → IsTrue honest → IsAllOrNothing image place keeps leaves sound old a → TurnedUpTo faults honest image gives n old new a b
    → IsAllOrNothing image place keeps leaves sound new b
turned_up_to {D} {C} {O} faults honest image gives place keeps leaves sound laws zero old new a b is all up =
    subst (λ (s : Standing D C). IsAllOrNothing image place keeps leaves sound s b) (sym up.0) (subst (λ (o : O). IsAllOrNothing image place keeps leaves sound old o) (sym up.1) all)
turned_up_to faults honest image gives place keeps leaves sound laws (suc n) old new a b is all up =
    let mid = up.1 in
    let m = up.2 in
    let before = turned_up_to faults honest image gives place keeps leaves sound laws n old mid a m is all up.4 in
    turned faults honest image gives place keeps leaves sound laws (standing_at up.0 mid.lives) mid new m b is before up.5 up.6 up.7

-- and a turn that failed.
stopped : {D C O : Type 0} (faults : D → ℕ) (honest : Bool) (image : D → List ℕ → Type 0) (gives : Gives O) (place : O → Enlistment → Place) (keeps : O → Enlistment → Type 0) (leaves : O → List Site → Type 0) (sound : O → Type 0)
    → Laws gives place keeps leaves sound → (t : TxId) (old new : Standing D C) (a b : O) → IsTrue honest → IsAllOrNothing image place keeps leaves sound old a → Stopped faults honest image gives t old new a b
    → AreSame t old.lives new.lives → KeepsTime old new → IsAllOrNothing image place keeps leaves sound new b
unfolding turn_moved
stopped {D} {C} {O} faults honest image gives place keeps leaves sound laws t old new a b is all stop others time = elim stop.2 [
  | inl same ↦ subst (λ (o : O). IsAllOrNothing image place keeps leaves sound new o) (sym same.2)
      (unchanged image place keeps leaves sound old new a (all_same t old.lives new.lives others (same.0 ∙ sym stop.1)) same.1 time.1 all)
  | inr h ↦ moved_on honest image gives place keeps leaves sound laws.holders laws.votes laws.tells laws.epochs [] t old new a b is all
      (turn_moved faults honest image gives t stop.0 h.passed h.done old new a b _ stop.1 h.ticked h.heard (λ y at. some_same (live_at t new.lives) y h.done at h.on) h.run_before h.run h.logged others time) (all.tied t stop.0 stop.1)
]

-- The time says nothing of what is held.
at_time : {D C O : Type 0} (image : D → List ℕ → Type 0) (place : O → Enlistment → Place) (keeps : O → Enlistment → Type 0) (leaves : O → List Site → Type 0) (sound : O → Type 0) (m : Standing D C) (c : C) (r : ℕ) (o : O)
    → IsAllOrNothing image place keeps leaves sound m o → IsAllOrNothing image place keeps leaves sound (record m { clock = c; reading = r }) o
at_time image place keeps leaves sound m c r o all = unchanged image place keeps leaves sound m (record m { clock = c; reading = r }) o (λ u. refl) refl refl all

pub pumped : {D C O : Type 0} (faults : D → ℕ) (honest : Bool) (image : D → List ℕ → Type 0) (gives : Gives O) (place : O → Enlistment → Place) (keeps : O → Enlistment → Type 0) (leaves : O → List Site → Type 0) (sound : O → Type 0)
    → Laws gives place keeps leaves sound → (k : ℕ) (m n : Standing D C) (c : C) (r : ℕ) (o p : O) → IsTrue honest → IsAllOrNothing image place keeps leaves sound m o
    → TurnedUpTo faults honest image gives k (record m { clock = c; reading = r }) n o p → IsAllOrNothing image place keeps leaves sound n p
pumped faults honest image gives place keeps leaves sound laws k m n c r o p is all up =
    turned_up_to faults honest image gives place keeps leaves sound laws k (record m { clock = c; reading = r }) n o p is (at_time image place keeps leaves sound m c r o all) up

pub pump_stopped : {D C O : Type 0} (faults : D → ℕ) (honest : Bool) (image : D → List ℕ → Type 0) (gives : Gives O) (place : O → Enlistment → Place) (keeps : O → Enlistment → Type 0) (leaves : O → List Site → Type 0) (sound : O → Type 0)
    → Laws gives place keeps leaves sound → (m n : Standing D C) (c : C) (r : ℕ) (o p : O) → IsTrue honest → IsAllOrNothing image place keeps leaves sound m o
    → StoppedAfter faults honest image gives (record m { clock = c; reading = r }) n o p → IsAllOrNothing image place keeps leaves sound n p
pump_stopped faults honest image gives place keeps leaves sound laws m n c r o p is all k =
    let mid = k.2 in
    let before = turned_up_to faults honest image gives place keeps leaves sound laws k.0 (record m { clock = c; reading = r }) mid o k.3 is (at_time image place keeps leaves sound m c r o all) k.5 in
    stopped faults honest image gives place keeps leaves sound laws (standing_at k.1 mid.lives) mid n k.3 p is before k.6 k.7 k.8

-- ---- the end of a scope

-- a transaction was committed or rolled back
concluded : {D C O : Type 0} (honest : Bool) (image : D → List ℕ → Type 0) (gives : Gives O) (place : O → Enlistment → Place) (keeps : O → Enlistment → Type 0) (leaves : O → List Site → Type 0) (sound : O → Type 0)
    → Laws gives place keeps leaves sound → (t : TxId) (old new : Standing D C) (a b : O) → IsTrue honest → IsAllOrNothing image place keeps leaves sound old a → IsConcluded honest image gives t old new a b
    → IsAllOrNothing image place keeps leaves sound new b
concluded {D} {C} {O} honest image gives place keeps leaves sound laws t old new a b is all h = by (live_at t old.lives) refl
  where
    by : (q : Option LiveState) → live_at t old.lives ≡ q → IsAllOrNothing image place keeps leaves sound new b
    by (Some x) at =
        let z = h.heard x at in
        let call : IsCall honest image gives [] t old new a b =
        record { before = x; was = at; after = z.0; now = z.1; run_before = h.run_before x at; run = h.run z.0 z.1; heard = h.heard; others = h.others; last = h.time.1 } in
        called honest image gives place keeps leaves sound laws.holders laws.votes laws.tells laws.epochs [] t old new a b is all call (all.tied t)
    by None at =
        let none = h.nobody at in
        subst (λ (o : O). IsAllOrNothing image place keeps leaves sound new o) (sym none.2)
        (unchanged image place keeps leaves sound old new a (all_same t old.lives new.lives h.others (none.0 ∙ sym at)) none.1 h.time.1 all)

-- a transaction that nobody holds any more is as it was, where it goes on
pub left_so : (t : TxId) (x z : LiveState) (xs : List LiveState) → live_at t xs ≡ Some z → IsLeft t x xs → z ≡ record x { usage = z.usage }
left_so t x z xs at (inl on) = used (some_same (live_at t xs) z (record x { usage = LeftUsage }) at on)
  where
    used : z ≡ record x { usage = LeftUsage } → z ≡ record x { usage = z.usage }
    used e = e ∙ ap (λ v. record x { usage = v }) (sym (ap (λ (s : LiveState). s.usage) e))
left_so t x z xs at (inr gone) = absurd (none_some z (live_at t xs) gone.0 at)

-- a transaction was left by its holder
let_go : {D C O : Type 0} (image : D → List ℕ → Type 0) (place : O → Enlistment → Place) (keeps : O → Enlistment → Type 0) (leaves : O → List Site → Type 0) (sound : O → Type 0) (q : Option TxId) (m n : Standing D C) (o : O)
    → IsAllOrNothing image place keeps leaves sound m o → IsLetGo q m n → IsAllOrNothing image place keeps leaves sound n o
let_go image place keeps leaves sound (Some t) m n o all c =
    given_up image place keeps leaves sound t m n o all (record { left = λ z at. by z at (live_at t m.lives) refl; others = c.others; rest = c.rest })
  where
    by : (z : LiveState) → live_at t n.lives ≡ Some z → (p : Option LiveState) → live_at t m.lives ≡ p → (x : LiveState) × (live_at t m.lives ≡ Some x) × (z ≡ record x { usage = z.usage })
    by z at (Some x) was = (x, was, left_so t x z n.lives at ((c.left t refl).0 x was))
    by z at None was = absurd (none_some z (live_at t n.lives) ((c.left t refl).1 was) at)
let_go image place keeps leaves sound None m n o all c =
    unchanged image place keeps leaves sound m n o c.others (ap (λ (s : Standing _ _). s.log) c.rest) (ap (λ (s : Standing _ _). s.last) c.rest) all

-- So do all steps of what comes of a scope.
scope_in : {D C O : Type 0} (honest : Bool) (image : D → List ℕ → Type 0) (gives : Gives O) (place : O → Enlistment → Place) (keeps : O → Enlistment → Type 0) (leaves : O → List Site → Type 0) (sound : O → Type 0)
    → Laws gives place keeps leaves sound → (k : ℕ) (m n : Standing D C) (o p : O) → IsTrue honest → IsAllOrNothing image place keeps leaves sound m o → ConcludesIn honest image gives k m n o p
    → IsAllOrNothing image place keeps leaves sound n p
scope_in {D} {C} {O} honest image gives place keeps leaves sound laws zero m n o p is all c =
    subst (λ (s : Standing D C). IsAllOrNothing image place keeps leaves sound s p) (sym c.0) (subst (λ (q : O). IsAllOrNothing image place keeps leaves sound m q) (sym c.1) all)
scope_in {D} {C} {O} honest image gives place keeps leaves sound laws (suc k) m n o p is all c = elim c.3 [
  | inl step ↦ concluded honest image gives place keeps leaves sound laws step.0 c.0 n c.1 p is (scope_in honest image gives place keeps leaves sound laws k m c.0 o c.1 is all c.2) step.1
  | inr step ↦ subst (λ (q : O). IsAllOrNothing image place keeps leaves sound n q) (sym step.2)
      (let_go image place keeps leaves sound step.0 c.0 n c.1 (scope_in honest image gives place keeps leaves sound laws k m c.0 o c.1 is all c.2) step.1)
]

pub scope_ended : {D C O : Type 0} (honest : Bool) (image : D → List ℕ → Type 0) (gives : Gives O) (place : O → Enlistment → Place) (keeps : O → Enlistment → Type 0) (leaves : O → List Site → Type 0) (sound : O → Type 0)
    → Laws gives place keeps leaves sound → (m n : Standing D C) (o p : O) → IsTrue honest → IsAllOrNothing image place keeps leaves sound m o → ConcludesAll honest image gives m n o p
    → IsAllOrNothing image place keeps leaves sound n p
scope_ended honest image gives place keeps leaves sound laws m n o p is all c = scope_in honest image gives place keeps leaves sound laws c.0 m n o p is all c.1
