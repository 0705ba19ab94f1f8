-- A call of a manager keeps all or nothing: for its transaction, and for every other.
use Rattle.std.specs.Prelude.{IsTrue, if◌then◌else◌}
use Rattle.std.proofs.Common.{◌≡◌, inl, inr, ◌≤◌, ◌<◌, ◌-◌, ℕ, zero, suc, Bool, true, false, ◌==◌, List, [], ◌++◌, Option, Some, None, slice_get, refl, ap, subst, sym, ◌∙◌, arith}
use Rattle.std.proofs.lemmas.Bool.{eqb-true}
use Rattle.std.proofs.lemmas.Bool.Decides.{nat_tests}
use Rattle.dtx_values.proofs.Ids.{same_id}
use Rattle.dtx_values.specs.TxIds.{identifier_of_id, number_of}
use Rattle.dtx_values.specs.declared.call.Call.TheVariants.{Clone}
use Rattle.dtx_values.specs.declared.number.EnlNo.{EnlNo}
use Rattle.coordinator_log.specs.State.{LogState}
use Rattle.dtx_values.specs.declared.tx_id.TxId.{TxId}
use Rattle.dtx_model.specs.declared.waiting.EnteredCall.{EnteredCall}
use Rattle.dtx_model.specs.Log.{CommitRecord}
use Rattle.dtx_model.specs.Caused.{AreMadeOnce, IsIn, IsOwnRun}
use Rattle.dtx_model.specs.World.{World}
use Rattle.record_laws.proofs.LastingManagers.{of_stays, volatile_stays}
use Rattle.recovery_laws.specs.Whole.{Site, is_whole}
use Rattle.resource_managers.specs.Pairs.{enlistment}
use Rattle.resource_managers.specs.declared.enlistment.Enlistment.{Enlistment}
use Rattle.transactions.specs.Hearing.{Given, MovesOn, Takes}
use Rattle.transactions.specs.Keeping.{HasRun}
use Rattle.transactions.specs.Logged.{KeepsRecords, MayHold}
use Rattle.transactions.specs.Slots.{AreSame, Standing, is_live, live_at, live_in}
use Rattle.transactions.specs.State.{LiveState, past}
use Rattle.transactions.specs.Enlisting.{enlists}
use Rattle.transactions.proofs.Entering.{call_writes, some_same}
use Rattle.transactions.proofs.InOrder.{order_of_others}
use Rattle.world_parts.specs.AtLog.{AtMostOne}
use Rattle.all_or_nothing.specs.Marks.{At, Nowhere, Passing, Place}
use Rattle.all_or_nothing.specs.Objects.{AreHolders}
use Rattle.all_or_nothing.specs.Whole.{AreReady, IsAllOrNothing, IsCall, IsEntered, IsEntry, IsGivenUp, IsRouted, IsTiedTo, heard_of}
use Rattle.all_or_nothing.proofs.Apart.{KeepsOthers, moves_apart, tied_apart}
use Rattle.all_or_nothing.proofs.Called.{EpochLaw, TellsLaw, VotesLaw, different, knows, one_record, turn, whole_itself, whole_other}
use Rattle.transactions.proofs.Driving.{Gives}
use Rattle.all_or_nothing.proofs.Moved.{says_written}
use Rattle.all_or_nothing.proofs.Moving.{NotesOnce}
use Rattle.all_or_nothing.proofs.Tied.{tied_on}
use Rattle.all_or_nothing.proofs.Turned.{moves_on}

-- a transaction that goes on has its number
pub live_number : (t : TxId) (xs : List LiveState) (x : LiveState) → live_at t xs ≡ Some x → x.number ≡ t
live_number t xs x k = by (slice_get xs (t.t.value - 1)) k
  where
    there : (y : LiveState) (b : Bool) → is_live t y ≡ b → (if b then Some y else None) ≡ Some x → x.number ≡ t
    there y true is e =
        let same : y ≡ x = cc in
        ap (λ (s : LiveState). s.number) (sym same) ∙ Rattle.transactions.proofs.Standing.live_number t y is
    there y false is e = absurd cc

    by : (o : Option LiveState) → live_in t o ≡ Some x → x.number ≡ t
    by (Some y) e = there y (is_live t y) refl e
    by None e = absurd cc

-- an enlistment may be heard where it might before
routed_stays : (t : ℕ) (v w : World) (more : List EnteredCall) (e : ℕ) (p : Place) → AreMadeOnce (IsIn w.calls) → IsOwnRun t w → w.calls ≡ more ++ v.calls → IsRouted v e p → IsRouted w e p
routed_stays t v w more e (At m) once run calls k = of_stays t v w more m e once run calls k
routed_stays t v w more e Passing once run calls k = volatile_stays v w more e calls k
routed_stays t v w more e Nowhere once run calls k = tt

-- What is known of a call of any kind, with these replies from outside: what it came to, move by move, and what it left of the records of the log. The transaction goes on so, or was taken off.
pub record IsMoved {D C O : Type 0} (honest : Bool) (image : D → List ℕ → Type 0) (gives : Gives O) (given : List Given) (t : TxId) (m n : Standing D C) (o p : O) : Type 0 where
  pub before : LiveState
  pub was : live_at t m.lives ≡ Some before
  pub after : LiveState
  pub now : (y : LiveState) → live_at t n.lives ≡ Some y → y ≡ after
  pub run_before : HasRun honest image m.log before
  pub run : HasRun honest image n.log after
  pub called : List EnteredCall
  pub calls : after.tx.world.calls ≡ called ++ before.tx.world.calls
  pub count : ℕ
  pub moves : MovesOn gives given count before after o p
  pub records : KeepsRecords honest image (identifier_of_id t) m.log n.log
  pub others : AreSame t m.lives n.lives
  pub last : n.last ≡ m.last

-- a call of which objects hear is such a call
of_call : {D C O : Type 0} (honest : Bool) (image : D → List ℕ → Type 0) (gives : Gives O) (given : List Given) (t : TxId) (m n : Standing D C) (o p : O) → IsCall honest image gives given t m n o p
    → IsMoved honest image gives given t m n o p
of_call honest image gives given t m n o p c =
    let h = c.heard c.before c.was in
    let same : h.0 ≡ c.after = some_same (live_at t n.lives) h.0 c.after h.1 c.now in
    record {
      before = c.before;
      was = c.was;
      after = c.after;
      now = λ y at. some_same (live_at t n.lives) y c.after at c.now;
      run_before = c.run_before;
      run = c.run;
      called = h.2.writes.called;
      calls = subst (λ (z : LiveState). z.tx.world.calls ≡ h.2.writes.called ++ c.before.tx.world.calls) same h.2.writes.calls;
      count = h.2.count;
      moves = subst (λ z. MovesOn gives given h.2.count c.before z o p) same h.2.moves;
      records = h.3;
      others = c.others;
      last = c.last;
    }

-- what enters writes no reply, and nobody hears of it
entered_so : {D : Type 0} (faults : D → ℕ) (log : LogState D) (x z : LiveState) → IsEntered faults log x z → Takes [] x z
entered_so faults log x z (inl k) =
    let c = k.3 in
    record { writes = call_writes faults log k.0 k.1 k.2 x z c; heard = ap (λ (s : LiveState). s.heard) c.rest; number = ap (λ (s : LiveState). s.number) c.rest }
entered_so faults log x z (inr (inl k)) =
    let c = k.4.called in
    let w = call_writes faults log (enlists x.number.t k.1 k.0) k.2 k.3 (record x { enlisted = k.1.value }) z c in
    record {
      writes = record { written = w.written; grown = w.grown; said = w.said; called = w.called; calls = w.calls };
      heard = ap (λ (s : LiveState). s.heard) c.rest;
      number = ap (λ (s : LiveState). s.number) c.rest;
    }
entered_so faults log x z (inr (inr (inl k))) =
    let c = k.3.called in
    let w = call_writes faults log (Clone x.number.t k.1 k.0) k.3.line k.2 (record x { cloned = k.1.value }) z c in
    record {
      writes = record { written = w.written; grown = w.grown; said = w.said; called = w.called; calls = w.calls };
      heard = ap (λ (s : LiveState). s.heard) c.rest;
      number = ap (λ (s : LiveState). s.number) c.rest;
    }
entered_so faults log x z (inr (inr (inr same))) =
    record {
      writes = record { written = []; grown = ap (λ (s : LiveState). past s) same; said = refl; called = []; calls = ap (λ (s : LiveState). s.tx.world.calls) same };
      heard = ap (λ (s : LiveState). s.heard) same;
      number = ap (λ (s : LiveState). s.number) same;
    }

-- so that is such a call too
of_entry : {D C O : Type 0} (honest : Bool) (image : D → List ℕ → Type 0) (faults : D → ℕ) (gives : Gives O) (t : TxId) (m n : Standing D C) (o : O) → IsEntry honest image faults t m n → IsMoved honest image gives [] t m n o o
of_entry honest image faults gives t m n o c =
    let x = c.before in
    let z = c.after in
    let taken = entered_so faults m.log x z c.entered in
    record {
      before = x;
      was = c.was;
      after = z;
      now = λ y at. some_same (live_at t n.lives) y z at c.now;
      run_before = c.run_before;
      run = c.run;
      called = taken.writes.called;
      calls = taken.writes.calls;
      count = suc zero;
      moves = (x, o, (refl, refl), inr (inl (taken, refl)));
      records = λ is rs may. (rs, subst (λ l. MayHold image l rs) (ap (λ (s : Standing _ _). s.log) c.rest) may, refl);
      others = c.others;
      last = ap (λ (s : Standing _ _). s.last) c.rest;
    }

-- what is tied with what is to be said is tied without it
given_no_more : {O : Type 0} (place : O → Enlistment → Place) (keeps : O → Enlistment → Type 0) (leaves : O → List Site → Type 0) (gs : List Given) (z : LiveState) (o : O) → IsTiedTo place keeps leaves gs z o
    → IsTiedTo place keeps leaves [] z o
given_no_more place keeps leaves gs z o tied =
    tied_on (number_of z.number) (λ e. place o (enlistment z.number e)) (λ e. keeps o (enlistment z.number e)) (leaves o) gs [] (past z) (past z) (heard_of z) (heard_of z) (λ p k. k)
    (says_written gs [] (past z) [] refl (λ p e k. absurd cc)) tied

-- What a call left, and what is known of its transaction. No note came twice to an enlistment.
pub record Left {D C O : Type 0} (honest : Bool) (image : D → List ℕ → Type 0) (place : O → Enlistment → Place) (keeps : O → Enlistment → Type 0) (leaves : O → List Site → Type 0) (sound : O → Type 0) (t : TxId) (m n : Standing D C) (o p : O) (z : LiveState) : Type 0 where
  pub now : (y : LiveState) → live_at t n.lives ≡ Some y → y ≡ z
  pub once : NotesOnce (λ e. place o (enlistment t e)) (past z)
  moved : IsTiedTo place keeps leaves [] z p
  number : z.number ≡ t
  routed : (e : EnlNo) → IsRouted z.tx.world e.value (place p (enlistment t e))
  one : (rs : List CommitRecord) → MayHold image n.log rs → AtMostOne (identifier_of_id t) rs
  others : KeepsOthers place keeps leaves sound (number_of t) o p
  records : KeepsRecords honest image (identifier_of_id t) m.log n.log
  whole : (rs : List CommitRecord) → MayHold image n.log rs → (ss : List Site) → leaves p ss → is_whole rs ss (number_of t) ≡ true

pub left_by : {D C O : Type 0} (honest : Bool) (image : D → List ℕ → Type 0) (gives : Gives O) (place : O → Enlistment → Place) (keeps : O → Enlistment → Type 0) (leaves : O → List Site → Type 0) (sound : O → Type 0)
    → AreHolders gives place keeps leaves sound → VotesLaw → TellsLaw → (given : List Given) (t : TxId) (m n : Standing D C) (o p : O) → IsTrue honest → IsAllOrNothing image place keeps leaves sound m o
    → (c : IsMoved honest image gives given t m n o p) → IsTiedTo place keeps leaves given c.before o → (z : LiveState) × Left honest image place keeps leaves sound t m n o p z
left_by honest image gives place keeps leaves sound holders votes tells given t m n o p is all c ready =
    let x = c.before in
    let z = c.after in
    let run = c.run in
    let mine : x.number ≡ t = live_number t m.lives x c.was in
    let apart = moves_apart gives place keeps leaves sound holders given c.count x z o p c.moves all.memory in
    let number : z.number ≡ t = apart.1 ∙ mine in
    let others : KeepsOthers place keeps leaves sound (number_of t) o p = subst (λ u. KeepsOthers place keeps leaves sound (number_of u) o p) mine apart.0 in
    let routed : (e : EnlNo) → IsRouted z.tx.world e.value (place p (enlistment t e)) =
    (λ e. routed_stays (number_of z.tx.transaction) x.tx.world z.tx.world c.called e.value (place p (enlistment t e)) run.once run.run c.calls
    (subst (IsRouted x.tx.world e.value) (sym (apart.0.places (enlistment t e))) (all.routed t x c.was e))) in
    let routes : (e : EnlNo) → IsRouted z.tx.world e.value (place p (enlistment z.number e)) = subst (λ u. (e : EnlNo) → IsRouted z.tx.world e.value (place p (enlistment u e))) (sym number) routed in
    let known = knows honest image gives place keeps leaves sound holders votes tells n.log z p apart.0.memory run routes in
    let once : NotesOnce (λ e. place o (enlistment x.number e)) (past z) = record {
      new = known.tells.new;
      alone = λ e f k hand at.
          let there : place p (enlistment z.number f) ≡ At k = apart.0.places (enlistment z.number f) ∙ (ap (λ u. place o (enlistment u f)) apart.1 ∙ at) in
          (known.tells.alone e k f.value hand (known.routes f k there)).0;
    } in
    let moved = moves_on gives place keeps leaves sound holders given c.count x z o p c.moves all.memory c.run_before.sound.within once ready in
    let tied : IsTiedTo place keeps leaves [] z p = given_no_more place keeps leaves given z p moved.tied in (
      z,
      record {
        now = c.now;
        once = subst (λ u. NotesOnce (λ e. place o (enlistment u e)) (past z)) mine once;
        moved = tied;
        number = number;
        routed = routed;
        one = λ rs may. subst (λ (u : TxId). AtMostOne (identifier_of_id u) rs) number (one_record honest image n.log z is run rs may);
        others = others;
        records = c.records;
        whole = λ rs may ss l. subst (λ u. is_whole rs ss (number_of u) ≡ true) number (whole_itself honest image place keeps leaves n.log z p is run known tied rs may ss l);
      },
    )

-- A call keeps all or nothing.
pub moved_on : {D C O : Type 0} (honest : Bool) (image : D → List ℕ → Type 0) (gives : Gives O) (place : O → Enlistment → Place) (keeps : O → Enlistment → Type 0) (leaves : O → List Site → Type 0) (sound : O → Type 0)
    → AreHolders gives place keeps leaves sound → VotesLaw → TellsLaw → EpochLaw → (given : List Given) (t : TxId) (m n : Standing D C) (o p : O) → IsTrue honest → IsAllOrNothing image place keeps leaves sound m o
    → (c : IsMoved honest image gives given t m n o p) → IsTiedTo place keeps leaves given c.before o → IsAllOrNothing image place keeps leaves sound n p
moved_on honest image gives place keeps leaves sound holders votes tells epochs given t m n o p is all c ready = record {
  whole = λ rs may ss l u. whole rs may ss l u (number_of t == number_of u) refl;
  ordered = λ rs may. let q = left.records is rs may in order_of_others t rs q.0 (epochs t) q.2 (left.one rs may) (all.ordered q.0 q.1);
  tied = λ u y at. tied u y at (number_of t == number_of u) refl;
  routed = λ u y at. routed u y at (number_of t == number_of u) refl;
  begun = λ u y at. begun u y at (number_of t == number_of u) refl;
  new = λ u above ss l j e. let was = left.others.left ss l in was.2 j (number_of u) e (beyond u above) ∙ all.new u (subst (λ k. k < number_of u) c.last above) was.0 was.1 j e;
  memory = left.others.memory;
}
  where
    made : (z : LiveState) × Left honest image place keeps leaves sound t m n o p z
    made = left_by honest image gives place keeps leaves sound holders votes tells given t m n o p is all c ready

    left : Left honest image place keeps leaves sound t m n o p made.0
    left = made.1

    same : (u : TxId) → (number_of t == number_of u) ≡ true → t ≡ u
    same u k = same_id t u (eqb-true (number_of t) (number_of u) k)

    this : (u : TxId) (y : LiveState) → live_at u n.lives ≡ Some y → (number_of t == number_of u) ≡ true → y ≡ made.0
    this u y at k = left.now y (subst (λ v. live_at v n.lives ≡ Some y) (sym (same u k)) at)

    before : (u : TxId) (y : LiveState) → live_at u n.lives ≡ Some y → (number_of t == number_of u) ≡ false → live_at u m.lives ≡ Some y
    before u y at off = sym (c.others u (different t u off)) ∙ at

    whole : (rs : List CommitRecord) → MayHold image n.log rs → (ss : List Site) → leaves p ss → (u : TxId) (b : Bool) → (number_of t == number_of u) ≡ b → is_whole rs ss (number_of u) ≡ true
    whole rs may ss l u true k = subst (λ v. is_whole rs ss (number_of v) ≡ true) (same u k) (left.whole rs may ss l)
    whole rs may ss l u false k =
        whole_other honest image place keeps leaves sound m.log n.log (number_of t) (number_of u) o p is left.records left.others k (λ qs q old w. all.whole qs q old w u) rs may ss l

    tied : (u : TxId) (y : LiveState) → live_at u n.lives ≡ Some y → (b : Bool) → (number_of t == number_of u) ≡ b → IsTiedTo place keeps leaves [] y p
    tied u y at true k = subst (λ s. IsTiedTo place keeps leaves [] s p) (sym (this u y at k)) left.moved
    tied u y at false k =
        let was = before u y at k in
        let mine : y.number ≡ u = live_number u m.lives y was in
        let off : (number_of t == number_of y.number) ≡ false = subst (λ v. (number_of t == number_of v) ≡ false) (sym mine) k in
        tied_apart place keeps leaves sound (number_of t) y.number [] (past y) (heard_of y) o p left.others off (turn (number_of t) (number_of y.number) off) (all.tied u y was)

    routed : (u : TxId) (y : LiveState) → live_at u n.lives ≡ Some y → (b : Bool) → (number_of t == number_of u) ≡ b → (e : EnlNo) → IsRouted y.tx.world e.value (place p (enlistment u e))
    routed u y at true k e =
        subst (λ (s : LiveState). IsRouted s.tx.world e.value (place p (enlistment u e))) (sym (this u y at k))
        (subst (λ v. IsRouted made.0.tx.world e.value (place p (enlistment v e))) (same u k) (left.routed e))
    routed u y at false k e = subst (IsRouted y.tx.world e.value) (sym (left.others.places (enlistment u e))) (all.routed u y (before u y at k) e)

    begun : (u : TxId) (y : LiveState) → live_at u n.lives ≡ Some y → (b : Bool) → (number_of t == number_of u) ≡ b → number_of u ≤ n.last
    begun u y at true k = subst (λ (v : TxId). number_of v ≤ n.last) (same u k) (subst (λ j. number_of t ≤ j) (sym c.last) (all.begun t c.before c.was))
    begun u y at false k = subst (λ j. number_of u ≤ j) (sym c.last) (all.begun u y (before u y at k))

    beyond : (u : TxId) → n.last < number_of u → (number_of t == number_of u) ≡ false
    beyond u above = let low = all.begun t c.before c.was in let last = c.last in grind (arith, nat_tests)

-- A call of which objects hear.
pub called : {D C O : Type 0} (honest : Bool) (image : D → List ℕ → Type 0) (gives : Gives O) (place : O → Enlistment → Place) (keeps : O → Enlistment → Type 0) (leaves : O → List Site → Type 0) (sound : O → Type 0)
    → AreHolders gives place keeps leaves sound → VotesLaw → TellsLaw → EpochLaw → (given : List Given) (t : TxId) (m n : Standing D C) (o p : O) → IsTrue honest → IsAllOrNothing image place keeps leaves sound m o
    → IsCall honest image gives given t m n o p → AreReady place keeps leaves given t m o → IsAllOrNothing image place keeps leaves sound n p
unfolding of_call
called honest image gives place keeps leaves sound holders votes tells epochs given t m n o p is all c ready =
    moved_on honest image gives place keeps leaves sound holders votes tells epochs given t m n o p is all (of_call honest image gives given t m n o p c) (ready c.before c.was)

-- A transaction that is given up stays as it is.
pub given_up : {D C O : Type 0} (image : D → List ℕ → Type 0) (place : O → Enlistment → Place) (keeps : O → Enlistment → Type 0) (leaves : O → List Site → Type 0) (sound : O → Type 0) (t : TxId) (m n : Standing D C) (o : O)
    → IsAllOrNothing image place keeps leaves sound m o → IsGivenUp t m n → IsAllOrNothing image place keeps leaves sound n o
given_up image place keeps leaves sound t m n o all c = record {
  whole = λ rs may. all.whole rs (subst (λ l. MayHold image l rs) log may);
  ordered = λ rs may. all.ordered rs (subst (λ l. MayHold image l rs) log may);
  tied = λ u y at. tied u y at (number_of t == number_of u) refl;
  routed = λ u y at. routed u y at (number_of t == number_of u) refl;
  begun = λ u y at. subst (λ k. number_of u ≤ k) (sym last) (begun u y at (number_of t == number_of u) refl);
  new = λ u above. all.new u (subst (λ k. k < number_of u) last above);
  memory = all.memory;
}
  where
    log : n.log ≡ m.log
    log = ap (λ (s : Standing _ _). s.log) c.rest

    last : n.last ≡ m.last
    last = ap (λ (s : Standing _ _). s.last) c.rest

    before : (u : TxId) (y : LiveState) → live_at u n.lives ≡ Some y → (number_of t == number_of u) ≡ false → live_at u m.lives ≡ Some y
    before u y at off = sym (c.others u (different t u off)) ∙ at

    itself : (u : TxId) → (number_of t == number_of u) ≡ true → t ≡ u
    itself u k = same_id t u (eqb-true (number_of t) (number_of u) k)

    tied : (u : TxId) (y : LiveState) → live_at u n.lives ≡ Some y → (b : Bool) → (number_of t == number_of u) ≡ b → IsTiedTo place keeps leaves [] y o
    tied u y at true k =
        let x = c.left y (subst (λ v. live_at v n.lives ≡ Some y) (sym (itself u k)) at) in
        subst (λ s. IsTiedTo place keeps leaves [] s o) (sym x.2) (all.tied t x.0 x.1)
    tied u y at false k = all.tied u y (before u y at k)

    routed : (u : TxId) (y : LiveState) → live_at u n.lives ≡ Some y → (b : Bool) → (number_of t == number_of u) ≡ b → (e : EnlNo) → IsRouted y.tx.world e.value (place o (enlistment u e))
    routed u y at true k e =
        let x = c.left y (subst (λ v. live_at v n.lives ≡ Some y) (sym (itself u k)) at) in
        subst (λ (s : LiveState). IsRouted s.tx.world e.value (place o (enlistment u e))) (sym x.2) (subst (λ v. IsRouted x.0.tx.world e.value (place o (enlistment v e))) (itself u k) (all.routed t x.0 x.1 e))
    routed u y at false k e = all.routed u y (before u y at k) e

    begun : (u : TxId) (y : LiveState) → live_at u n.lives ≡ Some y → (b : Bool) → (number_of t == number_of u) ≡ b → number_of u ≤ m.last
    begun u y at true k = let x = c.left y (subst (λ v. live_at v n.lives ≡ Some y) (sym (itself u k)) at) in subst (λ (v : TxId). number_of v ≤ m.last) (itself u k) (all.begun t x.0 x.1)
    begun u y at false k = all.begun u y (before u y at k)

-- A call that only enters.
pub entered : {D C O : Type 0} (honest : Bool) (image : D → List ℕ → Type 0) (faults : D → ℕ) (gives : Gives O) (place : O → Enlistment → Place) (keeps : O → Enlistment → Type 0) (leaves : O → List Site → Type 0) (sound : O → Type 0)
    → AreHolders gives place keeps leaves sound → VotesLaw → TellsLaw → EpochLaw → (t : TxId) (m n : Standing D C) (o : O) → IsTrue honest → IsAllOrNothing image place keeps leaves sound m o
    → IsEntry honest image faults t m n → IsAllOrNothing image place keeps leaves sound n o
unfolding of_entry
entered honest image faults gives place keeps leaves sound holders votes tells epochs t m n o is all c =
    moved_on honest image gives place keeps leaves sound holders votes tells epochs [] t m n o o is all (of_entry honest image faults gives t m n o c) (all.tied t c.before c.was)
