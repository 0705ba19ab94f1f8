-- A call of a manager keeps all or nothing.
use Rattle.std.specs.Prelude.{IsTrue, IfOk, Result, Ok, Err}
use Rattle.std.proofs.Common.{◌≡◌, ◌≢◌, inl, inr, ℕ, Bool, true, false, not, ◌&&◌, ◌||◌, ◌==◌, List, [], Option, Some, None, is_some, refl, ap, subst, sym, ◌∙◌, arith}
use Rattle.std.proofs.lemmas.Bool.{false_from_ne_true, or_left}
use Rattle.std.proofs.lemmas.Bool.Decides.{nat_tests}
use Rattle.coordinator_core.specs.Acting.{record_for}
use Rattle.coordinator_log.specs.State.{LogState}
use Rattle.dtx_values.specs.TxIds.{identifier_of_id, number_of}
use Rattle.dtx_values.specs.declared.entry.Entry.{Entry}
use Rattle.dtx_values.specs.declared.number.EnlNo.{EnlNo}
use Rattle.dtx_values.specs.declared.tx_id.TxId.{TxId}
use Rattle.dtx_model.proofs.Bools.{not_both, not_true, or_case, or_right}
use Rattle.dtx_model.specs.AtLog.{is_restart}
use Rattle.dtx_model.specs.Caused.{AreMadeOnce, IsIn, IsOwnRun}
use Rattle.dtx_model.specs.Log.{CommitRecord, first_of, log_has}
use Rattle.dtx_model.specs.Promotes.{identifier_of}
use Rattle.dtx_model.specs.Tied.{before_first_stop, before_last_stop, can_free, can_log, has_mark, is_logged, is_unmarked, mark_of}
use Rattle.dtx_model.specs.Words.{has, latest}
use Rattle.dtx_model.specs.World.{World, core}
use Rattle.record_laws.proofs.LastingManagers.{volatile_alone}
use Rattle.record_laws.specs.Recorded.{IsOf, IsVolatile, RecordsVotes, TellsByRecord, is_free_tried, is_freed, is_record_tried, is_recovered}
use Rattle.log_epochs.specs.Epochs.{is_epoch}
use Rattle.recovery_laws.specs.Whole.{Site, is_whole, is_whole_by}
use Rattle.resource_managers.specs.Pairs.{enlistment}
use Rattle.resource_managers.specs.declared.enlistment.Enlistment.{Enlistment}
use Rattle.tx_world.specs.AtLog.{Fits, Tie, id_of}
use Rattle.world_parts.specs.AtLog.{AtMostOne}
use Rattle.transactions.specs.Keeping.{HasRun}
use Rattle.transactions.specs.Logged.{KeepsRecords, MayHold}
use Rattle.transactions.specs.State.{LiveState, past}
use Rattle.transactions.proofs.Untouched.{first_stays}
use Rattle.all_or_nothing.specs.Marks.{At, Passing, Place}
use Rattle.all_or_nothing.specs.Objects.{AreHolders}
use Rattle.all_or_nothing.specs.Whole.{IsRouted, IsTiedTo, heard_of}
use Rattle.all_or_nothing.proofs.Apart.{KeepsOthers}
use Rattle.transactions.proofs.Driving.{Gives}
use Rattle.all_or_nothing.proofs.Entries.{heard_within}
use Rattle.all_or_nothing.proofs.Same.{whole_same}
use Rattle.all_or_nothing.proofs.Wholly.{Knows, whole_by_record, whole_without}

-- the laws of the record, which a caller has
abbrev pub VotesLaw : Type 0
VotesLaw = (t : ℕ) (w : World) → AreMadeOnce (IsIn w.calls) → IsOwnRun t w → has is_restart w.past ≡ false → RecordsVotes t w

abbrev pub TellsLaw : Type 0
TellsLaw = (t : ℕ) (w : World) → AreMadeOnce (IsIn w.calls) → IsOwnRun t w → has is_restart w.past ≡ false → has is_recovered w.past ≡ false → TellsByRecord w

-- and that no transaction's identifier is an epoch's
abbrev pub EpochLaw : Type 0
EpochLaw = (t : TxId) → is_epoch (identifier_of_id t) ≡ false

-- ---- the transaction itself

-- who is heard at a resource is its manager's, and who is in passing is volatile
pub at_manager : (w : World) (e m : ℕ) (p : Place) → p ≡ At m → IsRouted w e p → IsOf w m e
at_manager w e m p at k = subst (IsRouted w e) at k

in_passing : (w : World) (e : ℕ) (p : Place) → p ≡ Passing → IsRouted w e p → IsVolatile w e
in_passing w e p at k = subst (IsRouted w e) at k

-- what is known of it
pub knows : {D O : Type 0} (honest : Bool) (image : D → List ℕ → Type 0) (gives : Gives O) (place : O → Enlistment → Place) (keeps : O → Enlistment → Type 0) (leaves : O → List Site → Type 0) (sound : O → Type 0) → AreHolders gives place keeps leaves sound
    → VotesLaw → TellsLaw → (log : LogState D) (z : LiveState) (o : O) → sound o → HasRun honest image log z
    → ((e : EnlNo) → IsRouted z.tx.world e.value (place o (enlistment z.number e)))
    → Knows (number_of z.tx.transaction) z.tx.world (λ e. place o (enlistment z.number e)) (λ e. keeps o (enlistment z.number e)) (leaves o) (number_of z.number) (heard_of z)
knows honest image gives place keeps leaves sound holders votes tells log z o memory run routed = record {
  votes = votes (number_of z.tx.transaction) z.tx.world run.once run.run run.sound.unrestarted;
  tells = tells (number_of z.tx.transaction) z.tx.world run.once run.run run.sound.unrestarted run.sound.unrecovered;
  within = heard_within z;
  routes = λ e m at. at_manager z.tx.world e.value m (place o (enlistment z.number e)) at (routed e);
  passes = λ e m at of. volatile_alone (number_of z.tx.transaction) z.tx.world m e.value run.once run.run (in_passing z.tx.world e.value (place o (enlistment z.number e)) at (routed e)) of;
  held = λ e m k at ss l. holders.held o (enlistment z.number e) m memory k at ss l;
}

-- so it is whole, by the record that the log may have of it
whole_by : {D O : Type 0} (honest : Bool) (image : D → List ℕ → Type 0) (place : O → Enlistment → Place) (keeps : O → Enlistment → Type 0) (leaves : O → List Site → Type 0) (log : LogState D) (z : LiveState) (o : O)
    → HasRun honest image log z
    → Knows (number_of z.tx.transaction) z.tx.world (λ e. place o (enlistment z.number e)) (λ e. keeps o (enlistment z.number e)) (leaves o) (number_of z.number) (heard_of z)
    → IsTiedTo place keeps leaves [] z o → (ss : List Site) → leaves o ss → (f : Option CommitRecord) → Tie z.tx.ours z.tx.unsure f → is_whole_by f (number_of z.number) ss ≡ true
whole_by honest image place keeps leaves log z o run k tied ss left (Some r) (inl e) =
    let some : is_some z.tx.ours ≡ true = subst (λ x. is_some x ≡ true) e refl in
    let is : Some r ≡ Some (record_for (number_of z.tx.transaction) (core z.tx.world)) = e ∙ run.sound.named some in
    let h = past z in
    let a = has_mark h in
    let b = is_unmarked (latest mark_of h) && can_log (before_first_stop h) in
    let tried : is_record_tried h ≡ true =
    or_case a b (λ p. or_left (has is_logged h || a) (can_log (before_first_stop h)) (or_right (has is_logged h) a p))
    (λ p. or_right (has is_logged h || a) (can_log (before_first_stop h)) (Rattle.dtx_model.proofs.Bools.and_right (is_unmarked (latest mark_of h)) (can_log (before_first_stop h)) p)) (run.tried.tried some) in
    subst (λ x. is_whole_by x (number_of z.number) ss ≡ true) (sym is)
    (whole_by_record (number_of z.tx.transaction) (number_of z.number) z.tx.world (λ e. place o (enlistment z.number e)) (λ e. keeps o (enlistment z.number e)) (leaves o) (heard_of z) ss k tied left tried)
whole_by honest image place keeps leaves log z o run k tied ss left (Some r) (inr e) = absurd cc
whole_by honest image place keeps leaves log z o run k tied ss left None tie =
    whole_without (number_of z.tx.transaction) (number_of z.number) z.tx.world (λ e. place o (enlistment z.number e)) (λ e. keeps o (enlistment z.number e)) (leaves o) (heard_of z) ss k tied left (λ logged. gone logged tie)
  where
    h : List Entry
    h = past z

    freed : has is_logged h ≡ true → has_mark h ≡ false → is_free_tried h ≡ true
    freed logged none = or_left (has is_freed h) (can_free (before_last_stop h)) (k.tells.gone logged none)

    gone : has is_logged h ≡ true → Tie z.tx.ours z.tx.unsure None → is_free_tried h ≡ true
    gone logged (inl e) =
        freed logged (false_from_ne_true (has_mark h) (λ p. not_both (is_some z.tx.ours) (run.tried.kept p) (subst (λ x. is_some x ≡ false) e refl)))
    gone logged (inr e) =
        or_case (not (has_mark h)) (can_free (before_last_stop h)) (λ p. freed logged (not_true (has_mark h) p)) (λ p. or_right (has is_freed h) (can_free (before_last_stop h)) p) (run.tried.unsure e.1)

-- whatever records the log may have fit it
pub fitting : {D : Type 0} (honest : Bool) (image : D → List ℕ → Type 0) (log : LogState D) (z : LiveState) → IsTrue honest → HasRun honest image log z → (rs : List CommitRecord) → MayHold image log rs → Fits z.tx rs
fitting honest image log z is run rs (inl c) = by (log_has c.0) (run.imaged is c.0 c.1) c.2
  where
    by : (r : Result (List CommitRecord) ℕ) → IfOk r (Fits z.tx) → r ≡ Ok rs → Fits z.tx rs
    by (Ok qs) f e = let same : qs ≡ rs = cc in subst (λ x. Fits z.tx x) same f
    by (Err n) f e = absurd cc
fitting honest image log z is run rs (inr c) = subst (λ x. Fits z.tx x) (sym c.1) (run.fits is c.0)

-- so they have one record of it at most
pub one_record : {D : Type 0} (honest : Bool) (image : D → List ℕ → Type 0) (log : LogState D) (z : LiveState) → IsTrue honest → HasRun honest image log z → (rs : List CommitRecord) → MayHold image log rs
    → AtMostOne (identifier_of (number_of z.number)) rs
one_record honest image log z is run rs may =
    let id : id_of z.tx ≡ identifier_of (number_of z.number) = ap (λ t. identifier_of (number_of t)) run.sound.own in
    subst (λ i. AtMostOne i rs) id (fitting honest image log z is run rs may).one

pub whole_itself : {D O : Type 0} (honest : Bool) (image : D → List ℕ → Type 0) (place : O → Enlistment → Place) (keeps : O → Enlistment → Type 0) (leaves : O → List Site → Type 0) (log : LogState D) (z : LiveState) (o : O)
    → IsTrue honest → HasRun honest image log z
    → Knows (number_of z.tx.transaction) z.tx.world (λ e. place o (enlistment z.number e)) (λ e. keeps o (enlistment z.number e)) (leaves o) (number_of z.number) (heard_of z)
    → IsTiedTo place keeps leaves [] z o → (rs : List CommitRecord) → MayHold image log rs → (ss : List Site) → leaves o ss → is_whole rs ss (number_of z.number) ≡ true
unfolding is_whole
whole_itself honest image place keeps leaves log z o is run k tied rs may ss left =
    let fit = (fitting honest image log z is run rs may).tie in
    let id : id_of z.tx ≡ identifier_of (number_of z.number) = ap (λ t. identifier_of (number_of t)) run.sound.own in
    whole_by honest image place keeps leaves log z o run k tied ss left (first_of (identifier_of (number_of z.number)) rs) (subst (λ i. Tie z.tx.ours z.tx.unsure (first_of i rs)) id fit)

-- ---- the others

pub different : (t u : TxId) → (number_of t == number_of u) ≡ false → u ≢ t
different t u off e = not_both (number_of t == number_of u) (subst (λ x. (number_of t == number_of x) ≡ true) (sym e) (Rattle.history_table.proofs.Tests.eq_self (number_of t))) off

pub turn : (a b : ℕ) → (a == b) ≡ false → (b == a) ≡ false
turn a b off = grind (arith, nat_tests)

other_id : (a b : ℕ) → (a == b) ≡ false → (identifier_of b == identifier_of a) ≡ false
other_id a b off = grind (arith, nat_tests)

pub whole_other : {D O : Type 0} (honest : Bool) (image : D → List ℕ → Type 0) (place : O → Enlistment → Place) (keeps : O → Enlistment → Type 0) (leaves : O → List Site → Type 0) (sound : O → Type 0) (from to : LogState D)
    (n k : ℕ) (a b : O) → IsTrue honest → KeepsRecords honest image (identifier_of n) from to → KeepsOthers place keeps leaves sound n a b → (n == k) ≡ false
    → ((rs : List CommitRecord) → MayHold image from rs → (ss : List Site) → leaves a ss → is_whole rs ss k ≡ true) → (rs : List CommitRecord) → MayHold image to rs → (ss : List Site) → leaves b ss → is_whole rs ss k ≡ true
unfolding is_whole
whole_other honest image place keeps leaves sound from to n k a b is records others off whole rs may ss left =
    let q = records is rs may in
    let s = others.left ss left in
    subst (λ f. is_whole_by f k ss ≡ true) (sym (first_stays (identifier_of n) (identifier_of k) q.0 rs (other_id n k off) q.2)) (whole_same (first_of (identifier_of k) q.0) k ss s.0 (λ m e. s.2 m k e off) (whole q.0 q.1 s.0 s.1))
