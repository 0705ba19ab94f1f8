-- What comes between two calls keeps all or nothing: that no transaction could be begun, and what a program does to its objects.
use Rattle.std.proofs.Common.{◌≡◌, ◌⊎◌, inl, inr, ℕ, true, List, [], Some, ap, subst, sym, ◌∙◌, arith}
use Rattle.dtx_values.specs.TxIds.{number_of}
use Rattle.dtx_values.specs.declared.number.EnlNo.{EnlNo}
use Rattle.dtx_values.specs.declared.entry.Entry.{Entry}
use Rattle.dtx_values.specs.declared.tx_id.TxId.{TxId}
use Rattle.dtx_model.specs.World.{World}
use Rattle.recovery_laws.specs.Whole.{Site, is_whole, is_whole_by}
use Rattle.resource_managers.specs.Pairs.{enlistment}
use Rattle.resource_managers.specs.declared.enlistment.Enlistment.{Enlistment}
use Rattle.transactions.specs.Slots.{Standing, live_at}
use Rattle.transactions.specs.State.{LiveState, past}
use Rattle.all_or_nothing.specs.Marks.{At, Nowhere, Place}
use Rattle.transactions.specs.Hearing.{Given}
use Rattle.all_or_nothing.specs.Tying.{IsTied, is_aborted_by, said_yes}
use Rattle.all_or_nothing.specs.Whole.{IsAllOrNothing, IsBetween, IsHeardOn, IsNumbering, IsRouted, IsTiedTo, heard_of}
use Rattle.transactions.proofs.InOrder.{order_of_commits}
use Rattle.transactions.proofs.Untouched.{commit_stays}
use Rattle.all_or_nothing.proofs.Called.{EpochLaw}
use Rattle.all_or_nothing.proofs.Calls.{live_number}

-- ---- no transaction could be begun

pub numbered : {D C O : Type 0} (image : D → List ℕ → Type 0) (place : O → Enlistment → Place) (keeps : O → Enlistment → Type 0) (leaves : O → List Site → Type 0) (sound : O → Type 0) → EpochLaw → (m n : Standing D C) (o : O)
    → IsAllOrNothing image place keeps leaves sound m o → IsNumbering image m n → IsAllOrNothing image place keeps leaves sound n o
unfolding is_whole
numbered image place keeps leaves sound epochs m n o all c = record {
  whole = λ rs may ss l u. let q = c.records rs may in subst (λ f. is_whole_by f (number_of u) ss ≡ true) (sym (commit_stays u q.0 rs (epochs u) q.2)) (all.whole q.0 q.1 ss l u);
  ordered = λ rs may. let q = c.records rs may in order_of_commits rs q.0 q.2 (all.ordered q.0 q.1);
  tied = λ u y at. all.tied u y (before u y at);
  routed = λ u y at. all.routed u y (before u y at);
  begun = λ u y at. let low = all.begun u y (before u y at) in let up = c.rises in omega (arith, low, up);
  new = λ u above. all.new u (let up = c.rises in omega (arith, above, up));
  memory = all.memory;
}
  where
    before : (u : TxId) (y : LiveState) → live_at u n.lives ≡ Some y → live_at u m.lives ≡ Some y
    before u y at = sym (ap (live_at u) c.same) ∙ at

-- ---- what a program does to its objects

-- what is held stays tied to the history
tied_between : (n : ℕ) (w : World) (old new : EnlNo → Place) (keeps keeps_now : EnlNo → Type 0) (leaves leaves_now : List Site → Type 0) (gs : List Given) (h heard : List Entry) → ((e : EnlNo) → IsHeardOn w e.value (old e) (new e))
    → ((e : EnlNo) → keeps e → keeps_now e) → ((ss : List Site) → leaves_now ss → leaves ss) → IsTied n old keeps leaves gs h heard → IsTied n new keeps_now leaves_now gs h heard
tied_between n w old new keeps keeps_now leaves leaves_now gs h heard places kept left t = record {
  votes = t.votes;
  acks = t.acks;
  placed = λ e k at. placed e k at (places e);
  kept = λ e m at k. stays e m at k (places e);
  left = λ ss l. let so = t.left ss (left ss l) in
      record { single = so.single; routed = λ m e some. (let r = so.routed m e some in (r.0, r.1, there r.0 m r.2 (places r.0), r.3)); marked = so.marked; done = so.done; acked = so.acked };
}
  where
    apart : (k : ℕ) (p : Place) → p ≡ Nowhere → p ≡ At k → ⊥
    apart k p a b = absurd (no (sym a ∙ b))
      where
        no : ◌≡◌ {A = Place} Nowhere (At k) → ⊥
        no q = absurd cc

    placed : (e : EnlNo) → said_yes gs h e.value ≡ true → new e ≡ Nowhere → IsHeardOn w e.value (old e) (new e) → ⊥
    placed e k at (inl same) = t.placed e k (sym same ∙ at)
    placed e k at (inr now) = t.placed e k now.0

    stays : (e : EnlNo) (m : ℕ) → new e ≡ At m → said_yes gs h e.value ≡ true → IsHeardOn w e.value (old e) (new e) → keeps_now e ⊎ (is_aborted_by heard e.value ≡ true)
    stays e m at k (inl same) = elim (t.kept e m (sym same ∙ at) k) [ inl held ↦ inl (kept e held) | inr told ↦ inr told ]
    stays e m at k (inr now) = absurd (t.placed e k now.0)

    there : (e : EnlNo) (m : ℕ) → old e ≡ At m → IsHeardOn w e.value (old e) (new e) → new e ≡ At m
    there e m at (inl same) = same ∙ at
    there e m at (inr now) = absurd (apart m (old e) now.0 at)

pub between : {D C O : Type 0} (image : D → List ℕ → Type 0) (place : O → Enlistment → Place) (keeps : O → Enlistment → Type 0) (leaves : O → List Site → Type 0) (sound : O → Type 0) (m : Standing D C) (o p : O)
    → IsAllOrNothing image place keeps leaves sound m o → IsBetween place keeps leaves sound m o p → IsAllOrNothing image place keeps leaves sound m p
between image place keeps leaves sound m o p all c = record {
  whole = λ rs may ss l. all.whole rs may ss (c.left ss l);
  ordered = all.ordered;
  tied = tied;
  routed = λ u y at e. routed u y at e (c.places u y at e);
  begun = all.begun;
  new = λ u above ss l. all.new u above ss (c.left ss l);
  memory = c.memory;
}
  where
    tied : (u : TxId) (y : LiveState) → live_at u m.lives ≡ Some y → IsTiedTo place keeps leaves [] y p
    tied u y at =
        let mine : y.number ≡ u = live_number u m.lives y at in
        subst (λ v. IsTied (number_of v) (λ e. place p (enlistment v e)) (λ e. keeps p (enlistment v e)) (leaves p) [] (past y) (heard_of y)) (sym mine)
        (tied_between (number_of u) y.tx.world (λ e. place o (enlistment u e)) (λ e. place p (enlistment u e)) (λ e. keeps o (enlistment u e)) (λ e. keeps p (enlistment u e)) (leaves o) (leaves p) [] (past y) (heard_of y)
        (c.places u y at) (c.kept u y at) c.left
        (subst (λ v. IsTied (number_of v) (λ e. place o (enlistment v e)) (λ e. keeps o (enlistment v e)) (leaves o) [] (past y) (heard_of y)) mine (all.tied u y at)))

    routed : (u : TxId) (y : LiveState) → live_at u m.lives ≡ Some y → (e : EnlNo) → IsHeardOn y.tx.world e.value (place o (enlistment u e)) (place p (enlistment u e)) → IsRouted y.tx.world e.value (place p (enlistment u e))
    routed u y at e (inl same) = subst (IsRouted y.tx.world e.value) (sym same) (all.routed u y at e)
    routed u y at e (inr now) = now.1
