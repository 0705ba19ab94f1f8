-- A transaction that begins keeps all or nothing.
use Rattle.std.specs.Prelude.{IsTrue}
use Rattle.std.proofs.Common.{◌≡◌, inl, inr, ◌≤◌, ℕ, Bool, true, false, ◌||◌, ◌==◌, List, [], ◌∷◌, Option, Some, None, refl, ap, subst, sym, ◌∙◌, arith}
use Rattle.std.proofs.lemmas.Bool.{eqb-true}
use Rattle.dtx_values.proofs.Ids.{same_id}
use Rattle.dtx_values.specs.TxIds.{number_of}
use Rattle.dtx_values.specs.declared.entry.Entry.{Entry}
use Rattle.dtx_values.specs.declared.number.EnlNo.{EnlNo}
use Rattle.dtx_values.specs.declared.tx_id.TxId.{TxId}
use Rattle.dtx_model.specs.Log.{CommitRecord, first_of}
use Rattle.dtx_model.specs.Outcome.{is_empty}
use Rattle.dtx_model.specs.Promotes.{identifier_of}
use Rattle.dtx_model.specs.Words.{has}
use Rattle.recovery_laws.specs.Whole.{Site, has_marked, has_unmarked, is_whole, is_whole_by}
use Rattle.resource_managers.specs.Pairs.{enlistment}
use Rattle.resource_managers.specs.declared.enlistment.Enlistment.{Enlistment}
use Rattle.tx_world.specs.AtLog.{Tie, id_of}
use Rattle.transactions.specs.Hearing.{Writes}
use Rattle.transactions.specs.Logged.{MayHold}
use Rattle.transactions.specs.Slots.{Standing, live_at}
use Rattle.transactions.specs.State.{LiveState, blank, past}
use Rattle.all_or_nothing.specs.Marks.{Nowhere, Place, is_single, marks_of}
use Rattle.all_or_nothing.specs.Tying.{IsTied}
use Rattle.all_or_nothing.specs.Whole.{IsAllOrNothing, IsBeginning, IsRouted, IsTiedTo, heard_of}
use Rattle.all_or_nothing.proofs.Called.{EpochLaw, different, fitting}
use Rattle.transactions.proofs.Entering.{some_same}
use Rattle.transactions.proofs.InOrder.{order_of_commits}
use Rattle.transactions.proofs.Untouched.{commit_stays}
use Rattle.all_or_nothing.proofs.Calls.{live_number}
use Rattle.all_or_nothing.proofs.Marking.{Marked, marked_some, none_both}
use Rattle.all_or_nothing.proofs.Moved.{fewer_same, says_written}
use Rattle.all_or_nothing.proofs.Tied.{SaysNoMore}

-- nothing is held of it, so it is whole where it has no record
none_whole : (n : ℕ) (ss : List Site) → ((m e : ℕ) → marks_of m n e ss ≡ []) → is_whole_by None n ss ≡ true
none_whole n ss none = none_both (has_marked n ss) (has_unmarked n ss) (λ a b. never (marked_some (λ c. c) n ss a))
  where
    never : Marked (λ c. c) n ss → ⊥
    never x = no (subst (λ l. has (λ c. c) l ≡ true) (none x.manager x.enlistment) x.passes)
      where
        no : has (λ c. c) [] ≡ true → ⊥
        no p = absurd cc

-- and nothing was said of it
none_tied : (n : ℕ) (place : EnlNo → Place) (keeps : EnlNo → Type 0) (leaves : List Site → Type 0) (h : List Entry) → SaysNoMore [] [] [] h → ((ss : List Site) → leaves ss → (m e : ℕ) → marks_of m n e ss ≡ [])
    → (heard : List Entry) → IsTied n place keeps leaves [] h heard
none_tied n place keeps leaves h says none heard = record {
  votes = λ e k. absurd (off (says.vote e k));
  acks = λ e k. absurd (off (says.ack e k));
  placed = λ e k at. off (says.yes_vote e.value k);
  kept = λ e m at k. absurd (off (says.yes_vote e.value k));
  left = λ ss l. record {
    single = λ m e. subst (λ k. is_single k ≡ true) (sym (none ss l m e)) refl;
    routed = λ m e some. absurd (empty (subst (λ k. is_empty k ≡ false) (none ss l m e) some));
    marked = λ m e is. absurd (clash (sym (none ss l m e) ∙ is));
    done = λ m e k. subst (λ j. is_empty j ≡ true) (sym (none ss l m e)) refl;
    acked = λ m e a y. absurd (off (says.ack e a));
  };
}
  where
    off : (false || false) ≡ true → ⊥
    off k = absurd cc

    empty : is_empty {A = Bool} [] ≡ false → ⊥
    empty k = absurd cc

    clash : [] ≡ true ∷ [] → ⊥
    clash k = absurd cc

pub begun_keeps : {D C O : Type 0} (honest : Bool) (image : D → List ℕ → Type 0) (faults : D → ℕ) (place : O → Enlistment → Place) (keeps : O → Enlistment → Type 0) (leaves : O → List Site → Type 0) (sound : O → Type 0)
    → EpochLaw → (t : TxId) (m n : Standing D C) (o : O) → IsTrue honest → IsAllOrNothing image place keeps leaves sound m o → (c : IsBeginning honest image faults place t m n o) → Writes [] (blank t c.time) c.begun
    → IsAllOrNothing image place keeps leaves sound n o
unfolding is_whole
begun_keeps honest image faults place keeps leaves sound epochs t m n o is all c writes = record {
  whole = λ rs may ss l u. whole rs may ss l u (number_of t == number_of u) refl;
  ordered = λ rs may. let q = c.records rs may in order_of_commits rs q.0 q.2 (all.ordered q.0 q.1);
  tied = λ u y at. tied u y at (number_of t == number_of u) refl;
  routed = λ u y at. routed u y at (number_of t == number_of u) refl;
  begun = λ u y at. begun u y at (number_of t == number_of u) refl;
  new = λ u above. all.new u (let a = c.above in let b = c.last in omega (arith, a, b, above));
  memory = all.memory;
}
  where
    y : LiveState
    y = c.begun

    none : (ss : List Site) → leaves o ss → (j e : ℕ) → marks_of j (number_of t) e ss ≡ []
    none ss l j e = all.new t c.above ss l j e

    mine : y.number ≡ t
    mine = live_number t n.lives y c.now

    itself : (u : TxId) → (number_of t == number_of u) ≡ true → t ≡ u
    itself u k = same_id t u (eqb-true (number_of t) (number_of u) k)

    before : (u : TxId) (x : LiveState) → live_at u n.lives ≡ Some x → (number_of t == number_of u) ≡ false → live_at u m.lives ≡ Some x
    before u x at off = sym (c.others u (different t u off)) ∙ at

    -- no record was tried of it, so none is found
    unfound : (f : Option CommitRecord) → Tie y.tx.ours y.tx.unsure f → f ≡ None
    unfound f (inl e) = e ∙ c.called.done.kept.0
    unfound f (inr e) = e.0

    found : (rs : List CommitRecord) → MayHold image n.log rs → first_of (identifier_of (number_of t)) rs ≡ None
    found rs may =
        let id : id_of y.tx ≡ identifier_of (number_of t) = ap (λ (v : TxId). identifier_of (number_of v)) (c.run.sound.own ∙ mine) in
        subst (λ i. first_of i rs ≡ None) id (unfound (first_of (id_of y.tx) rs) (fitting honest image n.log y is c.run rs may).tie)

    whole : (rs : List CommitRecord) → MayHold image n.log rs → (ss : List Site) → leaves o ss → (u : TxId) (b : Bool) → (number_of t == number_of u) ≡ b → is_whole_by (first_of (identifier_of (number_of u)) rs) (number_of u) ss ≡ true
    whole rs may ss l u true k =
        subst (λ (v : TxId). is_whole_by (first_of (identifier_of (number_of v)) rs) (number_of v) ss ≡ true) (itself u k)
        (subst (λ f. is_whole_by f (number_of t) ss ≡ true) (sym (found rs may)) (none_whole (number_of t) ss (λ j e. none ss l j e)))
    whole rs may ss l u false k =
        let q = c.records rs may in
        subst (λ f. is_whole_by f (number_of u) ss ≡ true) (sym (commit_stays u q.0 rs (epochs u) q.2)) (all.whole q.0 q.1 ss l u)

    says : SaysNoMore [] [] [] (past y)
    says = subst (λ h. SaysNoMore [] [] [] h) (sym writes.grown) (says_written [] [] [] writes.written writes.said (fewer_same []))

    tied : (u : TxId) (x : LiveState) → live_at u n.lives ≡ Some x → (b : Bool) → (number_of t == number_of u) ≡ b → IsTiedTo place keeps leaves [] x o
    tied u x at true k =
        subst (λ s. IsTiedTo place keeps leaves [] s o) (some_same (live_at u n.lives) y x (subst (λ v. live_at v n.lives ≡ Some y) (itself u k) c.now) at)
        (none_tied (number_of y.number) (λ e. place o (enlistment y.number e)) (λ e. keeps o (enlistment y.number e)) (leaves o) (past y) says
        (λ ss l j e. ap (λ (v : TxId). marks_of j (number_of v) e ss) mine ∙ none ss l j e) (heard_of y))
    tied u x at false k = all.tied u x (before u x at k)

    routed : (u : TxId) (x : LiveState) → live_at u n.lives ≡ Some x → (b : Bool) → (number_of t == number_of u) ≡ b → (e : EnlNo) → IsRouted x.tx.world e.value (place o (enlistment u e))
    routed u x at true k e = subst (IsRouted x.tx.world e.value) (sym (subst (λ v. place o (enlistment v e) ≡ Nowhere) (itself u k) (c.unheard e))) tt
    routed u x at false k e = all.routed u x (before u x at k) e

    begun : (u : TxId) (x : LiveState) → live_at u n.lives ≡ Some x → (b : Bool) → (number_of t == number_of u) ≡ b → number_of u ≤ n.last
    begun u x at true k = let last = c.last in let same : number_of t ≡ number_of u = eqb-true (number_of t) (number_of u) k in omega (arith, last, same)
    begun u x at false k = let last = c.last in let above = c.above in let low = all.begun u x (before u x at k) in omega (arith, last, above, low)
