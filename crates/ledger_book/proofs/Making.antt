-- A book that was made anew is whole: nothing is on its disks.
use Rattle.std.specs.Prelude.{IfOk, IsFalse, IsTrue}
use Rattle.std.proofs.Common.{◌≡◌, ◌==◌, ◌<◌, inl, inr, ℕ, ◌-◌, Bool, true, false, List, [], ◌∷◌, ◌++◌, if◌then◌else◌, length, map, slice_get, Option, Some, None, Result, Ok, Err, refl, ap, subst, sym, ◌∙◌}
use Rattle.dtx_values.specs.TxIds.{number_of}
use Rattle.dtx_values.specs.declared.tx_id.TxId.{TxId}
use Rattle.dtx_model.specs.Log.{CommitRecord, log_has}
use Rattle.coordinator_log.specs.Crash.{AllHold as LogHolds}
use Rattle.coordinator_log.specs.Slots.{open_records as logged}
use Rattle.kv_resource.specs.Held.{record_held}
use Rattle.kv_resource.specs.Images.{AllHold}
use Rattle.kv_resource.specs.Store.{KvState, open_records}
use Rattle.recovery_laws.specs.Whole.{Site, is_whole}
use Rattle.resource_managers.specs.Holding.{Holding}
use Rattle.transactions.specs.Logged.{AreInOrder, MayHold}
use Rattle.transactions.specs.Slots.{Standing, live_at, live_in}
use Rattle.transactions.specs.State.{LiveState}
use Rattle.transactions.proofs.InOrder.{order_of_none}
use Rattle.all_or_nothing.specs.Marks.{marks_of}
use Rattle.kv_holding.specs.Holding.{IsAsStored, KvLeaves, KvSound}
use Rattle.kv_holding.specs.TwoStores.{TwoLeave, two_sites}
use Rattle.ledger_book.specs.Whole.{IsWholeBook}
use Rattle.ledger_book.specs.declared.book.Book.{Book}

pub same_ok : {A E : Type 0} (r : Result A E) (x y : A) → r ≡ Ok x → r ≡ Ok y → x ≡ y
same_ok (Ok z) x y p q = let a : z ≡ x = cc in let b : z ≡ y = cc in sym a ∙ b
same_ok (Err e) x y p q = absurd cc

-- ---- an empty log

none_logged : {D C : Type 0} (image : D → List ℕ → Type 0) (m : Standing D C) (rs : List CommitRecord) → logged m.log.slots ≡ [] → LogHolds (image m.log.disk) (logged m.log.slots) → MayHold image m.log rs → rs ≡ []
none_logged image m rs none images (inl k) = same_ok (log_has k.0) rs (logged m.log.slots) k.2 (images k.0 k.1) ∙ none
none_logged image m rs none images (inr k) = k.1 ∙ none

-- ---- an empty store

none_stored : {D : Type 0} (honest : Bool) (image : D → List ℕ → Type 0) (s : KvState D) (hs : List Holding) → open_records s.memory.slots ≡ [] → IsAsStored honest image s → KvLeaves honest image s hs → hs ≡ []
none_stored honest image s hs none so (inl k) =
    let records : k.records ≡ [] = same_ok _ k.records (open_records s.memory.slots) k.read (so.images k.honestly k.bytes k.left) ∙ none in
    k.found ∙ ap (map (record_held false)) records
none_stored honest image s hs none so (inr k) = k.1 ∙ ap (map (record_held false)) none

-- what a crash may leave of two empty stores
none_left : {D : Type 0} (honest : Bool) (image : D → List ℕ → Type 0) (left right : KvState D) (ss : List Site) → open_records left.memory.slots ≡ [] → IsAsStored honest image left → open_records right.memory.slots ≡ []
    → IsAsStored honest image right → TwoLeave honest image 1 2 left right ss → ss ≡ two_sites 1 2 [] []
none_left honest image left right ss no_left as_left no_right as_right k =
    k.4 ∙ (ap (λ hs. two_sites 1 2 hs k.1) (none_stored honest image left k.0 no_left as_left k.2) ∙ ap (λ ks. two_sites 1 2 [] ks) (none_stored honest image right k.1 no_right as_right k.3))

none_marked : (j n e : ℕ) → marks_of j n e (two_sites 1 2 [] []) ≡ []
none_marked j n e = by (j == 1) (j == 2)
  where
    none : List Bool
    none = []

    by : (a b : Bool) → (if a then none ++ (if b then none ++ none else none) else if b then none ++ none else none) ≡ none
    by true true = refl
    by true false = refl
    by false true = refl
    by false false = refl

-- where no transaction goes on, none of a number does
pub none_live : (xs : List LiveState) → xs ≡ [] → (t : TxId) (x : LiveState) → live_at t xs ≡ Some x → ⊥
none_live xs none t x at = empty (ap (λ ys. live_in t (slice_get ys (t.t.value - 1))) (sym none) ∙ at)
  where
    empty : live_in t (slice_get [] (t.t.value - 1)) ≡ Some x → ⊥
    empty e = absurd cc

pub made : {D C : Type 0} (honest : Bool) (image : D → List ℕ → Type 0) (b : Book D C) → ((s : KvState D) → IsAsStored honest image s → KvSound honest image s) → b.manager.lives ≡ [] → logged b.manager.log.slots ≡ []
    → LogHolds (image b.manager.log.disk) (logged b.manager.log.slots) → open_records b.stores.left.memory.slots ≡ [] → IsAsStored honest image b.stores.left → open_records b.stores.right.memory.slots ≡ []
    → IsAsStored honest image b.stores.right → IsWholeBook honest image b
unfolding is_whole
made honest image b opened lives none images no_left as_left no_right as_right = record {
  whole = λ rs may ss l t. subst (λ qs. is_whole qs ss (number_of t) ≡ true) (sym (none_logged image b.manager rs none images may))
      (subst (λ ks. is_whole [] ks (number_of t) ≡ true) (sym (none_left honest image b.stores.left b.stores.right ss no_left as_left no_right as_right l)) refl);
  ordered = λ rs may. subst AreInOrder (sym (none_logged image b.manager rs none images may)) order_of_none;
  tied = λ t x at. absurd (none_live b.manager.lives lives t x at);
  routed = λ t x at. absurd (none_live b.manager.lives lives t x at);
  begun = λ t x at. absurd (none_live b.manager.lives lives t x at);
  new = λ t above ss l j e. ap (marks_of j (number_of t) e) (none_left honest image b.stores.left b.stores.right ss no_left as_left no_right as_right l) ∙ none_marked j (number_of t) e;
  memory = (opened b.stores.left as_left, opened b.stores.right as_right);
}

-- ---- as the calls that make it say it

-- a store that was formatted is on its disk as it is in memory
formatted : {D : Type 0} (honest : Bool) (image : D → List ℕ → Type 0) (s : KvState D) → open_records s.memory.slots ≡ [] → IsFalse s.memory.stopped → (IsTrue honest → AllHold (image s.disk) []) → length s.memory.slots ≡ 1024
    → IsAsStored honest image s
formatted honest image s none up images many = record { up = up; many = many; images = λ is. subst (λ rs. AllHold (image s.disk) rs) (sym none) (images is) }

-- what holds of a result that is Ok
pub of_ok : {A E : Type 0} (P : A → Type 0) (r : Result A E) (x : A) → r ≡ Ok x → IfOk r P → P x
of_ok P (Ok y) x is k = let same : y ≡ x = cc in subst P same k
of_ok P (Err e) x is k = absurd cc

-- what is known of a book of these parts
pub record Parts {D C E F : Type 0} (manager : Standing D C) (left : KvState D) (right : Result (KvState D) F) (z : Result (Book D C) E) : Type 0 where
  pub manager_is : IfOk z (λ b. b.manager ≡ manager)
  pub left_is : IfOk z (λ b. b.stores.left ≡ left)
  pub right_is : IfOk z (λ b. right ≡ Ok b.stores.right)
  pub many : IfOk z (λ b. (length b.stores.left.memory.slots ≡ 1024) × (length b.stores.right.memory.slots ≡ 1024))

pub all_made : {D C E F : Type 0} (honest : Bool) (image : D → List ℕ → Type 0) (manager : Standing D C) (left : KvState D) (right : Result (KvState D) F) (z : Result (Book D C) E) → Parts manager left right z
    → ((s : KvState D) → IsAsStored honest image s → KvSound honest image s) → manager.lives ≡ [] → logged manager.log.slots ≡ [] → LogHolds (image manager.log.disk) (logged manager.log.slots)
    → open_records left.memory.slots ≡ [] → IsFalse left.memory.stopped → (IsTrue honest → AllHold (image left.disk) []) → IfOk right (λ s. open_records s.memory.slots ≡ []) → IfOk right (λ s. IsFalse s.memory.stopped)
    → (IsTrue honest → IfOk right (λ s. AllHold (image s.disk) [])) → IfOk z (λ b. IsWholeBook honest image b)
all_made {D} {C} honest image manager left right (Ok b) p opened lives none images no_left up_left left_images no_right up_right right_images =
    let left_so = formatted honest image left no_left up_left left_images (subst (λ (s : KvState D). length s.memory.slots ≡ 1024) p.left_is p.many.0) in
    let s = b.stores.right in
    let right_none : open_records s.memory.slots ≡ [] = of_ok (λ (x : KvState D). open_records x.memory.slots ≡ []) right s p.right_is no_right in
    let right_so = formatted honest image s right_none (of_ok (λ (x : KvState D). IsFalse x.memory.stopped) right s p.right_is up_right) (λ is. of_ok (λ (x : KvState D). AllHold (image x.disk) []) right s p.right_is (right_images is)) p.many.1 in
    made honest image b opened (ap (λ (m : Standing D C). m.lives) p.manager_is ∙ lives) (ap (λ (m : Standing D C). logged m.log.slots) p.manager_is ∙ none)
    (subst (λ (m : Standing D C). LogHolds (image m.log.disk) (logged m.log.slots)) (sym p.manager_is) images) (ap (λ (x : KvState D). open_records x.memory.slots) p.left_is ∙ no_left)
    (subst (λ (x : KvState D). IsAsStored honest image x) (sym p.left_is) left_so) right_none right_so
all_made honest image manager left right (Err e) p opened lives none images no_left up_left left_images no_right up_right right_images = tt
