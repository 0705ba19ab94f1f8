-- The recovery of both stores of a book keeps each transaction whole, in all that a crash may leave, wherever it breaks off.
use Rattle.std.specs.Prelude.{All, Contains, slice_index_or, IsFalse, IsOkAnd, IsTrue, ◌/◌}
use Rattle.std.proofs.Common.{◌≡◌, ◌⊎◌, inl, inr, ℕ, zero, suc, length, ◌==◌, ◌≤◌, ◌<◌, ◌+◌, ◌*◌, Bool, true, false, ◌&&◌, ◌||◌, if◌then◌else◌, arith, List, [], ◌∷◌, ◌++◌, map, Option, Some, None, Result, Ok, Err, refl, ap, subst, sym, ◌∙◌}
use Rattle.std.proofs.lemmas.Bool.{eqb-true, false_from_ne_true, or_from, or_parts}
use Rattle.std.proofs.lemmas.Bool.Decides.{nat_tests}
use Rattle.std.proofs.lemmas.List.Elements.{All-head, All-tail}
use Rattle.dtx_values.proofs.Ids.{number_is}
use Rattle.dtx_values.specs.TxIds.{number_of}
use Rattle.dtx_values.specs.declared.number.RmNo.{RmNo}
use Rattle.dtx_values.specs.declared.tx_id.TxId.{TxId}
use Rattle.dtx_model.specs.Log.{CommitRecord, first_of, log_has}
use Rattle.dtx_model.specs.Promotes.{identifier_of}
use Rattle.dtx_model.specs.Words.{each, has}
use Rattle.coordinator_log.specs.Crash.{AllHold as LogHolds}
use Rattle.coordinator_log.specs.Slots.{open_records as logged}
use Rattle.coordinator_log.specs.State.{LogState}
use Rattle.kv_resource.specs.Bytes.{KvRecord, kv_has}
use Rattle.kv_resource.specs.Held.{MayLeave, holdings_from, holdings_of, record_held}
use Rattle.kv_resource.specs.Store.{KvState, open_records}
use Rattle.log_epochs.specs.Epochs.{epoch_of, epoch_of_record}
use Rattle.recovery_laws.proofs.Changing.{has_mapped}
use Rattle.recovery_laws.proofs.Leaving.{none_settled}
use Rattle.recovery_laws.proofs.Settling.{is_here, is_named}
use Rattle.recovery_laws.specs.Finding.{is_later, settled}
use Rattle.recovery_laws.specs.OneByOne.{IsRecoveredOneByOne, RecoversOne, Standing as Before}
use Rattle.recovery_laws.specs.Steps.{at_site}
use Rattle.recovery_laws.specs.Whole.{Site, has_here, is_of_number, is_whole}
use Rattle.resource_managers.specs.Holding.{Holding, as_found, found_one, pair_held}
use Rattle.transactions.specs.Logged.{AreInOrder, AreUnique, MayHold}
use Rattle.transactions.specs.Recovering.{OnlyFrees}
use Rattle.transactions.specs.Recovery.{IsOneOf, Later, Obstacle, first_obstacle, number_of_manager, obstacle_to, or_else}
use Rattle.transactions.specs.Slots.{Standing}
use Rattle.transactions.specs.State.{LiveState}
use Rattle.transactions.proofs.Covering.{one_of}
use Rattle.transactions.proofs.InOrder.{order_of_freed}
use Rattle.all_or_nothing.specs.Marks.{marks_in, marks_of}
use Rattle.kv_holding.specs.Holding.{IsAsStored, KvLeaves, KvSound, memory_held}
use Rattle.kv_holding.specs.TwoStores.{TwoLeave, two_sites}
use Rattle.ledger_book.specs.Recovered.{EndsOne, FreesFor, LeavesOne, LeavesStore, SettlesStore, sites_of}
use Rattle.ledger_book.specs.Whole.{IsFound, IsWholeBook, LeavesWhole}
use Rattle.ledger_book.specs.declared.book.Book.{Book}
use Rattle.ledger_book.proofs.Making.{none_live, same_ok}
use Rattle.ledger_book.proofs.Partly.{Stays, found_partly_stays, named_two, partly_stays, stays_found, stays_on, stays_same, unfound, whole_two}
use Rattle.ledger_book.proofs.Recovering.{standing}

-- ---- what a crash may leave of a store

-- what a later process finds of these slots, whichever calls wrote them
found-holdings : (n k : ℕ) (ss : List (Option KvRecord)) → as_found (holdings_from n k ss) ≡ map (record_held false) (open_records ss)
found-holdings n k [] = refl
found-holdings n k (None ∷ ss) = found-holdings n (suc k) ss
found-holdings n k (Some r ∷ ss) = ap (λ hs. record_held false r ∷ hs) (found-holdings n (suc k) ss)

-- of one that is on its disk as in memory: what it holds, as a later process finds it
stored_is : {D : Type 0} (honest : Bool) (image : D → List ℕ → Type 0) (s : KvState D) (hs : List Holding) → IsAsStored honest image s → KvLeaves honest image s hs → hs ≡ as_found (holdings_of s)
stored_is honest image s hs so (inl l) =
    l.found ∙ (ap (map (record_held false)) (same_ok (kv_has l.bytes) l.records (open_records s.memory.slots) l.read (so.images l.honestly l.bytes l.left)) ∙ sym (found-holdings s.earlier 0 s.memory.slots))
stored_is honest image s hs so (inr k) = k.1 ∙ sym (found-holdings s.earlier 0 s.memory.slots)

stored_stays : {D : Type 0} (honest : Bool) (image : D → List ℕ → Type 0) (o : Option CommitRecord) (n m : ℕ) (s : KvState D) (hs : List Holding) → IsAsStored honest image s → KvLeaves honest image s hs → Stays o n m (holdings_of s) hs
stored_stays honest image o n m s hs so l = subst (λ ks. Stays o n m (holdings_of s) ks) (sym (stored_is honest image s hs so l)) (stays_found o n m (holdings_of s))

-- of one that was recovered, or partly
left_stays : {D : Type 0} (honest : Bool) (image : D → List ℕ → Type 0) (rs : List CommitRecord) (n m : ℕ) (old new : KvState D) (hs : List Holding) → IsAsStored honest image old → LeavesStore honest image rs m old new
    → each (is_named (first_of (identifier_of n) rs) n m) (holdings_of old) ≡ true → has (is_here n) (holdings_of old) ≡ false → KvLeaves honest image new hs → Stays (first_of (identifier_of n) rs) n m (holdings_of old) hs
left_stays honest image rs n m old new hs so store named early (inl l) = elim (store.images hs l) [
  | inl was ↦ stored_stays honest image (first_of (identifier_of n) rs) n m old hs so (inl was)
  | inr p ↦ found_partly_stays rs n m (holdings_of old) hs named early p
]
left_stays honest image rs n m old new hs so store named early (inr k) =
    let o = first_of (identifier_of n) rs in
    subst (λ ks. Stays o n m (holdings_of old) ks) (sym (k.1 ∙ sym (found-holdings new.earlier 0 new.memory.slots)))
    (stays_on o n m (holdings_of old) (holdings_of new) (as_found (holdings_of new)) (partly_stays rs n m (holdings_of old) (holdings_of new) named early store.partly) (stays_found o n m (holdings_of new)))

-- one all of which is settled is on its disk as in memory
settled_stored : {D : Type 0} (honest : Bool) (image : D → List ℕ → Type 0) (faults : D → ℕ) (rs : List CommitRecord) (m : ℕ) (old new : KvState D) → IsAsStored honest image old → LeavesStore honest image rs m old new
    → SettlesStore honest image faults rs m old new → IsFalse new.memory.stopped → IsAsStored honest image new
settled_stored honest image faults rs m old new so store s up = record { up = up; many = store.many; images = λ is. s.images is up }

-- ---- the records that the log may have

log_same : {D : Type 0} (image : D → List ℕ → Type 0) (log : LogState D) (rs : List CommitRecord) → LogHolds (image log.disk) (logged log.slots) → MayHold image log rs → rs ≡ logged log.slots
log_same image log rs images (inl k) = same_ok (log_has k.0) rs (logged log.slots) k.2 (images k.0 k.1)
log_same image log rs images (inr k) = k.1

log_freed : {D : Type 0} (honest : Bool) (image : D → List ℕ → Type 0) (desk : List RmNo) (xs : List LiveState) (old new : LogState D) (rs : List CommitRecord) → IsTrue honest → IsTrue old.is_up → FreesFor honest image desk xs old new
    → MayHold image new rs → OnlyFrees desk xs (logged old.slots) rs
log_freed honest image desk xs old new rs is up f (inl k) = by (log_has k.0) k.2 (f.images is up k.0 k.1)
  where
    by : (r : Result (List CommitRecord) ℕ) → r ≡ Ok rs → IsOkAnd r (OnlyFrees desk xs (logged old.slots)) → OnlyFrees desk xs (logged old.slots) rs
    by (Ok qs) e k = let same : qs ≡ rs = cc in subst (λ ks. OnlyFrees desk xs (logged old.slots) ks) same k
    by (Err e) q k = absurd k
log_freed honest image desk xs old new rs is up f (inr k) = subst (λ ks. OnlyFrees desk xs (logged old.slots) ks) (sym k.1) f.records

-- ---- at both stores

whole_at : (rs : List CommitRecord) (n : ℕ) (a b c d : List Holding) → Stays (first_of (identifier_of n) rs) n 1 a c → Stays (first_of (identifier_of n) rs) n 2 b d → is_whole rs (two_sites 1 2 a b) n ≡ true → is_whole rs (two_sites 1 2 c d) n ≡ true
unfolding is_whole
whole_at rs n a b c d left right whole = whole_two (first_of (identifier_of n) rs) n a b c d left right whole

named_at : (rs : List CommitRecord) (n : ℕ) (a b : List Holding) → is_whole rs (two_sites 1 2 a b) n ≡ true → (each (is_named (first_of (identifier_of n) rs) n 1) a ≡ true) × (each (is_named (first_of (identifier_of n) rs) n 2) b ≡ true)
unfolding is_whole
named_at rs n a b whole = named_two (first_of (identifier_of n) rs) n a b whole

early_at : (n : ℕ) (a b : List Holding) → has_here n (two_sites 1 2 a b) ≡ false → (has (is_here n) a ≡ false) × (has (is_here n) b ≡ false)
early_at n a b off =
    let first = or_parts (has (is_here n) a) (has (is_here n) b || false) off in
    (first.0, (or_parts (has (is_here n) b) false first.1).0)

-- what is whole before the recovery, in memory
pub whole_found : {D C : Type 0} (honest : Bool) (image : D → List ℕ → Type 0) (faults : D → ℕ) (b : Book D C) → IsFound honest image faults b → LeavesWhole honest image b → (t : TxId)
    → is_whole (logged b.manager.log.slots) (sites_of b.stores.left b.stores.right) (number_of t) ≡ true
whole_found honest image faults b f whole t =
    let l = b.stores.left in
    let r = b.stores.right in
    let rs = logged b.manager.log.slots in
    let hs = memory_held l.memory in
    let ks = memory_held r.memory in
    let n = number_of t in
    let o = first_of (identifier_of n) rs in
    whole_at rs n hs ks (holdings_of l) (holdings_of r) (subst (λ xs. Stays o n 1 xs (holdings_of l)) (found-holdings l.earlier 0 l.memory.slots) (unfound o n 1 (holdings_of l)))
    (subst (λ xs. Stays o n 2 xs (holdings_of r)) (found-holdings r.earlier 0 r.memory.slots) (unfound o n 2 (holdings_of r)))
    (whole.whole rs (inr (f.up, refl)) (two_sites 1 2 hs ks) (hs, ks, inr (f.left.up, refl), inr (f.right.up, refl), refl) t)

-- and the log's records are in order there
found_order : {D C : Type 0} (honest : Bool) (image : D → List ℕ → Type 0) (faults : D → ℕ) (b : Book D C) → IsFound honest image faults b → LeavesWhole honest image b → AreInOrder (logged b.manager.log.slots)
found_order honest image faults b f whole = whole.ordered (logged b.manager.log.slots) (inr (f.up, refl))

-- What is known of a transaction before a store is recovered: by the records of the log, and what both stores hold.
pub record Known (rs : List CommitRecord) (n : ℕ) (a b : List Holding) : Type 0 where
  pub whole : is_whole rs (two_sites 1 2 a b) n ≡ true
  pub early : has_here n (two_sites 1 2 a b) ≡ false

-- What a crash may leave after the left store was recovered, or partly: where the log is as it was, and where all that the store held in doubt is settled. So it is for the right one.
left_whole : {D : Type 0} (honest : Bool) (image : D → List ℕ → Type 0) (rs : List CommitRecord) (n : ℕ) (old new right : KvState D) (ss : List Site) → Known rs n (holdings_of old) (holdings_of right) → IsAsStored honest image old
    → IsAsStored honest image right → LeavesStore honest image rs 1 old new → TwoLeave honest image 1 2 new right ss → is_whole rs ss n ≡ true
left_whole honest image rs n old new right ss known so right_so store l =
    let named = named_at rs n (holdings_of old) (holdings_of right) known.whole in
    let early = early_at n (holdings_of old) (holdings_of right) known.early in
    subst (λ xs. is_whole rs xs n ≡ true) (sym l.4)
    (whole_at rs n (holdings_of old) (holdings_of right) l.0 l.1 (left_stays honest image rs n 1 old new l.0 so store named.0 early.0 l.2) (stored_stays honest image (first_of (identifier_of n) rs) n 2 right l.1 right_so l.3) known.whole)

right_whole : {D : Type 0} (honest : Bool) (image : D → List ℕ → Type 0) (rs : List CommitRecord) (n : ℕ) (left old new : KvState D) (ss : List Site) → Known rs n (holdings_of left) (holdings_of old) → IsAsStored honest image left
    → IsAsStored honest image old → LeavesStore honest image rs 2 old new → TwoLeave honest image 1 2 left new ss → is_whole rs ss n ≡ true
right_whole honest image rs n left old new ss known left_so so store l =
    let named = named_at rs n (holdings_of left) (holdings_of old) known.whole in
    let early = early_at n (holdings_of left) (holdings_of old) known.early in
    subst (λ xs. is_whole rs xs n ≡ true) (sym l.4)
    (whole_at rs n (holdings_of left) (holdings_of old) l.0 l.1 (stored_stays honest image (first_of (identifier_of n) rs) n 1 left l.0 left_so l.2) (left_stays honest image rs n 2 old new l.1 so store named.1 early.1 l.3) known.whole)

-- both stores are on their disks as in memory
stored_whole : {D : Type 0} (honest : Bool) (image : D → List ℕ → Type 0) (rs : List CommitRecord) (n : ℕ) (left right : KvState D) (ss : List Site) → is_whole rs (sites_of left right) n ≡ true → IsAsStored honest image left
    → IsAsStored honest image right → TwoLeave honest image 1 2 left right ss → is_whole rs ss n ≡ true
stored_whole honest image rs n left right ss whole left_so right_so l =
    let o = first_of (identifier_of n) rs in
    subst (λ xs. is_whole rs xs n ≡ true) (sym l.4)
    (whole_at rs n (holdings_of left) (holdings_of right) l.0 l.1 (stored_stays honest image o n 1 left l.0 left_so l.2) (stored_stays honest image o n 2 right l.1 right_so l.3) whole)

-- ---- where all that a store held in doubt is settled

-- the freeing is that of one call of recovery, also in what a crash may leave
one_call : (desk : List RmNo) (rm : RmNo) (ms : List ℕ) (m : ℕ) (xs : List LiveState) (rs qs : List CommitRecord) (sites : List Site) → map number_of_manager desk ≡ ms → rm.value ≡ m → AreUnique rs → OnlyFrees (desk ++ rm ∷ []) xs rs qs
    → RecoversOne ms m (standing rs sites) (standing qs (at_site (settled rs m) m sites))
one_call desk rm ms m xs rs qs sites on numbered unique frees =
    subst (λ ks. RecoversOne ks m (standing rs sites) (standing qs (at_site (settled rs m) m sites))) on
    (subst (λ k. RecoversOne (map number_of_manager desk) k (standing rs sites) (standing qs (at_site (settled rs k) k sites))) numbered ((one_of desk rm xs rs qs frees unique).1 sites))

-- A book on whose stores no call failed yet, and what recovery made of it so far: the left store was recovered first.
pub record FirstDone {D : Type 0} (rs qs : List CommitRecord) (left right left_now : KvState D) : Type 0 where
  pub call : RecoversOne [] 1 (standing rs (sites_of left right)) (standing qs (sites_of left_now right))

left_call : {D : Type 0} (desk : List RmNo) (rm : RmNo) (xs : List LiveState) (rs qs : List CommitRecord) (left right left_now : KvState D) → map number_of_manager desk ≡ [] → rm.value ≡ 1 → AreUnique rs → OnlyFrees (desk ++ rm ∷ []) xs rs qs
    → holdings_of left_now ≡ settled rs 1 (holdings_of left) → FirstDone rs qs left right left_now
left_call desk rm xs rs qs left right left_now on numbered unique frees is = record {
  call = subst (λ hs. RecoversOne [] 1 (standing rs (sites_of left right)) (standing qs (two_sites 1 2 hs (holdings_of right)))) (sym is) (one_call desk rm [] 1 xs rs qs (sites_of left right) on numbered unique frees);
}

right_call : {D : Type 0} (desk : List RmNo) (rm : RmNo) (xs : List LiveState) (rs qs : List CommitRecord) (left right right_now : KvState D) → map number_of_manager desk ≡ 1 ∷ [] → rm.value ≡ 2 → AreUnique rs → OnlyFrees (desk ++ rm ∷ []) xs rs qs
    → holdings_of right_now ≡ settled rs 2 (holdings_of right) → RecoversOne (1 ∷ []) 2 (standing rs (sites_of left right)) (standing qs (sites_of left right_now))
right_call desk rm xs rs qs left right right_now on numbered unique frees is =
    subst (λ hs. RecoversOne (1 ∷ []) 2 (standing rs (sites_of left right)) (standing qs (two_sites 1 2 (holdings_of left) hs))) (sym is) (one_call desk rm (1 ∷ []) 2 xs rs qs (sites_of left right) on numbered unique frees)

-- ---- the left store

abbrev with_left : {D C : Type 0} → Book D C → Standing D C → KvState D → Book D C
with_left b n s = record b { manager = n; stores = record b.stores { left = s } }

pub left_leaves : {D C : Type 0} (honest : Bool) (image : D → List ℕ → Type 0) (faults : D → ℕ) (law : IsRecoveredOneByOne) (b : Book D C) (desk : List RmNo) (rm : RmNo) (n : Standing D C) (s : KvState D) → IsTrue honest
    → IsFound honest image faults b → LeavesWhole honest image b → map number_of_manager desk ≡ [] → rm.value ≡ 1 → LeavesOne honest image faults desk rm b.manager n b.stores.left s
    → LeavesWhole honest image (with_left b n s)
left_leaves {D} {C} honest image faults law b desk rm n s is f whole on numbered k = record {
  whole = λ rs may ss l t. whole_after rs may ss l t;
  ordered = λ rs may. elim k.log [
    | inl same ↦ whole.ordered rs (subst (λ (g : LogState D). MayHold image g rs) same may)
    | inr done ↦ order_of_freed (desk ++ rm ∷ []) b.manager.lives rs rs0 (freed rs may done.1) (found_order honest image faults b f whole)
  ];
}
  where
    rs0 : List CommitRecord
    rs0 = logged b.manager.log.slots

    known : (t : TxId) → Known rs0 (number_of t) (holdings_of b.stores.left) (holdings_of b.stores.right)
    known t = record { whole = whole_found honest image faults b f whole t; early = f.early (number_of t) }

    freed : (rs : List CommitRecord) → MayHold image n.log rs → FreesFor honest image (desk ++ rm ∷ []) b.manager.lives b.manager.log n.log → OnlyFrees (desk ++ rm ∷ []) b.manager.lives rs0 rs
    freed rs may frees = log_freed honest image (desk ++ rm ∷ []) b.manager.lives b.manager.log n.log rs is f.up frees may

    whole_after : (rs : List CommitRecord) → MayHold image n.log rs → (ss : List Site) → TwoLeave honest image 1 2 s b.stores.right ss → (t : TxId) → is_whole rs ss (number_of t) ≡ true
    whole_after rs may ss l t = elim k.log [
      | inl same ↦ subst (λ qs. is_whole qs ss (number_of t) ≡ true) (sym (log_same image b.manager.log rs f.images (subst (λ (g : LogState D). MayHold image g rs) same may)))
          (left_whole honest image rs0 (number_of t) b.stores.left s b.stores.right ss (known t) f.left f.right (subst (λ m. LeavesStore honest image rs0 m b.stores.left s) numbered k.store) l)
      | inr done ↦ (
          let settles = subst (λ m. SettlesStore honest image faults rs0 m b.stores.left s) numbered done.0 in
          let store = subst (λ m. LeavesStore honest image rs0 m b.stores.left s) numbered k.store in
          let first = left_call desk rm b.manager.lives rs0 rs b.stores.left b.stores.right s on numbered (found_order honest image faults b f whole).unique (freed rs may done.1) settles.settled in
          let stays = law.stays (1 ∷ []) (standing rs0 (sites_of b.stores.left b.stores.right)) (standing rs (sites_of s b.stores.right)) (number_of t) (standing rs (sites_of s b.stores.right), first.call, refl) (known t).whole (known t).early in
          stored_whole honest image rs (number_of t) s b.stores.right ss stays.0
          (settled_stored honest image faults rs0 1 b.stores.left s f.left store settles (settles.up f.counted.0 f.left.up)) f.right l)
    ]

-- ---- the right store, after it

-- what is known once the left store is recovered
pub record LeftDone {D C : Type 0} (honest : Bool) (image : D → List ℕ → Type 0) (faults : D → ℕ) (b : Book D C) (n : Standing D C) (s : KvState D) : Type 0 where
  pub lives : n.lives ≡ []
  pub last : n.last ≡ b.manager.last
  pub up : IsTrue n.log.is_up
  pub images : LogHolds (image n.log.disk) (logged n.log.slots)
  pub ordered : AreInOrder (logged n.log.slots)
  pub left : IsAsStored honest image s
  pub first : FirstDone (logged b.manager.log.slots) (logged n.log.slots) b.stores.left b.stores.right s

pub left_done : {D C : Type 0} (honest : Bool) (image : D → List ℕ → Type 0) (faults : D → ℕ) (b : Book D C) (desk desk_now : List RmNo) (rm : RmNo) (n : Standing D C) (s : KvState D) → IsTrue honest → IsFound honest image faults b
    → LeavesWhole honest image b → map number_of_manager desk ≡ [] → rm.value ≡ 1 → LeavesOne honest image faults desk rm b.manager n b.stores.left s → EndsOne honest image faults desk desk_now rm b.manager n b.stores.left s
    → LeftDone honest image faults b n s
left_done {D} {C} honest image faults b desk desk_now rm n s is f whole on numbered k e =
    let rs0 = logged b.manager.log.slots in
    let order = found_order honest image faults b f whole in
    let settles = subst (λ m. SettlesStore honest image faults rs0 m b.stores.left s) numbered e.settles in
    let store = subst (λ m. LeavesStore honest image rs0 m b.stores.left s) numbered k.store in
    record {
      lives = ap (λ (m : Standing D C). m.lives) k.rest ∙ f.lives;
      last = ap (λ (m : Standing D C). m.last) k.rest;
      up = subst (λ u. IsTrue u) (sym e.up) f.up;
      images = e.durable is f.up;
      ordered = order_of_freed (desk ++ rm ∷ []) b.manager.lives (logged n.log.slots) rs0 e.frees.records order;
      left = settled_stored honest image faults rs0 1 b.stores.left s f.left store settles (settles.up f.counted.0 f.left.up);
      first = left_call desk rm b.manager.lives rs0 (logged n.log.slots) b.stores.left b.stores.right s on numbered order.unique e.frees.records settles.settled;
    }

abbrev with_both : {D C : Type 0} → Book D C → Standing D C → KvState D → KvState D → Book D C
with_both b n s r = record b { manager = n; stores = record b.stores { left = s; right = r } }

pub right_leaves : {D C : Type 0} (honest : Bool) (image : D → List ℕ → Type 0) (faults : D → ℕ) (law : IsRecoveredOneByOne) (b : Book D C) (n : Standing D C) (s : KvState D) (desk : List RmNo) (rm : RmNo) (q : Standing D C) (r : KvState D)
    → IsTrue honest → IsFound honest image faults b → LeavesWhole honest image b → LeftDone honest image faults b n s → map number_of_manager desk ≡ 1 ∷ [] → rm.value ≡ 2 → LeavesOne honest image faults desk rm n q b.stores.right r
    → LeavesWhole honest image (with_both b q s r)
right_leaves {D} {C} honest image faults law b n s desk rm q r is f whole d on numbered k = record {
  whole = λ rs may ss l t. whole_after rs may ss l t;
  ordered = λ rs may. elim k.log [
    | inl same ↦ subst AreInOrder (sym (as_was rs may same)) d.ordered
    | inr done ↦ order_of_freed (desk ++ rm ∷ []) n.lives rs rs1 (freed rs may done.1) d.ordered
  ];
}
  where
    rs0 : List CommitRecord
    rs0 = logged b.manager.log.slots

    rs1 : List CommitRecord
    rs1 = logged n.log.slots

    start : Before
    start = standing rs0 (sites_of b.stores.left b.stores.right)

    before : (t : TxId) → is_whole rs0 (sites_of b.stores.left b.stores.right) (number_of t) ≡ true
    before t = whole_found honest image faults b f whole t

    known : (t : TxId) → Known rs1 (number_of t) (holdings_of s) (holdings_of b.stores.right)
    known t =
        let stays = law.stays (1 ∷ []) start (standing rs1 (sites_of s b.stores.right)) (number_of t) (standing rs1 (sites_of s b.stores.right), d.first.call, refl) (before t) (f.early (number_of t)) in
        record { whole = stays.0; early = stays.1 }

    as_was : (rs : List CommitRecord) → MayHold image q.log rs → q.log ≡ n.log → rs ≡ rs1
    as_was rs may same = log_same image n.log rs d.images (subst (λ (g : LogState D). MayHold image g rs) same may)

    freed : (rs : List CommitRecord) → MayHold image q.log rs → FreesFor honest image (desk ++ rm ∷ []) n.lives n.log q.log → OnlyFrees (desk ++ rm ∷ []) n.lives rs1 rs
    freed rs may frees = log_freed honest image (desk ++ rm ∷ []) n.lives n.log q.log rs is d.up frees may

    whole_after : (rs : List CommitRecord) → MayHold image q.log rs → (ss : List Site) → TwoLeave honest image 1 2 s r ss → (t : TxId) → is_whole rs ss (number_of t) ≡ true
    whole_after rs may ss l t = elim k.log [
      | inl same ↦ subst (λ ps. is_whole ps ss (number_of t) ≡ true) (sym (as_was rs may same))
          (right_whole honest image rs1 (number_of t) s b.stores.right r ss (known t) d.left f.right (subst (λ m. LeavesStore honest image rs1 m b.stores.right r) numbered k.store) l)
      | inr done ↦ (
          let settles = subst (λ m. SettlesStore honest image faults rs1 m b.stores.right r) numbered done.0 in
          let store = subst (λ m. LeavesStore honest image rs1 m b.stores.right r) numbered k.store in
          let second = right_call desk rm n.lives rs1 rs s b.stores.right r on numbered d.ordered.unique (freed rs may done.1) settles.settled in
          let stays = law.stays (1 ∷ 2 ∷ []) start (standing rs (sites_of s r)) (number_of t) (standing rs1 (sites_of s b.stores.right), d.first.call, (standing rs (sites_of s r), second, refl)) (before t) (f.early (number_of t)) in
          stored_whole honest image rs (number_of t) s r ss stays.0 d.left (settled_stored honest image faults rs1 2 b.stores.right r f.right store settles (settles.up f.counted.1 f.right.up)) l)
    ]

-- ---- once both are recovered

-- the epoch of some of the records is no later than that of all
epoch_at : (rs : List CommitRecord) (k : ℕ) (r : CommitRecord) → k < length rs → epoch_of_record (slice_index_or rs k r) ≤ epoch_of rs
epoch_at [] k r low = absurd (omega (arith, low))
epoch_at (x ∷ rs) zero r low = omega arith
epoch_at (x ∷ rs) (suc k) r low = let rest = epoch_at rs k r (omega (arith, low)) in omega (arith, rest)

epoch_within : (rs qs : List CommitRecord) → All (Contains rs) qs → epoch_of qs ≤ epoch_of rs
epoch_within rs [] among = omega arith
epoch_within rs (q ∷ qs) among =
    let rest = epoch_within rs qs (All-tail (Contains rs) q qs among) in
    let at = All-head (Contains rs) q qs among in
    let first : epoch_of_record q ≤ epoch_of rs = subst (λ r. epoch_of_record r ≤ epoch_of rs) at.2 (epoch_at rs at.0 q at.1) in
    omega (arith, rest, first)

-- a store that holds nothing of a later epoch holds nothing of such a number
none_later : (rs : List CommitRecord) (xs : List LiveState) (m n : ℕ) (hs : List Holding) → first_obstacle rs xs m hs ≡ None → epoch_of rs < n / 65536 → has (is_of_number n) hs ≡ false
none_later rs xs m n [] clear later = refl
none_later rs xs m n (h ∷ hs) clear later = by (λ none. none_later rs xs m n hs none later) (obstacle_to rs xs m h) refl clear
  where
    early : (b : Bool) (o : Option Obstacle) → (if b then Some Later else o) ≡ None → b ≡ false
    early true o none = absurd cc
    early false o none = refl

    other : is_later rs h ≡ false → is_of_number n h ≡ false
    other off = false_from_ne_true (is_of_number n h) (λ same. never (subst (λ k. epoch_of rs < k / 65536) (eqb-true n h.number same) later))
      where
        never : epoch_of rs < h.number / 65536 → ⊥
        never low = absurd (grind (arith, nat_tests))

    by : (first_obstacle rs xs m hs ≡ None → has (is_of_number n) hs ≡ false) → (o : Option Obstacle) → obstacle_to rs xs m h ≡ o → or_else o (pair_held h) (first_obstacle rs xs m hs) ≡ None → has (is_of_number n) (h ∷ hs) ≡ false
    by rest (Some o) is none = absurd cc
    by rest None is none = or_from (is_of_number n h) (has (is_of_number n) hs) (other (early (is_later rs h) _ is)) (rest none)

-- so nothing of it is marked or not
marks_none : (n e : ℕ) (hs : List Holding) → has (is_of_number n) hs ≡ false → marks_in n e hs ≡ []
marks_none n e [] off = refl
marks_none n e (h ∷ hs) off =
    let parts = or_parts (is_of_number n h) (has (is_of_number n) hs) off in
    ap (λ b. if b && (e == h.enlistment) then h.marked ∷ marks_in n e hs else marks_in n e hs) parts.0 ∙ marks_none n e hs parts.1

marks_two : (j n e : ℕ) (hs ks : List Holding) → has (is_of_number n) hs ≡ false → has (is_of_number n) ks ≡ false → marks_of j n e (two_sites 1 2 hs ks) ≡ []
marks_two j n e hs ks left right = by (j == 1) (j == 2) (marks_in n e hs) (marks_in n e ks) (marks_none n e hs left) (marks_none n e ks right)
  where
    by : (a b : Bool) (xs ys : List Bool) → xs ≡ [] → ys ≡ [] → (if a then xs ++ (if b then ys ++ [] else []) else if b then ys ++ [] else []) ≡ []
    by true true xs ys p q = rw (p, q) refl
    by true false xs ys p q = rw p refl
    by false true xs ys p q = rw q refl
    by false false xs ys p q = refl

-- what was settled holds nothing of a number of which nothing was held
settled_none : (rs : List CommitRecord) (m n : ℕ) (hs ks : List Holding) → has (is_of_number n) hs ≡ false → ks ≡ as_found (settled rs m hs) → has (is_of_number n) ks ≡ false
settled_none rs m n hs ks off is = ap (has (is_of_number n)) is ∙ (has_mapped (is_of_number n) found_one (settled rs m hs) (λ h. refl) ∙ none_settled (is_of_number n) rs m (λ h e. e) hs off)

-- a number above all of an epoch is of a later one
number_later : (t : TxId) (epoch : ℕ) → 65536 * epoch + 256 < number_of t → epoch < number_of t / 65536
number_later t epoch above =
    let is : number_of t ≡ 65536 * t.epoch + t.t.value = number_is t.epoch t.t.value in
    let high = t.t.in_range.1 in
    omega (arith, above, is, high)

pub both_whole : {D C : Type 0} (honest : Bool) (image : D → List ℕ → Type 0) (faults : D → ℕ) (b : Book D C) (desk desk_now : List RmNo) (rm : RmNo) (n : Standing D C) (s : KvState D) (desk2 desk_now2 : List RmNo) (rm2 : RmNo)
    (q : Standing D C) (r : KvState D) → ((x : KvState D) → IsAsStored honest image x → KvSound honest image x) → IsFound honest image faults b → LeftDone honest image faults b n s → rm.value ≡ 1 → rm2.value ≡ 2
    → LeavesOne honest image faults desk rm b.manager n b.stores.left s → EndsOne honest image faults desk desk_now rm b.manager n b.stores.left s → LeavesOne honest image faults desk2 rm2 n q b.stores.right r
    → EndsOne honest image faults desk2 desk_now2 rm2 n q b.stores.right r → LeavesWhole honest image (with_both b q s r) → IsWholeBook honest image (with_both b q s r)
both_whole {D} {C} honest image faults b desk desk_now rm n s desk2 desk_now2 rm2 q r opened f d numbered numbered2 k e k2 e2 whole = record {
  whole = whole.whole;
  ordered = whole.ordered;
  tied = λ t x at. absurd (none_live q.lives none t x at);
  routed = λ t x at. absurd (none_live q.lives none t x at);
  begun = λ t x at. absurd (none_live q.lives none t x at);
  new = λ t above ss l j en. new t above ss l j en;
  memory = (opened s d.left, opened r right);
}
  where
    rs0 : List CommitRecord
    rs0 = logged b.manager.log.slots

    none : q.lives ≡ []
    none = ap (λ (m : Standing D C). m.lives) k2.rest ∙ d.lives

    right : IsAsStored honest image r
    right = settled_stored honest image faults (logged n.log.slots) rm2.value b.stores.right r f.right k2.store e2.settles (e2.settles.up f.counted.1 f.right.up)

    last : q.last ≡ 65536 * epoch_of rs0 + 256
    last = ap (λ (m : Standing D C). m.last) k2.rest ∙ (d.last ∙ f.last)

    new : (t : TxId) → q.last < number_of t → (ss : List Site) → TwoLeave honest image 1 2 s r ss → (j en : ℕ) → marks_of j (number_of t) en ss ≡ []
    new t above ss l j en =
        let later : epoch_of rs0 < number_of t / 65536 = number_later t (epoch_of rs0) (subst (λ k. k < number_of t) last above) in
        let within = epoch_within rs0 (logged n.log.slots) e.frees.records.among in
        let later2 : epoch_of (logged n.log.slots) < number_of t / 65536 = omega (arith, later, within) in
        let left_none = none_later rs0 b.manager.lives rm.value (number_of t) (holdings_of b.stores.left) e.clear later in
        let right_none = none_later (logged n.log.slots) n.lives rm2.value (number_of t) (holdings_of b.stores.right) e2.clear later2 in
        ap (marks_of j (number_of t) en) l.4
        ∙ marks_two j (number_of t) en l.0 l.1 (settled_none rs0 rm.value (number_of t) (holdings_of b.stores.left) l.0 left_none (stored_is honest image s l.0 d.left l.2 ∙ ap as_found e.settles.settled))
        (settled_none (logged n.log.slots) rm2.value (number_of t) (holdings_of b.stores.right) l.1 right_none (stored_is honest image r l.1 right l.3 ∙ ap as_found e2.settles.settled))
