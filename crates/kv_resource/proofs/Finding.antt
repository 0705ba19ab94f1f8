-- What is found in the slots and the drafts of a store.
use Rattle.std.specs.Prelude.{find, position, remove}
use Rattle.std.specs.List.{position_or_len}
use Rattle.std.proofs.Common.{◌≡◌, ℕ, zero, suc, ◌+◌, ◌≤◌, ◌<◌, Bool, true, false, ◌&&◌, not, cond, nat_lt, List, [], ◌∷◌, ◌++◌, length, get_or, set, Option, Some, None, refl, sym, ap, ◌∙◌, inl, inr, arith}
use Rattle.std.proofs.lemmas.Bool.{cases_Bool}
use Rattle.std.proofs.lemmas.Bool.Decides.{nat_tests}
use Rattle.std.proofs.lemmas.List.Quantifiers.{position-Some}
use Rattle.dtx_model.specs.Words.{has}
use Rattle.kv_resource.specs.Bytes.{KvRecord}
use Rattle.kv_resource.specs.Notes.{on_unmarked}
use Rattle.kv_resource.specs.Store.{KvDraft, Pair, above_highest, is_draft_of, is_marked_record, is_record_of, is_unmarked_of, next_slot, on_open, open_records, with_draft, with_write, without_draft}

-- slots, as contracts see them
abbrev pub Slots : Type 0
Slots = List (Option KvRecord)

-- the first open slot whose record passes
pub record IsFirst (q : KvRecord → Bool) (ss : Slots) (k : ℕ) : Type 0 where
  pub r : KvRecord
  pub inside : k < length ss
  pub is : get_or ss k None ≡ Some r
  pub passes : q r ≡ true
  pub before : (j : ℕ) → j < k → on_open q (get_or ss j None) ≡ false

-- a slot that is open with a record that passes
pub open_is : (q : KvRecord → Bool) (s : Option KvRecord) → on_open q s ≡ true → (r : KvRecord) × (s ≡ Some r) × (q r ≡ true)
open_is q None e = absurd cc
open_is q (Some r) e = (r, refl, e)

-- a search finds it
pub is_first : (q : KvRecord → Bool) (ss : Slots) (k : ℕ) → position (on_open q) ss ≡ Some k → IsFirst q ss k
is_first q ss k e =
    let at = position-Some (on_open q) ss k None e in
    let open_at = open_is q (get_or ss k None) at.1 in
    record { r = open_at.0; inside = at.0; is = open_at.1; passes = open_at.2; before = at.2 }

-- the first of a longer list
unfoldable pub first_below : (q : KvRecord → Bool) (s : Option KvRecord) (ss : Slots) (k : ℕ) → IsFirst q (s ∷ ss) (suc k) → IsFirst q ss k
first_below q s ss k f = record { r = f.r; inside = let lt = f.inside in omega arith; is = f.is; passes = f.passes; before = λ j lt. f.before (suc j) (omega arith) }

-- it is what is found in the records
pub find_first : (q : KvRecord → Bool) (ss : Slots) (k : ℕ) (f : IsFirst q ss k) → (find q (open_records ss) ≡ Some f.r) × (has q (open_records ss) ≡ true)
unfolding first_below
find_first q [] k f = absurd (let lt = f.inside in omega arith)
find_first q (None ∷ ss) zero f = absurd (let is = f.is in cc)
find_first q (None ∷ ss) (suc k) f = find_first q ss k (first_below q None ss k f)
find_first q (Some x ∷ ss) zero f =
    let is = f.is in
    let same : x ≡ f.r = cc in
    let here : q x ≡ true = ap q same ∙ f.passes in
    (rw here (ap Some same), rw here refl)
find_first q (Some x ∷ ss) (suc k) f =
    let other : q x ≡ false = f.before 0 (omega arith) in
    let rest = find_first q ss k (first_below q (Some x) ss k f) in
    (rw other rest.0, rw other rest.1)

-- and what the first unmarked record of a pair is
pub on_first : (p : Pair) (g : KvRecord → Option KvRecord) (ss : Slots) (k : ℕ) (f : IsFirst (is_unmarked_of p) ss k) → on_unmarked p g ss ≡ set ss k (g f.r)
unfolding first_below
on_first p g [] k f = absurd (let lt = f.inside in omega arith)
on_first p g (None ∷ ss) zero f = absurd (let is = f.is in cc)
on_first p g (None ∷ ss) (suc k) f = ap (λ (l : Slots). None ∷ l) (on_first p g ss k (first_below (is_unmarked_of p) None ss k f))
on_first p g (Some x ∷ ss) zero f =
    let is = f.is in
    let same : x ≡ f.r = cc in
    let here : is_unmarked_of p x ≡ true = ap (is_unmarked_of p) same ∙ f.passes in
    rw here (ap (λ (r : KvRecord). g r ∷ ss) same)
on_first p g (Some x ∷ ss) (suc k) f =
    let other : is_unmarked_of p x ≡ false = f.before 0 (omega arith) in
    rw other (ap (λ (l : Slots). Some x ∷ l) (on_first p g ss k (first_below (is_unmarked_of p) (Some x) ss k f)))

-- no place is given where none passes
no_place : (b : Bool) (m : ℕ) → cond b (Some m) None ≡ None → b ≡ false
no_place true m e = absurd cc
no_place false m e = refl

none_passes : {X : Type 0} (p : X → Bool) (xs : List X) → position p xs ≡ None → length xs ≤ position_or_len p xs
none_passes p xs e = let test : nat_lt (position_or_len p xs) (length xs) ≡ false = no_place (nat_lt (position_or_len p xs) (length xs)) (position_or_len p xs) e in grind (arith, nat_tests)

-- where no slot passes, no record does
no_first : (q : KvRecord → Bool) (ss : Slots) → length ss ≤ position_or_len (on_open q) ss → (has q (open_records ss) ≡ false) × (find q (open_records ss) ≡ None)
no_first q [] le = (refl, refl)
no_first q (None ∷ ss) le = no_first q ss (omega arith)
no_first q (Some r ∷ ss) le = elim (cases_Bool (q r)) [
  | inl here ↦ absurd (let h = rw here at le in omega arith)
  | inr other ↦ let rest = no_first q ss (let h = rw other at le in omega arith) in (rw other rest.0, rw other rest.1)
]

pub none_first : (q : KvRecord → Bool) (ss : Slots) → position (on_open q) ss ≡ None → (has q (open_records ss) ≡ false) × (find q (open_records ss) ≡ None)
none_first q ss e = no_first q ss (none_passes (on_open q) ss e)

-- ---- drafts

-- the pair's draft
pub record IsDraftAt (p : Pair) (ds : List KvDraft) (i : ℕ) (d : KvDraft) : Type 0 where
  pub inside : i < length ds
  pub is : d ≡ get_or ds i d
  pub passes : is_draft_of p d ≡ true
  pub before : (j : ℕ) → j < i → is_draft_of p (get_or ds j d) ≡ false

pub is_draft_at : (p : Pair) (ds : List KvDraft) (i : ℕ) (d : KvDraft) → position (is_draft_of p) ds ≡ Some i → d ≡ get_or ds i d → IsDraftAt p ds i d
is_draft_at p ds i d e is =
    let at = position-Some (is_draft_of p) ds i d e in
    record { inside = at.0; is = is; passes = ap (is_draft_of p) is ∙ at.1; before = at.2 }

draft_below : (p : Pair) (x : KvDraft) (ds : List KvDraft) (i : ℕ) (d : KvDraft) → IsDraftAt p (x ∷ ds) (suc i) d → IsDraftAt p ds i d
draft_below p x ds i d f = record { inside = let lt = f.inside in omega arith; is = f.is; passes = f.passes; before = λ j lt. f.before (suc j) (omega arith) }

pub find_draft : (p : Pair) (ds : List KvDraft) (i : ℕ) (d : KvDraft) → IsDraftAt p ds i d → (find (is_draft_of p) ds ≡ Some d) × (has (is_draft_of p) ds ≡ true) × (without_draft p ds ≡ remove ds i)
find_draft p [] i d f = absurd (let lt = f.inside in omega arith)
find_draft p (x ∷ ds) zero d f =
    let same : d ≡ x = f.is in
    let here : is_draft_of p x ≡ true = ap (is_draft_of p) (sym same) ∙ f.passes in
    (rw here (ap Some (sym same)), rw here refl, rw here refl)
find_draft p (x ∷ ds) (suc i) d f =
    let other : is_draft_of p x ≡ false = f.before 0 (omega arith) in
    let rest = find_draft p ds i d (draft_below p x ds i d f) in
    (rw other rest.0, rw other rest.1, rw other (ap (λ (l : List KvDraft). x ∷ l) rest.2))

-- a write in a draft
abbrev pub draft_with : ℕ → ℕ → KvDraft → KvDraft
draft_with k v d = record { transaction = d.transaction; enlistment = d.enlistment; writes = with_write k v d.writes }

pub put_draft : (p : Pair) (k v : ℕ) (ds : List KvDraft) (i : ℕ) (d : KvDraft) → IsDraftAt p ds i d → with_draft p k v ds ≡ set ds i (draft_with k v d)
put_draft p k v [] i d f = absurd (let lt = f.inside in omega arith)
put_draft p k v (x ∷ ds) zero d f =
    let same : d ≡ x = f.is in
    let here : is_draft_of p x ≡ true = ap (is_draft_of p) (sym same) ∙ f.passes in
    rw here (ap (λ (y : KvDraft). draft_with k v y ∷ ds) (sym same))
put_draft p k v (x ∷ ds) (suc i) d f =
    let other : is_draft_of p x ≡ false = f.before 0 (omega arith) in
    rw other (ap (λ (l : List KvDraft). x ∷ l) (put_draft p k v ds i d (draft_below p x ds i d f)))

-- where no draft passes
no_draft : (p : Pair) (ds : List KvDraft) (k v : ℕ) → length ds ≤ position_or_len (is_draft_of p) ds
    → (find (is_draft_of p) ds ≡ None) × (has (is_draft_of p) ds ≡ false) × (without_draft p ds ≡ ds) × (with_draft p k v ds ≡ ds ++ record { transaction = p.0; enlistment = p.1; writes = (k, v) ∷ [] } ∷ [])
no_draft p [] k v le = (refl, refl, refl, refl)
no_draft p (x ∷ ds) k v le = elim (cases_Bool (is_draft_of p x)) [
  | inl here ↦ absurd (let h = rw here at le in omega arith)
  | inr other ↦
      let rest = no_draft p ds k v (let h = rw other at le in omega arith) in
      (rw other rest.0, rw other rest.1, rw other (ap (λ (l : List KvDraft). x ∷ l) rest.2), rw other (ap (λ (l : List KvDraft). x ∷ l) rest.3))
]

pub none_draft : (p : Pair) (ds : List KvDraft) (k v : ℕ) → position (is_draft_of p) ds ≡ None
    → (find (is_draft_of p) ds ≡ None) × (has (is_draft_of p) ds ≡ false) × (without_draft p ds ≡ ds) × (with_draft p k v ds ≡ ds ++ record { transaction = p.0; enlistment = p.1; writes = (k, v) ∷ [] } ∷ [])
none_draft p ds k v e = no_draft p ds k v (none_passes (is_draft_of p) ds e)

-- ---- the pair's lowest slot and its lowest that isn't marked

-- the lowest slot of a pair is marked or not
pub lowest_mark : (p : Pair) (ss : Slots) (k : ℕ) (f : IsFirst (is_record_of p) ss k) → is_marked_record (find (is_record_of p) (open_records ss)) ≡ f.r.marked
lowest_mark p ss k f = ap is_marked_record (find_first (is_record_of p) ss k f).0

-- where it isn't marked, it is the lowest that isn't
pub lowest_unmarked : (p : Pair) (ss : Slots) (k : ℕ) (f : IsFirst (is_record_of p) ss k) → f.r.marked ≡ false → IsFirst (is_unmarked_of p) ss k
lowest_unmarked p ss k f unmarked = record {
  r = f.r;
  inside = f.inside;
  is = f.is;
  passes = both (is_record_of p f.r) f.r.marked f.passes unmarked;
  before = λ j lt. neither (get_or ss j None) (f.before j lt);
}
  where
    both : (a b : Bool) → a ≡ true → b ≡ false → (a && not b) ≡ true
    both a b e h = rw (e, h) refl

    first_no : (a b : Bool) → a ≡ false → (a && b) ≡ false
    first_no a b e = rw e refl

    neither : (s : Option KvRecord) → on_open (is_record_of p) s ≡ false → on_open (is_unmarked_of p) s ≡ false
    neither None e = refl
    neither (Some r) e = first_no (is_record_of p r) (not r.marked) e

-- an unmarked record of a pair isn't marked
pub no_mark : (p : Pair) (r : KvRecord) → is_unmarked_of p r ≡ true → not r.marked ≡ true
no_mark p r e = second (is_record_of p r) (not r.marked) e
  where
    second : (a b : Bool) → (a && b) ≡ true → b ≡ true
    second true b e = e
    second false b e = absurd cc

-- the slot after the highest is none that was counted
above_least : (i : ℕ) (ss : Slots) (n : ℕ) → n ≤ i → n ≤ above_highest i ss n
above_least i [] n le = omega arith
above_least i (None ∷ ss) n le = above_least (suc i) ss n (omega arith)
above_least i (Some r ∷ ss) n le = let h = above_least (suc i) ss (suc i) (omega arith) in omega arith

-- the slot after the highest is closed
pub above_closed : (i : ℕ) (ss : Slots) (n k : ℕ) → above_highest i ss n ≡ i + k → n ≤ i → get_or ss k None ≡ None
above_closed i [] n k e le = refl
above_closed i (None ∷ ss) n zero e le = refl
above_closed i (None ∷ ss) n (suc k) e le = above_closed (suc i) ss n k (e ∙ (omega arith)) (omega arith)
above_closed i (Some r ∷ ss) n zero e le = absurd (let low = above_least (suc i) ss (suc i) (omega arith) in omega arith)
above_closed i (Some r ∷ ss) n (suc k) e le = above_closed (suc i) ss (suc i) k (e ∙ (omega arith)) (omega arith)

-- where the next slot is
pub next_facts : (ss : Slots) (k : ℕ) → next_slot ss ≡ Some k → (k < 1024) × (get_or ss k None ≡ None)
next_facts ss k e =
    let f = facts (above_highest 0 ss 0) k (nat_lt (above_highest 0 ss 0) 1024) refl e in
    (f.0, above_closed 0 ss 0 k (omega (arith, f.1)) (omega arith))
  where
    facts : (h k : ℕ) (b : Bool) → nat_lt h 1024 ≡ b → cond b (Some h) None ≡ Some k → (k < 1024) × (h ≡ k)
    facts h k true t e = let is : h ≡ k = cc in (grind (arith, nat_tests), is)
    facts h k false t e = absurd cc

-- a draft that is there
draft_exists : (ds : List KvDraft) (i : ℕ) → i < length ds → (d : KvDraft) × (d ≡ get_or ds i d)
draft_exists [] i lt = absurd (omega arith)
draft_exists (x ∷ ds) zero lt = (x, refl)
draft_exists (x ∷ ds) (suc i) lt = draft_exists ds i (omega arith)

pub found_draft : (p : Pair) (ds : List KvDraft) (i : ℕ) → position (is_draft_of p) ds ≡ Some i → (d : KvDraft) × IsDraftAt p ds i d
found_draft p [] i e = absurd cc
found_draft p (x ∷ ds) i e =
    let at = position-Some (is_draft_of p) (x ∷ ds) i x e in
    let d = draft_exists (x ∷ ds) i at.0 in
    (d.0, is_draft_at p (x ∷ ds) i d.0 e d.1)
