-- What a store holds of enlistments, by its slots, and what finishing one makes of it.
use Rattle.std.specs.Prelude.{IsTrue, OnErr, OnOk, is_some, map, slice_get}
use Rattle.std.specs.List.{count_by}
use Rattle.std.proofs.Common.{◌≡◌, ◌⊎◌, inl, inr, ℕ, zero, suc, ◌+◌, ◌<◌, ◌≤◌, Bool, true, false, ◌&&◌, not, cond, nat_le, List, [], ◌∷◌, length, get_or, drop, set, take, Option, Some, None, Result, Ok, Err, refl, sym, subst, ap, ◌∙◌, arith}
use Rattle.std.proofs.lemmas.Bool.{cases_Bool}
use Rattle.std.proofs.lemmas.Bool.Decides.{nat_tests}
use Rattle.std.proofs.lemmas.List.{at_drop_more, drop_all, get_or-take, length-take}
use Rattle.std.proofs.lemmas.List.Sums.{sum_by-cons}
use Rattle.dtx_model.specs.Words.{has}
use Rattle.outside.specs.Faults.{Rose}
use Rattle.outside.specs.declared.failure.Failed.{Failed}
use Rattle.resource_managers.specs.Holding.{Holding, as_found, finished, first_in_doubt, is_doubt_of, is_in_doubt}
use Rattle.kv_resource.specs.Bytes.{KvRecord, kv_has, with_mark}
use Rattle.kv_resource.specs.Held.{MayLeave, holdings_from, holdings_of, record_held}
use Rattle.kv_resource.specs.Images.{TurnsSlot}
use Rattle.kv_resource.specs.Store.{KvMemory, KvState, Pair, in_doubt, is_record_of, is_unmarked_of, open_records}
use Rattle.kv_resource.proofs.Finding.{IsFirst, Slots, first_below}

-- ---- the list

abbrev one_for_open : Option KvRecord → ℕ
one_for_open s = cond (is_some s) 1 0

-- one for each open slot
pub length-holdings : (n k : ℕ) (ss : Slots) → length (holdings_from n k ss) ≡ count_by is_some ss
length-holdings n k [] = refl
length-holdings n k (None ∷ ss) = let rest = length-holdings n (suc k) ss in let one : count_by is_some (None ∷ ss) ≡ 0 + count_by is_some ss = sum_by-cons one_for_open None ss in omega (arith, rest, one)
length-holdings n k (Some r ∷ ss) = let rest = length-holdings n (suc k) ss in let one : count_by is_some (Some r ∷ ss) ≡ 1 + count_by is_some ss = sum_by-cons one_for_open (Some r) ss in omega (arith, rest, one)

-- as a later process finds them
pub found-holdings : (n k : ℕ) (ss : Slots) → as_found (holdings_from n k ss) ≡ map (record_held false) (open_records ss)
found-holdings n k [] = refl
found-holdings n k (None ∷ ss) = found-holdings n (suc k) ss
found-holdings n k (Some r ∷ ss) = ap (λ (l : List Holding). record_held false r ∷ l) (found-holdings n (suc k) ss)

-- ---- the loop over the slots

-- a slot that is closed is passed over
pub held_closed : (n k left : ℕ) (ss : Slots) (s : Option KvRecord) → k < length ss → s ≡ get_or ss k s → s ≡ None → slice_get (holdings_from n (k + 1) (drop (k + 1) ss)) left ≡ slice_get (holdings_from n k (drop k ss)) left
held_closed n k left ss s lt is none =
    let next : k + 1 ≡ suc k = omega arith in
    sym (at_drop_more (λ (l : Slots). slice_get (holdings_from n k l) left) ss k s lt ∙ ap (λ (o : Option KvRecord). slice_get (holdings_from n k (o ∷ drop (k + 1) ss)) left) (sym is ∙ none) ∙ ap (λ (j : ℕ). slice_get (holdings_from n j (drop (k + 1) ss)) left) (sym next))

-- one that is open is the first that is left
pub held_here : (n k : ℕ) (ss : Slots) (s : Option KvRecord) (r : KvRecord) → k < length ss → s ≡ get_or ss k s → s ≡ Some r → slice_get (holdings_from n k (drop k ss)) 0 ≡ Some (record_held (nat_le n k) r)
held_here n k ss s r lt is some =
    at_drop_more (λ (l : Slots). slice_get (holdings_from n k l) 0) ss k s lt ∙ ap (λ (o : Option KvRecord). slice_get (holdings_from n k (o ∷ drop (k + 1) ss)) 0) (sym is ∙ some)

pub held_later : (n k left : ℕ) (ss : Slots) (s : Option KvRecord) (r : KvRecord) → k < length ss → s ≡ get_or ss k s → s ≡ Some r
    → slice_get (holdings_from n (k + 1) (drop (k + 1) ss)) left ≡ slice_get (holdings_from n k (drop k ss)) (suc left)
held_later n k left ss s r lt is some =
    let next : k + 1 ≡ suc k = omega arith in
    sym (at_drop_more (λ (l : Slots). slice_get (holdings_from n k l) (suc left)) ss k s lt ∙ ap (λ (o : Option KvRecord). slice_get (holdings_from n k (o ∷ drop (k + 1) ss)) (suc left)) (sym is ∙ some) ∙ ap (λ (j : ℕ). slice_get (holdings_from n j (drop (k + 1) ss)) left) (sym next))

pub held_past : (n k left : ℕ) (ss : Slots) → length ss ≤ k → slice_get (holdings_from n k (drop k ss)) left ≡ None
held_past n k left ss le = ap (λ (l : Slots). slice_get (holdings_from n k l) left) (drop_all k ss le)

-- ---- in doubt

-- what is written here isn't in doubt
here_never : (m here : Bool) → here ≡ true → not m && not here ≡ false
here_never true here e = refl
here_never false here e = ap not e

-- of an earlier process's it is what isn't marked
there_unmarked : (m here : Bool) → here ≡ false → not m && not here ≡ not m
there_unmarked true here e = refl
there_unmarked false here e = ap not e

is_here : (n k : ℕ) → n ≤ k → nat_le n k ≡ true
is_here n k le = grind (arith, nat_tests)

is_there : (n k : ℕ) → k < n → nat_le n k ≡ false
is_there n k lt = grind (arith, nat_tests)

-- the first of these
abbrev pub first_pair : List Pair → Option Pair
first_pair ps = slice_get ps 0

none_here : (n k : ℕ) (ss : Slots) → n ≤ k → first_in_doubt (holdings_from n k ss) ≡ None
none_here n k [] le = refl
none_here n k (None ∷ ss) le = none_here n (suc k) ss (omega arith)
none_here n k (Some r ∷ ss) le = rw (here_never r.marked (nat_le n k) (is_here n k le)) (none_here n (suc k) ss (omega arith))

-- the first in doubt is the first unmarked of the earlier slots
pub first_doubt : (n m k : ℕ) (ss : Slots) → n ≡ k + m → first_in_doubt (holdings_from n k ss) ≡ first_pair (in_doubt (open_records (take m ss)))
first_doubt n zero k ss e = none_here n k ss (omega arith)
first_doubt n (suc m) k [] e = refl
first_doubt n (suc m) k (None ∷ ss) e = first_doubt n m (suc k) ss (omega arith)
first_doubt n (suc m) k (Some r ∷ ss) e =
    let bit : is_in_doubt (record_held (nat_le n k) r) ≡ not r.marked = there_unmarked r.marked (nat_le n k) (is_there n k (omega arith)) in
    elim (cases_Bool r.marked) [
      | inl marked ↦ rw (bit, marked) (first_doubt n m (suc k) ss (omega arith))
      | inr unmarked ↦ rw (bit, unmarked) refl
    ]

-- ---- finishing

-- whether it is in doubt of the pair, by whether its record is the pair's and unmarked
doubt_of_here : (m here r : Bool) → here ≡ true → (not m && not here) && r ≡ false
doubt_of_here m here r e = ap (λ (b : Bool). b && r) (here_never m here e)

doubt_of_there : (m here r b : Bool) → here ≡ false → r && not m ≡ b → (not m && not here) && r ≡ b
doubt_of_there m here r b e is = ap (λ (x : Bool). x && r) (there_unmarked m here e) ∙ swapped (not m) r ∙ is
  where
    swapped : (a b : Bool) → a && b ≡ b && a
    swapped true true = refl
    swapped true false = refl
    swapped false true = refl
    swapped false false = refl

here_stays : (p : Pair) (commit : Bool) (n k : ℕ) (ss : Slots) → n ≤ k → finished commit p (holdings_from n k ss) ≡ holdings_from n k ss
here_stays p commit n k [] le = refl
here_stays p commit n k (None ∷ ss) le = here_stays p commit n (suc k) ss (omega arith)
here_stays p commit n k (Some r ∷ ss) le =
    let no : is_doubt_of p (record_held (nat_le n k) r) ≡ false = doubt_of_here r.marked (nat_le n k) (is_record_of p r) (is_here n k le) in
    rw no (ap (λ (l : List Holding). record_held (nat_le n k) r ∷ l) (here_stays p commit n (suc k) ss (omega arith)))

-- nothing is finished where no earlier slot has an unmarked record of the pair
pub nothing_finished : (p : Pair) (commit : Bool) (n m k : ℕ) (ss : Slots) → n ≡ k + m → has (is_unmarked_of p) (open_records (take m ss)) ≡ false → finished commit p (holdings_from n k ss) ≡ holdings_from n k ss
nothing_finished p commit n zero k ss e none = here_stays p commit n k ss (omega arith)
nothing_finished p commit n (suc m) k [] e none = refl
nothing_finished p commit n (suc m) k (None ∷ ss) e none = nothing_finished p commit n m (suc k) ss (omega arith) none
nothing_finished p commit n (suc m) k (Some r ∷ ss) e none = elim (cases_Bool (is_unmarked_of p r)) [
  | inl is ↦ absurd (let both : true ≡ false = rw is at none in cc)
  | inr not ↦
      let rest : has (is_unmarked_of p) (open_records (take m ss)) ≡ false = rw not at none in
      let no : is_doubt_of p (record_held (nat_le n k) r) ≡ false = doubt_of_there r.marked (nat_le n k) (is_record_of p r) false (is_there n k (omega arith)) not in
      rw no (ap (λ (l : List Holding). record_held (nat_le n k) r ∷ l) (nothing_finished p commit n m (suc k) ss (omega arith) rest))
]

-- what becomes of a record that is finished
abbrev pub settled : Bool → KvRecord → Option KvRecord
settled true r = Some (with_mark true r)
settled false r = None

settled_first : (p : Pair) (commit : Bool) (n k : ℕ) (ss : Slots) (x : KvRecord) → is_doubt_of p (record_held (nat_le n k) x) ≡ true → finished commit p (holdings_from n k (Some x ∷ ss)) ≡ holdings_from n k (settled commit x ∷ ss)
settled_first p true n k ss x doubted = rw doubted refl
settled_first p false n k ss x doubted = rw doubted refl

-- and else the first of these is
pub first_finished : (p : Pair) (commit : Bool) (n m k : ℕ) (ss : Slots) (j : ℕ) → n ≡ k + m → (f : IsFirst (is_unmarked_of p) (take m ss) j) → finished commit p (holdings_from n k ss) ≡ holdings_from n k (set ss j (settled commit f.r))
unfolding first_below
first_finished p commit n zero k ss j e f = absurd (let lt = f.inside in omega arith)
first_finished p commit n (suc m) k [] j e f = absurd (let lt = f.inside in omega arith)
first_finished p commit n (suc m) k (None ∷ ss) zero e f = absurd (let is = f.is in cc)
first_finished p commit n (suc m) k (None ∷ ss) (suc j) e f = first_finished p commit n m (suc k) ss j (omega arith) (first_below (is_unmarked_of p) None (take m ss) j f)
first_finished p commit n (suc m) k (Some x ∷ ss) zero e f =
    let is = f.is in
    let same : x ≡ f.r = cc in
    let passes : is_unmarked_of p x ≡ true = ap (is_unmarked_of p) same ∙ f.passes in
    let doubted : is_doubt_of p (record_held (nat_le n k) x) ≡ true = doubt_of_there x.marked (nat_le n k) (is_record_of p x) true (is_there n k (omega arith)) passes in
    settled_first p commit n k ss x doubted ∙ ap (λ (r : KvRecord). holdings_from n k (settled commit r ∷ ss)) same
first_finished p commit n (suc m) k (Some x ∷ ss) (suc j) e f =
    let other : is_unmarked_of p x ≡ false = f.before 0 (omega arith) in
    let no : is_doubt_of p (record_held (nat_le n k) x) ≡ false = doubt_of_there x.marked (nat_le n k) (is_record_of p x) false (is_there n k (omega arith)) other in
    rw no (ap (λ (l : List Holding). record_held (nat_le n k) x ∷ l) (first_finished p commit n m (suc k) ss j (omega arith) (first_below (is_unmarked_of p) (Some x) (take m ss) j f)))

-- the slot among them all
pub in_whole : (q : KvRecord → Bool) (m : ℕ) (ss : Slots) (j : ℕ) (f : IsFirst q (take m ss) j) → (j < length ss) × (get_or ss j None ≡ Some f.r)
in_whole q m ss j f =
    let inside = f.inside in
    let long = length-take m ss in
    let both : (j < m) × (j < length ss) = (grind (arith, inside, long), grind (arith, inside, long)) in
    (both.1, sym (get_or-take m ss j None both.0) ∙ f.is)

-- ---- the device work of a finish

module _ {D : Type 0} (honest : Bool) (image : D → List ℕ → Type 0) (faults : D → ℕ) (p : Pair) (commit : Bool) (old new : KvState D) (k : ℕ) (f : IsFirst (is_unmarked_of p) (take old.earlier old.memory.slots) k) where
  abbrev Turned : Result (Unit {0}) Failed → Type 0
  Turned result = TurnsSlot honest image faults old new k (settled commit f.r) old.memory.drafts old.earlier result

  -- what the slots hold with the record that is settled
  settling : finished commit p (holdings_of old) ≡ holdings_from old.earlier 0 (set old.memory.slots k (settled commit f.r))
  settling = first_finished p commit old.earlier old.earlier 0 old.memory.slots k (omega arith) f

  pub finish_done : (result : Result (Unit {0}) Failed) → Turned result → OnOk result (holdings_of new ≡ finished commit p (holdings_of old))
  finish_done (Ok u) turns = (λ j. holdings_from (turns.since j) 0 (turns.done j).slots) ∙ sym settling
  finish_done (Err e) turns = tt

  pub finish_failed : (result : Result (Unit {0}) Failed) → Turned result → OnErr result (holdings_of new ≡ holdings_of old)
  finish_failed (Ok u) turns = tt
  finish_failed (Err e) turns = λ j. holdings_from (turns.still j) 0 (turns.failed j).slots

  pub finish_cause : (result : Result (Unit {0}) Failed) → Turned result → OnErr result (IsTrue old.memory.stopped ⊎ Rose (faults old.disk) (faults new.disk))
  finish_cause (Ok u) turns = tt
  finish_cause (Err e) turns = inr turns.cause

  -- after a finish that was done the store isn't stopped, and its count of faults is as before
  pub finish_since : (result : Result (Unit {0}) Failed) → Turned result → OnOk result ((x : KvState D) → IsTrue new.memory.stopped ⊎ Rose (faults new.disk) (faults x.disk) → IsTrue old.memory.stopped ⊎ Rose (faults old.disk) (faults x.disk))
  finish_since (Ok u) turns = λ x failed. elim failed [
    | inl stopped ↦ absurd (let not : IsTrue false = subst (λ (m : KvMemory). IsTrue m.stopped) turns.done stopped in cc)
    | inr rose ↦ inr (subst (λ (n : ℕ). Rose n (faults x.disk)) turns.smooth rose)
  ]
  finish_since (Err e) turns = tt

  -- the records of an image, as a later process finds them
  as_records : (b : List ℕ) (rs : List KvRecord) (hs : List Holding) (ss : Slots) → kv_has b ≡ Ok rs → hs ≡ map (record_held false) rs → kv_has b ≡ Ok (open_records ss) → hs ≡ as_found (holdings_from old.earlier 0 ss)
  as_records b rs hs ss read found is =
      let same : rs ≡ open_records ss = cc in
      found ∙ ap (map (record_held false)) same ∙ sym (found-holdings old.earlier 0 ss)

  pub finish_leaves : (result : Result (Unit {0}) Failed) → Turned result → (hs : List Holding) → MayLeave honest image new hs → MayLeave honest image old hs ⊎ ((hs ≡ as_found (holdings_of old)) ⊎ (hs ≡ as_found (finished commit p (holdings_of old))))
  finish_leaves result turns hs l = elim (turns.images l.honestly l.bytes l.left) [
    | inl before ↦ inr (inl (as_records l.bytes l.records hs old.memory.slots l.read l.found before))
    | inr after ↦ inr (inr (as_records l.bytes l.records hs (set old.memory.slots k (settled commit f.r)) l.read l.found after ∙ ap as_found (sym settling)))
  ]
