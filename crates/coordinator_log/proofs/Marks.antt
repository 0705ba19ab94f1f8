-- The slots in memory: those that are kept, and the closed ones after them.
use Rattle.std.specs.Prelude.{count_by, is_none, is_some, position, replicate}
use Rattle.std.specs.List.{position_from}
use Rattle.std.proofs.Common.{◌≡◌, ℕ, zero, suc, ◌+◌, ◌-◌, ◌≤◌, ◌<◌, cond, eqb, List, [], ◌∷◌, ◌++◌, length, get_or, set, Option, Some, None, refl, sym, ap, ◌∙◌, inl, inr, arith, append_assoc}
use Rattle.std.proofs.lemmas.Bool.{cases_Bool}
use Rattle.std.proofs.lemmas.Iterator.Adapters.{position_from-zero}
use Rattle.std.proofs.lemmas.List.{append-nil, length-append, length-replicate, length-set, length_push, set-append_left, set-append_right}
use Rattle.std.proofs.lemmas.List.Sums.{sum_by-cons}
use Rattle.dtx_values.specs.declared.record.LogRecord.{LogRecord}
use Rattle.coordinator_log.specs.Slots.{has_record_of, with_closed}

-- slots of the program
abbrev pub Kept : Type 0
Kept = List (Option LogRecord)

-- so many closed slots
abbrev closed : ℕ → Kept
closed n = replicate n None

-- there are as many as wanted
pub length-with_closed : (n : ℕ) (ss : Kept) → length ss ≤ n → length (with_closed n ss) ≡ n
length-with_closed n ss le = omega (arith, length-append ss (closed (n - length ss)), length-replicate {A = Option LogRecord} (n - length ss) None)

-- nothing is found in closed slots
found_in_closed : (id i n : ℕ) → position_from (has_record_of id) i (closed n) ≡ None
found_in_closed id i zero = refl
found_in_closed id i (suc n) = found_in_closed id (i + 1) n

-- a scan of the slots that are kept finds what one of all slots does, from each place on
found_from : (id i n : ℕ) (ss : Kept) → position_from (has_record_of id) i ss ≡ position_from (has_record_of id) i (ss ++ closed n)
found_from id i n [] = sym (found_in_closed id i n)
found_from id i n (None ∷ ss) = found_from id (i + 1) n ss
found_from id i n (Some r ∷ ss) = elim (cases_Bool (eqb r.id id)) [
  | inl same ↦ rw same refl
  | inr other ↦ rw other (found_from id (i + 1) n ss)
]

-- the same, from the first place on
pub position_kept : (id n : ℕ) (ss : Kept) → position (has_record_of id) ss ≡ position (has_record_of id) (with_closed n ss)
position_kept id n ss =
    position_from-zero (has_record_of id) ss ∙ found_from id 0 (n - length ss) ss ∙ sym (position_from-zero (has_record_of id) (with_closed n ss))

-- closed slots have no records
count_in_closed : (n : ℕ) → count_by is_some (closed n) ≡ 0
count_in_closed zero = refl
count_in_closed (suc n) = let h = count_in_closed n in omega (arith, h, sum_by-cons (λ (s : Option LogRecord). cond (is_some s) 1 0) None (closed n))

-- the gates that are open are those that are kept
count_from : (n : ℕ) (ss : Kept) → count_by is_some ss ≡ count_by is_some (ss ++ closed n)
count_from n [] = sym (count_in_closed n)
count_from n (s ∷ ss) =
    let h = count_from n ss in
    omega (arith, h, sum_by-cons (λ (s : Option LogRecord). cond (is_some s) 1 0) s ss, sum_by-cons (λ (s : Option LogRecord). cond (is_some s) 1 0) s (ss ++ closed n))

pub count_kept : (n : ℕ) (ss : Kept) → count_by is_some ss ≡ count_by is_some (with_closed n ss)
count_kept n ss = count_from (n - length ss) ss

-- the first closed slot is one that is kept, or comes after them
after_open : (i n : ℕ) (ss : Kept) (k : ℕ) → position_from is_none i ss ≡ Some k → position_from is_none i (ss ++ closed n) ≡ Some k
after_open i n [] k e = absurd cc
after_open i n (None ∷ ss) k e = e
after_open i n (Some r ∷ ss) k e = after_open (i + 1) n ss k e

after_all : (i k n : ℕ) (ss : Kept) → k ≡ i + length ss → position_from is_none i ss ≡ None → position_from is_none i (ss ++ closed (suc n)) ≡ Some k
after_all i k n [] at e = ap Some (omega arith)
after_all i k n (None ∷ ss) at e = absurd cc
after_all i k n (Some r ∷ ss) at e = after_all (i + 1) k n ss (omega arith) e

pub first_kept : (n : ℕ) (ss : Kept) (k : ℕ) → Some k ≡ position is_none ss → Some k ≡ position is_none (with_closed n ss)
first_kept n ss k e =
    sym (position_from-zero is_none (with_closed n ss) ∙ after_open 0 (n - length ss) ss k (sym (position_from-zero is_none ss) ∙ sym e))

pub first_after : (n : ℕ) (ss : Kept) → None ≡ position is_none ss → length ss < n → Some (length ss) ≡ position is_none (with_closed n ss)
first_after n ss e less =
    let one : n - length ss ≡ suc (n - length ss - 1) = omega arith in
    sym (position_from-zero is_none (with_closed n ss) ∙ ap (λ (m : ℕ). position_from is_none 0 (ss ++ closed m)) one ∙ after_all 0 (length ss) (n - length ss - 1) ss (omega arith) (sym (position_from-zero is_none ss) ∙ sym e))

pub none_first : (n : ℕ) (ss : Kept) → None ≡ position is_none ss → n ≤ length ss → None ≡ position is_none (with_closed n ss)
none_first n ss e le =
    let none : n - length ss ≡ 0 = omega arith in
    e ∙ ap (λ (xs : Kept). position is_none xs) (sym (append-nil ss)) ∙ ap (λ (m : ℕ). position is_none (ss ++ closed m)) (sym none)

-- a closed slot more is kept
pub one_kept : (n : ℕ) (ss : Kept) → length ss < n → with_closed n (ss ++ None ∷ []) ≡ with_closed n ss
one_kept n ss less =
    let long : length (ss ++ None ∷ []) ≡ length ss + 1 = length_push ss None in
    let one : n - length ss ≡ suc (n - length (ss ++ None ∷ [])) = omega arith in
    append_assoc ss (None ∷ []) (closed (n - length (ss ++ None ∷ []))) ∙ ap (λ (m : ℕ). ss ++ closed m) (sym one)

-- a slot that is kept is set
pub set_kept : (n : ℕ) (ss : Kept) (k : ℕ) (r : Option LogRecord) → k < length ss → with_closed n (set ss k r) ≡ set (with_closed n ss) k r
set_kept n ss k r less = ap (λ (m : ℕ). set ss k r ++ closed (n - m)) (length-set ss k r) ∙ sym (set-append_left ss (closed (n - length ss)) k r less)

-- a slot that isn't kept is closed, and stays so
set_closed : (n k : ℕ) → closed n ≡ set (closed n) k None
set_closed zero k = refl
set_closed (suc n) zero = refl
set_closed (suc n) (suc k) = ap (λ (xs : Kept). None ∷ xs) (set_closed n k)

pub closed_kept : (n : ℕ) (ss : Kept) (k : ℕ) → length ss ≤ k → with_closed n ss ≡ set (with_closed n ss) k None
closed_kept n ss k le =
    ap (λ (xs : Kept). ss ++ xs) (set_closed (n - length ss) (k - length ss)) ∙ sym (set-append_right ss (closed (n - length ss)) (length ss) k None refl le)

-- what a slot has
read_closed : (n k : ℕ) → get_or (closed n) k None ≡ None
read_closed zero k = refl
read_closed (suc n) zero = refl
read_closed (suc n) (suc k) = read_closed n k

read_from : (ss : Kept) (n k : ℕ) → get_or (ss ++ closed n) k None ≡ get_or ss k None
read_from [] n k = read_closed n k
read_from (s ∷ ss) n zero = refl
read_from (s ∷ ss) n (suc k) = read_from ss n k

pub read_kept : (n : ℕ) (ss : Kept) (k : ℕ) → get_or (with_closed n ss) k None ≡ get_or ss k None
read_kept n ss k = read_from ss (n - length ss) k
