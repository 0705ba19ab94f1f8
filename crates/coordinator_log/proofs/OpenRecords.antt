-- The records of the slots in memory.
use Rattle.std.specs.Prelude.{count_by, is_none, is_some, position, replicate, IfNone, IfSome, IsSome}
use Rattle.std.specs.List.{filter_map, position_or_len}
use Rattle.std.specs.Option.{option_map}
use Rattle.std.proofs.Common.{◌≡◌, ℕ, zero, suc, ◌≤◌, ◌<◌, Bool, true, false, cond, nat_lt, eqb, List, [], ◌∷◌, ◌++◌, length, get_or, set, map, Option, Some, None, refl, sym, ap, ◌∙◌, inl, inr, arith, rules}
use Rattle.std.proofs.lemmas.Bool.{cases_Bool}
use Rattle.std.proofs.lemmas.Bool.Decides.{nat_tests}
use Rattle.std.proofs.lemmas.List.{get_or-map, length-map}
use Rattle.std.proofs.lemmas.List.Sums.{sum_by-cons}
use Rattle.std.proofs.lemmas.List.Quantifiers.{position-Some}
use Rattle.dtx_values.specs.declared.record.LogRecord.{LogRecord}
use Rattle.dtx_model.specs.Log.{CommitRecord, first_of, record_of, without_first_of}
use Rattle.coordinator_log.specs.Slots.{has_record_of, lowest_closed, open_records}

-- slots, as contracts see them
abbrev pub Held : Type 0
Held = List (Option CommitRecord)

-- the slots of the program, as contracts see them
abbrev pub records_in : List (Option LogRecord) → Held
records_in ss = map (option_map record_of) ss

-- ---- where a test passes first

-- the place that is given is where the test passes first
some_place : (b : Bool) (m k : ℕ) → cond b (Some m) None ≡ Some k → m ≡ k
some_place true m k e = cc
some_place false m k e = absurd cc

-- where no place is given, there is none
no_place : (b : Bool) (m : ℕ) → cond b (Some m) None ≡ None → b ≡ false
no_place true m e = absurd cc
no_place false m e = refl

-- no element passes the test
none_passes : {X : Type 0} (p : X → Bool) (xs : List X) → position p xs ≡ None → length xs ≤ position_or_len p xs
none_passes p xs e = let test : nat_lt (position_or_len p xs) (length xs) ≡ false = no_place (nat_lt (position_or_len p xs) (length xs)) (position_or_len p xs) e in grind (arith, nat_tests)

-- ---- the lowest that is closed

-- the lowest closed slot is the first without a record
lowest_is : (ss : List (Option LogRecord)) → lowest_closed (records_in ss) ≡ position_or_len is_none ss
lowest_is [] = refl
lowest_is (None ∷ ss) = refl
lowest_is (Some r ∷ ss) = let h = lowest_is ss in omega arith

-- no number of closed slots is past the last
lowest_within : (vs : Held) → lowest_closed vs ≤ length vs
lowest_within [] = omega arith
lowest_within (None ∷ vs) = omega arith
lowest_within (Some r ∷ vs) = let h = lowest_within vs in omega arith

-- no record stands where the test for none passes
pub is_none_at : {X : Type 0} (s : Option X) → is_none s ≡ true → s ≡ None
is_none_at None e = refl
is_none_at (Some x) e = absurd cc

-- what is said of the lowest closed slot
pub closed_at : (ss : List (Option LogRecord)) (k : ℕ) → position is_none ss ≡ Some k → (k < length ss) × (get_or (records_in ss) k None ≡ None) × (lowest_closed (records_in ss) ≡ k)
closed_at ss k e =
    let at = position-Some is_none ss k None e in
    let none : get_or ss k None ≡ None = is_none_at (get_or ss k None) at.1 in
    (at.0, get_or-map (option_map record_of) ss k None None at.0 ∙ ap (option_map record_of) none, lowest_is ss ∙ some_place (nat_lt (position_or_len is_none ss) (length ss)) (position_or_len is_none ss) k e)

-- where no slot is closed, the lowest closed is past the last
pub none_closed : (ss : List (Option LogRecord)) → position is_none ss ≡ None → lowest_closed (records_in ss) ≡ length ss
none_closed ss e = omega (arith, lowest_is ss, none_passes is_none ss e, lowest_within (records_in ss), length-map ss (option_map record_of))

-- the same, of what a search found
pub closed_some : (ss : List (Option LogRecord)) (vs : Held) (n : ℕ) (found : Option ℕ) → records_in ss ≡ vs → length ss ≡ n → found ≡ position is_none ss
    → IfSome found (λ k. (k < n) × (get_or vs k None ≡ None) × (lowest_closed vs ≡ k))
closed_some ss vs n None view long e = tt
closed_some ss vs n (Some k) view long e =
    let at = closed_at ss k (sym e) in
    (omega (arith, at.0), ap (λ (l : Held). get_or l k None) (sym view) ∙ at.1, ap lowest_closed (sym view) ∙ at.2)

-- the same, where none was found
pub closed_none : (ss : List (Option LogRecord)) (vs : Held) (n : ℕ) (found : Option ℕ) → records_in ss ≡ vs → length ss ≡ n → found ≡ position is_none ss
    → IfNone found (lowest_closed vs ≡ n)
closed_none ss vs n None view long e = ap lowest_closed (sym view) ∙ none_closed ss (sym e) ∙ long
closed_none ss vs n (Some k) view long e = tt

-- ---- the first of an identifier

-- the slot whose record has the identifier, where none before has
first_at : (ss : List (Option LogRecord)) (id k : ℕ) → k < length ss → has_record_of id (get_or ss k None) ≡ true → ((j : ℕ) → j < k → has_record_of id (get_or ss j None) ≡ false)
    → (first_of id (open_records (records_in ss)) ≡ get_or (records_in ss) k None) × (open_records (set (records_in ss) k None) ≡ without_first_of id (open_records (records_in ss)))
first_at [] id k lt here before = absurd (omega arith)
first_at (None ∷ ss) id zero lt here before = absurd cc
first_at (None ∷ ss) id (suc k) lt here before = first_at ss id k (omega arith) here (λ j less. before (suc j) (omega arith))
first_at (Some r ∷ ss) id zero lt here before = (rw here refl, rw here refl)
first_at (Some r ∷ ss) id (suc k) lt here before =
    let other : eqb r.id id ≡ false = before 0 (omega arith) in
    let rest = first_at ss id k (omega arith) here (λ j less. before (suc j) (omega arith)) in
    (rw other rest.0, rw other (ap (λ (l : List CommitRecord). record_of r ∷ l) rest.1))

-- a slot that has a record of an identifier has a record
is_some_at : (id : ℕ) (s : Option LogRecord) → has_record_of id s ≡ true → IsSome (option_map record_of s)
is_some_at id None e = absurd cc
is_some_at id (Some r) e = search rules

-- what is said of the first slot with a record of this identifier
pub found_at : (ss : List (Option LogRecord)) (id k : ℕ) → position (has_record_of id) ss ≡ Some k
    → (k < length ss) × IsSome (get_or (records_in ss) k None) × (first_of id (open_records (records_in ss)) ≡ get_or (records_in ss) k None)
    × (open_records (set (records_in ss) k None) ≡ without_first_of id (open_records (records_in ss)))
found_at ss id k e =
    let at = position-Some (has_record_of id) ss k None e in
    let first = first_at ss id k at.0 at.1 at.2 in
    let some : IsSome (get_or (records_in ss) k None) = rw (get_or-map (option_map record_of) ss k None None at.0) (is_some_at id (get_or ss k None) at.1) in
    (at.0, some, first.0, first.1)

-- where no slot has a record of this identifier, no record has
no_first : (id : ℕ) (ss : List (Option LogRecord)) → length ss ≤ position_or_len (has_record_of id) ss → first_of id (open_records (records_in ss)) ≡ None
no_first id [] le = refl
no_first id (None ∷ ss) le = no_first id ss (omega arith)
no_first id (Some r ∷ ss) le = elim (cases_Bool (eqb r.id id)) [
  | inl same ↦ absurd (let h = rw same at le in omega arith)
  | inr other ↦ rw other (no_first id ss (let h = rw other at le in omega arith))
]

-- no record has this identifier
pub none_found : (ss : List (Option LogRecord)) (id : ℕ) → position (has_record_of id) ss ≡ None → first_of id (open_records (records_in ss)) ≡ None
none_found ss id e = no_first id ss (none_passes (has_record_of id) ss e)

-- the same, of what a search found
pub found_some : (ss : List (Option LogRecord)) (vs : Held) (n id : ℕ) (found : Option ℕ) → records_in ss ≡ vs → length ss ≡ n → found ≡ position (has_record_of id) ss
    → IfSome found (λ k. (k < n) × IsSome (get_or vs k None) × (first_of id (open_records vs) ≡ get_or vs k None))
found_some ss vs n id None view long e = tt
found_some ss vs n id (Some k) view long e = let at = found_at ss id k (sym e) in (omega (arith, at.0), rw (← view) at.1, rw (← view) at.2)

-- what is left where it is taken out
pub found_rest : (ss : List (Option LogRecord)) (vs : Held) (id : ℕ) (found : Option ℕ) → records_in ss ≡ vs → found ≡ position (has_record_of id) ss
    → IfSome found (λ k. open_records (set vs k None) ≡ without_first_of id (open_records vs))
found_rest ss vs id None view e = tt
found_rest ss vs id (Some k) view e = rw (← view) (found_at ss id k (sym e)).3

-- the same, where none was found
pub found_none : (ss : List (Option LogRecord)) (vs : Held) (id : ℕ) (found : Option ℕ) → records_in ss ≡ vs → found ≡ position (has_record_of id) ss
    → IfNone found (first_of id (open_records vs) ≡ None)
found_none ss vs id None view e = rw (← view) (none_found ss id (sym e))
found_none ss vs id (Some k) view e = tt

-- ---- how many there are

-- each open gate has its record
pub length-open_records : (ss : List (Option LogRecord)) → length (open_records (records_in ss)) ≡ count_by is_some ss
length-open_records [] = refl
length-open_records (None ∷ ss) = length-open_records ss
length-open_records (Some r ∷ ss) = omega (arith, length-open_records ss, sum_by-cons (λ s. cond (is_some s) 1 0) (Some r) ss)

-- slots whose gates are closed have no records
pub none_open : (n : ℕ) → open_records (records_in (replicate n None)) ≡ []
none_open zero = refl
none_open (suc n) = none_open n

-- the records of the slots that are kept are all there are
pub kept_open : (ss : List (Option LogRecord)) (n : ℕ) → filter_map (option_map record_of) ss ≡ open_records (records_in (ss ++ replicate n None))
kept_open [] n = sym (none_open n)
kept_open (None ∷ ss) n = kept_open ss n
kept_open (Some r ∷ ss) n = ap (λ (rs : List CommitRecord). record_of r ∷ rs) (kept_open ss n)
