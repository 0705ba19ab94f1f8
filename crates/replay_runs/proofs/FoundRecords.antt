-- The records of a log that are some transactions', where each of these has at most one: as many are found as there are.
use Rattle.std.proofs.Common.{◌≡◌, ◌⊎◌, ◌≤◌, ◌+◌, ◌-◌, ◌==◌, ℕ, suc, Bool, true, false, List, [], ◌∷◌, filter, length, Some, if◌then◌else◌, refl, sym, subst, ◌∙◌, inl, inr, arith}
use Rattle.std.specs.Prelude.{is_some}
use Rattle.std.proofs.lemmas.Bool.Decides.{Decides-eqb, eqb_tells, leb_tells}
use Rattle.dtx_values.specs.declared.number.TxNo.{TxNo}
use Rattle.dtx_values.specs.Table.{how_many}
use Rattle.dtx_model.specs.Log.{CommitRecord, first_of, is_record_of}
use Rattle.dtx_model.specs.Promotes.{identifier_of}
use Rattle.replay_runs.specs.LogRun.{AreForeignSame}

-- a transaction of the script has this identifier, or none has it
owned : (id : ℕ) → ((t : TxNo) × (identifier_of t.value ≡ id)) ⊎ ((t : TxNo) → identifier_of t.value ≡ id → ⊥)
owned id = elim (leb_tells 18446744073709551617 id) [
  | inl low ↦
      elim (leb_tells id 18446744073709551872) [
        | inl high ↦ inl (record { value = id - 18446744073709551616; in_range = (omega (arith, low.1), omega (arith, low.1, high.1)) }, omega (arith, low.1))
        | inr high ↦ inr (λ t e. omega (arith, e, high.1, t.in_range.1))
      ]
  | inr low ↦ inr (λ t e. omega (arith, e, low.1, t.in_range.0))
]

-- Of a list with one record more
front_none : (id : ℕ) (r : CommitRecord) (rs : List CommitRecord) → filter (is_record_of id) (r ∷ rs) ≡ [] → ((r.id == id) ≡ false) × (filter (is_record_of id) rs ≡ [])
front_none id r rs e = by (r.id == id) refl e
  where
    by : (b : Bool) → (r.id == id) ≡ b → (if b then r ∷ filter (is_record_of id) rs else filter (is_record_of id) rs) ≡ [] → ((r.id == id) ≡ false) × (filter (is_record_of id) rs ≡ [])
    by true k e = absurd cc
    by false k e = (k, e)

front_one : (id : ℕ) (r : CommitRecord) (rs : List CommitRecord) → length (filter (is_record_of id) (r ∷ rs)) ≤ 1 → length (filter (is_record_of id) rs) ≤ 1
front_one id r rs e = by (r.id == id) e
  where
    by : (b : Bool) → length (if b then r ∷ filter (is_record_of id) rs else filter (is_record_of id) rs) ≤ 1 → length (filter (is_record_of id) rs) ≤ 1
    by true e = let most : suc (length (filter (is_record_of id) rs)) ≤ 1 = e in omega arith
    by false e = e

front_found : (id : ℕ) (r : CommitRecord) (rs : List CommitRecord) → is_some (first_of id rs) ≡ true → is_some (first_of id (r ∷ rs)) ≡ true
front_found id r rs e = by (r.id == id)
  where
    by : (b : Bool) → is_some (if b then Some r else first_of id rs) ≡ true
    by true = refl
    by false = e

-- of which there is one alone, there is none after it
none_after : (id : ℕ) (r : CommitRecord) (rs : List CommitRecord) → (r.id == id) ≡ true → length (filter (is_record_of id) (r ∷ rs)) ≤ 1 → is_some (first_of id rs) ≡ false
none_after id r rs here one = none rs (empty (filter (is_record_of id) rs) (subst (λ b. length (if b then r ∷ filter (is_record_of id) rs else filter (is_record_of id) rs) ≤ 1) here one))
  where
    empty : (xs : List CommitRecord) → suc (length xs) ≤ 1 → xs ≡ []
    empty [] k = refl
    empty (x ∷ xs) k = let more : suc (suc (length xs)) ≤ 1 = k in absurd (omega arith)

    none : (xs : List CommitRecord) → filter (is_record_of id) xs ≡ [] → is_some (first_of id xs) ≡ false
    none [] e = refl
    none (x ∷ xs) e = let rest = front_none id x xs e in rw rest.0 (none xs rest.1)

-- where one test passes at each at which either of two others does, that never pass together
split_count : (p q r : TxNo → Bool) (ts : List TxNo) → ((v : TxNo) → ((p v ≡ true) × (q v ≡ false) × (r v ≡ true)) ⊎ ((p v ≡ q v) × (r v ≡ false))) → how_many p ts ≡ how_many q ts + how_many r ts
split_count p q r [] k = refl
split_count p q r (v ∷ vs) k = let rest = split_count p q r vs k in elim (k v) [
  | inl a ↦ rw (a.0, a.1, a.2) (omega (arith, rest))
  | inr a ↦ rw (a.0, a.1) (by (q v) rest)
]
  where
    by : (b : Bool) → how_many p vs ≡ how_many q vs + how_many r vs → (if b then suc (how_many p vs) else how_many p vs) ≡ (if b then suc (how_many q vs) else how_many q vs) + how_many r vs
    by true e = omega (arith, e)
    by false e = e

none_pass : (ts : List TxNo) → how_many (λ (v : TxNo). false) ts ≡ 0
none_pass [] = refl
none_pass (v ∷ vs) = none_pass vs

-- the record of t is the first, and no other
first_is : (t : TxNo) (r : CommitRecord) (rs : List CommitRecord) → identifier_of t.value ≡ r.id → is_some (first_of (identifier_of t.value) rs) ≡ false → (v : TxNo)
    → ((is_some (first_of (identifier_of v.value) (r ∷ rs)) ≡ true) × (is_some (first_of (identifier_of v.value) rs) ≡ false) × ((t.value == v.value) ≡ true))
    ⊎ ((is_some (first_of (identifier_of v.value) (r ∷ rs)) ≡ is_some (first_of (identifier_of v.value) rs)) × ((t.value == v.value) ≡ false))
first_is t r rs e none v = elim (eqb_tells t.value v.value) [
  | inl k ↦
      let here : (r.id == identifier_of v.value) ≡ true = (Decides-eqb r.id (identifier_of v.value)).1 (omega (arith, e, k.1)) in
      inl (rw here refl, subst (λ n. is_some (first_of (identifier_of n) rs) ≡ false) k.1 none, k.0)
  | inr k ↦
      let there : (r.id == identifier_of v.value) ≡ false = elim (eqb_tells r.id (identifier_of v.value)) [ inl f ↦ absurd (k.1 (omega (arith, e, f.1))) | inr f ↦ f.0 ] in
      inr (rw there refl, k.0)
]

-- So where the records are these transactions' alone, and at most one of each, as many of them are found as there are.
pub all_found : (ts : List TxNo) (rs : List CommitRecord) → AreForeignSame [] rs → ((t : TxNo) → length (filter (is_record_of (identifier_of t.value)) rs) ≤ 1)
    → ((t : TxNo) → is_some (first_of (identifier_of t.value) rs) ≡ true → how_many (λ v. t.value == v.value) ts ≡ 1) → how_many (λ v. is_some (first_of (identifier_of v.value) rs)) ts ≡ length rs
all_found ts [] own one among = none_pass ts
all_found ts (r ∷ rs) own one among = elim (owned r.id) [
  | inl o ↦
      let t = o.0 in
      let here : (r.id == identifier_of t.value) ≡ true = (Decides-eqb r.id (identifier_of t.value)).1 (sym o.1) in
      let none = none_after (identifier_of t.value) r rs here (one t) in
      let found : is_some (first_of (identifier_of t.value) (r ∷ rs)) ≡ true = rw here refl in
      let rest : how_many (λ v. is_some (first_of (identifier_of v.value) rs)) ts ≡ length rs =
      all_found ts rs (λ id k. (front_none id r rs (own id k)).1) (λ u. front_one (identifier_of u.value) r rs (one u)) (λ u k. among u (front_found (identifier_of u.value) r rs k)) in
      let sum = split_count (λ v. is_some (first_of (identifier_of v.value) (r ∷ rs))) (λ v. is_some (first_of (identifier_of v.value) rs)) (λ v. t.value == v.value) ts (first_is t r rs o.1 none) in
      let single = among t found in
      sum ∙ omega (arith, rest, single)
  | inr nobody ↦ absurd (let k = (front_none r.id r rs (own r.id nobody)).0 in let s = (Decides-eqb r.id r.id).1 refl in cc)
]
