-- A record that is marked under later ones, and what its writes do to the table.
use Rattle.std.proofs.Common.{◌≡◌, inl, inr, ℕ, zero, suc, ◌+◌, ◌≤◌, ◌<◌, Bool, true, false, not, cond, eqb, nat_lt, [], ◌∷◌, length, get_or, drop, set, Option, Some, None, refl, sym, ap, ◌∙◌, arith}
use Rattle.std.proofs.lemmas.Bool.{cases_Bool}
use Rattle.std.proofs.lemmas.Bool.Decides.{nat_tests}
use Rattle.std.proofs.lemmas.List.{at_drop_more}
use Rattle.kv_resource.specs.Bytes.{KvRecord, with_mark}
use Rattle.kv_resource.specs.Store.{is_unmarked, on_open, open_records, table_onto, with_write, with_writes, wrote_key}
use Rattle.kv_resource.specs.Table.{IsTabled, is_marked_slot, unmarked_in, with_write_under, with_writes_under}
use Rattle.kv_resource.proofs.Finding.{Slots}
use Rattle.kv_resource.proofs.Rising.{Rows}

-- writes to two keys may change places: here that to the lower key comes last
swap_lower : (j u k v : ℕ) (t : Rows) → j < k → with_write j u (with_write k v t) ≡ with_write k v (with_write j u t)
swap_lower j u k v [] lt =
    let a : nat_lt k j ≡ false = grind (arith, nat_tests) in
    let b : eqb k j ≡ false = grind (arith, nat_tests) in
    let c : nat_lt j k ≡ true = grind (arith, nat_tests) in
    rw (a, b, c) refl
swap_lower j u k v (w ∷ t) lt =
    let a : nat_lt k j ≡ false = grind (arith, nat_tests) in
    let b : eqb k j ≡ false = grind (arith, nat_tests) in
    let c : nat_lt j k ≡ true = grind (arith, nat_tests) in
    elim (cases_Bool (nat_lt w.0 j)) [
      | inl below ↦ let too : nat_lt w.0 k ≡ true = grind (arith, nat_tests) in rw (too, below, too) (ap (λ (l : Rows). w ∷ l) (swap_lower j u k v t lt))
      | inr above ↦ elim (cases_Bool (eqb w.0 j)) [
        | inl same ↦ let less : nat_lt w.0 k ≡ true = grind (arith, nat_tests) in rw (less, above, same, c) refl
        | inr other ↦ elim (cases_Bool (nat_lt w.0 k)) [
          | inl less ↦ rw (less, above, other, c, less) refl
          | inr more ↦ elim (cases_Bool (eqb w.0 k)) [
            | inl is ↦ rw (more, is, above, other, a, b, c, more, is) refl
            | inr not ↦ rw (more, not, above, other, a, b, c, more, not) refl
          ]
        ]
      ]
    ]

-- writes to two keys may change places
write_swap : (j u k v : ℕ) (t : Rows) → eqb k j ≡ false → with_write j u (with_write k v t) ≡ with_write k v (with_write j u t)
write_swap j u k v t not = elim (cases_Bool (nat_lt j k)) [
  | inl lower ↦ swap_lower j u k v t (grind (arith, nat_tests))
  | inr higher ↦ sym (swap_lower k v j u t (grind (arith, nat_tests)))
]

-- of two writes to a key the later stays
write_again : (k u v : ℕ) (t : Rows) → with_write k u (with_write k v t) ≡ with_write k u t
write_again k u v [] =
    let a : nat_lt k k ≡ false = grind (arith, nat_tests) in
    let b : eqb k k ≡ true = grind (arith, nat_tests) in
    rw (a, b) refl
write_again k u v (w ∷ t) =
    let a : nat_lt k k ≡ false = grind (arith, nat_tests) in
    let b : eqb k k ≡ true = grind (arith, nat_tests) in
    elim (cases_Bool (nat_lt w.0 k)) [
      | inl below ↦ rw (below, below) (ap (λ (l : Rows). w ∷ l) (write_again k u v t))
      | inr above ↦ elim (cases_Bool (eqb w.0 k)) [
        | inl same ↦ rw (above, same, a, b) refl
        | inr other ↦ rw (above, other, a, b) refl
      ]
    ]

-- a write before others comes after them, unless they wrote its key
under_writes : (k v : ℕ) (ws t : Rows) → with_writes ws (with_write k v t) ≡ cond (wrote_key k ws) (with_writes ws t) (with_write k v (with_writes ws t))
under_writes k v [] t = refl
under_writes k v (w ∷ ws) t = elim (cases_Bool (eqb k w.0)) [
  | inl same ↦
      let is : k ≡ w.0 = grind (arith, nat_tests) in
      rw same (ap (λ (n : ℕ). with_writes ws (with_write w.0 w.1 (with_write n v t))) is ∙ ap (with_writes ws) (write_again w.0 w.1 v t))
  | inr other ↦ rw other (ap (with_writes ws) (write_swap w.0 w.1 k v t other) ∙ under_writes k v ws (with_write w.0 w.1 t))
]

-- and so it is before marked records
under_slots : (k v : ℕ) (t : Rows) (ss : Slots) → table_onto (with_write k v t) (open_records ss) ≡ with_write_under ss k v (table_onto t (open_records ss))
under_slots k v t [] = refl
under_slots k v t (None ∷ ss) = under_slots k v t ss
under_slots k v t (Some r ∷ ss) = elim (cases_Bool r.marked) [
  | inl marked ↦ elim (cases_Bool (wrote_key k r.writes)) [
    | inl wrote ↦ let one : with_writes r.writes (with_write k v t) ≡ with_writes r.writes t = under_writes k v r.writes t ∙ (rw wrote refl) in rw (marked, wrote) (ap (λ (l : Rows). table_onto l (open_records ss)) one)
    | inr not ↦
        let one : with_writes r.writes (with_write k v t) ≡ with_write k v (with_writes r.writes t) = under_writes k v r.writes t ∙ (rw not refl) in
        rw (marked, not) (ap (λ (l : Rows). table_onto l (open_records ss)) one ∙ under_slots k v (with_writes r.writes t) ss)
  ]
  | inr unmarked ↦ rw unmarked (under_slots k v t ss)
]

-- so writes before marked records go in under them
pub writes_under : (ws t : Rows) (ss : Slots) → table_onto (with_writes ws t) (open_records ss) ≡ with_writes_under ss ws (table_onto t (open_records ss))
writes_under [] t ss = refl
writes_under (w ∷ ws) t ss = writes_under ws (with_write w.0 w.1 t) ss ∙ ap (with_writes_under ss ws) (under_slots w.0 w.1 t ss)

-- ---- slots

-- what a slot adds, whose record is marked
pub slot_marked : (t : Rows) (ss : Slots) (k : ℕ) (r : KvRecord) → get_or ss k None ≡ Some r → r.marked ≡ false
    → table_onto t (open_records (set ss k (Some (with_mark true r)))) ≡ with_writes_under (drop (suc k) ss) r.writes (table_onto t (open_records ss))
slot_marked t [] k r is unmarked = absurd cc
slot_marked t (s ∷ ss) zero r is unmarked =
    let same : table_onto t (open_records (s ∷ ss)) ≡ table_onto t (open_records ss) = rw (is, unmarked) refl in
    writes_under r.writes t ss ∙ ap (with_writes_under ss r.writes) (sym same)
slot_marked t (None ∷ ss) (suc k) r is unmarked = slot_marked t ss k r is unmarked
slot_marked t (Some x ∷ ss) (suc k) r is unmarked = slot_marked (cond x.marked (with_writes x.writes t) t) ss k r is unmarked

-- and there is one less that isn't marked
pub one_less : (ss : Slots) (k : ℕ) (r : KvRecord) → get_or ss k None ≡ Some r → r.marked ≡ false → unmarked_in (set ss k (Some (with_mark true r))) + 1 ≡ unmarked_in ss
one_less [] k r is unmarked = absurd cc
one_less (s ∷ ss) zero r is unmarked = rw (is, unmarked) (omega arith)
one_less (s ∷ ss) (suc k) r is unmarked = elim (cases_Bool (is_marked_slot s)) [
  | inl marked ↦ rw marked (one_less ss k r is unmarked)
  | inr not ↦ let rest = one_less ss k r is unmarked in rw not (omega (arith, rest))
]

-- a slot that isn't marked adds nothing
adds_nothing : (t : Rows) (s : Option KvRecord) (ss : Slots) → is_marked_slot s ≡ false → (table_onto t (open_records (s ∷ ss)) ≡ table_onto t (open_records ss)) × (unmarked_in (s ∷ ss) ≡ suc (unmarked_in ss))
adds_nothing t None ss e = (refl, refl)
adds_nothing t (Some r) ss e = (rw e refl, rw e refl)

same_table : (t : Rows) (ss : Slots) (k : ℕ) (x : Option KvRecord) → is_marked_slot (get_or ss k None) ≡ false → is_marked_slot x ≡ false → (table_onto t (open_records (set ss k x)) ≡ table_onto t (open_records ss)) × (unmarked_in (set ss k x) ≡ unmarked_in ss)
same_table t [] k x was is = (refl, refl)
same_table t (s ∷ ss) zero x was is = let a = adds_nothing t s ss was in let b = adds_nothing t x ss is in (b.0 ∙ sym a.0, b.1 ∙ sym a.1)
same_table t (None ∷ ss) (suc k) x was is = let rest = same_table t ss k x was is in (rest.0, ap suc rest.1)
same_table t (Some r ∷ ss) (suc k) x was is = let rest = same_table (cond r.marked (with_writes r.writes t) t) ss k x was is in (rest.0, ap (λ (n : ℕ). cond r.marked n (suc n)) rest.1)

-- so the table stays where a slot that isn't marked becomes another
pub stays_tabled : (t : Rows) (n : ℕ) (ss : Slots) (k : ℕ) (x : Option KvRecord) → IsTabled t n ss → is_marked_slot (get_or ss k None) ≡ false → is_marked_slot x ≡ false → IsTabled t n (set ss k x)
stays_tabled t n ss k x old was is = let same = same_table [] ss k x was is in record { is = old.is ∙ sym same.0; room = omega (arith, same.1, old.room) }

-- there are no more that aren't marked than there are
pub unmarked_most : (ss : Slots) → unmarked_in ss ≤ length ss
unmarked_most [] = omega arith
unmarked_most (s ∷ ss) = let rest = unmarked_most ss in elim (cases_Bool (is_marked_slot s)) [ inl marked ↦ rw marked (omega (arith, rest)) | inr not ↦ rw not (omega (arith, rest)) ]

-- ---- slots, one after the other

-- the rows of a slot, and then those of the others
pub slot_more : (t : Rows) (ss : Slots) (i : ℕ) (s : Option KvRecord) → i < length ss → s ≡ get_or ss i s → table_onto (table_onto t (open_records (s ∷ []))) (open_records (drop (i + 1) ss)) ≡ table_onto t (open_records (drop i ss))
slot_more t ss i s lt is = sym (at_drop_more (λ (l : Slots). table_onto t (open_records l)) ss i s lt ∙ ap (λ (x : Option KvRecord). table_onto t (open_records (x ∷ drop (i + 1) ss))) (sym is) ∙ one s)
  where
    one : (s : Option KvRecord) → table_onto t (open_records (s ∷ drop (i + 1) ss)) ≡ table_onto (table_onto t (open_records (s ∷ []))) (open_records (drop (i + 1) ss))
    one None = refl
    one (Some r) = refl

-- and how many of them aren't marked
pub unmarked_more : (ss : Slots) (i : ℕ) (s : Option KvRecord) → i < length ss → s ≡ get_or ss i s → unmarked_in (s ∷ []) + unmarked_in (drop (i + 1) ss) ≡ unmarked_in (drop i ss)
unmarked_more ss i s lt is = sym (at_drop_more unmarked_in ss i s lt ∙ ap (λ (x : Option KvRecord). unmarked_in (x ∷ drop (i + 1) ss)) (sym is) ∙ one s)
  where
    one : (s : Option KvRecord) → unmarked_in (s ∷ drop (i + 1) ss) ≡ unmarked_in (s ∷ []) + unmarked_in (drop (i + 1) ss)
    one s = elim (cases_Bool (is_marked_slot s)) [ inl marked ↦ rw marked (omega arith) | inr not ↦ rw not (omega arith) ]

-- fewer slots have no more that aren't marked
pub unmarked_fewer : (ss : Slots) (i : ℕ) → unmarked_in (drop i ss) ≤ unmarked_in ss
unmarked_fewer ss zero = omega arith
unmarked_fewer [] (suc i) = omega arith
unmarked_fewer (s ∷ ss) (suc i) = let rest = unmarked_fewer ss i in elim (cases_Bool (is_marked_slot s)) [ inl marked ↦ rw marked rest | inr not ↦ rw not (omega (arith, rest)) ]

-- a slot whose record isn't marked
pub no_mark : (s : Option KvRecord) → on_open is_unmarked s ≡ true → is_marked_slot s ≡ false
no_mark None e = refl
no_mark (Some r) e = flip r.marked e
  where
    flip : (b : Bool) → not b ≡ true → b ≡ false
    flip true e = absurd cc
    flip false e = refl
