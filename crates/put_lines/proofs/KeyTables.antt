-- The tables of keys with one more put.
use Rattle.std.proofs.Common.{◌≡◌, ℕ, zero, suc, ◌+◌, ◌-◌, ◌<◌, ◌≤◌, ◌==◌, Bool, true, false, cond, ◌&&◌, ◌||◌, List, [], ◌∷◌, length, get_or, set, replicate, refl, ap, sym, ◌∙◌, arith, Option, Some, None, if◌then◌else◌, nat_le}
use Rattle.std.specs.Prelude.{not}
use Rattle.std.specs.BTreeMap.{get, is_at}
use Rattle.std.specs.Cmp.{unsigned_tied}
use Rattle.std.specs.Ordering.{nat_cmp}
use Rattle.std.proofs.lemmas.Bool.Decides.{nat_tests}
use Rattle.std.proofs.lemmas.List.{get_or-set_same, get_or-set_other, length-set, get_or-replicate}
use Rattle.dtx_values.specs.declared.number.EnlNo.{EnlNo}
use Rattle.dtx_values.specs.declared.script.BadCause.TheVariants.{KeyTaken, TooManyPuts}
use Rattle.dtx_values.proofs.SameNumbers.{same_enlistment}
use Rattle.dtx_model.specs.Words.{has}
use Rattle.heard_notes.specs.Puts.{is_key_of, is_key_of_another, keys_of, with_number}
use Rattle.heard_notes.specs.declared.put.Put.{Put}
use Rattle.put_lines.specs.Keys.{AreKeys, is_another, is_it, key_fault}
use Rattle.put_lines.specs.declared.keys.Keys.{Keys}

-- a number is itself
same_number : (n : ℕ) → (n == n) ≡ true
same_number n = grind (arith, nat_tests)

-- tests with a test that holds, or that doesn't
and_true : (b : Bool) → (b && true) ≡ b
and_true true = refl
and_true false = refl

and_false : (b : Bool) → (b && false) ≡ false
and_false true = refl
and_false false = refl

or_nothing : (b : Bool) → (b || false) ≡ b
or_nothing true = refl
or_nothing false = refl

-- the keys of an enlistment are those that were put for it
key_among : (e k : ℕ) (before : List Put) → has (λ f. k == f) (keys_of e before) ≡ has (is_key_of e k) before
key_among e k [] = refl
key_among e k (p ∷ before) = by (key_among e k before) (e == p.enlistment.value) refl
  where
    number : (b : Bool) (ks : List ℕ) → has (λ f. p.key == f) ks ≡ b → has (λ f. k == f) (with_number p.key ks) ≡ ((k == p.key) || has (λ f. k == f) ks)
    number true ks h = rw h (here (k == p.key) refl)
      where
        here : (b : Bool) → (k == p.key) ≡ b → has (λ f. k == f) ks ≡ (b || has (λ f. k == f) ks)
        here false e = refl
        here true e =
            let same : k ≡ p.key = grind (arith, nat_tests) in
            ap (λ n. has (λ f. n == f) ks) same ∙ h
    number false ks h = rw h refl

    by : has (λ f. k == f) (keys_of e before) ≡ has (is_key_of e k) before → (b : Bool) → (e == p.enlistment.value) ≡ b → has (λ f. k == f) (keys_of e (p ∷ before)) ≡ has (is_key_of e k) (p ∷ before)
    by old true h = rw h (number (has (λ f. p.key == f) (keys_of e before)) (keys_of e before) refl ∙ ap (λ b. (k == p.key) || b) old)
    by old false h = rw h old

-- no keys
pub no_keys : (ks : Keys) (counts : List ℕ) → ks.counts.items ≡ counts → counts ≡ replicate 9999 0 → ((k : ℕ) → get nat_cmp ks.owners k ≡ None) → AreKeys [] ks
no_keys ks counts e r h = record {
  long = ap length (e ∙ r);
  own = λ e k. sym (ap (is_it e) (h k));
  others = λ e k. sym (ap (is_another e) (h k));
  counted = λ f. ap (λ (xs : List ℕ). get_or xs (f.value - 1) 0) (e ∙ r) ∙ get_or-replicate 9999 (f.value - 1) 0 0 (omega arith);
}

-- the enlistment of that number is that one
pub mine_is : (e : EnlNo) (o : Option EnlNo) → is_it e.value o ≡ true → o ≡ Some e
mine_is e (Some f) h =
    let same : f.value ≡ e.value = grind (arith, nat_tests) in
    ap Some (same_enlistment f e same)
mine_is e None h = absurd (cc h)

-- a put of a key that its enlistment has
pub keys_again : (before : List Put) (p : Put) (ks : Keys) → get nat_cmp ks.owners p.key ≡ Some p.enlistment → AreKeys before ks → AreKeys (p ∷ before) ks
keys_again before p ks h a = record {
  long = a.long;
  own = λ e k. own e k (k == p.key) refl;
  others = λ e k. others e k (k == p.key) refl;
  counted = λ f. counted f (f.value == p.enlistment.value) refl;
}
  where
    owner : (k : ℕ) → (k == p.key) ≡ true → get nat_cmp ks.owners k ≡ Some p.enlistment
    owner k q =
        let same : k ≡ p.key = grind (arith, nat_tests) in
        ap (get nat_cmp ks.owners) same ∙ h

    own : (e k : ℕ) (b : Bool) → (k == p.key) ≡ b → has (is_key_of e k) (p ∷ before) ≡ is_it e (get nat_cmp ks.owners k)
    own e k true q = rw q (twice (e == p.enlistment.value) _ (a.own e k ∙ ap (is_it e) (owner k q)) ∙ sym (ap (is_it e) (owner k q)))
      where
        twice : (b c : Bool) → c ≡ b → ((b && true) || c) ≡ b
        twice true c r = refl
        twice false c r = r
    own e k false q = rw (q, and_false (e == p.enlistment.value)) (a.own e k)

    others : (e k : ℕ) (b : Bool) → (k == p.key) ≡ b → has (is_key_of_another e k) (p ∷ before) ≡ is_another e (get nat_cmp ks.owners k)
    others e k true q = rw q (twice (not (e == p.enlistment.value)) _ (a.others e k ∙ ap (is_another e) (owner k q)) ∙ sym (ap (is_another e) (owner k q)))
      where
        twice : (b c : Bool) → c ≡ b → ((b && true) || c) ≡ b
        twice true c r = refl
        twice false c r = r
    others e k false q = rw (q, and_false (not (e == p.enlistment.value))) (a.others e k)

    counted : (f : EnlNo) (b : Bool) → (f.value == p.enlistment.value) ≡ b → get_or ks.counts.items (f.value - 1) 0 ≡ length (keys_of f.value (p ∷ before))
    counted f false q = rw q (a.counted f)
    counted f true q =
        let there : has (λ x. p.key == x) (keys_of f.value before) ≡ true = key_among f.value p.key before ∙ a.own f.value p.key ∙ ap (is_it f.value) h ∙ q in
        rw (q, there) (a.counted f)

-- a put of a key that no enlistment has
pub keys_more : (before : List Put) (p : Put) (ks new : Keys) (place : ℕ) → get nat_cmp ks.owners p.key ≡ None → place + 1 ≡ p.enlistment.value
    → ((k : ℕ) → get nat_cmp new.owners k ≡ cond (is_at (nat_cmp p.key) k) (Some p.enlistment) (get nat_cmp ks.owners k))
    → new.counts.items ≡ set ks.counts.items place (get_or ks.counts.items place 0 + 1) → AreKeys before ks → AreKeys (p ∷ before) new
keys_more before p ks new place none at get_new counts a = record {
  long = ap length counts ∙ length-set ks.counts.items place (get_or ks.counts.items place 0 + 1) ∙ a.long;
  own = λ e k. own e k (p.key == k) refl;
  others = λ e k. others e k (p.key == k) refl;
  counted = λ f. counted f (f.value == p.enlistment.value) refl;
}
  where
    turned : (k : ℕ) (b : Bool) → (p.key == k) ≡ b → (k == p.key) ≡ b
    turned k b q = grind (arith, nat_tests)

    here : (k : ℕ) → (p.key == k) ≡ true → get nat_cmp new.owners k ≡ Some p.enlistment
    here k q = get_new k ∙ ap (λ b. cond b (Some p.enlistment) (get nat_cmp ks.owners k)) (unsigned_tied p.key k ∙ q)

    none_here : (k : ℕ) → (p.key == k) ≡ true → get nat_cmp ks.owners k ≡ None
    none_here k q =
        let same : k ≡ p.key = grind (arith, nat_tests) in
        ap (get nat_cmp ks.owners) same ∙ none

    there : (k : ℕ) → (p.key == k) ≡ false → get nat_cmp new.owners k ≡ get nat_cmp ks.owners k
    there k q = get_new k ∙ ap (λ b. cond b (Some p.enlistment) (get nat_cmp ks.owners k)) (unsigned_tied p.key k ∙ q)

    own : (e k : ℕ) (b : Bool) → (p.key == k) ≡ b → has (is_key_of e k) (p ∷ before) ≡ is_it e (get nat_cmp new.owners k)
    own e k true q =
        rw (turned k true q, a.own e k, ap (is_it e) (none_here k q), and_true (e == p.enlistment.value), or_nothing (e == p.enlistment.value)) (sym (ap (is_it e) (here k q)))
    own e k false q = rw (turned k false q, and_false (e == p.enlistment.value)) (a.own e k ∙ sym (ap (is_it e) (there k q)))

    others : (e k : ℕ) (b : Bool) → (p.key == k) ≡ b → has (is_key_of_another e k) (p ∷ before) ≡ is_another e (get nat_cmp new.owners k)
    others e k true q =
        rw (turned k true q, a.others e k, ap (is_another e) (none_here k q), and_true (not (e == p.enlistment.value)), or_nothing (not (e == p.enlistment.value))) (sym (ap (is_another e) (here k q)))
    others e k false q = rw (turned k false q, and_false (not (e == p.enlistment.value))) (a.others e k ∙ sym (ap (is_another e) (there k q)))

    counted : (f : EnlNo) (b : Bool) → (f.value == p.enlistment.value) ≡ b → get_or new.counts.items (f.value - 1) 0 ≡ length (keys_of f.value (p ∷ before))
    counted f true q =
        let same : f.value ≡ p.enlistment.value = grind (arith, nat_tests) in
        let spot : f.value - 1 ≡ place = omega arith in
        let absent : has (λ x. p.key == x) (keys_of f.value before) ≡ false = key_among f.value p.key before ∙ a.own f.value p.key ∙ ap (is_it f.value) none in
        let long : place < length ks.counts.items = omega (arith, a.long) in
        let now : get_or new.counts.items (f.value - 1) 0 ≡ get_or ks.counts.items place 0 + 1
        = ap (λ (xs : List ℕ). get_or xs (f.value - 1) 0) counts ∙ ap (λ i. get_or (set ks.counts.items place (get_or ks.counts.items place 0 + 1)) i 0) spot
        ∙ get_or-set_same ks.counts.items place (get_or ks.counts.items place 0 + 1) 0 long in
        let old : get_or ks.counts.items place 0 ≡ length (keys_of f.value before) = ap (λ i. get_or ks.counts.items i 0) (sym spot) ∙ a.counted f in
        rw (q, absent) (omega (arith, now, old))
    counted f false q =
        let apart : f.value - 1 ≡ place → ⊥ = λ r. grind (arith, nat_tests) in
        rw q (ap (λ (xs : List ℕ). get_or xs (f.value - 1) 0) counts ∙ get_or-set_other ks.counts.items place (f.value - 1) (get_or ks.counts.items place 0 + 1) 0 apart ∙ a.counted f)

-- no fault where the enlistment has the key
pub fault_mine : (most : ℕ) (before : List Put) (p : Put) (ks : Keys) → get nat_cmp ks.owners p.key ≡ Some p.enlistment → AreKeys before ks → key_fault most before p ≡ None
fault_mine most before p ks h a =
    let mine : has (is_key_of p.enlistment.value p.key) before ≡ true = a.own p.enlistment.value p.key ∙ ap (is_it p.enlistment.value) h ∙ same_number p.enlistment.value in
    let other : has (is_key_of_another p.enlistment.value p.key) before ≡ false = a.others p.enlistment.value p.key ∙ ap (is_another p.enlistment.value) h ∙ ap not (same_number p.enlistment.value) in
    rw (mine, other) refl

-- where it hasn't, and has too many
pub fault_many : (most : ℕ) (before : List Put) (p : Put) (ks : Keys) (place : ℕ) → is_it p.enlistment.value (get nat_cmp ks.owners p.key) ≡ false → place + 1 ≡ p.enlistment.value
    → most ≤ get_or ks.counts.items place 0 → AreKeys before ks → key_fault most before p ≡ Some TooManyPuts
fault_many most before p ks place h at m a =
    let mine : has (is_key_of p.enlistment.value p.key) before ≡ false = a.own p.enlistment.value p.key ∙ h in
    let spot : p.enlistment.value - 1 ≡ place = omega arith in
    let count : get_or ks.counts.items place 0 ≡ length (keys_of p.enlistment.value before) = ap (λ i. get_or ks.counts.items i 0) (sym spot) ∙ a.counted p.enlistment in
    let full : nat_le most (length (keys_of p.enlistment.value before)) ≡ true = grind (arith, nat_tests) in
    rw (mine, full) refl

-- where it has few, by whether another has the key
pub fault_few : (most : ℕ) (before : List Put) (p : Put) (ks : Keys) (place : ℕ) (o : Option EnlNo) → get nat_cmp ks.owners p.key ≡ o → is_it p.enlistment.value o ≡ false → place + 1 ≡ p.enlistment.value
    → get_or ks.counts.items place 0 < most → AreKeys before ks → key_fault most before p ≡ (if is_another p.enlistment.value o then Some KeyTaken else None)
fault_few most before p ks place o e h at m a =
    let mine : has (is_key_of p.enlistment.value p.key) before ≡ false = a.own p.enlistment.value p.key ∙ ap (is_it p.enlistment.value) e ∙ h in
    let other : has (is_key_of_another p.enlistment.value p.key) before ≡ is_another p.enlistment.value o = a.others p.enlistment.value p.key ∙ ap (is_another p.enlistment.value) e in
    let spot : p.enlistment.value - 1 ≡ place = omega arith in
    let count : get_or ks.counts.items place 0 ≡ length (keys_of p.enlistment.value before) = ap (λ i. get_or ks.counts.items i 0) (sym spot) ∙ a.counted p.enlistment in
    let free : nat_le most (length (keys_of p.enlistment.value before)) ≡ false = grind (arith, nat_tests) in
    rw (mine, free, other) refl

-- within a list no default is asked for
pub any_default : (xs : List ℕ) (i d f : ℕ) → i < length xs → get_or xs i d ≡ get_or xs i f
any_default [] i d f h = absurd (omega arith)
any_default (x ∷ xs) zero d f h = refl
any_default (x ∷ xs) (suc i) d f h = any_default xs i d f (omega arith)
