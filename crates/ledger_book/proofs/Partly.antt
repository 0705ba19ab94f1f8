-- What recovery makes of what one of two stores holds keeps each transaction whole, also where it broke off.
use Rattle.std.proofs.Common.{◌≡◌, ℕ, ◌==◌, Bool, true, false, not, ◌&&◌, ◌||◌, List, [], ◌∷◌, ◌++◌, map, Option, Some, None, refl, ap, subst, sym, ◌∙◌}
use Rattle.std.proofs.lemmas.Bool.{and_from, and_parts, and_right, or_from, or_left, or_parts, or_right}
use Rattle.std.proofs.lemmas.List.Folds.{list_any-append}
use Rattle.dtx_model.proofs.Bools.{or_case}
use Rattle.dtx_model.specs.Log.{CommitRecord, first_of}
use Rattle.dtx_model.specs.Promotes.{identifier_of}
use Rattle.dtx_model.specs.Words.{each, has}
use Rattle.history_table.proofs.Scans.{each-append}
use Rattle.recovery_laws.proofs.Changing.{each_mapped, each_on, has_mapped}
use Rattle.recovery_laws.proofs.Holdings.{Each, Passes, each_of, each_off, is_marked, is_the, is_unmarked, none_left, some_left}
use Rattle.recovery_laws.proofs.Leaving.{each_settled, kept_the, none_marked, unmarked_settled}
use Rattle.recovery_laws.proofs.Settling.{IsNamed, is_here, is_named, kept_one, named_by}
use Rattle.recovery_laws.specs.Finding.{settled, settled_one}
use Rattle.recovery_laws.specs.Whole.{Site, are_all_named, has_here, has_marked, has_unmarked, is_held, is_whole, is_whole_by}
use Rattle.resource_managers.specs.Holding.{Holding, as_found, found_one}
use Rattle.transactions.specs.Recovery.{IsFoundPartly, IsPartly}
use Rattle.kv_holding.specs.TwoStores.{two_sites}

-- ---- what one store holds of a transaction, by the record of that: it stays held, and named; and where there is no record, nothing comes to be marked, or unmarked

pub record Stays (o : Option CommitRecord) (n m : ℕ) (old new : List Holding) : Type 0 where
  pub held : (r : CommitRecord) → o ≡ Some r → (e : ℕ) → has (is_the n e) old ≡ true → has (is_the n e) new ≡ true
  pub named : each (is_named o n m) old ≡ true → each (is_named o n m) new ≡ true
  pub marked : o ≡ None → has (is_marked n) old ≡ false → has (is_marked n) new ≡ false
  pub unmarked : o ≡ None → has (is_unmarked n) old ≡ false → has (is_unmarked n) new ≡ false

pub stays_same : (o : Option CommitRecord) (n m : ℕ) (hs : List Holding) → Stays o n m hs hs
stays_same o n m hs = record { held = λ r is e k. k; named = λ k. k; marked = λ is k. k; unmarked = λ is k. k }

pub stays_on : (o : Option CommitRecord) (n m : ℕ) (a b c : List Holding) → Stays o n m a b → Stays o n m b c → Stays o n m a c
stays_on o n m a b c p q =
    record { held = λ r is e k. q.held r is e (p.held r is e k); named = λ k. q.named (p.named k); marked = λ is k. q.marked is (p.marked is k); unmarked = λ is k. q.unmarked is (p.unmarked is k) }

-- a later process finds the same
pub stays_found : (o : Option CommitRecord) (n m : ℕ) (hs : List Holding) → Stays o n m hs (as_found hs)
stays_found o n m hs = record {
  held = λ r is e k. has_mapped (is_the n e) found_one hs (λ h. refl) ∙ k;
  named = λ k. each_mapped (is_named o n m) found_one hs (λ h. named o h) ∙ k;
  marked = λ is k. has_mapped (is_marked n) found_one hs (λ h. refl) ∙ k;
  unmarked = λ is k. has_mapped (is_unmarked n) found_one hs (λ h. refl) ∙ k;
}
  where
    named : (o : Option CommitRecord) (h : Holding) → is_named o n m (found_one h) ≡ is_named o n m h
    named (Some r) h = refl
    named None h = refl

-- and what it finds is what was held
pub unfound : (o : Option CommitRecord) (n m : ℕ) (hs : List Holding) → Stays o n m (as_found hs) hs
unfound o n m hs = record {
  held = λ r is e k. sym (has_mapped (is_the n e) found_one hs (λ h. refl)) ∙ k;
  named = λ k. sym (each_mapped (is_named o n m) found_one hs (λ h. named o h)) ∙ k;
  marked = λ is k. sym (has_mapped (is_marked n) found_one hs (λ h. refl)) ∙ k;
  unmarked = λ is k. sym (has_mapped (is_unmarked n) found_one hs (λ h. refl)) ∙ k;
}
  where
    named : (o : Option CommitRecord) (h : Holding) → is_named o n m (found_one h) ≡ is_named o n m h
    named (Some r) h = refl
    named None h = refl

-- none of two lists passes, or one does
split_off : (P : Holding → Bool) (xs ys : List Holding) → has P (xs ++ ys) ≡ false → (has P xs ≡ false) × (has P ys ≡ false)
split_off P xs ys off = or_parts (has P xs) (has P ys) (sym (list_any-append P xs ys) ∙ off)

both_off : (P : Holding → Bool) (xs ys : List Holding) → has P xs ≡ false → has P ys ≡ false → has P (xs ++ ys) ≡ false
both_off P xs ys a b = list_any-append P xs ys ∙ or_from (has P xs) (has P ys) a b

each_split : (P : Holding → Bool) (xs ys : List Holding) → each P (xs ++ ys) ≡ true → (each P xs ≡ true) × (each P ys ≡ true)
each_split P [] ys all = (refl, all)
each_split P (x ∷ xs) ys all =
    let parts = and_parts (P x) (each P (xs ++ ys)) all in
    let rest = each_split P xs ys parts.1 in
    (and_from (P x) (each P xs) parts.0 rest.0, rest.1)

-- the first of what is held was settled
pub stays_partly : (rs : List CommitRecord) (n m : ℕ) (done left : List Holding) → each (is_named (first_of (identifier_of n) rs) n m) (done ++ left) ≡ true → has (is_here n) (done ++ left) ≡ false
    → Stays (first_of (identifier_of n) rs) n m (done ++ left) (settled rs m done ++ left)
stays_partly rs n m done left named early = record {
  held = λ r is e k. list_any-append (is_the n e) (settled rs m done) left ∙ or_case (has (is_the n e) done) (has (is_the n e) left)
      (λ p. or_left (has (is_the n e) (settled rs m done)) (has (is_the n e) left) (one r is e p))
      (λ p. or_right (has (is_the n e) (settled rs m done)) (has (is_the n e) left) p) (sym (list_any-append (is_the n e) done left) ∙ k);
  named = λ k. let parts = each_split (is_named o n m) done left k in each-append (is_named o n m) (settled rs m done) left (each_settled (is_named o n m) rs m (λ h e. keeps o h e) done parts.0) parts.1;
  marked = λ is k. let parts = split_off (is_marked n) done left k in
      both_off (is_marked n) (settled rs m done) left (none_left (is_marked n) (λ h. is_marked n h ≡ false) rs m (λ h. none_marked rs n m h is) done (each_off (is_marked n) done parts.0)) parts.1;
  unmarked = λ is k. let parts = split_off (is_unmarked n) done left k in both_off (is_unmarked n) (settled rs m done) left (unmarked_settled rs n m done parts.0) parts.1;
}
  where
    o : Option CommitRecord
    o = first_of (identifier_of n) rs

    keeps : (p : Option CommitRecord) (h : Holding) → is_named p n m h ≡ true → is_named p n m (Rattle.resource_managers.specs.Holding.with_mark h) ≡ true
    keeps (Some r) h e = e
    keeps None h e = e

    one : (r : CommitRecord) → o ≡ Some r → (e : ℕ) → has (is_the n e) done ≡ true → has (is_the n e) (settled rs m done) ≡ true
    one r is e k =
        let first = (each_split (is_named o n m) done left named).0 in
        let facts = each_of (is_named (Some r) n m) (is_here n) done (subst (λ p. each (is_named p n m) done ≡ true) is first) (split_off (is_here n) done left early).0 in
        some_left (is_the n e) (is_the n e) (IsNamed r n m) rs m (λ h fact the. kept_the n e (settled_one rs m h) (kept_one rs r n e m h is the fact)) done facts k

pub partly_stays : (rs : List CommitRecord) (n m : ℕ) (old new : List Holding) → each (is_named (first_of (identifier_of n) rs) n m) old ≡ true → has (is_here n) old ≡ false → IsPartly rs m old new
    → Stays (first_of (identifier_of n) rs) n m old new
partly_stays rs n m old new named early p =
    let o = first_of (identifier_of n) rs in
    subst (λ hs. Stays o n m hs new) p.were (subst (λ hs. Stays o n m (p.done ++ p.left) hs) (sym p.are)
    (stays_partly rs n m p.done p.left (subst (λ hs. each (is_named o n m) hs ≡ true) (sym p.were) named) (subst (λ hs. has (is_here n) hs ≡ false) (sym p.were) early)))

pub found_partly_stays : (rs : List CommitRecord) (n m : ℕ) (old hs : List Holding) → each (is_named (first_of (identifier_of n) rs) n m) old ≡ true → has (is_here n) old ≡ false → IsFoundPartly rs m old hs
    → Stays (first_of (identifier_of n) rs) n m old hs
found_partly_stays rs n m old hs named early p =
    let o = first_of (identifier_of n) rs in
    stays_on o n m old p.0 hs (partly_stays rs n m old p.0 named early p.1) (subst (λ ks. Stays o n m p.0 ks) (sym p.2) (stays_found o n m p.0))

-- ---- so each transaction stays whole at both

held_two : (n : ℕ) (p : ℕ × ℕ) (a b c d : List Holding) → (has (is_the n p.1) a ≡ true → has (is_the n p.1) c ≡ true) → (has (is_the n p.1) b ≡ true → has (is_the n p.1) d ≡ true)
    → is_held n (two_sites 1 2 a b) p ≡ true → is_held n (two_sites 1 2 c d) p ≡ true
held_two n p a b c d left right is = by (p.0 == 1) (p.0 == 2) (has (is_the n p.1) a) (has (is_the n p.1) b) (has (is_the n p.1) c) (has (is_the n p.1) d) left right is
  where
    by : (i j x y z w : Bool) → (x ≡ true → z ≡ true) → (y ≡ true → w ≡ true) → ((i && x) || ((j && y) || false)) ≡ true → ((i && z) || ((j && w) || false)) ≡ true
    by true j true y z w f g e = ap (λ b. (b || ((j && w) || false))) (f refl)
    by true true false true z w f g e = or_right z ((true && w) || false) (or_left w false (g refl))
    by true true false false z w f g e = absurd cc
    by true false false y z w f g e = absurd cc
    by false true x true z w f g e = or_left w false (g refl)
    by false true x false z w f g e = absurd cc
    by false false x y z w f g e = absurd cc

pub whole_two : (o : Option CommitRecord) (n : ℕ) (a b c d : List Holding) → Stays o n 1 a c → Stays o n 2 b d → is_whole_by o n (two_sites 1 2 a b) ≡ true → is_whole_by o n (two_sites 1 2 c d) ≡ true
whole_two (Some r) n a b c d left right whole =
    let parts = and_parts (each (is_held n (two_sites 1 2 a b)) r.enlistments) (are_all_named n r (two_sites 1 2 a b)) whole in
    let first = and_parts (each (is_named (Some r) n 1) a) (each (is_named (Some r) n 2) b && true) parts.1 in
    let second = and_parts (each (is_named (Some r) n 2) b) true first.1 in
    and_from (each (is_held n (two_sites 1 2 c d)) r.enlistments) (are_all_named n r (two_sites 1 2 c d))
    (each_on (is_held n (two_sites 1 2 a b)) (is_held n (two_sites 1 2 c d)) r.enlistments (λ p. held_two n p a b c d (left.held r refl p.1) (right.held r refl p.1)) parts.0)
    (and_from (each (is_named (Some r) n 1) c) (each (is_named (Some r) n 2) d && true) (left.named first.0) (and_from (each (is_named (Some r) n 2) d) true (right.named second.0) refl))
whole_two None n a b c d left right whole =
    by (has (is_marked n) a) (has (is_marked n) b) (has (is_unmarked n) a) (has (is_unmarked n) b) (has (is_marked n) c) (has (is_marked n) d) (has (is_unmarked n) c) (has (is_unmarked n) d)
    (left.marked refl) (right.marked refl) (left.unmarked refl) (right.unmarked refl) whole
  where
    both : (x y z w : Bool) → (x ≡ false → z ≡ false) → (y ≡ false → w ≡ false) → (x || (y || false)) ≡ false → (z || (w || false)) ≡ false
    both false false z w f g e = rw (f refl, g refl) refl
    both false true z w f g e = absurd cc
    both true y z w f g e = absurd cc

    by : (ma mb ua ub mc md uc ud : Bool) → (ma ≡ false → mc ≡ false) → (mb ≡ false → md ≡ false) → (ua ≡ false → uc ≡ false) → (ub ≡ false → ud ≡ false)
        → not ((ma || (mb || false)) && (ua || (ub || false))) ≡ true → not ((mc || (md || false)) && (uc || (ud || false))) ≡ true
    by ma mb ua ub mc md uc ud f g h k e = of (ma || (mb || false)) (ua || (ub || false)) (mc || (md || false)) (uc || (ud || false)) (both ma mb mc md f g) (both ua ub uc ud h k) e
      where
        of : (x y z w : Bool) → (x ≡ false → z ≡ false) → (y ≡ false → w ≡ false) → not (x && y) ≡ true → not (z && w) ≡ true
        of false y z w p q s = rw (p refl) refl
        of true false z w p q s = rw (q refl) (off z)
          where
            off : (t : Bool) → not (t && false) ≡ true
            off true = refl
            off false = refl
        of true true z w p q s = absurd cc

-- all that is held is named, where it is whole
pub named_two : (o : Option CommitRecord) (n : ℕ) (a b : List Holding) → is_whole_by o n (two_sites 1 2 a b) ≡ true → (each (is_named o n 1) a ≡ true) × (each (is_named o n 2) b ≡ true)
named_two o n a b whole =
    let all = named_by o n (two_sites 1 2 a b) whole in
    let first = and_parts (each (is_named o n 1) a) (each (is_named o n 2) b && true) all in
    (first.0, (and_parts (each (is_named o n 2) b) true first.1).0)
