-- What the numbers of a transaction's calls say of the next one.
use Rattle.std.proofs.Common.{ℕ, ◌≡◌, ◌+◌, ◌≤◌, ◌==◌, true, false, List, Option, Some, None, refl, subst, arith}
use Rattle.std.specs.Prelude.{nat_le}
use Rattle.std.specs.Option.{SomeIff}
use Rattle.std.proofs.lemmas.Bool.Decides.{nat_tests}
use Rattle.dtx_model.specs.declared.waiting.EnteredCall.{EnteredCall}
use Rattle.dtx_model.specs.Caused.{made_by}
use Rattle.dtx_model.specs.Grammar.{Name, OfClone, OfEnlistment, OfScope, OfTransaction}
use Rattle.dtx_model.specs.Words.{each, has}
use Rattle.dtx_model.proofs.Bools.{and_left, and_right, and_both}
use Rattle.history_table.proofs.Scans.{each_more, none_more}
use Rattle.tx_world.specs.State.{is_maker, is_name}
use Rattle.transactions.specs.Counting.{is_counted, is_given}
use Rattle.transactions.specs.Keeping.{IsSound}
use Rattle.transactions.specs.State.{LiveState}

-- a number up to this one isn't the next
not_next : (n m : ℕ) → nat_le n m ≡ true → (n == (m + 1)) ≡ false
not_next n m h = grind (arith, nat_tests)

-- nor is it where the next is named first
next_not : (n m : ℕ) → nat_le n m ≡ true → ((m + 1) == n) ≡ false
next_not n m h = grind (arith, nat_tests)

-- a number up to this one is up to a greater one
up_to_more : (n m k : ℕ) → m ≤ k → nat_le n m ≡ true → nat_le n k ≡ true
up_to_more n m k p h = grind (arith, nat_tests)

-- no name that was given is the next enlistment's
given_enlistment : (e c : ℕ) (o : Option Name) → is_given e c o ≡ true → is_name (OfEnlistment (e + 1)) o ≡ false
given_enlistment e c (Some (OfEnlistment f)) h = next_not f e h
given_enlistment e c (Some (OfClone d)) h = refl
given_enlistment e c (Some (OfTransaction t)) h = refl
given_enlistment e c (Some (OfScope t)) h = refl
given_enlistment e c None h = refl

-- nor the next clone's
given_clone : (e c : ℕ) (o : Option Name) → is_given e c o ≡ true → is_name (OfClone (c + 1)) o ≡ false
given_clone e c (Some (OfEnlistment f)) h = refl
given_clone e c (Some (OfClone d)) h = next_not d c h
given_clone e c (Some (OfTransaction t)) h = refl
given_clone e c (Some (OfScope t)) h = refl
given_clone e c None h = refl

-- a name that was given was given where more were numbered
given_more : (e c f d : ℕ) (o : Option Name) → e ≤ f → c ≤ d → is_given e c o ≡ true → is_given f d o ≡ true
given_more e c f d (Some (OfEnlistment x)) p q h = up_to_more x e f p h
given_more e c f d (Some (OfClone x)) p q h = up_to_more x c d q h
given_more e c f d (Some (OfTransaction t)) p q h = refl
given_more e c f d (Some (OfScope t)) p q h = refl
given_more e c f d None p q h = refl

-- no call has the next line
pub line_new : (lines enlisted cloned : ℕ) (ks : List EnteredCall) → each (is_counted lines enlisted cloned) ks ≡ true → has (λ k. k.line == (lines + 1)) ks ≡ false
line_new l e c ks h =
    none_more (is_counted l e c) (λ k. k.line == (l + 1)) (λ k p. not_next k.line l (and_left (nat_le k.line l) (is_given e c (made_by k.call)) p)) ks h

-- no call makes the next enlistment
pub enlistment_new : (lines enlisted cloned : ℕ) (ks : List EnteredCall) → each (is_counted lines enlisted cloned) ks ≡ true
    → has (λ k. is_maker (Some (OfEnlistment (enlisted + 1))) k.call) ks ≡ false
enlistment_new l e c ks h =
    none_more (is_counted l e c) (λ k. is_maker (Some (OfEnlistment (e + 1))) k.call)
    (λ k p. given_enlistment e c (made_by k.call) (and_right (nat_le k.line l) (is_given e c (made_by k.call)) p)) ks h

-- no call makes the next clone
pub clone_new : (lines enlisted cloned : ℕ) (ks : List EnteredCall) → each (is_counted lines enlisted cloned) ks ≡ true
    → has (λ k. is_maker (Some (OfClone (cloned + 1))) k.call) ks ≡ false
clone_new l e c ks h =
    none_more (is_counted l e c) (λ k. is_maker (Some (OfClone (c + 1))) k.call)
    (λ k p. given_clone e c (made_by k.call) (and_right (nat_le k.line l) (is_given e c (made_by k.call)) p)) ks h

-- calls that were counted are counted where more were
pub counted_more : (l e c m f d : ℕ) (ks : List EnteredCall) → l ≤ m → e ≤ f → c ≤ d → each (is_counted l e c) ks ≡ true → each (is_counted m f d) ks ≡ true
counted_more l e c m f d ks p q r h =
    each_more (is_counted l e c) (is_counted m f d)
    (λ k t. and_both (nat_le k.line m) (is_given f d (made_by k.call)) (up_to_more k.line l m p (and_left (nat_le k.line l) (is_given e c (made_by k.call)) t))
    (given_more e c f d (made_by k.call) q r (and_right (nat_le k.line l) (is_given e c (made_by k.call)) t))) ks h

-- where one value more was to be added, and it was, it is that value
pub added : (P : Type 0) (o : Option ℕ) (v n : ℕ) → SomeIff o P v → o ≡ Some n → n ≡ v
added P (Some m) v n h e = let same : m ≡ n = cc in omega (arith, h)
added P None v n h e = absurd cc

-- no call of a transaction makes this enlistment, which is the next
pub enlistment_new_of : (x y : LiveState) (n : ℕ) → x ≡ y → n ≡ x.enlisted + 1 → IsSound x → has (λ k. is_maker (Some (OfEnlistment n)) k.call) y.tx.world.calls ≡ false
enlistment_new_of x y n same next h =
    subst (λ (z : LiveState). has (λ k. is_maker (Some (OfEnlistment n)) k.call) z.tx.world.calls ≡ false) same
    (rw next (enlistment_new x.lines x.enlisted x.cloned x.tx.world.calls h.counted))

-- no call of a transaction makes this clone, which is the next
pub clone_new_of : (x y : LiveState) (n : ℕ) → x ≡ y → n ≡ x.cloned + 1 → IsSound x → has (λ k. is_maker (Some (OfClone n)) k.call) y.tx.world.calls ≡ false
clone_new_of x y n same next h =
    subst (λ (z : LiveState). has (λ k. is_maker (Some (OfClone n)) k.call) z.tx.world.calls ≡ false) same
    (rw next (clone_new x.lines x.enlisted x.cloned x.tx.world.calls h.counted))
