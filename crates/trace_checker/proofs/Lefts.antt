-- Who is left of those that came: each is done exactly where none is left.
use Rattle.std.proofs.Common.{◌≡◌, ℕ, Bool, true, false, cond, ◌==◌, ◌&&◌, ◌||◌, not, List, [], ◌∷◌, refl, ap, sym, ◌∙◌}
use Rattle.std.specs.List.{filter}
use Rattle.dtx_model.specs.Words.{each, has}
use Rattle.dtx_model.proofs.Bools.{and_both, and_never, not_true}
use Rattle.trace_checker.specs.declared.left.Left.{Left}
use Rattle.trace_checker.specs.Left.{IsLeft}
use Rattle.trace_checker.proofs.Keys.{same_is, same_number}

-- the same names by other tests
pub left_same : {came came' settled settled' : ℕ → Bool} (l : Left) → ((n : ℕ) → came n ≡ came' n) → ((n : ℕ) → settled n ≡ settled' n) → IsLeft came settled l → IsLeft came' settled' l
left_same {came} {came'} {settled} {settled'} l p q k = record { done = λ n. k.done n ∙ q n; left = λ n. k.left n ∙ both (came n) (came' n) (settled n) (settled' n) (p n) (q n) }
  where
    both : (a b c d : Bool) → a ≡ b → c ≡ d → (a && not c) ≡ (b && not d)
    both a b c d p q = cc

module _ {A : Type 0} (key : A → ℕ) (settled : ℕ → Bool) where
  here : (s h d : Bool) → s ≡ true → ((s || h) && not d) ≡ false → d ≡ true
  here true h true e f = refl
  here true h false e f = absurd cc
  here false h d e f = absurd cc

  later : (s h d : Bool) → ((s || h) && not d) ≡ false → (h && not d) ≡ false
  later true true d f = f
  later true false d f = refl
  later false h d f = f

  all_settled : (xs : List A) → ((n : ℕ) → (has (λ a. n == key a) xs && not (settled n)) ≡ false) → each (λ a. settled (key a)) xs ≡ true
  all_settled [] f = refl
  all_settled (x ∷ xs) f =
      and_both (settled (key x)) (each (λ a. settled (key a)) xs) (here (key x == key x) (has (λ a. key x == key a) xs) (settled (key x)) (same_number (key x)) (f (key x)))
      (all_settled xs (λ n. later (n == key x) (has (λ a. n == key a) xs) (settled n) (f n)))

  not_done : (h d : Bool) → ((true || h) && not d) ≡ true → d ≡ false
  not_done h d f = not_true d f

  not_settled : (n : ℕ) (xs : List A) → (has (λ a. n == key a) xs && not (settled n)) ≡ true → each (λ a. settled (key a)) xs ≡ false
  not_settled n [] f = absurd cc
  not_settled n (x ∷ xs) f = by (n == key x) refl (λ g. not_settled n xs g) f
    where
      by : (s : Bool) → (n == key x) ≡ s → ((has (λ a. n == key a) xs && not (settled n)) ≡ true → each (λ a. settled (key a)) xs ≡ false) → ((s || has (λ a. n == key a) xs) && not (settled n)) ≡ true → (settled (key x) && each (λ a. settled (key a)) xs) ≡ false
      by true e rest g =
          let d : settled (key x) ≡ false = ap settled (sym (same_is n (key x) e)) ∙ not_done (has (λ a. n == key a) xs) (settled n) g in
          rw d refl
      by false e rest g = rw (rest g) (and_never (settled (key x)))

  -- what a test for an empty list of names says
  pub settled_is : (xs : List A) (l : Left) (b : Bool)
      → (b ≡ true → (came done : ℕ → Bool) → IsLeft came done l → (k : ℕ) → (came k && not (done k)) ≡ false)
      → (b ≡ false → (came done : ℕ → Bool) → IsLeft came done l → (k : ℕ) × ((came k && not (done k)) ≡ true))
      → IsLeft (λ n. has (λ a. n == key a) xs) settled l → b ≡ each (λ a. settled (key a)) xs
  settled_is xs l true none some k = sym (all_settled xs (none refl (λ n. has (λ a. n == key a) xs) settled k))
  settled_is xs l false none some k = let w = some refl (λ n. has (λ a. n == key a) xs) settled k in sym (not_settled w.0 xs w.1)

-- one passes both tests: one that passes the first passes the second
pub has_filter : {A : Type 0} (p q : A → Bool) (xs : List A) → has (λ a. p a && q a) xs ≡ has q (filter p xs)
has_filter p q [] = refl
has_filter {A} p q (x ∷ xs) = by (p x) (has_filter p q xs)
  where
    by : (b : Bool) → has (λ a. p a && q a) xs ≡ has q (filter p xs) → ((b && q x) || has (λ a. p a && q a) xs) ≡ has q (cond b (x ∷ filter p xs) (filter p xs))
    by true e = ap (λ r. q x || r) e
    by false e = e

-- none fails: each passes
pub none_fails : {A : Type 0} (q : A → Bool) (xs : List A) → each q xs ≡ not (has (λ a. not (q a)) xs)
none_fails q [] = refl
none_fails q (x ∷ xs) = by (q x) (none_fails q xs)
  where
    by : (b : Bool) → each q xs ≡ not (has (λ a. not (q a)) xs) → (b && each q xs) ≡ not (not b || has (λ a. not (q a)) xs)
    by true e = e
    by false e = refl
