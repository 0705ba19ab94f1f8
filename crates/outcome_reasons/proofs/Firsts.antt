-- The first entry of a history that is kept oldest first.
use Rattle.std.proofs.Common.{◌≡◌, ℕ, ◌+◌, ◌<◌, Bool, true, false, List, [], ◌∷◌, Option, Some, None, length, get_or, take, drop, refl, ap, ◌∙◌, arith}
use Rattle.std.specs.Option.{option_map}
use Rattle.std.proofs.lemmas.List.{length-take-le}
use Rattle.dtx_model.specs.Words.{onto, or_else, past_of}
use Rattle.dtx_model.proofs.Prefixes.{past-more, past-split}
use Rattle.outcome_reasons.specs.First.{first_of, first_where, when}

-- a history has as many entries as the list
length-onto : {E : Type 0} (h xs : List E) → length (onto h xs) ≡ length xs + length h
length-onto h [] = omega arith
length-onto h (x ∷ xs) = length-onto (x ∷ h) xs ∙ omega arith

pub length-past : {E : Type 0} (xs : List E) → length (past_of xs) ≡ length xs
length-past xs = length-onto [] xs ∙ omega arith

-- before place i stand i entries
pub length-before : {E : Type 0} (xs : List E) (i : ℕ) → i < length xs → length (past_of (take i xs)) ≡ i
length-before xs i k = length-past (take i xs) ∙ length-take-le i xs (omega (arith, k))

-- what came first stays the first
first-onto : {E A : Type 0} (f : List E → E → Option A) (h xs : List E) (r : ℕ × A) → first_of f h ≡ Some r → first_of f (onto h xs) ≡ Some r
first-onto f h [] r k = k
first-onto f h (x ∷ xs) r k = first-onto f (x ∷ h) xs r (ap (λ o. or_else o (option_map (λ a. (length h, a)) (f h x))) k)

-- the first entry that says something stands at place i
pub first-at : {E A : Type 0} (f : List E → E → Option A) (xs : List E) (i : ℕ) (d : E) (a : A) → i < length xs → f (past_of (take i xs)) (get_or xs i d) ≡ Some a → first_of f (past_of (take i xs)) ≡ None → first_of f (past_of xs) ≡ Some (i, a)
first-at f xs i d a k says none =
    ap (first_of f) (past-split xs (i + 1))
    ∙ first-onto f (past_of (take (i + 1) xs)) (drop (i + 1) xs) (i, a)
    (ap (first_of f) (past-more xs i d k) ∙ ap (λ o. or_else o (option_map (λ b. (length (past_of (take i xs)), b)) (f (past_of (take i xs)) (get_or xs i d)))) none
    ∙ ap (option_map (λ b. (length (past_of (take i xs)), b))) says ∙ ap (λ n. Some (n, a)) (length-before xs i k))

-- one that says nothing, and none before it
pub first-more : {E A : Type 0} (f : List E → E → Option A) (xs : List E) (i : ℕ) (d : E) → i < length xs → f (past_of (take i xs)) (get_or xs i d) ≡ None → first_of f (past_of (take i xs)) ≡ None → first_of f (past_of (take (i + 1) xs)) ≡ None
first-more f xs i d k says none =
    ap (first_of f) (past-more xs i d k) ∙ ap (λ o. or_else o (option_map (λ b. (length (past_of (take i xs)), b)) (f (past_of (take i xs)) (get_or xs i d)))) none ∙ ap (option_map (λ b. (length (past_of (take i xs)), b))) says

-- what is said where it passes, and where it doesn't
pub when-true : {A : Type 0} (b : Bool) (a c : A) → b ≡ true → a ≡ c → when b a ≡ Some c
when-true true a c k e = ap Some e
when-true false a c k e = absurd cc

pub when-false : {A : Type 0} (b : Bool) (a : A) → b ≡ false → when b a ≡ None
when-false true a k = absurd cc
when-false false a k = refl

-- what is no Some is None
pub not_some : {A : Type 0} (o : Option A) → ((a : A) → o ≡ Some a → ⊥) → o ≡ None
not_some (Some a) never = absurd (never a refl)
not_some None never = refl

where-onto : {E : Type 0} (t : List E → E → Bool) (h xs : List E) (r : ℕ) → first_where t h ≡ Some r → first_where t (onto h xs) ≡ Some r
where-onto t h [] r k = k
where-onto t h (x ∷ xs) r k = where-onto t (x ∷ h) xs r (ap (λ o. or_else o (when (t h x) (length h))) k)

pub where-at : {E : Type 0} (t : List E → E → Bool) (xs : List E) (i : ℕ) (d : E) → i < length xs → t (past_of (take i xs)) (get_or xs i d) ≡ true → first_where t (past_of (take i xs)) ≡ None → first_where t (past_of xs) ≡ Some i
where-at t xs i d k says none =
    ap (first_where t) (past-split xs (i + 1))
    ∙ where-onto t (past_of (take (i + 1) xs)) (drop (i + 1) xs) i
    (ap (first_where t) (past-more xs i d k) ∙ ap (λ o. or_else o (when (t (past_of (take i xs)) (get_or xs i d)) (length (past_of (take i xs))))) none
    ∙ ap (λ b. when b (length (past_of (take i xs)))) says ∙ ap Some (length-before xs i k))

pub where-more : {E : Type 0} (t : List E → E → Bool) (xs : List E) (i : ℕ) (d : E) → i < length xs → t (past_of (take i xs)) (get_or xs i d) ≡ false → first_where t (past_of (take i xs)) ≡ None → first_where t (past_of (take (i + 1) xs)) ≡ None
where-more t xs i d k says none =
    ap (first_where t) (past-more xs i d k) ∙ ap (λ o. or_else o (when (t (past_of (take i xs)) (get_or xs i d)) (length (past_of (take i xs))))) none ∙ ap (λ b. when b (length (past_of (take i xs)))) says

pub ruleset firsts = (where-at, where-more)
