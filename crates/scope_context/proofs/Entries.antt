-- What stands where a scope is completed, and where scopes are taken off.
use Rattle.std.proofs.Common.{◌≡◌, ℕ, ◌≤◌, true, false, ◌||◌, not, List, [], ◌∷◌, length, map, refl, ap, ◌∙◌, arith}
use Rattle.std.specs.Bool.{if◌then◌else◌}
use Rattle.std.proofs.lemmas.Bool.Decides.{nat_tests}
use Rattle.dtx_values.specs.declared.scope.OpenScope.{OpenScope}
use Rattle.dtx_model.specs.Words.{has, onto, past_of}
use Rattle.dtx_model.specs.Scopes.{ScopeEntry, Closes, beneath, is_scope, open_scopes, taken_off, with_complete, without}
use Rattle.dtx_model.proofs.Bools.{and_left, and_right, not_true, or_first, or_second}
use Rattle.dtx_model.proofs.Scopes.{closes-scopes}
use Rattle.scope_context.specs.Standing.{distinct}

-- a change of each item of two lists is one of each item of the first with the second after it
map-onto : {A B : Type 0} (f : A → B) (h xs : List A) → onto (map f h) (map f xs) ≡ map f (onto h xs)
map-onto f h [] = refl
map-onto f h (x ∷ xs) = map-onto f (x ∷ h) xs

-- a change of each item of a list is one of each of its history
pub map-past : {A B : Type 0} (f : A → B) (xs : List A) → past_of (map f xs) ≡ map f (past_of xs)
map-past f xs = map-onto f [] xs

-- a completed scope keeps its number
has-complete : (k s : ℕ) (xs : List OpenScope) → has (is_scope k) (with_complete s xs) ≡ has (is_scope k) xs
has-complete k s [] = refl
has-complete k s (x ∷ xs) = ap (λ b. is_scope k x || b) (has-complete k s xs)

-- the numbers stay distinct where a scope is completed
pub distinct-complete : (s : ℕ) (xs : List OpenScope) → distinct (with_complete s xs) ≡ distinct xs
distinct-complete s [] = refl
distinct-complete s (x ∷ xs) = rw (has-complete x.scope.value s xs, distinct-complete s xs) refl

-- the numbers of the scopes beneath one are distinct
pub distinct-beneath : (s : ℕ) (xs : List OpenScope) → distinct xs ≡ true → distinct (beneath s xs) ≡ true
distinct-beneath s [] d = d
distinct-beneath s (x ∷ xs) d =
    let rest = and_right (not (has (is_scope x.scope.value) xs)) (distinct xs) d in
    elim (is_scope s x) as (λ b. distinct (if b then xs else beneath s xs) ≡ true) [ true ↦ rest | false ↦ distinct-beneath s xs rest ]

-- no more scopes stand beneath one than there are
pub length-beneath : (s : ℕ) (xs : List OpenScope) → length (beneath s xs) ≤ length xs
length-beneath s [] = omega arith
length-beneath s (x ∷ xs) = let k = length-beneath s xs in
    elim (is_scope s x) as (λ b. length (if b then xs else beneath s xs) ≤ length (x ∷ xs)) [ true ↦ omega arith | false ↦ omega arith ]

-- without a scope that isn't there the scopes stay
without-absent : (s : ℕ) (xs : List OpenScope) → has (is_scope s) xs ≡ false → without s xs ≡ xs
without-absent s [] a = refl
without-absent s (x ∷ xs) a = rw (or_first (is_scope s x) (has (is_scope s) xs) a, without-absent s xs (or_second (is_scope s x) (has (is_scope s) xs) a)) refl

-- without the top the others stay
without-top : (x : OpenScope) (xs : List OpenScope) → distinct (x ∷ xs) ≡ true → without x.scope.value (x ∷ xs) ≡ xs
without-top x xs d =
    let away = not_true (has (is_scope x.scope.value) xs) (and_left (not (has (is_scope x.scope.value) xs)) (distinct xs) d) in
    let same : is_scope x.scope.value x ≡ true = grind (arith, nat_tests) in
    rw (same, without-absent x.scope.value xs away) refl

-- where each that is taken off is closed, the top first, those beneath are open
pub closes-taken : (s : ℕ) (xs : List OpenScope) (es : List ScopeEntry) → open_scopes es ≡ xs → distinct xs ≡ true
    → open_scopes (onto es (map (λ x. Closes x.scope) (taken_off s xs))) ≡ beneath s xs
closes-taken s [] es k d = k
closes-taken s (x ∷ xs) es k d =
    let left : open_scopes (Closes x.scope ∷ es) ≡ xs = closes-scopes x.scope es ∙ ap (without x.scope.value) k ∙ without-top x xs d in
    let rest = closes-taken s xs (Closes x.scope ∷ es) left (and_right (not (has (is_scope x.scope.value) xs)) (distinct xs) d) in
    elim (is_scope s x) as (λ b. open_scopes (onto es (map (λ x. Closes x.scope) (if b then x ∷ [] else x ∷ taken_off s xs))) ≡ (if b then xs else beneath s xs)) [ true ↦ left | false ↦ rest ]
