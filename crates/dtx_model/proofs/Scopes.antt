-- What an entry makes of the scopes that are open.
use Rattle.std.proofs.Common.{◌≡◌, ℕ, ◌==◌, Bool, true, false, ◌||◌, List, [], ◌∷◌, Some, None, refl, ap, ◌∙◌, arith}
use Rattle.std.specs.Bool.{if◌then◌else◌}
use Rattle.std.proofs.lemmas.Bool.Decides.{nat_tests}
use Rattle.dtx_values.specs.declared.number.ScopeNo.{ScopeNo}
use Rattle.dtx_values.specs.declared.scope.Entered.{Entered}
use Rattle.dtx_values.specs.declared.scope.OpenScope.{OpenScope}
use Rattle.dtx_values.specs.declared.words.Iso.{Iso}
use Rattle.dtx_model.specs.Words.{has, put}
use Rattle.dtx_model.specs.Scopes.{ScopeEntry, Opens, Finishes, Closes, finishes, closes, is_scope, open_before, open_scopes, with_complete, without}
use Rattle.dtx_model.proofs.Bools.{or_swap}

-- of the entries after, only those that close or finish a scope count
pub open-same : (a b : List ScopeEntry) → ((u : ℕ) → has (closes u) a ≡ has (closes u) b) → ((u : ℕ) → has (finishes u) a ≡ has (finishes u) b)
    → (es : List ScopeEntry) → open_before a es ≡ open_before b es
open-same a b c f [] = refl
open-same a b c f (Opens s x i ∷ es) = rw (c s.value, f s.value, open-same (Opens s x i ∷ a) (Opens s x i ∷ b) c f es) refl
open-same a b c f (Finishes s ∷ es) = open-same (Finishes s ∷ a) (Finishes s ∷ b) c (λ u. ap (λ t. (u == s.value) || t) (f u)) es
open-same a b c f (Closes s ∷ es) = open-same (Closes s ∷ a) (Closes s ∷ b) (λ u. ap (λ t. (u == s.value) || t) (c u)) f es

-- a scope that is opened is open behind the others, and isn't complete
pub opens-scopes : (s : ScopeNo) (x : Entered) (i : Iso) (es : List ScopeEntry)
    → open_scopes (Opens s x i ∷ es) ≡ record { scope = s; entered = x; isolation = i; complete = false } ∷ open_scopes es
opens-scopes s x i es = ap (λ xs. record { scope = s; entered = x; isolation = i; complete = false } ∷ xs) (open-same (Opens s x i ∷ []) [] (λ u. refl) (λ u. refl) es)

-- a number is another's exactly where that is its
same-number : (m n : ℕ) → (m == n) ≡ (n == m)
same-number m n = grind (arith, nat_tests)

-- the scope that an entry shows, complete where one more is finished
open-complete : (s : ℕ) (x : OpenScope) (xs : List OpenScope) (closed done : Bool)
    → put (if closed then None else Some (record x { complete = (x.scope.value == s) || done })) (with_complete s xs)
    ≡ with_complete s (put (if closed then None else Some (record x { complete = done })) xs)
open-complete s x xs true done = refl
open-complete s x xs false done = ap (λ b. record x { complete = b || done } ∷ with_complete s xs) (same-number x.scope.value s)

-- the scopes that are open where one more is finished
open-finishes : (s : ℕ) (a b : List ScopeEntry) → ((u : ℕ) → has (closes u) a ≡ has (closes u) b) → ((u : ℕ) → has (finishes u) a ≡ ((u == s) || has (finishes u) b))
    → (es : List ScopeEntry) → open_before a es ≡ with_complete s (open_before b es)
open-finishes s a b c f [] = refl
open-finishes s a b c f (Opens r x i ∷ es) =
    let old : OpenScope = record { scope = r; entered = x; isolation = i; complete = false } in
    rw (c r.value, f r.value, open-finishes s (Opens r x i ∷ a) (Opens r x i ∷ b) c f es)
    (open-complete s old (open_before (Opens r x i ∷ b) es) (has (closes r.value) b) (has (finishes r.value) b))
open-finishes s a b c f (Finishes r ∷ es) = open-finishes s (Finishes r ∷ a) (Finishes r ∷ b) c
    (λ u. ap (λ t. (u == r.value) || t) (f u) ∙ or_swap (u == r.value) (u == s) (has (finishes u) b)) es
open-finishes s a b c f (Closes r ∷ es) = open-finishes s (Closes r ∷ a) (Closes r ∷ b) (λ u. ap (λ t. (u == r.value) || t) (c u)) f es

-- a scope that is finished is complete, and the others stay
pub finishes-scopes : (s : ScopeNo) (es : List ScopeEntry) → open_scopes (Finishes s ∷ es) ≡ with_complete s.value (open_scopes es)
finishes-scopes s es = open-finishes s.value (Finishes s ∷ []) [] (λ u. refl) (λ u. refl) es

-- the scope that an entry shows, where one more is closed
open-without : (s : ℕ) (x : OpenScope) (xs : List OpenScope) (same closed : Bool) → is_scope s x ≡ same
    → put (if same || closed then None else Some x) (without s xs) ≡ without s (put (if closed then None else Some x) xs)
open-without s x xs true true k = refl
open-without s x xs false true k = refl
open-without s x xs true false k = rw k refl
open-without s x xs false false k = rw k refl

-- the scopes that are open where one more is closed
open-closes : (s : ℕ) (a b : List ScopeEntry) → ((u : ℕ) → has (closes u) a ≡ ((u == s) || has (closes u) b)) → ((u : ℕ) → has (finishes u) a ≡ has (finishes u) b)
    → (es : List ScopeEntry) → open_before a es ≡ without s (open_before b es)
open-closes s a b c f [] = refl
open-closes s a b c f (Opens r x i ∷ es) =
    let shown : OpenScope = record { scope = r; entered = x; isolation = i; complete = has (finishes r.value) b } in
    rw (c r.value, f r.value, open-closes s (Opens r x i ∷ a) (Opens r x i ∷ b) c f es)
    (open-without s shown (open_before (Opens r x i ∷ b) es) (r.value == s) (has (closes r.value) b) (same-number s r.value))
open-closes s a b c f (Finishes r ∷ es) = open-closes s (Finishes r ∷ a) (Finishes r ∷ b) c (λ u. ap (λ t. (u == r.value) || t) (f u)) es
open-closes s a b c f (Closes r ∷ es) = open-closes s (Closes r ∷ a) (Closes r ∷ b)
    (λ u. ap (λ t. (u == r.value) || t) (c u) ∙ or_swap (u == r.value) (u == s) (has (closes u) b)) f es

-- a scope that is closed is no longer open, and the others stay
pub closes-scopes : (s : ScopeNo) (es : List ScopeEntry) → open_scopes (Closes s ∷ es) ≡ without s.value (open_scopes es)
closes-scopes s es = open-closes s.value (Closes s ∷ []) [] (λ u. refl) (λ u. refl) es
