-- Which transactions a wrongly nested dispose leaves as they are.
use Rattle.std.proofs.Common.{ℕ, zero, suc, ◌≡◌, ◌≢◌, ◌<◌, ◌==◌, ◌||◌, ◌∙◌, Bool, true, false, List, [], ◌∷◌, length, get_or, Option, Some, None, not, refl, ap, arith, if◌then◌else◌}
use Rattle.std.proofs.lemmas.Bool.Decides.{nat_tests}
use Rattle.dtx_values.specs.declared.number.ScopeNo.{ScopeNo}
use Rattle.dtx_values.specs.declared.number.TxNo.{TxNo}
use Rattle.dtx_values.specs.declared.tx_id.TxId.{TxId}
use Rattle.dtx_values.specs.declared.scope.OpenScope.{OpenScope}
use Rattle.dtx_model.specs.Scopes.{is_scope}
use Rattle.dtx_model.specs.Words.{has}
use Rattle.dtx_model.proofs.Bools.{or_first, or_second}
use Rattle.scope_context.specs.declared.refusal.ScopeRefusal.{ScopeRefusal}
use Rattle.scope_context.specs.declared.refusal.ScopeRefusal.TheVariants.{NoScope}
use Rattle.scope_context.specs.Refusals.{close_refusal, if_nested}
use Rattle.transactions.specs.Scoping.{is_top}

-- the refusal of a close, where the scope is the top or not, and is open beneath it or not
abbrev refusal_at : ScopeNo → ScopeNo → Bool → Bool → Option ScopeRefusal
refusal_at s x b h = if not (b || h) then Some (NoScope s) else if_nested (if b then None else Some x)

-- a scope that is closed alone is the top
pub top_closed : (s : ScopeNo) (xs : List OpenScope) → close_refusal s xs ≡ None → is_top s.value xs ≡ true
top_closed s [] e = absurd cc
top_closed s (x ∷ xs) e = at (is_scope s.value x) (has (is_scope s.value) xs) e
  where
    at : (b h : Bool) → refusal_at s x.scope b h ≡ None → b ≡ true
    at true h k = refl
    at false true k = absurd cc
    at false false k = absurd cc

-- what none of a list is, the one at a place isn't
not_among : (p : TxNo → Bool) (xs : List TxNo) (i : ℕ) (x : TxNo) → i < length xs → has p xs ≡ false → p (get_or xs i x) ≡ false
not_among p [] i x less none = absurd (omega arith)
not_among p (y ∷ xs) zero x less none = or_first (p y) (has p xs) none
not_among p (y ∷ xs) (suc i) x less none = not_among p xs i x (omega arith) (or_second (p y) (has p xs) none)

-- a transaction whose place is none of these isn't one with a place among them
pub other_than : (u t : TxId) (xs : List TxNo) (i : ℕ) (p : TxNo) → t.t ≡ p → i < length xs → p ≡ get_or xs i p → has (λ q. u.t.value == q.value) xs ≡ false → u ≢ t
other_than u t xs i p place less here none = λ same.
    let off : (u.t.value == p.value) ≡ false = ap (λ (q : TxNo). u.t.value == q.value) here ∙ not_among (λ q. u.t.value == q.value) xs i p less none in
    let on : u.t.value ≡ p.value = ap (λ (v : TxId). v.t.value) same ∙ ap (λ (q : TxNo). q.value) place in
    grind (arith, nat_tests)
