-- The calls that a scope line gives transactions are each of another transaction.
use Rattle.std.proofs.Common.{◌≡◌, List, [], Some, refl, ◌==◌, false, ◌∷◌, map, Bool, true}
use Rattle.std.specs.Prelude.{if◌then◌else◌}
use Rattle.dtx_values.specs.declared.number.TxNo.{TxNo}
use Rattle.dtx_values.specs.declared.call.Call.{Call}
use Rattle.dtx_values.specs.declared.call.Call.TheVariants.{Rollback}
use Rattle.dtx_values.specs.declared.entry.Answer.{Answer}
use Rattle.dtx_values.specs.declared.entry.Answer.TheVariants.{Fine, Nested}
use Rattle.dtx_values.specs.declared.scope.Closed.{Closed}
use Rattle.dtx_values.specs.declared.scope.Closed.TheVariants.{Commit as CommitAtClose, Rollback as RollbackAtClose, Nothing}
use Rattle.dtx_values.specs.declared.scope.Entered.{Entered}
use Rattle.dtx_values.specs.declared.scope.Entered.TheVariants.{Made}
use Rattle.dtx_values.specs.declared.scope.OpenScope.{OpenScope}
use Rattle.dtx_values.specs.declared.script.Body.{Body}
use Rattle.dtx_values.specs.declared.script.Body.TheVariants.{Open, Close}
use Rattle.dtx_values.specs.declared.script.Line.{Line}
use Rattle.dtx_values.specs.declared.words.Timeout.{Timeout}
use Rattle.dtx_model.specs.Words.{has, all_of}
use Rattle.dtx_model.specs.Scopes.{once, entering, enter_answer, close_answer, closing, rolled_back, taken_off, scope_transaction}
use Rattle.dtx_model.specs.Contexts.{scope_calls, opening_calls, closing_calls, option_in, name_in, timeout_in, isolation_in}
use Rattle.dtx_model.specs.Calls.{call_of}
use Rattle.dtx_model.proofs.Bools.{or_right}
use Rattle.history_table.proofs.Lists.{OfEach}
use Rattle.history_table.proofs.Tests.{apart, eq_self}

-- a line that calls by its own words is no scope line
pub own_line : (s : List Line) (b : Body) (c : TxNo × Call) (xs : List OpenScope) → call_of s b ≡ Some c → scope_calls b xs ≡ []
own_line s (Open u o) c xs e = absurd cc
own_line s (Close u) c xs e = absurd cc
own_line s _ c xs e = refl

-- the call is of another transaction
abbrev pub IsBeside : TxNo → TxNo × Call → Type 0
IsBeside t c = (c.0.value == t.value) ≡ false

-- no two of these calls are of one transaction
abbrev pub AreApart : List (TxNo × Call) → Type 0
AreApart [] = Unit {0}
AreApart (c ∷ cs) = OfEach (IsBeside c.0) cs × AreApart cs

-- a rollback of each of these
abbrev rollbacks : List TxNo → List (TxNo × Call)
rollbacks ts = map (λ t. (t, Rollback t)) ts

-- what stood before isn't given again
once_beside : (t : TxNo) (before ts : List TxNo) → has (λ u. t.value == u.value) before ≡ true → OfEach (IsBeside t) (rollbacks (once before ts))
once_beside t before [] h = tt
once_beside t before (u ∷ us) h =
    step (has (λ v. u.value == v.value) before) refl (once_beside t before us h)
    (once_beside t (u ∷ before) us (or_right (t.value == u.value) (has (λ v. t.value == v.value) before) h))
  where
    step : (b : Bool) → has (λ v. u.value == v.value) before ≡ b → OfEach (IsBeside t) (rollbacks (once before us)) → OfEach (IsBeside t) (rollbacks (once (u ∷ before) us))
        → OfEach (IsBeside t) (rollbacks (if b then once before us else u ∷ once (u ∷ before) us))
    step true e without more = without
    step false e without more = (apart (λ n. has (λ v. n == v.value) before) u.value t.value e h, more)

-- no transaction is given twice
once_apart : (before ts : List TxNo) → AreApart (rollbacks (once before ts))
once_apart before [] = tt
once_apart before (t ∷ ts) = step (has (λ u. t.value == u.value) before) (once_apart before ts) (once_apart (t ∷ before) ts)
  where
    step : (b : Bool) → AreApart (rollbacks (once before ts)) → AreApart (rollbacks (once (t ∷ before) ts)) → AreApart (rollbacks (if b then once before ts else t ∷ once (t ∷ before) ts))
    step true without more = without
    step false without more = let same = eq_self t.value in (once_beside t (t ∷ before) ts (rw same refl), more)

-- opening gives one call at most
opening_apart : (x : Answer) (d : Timeout) (e : Entered) → AreApart (opening_calls x d e)
opening_apart Fine d (Made t) = (tt, tt)
opening_apart Fine d _ = tt
opening_apart _ d e = tt

-- and closing one at most, where it isn't nested
closing_apart : (x : Answer) (e : Closed) (ts : List TxNo) → AreApart (rollbacks ts) → AreApart (closing_calls x e ts)
closing_apart Fine (CommitAtClose t) ts h = (tt, tt)
closing_apart Fine (RollbackAtClose t) ts h = (tt, tt)
closing_apart Fine Nothing ts h = tt
closing_apart (Nested u) e ts h = h
closing_apart _ e ts h = tt

-- a scope line calls no transaction twice
pub scope_calls_apart : (b : Body) (xs : List OpenScope) → AreApart (scope_calls b xs)
scope_calls_apart (Open s o) xs = opening_apart (enter_answer (option_in o) (isolation_in o) xs) (timeout_in o) (entering (option_in o) (name_in o) xs)
scope_calls_apart (Close s) xs = closing_apart (close_answer s.value xs) (closing xs) (rolled_back s.value xs) (once_apart [] (all_of scope_transaction (taken_off s.value xs)))
scope_calls_apart _ xs = tt
