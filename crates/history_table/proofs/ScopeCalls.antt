-- The calls that scope lines give transactions: begin, commit and rollback, each of another transaction.
use Rattle.std.proofs.Common.{Bool, true, false, ◌≡◌, refl, List, ℕ, zero, suc, ◌⊎◌, inl, inr, Option, Some, None}
use Rattle.std.specs.List.{slice_get}
use Rattle.dtx_values.specs.declared.number.TxNo.{TxNo}
use Rattle.dtx_values.specs.declared.call.Call.{Call}
use Rattle.dtx_values.specs.declared.call.Call.TheVariants.{Begin, Commit, Rollback}
use Rattle.dtx_values.specs.declared.entry.Answer.{Answer}
use Rattle.dtx_values.specs.declared.entry.Answer.TheVariants.{Fine, Nested}
use Rattle.dtx_values.specs.declared.scope.Closed.{Closed}
use Rattle.dtx_values.specs.declared.scope.Closed.TheVariants.{Commit as CommitAtClose, Rollback as RollbackAtClose, Nothing}
use Rattle.dtx_values.specs.declared.scope.Entered.{Entered}
use Rattle.dtx_values.specs.declared.scope.Entered.TheVariants.{Made}
use Rattle.dtx_values.specs.declared.scope.OpenScope.{OpenScope}
use Rattle.dtx_values.specs.declared.script.Body.{Body}
use Rattle.dtx_values.specs.declared.script.Body.TheVariants.{Open, Close}
use Rattle.dtx_values.specs.declared.script.Line.{Line}
use Rattle.dtx_values.specs.declared.words.Timeout.{Timeout}
use Rattle.dtx_model.specs.Words.{put}
use Rattle.dtx_model.specs.Scopes.{entering, enter_answer, close_answer, closing, rolled_back}
use Rattle.dtx_model.specs.Contexts.{opening_calls, closing_calls, option_in, name_in, timeout_in, isolation_in, scope_calls, scopes_of, calls_by}
use Rattle.dtx_model.specs.Calls.{call_of}
use Rattle.history_table.proofs.Lists.{OfEach, of-all, of-map, of-at}

-- a call as scope lines give it
abbrev pub is_scope_call : Call → Bool
is_scope_call (Begin t d) = true
is_scope_call (Commit t) = true
is_scope_call (Rollback t) = true
is_scope_call _ = false

-- a transaction is given such a call
abbrev pub IsScopeCall : TxNo × Call → Type 0
IsScopeCall c = is_scope_call c.1 ≡ true

-- opening gives such a call, or none
opening_plain : (x : Answer) (d : Timeout) (e : Entered) → OfEach IsScopeCall (opening_calls x d e)
opening_plain Fine d (Made t) = (refl, tt)
opening_plain Fine d _ = tt
opening_plain _ d e = tt

-- and closing such ones, or none
closing_plain : (x : Answer) (e : Closed) (ts : List TxNo) → OfEach IsScopeCall (closing_calls x e ts)
closing_plain Fine (CommitAtClose t) ts = (refl, tt)
closing_plain Fine (RollbackAtClose t) ts = (refl, tt)
closing_plain Fine Nothing ts = tt
closing_plain (Nested u) e ts = of-map (λ t. Unit {0}) IsScopeCall (λ t. (t, Rollback t)) (λ t h. refl) ts (of-all (λ t. Unit {0}) (λ t. tt) ts)
closing_plain _ e ts = tt

-- a scope line gives begin, commit and rollback alone
pub scope_calls_plain : (b : Body) (xs : List OpenScope) → OfEach IsScopeCall (scope_calls b xs)
scope_calls_plain (Open s o) xs = opening_plain (enter_answer (option_in o) (isolation_in o) xs) (timeout_in o) (entering (option_in o) (name_in o) xs)
scope_calls_plain (Close s) xs = closing_plain (close_answer s.value xs) (closing xs) (rolled_back s.value xs)
scope_calls_plain _ xs = tt

-- what a line gives is a call by its own words, or one as scope lines give
pub given_call : (s before : List Line) (l : Line) (k : ℕ) (c : TxNo × Call) → slice_get (calls_by s before l) k ≡ Some c → (call_of s l.body ≡ Some c) ⊎ (is_scope_call c.1 ≡ true)
given_call s before l k c e = by_words (call_of s l.body) (scope_calls l.body (scopes_of l.actor.value before)) k c (scope_calls_plain l.body (scopes_of l.actor.value before)) e
  where
    by_words : (o : Option (TxNo × Call)) (cs : List (TxNo × Call)) (k : ℕ) (c : TxNo × Call) → OfEach IsScopeCall cs → slice_get (put o cs) k ≡ Some c
        → (o ≡ Some c) ⊎ (is_scope_call c.1 ≡ true)
    by_words None cs k c h e = inr (of-at IsScopeCall cs k c h e)
    by_words (Some d) cs zero c h e = inl e
    by_words (Some d) cs (suc k) c h e = inr (of-at IsScopeCall cs k c h e)
