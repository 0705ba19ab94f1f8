-- The calls that scope lines give may answer wherever they come.
use Rattle.std.proofs.Common.{◌≡◌, ℕ, true, List, [], ◌∷◌, sym, subst}
use Rattle.dtx_values.specs.declared.call.Call.{Call}
use Rattle.dtx_values.specs.declared.call.Call.TheVariants.{Begin, Commit as CommitCall, Rollback as RollbackCall}
use Rattle.dtx_values.specs.declared.number.TxNo.{TxNo}
use Rattle.dtx_values.specs.declared.scope.OpenScope.{OpenScope}
use Rattle.dtx_values.specs.declared.script.Body.{Body}
use Rattle.dtx_model.specs.Contexts.{scope_calls}
use Rattle.dtx_model.specs.World.{World}
use Rattle.dtx_model.specs.Caused.{MayAnswer}
use Rattle.history_table.proofs.Lists.{OfEach}
use Rattle.history_table.proofs.ScopeCalls.{IsScopeCall, is_scope_call, scope_calls_plain}

-- a call as scope lines give it may answer wherever it comes
pub scope_call_answers : (t : ℕ) (w : World) (c : Call) → is_scope_call c ≡ true → MayAnswer t w c 0
scope_call_answers t w (Begin u d) k = tt
scope_call_answers t w (CommitCall u) k = tt
scope_call_answers t w (RollbackCall u) k = tt
scope_call_answers t w _ k = absurd (cc)

-- the one call of a scope line
pub given_plain : (b : Body) (xs : List OpenScope) (t : TxNo) (c : Call) → (t, c) ∷ [] ≡ scope_calls b xs → is_scope_call c ≡ true
given_plain b xs t c e = (subst (λ (cs : List (TxNo × Call)). OfEach IsScopeCall cs) (sym e) (scope_calls_plain b xs)).0
