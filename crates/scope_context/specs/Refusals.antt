-- What a context refuses, each exactly where.
use Rattle.std.specs.Prelude.{not, List, [], ◌∷◌, Option, Some, None, Result, Ok, Err, if◌then◌else◌}
use Rattle.dtx_values.specs.declared.limits.TheConstants.{SCOPES}
use Rattle.dtx_values.specs.declared.number.ScopeNo.{ScopeNo}
use Rattle.dtx_values.specs.declared.number.TxNo.{TxNo}
use Rattle.dtx_values.specs.declared.scope.OpenScope.{OpenScope}
use Rattle.dtx_values.specs.declared.words.Iso.{Iso}
use Rattle.dtx_values.specs.declared.words.ScopeOption.{ScopeOption}
use Rattle.dtx_model.specs.Words.{has}
use Rattle.dtx_model.specs.Scopes.{differing, is_complete_scope, is_deep, is_scope, top_above, scope_transaction}
use Rattle.scope_context.specs.declared.refusal.ScopeRefusal.{ScopeRefusal}
use Rattle.scope_context.specs.declared.refusal.ScopeRefusal.TheVariants.{TooDeep, IsolationDiffers, NoScope, AlreadyComplete, NestedWrongly}

abbrev pub if_differing : Iso → Option Iso → Option ScopeRefusal
if_differing asked (Some i) = Some (IsolationDiffers asked i)
if_differing asked None = None

-- the first cause for which a scope isn't opened; none where it is
abbrev pub enter_refusal : ScopeOption → Iso → List OpenScope → Option ScopeRefusal
enter_refusal o asked xs = if is_deep xs then Some (TooDeep SCOPES) else if_differing asked (differing o asked xs)

-- the first cause for which a scope isn't completed; none where it is
abbrev pub complete_refusal : ScopeNo → List OpenScope → Option ScopeRefusal
complete_refusal s xs = if not (has (is_scope s.value) xs) then Some (NoScope s) else if has (is_complete_scope s.value) xs then Some (AlreadyComplete s) else None

abbrev pub if_nested : Option ScopeNo → Option ScopeRefusal
if_nested (Some u) = Some (NestedWrongly u)
if_nested None = None

-- the first cause for which closing a scope doesn't close it alone; none where it does
abbrev pub close_refusal : ScopeNo → List OpenScope → Option ScopeRefusal
close_refusal s xs = if not (has (is_scope s.value) xs) then Some (NoScope s) else if_nested (top_above s.value xs)

-- the ambient transaction, which a complete top no longer gives
abbrev pub current_result : List OpenScope → Result (Option TxNo) ScopeRefusal
current_result [] = Ok None
current_result (x ∷ xs) = if x.complete then Err (AlreadyComplete x.scope) else Ok (scope_transaction x)
