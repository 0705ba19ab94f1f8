-- What scope lines do at the contexts of a run.
use Rattle.std.specs.Prelude.{ℕ, ◌-◌, ◌≡◌, ◌<◌, ◌==◌, false, List, [], ◌∷◌, map, Option, Some, None, slice_get}
use Rattle.dtx_values.specs.declared.call.Call.{Call}
use Rattle.dtx_values.specs.declared.call.Call.TheVariants.{Rollback as RollbackCall}
use Rattle.dtx_values.specs.declared.entry.Answer.{Answer}
use Rattle.dtx_values.specs.declared.entry.Answer.TheVariants.{Deep, Isolation, NoScope as NoScopeAnswer, Already, Nested}
use Rattle.dtx_values.specs.declared.entry.Entry.{Entry}
use Rattle.dtx_values.specs.declared.number.ActorNo.{ActorNo}
use Rattle.dtx_values.specs.declared.number.TxNo.{TxNo}
use Rattle.dtx_values.specs.declared.scope.OpenScope.{OpenScope}
use Rattle.dtx_values.specs.declared.script.Body.{Body}
use Rattle.dtx_values.specs.declared.script.Body.TheVariants.{Open}
use Rattle.dtx_values.specs.declared.script.Line.{Line}
use Rattle.dtx_model.specs.Words.{has, onto}
use Rattle.dtx_model.specs.Scopes.{ScopeEntry, is_scope, open_scopes}
use Rattle.dtx_model.specs.Contexts.{scope_answer, scope_calls, scope_entries, scopes_of, written}
use Rattle.scope_context.specs.Standing.{Standing}
use Rattle.scope_context.specs.declared.refusal.ScopeRefusal.{ScopeRefusal}
use Rattle.scope_context.specs.declared.refusal.ScopeRefusal.TheVariants.{TooDeep, IsolationDiffers, NoScope, AlreadyComplete, NestedWrongly}
use Rattle.script_calls.specs.declared.scope_lines.Acted.{Acted}
use Rattle.script_calls.specs.declared.scope_lines.Gives.{Gives}
use Rattle.script_calls.specs.declared.scope_lines.Gives.TheVariants.{Nothing, Call as CallGiven, Rollbacks}

-- a context before its first line
abbrev pub nothing_open : Standing
nothing_open = record { scopes = []; rolled = [] }

-- the context of this actor, where there is one
abbrev pub context_at : ActorNo → List Standing → Option Standing
context_at a cs = slice_get cs (a.value - 1)

abbrev pub scopes_in : Option Standing → List OpenScope
scopes_in (Some c) = c.scopes
scopes_in None = []

abbrev pub rolled_in : Option Standing → List TxNo
rolled_in (Some c) = c.rolled
rolled_in None = []

-- the scopes that are open in this actor's context
abbrev pub scopes_at : ActorNo → List Standing → List OpenScope
scopes_at a cs = scopes_in (context_at a cs)

-- the transactions that its last nested close is to roll back
abbrev pub rolled_at : ActorNo → List Standing → List TxNo
rolled_at a cs = rolled_in (context_at a cs)

-- in each actor's context the scopes are open that these lines, newest first, leave open
abbrev pub AreOpen : List Standing → List Line → Type 0
AreOpen cs before = (a : ActorNo) → scopes_at a cs ≡ scopes_of a.value before

-- the answer to what a context refuses
abbrev pub refused_answer : ScopeRefusal → Answer
refused_answer (TooDeep n) = Deep
refused_answer (IsolationDiffers asked found) = Isolation asked found
refused_answer (NoScope s) = NoScopeAnswer
refused_answer (AlreadyComplete s) = Already
refused_answer (NestedWrongly u) = Nested u

-- a scope that the command opens isn't open already
abbrev pub IsUnopened : Body → List OpenScope → Type 0
IsUnopened (Open s o) xs = has (is_scope s.value) xs ≡ false
IsUnopened _ xs = Unit {0}

-- no transaction stands at two places
abbrev pub AreOnce : List TxNo → Type 0
AreOnce ts = (i j : ℕ) (t u : TxNo) → i < j → slice_get ts i ≡ Some t → slice_get ts j ≡ Some u → (u.value == t.value) ≡ false

-- a rollback of each of these transactions
abbrev pub rollbacks : List TxNo → List (TxNo × Call)
rollbacks ts = map (λ t. (t, RollbackCall t)) ts

-- the calls that a scope line gives, where the context is to roll back these transactions
abbrev pub calls_given : Gives → List TxNo → List (TxNo × Call)
calls_given Nothing ts = []
calls_given (CallGiven t c) ts = (t, c) ∷ []
calls_given Rollbacks ts = rollbacks ts

-- a scope line was done at a context: this is its answer, these are its entries there and its calls, and the scopes after it are those
-- that its entries leave open
pub record DoesScope (b : Body) (old new : Standing) (notes : List Entry) (x : Acted) : Type 0 where
  pub answer : scope_answer b old.scopes ≡ Some x.answer
  pub noted : notes ≡ map written (scope_entries b old.scopes)
  pub gives : calls_given x.gives new.rolled ≡ scope_calls b old.scopes
  pub scopes : (es : List ScopeEntry) → open_scopes es ≡ old.scopes → open_scopes (onto es (scope_entries b old.scopes)) ≡ new.scopes
