-- The rollbacks of a nested close: each is of another transaction, so that each may still be entered when its turn comes.
use Rattle.std.proofs.Common.{◌≡◌, ◌≢◌, ℕ, zero, suc, ◌+◌, ◌<◌, ◌≤◌, ◌==◌, false, List, [], ◌∷◌, Some, get_or, length, slice_get, ap, sym, subst, ◌∙◌, arith}
use Rattle.std.proofs.lemmas.Option.{slice_get-get_or}
use Rattle.dtx_values.specs.declared.call.Call.{Call}
use Rattle.dtx_values.specs.declared.call.Call.TheVariants.{Rollback as RollbackCall}
use Rattle.dtx_values.specs.declared.number.TxNo.{TxNo}
use Rattle.dtx_values.specs.declared.scope.OpenScope.{OpenScope}
use Rattle.dtx_values.specs.declared.script.Body.{Body}
use Rattle.dtx_model.specs.Contexts.{scope_calls}
use Rattle.dtx_model.proofs.Bools.{not_both}
use Rattle.history_table.proofs.Lists.{of-at}
use Rattle.script_histories.proofs.ScopesApart.{AreApart, IsBeside, scope_calls_apart}
use Rattle.history_table.proofs.Tests.{eq_self}
use Rattle.tx_world.specs.State.{TxState}
use Rattle.replay_runs.specs.RunState.{IsBelow, state_of}
use Rattle.script_calls.specs.Scoped.{AreOnce, rollbacks}

-- the rollback of the transaction at a place
pub rolled_there : (ts : List TxNo) (i : ℕ) (t : TxNo) → slice_get ts i ≡ Some t → slice_get (rollbacks ts) i ≡ Some (t, RollbackCall t)
rolled_there [] i t e = absurd cc
rolled_there (x ∷ ts) zero t e = let same : x ≡ t = cc in ap (λ (u : TxNo). Some (u, RollbackCall u)) same
rolled_there (x ∷ ts) (suc i) t e = rolled_there ts i t e

-- A transaction stands at this place of these.
pub record IsAt (ts : List TxNo) (i : ℕ) (t : TxNo) : Type 0 where
  pub less : i < length ts
  pub is : t ≡ get_or ts i t
  pub slot : slice_get ts i ≡ Some t

-- so does one that is read there in an equal list
pub at_place : (ts us : List TxNo) (i : ℕ) (t : TxNo) → us ≡ ts → i < length ts → t ≡ get_or us i t → IsAt ts i t
at_place ts us i t same less is =
    let there : t ≡ get_or ts i t = subst (λ (vs : List TxNo). t ≡ get_or vs i t) same is in
    record { less = less; is = there; slot = slice_get-get_or {X = TxNo} ts i t less ∙ ap Some (sym there) }

-- calls of different transactions are of transactions that stand at one place each
apart_once : (ts : List TxNo) → AreApart (rollbacks ts) → AreOnce ts
apart_once [] h i j t u less e k = absurd cc
apart_once (x ∷ ts) h zero zero t u less e k = absurd (omega (arith, less))
apart_once (x ∷ ts) h zero (suc j) t u less e k =
    let first : x ≡ t = cc in
    subst (λ (v : TxNo). (u.value == v.value) ≡ false) first (of-at (IsBeside x) (rollbacks ts) j (u, RollbackCall u) h.0 (rolled_there ts j u k))
apart_once (x ∷ ts) h (suc i) zero t u less e k = absurd (omega (arith, less))
apart_once (x ∷ ts) h (suc i) (suc j) t u less e k = apart_once ts h.1 i j t u (omega (arith, less)) e k

-- So those that a scope line rolls back stand once each.
pub rolled_once : (b : Body) (xs : List OpenScope) (ts : List TxNo) → rollbacks ts ≡ scope_calls b xs → AreOnce ts
rolled_once b xs ts e = apart_once ts (subst (λ (cs : List (TxNo × Call)). AreApart cs) (sym e) (scope_calls_apart b xs))

-- of the transactions from place i on, only calls of lines before line n were entered
abbrev pub AreStillBelow : ℕ → ℕ → List TxNo → List TxState → Type 0
AreStillBelow n i ts ws = (j : ℕ) (u : TxNo) → i ≤ j → slice_get ts j ≡ Some u → IsBelow n (state_of u ws)

-- so also after the rollback of the transaction at place i
pub still_below : (n i : ℕ) (ts : List TxNo) (t : TxNo) (old new : List TxState) → AreOnce ts → slice_get ts i ≡ Some t → ((u : TxNo) → u ≢ t → state_of u new ≡ state_of u old)
    → AreStillBelow n i ts old → AreStillBelow n (i + 1) ts new
still_below n i ts t old new once here others b j u less e =
    let apart : (u.value == t.value) ≡ false = once i j t u (omega (arith, less)) here e in
    let differ : u ≢ t = λ same. not_both (t.value == t.value) (eq_self t.value) (ap (λ (v : TxNo). v.value == t.value) (sym same) ∙ apart) in
    subst (λ (x : TxState). IsBelow n x) (sym (others u differ)) (b j u (omega (arith, less)) e)
