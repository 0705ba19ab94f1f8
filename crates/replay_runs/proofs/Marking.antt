-- The table of a script's volatiles, line by line.
use Rattle.std.proofs.Common.{◌≡◌, ℕ, zero, suc, ◌-◌, Bool, false, ◌||◌, List, [], ◌∷◌, ◌++◌, Option, None, Some, get_or, replicate, refl, ap, sym, ◌∙◌}
use Rattle.dtx_values.specs.declared.number.EnlNo.{EnlNo}
use Rattle.dtx_values.specs.declared.number.TxNo.{TxNo}
use Rattle.dtx_values.specs.declared.number.ActorNo.{ActorNo}
use Rattle.dtx_values.specs.declared.script.Body.{Body}
use Rattle.dtx_values.specs.declared.script.Body.TheVariants.{Complete, Gone, Reenlist}
use Rattle.dtx_values.specs.declared.script.Line.{Line}
use Rattle.dtx_model.specs.Calls.{call_of, complete_call, gone_call, reenlist_call, transaction_of, transaction_with}
use Rattle.dtx_model.specs.Caused.{calls_in, entered_by, makes_volatile}
use Rattle.dtx_model.specs.Words.{has, past_of, put}
use Rattle.dtx_model.specs.declared.waiting.EnteredCall.{EnteredCall}
use Rattle.dtx_model.proofs.Histories.{past_of-snoc}
use Rattle.replay_runs.specs.Volatiles.{AreVolatiles, volatile_in}

abbrev made_in : ℕ → List EnteredCall → Bool
made_in e ks = has (λ k. makes_volatile e k.call) ks

-- what one more call says of a volatile
by_line : (s : List Line) (a : ActorNo) (b : Body) (ks : List EnteredCall) (e : ℕ) → made_in e (put (entered_by 0 a (call_of s b)) ks) ≡ (volatile_in e b || made_in e ks)
by_line s a (Complete c) ks e = by (transaction_of s c.value)
  where
    by : (o : Option TxNo) → made_in e (put (entered_by 0 a (complete_call c o)) ks) ≡ made_in e ks
    by (Some t) = refl
    by None = refl
by_line s a (Gone f) ks e = by (transaction_with s f.value)
  where
    by : (o : Option TxNo) → made_in e (put (entered_by 0 a (gone_call f o)) ks) ≡ made_in e ks
    by (Some t) = refl
    by None = refl
by_line s a (Reenlist f) ks e = by (transaction_with s f.value)
  where
    by : (o : Option TxNo) → made_in e (put (entered_by 0 a (reenlist_call f o)) ks) ≡ made_in e ks
    by (Some t) = refl
    by None = refl
by_line s a _ ks e = refl

-- the table with what one more line says
pub volatiles-snoc : (s ls : List Line) (l : Line) (old new : List Bool) → AreVolatiles s ls old → ((e : EnlNo) → get_or new (e.value - 1) false ≡ (volatile_in e.value l.body || get_or old (e.value - 1) false))
    → AreVolatiles s (ls ++ l ∷ []) new
volatiles-snoc s ls l old new are kept e =
    kept e ∙ (ap (λ (b : Bool). volatile_in e.value l.body || b) (are e) ∙ (sym (by_line s l.actor l.body (calls_in s (past_of ls)) e.value) ∙ sym (ap (λ (h : List Line). made_in e.value (calls_in s h)) (past_of-snoc ls l))))

-- before the first line none is known
none_at : (n k : ℕ) → get_or (replicate n false) k false ≡ false
none_at zero k = refl
none_at (suc n) zero = refl
none_at (suc n) (suc k) = none_at n k

pub volatiles-none : (s : List Line) (vs rest : List Bool) (n : ℕ) → rest ≡ [] → vs ≡ rest ++ replicate n false → AreVolatiles s [] vs
volatiles-none s vs rest n e is k = ap (λ (xs : List Bool). get_or xs (k.value - 1) false) (is ∙ ap (λ (xs : List Bool). xs ++ replicate n false) e) ∙ none_at n (k.value - 1)
