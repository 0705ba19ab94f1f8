-- The table of the managers of a script's enlistments, line by line.
use Rattle.std.proofs.Common.{◌≡◌, ℕ, zero, suc, ◌-◌, List, [], ◌∷◌, ◌++◌, Option, None, Some, get_or, replicate, refl, ap, sym, ◌∙◌}
use Rattle.dtx_values.specs.declared.number.EnlNo.{EnlNo}
use Rattle.dtx_values.specs.declared.number.RmNo.{RmNo}
use Rattle.dtx_values.specs.declared.number.TxNo.{TxNo}
use Rattle.dtx_values.specs.declared.number.ActorNo.{ActorNo}
use Rattle.dtx_values.specs.declared.script.Body.{Body}
use Rattle.dtx_values.specs.declared.script.Body.TheVariants.{Complete, Gone, Reenlist}
use Rattle.dtx_values.specs.declared.script.Line.{Line}
use Rattle.dtx_model.specs.Calls.{call_of, complete_call, gone_call, reenlist_call, transaction_of, transaction_with}
use Rattle.dtx_model.specs.Caused.{calls_in, entered_by}
use Rattle.dtx_model.specs.Plans.{manager_of}
use Rattle.dtx_model.specs.Words.{or_else, past_of, put}
use Rattle.dtx_model.specs.declared.waiting.EnteredCall.{EnteredCall}
use Rattle.dtx_model.proofs.Histories.{past_of-snoc}
use Rattle.script_calls.specs.Managers.{AreManagers, manager_in}

-- what one more call says of a manager
by_line : (s : List Line) (a : ActorNo) (b : Body) (ks : List EnteredCall) (e : ℕ) → manager_of (put (entered_by 0 a (call_of s b)) ks) e ≡ or_else (manager_in e b) (manager_of ks e)
by_line s a (Complete c) ks e = by (transaction_of s c.value)
  where
    by : (o : Option TxNo) → manager_of (put (entered_by 0 a (complete_call c o)) ks) e ≡ manager_of ks e
    by (Some t) = refl
    by None = refl
by_line s a (Gone f) ks e = by (transaction_with s f.value)
  where
    by : (o : Option TxNo) → manager_of (put (entered_by 0 a (gone_call f o)) ks) e ≡ manager_of ks e
    by (Some t) = refl
    by None = refl
by_line s a (Reenlist f) ks e = by (transaction_with s f.value)
  where
    by : (o : Option TxNo) → manager_of (put (entered_by 0 a (reenlist_call f o)) ks) e ≡ manager_of ks e
    by (Some t) = refl
    by None = refl
by_line s a _ ks e = refl

-- the table with what one more line says
pub managers-snoc : (s ls : List Line) (l : Line) (old new : List (Option RmNo)) → AreManagers s ls old → ((e : EnlNo) → get_or new (e.value - 1) None ≡ or_else (manager_in e.value l.body) (get_or old (e.value - 1) None))
    → AreManagers s (ls ++ l ∷ []) new
managers-snoc s ls l old new are kept e =
    kept e ∙ (ap (or_else (manager_in e.value l.body)) (are e) ∙ (sym (by_line s l.actor l.body (calls_in s (past_of ls)) e.value) ∙ sym (ap (λ (h : List Line). manager_of (calls_in s h) e.value) (past_of-snoc ls l))))

-- before the first line no manager is known
none_at : (n k : ℕ) → get_or {A = Option RmNo} (replicate n None) k None ≡ None
none_at zero k = refl
none_at (suc n) zero = refl
none_at (suc n) (suc k) = none_at n k

pub managers-none : (s : List Line) (ms rest : List (Option RmNo)) (n : ℕ) → rest ≡ [] → ms ≡ rest ++ replicate n None → AreManagers s [] ms
managers-none s ms rest n e is k = ap (λ (xs : List (Option RmNo)). get_or xs (k.value - 1) None) (is ∙ ap (λ (xs : List (Option RmNo)). xs ++ replicate n None) e) ∙ none_at n (k.value - 1)
