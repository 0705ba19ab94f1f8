-- The plan of an enlistment, line by line.
use Rattle.std.proofs.Common.{◌≡◌, ℕ, List, [], ◌∷◌, Option, None, Some, refl, ap, ◌∙◌}
use Rattle.dtx_values.specs.declared.note.Plan.{Plan}
use Rattle.dtx_values.specs.declared.number.ActorNo.{ActorNo}
use Rattle.dtx_values.specs.declared.number.TxNo.{TxNo}
use Rattle.dtx_values.specs.declared.script.Body.{Body}
use Rattle.dtx_values.specs.declared.script.Body.TheVariants.{Complete, Gone, Reenlist}
use Rattle.dtx_values.specs.declared.script.Line.{Line}
use Rattle.dtx_model.specs.Calls.{call_of, complete_call, gone_call, reenlist_call, transaction_of, transaction_with}
use Rattle.dtx_model.specs.Caused.{calls_in, entered_by, plans_of}
use Rattle.dtx_model.specs.Plans.{or_silent, plan_by}
use Rattle.dtx_model.specs.declared.waiting.EnteredCall.{EnteredCall}
use Rattle.dtx_model.specs.Words.{latest, or_else, past_of, put}
use Rattle.outcome_reasons.specs.Planned.{line_plan, plan_in}

abbrev of : ℕ → List EnteredCall → Option Plan
of e ks = latest (λ k. plan_by e k.call) ks

-- what one more call says of a plan
by_line : (s : List Line) (a : ActorNo) (b : Body) (ks : List EnteredCall) (e : ℕ) → of e (put (entered_by 0 a (call_of s b)) ks) ≡ or_else (plan_in e b) (of e ks)
by_line s a (Complete c) ks e = by (transaction_of s c.value)
  where
    by : (o : Option TxNo) → of e (put (entered_by 0 a (complete_call c o)) ks) ≡ of e ks
    by (Some t) = refl
    by None = refl
by_line s a (Gone f) ks e = by (transaction_with s f.value)
  where
    by : (o : Option TxNo) → of e (put (entered_by 0 a (gone_call f o)) ks) ≡ of e ks
    by (Some t) = refl
    by None = refl
by_line s a (Reenlist f) ks e = by (transaction_with s f.value)
  where
    by : (o : Option TxNo) → of e (put (entered_by 0 a (reenlist_call f o)) ks) ≡ of e ks
    by (Some t) = refl
    by None = refl
by_line s a _ ks e = refl

-- the newest line that plans for an enlistment says its plan
by_lines : (s ls : List Line) (e : ℕ) → of e (calls_in s ls) ≡ latest (line_plan e) ls
by_lines s [] e = refl
by_lines s (l ∷ ls) e = by_line s l.actor l.body (calls_in s ls) e ∙ ap (or_else (plan_in e l.body)) (by_lines s ls e)

pub planned_by : (s : List Line) (e : ℕ) → plans_of s e ≡ or_silent (latest (line_plan e) (past_of s))
planned_by s e = ap or_silent (by_lines s (past_of s) e)
