-- Where names are made once, the plan of an enlistment that stands is the same by the calls that were entered as by the lines of the script.
use Rattle.std.proofs.Common.{◌≡◌, ℕ, zero, suc, ◌==◌, Bool, true, false, ◌⊎◌, inl, inr, List, [], ◌∷◌, Option, Some, None, refl, ap, sym, subst, ◌∙◌, slice_get}
use Rattle.std.proofs.lemmas.Bool.{eqb-true}
use Rattle.dtx_values.specs.declared.call.Call.{Call}
use Rattle.dtx_values.specs.declared.call.Call.TheVariants.{Volatile, Durable, Promotable}
use Rattle.dtx_values.specs.declared.entry.Entry.{Entry}
use Rattle.dtx_values.specs.declared.entry.Entry.TheVariants.{Called}
use Rattle.dtx_values.specs.declared.note.Plan.{Plan}
use Rattle.dtx_values.specs.declared.number.ActorNo.{ActorNo}
use Rattle.dtx_values.specs.declared.number.TxNo.{TxNo}
use Rattle.dtx_values.specs.declared.script.Line.{Line}
use Rattle.dtx_model.specs.Words.{has, kth, latest, onto, or_else, past_of, put}
use Rattle.dtx_model.specs.Entries.{is_call}
use Rattle.dtx_model.specs.Calls.{call_of}
use Rattle.dtx_model.specs.Contexts.{lines_before}
use Rattle.dtx_model.specs.Caused.{IsCallOf, called_at, calls_in, entered_by, entered_in, plans_of}
use Rattle.dtx_model.specs.Grammar.{OfEnlistment, are_named_well}
use Rattle.dtx_model.specs.declared.waiting.EnteredCall.{EnteredCall}
use Rattle.dtx_model.specs.Plans.{or_silent, plan_by, plan_if, plan_of, support_plan}
use Rattle.dtx_model.proofs.Bools.{or_case}
use Rattle.script_histories.proofs.NamedCalls.{IsCalled}
use Rattle.history_table.proofs.Names.{call_makes, is_maker, line_makes, made_once, scope_makes_none}
use Rattle.history_table.proofs.ScopeCalls.{given_call}

-- the plan that a call gives the enlistment, where it was entered
abbrev pub plan_in : ℕ → Option EnteredCall → Option Plan
plan_in e (Some k) = plan_by e k.call
plan_in e None = None

-- a call that gives a plan makes the enlistment
plan_makes : (e : ℕ) (c : Call) (q : Plan) → plan_by e c ≡ Some q → call_makes (OfEnlistment e) c ≡ true
plan_makes e (Volatile t f x v) q k = given (e == f.value) k
  where
    given : (b : Bool) → plan_if b (record { vote = v; owner = None; promote = None }) ≡ Some q → b ≡ true
    given true k = refl
    given false k = absurd cc
plan_makes e (Durable t f r s) q k = given (e == f.value) k
  where
    given : (b : Bool) → plan_if b (support_plan s) ≡ Some q → b ≡ true
    given true k = refl
    given false k = absurd cc
plan_makes e (Promotable t f r v x p) q k = given (e == f.value) k
  where
    given : (b : Bool) → plan_if b (record { vote = v; owner = x; promote = p }) ≡ Some q → b ≡ true
    given true k = refl
    given false k = absurd cc
plan_makes e _ q k = absurd cc

-- and the other way round
makes_plan : (e : ℕ) (c : Call) → call_makes (OfEnlistment e) c ≡ true → (q : Plan) × (plan_by e c ≡ Some q)
makes_plan e (Volatile t f x v) k = (record { vote = v; owner = None; promote = None }, rw k refl)
makes_plan e (Durable t f r s) k = (support_plan s, rw k refl)
makes_plan e (Promotable t f r v x p) k = (record { vote = v; owner = x; promote = p }, rw k refl)
makes_plan e _ k = absurd cc

-- it is one thing or nothing
abbrev IsThatOrNone : Plan → Option Plan → Type 0
IsThatOrNone p o = (o ≡ None) ⊎ (o ≡ Some p)

-- the plan that line n gives
abbrev line_plan : List Line → ℕ → ActorNo → Option Line → ℕ → Option Plan
line_plan s n a o e = plan_in e (called_at s n a o)

-- a line that gives a plan makes the enlistment
giver : (s : List Line) (n : ℕ) (a : ActorNo) (e : ℕ) (q : Plan) (l : Line) (r : Option (TxNo × Call)) → call_of s l.body ≡ r → plan_in e (entered_by n a r) ≡ Some q → is_maker (OfEnlistment e) l ≡ true
giver s n a e q l (Some c) f k = line_makes s (OfEnlistment e) l.body c.0 c.1 f (plan_makes e c.1 q k)
giver s n a e q l None f k = absurd cc

-- the line that makes an enlistment, and the call that it gives by its own words
record Maker (s : List Line) (e : ℕ) : Type 0 where
  number : ℕ
  line : Line
  stands : kth s number ≡ Some line
  name : TxNo
  call : Call
  gives : call_of s line.body ≡ Some (name, call)
  plan : Plan
  planned : plan_by e call ≡ Some plan

-- the maker makes it
maker_makes : (s : List Line) (e : ℕ) (m : Maker s e) → is_maker (OfEnlistment e) m.line ≡ true
maker_makes s e m = line_makes s (OfEnlistment e) m.line.body m.name m.call m.gives (plan_makes e m.call m.plan m.planned)

-- what any line gives is that or nothing
line_one : (s : List Line) (e : ℕ) (m : Maker s e) → are_named_well s ≡ true → (n : ℕ) (a : ActorNo) (o : Option Line) → kth s n ≡ o → IsThatOrNone m.plan (line_plan s n a o e)
line_one s e m w n a None f = inl refl
line_one s e m w n a (Some l) f = by_plan (plan_in e (entered_by n a (call_of s l.body))) refl
  where
    by_plan : (o : Option Plan) → plan_in e (entered_by n a (call_of s l.body)) ≡ o → IsThatOrNone m.plan (plan_in e (entered_by n a (call_of s l.body)))
    by_plan None k = inl k
    by_plan (Some q) k =
        let number : n ≡ m.number = made_once (OfEnlistment e) s n m.number l m.line w f m.stands (giver s n a e q l (call_of s l.body) refl k) (maker_makes s e m) in
        let lines : Some l ≡ Some m.line = sym f ∙ ap (kth s) number ∙ m.stands in
        let same : l ≡ m.line = cc in
        inr (ap (λ l. plan_in e (entered_by n a (call_of s l.body))) same ∙ ap (λ r. plan_in e (entered_by n a r)) m.gives ∙ m.planned)

-- and the maker gives that
line_that : (s : List Line) (e : ℕ) (m : Maker s e) (n : ℕ) (a : ActorNo) → n ≡ m.number → line_plan s n a (kth s n) e ≡ Some m.plan
line_that s e m n a same = ap (λ k. line_plan s n a (kth s k) e) same ∙ ap (λ o. line_plan s n a o e) m.stands ∙ ap (λ r. plan_in e (entered_by n a r)) m.gives ∙ m.planned

-- one thing put in front of others
pub latest-put : (e : ℕ) (o : Option EnteredCall) (ks : List EnteredCall) → latest (λ k. plan_by e k.call) (put o ks) ≡ or_else (plan_in e o) (latest (λ k. plan_by e k.call) ks)
latest-put e (Some k) ks = refl
latest-put e None ks = refl

-- that, or what comes then
that_first : (p : Plan) (o r : Option Plan) → o ≡ Some p → or_else o r ≡ Some p
that_first p o r e = ap (λ o. or_else o r) e

that_later : (p : Plan) (o r : Option Plan) → o ≡ None → r ≡ Some p → or_else o r ≡ Some p
that_later p o r e f = ap (λ o. or_else o r) e ∙ f

-- by the calls that were entered
entered_plan : (s : List Line) (e : ℕ) (m : Maker s e) (h : List Entry) → are_named_well s ≡ true → has (is_call m.number) h ≡ true → latest (λ k. plan_by e k.call) (entered_in s h) ≡ Some m.plan
entered_plan s e m [] w c = absurd cc
entered_plan s e m (Called n a y ∷ h) w c =
    latest-put e (called_at s n a (kth s n)) (entered_in s h)
    ∙ elim (line_one s e m w n a (kth s n) refl) [
      | inr that ↦ that_first m.plan (line_plan s n a (kth s n) e) (latest (λ k. plan_by e k.call) (entered_in s h)) that
      | inl none ↦
          that_later m.plan (line_plan s n a (kth s n) e) (latest (λ k. plan_by e k.call) (entered_in s h)) none
          (or_case (m.number == n) (has (is_call m.number) h)
          (λ k. absurd (apart (line_plan s n a (kth s n) e) none (line_that s e m n a (sym (eqb-true m.number n k))))) (entered_plan s e m h w) c)
    ]
  where
    apart : (o : Option Plan) → o ≡ None → o ≡ Some m.plan → ⊥
    apart (Some x) p q = cc
    apart None p q = cc
entered_plan s e m (x ∷ h) w c = entered_plan s e m h w c

-- by the lines: the newest that gives a plan gives that
latest-onto : {A : Type 0} (g : A → Option Plan) (p : Plan) (h xs : List A) → ((k : ℕ) (x : A) → slice_get xs k ≡ Some x → IsThatOrNone p (g x))
    → ((k : ℕ) × (x : A) × (slice_get xs k ≡ Some x) × (g x ≡ Some p)) ⊎ (latest g h ≡ Some p) → latest g (onto h xs) ≡ Some p
latest-onto g p h [] one (inl w) = absurd (none w.0 w.2)
  where
    none : {A : Type 0} {x : A} (k : ℕ) → slice_get [] k ≡ Some x → ⊥
    none k e = cc
latest-onto g p h [] one (inr f) = f
latest-onto g p h (x ∷ xs) one (inr f) =
    latest-onto g p (x ∷ h) xs (λ k y e. one (suc k) y e)
    (inr (elim (one zero x refl) [ inl none ↦ that_later p (g x) (latest g h) none f | inr that ↦ that_first p (g x) (latest g h) that ]))
latest-onto g p h (x ∷ xs) one (inl (zero, y, e, f)) =
    let same : y ≡ x = cc in
    latest-onto g p (x ∷ h) xs (λ k y e. one (suc k) y e) (inr (that_first p (g x) (latest g h) (subst (λ z. g z ≡ Some p) same f)))
latest-onto g p h (x ∷ xs) one (inl (suc k, y, e, f)) = latest-onto g p (x ∷ h) xs (λ k y e. one (suc k) y e) (inl (k, y, e, f))

abbrev own_plan : List Line → ℕ → Line → Option Plan
own_plan s e l = plan_in e (entered_by 0 l.actor (call_of s l.body))

calls-latest : (s : List Line) (e : ℕ) (ls : List Line) → latest (λ k. plan_by e k.call) (calls_in s ls) ≡ latest (own_plan s e) ls
calls-latest s e [] = refl
calls-latest s e (l ∷ ls) = latest-put e (entered_by 0 l.actor (call_of s l.body)) (calls_in s ls) ∙ ap (or_else (own_plan s e l)) (calls-latest s e ls)

-- the plan depends on no line's number
numberless : (e n : ℕ) (a b : ActorNo) (r : Option (TxNo × Call)) → plan_in e (entered_by 0 a r) ≡ plan_in e (entered_by n b r)
numberless e n a b (Some c) = refl
numberless e n a b None = refl

script_plan : (s : List Line) (e : ℕ) (m : Maker s e) → are_named_well s ≡ true → latest (λ k. plan_by e k.call) (calls_in s (past_of s)) ≡ Some m.plan
script_plan s e m w =
    calls-latest s e (past_of s)
    ∙ latest-onto (own_plan s e) m.plan [] s
    (λ k l f. subst (IsThatOrNone m.plan) (sym (numberless e (suc k) l.actor l.actor (call_of s l.body))) (line_one s e m w (suc k) l.actor (Some l) f))
    (inl (of_number m.number m.stands))
  where
    of_number : (n : ℕ) → kth s n ≡ Some m.line → (k : ℕ) × (x : Line) × (slice_get s k ≡ Some x) × (own_plan s e x ≡ Some m.plan)
    of_number zero f = absurd cc
    of_number (suc k) f = (k, m.line, f, ap (λ r. plan_in e (entered_by 0 m.line.actor r)) m.gives ∙ m.planned)

-- who made the enlistment of a call of the script
maker_of : (s : List Line) (t e n : ℕ) (a : ActorNo) (c : Call) → IsCallOf s t n a c → call_makes (OfEnlistment e) c ≡ true → (m : Maker s e) × (m.number ≡ n)
maker_of s t e n a c g k =
    elim (given_call s (lines_before s n) g.line g.place (g.name, c) g.gives) [
      | inl own ↦
          let p = makes_plan e c k in
          (record { number = n; line = g.line; stands = g.stands; name = g.name; call = c; gives = own; plan = p.0; planned = p.1 }, refl)
      | inr scope ↦ absurd (scope_makes_none (OfEnlistment e) c scope k)
    ]

-- the plan of an enlistment whose call was entered is the same by the calls as by the script
pub plan_same : (s : List Line) (t e : ℕ) (h : List Entry) → are_named_well s ≡ true → IsCalled (IsCallOf s t) h (call_makes (OfEnlistment e)) → plan_of (entered_in s h) e ≡ plans_of s e
plan_same s t e h w c =
    let made = maker_of s t e c.number c.actor c.call c.given c.passes in
    let m = made.0 in
    let called : has (is_call m.number) h ≡ true = subst (λ n. has (is_call n) h ≡ true) (sym made.1) c.called in
    ap or_silent (entered_plan s e m h w called ∙ sym (script_plan s e m w))
