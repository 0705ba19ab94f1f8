-- Of an enlistment that the script makes a durable or a promotable one: which line and which transaction make it, and that it is no volatile.
use Rattle.std.proofs.Common.{ℕ, suc, ◌≡◌, ◌==◌, ◌||◌, ◌&&◌, Bool, true, false, List, [], ◌∷◌, Option, Some, None, refl, sym, subst, ap, ◌∙◌, inl, inr}
use Rattle.std.specs.List.{slice_get}
use Rattle.std.proofs.lemmas.Bool.{eqb-true, false_from_ne_true, or_left}
use Rattle.dtx_values.specs.declared.call.Call.{Call}
use Rattle.dtx_values.specs.declared.call.Call.TheVariants.{Durable, Promotable, Volatile}
use Rattle.dtx_values.specs.declared.entry.Entry.{Entry}
use Rattle.dtx_values.specs.declared.number.ActorNo.{ActorNo}
use Rattle.dtx_values.specs.declared.number.RmNo.{RmNo}
use Rattle.dtx_values.specs.declared.number.TxNo.{TxNo}
use Rattle.dtx_values.specs.declared.script.Body.{Body}
use Rattle.dtx_values.specs.declared.script.Body.TheVariants.{Durable as DurableLine, Promotable as PromotableLine, Complete as CompleteLine, Gone as GoneLine, Reenlist as ReenlistLine}
use Rattle.dtx_values.specs.declared.script.Line.{Line}
use Rattle.dtx_model.specs.declared.waiting.EnteredCall.{EnteredCall}
use Rattle.dtx_model.specs.Words.{has, kth, or_else, past_of, put}
use Rattle.dtx_model.specs.Calls.{call_of, complete_call, gone_call, reenlist_call, transaction_of, transaction_with}
use Rattle.dtx_model.specs.Caused.{FreelyCaused, IsCallOf, Manager, answers, calls_in, entered_by, is_manager, is_volatile_in, makes_volatile}
use Rattle.dtx_model.specs.Contexts.{lines_before}
use Rattle.dtx_model.specs.Grammar.{OfEnlistment, are_named_well, is_made_lasting_of, makes_lasting_of}
use Rattle.dtx_model.specs.Plans.{manager_by, manager_if, manager_of}
use Rattle.dtx_model.proofs.Bools.{and_both, and_left, and_right, or_case, or_right}
use Rattle.dtx_model.proofs.Reading.{has-past}
use Rattle.history_table.proofs.EntryTests.{is_enlisted}
use Rattle.history_table.proofs.Makers.{makes_enlistment, makes_lasting, makes_volatile as called_volatile, maker_called, ran_made}
use Rattle.history_table.proofs.Names.{is_maker, line_makes, made_once, scope_makes_none}
use Rattle.history_table.proofs.ScopeCalls.{given_call}
use Rattle.history_table.proofs.Table.{stands_volatile}
use Rattle.history_table.proofs.Tests.{eq_self}
use Rattle.settled_histories.proofs.BeforeRows.{made_volatile}

-- a line of the script makes this durable or promotable, of this transaction
pub record IsMadeBy (s : List Line) (e t : ℕ) : Type 0 where
  pub number : ℕ
  pub line : Line
  pub stands : kth s number ≡ Some line
  pub makes : makes_lasting_of t e line.body ≡ true

-- what stands somewhere stands at a place
pub at_place : {A : Type 0} (p : A → Bool) (s : List A) → has p s ≡ true → (n : ℕ) × (l : A) × (slice_get s n ≡ Some l) × (p l ≡ true)
at_place p [] h = absurd cc
at_place p (l ∷ s) h = or_case (p l) (has p s) (λ m. (0, l, refl, m)) (λ r. let q = at_place p s r in (suc q.0, q.1, q.2, q.3)) h

pub made_so : (s : List Line) (t e : ℕ) → is_made_lasting_of s t e ≡ true → IsMadeBy s e t
made_so s t e h = let q = at_place (λ l. makes_lasting_of t e l.body) s h in record { number = suc q.0; line = q.1; stands = q.2; makes = q.3 }

-- the call passes, where there is one
abbrev passes : (Call → Bool) → Option (TxNo × Call) → Bool
passes p (Some c) = p c.1
passes p None = false

-- a call of those of the script that passes is a line's own
called_line : (s : List Line) (p : Call → Bool) (ls : List Line) → has (λ k. p k.call) (calls_in s ls) ≡ true → has (λ l. passes p (call_of s l.body)) ls ≡ true
called_line s p [] h = h
called_line s p (l ∷ ls) h = by (call_of s l.body) h (called_line s p ls)
  where
    by : (o : Option (TxNo × Call)) → has (λ k. p k.call) (put (entered_by 0 l.actor o) (calls_in s ls)) ≡ true → (has (λ k. p k.call) (calls_in s ls) ≡ true → has (λ l. passes p (call_of s l.body)) ls ≡ true)
        → (passes p o || has (λ l. passes p (call_of s l.body)) ls) ≡ true
    by None h f = f h
    by (Some c) h f =
        or_case (p c.1) (has (λ k. p k.call) (calls_in s ls)) (λ a. or_left (p c.1) (has (λ l. passes p (call_of s l.body)) ls) a) (λ a. or_right (p c.1) (has (λ l. passes p (call_of s l.body)) ls) (f a)) h

line_of : (s : List Line) (p : Call → Bool) → has (λ k. p k.call) (calls_in s (past_of s)) ≡ true → (n : ℕ) × (l : Line) × (kth s n ≡ Some l) × (passes p (call_of s l.body) ≡ true)
line_of s p h =
    let q = at_place (λ l. passes p (call_of s l.body)) s (sym (has-past (λ (l : Line). passes p (call_of s l.body)) s) ∙ called_line s p (past_of s) h) in
    (suc q.0, q.1, q.2, q.3)

-- a lasting one's call is its line's
lasting_body : (s : List Line) (e : ℕ) (b : Body) → passes (makes_lasting e) (call_of s b) ≡ true → (t : ℕ) × (makes_lasting_of t e b ≡ true)
lasting_body s e (DurableLine t f r x) h = (t.value, own t.value (e == f.value) h)
  where
    own : (n : ℕ) (b : Bool) → b ≡ true → ((n == n) && b) ≡ true
    own n b q = and_both (n == n) b (eq_self n) q
lasting_body s e (PromotableLine t f r v o p) h = (t.value, own t.value (e == f.value) h)
  where
    own : (n : ℕ) (b : Bool) → b ≡ true → ((n == n) && b) ≡ true
    own n b q = and_both (n == n) b (eq_self n) q
lasting_body s e (CompleteLine c) h = absurd (by (transaction_of s c.value) h)
  where
    by : (o : Option TxNo) → passes (makes_lasting e) (complete_call c o) ≡ true → ⊥
    by (Some t) h = cc
    by None h = cc
lasting_body s e (GoneLine f) h = absurd (by (transaction_with s f.value) h)
  where
    by : (o : Option TxNo) → passes (makes_lasting e) (gone_call f o) ≡ true → ⊥
    by (Some t) h = cc
    by None h = cc
lasting_body s e (ReenlistLine f) h = absurd (by (transaction_with s f.value) h)
  where
    by : (o : Option TxNo) → passes (makes_lasting e) (reenlist_call f o) ≡ true → ⊥
    by (Some t) h = cc
    by None h = cc
lasting_body s e _ h = absurd cc

-- who has a manager is made lasting by a call
managed_call : (r : RmNo) (e : ℕ) (ks : List EnteredCall) → is_manager r (manager_of ks e) ≡ true → has (λ k. makes_lasting e k.call) ks ≡ true
managed_call r e [] h = absurd cc
managed_call r e (k ∷ ks) h = by k.call h (managed_call r e ks)
  where
    either : (b : Bool) (q : RmNo) → is_manager r (or_else (manager_if b q) (manager_of ks e)) ≡ true → (is_manager r (manager_of ks e) ≡ true → has (λ k. makes_lasting e k.call) ks ≡ true) → (b || has (λ k. makes_lasting e k.call) ks) ≡ true
    either true q h f = refl
    either false q h f = f h

    by : (c : Call) → is_manager r (or_else (manager_by e c) (manager_of ks e)) ≡ true → (is_manager r (manager_of ks e) ≡ true → has (λ k. makes_lasting e k.call) ks ≡ true) → (makes_lasting e c || has (λ k. makes_lasting e k.call) ks) ≡ true
    by (Durable t f q x) h g = either (e == f.value) q h g
    by (Promotable t f q v x p) h g = either (e == f.value) q h g
    by _ h g = g h

pub managed_made : (s : List Line) (r : RmNo) (e : ℕ) → answers s (Manager r) e ≡ true → (t : ℕ) × IsMadeBy s e t
managed_made s r e h =
    let q = line_of s (makes_lasting e) (managed_call r e (calls_in s (past_of s)) h) in
    let b = lasting_body s e q.1.body q.3 in
    (b.0, record { number = q.0; line = q.1; stands = q.2; makes = b.1 })

-- its line makes the name, and gives a lasting one's call
line_names : (t e : ℕ) (l : Line) → makes_lasting_of t e l.body ≡ true → is_maker (OfEnlistment e) l ≡ true
line_names t e l m = by l.body m
  where
    by : (b : Body) → makes_lasting_of t e b ≡ true → is_maker (OfEnlistment e) (record { actor = l.actor; body = b }) ≡ true
    by (DurableLine u f r x) h = rw (and_right (t == u.value) (e == f.value) h) refl
    by (PromotableLine u f r v o p) h = rw (and_right (t == u.value) (e == f.value) h) refl
    by _ h = absurd cc

own_call : (s : List Line) (t e : ℕ) (b : Body) (u : TxNo) (c : Call) → makes_lasting_of t e b ≡ true → call_of s b ≡ Some (u, c) → (makes_lasting e c ≡ true) × (t ≡ u.value)
own_call s t e (DurableLine u f r x) w c m g =
    (subst (λ (o : Option (TxNo × Call)). passes (makes_lasting e) o ≡ true) g (and_right (t == u.value) (e == f.value) m), eqb-true t u.value (and_left (t == u.value) (e == f.value) m) ∙ ap named g)
  where
    named : Option (TxNo × Call) → ℕ
    named (Some k) = k.0.value
    named None = 0
own_call s t e (PromotableLine u f r v o p) w c m g =
    (subst (λ (o : Option (TxNo × Call)). passes (makes_lasting e) o ≡ true) g (and_right (t == u.value) (e == f.value) m), eqb-true t u.value (and_left (t == u.value) (e == f.value) m) ∙ ap named g)
  where
    named : Option (TxNo × Call) → ℕ
    named (Some k) = k.0.value
    named None = 0
own_call s t e _ w c m g = absurd cc

one_line : {l r : Line} → Some l ≡ Some r → l ≡ r
one_line e = cc

-- who makes the enlistment in a transaction that the script calls makes it lasting, and of the line's transaction
same_maker : (s : List Line) (e t u n : ℕ) (a : ActorNo) (c : Call) → are_named_well s ≡ true → IsMadeBy s e u → IsCallOf s t n a c → makes_enlistment e c ≡ true → (makes_lasting e c ≡ true) × (u ≡ t)
same_maker s e t u n a c named m g k =
    elim (given_call s (lines_before s n) g.line g.place (g.name, c) g.gives) [
      | inl own ↦
          let here : n ≡ m.number = made_once (OfEnlistment e) s n m.number g.line m.line named g.stands m.stands (line_makes s (OfEnlistment e) g.line.body g.name c own (maker_called e c k)) (line_names u e m.line m.makes) in
          let same : g.line ≡ m.line = one_line (sym g.stands ∙ ap (λ i. kth s i) here ∙ m.stands) in
          let r = own_call s u e g.line.body g.name c (subst (λ (l : Line). makes_lasting_of u e l.body ≡ true) (sym same) m.makes) own in
          (r.0, r.1 ∙ g.at_t)
      | inr scope ↦ absurd (scope_makes_none (OfEnlistment e) c scope (maker_called e c k))
    ]

-- it is of one transaction
pub one_transaction : (s : List Line) (e t u : ℕ) → are_named_well s ≡ true → IsMadeBy s e t → IsMadeBy s e u → t ≡ u
one_transaction s e t u named m k =
    let here : m.number ≡ k.number = made_once (OfEnlistment e) s m.number k.number m.line k.line named m.stands k.stands (line_names t e m.line m.makes) (line_names u e k.line k.makes) in
    let same : m.line ≡ k.line = one_line (sym m.stands ∙ ap (λ i. kth s i) here ∙ k.stands) in
    by k.line.body (subst (λ (l : Line). makes_lasting_of t e l.body ≡ true) same m.makes) k.makes
  where
    by : (b : Body) → makes_lasting_of t e b ≡ true → makes_lasting_of u e b ≡ true → t ≡ u
    by (DurableLine w f r x) h g = eqb-true t w.value (and_left (t == w.value) (e == f.value) h) ∙ sym (eqb-true u w.value (and_left (u == w.value) (e == f.value) g))
    by (PromotableLine w f r v o p) h g = eqb-true t w.value (and_left (t == w.value) (e == f.value) h) ∙ sym (eqb-true u w.value (and_left (u == w.value) (e == f.value) g))
    by _ h g = absurd cc

-- whoever stands in a history was made there
pub stands_at : (s : List Line) (e t u : ℕ) (h : List Entry) → are_named_well s ≡ true → IsMadeBy s e u → FreelyCaused (IsCallOf s t) t h → has (is_enlisted e) h ≡ true → u ≡ t
stands_at s e t u h named m r k =
    let made = (ran_made (IsCallOf s t) t r.1.0 (record { calls = r.0; past = h }) r.1.1).enlisted e k in
    (same_maker s e t u made.0.number made.0.actor made.0.call named m made.0.may made.0.passes).1

-- it is no volatile there
volatile_makes : (e : ℕ) (c : Call) → called_volatile e c ≡ true → makes_enlistment e c ≡ true
volatile_makes e (Volatile t f x v) k = k
volatile_makes e _ k = absurd cc

apart : (e : ℕ) (c : Call) → called_volatile e c ≡ true → makes_lasting e c ≡ true → ⊥
apart e (Volatile t f x v) m k = cc
apart e _ m k = cc

pub stands_firm : (s : List Line) (e t u : ℕ) (h : List Entry) → are_named_well s ≡ true → IsMadeBy s e u → FreelyCaused (IsCallOf s t) t h → stands_volatile e h ≡ false
stands_firm s e t u h named m r = false_from_ne_true (stands_volatile e h) (λ k.
    let made = (ran_made (IsCallOf s t) t r.1.0 (record { calls = r.0; past = h }) r.1.1).volatile e (made_volatile e h k) in
    apart e made.call made.passes (same_maker s e t u made.number made.actor made.call named m made.may (volatile_makes e made.call made.passes)).0)

-- nor in the script
pub no_volatile : (s : List Line) (e u : ℕ) → are_named_well s ≡ true → IsMadeBy s e u → is_volatile_in s e ≡ false
no_volatile s e u named m = false_from_ne_true (is_volatile_in s e) (λ k. let q = line_of s (makes_volatile e) k in by q.0 q.1 q.2 (call_of s q.1.body) refl q.3)
  where
    of_volatile : (c : Call) → makes_volatile e c ≡ true → makes_enlistment e c ≡ true
    of_volatile (Volatile t f x v) k = k
    of_volatile _ k = absurd cc

    other : (c : Call) → makes_volatile e c ≡ true → makes_lasting e c ≡ true → ⊥
    other (Volatile t f x v) k l = cc
    other _ k l = cc

    by : (n : ℕ) (l : Line) → kth s n ≡ Some l → (o : Option (TxNo × Call)) → call_of s l.body ≡ o → passes (makes_volatile e) o ≡ true → ⊥
    by n l stands None g v = absurd cc
    by n l stands (Some (t, c)) g v =
        let maker : is_maker (OfEnlistment e) l ≡ true = line_makes s (OfEnlistment e) l.body t c g (maker_called e c (of_volatile c v)) in
        let here : n ≡ m.number = made_once (OfEnlistment e) s n m.number l m.line named stands m.stands maker (line_names u e m.line m.makes) in
        let same : l ≡ m.line = one_line (sym stands ∙ ap (λ i. kth s i) here ∙ m.stands) in
        let own = own_call s u e l.body t c (subst (λ (l : Line). makes_lasting_of u e l.body ≡ true) (sym same) m.makes) g in
        other c v own.0
