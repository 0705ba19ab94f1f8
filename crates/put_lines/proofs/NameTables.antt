-- The tables of the names that a script makes.
use Rattle.std.proofs.Common.{◌≡◌, ℕ, ◌-◌, ◌==◌, Bool, true, false, ◌&&◌, ◌||◌, List, [], ◌∷◌, ◌++◌, length, get_or, replicate, refl, ap, ap₂, sym, ◌∙◌, arith, Option, Some, None, is_some, if◌then◌else◌}
use Rattle.std.specs.Prelude.{not}
use Rattle.std.proofs.lemmas.Bool.Decides.{nat_tests}
use Rattle.std.proofs.lemmas.List.{get_or-replicate}
use Rattle.dtx_values.specs.declared.number.TheConstants.TxNo.{MAX as TRANSACTIONS}
use Rattle.dtx_values.specs.declared.number.TheConstants.EnlNo.{MAX as ENLISTMENTS}
use Rattle.dtx_values.specs.declared.number.ActorNo.{ActorNo}
use Rattle.dtx_values.specs.declared.number.EnlNo.{EnlNo}
use Rattle.dtx_values.specs.declared.number.RmNo.{RmNo}
use Rattle.dtx_values.specs.declared.number.TxNo.{TxNo}
use Rattle.dtx_values.specs.declared.script.Body.{Body}
use Rattle.dtx_values.specs.declared.script.Body.TheVariants.{Open, Volatile, Durable, Promotable, Complete, Gone, Reenlist}
use Rattle.dtx_values.specs.declared.script.Line.{Line}
use Rattle.dtx_values.specs.declared.script.Opening.TheVariants.{Required, RequiresNew, Suppress}
use Rattle.dtx_model.specs.Calls.{call_of, complete_call, gone_call, reenlist_call, transaction_of, transaction_with}
use Rattle.dtx_model.specs.Caused.{Of, Manager, Volatiles, calls_in, entered_by, is_manager}
use Rattle.dtx_model.specs.Grammar.{IsScript, Name, OfEnlistment, OfTransaction, are_named_well, is_made, is_made_lasting_of, is_named_well, makes, makes_lasting_of, same_name}
use Rattle.dtx_model.specs.Plans.{manager_if, manager_of}
use Rattle.dtx_model.specs.Words.{always, each, has, latest, or_else, past_of, put}
use Rattle.dtx_model.specs.declared.waiting.EnteredCall.{EnteredCall}
use Rattle.dtx_model.proofs.Bools.{and_left, and_right, not_true, or_case, or_false, or_first, or_second}
use Rattle.dtx_model.proofs.Histories.{past_of-snoc}
use Rattle.dtx_model.proofs.Reading.{has-past}
use Rattle.heard_notes.specs.Whose.{whose}
use Rattle.heard_notes.specs.declared.of.Of.{Of as Given}
use Rattle.heard_notes.specs.declared.of.Of.TheVariants.{Manager as GivenManager, Volatiles as GivenVolatiles}
use Rattle.heard_notes.specs.declared.put.Put.{Put}
use Rattle.put_lines.specs.Input.{is_putter, makes_volatile_of, named_in}
use Rattle.put_lines.specs.Names.{AreNames, is_right, made_here, named_at}
use Rattle.put_lines.specs.declared.names.Made.{Made}
use Rattle.put_lines.specs.declared.names.Names.{Names}

-- the line of these that says something of the enlistment last
abbrev pub said_of : Of → ℕ → List Line → Option Made
said_of o e past = latest (λ l. made_here o e l.body) past

-- the tables say what these lines say
pub record AreTabled (s : List Line) (o : Of) (ts : List Bool) (es : List (Option Made)) : Type 0 where
  pub transactions_long : length ts ≡ TRANSACTIONS
  pub enlistments_long : length es ≡ ENLISTMENTS
  pub transaction : (t : TxNo) → get_or ts (t.value - 1) false ≡ is_made (past_of s) (OfTransaction t.value)
  pub enlistment : (e : EnlNo) → get_or es (e.value - 1) None ≡ said_of o e.value (past_of s)

-- no lines say nothing
pub tabled_none : (o : Of) (ts : List Bool) (es : List (Option Made)) → ts ≡ replicate TRANSACTIONS false → es ≡ replicate ENLISTMENTS None → AreTabled [] o ts es
tabled_none o ts es t e = record {
  transactions_long = ap length t;
  enlistments_long = ap length e;
  transaction = λ n. ap (λ (xs : List Bool). get_or xs (n.value - 1) false) t ∙ get_or-replicate TRANSACTIONS (n.value - 1) false false (omega arith);
  enlistment = λ n. ap (λ (xs : List (Option Made)). get_or xs (n.value - 1) None) e ∙ get_or-replicate ENLISTMENTS (n.value - 1) None None (omega arith);
}

-- one line more
pub tabled_more : (s : List Line) (l : Line) (o : Of) (ts new_ts : List Bool) (es new_es : List (Option Made)) → length new_ts ≡ TRANSACTIONS → length new_es ≡ ENLISTMENTS
    → ((t : TxNo) → get_or new_ts (t.value - 1) false ≡ (has (λ m. same_name (OfTransaction t.value) m) (makes l.body) || get_or ts (t.value - 1) false))
    → ((e : EnlNo) → get_or new_es (e.value - 1) None ≡ or_else (made_here o e.value l.body) (get_or es (e.value - 1) None))
    → AreTabled s o ts es → AreTabled (s ++ l ∷ []) o new_ts new_es
tabled_more s l o ts new_ts es new_es tl el t e a = record {
  transactions_long = tl;
  enlistments_long = el;
  transaction = λ n. t n ∙ ap (λ b. has (λ m. same_name (OfTransaction n.value) m) (makes l.body) || b) (a.transaction n)
      ∙ sym (ap (λ (h : List Line). is_made h (OfTransaction n.value)) (past_of-snoc s l));
  enlistment = λ n. e n ∙ ap (or_else (made_here o n.value l.body)) (a.enlistment n) ∙ sym (ap (said_of o n.value) (past_of-snoc s l));
}

-- either of two is there
some_either : {A : Type 0} (x y : Option A) → is_some (or_else x y) ≡ (is_some x || is_some y)
some_either (Some a) y = refl
some_either None y = refl

-- a choice is something where it is chosen
some_if : (b : Bool) (m : Made) → is_some (if b then Some m else None) ≡ (b || false)
some_if true m = refl
some_if false m = refl

-- a command says something of an enlistment where it makes it
made_says : (o : Of) (e : ℕ) (b : Body) → is_some (made_here o e b) ≡ has (λ m. same_name (OfEnlistment e) m) (makes b)
made_says o e (Volatile t f x v) = some_if (e == f.value) _
made_says o e (Durable t f r s) = some_if (e == f.value) _
made_says o e (Promotable t f r v x p) = some_if (e == f.value) _
made_says o e (Open s (Required t d i)) = refl
made_says o e (Open s (RequiresNew t d i)) = refl
made_says o e (Open s Suppress) = refl
made_says o e _ = refl

-- so do lines
pub says_made : (o : Of) (e : ℕ) (past : List Line) → is_some (said_of o e past) ≡ is_made past (OfEnlistment e)
says_made o e [] = refl
says_made o e (l ∷ past) = some_either (made_here o e l.body) (said_of o e past) ∙ ap₂ (λ x y. x || y) (made_says o e l.body) (says_made o e past)

-- what isn't there is none
none_there : {A : Type 0} (x : Option A) → is_some x ≡ false → x ≡ None
none_there (Some a) h = absurd (cc h)
none_there None h = refl

-- a name that is the same as an enlistment's is that
same_enlistment_name : (e : ℕ) (m : Name) → same_name (OfEnlistment e) m ≡ true → OfEnlistment e ≡ m
same_enlistment_name e (OfEnlistment f) h =
    let same : e ≡ f = grind (arith, nat_tests) in
    ap (λ n. OfEnlistment n) same
same_enlistment_name e _ h = absurd (cc h)

-- names that weren't made have none that was
new_here : (e : ℕ) (past : List Line) (ns : List Name) → each (λ n. not (is_made past n)) ns ≡ true → has (λ m. same_name (OfEnlistment e) m) ns ≡ true → is_made past (OfEnlistment e) ≡ false
new_here e past [] h k = absurd (cc k)
new_here e past (m ∷ ns) h k =
    or_case (same_name (OfEnlistment e) m) (has (λ m. same_name (OfEnlistment e) m) ns)
    (λ q. ap (is_made past) (same_enlistment_name e m q) ∙ not_true (is_made past m) (and_left (not (is_made past m)) _ h))
    (new_here e past ns (and_right (not (is_made past m)) _ h)) k

-- what a line says of an enlistment no line before it said
said_once : (o : Of) (e : ℕ) (l : Line) (past : List Line) (m : Made) → is_named_well past l ≡ true → made_here o e l.body ≡ Some m → said_of o e past ≡ None
said_once o e l past m w h =
    let makes_it : has (λ n. same_name (OfEnlistment e) n) (makes l.body) ≡ true = sym (made_says o e l.body) ∙ ap is_some h in
    none_there (said_of o e past) (says_made o e past ∙ new_here e past (makes l.body) (and_left (each (λ n. not (is_made past n)) (makes l.body)) _ w) makes_it)

-- tests with a test that doesn't hold
and_false : (b : Bool) → (b && false) ≡ false
and_false true = refl
and_false false = refl

or_nothing : (b : Bool) → (b || false) ≡ b
or_nothing true = refl
or_nothing false = refl

-- a test beside a choice
volatile_if : (t : ℕ) (u : TxNo) (b : Bool) → ((t == u.value) && b) ≡ is_right t (if b then Some (record { transaction = u; has_object = true }) else None)
volatile_if t u true = refl
volatile_if t u false = and_false (t == u.value)

other_if : (t : ℕ) (u : TxNo) (b : Bool) → false ≡ is_right t (if b then Some (record { transaction = u; has_object = false }) else None)
other_if t u true = sym (and_false (t == u.value))
other_if t u false = refl

lasting_if : (t : ℕ) (u : TxNo) (r q : RmNo) (b : Bool) → (((t == u.value) && b) && is_manager r (manager_if b q)) ≡ is_right t (if b then Some (record { transaction = u; has_object = r.value == q.value }) else None)
lasting_if t u r q true = by (t == u.value)
  where
    by : (c : Bool) → ((c && true) && (r.value == q.value)) ≡ (c && (r.value == q.value))
    by true = refl
    by false = refl
lasting_if t u r q false = and_false ((t == u.value) && false)

-- a command makes a volatile of this transaction where it says so
volatile_here : (t e : ℕ) (b : Body) → makes_volatile_of t e b ≡ is_right t (made_here Volatiles e b)
volatile_here t e (Volatile u f x v) = volatile_if t u (e == f.value)
volatile_here t e (Durable u f r s) = other_if t u (e == f.value)
volatile_here t e (Promotable u f r v x p) = other_if t u (e == f.value)
volatile_here t e _ = refl

-- the manager that a command gives the enlistment
abbrev manager_here : ℕ → Body → Option RmNo
manager_here e (Durable t f r s) = manager_if (e == f.value) r
manager_here e (Promotable t f r v x p) = manager_if (e == f.value) r
manager_here e _ = None

-- a command makes a lasting one of this transaction and manager where it says so
lasting_here : (r : RmNo) (t e : ℕ) (b : Body) → (makes_lasting_of t e b && is_manager r (manager_here e b)) ≡ is_right t (made_here (Manager r) e b)
lasting_here r t e (Volatile u f x v) = other_if t u (e == f.value)
lasting_here r t e (Durable u f q s) = lasting_if t u r q (e == f.value)
lasting_here r t e (Promotable u f q v x p) = lasting_if t u r q (e == f.value)
lasting_here r t e _ = refl

-- a lasting one has a manager
managed_here : (t e : ℕ) (b : Body) → makes_lasting_of t e b ≡ true → is_some (manager_here e b) ≡ true
managed_here t e (Durable u f q s) h = by (e == f.value) (and_right (t == u.value) _ h)
  where
    by : (c : Bool) → c ≡ true → is_some (manager_if c q) ≡ true
    by true k = refl
    by false k = absurd (cc k)
managed_here t e (Promotable u f q v x p) h = by (e == f.value) (and_right (t == u.value) _ h)
  where
    by : (c : Bool) → c ≡ true → is_some (manager_if c q) ≡ true
    by true k = refl
    by false k = absurd (cc k)
managed_here t e _ h = absurd (cc h)

-- a command that says nothing of the enlistment makes no lasting one, and gives it no manager
none_lasting : (r : RmNo) (t e : ℕ) (b : Body) → made_here (Manager r) e b ≡ None → (makes_lasting_of t e b ≡ false) × (manager_here e b ≡ None)
none_lasting r t e (Durable u f q s) h = by (e == f.value) _ h
  where
    by : (c : Bool) (m : Made) → (if c then Some m else None) ≡ None → (((t == u.value) && c) ≡ false) × (manager_if c q ≡ None)
    by true m k = absurd (cc k)
    by false m k = (and_false (t == u.value), refl)
none_lasting r t e (Promotable u f q v x p) h = by (e == f.value) _ h
  where
    by : (c : Bool) (m : Made) → (if c then Some m else None) ≡ None → (((t == u.value) && c) ≡ false) × (manager_if c q ≡ None)
    by true m k = absurd (cc k)
    by false m k = (and_false (t == u.value), refl)
none_lasting r t e _ h = (refl, refl)

-- where it says nothing, it makes no lasting one of any transaction
unmade_lasting : (o : Of) (t e : ℕ) (b : Body) → is_some (made_here o e b) ≡ false → makes_lasting_of t e b ≡ false
unmade_lasting o t e (Durable u f q s) h = by (e == f.value) _ h
  where
    by : (c : Bool) (m : Made) → is_some (if c then Some m else None) ≡ false → ((t == u.value) && c) ≡ false
    by true m k = absurd (cc k)
    by false m k = and_false (t == u.value)
unmade_lasting o t e (Promotable u f q v x p) h = by (e == f.value) _ h
  where
    by : (c : Bool) (m : Made) → is_some (if c then Some m else None) ≡ false → ((t == u.value) && c) ≡ false
    by true m k = absurd (cc k)
    by false m k = and_false (t == u.value)
unmade_lasting o t e _ h = refl

-- lines that say nothing of an enlistment make no lasting one
unsaid_lasting : (o : Of) (t e : ℕ) (past : List Line) → is_some (said_of o e past) ≡ false → is_made_lasting_of past t e ≡ false
unsaid_lasting o t e [] h = refl
unsaid_lasting o t e (l ∷ past) h =
    let both : (is_some (made_here o e l.body) || is_some (said_of o e past)) ≡ false = sym (some_either (made_here o e l.body) (said_of o e past)) ∙ h in
    or_false (makes_lasting_of t e l.body) (is_made_lasting_of past t e) (unmade_lasting o t e l.body (or_first (is_some (made_here o e l.body)) _ both))
    (unsaid_lasting o t e past (or_second (is_some (made_here o e l.body)) _ both))

-- what one more call says of a manager
manager_line : (s : List Line) (a : ActorNo) (b : Body) (ks : List EnteredCall) (e : ℕ) → manager_of (put (entered_by 0 a (call_of s b)) ks) e ≡ or_else (manager_here e b) (manager_of ks e)
manager_line s a (Complete c) ks e = by (transaction_of s c.value)
  where
    by : (o : Option TxNo) → manager_of (put (entered_by 0 a (complete_call c o)) ks) e ≡ manager_of ks e
    by (Some t) = refl
    by None = refl
manager_line s a (Gone f) ks e = by (transaction_with s f.value)
  where
    by : (o : Option TxNo) → manager_of (put (entered_by 0 a (gone_call f o)) ks) e ≡ manager_of ks e
    by (Some t) = refl
    by None = refl
manager_line s a (Reenlist f) ks e = by (transaction_with s f.value)
  where
    by : (o : Option TxNo) → manager_of (put (entered_by 0 a (reenlist_call f o)) ks) e ≡ manager_of ks e
    by (Some t) = refl
    by None = refl
manager_line s a _ ks e = refl

-- the volatiles of a transaction are those of which the tables say so
right_volatiles : (t e : ℕ) (past : List Line) → always is_named_well past ≡ true → has (λ l. makes_volatile_of t e l.body) past ≡ is_right t (said_of Volatiles e past)
right_volatiles t e [] w = refl
right_volatiles t e (l ∷ past) w = by (right_volatiles t e past (and_right (is_named_well past l) _ w)) (made_here Volatiles e l.body) refl
  where
    by : has (λ l. makes_volatile_of t e l.body) past ≡ is_right t (said_of Volatiles e past) → (x : Option Made) → made_here Volatiles e l.body ≡ x
        → (makes_volatile_of t e l.body || has (λ l. makes_volatile_of t e l.body) past) ≡ is_right t (or_else (made_here Volatiles e l.body) (said_of Volatiles e past))
    by rest None h = rw (volatile_here t e l.body, h) rest
    by rest (Some m) h =
        let none = said_once Volatiles e l past m (and_left (is_named_well past l) _ w) h in
        rw (volatile_here t e l.body, rest, h, none) (or_nothing (is_right t (Some m)))

-- the first manager of two, where there is one
first_manager : (r : RmNo) (x : Bool) (m n : Option RmNo) → (x ≡ true → is_some m ≡ true) → (x && is_manager r (or_else m n)) ≡ (x && is_manager r m)
first_manager r false m n h = refl
first_manager r true (Some q) n h = refl
first_manager r true None n h = absurd (let k = h refl in cc k)

-- so are the lasting ones of a transaction and a manager
right_lasting : (s : List Line) (r : RmNo) (t e : ℕ) (past : List Line) → always is_named_well past ≡ true → (is_made_lasting_of past t e && is_manager r (manager_of (calls_in s past) e)) ≡ is_right t (said_of (Manager r) e past)
right_lasting s r t e [] w = refl
right_lasting s r t e (l ∷ past) w = ap (λ m. is_made_lasting_of (l ∷ past) t e && is_manager r m) (manager_line s l.actor l.body (calls_in s past) e)
    ∙ by (right_lasting s r t e past (and_right (is_named_well past l) _ w)) (made_here (Manager r) e l.body) refl
  where
    by : (is_made_lasting_of past t e && is_manager r (manager_of (calls_in s past) e)) ≡ is_right t (said_of (Manager r) e past) → (x : Option Made) → made_here (Manager r) e l.body ≡ x
        → ((makes_lasting_of t e l.body || is_made_lasting_of past t e) && is_manager r (or_else (manager_here e l.body) (manager_of (calls_in s past) e))) ≡ is_right t (or_else (made_here (Manager r) e l.body) (said_of (Manager r) e past))
    by rest None h =
        let k = none_lasting r t e l.body h in
        rw (k.0, k.1, h) rest
    by rest (Some m) h =
        let none = said_once (Manager r) e l past m (and_left (is_named_well past l) _ w) h in
        let old = unsaid_lasting (Manager r) t e past (ap is_some none) in
        ap (λ x. (makes_lasting_of t e l.body || x) && is_manager r (or_else (manager_here e l.body) (manager_of (calls_in s past) e))) old
        ∙ ap (λ x. x && is_manager r (or_else (manager_here e l.body) (manager_of (calls_in s past) e))) (or_nothing (makes_lasting_of t e l.body))
        ∙ first_manager r (makes_lasting_of t e l.body) (manager_here e l.body) (manager_of (calls_in s past) e) (managed_here t e l.body)
        ∙ lasting_here r t e l.body ∙ ap (is_right t) h ∙ sym (ap (λ x. is_right t (or_else x (said_of (Manager r) e past))) h)

-- what the script says of an enlistment of a transaction
right_one : (s : List Line) (o : Given) (t e : ℕ) → are_named_well s ≡ true → is_right t (said_of (whose o) e (past_of s)) ≡ is_putter s (whose o) t e
right_one s (GivenManager r) t e w = sym (right_lasting s r t e (past_of s) w) ∙ ap (λ b. b && is_manager r (manager_of (calls_in s (past_of s)) e)) (has-past (λ l. makes_lasting_of t e l.body) s)
right_one s GivenVolatiles t e w = sym (right_volatiles t e (past_of s) w) ∙ has-past (λ l. makes_volatile_of t e l.body) s

-- the tables of a script say what it says
pub tables_right : (s : List Line) (o : Given) (n : Names) → IsScript s → AreTabled s (whose o) n.transactions.items n.enlistments.items → AreNames s (whose o) n
tables_right s o n h a = record {
  transactions_long = a.transactions_long;
  enlistments_long = a.enlistments_long;
  named = named;
}
  where
    made : (p : Put) → (named_at n p).made ≡ (named_in s (whose o) p).made
    made p = ap₂ (λ x y. x && y) (a.transaction p.transaction ∙ has-past (λ l. has (λ m. same_name (OfTransaction p.transaction.value) m) (makes l.body)) s)
        (ap is_some (a.enlistment p.enlistment) ∙ says_made (whose o) p.enlistment.value (past_of s) ∙ has-past (λ l. has (λ m. same_name (OfEnlistment p.enlistment.value) m) (makes l.body)) s)

    right : (p : Put) → (named_at n p).right ≡ (named_in s (whose o) p).right
    right p = ap (is_right p.transaction.value) (a.enlistment p.enlistment) ∙ right_one s o p.transaction.value p.enlistment.value h.named

    named : (p : Put) → named_at n p ≡ named_in s (whose o) p
    named p = λ i. record { made = made p i; right = right p i }
