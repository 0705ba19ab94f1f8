-- Of an enlistment that the script makes a volatile: which line and which transaction make it.
use Rattle.std.proofs.Common.{ℕ, zero, suc, ◌≡◌, ◌==◌, ◌||◌, ◌&&◌, Bool, true, false, List, [], ◌∷◌, Option, Some, None, refl, sym, subst, ap, ◌∙◌, inl, inr}
use Rattle.std.specs.List.{slice_get}
use Rattle.std.proofs.lemmas.Bool.{false_from_ne_true, or_left}
use Rattle.dtx_values.specs.declared.call.Call.{Call}
use Rattle.dtx_values.specs.declared.call.Call.TheVariants.{Volatile}
use Rattle.dtx_values.specs.declared.entry.Entry.{Entry}
use Rattle.dtx_values.specs.declared.entry.Entry.TheVariants.{Sent}
use Rattle.dtx_values.specs.declared.message.Conn.{Conn}
use Rattle.dtx_values.specs.declared.message.Conn.TheVariants.{Enl}
use Rattle.dtx_values.specs.declared.message.Dir.TheVariants.{Up}
use Rattle.dtx_values.specs.declared.message.Message.{Message}
use Rattle.dtx_values.specs.declared.message.Message.TheVariants.{EnlistEnlist}
use Rattle.dtx_values.specs.declared.number.ActorNo.{ActorNo}
use Rattle.dtx_values.specs.declared.number.EnlNo.{EnlNo}
use Rattle.dtx_values.specs.declared.number.TxNo.{TxNo}
use Rattle.dtx_values.specs.declared.script.Body.{Body}
use Rattle.dtx_values.specs.declared.script.Body.TheVariants.{Volatile as VolatileLine, Complete as CompleteLine, Gone as GoneLine, Reenlist as ReenlistLine}
use Rattle.dtx_values.specs.declared.script.Line.{Line}
use Rattle.dtx_model.specs.declared.waiting.EnteredCall.{EnteredCall}
use Rattle.dtx_model.specs.Words.{has, kth, past_of, put}
use Rattle.dtx_model.specs.Calls.{call_of, complete_call, gone_call, reenlist_call, transaction_of, transaction_with}
use Rattle.dtx_model.specs.Caused.{FreelyCaused, IsCallOf, calls_in, entered_by, is_volatile_in, makes_volatile}
use Rattle.dtx_model.specs.Contexts.{lines_before}
use Rattle.dtx_model.specs.Grammar.{OfEnlistment, are_named_well}
use Rattle.dtx_model.specs.Wires.{opens}
use Rattle.dtx_model.proofs.Bools.{and_left, and_never, not_both, or_case, or_right}
use Rattle.dtx_model.proofs.Reading.{has-past}
use Rattle.history_table.proofs.Crossed.{is_sent_on}
use Rattle.history_table.proofs.EntryTests.{is_enlisted}
use Rattle.history_table.proofs.Makers.{makes_enlistment, makes_lasting, lasting_makes, maker_called, ran_made}
use Rattle.history_table.proofs.Lists.{has-at}
use Rattle.history_table.proofs.Messages.{ENLIST}
use Rattle.history_table.proofs.Names.{is_maker, line_makes, made_once, scope_makes_none}
use Rattle.history_table.proofs.Scans.{has_more}
use Rattle.history_table.proofs.ScopeCalls.{given_call}

-- the line makes this volatile
abbrev pub makes_it : ℕ → Body → Bool
makes_it e (VolatileLine t f x v) = e == f.value
makes_it e _ = false

-- and of this transaction
abbrev pub transaction_in : Body → ℕ
transaction_in (VolatileLine t f x v) = t.value
transaction_in _ = 0

-- a line of the script makes this volatile, of this transaction
pub record IsMadeBy (s : List Line) (e t : ℕ) : Type 0 where
  pub number : ℕ
  pub line : Line
  pub stands : kth s number ≡ Some line
  pub makes : makes_it e line.body ≡ true
  pub at : transaction_in line.body ≡ t

-- the call passes, where there is one
abbrev pub passes : (Call → Bool) → Option (TxNo × Call) → Bool
passes p (Some c) = p c.1
passes p None = false

-- a call that passes, of those of these lines, is a line's own
pub called_line : (s : List Line) (p : Call → Bool) (ls : List Line) → has (λ k. p k.call) (calls_in s ls) ≡ true → has (λ l. passes p (call_of s l.body)) ls ≡ true
called_line s p [] h = h
called_line s p (l ∷ ls) h = by (call_of s l.body) h (called_line s p ls)
  where
    rest : Bool
    rest = has (λ k. p k.call) (calls_in s ls)

    by : (o : Option (TxNo × Call)) → has (λ k. p k.call) (put (entered_by 0 l.actor o) (calls_in s ls)) ≡ true → (rest ≡ true → has (λ l. passes p (call_of s l.body)) ls ≡ true)
        → (passes p o || has (λ l. passes p (call_of s l.body)) ls) ≡ true
    by None h f = f h
    by (Some c) h f = or_case (p c.1) rest (λ a. or_left (p c.1) (has (λ l. passes p (call_of s l.body)) ls) a) (λ a. or_right (p c.1) (has (λ l. passes p (call_of s l.body)) ls) (f a)) h

-- a volatile's call is a volatile line's own
volatile_body : (s : List Line) (e : ℕ) (b : Body) → passes (makes_volatile e) (call_of s b) ≡ true → makes_it e b ≡ true
volatile_body s e (VolatileLine t f x v) h = h
volatile_body s e (CompleteLine c) h = absurd (by (transaction_of s c.value) h)
  where
    by : (o : Option TxNo) → passes (makes_volatile e) (complete_call c o) ≡ true → ⊥
    by (Some t) h = cc
    by None h = cc
volatile_body s e (GoneLine f) h = absurd (by (transaction_with s f.value) h)
  where
    by : (o : Option TxNo) → passes (makes_volatile e) (gone_call f o) ≡ true → ⊥
    by (Some t) h = cc
    by None h = cc
volatile_body s e (ReenlistLine f) h = absurd (by (transaction_with s f.value) h)
  where
    by : (o : Option TxNo) → passes (makes_volatile e) (reenlist_call f o) ≡ true → ⊥
    by (Some t) h = cc
    by None h = cc
volatile_body s e _ h = absurd cc

-- what stands somewhere stands at a place
pub at_place : {A : Type 0} (p : A → Bool) (s : List A) → has p s ≡ true → (n : ℕ) × (l : A) × (slice_get s n ≡ Some l) × (p l ≡ true)
at_place p [] h = absurd cc
at_place p (l ∷ s) h = or_case (p l) (has p s) (λ m. (0, l, refl, m)) (λ r. let q = at_place p s r in (suc q.0, q.1, q.2, q.3)) h

-- what the script makes a volatile, a line makes
pub made_by_line : (s : List Line) (e : ℕ) → is_volatile_in s e ≡ true → (t : ℕ) × IsMadeBy s e t
made_by_line s e h =
    let somewhere = sym (has-past (λ (l : Line). passes (makes_volatile e) (call_of s l.body)) s) ∙ called_line s (makes_volatile e) (past_of s) h in
    let q = at_place (λ l. passes (makes_volatile e) (call_of s l.body)) s somewhere in
    (transaction_in q.1.body, record { number = suc q.0; line = q.1; stands = q.2; makes = volatile_body s e q.1.body q.3; at = refl })

-- and what a line makes so is a volatile of the script
volatile_call : (s : List Line) (e : ℕ) (ls : List Line) → has (λ l. makes_it e l.body) ls ≡ true → has (λ k. makes_volatile e k.call) (calls_in s ls) ≡ true
volatile_call s e [] h = h
volatile_call s e (l ∷ ls) h = or_case (makes_it e l.body) (has (λ l. makes_it e l.body) ls) (λ m. own l.body (calls_in s ls) m) (λ r. more (call_of s l.body) (calls_in s ls) (volatile_call s e ls r)) h
  where
    own : (b : Body) (ks : List EnteredCall) → makes_it e b ≡ true → has (λ k. makes_volatile e k.call) (put (entered_by 0 l.actor (call_of s b)) ks) ≡ true
    own (VolatileLine t f x v) ks m = or_left (e == f.value) (has (λ k. makes_volatile e k.call) ks) m
    own _ ks m = absurd cc

    more : (o : Option (TxNo × Call)) (ks : List EnteredCall) → has (λ k. makes_volatile e k.call) ks ≡ true → has (λ k. makes_volatile e k.call) (put (entered_by 0 l.actor o) ks) ≡ true
    more (Some c) ks r = or_right (makes_volatile e c.1) (has (λ k. makes_volatile e k.call) ks) r
    more None ks r = r

pub volatile_by_line : (s : List Line) (e t : ℕ) → IsMadeBy s e t → is_volatile_in s e ≡ true
volatile_by_line s e t m =
    volatile_call s e (past_of s) (has-past (λ (l : Line). makes_it e l.body) s ∙ stands_has m.number s m.line m.stands m.makes)
  where
    stands_has : (n : ℕ) (s : List Line) (l : Line) → kth s n ≡ Some l → makes_it e l.body ≡ true → has (λ l. makes_it e l.body) s ≡ true
    stands_has zero s l q m = absurd cc
    stands_has (suc n) s l q m = has-at (λ l. makes_it e l.body) s n l q m

-- that line makes the name
pub line_names : (e : ℕ) (l : Line) → makes_it e l.body ≡ true → is_maker (OfEnlistment e) l ≡ true
line_names e l m = by l.body m
  where
    by : (b : Body) → makes_it e b ≡ true → is_maker (OfEnlistment e) (record { actor = l.actor; body = b }) ≡ true
    by (VolatileLine t f x v) h = rw h refl
    by _ h = absurd cc

-- a volatile's line gives a volatile's call, of its transaction
own_call : (s : List Line) (e : ℕ) (b : Body) (t : TxNo) (c : Call) → makes_it e b ≡ true → call_of s b ≡ Some (t, c) → (makes_volatile e c ≡ true) × (transaction_in b ≡ t.value)
own_call s e (VolatileLine u f x v) t c m g = (subst (λ (o : Option (TxNo × Call)). given_volatile o ≡ true) g m, ap given_name g)
  where
    given_volatile : Option (TxNo × Call) → Bool
    given_volatile (Some k) = makes_volatile e k.1
    given_volatile None = false

    given_name : Option (TxNo × Call) → ℕ
    given_name (Some k) = k.0.value
    given_name None = 0
own_call s e _ t c m g = absurd cc

-- who makes the enlistment in a transaction that the script calls makes it a volatile, and it is the line's transaction
pub same_maker : (s : List Line) (e t u n : ℕ) (a : ActorNo) (c : Call) → are_named_well s ≡ true → IsMadeBy s e u → IsCallOf s t n a c → makes_enlistment e c ≡ true
    → (makes_volatile e c ≡ true) × (u ≡ t)
same_maker s e t u n a c named m g k =
    elim (given_call s (lines_before s n) g.line g.place (g.name, c) g.gives) [
      | inl own ↦
          let here : n ≡ m.number = made_once (OfEnlistment e) s n m.number g.line m.line named g.stands m.stands (line_makes s (OfEnlistment e) g.line.body g.name c own (maker_called e c k)) (line_names e m.line m.makes) in
          let same : g.line ≡ m.line = one (sym g.stands ∙ ap (λ i. kth s i) here ∙ m.stands) in
          let makes : makes_it e g.line.body ≡ true = subst (λ (l : Line). makes_it e l.body ≡ true) (sym same) m.makes in
          let r = own_call s e g.line.body g.name c makes own in
          (r.0, sym m.at ∙ ap (λ (l : Line). transaction_in l.body) (sym same) ∙ r.1 ∙ g.at_t)
      | inr scope ↦ absurd (scope_makes_none (OfEnlistment e) c scope (maker_called e c k))
    ]
  where
    one : {l r : Line} → Some l ≡ Some r → l ≡ r
    one e = cc

-- a volatile is of one transaction
pub one_transaction : (s : List Line) (e t u : ℕ) → are_named_well s ≡ true → IsMadeBy s e t → IsMadeBy s e u → t ≡ u
one_transaction s e t u named m k =
    let here : m.number ≡ k.number = made_once (OfEnlistment e) s m.number k.number m.line k.line named m.stands k.stands (line_names e m.line m.makes) (line_names e k.line k.makes) in
    sym m.at ∙ ap (λ (l : Line). transaction_in l.body) (one (sym m.stands ∙ ap (λ i. kth s i) here ∙ k.stands)) ∙ k.at
  where
    one : {l r : Line} → Some l ≡ Some r → l ≡ r
    one e = cc

-- a volatile's call is no lasting one's
apart : (e : ℕ) (c : Call) → makes_volatile e c ≡ true → makes_lasting e c ≡ true → ⊥
apart e (Volatile t f x v) m k = cc
apart e _ m k = cc

-- whoever stands in a history was made there, and so by the line that makes it
pub stands_at : (s : List Line) (e t u : ℕ) (h : List Entry) → are_named_well s ≡ true → IsMadeBy s e u → FreelyCaused (IsCallOf s t) t h → has (is_enlisted e) h ≡ true → u ≡ t
stands_at s e t u h named m r k =
    let made = (ran_made (IsCallOf s t) t r.1.0 (record { calls = r.0; past = h }) r.1.1).enlisted e k in
    (same_maker s e t u made.0.number made.0.actor made.0.call named m made.0.may made.0.passes).1

-- the message that opens an enlistment's connection is its ENLIST
opening_enlists : (e : EnlNo) (x : Entry) → opens (Enl e) x ≡ true → is_sent_on (Enl e) Up ENLIST x ≡ true
opening_enlists e (Sent c Up m) k = by c m k
  where
    by : (c : Conn) (m : Message) → opens (Enl e) (Sent c Up m) ≡ true → is_sent_on (Enl e) Up ENLIST (Sent c Up m) ≡ true
    by (Enl f) (EnlistEnlist i) k = rw (and_left (e.value == f.value) true k) refl
    by (Enl f) _ k = absurd (not_both (e.value == f.value && false) k (and_never (e.value == f.value)))
    by _ m k = absurd cc
opening_enlists e _ k = absurd cc

-- no connection of a volatile's own is opened
pub unopened : (s : List Line) (t u : ℕ) (e : EnlNo) (h : List Entry) → are_named_well s ≡ true → IsMadeBy s e.value u → FreelyCaused (IsCallOf s t) t h → has (opens (Enl e)) h ≡ false
unopened s t u e h named m r = false_from_ne_true (has (opens (Enl e)) h) (λ k.
    let made = (ran_made (IsCallOf s t) t r.1.0 (record { calls = r.0; past = h }) r.1.1).sent e (has_more (opens (Enl e)) (is_sent_on (Enl e) Up ENLIST) (opening_enlists e) h k) in
    let c = same_maker s e.value t u made.number made.actor made.call named m made.may (lasting_makes e.value made.call made.passes) in
    apart e.value made.call c.0 made.passes)
