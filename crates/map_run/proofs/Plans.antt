-- Of an enlistment that the script makes a volatile: no line makes it lasting, so its plan has no answer of an owner and none to promote.
use Rattle.std.proofs.Common.{ℕ, suc, ◌≡◌, ◌==◌, ◌||◌, ◌&&◌, Bool, true, false, List, [], ◌∷◌, Option, Some, None, is_some, refl, sym, subst, ap, ◌∙◌}
use Rattle.std.proofs.lemmas.Bool.{eqb-true, false_from_ne_true}
use Rattle.dtx_values.specs.declared.call.Call.{Call}
use Rattle.dtx_values.specs.declared.call.Call.TheVariants.{Durable, Promotable, Volatile}
use Rattle.dtx_values.specs.declared.entry.Entry.{Entry}
use Rattle.dtx_values.specs.declared.entry.Entry.TheVariants.{OwnerAnswered, PromoteReply, Requested}
use Rattle.dtx_values.specs.declared.entry.Request.{Request}
use Rattle.dtx_values.specs.declared.entry.Request.TheVariants.{Abort as RequestAbort, Commit as RequestCommit}
use Rattle.dtx_values.specs.declared.note.Plan.{Plan}
use Rattle.dtx_values.specs.declared.number.TxNo.{TxNo}
use Rattle.dtx_values.specs.declared.script.Body.{Body}
use Rattle.dtx_values.specs.declared.script.Body.TheVariants.{Volatile as VolatileLine}
use Rattle.dtx_values.specs.declared.script.Line.{Line}
use Rattle.dtx_model.specs.declared.waiting.EnteredCall.{EnteredCall}
use Rattle.dtx_model.specs.Calls.{call_of}
use Rattle.dtx_model.specs.Caused.{calls_in, is_as_planned, is_outcome_planned, is_promotion_planned, is_request_planned, plans_of}
use Rattle.dtx_model.specs.Grammar.{OfEnlistment, are_named_well}
use Rattle.dtx_model.specs.Plans.{or_silent, plan_by, plan_if, plan_of}
use Rattle.dtx_model.specs.Words.{has, kth, latest, or_else, past_of}
use Rattle.dtx_model.proofs.Bools.{and_right, not_both, or_case, or_first, or_second}
use Rattle.dtx_model.proofs.Reading.{has-past}
use Rattle.history_table.proofs.Makers.{lasting_makes, maker_called, makes_lasting}
use Rattle.history_table.proofs.Names.{is_maker, line_makes, made_once}
use Rattle.map_run.proofs.Makers.{IsMadeBy, at_place, called_line, line_names, makes_it, passes}

-- a volatile's line gives no call of a lasting one
unlasting : (s : List Line) (e : ℕ) (b : Body) → makes_it e b ≡ true → passes (makes_lasting e) (call_of s b) ≡ true → ⊥
unlasting s e (VolatileLine t f x v) m k = cc
unlasting s e _ m k = cc

-- a line whose call makes a lasting one makes the name
lasting_names : (s : List Line) (e : ℕ) (l : Line) → passes (makes_lasting e) (call_of s l.body) ≡ true → is_maker (OfEnlistment e) l ≡ true
lasting_names s e l h = by (call_of s l.body) refl h
  where
    by : (o : Option (TxNo × Call)) → call_of s l.body ≡ o → passes (makes_lasting e) o ≡ true → is_maker (OfEnlistment e) l ≡ true
    by (Some c) q h = line_makes s (OfEnlistment e) l.body c.0 c.1 q (maker_called e c.1 (lasting_makes e c.1 h))
    by None q h = absurd cc

-- no call of the script makes a volatile lasting
none_lasting : (s : List Line) (e u : ℕ) → are_named_well s ≡ true → IsMadeBy s e u → has (λ k. makes_lasting e k.call) (calls_in s (past_of s)) ≡ false
none_lasting s e u named m = false_from_ne_true (has (λ k. makes_lasting e k.call) (calls_in s (past_of s))) (λ t.
    let somewhere = sym (has-past (λ (l : Line). passes (makes_lasting e) (call_of s l.body)) s) ∙ called_line s (makes_lasting e) (past_of s) t in
    let q = at_place (λ l. passes (makes_lasting e) (call_of s l.body)) s somewhere in
    let here : suc q.0 ≡ m.number = made_once (OfEnlistment e) s (suc q.0) m.number q.1 m.line named q.2 m.stands (lasting_names s e q.1 q.3) (line_names e m.line m.makes) in
    let same : q.1 ≡ m.line = one (sym q.2 ∙ ap (λ i. kth s i) here ∙ m.stands) in
    unlasting s e m.line.body m.makes (subst (λ (l : Line). passes (makes_lasting e) (call_of s l.body) ≡ true) same q.3))
  where
    one : {l r : Line} → Some l ≡ Some r → l ≡ r
    one e = cc

-- a plan to vote, and no other
pub record OnlyVotes (p : Plan) : Type 0 where
  pub owner : p.owner ≡ None
  pub promote : p.promote ≡ None

plan_votes : (e : ℕ) (ks : List EnteredCall) → has (λ k. makes_lasting e k.call) ks ≡ false → OnlyVotes (plan_of ks e)
plan_votes e [] n = record { owner = refl; promote = refl }
plan_votes e (k ∷ ks) n = by k.call (or_first (makes_lasting e k.call) (has (λ k. makes_lasting e k.call) ks) n) (plan_votes e ks (or_second (makes_lasting e k.call) (has (λ k. makes_lasting e k.call) ks) n))
  where
    rest : Option Plan
    rest = latest (λ k. plan_by e k.call) ks

    own : (b : Bool) (p : Plan) → OnlyVotes p → OnlyVotes (or_silent rest) → OnlyVotes (or_silent (or_else (plan_if b p) rest))
    own true p o r = o
    own false p o r = r

    other : (b : Bool) (p : Plan) → b ≡ false → OnlyVotes (or_silent rest) → OnlyVotes (or_silent (or_else (plan_if b p) rest))
    other true p q r = absurd cc
    other false p q r = r

    by : (c : Call) → makes_lasting e c ≡ false → OnlyVotes (or_silent rest) → OnlyVotes (or_silent (or_else (plan_by e c) rest))
    by (Volatile t f x v) q r = own (e == f.value) _ (record { owner = refl; promote = refl }) r
    by (Durable t f m x) q r = other (e == f.value) _ q r
    by (Promotable t f m v x p) q r = other (e == f.value) _ q r
    by _ q r = r

no_one : {A : Type 0} (b : Bool) (o : Option A) → o ≡ None → (b && is_some o) ≡ true → ⊥
no_one b o q t = not_both (is_some o) (and_right b (is_some o) t) (ap is_some q)

-- a volatile plans to vote, and no other reply
pub volatile_votes : (s : List Line) (e u : ℕ) → are_named_well s ≡ true → IsMadeBy s e u → OnlyVotes (plans_of s e)
volatile_votes s e u named m = plan_votes e (calls_in s (past_of s)) (none_lasting s e u named m)

-- the entry is an owner's answer, a request, or an answer to promote, of this enlistment
abbrev pub is_lasting_reply : ℕ → Entry → Bool
is_lasting_reply n (OwnerAnswered f x) = n == f.value
is_lasting_reply n (Requested f r) = n == f.value
is_lasting_reply n (PromoteReply f ok) = n == f.value
is_lasting_reply n _ = false

-- so none of these is as planned
pub none_planned : (p : ℕ → Plan) (free : ℕ → Bool) (h : List Entry) (x : Entry) (n : ℕ) → OnlyVotes (p n) → is_as_planned p free h x ≡ true → is_lasting_reply n x ≡ false
none_planned p free h (OwnerAnswered f x) n o t = false_from_ne_true (n == f.value) (λ q. by (free f.value) (p f.value) (let P : ℕ → Type 0 = λ m. OnlyVotes (p m) in subst P (eqb-true n f.value q) o) t)
  where
    by : (b : Bool) (q : Plan) → OnlyVotes q → ((b && is_some q.owner) || is_outcome_planned q.owner x) ≡ true → ⊥
    by b q o t = or_case (b && is_some q.owner) (is_outcome_planned q.owner x) (λ k. no_one b q.owner o.owner k) (λ k. not_both (is_outcome_planned q.owner x) k (ap (λ w. is_outcome_planned w x) o.owner)) t
none_planned p free h (Requested f r) n o t = false_from_ne_true (n == f.value) (λ q. by (free f.value) (p f.value) (let P : ℕ → Type 0 = λ m. OnlyVotes (p m) in subst P (eqb-true n f.value q) o) t)
  where
    by : (b : Bool) (q : Plan) → OnlyVotes q → ((b && is_some q.owner) || is_request_planned q.owner r) ≡ true → ⊥
    by b q o t = or_case (b && is_some q.owner) (is_request_planned q.owner r) (λ k. no_one b q.owner o.owner k) (λ k. not_both (is_request_planned q.owner r) k (ap (λ w. is_request_planned w r) o.owner ∙ silent r)) t
      where
        silent : (r : Request) → is_request_planned None r ≡ false
        silent RequestCommit = refl
        silent RequestAbort = refl
none_planned p free h (PromoteReply f ok) n o t = false_from_ne_true (n == f.value) (λ q. by (free f.value) (p f.value) (let P : ℕ → Type 0 = λ m. OnlyVotes (p m) in subst P (eqb-true n f.value q) o) t)
  where
    by : (b : Bool) (q : Plan) → OnlyVotes q → ((b && is_some q.promote) || is_promotion_planned q.promote ok) ≡ true → ⊥
    by b q o t = or_case (b && is_some q.promote) (is_promotion_planned q.promote ok) (λ k. no_one b q.promote o.promote k) (λ k. not_both (is_promotion_planned q.promote ok) k (ap (λ w. is_promotion_planned w ok) o.promote)) t
none_planned p free h _ n o t = refl
