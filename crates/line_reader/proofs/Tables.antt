-- Tables of the names that lines make.
use Rattle.std.proofs.Common.{◌≡◌, ℕ, ◌+◌, ◌<◌, ◌==◌, ◌||◌, ◌&&◌, Bool, true, false, List, [], ◌∷◌, length, refl}
use Rattle.std.proofs.Common.{ap, sym, ◌∙◌, arith, replicate, slice_index_or, slice_set, subst, Option, Some, None, is_some, if◌then◌else◌, ◌⊎◌, inl, inr}
use Rattle.std.specs.Prelude.{not}
use Rattle.std.proofs.lemmas.Bool.Decides.{nat_tests}
use Rattle.std.proofs.lemmas.List.{get_or-replicate, get_or-set_same, get_or-set_other, length-set, length-replicate}
use Rattle.dtx_values.specs.declared.number.TheConstants.TxNo.{MAX as TRANSACTIONS}
use Rattle.dtx_values.specs.declared.number.TheConstants.EnlNo.{MAX as ENLISTMENTS}
use Rattle.dtx_values.specs.declared.number.TheConstants.CloneNo.{MAX as CLONES}
use Rattle.dtx_values.specs.declared.number.TheConstants.ScopeNo.{MAX as SCOPES}
use Rattle.dtx_values.specs.declared.number.TxNo.{TxNo}
use Rattle.dtx_values.specs.declared.number.EnlNo.{EnlNo}
use Rattle.dtx_values.specs.declared.number.RmNo.{RmNo}
use Rattle.dtx_values.specs.declared.script.Body.{Body}
use Rattle.dtx_values.specs.declared.script.Body.TheVariants.{Durable, Promotable}
use Rattle.dtx_values.specs.declared.script.Line.{Line}
use Rattle.dtx_values.specs.declared.script.Support.{Support}
use Rattle.dtx_values.specs.declared.words.Outcome.{Outcome}
use Rattle.dtx_values.specs.declared.words.Vote.{Vote}
use Rattle.dtx_model.specs.Words.{has, each, past_of}
use Rattle.dtx_model.specs.Grammar.{makes, makes_lasting, makes_lasting_of, is_made, is_made_lasting, is_made_lasting_of, is_par, same_name, OfEnlistment}
use Rattle.dtx_model.specs.Faults.{name_fault}
use Rattle.dtx_model.proofs.Bools.{or_first, or_second, or_false, not_true, and_left}
use Rattle.line_reader.specs.Reader.{AreMade, is_owner}

-- a table of n places, none of which is set
pub record IsUnset (n : ℕ) (xs : List Bool) : Type 0 where
  pub long : length xs ≡ n
  pub unset : (k : ℕ) → k < n → slice_index_or xs k false ≡ false

-- a new table is so
pub new_table : (n : ℕ) (xs : List Bool) → length xs ≡ n → xs ≡ replicate n false → IsUnset n xs
new_table n xs h e = record { long = h; unset = λ k b. ap (λ ys. slice_index_or ys k false) e ∙ get_or-replicate n k false false b }

-- new tables say that no name is made
pub new_tables : (s : List Line) (transactions enlistments clones scopes : List Bool) (owners : List (Option TxNo)) → s ≡ [] → IsUnset TRANSACTIONS transactions → IsUnset ENLISTMENTS enlistments
    → IsUnset CLONES clones → IsUnset SCOPES scopes → owners ≡ replicate ENLISTMENTS None → AreMade (past_of s) transactions enlistments clones scopes owners false
new_tables s ts es cs ss os empty t e c p z = subst (λ (r : List Line). AreMade (past_of r) ts es cs ss os false) (sym empty) (record {
  transactions_long = t.long;
  enlistments_long = e.long;
  clones_long = c.long;
  scopes_long = p.long;
  owners_long = ap length z ∙ length-replicate {A = Option TxNo} ENLISTMENTS None;
  transaction = t.unset;
  enlistment = e.unset;
  clone = c.unset;
  scope = p.unset;
  lasting = λ k b. ap is_some (none_owned os z k b);
  owner = λ t k b. ap (is_owner t) (none_owned os z k b);
  par_stands = refl;
})
  where
    none_owned : (os : List (Option TxNo)) → os ≡ replicate ENLISTMENTS None → (k : ℕ) → k < ENLISTMENTS → slice_index_or os k None ≡ None
    none_owned os z k b = ap (λ ys. slice_index_or ys k None) z ∙ get_or-replicate ENLISTMENTS k None None b

-- a command that makes the enlistment as a lasting one makes its name
unmade_here : (e : ℕ) (b : Body) → has (λ m. same_name (OfEnlistment e) m) (makes b) ≡ false → makes_lasting e b ≡ false
unmade_here e (Durable t f r s) h = or_first (e == f.value) false h
unmade_here e (Promotable t f r v o p) h = or_first (e == f.value) false h
unmade_here e _ h = refl

-- nor one of any transaction
unmade_here_of : (t e : ℕ) (b : Body) → makes_lasting e b ≡ false → makes_lasting_of t e b ≡ false
unmade_here_of t e (Durable u f r s) h = rw h (grind (arith, nat_tests))
unmade_here_of t e (Promotable u f r v o p) h = rw h (grind (arith, nat_tests))
unmade_here_of t e _ h = refl

-- an enlistment that wasn't made isn't a durable or promotable one of any transaction
unmade_of : (t e : ℕ) (past : List Line) → is_made past (OfEnlistment e) ≡ false → is_made_lasting_of past t e ≡ false
unmade_of t e [] h = refl
unmade_of t e (l ∷ past) h =
    let here = unmade_here e l.body (or_first (has (λ m. same_name (OfEnlistment e) m) (makes l.body)) (is_made past (OfEnlistment e)) h) in
    or_false (makes_lasting_of t e l.body) _ (unmade_here_of t e l.body here) (unmade_of t e past (or_second (has (λ m. same_name (OfEnlistment e) m) (makes l.body)) _ h))

-- a command makes this enlistment as a durable or promotable one of this transaction
record IsLasting (b : Body) (t e : ℕ) : Type 0 where
  pub makes_name : makes b ≡ OfEnlistment e ∷ []
  pub lasting : (n : ℕ) → makes_lasting n b ≡ (n == e)
  pub owner : (u n : ℕ) → makes_lasting_of u n b ≡ ((u == t) && (n == e))
  pub no_par : is_par b ≡ false

-- it is a durable or a promotable one
abbrev pub MakesLasting : Body → TxNo → EnlNo → Type 0
MakesLasting b t e = ((r : RmNo) × (s : Support) × (b ≡ Durable t e r s)) ⊎ ((r : RmNo) × (v : Option Vote) × (o : Option Outcome) × (p : Option Bool) × (b ≡ Promotable t e r v o p))

-- such a command makes it so
lasting_line : (b : Body) (t : TxNo) (e : EnlNo) → MakesLasting b t e → IsLasting b t.value e.value
lasting_line b t e (inl w) = subst (λ (x : Body). IsLasting x t.value e.value) (sym w.2) (record { makes_name = refl; lasting = λ n. refl; owner = λ u n. refl; no_par = refl })
lasting_line b t e (inr w) = subst (λ (x : Body). IsLasting x t.value e.value) (sym w.4) (record { makes_name = refl; lasting = λ n. refl; owner = λ u n. refl; no_par = refl })

-- two numbers are one where their places are
next_same : (n e : ℕ) (b : Bool) → (n == e) ≡ b → (n + 1 == e + 1) ≡ b
next_same n e b h = grind (arith, nat_tests)

-- a place of a table after a write
written : {A : Type 0} (xs : List A) (e n : ℕ) (x d : A) (b : Bool) → e < length xs → (n == e) ≡ b → slice_index_or (slice_set xs e x) n d ≡ (if b then x else slice_index_or xs n d)
written xs e n x d true k q = let same : n ≡ e = grind (arith, nat_tests) in rw same (get_or-set_same xs e x d k)
written xs e n x d false k q = get_or-set_other xs e n x d (λ same. grind (arith, nat_tests))

-- a line whose names have no fault makes new names
no_twice : (past : List Line) (l : Line) (b : Bool) → each (λ n. not (is_made past n)) (makes l.body) ≡ b → name_fault past l ≡ None → b ≡ true
no_twice past l true e h = refl
no_twice past l false e h = absurd (cc (rw e at h))

-- whose the enlistment at a place is, after a line that makes one
owner_there : (past : List Line) (b : Body) (os : List (Option TxNo)) (t : TxNo) (e u n : ℕ) (same : Bool) → IsLasting b t.value (e + 1) → is_made_lasting_of past u (e + 1) ≡ false → e < length os
    → (n == e) ≡ same → is_owner u (slice_index_or os n None) ≡ is_made_lasting_of past u (n + 1)
    → is_owner u (slice_index_or (slice_set os e (Some t)) n None) ≡ (makes_lasting_of u (n + 1) b || is_made_lasting_of past u (n + 1))
owner_there past b os t e u n true h none k q old =
    let equal : n ≡ e = grind (arith, nat_tests) in
    let gone : is_made_lasting_of past u (n + 1) ≡ false = ap (λ m. is_made_lasting_of past u (m + 1)) equal ∙ none in
    rw (written os e n (Some t) None true k q, h.owner u (n + 1), next_same n e true q, gone) (and_true (u == t.value))
  where
    and_true : (x : Bool) → x ≡ ((x && true) || false)
    and_true true = refl
    and_true false = refl
owner_there past b os t e u n false h none k q old = rw (written os e n (Some t) None false k q, h.owner u (n + 1), next_same n e false q) (old ∙ and_false (u == t.value) _)
  where
    and_false : (x y : Bool) → y ≡ ((x && false) || y)
    and_false true y = refl
    and_false false y = refl

-- whether it is a durable or promotable one, after that line
lasting_there : (past : List Line) (b : Body) (os : List (Option TxNo)) (t : TxNo) (e n : ℕ) (same : Bool) → IsLasting b t.value (e + 1) → e < length os → (n == e) ≡ same
    → is_some (slice_index_or os n None) ≡ is_made_lasting past (n + 1) → is_some (slice_index_or (slice_set os e (Some t)) n None) ≡ (makes_lasting (n + 1) b || is_made_lasting past (n + 1))
lasting_there past b os t e n true h m q old = rw (written os e n (Some t) None true m q, h.lasting (n + 1), next_same n e true q) refl
lasting_there past b os t e n false h m q old = rw (written os e n (Some t) None false m q, h.lasting (n + 1), next_same n e false q) old

-- whether its name is made, after that line
enlistment_there : (past : List Line) (b : Body) (es : List Bool) (t e n : ℕ) → IsLasting b t (e + 1) → e < length es → slice_index_or es n false ≡ is_made past (OfEnlistment (n + 1))
    → slice_index_or (slice_set es e true) n false ≡ (has (λ m. same_name (OfEnlistment (n + 1)) m) (makes b) || is_made past (OfEnlistment (n + 1)))
enlistment_there past b es t e n h m old = rw (written es e n true false (n == e) m refl, h.makes_name, next_same n e (n == e) refl, old) (or_fold (n == e) _)
  where
    or_fold : (x y : Bool) → (if x then true else y) ≡ ((x || false) || y)
    or_fold true y = refl
    or_fold false y = refl

-- the tables after a line that makes a durable or promotable enlistment, whose place is i
pub lasting_more : (past : List Line) (l : Line) (t : TxNo) (e : EnlNo) (i : ℕ) (ts es cs ss : List Bool) (os : List (Option TxNo)) (par : Bool) → MakesLasting l.body t e → i + 1 ≡ e.value
    → name_fault past l ≡ None → AreMade past ts es cs ss os par → AreMade (l ∷ past) ts (slice_set es i true) cs ss (slice_set os i (Some t)) par
lasting_more past l t e i ts es cs ss os par m place h a =
    let line = subst (IsLasting l.body t.value) (sym place) (lasting_line l.body t e m) in
    let new = no_twice past l _ refl h in
    let one = sym (ap (λ ns. each (λ n. not (is_made past n)) ns) line.makes_name) ∙ new in
    let unmade : is_made past (OfEnlistment (i + 1)) ≡ false = not_true _ (and_left (not (is_made past (OfEnlistment (i + 1)))) true one) in
    record {
      transactions_long = a.transactions_long;
      enlistments_long = length-set es i true ∙ a.enlistments_long;
      clones_long = a.clones_long;
      scopes_long = a.scopes_long;
      owners_long = length-set os i (Some t) ∙ a.owners_long;
      transaction = λ n k. rw line.makes_name (a.transaction n k);
      enlistment = λ n k. enlistment_there past l.body es t.value i n line (omega (arith, a.enlistments_long)) (a.enlistment n k);
      clone = λ n k. rw line.makes_name (a.clone n k);
      scope = λ n k. rw line.makes_name (a.scope n k);
      lasting = λ n k. lasting_there past l.body os t i n (n == i) line (omega (arith, a.owners_long)) refl (a.lasting n k);
      owner = λ u n k. owner_there past l.body os t i u n (n == i) line (unmade_of u (i + 1) past unmade) (omega (arith, a.owners_long)) refl (a.owner u n k);
      par_stands = rw line.no_par a.par_stands;
    }
