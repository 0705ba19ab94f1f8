-- Names are made once: what the call of a line makes is new in each history where that line wasn't called yet.
use Rattle.std.proofs.Common.{Bool, false, ◌≡◌, true, arith, ap, List, [], ◌∷◌, ◌∙◌, ℕ, zero, suc, Some, sym, subst, refl, Option, None, inl, inr}
use Rattle.std.specs.Prelude.{not}
use Rattle.std.specs.List.{slice_get}
use Rattle.std.proofs.lemmas.Bool.Decides.{nat_tests}
use Rattle.dtx_values.specs.declared.number.CloneNo.{CloneNo}
use Rattle.dtx_values.specs.declared.number.EnlNo.{EnlNo}
use Rattle.dtx_values.specs.declared.number.TxNo.{TxNo}
use Rattle.dtx_values.specs.declared.call.Call.{Call}
use Rattle.dtx_values.specs.declared.call.Call.TheVariants.{Volatile, Durable, Promotable, Clone}
use Rattle.dtx_values.specs.declared.script.Body.{Body}
use Rattle.dtx_values.specs.declared.script.Body.TheVariants.{Volatile as VolatileLine, Durable as DurableLine, Promotable as PromotableLine, Clone as CloneLine, Complete as CompleteLine, Gone as GoneLine, Reenlist as ReenlistLine}
use Rattle.dtx_values.specs.declared.script.Line.{Line}
use Rattle.dtx_model.specs.Words.{has, each, always, onto, kth}
use Rattle.dtx_model.specs.Contexts.{calls_by, lines_before}
use Rattle.dtx_model.specs.Calls.{call_of, complete_call, transaction_of, gone_call, reenlist_call, transaction_with}
use Rattle.dtx_model.specs.Caused.{made_by, IsCallOf, AreMadeOnce}
use Rattle.dtx_model.specs.Grammar.{Name, same_name, makes, OfEnlistment, OfClone, OfTransaction, OfScope, is_made, is_named_well, are_named_well}
use Rattle.dtx_model.proofs.Bools.{and_left, and_right, or_case, not_true, or_right, not_both}
use Rattle.dtx_model.proofs.Pasts.{always-before}
use Rattle.history_table.proofs.ScopeCalls.{is_scope_call, given_call}
use Rattle.history_table.proofs.Tests.{eq_self}

-- the line makes this name
abbrev pub is_maker : Name → Line → Bool
is_maker x l = has (λ m. same_name x m) (makes l.body)

-- the call makes this name
abbrev pub call_makes : Name → Call → Bool
call_makes x (Volatile t e o v) = same_name x (OfEnlistment e.value)
call_makes x (Durable t e r s) = same_name x (OfEnlistment e.value)
call_makes x (Promotable t e r v o p) = same_name x (OfEnlistment e.value)
call_makes x (Clone t c k) = same_name x (OfClone c.value)
call_makes x _ = false

-- names that the test finds the same are the same
pub same_is : (x y : Name) → same_name x y ≡ true → x ≡ y
same_is (OfTransaction n) (OfTransaction m) h = let same : n ≡ m = grind (arith, nat_tests) in ap (λ k. OfTransaction k) same
same_is (OfEnlistment n) (OfEnlistment m) h = let same : n ≡ m = grind (arith, nat_tests) in ap (λ k. OfEnlistment k) same
same_is (OfClone n) (OfClone m) h = let same : n ≡ m = grind (arith, nat_tests) in ap (λ k. OfClone k) same
same_is (OfScope n) (OfScope m) h = let same : n ≡ m = grind (arith, nat_tests) in ap (λ k. OfScope k) same
same_is _ _ h = absurd cc

-- none of these names was made before, so none of them is one that was
made_twice : (before : List Line) (x : Name) (ns : List Name) → each (λ n. not (is_made before n)) ns ≡ true → has (λ m. same_name x m) ns ≡ true → is_made before x ≡ false
made_twice before x [] h k = absurd cc
made_twice before x (n ∷ ns) h k =
    or_case (same_name x n) (has (λ m. same_name x m) ns)
    (λ e. ap (λ y. is_made before y) (same_is x n e) ∙ not_true (is_made before n) (and_left (not (is_made before n)) (each (λ n. not (is_made before n)) ns) h))
    (λ e. made_twice before x ns (and_right (not (is_made before n)) (each (λ n. not (is_made before n)) ns) h) e) k

-- no line after those that made a name makes it again
not_again : (x : Name) (rest s : List Line) (j : ℕ) (l : Line) → always is_named_well (onto rest s) ≡ true → slice_get s j ≡ Some l
    → is_made rest x ≡ true → is_maker x l ≡ true → ⊥
not_again x rest [] j l h e k m = cc
not_again x rest (y ∷ s) zero l h e k m =
    let same : y ≡ l = cc in
    let well : is_named_well rest y ≡ true = and_left (is_named_well rest y) (always is_named_well rest) (always-before is_named_well (y ∷ rest) s h) in
    let maker : is_maker x y ≡ true = subst (λ z. is_maker x z ≡ true) (sym same) m in
    not_both (is_made rest x) k (made_twice rest x (makes y.body) (and_left (each (λ n. not (is_made rest n)) (makes y.body)) _ well) maker)
not_again x rest (y ∷ s) (suc j) l h e k m = not_again x (y ∷ rest) s j l h e (or_right (is_maker x y) (is_made rest x) k) m

-- the name of the newest line was made
made_first : (x : Name) (y l : Line) (rest : List Line) → Some y ≡ Some l → is_maker x l ≡ true → is_made (y ∷ rest) x ≡ true
made_first x y l rest e m =
    let same : l ≡ y = cc in
    let maker : is_maker x y ≡ true = subst (λ z. is_maker x z ≡ true) same m in
    rw maker refl

-- two lines that make the same name stand at the same place
same_place : (x : Name) (rest s : List Line) (i j : ℕ) (k l : Line) → always is_named_well (onto rest s) ≡ true → slice_get s i ≡ Some k → slice_get s j ≡ Some l
    → is_maker x k ≡ true → is_maker x l ≡ true → i ≡ j
same_place x rest [] i j k l h e f p q = absurd cc
same_place x rest (y ∷ s) zero zero k l h e f p q = refl
same_place x rest (y ∷ s) zero (suc j) k l h e f p q = absurd (not_again x (y ∷ rest) s j l h f (made_first x y k rest e p) q)
same_place x rest (y ∷ s) (suc i) zero k l h e f p q = absurd (not_again x (y ∷ rest) s i k h e (made_first x y l rest f q) p)
same_place x rest (y ∷ s) (suc i) (suc j) k l h e f p q = ap suc (same_place x (y ∷ rest) s i j k l h e f p q)

-- two lines of a script in which names are made once that make the same name are the same line
pub made_once : (x : Name) (s : List Line) (n m : ℕ) (k l : Line) → are_named_well s ≡ true → kth s n ≡ Some k → kth s m ≡ Some l
    → is_maker x k ≡ true → is_maker x l ≡ true → n ≡ m
made_once x s zero m k l h e f p q = absurd cc
made_once x s (suc n) zero k l h e f p q = absurd cc
made_once x s (suc n) (suc m) k l h e f p q = ap suc (same_place x [] s n m k l h e f p q)

-- the line with whose body a call is given makes what the call makes
pub line_makes : (s : List Line) (x : Name) (b : Body) (t : TxNo) (c : Call) → call_of s b ≡ Some (t, c) → call_makes x c ≡ true → has (λ m. same_name x m) (makes b) ≡ true
line_makes s x b t c e k = by_body s x b (subst (λ o. passed x o ≡ true) (sym e) k)
  where
    passed : Name → Option (TxNo × Call) → Bool
    passed x (Some c) = call_makes x c.1
    passed x None = false

    by_clone : (x : Name) (c : CloneNo) (o : Option TxNo) → passed x (complete_call c o) ≡ true → ⊥
    by_clone x c (Some t) h = cc
    by_clone x c None h = cc

    by_enlistment : (x : Name) (e : EnlNo) (o : Option TxNo) → passed x (gone_call e o) ≡ true → ⊥
    by_enlistment x e (Some t) h = cc
    by_enlistment x e None h = cc

    by_return : (x : Name) (e : EnlNo) (o : Option TxNo) → passed x (reenlist_call e o) ≡ true → ⊥
    by_return x e (Some t) h = cc
    by_return x e None h = cc

    by_body : (s : List Line) (x : Name) (b : Body) → passed x (call_of s b) ≡ true → has (λ m. same_name x m) (makes b) ≡ true
    by_body s x (VolatileLine t e o v) h = rw h refl
    by_body s x (DurableLine t e r y) h = rw h refl
    by_body s x (PromotableLine t e r v o p) h = rw h refl
    by_body s x (CloneLine t c k) h = rw h refl
    by_body s x (CompleteLine c) h = absurd (by_clone x c (transaction_of s c.value) h)
    by_body s x (GoneLine e) h = absurd (by_enlistment x e (transaction_with s e.value) h)
    by_body s x (ReenlistLine e) h = absurd (by_return x e (transaction_with s e.value) h)
    by_body s x _ h = absurd cc

-- a call as scope lines give it makes no name
pub scope_makes_none : (x : Name) (c : Call) → is_scope_call c ≡ true → call_makes x c ≡ true → ⊥
scope_makes_none x (Volatile t e o v) h k = cc
scope_makes_none x (Clone t c k) h m = cc
scope_makes_none x _ h k = cc

-- the line that gives a call makes what the call makes
giver_makes : (s before : List Line) (x : Name) (l : Line) (k : ℕ) (t : TxNo) (c : Call) → slice_get (calls_by s before l) k ≡ Some (t, c) → call_makes x c ≡ true → is_maker x l ≡ true
giver_makes s before x l k t c e m =
    elim (given_call s before l k (t, c) e) [ inl own ↦ line_makes s x l.body t c own m | inr scope ↦ absurd (scope_makes_none x c scope m) ]

-- and the other way round
made_makes : (x : Name) (c : Call) → made_by c ≡ Some x → call_makes x c ≡ true
made_makes x (Volatile t e o v) k = let same : OfEnlistment e.value ≡ x = cc in subst (λ y. same_name y (OfEnlistment e.value) ≡ true) same (eq_self e.value)
made_makes x (Durable t e r s) k = let same : OfEnlistment e.value ≡ x = cc in subst (λ y. same_name y (OfEnlistment e.value) ≡ true) same (eq_self e.value)
made_makes x (Promotable t e r v o p) k = let same : OfEnlistment e.value ≡ x = cc in subst (λ y. same_name y (OfEnlistment e.value) ≡ true) same (eq_self e.value)
made_makes x (Clone t c k) m = let same : OfClone c.value ≡ x = cc in subst (λ y. same_name y (OfClone c.value) ≡ true) same (eq_self c.value)
made_makes x _ k = absurd cc

-- a script in which names are made once gives each transaction calls that make each name once
pub script_once : (s : List Line) (t : ℕ) → are_named_well s ≡ true → AreMadeOnce (IsCallOf s t)
script_once s t w n m a b c d x g k e f =
    let first = giver_makes s (lines_before s n) x g.line g.place g.name c g.gives (made_makes x c e) in
    let second = giver_makes s (lines_before s m) x k.line k.place k.name d k.gives (made_makes x d f) in
    made_once x s n m g.line k.line w g.stands k.stands first second
