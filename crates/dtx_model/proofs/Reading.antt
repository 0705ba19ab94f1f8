-- Questions on a history that is kept oldest first.
use Rattle.std.proofs.Common.{◌≡◌, ℕ, suc, ◌+◌, arith, Bool, true, false, cond, ◌==◌, ◌&&◌, ◌||◌, not, List, [], ◌∷◌, ◌++◌, Option, Some, None, slice_get, if◌then◌else◌, refl, ap, subst, ◌∙◌}
use Rattle.std.specs.List.{filter}
use Rattle.std.proofs.lemmas.Bool.{eq-eqb}
use Rattle.std.proofs.lemmas.List.Folds.{list_all-append, list_any-append}
use Rattle.dtx_values.specs.declared.number.CloneNo.{CloneNo}
use Rattle.dtx_values.specs.declared.number.EnlNo.{EnlNo}
use Rattle.dtx_values.specs.declared.entry.Entry.{Entry}
use Rattle.dtx_values.specs.declared.words.Class.{Class}
use Rattle.dtx_values.specs.declared.words.CloneKind.{CloneKind}
use Rattle.dtx_values.specs.declared.words.Outcome.TheVariants.{Committed}
use Rattle.dtx_model.specs.Words.{has, each, onto, past_of, put, all_of}
use Rattle.dtx_values.specs.Class.{is_volatile}
use Rattle.dtx_values.specs.Table.{how_many}
use Rattle.dtx_model.specs.Entries.{is_hand, is_owner, enlisted_of, clone_of, handed_of}
use Rattle.dtx_model.specs.Outcome.{volatiles, durables, all_vote, voters, can_own, may_decide, owner_committed}

or_none : (a : Bool) → (a || false) ≡ a
or_none true = refl
or_none false = refl

and_all : (a : Bool) → (a && true) ≡ a
and_all true = refl
and_all false = refl

or_turn : (a b c : Bool) → (b || (a || c)) ≡ ((a || b) || c)
or_turn true true c = refl
or_turn true false c = refl
or_turn false b c = refl

and_turn : (a b c : Bool) → (b && (a && c)) ≡ ((a && b) && c)
and_turn true true c = refl
and_turn true false c = refl
and_turn false true c = refl
and_turn false false c = refl

-- one passes with a block after: one passes in the block or in the history
pub has-onto : {E : Type 0} (p : E → Bool) (h xs : List E) → has p (onto h xs) ≡ (has p xs || has p h)
has-onto p h [] = refl
has-onto p h (x ∷ xs) = has-onto p (x ∷ h) xs ∙ or_turn (p x) (has p xs) (has p h)

pub each-onto : {E : Type 0} (p : E → Bool) (h xs : List E) → each p (onto h xs) ≡ (each p xs && each p h)
each-onto p h [] = refl
each-onto p h (x ∷ xs) = each-onto p (x ∷ h) xs ∙ and_turn (p x) (each p xs) (each p h)

-- whether some entry passes doesn't ask for the order
pub has-past : {E : Type 0} (p : E → Bool) (xs : List E) → has p (past_of xs) ≡ has p xs
has-past p xs = has-onto p [] xs ∙ or_none (has p xs)

-- nor does whether each passes
pub each-past : {E : Type 0} (p : E → Bool) (xs : List E) → each p (past_of xs) ≡ each p xs
each-past p xs = each-onto p [] xs ∙ and_all (each p xs)

-- a reading of a history whose items come entry by entry
pub record IsByEntry {E A : Type 0} (f : List E → List A) : Type 0 where
  pub nothing : f [] ≡ []
  pub more : (x : E) (xs : List E) → f (x ∷ xs) ≡ f (x ∷ []) ++ f xs

-- whether each of its items passes is a question on each entry
each_item : {E A : Type 0} (f : List E → List A) (p : A → Bool) → IsByEntry f → (xs : List E) → each p (f xs) ≡ each (λ x. each p (f (x ∷ []))) xs
each_item f p w [] = rw w.nothing refl
each_item f p w (x ∷ xs) = ap (λ ys. each p ys) (w.more x xs) ∙ (list_all-append p (f (x ∷ [])) (f xs) ∙ ap (λ b. each p (f (x ∷ [])) && b) (each_item f p w xs))

has_item : {E A : Type 0} (f : List E → List A) (p : A → Bool) → IsByEntry f → (xs : List E) → has p (f xs) ≡ has (λ x. has p (f (x ∷ []))) xs
has_item f p w [] = rw w.nothing refl
has_item f p w (x ∷ xs) = ap (λ ys. has p ys) (w.more x xs) ∙ (list_any-append p (f (x ∷ [])) (f xs) ∙ ap (λ b. has p (f (x ∷ [])) || b) (has_item f p w xs))

each_past_item : {E A : Type 0} (f : List E → List A) (p : A → Bool) → IsByEntry f → (xs : List E) → each p (f (past_of xs)) ≡ each (λ x. each p (f (x ∷ []))) xs
each_past_item f p w xs = each_item f p w (past_of xs) ∙ each-past (λ x. each p (f (x ∷ []))) xs

has_past_item : {E A : Type 0} (f : List E → List A) (p : A → Bool) → IsByEntry f → (xs : List E) → has p (f (past_of xs)) ≡ has (λ x. has p (f (x ∷ []))) xs
has_past_item f p w xs = has_item f p w (past_of xs) ∙ has-past (λ x. has p (f (x ∷ []))) xs

put-more : {A : Type 0} (o : Option A) (xs : List A) → put o xs ≡ put o [] ++ xs
put-more (Some x) xs = refl
put-more None xs = refl

filter-put : {A : Type 0} (q : A → Bool) (o : Option A) (xs : List A) → filter q (put o xs) ≡ filter q (put o []) ++ filter q xs
filter-put q (Some x) xs = elim (q x) as (λ b. cond b (x ∷ filter q xs) (filter q xs) ≡ cond b (x ∷ []) [] ++ filter q xs) [ true ↦ refl | false ↦ refl ]
filter-put q None xs = refl

all_by_entry : {E A : Type 0} (f : E → Option A) → IsByEntry (λ h. all_of f h)
all_by_entry f = record { nothing = refl; more = λ x xs. put-more (f x) (all_of f xs) }

some_by_entry : {E A : Type 0} (f : E → Option A) (q : A → Bool) → IsByEntry (λ h. filter q (all_of f h))
some_by_entry f q = record { nothing = refl; more = λ x xs. filter-put q (f x) (all_of f xs) }

pub each-clone : (p : CloneNo × CloneKind → Bool) (xs : List Entry) → each p (all_of clone_of (past_of xs)) ≡ each (λ x. each p (all_of clone_of (x ∷ []))) xs
each-clone p xs = each_past_item (λ h. all_of clone_of h) p (all_by_entry clone_of) xs

pub has-clone : (p : CloneNo × CloneKind → Bool) (xs : List Entry) → has p (all_of clone_of (past_of xs)) ≡ has (λ x. has p (all_of clone_of (x ∷ []))) xs
has-clone p xs = has_past_item (λ h. all_of clone_of h) p (all_by_entry clone_of) xs

pub has-handed : (p : EnlNo → Bool) (xs : List Entry) → has p (all_of handed_of (past_of xs)) ≡ has (λ x. has p (all_of handed_of (x ∷ []))) xs
has-handed p xs = has_past_item (λ h. all_of handed_of h) p (all_by_entry handed_of) xs

pub each-volatile : (p : EnlNo × Class → Bool) (xs : List Entry) → each p (volatiles (past_of xs)) ≡ each (λ x. each p (volatiles (x ∷ []))) xs
each-volatile p xs = each_past_item volatiles p (some_by_entry enlisted_of (λ x. is_volatile x.1)) xs

pub has-volatile : (p : EnlNo × Class → Bool) (xs : List Entry) → has p (volatiles (past_of xs)) ≡ has (λ x. has p (volatiles (x ∷ []))) xs
has-volatile p xs = has_past_item volatiles p (some_by_entry enlisted_of (λ x. is_volatile x.1)) xs

pub has-durable : (p : EnlNo × Class → Bool) (xs : List Entry) → has p (durables (past_of xs)) ≡ has (λ x. has p (durables (x ∷ []))) xs
has-durable p xs = has_past_item durables p (some_by_entry enlisted_of (λ x. not (is_volatile x.1))) xs

pub each-durable : (p : EnlNo × Class → Bool) (xs : List Entry) → each p (durables (past_of xs)) ≡ each (λ x. each p (durables (x ∷ []))) xs
each-durable p xs = each_past_item durables p (some_by_entry enlisted_of (λ x. not (is_volatile x.1))) xs

-- how many pass doesn't ask for the order
how_many-onto : {E : Type 0} (p : E → Bool) (h xs : List E) → how_many p (onto h xs) ≡ how_many p xs + how_many p h
how_many-onto p h [] = none (how_many p h)
  where
    none : (n : ℕ) → n ≡ 0 + n
    none n = grind (arith)
how_many-onto p h (x ∷ xs) = how_many-onto p (x ∷ h) xs ∙ by (p x) (how_many p xs) (how_many p h)
  where
    by : (b : Bool) (m n : ℕ) → m + (if b then suc n else n) ≡ (if b then suc m else m) + n
    by true m n = grind (arith)
    by false m n = refl

pub how_many-past : {E : Type 0} (p : E → Bool) (xs : List E) → how_many p (past_of xs) ≡ how_many p xs
how_many-past p xs = how_many-onto p [] xs ∙ none (how_many p xs)
  where
    none : (n : ℕ) → n + 0 ≡ n
    none n = grind (arith)

-- the voters are the volatiles, and after a promotion the durables too
pub each-voter : (p : EnlNo × Class → Bool) (h : List Entry) → each p (voters h) ≡ (if all_vote h then each p (volatiles h) && each p (durables h) else each p (volatiles h))
each-voter p h = elim (all_vote h) as (λ b. each p (cond b (volatiles h ++ durables h) (volatiles h)) ≡ cond b (each p (volatiles h) && each p (durables h)) (each p (volatiles h))) [ true ↦ list_all-append p (volatiles h) (durables h) | false ↦ refl ]

-- who the owner is, where it is known which durable was enlisted last
owner_of : (h : List Entry) (x z : EnlNo × Class) (zs : List (EnlNo × Class)) → z ≡ x
    → owner_committed h (z ∷ zs) ≡ (each (λ y. x.0.value == y.0.value) (z ∷ zs) && has (λ y. can_own y.1) (z ∷ zs) && may_decide h x.0.value && has (is_hand x.0.value) h && has (is_owner x.0.value Committed) h)
owner_of h x z zs e = subst (λ (w : EnlNo × Class). owner_committed h (z ∷ zs) ≡ (each (λ y. w.0.value == y.0.value) (z ∷ zs) && has (λ y. can_own y.1) (z ∷ zs) && may_decide h w.0.value && has (is_hand w.0.value) h && has (is_owner w.0.value Committed) h)) e (rw (eq-eqb z.0.value z.0.value refl) refl)

-- the one durable that is in question, by the one that was enlisted last
pub owner-first : (h : List Entry) (ds : List (EnlNo × Class)) (x : EnlNo × Class) → slice_get ds 0 ≡ Some x
    → owner_committed h ds ≡ (each (λ y. x.0.value == y.0.value) ds && has (λ y. can_own y.1) ds && may_decide h x.0.value && has (is_hand x.0.value) h && has (is_owner x.0.value Committed) h)
owner-first h [] x e = absurd cc
owner-first h (z ∷ zs) x e = owner_of h x z zs cc

pub no_owner : (h : List Entry) (ds : List (EnlNo × Class)) → slice_get ds 0 ≡ None → owner_committed h ds ≡ false
no_owner h [] e = refl
no_owner h (z ∷ zs) e = absurd cc

pub ruleset reading = (has-past, how_many-past, each-clone, has-clone, has-handed, each-volatile, has-volatile, has-durable, each-durable, each-voter)
