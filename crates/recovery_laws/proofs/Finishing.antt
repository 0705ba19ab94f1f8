-- Recovery one enlistment after another.
use Rattle.std.proofs.Common.{◌≡◌, ◌+◌, ℕ, Bool, true, false, cond, ◌&&◌, ◌==◌, List, [], ◌∷◌, find, Option, Some, None, refl, ap, subst, sym, ◌∙◌, arith, zero-add}
use Rattle.std.proofs.lemmas.Bool.{and_from, and_left, and_parts, eq-eqb, eqb-true}
use Rattle.std.proofs.lemmas.List.Sums.{sum_by-cons}
use Rattle.std.specs.Option.{option_map}
use Rattle.dtx_model.specs.Log.{CommitRecord, first_of}
use Rattle.dtx_model.specs.Promotes.{identifier_of}
use Rattle.dtx_model.specs.Words.{put}
use Rattle.recovery_laws.proofs.Stepping.{finishes_other, stays_aborted, stays_committed}
use Rattle.recovery_laws.specs.Finding.{Aborts, Commits, IsNotNamed, finding, finding_of, found_by, names, settled, settled_by, settled_one}
use Rattle.recovery_laws.specs.Steps.{at_site}
use Rattle.recovery_laws.specs.Stepwise.{IsStepwise, doubts}
use Rattle.recovery_laws.specs.Whole.{Site, is_whole}
use Rattle.resource_managers.specs.Holding.{Holding, finished, first_in_doubt, is_doubt_of, is_in_doubt, pair_held, with_mark}
use Rattle.resource_managers.specs.Pairs.{Pair}

-- a holding in doubt of a pair has it, and is found as it is
pair_is : (p : Pair) (h : Holding) → is_doubt_of p h ≡ true → pair_held h ≡ p
pair_is p h e =
    let parts = and_parts (is_in_doubt h) ((p.0 == h.number) && (p.1 == h.enlistment)) e in
    let both = and_parts (p.0 == h.number) (p.1 == h.enlistment) parts.1 in
    let n : p.0 ≡ h.number = eqb-true p.0 h.number both.0 in
    let e : p.1 ≡ h.enlistment = eqb-true p.1 h.enlistment both.1 in
    rw (← n, ← e) refl

settled_doubt : (rs : List CommitRecord) (m : ℕ) (p : Pair) (h : Holding) → is_doubt_of p h ≡ true → settled_one rs m h ≡ settled_by (finding_of rs m p) h
settled_doubt rs m p h e =
    let parts = and_parts (is_in_doubt h) ((p.0 == h.number) && (p.1 == h.enlistment)) e in
    ap (λ b. cond b (settled_by (finding rs m h) h) (Some h)) parts.0 ∙ ap (λ q. settled_by (finding_of rs m q) h) (pair_is p h e)

commits : (rs : List CommitRecord) (m : ℕ) (p : Pair) (hs : List Holding) → finding_of rs m p ≡ Commits → settled rs m (finished true p hs) ≡ settled rs m hs
commits rs m p [] is = refl
commits rs m p (h ∷ hs) is = by (commits rs m p hs is) (is_doubt_of p h) refl
  where
    by : settled rs m (finished true p hs) ≡ settled rs m hs → (b : Bool) → is_doubt_of p h ≡ b → settled rs m (cond b (with_mark h ∷ hs) (h ∷ finished true p hs)) ≡ put (settled_one rs m h) (settled rs m hs)
    by ih true e = ap (λ o. put o (settled rs m hs)) (sym (settled_doubt rs m p h e ∙ ap (λ f. settled_by f h) is))
    by ih false e = ap (put (settled_one rs m h)) ih

aborts : (rs : List CommitRecord) (m : ℕ) (p : Pair) (hs : List Holding) → finding_of rs m p ≡ Aborts → settled rs m (finished false p hs) ≡ settled rs m hs
aborts rs m p [] is = refl
aborts rs m p (h ∷ hs) is = by (aborts rs m p hs is) (is_doubt_of p h) refl
  where
    by : settled rs m (finished false p hs) ≡ settled rs m hs → (b : Bool) → is_doubt_of p h ≡ b → settled rs m (cond b hs (h ∷ finished false p hs)) ≡ put (settled_one rs m h) (settled rs m hs)
    by ih true e = ap (λ o. put o (settled rs m hs)) (sym (settled_doubt rs m p h e ∙ ap (λ f. settled_by f h) is))
    by ih false e = ap (put (settled_one rs m h)) ih

-- a holding in doubt is in doubt of its own pair
pub doubt_is : (p : Pair) (h : Holding) → is_in_doubt h ≡ true → pair_held h ≡ p → is_doubt_of p h ≡ true
doubt_is p h e is =
    let n : p.0 ≡ h.number = ap (λ (q : Pair). q.0) (sym is) in
    let d : p.1 ≡ h.enlistment = ap (λ (q : Pair). q.1) (sym is) in
    and_from (is_in_doubt h) ((p.0 == h.number) && (p.1 == h.enlistment)) e (and_from (p.0 == h.number) (p.1 == h.enlistment) (eq-eqb p.0 h.number n) (eq-eqb p.1 h.enlistment d))

-- one more that is in doubt, and one that isn't
one_more : (h : Holding) (hs : List Holding) → is_in_doubt h ≡ true → doubts (h ∷ hs) ≡ 1 + doubts hs
one_more h hs e = sum_by-cons (λ x. cond (is_in_doubt x) 1 0) h hs ∙ ap (λ b. cond b 1 0 + doubts hs) e

none_more : (h : Holding) (hs : List Holding) → is_in_doubt h ≡ false → doubts (h ∷ hs) ≡ doubts hs
none_more h hs e = sum_by-cons (λ x. cond (is_in_doubt x) 1 0) h hs ∙ ap (λ b. cond b 1 0 + doubts hs) e ∙ zero-add (doubts hs)

falls : (commit : Bool) (p : Pair) (hs : List Holding) → first_in_doubt hs ≡ Some p → doubts (finished commit p hs) + 1 ≡ doubts hs
falls commit p [] first = absurd cc
falls commit p (h ∷ hs) first = by (falls commit p hs) (is_in_doubt h) refl first
  where
    here : is_in_doubt h ≡ true → (b : Bool) → doubts (cond b (with_mark h ∷ hs) hs) + 1 ≡ doubts (h ∷ hs)
    here e true = let marks : doubts (with_mark h ∷ hs) ≡ doubts hs = none_more (with_mark h) hs refl in let more = one_more h hs e in omega arith
    here e false = let more = one_more h hs e in omega arith

    stays : (b : Bool) → is_doubt_of p h ≡ b → b ≡ false → doubts (finished commit p hs) + 1 ≡ doubts hs → is_in_doubt h ≡ false → doubts (cond b (cond commit (with_mark h ∷ hs) hs) (h ∷ finished commit p hs)) + 1 ≡ doubts (h ∷ hs)
    stays b is off ih e = rw off (let before = none_more h hs e in let after = none_more h (finished commit p hs) e in omega arith)

    by : (first_in_doubt hs ≡ Some p → doubts (finished commit p hs) + 1 ≡ doubts hs) → (b : Bool) → is_in_doubt h ≡ b → option_map pair_held (cond b (Some h) (find is_in_doubt hs)) ≡ Some p → doubts (finished commit p (h ∷ hs)) + 1 ≡ doubts (h ∷ hs)
    by ih true e is = ap (λ b. doubts (cond b (cond commit (with_mark h ∷ hs) hs) (h ∷ finished commit p hs)) + 1) (doubt_is p h e (cc)) ∙ here e commit
    by ih false e is = stays (is_doubt_of p h) refl (and_left (is_in_doubt h) ((p.0 == h.number) && (p.1 == h.enlistment)) e) (ih is) e

ends : (rs : List CommitRecord) (m : ℕ) (hs : List Holding) → first_in_doubt hs ≡ None → settled rs m hs ≡ hs
ends rs m [] none = refl
ends rs m (h ∷ hs) none = by (ends rs m hs) (is_in_doubt h) refl none
  where
    by : (first_in_doubt hs ≡ None → settled rs m hs ≡ hs) → (b : Bool) → is_in_doubt h ≡ b → option_map pair_held (cond b (Some h) (find is_in_doubt hs)) ≡ None → put (cond b (settled_by (finding rs m h) h) (Some h)) (settled rs m hs) ≡ h ∷ hs
    by ih true e none = absurd cc
    by ih false e none = ap (λ xs. h ∷ xs) (ih none)

-- ---- and keeps whole what was whole

found_record : (rs : List CommitRecord) (m : ℕ) (p : Pair) → finding_of rs m p ≡ Commits → (r : CommitRecord) × (first_of (identifier_of p.0) rs ≡ Some r)
unfolding finding_of
found_record rs m p is = by (first_of (identifier_of p.0) rs) is
  where
    by : (o : Option CommitRecord) → found_by m p.1 o ≡ Commits → (r : CommitRecord) × (o ≡ Some r)
    by (Some r) e = (r, refl)
    by None e = absurd cc

found_none : (rs : List CommitRecord) (m : ℕ) (p : Pair) → finding_of rs m p ≡ Aborts → first_of (identifier_of p.0) rs ≡ None
unfolding finding_of
found_none rs m p is = by (first_of (identifier_of p.0) rs) is
  where
    named : (r : CommitRecord) (b : Bool) → cond b Commits IsNotNamed ≡ Aborts → Some r ≡ None
    named r true e = absurd cc
    named r false e = absurd cc

    by : (o : Option CommitRecord) → found_by m p.1 o ≡ Aborts → o ≡ None
    by (Some r) e = named r (names m p.1 r) e
    by None e = refl

finish_whole : (rs : List CommitRecord) (ss : List Site) (n m : ℕ) (p : Pair) (commit : Bool) → (is_whole rs ss p.0 ≡ true → is_whole rs (at_site (finished commit p) m ss) p.0 ≡ true) → is_whole rs ss n ≡ true
    → is_whole rs (at_site (finished commit p) m ss) n ≡ true
finish_whole rs ss n m p commit own whole = by (n == p.0) refl
  where
    by : (b : Bool) → (n == p.0) ≡ b → is_whole rs (at_site (finished commit p) m ss) n ≡ true
    by true e = let is : n ≡ p.0 = eqb-true n p.0 e in subst (λ k. is_whole rs (at_site (finished commit p) m ss) k ≡ true) (sym is) (own (subst (λ k. is_whole rs ss k ≡ true) is whole))
    by false e = finishes_other rs ss n p.0 p.1 m commit e ∙ whole

commits_whole : (rs : List CommitRecord) (ss : List Site) (n m : ℕ) (p : Pair) → finding_of rs m p ≡ Commits → is_whole rs ss n ≡ true → is_whole rs (at_site (finished true p) m ss) n ≡ true
commits_whole rs ss n m p is whole = let found = found_record rs m p is in finish_whole rs ss n m p true (stays_committed rs ss p.0 p.1 m found.0 found.1) whole

aborts_whole : (rs : List CommitRecord) (ss : List Site) (n m : ℕ) (p : Pair) → finding_of rs m p ≡ Aborts → is_whole rs ss n ≡ true → is_whole rs (at_site (finished false p) m ss) n ≡ true
aborts_whole rs ss n m p is whole = finish_whole rs ss n m p false (stays_aborted rs ss p.0 p.1 m (found_none rs m p is)) whole

pub stepwise : IsStepwise
stepwise = record { commits = commits; aborts = aborts; commits_whole = commits_whole; aborts_whole = aborts_whole; falls = falls; ends = ends }
