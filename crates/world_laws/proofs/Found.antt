-- What the log was found to have of an identifier is of it; and two records are the same exactly where they say the same.
use Rattle.std.proofs.Common.{◌≡◌, ◌==◌, ◌&&◌, ℕ, Bool, true, false, List, [], ◌∷◌, Option, Some, None, Bor, arith, refl, ap, subst}
use Rattle.std.specs.Prelude.{IfSome, drop, get_or, is_some, map, take, if◌then◌else◌}
use Rattle.std.specs.Bool.{Decides}
use Rattle.std.specs.Cmp.Lexicographic.{pointwise}
use Rattle.std.specs.Option.{option_copied, option_map}
use Rattle.std.proofs.lemmas.Bool.Decides.{Decides-eqb, nat_tests}
use Rattle.dtx_values.specs.declared.record.LogRecord.{LogRecord}
use Rattle.dtx_values.specs.declared.number.EnlNo.{EnlNo}
use Rattle.dtx_values.specs.declared.number.RmNo.{RmNo}
use Rattle.dtx_values.specs.RecoveryInfo.{pair_of}
use Rattle.dtx_model.specs.Log.{CommitRecord, first_of, is_record_of, record_of}

-- the first record of an identifier has it
found_named : (id : ℕ) (rs : List CommitRecord) → IfSome (first_of id rs) (λ r. r.id ≡ id)
found_named id [] = tt
found_named id (x ∷ xs) = step (is_record_of id x) refl (found_named id xs)
  where
    step : (b : Bool) → is_record_of id x ≡ b → IfSome (first_of id xs) (λ r. r.id ≡ id) → IfSome (if b then Some x else first_of id xs) (λ r. r.id ≡ id)
    step true q ih = grind (arith, nat_tests)
    step false q ih = ih

pub found_is : (id : ℕ) (r : CommitRecord) (rs : List CommitRecord) → first_of id rs ≡ Some r → r.id ≡ id
found_is id r rs e = let P : Option CommitRecord → Type 0 = λ o. IfSome o (λ x. x.id ≡ id) in subst P e (found_named id rs)

pub named_found : (id i : ℕ) (rs : List CommitRecord) → id ≡ i → IfSome (first_of id rs) (λ r. r.id ≡ i)
named_found id i rs e = let P : ℕ → Type 0 = λ j. IfSome (first_of id rs) (λ r. r.id ≡ j) in subst P e (found_named id rs)

-- what is copied says the same
pub copied_of : (o : Option (Bor LogRecord)) → option_map record_of (option_copied o) ≡ option_map (λ r. record_of r.now) o
copied_of None = refl
copied_of (Some b) = refl

pub some_of : (o : Option (Bor LogRecord)) → is_some o ≡ is_some (option_map (λ r. record_of r.now) o)
some_of None = refl
some_of (Some b) = refl

-- Two pairs are compared by their numbers, and two lists of them pair by pair; so two records are the same exactly where they say the same.
abbrev pub same_pair : RmNo × EnlNo → RmNo × EnlNo → Bool
same_pair p q = (p.0.value == q.0.value) && (p.1.value == q.1.value)

pair_decided : (p q : RmNo × EnlNo) → Decides (same_pair p q) (pair_of p ≡ pair_of q)
pair_decided p q = (λ e. step (p.0.value == q.0.value) (p.1.value == q.1.value) refl refl e, λ e. both (ap (λ (x : ℕ × ℕ). x.0) e) (ap (λ (x : ℕ × ℕ). x.1) e))
  where
    step : (b c : Bool) → (p.0.value == q.0.value) ≡ b → (p.1.value == q.1.value) ≡ c → (b && c) ≡ true → pair_of p ≡ pair_of q
    step true true u v e = rw ((Decides-eqb p.0.value q.0.value).0 u, (Decides-eqb p.1.value q.1.value).0 v) refl
    step true false u v e = absurd cc
    step false c u v e = absurd cc

    both : p.0.value ≡ q.0.value → p.1.value ≡ q.1.value → same_pair p q ≡ true
    both u v = rw ((Decides-eqb p.0.value q.0.value).1 u, (Decides-eqb p.1.value q.1.value).1 v) refl

more : (p q : RmNo × EnlNo) (ps qs : List (RmNo × EnlNo)) → Decides (same_pair p q) (pair_of p ≡ pair_of q) → Decides (pointwise same_pair ps qs) (map pair_of ps ≡ map pair_of qs)
    → Decides (pointwise same_pair (p ∷ ps) (q ∷ qs)) (map pair_of (p ∷ ps) ≡ map pair_of (q ∷ qs))
more p q ps qs here there = (λ e. then_same (same_pair p q) here.0 e, λ e. rw (here.1 (head_same e), there.1 (tail_same e)) refl)
  where
    then_same : (b : Bool) → (b ≡ true → pair_of p ≡ pair_of q) → (b && pointwise same_pair ps qs) ≡ true → map pair_of (p ∷ ps) ≡ map pair_of (q ∷ qs)
    then_same true f e = rw (f refl, there.0 e) refl
    then_same false f e = absurd cc

    head_same : (map pair_of (p ∷ ps)) ≡ (map pair_of (q ∷ qs)) → pair_of p ≡ pair_of q
    head_same e = ap (λ (xs : List (ℕ × ℕ)). get_or xs 0 (pair_of p)) e

    tail_same : (map pair_of (p ∷ ps)) ≡ (map pair_of (q ∷ qs)) → map pair_of ps ≡ map pair_of qs
    tail_same e = ap (drop 1) e

pub pairs_decided : (ps qs : List (RmNo × EnlNo)) → Decides (pointwise same_pair ps qs) (map pair_of ps ≡ map pair_of qs)
pairs_decided [] [] = (λ e. refl, λ e. refl)
pairs_decided [] (q ∷ qs) = (λ e. absurd cc, λ e. absurd cc)
pairs_decided (p ∷ ps) [] = (λ e. absurd cc, λ e. absurd cc)
pairs_decided (p ∷ ps) (q ∷ qs) = more p q ps qs (pair_decided p q) (pairs_decided ps qs)

-- records of one identifier are the same exactly where their pairs are
pub same_decided : (a b : LogRecord) → a.id ≡ b.id → Decides (pointwise same_pair (take a.count a.durables) (take b.count b.durables)) (record_of a ≡ record_of b)
same_decided a b e = (
  λ t. rw (e, (pairs_decided (take a.count a.durables) (take b.count b.durables)).0 t) refl,
  λ s. (pairs_decided (take a.count a.durables) (take b.count b.durables)).1 (ap (λ (r : CommitRecord). r.enlistments) s),
)
