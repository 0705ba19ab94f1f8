-- What keeps a resource from being recovered.
use Rattle.std.proofs.Common.{◌≡◌, ◌∙◌, ◌≤◌, ◌+◌, ℕ, zero, suc, Bool, true, false, cond, ◌&&◌, ◌||◌, not, List, [], ◌∷◌, drop, length, slice_get, Option, Some, None, refl, ap, sym, arith}
use Rattle.std.specs.Option.{option_map}
use Rattle.dtx_model.specs.Log.{CommitRecord}
use Rattle.dtx_model.specs.Promotes.{identifier_of}
use Rattle.dtx_model.specs.Words.{has}
use Rattle.recovery_laws.specs.Finding.{Finding, Commits, Aborts, IsNotNamed, finding, is_later}
use Rattle.resource_managers.specs.Holding.{Holding, is_in_doubt, pair_held}
use Rattle.resource_managers.specs.Pairs.{Pair}
use Rattle.transactions.specs.Recovering.{has_place}
use Rattle.transactions.specs.Recovery.{GoesOn, Later, NotNamed, Obstacle, first_obstacle, is_not_named, is_unnamed, obstacle_to, or_else}
use Rattle.transactions.specs.State.{LiveState}

-- what is there is the same
some_is : {A : Type 0} (x y : A) → Some x ≡ Some y → x ≡ y
some_is x y e = cc

-- a holding that is no obstacle is named, where it is in doubt
clear_one : (rs : List CommitRecord) (xs : List LiveState) (m : ℕ) (h : Holding) → obstacle_to rs xs m h ≡ None → is_unnamed rs m h ≡ false
clear_one rs xs m h clear = by (is_later rs h) (is_in_doubt h) (has_place (identifier_of h.number) xs) (finding rs m h) clear
  where
    by : (l d p : Bool) (f : Finding) → cond l (Some Later) (cond (not d) None (cond p (Some GoesOn) (cond (is_not_named f) (Some NotNamed) None))) ≡ None → (d && is_not_named f) ≡ false
    by true d p f clear = absurd cc
    by false false p f clear = refl
    by false true true f clear = absurd cc
    by false true false Commits clear = refl
    by false true false Aborts clear = refl
    by false true false IsNotNamed clear = absurd cc

-- where nothing is an obstacle, all that is in doubt is named
pub clear_named : (rs : List CommitRecord) (xs : List LiveState) (m : ℕ) (hs : List Holding) → first_obstacle rs xs m hs ≡ None → has (is_unnamed rs m) hs ≡ false
clear_named rs xs m [] clear = refl
clear_named rs xs m (h ∷ hs) clear = by (clear_named rs xs m hs) (obstacle_to rs xs m h) refl clear
  where
    by : (first_obstacle rs xs m hs ≡ None → has (is_unnamed rs m) hs ≡ false) → (o : Option Obstacle) → obstacle_to rs xs m h ≡ o → or_else o (pair_held h) (first_obstacle rs xs m hs) ≡ None
        → has (is_unnamed rs m) (h ∷ hs) ≡ false
    by ih (Some o) is clear = absurd cc
    by ih None is clear = ap (λ b. b || has (is_unnamed rs m) hs) (clear_one rs xs m h is) ∙ ih clear

-- the first obstacle from a place on: a holding that is none is passed
pub passed_by : (rs : List CommitRecord) (xs : List LiveState) (m k : ℕ) (hs : List Holding) (h : Holding) → slice_get hs k ≡ Some h → obstacle_to rs xs m h ≡ None
    → first_obstacle rs xs m (drop k hs) ≡ first_obstacle rs xs m (drop (suc k) hs)
passed_by rs xs m k [] h there none = absurd cc
passed_by rs xs m zero (g ∷ hs) h there none = ap (λ o. or_else o (pair_held g) (first_obstacle rs xs m hs)) (ap (obstacle_to rs xs m) (some_is g h there) ∙ none)
passed_by rs xs m (suc k) (g ∷ hs) h there none = passed_by rs xs m k hs h there none

-- and one that is some is the first
pub first_at : (rs : List CommitRecord) (xs : List LiveState) (m k : ℕ) (hs : List Holding) (h : Holding) (o : Obstacle) → slice_get hs k ≡ Some h → obstacle_to rs xs m h ≡ Some o
    → first_obstacle rs xs m (drop k hs) ≡ Some (o, pair_held h)
first_at rs xs m k [] h o there is = absurd cc
first_at rs xs m zero (g ∷ hs) h o there is =
    ap (λ z. or_else z (pair_held g) (first_obstacle rs xs m hs)) (ap (obstacle_to rs xs m) (some_is g h there) ∙ is) ∙ ap (λ x. Some (o, pair_held x)) (some_is g h there)
first_at rs xs m (suc k) (g ∷ hs) h o there is = first_at rs xs m k hs h o there is

-- what a refusal tells of the holding at this place
told_of : (z : Option Obstacle) (p : Pair) (x : Option (Obstacle × Pair)) → Some x ≡ option_map (λ o. Some (o, p)) z → (o : Obstacle) × (z ≡ Some o) × (x ≡ Some (o, p))
told_of (Some o) p x e = (o, refl, some_is x (Some (o, p)) e)
told_of None p x e = absurd cc

untold : (z : Option Obstacle) (p : Pair) → ◌≡◌ {A = Option (Option (Obstacle × Pair))} None (option_map (λ o. Some (o, p)) z) → z ≡ None
untold (Some o) p e = absurd cc
untold None p e = refl

pub told_first : (rs : List CommitRecord) (xs : List LiveState) (m k : ℕ) (hs : List Holding) (h : Holding) (x : Option (Obstacle × Pair)) → first_obstacle rs xs m hs ≡ first_obstacle rs xs m (drop k hs)
    → slice_get hs k ≡ Some h → Some x ≡ option_map (λ o. Some (o, pair_held h)) (obstacle_to rs xs m h) → Some x ≡ option_map (λ y. Some y) (first_obstacle rs xs m hs)
told_first rs xs m k hs h x from there told =
    let is = told_of (obstacle_to rs xs m h) (pair_held h) x told in
    ap (λ (y : Option (Obstacle × Pair)). Some y) is.2 ∙ sym (ap (option_map (λ y. Some y)) (from ∙ first_at rs xs m k hs h is.0 there is.1))

pub told_none : (rs : List CommitRecord) (xs : List LiveState) (m k : ℕ) (hs : List Holding) (h : Holding) → first_obstacle rs xs m hs ≡ first_obstacle rs xs m (drop k hs)
    → slice_get hs k ≡ Some h → ◌≡◌ {A = Option (Option (Obstacle × Pair))} None (option_map (λ o. Some (o, pair_held h)) (obstacle_to rs xs m h)) → first_obstacle rs xs m hs ≡ first_obstacle rs xs m (drop (k + 1) hs)
told_none rs xs m k hs h from there told =
    let next : suc k ≡ k + 1 = omega arith in
    from ∙ passed_by rs xs m k hs h there (untold (obstacle_to rs xs m h) (pair_held h) told) ∙ ap (λ n. first_obstacle rs xs m (drop n hs)) next

-- nothing stands past the end
past_end : {A : Type 0} (k : ℕ) (hs : List A) → length hs ≤ k → drop k hs ≡ []
past_end zero [] le = refl
past_end (suc k) [] le = refl
past_end zero (h ∷ hs) le = absurd (omega (arith, le))
past_end (suc k) (h ∷ hs) le = past_end k hs (omega (arith, le))

none_at : {A : Type 0} (k : ℕ) (hs : List A) → slice_get hs k ≡ None → length hs ≤ k
none_at k [] none = omega arith
none_at zero (h ∷ hs) none = absurd cc
none_at (suc k) (h ∷ hs) none = let le = none_at k hs none in omega (arith, le)

pub ended : (rs : List CommitRecord) (xs : List LiveState) (m k : ℕ) (hs : List Holding) → first_obstacle rs xs m hs ≡ first_obstacle rs xs m (drop k hs) → length hs ≤ k → first_obstacle rs xs m hs ≡ None
ended rs xs m k hs from le = from ∙ ap (first_obstacle rs xs m) (past_end k hs le)

pub nothing_at : (rs : List CommitRecord) (xs : List LiveState) (m k : ℕ) (hs : List Holding) → first_obstacle rs xs m hs ≡ first_obstacle rs xs m (drop k hs) → slice_get hs k ≡ None
    → first_obstacle rs xs m hs ≡ first_obstacle rs xs m (drop (k + 1) hs)
nothing_at rs xs m k hs from none =
    let le = none_at k hs none in from ∙ ap (first_obstacle rs xs m) (past_end k hs le ∙ sym (past_end (k + 1) hs (omega (arith, le))))
