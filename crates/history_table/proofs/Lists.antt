-- What holds of each item of a list, and scans of a list with an item more or with its items changed.
use Rattle.std.proofs.Common.{List, [], ◌∷◌, ◌≡◌, ℕ, zero, suc, Some, subst, map, Bool, true, false, ◌++◌, ◌&&◌, refl, ◌∙◌, ap, ◌||◌, Option, None, sym}
use Rattle.std.specs.Prelude.{nat_lt, if◌then◌else◌, find, not, filter}
use Rattle.std.specs.List.{slice_get}
use Rattle.std.proofs.lemmas.List.Folds.{list_all-map}
use Rattle.std.proofs.lemmas.Bool.{or_left}
use Rattle.dtx_values.specs.Table.{insert_by}
use Rattle.dtx_model.specs.Words.{each, has}
use Rattle.dtx_model.proofs.Bools.{and_swap, or_swap, and_both, and_left, and_right, or_first, or_second, or_right}

-- P holds of each item
abbrev pub OfEach : {A : Type 0} → (A → Type 0) → List A → Type 0
OfEach P [] = Unit {0}
OfEach P (x ∷ xs) = P x × OfEach P xs

-- what holds of each holds of the one at a place
pub of-at : {A : Type 0} (P : A → Type 0) (xs : List A) (k : ℕ) (x : A) → OfEach P xs → slice_get xs k ≡ Some x → P x
of-at P [] k x h e = absurd cc
of-at P (y ∷ xs) zero x h e = let same : y ≡ x = cc in subst P same h.0
of-at P (y ∷ xs) (suc k) x h e = of-at P xs k x h.1 e

-- where P gives Q, what is P of each is Q of each
pub of-more : {A : Type 0} (P Q : A → Type 0) → ((x : A) → P x → Q x) → (xs : List A) → OfEach P xs → OfEach Q xs
of-more P Q sub [] h = tt
of-more P Q sub (x ∷ xs) h = (sub x h.0, of-more P Q sub xs h.1)

-- where P of an item gives Q of what f makes of it, Q holds of each that f makes
pub of-map : {A B : Type 0} (P : A → Type 0) (Q : B → Type 0) (f : A → B) → ((x : A) → P x → Q (f x)) → (xs : List A) → OfEach P xs → OfEach Q (map f xs)
of-map P Q f sub [] h = tt
of-map P Q f sub (x ∷ xs) h = (sub x h.0, of-map P Q f sub xs h.1)

-- what holds of one and of each other holds of each with the one at its place
pub of-insert : {A : Type 0} (P : A → Type 0) (key : A → ℕ) (x : A) → P x → (xs : List A) → OfEach P xs → OfEach P (insert_by key x xs)
of-insert P key x p [] h = (p, tt)
of-insert P key x p (y ∷ ys) h = step P (nat_lt (key y) (key x)) x y ys (insert_by key x ys) p h (of-insert P key x p ys h.1)
  where
    step : {A : Type 0} (P : A → Type 0) (b : Bool) (x y : A) (ys rest : List A) → P x → OfEach P (y ∷ ys) → OfEach P rest → OfEach P (if b then y ∷ rest else x ∷ y ∷ ys)
    step P true x y ys rest p h k = (h.0, k)
    step P false x y ys rest p h k = (p, h)

-- what holds of each and of one more holds of each with the one behind
pub of-behind : {A : Type 0} (P : A → Type 0) (x : A) → P x → (xs : List A) → OfEach P xs → OfEach P (xs ++ x ∷ [])
of-behind P x p [] h = (p, tt)
of-behind P x p (y ∷ ys) h = (h.0, of-behind P x p ys h.1)

-- two tests that say the same of each: each passes the one as the other
pub each_same : {A : Type 0} (p q : A → Bool) (xs : List A) → OfEach (λ x. p x ≡ q x) xs → each p xs ≡ each q xs
each_same p q [] h = refl
each_same p q (x ∷ xs) h = ap (λ b. b && each p xs) h.0 ∙ ap (λ b. q x && b) (each_same p q xs h.1)

-- two tests that say the same of each: one passes the one as the other
pub has_same : {A : Type 0} (p q : A → Bool) (xs : List A) → OfEach (λ x. p x ≡ q x) xs → has p xs ≡ has q xs
has_same p q [] h = refl
has_same p q (x ∷ xs) h = ap (λ b. b || has p xs) h.0 ∙ ap (λ b. q x || b) (has_same p q xs h.1)

-- what is so of every item is so of each
pub of-all : {A : Type 0} (P : A → Type 0) → ((x : A) → P x) → (xs : List A) → OfEach P xs
of-all P all [] = tt
of-all P all (x ∷ xs) = (all x, of-all P all xs)

-- what f makes of an item passes as the item does: each passes as before
pub each_kept : {A : Type 0} (p : A → Bool) (f : A → A) → ((x : A) → p (f x) ≡ p x) → (xs : List A) → each p (map f xs) ≡ each p xs
each_kept p f same xs = list_all-map p f xs ∙ each_same (λ x. p (f x)) p xs (of-all (λ x. p (f x) ≡ p x) same xs)

-- what f makes of an item passes as the item does: one passes as before
pub has_kept : {A : Type 0} (p : A → Bool) (f : A → A) → ((x : A) → p (f x) ≡ p x) → (xs : List A) → has p (map f xs) ≡ has p xs
has_kept p f same [] = refl
has_kept p f same (x ∷ xs) = ap (λ b. b || has p (map f xs)) (same x) ∙ ap (λ b. p x || b) (has_kept p f same xs)

-- one of two that pass alike passes as the second
pub if_kept : {A : Type 0} (p : A → Bool) (b : Bool) (y x : A) → p y ≡ p x → p (if b then y else x) ≡ p x
if_kept p true y x e = e
if_kept p false y x e = refl

-- each passes with one more at its place where it passes and each other does
pub each-insert : {A : Type 0} (p : A → Bool) (key : A → ℕ) (x : A) (xs : List A) → each p (insert_by key x xs) ≡ (p x && each p xs)
each-insert p key x [] = refl
each-insert p key x (y ∷ ys) = step p (nat_lt (key y) (key x)) x y ys (insert_by key x ys) (each-insert p key x ys)
  where
    step : {A : Type 0} (p : A → Bool) (b : Bool) (x y : A) (ys rest : List A) → each p rest ≡ (p x && each p ys)
        → each p (if b then y ∷ rest else x ∷ y ∷ ys) ≡ (p x && (p y && each p ys))
    step p true x y ys rest ih = ap (λ b. p y && b) ih ∙ and_swap (p y) (p x) (each p ys)
    step p false x y ys rest ih = refl

-- one passes with one more at its place where it passes or another does
pub has-insert : {A : Type 0} (p : A → Bool) (key : A → ℕ) (x : A) (xs : List A) → has p (insert_by key x xs) ≡ (p x || has p xs)
has-insert p key x [] = refl
has-insert p key x (y ∷ ys) = step p (nat_lt (key y) (key x)) x y ys (insert_by key x ys) (has-insert p key x ys)
  where
    step : {A : Type 0} (p : A → Bool) (b : Bool) (x y : A) (ys rest : List A) → has p rest ≡ (p x || has p ys)
        → has p (if b then y ∷ rest else x ∷ y ∷ ys) ≡ (p x || (p y || has p ys))
    step p true x y ys rest ih = ap (λ b. p y || b) ih ∙ or_swap (p y) (p x) (has p ys)
    step p false x y ys rest ih = refl

-- one passes with one more after where it passes or another does
pub has-behind : {A : Type 0} (p : A → Bool) (x : A) (xs : List A) → has p (xs ++ x ∷ []) ≡ (p x || has p xs)
has-behind p x [] = refl
has-behind p x (y ∷ ys) = ap (λ b. p y || b) (has-behind p x ys) ∙ or_swap (p y) (p x) (has p ys)

-- what is there passes
abbrev pub passes : {A : Type 0} → (A → Bool) → Option A → Bool
passes p (Some x) = p x
passes p None = true

-- where the one at each place passes, each passes
pub each_from_at : {A : Type 0} (p : A → Bool) (xs : List A) → ((k : ℕ) (x : A) → slice_get xs k ≡ Some x → p x ≡ true) → each p xs ≡ true
each_from_at p [] f = refl
each_from_at p (x ∷ xs) f = and_both (p x) (each p xs) (f zero x refl) (each_from_at p xs (λ k y e. f (suc k) y e))

-- what was found passes where each that could be found does
pub found_well : {A : Type 0} (p q : A → Bool) (xs : List A) → each (λ x. not (p x) || q x) xs ≡ true → passes q (find p xs) ≡ true
found_well p q [] h = refl
found_well p q (x ∷ xs) h =
    step q (p x) x (find p xs) (and_left (not (p x) || q x) (each (λ x. not (p x) || q x) xs) h)
    (found_well p q xs (and_right (not (p x) || q x) (each (λ x. not (p x) || q x) xs) h))
  where
    step : {A : Type 0} (q : A → Bool) (b : Bool) (x : A) (o : Option A) → (not b || q x) ≡ true → passes q o ≡ true → passes q (if b then Some x else o) ≡ true
    step q true x o h k = h
    step q false x o h k = k

-- none passes the one, so each passes the other
pub none_each : {A : Type 0} (p q : A → Bool) → ((x : A) → p x ≡ false → q x ≡ true) → (xs : List A) → has p xs ≡ false → each q xs ≡ true
none_each p q sub [] h = refl
none_each p q sub (x ∷ xs) h = and_both (q x) (each q xs) (sub x (or_first (p x) (has p xs) h)) (none_each p q sub xs (or_second (p x) (has p xs) h))

-- what was found stands at a place, and passes
pub found_at : {A : Type 0} (p : A → Bool) (xs : List A) (x : A) → find p xs ≡ Some x → (k : ℕ) × (slice_get xs k ≡ Some x) × (p x ≡ true)
found_at p [] x e = absurd cc
found_at p (y ∷ ys) x e = step (p y) refl e (found_at p ys x)
  where
    step : (b : Bool) → p y ≡ b → (if b then Some y else find p ys) ≡ Some x → (find p ys ≡ Some x → (k : ℕ) × (slice_get ys k ≡ Some x) × (p x ≡ true))
        → (k : ℕ) × (slice_get (y ∷ ys) k ≡ Some x) × (p x ≡ true)
    step true f e ih = let same : y ≡ x = cc in (zero, e, subst (λ z. p z ≡ true) same f)
    step false f e ih = let r = ih e in (suc r.0, r.1, r.2)

-- where one at a place passes, some does
pub has-at : {A : Type 0} (p : A → Bool) (xs : List A) (k : ℕ) (x : A) → slice_get xs k ≡ Some x → p x ≡ true → has p xs ≡ true
has-at p [] k x e f = absurd cc
has-at p (z ∷ zs) zero x e f = let same : z ≡ x = cc in let here : p z ≡ true = subst (λ w. p w ≡ true) (sym same) f in or_left (p z) (has p zs) here
has-at p (z ∷ zs) (suc k) x e f = or_right (p z) (has p zs) (has-at p zs k x e f)

-- each of those that are picked passes where each passes that is picked
pub each_filter : {A : Type 0} (p q : A → Bool) (xs : List A) → each (λ x. not (p x) || q x) xs ≡ true → each q (filter p xs) ≡ true
each_filter p q [] h = refl
each_filter p q (x ∷ xs) h =
    step q (p x) x (filter p xs) (and_left (not (p x) || q x) (each (λ x. not (p x) || q x) xs) h) (each_filter p q xs (and_right (not (p x) || q x) (each (λ x. not (p x) || q x) xs) h))
  where
    step : {A : Type 0} (q : A → Bool) (b : Bool) (x : A) (ys : List A) → (not b || q x) ≡ true → each q ys ≡ true → each q (if b then x ∷ ys else ys) ≡ true
    step q true x ys h k = and_both (q x) (each q ys) h k
    step q false x ys h k = k
