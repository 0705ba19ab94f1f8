-- Sums over lists, before and after a change: of everything, of one connection, and of a list in which each connection stands once.
use Rattle.std.proofs.Common.{◌≡◌, ℕ, suc, ◌+◌, ◌≤◌, Bool, true, false, ◌||◌, List, [], ◌∷◌, ◌++◌, filter, if◌then◌else◌, refl, subst, arith}
use Rattle.dtx_values.specs.declared.message.Conn.{Conn}
use Rattle.dtx_values.specs.Ends.{same_connection}
use Rattle.dtx_values.specs.Table.{how_many}
use Rattle.dtx_model.specs.Words.{has}
use Rattle.dtx_model.proofs.Connections.{same_is}
use Rattle.world_laws.specs.Left.{total, unless}

no : false ≡ true → ⊥
no e = absurd cc

-- where each is at most as much, so is the sum
pub total-le : {A : Type 0} (f g : A → ℕ) → ((x : A) → f x ≤ g x) → (xs : List A) → total f xs ≤ total g xs
total-le f g k [] = omega arith
total-le f g k (x ∷ xs) = let a = k x in let b = total-le f g k xs in omega arith

-- the sum over those that pass
pub total-filter : {A : Type 0} (p : A → Bool) (f g : A → ℕ) → ((x : A) → p x ≡ true → f x ≤ g x) → (xs : List A) → total f (filter p xs) ≤ total g xs
total-filter p f g k [] = omega arith
total-filter {A} p f g k (x ∷ xs) = by (p x) (k x) (total-filter p f g k xs)
  where
    by : (b : Bool) → (b ≡ true → f x ≤ g x) → total f (filter p xs) ≤ total g xs → total f (if b then x ∷ filter p xs else filter p xs) ≤ g x + total g xs
    by true a i = let e = a refl in omega arith
    by false a i = omega arith

-- a sum over two lists
pub total-append : {A : Type 0} (f : A → ℕ) (xs ys : List A) → total f (xs ++ ys) ≡ total f xs + total f ys
total-append f [] ys = omega arith
total-append f (x ∷ xs) ys = let a = total-append f xs ys in omega arith

-- where only those of one connection change, and there is none, the sum isn't more
total-none : (f g : Conn → ℕ) (c : Conn) → ((e : Conn) → same_connection c e ≡ false → f e ≤ g e) → (cs : List Conn) → how_many (same_connection c) cs ≡ 0 → total f cs ≤ total g cs
total-none f g c k [] n = omega arith
total-none f g c k (e ∷ cs) n = by (same_connection c e) (k e) (total-none f g c k cs) n
  where
    by : (b : Bool) → (b ≡ false → f e ≤ g e) → (how_many (same_connection c) cs ≡ 0 → total f cs ≤ total g cs)
        → (if b then suc (how_many (same_connection c) cs) else how_many (same_connection c) cs) ≡ 0 → f e + total f cs ≤ g e + total g cs
    by true a i n = omega arith
    by false a i n = let p = a refl in let q = i n in omega arith

-- where there is at most one, it is at most so much more
pub total-more : (f g : Conn → ℕ) (c : Conn) (k : ℕ) → ((e : Conn) → same_connection c e ≡ false → f e ≤ g e) → f c ≤ g c + k → (cs : List Conn) → how_many (same_connection c) cs ≤ 1
    → total f cs ≤ total g cs + k
total-more f g c k a o [] n = omega arith
total-more f g c k a o (e ∷ cs) n = by (same_connection c e) refl n (total-more f g c k a o cs)
  where
    by : (b : Bool) → same_connection c e ≡ b → (if b then suc (how_many (same_connection c) cs) else how_many (same_connection c) cs) ≤ 1
        → (how_many (same_connection c) cs ≤ 1 → total f cs ≤ total g cs + k) → f e + total f cs ≤ (g e + total g cs) + k
    by true s n i =
        let q = total-none f g c a cs (omega arith) in
        let p : f e ≤ g e + k = subst (λ (x : Conn). f x ≤ g x + k) (same_is c e s) o in
        omega arith
    by false s n i = let p = a e s in let q = i n in omega arith

-- where it is there, and falls by so much, so does the sum
pub total-less : (f g : Conn → ℕ) (c : Conn) (k : ℕ) → ((e : Conn) → same_connection c e ≡ false → f e ≤ g e) → f c + k ≤ g c → (cs : List Conn) → has (same_connection c) cs ≡ true
    → total f cs + k ≤ total g cs
total-less f g c k a o [] n = absurd (no n)
total-less f g c k a o (e ∷ cs) n = by (same_connection c e) refl n (total-less f g c k a o cs)
  where
    each_le : (x : Conn) → f x ≤ g x
    each_le x = it (same_connection c x) refl
      where
        it : (b : Bool) → same_connection c x ≡ b → f x ≤ g x
        it true s = let p : f x + k ≤ g x = subst (λ (y : Conn). f y + k ≤ g y) (same_is c x s) o in omega arith
        it false s = a x s

    by : (b : Bool) → same_connection c e ≡ b → (b || has (same_connection c) cs) ≡ true → (has (same_connection c) cs ≡ true → total f cs + k ≤ total g cs)
        → (f e + total f cs) + k ≤ g e + total g cs
    by true s n i =
        let q = total-le f g each_le cs in
        let p : f e + k ≤ g e = subst (λ (x : Conn). f x + k ≤ g x) (same_is c e s) o in
        omega arith
    by false s n i = let p = a e s in let q = i n in omega arith

-- of those that pass a test, as many at most pass another
pub how_many-filter : {A : Type 0} (p q : A → Bool) (xs : List A) → how_many p (filter q xs) ≤ how_many p xs
how_many-filter p q [] = omega arith
how_many-filter {A} p q (x ∷ xs) = by (q x) (p x) (how_many-filter p q xs)
  where
    by : (a b : Bool) → how_many p (filter q xs) ≤ how_many p xs
        → how_many p (if a then x ∷ filter q xs else filter q xs) ≤ how_many p (x ∷ xs)
    by a b i = elim a as (λ a. how_many p (if a then x ∷ filter q xs else filter q xs) ≤ how_many p (x ∷ xs)) [
      | true ↦ it (p x) i
      | false ↦ other (p x) i
    ]
      where
        it : (b : Bool) → how_many p (filter q xs) ≤ how_many p xs → (if b then suc (how_many p (filter q xs)) else how_many p (filter q xs)) ≤ (if b then suc (how_many p xs) else how_many p xs)
        it true i = omega arith
        it false i = i

        other : (b : Bool) → how_many p (filter q xs) ≤ how_many p xs → how_many p (filter q xs) ≤ (if b then suc (how_many p xs) else how_many p xs)
        other true i = omega arith
        other false i = i

-- and none, where none passes both
pub how_many-none : {A : Type 0} (p q : A → Bool) → ((x : A) → q x ≡ true → p x ≡ false) → (xs : List A) → how_many p (filter q xs) ≡ 0
how_many-none p q k [] = refl
how_many-none {A} p q k (x ∷ xs) = by (q x) (k x) (how_many-none p q k xs)
  where
    by : (b : Bool) → (b ≡ true → p x ≡ false) → how_many p (filter q xs) ≡ 0 → how_many p (if b then x ∷ filter q xs else filter q xs) ≡ 0
    by true n i = rw (n refl) i
    by false n i = i

-- what is there or wasn't, doesn't count more
pub unless-or : (a b : Bool) (n : ℕ) → unless (a || b) n ≤ unless b n
unless-or true true n = omega arith
unless-or true false n = omega arith
unless-or false b n = omega arith
