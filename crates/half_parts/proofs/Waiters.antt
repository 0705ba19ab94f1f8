-- The calls that wait, with one more, and without one.
use Rattle.std.proofs.Common.{◌≡◌, ◌≤◌, ◌<◌, ◌==◌, ◌&&◌, ◌||◌, ℕ, zero, suc, Bool, true, false, not, List, [], ◌∷◌, find, drop, length, Option, Some, None, nat_le, nat_lt, slice_get, cond, if◌then◌else◌, refl, ap, sym, subst, ◌∙◌, arith}
use Rattle.std.proofs.lemmas.Bool.Decides.{nat_tests}
use Rattle.dtx_values.specs.declared.entry.Answer.TheVariants.{Ended}
use Rattle.dtx_values.specs.declared.entry.Entry.TheVariants.{Answered}
use Rattle.dtx_values.specs.declared.number.EnlNo.{EnlNo}
use Rattle.dtx_values.specs.declared.number.RmNo.{RmNo}
use Rattle.dtx_values.specs.declared.row.Row.{Row}
use Rattle.dtx_values.specs.declared.words.Class.{Class}
use Rattle.dtx_values.specs.Class.{is_volatile}
use Rattle.dtx_values.specs.Row.{fresh_row, is_of, number_of}
use Rattle.dtx_values.specs.Table.{has_row, how_many, insert_by, marks, with_row}
use Rattle.dtx_model.specs.Words.{each, has}
use Rattle.dtx_model.specs.Half.{ended}
use Rattle.dtx_model.specs.declared.waiting.Wanted.{Wanted}
use Rattle.dtx_model.specs.declared.waiting.Wanted.TheVariants.{Identifier, Place}
use Rattle.dtx_model.specs.Waiting.{Waiter, is_place, is_place_of, waiter_line}
use Rattle.dtx_model.proofs.Bools.{and_both, and_left, and_never, and_right, not_true, or_false, or_first, or_right, or_second}
use Rattle.dtx_model.proofs.Counts.{how_many-insert_by, length-insert_by}
use Rattle.dtx_model.proofs.Passing.{has-insert_by}
use Rattle.half_parts.specs.Half.{is_awaited, waits_at}
use Rattle.half_parts.specs.Waits.{AreWaiting, IsAt, IsFirst, is_to_come, lines_from, without}
use Rattle.half_parts.proofs.Lists.{each-filter, each-insert_by, how_many-filter-le, length-filter-le, none_counted, not_counted}

-- lines that rise from n on rise from below it on
lines_lower : (m n : ℕ) (ws : List Waiter) → m ≤ n → lines_from n ws ≡ true → lines_from m ws ≡ true
lines_lower m n [] le k = refl
lines_lower m n (w ∷ ws) le k =
    let first = and_left (nat_le n w.0) (lines_from (suc w.0) ws) k in
    let lower : nat_le m w.0 ≡ true = grind (arith, nat_tests) in
    and_both (nat_le m w.0) (lines_from (suc w.0) ws) lower (and_right (nat_le n w.0) (lines_from (suc w.0) ws) k)

-- none is at a line below
none_below : (n m : ℕ) (ws : List Waiter) → n < m → lines_from m ws ≡ true → waits_at ws n ≡ false
none_below n m [] lt k = refl
none_below n m (w ∷ ws) lt k =
    let first = and_left (nat_le m w.0) (lines_from (suc w.0) ws) k in
    let other : (n == w.0) ≡ false = grind (arith, nat_tests) in
    or_false (n == w.0) (waits_at ws n) other (none_below n m ws lt (lines_lower m (suc w.0) ws (grind (arith, nat_tests)) (and_right (nat_le m w.0) (lines_from (suc w.0) ws) k)))

pub lines_insert : (n m : ℕ) (x : Wanted) (ws : List Waiter) → m ≤ n → waits_at ws n ≡ false → lines_from m ws ≡ true → lines_from m (insert_by waiter_line (n, x) ws) ≡ true
lines_insert n m x [] le none k = let low : nat_le m n ≡ true = grind (arith, nat_tests) in rw low refl
lines_insert n m x (w ∷ ws) le none k =
    step (nat_lt w.0 n) refl (λ up. lines_insert n (suc w.0) x ws up (or_second (n == w.0) (waits_at ws n) none) (and_right (nat_le m w.0) (lines_from (suc w.0) ws) k))
  where
    first : nat_le m w.0 ≡ true
    first = and_left (nat_le m w.0) (lines_from (suc w.0) ws) k

    rest : lines_from (suc w.0) ws ≡ true
    rest = and_right (nat_le m w.0) (lines_from (suc w.0) ws) k

    other : (n == w.0) ≡ false
    other = or_first (n == w.0) (waits_at ws n) none

    step : (b : Bool) → nat_lt w.0 n ≡ b → (suc w.0 ≤ n → lines_from (suc w.0) (insert_by waiter_line (n, x) ws) ≡ true)
        → lines_from m (if b then w ∷ insert_by waiter_line (n, x) ws else (n, x) ∷ w ∷ ws) ≡ true
    step true e ih =
        let above : suc w.0 ≤ n = grind (arith, nat_tests) in
        and_both (nat_le m w.0) (lines_from (suc w.0) (insert_by waiter_line (n, x) ws)) first (ih above)
    step false e ih =
        let low : nat_le m n ≡ true = grind (arith, nat_tests) in
        let next : nat_le (suc n) w.0 ≡ true = grind (arith, nat_tests, other) in
        and_both (nat_le m n) (nat_le (suc n) w.0 && lines_from (suc w.0) ws) low (and_both (nat_le (suc n) w.0) (lines_from (suc w.0) ws) next rest)

pub lines_without : (n m : ℕ) (ws : List Waiter) → lines_from m ws ≡ true → lines_from m (without n ws) ≡ true
lines_without n m [] k = refl
lines_without n m (w ∷ ws) k = step (n == w.0) (lines_without n (suc w.0) ws (and_right (nat_le m w.0) (lines_from (suc w.0) ws) k))
  where
    first : nat_le m w.0 ≡ true
    first = and_left (nat_le m w.0) (lines_from (suc w.0) ws) k

    step : (b : Bool) → lines_from (suc w.0) (without n ws) ≡ true → lines_from m (cond (not b) (w ∷ without n ws) (without n ws)) ≡ true
    step true rest = lines_lower m (suc w.0) (without n ws) (grind (arith, nat_tests, first)) rest
    step false rest = and_both (nat_le m w.0) (lines_from (suc w.0) (without n ws)) first rest

-- where no call of the line waits, all stay
without_none : (n : ℕ) (ws : List Waiter) → waits_at ws n ≡ false → without n ws ≡ ws
without_none n [] k = refl
without_none n (w ∷ ws) k = rw (or_first (n == w.0) (waits_at ws n) k) (ap (λ (vs : List Waiter). w ∷ vs) (without_none n ws (or_second (n == w.0) (waits_at ws n) k)))

itself : (n : ℕ) → (n == n) ≡ true
itself n = grind (arith, nat_tests)

-- the first goes alone
without_first : (m : ℕ) (w : Waiter) (ws : List Waiter) → lines_from m (w ∷ ws) ≡ true → without w.0 (w ∷ ws) ≡ ws
without_first m w ws k =
    rw (itself w.0) (without_none w.0 ws (none_below w.0 (suc w.0) ws (omega arith) (and_right (nat_le m w.0) (lines_from (suc w.0) ws) k)))

pub starts : (ws : List Waiter) (n : ℕ) (x : Wanted) → lines_from 0 ws ≡ true → slice_get ws 0 ≡ Some (n, x) → IsFirst n ws
starts [] n x k s = absurd cc
starts (w ∷ ws) n x k s =
    let same = without_first 0 w ws k in
    let it : w ≡ (n, x) = cc in
    subst (λ m. IsFirst m (w ∷ ws)) (ap (λ (v : Waiter). v.0) it) (record {
      others = λ y. ap (λ (vs : List Waiter). Answered w.0 (Ended y) ∷ ended vs y) (sym same);
      fewer = ap (λ (vs : List Waiter). suc (length vs)) (sym same);
    })

pub starts_none : (ws : List Waiter) → slice_get ws 0 ≡ None → ws ≡ []
starts_none [] s = refl
starts_none (w ∷ ws) s = absurd cc

-- a call at an index is at a line from the first on
line_at : (m i : ℕ) (ws : List Waiter) (n : ℕ) (x : Wanted) → lines_from m ws ≡ true → slice_get ws i ≡ Some (n, x) → m ≤ n
line_at m i [] n x k s = absurd cc
line_at m zero (w ∷ ws) n x k s =
    let first = and_left (nat_le m w.0) (lines_from (suc w.0) ws) k in
    let same : w ≡ (n, x) = cc in
    let line : w.0 ≡ n = ap (λ (v : Waiter). v.0) same in
    grind (arith, nat_tests)
line_at m (suc i) (w ∷ ws) n x k s =
    let first = and_left (nat_le m w.0) (lines_from (suc w.0) ws) k in
    let above = line_at (suc w.0) i ws n x (and_right (nat_le m w.0) (lines_from (suc w.0) ws) k) s in
    grind (arith, nat_tests)

no_place_at : (n : ℕ) (ws : List Waiter) → waits_at ws n ≡ false → has (λ w. (n == w.0) && is_place w) ws ≡ false
no_place_at n [] k = refl
no_place_at n (w ∷ ws) k = rw (or_first (n == w.0) (waits_at ws n) k) (no_place_at n ws (or_second (n == w.0) (waits_at ws n) k))

drop_none : (i : ℕ) → drop i (let none : List Waiter = [] in none) ≡ []
drop_none zero = refl
drop_none (suc i) = refl

at_more : (m i : ℕ) (w : Waiter) (ws : List Waiter) (o : Option Waiter) → lines_from m (w ∷ ws) ≡ true → slice_get ws i ≡ o → IsAt i ws o → IsAt (suc i) (w ∷ ws) o
at_more m i w ws None k s a = a
at_more m i w ws (Some (n, Place e r c)) k s a = (a.0, or_right (is_place_of e.value w) (has (is_place_of e.value) ws) a.1)
at_more m i w ws (Some (n, Identifier)) k s a =
    let above = line_at (suc w.0) i ws n Identifier (and_right (nat_le m w.0) (lines_from (suc w.0) ws) k) s in
    let other : (n == w.0) ≡ false = grind (arith, nat_tests) in
    (rw other a.0, rw other a.1)

pub at : (m i : ℕ) (ws : List Waiter) → lines_from m ws ≡ true → IsAt i ws (slice_get ws i)
at m i [] k = drop_none i
at m zero ((n, Identifier) ∷ ws) k =
    let rest = and_right (nat_le m n) (lines_from (suc n) ws) k in
    let none = none_below n (suc n) ws (omega arith) rest in
    (ap (λ (vs : List Waiter). (n, Identifier) ∷ vs) (sym (without_first m (n, Identifier) ws k)), or_false ((n == n) && false) (has (λ w. (n == w.0) && is_place w) ws) (and_never (n == n)) (no_place_at n ws none))
at m zero ((n, Place e r c) ∷ ws) k = (refl, rw (itself e.value) refl)
at m (suc i) (w ∷ ws) k = at_more m i w ws (slice_get ws i) k refl (at (suc w.0) i ws (and_right (nat_le m w.0) (lines_from (suc w.0) ws) k))

-- one more waits, whose place is new
pub add_waiter : (xs : List Row) (ws : List Waiter) (n : ℕ) (x : Wanted) → AreWaiting xs ws → waits_at ws n ≡ false → length ws < 32
    → ((e : ℕ) → is_place_of e (n, x) ≡ true → is_awaited ws e ≡ false) → is_to_come xs (n, x) ≡ true → AreWaiting xs (insert_by waiter_line (n, x) ws)
add_waiter xs ws n x w none few new come =
    record {
      rise = lines_insert n 0 x ws (omega arith) none w.rise;
      few = let long = length-insert_by waiter_line (n, x) ws in omega (arith, long, few);
      once = λ e. step e (is_place_of e (n, x)) refl;
      to_come = each-insert_by (is_to_come xs) waiter_line (n, x) ws ∙ and_both (is_to_come xs (n, x)) (each (is_to_come xs) ws) come w.to_come;
    }
  where
    step : (e : ℕ) (b : Bool) → is_place_of e (n, x) ≡ b → how_many (is_place_of e) (insert_by waiter_line (n, x) ws) ≤ 1
    step e true k =
        let more = how_many-insert_by (is_place_of e) waiter_line (n, x) ws in
        let zero : how_many (is_place_of e) ws ≡ 0 = not_counted (is_place_of e) ws (new e k) in
        let one : how_many (is_place_of e) (insert_by waiter_line (n, x) ws) ≡ 1 = more ∙ rw (k, zero) refl in
        omega (arith, one)
    step e false k =
        let more = how_many-insert_by (is_place_of e) waiter_line (n, x) ws in
        let same : how_many (is_place_of e) (insert_by waiter_line (n, x) ws) ≡ how_many (is_place_of e) ws = more ∙ rw k refl in
        omega (arith, same, w.once e)

-- those of a line are answered
pub drop_waiter : (xs : List Row) (ws : List Waiter) (n : ℕ) → AreWaiting xs ws → AreWaiting xs (without n ws)
drop_waiter xs ws n w =
    record {
      rise = lines_without n 0 ws w.rise;
      few = omega (arith, length-filter-le (λ v. not (n == v.0)) ws, w.few);
      once = λ e. omega (arith, how_many-filter-le (is_place_of e) (λ v. not (n == v.0)) ws, w.once e);
      to_come = each-filter (is_to_come xs) (λ v. not (n == v.0)) ws w.to_come;
    }

-- what stands changes, for the places that calls wait for
pub other_table : (xs ys : List Row) (ws : List Waiter) → ((e : ℕ) → is_awaited ws e ≡ true → has_row e ys ≡ has_row e xs) → AreWaiting xs ws → AreWaiting ys ws
other_table xs ys ws same w = record { rise = w.rise; few = w.few; once = w.once; to_come = come ws same w.to_come }
  where
    come : (vs : List Waiter) → ((e : ℕ) → is_awaited vs e ≡ true → has_row e ys ≡ has_row e xs) → each (is_to_come xs) vs ≡ true → each (is_to_come ys) vs ≡ true
    come [] s k = refl
    come ((n, Identifier) ∷ vs) s k = come vs (λ e a. s e a) k
    come ((n, Place f r c) ∷ vs) s k =
        let here = s f.value (rw (itself f.value) refl) in
        and_both (is_to_come ys (n, Place f r c)) (each (is_to_come ys) vs)
        (rw here (and_left (is_to_come xs (n, Place f r c)) (each (is_to_come xs) vs) k))
        (come vs (λ e a. s e (or_right (e == f.value) (is_awaited vs e) a)) (and_right (is_to_come xs (n, Place f r c)) (each (is_to_come xs) vs) k))

-- an enlistment for whose place no call waits
pub row_beside : (xs : List Row) (ws : List Waiter) (e : EnlNo) (c : Class) → is_awaited ws e.value ≡ false → AreWaiting xs ws → AreWaiting (with_row e c xs) ws
row_beside xs ws e c none w = other_table xs (with_row e c xs) ws same w
  where
    step : (f : ℕ) (b : Bool) → is_awaited ws f ≡ true → (f == e.value) ≡ b → (b || has_row f xs) ≡ has_row f xs
    step f false a k = refl
    step f true a k = let number : f ≡ e.value = grind (arith, nat_tests) in let never : is_awaited ws e.value ≡ true = subst (λ g. is_awaited ws g ≡ true) number a in absurd cc

    same : (f : ℕ) → is_awaited ws f ≡ true → has_row f (with_row e c xs) ≡ has_row f xs
    same f a = has-insert_by (is_of f) number_of (fresh_row e c (marks xs)) xs ∙ step f (f == e.value) a refl

-- what is found is at a line from the first on
found_line : (p : Waiter → Bool) (m : ℕ) (ws : List Waiter) (v : Waiter) → lines_from m ws ≡ true → find p ws ≡ Some v → m ≤ v.0
found_line p m [] v k f = absurd cc
found_line p m (w ∷ ws) v k f = step (p w) f (λ g. found_line p (suc w.0) ws v (and_right (nat_le m w.0) (lines_from (suc w.0) ws) k) g)
  where
    first : nat_le m w.0 ≡ true
    first = and_left (nat_le m w.0) (lines_from (suc w.0) ws) k

    step : (b : Bool) → cond b (Some w) (find p ws) ≡ Some v → (find p ws ≡ Some v → suc w.0 ≤ v.0) → m ≤ v.0
    step true g ih = let same : w ≡ v = cc in let line : w.0 ≡ v.0 = ap (λ (u : Waiter). u.0) same in grind (arith, nat_tests, first)
    step false g ih = let above = ih g in grind (arith, nat_tests, first)

-- A call waits for the place of this enlistment, which doesn't stand yet and is no volatile's. Once the call is answered no other waits for that place, and each
-- that waits for another still does.
pub record IsPlaceFound (xs : List Row) (ws : List Waiter) (e n : ℕ) (c : Class) : Type 0 where
  pub new : has_row e xs ≡ false
  pub lasting : is_volatile c ≡ false
  pub fewer : suc (how_many is_place (without n ws)) ≤ how_many is_place ws
  pub over : is_awaited (without n ws) e ≡ false
  pub others : (g : ℕ) → (g == e) ≡ false → is_awaited ws g ≡ true → is_awaited (without n ws) g ≡ true

place_first : (m : ℕ) (xs : List Row) (ws : List Waiter) (e n : ℕ) (f : EnlNo) (r : RmNo) (c : Class) → lines_from m ((n, Place f r c) ∷ ws) ≡ true
    → ((g : ℕ) → how_many (is_place_of g) ((n, Place f r c) ∷ ws) ≤ 1) → each (is_to_come xs) ((n, Place f r c) ∷ ws) ≡ true → (e == f.value) ≡ true
    → IsPlaceFound xs ((n, Place f r c) ∷ ws) e n c
place_first m xs ws e n f r c k once come same =
    let number : e ≡ f.value = grind (arith, nat_tests) in
    let here = and_left (is_to_come xs (n, Place f r c)) (each (is_to_come xs) ws) come in
    let alone = without_first m (n, Place f r c) ws k in
    record {
      new = subst (λ g. has_row g xs ≡ false) (sym number) (not_true (has_row f.value xs) (and_left (not (has_row f.value xs)) (not (is_volatile c)) here));
      lasting = not_true (is_volatile c) (and_right (not (has_row f.value xs)) (not (is_volatile c)) here);
      fewer = subst (λ (vs : List Waiter). suc (how_many is_place vs) ≤ suc (how_many is_place ws)) (sym alone) (omega arith);
      over = subst (λ (vs : List Waiter). is_awaited vs e ≡ false) (sym alone) (none_counted (is_place_of e) ws (let one = rw same at (once e) in omega (arith, one)));
      others = λ g other a. subst (λ (vs : List Waiter). is_awaited vs g ≡ true) (sym alone) (rw (subst (λ h. (g == h) ≡ false) number other) at a);
    }

place_later : (xs : List Row) (w : Waiter) (ws : List Waiter) (e n : ℕ) (c : Class) → (n == w.0) ≡ false → is_place_of e w ≡ false → IsPlaceFound xs ws e n c → IsPlaceFound xs (w ∷ ws) e n c
place_later xs w ws e n c other here p =
    let kept : without n (w ∷ ws) ≡ w ∷ without n ws = rw other refl in
    record {
      new = p.new;
      lasting = p.lasting;
      fewer = subst (λ (vs : List Waiter). suc (how_many is_place vs) ≤ how_many is_place (w ∷ ws)) (sym kept) (step (is_place w) p.fewer);
      over = subst (λ (vs : List Waiter). is_awaited vs e ≡ false) (sym kept) (or_false (is_place_of e w) (is_awaited (without n ws) e) here p.over);
      others = λ g k a. subst (λ (vs : List Waiter). is_awaited vs g ≡ true) (sym kept) (still g (is_place_of g w) k a);
    }
  where
    step : (b : Bool) → suc (how_many is_place (without n ws)) ≤ how_many is_place ws
        → suc (if b then suc (how_many is_place (without n ws)) else how_many is_place (without n ws)) ≤ (if b then suc (how_many is_place ws) else how_many is_place ws)
    step true le = omega (arith, le)
    step false le = le

    still : (g : ℕ) (b : Bool) → (g == e) ≡ false → (b || is_awaited ws g) ≡ true → (b || is_awaited (without n ws) g) ≡ true
    still g true k a = refl
    still g false k a = p.others g k a

pub place_found : (m : ℕ) (xs : List Row) (ws : List Waiter) (e n : ℕ) (f : EnlNo) (r : RmNo) (c : Class) → lines_from m ws ≡ true → ((g : ℕ) → how_many (is_place_of g) ws ≤ 1)
    → each (is_to_come xs) ws ≡ true → find (is_place_of e) ws ≡ Some (n, Place f r c) → IsPlaceFound xs ws e n c
place_found m xs [] e n f r c k once come found = absurd cc
place_found m xs (w ∷ ws) e n f r c k once come found =
    step (is_place_of e w) refl found (λ a b d h. place_found (suc w.0) xs ws e n f r c a b d h)
  where
    rest : lines_from (suc w.0) ws ≡ true
    rest = and_right (nat_le m w.0) (lines_from (suc w.0) ws) k

    fewer : (g : ℕ) → how_many (is_place_of g) ws ≤ 1
    fewer g = elim (is_place_of g w) as (λ b. (if b then suc (how_many (is_place_of g) ws) else how_many (is_place_of g) ws) ≤ 1 → how_many (is_place_of g) ws ≤ 1) [ true ↦ λ le. omega (arith, le) | false ↦ λ le. le ] (once g)

    first : (v : Waiter) → v ≡ (n, Place f r c) → lines_from m (v ∷ ws) ≡ true → ((g : ℕ) → how_many (is_place_of g) (v ∷ ws) ≤ 1) → each (is_to_come xs) (v ∷ ws) ≡ true → is_place_of e v ≡ true
        → IsPlaceFound xs (v ∷ ws) e n c
    first v same =
        subst (λ (u : Waiter). lines_from m (u ∷ ws) ≡ true → ((g : ℕ) → how_many (is_place_of g) (u ∷ ws) ≤ 1) → each (is_to_come xs) (u ∷ ws) ≡ true → is_place_of e u ≡ true → IsPlaceFound xs (u ∷ ws) e n c)
        (sym same) (λ a b d g. place_first m xs ws e n f r c a b d g)

    step : (b : Bool) → is_place_of e w ≡ b → cond b (Some w) (find (is_place_of e) ws) ≡ Some (n, Place f r c)
        → (lines_from (suc w.0) ws ≡ true → ((g : ℕ) → how_many (is_place_of g) ws ≤ 1) → each (is_to_come xs) ws ≡ true → find (is_place_of e) ws ≡ Some (n, Place f r c) → IsPlaceFound xs ws e n c)
        → IsPlaceFound xs (w ∷ ws) e n c
    step true here g ih = let same : w ≡ (n, Place f r c) = cc in first w same k once come here
    step false here g ih =
        let above = found_line (is_place_of e) (suc w.0) ws (n, Place f r c) rest g in
        let other : (n == w.0) ≡ false = grind (arith, nat_tests) in
        place_later xs w ws e n c other here (ih rest fewer (and_right (is_to_come xs w) (each (is_to_come xs) ws) come) g)

-- where no call waits, none does after an answer
pub without_nothing : (n : ℕ) (ws : List Waiter) → ws ≡ [] → without n ws ≡ []
without_nothing n ws none = ap (without n) none

pub without_fewer : (n : ℕ) (ws : List Waiter) → length ws ≡ 0 → length (without n ws) ≡ 0
without_fewer n ws none = let less = length-filter-le (λ w. not (n == w.0)) ws in omega (arith, less, none)

-- the place that is found is of this number
pub found_number : (e : ℕ) (ws : List Waiter) (n : ℕ) (f : EnlNo) (r : RmNo) (c : Class) → find (is_place_of e) ws ≡ Some (n, Place f r c) → e ≡ f.value
found_number e [] n f r c k = absurd cc
found_number e (w ∷ ws) n f r c k = step (is_place_of e w) refl k (λ g. found_number e ws n f r c g)
  where
    step : (b : Bool) → is_place_of e w ≡ b → cond b (Some w) (find (is_place_of e) ws) ≡ Some (n, Place f r c) → (find (is_place_of e) ws ≡ Some (n, Place f r c) → e ≡ f.value) → e ≡ f.value
    step true here g ih =
        let same : w ≡ (n, Place f r c) = cc in
        let passes : (e == f.value) ≡ true = subst (λ (v : Waiter). is_place_of e v ≡ true) same here in
        grind (arith, nat_tests)
    step false here g ih = ih g
