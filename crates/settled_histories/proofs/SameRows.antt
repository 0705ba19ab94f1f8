-- The rows of a table where each enlistment is made once: two of one number are one, and each mark and vote is the history's.
use Rattle.std.proofs.Common.{◌≡◌, ℕ, ◌==◌, Bool, true, false, ◌&&◌, ◌||◌, List, [], ◌∷◌, Option, Some, None, refl, ◌∙◌, ap, sym, subst, map}
use Rattle.std.specs.Prelude.{find, is_some, nat_lt, not, if◌then◌else◌}
use Rattle.std.specs.List.{slice_get}
use Rattle.std.proofs.lemmas.Bool.{eqb-true, or_left}
use Rattle.dtx_values.specs.declared.entry.Ask.TheVariants.{Prepare}
use Rattle.dtx_values.specs.declared.entry.Entry.{Entry}
use Rattle.dtx_values.specs.declared.entry.Entry.TheVariants.{Enlisted, Asked, Voted}
use Rattle.dtx_values.specs.declared.row.Row.{Row}
use Rattle.dtx_values.specs.Row.{fresh_row, has_voted, is_marked, is_of, mark_in, mark_row, number_of, unless_there, vote_in, vote_row}
use Rattle.dtx_values.specs.Table.{insert_by, marks, was_asked, voted}
use Rattle.dtx_model.specs.Words.{has, always}
use Rattle.dtx_model.specs.Entries.{is_asked, is_vote}
use Rattle.dtx_model.specs.Observed.{rows}
use Rattle.dtx_model.proofs.Bools.{and_both, and_left, and_right, or_case, or_first, or_right, or_second, not_both, not_true}
use Rattle.history_table.proofs.Tests.{apart, eq_self, eq_swap}
use Rattle.history_table.proofs.Lists.{OfEach, has-insert, if_kept, of-at, of-insert, of-map, of-more, has_kept}
use Rattle.history_table.proofs.EntryTests.{is_enlisted}
use Rattle.history_table.proofs.TableRows.{enlisted_in_rows, there}
use Rattle.history_table.proofs.CoreKnown.{has_made}

-- Rows of the table of rules: an enlistment is made once; and it is asked to prepare where it was made.
abbrev pub is_made_once : List Entry → Entry → Bool
is_made_once past (Enlisted e c) = not (has (is_enlisted e.value) past)
is_made_once past x = true

abbrev pub is_asked_there : List Entry → Entry → Bool
is_asked_there past (Asked e Prepare) = has (is_enlisted e.value) past
is_asked_there past x = true

-- one more at its place: what is found is as before, where the new one doesn't pass, or is the new one, where it alone does
find_other : (p : Row → Bool) (y : Row) (xs : List Row) → p y ≡ false → find p (insert_by number_of y xs) ≡ find p xs
find_other p y [] n = rw n refl
find_other p y (x ∷ xs) n = step (nat_lt (number_of x) (number_of y)) (find_other p y xs n)
  where
    step : (b : Bool) → find p (insert_by number_of y xs) ≡ find p xs → find p (if b then x ∷ insert_by number_of y xs else y ∷ x ∷ xs) ≡ find p (x ∷ xs)
    step true ih = ap (λ o. if p x then Some x else o) ih
    step false ih = rw n refl

find_own : (p : Row → Bool) (y : Row) (xs : List Row) → p y ≡ true → has p xs ≡ false → find p (insert_by number_of y xs) ≡ Some y
find_own p y [] k n = rw k refl
find_own p y (x ∷ xs) k n = step (nat_lt (number_of x) (number_of y)) (find_own p y xs k (or_second (p x) (has p xs) n))
  where
    step : (b : Bool) → find p (insert_by number_of y xs) ≡ Some y → find p (if b then x ∷ insert_by number_of y xs else y ∷ x ∷ xs) ≡ Some y
    step true ih = rw (or_first (p x) (has p xs) n) ih
    step false ih = rw k refl

-- a change that keeps the test: what is found is changed
abbrev changed : (Row → Row) → Option Row → Option Row
changed f (Some x) = Some (f x)
changed f None = None

find_changed : (p : Row → Bool) (f : Row → Row) → ((x : Row) → p (f x) ≡ p x) → (xs : List Row) → find p (map f xs) ≡ changed f (find p xs)
find_changed p f same [] = refl
find_changed p f same (x ∷ xs) = rw (same x) (step (p x) (find_changed p f same xs))
  where
    step : (b : Bool) → find p (map f xs) ≡ changed f (find p xs) → (if b then Some (f x) else find p (map f xs)) ≡ changed f (if b then Some x else find p xs)
    step true ih = refl
    step false ih = ih

-- the row is the one that is found by its number
abbrev pub IsFound : List Row → Row → Type 0
IsFound xs x = find (is_of x.number.value) xs ≡ Some x

changed_found : (e : ℕ) (g : Row → Row) → ((n : ℕ) (x : Row) → is_of n (g x) ≡ is_of n x) → ((x : Row) → (g x).number.value ≡ x.number.value) → (xs : List Row) (x : Row) → IsFound xs x
    → IsFound (map (λ y. if is_of e y then g y else y) xs) (if is_of e x then g x else x)
changed_found e g same name xs x k =
    let f = λ (y : Row). if is_of e y then g y else y in
    of_name (is_of e x) ∙ find_changed (is_of x.number.value) f (λ y. if_kept (is_of x.number.value) (is_of e y) (g y) y (same x.number.value y)) xs ∙ ap (changed f) k
  where
    of_name : (b : Bool) → find (is_of (if b then g x else x).number.value) (map (λ y. if is_of e y then g y else y) xs) ≡ find (is_of x.number.value) (map (λ y. if is_of e y then g y else y) xs)
    of_name true = ap (λ n. find (is_of n) (map (λ y. if is_of e y then g y else y) xs)) (name x)
    of_name false = refl

found_has : (p : Row → Bool) (xs : List Row) (x : Row) → find p xs ≡ Some x → has p xs ≡ true
found_has p [] x e = absurd cc
found_has p (y ∷ ys) x e = step (found_has p ys x) (p y) e
  where
    step : (find p ys ≡ Some x → has p ys ≡ true) → (b : Bool) → (if b then Some y else find p ys) ≡ Some x → (b || has p ys) ≡ true
    step ih true e = refl
    step ih false e = ih e

-- each row is the one that is found by its number
rows_found : (h : List Entry) → always is_made_once h ≡ true → OfEach (IsFound (rows h)) (rows h)
rows_found [] r = tt
rows_found (Enlisted e c ∷ h) r =
    let fresh = fresh_row e c (marks (rows h)) in
    let new : has (is_of e.value) (rows h) ≡ false = enlisted_in_rows e.value h ∙ not_true (has (is_enlisted e.value) h) (and_left (not (has (is_enlisted e.value) h)) (always is_made_once h) r) in
    of-insert (IsFound (insert_by number_of fresh (rows h))) number_of fresh (find_own (is_of e.value) fresh (rows h) (eq_self e.value) new) (rows h)
    (of-more (IsFound (rows h)) (IsFound (insert_by number_of fresh (rows h)))
    (λ x k. find_other (is_of x.number.value) fresh (rows h)
    (eq_swap x.number.value e.value ∙ apart (λ m. has (is_of m) (rows h)) e.value x.number.value new (found_has (is_of x.number.value) (rows h) x k)) ∙ k) (rows h)
    (rows_found h (and_right (not (has (is_enlisted e.value) h)) (always is_made_once h) r)))
rows_found (Asked e Prepare ∷ h) r =
    let n = marks (rows h) in
    of-map (IsFound (rows h)) (IsFound (map (mark_in e.value n) (rows h))) (mark_in e.value n) (changed_found e.value (mark_row n) (λ m x. refl) (λ x. refl) (rows h)) (rows h)
    (rows_found h r)
rows_found (Voted e v ∷ h) r =
    of-map (IsFound (rows h)) (IsFound (map (vote_in e.value v) (rows h))) (vote_in e.value v) (changed_found e.value (vote_row v) (λ m x. refl) (λ x. refl) (rows h)) (rows h) (rows_found h r)
rows_found (x ∷ h) r = rows_found h (and_right (is_made_once h x) (always is_made_once h) r)

-- the row at a place is found by its number
pub row_found : (h : List Entry) (k : ℕ) (x : Row) → always is_made_once h ≡ true → slice_get (rows h) k ≡ Some x → find (is_of x.number.value) (rows h) ≡ Some x
row_found h k x r e = of-at (IsFound (rows h)) (rows h) k x (rows_found h r) e

-- where some row of a number passes, the one that is found by it does
pub found_passes : (h : List Entry) (n : ℕ) (q : Row → Bool) (x : Row) → always is_made_once h ≡ true → find (is_of n) (rows h) ≡ Some x → has (λ y. is_of n y && q y) (rows h) ≡ true → q x ≡ true
found_passes h n q x r e k = of_each (rows h) (rows_found h r) k
  where
    own : (y : Row) → find (is_of y.number.value) (rows h) ≡ Some y → (is_of n y && q y) ≡ true → q x ≡ true
    own y f a =
        let name : n ≡ y.number.value = eqb-true n y.number.value (and_left (is_of n y) (q y) a) in
        let both : Some x ≡ Some y = sym e ∙ ap (λ m. find (is_of m) (rows h)) name ∙ f in
        let same : x ≡ y = cc in
        subst (λ z. q z ≡ true) (sym same) (and_right (is_of n y) (q y) a)

    of_each : (ys : List Row) → OfEach (IsFound (rows h)) ys → has (λ y. is_of n y && q y) ys ≡ true → q x ≡ true
    of_each [] w k = absurd cc
    of_each (y ∷ ys) w k = or_case (is_of n y && q y) (has (λ y. is_of n y && q y) ys) (own y w.0) (of_each ys w.1) k

-- Marks and votes. One row of a number after a change of another's is as before.
stays : (e f : ℕ) (t : Row → Bool) (g : Row → Row) → ((x : Row) → is_of e (g x) ≡ is_of e x) → (e == f) ≡ false → (x : Row) (b : Bool) → is_of f x ≡ b
    → (is_of e (if b then g x else x) && t (if b then g x else x)) ≡ true → (is_of e x && t x) ≡ true
stays e f t g same other x true q k =
    let own : is_of e x ≡ true = sym (same x) ∙ and_left (is_of e (g x)) (t (g x)) k in
    let names : e ≡ f = eqb-true e x.number.value own ∙ sym (eqb-true f x.number.value q) in
    absurd (not_both (e == f) (subst (λ m. (e == m) ≡ true) names (eq_self e)) other)
stays e f t g same other x false q k = k

pub unmapped : (p q : Row → Bool) (f : Row → Row) → ((x : Row) → q (f x) ≡ true → p x ≡ true) → (xs : List Row) → has q (map f xs) ≡ true → has p xs ≡ true
unmapped p q f sub [] k = absurd cc
unmapped p q f sub (x ∷ xs) k = or_case (q (f x)) (has q (map f xs)) (λ a. or_left (p x) (has p xs) (sub x a)) (λ a. or_right (p x) (has p xs) (unmapped p q f sub xs a)) k

-- a row that is marked was asked
pub marked_asked : (e : ℕ) (h : List Entry) → was_asked e (rows h) ≡ true → has (is_asked e) h ≡ true
marked_asked e [] k = absurd cc
marked_asked e (Enlisted f c ∷ h) k =
    let fresh = fresh_row f c (marks (rows h)) in
    or_case ((e == f.value) && false) (was_asked e (rows h)) (λ a. absurd (not_both false (and_right (e == f.value) false a) refl)) (marked_asked e h)
    (sym (has-insert (λ x. is_of e x && is_marked x) number_of fresh (rows h)) ∙ k)
marked_asked e (Asked f Prepare ∷ h) k = step (marked_asked e h) (e == f.value) refl
  where
    n : ℕ
    n = marks (rows h)

    step : (was_asked e (rows h) ≡ true → has (is_asked e) h ≡ true) → (b : Bool) → (e == f.value) ≡ b → (b || has (is_asked e) h) ≡ true
    step ih true q = refl
    step ih false q =
        ih
        (unmapped (λ x. is_of e x && is_marked x) (λ x. is_of e x && is_marked x) (mark_in f.value n) (λ x a. stays e f.value is_marked (mark_row n) (λ y. refl) q x (is_of f.value x) refl a) (rows h) k)
marked_asked e (Voted f v ∷ h) k =
    marked_asked e h
    (sym (has_kept (λ x. is_of e x && is_marked x) (vote_in f.value v) (λ x. if_kept (λ x. is_of e x && is_marked x) (is_of f.value x) (vote_row v x) x refl) (rows h)) ∙ k)
marked_asked e (x ∷ h) k = marked_asked e h k

-- a row with a vote voted
pub voted_cast : (e : ℕ) (h : List Entry) → voted e (rows h) ≡ true → has (is_vote e) h ≡ true
voted_cast e [] k = absurd cc
voted_cast e (Enlisted f c ∷ h) k =
    let fresh = fresh_row f c (marks (rows h)) in
    or_case ((e == f.value) && false) (voted e (rows h)) (λ a. absurd (not_both false (and_right (e == f.value) false a) refl)) (voted_cast e h)
    (sym (has-insert (λ x. is_of e x && has_voted x) number_of fresh (rows h)) ∙ k)
voted_cast e (Asked f Prepare ∷ h) k =
    voted_cast e h
    (sym (has_kept (λ x. is_of e x && has_voted x) (mark_in f.value (marks (rows h))) (λ x. if_kept (λ x. is_of e x && has_voted x) (is_of f.value x) (mark_row (marks (rows h)) x) x refl) (rows h)) ∙ k)
voted_cast e (Voted f v ∷ h) k = step (voted_cast e h) (e == f.value) refl
  where
    step : (voted e (rows h) ≡ true → has (is_vote e) h ≡ true) → (b : Bool) → (e == f.value) ≡ b → (b || has (is_vote e) h) ≡ true
    step ih true q = refl
    step ih false q =
        ih
        (unmapped (λ x. is_of e x && has_voted x) (λ x. is_of e x && has_voted x) (vote_in f.value v) (λ x a. stays e f.value has_voted (vote_row v) (λ y. refl) q x (is_of f.value x) refl a) (rows h) k)
voted_cast e (x ∷ h) k = voted_cast e h k

-- and who was asked has a row that is marked
pub asked_marked : (e : ℕ) (h : List Entry) → always is_asked_there h ≡ true → has (is_asked e) h ≡ true → was_asked e (rows h) ≡ true
asked_marked e [] r k = absurd cc
asked_marked e (Enlisted f c ∷ h) r k =
    let fresh = fresh_row f c (marks (rows h)) in
    has-insert (λ x. is_of e x && is_marked x) number_of fresh (rows h)
    ∙ or_right ((e == f.value) && false) (was_asked e (rows h)) (asked_marked e h r k)
asked_marked e (Asked f Prepare ∷ h) r k =
    or_case (e == f.value) (has (is_asked e) h)
    (λ q. let name : e ≡ f.value = eqb-true e f.value q in
    let stands : has (is_of f.value) (rows h) ≡ true = enlisted_in_rows f.value h ∙ and_left (has (is_enlisted f.value) h) (always is_asked_there h) r in
    subst (λ m. was_asked m (map (mark_in f.value n) (rows h)) ≡ true) (sym name)
    (has_made (is_of f.value) (λ x. is_of f.value x && is_marked x) (mark_in f.value n) (λ x a. own x (is_of f.value x) refl a) (rows h) stands))
    (λ q. has_made (λ x. is_of e x && is_marked x) (λ x. is_of e x && is_marked x) (mark_in f.value n) (λ x a. kept x (is_of f.value x) a) (rows h)
    (asked_marked e h (and_right (has (is_enlisted f.value) h) (always is_asked_there h) r) q)) k
  where
    n : ℕ
    n = marks (rows h)

    own : (x : Row) (b : Bool) → is_of f.value x ≡ b → b ≡ true → (is_of f.value (if b then mark_row n x else x) && is_marked (if b then mark_row n x else x)) ≡ true
    own x true q a = and_both (is_of f.value x) (is_some (unless_there x.asked n)) q (there x.asked n)
    own x false q a = absurd cc

    kept : (x : Row) (b : Bool) → (is_of e x && is_marked x) ≡ true → (is_of e (if b then mark_row n x else x) && is_marked (if b then mark_row n x else x)) ≡ true
    kept x true a = and_both (is_of e x) (is_some (unless_there x.asked n)) (and_left (is_of e x) (is_marked x) a) (there x.asked n)
    kept x false a = a
asked_marked e (Voted f v ∷ h) r k =
    has_kept (λ x. is_of e x && is_marked x) (vote_in f.value v) (λ x. if_kept (λ x. is_of e x && is_marked x) (is_of f.value x) (vote_row v x) x refl) (rows h) ∙ asked_marked e h r k
asked_marked e (x ∷ h) r k = asked_marked e h (and_right (is_asked_there h x) (always is_asked_there h) r) k
