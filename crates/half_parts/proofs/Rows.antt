-- The enlistments and the places that calls wait for: how many they are.
use Rattle.std.proofs.Common.{◌≡◌, ◌≤◌, ◌<◌, ◌==◌, ◌+◌, ◌&&◌, ◌||◌, ℕ, suc, Bool, true, false, not, List, [], ◌∷◌, length, Option, Some, None, is_some, nat_le, if◌then◌else◌, refl, ap, ◌∙◌, arith}
use Rattle.std.proofs.lemmas.Bool.Decides.{nat_tests}
use Rattle.std.proofs.lemmas.List.{length-map}
use Rattle.dtx_values.specs.declared.number.EnlNo.{EnlNo}
use Rattle.dtx_values.specs.declared.number.RmNo.{RmNo}
use Rattle.dtx_values.specs.declared.row.Row.{Row}
use Rattle.dtx_values.specs.declared.words.Class.{Class}
use Rattle.dtx_values.specs.declared.words.Vote.{Vote}
use Rattle.dtx_values.specs.Class.{is_volatile}
use Rattle.dtx_values.specs.Row.{fresh_row, is_lasting, is_of, mark_in, mark_row, number_of, vote_in, vote_row}
use Rattle.dtx_values.specs.Table.{has_row, how_many, marks, with_mark, with_row, with_vote}
use Rattle.dtx_values.proofs.Counts.{how_many-le-length, how_many-none}
use Rattle.dtx_model.specs.Words.{has}
use Rattle.dtx_model.specs.Acts.{lasts}
use Rattle.dtx_model.specs.Waiting.{Waiter, is_place}
use Rattle.dtx_model.proofs.Bools.{and_never, or_first, or_right, or_second}
use Rattle.dtx_model.proofs.Counts.{how_many-insert_by, how_many-map, length-insert_by}
use Rattle.dtx_model.proofs.Passing.{has-insert_by, has-map}
use Rattle.enlist_table.specs.Refusals.{add_refusal}
use Rattle.half_parts.specs.Linked.{AreRows, is_managed}
use Rattle.half_parts.specs.Waits.{without}
use Rattle.half_parts.proofs.Waiters.{IsPlaceFound, without_fewer}

-- neither a mark nor a vote changes which enlistments stand and last
mark_lasts : (n e : ℕ) (x : Row) → is_lasting (mark_in e n x) ≡ is_lasting x
mark_lasts n e x = elim (is_of e x) as (λ b. is_lasting (if b then mark_row n x else x) ≡ is_lasting x) [ true ↦ refl | false ↦ refl ]

mark_number : (n e f : ℕ) (x : Row) → is_of f (mark_in e n x) ≡ is_of f x
mark_number n e f x = elim (is_of e x) as (λ b. is_of f (if b then mark_row n x else x) ≡ is_of f x) [ true ↦ refl | false ↦ refl ]

vote_lasts : (v : Vote) (e : ℕ) (x : Row) → is_lasting (vote_in e v x) ≡ is_lasting x
vote_lasts v e x = elim (is_of e x) as (λ b. is_lasting (if b then vote_row v x else x) ≡ is_lasting x) [ true ↦ refl | false ↦ refl ]

vote_number : (v : Vote) (e f : ℕ) (x : Row) → is_of f (vote_in e v x) ≡ is_of f x
vote_number v e f x = elim (is_of e x) as (λ b. is_of f (if b then vote_row v x else x) ≡ is_of f x) [ true ↦ refl | false ↦ refl ]

pub lasts-mark : (e : ℕ) (xs : List Row) (f : ℕ) → lasts (with_mark e xs) f ≡ lasts xs f
lasts-mark e xs f = has-map (λ x. is_of f x && is_lasting x) (mark_in e (marks xs)) (λ x. rw (mark_number (marks xs) e f x, mark_lasts (marks xs) e x) refl) xs

pub lasts-vote : (e : ℕ) (v : Vote) (xs : List Row) (f : ℕ) → lasts (with_vote e v xs) f ≡ lasts xs f
lasts-vote e v xs f = has-map (λ x. is_of f x && is_lasting x) (vote_in e v) (λ x. rw (vote_number v e f x, vote_lasts v e x) refl) xs

pub row-mark : (e : ℕ) (xs : List Row) (f : ℕ) → has_row f (with_mark e xs) ≡ has_row f xs
row-mark e xs f = has-map (is_of f) (mark_in e (marks xs)) (mark_number (marks xs) e f) xs

pub row-vote : (e : ℕ) (v : Vote) (xs : List Row) (f : ℕ) → has_row f (with_vote e v xs) ≡ has_row f xs
row-vote e v xs f = has-map (is_of f) (vote_in e v) (vote_number v e f) xs

-- one that lasts still does beside another
pub lasts-more : (e : EnlNo) (c : Class) (xs : List Row) (f : ℕ) → lasts xs f ≡ true → lasts (with_row e c xs) f ≡ true
lasts-more e c xs f k =
    let new = fresh_row e c (marks xs) in
    has-insert_by (λ x. is_of f x && is_lasting x) number_of new xs ∙ or_right (is_of f new && is_lasting new) (lasts xs f) k

-- and a new one does that is no volatile
pub lasts-new : (e : EnlNo) (c : Class) (xs : List Row) → is_volatile c ≡ false → lasts (with_row e c xs) e.value ≡ true
lasts-new e c xs v =
    let new = fresh_row e c (marks xs) in
    let itself : (e.value == e.value) ≡ true = grind (arith, nat_tests) in
    has-insert_by (λ x. is_of e.value x && is_lasting x) number_of new xs ∙ rw (itself, v) refl

managed_by : (xs ys : List Row) (m : Option (EnlNo × RmNo)) → ((f : ℕ) → lasts xs f ≡ true → lasts ys f ≡ true) → is_managed xs m ≡ true → is_managed ys m ≡ true
managed_by xs ys None more k = refl
managed_by xs ys (Some m) more k = more m.0.value k

-- a mark, and a vote
pub rows-mark : (l : Option ℕ) (p : Bool) (xs : List Row) (m : Option (EnlNo × RmNo)) (ws : List Waiter) (e : ℕ) → AreRows l p xs m ws → AreRows l p (with_mark e xs) m ws
rows-mark l p xs m ws e r =
    let long = length-map xs (mark_in e (marks xs)) in
    let last = how_many-map is_lasting (mark_in e (marks xs)) (mark_lasts (marks xs) e) xs in
    record {
      few = omega (arith, long, r.few);
      few_last = omega (arith, last, r.few_last);
      alone = λ k. omega (arith, last, r.alone k);
      managed = managed_by xs (with_mark e xs) m (λ f k. lasts-mark e xs f ∙ k) r.managed;
      begun = λ k. omega (arith, long, r.begun k);
    }

pub rows-vote : (l : Option ℕ) (p : Bool) (xs : List Row) (m : Option (EnlNo × RmNo)) (ws : List Waiter) (e : ℕ) (v : Vote) → AreRows l p xs m ws → AreRows l p (with_vote e v xs) m ws
rows-vote l p xs m ws e v r =
    let long = length-map xs (vote_in e v) in
    let last = how_many-map is_lasting (vote_in e v) (vote_lasts v e) xs in
    record {
      few = omega (arith, long, r.few);
      few_last = omega (arith, last, r.few_last);
      alone = λ k. omega (arith, last, r.alone k);
      managed = managed_by xs (with_vote e v xs) m (λ f k. lasts-vote e v xs f ∙ k) r.managed;
      begun = λ k. omega (arith, long, r.begun k);
    }

-- other calls wait: for no more places, or for so few
pub rows-waits : (l : Option ℕ) (p : Bool) (xs : List Row) (m : Option (EnlNo × RmNo)) (ws vs : List Waiter) → how_many is_place vs ≤ how_many is_place ws → (is_some l ≡ false → length ws ≡ 0 → length vs ≡ 0)
    → AreRows l p xs m ws → AreRows l p xs m vs
rows-waits l p xs m ws vs le none r =
    record {
      few = omega (arith, le, r.few);
      few_last = omega (arith, le, r.few_last);
      alone = r.alone;
      managed = r.managed;
      begun = λ k. let nothing = r.begun k in let zero = none k (omega (arith, nothing)) in omega (arith, nothing, zero);
    }

pub rows-awaited : (l : Option ℕ) (p : Bool) (xs : List Row) (m : Option (EnlNo × RmNo)) (ws vs : List Waiter) → how_many is_place vs ≡ suc (how_many is_place ws)
    → length xs + how_many is_place ws < 32 → how_many is_lasting xs + how_many is_place ws < 16 → is_some l ≡ true → AreRows l p xs m ws → AreRows l p xs m vs
rows-awaited l p xs m ws vs one few last some r =
    record { few = omega (arith, one, few); few_last = omega (arith, one, last); alone = r.alone; managed = r.managed; begun = λ k. absurd cc }

-- it is promoted
pub rows-promoted : (l : Option ℕ) (p : Bool) (xs : List Row) (m : Option (EnlNo × RmNo)) (ws : List Waiter) → AreRows l p xs m ws → AreRows l true xs m ws
rows-promoted l p xs m ws r = record { few = r.few; few_last = r.few_last; alone = λ k. absurd cc; managed = r.managed; begun = r.begun }

-- how many last with one more
last-row : (e : EnlNo) (c : Class) (xs : List Row) → how_many is_lasting (with_row e c xs) ≡ (if not (is_volatile c) then suc (how_many is_lasting xs) else how_many is_lasting xs)
last-row e c xs = how_many-insert_by is_lasting number_of (fresh_row e c (marks xs)) xs

-- an enlistment more, where there is room for it, and it comes alone if it lasts and nothing is promoted
pub rows-more : (l : Option ℕ) (p : Bool) (xs : List Row) (m : Option (EnlNo × RmNo)) (ws : List Waiter) (e : EnlNo) (c : Class)
    → length xs + how_many is_place ws < 32 → (is_volatile c ≡ false → how_many is_lasting xs + how_many is_place ws < 16) → (p ≡ false → (is_volatile c || not (has is_lasting xs)) ≡ true) → is_some l ≡ true
    → AreRows l p xs m ws → AreRows l p (with_row e c xs) m ws
rows-more l p xs m ws e c few last alone begun r =
    let long : length (with_row e c xs) ≡ suc (length xs) = length-insert_by number_of (fresh_row e c (marks xs)) xs in
    record {
      few = omega (arith, long, few);
      few_last = by_class (is_volatile c) (how_many is_lasting (with_row e c xs)) (last-row e c xs) last r.few_last;
      alone = λ k. by_place (is_volatile c) (has is_lasting xs) (how_many is_lasting xs) (how_many is_lasting (with_row e c xs)) (last-row e c xs) (alone k) (how_many-none is_lasting xs) (r.alone k);
      managed = managed_by xs (with_row e c xs) m (λ f k. lasts-more e c xs f k) r.managed;
      begun = λ k. absurd cc;
    }
  where
    by_class : (v : Bool) (n : ℕ) → n ≡ (if not v then suc (how_many is_lasting xs) else how_many is_lasting xs) → (v ≡ false → how_many is_lasting xs + how_many is_place ws < 16)
        → how_many is_lasting xs + how_many is_place ws ≤ 16 → n + how_many is_place ws ≤ 16
    by_class true n k lt le = omega (arith, k, le)
    by_class false n k lt le = omega (arith, k, lt refl)

    by_place : (v h : Bool) (n k : ℕ) → k ≡ (if not v then suc n else n) → (v || not h) ≡ true → (n == 0) ≡ not h → n ≤ 1 → k ≤ 1
    by_place true h n k q a z few = omega arith
    by_place false true n k q a z few = absurd cc
    by_place false false n k q a z few = grind (arith, nat_tests)

-- a place that a call waited for
pub rows-placed : (l : Option ℕ) (p : Bool) (xs : List Row) (m : Option (EnlNo × RmNo)) (ws : List Waiter) (e : EnlNo) (n : ℕ) (c : Class) → p ≡ true → IsPlaceFound xs ws e.value n c
    → AreRows l p xs m ws → AreRows l p (with_row e c xs) m (without n ws)
rows-placed l p xs m ws e n c promoted f r =
    rows-more l p xs m (without n ws) e c (omega (arith, f.fewer, r.few)) (λ v. omega (arith, f.fewer, r.few_last)) (λ k. absurd cc) (some l refl)
    (rows-waits l p xs m ws (without n ws) (omega (arith, f.fewer)) (λ k z. without_fewer n ws z) r)
  where
    some : (k : Option ℕ) → l ≡ k → is_some l ≡ true
    some (Some d) q = ap is_some q
    some None q =
        let nothing = r.begun (ap is_some q) in
        let most = how_many-le-length is_place ws in
        absurd (omega (arith, nothing, most, f.fewer))

-- another manager is kept, of one that lasts; and none is where none lasts
pub rows-managed : (l : Option ℕ) (p : Bool) (xs : List Row) (m k : Option (EnlNo × RmNo)) (ws : List Waiter) → is_managed xs k ≡ true → AreRows l p xs m ws → AreRows l p xs k ws
rows-managed l p xs m k ws managed r = record { few = r.few; few_last = r.few_last; alone = r.alone; managed = managed; begun = r.begun }

none_last : (xs : List Row) (e : ℕ) → has is_lasting xs ≡ false → lasts xs e ≡ false
none_last [] e k = refl
none_last (x ∷ xs) e k = rw (or_first (is_lasting x) (has is_lasting xs) k, and_never (is_of e x)) (none_last xs e (or_second (is_lasting x) (has is_lasting xs) k))

pub no_manager : (xs : List Row) (m : Option (EnlNo × RmNo)) → is_managed xs m ≡ true → has is_lasting xs ≡ false → is_some m ≡ false
no_manager xs None k none = refl
no_manager xs (Some m) k none = let never = none_last xs m.0.value none in absurd cc

-- the table takes a new one where there is room
pub taken : (e : EnlNo) (c : Class) (xs : List Row) → has_row e.value xs ≡ false → length xs < 32 → (is_volatile c ≡ false → how_many is_lasting xs < 16) → add_refusal e c xs ≡ None
taken e c xs new few last =
    let room : nat_le 32 (length xs) ≡ false = grind (arith, nat_tests) in
    rw (new, room, by (is_volatile c) last) refl
  where
    by : (v : Bool) → (v ≡ false → how_many is_lasting xs < 16) → (not v && nat_le 16 (how_many is_lasting xs)) ≡ false
    by true lt = refl
    by false lt = let less = lt refl in grind (arith, nat_tests)
