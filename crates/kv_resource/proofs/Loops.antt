-- The loops over the writes of a record, read and written, and over the slots of a store.
use Rattle.std.proofs.Common.{◌≡◌, ℕ, suc, ◌-◌, ◌+◌, ◌*◌, ◌≤◌, ◌<◌, Bool, true, false, List, [], ◌∷◌, ◌++◌, length, get_or, take, drop, Result, Ok, Err, Option, Some, None, refl, sym, ap, ◌∙◌, arith}
use Rattle.std.proofs.lemmas.Bool.Decides.{nat_tests}
use Rattle.std.proofs.lemmas.List.{append-nil, at_drop_more, drop_all, take_more, flat_map_more}
use Rattle.std.specs.Prelude.{is_some, find}
use Rattle.std.specs.List.{flat_map}
use Rattle.slotted.proofs.Fronts.{regroup, with_front}
use Rattle.kv_resource.specs.Bytes.{KvRecord, are_spelled, is_above, number32, number64, write_bytes, writes_at}
use Rattle.kv_resource.specs.Store.{above_highest, open_records}
use Rattle.kv_resource.proofs.Tables.{spelled_of, spelled_parts}

-- ---- reading

abbrev pub Writes : Type 0
Writes = List (ℕ × ℕ)

-- a write that is read is in the front of the rest
pub goes_on : (front : Writes) (n i : ℕ) (before : Option ℕ) (b : List ℕ) (total : Result (Writes × List ℕ) ℕ) → i < n → is_above before (number32 b) ≡ true
    → with_front front (writes_at (n - i) (12 + 12 * i) before b) ≡ total
    → with_front (front ++ (number32 b, number64 (drop 4 b)) ∷ []) (writes_at (n - (i + 1)) (12 + 12 * (i + 1)) (Some (number32 b)) (drop 12 b)) ≡ total
unfolding writes_at
goes_on front n i before b total lt h so_far =
    let k : n - i ≡ suc (n - (i + 1)) = omega arith in
    let m : 12 + 12 * i + 12 ≡ 12 + 12 * (i + 1) = omega arith in
    let rest : Result (Writes × List ℕ) ℕ = writes_at (n - (i + 1)) (12 + 12 * (i + 1)) (Some (number32 b)) (drop 12 b) in
    let one : with_front front (writes_at (n - i) (12 + 12 * i) before b) ≡ with_front (front ++ (number32 b, number64 (drop 4 b)) ∷ []) rest =
    rw (k, h, m) (regroup front (number32 b, number64 (drop 4 b)) rest) in
    sym one ∙ so_far

-- a key that isn't above the one before it ends the reading
pub ends : (front : Writes) (n i : ℕ) (before : Option ℕ) (b : List ℕ) (total : Result (Writes × List ℕ) ℕ) → i < n → is_above before (number32 b) ≡ false
    → with_front front (writes_at (n - i) (12 + 12 * i) before b) ≡ total → total ≡ Err (12 + 12 * i)
unfolding writes_at
ends front n i before b total lt h so_far =
    let k : n - i ≡ suc (n - (i + 1)) = omega arith in
    let one : with_front front (writes_at (n - i) (12 + 12 * i) before b) ≡ Err (12 + 12 * i) = rw (k, h) refl in
    sym so_far ∙ one

-- behind the last write the front is all that was read
pub is_done : (front : Writes) (n i place : ℕ) (before : Option ℕ) (b : List ℕ) (total : Result (Writes × List ℕ) ℕ) → n ≤ i
    → with_front front (writes_at (n - i) place before b) ≡ total → total ≡ Ok (front, b)
unfolding writes_at
is_done front n i place before b total le so_far =
    let k : n - i ≡ 0 = omega arith in
    let one : with_front front (writes_at (n - i) place before b) ≡ Ok (front, b) = rw k (ap (λ (ws : Writes). Ok (ws, b)) (append-nil front)) in
    sym so_far ∙ one

-- the key of the last write, or the one before them all
abbrev pub last_key : Option ℕ → Writes → Option ℕ
last_key before [] = before
last_key before (w ∷ ws) = last_key (Some w.0) ws

pub last_push : (before : Option ℕ) (ws : Writes) (w : ℕ × ℕ) → last_key before (ws ++ w ∷ []) ≡ Some w.0
last_push before [] w = refl
last_push before (x ∷ ws) w = last_push (Some x.0) ws w

-- writes with one more behind them are spelled
pub spelled_push : (before : Option ℕ) (ws : Writes) (w : ℕ × ℕ) → are_spelled before ws ≡ true → is_above (last_key before ws) w.0 ≡ true → w.0 < 4294967296 → w.1 < 18446744073709551616
    → are_spelled before (ws ++ w ∷ []) ≡ true
spelled_push before [] w e a kf vf = spelled_of before w [] a (grind (arith, nat_tests)) (grind (arith, nat_tests)) refl
spelled_push before (x ∷ ws) w e a kf vf =
    let p = spelled_parts before x ws e in
    spelled_of before x (ws ++ w ∷ []) p.0 p.1 p.2 (spelled_push (Some x.0) ws w p.3 a kf vf)

-- ---- writing

-- the bytes of one more write
pub write_more : (f : List ℕ) (ws : Writes) (i : ℕ) (d : ℕ × ℕ) → i < length ws → (f ++ flat_map write_bytes (take i ws)) ++ write_bytes (get_or ws i d) ≡ f ++ flat_map write_bytes (take (i + 1) ws)
write_more f ws i d lt = flat_map_more write_bytes f (take i ws) (get_or ws i d) ∙ ap (λ (l : Writes). f ++ flat_map write_bytes l) (sym (take_more ws i d lt))

-- ---- the first that passes

pub find_here : {X : Type 0} (q : X → Bool) (xs : List X) (i : ℕ) (d : X) → i < length xs → q (get_or xs i d) ≡ true → find q (drop i xs) ≡ Some (get_or xs i d)
find_here q xs i d lt test = at_drop_more (find q) xs i d lt ∙ (rw test refl)

pub find_there : {X : Type 0} (q : X → Bool) (xs : List X) (i : ℕ) (d : X) → i < length xs → q (get_or xs i d) ≡ false → find q (drop i xs) ≡ find q (drop (i + 1) xs)
find_there q xs i d lt test = at_drop_more (find q) xs i d lt ∙ (rw test refl)

pub find_past : {X : Type 0} (q : X → Bool) (xs : List X) (i : ℕ) → length xs ≤ i → find q (drop i xs) ≡ None
find_past q xs i le = ap (find q) (drop_all i xs le)

-- ---- slots, one after the other

-- a record that is there comes first among those that are left
pub open_at : (ss : List (Option KvRecord)) (i : ℕ) (s : Option KvRecord) (r : KvRecord) → i < length ss → s ≡ get_or ss i s → s ≡ Some r → open_records (drop i ss) ≡ r ∷ open_records (drop (i + 1) ss)
open_at ss i s r lt is some = at_drop_more open_records ss i s lt ∙ ap (λ (x : Option KvRecord). open_records (x ∷ drop (i + 1) ss)) (sym is ∙ some)

-- a closed slot has none
pub closed_at : (ss : List (Option KvRecord)) (i : ℕ) (s : Option KvRecord) → i < length ss → s ≡ get_or ss i s → s ≡ None → open_records (drop i ss) ≡ open_records (drop (i + 1) ss)
closed_at ss i s lt is none = at_drop_more open_records ss i s lt ∙ ap (λ (x : Option KvRecord). open_records (x ∷ drop (i + 1) ss)) (sym is ∙ none)

-- where one is there, the next slot comes after it
highest_some : (k : ℕ) (s : Option KvRecord) (ss : List (Option KvRecord)) (n : ℕ) → is_some s ≡ true → above_highest k (s ∷ ss) n ≡ above_highest (k + 1) ss (k + 1)
highest_some k None ss n e = absurd cc
highest_some k (Some r) ss n e = let one : suc k ≡ k + 1 = omega arith in ap (λ (j : ℕ). above_highest j ss j) one

highest_none : (k : ℕ) (s : Option KvRecord) (ss : List (Option KvRecord)) (n : ℕ) → is_some s ≡ false → above_highest k (s ∷ ss) n ≡ above_highest (k + 1) ss n
highest_none k (Some r) ss n e = absurd cc
highest_none k None ss n e = let one : suc k ≡ k + 1 = omega arith in ap (λ (j : ℕ). above_highest j ss n) one

pub next_some : (ss : List (Option KvRecord)) (k : ℕ) (s : Option KvRecord) (n : ℕ) → k < length ss → s ≡ get_or ss k s → is_some s ≡ true → above_highest (k + 1) (drop (k + 1) ss) (k + 1) ≡ above_highest k (drop k ss) n
next_some ss k s n lt is some = sym (at_drop_more (λ (l : List (Option KvRecord)). above_highest k l n) ss k s lt ∙ highest_some k (get_or ss k s) (drop (k + 1) ss) n (ap is_some (sym is) ∙ some))

pub next_none : (ss : List (Option KvRecord)) (k : ℕ) (s : Option KvRecord) (n : ℕ) → k < length ss → s ≡ get_or ss k s → is_some s ≡ false → above_highest (k + 1) (drop (k + 1) ss) n ≡ above_highest k (drop k ss) n
next_none ss k s n lt is none = sym (at_drop_more (λ (l : List (Option KvRecord)). above_highest k l n) ss k s lt ∙ highest_none k (get_or ss k s) (drop (k + 1) ss) n (ap is_some (sym is) ∙ none))

pub next_done : (ss : List (Option KvRecord)) (k n : ℕ) → length ss ≤ k → above_highest k (drop k ss) n ≡ above_highest 0 ss 0 → n ≡ above_highest 0 ss 0
next_done ss k n le e = ap (λ (l : List (Option KvRecord)). above_highest k l n) (sym (drop_all k ss le)) ∙ e
