-- The live write of a key among writes in order of key.
use Rattle.std.proofs.Common.{◌≡◌, ℕ, suc, ◌+◌, ◌<◌, ◌≤◌, ◌==◌, nat_lt, nat_le, Bool, true, false, cond, not, ◌&&◌, List, [], ◌∷◌, ◌++◌, map, filter, find, set, Option, Some, None, refl, sym, ap, ◌∙◌, arith}
use Rattle.std.specs.Bool.{if◌then◌else◌}
use Rattle.std.specs.List.{insert}
use Rattle.std.proofs.Math.Bool.{and-false}
use Rattle.std.proofs.lemmas.Bool.{le-ltb, lt-ltb}
use Rattle.std.proofs.lemmas.Bool.Decides.{nat_tests}
use Rattle.std.proofs.lemmas.List.{set_split}
use Rattle.dtx_values.specs.Table.{insert_by}
use Rattle.tx_map.specs.declared.write.LiveWrite.{LiveWrite}
use Rattle.tx_map.specs.Live.{Pair, is_at, is_of, write_key}
use Rattle.tx_map.specs.Notes.{marked}
use Rattle.tx_map.specs.Order.{IsAt, IsGapFor, IsRising, IsRisingFrom, above, below}
use Rattle.tx_map.specs.declared.refusal.MapRefusal.TheVariants.{Over}
use Rattle.tx_map.specs.declared.refusal.TheConstants.{KEYS}
use Rattle.tx_map.specs.Puts.{has_voted, is_of_another, is_own_at, other_keys, put_refusal, refused_by, with_live, write_of}
use Rattle.tx_map.proofs.Merging.{rising-with}
use Rattle.tx_map.proofs.Rising.{above-all, below-none}

-- the write, unless it is the pair's
abbrev pub another_in : Pair → Option LiveWrite → Option LiveWrite
another_in p (Some w) = if is_of p w then None else Some w
another_in p None = None

pub another_in-mine : (p : Pair) (w : LiveWrite) → is_of p w ≡ true → another_in p (Some w) ≡ None
another_in-mine p w e = rw e refl

pub another_in-other : (p : Pair) (w : LiveWrite) → is_of p w ≡ false → another_in p (Some w) ≡ Some w
another_in-other p w e = rw e refl

-- where the keys rise from beyond the key, it has no write, of another pair or its own
find_another-none : (p : Pair) (k n : ℕ) (ws : List LiveWrite) → k < n → IsRisingFrom write_key n ws → find (is_of_another p k) ws ≡ None
find_another-none p k n [] le h = refl
find_another-none p k n (w ∷ ws) le h =
    let e : (w.key == k) ≡ false = grind (arith, nat_tests, h.0) in
    rw (e, and-false (not (is_of p w))) (find_another-none p k (suc w.key) ws (omega (arith, h.0)) h.1)

filter_own-none : (p : Pair) (k n : ℕ) (ws : List LiveWrite) → k < n → IsRisingFrom write_key n ws → filter (λ w. not (is_own_at p k w)) ws ≡ ws
filter_own-none p k n [] le h = refl
filter_own-none p k n (w ∷ ws) le h =
    let e : (w.key == k) ≡ false = grind (arith, nat_tests, h.0) in
    rw (e, and-false (is_of p w)) (ap (λ ys. w ∷ ys) (filter_own-none p k (suc w.key) ws (omega (arith, h.0)) h.1))

-- another pair's write of the key is the key's write
pub find-another : (p : Pair) (k n : ℕ) (ws : List LiveWrite) → IsRisingFrom write_key n ws → find (is_of_another p k) ws ≡ another_in p (find (is_at k) ws)
find-another p k n [] h = refl
find-another p k n (w ∷ ws) h = by (is_of p w) (w.key == k) refl refl (find-another p k (suc w.key) ws h.1)
  where
    by : (o e : Bool) → is_of p w ≡ o → (w.key == k) ≡ e → find (is_of_another p k) ws ≡ another_in p (find (is_at k) ws) → cond (not o && e) (Some w) (find (is_of_another p k) ws) ≡ another_in p (cond e (Some w) (find (is_at k) ws))
    by true true d e r = let same : w.key ≡ k = grind (arith, nat_tests) in rw d (find_another-none p k (suc w.key) ws (omega arith) h.1)
    by true false d e r = r
    by false true d e r = rw d refl
    by false false d e r = r

-- at the front of what rises from beyond its key, a write comes first
insert_by-first : (x : LiveWrite) (n : ℕ) (ws : List LiveWrite) → x.key ≤ n → IsRisingFrom write_key n ws → insert_by write_key x ws ≡ x ∷ ws
insert_by-first x n [] le h = refl
insert_by-first x n (w ∷ ws) le h = rw (le-ltb w.key x.key (omega (arith, h.0))) refl

-- a put into writes in order, where no other pair has the key: those below it, the write, and those above
pub with_live-parts : (p : Pair) (k : ℕ) (v : Option ℕ) (n : ℕ) (ws : List LiveWrite) → IsRisingFrom write_key n ws → find (is_of_another p k) ws ≡ None → with_live p k v ws ≡ below write_key k ws ++ write_of p k v ∷ above write_key k ws
with_live-parts p k v n [] h free = refl
with_live-parts p k v n (w ∷ ws) h free =
    by (nat_lt w.key k) (w.key == k) (is_of p w) refl refl free (λ found. with_live-parts p k v (suc w.key) ws h.1 found)
  where
    x : LiveWrite
    x = write_of p k v

    kept : List LiveWrite
    kept = filter (λ w. not (is_own_at p k w)) ws

    -- the goal, by how the first write compares
    Goal : (l e o : Bool) → Type 0
    Goal l e o = insert_by write_key x (cond (not (o && e)) (w ∷ kept) kept) ≡ cond l (w ∷ below write_key k ws) (below write_key k ws) ++ x ∷ above write_key k (w ∷ ws)

    -- the first write is below the key
    lower : w.key < k → with_live p k v ws ≡ below write_key k ws ++ x ∷ above write_key k ws → insert_by write_key x (w ∷ kept) ≡ (w ∷ below write_key k ws) ++ x ∷ above write_key k (w ∷ ws)
    lower lt rest = rw (lt-ltb w.key k lt, le-ltb k w.key (omega arith)) (ap (λ ys. w ∷ ys) rest)

    -- it is the pair's earlier write of the key
    same : w.key ≡ k → insert_by write_key x kept ≡ below write_key k ws ++ x ∷ above write_key k (w ∷ ws)
    same e = rw (filter_own-none p k (suc w.key) ws (omega arith) h.1, insert_by-first x (suc w.key) ws (omega arith) h.1, below-none write_key k (suc w.key) ws (omega arith) h.1, le-ltb k w.key (omega arith), above-all write_key k (suc w.key) ws (omega arith) h.1) refl

    -- it is above the key
    higher : k < w.key → insert_by write_key x (w ∷ kept) ≡ below write_key k ws ++ x ∷ above write_key k (w ∷ ws)
    higher lt = rw (filter_own-none p k (suc w.key) ws (omega arith) h.1, le-ltb w.key k (omega arith), below-none write_key k (suc w.key) ws (omega arith) h.1, lt-ltb k w.key lt, above-all write_key k (suc w.key) ws (omega arith) h.1) refl

    by : (l e o : Bool) → nat_lt w.key k ≡ l → (w.key == k) ≡ e → cond (not o && e) (Some w) (find (is_of_another p k) ws) ≡ None → (find (is_of_another p k) ws ≡ None → with_live p k v ws ≡ below write_key k ws ++ x ∷ above write_key k ws) → Goal l e o
    by true true o d f found rest = absurd (let lt : w.key < k = grind (arith, nat_tests) in grind (arith, nat_tests))
    by true false true d f found rest = lower (grind (arith, nat_tests)) (rest found)
    by true false false d f found rest = lower (grind (arith, nat_tests)) (rest found)
    by false true true d f found rest = same (grind (arith, nat_tests))
    by false true false d f found rest = absurd (cc found)
    by false false true d f found rest = higher (grind (arith, nat_tests))
    by false false false d f found rest = higher (grind (arith, nat_tests))

module _ (p : Pair) (k : ℕ) (v : Option ℕ) (ws : List LiveWrite) (h : IsRising write_key ws) (free : find (is_of_another p k) ws ≡ None) where
  -- a put over the pair's earlier write of the key
  pub with_live-set : (i : ℕ) → IsAt write_key ws k i → set ws i (write_of p k v) ≡ with_live p k v ws
  with_live-set i at =
      let next : i + 1 ≡ suc i = omega arith in
      set_split ws i (write_of p k v) at.in_range ∙ sym (with_live-parts p k v 0 ws h free ∙ rw (at.below_it, at.above_it, next) refl)

  -- a put of a key that has no live write
  pub with_live-insert : (i : ℕ) → IsGapFor write_key ws k i → insert ws i (write_of p k v) ≡ with_live p k v ws
  with_live-insert i gap = sym (with_live-parts p k v 0 ws h free ∙ rw (gap.below_it, gap.above_it) refl)

  -- the writes stay in order
  pub rising-with_live : IsRising write_key (with_live p k v ws)
  rising-with_live = rw (with_live-parts p k v 0 ws h free) (rising-with write_key (write_of p k v) ws h)

-- marks keep the order
pub rising-marked : (p : Pair) (n : ℕ) (ws : List LiveWrite) → IsRisingFrom write_key n ws → IsRisingFrom write_key n (map (marked p) ws)
rising-marked p n [] h = tt
rising-marked p n (w ∷ ws) h = (h.0, rising-marked p (suc w.key) ws h.1)

-- a put that isn't refused finds no other pair's write
pub refusal-none : (p : Pair) (k : ℕ) (ws : List LiveWrite) → put_refusal p k ws ≡ None → find (is_of_another p k) ws ≡ None
refusal-none p k ws e = by (has_voted p ws) (find (is_of_another p k) ws) (nat_le KEYS (other_keys p k ws)) e
  where
    by : (v : Bool) (o : Option LiveWrite) (many : Bool) → cond v (Some (Over p.0 p.1)) (refused_by o many) ≡ None → o ≡ None
    by true o many e = absurd (cc e)
    by false (Some w) many e = absurd (cc e)
    by false None many e = refl

-- nor a vote of the pair
pub refusal-voted : (p : Pair) (k : ℕ) (ws : List LiveWrite) → put_refusal p k ws ≡ None → has_voted p ws ≡ false
refusal-voted p k ws e = by (has_voted p ws) e
  where
    by : (v : Bool) → cond v (Some (Over p.0 p.1)) (refused_by (find (is_of_another p k) ws) (nat_le KEYS (other_keys p k ws))) ≡ None → v ≡ false
    by true e = absurd (cc e)
    by false e = refl
