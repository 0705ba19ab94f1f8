-- What is kept of each pair stays the tally of its live writes, through puts and notes.
use Rattle.std.proofs.Common.{◌≡◌, ℕ, zero, suc, ◌+◌, ◌<◌, ◌==◌, Bool, true, false, cond, not, ◌&&◌, ◌||◌, List, [], ◌∷◌, map, filter, find, length, get_or, set, Option, Some, None, unwrap_or, refl, sym, ap, ◌∙◌, arith}
use Rattle.std.specs.List.{insert, list_any, slice_get}
use Rattle.std.specs.BTreeMap.{BTreeMap, get, is_at as is_key}
use Rattle.std.specs.Cmp.{both_tied, unsigned_ties}
use Rattle.std.specs.Ordering.{is_eq}
use Rattle.std.proofs.Math.Bool.{and-false, and-true}
use Rattle.std.proofs.lemmas.Bool.{and_parts, eqb-true, or_parts}
use Rattle.std.proofs.lemmas.Bool.Decides.{nat_tests}
use Rattle.std.proofs.lemmas.List.Sums.{length-filter}
use Rattle.std.proofs.lemmas.Map.Views.{any-filter_same}
use Rattle.std.proofs.lemmas.Option.{get_or_from_slice_get}
use Rattle.tx_map.specs.declared.pairs.PairTally.{PairTally}
use Rattle.tx_map.specs.declared.write.LiveWrite.{LiveWrite}
use Rattle.tx_map.specs.Live.{Pair, has_live, is_at, is_of, others, own, write_key}
use Rattle.tx_map.specs.Notes.{marked}
use Rattle.tx_map.specs.Order.{IsRisingFrom}
use Rattle.tx_map.specs.Pairs.{AreTallied, SetsTally, is_pair, marked_in, no_tally, pair_cmp, tally_at, tally_of, with_keys}
use Rattle.tx_map.specs.Puts.{has_voted, other_keys}
use Rattle.tx_map.proofs.Rising.{find-none}

-- the tally that is kept of a pair with these writes
abbrev pub kept_of : Pair → List LiveWrite → Option PairTally
kept_of p ws = cond (has_live p ws) (Some (tally_of p ws)) None

-- ---- pairs

-- the same numbers are the same pair
alike : (p q : Pair) → is_pair p q ≡ true → (p.0.value ≡ q.0.value) × (p.1.value ≡ q.1.value)
alike p q e =
    let parts = and_parts (p.0.value == q.0.value) (p.1.value == q.1.value) e in
    (eqb-true p.0.value q.0.value parts.0, eqb-true p.1.value q.1.value parts.1)

-- a write is of at most one pair
apart : (p q : Pair) (w : LiveWrite) → is_pair p q ≡ false → is_of q w ≡ true → is_of p w ≡ false
apart p q w other mine =
    let parts = and_parts (w.transaction.value == q.0.value) (w.enlistment.value == q.1.value) mine in
    rw (eqb-true w.transaction.value q.0.value parts.0, eqb-true w.enlistment.value q.1.value parts.1) (turned q.0.value p.0.value q.1.value p.1.value other)
  where
    turned : (a b c d : ℕ) → ((b == a) && (d == c)) ≡ false → ((a == b) && (c == d)) ≡ false
    turned a b c d e = grind (arith, nat_tests)

-- so they have the same live writes
same-is_of : (p q : Pair) (w : LiveWrite) → is_pair p q ≡ true → is_of p w ≡ is_of q w
same-is_of p q w e = let a = alike p q e in λ i. (w.transaction.value == a.0 i) && (w.enlistment.value == a.1 i)

same-own : (p q : Pair) (ws : List LiveWrite) → is_pair p q ≡ true → own p ws ≡ own q ws
same-own p q ws e = let a = alike p q e in λ i. filter (λ w. (w.transaction.value == a.0 i) && (w.enlistment.value == a.1 i)) ws

same-live : (p q : Pair) (ws : List LiveWrite) → is_pair p q ≡ true → has_live p ws ≡ has_live q ws
same-live p q ws e = let a = alike p q e in λ i. list_any (λ w. (w.transaction.value == a.0 i) && (w.enlistment.value == a.1 i)) ws

same-voted : (p q : Pair) (ws : List LiveWrite) → is_pair p q ≡ true → has_voted p ws ≡ has_voted q ws
same-voted p q ws e = let a = alike p q e in λ i. list_any (λ w. ((w.transaction.value == a.0 i) && (w.enlistment.value == a.1 i)) && w.voted) ws

pub tally_number : (m : BTreeMap (ℕ × ℕ) PairTally) (p : Pair) (a b : ℕ) → a ≡ p.0.value → b ≡ p.1.value → get pair_cmp m (a, b) ≡ tally_at m p
tally_number m p a b is_a is_b = λ i. get pair_cmp m (is_a i, is_b i)

-- what a map keeps of the numbers of a pair, it keeps of the pair
pub sets_tally : (m n : BTreeMap (ℕ × ℕ) PairTally) (p : Pair) (x : Option PairTally) (a b : ℕ) → a ≡ p.0.value → b ≡ p.1.value → ((k : ℕ × ℕ) → get pair_cmp n k ≡ cond (is_key (pair_cmp (a, b)) k) x (get pair_cmp m k)) → SetsTally m n p x
sets_tally m n p x a b is_a is_b h q =
    let tied : ((a == q.0.value) && (b == q.1.value)) ≡ is_eq (pair_cmp (a, b) (q.0.value, q.1.value)) = both_tied _ _ _ _ (unsigned_ties a q.0.value) (unsigned_ties b q.1.value) in
    let pair : ((a == q.0.value) && (b == q.1.value)) ≡ is_pair p q = λ i. (is_a i == q.0.value) && (is_b i == q.1.value) in
    h (q.0.value, q.1.value) ∙ ap (λ (t : Bool). cond t x (tally_at m q)) (sym tied ∙ pair)

-- ---- lists

module _ (f : LiveWrite → Bool) where
  or-swap : (a b c : Bool) → (a || (b || c)) ≡ (b || (a || c))
  or-swap true true c = refl
  or-swap true false c = refl
  or-swap false b c = refl

  -- a write that comes in is found beside the others
  any-insert : (ws : List LiveWrite) (i : ℕ) (x : LiveWrite) → list_any f (insert ws i x) ≡ (f x || list_any f ws)
  any-insert [] zero x = refl
  any-insert [] (suc i) x = refl
  any-insert (w ∷ ws) zero x = refl
  any-insert (w ∷ ws) (suc i) x = ap (λ (b : Bool). f w || b) (any-insert ws i x) ∙ or-swap (f w) (f x) (list_any f ws)

  -- and is counted
  count-insert : (ws : List LiveWrite) (i : ℕ) (x : LiveWrite) → length (filter f (insert ws i x)) ≡ length (filter f (x ∷ ws))
  count-insert [] zero x = refl
  count-insert [] (suc i) x = refl
  count-insert (w ∷ ws) zero x = refl
  count-insert (w ∷ ws) (suc i) x = by (f w) (f x) (count-insert ws i x)
    where
      by : (s t : Bool) → length (filter f (insert ws i x)) ≡ length (cond t (x ∷ filter f ws) (filter f ws)) → length (cond s (w ∷ filter f (insert ws i x)) (filter f (insert ws i x))) ≡ length (cond t (x ∷ cond s (w ∷ filter f ws) (filter f ws)) (cond s (w ∷ filter f ws) (filter f ws)))
      by true true e = omega (arith, e)
      by true false e = omega (arith, e)
      by false true e = e
      by false false e = e

  -- a write in the place of one that is alike changes nothing
  any-set : (ws : List LiveWrite) (i : ℕ) (x : LiveWrite) → i < length ws → f (get_or ws i x) ≡ f x → list_any f (set ws i x) ≡ list_any f ws
  any-set [] i x lt e = refl
  any-set (w ∷ ws) zero x lt e = ap (λ (b : Bool). b || list_any f ws) (sym e)
  any-set (w ∷ ws) (suc i) x lt e = ap (λ (b : Bool). f w || b) (any-set ws i x (omega arith) e)

  count-set : (ws : List LiveWrite) (i : ℕ) (x : LiveWrite) → i < length ws → f (get_or ws i x) ≡ f x → length (filter f (set ws i x)) ≡ length (filter f ws)
  count-set [] i x lt e = refl
  count-set (w ∷ ws) zero x lt e = by (f w) (f x) e
    where
      by : (s t : Bool) → s ≡ t → length (cond t (x ∷ filter f ws) (filter f ws)) ≡ length (cond s (w ∷ filter f ws) (filter f ws))
      by true true e = refl
      by true false e = cc e
      by false true e = cc e
      by false false e = refl
  count-set (w ∷ ws) (suc i) x lt e = by (f w) (count-set ws i x (omega arith) e)
    where
      by : (s : Bool) → length (filter f (set ws i x)) ≡ length (filter f ws) → length (cond s (w ∷ filter f (set ws i x)) (filter f (set ws i x))) ≡ length (cond s (w ∷ filter f ws) (filter f ws))
      by true e = omega (arith, e)
      by false e = e

  -- what a filter keeps is found as before
  own-filter : (g : LiveWrite → Bool) (ws : List LiveWrite) → ((w : LiveWrite) → f w ≡ true → g w ≡ true) → filter f (filter g ws) ≡ filter f ws
  own-filter g [] h = refl
  own-filter g (w ∷ ws) h = by (f w) (g w) refl refl (own-filter g ws h)
    where
      by : (s t : Bool) → f w ≡ s → g w ≡ t → filter f (filter g ws) ≡ filter f ws → filter f (cond t (w ∷ filter g ws) (filter g ws)) ≡ cond s (w ∷ filter f ws) (filter f ws)
      by true true d e r = rw d (ap (λ xs. w ∷ xs) r)
      by true false d e r = absurd (cc (h w d))
      by false true d e r = rw d r
      by false false d e r = r

-- ---- what is kept

-- the tally of the pair, and that of no live write where it has none
pub tally_is : (p : Pair) (ws : List LiveWrite) → unwrap_or (kept_of p ws) no_tally ≡ tally_of p ws
tally_is p ws = by (has_live p ws) refl
  where
    nothing : (vs : List LiveWrite) → has_live p vs ≡ false → (own p vs ≡ []) × (has_voted p vs ≡ false)
    nothing [] e = (refl, refl)
    nothing (w ∷ vs) e =
        let parts = or_parts (is_of p w) (has_live p vs) e in
        let rest = nothing vs parts.1 in
        (rw parts.0 rest.0, rw parts.0 rest.1)

    by : (b : Bool) → has_live p ws ≡ b → unwrap_or (cond b (Some (tally_of p ws)) None) no_tally ≡ tally_of p ws
    by true e = refl
    by false e = let none = nothing ws e in rw (none.0, none.1) refl

module _ (p : Pair) (ws : List LiveWrite) (m n : BTreeMap (ℕ × ℕ) PairTally) (tallied : AreTallied ws m) where
  -- by whether a pair is this one
  each : (vs : List LiveWrite) (x : Option PairTally) → SetsTally m n p x → ((q : Pair) → is_pair p q ≡ true → x ≡ kept_of q vs) → ((q : Pair) → is_pair p q ≡ false → kept_of q ws ≡ kept_of q vs) → AreTallied vs n
  each vs x sets same others q = sets q ∙ by (is_pair p q) refl
    where
      by : (b : Bool) → is_pair p q ≡ b → cond b x (tally_at m q) ≡ kept_of q vs
      by true e = same q e
      by false e = tallied q ∙ others q e

  -- a new write of a pair that has not voted is counted
  pub tallied-insert : (i : ℕ) (x : LiveWrite) (keys : ℕ) → p ≡ (x.transaction, x.enlistment) → x.voted ≡ false → has_voted p ws ≡ false → keys ≡ length (own p ws) + 1 → SetsTally m n p (Some (with_keys keys)) → AreTallied (insert ws i x) n
  tallied-insert i x keys is new free more sets = each (insert ws i x) (Some (with_keys keys)) sets same others
    where
      mine : (q : Pair) → is_of q x ≡ is_pair p q
      mine q = rw is refl

      -- the write isn't voted
      silent : (q : Pair) → has_voted q (insert ws i x) ≡ has_voted q ws
      silent q = any-insert (λ w. is_of q w && w.voted) ws i x ∙ rw (new, and-false (is_of q x)) refl

      same : (q : Pair) → is_pair p q ≡ true → Some (with_keys keys) ≡ kept_of q (insert ws i x)
      same q e =
          let own_is : length (own q (insert ws i x)) ≡ suc (length (own q ws)) = count-insert (is_of q) ws i x ∙ rw (mine q ∙ e) refl in
          let count : keys ≡ suc (length (own q ws)) = omega (arith, more, ap length (same-own p q ws e)) in
          rw (any-insert (is_of q) ws i x, mine q ∙ e, own_is, silent q, sym (same-voted p q ws e), free, count) refl

      others : (q : Pair) → is_pair p q ≡ false → kept_of q ws ≡ kept_of q (insert ws i x)
      others q e =
          let own_is : length (own q (insert ws i x)) ≡ length (own q ws) = count-insert (is_of q) ws i x ∙ rw (mine q ∙ e) refl in
          rw (any-insert (is_of q) ws i x, mine q ∙ e, own_is, silent q) refl

  -- the pair's live writes are marked, and so is its tally
  pub tallied-marked : SetsTally m n p (marked_in (tally_at m p)) → AreTallied (map (marked p) ws) n
  tallied-marked sets = each (map (marked p) ws) (marked_in (tally_at m p)) sets same others
    where
      live-marked : (q : Pair) (vs : List LiveWrite) → has_live q (map (marked p) vs) ≡ has_live q vs
      live-marked q [] = refl
      live-marked q (w ∷ vs) = ap (λ (b : Bool). is_of q w || b) (live-marked q vs)

      own-marked : (q : Pair) (vs : List LiveWrite) → length (own q (map (marked p) vs)) ≡ length (own q vs)
      own-marked q [] = refl
      own-marked q (w ∷ vs) = by (is_of q w) (own-marked q vs)
        where
          by : (b : Bool) → length (own q (map (marked p) vs)) ≡ length (own q vs) → length (cond b (marked p w ∷ own q (map (marked p) vs)) (own q (map (marked p) vs))) ≡ length (cond b (w ∷ own q vs) (own q vs))
          by true e = omega (arith, e)
          by false e = e

      -- the pair has voted where it has a live write
      voted-same : (q : Pair) → is_pair p q ≡ true → (vs : List LiveWrite) → has_voted q (map (marked p) vs) ≡ has_live p vs
      voted-same q e [] = refl
      voted-same q e (w ∷ vs) = rw (sym (same-is_of p q w e), voted-same q e vs) (by (is_of p w) w.voted (has_live p vs))
        where
          by : (o v l : Bool) → ((o && (v || o)) || l) ≡ (o || l)
          by true true l = refl
          by true false l = refl
          by false v l = refl

      voted-other : (q : Pair) → is_pair p q ≡ false → (vs : List LiveWrite) → has_voted q (map (marked p) vs) ≡ has_voted q vs
      voted-other q e [] = refl
      voted-other q e (w ∷ vs) = rw (voted-other q e vs) (by (is_of q w) (is_of p w) w.voted (apart p q w e))
        where
          by : (s t v : Bool) → (s ≡ true → t ≡ false) → ((s && (v || t)) || has_voted q vs) ≡ ((s && v) || has_voted q vs)
          by true true v h = absurd (cc (h refl))
          by true false true h = refl
          by true false false h = refl
          by false t v h = refl

      marked_kept : (b : Bool) (k l : ℕ) (v : Bool) → k ≡ l → marked_in (cond b (Some (record { keys = k; voted = v })) None) ≡ cond b (Some (record { keys = l; voted = b })) None
      marked_kept true k l v e = rw e refl
      marked_kept false k l v e = refl

      same : (q : Pair) → is_pair p q ≡ true → marked_in (tally_at m p) ≡ kept_of q (map (marked p) ws)
      same q e =
          let count : length (own p ws) ≡ length (own q (map (marked p) ws)) = ap length (same-own p q ws e) ∙ sym (own-marked q ws) in
          let live : has_live q (map (marked p) ws) ≡ has_live p ws = live-marked q ws ∙ sym (same-live p q ws e) in
          ap marked_in (tallied p) ∙ marked_kept (has_live p ws) _ _ (has_voted p ws) count ∙ rw (live, voted-same q e ws) refl

      others : (q : Pair) → is_pair p q ≡ false → kept_of q ws ≡ kept_of q (map (marked p) ws)
      others q e = rw (live-marked q ws, own-marked q ws, voted-other q e ws) refl

  -- the pair's live writes are dropped, and so is its tally
  pub tallied-others : SetsTally m n p None → AreTallied (others p ws) n
  tallied-others sets = each (others p ws) None sets same rest
    where
      gone : (q : Pair) → is_pair p q ≡ true → (vs : List LiveWrite) → has_live q (others p vs) ≡ false
      gone q e [] = refl
      gone q e (w ∷ vs) = by (is_of p w) refl (gone q e vs)
        where
          by : (b : Bool) → is_of p w ≡ b → has_live q (others p vs) ≡ false → has_live q (cond (not b) (w ∷ others p vs) (others p vs)) ≡ false
          by true d r = r
          by false d r = rw (sym (same-is_of p q w e), d) r

      same : (q : Pair) → is_pair p q ≡ true → None ≡ kept_of q (others p ws)
      same q e = rw (gone q e ws) refl

      other : (q : Pair) → is_pair p q ≡ false → (w : LiveWrite) → is_of q w ≡ true → not (is_of p w) ≡ true
      other q e w mine = rw (apart p q w e mine) refl

      other_voted : (q : Pair) → is_pair p q ≡ false → (w : LiveWrite) → (is_of q w && w.voted) ≡ true → not (is_of p w) ≡ true
      other_voted q e w both = other q e w (and_parts (is_of q w) w.voted both).0

      rest : (q : Pair) → is_pair p q ≡ false → kept_of q ws ≡ kept_of q (others p ws)
      rest q e =
          rw (any-filter_same (is_of q) (λ w. not (is_of p w)) true (other q e) ws, any-filter_same (λ w. is_of q w && w.voted) (λ w. not (is_of p w)) true (other_voted q e) ws, own-filter (is_of q) (λ w. not (is_of p w)) ws (other q e)) refl

-- a write in the place of one of its pair, neither of them voted
pub tallied-set : (ws : List LiveWrite) (m : BTreeMap (ℕ × ℕ) PairTally) (i : ℕ) (w x : LiveWrite) → AreTallied ws m → slice_get ws i ≡ Some w → is_of (x.transaction, x.enlistment) w ≡ true → w.voted ≡ false → x.voted ≡ false → AreTallied (set ws i x) m
tallied-set ws m i w x tallied here mine silent new q =
    let lt : i < length ws = within ws i here in
    let is : get_or ws i x ≡ w = get_or_from_slice_get ws i w x here in
    let pair : is_of q w ≡ is_of q x = let a = alike_write in λ i. (a.0 i == q.0.value) && (a.1 i == q.1.value) in
    let same : is_of q (get_or ws i x) ≡ is_of q x = ap (is_of q) is ∙ pair in
    let quiet : (is_of q (get_or ws i x) && (get_or ws i x).voted) ≡ (is_of q x && x.voted) = rw (is, silent, new, and-false (is_of q w), and-false (is_of q x)) refl in
    tallied q ∙ rw (any-set (is_of q) ws i x lt same, count-set (is_of q) ws i x lt same, any-set (λ v. is_of q v && v.voted) ws i x lt quiet) refl
  where
    within : (vs : List LiveWrite) (j : ℕ) → slice_get vs j ≡ Some w → j < length vs
    within [] j e = absurd (cc e)
    within (v ∷ vs) zero e = omega arith
    within (v ∷ vs) (suc j) e = let r = within vs j e in omega (arith, r)

    alike_write : (w.transaction.value ≡ x.transaction.value) × (w.enlistment.value ≡ x.enlistment.value)
    alike_write =
        let parts = and_parts (w.transaction.value == x.transaction.value) (w.enlistment.value == x.enlistment.value) mine in
        (eqb-true w.transaction.value x.transaction.value parts.0, eqb-true w.enlistment.value x.enlistment.value parts.1)

-- ---- the pair's other keys

-- where the key has no live write, all its keys are others
others-all : (p : Pair) (k : ℕ) (ws : List LiveWrite) → find (is_at k) ws ≡ None → filter (λ w. is_of p w && not (is_at k w)) ws ≡ own p ws
others-all p k [] e = refl
others-all p k (w ∷ ws) e = by (is_at k w) refl e (others-all p k ws)
  where
    by : (b : Bool) → is_at k w ≡ b → cond b (Some w) (find (is_at k) ws) ≡ None → (find (is_at k) ws ≡ None → filter (λ w. is_of p w && not (is_at k w)) ws ≡ own p ws) → filter (λ w. is_of p w && not (is_at k w)) (w ∷ ws) ≡ own p (w ∷ ws)
    by true d e r = absurd (cc e)
    by false d e r = rw (d, r e, and-true (is_of p w)) refl

pub other_keys-all : (p : Pair) (k : ℕ) (ws : List LiveWrite) → find (is_at k) ws ≡ None → other_keys p k ws ≡ length (own p ws)
other_keys-all p k ws e = sym (length-filter (λ w. is_of p w && not (is_at k w)) ws) ∙ ap length (others-all p k ws e)

-- where it has the pair's own, all but that one are
others-own : (p : Pair) (k n : ℕ) (ws : List LiveWrite) (u : LiveWrite) → IsRisingFrom write_key n ws → find (is_at k) ws ≡ Some u → is_of p u ≡ true → suc (length (filter (λ w. is_of p w && not (is_at k w)) ws)) ≡ length (own p ws)
others-own p k n [] u h e mine = absurd (cc e)
others-own p k n (w ∷ ws) u h e mine = by (is_at k w) refl e (others-own p k (suc w.key) ws u h.1)
  where
    kept : List LiveWrite
    kept = filter (λ w. is_of p w && not (is_at k w)) ws

    -- the first write is of another key
    after : (o : Bool) → suc (length kept) ≡ length (own p ws) → suc (length (cond o (w ∷ kept) kept)) ≡ length (cond o (w ∷ own p ws) (own p ws))
    after true r = omega (arith, r)
    after false r = r

    by : (b : Bool) → is_at k w ≡ b → cond b (Some w) (find (is_at k) ws) ≡ Some u → (find (is_at k) ws ≡ Some u → is_of p u ≡ true → suc (length kept) ≡ length (own p ws)) → suc (length (filter (λ w. is_of p w && not (is_at k w)) (w ∷ ws))) ≡ length (own p (w ∷ ws))
    by true d e r =
        let is : w ≡ u = cc e in
        let first : is_of p w ≡ true = ap (is_of p) is ∙ mine in
        let same : w.key ≡ k = eqb-true w.key k d in
        let none : find (is_at k) ws ≡ None = find-none write_key k (suc w.key) ws (omega (arith, same)) h.1 in
        rw (d, and-false (is_of p w), first) (ap (λ vs. suc (length vs)) (others-all p k ws none))
    by false d e r = rw (d, and-true (is_of p w)) (after (is_of p w) (r e mine))

pub other_keys-own : (p : Pair) (k : ℕ) (ws : List LiveWrite) (u : LiveWrite) → IsRisingFrom write_key 0 ws → find (is_at k) ws ≡ Some u → is_of p u ≡ true → suc (other_keys p k ws) ≡ length (own p ws)
other_keys-own p k ws u h e mine = ap suc (sym (length-filter (λ w. is_of p w && not (is_at k w)) ws)) ∙ others-own p k 0 ws u h e mine
