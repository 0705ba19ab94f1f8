-- Where a put goes, and why it is refused, by the tally of its pair and what a search for its key finds.
use Rattle.std.proofs.Common.{◌≡◌, ℕ, ◌+◌, ◌<◌, ◌≤◌, Bool, true, false, ◌&&◌, List, get_or, find, set, Option, Some, None, unwrap_or, refl, sym, ap, ◌∙◌, arith}
use Rattle.std.specs.BTreeMap.{BTreeMap}
use Rattle.std.specs.List.{slice_get}
use Rattle.std.proofs.lemmas.Bool.{le-leb, lt-leb}
use Rattle.std.proofs.lemmas.List.Folds.{list_any_at}
use Rattle.std.proofs.lemmas.Option.{slice_get-get_or}
use Rattle.tx_map.specs.declared.pairs.PairTally.{PairTally}
use Rattle.tx_map.specs.declared.refusal.MapRefusal.TheVariants.{Busy, TooMany}
use Rattle.tx_map.specs.declared.refusal.TheConstants.{KEYS}
use Rattle.tx_map.specs.declared.write.LiveWrite.{LiveWrite}
use Rattle.tx_map.specs.Live.{Pair, is_at, is_of, write_key}
use Rattle.tx_map.specs.Order.{IsAt, IsGapFor, IsRising}
use Rattle.tx_map.specs.Pairs.{AreTallied, no_tally, tally_at, tally_of}
use Rattle.tx_map.specs.Puts.{has_voted, is_of_another, other_keys, put_refusal, write_of}
use Rattle.tx_map.proofs.LiveWrites.{another_in, another_in-mine, another_in-other, find-another, refusal-none, refusal-voted}
use Rattle.tx_map.proofs.Tallying.{other_keys-all, other_keys-own, tallied-set, tally_is}

-- no other pair has the key, and the pair has so many other keys
pub record IsFree (p : Pair) (k : ℕ) (ws : List LiveWrite) (others : ℕ) : Type 0 where
  pub free : find (is_of_another p k) ws ≡ None
  pub count : others ≡ other_keys p k ws

-- what is kept of a pair is its tally
pub kept_tally : (p : Pair) (ws : List LiveWrite) (m : BTreeMap (ℕ × ℕ) PairTally) (t : PairTally) → AreTallied ws m → t ≡ unwrap_or (tally_at m p) no_tally → t ≡ tally_of p ws
kept_tally p ws m t tallied is = is ∙ ap (λ (o : Option PairTally). unwrap_or o no_tally) (tallied p) ∙ tally_is p ws

module _ (p : Pair) (k : ℕ) (ws : List LiveWrite) (m : BTreeMap (ℕ × ℕ) PairTally) (t : PairTally) (h : IsRising write_key ws) (tallied : AreTallied ws m) (is : t ≡ unwrap_or (tally_at m p) no_tally) where
  kept : t ≡ tally_of p ws
  kept = kept_tally p ws m t tallied is

  silent : t.voted ≡ false → has_voted p ws ≡ false
  silent e = sym (ap (λ (x : PairTally). x.voted) kept) ∙ e

  -- the write at the key's place
  found : (i : ℕ) (w : LiveWrite) → IsAt write_key ws k i → w ≡ get_or ws i w → find (is_at k) ws ≡ Some w
  found i w at here = at.here ∙ slice_get-get_or ws i w at.in_range ∙ ap Some (sym here)

  pub busy : (i : ℕ) (w : LiveWrite) → t.voted ≡ false → IsAt write_key ws k i → w ≡ get_or ws i w → is_of p w ≡ false → put_refusal p k ws ≡ Some (Busy w.transaction w.enlistment)
  busy i w e at here other =
      let another : find (is_of_another p k) ws ≡ Some w = find-another p k 0 ws h ∙ rw (found i w at here) (another_in-other p w other) in
      rw (silent e, another) refl

  pub free-own : (i : ℕ) (w : LiveWrite) (others : ℕ) → IsAt write_key ws k i → w ≡ get_or ws i w → is_of p w ≡ true → others + 1 ≡ t.keys → IsFree p k ws others
  free-own i w others at here mine less =
      let count = other_keys-own p k ws w h (found i w at here) mine in
      let keys = ap (λ (x : PairTally). x.keys) kept in
      record {
        free = find-another p k 0 ws h ∙ rw (found i w at here) (another_in-mine p w mine);
        count = omega (arith, less, count, keys);
      }

  -- the pair has a live write of the key
  pub some_keys : (i : ℕ) (w : LiveWrite) → IsAt write_key ws k i → w ≡ get_or ws i w → is_of p w ≡ true → 1 ≤ t.keys
  some_keys i w at here mine =
      let count = other_keys-own p k ws w h (found i w at here) mine in
      let keys = ap (λ (x : PairTally). x.keys) kept in
      omega (arith, count, keys)

  pub free-new : (i others : ℕ) → IsGapFor write_key ws k i → others ≡ t.keys → IsFree p k ws others
  free-new i others gap same = record {
    free = find-another p k 0 ws h ∙ rw gap.absent refl;
    count = same ∙ ap (λ (x : PairTally). x.keys) kept ∙ sym (other_keys-all p k ws gap.absent);
  }

  pub too_many : (others : ℕ) → t.voted ≡ false → IsFree p k ws others → KEYS ≤ others → put_refusal p k ws ≡ Some (TooMany KEYS)
  too_many others e free many = rw (silent e, free.free, sym free.count, le-leb KEYS others many) refl

  pub not_refused : (others : ℕ) → t.voted ≡ false → IsFree p k ws others → others < KEYS → put_refusal p k ws ≡ None
  not_refused others e free few = rw (silent e, free.free, sym free.count, lt-leb KEYS others few) refl

-- a put in the place of the pair's earlier write of the key leaves what is kept
pub tallied-put : (p : Pair) (k : ℕ) (v : Option ℕ) (ws : List LiveWrite) (m : BTreeMap (ℕ × ℕ) PairTally) → IsRising write_key ws → AreTallied ws m → put_refusal p k ws ≡ None → (i : ℕ) → IsAt write_key ws k i → AreTallied (set ws i (write_of p k v)) m
tallied-put p k v ws m h tallied allowed i at = tallied-set ws m i w (write_of p k v) tallied here mine (silent w.voted refl) refl
  where
    w : LiveWrite
    w = get_or ws i (write_of p k v)

    here : slice_get ws i ≡ Some w
    here = slice_get-get_or ws i (write_of p k v) at.in_range

    none : another_in p (Some w) ≡ None
    none = ap (another_in p) (sym (at.here ∙ here)) ∙ sym (find-another p k 0 ws h) ∙ refusal-none p k ws allowed

    by : (b : Bool) → is_of p w ≡ b → b ≡ true
    by true e = refl
    by false e = absurd (cc (sym (another_in-other p w e) ∙ none))

    mine : is_of p w ≡ true
    mine = let b = is_of p w in by b refl

    silent : (b : Bool) → w.voted ≡ b → b ≡ false
    silent false e = refl
    silent true e = absurd (cc (sym (list_any_at (λ u. is_of p u && u.voted) ws i (write_of p k v) at.in_range (rw (mine, e) refl)) ∙ refusal-voted p k ws allowed))
