-- What is kept of each pair that has live writes: how many they are, and whether the pair voted since one of them.
use Rattle.std.specs.Prelude.{◌≡◌, ℕ, ◌==◌, Bool, ◌&&◌, true, false, List, length, Option, Some, None, if◌then◌else◌}
use Rattle.std.specs.BTreeMap.{BTreeMap, get}
use Rattle.std.specs.Ordering.{nat_cmp, ordering_then}
use Rattle.std.specs.declared.cmp.Ordering.{Ordering}
use Rattle.tx_map.specs.declared.pairs.PairTally.{PairTally}
use Rattle.tx_map.specs.declared.write.LiveWrite.{LiveWrite}
use Rattle.tx_map.specs.Live.{Pair, has_live, own}
use Rattle.tx_map.specs.Puts.{has_voted}

-- pairs of numbers in order: by the first, and by the second where the first is the same
abbrev pub pair_cmp : ℕ × ℕ → ℕ × ℕ → Ordering
pair_cmp x y = ordering_then (nat_cmp x.0 y.0) (nat_cmp x.1 y.1)

abbrev pub with_keys : ℕ → PairTally
with_keys n = record { keys = n; voted = false }

-- the tally of a pair that has no live write
abbrev pub no_tally : PairTally
no_tally = with_keys 0

-- the tally that is kept of the pair
abbrev pub tally_at : BTreeMap (ℕ × ℕ) PairTally → Pair → Option PairTally
tally_at m p = get pair_cmp m (p.0.value, p.1.value)

-- they are the same pair
abbrev pub is_pair : Pair → Pair → Bool
is_pair p q = (p.0.value == q.0.value) && (p.1.value == q.1.value)

-- n keeps this of the pair, and of each other pair what m keeps
abbrev pub SetsTally : BTreeMap (ℕ × ℕ) PairTally → BTreeMap (ℕ × ℕ) PairTally → Pair → Option PairTally → Type 0
SetsTally m n p x = (q : Pair) → tally_at n q ≡ (if is_pair p q then x else tally_at m q)

-- the tally, marked as voted
abbrev pub marked_in : Option PairTally → Option PairTally
marked_in (Some x) = Some (record { keys = x.keys; voted = true })
marked_in None = None

-- how many live writes the pair has, and whether one is marked as voted
abbrev pub tally_of : Pair → List LiveWrite → PairTally
tally_of p ws = record { keys = length (own p ws); voted = has_voted p ws }

-- what is kept of each pair is the tally of its live writes, and nothing where it has none
abbrev pub AreTallied : List LiveWrite → BTreeMap (ℕ × ℕ) PairTally → Type 0
AreTallied ws m = (p : Pair) → tally_at m p ≡ (if has_live p ws then Some (tally_of p ws) else None)
