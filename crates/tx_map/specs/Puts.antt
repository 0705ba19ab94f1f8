-- When a put is refused, and what it writes.
use Rattle.std.specs.Prelude.{ℕ, nat_le, Bool, false, ◌&&◌, not, List, count_by, filter, find, Option, Some, None, unwrap_or, if◌then◌else◌}
use Rattle.std.specs.List.{list_any}
use Rattle.dtx_values.specs.Table.{insert_by}
use Rattle.tx_map.specs.declared.refusal.MapRefusal.{MapRefusal}
use Rattle.tx_map.specs.declared.refusal.MapRefusal.TheVariants.{Busy, Memory, Over, TooMany}
use Rattle.tx_map.specs.declared.refusal.TheConstants.{KEYS}
use Rattle.tx_map.specs.declared.write.LiveWrite.{LiveWrite}
use Rattle.tx_map.specs.Live.{MapState, Pair, is_at, is_of, write_key}

-- a live write of the pair is marked as voted
abbrev pub has_voted : Pair → List LiveWrite → Bool
has_voted p ws = list_any (λ w. is_of p w && w.voted) ws

-- it is another pair's write of the key
abbrev pub is_of_another : Pair → ℕ → LiveWrite → Bool
is_of_another p k w = not (is_of p w) && is_at k w

-- it is the pair's write of the key
abbrev pub is_own_at : Pair → ℕ → LiveWrite → Bool
is_own_at p k w = is_of p w && is_at k w

-- how many other keys the pair has live writes of
abbrev pub other_keys : Pair → ℕ → List LiveWrite → ℕ
other_keys p k ws = count_by (λ w. is_of p w && not (is_at k w)) ws

abbrev pub refused_by : Option LiveWrite → Bool → Option MapRefusal
refused_by (Some w) many = Some (Busy w.transaction w.enlistment)
refused_by None many = if many then Some (TooMany KEYS) else None

-- why a put is refused, but for memory: the pair voted, or another pair has the key, or the pair has too many others
abbrev pub put_refusal : Pair → ℕ → List LiveWrite → Option MapRefusal
put_refusal p k ws =
    if has_voted p ws then Some (Over p.0 p.1) else
    refused_by (find (is_of_another p k) ws) (nat_le KEYS (other_keys p k ws))

-- what a put that writes nothing answers: why it is refused, or else that memory ran out
abbrev pub put_error : Pair → ℕ → List LiveWrite → MapRefusal
put_error p k ws = unwrap_or (put_refusal p k ws) Memory

abbrev pub write_of : Pair → ℕ → Option ℕ → LiveWrite
write_of p k v = record { transaction = p.0; enlistment = p.1; key = k; value = v; voted = false }

-- the live writes with this one at its place in the order of keys, and not the pair's earlier one of the key
abbrev pub with_live : Pair → ℕ → Option ℕ → List LiveWrite → List LiveWrite
with_live p k v ws = insert_by write_key (write_of p k v) (filter (λ w. not (is_own_at p k w)) ws)

-- a put leaves the base
abbrev pub after_put : Pair → ℕ → Option ℕ → MapState → MapState
after_put p k v m = record { base = m.base; live = with_live p k v m.live }
