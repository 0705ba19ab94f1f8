-- A map in memory: its base, and the live writes over it. A pair is a transaction and an enlistment.
use Rattle.std.specs.Prelude.{ℕ, ◌==◌, Bool, ◌&&◌, not, List, filter, find, Option, Some, None}
use Rattle.std.specs.List.{list_any}
use Rattle.dtx_values.specs.declared.number.EnlNo.{EnlNo}
use Rattle.dtx_values.specs.declared.number.TxNo.{TxNo}
use Rattle.tx_map.specs.declared.write.LiveWrite.{LiveWrite}
use Rattle.tx_map.specs.declared.write.MapEntry.{MapEntry}

-- the keys of each rise
pub record MapState : Type 0 where
  pub base : List MapEntry
  pub live : List LiveWrite

abbrev pub Pair : Type 0
Pair = TxNo × EnlNo

abbrev pub entry_key : MapEntry → ℕ
entry_key x = x.key

abbrev pub write_key : LiveWrite → ℕ
write_key w = w.key

-- it is a write of the pair
abbrev pub is_of : Pair → LiveWrite → Bool
is_of p w = (w.transaction.value == p.0.value) && (w.enlistment.value == p.1.value)

-- it is a write of the key
abbrev pub is_at : ℕ → LiveWrite → Bool
is_at k w = w.key == k

-- the pair has a live write
abbrev pub has_live : Pair → List LiveWrite → Bool
has_live p ws = list_any (is_of p) ws

-- the pair's live writes
abbrev pub own : Pair → List LiveWrite → List LiveWrite
own p ws = filter (is_of p) ws

-- those of all other pairs
abbrev pub others : Pair → List LiveWrite → List LiveWrite
others p ws = filter (λ w. not (is_of p w)) ws

abbrev pub value_in : Option MapEntry → Option ℕ
value_in (Some x) = Some x.value
value_in None = None

-- the key's value in the base
abbrev pub base_at : MapState → ℕ → Option ℕ
base_at m k = value_in (find (λ x. x.key == k) m.base)

-- a live write's value, or else this one
abbrev pub value_over : Option LiveWrite → Option ℕ → Option ℕ
value_over (Some w) b = w.value
value_over None b = b

-- the key's value in the base with the live writes laid over it
abbrev pub get_at : MapState → ℕ → Option ℕ
get_at m k = value_over (find (is_at k) m.live) (base_at m k)
