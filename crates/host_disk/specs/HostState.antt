-- What is seen of a disk of the host, and what a crash may leave of its file.
use Rattle.std.specs.Prelude.{◌≡◌, ◌+◌, ◌++◌, ◌&&◌, ◌∷◌, [], Bool, false, ℕ, List, length, nat_le, nat_lt, slice_index}
use Rattle.std.specs.List.{list_any}
use Rattle.host_disk.specs.declared.host_disk.Range.{Range}
use Rattle.host_disk.specs.Order.{Order, after}

-- its bytes, the ranges that were written since the last sync, what is asked for, and how many calls met a fault
pub record HostState : Type 0 where
  pub bytes : List ℕ
  pub written : List Range
  pub asked : List Order
  pub faults : ℕ

-- whether the byte at place i is in the range
abbrev pub is_in : ℕ → Range → Bool
is_in i r = nat_le r.at i && nat_lt i (r.at + r.count)

-- whether the byte at place i is in one of the ranges
abbrev pub is_written : List Range → ℕ → Bool
is_written ranges i = list_any (is_in i) ranges

-- a crash may leave any bytes where something was written since the last sync, and leaves the others
pub record MayBeLeft (d : HostState) (left : List ℕ) : Type 0 where
  pub long : length left ≡ length d.bytes
  pub same : (i : ℕ) → is_written d.written i ≡ false → slice_index left i ≡ slice_index d.bytes i

-- one order more is asked for, and what the disk holds is what a file holds that held the old bytes, once this order was done
pub record Relays (order : Order) (old new : HostState) : Type 0 where
  pub asked : new.asked ≡ old.asked ++ order ∷ []
  pub bytes : new.bytes ≡ after order old.bytes
