-- What the host is asked to do in its file, and what the file then holds.
use Rattle.std.specs.Prelude.{◌==◌, ◌&&◌, ◌∷◌, [], Bool, true, false, ℕ, List, if◌then◌else◌, length, nat_lt, replicate}
use Rattle.std.specs.List.{list_all}
use Rattle.outside.specs.Disk.{overwritten}
use Rattle.host_disk.specs.declared.request.Request.{Request}
use Rattle.host_disk.specs.declared.request.Request.TheVariants.{Write, Zeros, Sync}
use Rattle.host_disk.specs.declared.request.TheConstants.{BRIEF}

-- these bytes are to be written at this place; or so many zeros; or the file is to be synced
pub data Order : Type 0 where
  WriteOrder : (at : ℕ) → (bytes : List ℕ) → Order
  ZerosOrder : (at n : ℕ) → Order
  SyncOrder : Order

-- what a request asks for
abbrev pub order_of : Request → Order
order_of (Write at bytes) = WriteOrder at bytes.items
order_of (Zeros at n) = ZerosOrder at n
order_of Sync = SyncOrder

-- more zeros than are written as bytes, and nothing else
abbrev pub are_many_zeros : List ℕ → Bool
are_many_zeros bytes = nat_lt BRIEF (length bytes) && list_all (λ b. b == 0) bytes

-- what is asked for where these bytes are written at this place
abbrev pub write_order : ℕ → List ℕ → Order
write_order at bytes = if are_many_zeros bytes then ZerosOrder at (length bytes) else WriteOrder at bytes

-- what a file that held the old bytes holds once the order was done
abbrev pub after : Order → List ℕ → List ℕ
after (WriteOrder at bytes) old = overwritten old at bytes
after (ZerosOrder at n) old = overwritten old at (replicate n 0)
after SyncOrder old = old

-- whether nothing is asked for
abbrev pub is_settled : List Order → Bool
is_settled [] = true
is_settled (_ ∷ _) = false
