-- Identifiers, pairs and recovery information as bytes.
use Rattle.std.specs.Prelude.{ℕ, ◌≡◌, ◌+◌, ◌-◌, ◌/◌, ◌%◌, ◌^◌, ◌==◌, nat_le, Bool, true, ◌&&◌, not, List, ◌++◌, take, drop, Option, Result, Ok, Err, if◌then◌else◌}
use Rattle.std.specs.Option.{option_map, option_or}
use Rattle.std.specs.Result.{result_err}
use Rattle.std.specs.Int.{w32, w128, to_be_bytes, to_le_bytes, from_be_bytes, from_le_bytes}
use Rattle.dtx_values.specs.declared.message.Info.{Info}
use Rattle.dtx_values.specs.declared.number.EnlNo.{EnlNo}
use Rattle.dtx_values.specs.declared.number.RmNo.{RmNo}

-- n lies from 1 to m
abbrev pub is_from_one : ℕ → ℕ → Bool
is_from_one m n = nat_le 1 n && nat_le n m

-- an identifier has 128 bits, and neither half of them is 0: the upper half is the node, the lower the count
abbrev pub is_id : ℕ → Bool
is_id n = is_from_one (2 ^ 64 - 1) (n / 2 ^ 64) && nat_le 1 (n % 2 ^ 64)

-- the bytes of an identifier: 16, the highest first
abbrev pub id_bytes : ℕ → List ℕ
id_bytes n = to_be_bytes w128 n

-- a pair is the manager and the number of an enlistment
abbrev pub pair_of : RmNo × EnlNo → ℕ × ℕ
pair_of p = (p.0.value, p.1.value)

-- the bytes of a pair: 16 for the manager, the highest first, and 4 for the number, the lowest first
unfoldable pub pair_bytes : ℕ × ℕ → List ℕ
pair_bytes p = to_be_bytes w128 p.0 ++ to_le_bytes w32 p.1

-- 36 bytes: the identifier's and the pair's
unfoldable pub info_bytes : Info → List ℕ
info_bytes i = id_bytes i.id ++ pair_bytes (pair_of (i.rm, i.enl))

-- the number in the first 16 bytes, the highest first; and in the first 4, the lowest first
abbrev pub wide_in : List ℕ → ℕ
wide_in b = from_be_bytes w128 (take 16 b)

abbrev pub number_in : List ℕ → ℕ
number_in b = from_le_bytes w32 (take 4 b)

-- The readers give what the first bytes hold, or the place of the first bad field.

-- an identifier; its node is bad where it is 0, and so is its count
abbrev pub as_identifier : ℕ → Result ℕ ℕ
as_identifier n = if n / 2 ^ 64 == 0 then Err 0 else if n % 2 ^ 64 == 0 then Err 8 else Ok n

unfoldable pub identifier_in : List ℕ → Result ℕ ℕ
identifier_in b = as_identifier (wide_in b)

-- a pair; a manager that isn't from 1 to 16 is bad, and so is a number that isn't from 1 to 9,999
abbrev pub as_pair : ℕ → ℕ → Result (ℕ × ℕ) ℕ
as_pair m e = if not (is_from_one 16 m) then Err 0 else if not (is_from_one 9999 e) then Err 16 else Ok (m, e)

unfoldable pub pair_in : List ℕ → Result (ℕ × ℕ) ℕ
pair_in b = as_pair (wide_in b) (number_in (drop 16 b))

-- the place of the first bad field of an identifier, and of recovery information
abbrev pub bad_identifier : List ℕ → Option ℕ
bad_identifier b = result_err (identifier_in b)

abbrev pub bad_field : List ℕ → Option ℕ
bad_field b = option_or (bad_identifier b) (option_map (λ p. 16 + p) (result_err (pair_in (drop 16 b))))

-- the bytes are this information, whose identifier is one
pub record IsInfo (b : List ℕ) (i : Info) : Type 0 where
  pub valid : is_id i.id ≡ true
  pub bytes : b ≡ info_bytes i
