-- Identifiers and recovery information have no bad field.
use Rattle.std.proofs.Common.{◌≡◌, ℕ, ◌+◌, ◌≤◌, true, List, [], Some, None, refl, ap, arith}
use Rattle.std.proofs.lemmas.Bool.Decides.{nat_tests}
use Rattle.std.specs.Option.{option_map, option_or}
use Rattle.std.specs.Result.{result_err}
use Rattle.dtx_values.specs.declared.message.Info.{Info}
use Rattle.dtx_values.specs.RecoveryInfo.{IsInfo, bad_field, bad_identifier, id_bytes, identifier_in, info_bytes, is_id, pair_in}
use Rattle.dtx_values.proofs.Infos.{id_again, info_id, info_pair}

-- the place of a bad field is at most 32
pub field_within : (b : List ℕ) (p : ℕ) → bad_field b ≡ Some p → p ≤ 32
unfolding identifier_in pair_in
field_within b p e = grind (arith, nat_tests)

-- a valid identifier has no bad field
pub good_id : (u : ℕ) → is_id u ≡ true → bad_identifier (id_bytes u) ≡ None
good_id u valid = ap result_err (id_again u [] valid)

-- nor has valid information
pub good_info : (i : Info) → is_id i.id ≡ true → bad_field (info_bytes i) ≡ None
good_info i valid =
    let p : IsInfo (info_bytes i) i = record { valid = valid; bytes = refl } in
    λ k. option_or (result_err (info_id (info_bytes i) i p k)) (option_map (λ n. 16 + n) (result_err (info_pair (info_bytes i) i p k)))
