-- The names of transactions.
use Rattle.std.proofs.Common.{◌≡◌, ◌≢◌, refl, sym, ◌∙◌, ap, ℕ, ◌+◌, ◌*◌, ◌≤◌, Bool, true, false, ◌++◌, codes, decimal, arith, nat_lt}
use Rattle.std.specs.Prelude.{if◌then◌else◌}
use Rattle.std.proofs.lemmas.Bool.Decides.{nat_tests}
use Rattle.dtx_values.specs.TxIds.{identifier_of_id}
use Rattle.dtx_values.specs.declared.number.TxNo.{TxNo}
use Rattle.dtx_values.specs.declared.tx_id.TxId.{TxId}
use Rattle.dtx_values.proofs.Ids.{number_is}
use Rattle.dtx_model.specs.TraceText.{id_text}
use Rattle.log_listing.specs.Listing.{epoch_in_id, is_transaction_id, name_of, number_in_id}

-- an identifier that is a transaction's is that of one
has_transaction : (id : ℕ) → is_transaction_id id ≡ true → (x : TxId) × (identifier_of_id x ≡ id)
has_transaction id is =
    let low : 1 ≤ number_in_id id = grind (arith, nat_tests) in
    let high : number_in_id id ≤ 256 = grind (arith, nat_tests) in
    let few : nat_lt (epoch_in_id id) 4294967296 ≡ true = grind (arith, nat_tests) in
    let sum : id ≡ 18446744073709551616 + (65536 * epoch_in_id id + number_in_id id) = grind (arith, nat_tests) in
    let t : TxNo = record { value = number_in_id id; in_range = (low, high) } in
    (record { epoch = epoch_in_id id; t = t; in_range = few }, ap (λ (n : ℕ). 18446744073709551616 + n) (number_is (epoch_in_id id) (number_in_id id)) ∙ sym sum)

-- so one of none has the name that traces give it
pub foreign_name : (id : ℕ) → ((x : TxId) → identifier_of_id x ≢ id) → name_of id ≡ id_text id
foreign_name id none = by (is_transaction_id id) refl
  where
    by : (b : Bool) → is_transaction_id id ≡ b → (if b then decimal (epoch_in_id id) ++ codes "." ++ decimal (number_in_id id) else id_text id) ≡ id_text id
    by true e = let x = has_transaction id e in absurd (none x.0 x.1)
    by false e = refl
