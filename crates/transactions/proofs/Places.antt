-- The transaction that goes on at a place.
use Rattle.std.proofs.Common.{Bor, ℕ, Bool, true, false, ◌≡◌, ◌-◌, ◌∙◌, List, Option, Some, None, slice_get, refl, ap, arith, sym, if◌then◌else◌}
use Rattle.std.specs.Slice.{IsItemAt}
use Rattle.std.proofs.lemmas.Option.{slice_get_past, slice_get-get_or}
use Rattle.std.specs.Option.{option_map}
use Rattle.dtx_values.specs.TxIds.{first_id}
use Rattle.dtx_values.specs.declared.number.TxNo.{TxNo}
use Rattle.dtx_values.proofs.SameNumbers.{same_transaction}
use Rattle.transactions.specs.Keeping.{AreNumbered}
use Rattle.transactions.specs.Slots.{is_used, standing_at, standing_in}
use Rattle.transactions.specs.State.{LiveState}

-- its place is that one, by the number
standing_value : (p : TxNo) (xs : List LiveState) → AreNumbered xs → (standing_at p xs).t.value ≡ p.value
standing_value p xs numbered = by (slice_get xs (p.value - 1)) refl
  where
    used : (x : LiveState) (b : Bool) → x.number.t.value ≡ p.value → (if b then x.number else first_id p).t.value ≡ p.value
    used x true place = place
    used x false place = refl

    by : (o : Option LiveState) → slice_get xs (p.value - 1) ≡ o → (standing_in p o).t.value ≡ p.value
    by (Some x) there = used x (is_used x.usage) (let place = (numbered (p.value - 1) x there).0 in let low = p.in_range.0 in omega (arith, place, low))
    by None there = refl

-- it has that place
pub standing_place : (p : TxNo) (xs : List LiveState) → AreNumbered xs → (standing_at p xs).t ≡ p
standing_place p xs numbered = same_transaction (standing_at p xs).t p (standing_value p xs numbered)

-- what is read at a place is what stands there
pub got_at : (xs : List LiveState) (k : ℕ) (r : Option (Bor LiveState)) → IsItemAt xs k r → option_map (λ x. x.now) r ≡ slice_get xs k
got_at xs k None h = sym (slice_get_past xs k h.3)
got_at xs k (Some x) h = ap Some h.1 ∙ sym (slice_get-get_or xs k x.now h.3.0)
