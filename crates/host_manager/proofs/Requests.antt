-- What the host is asked to do, read at its place.
use Rattle.std.proofs.Common.{ℕ, zero, suc, ◌≡◌, ◌≤◌, ◌-◌, List, Option, Some, None, slice_get, ap, sym, ◌∙◌, arith, Bor}
use Rattle.std.specs.Option.{option_map}
use Rattle.std.specs.Slice.{IsItemAt}
use Rattle.std.proofs.lemmas.Option.{slice_get-get_or, slice_get_past}
use Rattle.host_disk.specs.Order.{Order}
use Rattle.host_disk.specs.declared.request.Request.{Request}
use Rattle.host_manager.specs.Requests.{given_at}

-- what is read of the requests at a place is what they have there
pub read_at : (xs : List Request) (k : ℕ) (o : Option (Bor Request)) → IsItemAt xs k o → option_map (λ r. r.now) o ≡ slice_get xs k
read_at xs k None h = sym (slice_get_past xs k h.3)
read_at xs k (Some x) h = ap Some h.1 ∙ sym (slice_get-get_or xs k x.now h.3.0)

-- what was given last stands before the count of those that were given
pub given_before : (n k : ℕ) (orders : List Order) → 1 ≤ n → k ≡ n - 1 → slice_get orders k ≡ given_at n orders
given_before zero k orders some is = absurd (omega (arith, some))
given_before (suc n) k orders some is = let e : k ≡ n = omega (arith, is) in ap (λ i. slice_get orders i) e
