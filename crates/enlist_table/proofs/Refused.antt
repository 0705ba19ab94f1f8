-- Whether a row is changed, by what stands at its place. The rows are seen as another list that is the same.
use Rattle.std.proofs.Common.{◌≡◌, ℕ, Bool, true, false, ◌&&◌, List, get_or, refl, ap, sym, subst, ◌∙◌, Some, None}
use Rattle.std.specs.List.{list_any, position}
use Rattle.dtx_values.specs.declared.number.EnlNo.{EnlNo}
use Rattle.dtx_values.specs.declared.row.Row.{Row}
use Rattle.dtx_values.specs.Row.{is_of}
use Rattle.dtx_values.specs.Table.{has_row, rises_above}
use Rattle.enlist_table.specs.declared.refusal.TableRefusal.TheVariants.{AlreadyThere}
use Rattle.enlist_table.specs.Refusals.{row_refusal}
use Rattle.enlist_table.proofs.Places.{IsPlace, has_row_at, no_place, passes_at}

-- no place, no row
pub no_row : (e : ℕ) (xs ys : List Row) → xs ≡ ys → None ≡ position (is_of e) xs → has_row e ys ≡ false
no_row e xs ys same k = subst (λ zs. has_row e zs ≡ false) same (no_place e xs k)

-- the row passes the test, or not, as the one at its place does
pub passes_there : (e : ℕ) (there : Row → Bool) (xs ys : List Row) (i : ℕ) (r : Row) (b : Bool) → xs ≡ ys → rises_above 0 xs ≡ true → IsPlace e xs i → r ≡ get_or xs i r → there r ≡ b
    → list_any (λ x. is_of e x && there x) ys ≡ b
passes_there e there xs ys i r b same rise p r_is h =
    subst (λ zs. list_any (λ x. is_of e x && there x) zs ≡ b) same (passes_at e there 0 xs i r b rise p (ap there (sym r_is) ∙ h))

stands : (e : ℕ) (xs ys : List Row) (i : ℕ) → xs ≡ ys → IsPlace e xs i → has_row e ys ≡ true
stands e xs ys i same p = subst (λ zs. has_row e zs ≡ true) same (has_row_at e xs i p)

-- a row that passes it already isn't changed
pub refused_there : (e : EnlNo) (there : Row → Bool) (xs ys : List Row) (i : ℕ) (r : Row) → xs ≡ ys → rises_above 0 xs ≡ true → IsPlace e.value xs i → r ≡ get_or xs i r → there r ≡ true
    → row_refusal there e ys ≡ Some (AlreadyThere e)
refused_there e there xs ys i r same rise p r_is h = rw (stands e.value xs ys i same p, passes_there e.value there xs ys i r true same rise p r_is h) refl

-- one that doesn't is
pub allowed_at : (e : EnlNo) (there : Row → Bool) (xs ys : List Row) (i : ℕ) (r : Row) → xs ≡ ys → rises_above 0 xs ≡ true → IsPlace e.value xs i → r ≡ get_or xs i r → there r ≡ false
    → row_refusal there e ys ≡ None
allowed_at e there xs ys i r same rise p r_is h = rw (stands e.value xs ys i same p, passes_there e.value there xs ys i r false same rise p r_is h) refl
