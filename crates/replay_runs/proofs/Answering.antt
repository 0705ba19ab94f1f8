-- What holds of the object that is asked, holds of the one that stands there.
use Rattle.std.proofs.Common.{◌≡◌, ◌<◌, ◌+◌, ◌-◌, arith, ℕ, List, Option, None, Some, length, get_or, ap, sym, subst, ◌∙◌}
use Rattle.std.specs.List.{slice_get}
use Rattle.std.proofs.lemmas.Option.{slice_get-get_or, slice_get_within}
use Rattle.dtx_values.specs.declared.note.Note.{Note}
use Rattle.dtx_values.specs.declared.number.EnlNo.{EnlNo}
use Rattle.dtx_values.specs.declared.number.RmNo.{RmNo}

some_same : {A : Type 0} (x y : A) → Some x ≡ Some y → x ≡ y
some_same x y e = cc

-- the item at a place of a list
pub item_is : {B : Type 0} (xs : List B) (i j : ℕ) (x y : B) → x ≡ get_or xs i x → i ≡ j → slice_get xs j ≡ Some y → x ≡ y
item_is xs i j x y here same there =
    let stands : slice_get xs i ≡ Some y = ap (slice_get xs) same ∙ there in
    some_same x y (ap Some here ∙ (sym (slice_get-get_or xs i x (slice_get_within xs i y stands)) ∙ stands))

-- a reply of the same enlistment to the same note is pending
abbrev pub IsSame : EnlNo × Note → EnlNo × Note → Type 0
IsSame x y = Some x ≡ Some y

-- the enlistment and the note of a reply
pub of_asked : (P : EnlNo → Note → Type 0) (f e : EnlNo) (m n : Note) → IsSame (f, m) (e, n) → P f m → P e n
of_asked P f e m n same p = subst (λ (x : EnlNo × Note). P x.0 x.1) (some_same (f, m) (e, n) same) p

-- where the object of a manager stands that the table has for the enlistment
pub place_of : (ms : List (Option RmNo)) (f e : EnlNo) (m n : Note) (i k : ℕ) (o : Option RmNo) (q r : RmNo) → IsSame (f, m) (e, n) → i + 1 ≡ f.value → i < length ms → o ≡ get_or ms i o → o ≡ Some q → k + 1 ≡ q.value
    → get_or ms (e.value - 1) None ≡ Some r → k ≡ r.value - 1
place_of ms f e m n i k o q r same at within here is number there =
    let enlistment : f.value ≡ e.value = ap (λ (x : EnlNo × Note). x.0.value) (some_same (f, m) (e, n) same) in
    let place : e.value - 1 ≡ i = omega (arith, at, enlistment) in
    let items : Some o ≡ Some (Some r) =
    ap Some here ∙ (sym (slice_get-get_or ms i o within) ∙ (slice_get-get_or ms i None within ∙ ap Some (ap (λ j. get_or ms j None) (sym place) ∙ there))) in
    let manager : q.value ≡ r.value = ap (λ (x : RmNo). x.value) (some_same q r (sym is ∙ some_same o (Some r) items)) in
    omega (arith, number, manager)
