-- Where no actor has a call left in the rows of a place, each call there was entered.
use Rattle.std.proofs.Common.{◌≡◌, ℕ, ◌+◌, ◌-◌, ◌<◌, ◌≤◌, Bool, true, List, None, Some, get_or, length, slice_get, slice_index_or, nat_le, inl, inr, refl, ap, subst, sym, ◌∙◌, arith}
use Rattle.std.proofs.lemmas.Bool.Decides.{nat_tests}
use Rattle.std.proofs.lemmas.List.Elements.{All-from_get_or}
use Rattle.std.proofs.lemmas.List.Sums.{list_all-from_AllPass}
use Rattle.std.proofs.lemmas.Option.{slice_get_cases}
use Rattle.dtx_values.specs.declared.number.ActorNo.{ActorNo}
use Rattle.dtx_values.specs.declared.number.TheConstants.ActorNo.{MAX}
use Rattle.script_calls.specs.Rows.{are_entered, is_entered, next_in, no_calls, row_at}
use Rattle.script_calls.specs.SeenRow.{SeenRow}

-- a row with no next call has none left
entered_where : {C : Type 0} (r : SeenRow C) → next_in r ≡ None → is_entered r ≡ true
entered_where r none = elim (slice_get_cases r.calls r.entered).1 [
  | inl x ↦ let clash : Some x.0 ≡ None = sym x.2 ∙ none in absurd (cc)
  | inr x ↦ let most = x.0 in grind (arith, nat_tests)
]

pub none_left : {C : Type 0} (rows : List (SeenRow C)) → length rows ≤ MAX → ((a : ActorNo) → next_in (row_at a rows) ≡ None) → are_entered rows ≡ true
none_left rows few none =
    list_all-from_AllPass is_entered rows (All-from_get_or (λ r. is_entered r ≡ true) rows no_calls (λ k less.
    let a : ActorNo = record { value = k + 1; in_range = (omega arith, omega (arith, less, few)) } in
    let same : a.value - 1 ≡ k = omega arith in
    subst (λ (i : ℕ). is_entered (get_or rows i no_calls) ≡ true) same (entered_where (row_at a rows) (none a))))
