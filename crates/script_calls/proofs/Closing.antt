-- The walk of a close, from the top down.
use Rattle.std.proofs.Common.{◌≡◌, ℕ, ◌+◌, ◌<◌, ◌==◌, true, false, List, [], ◌∷◌, ◌++◌, length, map, take, drop, get_or, ap, sym, ◌∙◌, append_assoc}
use Rattle.std.specs.Prelude.{if◌then◌else◌}
use Rattle.std.proofs.lemmas.List.{drop_more, map-append, take_more}
use Rattle.dtx_values.specs.declared.entry.Entry.{Entry}
use Rattle.dtx_values.specs.declared.scope.OpenScope.{OpenScope}
use Rattle.dtx_model.specs.Scopes.{Closes, taken_off}
use Rattle.dtx_model.specs.Contexts.{written}
use Rattle.history_table.proofs.Tests.{eq_swap}

-- the entries that say that these scopes are closed
abbrev pub closed_notes : List OpenScope → List Entry
closed_notes xs = map written (map (λ x. Closes x.scope) xs)

-- and one scope more
closed_notes-append : (xs ys : List OpenScope) → closed_notes (xs ++ ys) ≡ closed_notes xs ++ closed_notes ys
closed_notes-append xs ys = ap (map written) (map-append (λ (x : OpenScope). Closes x.scope) xs ys) ∙ map-append written (map (λ x. Closes x.scope) xs) (map (λ x. Closes x.scope) ys)

-- what is closed of the first, with the scope after them
pub noted_more : (before notes after : List Entry) (xs : List OpenScope) (k : ℕ) (x : OpenScope) → k < length xs → x ≡ get_or xs k x
    → notes ≡ before ++ closed_notes (take k xs) → after ≡ notes ++ closed_notes (x ∷ []) → after ≡ before ++ closed_notes (take (k + 1) xs)
noted_more before notes after xs k x less here noted more =
    let front : take (k + 1) xs ≡ take k xs ++ x ∷ [] = take_more xs k x less ∙ ap (λ (y : OpenScope). take k xs ++ y ∷ []) (sym here) in
    more ∙ ap (λ (es : List Entry). es ++ closed_notes (x ∷ [])) noted ∙ append_assoc before (closed_notes (take k xs)) (closed_notes (x ∷ []))
    ∙ ap (λ (es : List Entry). before ++ es) (sym (closed_notes-append (take k xs) (x ∷ [])) ∙ ap closed_notes (sym front))

-- what is taken off behind the first, where the one behind them isn't the one that is closed
pub taken_more : (s : ℕ) (xs : List OpenScope) (k : ℕ) (x : OpenScope) → k < length xs → x ≡ get_or xs k x → (x.scope.value == s) ≡ false
    → taken_off s xs ≡ take k xs ++ taken_off s (drop k xs) → taken_off s xs ≡ take (k + 1) xs ++ taken_off s (drop (k + 1) xs)
taken_more s xs k x less here other taken =
    let rest = drop (k + 1) xs in
    let left : drop k xs ≡ x ∷ rest = drop_more xs k x less ∙ ap (λ (y : OpenScope). y ∷ rest) (sym here) in
    let front : take (k + 1) xs ≡ take k xs ++ x ∷ [] = take_more xs k x less ∙ ap (λ (y : OpenScope). take k xs ++ y ∷ []) (sym here) in
    taken ∙ ap (λ (ys : List OpenScope). take k xs ++ taken_off s ys) left
    ∙ ap (λ b. take k xs ++ (if b then x ∷ [] else x ∷ taken_off s rest)) (eq_swap s x.scope.value ∙ other)
    ∙ sym (append_assoc (take k xs) (x ∷ []) (taken_off s rest))
    ∙ ap (λ (ys : List OpenScope). ys ++ taken_off s rest) (sym front)

-- and where it is
pub taken_last : (s : ℕ) (xs : List OpenScope) (k : ℕ) (x : OpenScope) → k < length xs → x ≡ get_or xs k x → (x.scope.value == s) ≡ true
    → taken_off s xs ≡ take k xs ++ taken_off s (drop k xs) → taken_off s xs ≡ take (k + 1) xs
taken_last s xs k x less here same taken =
    let rest = drop (k + 1) xs in
    let left : drop k xs ≡ x ∷ rest = drop_more xs k x less ∙ ap (λ (y : OpenScope). y ∷ rest) (sym here) in
    let front : take (k + 1) xs ≡ take k xs ++ x ∷ [] = take_more xs k x less ∙ ap (λ (y : OpenScope). take k xs ++ y ∷ []) (sym here) in
    taken ∙ ap (λ (ys : List OpenScope). take k xs ++ taken_off s ys) left
    ∙ ap (λ b. take k xs ++ (if b then x ∷ [] else x ∷ taken_off s rest)) (eq_swap s x.scope.value ∙ same)
    ∙ sym front
