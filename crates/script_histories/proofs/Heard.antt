-- There are as many rows as enlistments.
use Rattle.std.proofs.Common.{◌≡◌, ◌==◌, ◌||◌, ◌∙◌, ℕ, suc, Bool, List, [], ◌∷◌, length, refl, ap}
use Rattle.std.proofs.lemmas.List.{length-map}
use Rattle.dtx_values.specs.declared.entry.Ask.TheVariants.{Prepare}
use Rattle.dtx_values.specs.declared.entry.Entry.{Entry}
use Rattle.dtx_values.specs.declared.entry.Entry.TheVariants.{Asked, Enlisted, Voted}
use Rattle.dtx_values.specs.Row.{fresh_row, mark_in, number_of, vote_in}
use Rattle.dtx_values.specs.Table.{marks}
use Rattle.dtx_model.specs.Observed.{rows}
use Rattle.dtx_model.specs.Outcome.{enlisted}
use Rattle.dtx_model.proofs.Counts.{length-insert_by}
use Rattle.history_table.proofs.Tests.{eq_swap}

-- the same test, the other way round
pub swapped : (e n : ℕ) (a b : Bool) → a ≡ b → ((e == n) || a) ≡ ((n == e) || b)
swapped e n a b k = ap (λ c. c || a) (eq_swap e n) ∙ ap (λ c. (n == e) || c) k

-- there are as many rows as enlistments
pub length-rows : (h : List Entry) → length (rows h) ≡ length (enlisted h)
length-rows [] = refl
length-rows (Enlisted e c ∷ h) = length-insert_by number_of (fresh_row e c (marks (rows h))) (rows h) ∙ ap suc (length-rows h)
length-rows (Asked e Prepare ∷ h) = length-map (rows h) (mark_in e.value (marks (rows h))) ∙ length-rows h
length-rows (Voted e v ∷ h) = length-map (rows h) (vote_in e.value v) ∙ length-rows h
length-rows (x ∷ h) = length-rows h
