-- By rows of the table of rules: after the seal each Zero row has a vote, and where each clone is complete no row of a clone is open.
use Rattle.std.proofs.Common.{◌≡◌, ◌==◌, Bool, true, false, ◌&&◌, ◌||◌, List, [], ◌∷◌, refl, ◌∙◌, ap, sym, map}
use Rattle.std.specs.Prelude.{is_some, not, if◌then◌else◌}
use Rattle.dtx_values.specs.declared.entry.Ask.TheVariants.{Prepare}
use Rattle.dtx_values.specs.declared.entry.Entry.{Entry}
use Rattle.dtx_values.specs.declared.entry.Entry.TheVariants.{Asked, Cloned, Completed, Enlisted, Sealed, Voted}
use Rattle.dtx_values.specs.declared.row.CloneRow.{CloneRow}
use Rattle.dtx_values.specs.declared.row.Row.{Row}
use Rattle.dtx_values.specs.Class.{is_zero}
use Rattle.dtx_values.specs.Clones.{blocks, is_clone, is_open_block}
use Rattle.dtx_values.specs.Row.{has_voted, is_of, mark_in, mark_row, unless_there, vote_in, vote_row}
use Rattle.dtx_values.specs.Table.{marks}
use Rattle.dtx_values.specs.Waves.{zeros_voted}
use Rattle.dtx_model.specs.Words.{all_of, always, each, has}
use Rattle.dtx_model.specs.Entries.{clone_of, is_completed, is_sealed}
use Rattle.dtx_model.specs.Observed.{clone_rows, rows}
use Rattle.dtx_model.specs.Outcome.{is_complete}
use Rattle.dtx_model.proofs.Bools.{and_both, and_left, and_never, and_right, not_both, not_true, or_false, or_right}
use Rattle.history_table.proofs.Lists.{OfEach, each_kept, if_kept, of-behind, of-map}
use Rattle.script_histories.proofs.RuledRows.{each_clones}
use Rattle.history_table.proofs.TableRows.{there}
use Rattle.history_table.proofs.Tests.{eq_swap}

-- Rows of the table of rules: it is sealed where each Zero row has a vote, nothing is enlisted after the seal, and a clone is made before it is complete.
abbrev pub is_closed_well : List Entry → Entry → Bool
is_closed_well past Sealed = zeros_voted (rows past)
is_closed_well past (Enlisted e c) = not (has is_sealed past)
is_closed_well past (Cloned c k) = not (has (is_completed c.value) past)
is_closed_well past x = true

abbrev is_zero_voted : Row → Bool
is_zero_voted x = not (is_zero x.class) || has_voted x

each_changed : (p : Row → Bool) (f : Row → Row) → ((x : Row) → p x ≡ true → p (f x) ≡ true) → (xs : List Row) → each p xs ≡ true → each p (map f xs) ≡ true
each_changed p f sub [] k = refl
each_changed p f sub (x ∷ xs) k = and_both (p (f x)) (each p (map f xs)) (sub x (and_left (p x) (each p xs) k)) (each_changed p f sub xs (and_right (p x) (each p xs) k))

-- after the seal each Zero row has a vote
pub sealed_zeros : (h : List Entry) → always is_closed_well h ≡ true → has is_sealed h ≡ true → zeros_voted (rows h) ≡ true
sealed_zeros [] r k = absurd cc
sealed_zeros (Sealed ∷ h) r k = and_left (zeros_voted (rows h)) (always is_closed_well h) r
sealed_zeros (Enlisted e c ∷ h) r k = absurd (not_both (has is_sealed h) k (not_true (has is_sealed h) (and_left (not (has is_sealed h)) (always is_closed_well h) r)))
sealed_zeros (Asked e Prepare ∷ h) r k =
    each_kept is_zero_voted (mark_in e.value (marks (rows h))) (λ x. if_kept is_zero_voted (is_of e.value x) (mark_row (marks (rows h)) x) x refl) (rows h) ∙ sealed_zeros h r k
sealed_zeros (Voted e v ∷ h) r k = each_changed is_zero_voted (vote_in e.value v) (λ x a. step x (is_of e.value x) a) (rows h) (sealed_zeros h r k)
  where
    step : (x : Row) (b : Bool) → is_zero_voted x ≡ true → is_zero_voted (if b then vote_row v x else x) ≡ true
    step x true a = or_right (not (is_zero x.class)) (is_some (unless_there x.vote v)) (there x.vote v)
    step x false a = a
sealed_zeros (x ∷ h) r k = sealed_zeros h (and_right (is_closed_well h x) (always is_closed_well h) r) k

-- each clone's row says whether it was completed
abbrev IsShown : List Entry → CloneRow → Type 0
IsShown h r = r.complete ≡ has (is_completed r.clone.value) h

clones_shown : (h : List Entry) → always is_closed_well h ≡ true → OfEach (IsShown h) (clone_rows h)
clones_shown [] r = tt
clones_shown (Cloned c k ∷ h) r =
    of-behind (IsShown h) (record { clone = c; kind = k; complete = false })
    (sym (not_true (has (is_completed c.value) h) (and_left (not (has (is_completed c.value) h)) (always is_closed_well h) r))) (clone_rows h)
    (clones_shown h (and_right (not (has (is_completed c.value) h)) (always is_closed_well h) r))
clones_shown (Completed c ∷ h) r =
    of-map (IsShown h) (IsShown (Completed c ∷ h)) (λ r. record { clone = r.clone; kind = r.kind; complete = is_clone c.value r || r.complete })
    (λ r w. ap (λ b. b || r.complete) (eq_swap c.value r.clone.value) ∙ ap (λ b. (r.clone.value == c.value) || b) w) (clone_rows h) (clones_shown h r)
clones_shown (x ∷ h) r = clones_shown h (and_right (is_closed_well h x) (always is_closed_well h) r)

-- so where each clone is complete, none is open
pub none_open : (h : List Entry) → always is_closed_well h ≡ true → each (λ c. is_complete h c) (all_of clone_of h) ≡ true → has is_open_block (clone_rows h) ≡ false
none_open h r k = shut (clone_rows h) (clones_shown h r) (each_clones (λ c d. has (is_completed c.value) h) h ∙ k)
  where
    shut : (rs : List CloneRow) → OfEach (IsShown h) rs → each (λ r. has (is_completed r.clone.value) h) rs ≡ true → has is_open_block rs ≡ false
    shut [] w k = refl
    shut (r ∷ rs) w k =
        or_false (is_open_block r) (has is_open_block rs)
        (ap (λ b. blocks r.kind && not b) (w.0 ∙ and_left (has (is_completed r.clone.value) h) (each (λ r. has (is_completed r.clone.value) h) rs) k) ∙ and_never (blocks r.kind))
        (shut rs w.1 (and_right (has (is_completed r.clone.value) h) (each (λ r. has (is_completed r.clone.value) h) rs) k))
