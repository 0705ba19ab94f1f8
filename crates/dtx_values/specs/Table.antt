-- The table of a transaction's enlistments: its rows, in order of number.
use Rattle.std.specs.Prelude.{ℕ, suc, nat_lt, Bool, true, ◌&&◌, ◌||◌, not, List, [], ◌∷◌, map, if◌then◌else◌}
use Rattle.std.specs.List.{list_all, list_any}
use Rattle.dtx_values.specs.declared.number.EnlNo.{EnlNo}
use Rattle.dtx_values.specs.declared.row.Row.{Row}
use Rattle.dtx_values.specs.declared.words.Class.{Class}
use Rattle.dtx_values.specs.declared.words.Vote.{Vote}
use Rattle.dtx_values.specs.Row.{fresh_row, has_voted, is_asked_before, is_marked, is_of, mark_in, number_of, vote_in}

-- the numbers rise from row to row, from above n on
abbrev pub rises_above : ℕ → List Row → Bool
rises_above n [] = true
rises_above n (x ∷ xs) = nat_lt n (number_of x) && rises_above (number_of x) xs

-- the enlistment has a row
abbrev pub has_row : ℕ → List Row → Bool
has_row e xs = list_any (is_of e) xs

-- the enlistment was asked to prepare
abbrev pub was_asked : ℕ → List Row → Bool
was_asked e xs = list_any (λ x. is_of e x && is_marked x) xs

-- the enlistment voted
abbrev pub voted : ℕ → List Row → Bool
voted e xs = list_any (λ x. is_of e x && has_voted x) xs

-- each that was asked when fewer than n were voted
abbrev pub voted_before : ℕ → List Row → Bool
voted_before n xs = list_all (λ q. not (is_asked_before q.asked n) || has_voted q) xs

-- how many items pass
abbrev pub how_many : {A : Type 0} → (A → Bool) → List A → ℕ
how_many p [] = 0
how_many p (x ∷ xs) = if p x then suc (how_many p xs) else how_many p xs

-- how many rows are marked as asked to prepare
abbrev pub marks : List Row → ℕ
marks xs = how_many is_marked xs

-- the item at its place in the order of the numbers that `key` gives
abbrev pub insert_by : {A : Type 0} → (A → ℕ) → A → List A → List A
insert_by key x [] = x ∷ []
insert_by key x (y ∷ ys) = if nat_lt (key y) (key x) then y ∷ insert_by key x ys else x ∷ y ∷ ys

-- the number by which enlistments are in order
abbrev pub enl_number : EnlNo → ℕ
enl_number e = e.value

-- the rows with one more enlistment
abbrev pub with_row : EnlNo → Class → List Row → List Row
with_row e c xs = insert_by number_of (fresh_row e c (marks xs)) xs

-- the rows with this enlistment's marked as asked to prepare
abbrev pub with_mark : ℕ → List Row → List Row
with_mark e xs = map (mark_in e (marks xs)) xs

-- the rows with this enlistment's vote
abbrev pub with_vote : ℕ → Vote → List Row → List Row
with_vote e v xs = map (vote_in e v) xs
