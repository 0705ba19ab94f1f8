-- The calls that wait, in order of their lines.
use Rattle.std.specs.Prelude.{ℕ, suc, ◌==◌, ◌≡◌, ◌≤◌, nat_le, ◌&&◌, Bool, true, false, not, List, [], ◌∷◌, filter, drop, length, Option, Some, None}
use Rattle.dtx_values.specs.declared.limits.TheConstants.{CALLS}
use Rattle.dtx_values.specs.declared.entry.Entry.TheVariants.{Answered}
use Rattle.dtx_values.specs.declared.entry.Answer.TheVariants.{Ended}
use Rattle.dtx_values.specs.declared.row.Row.{Row}
use Rattle.dtx_values.specs.declared.words.Outcome.{Outcome}
use Rattle.dtx_values.specs.Class.{is_volatile}
use Rattle.dtx_values.specs.Table.{has_row, how_many}
use Rattle.dtx_model.specs.Words.{each, has}
use Rattle.dtx_model.specs.Half.{ended}
use Rattle.dtx_model.specs.declared.waiting.Wanted.TheVariants.{Identifier, Place}
use Rattle.dtx_model.specs.Waiting.{Waiter, is_place, is_place_of, waiter_line}

-- the lines rise from call to call, from n on
abbrev pub lines_from : ℕ → List Waiter → Bool
lines_from n [] = true
lines_from n (w ∷ ws) = nat_le n (waiter_line w) && lines_from (suc (waiter_line w)) ws

-- those of other lines than n
abbrev pub without : ℕ → List Waiter → List Waiter
without n ws = filter (λ w. not (n == w.0)) ws

-- the place that a call waits for doesn't stand, and is no volatile's
abbrev pub is_to_come : List Row → Waiter → Bool
is_to_come xs (n, Place e r c) = not (has_row e.value xs) && not (is_volatile c)
is_to_come xs (n, Identifier) = true

-- no two calls of one line wait, nor two for one place, at most 32 in all, and each for a place that is still to come
pub record AreWaiting (xs : List Row) (ws : List Waiter) : Type 0 where
  pub rise : lines_from 0 ws ≡ true
  pub few : length ws ≤ CALLS
  pub once : (e : ℕ) → how_many (is_place_of e) ws ≤ 1
  pub to_come : each (is_to_come xs) ws ≡ true

-- the first call that waits is that of line n
pub record IsFirst (n : ℕ) (ws : List Waiter) : Type 0 where
  pub others : (x : Outcome) → ended ws x ≡ Answered n (Ended x) ∷ ended (without n ws) x
  pub fewer : length ws ≡ suc (length (without n ws))

abbrev pub StartsWith : List Waiter → Option ℕ → Type 0
StartsWith ws (Some n) = IsFirst n ws
StartsWith ws None = ws ≡ []

-- The call at index i, where one waits there. After the answer of one that waits for the identifier the next has its index, and no place goes by that answer.
abbrev pub IsAt : ℕ → List Waiter → Option Waiter → Type 0
IsAt i ws None = drop i ws ≡ []
IsAt i ws (Some (n, Identifier)) = (drop i ws ≡ (n, Identifier) ∷ drop i (without n ws)) × (has (λ w. (n == w.0) && is_place w) ws ≡ false)
IsAt i ws (Some (n, Place e r c)) = (drop i ws ≡ (n, Place e r c) ∷ drop (suc i) ws) × (has (is_place_of e.value) ws ≡ true)
