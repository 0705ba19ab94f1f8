-- Who may be asked to prepare, who hears the outcome, and when phase zero is over, by the rows of a table.
use Rattle.std.specs.Prelude.{ℕ, ◌==◌, Bool, ◌&&◌, ◌||◌, not, List, find, Option, Some, None}
use Rattle.std.specs.List.{list_all, list_any}
use Rattle.dtx_values.specs.declared.number.EnlNo.{EnlNo}
use Rattle.dtx_values.specs.declared.row.CloneRow.{CloneRow}
use Rattle.dtx_values.specs.declared.row.Row.{Row}
use Rattle.dtx_values.specs.Class.{is_class, is_volatile, is_zero}
use Rattle.dtx_values.specs.Clones.{is_open_block}
use Rattle.dtx_values.specs.Row.{has_voted, is_marked, is_of}
use Rattle.dtx_values.specs.Table.{voted_before}
use Rattle.dtx_values.specs.Vote.{still_hears}

-- a Zero enlistment may be asked where each that was asked before it was added voted; a One always may
abbrev pub may_be_asked : List Row → Bool → Row → Bool
may_be_asked xs zero x = is_class zero x.class && not (is_marked x) && (not zero || voted_before x.added xs)

abbrev pub name_of : Option Row → Option EnlNo
name_of (Some x) = Some x.number
name_of None = None

-- the lowest of the class that wasn't asked and may be
unfoldable pub next_ask : List Row → Bool → Option EnlNo
next_ask xs zero = name_of (find (may_be_asked xs zero) xs)

-- this enlistment is volatile, and voted neither no nor done
unfoldable pub hears : List Row → ℕ → Bool
hears xs e = list_any (λ x. is_of e x && is_volatile x.class && still_hears x.vote) xs

-- each Zero enlistment voted
abbrev pub zeros_voted : List Row → Bool
zeros_voted xs = list_all (λ x. not (is_zero x.class) || has_voted x) xs

-- each volatile enlistment voted
abbrev pub all_voted : List Row → Bool
all_voted xs = list_all (λ x. not (is_volatile x.class) || has_voted x) xs

-- phase zero is over: each Zero enlistment voted, no blocking clone is open, and nothing is under way
unfoldable pub is_over : List Row → List CloneRow → ℕ → Bool
is_over xs cs under_way = zeros_voted xs && not (list_any is_open_block cs) && (under_way == 0)
