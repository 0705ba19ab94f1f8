-- The histories of a trace, with the numbers of their entries.
use Rattle.std.specs.Prelude.{ℕ, List, map}
use Rattle.std.specs.List.{range_with_len}
use Rattle.dtx_values.specs.declared.entry.Entry.{Entry}
use Rattle.dtx_model.specs.Traces.{Placed, history}
use Rattle.outcome_reasons.specs.Moments.{numbers_of}

-- a history and the numbers of its entries, both newest first
pub record Numbered : Type 0 where
  pub entries : List Entry
  pub numbers : List ℕ

abbrev pub numbered : List Placed → ℕ → Numbered
numbered T t = record { entries = history t T; numbers = numbers_of t T }

-- those of t1 to t256, where the trace stands newest first
unfoldable pub all_histories : List Placed → List Numbered
all_histories T = map (numbered T) (range_with_len 1 256)
