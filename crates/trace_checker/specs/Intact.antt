-- Which connections are intact.
use Rattle.std.specs.Prelude.{ℕ, Bool, ◌==◌, slice_index_or}
use Rattle.trace_checker.specs.declared.intact.Intact.{Intact}

-- connection k was opened in this run, and isn't lost since
abbrev pub is_intact_at : ℕ → Intact → Bool
is_intact_at k s = slice_index_or s.runs.items k 0 == s.run
