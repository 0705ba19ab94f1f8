-- Room for the entries of a base.
use Rattle.std.specs.Prelude.{ℕ, ◌+◌, ◌≤◌, List, length}
use Rattle.tx_map.specs.declared.write.LiveWrite.{LiveWrite}
use Rattle.tx_map.specs.declared.write.MapEntry.{MapEntry}

-- n entries are enough for the base, whatever commits
abbrev pub HasRoom : List MapEntry → List LiveWrite → ℕ → Type 0
HasRoom base live n = length base + length live ≤ n
