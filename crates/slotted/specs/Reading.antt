-- How what was read is said of definitions.
use Rattle.std.specs.Prelude.{ℕ, ◌≡◌, Result, Ok, Err}

-- what was read, as definitions see it, is what the bytes hold
abbrev pub IsReadAs : {X Y : Type 0} → (X → Y) → Result X ℕ → Result Y ℕ → Type 0
IsReadAs view (Ok x) held = held ≡ Ok (view x)
IsReadAs view (Err p) held = held ≡ Err p
