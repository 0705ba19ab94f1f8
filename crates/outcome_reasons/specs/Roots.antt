-- Why a connection ended.
use Rattle.std.specs.Prelude.{ℕ, Bool, List, [], ◌∷◌, length, if◌then◌else◌}
use Rattle.dtx_values.specs.Ends.{same_connection}
use Rattle.dtx_values.specs.declared.entry.Entry.{Entry}
use Rattle.dtx_values.specs.declared.entry.Entry.TheVariants.{Cut, Stopped}
use Rattle.dtx_values.specs.declared.message.Conn.{Conn}
use Rattle.outcome_reasons.specs.declared.said.Root.{Root}
use Rattle.outcome_reasons.specs.declared.said.Root.TheVariants.{Cut as WasCut, Stopped as HasStopped, Unsaid}
use Rattle.outcome_reasons.specs.Moments.{caller, line_in, number_at}

abbrev pub root_after : List ℕ → Conn → List Entry → Entry → Root → Root
root_after ns c past (Cut d up down) r = if same_connection c d then WasCut c (line_in (caller past)) else r
root_after ns c past Stopped r = HasStopped (number_at (length past) ns)
root_after ns c past _ r = r

-- why connection c ended: the latest cut of it, or stop of the coordinator
abbrev pub root : List ℕ → Conn → List Entry → Root
root ns c [] = Unsaid c
root ns c (x ∷ past) = root_after ns c past x (root ns c past)

-- why connection c ended, by what stands before the newest entry that saw its end
abbrev pub end_root : List ℕ → Conn → (Entry → Bool) → List Entry → Root
end_root ns c ends [] = Unsaid c
end_root ns c ends (x ∷ past) = if ends x then root ns c past else end_root ns c ends past
