-- Where nothing is promoted no restart comes, so what a restart finds is tied to what was appended.
use Rattle.std.proofs.Common.{◌≡◌, ℕ, true, List, [], ◌∷◌, refl}
use Rattle.dtx_values.specs.declared.entry.Entry.{Entry}
use Rattle.dtx_values.specs.declared.entry.Entry.TheVariants.{Restarted}
use Rattle.dtx_model.specs.Caused.{FreelyCaused, is_unpromoted}
use Rattle.dtx_values.specs.declared.call.Call.{Call}
use Rattle.dtx_values.specs.declared.number.ActorNo.{ActorNo}
use Rattle.dtx_model.specs.Tied.{tied}
use Rattle.dtx_model.proofs.Bools.{and_right}
use Rattle.dtx_model.proofs.Local.{free-local}
use Rattle.dtx_model.proofs.Unpromoted.{are_local, is_local}

pub local_tied : (h : List Entry) → are_local h ≡ true → tied h ≡ true
local_tied [] k = refl
local_tied (Restarted f ∷ h) k = absurd cc
local_tied (x ∷ h) k = local_tied h (and_right (is_local x) (are_local h) k)

pub unpromoted_tied : (G : ℕ → ActorNo → Call → Type 0) (t : ℕ) (h : List Entry) → FreelyCaused G t h → is_unpromoted h ≡ true → tied h ≡ true
unpromoted_tied G t h r u = local_tied h (free-local G t h r u)
