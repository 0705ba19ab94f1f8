-- Which entries no block has but as its first, or in that of a restart: what is got, the restart, the seal, and the asks of a promotable, to promote or for its single phase.
-- These two come in the local act alone.
use Rattle.std.proofs.Common.{Bool, true, false, List, refl, ◌≡◌, [], ◌∷◌}
use Rattle.dtx_values.specs.declared.entry.Ask.TheVariants.{Promote, Single as AskSingle}
use Rattle.dtx_values.specs.declared.entry.Entry.{Entry}
use Rattle.dtx_values.specs.declared.entry.Entry.TheVariants.{Asked, Sealed, Got, Restarted, Sent, Logged, LogFull, Freed, Stopped}
use Rattle.dtx_values.specs.declared.message.Conn.{Conn}
use Rattle.dtx_values.specs.declared.message.Dir.TheVariants.{Down}
use Rattle.dtx_values.specs.declared.message.Message.{Message}
use Rattle.dtx_values.specs.Lines.{has_line}
use Rattle.dtx_model.specs.Coordinated.{Coordinated}
use Rattle.dtx_model.specs.Steps.{LogAnswer, coordinates}
use Rattle.dtx_model.proofs.Writes.{Each, IsClosed, each_closed, e_one, is_outcome_message}
use Rattle.dtx_model.proofs.Blocks.{of_coordinates}

-- the entry isn't got, is no restart, doesn't seal, and asks nobody to promote or for a single phase
abbrev pub is_quiet : Entry → Bool
is_quiet (Got c d m) = false
is_quiet (Restarted found) = false
is_quiet Sealed = false
is_quiet (Asked e Promote) = false
is_quiet (Asked e AskSingle) = false
is_quiet _ = true

abbrev pub Quiet : List Entry → Type 0
Quiet es = Each is_quiet es

pub quiet : IsClosed (λ ws es. Each is_quiet es)
quiet = each_closed is_quiet refl (λ x. refl) (λ n x. refl) refl refl

pub quiet_sent : (c : Conn) (m : Message) → has_line c Down m ≡ true → is_outcome_message m ≡ true → Quiet (Sent c Down m ∷ [])
quiet_sent c m l o = e_one (Sent c Down m) refl

pub q_coordinates : (k : Coordinated) (a : LogAnswer) → Quiet (coordinates k a)
q_coordinates k a = of_coordinates (quiet.lists []) k a quiet_sent (e_one Logged refl) (e_one LogFull refl) (e_one Freed refl) (e_one Stopped refl)
