-- A blank file with a log's head is a log without records.
use Rattle.std.specs.Prelude.{replicate}
use Rattle.std.proofs.Common.{◌≡◌, ℕ, List, [], ◌∷◌, length, map, Ok, Some, None, refl, sym, ap, ◌∙◌}
use Rattle.outside.specs.Disk.{IsOnly}
use Rattle.dtx_model.specs.Log.{Slot, head}
use Rattle.slotted.specs.Slotted.{IsBlank}
use Rattle.slotted.proofs.Blanks.{blank_head, blank_slots}
use Rattle.coordinator_log.specs.Slots.{Agrees, formed, open_records}
use Rattle.coordinator_log.proofs.Files.{log_reads}
use Rattle.coordinator_log.proofs.OpenRecords.{Held}

-- slots in memory without records are closed
all_closed : (vs : Held) → open_records vs ≡ [] → map formed vs ≡ replicate (length vs) (Ok None)
all_closed [] e = refl
all_closed (None ∷ vs) e = ap (λ (l : List Slot). Ok None ∷ l) (all_closed vs e)
all_closed (Some r ∷ vs) e = absurd cc

-- a blank file agrees with slots in memory without records
pub blank_agrees : (w b : List ℕ) (image : List ℕ → Type 0) (vs : Held) → w ≡ head → length w ≡ 512 → IsBlank w b → length vs ≡ 1024 → open_records vs ≡ [] → IsOnly b image → Agrees b image vs
blank_agrees w b image vs is long blank many empty only = record {
  at_head = blank_head w b long blank ∙ is;
  on_disk = blank_slots log_reads w b (length vs) long many blank ∙ sym (all_closed vs empty);
  durable = only;
}
