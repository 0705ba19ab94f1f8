use Rattle.std.specs.Prelude.{is_ok}
use Rattle.std.proofs.Common.{ap}
use Rattle.slotted.proofs.SlotReads.{file_agrees}
use Rattle.coordinator_log.proofs.Files.{log_file}
use Rattle.coordinator_log.proofs.log.Log.over.Goals as goal

pub invariant_of-result : goal.invariant_of-result
invariant_of-result g c = record {
  agrees = λ h up. c.requires.agrees h;
  synced = λ o up. c.requires.synced o;
  whole = λ h f left. ap is_ok (file_agrees log_file _ _ _ (c.requires.agrees h) f left);
  room = c.requires.room;
}
