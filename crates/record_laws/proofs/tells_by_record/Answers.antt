use Rattle.std.proofs.Common.{◌≡◌, ℕ, false}
use Rattle.dtx_model.specs.AtLog.{is_restart}
use Rattle.dtx_model.specs.Words.{has}
use Rattle.dtx_model.specs.World.{World}
use Rattle.dtx_model.specs.Caused.{AreMadeOnce, IsIn, IsOwnRun}
use Rattle.history_table.proofs.Steady.{run_keeps}
use Rattle.settled_histories.proofs.UnstoppedTies.{unrestarted_tied}
use Rattle.record_laws.specs.Recorded.{TellsByRecord, is_recovered}
use Rattle.record_laws.proofs.AskedOnce.{all_new}
use Rattle.record_laws.proofs.FreedAcked.{freed_acked}
use Rattle.record_laws.proofs.HandedAlone.{freed_if_gone, handed_alone, told_after}
use Rattle.record_laws.proofs.LastingCalls.{lasting_alone}
use Rattle.record_laws.proofs.tells_by_record.Goals as goal

pub returns : goal.returns
returns c = tells
  where
    tells : (t : ℕ) (w : World) → AreMadeOnce (IsIn w.calls) → IsOwnRun t w → has is_restart w.past ≡ false → has is_recovered w.past ≡ false → TellsByRecord w
    tells t w once r n u =
        let G = IsIn w.calls in
        let k = run_keeps G t r.0 w once r.1 (unrestarted_tied w.past n) in
        record {
          told = λ m e of s. told_after G t m e r.0 w once r.1 k n of s;
          alone = λ e m f s of. handed_alone e f w.past k (lasting_alone G t m f r.0 w once r.1 of) s;
          freed = λ d m e of y. freed_acked G t r.0 w r.1 k n u d e (lasting_alone G t m e r.0 w once r.1 of) y;
          gone = λ l g. freed_if_gone w.past n l g;
          new = all_new w.past k;
        }
