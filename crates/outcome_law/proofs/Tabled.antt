-- What a history that keeps the joint table and that steps made keeps besides: four rows that the joint table doesn't have.
use Rattle.std.proofs.Common.{◌≡◌, ℕ, true, List}
use Rattle.dtx_values.specs.declared.call.Call.{Call}
use Rattle.dtx_values.specs.declared.entry.Entry.{Entry}
use Rattle.dtx_values.specs.declared.message.Conn.TheVariants.{Enl}
use Rattle.dtx_values.specs.declared.message.Dir.TheVariants.{Down}
use Rattle.dtx_values.specs.declared.number.ActorNo.{ActorNo}
use Rattle.dtx_values.specs.declared.number.EnlNo.{EnlNo}
use Rattle.dtx_model.specs.Words.{always}
use Rattle.dtx_model.specs.World.{World}
use Rattle.dtx_model.specs.Steps.{Step}
use Rattle.dtx_model.specs.Caused.{Ran}
use Rattle.settled_histories.proofs.MessageKinds.{ENLISTED}
use Rattle.settled_histories.proofs.Fine.{is_caused}
use Rattle.settled_histories.proofs.SameRows.{is_asked_there}
use Rattle.settled_histories.proofs.Owed.{is_asked_well}
use Rattle.settled_histories.proofs.Counted.{is_once}
use Rattle.history_table.proofs.Keeping.{Keeps}
use Rattle.settled_histories.proofs.CausedRows.{kept_caused}
use Rattle.settled_histories.proofs.AskedRows.{ran_asks}
use Rattle.settled_histories.proofs.PlacedRows.{kept_placed, ran_direct}
use Rattle.settled_histories.proofs.SealedRows.{kept_there, ran_well}
use Rattle.outcome_law.proofs.WellRows.{kept_well}
use Rattle.history_table.proofs.Crossed.{is_sent_on}

-- what is bad has its cause, ENLISTED is sent once to each enlistment, and who is asked was enlisted, and is asked for what it may be asked
pub record KeepsMore (h : List Entry) : Type 0 where
  pub table : Keeps h
  pub caused : always is_caused h ≡ true
  pub placed : (e : EnlNo) → always (is_once (is_sent_on (Enl e) Down ENLISTED)) h ≡ true
  pub there : always is_asked_there h ≡ true
  pub well : always is_asked_well h ≡ true

-- in each world that steps made, whose history keeps the joint table, it keeps the four rows too
pub run_rows : (G : ℕ → ActorNo → Call → Type 0) (t : ℕ) (ms : List Step) (w : World) → Ran G t ms w → Keeps w.past → KeepsMore w.past
run_rows G t ms w r k =
    record {
      table = k;
      caused = kept_caused w.past k;
      placed = λ e. kept_placed e w.past k (ran_direct G t ms w r);
      there = kept_there w.past k (ran_well G t ms w r k);
      well = kept_well w.past k (ran_asks G t ms w r);
    }
