-- What a run over one store leaves.
use Rattle.std.proofs.Common.{ℕ, ◌≡◌, ◌&&◌, Bool, true, List, [], subst}
use Rattle.outside.specs.Faults.{Rose}
use Rattle.dtx_values.specs.declared.number.RmNo.{RmNo}
use Rattle.dtx_values.specs.declared.script.Line.{Line}
use Rattle.dtx_model.specs.Caused.{Manager}
use Rattle.dtx_model.specs.Grammar.{IsScript}
use Rattle.dtx_model.specs.Traces.{Placed}
use Rattle.dtx_model.specs.Words.{past_of}
use Rattle.heard_notes.specs.Heard.{Reaches, heard}
use Rattle.heard_notes.specs.declared.put.Put.{Put}
use Rattle.kv_resource.specs.Store.{KvState, open_records, table_of}
use Rattle.put_lines.specs.Input.{are_good}
use Rattle.replay_runs.specs.Lawful.{IsLawful}
use Rattle.replay_runs.specs.Run.{IsRunOfBy}
use Rattle.store_run.specs.Puts.{IsBlank, with_puts}
use Rattle.store_run.specs.Runs.{IsTableRun}
use Rattle.store_run.proofs.Following.{GivesFirst}
use Rattle.store_run.proofs.Reached.{store_table, store_willing}
use Rattle.store_run.proofs.Start.{good_puts}

-- A run over a store whose disk never fails, and which had these puts, none of which is bad, leaves the table.
pub table_run : (s : List Line) (r : RmNo) (ps : List Put) (from to : ℕ) (honest fresh : Bool) (T : List Placed) {D : Type 0} (is_honest : Bool) (image : D → List ℕ → Type 0) (faults : D → ℕ) → ((x y : D) → Rose (faults x) (faults y) → ⊥)
    → (m before after : KvState D) → IsBlank m.memory → IsScript s → are_good 40 s (Manager r) [] ps ≡ true → IsRunOfBy s (Manager r) from to (honest && fresh) T → IsLawful honest fresh s T → before ≡ with_puts m ps
    → Reaches (GivesFirst is_honest image faults) s before (heard s (Manager r) (past_of T)) after → IsTableRun s r ps from to honest fresh (table_of (open_records after.memory.slots)) T
table_run s r ps from to honest fresh T is_honest image faults sure m before after blank script good ran lawful is reached =
    let fine = (good_puts s r ps m script.named blank good).1 in
    let from_puts : Reaches (GivesFirst is_honest image faults) s (with_puts m ps) (heard s (Manager r) (past_of T)) after = subst (λ x. Reaches (GivesFirst is_honest image faults) s x (heard s (Manager r) (past_of T)) after) is reached in
    record {
      ran = ran;
      lawful = lawful;
      table = λ d. store_table s r script.named is_honest image faults sure ps m blank fine (past_of T) after ran.history.caused d from_puts;
      willing = λ d. store_willing s r script.named is_honest image faults sure ps m blank fine (past_of T) after ran.history.caused d from_puts;
    }
