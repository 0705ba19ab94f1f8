-- What a run over one map leaves.
use Rattle.std.proofs.Common.{ℕ, ◌≡◌, ◌&&◌, Bool, true, List, [], map, subst, ap, ◌∙◌}
use Rattle.dtx_values.specs.declared.script.Line.{Line}
use Rattle.dtx_model.specs.Caused.{Volatiles}
use Rattle.dtx_model.specs.Grammar.{IsScript}
use Rattle.dtx_model.specs.Traces.{Placed}
use Rattle.dtx_model.specs.Words.{past_of}
use Rattle.heard_notes.specs.Heard.{Reaches, heard}
use Rattle.heard_notes.specs.declared.put.Put.{Put}
use Rattle.put_lines.specs.Input.{are_good}
use Rattle.replay_runs.specs.Lawful.{IsLawful}
use Rattle.replay_runs.specs.Run.{IsRunOfBy}
use Rattle.tx_map.specs.Live.{MapState}
use Rattle.tx_map.specs.Notes.{GivesNote}
use Rattle.map_run.specs.Puts.{empty, with_puts}
use Rattle.map_run.specs.Rows.{row_of}
use Rattle.map_run.specs.Runs.{IsTableRun}
use Rattle.map_run.proofs.Loading.{puts_allowed, puts_made}
use Rattle.map_run.proofs.Reached.{map_table, map_willing}

-- a map with an empty base and no live write is the empty one
pub is_empty_map : (m : MapState) → m.base ≡ [] → m.live ≡ [] → m ≡ empty
is_empty_map m b l = ap (λ x. record { base = x; live = m.live }) b ∙ ap (λ x. record { base = []; live = x }) l

-- so a run over a map that had these puts, none of which is bad, leaves the table
pub table_run : (s : List Line) (ps : List Put) (from to : ℕ) (honest fresh : Bool) (T : List Placed) (before after : MapState) → IsScript s → are_good 1000 s Volatiles [] ps ≡ true
    → IsRunOfBy s Volatiles from to (honest && fresh) T → IsLawful honest fresh s T → before ≡ with_puts empty ps → Reaches GivesNote s before (heard s Volatiles (past_of T)) after
    → IsTableRun s ps from to honest fresh (map row_of after.base) T
table_run s ps from to honest fresh T before after script good ran lawful is reached =
    let made = puts_made s ps script.named good in
    let from_puts : Reaches GivesNote s (with_puts empty ps) (heard s Volatiles (past_of T)) after = subst (λ m. Reaches GivesNote s m (heard s Volatiles (past_of T)) after) is reached in
    record {
      ran = ran;
      lawful = lawful;
      table = λ d. map_table s ps (past_of T) after script.named made ran.history.caused d from_puts (puts_allowed s ps script.named good) (lawful.outcome d).agrees;
      willing = λ d. map_willing s ps (past_of T) after script.named made ran.history.caused d from_puts;
    }
