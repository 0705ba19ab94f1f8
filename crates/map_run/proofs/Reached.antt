-- The map that is reached by what a trace shows the volatiles to have heard: its base is the table, and its volatiles are willing.
use Rattle.std.proofs.Common.{◌≡◌, true, List, map}
use Rattle.dtx_values.specs.declared.number.TxNo.{TxNo}
use Rattle.dtx_values.specs.declared.script.Line.{Line}
use Rattle.dtx_model.specs.Caused.{CausedBy, Volatiles, answers, is_volatile_in}
use Rattle.dtx_model.specs.Grammar.{are_named_well}
use Rattle.dtx_model.specs.Outcome.{agree}
use Rattle.dtx_model.specs.Tied.{tied}
use Rattle.dtx_model.specs.Traces.{Placed, history}
use Rattle.heard_notes.specs.Heard.{Reaches, heard}
use Rattle.heard_notes.specs.Tables.{AreWilling, table_after}
use Rattle.heard_notes.specs.declared.put.Put.{Put}
use Rattle.history_table.proofs.Lists.{OfEach, of-more}
use Rattle.tx_map.specs.Live.{MapState}
use Rattle.tx_map.specs.Notes.{GivesNote}
use Rattle.map_run.specs.Puts.{AreAllowed, empty, with_puts}
use Rattle.map_run.specs.Rows.{row_of}
use Rattle.map_run.proofs.Facts.{AreFacts, caused_facts}
use Rattle.map_run.proofs.Makers.{IsMadeBy, volatile_by_line}
use Rattle.map_run.proofs.Tables.{base_is_table}
use Rattle.map_run.proofs.Willing.{all_willing}

-- The script makes names once, each put is of a volatile of its transaction, and none was refused; and over the trace, newest entry first, each history is caused, and each restart of it found what may be found.
module _ (s : List Line) (ps : List Put) (P : List Placed) (to : MapState) (named : are_named_well s ≡ true)
    (made : OfEach (λ p. IsMadeBy s p.enlistment.value p.transaction.value) ps)
    (caused : (t : TxNo) → CausedBy s (answers s Volatiles) t.value (history t.value P)) (all_tied : (t : TxNo) → tied (history t.value P) ≡ true)
    (reached : Reaches GivesNote s (with_puts empty ps) (heard s Volatiles P) to) where
  facts : (t : TxNo) → AreFacts s t.value (history t.value P)
  facts t = caused_facts s t.value (history t.value P) named (caused t) (all_tied t)

  pub map_table : AreAllowed empty ps → ((t : TxNo) → agree (history t.value P) ≡ true) → map row_of to.base ≡ table_after Volatiles P ps
  map_table allowed agrees =
      base_is_table s P ps to allowed (of-more (λ p. IsMadeBy s p.enlistment.value p.transaction.value) (λ p. is_volatile_in s p.enlistment.value ≡ true) (λ p m. volatile_by_line s p.enlistment.value p.transaction.value m) ps made)
      (λ t e v. (facts t).unacked e v) agrees reached

  pub map_willing : AreWilling s Volatiles ps P
  map_willing = all_willing s ps named made P to facts reached
