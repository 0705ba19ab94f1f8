-- Why a turn isn't done, without the log that it was lent: memory ran out, or the two kept values that are named differ.
use Rattle.std.proofs.Common.{◌≡◌, Option, inl, ap, sym, subst, ◌∙◌}
use Rattle.std.specs.Option.{option_map}
use Rattle.dtx_values.specs.declared.record.LogRecord.{LogRecord}
use Rattle.dtx_model.specs.Log.{record_of}
use Rattle.coordinator_log.specs.State.{LogState}
use Rattle.tx_world.specs.State.{TxState}
use Rattle.tx_cells.specs.Ties.{DoDiffer, HasCause, IsCause}
use Rattle.tx_cells.specs.declared.error.TurnError.{TurnError}
use Rattle.tx_cells.specs.declared.error.TurnError.TheVariants.{Memory, Differs as TheyDiffer}

-- Were the two the same, they would tie.
pub cause_named : {D : Type 0} (x : TxState) (log : LogState D) (e : TurnError) → IsCause x log e → HasCause e
cause_named x log Memory h = tt
cause_named x log (TheyDiffer d) h =
    subst DoDiffer (sym h.is) (λ (same : h.ours ≡ h.found). h.untied (λ up. inl (sym h.there ∙ (ap (λ (r : Option LogRecord). option_map record_of r) (sym same) ∙ h.kept))))
