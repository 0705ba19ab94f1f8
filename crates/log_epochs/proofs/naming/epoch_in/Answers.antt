use Rattle.std.proofs.Common.{◌∙◌, ap, length, sym, take}
use Rattle.std.proofs.lemmas.Bool.{eqb-false, eqb-true}
use Rattle.std.proofs.lemmas.List.{length-map}
use Rattle.dtx_values.specs.RecoveryInfo.{pair_of}
use Rattle.dtx_model.specs.Log.{record_of}
use Rattle.log_epochs.proofs.Names.{no_pairs, none_told, told}
use Rattle.log_epochs.proofs.naming.epoch_in.Goals as goal

pub returns-then-not-is_empty-clause-epoch : goal.returns-then-not-is_empty-clause-epoch
returns-then-not-is_empty-clause-epoch c =
    let r = c.args.r.now in
    none_told (record_of r)
    (λ e. eqb-false (length c.pairs.result.now) 0 (sym c.is_empty.ensures ∙ c.if-not-is_empty.true) (ap length c.pairs.ensures ∙ sym (length-map (take r.count r.durables) pair_of) ∙ e))

pub returns-clause-epoch : goal.returns-clause-epoch
returns-clause-epoch c =
    let r = c.args.r.now in
    told (record_of r) c.epoch_at.result
    (no_pairs (take r.count r.durables) (ap length (sym c.pairs.ensures) ∙ eqb-true (length c.pairs.result.now) 0 (sym c.is_empty.ensures ∙ c.if-not-is_empty.false)))
    c.epoch_at.ensures.some c.epoch_at.ensures.none
