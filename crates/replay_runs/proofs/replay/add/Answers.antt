use Rattle.std.proofs.Common.{◌∙◌, ◌++◌, ap, false, List, [], ◌∷◌, None}
use Rattle.dtx_values.specs.declared.tx_id.TxId.{TxId}
use Rattle.tx_world.specs.State.{TxState}
use Rattle.replay_runs.proofs.replay.add.Goals as goal

-- src/replay.rt
pub returns-clause-added : goal.returns-clause-added
returns-clause-added c =
    let new_one : TxId → TxState = λ i. record { transaction = i; world = record { calls = []; past = [] }; ours = None; unsure = false; life = 0 } in
    c.push_reserved.ensures.items ∙ (ap (λ (xs : List TxState). xs ++ c.in_ok-new.field-0 ∷ []) c.in_ok-reserve.ensures.items
    ∙ ap (λ (x : TxState). c.args.worlds.now.items ++ x ∷ []) (c.in_ok-new.ensures.blank ∙ ap new_one c.first.ensures))
