use Rattle.std.proofs.Common.{rules}
use Rattle.std.proofs.lemmas.Fn.{filter_same}
use Rattle.tx_map.proofs.live.forget.Goals as goal

-- the closure stays as it is, and keeps what isn't the pair's
pub returns-clause-items : goal.returns-clause-items
returns-clause-items c = filter_same _ _ _ (λ x b f' called. search rules) _ _ c.retain.ensures.filtered
