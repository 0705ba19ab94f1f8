use Rattle.std.proofs.Common.{rules}
use Rattle.std.proofs.lemmas.List.Sorted.{answers_always}
use Rattle.tx_map.proofs.Rising.{searched}
use Rattle.tx_map.proofs.order.search.Goals as goal

-- the closure gives an item's number
pub returns : goal.returns
returns g c =
    let facts = c.binary_search_by_key.ensures in
    let by_key = facts.position g.T.Numbered.key (answers_always _ _ _ (λ f a r h called. search rules)) in
    searched g.T.Numbered.key c.args.key _ c.requires _ facts.bound by_key
