use Rattle.std.proofs.Common.{rules}
use Rattle.std.proofs.lemmas.List.Sorted.{answers_always}
use Rattle.kv_resource.proofs.Rising.{searched}
use Rattle.kv_resource.proofs.rows.search.Goals as goal

-- the closure gives a row's key
pub returns : goal.returns
returns c =
    let facts = c.binary_search_by_key.ensures in
    let by_key = facts.position (λ w. w.0) (answers_always _ _ _ (λ f a r g called. search rules)) in
    searched c.args.key _ c.requires _ facts.bound by_key
