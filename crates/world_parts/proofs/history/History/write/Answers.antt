use Rattle.std.proofs.Common.{◌≡◌, ◌+◌, List, ◌∷◌, ap, sym, ◌∙◌, subst, drop, true}
use Rattle.std.proofs.lemmas.List.{drop_more}
use Rattle.dtx_values.specs.declared.entry.Entry.{Entry}
use Rattle.world_laws.specs.Carried.{is_sendable}
use Rattle.world_laws.proofs.Carrying.{next_sendable}
use Rattle.world_parts.proofs.history.History.write.Goals as goal

pub put-requires-clause-sendable : goal.put-requires-clause-sendable
put-requires-clause-sendable c =
    let xs = c.args.xs.now in
    let i = c.loop-x.x-index in
    let x = c.x-item.result in
    let rest = drop_more xs i x c.loop-x-test.true ∙ ap (λ (y : Entry). y ∷ drop (i + 1) xs) (sym c.x-item.is) in
    subst (λ (g : List Entry). is_sendable g x ≡ true) (sym c.loop-x.invariant.0) (next_sendable c.args.self.now.past xs i x c.requires.sendable rest)
