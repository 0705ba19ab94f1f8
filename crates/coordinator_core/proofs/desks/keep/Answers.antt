use Rattle.std.proofs.Common.{◌≡◌, ◌∙◌, Bool, filter, length, map, ap, rules, sym}
use Rattle.std.proofs.lemmas.List.{length-map}
use Rattle.arrayvec.proofs.ArrayVecLemmas.{filter-from_retain, items-with_items}
use Rattle.dtx_model.specs.declared.desk.Desk.{Desk}
use Rattle.dtx_model.specs.Coordinated.{is_prepared, kept_desks, unacked}
use Rattle.coordinator_core.proofs.desks.keep.Goals as goal

pub returns-then-found : goal.returns-then-found
returns-then-found c =
    let old = c.args.desks.now.items in
    let v = c.retain.new.self in
    let kept : v.items ≡ filter (λ d. is_prepared d.ballot) old = filter-from_retain _ (λ (d : Desk). is_prepared d.ballot) _ (λ x b f' y called. search rules) old v.items c.retain.ensures.filtered in
    let written : c.forget_in.new.desks ≡ map unacked v.items = c.forget_in.ensures ∙ ap (map unacked) c.as_mut_slice.ensures.value in
    items-with_items v c.forget_in.new.desks (ap length written ∙ length-map v.items unacked) ∙ written ∙ ap (map unacked) kept ∙ sym (ap (λ (b : Bool). kept_desks b old) c.if-found.true)
