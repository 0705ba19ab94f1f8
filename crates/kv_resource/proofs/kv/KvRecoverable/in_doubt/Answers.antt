use Rattle.std.proofs.Common.{ap, sym, ◌∙◌, arith, Some}
use Rattle.std.specs.Option.{option_map}
use Rattle.resource_managers.specs.Pairs.{pair_of}
use Rattle.resource_managers.specs.declared.enlistment.Enlistment.{Enlistment}
use Rattle.kv_resource.specs.Store.{in_doubt, open_records}
use Rattle.kv_resource.proofs.Finding.{Slots}
use Rattle.kv_resource.proofs.Held.{first_doubt, first_pair}
use Rattle.kv_resource.proofs.kv.KvRecoverable.in_doubt.Goals as goal

pub returns-in_err-t : goal.returns-in_err-t
returns-in_err-t g c =
    let old = c.args.self.now in
    let doubt = first_doubt old.earlier old.earlier 0 old.memory.slots (omega arith) in
    let seen = c.of.ensures ∙ ap (λ (l : Slots). in_doubt (open_records l)) c.earlier_slots.ensures in
    ap (option_map pair_of) c.from_residual.ensures ∙ sym (doubt ∙ ap first_pair (sym seen ∙ c.in_err-t.ensures.steps.0))

pub returns : goal.returns
returns g c =
    let old = c.args.self.now in
    let doubt = first_doubt old.earlier old.earlier 0 old.memory.slots (omega arith) in
    let seen = c.of.ensures ∙ ap (λ (l : Slots). in_doubt (open_records l)) c.earlier_slots.ensures in
    ap (λ (e : Enlistment). Some (pair_of e)) c.new.ensures ∙ sym (doubt ∙ ap first_pair (sym seen ∙ c.in_ok-t.ensures.steps))
