use Rattle.std.specs.Prelude.{is_some}
use Rattle.std.specs.Option.{option_map}
use Rattle.std.proofs.Common.{◌≡◌, ◌∙◌, ◌≤◌, ◌<◌, List, None, Option, ap, arith, false, get_or, length, nat_lt, sym}
use Rattle.std.proofs.lemmas.Bool.Decides.{nat_tests}
use Rattle.std.proofs.lemmas.List.{get_or-map, get_or_past}
use Rattle.dtx_model.specs.Log.{CommitRecord, record_of}
use Rattle.coordinator_log.specs.Slots.{with_closed}
use Rattle.coordinator_log.proofs.Marks.{length-with_closed, read_kept}
use Rattle.coordinator_log.proofs.slots.Slots.record.Goals as goal

pub returns-in-None : goal.returns-in-None
returns-in-None c =
    let kept = c.self.inside.records.items in
    let test : nat_lt c.args.k (length c.deref.result.now) ≡ false = sym c.get.ensures.lookup.0 ∙ ap is_some c.in-None.is in
    let long : length c.deref.result.now ≡ length kept = ap length c.deref.ensures.value in
    let past : length kept ≤ c.args.k = grind (arith, nat_tests) in
    let read : get_or (with_closed 1024 kept) c.args.k None ≡ None = read_kept 1024 kept c.args.k ∙ get_or_past kept c.args.k None past in
    let less : c.args.k < length (with_closed 1024 kept) = omega (arith, length-with_closed 1024 kept c.self.invariant.0, c.requires) in
    sym (ap (λ (ss : List (Option CommitRecord)). get_or ss c.args.k None) (sym c.self.view_is) ∙ get_or-map (option_map record_of) (with_closed 1024 kept) c.args.k None None less ∙ ap (option_map record_of) read)
