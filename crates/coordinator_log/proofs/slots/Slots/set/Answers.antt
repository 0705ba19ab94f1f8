use Rattle.std.specs.Option.{option_map}
use Rattle.std.proofs.Common.{◌≡◌, ◌∙◌, ◌≤◌, ◌<◌, List, None, Option, ap, arith, length, not, set, sym}
use Rattle.std.proofs.lemmas.List.{map-set}
use Rattle.dtx_values.specs.declared.record.LogRecord.{LogRecord}
use Rattle.dtx_model.specs.Log.{CommitRecord, record_of}
use Rattle.coordinator_log.specs.Slots.{with_closed}
use Rattle.coordinator_log.proofs.Marks.{closed_kept, set_kept}
use Rattle.coordinator_log.proofs.OpenRecords.{is_none_at, records_in}
use Rattle.coordinator_log.proofs.slots.Slots.set.Goals as goal

pub returns-then-len-k-clause-slots : goal.returns-then-len-k-clause-slots
returns-then-len-k-clause-slots c =
    let kept = c.self.inside.records.items in
    let k = c.args.k in
    let none : c.args.r ≡ None = is_none_at c.args.r (ap not (c.is_none.ensures ∙ ap not c.if-is_none.true)) in
    let past : length kept ≤ k = omega (arith, c.len.ensures, c.self.inside.records.ok.0, c.if-len-k.true) in
    sym c.self.view_is ∙ ap records_in (closed_kept 1024 kept k past) ∙ map-set (option_map record_of) (with_closed 1024 kept) k None
    ∙ ap (λ (l : List (Option CommitRecord)). set l k None) c.self.view_is ∙ ap (λ (r : Option LogRecord). set c.args.self.now k (option_map record_of r)) (sym none)

pub returns-clause-slots : goal.returns-clause-slots
returns-clause-slots c =
    let kept = c.reach.new.slots.items in
    let k = c.args.k in
    let r = c.args.r in
    let there : k < length kept = omega (arith, c.reach.ensures.reached) in
    ap records_in (set_kept 1024 kept k r there) ∙ map-set (option_map record_of) (with_closed 1024 kept) k r
    ∙ ap (λ (l : List (Option LogRecord)). set (records_in l) k (option_map record_of r)) c.reach.ensures.same ∙ ap (λ (l : List (Option CommitRecord)). set l k (option_map record_of r)) c.self.view_is
