use Rattle.std.proofs.Common.{◌≡◌, ap, sym, ◌∙◌, ◌∷◌, ◌+◌, List, true, false, Some, Option, drop, refl}
use Rattle.std.specs.Prelude.{find}
use Rattle.std.proofs.lemmas.List.{drop_all}
use Rattle.std.specs.Option.{option_map}
use Rattle.dtx_values.specs.TxIds.{number_of}
use Rattle.kv_resource.specs.Bytes.{KvRecord}
use Rattle.kv_resource.specs.Store.{is_busy_record, open_records, pair_of_record}
use Rattle.kv_resource.proofs.Loops.{closed_at, open_at}
use Rattle.kv_resource.proofs.slots.busy_slot.Goals as goal
use Rattle.kv_resource.proofs.slots.busy_slot.Goals.{in-Some+else-is_busy, in_default}

pub returns-then-is_busy : goal.returns-then-is_busy
returns-then-is_busy c =
    let q = is_busy_record (number_of c.args.t, c.args.e.value) c.args.key in
    let r = c.in-Some.r in
    let test : q r ≡ true = sym c.is_busy.ensures ∙ c.if-is_busy.true in
    let here : find q (r ∷ open_records (drop (c.loop-slot.slot-index + 1) c.args.slots.now)) ≡ Some r = rw test refl in
    let found = c.loop-slot.invariant ∙ ap (find q) (open_at c.args.slots.now c.loop-slot.slot-index c.slot-item.result r c.loop-slot-test.true c.slot-item.is c.in-Some.is) ∙ here in
    let same : Some (number_of c.pair.result.0, c.pair.result.1.value) ≡ Some (pair_of_record r) = λ i. Some (c.pair.ensures.transaction i, c.pair.ensures.enlistment i) in
    same ∙ sym (ap (λ (x : Option KvRecord). option_map pair_of_record x) found)

pub loop-slot-preserved : goal.loop-slot-preserved
loop-slot-preserved c =
    let q = is_busy_record (number_of c.args.t, c.args.e.value) c.args.key in
    let rest = drop (c.loop-slot.slot-index + 1) c.args.slots.now in
    c.loop-slot.invariant ∙ elim c.match-slot.branch [
      | in-Some+else-is_busy w ↦
          let r = w.in-Some.r in
          let test : q r ≡ false = sym w.is_busy.ensures ∙ w.if-is_busy.false in
          let past : find q (r ∷ open_records rest) ≡ find q (open_records rest) = rw test refl in
          ap (find q) (open_at c.args.slots.now c.loop-slot.slot-index c.slot-item.result r c.loop-slot-test.true c.slot-item.is w.in-Some.is) ∙ past
      | in_default w ↦ ap (find q) (closed_at c.args.slots.now c.loop-slot.slot-index c.slot-item.result c.loop-slot-test.true c.slot-item.is w.in_default.is)
    ]

pub returns : goal.returns
returns c =
    let q = is_busy_record (number_of c.args.t, c.args.e.value) c.args.key in
    sym (ap (λ (x : Option KvRecord). option_map pair_of_record x) (c.loop-slot.invariant ∙ ap (λ (l : List (Option KvRecord)). find q (open_records l)) (drop_all c.loop-slot.slot-index c.args.slots.now c.loop-slot-test.false)))
