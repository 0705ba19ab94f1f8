use Rattle.std.proofs.Common.{◌≡◌, ◌∙◌, ◌+◌, ◌-◌, ℕ, suc, [], ap, sym, subst, arith, drop, take, length, length-drop, get_or, false, None, Some}
use Rattle.std.proofs.lemmas.List.{get_or_default, take_all}
use Rattle.kv_resource.specs.Bytes.{KvRecord}
use Rattle.kv_resource.specs.Store.{is_unmarked, on_open, open_records}
use Rattle.kv_resource.specs.Table.{IsRising, with_writes_under}
use Rattle.kv_resource.proofs.Finding.{Slots, open_is}
use Rattle.kv_resource.proofs.Rising.{table_rises}
use Rattle.kv_resource.proofs.Under.{no_mark, one_less, slot_marked}
use Rattle.kv_resource.proofs.slots.put_marked.Goals as goal

pub put_rows-requires-clause-rises : goal.put_rows-requires-clause-rises
put_rows-requires-clause-rises c = subst IsRising (sym c.requires.tabled.is) (table_rises (open_records c.args.slots.now))

pub put_rows-requires-clause-room : goal.put_rows-requires-clause-room
put_rows-requires-clause-room c =
    let ss = c.args.slots.now in
    let o = open_is is_unmarked (get_or ss c.args.k None) c.requires.unmarked in
    let less = one_less ss c.args.k o.0 o.1 (no_mark (Some o.0) o.2) in
    omega (arith, less, c.requires.tabled.room)

pub returns-in-Some : goal.returns-in-Some
returns-in-Some c r e =
    let ss = c.args.slots.now in
    let k = c.args.k in
    let t = c.args.rows.now.items in
    let here : Some r ≡ Some c.in-Some.r = sym e ∙ get_or_default ss k None c.index-slots-k.result c.requires.slot ∙ sym c.index-slots-k.is ∙ c.in-Some.is in
    let same : r ≡ c.in-Some.r = cc in
    let later : take (length ss - (k + 1)) (drop (k + 1) ss) ≡ drop (k + 1) ss = take_all (length ss - (k + 1)) (drop (k + 1) ss) (omega (arith, length-drop (k + 1) ss)) in
    let next : k + 1 ≡ suc k = omega arith in
    let unmarked : r.marked ≡ false = no_mark (Some r) (ap (on_open is_unmarked) (sym e) ∙ c.requires.unmarked) in
    let less = one_less ss k r e unmarked in
    record {
      is = c.put_rows.ensures.items ∙ ap (λ (l : Slots). with_writes_under l c.in-Some.r.writes t) later ∙ ap (λ (n : ℕ). with_writes_under (drop n ss) c.in-Some.r.writes t) next ∙ ap (λ (x : KvRecord). with_writes_under (drop (suc k) ss) x.writes t) (sym same)
          ∙ ap (with_writes_under (drop (suc k) ss) r.writes) c.requires.tabled.is ∙ sym (slot_marked [] ss k r e unmarked);
      room = omega (arith, less, c.requires.tabled.room, c.put_rows.ensures.few, c.put_rows.ensures.capacity);
    }
