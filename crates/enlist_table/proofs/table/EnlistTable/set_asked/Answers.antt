use Rattle.std.proofs.Common.{◌≡◌, ◌∙◌, ◌&&◌, arith, not, true, false, Some, ap, map, refl, set, sym, subst}
use Rattle.std.proofs.lemmas.List.{length-set}
use Rattle.std.specs.List.{list_any, position}
use Rattle.dtx_values.specs.declared.row.Row.{Row}
use Rattle.dtx_values.specs.Table.{has_row, marks, rises_above, with_mark}
use Rattle.dtx_values.specs.Row.{is_marked, is_of, mark_in}
use Rattle.enlist_table.proofs.Places.{IsPlace, marked_at, place_found}
use Rattle.enlist_table.proofs.Refused.{allowed_at, no_row, passes_there, refused_there}
use Rattle.enlist_table.proofs.Rising.{map-absent, map-there, mark-kept, mark-other, number-mark, rises-map}
use Rattle.dtx_values.proofs.Counts.{how_many-le-length}
use Rattle.enlist_table.specs.Waiting.{is_waiting, one_if}
use Rattle.enlist_table.proofs.Waiting.{counted_mark, one_at_most, one_more_mark}
use Rattle.enlist_table.proofs.table.EnlistTable.set_asked.Goals as goal

none_stands : (c : goal.In_default) → has_row c.args.e.value c.args.self.now ≡ false
none_stands c = no_row c.args.e.value c.self.inside.rows.items c.args.self.now c.self.view_is (sym c.in_default.is ∙ c.place_of.ensures ∙ ap (position (is_of c.args.e.value)) c.deref.ensures.value)

pub returns-in_default-clause-refused : goal.returns-in_default-clause-refused
returns-in_default-clause-refused c = rw (none_stands c) refl

pub returns-in_default-clause-marked : goal.returns-in_default-clause-marked
returns-in_default-clause-marked c =
    let e = c.args.e.value in
    let n = marks c.args.self.now in
    let f : Row → Row = mark_in e n in
    sym (map-absent f e (mark-other e n) c.args.self.now (none_stands c))

place_then : (c : goal.Then-is_marked) → IsPlace c.args.e.value c.self.inside.rows.items c.in-Some.at
place_then c =
    let e = c.args.e.value in
    place_found e c.self.inside.rows.items c.in-Some.at (sym c.in-Some.is ∙ c.place_of.ensures ∙ ap (position (is_of e)) c.deref.ensures.value)

there_already : (c : goal.Then-is_marked) → list_any (λ x. is_of c.args.e.value x && is_marked x) c.args.self.now ≡ true
there_already c =
    passes_there c.args.e.value is_marked c.self.inside.rows.items c.args.self.now c.in-Some.at c.index.result.now true c.self.view_is c.self.invariant.2 (place_then c) c.index.ensures (sym c.is_marked.ensures ∙ c.if-is_marked.true)

pub returns-then-is_marked-clause-refused : goal.returns-then-is_marked-clause-refused
returns-then-is_marked-clause-refused c =
    refused_there c.args.e is_marked c.self.inside.rows.items c.args.self.now c.in-Some.at c.index.result.now c.self.view_is c.self.invariant.2 (place_then c) c.index.ensures (sym c.is_marked.ensures ∙ c.if-is_marked.true)

pub returns-then-is_marked-clause-marked : goal.returns-then-is_marked-clause-marked
returns-then-is_marked-clause-marked c =
    let e = c.args.e.value in
    let n = marks c.args.self.now in
    let f : Row → Row = mark_in e n in
    let rising = subst (λ ys. rises_above 0 ys ≡ true) c.self.view_is c.self.invariant.2 in
    sym (map-there f e is_marked (mark-other e n) (mark-kept e n) 0 c.args.self.now rising (there_already c))

place_after : (c : goal.After-self-3-1) → IsPlace c.args.e.value c.self.inside.rows.items c.in-Some.at
place_after c =
    let e = c.args.e.value in
    place_found e c.self.inside.rows.items c.in-Some.at (sym c.in-Some.is ∙ c.place_of.ensures ∙ ap (position (is_of e)) c.deref.ensures.value)

written : (c : goal.After-self-3-1) → set c.self.inside.rows.items c.in-Some.at (record { number = c.index_mut.result.now.number; class = c.index_mut.result.now.class; added = c.index_mut.result.now.added; asked = Some c.self.inside.marked; vote = c.index_mut.result.now.vote }) ≡ with_mark c.args.e.value (c.self.inside.rows.items)
written c =
    let e = c.args.e.value in
    let xs = c.self.inside.rows.items in
    let n_is = c.self.invariant.4 in
    marked_at e c.self.inside.marked xs c.in-Some.at c.index_mut.result.now c.index.result.now c.self.invariant.2 (place_after c) c.index_mut.ensures.value c.index.ensures (sym c.is_marked.ensures ∙ c.if-is_marked.false)
    ∙ ap (λ k. map (mark_in e k) xs) n_is

pub invariant_of-self : goal.invariant_of-self
invariant_of-self c =
    let e = c.args.e.value in
    let xs = c.self.inside.rows.items in
    let n = marks xs in (
      c.self.invariant.0,
      rw length-set c.self.invariant.1,
      rw (written c) (rw (rises-map (λ (x : Row). mark_in e n x) (number-mark e n) 0 xs) c.self.invariant.2),
      counted_mark c.self.inside.marked xs c.in-Some.at c.index_mut.result.now c.index.result.now c.index-2.result.now c.self.inside.waiting c.one_if.result (place_after c).within c.index.ensures (sym c.is_marked.ensures ∙ c.if-is_marked.false) c.index_mut.ensures.value c.index-2.ensures (c.one_if.ensures ∙ ap (λ v. one_if (not v)) c.has_voted.ensures) c.self.invariant.3,
      one_more_mark c.self.inside.marked xs c.in-Some.at c.index_mut.result.now c.index.result.now c.self.inside.marked (place_after c).within c.index.ensures (sym c.is_marked.ensures ∙ c.if-is_marked.false) c.index_mut.ensures.value c.self.invariant.4,
    )

pub returns-clause-allowed : goal.returns-clause-allowed
returns-clause-allowed c =
    allowed_at c.args.e is_marked c.self.inside.rows.items c.args.self.now c.in-Some.at c.index.result.now c.self.view_is c.self.invariant.2 (place_after c) c.index.ensures (sym c.is_marked.ensures ∙ c.if-is_marked.false)

pub returns-clause-marked : goal.returns-clause-marked
returns-clause-marked c = written c ∙ ap (λ ys. with_mark c.args.e.value (ys)) c.self.view_is

pub overflow_add-self : goal.overflow_add-self
overflow_add-self c = omega (arith, c.self.invariant.3, c.self.invariant.1, how_many-le-length is_waiting c.self.inside.rows.items, c.one_if.ensures, one_at_most (not c.has_voted.result))

pub overflow_add-self-2 : goal.overflow_add-self-2
overflow_add-self-2 c = omega (arith, c.self.invariant.4, c.self.invariant.1, how_many-le-length is_marked c.self.inside.rows.items)
