use Rattle.std.proofs.Common.{◌≡◌, ◌∙◌, ◌&&◌, ◌+◌, arith, true, false, Some, ap, refl, set, sym, subst}
use Rattle.std.proofs.lemmas.List.{length-set}
use Rattle.std.specs.List.{list_any, position}
use Rattle.dtx_values.specs.declared.row.Row.{Row}
use Rattle.dtx_values.specs.Table.{has_row, how_many, rises_above, with_vote}
use Rattle.dtx_values.specs.Row.{has_voted, is_of, vote_in}
use Rattle.enlist_table.proofs.Places.{IsPlace, voted_at, place_found}
use Rattle.enlist_table.proofs.Refused.{allowed_at, no_row, passes_there, refused_there}
use Rattle.enlist_table.proofs.Rising.{map-absent, map-there, vote-kept, vote-other, number-vote, rises-map}
use Rattle.enlist_table.specs.Waiting.{is_waiting, one_if}
use Rattle.enlist_table.proofs.Waiting.{counted_vote, same_marks}
use Rattle.enlist_table.proofs.table.EnlistTable.set_vote.Goals as goal

none_stands : (c : goal.In_default) → has_row c.args.e.value c.args.self.now ≡ false
none_stands c = no_row c.args.e.value c.self.inside.rows.items c.args.self.now c.self.view_is (sym c.in_default.is ∙ c.place_of.ensures ∙ ap (position (is_of c.args.e.value)) c.deref.ensures.value)

pub returns-in_default-clause-refused : goal.returns-in_default-clause-refused
returns-in_default-clause-refused c = rw (none_stands c) refl

pub returns-in_default-clause-voted : goal.returns-in_default-clause-voted
returns-in_default-clause-voted c =
    let e = c.args.e.value in
    let n = c.args.v in
    let f : Row → Row = vote_in e n in
    sym (map-absent f e (vote-other e n) c.args.self.now (none_stands c))

place_then : (c : goal.Then-has_voted) → IsPlace c.args.e.value c.self.inside.rows.items c.in-Some.at
place_then c =
    let e = c.args.e.value in
    place_found e c.self.inside.rows.items c.in-Some.at (sym c.in-Some.is ∙ c.place_of.ensures ∙ ap (position (is_of e)) c.deref.ensures.value)

there_already : (c : goal.Then-has_voted) → list_any (λ x. is_of c.args.e.value x && has_voted x) c.args.self.now ≡ true
there_already c =
    passes_there c.args.e.value has_voted c.self.inside.rows.items c.args.self.now c.in-Some.at c.index.result.now true c.self.view_is c.self.invariant.2 (place_then c) c.index.ensures (sym c.has_voted.ensures ∙ c.if-has_voted.true)

pub returns-then-has_voted-clause-refused : goal.returns-then-has_voted-clause-refused
returns-then-has_voted-clause-refused c =
    refused_there c.args.e has_voted c.self.inside.rows.items c.args.self.now c.in-Some.at c.index.result.now c.self.view_is c.self.invariant.2 (place_then c) c.index.ensures (sym c.has_voted.ensures ∙ c.if-has_voted.true)

pub returns-then-has_voted-clause-voted : goal.returns-then-has_voted-clause-voted
returns-then-has_voted-clause-voted c =
    let e = c.args.e.value in
    let n = c.args.v in
    let f : Row → Row = vote_in e n in
    let rising = subst (λ ys. rises_above 0 ys ≡ true) c.self.view_is c.self.invariant.2 in
    sym (map-there f e has_voted (vote-other e n) (vote-kept e n) 0 c.args.self.now rising (there_already c))

place_after : (c : goal.After-self-2-1) → IsPlace c.args.e.value c.self.inside.rows.items c.in-Some.at
place_after c =
    let e = c.args.e.value in
    place_found e c.self.inside.rows.items c.in-Some.at (sym c.in-Some.is ∙ c.place_of.ensures ∙ ap (position (is_of e)) c.deref.ensures.value)

written : (c : goal.After-self-2-1) → set c.self.inside.rows.items c.in-Some.at (record { number = c.index_mut.result.now.number; class = c.index_mut.result.now.class; added = c.index_mut.result.now.added; asked = c.index_mut.result.now.asked; vote = Some c.args.v }) ≡ with_vote c.args.e.value c.args.v (c.self.inside.rows.items)
written c =
    let e = c.args.e.value in
    let xs = c.self.inside.rows.items in
    voted_at e c.args.v xs c.in-Some.at c.index_mut.result.now c.index.result.now c.self.invariant.2 (place_after c) c.index_mut.ensures.value c.index.ensures (sym c.has_voted.ensures ∙ c.if-has_voted.false)

counted : (c : goal.After-self-2-1) → how_many is_waiting (set c.self.inside.rows.items c.in-Some.at (record { number = c.index_mut.result.now.number; class = c.index_mut.result.now.class; added = c.index_mut.result.now.added; asked = c.index_mut.result.now.asked; vote = Some c.args.v })) + c.one_if.result ≡ c.self.inside.waiting
counted c =
    counted_vote c.args.v c.self.inside.rows.items c.in-Some.at c.index_mut.result.now c.index.result.now c.index-2.result.now c.self.inside.waiting c.one_if.result (place_after c).within c.index.ensures (sym c.has_voted.ensures ∙ c.if-has_voted.false) c.index_mut.ensures.value c.index-2.ensures (c.one_if.ensures ∙ ap one_if c.is_marked.ensures) c.self.invariant.3

pub invariant_of-self : goal.invariant_of-self
invariant_of-self c =
    let e = c.args.e.value in
    let xs = c.self.inside.rows.items in
    let n = c.args.v in (
      c.self.invariant.0,
      rw length-set c.self.invariant.1,
      rw (written c) (rw (rises-map (λ (x : Row). vote_in e n x) (number-vote e n) 0 xs) c.self.invariant.2),
      omega (arith, counted c),
      same_marks n xs c.in-Some.at c.index_mut.result.now c.self.inside.marked (place_after c).within c.index_mut.ensures.value c.self.invariant.4,
    )

pub returns-clause-allowed : goal.returns-clause-allowed
returns-clause-allowed c =
    allowed_at c.args.e has_voted c.self.inside.rows.items c.args.self.now c.in-Some.at c.index.result.now c.self.view_is c.self.invariant.2 (place_after c) c.index.ensures (sym c.has_voted.ensures ∙ c.if-has_voted.false)

pub returns-clause-voted : goal.returns-clause-voted
returns-clause-voted c = written c ∙ ap (λ ys. with_vote c.args.e.value c.args.v (ys)) c.self.view_is

pub overflow_sub-self : goal.overflow_sub-self
overflow_sub-self c =
    let e = c.args.e.value in
    let xs = c.self.inside.rows.items in
    let x = c.index-2.result.now in
    let place : IsPlace e xs c.in-Some.at = place_found e xs c.in-Some.at (sym c.in-Some.is ∙ c.place_of.ensures ∙ ap (position (is_of e)) c.deref.ensures.value) in
    omega (arith, counted_vote c.args.v xs c.in-Some.at x c.index.result.now x c.self.inside.waiting c.one_if.result place.within c.index.ensures (sym c.has_voted.ensures ∙ c.if-has_voted.false) c.index-2.ensures c.index-2.ensures (c.one_if.ensures ∙ ap one_if c.is_marked.ensures) c.self.invariant.3)
