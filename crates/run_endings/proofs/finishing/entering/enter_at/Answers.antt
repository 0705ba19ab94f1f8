use Rattle.std.proofs.Common.{◌≡◌, ◌≢◌, ◌+◌, ◌∙◌, List, Some, ap, arith, length, refl, set, subst, sym}
use Rattle.std.specs.Prelude.{IsSome}
use Rattle.std.proofs.Math.Seq.{map-set_same}
use Rattle.std.proofs.lemmas.Option.{slice_get_read, slice_get_within}
use Rattle.dtx_values.specs.declared.number.ActorNo.{ActorNo}
use Rattle.script_calls.specs.Rows.{further, row_at}
use Rattle.tx_cells.specs.Cell.{Cell}
use Rattle.tx_cells.specs.Entering.{next_of}
use Rattle.run_endings.specs.Finishing.{HaveSameCalls, left_in, left_of}
use Rattle.run_endings.proofs.Left.{on_ok, one_less_in, same_left_of, set_less, set_same}
use Rattle.run_endings.proofs.Untied.{untied_at}
use Rattle.run_endings.proofs.finishing.entering.enter_at.Goals as goal

pub returns-clause-less : goal.returns-clause-less
returns-clause-less g c =
    let a = c.args.a in
    let i = c.args.i in
    let states = c.args.states.now in
    let x = c.index-states-i.result in
    let y = c.enter.new.state in
    let less = slice_get_within states i c.requires.next.0 c.requires.next.1 in
    let there : Some x ≡ Some c.requires.next.0 = sym (slice_get_read states (length states) i x refl less c.index-states-i.is) ∙ c.requires.next.1 in
    let same : c.requires.next.0 ≡ x = cc in
    let next : IsSome (next_of a x) = subst (λ (z : Cell). IsSome (next_of a z)) same c.requires.next.2 in
    let row : row_at a y.rows ≡ further (row_at a x.rows) = c.in_ok-enter.ensures.row ∙ ap (λ (z : Cell). further (row_at a z.rows)) (sym c.index-states-i.is) in
    let one = set_less a states i x y less c.index-states-i.is (one_less_in (row_at a x.rows) (row_at a y.rows) next row) in
    on_ok {P = HaveSameCalls (set states i y) c.follow_stop.new.states} {Q = left_of a c.follow_stop.new.states c.enter.new.log + 1 ≡ left_of a states c.args.log.now} c.follow_stop.result
    (λ calls. let kept = same_left_of a (set states i y) c.follow_stop.new.states c.args.log.now c.enter.new.log calls c.in_ok-enter.ensures.log_rows in omega (arith, one, kept))
    c.follow_stop.ensures.calls

pub returns-clause-others : goal.returns-clause-others
returns-clause-others g c =
    let states = c.args.states.now in
    let x = c.index-states-i.result in
    let y = c.enter.new.state in
    let mid = set states c.args.i y in
    on_ok {P = HaveSameCalls mid c.follow_stop.new.states} {Q = (b : ActorNo) → b ≢ c.args.a → left_of b c.follow_stop.new.states c.enter.new.log ≡ left_of b states c.args.log.now} c.follow_stop.result
    (λ calls b other.
    let row : left_in (row_at b y.rows) ≡ left_in (row_at b x.rows) = ap left_in (c.in_ok-enter.ensures.others b other) ∙ ap (λ (z : Cell). left_in (row_at b z.rows)) (sym c.index-states-i.is) in
    let one = set_same b states c.args.i x y (slice_get_within states c.args.i c.requires.next.0 c.requires.next.1) c.index-states-i.is row in
    let kept = same_left_of b mid c.follow_stop.new.states c.args.log.now c.enter.new.log calls c.in_ok-enter.ensures.log_rows in
    omega (arith, one, kept))
    c.follow_stop.ensures.calls

pub returns-in_err-enter-clause-cause : goal.returns-in_err-enter-clause-cause
returns-in_err-enter-clause-cause g c =
    untied_at c.args.states.now c.args.i c.enter.new.state c.enter.new.log c.in_err-enter.field-0.0 c.from_residual.result (slice_get_within c.args.states.now c.args.i c.requires.next.0 c.requires.next.1) c.in_err-enter.ensures.cause c.from_residual.ensures.1

pub returns-in_err-enter-clause-numbers : goal.returns-in_err-enter-clause-numbers
returns-in_err-enter-clause-numbers g c = map-set_same (λ (z : Cell). z.tx.transaction) c.args.states.now c.args.i c.enter.new.state c.index-states-i.result c.enter.ensures.transaction

pub returns-clause-numbers : goal.returns-clause-numbers
returns-clause-numbers g c =
    c.follow_stop.ensures.numbers ∙ map-set_same (λ (z : Cell). z.tx.transaction) c.args.states.now c.args.i c.enter.new.state c.index-states-i.result c.enter.ensures.transaction
