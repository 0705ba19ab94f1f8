use Rattle.std.proofs.Common.{◌≡◌, ◌≤◌, ◌<◌, ◌+◌, ◌∷◌, List, Option, get_or, length, ap, sym, ◌∙◌, subst, drop}
use Rattle.std.specs.List.{flat_map}
use Rattle.std.proofs.lemmas.List.{drop_more}
use Rattle.dtx_values.specs.declared.note.Note.{Note}
use Rattle.dtx_values.specs.declared.row.Row.{Row}
use Rattle.dtx_model.specs.Words.{past_of}
use Rattle.dtx_model.specs.Plans.{plan_of}
use Rattle.dtx_model.specs.Steps.{StepName}
use Rattle.world_parts.specs.Pending.{IsAt, planned_to, reply_if}
use Rattle.world_parts.specs.declared.pending.At.TheVariants.{Step as StepHere}
use Rattle.world_parts.proofs.ByRow.{due_row, row_replies_are, row_step}
use Rattle.world_parts.proofs.Places.{all_taken, part_here}
use Rattle.world_parts.proofs.pending.row_replies_at.Goals as goal

pub returns-in-Step-clause-at : goal.returns-in-Step-clause-at
returns-in-Step-clause-at c =
    let p = plan_of (past_of c.args.calls.now) in
    let h = c.args.half.now.half in
    let xs = c.rows-x-items.result.now in
    let i = c.loop-x.x-index in
    let x = c.x-item.result in
    let same = c.rows-x-items.ensures.rows in
    let rest = subst (λ (ys : List Row). drop i ys ≡ x ∷ drop (i + 1) ys) same (drop_more xs i x c.loop-x-test.true ∙ ap (λ (y : Row). y ∷ drop (i + 1) xs) (sym c.x-item.is)) in
    let here = subst (λ (n : Option Note). IsAt (reply_if x.number (planned_to (p x.number.value) n)) c.loop-x.more (StepHere c.in-Step.s)) c.due_note.ensures c.in-Step.ensures.at in
    subst (λ (ms : List StepName). IsAt ms c.args.k (StepHere c.in-Step.s)) (sym (row_replies_are p h c.rows-x-items.ensures.rise c.requires))
    (part_here (row_step p h.seen) h.seen.table i c.args.k c.loop-x.more x c.in-Step.s rest c.loop-x.invariant here)

pub returns-in-Step-clause-planned : goal.returns-in-Step-clause-planned
returns-in-Step-clause-planned c =
    let o = c.args.half.now.half.seen in
    let i = c.loop-x.x-index in
    let x = c.x-item.result in
    let same = c.rows-x-items.ensures.rows in
    let within = subst (λ (ys : List Row). i < length ys) same c.loop-x-test.true in
    let here = subst (λ (ys : List Row). x ≡ get_or ys i x) same c.x-item.is in
    c.in-Step.ensures.planned o (c.due_note.ensures ∙ sym (due_row o i x c.rows-x-items.ensures.rise within here))

pub returns-clause-at : goal.returns-clause-at
returns-clause-at c =
    let p = plan_of (past_of c.args.calls.now) in
    let h = c.args.half.now.half in
    let i = c.loop-x.x-index in
    let over = subst (λ (ys : List Row). length ys ≤ i) c.rows-x-items.ensures.rows c.loop-x-test.false in
    c.loop-x.invariant
    ∙ ap (λ (xs : List Row). length (flat_map (row_step p h.seen) xs) + c.loop-x.more) (all_taken h.seen.table i over)
    ∙ ap (λ (ms : List StepName). length ms + c.loop-x.more) (sym (row_replies_are p h c.rows-x-items.ensures.rise c.requires))
