use Rattle.std.proofs.Common.{◌≡◌, ◌≤◌, ◌+◌, ◌∷◌, List, Option, length, ap, sym, ◌∙◌, subst, drop}
use Rattle.std.specs.List.{flat_map}
use Rattle.std.proofs.lemmas.List.{drop_more}
use Rattle.dtx_values.specs.declared.note.Note.{Note}
use Rattle.dtx_values.specs.declared.number.EnlNo.{EnlNo}
use Rattle.dtx_model.specs.Words.{past_of}
use Rattle.dtx_model.specs.Plans.{plan_of}
use Rattle.dtx_model.specs.Replies.{names}
use Rattle.dtx_model.specs.Steps.{StepName}
use Rattle.world_parts.specs.Pending.{IsAt, planned_to, reply_if, reply_step}
use Rattle.world_parts.specs.declared.pending.At.TheVariants.{Step as StepHere}
use Rattle.world_parts.proofs.Places.{all_taken, part_here, replies_are}
use Rattle.world_parts.proofs.pending.named_replies_at.Goals as goal

pub returns-in-Step-clause-at : goal.returns-in-Step-clause-at
returns-in-Step-clause-at c =
    let p = plan_of (past_of c.args.calls.now) in
    let h = c.args.half.now.half in
    let xs = c.as_slice-e-items.result.now in
    let i = c.loop-e.e-index in
    let x = c.e-item.result in
    let same = c.as_slice-e-items.ensures.value ∙ c.names-es.ensures in
    let rest = subst (λ (ys : List EnlNo). drop i ys ≡ x ∷ drop (i + 1) ys) same (drop_more xs i x c.loop-e-test.true ∙ ap (λ (y : EnlNo). y ∷ drop (i + 1) xs) (sym c.e-item.is)) in
    let here = subst (λ (n : Option Note). IsAt (reply_if x (planned_to (p x.value) n)) c.loop-e.more (StepHere c.in-Step.s)) c.due_of.ensures c.in-Step.ensures.at in
    subst (λ (ms : List StepName). IsAt ms c.args.k (StepHere c.in-Step.s)) (sym (replies_are p h))
    (part_here (reply_step p h.seen) (names h.seen) i c.args.k c.loop-e.more x c.in-Step.s rest c.loop-e.invariant here)

pub returns-in-Step-clause-planned : goal.returns-in-Step-clause-planned
returns-in-Step-clause-planned c = c.in-Step.ensures.planned c.args.half.now.half.seen c.due_of.ensures

pub returns-clause-at : goal.returns-clause-at
returns-clause-at c =
    let p = plan_of (past_of c.args.calls.now) in
    let h = c.args.half.now.half in
    let i = c.loop-e.e-index in
    let same = c.as_slice-e-items.ensures.value ∙ c.names-es.ensures in
    let over = subst (λ (ys : List EnlNo). length ys ≤ i) same c.loop-e-test.false in
    c.loop-e.invariant ∙ ap (λ (es : List EnlNo). length (flat_map (reply_step p h.seen) es) + c.loop-e.more) (all_taken (names h.seen) i over) ∙ ap (λ (ms : List StepName). length ms + c.loop-e.more) (sym (replies_are p h))
