use Rattle.std.proofs.Common.{◌≡◌, ◌≢◌, List, ◌∷◌, [], ap, refl, rules, ◌∙◌}
use Rattle.dtx_values.specs.Outgoing.{Outgoing, written}
use Rattle.dtx_values.specs.TxIds.{number_of}
use Rattle.dtx_values.specs.declared.entry.Answer.TheVariants.{Fine}
use Rattle.dtx_values.specs.declared.entry.Entry.{Entry}
use Rattle.dtx_values.specs.declared.entry.Entry.TheVariants.{Called}
use Rattle.dtx_model.specs.Answers.{if_begun}
use Rattle.dtx_model.specs.World.{gone_unlinked}
use Rattle.half_parts.proofs.Writing.{unsent}
use Rattle.world_parts.proofs.LocalCalls.{gone_fine, gone_known, gone_refused, not_gone_known}
use Rattle.world_parts.proofs.local_calls.answer_gone.Goals as goal
use Rattle.dtx_model.proofs.Writing.{written-written}

pub returns-then-eq-clause-state : goal.returns-then-eq-clause-state
returns-then-eq-clause-state c =
    let h = c.args.half.now in
    let x = c.if_begun-answer.result in
    let fine : x ≡ Fine = search rules in
    c.gone.ensures.state ∙ gone_known h c.args.line c.args.actor c.args.e x (c.if_begun-answer.ensures ∙ ap (if_begun h.half.seen.limit) c.gone_answer.ensures) fine

pub returns-then-eq-clause-out : goal.returns-then-eq-clause-out
returns-then-eq-clause-out c =
    let h = c.args.half.now in
    let x = c.if_begun-answer.result in
    let fine : x ≡ Fine = search rules in
    c.gone.ensures.out
    ∙ ap (λ (o : Outgoing). written o (gone_unlinked h.half c.args.e)) (c.put.ensures ∙ unsent c.args.out.now (Called c.args.line c.args.actor x ∷ []) refl)
    ∙ written-written c.args.out.now (Called c.args.line c.args.actor x ∷ []) (gone_unlinked h.half c.args.e)
    ∙ ap (λ (es : List Entry). written c.args.out.now es) (gone_fine (number_of h.transaction) h.half c.args.line c.args.actor c.args.e x (c.if_begun-answer.ensures ∙ ap (if_begun h.half.seen.limit) c.gone_answer.ensures) fine)

pub returns-else-eq-clause-state : goal.returns-else-eq-clause-state
returns-else-eq-clause-state c =
    let h = c.args.half.now in
    let x = c.if_begun-answer.result in
    let other : x ≢ Fine = search rules in
    not_gone_known h c.args.line c.args.actor c.args.e x (c.if_begun-answer.ensures ∙ ap (if_begun h.half.seen.limit) c.gone_answer.ensures) other

pub returns-else-eq-clause-out : goal.returns-else-eq-clause-out
returns-else-eq-clause-out c =
    let h = c.args.half.now in
    let x = c.if_begun-answer.result in
    let other : x ≢ Fine = search rules in
    c.put.ensures
    ∙ unsent c.args.out.now (Called c.args.line c.args.actor x ∷ []) refl
    ∙ ap (λ (es : List Entry). written c.args.out.now es) (gone_refused (number_of h.transaction) h.half c.args.line c.args.actor c.args.e x (c.if_begun-answer.ensures ∙ ap (if_begun h.half.seen.limit) c.gone_answer.ensures) other)
