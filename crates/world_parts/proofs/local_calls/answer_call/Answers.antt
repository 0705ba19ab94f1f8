use Rattle.std.proofs.Common.{◌≡◌, ◌∷◌, [], List, true, ap, refl, ◌∙◌}
use Rattle.dtx_values.specs.Outgoing.{written}
use Rattle.dtx_values.specs.TxIds.{number_of}
use Rattle.dtx_values.specs.declared.entry.Answer.{Answer}
use Rattle.dtx_values.specs.declared.entry.Entry.{Entry}
use Rattle.dtx_values.specs.declared.entry.Entry.TheVariants.{Called}
use Rattle.dtx_model.specs.Answers.{await_answer, if_begun}
use Rattle.dtx_model.specs.Steps.{Calls, entered}
use Rattle.half_parts.proofs.Writing.{unsent}
use Rattle.local_half.specs.Half.{after}
use Rattle.world_parts.specs.Entering.{half_answer}
use Rattle.world_parts.proofs.LocalCalls.{answers_itself, await_answered, do_answer, own_answer, own_call, is_told, told_block, told_known}
use Rattle.world_parts.proofs.local_calls.answer_call.Goals.{After-put, in-Do, in-Await}
use Rattle.world_parts.proofs.local_calls.answer_call.Goals as goal

pub call-requires-clause-own : goal.call-requires-clause-own
call-requires-clause-own c = answers_itself c.args.c.now c.requires.near c.in_default.not-Await c.in_default.not-Do c.in_default.not-Gone

pub returns-in_default : goal.returns-in_default
returns-in_default c =
    let h = c.args.half.now in
    let t = (number_of h.transaction) in
    let own = answers_itself c.args.c.now c.requires.near c.in_default.not-Await c.in_default.not-Do c.in_default.not-Gone in
    let same = own_call t h.half c.args.line c.args.actor c.args.c.now c.args.done own in
    let mine = entered (Calls c.args.line c.args.actor c.args.c.now c.args.done) [] in
    record {
      answer = c.call.ensures.answer ∙ own_answer t h.half c.args.c.now c.args.done own;
      state = c.call.ensures.state ∙ ap (λ (es : List Entry). after mine h es) same;
      out = c.call.ensures.out ∙ ap (λ (es : List Entry). written c.args.out.now es) same;
    }

-- a `do` or an `await` has no facts
unheard : (c : After-put) → is_told c.args.c.now ≡ true
unheard c = elim c.match-c.branch [ in-Do w ↦ ap is_told w.in-Do.is | in-Await w ↦ ap is_told w.in-Await.is ]

-- and is answered so
answered : (c : After-put) → c.match-c.answer ≡ half_answer (number_of c.args.half.now.transaction) c.args.half.now.half c.args.c.now c.args.done
answered c =
    let h = c.args.half.now in
    let t = (number_of h.transaction) in
    elim c.match-c.branch [
      | in-Do w ↦ w.answer-is ∙ w.if_begun-answer.ensures ∙ do_answer t h.half c.args.c.now w.in-Do.field-0 w.in-Do.field-1 w.in-Do.field-2 c.args.done w.in-Do.is
      | in-Await w ↦
          w.answer-is
          ∙ w.if_begun-answer-in-Await.ensures
          ∙ ap (if_begun h.half.seen.limit) (w.await_answer.ensures ∙ ap await_answer w.told_client.ensures)
          ∙ await_answered t h.half c.args.c.now w.in-Await.field-0 c.args.done w.in-Await.is
    ]

pub returns-clause-answer : goal.returns-clause-answer
returns-clause-answer c = answered (goal.at.returns-clause-answer c).After-put

pub returns-clause-state : goal.returns-clause-state
returns-clause-state c = told_known c.args.half.now c.args.line c.args.actor c.args.c.now c.args.done (unheard (goal.at.returns-clause-state c).After-put)

pub returns-clause-out : goal.returns-clause-out
returns-clause-out c =
    let h = c.args.half.now in
    let t = (number_of h.transaction) in
    let b = (goal.at.returns-clause-out c).After-put in
    c.put.ensures
    ∙ unsent c.args.out.now (Called c.args.line c.args.actor c.match-c.answer ∷ []) refl
    ∙ ap (λ (x : Answer). written c.args.out.now (Called c.args.line c.args.actor x ∷ [])) (answered b)
    ∙ ap (λ (es : List Entry). written c.args.out.now es) (told_block t h.half c.args.line c.args.actor c.args.c.now c.args.done (unheard b))
