use Rattle.std.proofs.Common.{◌≡◌, List, [], ◌∷◌, drop, refl, ap, sym, ◌∙◌}
use Rattle.dtx_values.specs.declared.message.Message.{Message}
use Rattle.dtx_model.specs.Wires.{without_first}
use Rattle.trace_checker.specs.Ways.{is_end_on, is_way_ended, messages, messages_on}
use Rattle.trace_checker.proofs.Placing.{change, row_is}
use Rattle.trace_checker.proofs.ways.Ways.take.Goals as goal

dropped : (ms : List Message) → drop 1 ms ≡ without_first ms
dropped [] = refl
dropped (m ∷ ms) = refl

pub returns-in-Some-clause-taken : goal.returns-in-Some-clause-taken
returns-in-Some-clause-taken c = λ t.
    let k = c.args.k in let ws = c.args.self.now in let y = c.index_mut-way.result.now in
    let at = c.in-Some.ensures.some.0 in
    let is = row_is k c.in-Some.p ws y at c.index_mut-way.ensures.value in
    change k c.in-Some.p ws _ y (record y { messages = c.pop_front.new.self }) (without_first (messages k ws)) (is_way_ended k ws) at c.index_mut-way.ensures.value refl refl refl
    (c.pop_front.ensures.rest ∙ (dropped y.messages.items ∙ ap without_first (sym (ap messages_on is)))) (sym (ap is_end_on is))
