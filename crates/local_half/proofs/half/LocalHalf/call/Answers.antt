use Rattle.std.proofs.Common.{◌≡◌, false, true, rules, ap, sym, ◌∙◌}
use Rattle.dtx_values.specs.declared.entry.Answer.TheVariants.{Wait}
use Rattle.dtx_values.specs.TxIds.{number_of}
use Rattle.dtx_model.specs.Answers.{local_answer}
use Rattle.half_parts.specs.Half.{Known, is_done, is_waiting_answer}
use Rattle.half_parts.proofs.Following.{called, done_known, undone_known, wait_known}
use Rattle.local_half.proofs.half.LocalHalf.call.Goals as goal

pub returns-then-eq-clause-state : goal.returns-then-eq-clause-state
returns-then-eq-clause-state c =
    let known = c.args.self.now in
    let waits : local_answer (number_of known.transaction) known.half c.args.c.now 0 ≡ Wait = search rules in
    c.facts_of_waiting.ensures.state ∙ sym (wait_known (number_of known.transaction) known c.args.line c.args.actor c.args.c.now waits)

pub returns-then-eq-clause-runs : goal.returns-then-eq-clause-runs
returns-then-eq-clause-runs c w follows fresh =
    let known = c.args.self.now in
    called (number_of known.transaction) w known.half c.facts_of_waiting.new.self.half c.args.line c.args.actor c.args.c.now follows fresh c.requires.own
    (ap (λ (k : Known). k.half) (returns-then-eq-clause-state c))

pub returns-then-eq-2-clause-state : goal.returns-then-eq-2-clause-state
returns-then-eq-2-clause-state c =
    let known = c.args.self.now in
    let done : is_done (local_answer (number_of known.transaction) known.half c.args.c.now 0) ≡ true = search rules in
    c.facts.ensures.state ∙ sym (done_known (number_of known.transaction) known c.args.line c.args.actor c.args.c.now done)

pub returns-then-eq-2-clause-runs : goal.returns-then-eq-2-clause-runs
returns-then-eq-2-clause-runs c w follows fresh =
    let known = c.args.self.now in
    called (number_of known.transaction) w known.half c.facts.new.self.half c.args.line c.args.actor c.args.c.now follows fresh c.requires.own
    (ap (λ (k : Known). k.half) (returns-then-eq-2-clause-state c))

pub returns-else-eq-3-clause-runs : goal.returns-else-eq-3-clause-runs
returns-else-eq-3-clause-runs c w follows fresh =
    let known = c.args.self.now in
    let undone : is_done (local_answer (number_of known.transaction) known.half c.args.c.now 0) ≡ false = search rules in
    let waits_not : is_waiting_answer (local_answer (number_of known.transaction) known.half c.args.c.now 0) ≡ false = search rules in
    called (number_of known.transaction) w known.half known.half c.args.line c.args.actor c.args.c.now follows fresh c.requires.own
    (ap (λ (k : Known). k.half) (sym (undone_known (number_of known.transaction) known c.args.line c.args.actor c.args.c.now undone waits_not)))
