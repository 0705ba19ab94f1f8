use Rattle.std.proofs.Common.{◌≡◌, Bool, true, List, Ok, ap, rules, ◌∙◌}
use Rattle.dtx_values.specs.declared.entry.Entry.{Entry}
use Rattle.dtx_model.specs.Words.{past_of}
use Rattle.tx_cells.proofs.LogStep.{StepsOver, kept_step}
use Rattle.tx_cells.proofs.shared_log.LogState.step.Goals as goal
use Rattle.turn_parts.specs.Reopening.{stop_noted}

pub invariant_of-self-2 : goal.invariant_of-self-2
invariant_of-self-2 g c =
    let past = past_of c.self.inside.entries.items in
    let from = c.self.inside.log in
    let to = c.do_step_over.new.log in
    let yes : c.in_ok-do_step_over.field-0 ≡ true = search rules in
    let d = c.do_step_over.ensures.some (c.in_ok-do_step_over.was ∙ ap Ok yes) in
    let over : StepsOver g.D.Disk.faults g.D.Disk.honest g.D.Disk.image g.N.Run.script c.args.cell.now.tx c.do_step_over.new.self.tx from to =
    record {
      named = c.is_named.ensures.named;
      first = c.is_named.ensures.first;
      same = d.done.transaction;
      sure = c.is_up-was_up.ensures.images;
      tie = c.in_ok-do_step_over.ensures.tied;
      leaves = c.in_ok-do_step_over.ensures.leaves;
      step = d.step;
      answered = d.done.answered;
    } in
    let written : past_of c.write_stop.new.entries.items ≡ stop_noted from.is_up to.is_up past =
    c.write_stop.ensures
    ∙ (ap (λ (b : Bool). stop_noted b c.is_up-is_up.result (past_of c.reserve.new.self.items)) c.is_up-was_up.ensures.up
    ∙ (ap (λ (b : Bool). stop_noted from.is_up b (past_of c.reserve.new.self.items)) c.is_up-is_up.ensures.up ∙ ap (λ (xs : List Entry). stop_noted from.is_up to.is_up (past_of xs)) c.in_ok-reserve.ensures.items)) in
    kept_step g.D.Disk.faults g.D.Disk.honest g.D.Disk.image g.N.Run.script g.N.Run.honest g.N.Run.faults c.args.cell.now.tx c.do_step_over.new.self.tx (record { log = from; rows = c.self.inside.rows; past = past }) to over
    (past_of c.write_stop.new.entries.items) written c.self.invariant
