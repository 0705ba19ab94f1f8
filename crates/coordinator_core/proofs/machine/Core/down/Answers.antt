use Rattle.std.proofs.Common.{◌≡◌, ◌∙◌, Bool, List, ap}
use Rattle.dtx_values.specs.Outgoing.{written}
use Rattle.dtx_values.specs.declared.entry.Entry.{Entry}
use Rattle.dtx_model.specs.Coordinated.{Coordinated}
use Rattle.coordinator_core.specs.contracts.machine.Core.{the_view}
use Rattle.coordinator_core.specs.Kept.{Kept, after_loss, is_deciding, loss_block}
use Rattle.coordinator_core.proofs.Aborting.{ended, with_lists}
use Rattle.coordinator_core.proofs.Single.{ended_all, ended_written}
use Rattle.coordinator_core.proofs.machine.Core.down.Goals as goal

-- what is kept before the doubt or the abort
before : (c : goal.After-lose) → with_lists c.close.new.known.items c.leave_if.new.waits.items (the_view c.self.inside).state ≡ ended c.args.c c.args.self.now.state
before c =
    let inside : Coordinated = (the_view c.self.inside).state in
    let ends : with_lists c.close.new.known.items c.leave_if.new.waits.items inside ≡ ended c.args.c inside = λ i. with_lists (c.close.ensures i) (c.leave_if.ensures i) inside in
    ends ∙ ap (λ (s : Kept). ended c.args.c s.state) c.self.view_is

pub returns-clause-state : goal.returns-clause-state
returns-clause-state c =
    let k = c.args.self.now.state in
    c.lose.ensures.state
    ∙ ap (λ (s : Coordinated). after_loss c.is_deciding-is_doubt.result c.is_early-is_early.result s) (before c)
    ∙ ap (λ (b : Bool). after_loss b c.is_early-is_early.result (ended c.args.c k)) c.is_deciding-is_doubt.ensures
    ∙ ap (λ (b : Bool). after_loss (is_deciding k c.args.c) b (ended c.args.c k)) c.is_early-is_early.ensures ∙ ended_all k c.args.c

pub returns-clause-out : goal.returns-clause-out
returns-clause-out c =
    let k = c.args.self.now.state in
    c.lose.ensures.out
    ∙ ap (λ (es : List Entry). written c.args.out.now es)
    (ap (λ (s : Coordinated). loss_block c.is_deciding-is_doubt.result c.is_early-is_early.result s) (before c)
    ∙ ap (λ (b : Bool). loss_block b c.is_early-is_early.result (ended c.args.c k)) c.is_deciding-is_doubt.ensures
    ∙ ap (λ (b : Bool). loss_block (is_deciding k c.args.c) b (ended c.args.c k)) c.is_early-is_early.ensures ∙ ended_written k c.args.c)
