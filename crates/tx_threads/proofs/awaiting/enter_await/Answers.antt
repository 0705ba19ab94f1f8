use Rattle.std.proofs.Common.{◌≡◌, true, false, sym, ◌∙◌}
use Rattle.dtx_values.specs.declared.entry.Answer.TheVariants.{OutcomeIs, StillOpen}
use Rattle.dtx_values.specs.TxIds.{number_of}
use Rattle.dtx_model.specs.Entries.{client_told_of}
use Rattle.dtx_model.specs.Words.{latest}
use Rattle.tx_cells.specs.Entering.{next_of}
use Rattle.tx_threads.specs.Turning.{is_quiet}
use Rattle.tx_threads.proofs.AwaitAnswers.{entered_open, entered_told, later_called, later_goes, of_line, still_quiet, was_entered, was_later}
use Rattle.tx_threads.proofs.awaiting.enter_await.Goals as goal
use Rattle.tx_threads.proofs.awaiting.enter_await.Goals.{else-goes_on-via-then-goes_on+else-is_of_line, else-goes_on-via-else-goes_on}

pub returns-clause-known : goal.returns-clause-known
returns-clause-known g c o e =
    let entered = was_entered c.args.a c.args.line (OutcomeIs o) c.enter.result c.args.state.now c.enter.new.self c.enter.ensures.entered c.enter.ensures.put_off e in
    c.in_ok-tell.ensures.known (entered_told g.N.Run.script c.args.a c.args.line o c.args.state.now c.enter.new.self c.requires.awaits (λ d n. c.next-next.ensures.ours d (c.next-next.ensures.next ∙ n)) entered)

pub returns-clause-entered : goal.returns-clause-entered
returns-clause-entered g c x e = was_entered c.args.a c.args.line x c.enter.result c.args.state.now c.enter.new.self c.enter.ensures.entered c.enter.ensures.put_off e

pub returns-clause-open : goal.returns-clause-open
returns-clause-open g c e =
    let entered = was_entered c.args.a c.args.line StillOpen c.enter.result c.args.state.now c.enter.new.self c.enter.ensures.entered c.enter.ensures.put_off e in
    let untold = entered_open g.N.Run.script c.args.a c.args.line c.args.state.now c.enter.new.self c.requires.awaits (λ d n. c.next-next.ensures.ours d (c.next-next.ensures.next ∙ n)) entered in (
      untold,
      elim c.else-goes_on.branch [
        | else-goes_on-via-then-goes_on+else-is_of_line w ↦
            let clash : true ≡ false = sym (of_line c.args.line c.next-next.result entered.call (c.next-next.ensures.next ∙ entered.next)) ∙ sym w.if-is_of_line.ensures in absurd cc
        | else-goes_on-via-else-goes_on w ↦ still_quiet (latest client_told_of c.args.state.now.tx.world.past) (is_quiet c.args.state.now) untold (sym w.if-goes_on.ensures)
      ],
    )

pub returns-clause-later : goal.returns-clause-later
returns-clause-later g c e =
    let later = was_later c.args.a c.args.line c.enter.result c.args.state.now c.enter.new.self c.enter.ensures.entered c.enter.ensures.put_off e in
    let goes = later_goes c.args.state.now c.args.line (next_of c.args.a c.args.state.now) later.0 in
    (goes.0, goes.1, later.1)

pub returns-then-is_of_line-clause-called : goal.returns-then-is_of_line-clause-called
returns-then-is_of_line-clause-called g c =
    later_called g.N.Run.script (number_of c.args.state.now.tx.transaction) c.args.line c.args.a c.next-next.result c.requires.awaits (sym c.if-is_of_line.ensures) c.next-next.ensures.ours
