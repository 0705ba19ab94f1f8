use Rattle.std.proofs.Common.{◌≡◌, ◌∙◌, List, ap, map, subst, true}
use Rattle.std.specs.Prelude.{OnOk}
use Rattle.std.specs.List.{All}
use Rattle.dtx_values.specs.declared.script.Line.{Line}
use Rattle.dtx_model.specs.Words.{each}
use Rattle.script_calls.specs.FirstCalls.{are_first, par_line}
use Rattle.script_calls.specs.Rows.{are_entered}
use Rattle.tx_cells.specs.Board.{transactions_of}
use Rattle.tx_cells.specs.Cell.{Cell}
use Rattle.tx_cells.specs.Ties.{TiesWith}
use Rattle.run_endings.specs.Finished.{AreFinished}
use Rattle.run_endings.proofs.Left.{all_ok, both_ok, still_entered}
use Rattle.run_endings.proofs.finishing.finish.Goals as goal
use Rattle.dtx_model.specs.AtLog.{follows}

pub returns-clause-finished : goal.returns-clause-finished
returns-clause-finished g c =
    let states = c.settle_all.new.states in
    let log = c.settle_all.new.log in
    let s = c.args.s.now in
    let entered = c.in_ok-enter_all.ensures in
    let settled = c.in_ok-settle_all.ensures in
    let tested = c.test_all.ensures in
    let first : OnOk c.test_all.result ((each (λ (x : Cell). are_first (par_line s) x.tx.world.past) states ≡ true) × (are_first (par_line s) log.past ≡ true)) =
    both_ok (each (λ (x : Cell). are_first (par_line s) x.tx.world.past) states ≡ true) (are_first (par_line s) log.past ≡ true) c.test_all.result tested.first tested.first_at_log in
    all_ok {P = (map (λ (x : Cell). x.tx.transaction.t.value) states ≡ transactions_of s) × All (λ (x : Cell). TiesWith x.tx log.log) states} {Q = each (λ (x : Cell). follows log.past x.tx.world.past) states ≡ true}
    {R = (each (λ (x : Cell). are_first (par_line s) x.tx.world.past) states ≡ true) × (are_first (par_line s) log.past ≡ true)}
    {S = AreFinished g.N.Run.script states log} c.test_all.result
    (λ known followed first. record {
      named = subst (λ (l : List Line). map (λ (x : Cell). x.tx.transaction.t.value) states ≡ transactions_of l) c.requires.named known.0;
      entered = still_entered c.enter_all.new.states states settled.calls entered.entered;
      entered_at_log = ap are_entered settled.log_rows ∙ entered.at_log;
      settled = settled.settled;
      tied = known.1;
      followed = followed;
      first = subst (λ (l : List Line). each (λ (x : Cell). are_first (par_line l) x.tx.world.past) states ≡ true) c.requires.named first.0;
      first_at_log = subst (λ (l : List Line). are_first (par_line l) log.past ≡ true) c.requires.named first.1;
    })
    (both_ok (map (λ (x : Cell). x.tx.transaction.t.value) states ≡ transactions_of s) (All (λ (x : Cell). TiesWith x.tx log.log) states) c.test_all.result tested.named tested.tied) tested.followed first
