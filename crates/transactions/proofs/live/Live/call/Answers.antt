use Rattle.std.proofs.Common.{◌≡◌, ◌==◌, true, false, not, refl, sym, subst}
use Rattle.dtx_model.specs.Words.{has}
use Rattle.dtx_model.specs.Caused.{made_by}
use Rattle.dtx_model.proofs.Bools.{and_both, not_false}
use Rattle.tx_world.specs.State.{is_maker}
use Rattle.transactions.specs.Calling.{IsCalled}
use Rattle.transactions.specs.Counting.{is_given}
use Rattle.transactions.specs.State.{LiveState}
use Rattle.transactions.specs.contracts.live.Live.{the_view}
use Rattle.transactions.proofs.Counting.{line_new}
use Rattle.transactions.proofs.Sound.{called_sound}
use Rattle.transactions.proofs.live.Live.call.Goals as goal

pub enter-requires-clause-enters : goal.enter-requires-clause-enters
enter-requires-clause-enters g c =
    let x = c.self.inside in
    let w = x.world.world in
    let n = c.in-Some.line in
    and_both (not (has (λ k. k.line == n) w.calls)) (not (has (λ k. is_maker (made_by c.args.c.now) k.call) w.calls))
    (not_false (has (λ k. k.line == n) w.calls) (subst (λ j. has (λ k. k.line == j) w.calls ≡ false) (sym c.in-Some.ensures.1) (line_new x.lines x.enlisted x.cloned w.calls c.self.invariant.counted)))
    (not_false (has (λ k. is_maker (made_by c.args.c.now) k.call) w.calls)
    (subst (λ (l : LiveState). has (λ k. is_maker (made_by c.args.c.now) k.call) l.tx.world.calls ≡ false) (sym c.self.view_is) c.requires.unmade))

pub invariant_of-self-2 : goal.invariant_of-self-2
invariant_of-self-2 g c =
    let x : LiveState = the_view c.self.inside in
    called_sound g.D.Disk.faults c.args.log.now c.args.actor c.in-Some.line c.args.c.now x c.enter.new.self c.in-Some.ensures.1
    (subst (λ (l : LiveState). is_given l.enlisted l.cloned (made_by c.args.c.now) ≡ true) (sym c.self.view_is) c.requires.counted) c.requires.plain c.enter.ensures.named c.in_ok-answer.ensures.done c.self.invariant

pub returns-clause-called : goal.returns-clause-called
returns-clause-called g c =
    let x : LiveState = the_view c.self.inside in
    let y : LiveState = record x { tx = c.enter.new.self; lines = c.in-Some.line } in
    subst (λ (l : LiveState). IsCalled g.D.Disk.faults c.args.log.now c.args.c.now c.in-Some.line c.in_ok-answer.answer l y) c.self.view_is
    (record { actor = c.args.actor; done = c.in_ok-answer.ensures.done; answered = c.in_ok-answer.ensures.answer; line_is = c.in-Some.ensures.1; rest = refl })
