use Rattle.std.proofs.Common.{◌∷◌, ◌∙◌, ap, sym, nat_le, refl, List}
use Rattle.std.proofs.lemmas.Bool.{cond-true}
use Rattle.dtx_values.specs.declared.entry.Entry.{Entry}
use Rattle.dtx_values.specs.TxIds.{number_of}
use Rattle.dtx_values.specs.declared.entry.Entry.TheVariants.{Stopped}
use Rattle.dtx_model.specs.Words.{past_of}
use Rattle.dtx_model.specs.Steps.{Stops, after}
use Rattle.dtx_model.specs.World.{World}
use Rattle.tx_world.specs.State.{TxState, is_hit_by}
use Rattle.tx_world.proofs.Living.{whole_stopped}
use Rattle.tx_world.proofs.Stopping.{hit_kept, hit_runs}
use Rattle.tx_world.proofs.Naming.{named_halt}
use Rattle.tx_world.proofs.world.TxWorld.coordinator_stopped.Goals as goal

pub invariant_of-self-2 : goal.invariant_of-self-2
invariant_of-self-2 c =
    let i = c.self.inside in
    let w : World = record { calls = past_of i.calls.items; past = i.history.past } in
    let hit = ap (is_hit_by c.args.life) c.self.view_is ∙ sym c.is_hit_by.ensures ∙ c.if-not-is_hit_by.false in
    let past = c.stop.ensures.past ∙ ap (λ (h : List Entry). Stopped ∷ h) c.in_ok-reserve.ensures.same in
    let kept =
    (hit_kept i.transaction w i.half i.core c.stopped.new.self (past_of i.calls.items) c.stop.new.self.past (nat_le i.at_log.life c.args.life) c.self.invariant.kept hit refl past c.stopped.ensures.transaction c.stopped.ensures.state).0 in
    whole_stopped w i.half i.core c.stopped.new.self c.self.invariant kept (hit_runs i.transaction w i.half i.core i.at_log.life c.args.life c.self.invariant.kept hit) past

pub returns-clause-world : goal.returns-clause-world
returns-clause-world c =
    let i = c.self.inside in
    let w : World = record { calls = past_of i.calls.items; past = i.history.past } in
    let hit = ap (is_hit_by c.args.life) c.self.view_is ∙ sym c.is_hit_by.ensures ∙ c.if-not-is_hit_by.false in
    let past = c.stop.ensures.past ∙ ap (λ (h : List Entry). Stopped ∷ h) c.in_ok-reserve.ensures.same in
    (hit_kept i.transaction w i.half i.core c.stopped.new.self (past_of i.calls.items) c.stop.new.self.past (nat_le i.at_log.life c.args.life) c.self.invariant.kept hit refl past c.stopped.ensures.transaction c.stopped.ensures.state).1
    ∙ ap (λ (x : TxState). after (number_of x.transaction) x.world Stops) c.self.view_is
    ∙ sym (cond-true (is_hit_by c.args.life c.args.self.now) (after (number_of c.args.self.now.transaction) c.args.self.now.world Stops) c.args.self.now.world (sym c.is_hit_by.ensures ∙ c.if-not-is_hit_by.false))

-- the record that is kept names who said PREPARED
pub returns-clause-named : goal.returns-clause-named
returns-clause-named c =
    let i = c.self.inside in
    let w : World = record { calls = past_of i.calls.items; past = i.history.past } in
    let v : World = record { calls = past_of i.calls.items; past = c.stop.new.self.past } in
    named_halt i.transaction w v i.at_log c.args.self.now (c.stop.ensures.past ∙ ap (λ (h : List Entry). Stopped ∷ h) c.in_ok-reserve.ensures.same) c.self.view_is
