use Rattle.std.proofs.Common.{◌≡◌, ◌∷◌, ◌∙◌, List, Option, true, false, not, nat_le, ap, sym, subst, is_some}
use Rattle.dtx_values.specs.declared.entry.Entry.{Entry}
use Rattle.dtx_values.specs.TxIds.{number_of}
use Rattle.dtx_values.specs.declared.entry.Entry.TheVariants.{Restarted}
use Rattle.dtx_model.specs.Log.{CommitRecord, first_of}
use Rattle.dtx_model.specs.Promotes.{identifier_of}
use Rattle.dtx_model.specs.Words.{has}
use Rattle.dtx_model.specs.Steps.{Restarts, after}
use Rattle.dtx_model.specs.Caused.{is_begin_sent}
use Rattle.dtx_model.proofs.Bools.{and_left}
use Rattle.coordinator_log.specs.Slots.{open_records}
use Rattle.tx_world.specs.AtLog.{Kept as LogKept, Tie, id_of}
use Rattle.tx_world.specs.Kept.{Whole, stop_if, stopped_if}
use Rattle.tx_world.specs.State.{TxState, is_reached_by}
use Rattle.tx_world.proofs.AtTheLog.{restart_tied, told, told_stopped}
use Rattle.world_parts.proofs.Records.{had_found}
use Rattle.tx_world.proofs.Written.{world_of}
use Rattle.tx_world.proofs.Naming.{named_told}
use Rattle.tx_world.proofs.world.TxWorld.coordinator_restarted.Given.{Over}
use Rattle.tx_world.proofs.world.TxWorld.coordinator_restarted.Goals.{After-restart}
use Rattle.tx_world.proofs.world.TxWorld.coordinator_restarted.Goals as goal

pub restarted-requires-clause-stopped : goal.restarted-requires-clause-stopped
restarted-requires-clause-stopped g c =
    let i = c.self.inside in
    told_stopped i.core c.stop_if.new.core (c.stop_if.ensures.core ∙ ap (λ b. stopped_if (not b) i.core) c.is_stopped-runs.ensures)

-- that it was told comes onto the past, after the stop where it still ran
wrote : (g : Over) (c : After-restart g)
    → c.restart.new.self.past ≡ Restarted (is_some (first_of c.identifier.result (open_records c.args.log.now.slots))) ∷ stop_if (not c.self.inside.core.state.stopped) c.self.inside.history.past
wrote g c =
    let i = c.self.inside in
    let found = is_some (first_of c.identifier.result (open_records c.args.log.now.slots)) in
    let here : c.has_record.result ≡ found = c.has_record.ensures ∙ ap (λ (x : LogKept). is_some x.ours) c.restarted.ensures.kept in
    c.restart.ensures.past ∙ ap (λ b. Restarted b ∷ c.stop_if.new.history.past) here ∙ ap (λ (h : List Entry). Restarted found ∷ h) (c.stop_if.ensures.past
    ∙ ap (λ b. stop_if (not b) c.reserve.new.self.past) c.is_stopped-runs.ensures ∙ ap (stop_if (not i.core.state.stopped)) c.in_ok-reserve.ensures.same)

-- the coordinator is told whether its record was found: the world holds, and is the one after the restart
told_it : (g : Over) (c : After-restart g)
    → Whole c.self.inside.transaction (world_of c.self.inside.calls.items c.restart.new.self.past) c.self.inside.half c.restarted.new.core c.restarted.new.self
    × (world_of c.self.inside.calls.items c.restart.new.self.past
    ≡ after (number_of c.self.inside.transaction) (world_of c.self.inside.calls.items c.self.inside.history.past) (Restarts (is_some (first_of c.identifier.result (open_records c.args.log.now.slots)))))
told_it g c =
    let i = c.self.inside in
    let w = world_of i.calls.items i.history.past in
    let rs = open_records c.args.log.now.slots in
    let found = is_some (first_of c.identifier.result rs) in
    let reached_it = ap (is_reached_by c.args.log.now.life) c.self.view_is ∙ ap (λ n. is_reached_by n c.args.self.now) (sym c.life.ensures) ∙ sym c.is_reached_by.ensures ∙ c.if-not-is_reached_by.false in
    let begun : has is_begin_sent w.past ≡ true = and_left (has is_begin_sent w.past) (not (nat_le c.args.log.now.life i.at_log.life)) reached_it in
    let stopped : c.stop_if.new.core ≡ stopped_if (not i.core.state.stopped) i.core = c.stop_if.ensures.core ∙ ap (λ b. stopped_if (not b) i.core) c.is_stopped-runs.ensures in
    told i.transaction w i.half i.core c.stop_if.new.core c.restarted.new.core found c.restart.new.self.past c.restarted.new.self c.self.invariant.kept begun stopped c.restarted.ensures.transaction
    c.restarted.ensures.state (wrote g c) c.restarted.ensures.ours

pub invariant_of-self-2 : goal.invariant_of-self-2
invariant_of-self-2 g c = (told_it g c).0

pub returns-clause-reached : goal.returns-clause-reached
returns-clause-reached g c = λ reached.
    let i = c.self.inside in
    let w = world_of i.calls.items i.history.past in
    let v = world_of i.calls.items c.restart.new.self.past in
    let rs = open_records c.args.log.now.slots in
    let kept = c.restarted.ensures.kept in
    let P : TxState → Type 0 = λ y. (v ≡ after (number_of y.transaction) y.world (Restarts (is_some (first_of (id_of y) rs)))) × (c.restarted.new.self.ours ≡ first_of (id_of y) rs)
    × (c.restarted.new.self.unsure ≡ false) × (c.restarted.new.self.life ≡ c.args.log.now.life) in
    let mine : first_of c.identifier.result rs ≡ first_of (identifier_of (number_of i.transaction)) rs = ap (λ n. first_of n rs) c.identifier.ensures.identifier in
    subst P c.self.view_is (
      (told_it g c).1 ∙ ap (λ (o : Option CommitRecord). after (number_of i.transaction) w (Restarts (is_some o))) mine,
      ap (λ (x : LogKept). x.ours) kept ∙ mine,
      ap (λ (x : LogKept). x.unsure) kept,
      ap (λ (x : LogKept). x.life) kept,
    )

-- what it keeps then is what was found
kept_found : (g : Over) (c : After-restart g) → c.restarted.new.self.ours ≡ first_of (identifier_of (number_of c.self.inside.transaction)) (open_records c.args.log.now.slots)
kept_found g c = ap (λ (x : LogKept). x.ours) c.restarted.ensures.kept ∙ ap (λ n. first_of n (open_records c.args.log.now.slots)) c.identifier.ensures.identifier

pub returns-clause-found : goal.returns-clause-found
returns-clause-found g c = λ reached up some.
    had_found (identifier_of (number_of c.self.inside.transaction)) c.restarted.new.self.ours (open_records c.args.log.now.slots) (kept_found g (goal.at.returns-clause-found g c).After-restart) some

pub returns-clause-had : goal.returns-clause-had
returns-clause-had g c = λ was up some.
    had_found (identifier_of (number_of c.self.inside.transaction)) c.restarted.new.self.ours (open_records c.args.log.now.slots) (kept_found g (goal.at.returns-clause-had g c).After-restart) some

pub returns-clause-tied : goal.returns-clause-tied
returns-clause-tied g c = λ honest d.
    let i = c.self.inside in
    let rs = open_records c.args.log.now.slots in
    let mine : c.identifier.result ≡ id_of c.args.self.now = c.identifier.ensures.identifier ∙ ap (λ (y : TxState). id_of y) c.self.view_is in
    let tie = subst (λ n. Tie c.args.self.now.ours c.args.self.now.unsure (first_of n rs)) (sym mine) (c.requires.fits honest).tie in
    restart_tied i.transaction (world_of i.calls.items i.history.past) i.half i.core i.at_log c.args.self.now (first_of c.identifier.result rs) c.restart.new.self.past c.self.invariant c.self.view_is tie
    (wrote g (goal.at.returns-clause-tied g c).After-restart) d

-- the record that is kept then names who said PREPARED
pub returns-clause-named : goal.returns-clause-named
returns-clause-named g c = λ honest n.
    let i = c.self.inside in
    let rs = open_records c.args.log.now.slots in
    let mine : c.identifier.result ≡ id_of c.args.self.now = c.identifier.ensures.identifier ∙ ap (λ (y : TxState). id_of y) c.self.view_is in
    let tie = subst (λ n. Tie c.args.self.now.ours c.args.self.now.unsure (first_of n rs)) (sym mine) (c.requires.fits honest).tie in
    named_told i.transaction (world_of i.calls.items i.history.past) (world_of i.calls.items c.restart.new.self.past) i.at_log c.restarted.new.self c.args.self.now (not i.core.state.stopped) (first_of c.identifier.result rs)
    (wrote g (goal.at.returns-clause-named g c).After-restart) c.self.view_is tie (ap (λ (x : LogKept). x.ours) c.restarted.ensures.kept) n
