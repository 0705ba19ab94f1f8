use Rattle.std.proofs.Common.{List, refl, subst}
use Rattle.std.specs.List.{flat_map}
use Rattle.dtx_values.specs.declared.end.End.{End}
use Rattle.dtx_model.specs.declared.waiting.EnteredCall.{EnteredCall}
use Rattle.dtx_model.specs.Words.{past_of}
use Rattle.dtx_model.specs.Plans.{plan_of}
use Rattle.dtx_model.specs.World.{World}
use Rattle.dtx_model.specs.Steps.{deliveries_on, pending, replies_due}
use Rattle.tx_world.specs.State.{TxState}
use Rattle.world_parts.specs.declared.pending.At.TheVariants.{Step as StepHere, Beyond}
use Rattle.world_parts.specs.Pending.{IsAt, IsDueAt, IsDueIn, IsPlannedAt}
use Rattle.tx_world.proofs.Listing.{act_due, at_act, at_core, at_delivery, at_reply, core_due, delivery_due, reply_due}
use Rattle.tx_world.proofs.world.TxWorld.at_place.Goals as goal

pub returns-in-Step-clause-at : goal.returns-in-Step-clause-at
returns-in-Step-clause-at c =
    let i = c.self.inside in
    let w : World = record { calls = past_of i.calls.items; past = i.history.past } in
    let kept = c.self.invariant.kept in
    let here = subst (λ (ks : List EnteredCall). IsAt (replies_due (plan_of (past_of ks)) i.half.half) c.args.k (StepHere c.in-Step.s)) c.deref.ensures.value c.in-Step.ensures.at in
    subst (λ (x : TxState). IsAt (pending x.world) c.args.k (StepHere c.in-Step.s)) c.self.view_is (at_reply i.transaction w i.half i.core c.args.k c.in-Step.s kept here)

pub returns-in-Step-clause-due : goal.returns-in-Step-clause-due
returns-in-Step-clause-due c =
    let i = c.self.inside in
    let w : World = record { calls = past_of i.calls.items; past = i.history.past } in
    let kept = c.self.invariant.kept in
    let planned = subst (λ (ks : List EnteredCall). IsPlannedAt (plan_of (past_of ks)) i.half.half.seen (StepHere c.in-Step.s)) c.deref.ensures.value c.in-Step.ensures.planned in
    subst (λ (x : TxState). IsDueIn x.world c.in-Step.s) c.self.view_is (reply_due i.transaction w i.half i.core c.in-Step.s kept planned (c.in-Step.ensures.only c.in-Step.s refl))

pub returns-in-Step-act_at-clause-at : goal.returns-in-Step-act_at-clause-at
returns-in-Step-act_at-clause-at c =
    let i = c.self.inside in
    let w : World = record { calls = past_of i.calls.items; past = i.history.past } in
    let kept = c.self.invariant.kept in
    let s = c.in-Step-act_at.s in
    let before = subst (λ (ks : List EnteredCall). IsAt (replies_due (plan_of (past_of ks)) i.half.half) c.args.k (Beyond c.in-Beyond.n)) c.deref.ensures.value c.in-Beyond.ensures.at in
    subst (λ (x : TxState). IsAt (pending x.world) c.args.k (StepHere s)) c.self.view_is (at_act i.transaction w i.half i.core c.args.k c.in-Beyond.n s kept before c.in-Step-act_at.ensures.at)

pub returns-in-Step-act_at-clause-due : goal.returns-in-Step-act_at-clause-due
returns-in-Step-act_at-clause-due c =
    let i = c.self.inside in
    let w : World = record { calls = past_of i.calls.items; past = i.history.past } in
    let kept = c.self.invariant.kept in
    let s = c.in-Step-act_at.s in
    let only = c.in-Step-act_at.ensures.only s refl in
    subst (λ (x : TxState). IsDueIn x.world s) c.self.view_is (act_due i.transaction w i.half i.core s kept only.0 only.1)

pub returns-in-Step-core_at-clause-at : goal.returns-in-Step-core_at-clause-at
returns-in-Step-core_at-clause-at c =
    let i = c.self.inside in
    let w : World = record { calls = past_of i.calls.items; past = i.history.past } in
    let kept = c.self.invariant.kept in
    let s = c.in-Step-core_at.s in
    let before = subst (λ (ks : List EnteredCall). IsAt (replies_due (plan_of (past_of ks)) i.half.half) c.args.k (Beyond c.in-Beyond.n)) c.deref.ensures.value c.in-Beyond.ensures.at in
    subst (λ (x : TxState). IsAt (pending x.world) c.args.k (StepHere s)) c.self.view_is
    (at_core i.transaction w i.half i.core c.args.k c.in-Beyond.n c.in-Beyond-act_at.n s kept before c.in-Beyond-act_at.ensures.at c.in-Step-core_at.ensures.at)

pub returns-in-Step-core_at-clause-due : goal.returns-in-Step-core_at-clause-due
returns-in-Step-core_at-clause-due c =
    let i = c.self.inside in
    let w : World = record { calls = past_of i.calls.items; past = i.history.past } in
    let kept = c.self.invariant.kept in
    let s = c.in-Step-core_at.s in
    let only = c.in-Step-core_at.ensures.only s refl in
    subst (λ (x : TxState). IsDueIn x.world s) c.self.view_is (core_due i.transaction w i.half i.core s kept only.0 only.1)

pub returns-clause-at : goal.returns-clause-at
returns-clause-at c =
    let i = c.self.inside in
    let w : World = record { calls = past_of i.calls.items; past = i.history.past } in
    let kept = c.self.invariant.kept in
    let a = c.deliveries_at.result in
    let before = subst (λ (ks : List EnteredCall). IsAt (replies_due (plan_of (past_of ks)) i.half.half) c.args.k (Beyond c.in-Beyond.n)) c.deref.ensures.value c.in-Beyond.ensures.at in
    let here = subst (λ (ns : List End). IsAt (flat_map (deliveries_on w.past) ns) c.in-Beyond-core_at.n a) c.ends.ensures c.deliveries_at.ensures.at in
    subst (λ (x : TxState). IsAt (pending x.world) c.args.k a) c.self.view_is
    (at_delivery i.transaction w i.half i.core c.args.k c.in-Beyond.n c.in-Beyond-act_at.n c.in-Beyond-core_at.n a kept before c.in-Beyond-act_at.ensures.at c.in-Beyond-core_at.ensures.at here)

pub returns-clause-due : goal.returns-clause-due
returns-clause-due c =
    let i = c.self.inside in
    let w : World = record { calls = past_of i.calls.items; past = i.history.past } in
    let a = c.deliveries_at.result in
    subst (λ (x : TxState). IsDueAt x.world a) c.self.view_is (delivery_due w a c.deliveries_at.ensures.only)
