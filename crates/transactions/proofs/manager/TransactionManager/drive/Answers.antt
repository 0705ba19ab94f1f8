use Rattle.std.proofs.Common.{◌∷◌, [], Some, ap, refl, subst, sym}
use Rattle.transactions.specs.Events.{note_in}
use Rattle.transactions.specs.Hearing.{Given, HearsNote, given_of}
use Rattle.transactions.specs.Doing.{AdvancesAt}
use Rattle.transactions.specs.Slots.{Standing}
use Rattle.transactions.proofs.Driving.{Driven, driven_none, driven_turn, given_by_answer, given_none, heard_idle_at, heard_turn_at}
use Rattle.transactions.proofs.manager.TransactionManager.drive.Goals.{in-Some-tell+in_ok-answer, in_default-tell}
use Rattle.transactions.proofs.manager.TransactionManager.drive.Goals as goal

pub loop-count-init : goal.loop-count-init
loop-count-init g c = driven_none g.D.Disk.honest g.D.Disk.image g.O.ResourceManager.gives c.args.t c.args.self.now c.args.o.now

pub returns-in_err-event-clause-heard : goal.returns-in_err-event-clause-heard
returns-in_err-event-clause-heard g c =
    heard_idle_at g.D.Disk.honest g.D.Disk.image g.O.ResourceManager.gives c.args.t c.args.self.now c.loop-count.self c.next_in.new.self c.args.o.now c.loop-count.o c.loop-count.invariant.0
    c.in_err-event.ensures.stays c.next_in.ensures.logged

pub returns-in_default-clause-heard : goal.returns-in_default-clause-heard
returns-in_default-clause-heard g c =
    heard_idle_at g.D.Disk.honest g.D.Disk.image g.O.ResourceManager.gives c.args.t c.args.self.now c.loop-count.self c.next_in.new.self c.args.o.now c.loop-count.o c.loop-count.invariant.0
    (subst (λ e. AdvancesAt e c.args.t c.loop-count.self.lives c.next_in.new.self.lives) c.in_default.is c.in_ok-event.ensures.comes) c.next_in.ensures.logged

pub returns-in_err-answer-clause-heard : goal.returns-in_err-answer-clause-heard
returns-in_err-answer-clause-heard g c =
    let rs = given_of c.tell.result in
    heard_turn_at g.D.Disk.honest g.D.Disk.image g.O.ResourceManager.gives c.args.t c.in-Some.event rs c.args.self.now c.loop-count.self c.next_in.new.self c.answer.new.self c.args.o.now c.loop-count.o
    c.tell.new.o
    c.loop-count.invariant.0 (subst (λ e. AdvancesAt e c.args.t c.loop-count.self.lives c.next_in.new.self.lives) c.in-Some.is c.in_ok-event.ensures.comes) c.next_in.ensures.logged c.is_within.ensures c.tell.ensures
    (given_none rs c.args.t c.next_in.new.self.lives c.answer.new.self.lives c.in_err-answer.ensures.failed) (ap (λ (s : Standing _ _). s.log) c.answer.ensures.rest)

pub loop-count-preserved : goal.loop-count-preserved
loop-count-preserved g c =
    let gives = g.O.ResourceManager.gives in
    let t = c.args.t in
    let x = c.args.self.now in
    let a = c.args.o.now in
    let y = c.loop-count.self in
    let z = c.next_in.new.self in
    let b = c.tell.new.o in
    let comes : AdvancesAt (Some c.in-Some.event) t y.lives z.lives = subst (λ e. AdvancesAt e t y.lives z.lives) c.in-Some.is c.in_ok-event.ensures.comes in
    elim c.match-tell.branch [
      | in-Some-tell+in_ok-answer w ↦
          (let n : Given = (w.in-Some-tell.number, w.in-Some-tell.r) in
          subst (λ s. Driven g.D.Disk.honest g.D.Disk.image gives t x s a b) (sym w.self-is)
          (driven_turn g.D.Disk.honest g.D.Disk.image gives t c.in-Some.event (n ∷ []) x y z w.answer.new.self a c.loop-count.o b c.loop-count.invariant comes c.next_in.ensures.logged c.next_in.ensures.others c.next_in.ensures.time c.is_within.ensures
          (subst (λ o. HearsNote gives (note_in c.in-Some.event) c.loop-count.o (given_of o) b) w.in-Some-tell.is c.tell.ensures)
          (given_by_answer n t z.lives w.answer.new.self.lives w.answer.result w.in_ok-answer.field-0 w.in_ok-answer.was w.answer.ensures.replied w.answer.ensures.unchanged)
          w.answer.ensures.others w.answer.ensures.rest))
      | in_default-tell w ↦
          (let rs = given_of c.tell.result in
          subst (λ s. Driven g.D.Disk.honest g.D.Disk.image gives t x s a b) (sym w.self-is)
          (driven_turn g.D.Disk.honest g.D.Disk.image gives t c.in-Some.event rs x y z z a c.loop-count.o b c.loop-count.invariant comes c.next_in.ensures.logged c.next_in.ensures.others c.next_in.ensures.time c.is_within.ensures c.tell.ensures
          (given_none rs t z.lives z.lives refl) (λ u n. refl) refl))
    ]
