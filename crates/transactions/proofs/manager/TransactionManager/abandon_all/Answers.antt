use Rattle.std.proofs.Common.{◌∙◌, ◌==◌, ap, refl, rules}
use Rattle.dtx_model.specs.Words.{has}
use Rattle.scope_context.specs.Standing.{Standing}
use Rattle.transactions.proofs.Rolled.{other_than}
use Rattle.transactions.proofs.Scoping.{concluded, concludes_next, concludes_none}
use Rattle.transactions.proofs.manager.TransactionManager.abandon_all.Goals as goal

pub loop-place-preserved : goal.loop-place-preserved
loop-place-preserved g c = record {
  others = λ u none.
      let all = c.rolled-place-items.ensures ∙ ap (λ (v : Standing). v.rolled) c.a.view_is in
      let apart = other_than u c.at_place-rolled.result c.rolled-place-items.result.now c.loop-place.place-index c.place-item.result c.at_place-rolled.ensures.place c.loop-place-test.true c.place-item.is (ap (has (λ t. u.t.value == t.value)) all ∙ none) in
      c.abandon.ensures.others u apart ∙ c.loop-place.invariant.others u none;
  time = search rules;
  steps =
      let e = c.abandon.ensures in
      concludes_next g.D.Disk.honest g.D.Disk.image g.O.ResourceManager.gives c.args.self.now c.loop-place.self c.abandon.new.self c.args.o.now c.loop-place.o c.abandon.new.o c.loop-place.invariant.steps
      (concluded g.D.Disk.honest g.D.Disk.image g.O.ResourceManager.gives c.at_place-rolled.result c.loop-place.self c.abandon.new.self c.loop-place.o c.abandon.new.o e.heard c.has_run_at.ensures c.has_run_at-in-loop-place.ensures e.nobody e.others e.time);
}

pub loop-place-init : goal.loop-place-init
loop-place-init g c = record {
  others = λ u none. refl;
  time = ((refl, refl), refl);
  steps = concludes_none g.D.Disk.honest g.D.Disk.image g.O.ResourceManager.gives c.args.self.now c.args.self.now c.args.o.now c.args.o.now refl refl;
}
