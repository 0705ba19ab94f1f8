use Rattle.std.proofs.Common.{◌≡◌, ◌∙◌, ℕ, List, ap, drop, length, subst, sym}
use Rattle.dtx_values.specs.declared.entry.Entry.{Entry}
use Rattle.dtx_model.specs.Words.{all_of, onto}
use Rattle.replay_runs.specs.Objects.{IsTold, answers_by, told_by, volatile_by}
use Rattle.replay_runs.specs.declared.one.Tables.{Tables}
use Rattle.replay_runs.proofs.Hearing.{one_called, one_stepped}
use Rattle.replay_runs.proofs.Noting.{written_after}
use Rattle.replay_runs.proofs.one.OneObjects.tell.Given.{Over}
use Rattle.replay_runs.proofs.one.OneObjects.tell.Goals.{After-tell_from}
use Rattle.replay_runs.proofs.one.OneObjects.tell.Goals as goal

-- what it was told is what these entries tell
told : (g : Over) (c : After-tell_from g) (past es : List Entry) → length past ≡ c.args.from → c.args.world.now.world.past ≡ onto past es
    → IsTold g.R.Resource.gives c.args.t
    (all_of (told_by (answers_by c.args.self.now.tables.now.of c.args.self.now.tables.now.managers.items c.args.self.now.tables.now.volatiles.items) (volatile_by c.args.self.now.tables.now.volatiles.items)) es) c.args.self.now.object.now c.tell_from.new.object
told g c past es long wrote =
    let ts = c.args.self.now.tables.now in
    let xs : List Entry = c.history.result.now.items in
    let entries : drop c.args.from xs ≡ es = ap (λ (n : ℕ). drop n xs) (sym long) ∙ written_after xs past es (c.history.ensures ∙ wrote) in
    subst (λ (ys : List Entry). IsTold g.R.Resource.gives c.args.t (all_of (told_by (answers_by ts.of ts.managers.items ts.volatiles.items) (volatile_by ts.volatiles.items)) ys) c.args.self.now.object.now c.tell_from.new.object) entries
    c.tell_from.ensures

pub returns-clause-stepped : goal.returns-clause-stepped
returns-clause-stepped g c past es long wrote s o d first x given T is asks block reached =
    let y = c.args.self.now in
    let heard = told g (goal.at.returns-clause-stepped g c).After-tell_from past es long wrote in (
      asks.1 ∙ reached.0,
      one_stepped g.R.Resource.gives s o x.tables.now.of y.tables.now.of x.tables.now.managers.items y.tables.now.managers.items x.tables.now.volatiles.items y.tables.now.volatiles.items c.args.t d first.object.now x.object.now y.object.now
          c.tell_from.new.object given es T is (ap (λ (z : Tables). z.of) asks.0) (ap (λ (z : Tables). z.managers.items) asks.0) (ap (λ (z : Tables). z.volatiles.items) asks.0) asks.2 block heard reached.1,
    )

pub returns-clause-called : goal.returns-clause-called
returns-clause-called g c past es long wrote s o first T is none reached =
    let y = c.args.self.now in
    let heard = told g (goal.at.returns-clause-called g c).After-tell_from past es long wrote in
    (reached.0, one_called g.R.Resource.gives s o y.tables.now.of y.tables.now.managers.items y.tables.now.volatiles.items c.args.t first.object.now y.object.now c.tell_from.new.object es T is none heard reached.1)
