use Rattle.std.proofs.Common.{List, ap, refl, sym, subst}
use Rattle.std.proofs.lemmas.Result.{IfOk-weaker}
use Rattle.dtx_values.specs.declared.script.Line.{Line}
use Rattle.heard_notes.specs.Whose.{whose}
use Rattle.script_calls.specs.Managers.{AreManagers}
use Rattle.replay_runs.specs.Volatiles.{AreVolatiles}
use Rattle.heard_notes.specs.Heard.{Reaches, heard}
use Rattle.dtx_model.specs.Words.{past_of}
use Rattle.replay_runs.proofs.run.run_with.Goals as goal

pub run_of-requires-clause-made : goal.run_of-requires-clause-made
run_of-requires-clause-made g c =
    let ts = c.in_ok-tables.tables in
    record {
      names = ap whose (sym c.in_ok-tables.ensures.of);
      managers = subst (λ (s : List Line). AreManagers s s ts.managers.items) c.lines.ensures c.in_ok-tables.ensures.managers;
      volatiles = subst (λ (s : List Line). AreVolatiles s s ts.volatiles.items) c.lines.ensures c.in_ok-tables.ensures.volatiles;
      known = c.in_ok-tables.ensures.full.0;
      marked = c.in_ok-tables.ensures.full.1;
    }

-- What is left behind the reference is what the object that was lent is then: it is still the same reference.
pub returns-clause-heard : goal.returns-clause-heard
returns-clause-heard g c =
    IfOk-weaker c.run_of.result _ _
    (λ T heard_by.
    let ran = heard_by (refl, refl) in
    subst (λ (z : g.row.R.Denot). Reaches g.R.Resource.gives c.args.s.now c.args.object.now (heard c.args.s.now (whose c.args.of) (past_of T)) z) (sym (c.object-1.given.1 (sym ran.0))) ran.1) c.run_of.ensures.heard
