use Rattle.std.proofs.Common.{◌≡◌, List, true, ap, length, sym, subst, ◌∙◌}
use Rattle.std.proofs.lemmas.List.{length-replicate}
use Rattle.dtx_values.specs.declared.script.Line.{Line}
use Rattle.dtx_model.specs.Grammar.{are_named_well}
use Rattle.scope_context.specs.Standing.{Standing}
use Rattle.tx_world.specs.State.{TxState}
use Rattle.replay_runs.specs.RunState.{AreNumbered}
use Rattle.script_calls.specs.Scoped.{nothing_open}
use Rattle.replay_runs.proofs.Numbered.{numbered_none}
use Rattle.script_calls.specs.Managers.{AreManagers}
use Rattle.replay_runs.proofs.replay.Run.new.Goals as goal

pub invariant_of-result : goal.invariant_of-result
invariant_of-result c = (
  subst (λ (ws : List TxState). AreNumbered ws) (sym c.in_ok-with_capacity.ensures.items) numbered_none,
  ap length c.in_ok-contexts.ensures ∙ length-replicate {A = Standing} 16 nothing_open,
  subst (λ (ls : List Line). are_named_well ls ≡ true) (sym c.in_ok-new.ensures) c.requires,
  c.in_ok-managers_of.ensures.full,
  subst (λ (ls : List Line). AreManagers ls ls c.in_ok-managers_of.field-0.items) (sym c.in_ok-new.ensures) c.in_ok-managers_of.ensures.managers,
)
