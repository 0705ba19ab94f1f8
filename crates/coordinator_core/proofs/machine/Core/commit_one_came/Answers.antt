use Rattle.std.proofs.Common.{◌≡◌, ◌∙◌, Bool, List, ap}
use Rattle.dtx_values.specs.Outgoing.{written}
use Rattle.dtx_values.specs.declared.entry.Entry.{Entry}
use Rattle.dtx_model.specs.declared.desk.Stage.{Stage}
use Rattle.dtx_model.specs.Coordinated.{Coordinated, accepts, follow_all, is_active, is_one, sole_if}
use Rattle.coordinator_core.specs.contracts.machine.Core.{the_view}
use Rattle.coordinator_core.specs.Kept.{Kept, sole_block}
use Rattle.coordinator_core.proofs.Single.{sole_all, sole_written, soled}
use Rattle.coordinator_core.proofs.machine.Core.commit_one_came.Goals as goal

-- what is kept before the voter is asked or each is told
before : (c : goal.After-ask_alone) → let k = c.args.self.now.state in soled c.sole_at-self-inside.result c.is_active.result (the_view c.self.inside).state ≡ soled (sole_if (accepts k) (is_one k.desks) k.stage) (is_active k.stage) k
before c =
    let inside : Coordinated = (the_view c.self.inside).state in
    ap (λ (s : Stage). soled s c.is_active.result inside) c.sole_at-self-inside.ensures
    ∙ ap (λ (a : Bool). soled (sole_if a c.has_one-is_one.result inside.stage) c.is_active.result inside) c.accepts-accepted.ensures
    ∙ ap (λ (a : Bool). soled (sole_if (accepts c.args.self.now.state) a inside.stage) c.is_active.result inside) c.has_one-is_one.ensures
    ∙ ap (λ (a : Bool). soled (sole_if (accepts c.args.self.now.state) (is_one c.args.self.now.state.desks) inside.stage) a inside) c.is_active.ensures
    ∙ ap (λ (s : Kept). soled (sole_if (accepts c.args.self.now.state) (is_one c.args.self.now.state.desks) s.state.stage) (is_active s.state.stage) s.state) c.self.view_is

pub returns-clause-kept : goal.returns-clause-kept
returns-clause-kept c =
    let k = c.args.self.now.state in
    let now = soled (sole_if (accepts k) (is_one k.desks) k.stage) (is_active k.stage) k in
    let transaction = c.ask_alone.ensures.transaction ∙ ap (λ (s : Kept). s.transaction) c.self.view_is in
    let state = c.ask_alone.ensures.state
    ∙ ap (λ (s : Coordinated). follow_all s (sole_block c.accepts-accepted.result c.has_one-is_one.result s)) (before c)
    ∙ ap (λ (a : Bool). follow_all now (sole_block a c.has_one-is_one.result now)) c.accepts-accepted.ensures
    ∙ ap (λ (a : Bool). follow_all now (sole_block (accepts k) a now)) c.has_one-is_one.ensures ∙ sole_all c.args.self.now in
    λ i. record { transaction = transaction i; state = state i }

pub returns-clause-out : goal.returns-clause-out
returns-clause-out c =
    let k = c.args.self.now.state in
    let now = soled (sole_if (accepts k) (is_one k.desks) k.stage) (is_active k.stage) k in
    c.ask_alone.ensures.out
    ∙ ap (λ (es : List Entry). written c.args.out.now es)
    (ap (λ (s : Coordinated). sole_block c.accepts-accepted.result c.has_one-is_one.result s) (before c)
    ∙ ap (λ (a : Bool). sole_block a c.has_one-is_one.result now) c.accepts-accepted.ensures ∙ ap (λ (a : Bool). sole_block (accepts k) a now) c.has_one-is_one.ensures ∙ sole_written c.args.self.now)
