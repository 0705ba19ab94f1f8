use Rattle.std.proofs.Common.{◌≡◌, ◌∙◌, Bool, List, Some, ap, map, if◌then◌else◌}
use Rattle.dtx_values.specs.Outgoing.{written}
use Rattle.dtx_values.specs.declared.entry.Entry.{Entry}
use Rattle.dtx_model.specs.declared.desk.Ballot.TheVariants.{Refused}
use Rattle.dtx_model.specs.declared.desk.Desk.{Desk}
use Rattle.dtx_model.specs.declared.desk.Stage.TheVariants.{Aborted}
use Rattle.dtx_model.specs.Coordinated.{Coordinated, follow_all, hears_one, with_ballot}
use Rattle.coordinator_core.specs.contracts.machine.Core.{the_view}
use Rattle.coordinator_core.specs.Kept.{Kept, off_block, staged_if}
use Rattle.coordinator_core.proofs.Single.{aborted_all, aborted_written, desked}
use Rattle.coordinator_core.proofs.machine.Core.one_aborted_came.Goals as goal

-- the enlistments, where its Aborted counts or not
abbrev refused : goal.After-call_off → Bool → Coordinated → List Desk
refused c b k = if b then map (with_ballot c.args.e.value (Some Refused)) k.desks else k.desks

-- what is kept before the abort
before : (c : goal.After-call_off) → let k = c.args.self.now.state in desked c.vote_if.new.desks.items (the_view c.self.inside).state ≡ desked (refused c (hears_one k c.args.e.value) k) k
before c =
    let inside : Coordinated = (the_view c.self.inside).state in
    ap (λ (ds : List Desk). desked ds inside) c.vote_if.ensures
    ∙ ap (λ (b : Bool). desked (refused c b inside) inside) c.hears_one-counts.ensures
    ∙ ap (λ (s : Kept). desked (refused c (hears_one c.args.self.now.state c.args.e.value) s.state) s.state) c.self.view_is

pub returns-clause-kept : goal.returns-clause-kept
returns-clause-kept c =
    let k = c.args.self.now.state in
    let now = desked (refused c (hears_one k c.args.e.value) k) k in
    let transaction = c.call_off.ensures.transaction ∙ ap (λ (s : Kept). s.transaction) c.self.view_is in
    let state = c.call_off.ensures.state
    ∙ ap (λ (s : Coordinated). follow_all (staged_if c.hears_one-counts.result Aborted s) (off_block c.hears_one-counts.result s)) (before c)
    ∙ ap (λ (b : Bool). follow_all (staged_if b Aborted now) (off_block b now)) c.hears_one-counts.ensures ∙ aborted_all c.args.self.now c.args.e in
    λ i. record { transaction = transaction i; state = state i }

pub returns-clause-out : goal.returns-clause-out
returns-clause-out c =
    let k = c.args.self.now.state in
    let now = desked (refused c (hears_one k c.args.e.value) k) k in
    c.call_off.ensures.out
    ∙ ap (λ (es : List Entry). written c.args.out.now es)
    (ap (λ (s : Coordinated). off_block c.hears_one-counts.result s) (before c) ∙ ap (λ (b : Bool). off_block b now) c.hears_one-counts.ensures ∙ aborted_written c.args.self.now c.args.e)
