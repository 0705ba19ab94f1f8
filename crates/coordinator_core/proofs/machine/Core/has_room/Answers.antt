use Rattle.std.proofs.Common.{◌≡◌, ◌∙◌, ◌&&◌, ℕ, Bool, ap, length, nat_le, sym}
use Rattle.std.proofs.lemmas.Bool.{le-leb, lt-leb}
use Rattle.dtx_values.specs.declared.entry.Entry.{Entry}
use Rattle.dtx_values.specs.declared.entry.Entry.TheVariants.{Got}
use Rattle.dtx_values.specs.declared.limits.TheConstants.{CONNECTIONS, DURABLES}
use Rattle.dtx_values.specs.declared.message.Dir.TheVariants.{Up}
use Rattle.dtx_model.specs.Coordinated.{desks_after, known_after, waits_after}
use Rattle.coordinator_core.proofs.Causes.{both_held, first_failed}
use Rattle.coordinator_core.proofs.Room.{few_iff}
use Rattle.coordinator_core.proofs.machine.Core.has_room.Goals.{Joined-desks_after-le-DURABLES, then-desks_after-le-DURABLES, else-desks_after-le-DURABLES}
use Rattle.coordinator_core.proofs.machine.Core.has_room.Goals as goal

-- what the tests of the enlistments and of the connections come to
both : (c : Joined-desks_after-le-DURABLES) → c.if-desks_after-le-DURABLES.value
    ≡ (nat_le (length (desks_after c.args.self.now.state (Got c.args.c Up c.args.m))) DURABLES && nat_le (length (known_after (Got c.args.c Up c.args.m) c.args.self.now.state.known)) CONNECTIONS)
both c =
    let k = c.args.self.now.state in
    let x : Entry = Got c.args.c Up c.args.m in
    let d = nat_le (length (desks_after k x)) DURABLES in
    let n = nat_le (length (known_after x k.known)) CONNECTIONS in
    let value = c.if-desks_after-le-DURABLES.value in
    elim c.if-desks_after-le-DURABLES.branch [
      | then-desks_after-le-DURABLES v ↦
          both_held d n value (sym (ap (λ (l : ℕ). nat_le l DURABLES) c.desks_after.ensures) ∙ le-leb c.desks_after.result DURABLES v.if-desks_after-le-DURABLES.true) (v.value-is ∙ ap (λ (l : ℕ). nat_le l CONNECTIONS) v.known_after.ensures)
      | else-desks_after-le-DURABLES v ↦
          let over = lt-leb c.desks_after.result DURABLES v.if-desks_after-le-DURABLES.false in
          first_failed d n value (sym (ap (λ (l : ℕ). nat_le l DURABLES) c.desks_after.ensures) ∙ over) (v.value-is ∙ over)
    ]

pub returns-then-known_after-le-CONNECTIONS : goal.returns-then-known_after-le-CONNECTIONS
returns-then-known_after-le-CONNECTIONS c =
    let k = c.args.self.now.state in
    let x : Entry = Got c.args.c Up c.args.m in
    let w = nat_le (length (waits_after x k.waits)) DURABLES in
    let value = c.if-desks_after-le-DURABLES.value in
    let r = nat_le c.waits_after.result DURABLES in
    few_iff k x r (both_held value w r c.if-known_after-le-CONNECTIONS.true (ap (λ (l : ℕ). nat_le l DURABLES) c.waits_after.ensures) ∙ ap (λ (b : Bool). b && w) (both (goal.at.returns-then-known_after-le-CONNECTIONS c).Joined-desks_after-le-DURABLES))

pub returns-else-known_after-le-CONNECTIONS : goal.returns-else-known_after-le-CONNECTIONS
returns-else-known_after-le-CONNECTIONS c =
    let k = c.args.self.now.state in
    let x : Entry = Got c.args.c Up c.args.m in
    let w = nat_le (length (waits_after x k.waits)) DURABLES in
    let value = c.if-desks_after-le-DURABLES.value in
    let failed = c.if-known_after-le-CONNECTIONS.false in
    few_iff k x value (first_failed value w value failed failed ∙ ap (λ (b : Bool). b && w) (both (goal.at.returns-else-known_after-le-CONNECTIONS c).Joined-desks_after-le-DURABLES))
