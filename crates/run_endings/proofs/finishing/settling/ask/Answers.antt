use Rattle.std.proofs.Common.{◌≡◌, Some, Option, subst}
use Rattle.dtx_values.specs.declared.note.Reply.{Reply}
use Rattle.run_endings.proofs.finishing.settling.ask.Goals as goal

-- an object that is asked gives what it answers
pub returns-then-fits-clause-given : goal.returns-then-fits-clause-given
returns-then-fits-clause-given g c =
    let b = c.in_ok-object.object.now in
    let x = subst (λ (a : Option Reply). (x : _) × (goal.Resource-dyn g c.deref_box_mut-1.result.now).gives c.deref_box_mut-1.result.now.1 c.args.t c.args.e c.args.n a x) c.in_ok-r.was (c.on.new.self, c.on.ensures) in
    let y = subst (λ (p : _). (x : _) × (goal.Resource-dyn g p).gives p.1 c.args.t c.args.e c.args.n (Some c.in_ok-r.r) x) c.deref_box_mut-1.ensures.value.1 x in
    (b, y.0, y.1)
