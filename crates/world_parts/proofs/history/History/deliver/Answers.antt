use Rattle.std.proofs.Common.{◌≡◌, List, ◌∷◌, ap, sym, ◌∙◌, subst, Some, None}
use Rattle.dtx_values.specs.declared.entry.Entry.{Entry}
use Rattle.dtx_values.specs.declared.entry.Entry.TheVariants.{Down as Ended, Got}
use Rattle.dtx_values.specs.declared.message.Message.{Message}
use Rattle.dtx_model.specs.Words.{past_of}
use Rattle.dtx_model.specs.Wires.{MayCross, WireRun}
use Rattle.dtx_model.specs.World.{has_left}
use Rattle.dtx_model.proofs.Histories.{past_of-snoc}
use Rattle.oletx_session.specs.Carries.{Carries}
use Rattle.world_laws.specs.Course.{Course}
use Rattle.world_laws.proofs.Arriving.{arrived_came, arrived_kept, same_entry}
use Rattle.world_laws.proofs.Ended.{left_is}
use Rattle.world_parts.proofs.history.History.deliver.Goals as goal

pub invariant_of-self : goal.invariant_of-self
invariant_of-self c =
    let h = past_of c.self.inside.entries.items in
    let x = c.in-Some.x in
    let e = c.deliver-came.ensures in
    let came = sym c.arrival.ensures ∙ c.in-Some.is in
    let before = ap (λ (y : Course). y.past) c.self.view_is in
    let lined = λ (m : Message) (k : MayCross h (Got c.args.c c.args.d m)). c.requires.lined m (subst (λ (g : List Entry). MayCross g (Got c.args.c c.args.d m)) before k) in
    let same = ap (λ (xs : List Entry). past_of xs) c.push_reserved.ensures.items ∙ past_of-snoc c.self.inside.entries.items x in
    subst (λ (g : List Entry). Carries c.deliver-came.new.self.wires g × WireRun g) (sym same)
    (arrived_kept c.args.c c.args.d c.deliver-came.result x c.self.inside.session.wires c.deliver-came.new.self.wires h came c.self.invariant.0 c.self.invariant.1 e.got e.down lined)

pub returns-in-Some-clause-came : goal.returns-in-Some-clause-came
returns-in-Some-clause-came c =
    let h = past_of c.self.inside.entries.items in
    let x = c.in-Some.x in
    let e = c.deliver-came.ensures in
    let given = sym c.arrival.ensures ∙ c.in-Some.is in
    let before = ap (λ (y : Course). y.past) c.self.view_is in
    let same = ap (λ (xs : List Entry). past_of xs) c.push_reserved.ensures.items ∙ past_of-snoc c.self.inside.entries.items x ∙ ap (λ (g : List Entry). x ∷ g) before in
    arrived_came c.args.c c.args.d c.deliver-came.result c.args.self.now.past (past_of c.push_reserved.new.self.items)
    (λ y k. same ∙ ap (λ (z : Entry). z ∷ c.args.self.now.past) (same_entry x y (sym given ∙ k)))
    (λ m k. subst (λ (g : List Entry). MayCross g (Got c.args.c c.args.d m)) before (e.got m h k c.self.invariant.0).0)
    (λ k. subst (λ (g : List Entry). MayCross g (Ended c.args.c c.args.d)) before (e.down h k c.self.invariant.0).0) e.never

pub returns-in_default-clause-came : goal.returns-in_default-clause-came
returns-in_default-clause-came c =
    let h = past_of c.self.inside.entries.items in
    let e = c.deliver-came.ensures in
    let before = ap (λ (y : Course). y.past) c.self.view_is in
    arrived_came c.args.c c.args.d c.deliver-came.result c.args.self.now.past _
    (λ y k. absurd (none y (sym k ∙ (sym c.arrival.ensures ∙ c.in_default.is))))
    (λ m k. subst (λ (g : List Entry). MayCross g (Got c.args.c c.args.d m)) before (e.got m h k c.self.invariant.0).0)
    (λ k. subst (λ (g : List Entry). MayCross g (Ended c.args.c c.args.d)) before (e.down h k c.self.invariant.0).0) e.never
  where
    none : (y : Entry) → Some y ≡ None → ⊥
    none y e = cc

pub returns-in_default-clause-none : goal.returns-in_default-clause-none
returns-in_default-clause-none c =
    let same = left_is c.args.c c.args.d c.self.inside.session.wires (past_of c.self.inside.entries.items) c.self.invariant.0 ∙ ap (λ (x : Course). has_left c.args.c c.args.d x.past) c.self.view_is in
    (λ n. sym same ∙ c.deliver-came.ensures.none.0 n, λ l. c.deliver-came.ensures.none.1 (same ∙ l))
