use Rattle.std.proofs.Common.{◌≡◌, ◌<◌, ◌-◌, ◌∙◌, None, Option, Some, ap, arith, length, subst, sym}
use Rattle.std.specs.Prelude.{slice_get, slice_index_or}
use Rattle.dtx_values.specs.declared.note.Note.{Note}
use Rattle.dtx_values.specs.declared.note.Reply.{Reply}
use Rattle.dtx_values.specs.declared.number.EnlNo.{EnlNo}
use Rattle.dtx_values.specs.declared.number.RmNo.{RmNo}
use Rattle.dtx_model.specs.Steps.{pending}
use Rattle.dtx_model.specs.Words.{kth}
use Rattle.tx_world.specs.Stepping.{reply_in}
use Rattle.replay_runs.specs.Objects.{fitting, reply_by}
use Rattle.replay_runs.proofs.Answering.{item_is, of_asked, place_of}
use Rattle.replay_runs.proofs.objects.asked.Given.{Over}
use Rattle.replay_runs.proofs.objects.asked.Goals.{After-answer}
use Rattle.replay_runs.proofs.objects.asked.Goals as goal

-- What the object of the manager answered is what was said, where that is the reply of its answer.
answered : (g : Over) (c : After-answer g) (said : Option (EnlNo × Reply)) → said ≡ reply_by c.in_ok-e.e c.answer.result → (e : EnlNo) (n : Note) (rm : RmNo) (object : _) → reply_in c.args.world.now.world (kth (pending c.args.world.now.world) c.args.k) ≡ Some (e, n)
    → slice_index_or c.args.managers.now (e.value - 1) None ≡ Some rm → slice_get c.args.resources.now (rm.value - 1) ≡ Some object
    → (a : Option Reply) × (after : _) × (goal.Resource-dyn g (object.vtable, object.value)).gives object.value c.args.t e n a after × (said ≡ reply_by e (fitting n a))
answered g c said is e n rm object due manager here =
    let ms = c.args.managers.now in
    let same = c.in_ok-e.ensures ∙ due in
    let within : c.index.result < length ms = omega (arith, c.index.ensures.within, c.requires) in
    let place =
    place_of ms c.in_ok-e.e e c.in_ok-e.n n c.index.result c.index-2.result c.index-managers-index.result c.in_ok-rm.rm rm same c.index.ensures.place within c.index-managers-index.is c.in_ok-rm.was c.index-2.ensures.place
    manager in
    let x =
    subst (λ (p : _). (a : Option Reply) × (after : _) × (goal.Resource-dyn g p).gives p.1 c.args.t c.in_ok-e.e c.in_ok-e.n a after × (c.answer.result ≡ fitting c.in_ok-e.n a)) c.deref_box_mut-1.ensures.value.1 c.answer.ensures.answer in
    let b = c.in_ok-object.object.now in
    let heard : (a : Option Reply) × (after : _) × (goal.Resource-dyn g (b.vtable, b.value)).gives b.value c.args.t c.in_ok-e.e c.in_ok-e.n a after × (said ≡ reply_by c.in_ok-e.e (fitting c.in_ok-e.n a)) =
    (x.0, x.1, x.2, is ∙ ap (reply_by c.in_ok-e.e) x.3) in
    let item = item_is c.args.resources.now c.index-2.result (rm.value - 1) b object c.in_ok-object.ensures.lookup.1 place here in
    let there =
    subst (λ (y : _). (a : Option Reply) × (after : _) × (goal.Resource-dyn g (y.vtable, y.value)).gives y.value c.args.t c.in_ok-e.e c.in_ok-e.n a after × (said ≡ reply_by c.in_ok-e.e (fitting c.in_ok-e.n a))) item heard in
    of_asked (λ f m. (a : Option Reply) × (after : _) × (goal.Resource-dyn g (object.vtable, object.value)).gives object.value c.args.t f m a after × (said ≡ reply_by f (fitting m a))) c.in_ok-e.e e c.in_ok-e.n n same there

pub returns-in_err-r-clause-answer : goal.returns-in_err-r-clause-answer
returns-in_err-r-clause-answer g c = answered g (goal.at.returns-in_err-r-clause-answer g c).After-answer c.from_residual-in_err-r.result (c.from_residual-in_err-r.ensures ∙ ap (reply_by c.in_ok-e.e) (sym c.in_err-r.was))

pub returns-clause-answer : goal.returns-clause-answer
returns-clause-answer g c = answered g (goal.at.returns-clause-answer g c).After-answer (Some (c.in_ok-e.e, c.in_ok-r.r)) (ap (reply_by c.in_ok-e.e) (sym c.in_ok-r.was))
