use Rattle.std.proofs.Common.{◌∙◌, List, ap, slice_get, subst}
use Rattle.dtx_model.specs.Waiting.{Waiter}
use Rattle.half_parts.specs.Half.{Known}
use Rattle.half_parts.specs.Waits.{IsAt}
use Rattle.half_parts.proofs.Waiters.{at}
use Rattle.local_half.proofs.half.LocalHalf.waiting_at.Goals as goal

pub returns-clause-at : goal.returns-clause-at
returns-clause-at c =
    let ws = c.self.inside.waits.items in
    let here = at 0 c.args.i ws c.self.invariant.5.rise in
    let same = c.get.ensures.value ∙ ap (λ (vs : List Waiter). slice_get vs c.args.i) c.deref.ensures.value in
    subst (λ (k : Known). IsAt c.args.i k.half.waits c.get.result) c.self.view_is (rw same here)
