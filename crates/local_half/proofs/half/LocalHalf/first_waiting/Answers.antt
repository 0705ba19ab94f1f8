use Rattle.std.proofs.Common.{◌≡◌, ◌∙◌, List, Some, None, [], ap, slice_get, subst, sym}
use Rattle.dtx_model.specs.Waiting.{Waiter}
use Rattle.half_parts.specs.Half.{Known}
use Rattle.half_parts.specs.Waits.{IsFirst}
use Rattle.half_parts.proofs.Waiters.{starts, starts_none}
use Rattle.local_half.proofs.half.LocalHalf.first_waiting.Goals as goal

pub returns-in-Some : goal.returns-in-Some
returns-in-Some c =
    let some : slice_get c.self.inside.waits.items 0 ≡ Some (c.in-Some.n, c.in-Some.field-0-1) = ap (λ (vs : List Waiter). slice_get vs 0) (sym c.deref.ensures.value) ∙ sym c.get.ensures.value ∙ c.in-Some.is in
    subst (λ (k : Known). IsFirst c.in-Some.n k.half.waits) c.self.view_is (starts c.self.inside.waits.items c.in-Some.n c.in-Some.field-0-1 c.self.invariant.5.rise some)

pub returns-in-None : goal.returns-in-None
returns-in-None c =
    let none : slice_get c.self.inside.waits.items 0 ≡ None = ap (λ (vs : List Waiter). slice_get vs 0) (sym c.deref.ensures.value) ∙ sym c.get.ensures.value ∙ c.in-None.is in
    subst (λ (k : Known). k.half.waits ≡ []) c.self.view_is (starts_none c.self.inside.waits.items none)
