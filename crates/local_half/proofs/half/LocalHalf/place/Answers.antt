use Rattle.std.proofs.Common.{◌≡◌, ◌∙◌, List, [], Option, Some, find, ap, subst, sym}
use Rattle.dtx_values.specs.Outgoing.{written}
use Rattle.dtx_model.specs.Arrivals.{place_given}
use Rattle.dtx_model.specs.Waiting.{Waiter, is_place_of}
use Rattle.dtx_model.specs.declared.waiting.Wanted.{Wanted}
use Rattle.dtx_model.specs.declared.waiting.Wanted.TheVariants.{Place}
use Rattle.half_parts.specs.Half.{Known, after}
use Rattle.half_parts.proofs.Waiters.{found_number}
use Rattle.local_half.proofs.half.LocalHalf.place.Goals as goal
use Rattle.local_half.proofs.half.LocalHalf.place.Goals.{In-Some-default-Place}

found : (c : In-Some-default-Place) → find (is_place_of c.args.e.value) c.args.self.now.half.waits ≡ Some (c.in-Some-default-Place.n, Place c.in-Some-default-Place.place c.in-Some-default-Place.field-0-1-1 c.in-Some-default-Place.class)
found c =
    let waits : c.deref.result.now ≡ c.args.self.now.half.waits = c.deref.ensures.value ∙ ap (λ (k : Known). k.half.waits) c.self.view_is in
    ap (λ (ws : List Waiter). find (is_place_of c.args.e.value) ws) (sym waits) ∙ sym c.place_of.ensures ∙ c.in-Some-default-Place.is ∙ ap (λ (x : Wanted). Some (c.in-Some-default-Place.n, x)) c.in-Some-default-Place.field-0-1-is

pub give_place-requires-clause-waits : goal.give_place-requires-clause-waits
give_place-requires-clause-waits c =
    let it = found (goal.at.give_place-requires-clause-waits c).In-Some-default-Place in
    (c.in-Some-default-Place.field-0-1-1, c.in-Some-default-Place.place, subst (λ g. find (is_place_of g) c.args.self.now.half.waits ≡ Some (c.in-Some-default-Place.n, Place c.in-Some-default-Place.place c.in-Some-default-Place.field-0-1-1 c.in-Some-default-Place.class)) (found_number c.args.e.value c.args.self.now.half.waits _ _ _ _ it) it)

pub returns-in-Some-default-Place-clause-state : goal.returns-in-Some-default-Place-clause-state
returns-in-Some-default-Place-clause-state c =
    c.give_place.ensures.state ∙ ap (λ (o : Option Waiter). after [] c.args.self.now (place_given o)) (sym (found (goal.at.returns-in-Some-default-Place-clause-state c).In-Some-default-Place))

pub returns-in-Some-default-Place-clause-out : goal.returns-in-Some-default-Place-clause-out
returns-in-Some-default-Place-clause-out c =
    c.give_place.ensures.out ∙ ap (λ (o : Option Waiter). written c.args.out.now (place_given o)) (sym (found (goal.at.returns-in-Some-default-Place-clause-out c).In-Some-default-Place))
