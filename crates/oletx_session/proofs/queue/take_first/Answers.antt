use Rattle.std.proofs.Common.{◌∷◌, Option, Some, None, IfNone, ap, sym, ◌∙◌, position, filter}
use Rattle.oletx_session.specs.declared.piece.Piece.{Piece}
use Rattle.oletx_session.specs.Queues.{is_on, on_way}
use Rattle.oletx_session.proofs.Pieces.{else_first, filter_first, filter_none}
use Rattle.oletx_session.proofs.queue.take_first.Goals as goal

-- what holds holds where there is none
where_none : (o : Option Piece) (P : Type 0) → P → IfNone o P
where_none None P h = h
where_none (Some p) P h = tt

pub returns-in_err-place-clause-none : goal.returns-in_err-place-clause-none
returns-in_err-place-clause-none c =
    let on_lane = is_on c.args.c c.args.d in
    where_none _ _ (filter_none on_lane c.args.pieces.now.items (ap (position on_lane) (sym c.deref.ensures.value) ∙ sym c.in_err-place.ensures))

pub returns-clause-first : goal.returns-clause-first
returns-clause-first c =
    let on_lane = is_on c.args.c c.args.d in
    let ps = c.args.pieces.now.items in
    filter_first on_lane ps c.in_ok-place.place c.remove.result (ap (position on_lane) (sym c.deref.ensures.value) ∙ sym c.in_ok-place.ensures) c.remove.ensures.value
    ∙ ap (λ xs. c.remove.result ∷ filter on_lane xs) (sym c.remove.ensures.items)

pub returns-clause-others : goal.returns-clause-others
returns-clause-others c = λ x e other.
    let on_lane = is_on c.args.c c.args.d in
    let ps = c.args.pieces.now.items in
    ap (on_way x e) c.remove.ensures.items
    ∙ else_first c.args.c c.args.d ps c.in_ok-place.place c.remove.result (ap (position on_lane) (sym c.deref.ensures.value) ∙ sym c.in_ok-place.ensures) c.remove.ensures.value x e other
