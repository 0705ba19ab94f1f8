use Rattle.std.proofs.Common.{◌≡◌, ◌++◌, List, length, length-append, map, min, arith, refl, ap, sym, subst, ◌∙◌}
use Rattle.std.specs.Slice.Iter.{chunks_rest, chunks_size}
use Rattle.oletx_session.specs.declared.piece.Piece.{Piece}
use Rattle.oletx_session.specs.Queues.{AreSameElse, bytes_in, on_way}
use Rattle.oletx_session.specs.Crossing.{cut}
use Rattle.oletx_session.proofs.Cutting.{few_pieces}
use Rattle.oletx_session.proofs.Putting.{put_else, put_fewer, put_piece}
use Rattle.oletx_session.proofs.crossing.put_frame.Goals as goal

pub loop-part-init : goal.loop-part-init
loop-part-init c =
    let left = ap chunks_rest c.into_iter-part-iterator.ensures.into_iter_gives ∙ c.chunks-part-items.ensures.rest in
    let lane = map bytes_in (on_way c.args.c c.args.d c.reserve.new.self.items) in
    record {
      size = ap chunks_size c.into_iter-part-iterator.ensures.into_iter_gives ∙ c.chunks-part-items.ensures.size ∙ c.from.ensures;
      short = omega (arith, ap length left, c.requires.short);
      put = ap (λ xs. lane ++ cut c.args.size xs) left;
      others = λ x e other. refl;
      few = omega (arith, ap (λ xs. length (cut c.args.size xs)) left, few_pieces c.args.size c.args.frame.now c.requires.some c.requires.short);
      room = omega (arith, c.in_ok-reserve.ensures.ok, c.most_pieces.ensures.value);
      capacity = omega arith;
    }

pub loop-part-preserved : goal.loop-part-preserved
loop-part-preserved c =
    let so_far = c.loop-part.invariant in
    let step = c.in-Some.ensures.steps in
    let b = chunks_rest c.loop-part.part-iterator in
    let rest = chunks_rest c.next.new.self in
    let x = c.in-Some.part.now in
    let size : length x ≡ min c.args.size (length b) = step.1.1 ∙ ap (λ k. min k (length b)) so_far.size in
    let P : List Piece → Type 0 = λ qs. map bytes_in (on_way c.args.c c.args.d qs) ++ cut c.args.size rest ≡ map bytes_in (on_way c.args.c c.args.d c.reserve.new.self.items) ++ cut c.args.size c.args.frame.now in
    let Q : List Piece → Type 0 = λ qs. AreSameElse c.args.c c.args.d c.reserve.new.self.items qs in
    let items = c.in_ok-push.ensures.items in
    record {
      size = step.0 ∙ so_far.size;
      short = omega (arith, so_far.short, ap length step.1.0, length-append x rest);
      put = subst P (sym items) (put_piece c.args.c c.args.d c.args.size c.loop-part.pieces.items c.new.result b x rest (map bytes_in (on_way c.args.c c.args.d c.reserve.new.self.items) ++ cut c.args.size c.args.frame.now)
          c.requires.some c.new.ensures.connection c.new.ensures.direction c.new.ensures.bytes step.1.0 size step.1.2 so_far.put);
      others = subst Q (sym items) (put_else c.args.c c.args.d c.reserve.new.self.items c.loop-part.pieces.items c.new.result c.new.ensures.connection c.new.ensures.direction so_far.others);
      few = omega (arith, so_far.few, c.in_ok-push.ensures.len, put_fewer c.args.size b x rest c.requires.some step.1.0 size step.1.2);
      room = omega (arith, so_far.room, c.in_ok-push.ensures.capacity);
      capacity = omega (arith, so_far.capacity, c.in_ok-push.ensures.capacity);
    }

pub returns-in_err-push-clause-same : goal.returns-in_err-push-clause-same
returns-in_err-push-clause-same c =
    let so_far = c.loop-part.invariant in
    let step = c.in-Some.ensures.steps in
    let b = chunks_rest c.loop-part.part-iterator in
    let x = c.in-Some.part.now in
    let size : length x ≡ min c.args.size (length b) = step.1.1 ∙ ap (λ k. min k (length b)) so_far.size in
    absurd (omega (arith, so_far.few, so_far.room, c.in_err-push.ensures.full, put_fewer c.args.size b x (chunks_rest c.next.new.self) c.requires.some step.1.0 size step.1.2))

pub returns-in_err-push-clause-full : goal.returns-in_err-push-clause-full
returns-in_err-push-clause-full c =
    let so_far = c.loop-part.invariant in
    let step = c.in-Some.ensures.steps in
    let b = chunks_rest c.loop-part.part-iterator in
    let x = c.in-Some.part.now in
    let size : length x ≡ min c.args.size (length b) = step.1.1 ∙ ap (λ k. min k (length b)) so_far.size in
    absurd (omega (arith, so_far.few, so_far.room, c.in_err-push.ensures.full, put_fewer c.args.size b x (chunks_rest c.next.new.self) c.requires.some step.1.0 size step.1.2))
