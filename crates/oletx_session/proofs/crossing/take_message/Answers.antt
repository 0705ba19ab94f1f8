use Rattle.std.proofs.Common.{◌≡◌, ◌≢◌, ℕ, List, [], length, Option, Some, None, Result, IfNone, is_some, MatchOption, map, arith, refl, ap, sym, subst, ◌∙◌}
use Rattle.dtx_values.specs.declared.message.Message.{Message}
use Rattle.oletx_frames.specs.declared.refusal.FrameRefusal.{FrameRefusal}
use Rattle.oletx_frames.specs.declared.refusal.FrameRefusal.TheVariants.{Short}
use Rattle.oletx_session.specs.declared.piece.Piece.{Piece}
use Rattle.oletx_session.specs.Crossing.{Takes}
use Rattle.oletx_session.specs.Queues.{bytes_in, on_way}
use Rattle.oletx_session.proofs.Receiving.{ends_clean, given, gives_message, none_left, refuses_none, some_message, start_left, wants_more}
use Rattle.oletx_session.proofs.crossing.take_message.Goals as goal

pub loop-piece-init : goal.loop-piece-init
loop-piece-init c = record {
  reads = λ n some whole. start_left n c.new-reader.result (map bytes_in (on_way c.args.c c.args.d c.args.pieces.now.items)) whole.messages c.new-reader.ensures whole.pieces;
  untouched = λ n some whole none. refl;
  others = λ x e other. refl;
  few = omega arith;
  capacity = omega arith;
}

pub loop-piece-preserved : goal.loop-piece-preserved
loop-piece-preserved c =
    let so_far = c.loop-piece.invariant in
    let lane = on_way c.args.c c.args.d c.loop-piece.pieces.items in
    let behind = on_way c.args.c c.args.d c.take_first.new.pieces.items in
    let first = c.in-Some.ensures.first in
    record {
      reads = λ n some whole.
          wants_more n c.loop-piece.reader c.feed.new.self (map bytes_in behind) c.feed.result whole.messages
          (given n c.loop-piece.reader c.feed.new.self c.bytes.result.now c.in-Some.piece lane behind c.feed.result whole.messages some whole.valid (so_far.reads n some whole) first c.bytes.ensures
          c.feed.ensures.feeds) c.in-More.is;
      untouched = λ n some whole none.
          absurd (some_message n c.loop-piece.reader c.feed.new.self (map bytes_in behind) c.feed.result whole.messages
          (given n c.loop-piece.reader c.feed.new.self c.bytes.result.now c.in-Some.piece lane behind c.feed.result whole.messages some whole.valid (so_far.reads n some whole) first c.bytes.ensures
          c.feed.ensures.feeds) none);
      others = λ x e other. c.in-Some.ensures.others x e other ∙ so_far.others x e other;
      few = omega (arith, so_far.few, c.take_first.ensures.few);
      capacity = omega (arith, so_far.capacity, c.take_first.ensures.capacity);
    }

pub returns-in-Msg-clause-takes : goal.returns-in-Msg-clause-takes
returns-in-Msg-clause-takes c = λ n some whole.
    let lane = on_way c.args.c c.args.d c.loop-piece.pieces.items in
    let behind = on_way c.args.c c.args.d c.take_first.new.pieces.items in
    gives_message n c.loop-piece.reader c.feed.new.self behind c.feed.result whole.messages c.in-Msg.m
    (given n c.loop-piece.reader c.feed.new.self c.bytes.result.now c.in-Some.piece lane behind c.feed.result whole.messages some whole.valid
    (c.loop-piece.invariant.reads n some whole) c.in-Some.ensures.first c.bytes.ensures c.feed.ensures.feeds) c.in-Msg.is

pub returns-in-Bad-clause-takes : goal.returns-in-Bad-clause-takes
returns-in-Bad-clause-takes c = λ n some whole.
    let lane = on_way c.args.c c.args.d c.loop-piece.pieces.items in
    let behind = on_way c.args.c c.args.d c.take_first.new.pieces.items in
    absurd (refuses_none n c.loop-piece.reader c.feed.new.self (map bytes_in behind) c.feed.result whole.messages c.in-Bad.refusal
    (given n c.loop-piece.reader c.feed.new.self c.bytes.result.now c.in-Some.piece lane behind c.feed.result whole.messages some whole.valid
    (c.loop-piece.invariant.reads n some whole) c.in-Some.ensures.first c.bytes.ensures c.feed.ensures.feeds) c.in-Bad.is)

-- nothing is answered where nothing is held
no_refusal : (held : List ℕ) (o : Option FrameRefusal) → MatchOption o (held ≡ []) (λ e. (e ≡ Short (length held)) × (held ≢ [])) → held ≡ [] → o ≡ None
no_refusal held None h none = refl
no_refusal held (Some e) h none = absurd (h.1 none)

-- where nothing is mapped, nothing comes of it
none_mapped : (a : Option (Result Message FrameRefusal)) (o : Option FrameRefusal) → is_some a ≡ is_some o → o ≡ None → a ≡ None
none_mapped None o same none = refl
none_mapped (Some r) o same none = absurd (let some = same ∙ ap is_some none in cc)

-- what holds holds where there is none
where_none : (o : Option (Result Message FrameRefusal)) (P : Type 0) → P → IfNone o P
where_none None P h = h
where_none (Some r) P h = tt

pub returns-clause-takes : goal.returns-clause-takes
returns-clause-takes c = λ n some whole.
    let same = ap (λ v. on_way c.args.c c.args.d v.items) c.in_default.ensures.unchanged in
    let P : List Piece → Type 0 = λ ps. Takes n c.map.result whole.messages ps in
    subst P (sym same)
    (ends_clean n c.loop-piece.reader.held (on_way c.args.c c.args.d c.loop-piece.pieces.items) whole.messages c.map.result some (c.loop-piece.invariant.reads n some whole).0 c.in_default.ensures.none
    (λ none. none_mapped c.map.result c.end.result c.map.ensures.variant (no_refusal c.loop-piece.reader.held c.end.result c.end.ensures.short none)))

pub returns-clause-unchanged : goal.returns-clause-unchanged
returns-clause-unchanged c = λ n some whole.
    let at = c.loop-piece.invariant in
    let none =
    none_left n c.loop-piece.reader.held (map bytes_in (on_way c.args.c c.args.d c.loop-piece.pieces.items)) whole.messages some (at.reads n some whole).0 (ap (map bytes_in) c.in_default.ensures.none) in
    where_none c.map.result _ (ap (λ v. v.items) c.in_default.ensures.unchanged ∙ at.untouched n some whole none.0)
