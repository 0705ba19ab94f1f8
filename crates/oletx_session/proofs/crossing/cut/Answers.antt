use Rattle.std.proofs.Common.{◌≤◌, List, ℕ, map, take, ap, sym, subst, ◌∙◌}
use Rattle.std.specs.List.{flat_map}
use Rattle.std.proofs.lemmas.List.{take-map}
use Rattle.oletx_session.specs.declared.piece.Piece.{Piece}
use Rattle.oletx_session.specs.Crossing.{AreCutUp, Begins, pieces_of}
use Rattle.oletx_session.specs.Queues.{bytes_in, on_way}
use Rattle.oletx_session.proofs.Counting.{first_pieces}
use Rattle.oletx_session.proofs.crossing.cut.Goals as goal

pub returns-clause-kept : goal.returns-clause-kept
returns-clause-kept c = λ n some whole.
    let P : List Piece → Type 0 = λ xs. (k : ℕ) → 1 ≤ k → (w : AreCutUp k (on_way c.args.c c.args.d xs)) → Begins k c.args.keep w.messages c.count_frames-frames.result in
    let begins = subst P c.deref.ensures.value c.count_frames-frames.ensures n some whole in
    let lane = on_way c.args.c c.args.d c.args.pieces.now.items in
    ap (map bytes_in) c.keep_first.ensures.kept ∙ sym (take-map bytes_in c.count_frames-frames.result.1 lane) ∙ ap (take c.count_frames-frames.result.1) whole.pieces
    ∙ ap (λ k. take k (flat_map (pieces_of n) whole.messages)) begins.pieces ∙ first_pieces n c.args.keep whole.messages

pub returns-clause-count : goal.returns-clause-count
returns-clause-count c = λ n some whole.
    let P : List Piece → Type 0 = λ xs. (k : ℕ) → 1 ≤ k → (w : AreCutUp k (on_way c.args.c c.args.d xs)) → Begins k c.args.keep w.messages c.count_frames-frames.result in
    (subst P c.deref.ensures.value c.count_frames-frames.ensures n some whole).frames
