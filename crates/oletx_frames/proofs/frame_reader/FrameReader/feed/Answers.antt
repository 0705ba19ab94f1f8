use Rattle.std.proofs.Common.{rules, ◌≡◌, ℕ, List, [], take, ap, sym, subst, ◌∙◌}
use Rattle.oletx_frames.specs.Feeding.{Gives, Reading}
use Rattle.oletx_frames.specs.declared.fed.Fed.TheVariants.{More, Msg, Bad}
use Rattle.oletx_frames.proofs.Streams.{exactly, feeds}
use Rattle.oletx_frames.proofs.frame_reader.FrameReader.feed.Goals as goal

-- a message is there at once where nothing is held
at_once : (c : goal.In-Ok) → Gives c.args.self.now.held c.args.piece.now c.in-Ok.length (Msg c.in-Ok.m)
at_once c =
    let none : c.args.self.now.held ≡ [] = ap (λ (r : Reading). r.held) (sym c.self.view_is) ∙ ap (λ n. take n c.self.inside.bytes) c.if-self-eq0.true in
    subst (λ (held : List ℕ). Gives held c.args.piece.now c.in-Ok.length (Msg c.in-Ok.m)) (sym none) c.in-Ok.ensures.frame

pub returns-clause-message : goal.returns-clause-message
returns-clause-message c = λ going n m. exactly c.args.self.now.held c.args.piece.now (c.in-Ok.length, Msg c.in-Ok.m) (at_once c) n (Msg m)

pub returns-clause-bad : goal.returns-clause-bad
returns-clause-bad c = λ going n e. exactly c.args.self.now.held c.args.piece.now (c.in-Ok.length, Msg c.in-Ok.m) (at_once c) n (Bad e)

pub returns-clause-more : goal.returns-clause-more
returns-clause-more c = λ going n. exactly c.args.self.now.held c.args.piece.now (c.in-Ok.length, Msg c.in-Ok.m) (at_once c) n More

pub returns-clause-feeds : goal.returns-clause-feeds
returns-clause-feeds c =
    feeds c.args.self.now c.args.piece.now (c.in-Ok.length, Msg c.in-Ok.m) _ (ap (λ (r : Reading). r.ended) (sym c.self.view_is) ∙ c.in_default.is) (at_once c) (search rules)

pub returns-2-clause-message : goal.returns-2-clause-message
returns-2-clause-message c = λ going n m. exactly c.args.self.now.held c.args.piece.now c.go_on.result c.go_on.ensures.gives n (Msg m)

pub returns-2-clause-bad : goal.returns-2-clause-bad
returns-2-clause-bad c = λ going n e. exactly c.args.self.now.held c.args.piece.now c.go_on.result c.go_on.ensures.gives n (Bad e)

pub returns-2-clause-more : goal.returns-2-clause-more
returns-2-clause-more c = λ going n. exactly c.args.self.now.held c.args.piece.now c.go_on.result c.go_on.ensures.gives n More

pub returns-2-clause-feeds : goal.returns-2-clause-feeds
returns-2-clause-feeds c =
    feeds c.args.self.now c.args.piece.now c.go_on.result _ (ap (λ (r : Reading). r.ended) (sym c.self.view_is) ∙ c.in_default.is) c.go_on.ensures.gives (search rules)
