use Rattle.std.proofs.Common.{false, [], ◌∷◌, ◌++◌, refl, ap, ◌∙◌}
use Rattle.trace_checker.proofs.Placing.{after_same, change}
use Rattle.trace_checker.proofs.ways.Ways.open_with.Goals as goal

pub returns : goal.returns
returns c =
    let k = c.args.k in let m = c.args.m.now in let y = c.index_mut-way.result.now in let mid = c.reach.new.self in
    after_same k (m ∷ []) false c.args.self.now mid _ c.in_ok-p.ensures.same
    (change k c.in_ok-p.p mid _ y (record y { messages = c.push_back_reserved.new.self; ended = false }) (m ∷ []) false c.in_ok-p.ensures.there c.index_mut-way.ensures.value refl refl refl
    (c.push_back_reserved.ensures.items ∙ ap (λ ms. ms ++ m ∷ []) (c.in_ok-reserve.ensures.items ∙ c.clear.ensures.items)) refl)
