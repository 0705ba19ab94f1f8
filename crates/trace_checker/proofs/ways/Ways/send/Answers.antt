use Rattle.std.proofs.Common.{[], ◌∷◌, ◌++◌, refl, ap, sym, ◌∙◌}
use Rattle.trace_checker.specs.Ways.{is_end_on, is_way_ended, messages, messages_on}
use Rattle.trace_checker.proofs.Placing.{after_same, change, row_is}
use Rattle.trace_checker.proofs.ways.Ways.send.Goals as goal

pub returns : goal.returns
returns c =
    let k = c.args.k in let m = c.args.m.now in let ws = c.args.self.now in let y = c.index_mut-way.result.now in let mid = c.reach.new.self in
    let at = c.in_ok-p.ensures.there in let same = c.in_ok-p.ensures.same in
    let is = row_is k c.in_ok-p.p mid y at c.index_mut-way.ensures.value in
    after_same k (messages k ws ++ m ∷ []) (is_way_ended k ws) ws mid _ same
    (change k c.in_ok-p.p mid _ y (record y { messages = c.push_back.new.self }) (messages k ws ++ m ∷ []) (is_way_ended k ws) at c.index_mut-way.ensures.value refl refl refl
    (c.in_ok-push_back.ensures.items ∙ ap (λ ms. ms ++ m ∷ []) (sym (ap messages_on is) ∙ same.messages k)) (sym (ap is_end_on is) ∙ same.ended k))
