use Rattle.std.proofs.Common.{◌==◌, cond, true, refl, ap, ◌∙◌}
use Rattle.trace_checker.specs.Ways.{place_of}
use Rattle.trace_checker.proofs.Placing.{more_place, more_same}
use Rattle.trace_checker.proofs.ways.Ways.make.Goals as goal

pub returns-clause-there : goal.returns-clause-there
returns-clause-there c =
    let k = c.args.k in let ws = c.args.self.now in let p = c.len-p.result in
    more_place k p ws _ (record { number = k; messages = c.in_ok-messages.messages; ended = true }) refl (c.len-p.ensures ∙ ws.rows.ok.0)
    (λ q. c.in_ok-put_at.ensures.put q ∙ ap (λ n. cond (q == k) n (place_of q ws)) c.in-Ok.ensures.1) c.in_ok-push.ensures.items

pub returns-clause-same : goal.returns-clause-same
returns-clause-same c =
    let k = c.args.k in let ws = c.args.self.now in let p = c.len-p.result in
    more_same k p ws _ (record { number = k; messages = c.in_ok-messages.messages; ended = true }) refl (c.len-p.ensures ∙ ws.rows.ok.0)
    (λ q. c.in_ok-put_at.ensures.put q ∙ ap (λ n. cond (q == k) n (place_of q ws)) c.in-Ok.ensures.1) c.in_ok-push.ensures.items
    c.requires c.in_ok-messages.ensures.items refl
