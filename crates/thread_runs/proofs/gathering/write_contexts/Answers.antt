use Rattle.std.proofs.Common.{rules, ◌≡◌, ◌+◌, map, refl}
use Rattle.thread_runs.proofs.Writing.{up_to_more}
use Rattle.thread_runs.proofs.gathering.write_contexts.Goals as goal

pub loop-n-preserved : goal.loop-n-preserved
loop-n-preserved c =
    let at : c.unwrap-actor.result.value ≡ c.loop-n.n = search rules in
    up_to_more c.loop-n.n (c.loop-n.n + 1) (map (λ e. e.items) c.args.contexts.now) c.loop-n.trace.items c.write_context.new.trace.items c.unwrap-actor.result at refl c.in_ok-write_context.ensures c.loop-n.invariant
