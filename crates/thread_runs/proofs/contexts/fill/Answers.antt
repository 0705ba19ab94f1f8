use Rattle.std.proofs.Common.{◌≡◌, ◌+◌, ◌<◌, List, ap, arith, drop, get_or, length, map, subst, sym, take, ◌∙◌}
use Rattle.dtx_values.specs.declared.script.Line.{Line}
use Rattle.dtx_model.specs.Words.{past_of}
use Rattle.line_reader.proofs.Scripts.{length_script}
use Rattle.script_calls.specs.Scoped.{AreOpen}
use Rattle.script_calls.proofs.Filling.{number_after, split_here}
use Rattle.script_calls.proofs.Openings.{past_next, unopened}
use Rattle.thread_runs.specs.Contexts.{AreWritten}
use Rattle.thread_runs.proofs.contexts.fill.Goals as goal

pub overflow_add-n : goal.overflow_add-n
overflow_add-n c =
    let bytes = length_script c.args.plans.now in
    let within = c.requires.script.within in
    let same = ap length c.lines-l-items.ensures in
    omega (arith, bytes, within, same, c.loop-l.invariant.count, c.loop-l-test.true)

pub at_context-requires-clause-unopened : goal.at_context-requires-clause-unopened
at_context-requires-clause-unopened c =
    let lines = c.lines-l-items.result.now in
    let i = c.loop-l.l-index in
    let l = c.l-item.result in
    let split = sym c.lines-l-items.ensures ∙ split_here lines i l c.loop-l-test.true c.l-item.is in
    unopened c.args.plans.now (take i lines) (drop (i + 1) lines) l c.loop-l.contexts split c.requires.script.named (subst (λ (s : List Line). AreOpen c.loop-l.contexts (past_of (take i s))) (sym c.lines-l-items.ensures) c.loop-l.invariant.open_at)

pub loop-l-preserved : goal.loop-l-preserved
loop-l-preserved c =
    let s = c.args.plans.now in
    let i = c.loop-l.l-index in
    let l = c.l-item.result in
    let less : i < length s = subst (λ (ls : List Line). i < length ls) c.lines-l-items.ensures c.loop-l-test.true in
    let here : l ≡ get_or s i l = c.l-item.is ∙ ap (λ (ls : List Line). get_or ls i l) c.lines-l-items.ensures in
    let before = past_of (take i s) in
    let number : length before + 1 ≡ c.loop-l.n + 1 = let k = number_after s i less in omega (arith, k, c.loop-l.invariant.count) in
    let next = sym (past_next s i l less here) in
    record {
      count = ap (λ n. n + 1) c.loop-l.invariant.count;
      open_at = subst (λ (ls : List Line). AreOpen c.at_context.new.contexts ls) next (c.in_ok-gives.ensures.scopes before c.loop-l.invariant.open_at);
      written = subst (λ (ls : List Line). AreWritten ls (map (λ h. h.items) c.at_context.new.written)) next (c.in_ok-gives.ensures.written before number c.loop-l.invariant.open_at c.loop-l.invariant.written);
    }
