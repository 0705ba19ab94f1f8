use Rattle.std.proofs.Common.{◌≡◌, ◌++◌, List, ap, drop, sym, ◌∙◌, ℕ}
use Rattle.dtx_values.specs.declared.entry.Entry.{Entry}
use Rattle.dtx_model.specs.Traces.{Placed, placed}
use Rattle.replay_runs.proofs.Noting.{written_after}
use Rattle.replay_runs.proofs.replay.note.Goals as goal

pub returns : goal.returns
returns c = λ past es long wrote.
    let xs : List Entry = c.history-history.result.now.items in
    let entries : drop c.args.from xs ≡ es = ap (λ (n : ℕ). drop n xs) (sym long) ∙ written_after xs past es (c.history-history.ensures ∙ wrote) in
    c.push_from.ensures.items
    ∙ (ap (λ (T : List Placed). T ++ placed c.args.t (drop c.args.from xs)) c.reserve.ensures.items ∙ ap (λ (ys : List Entry). c.args.trace.now.items ++ placed c.args.t ys) entries)
