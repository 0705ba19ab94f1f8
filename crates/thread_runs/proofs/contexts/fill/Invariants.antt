use Rattle.std.proofs.Common.{◌≡◌, map, take}
use Rattle.dtx_model.specs.Words.{past_of}
use Rattle.script_calls.specs.Scoped.{AreOpen}
use Rattle.thread_runs.specs.Contexts.{AreWritten}
use Rattle.thread_runs.proofs.contexts.fill.Given as goal

abbrev pub invariant-loop-l : goal.invariant-loop-l
invariant-loop-l l = record {
  count : l.n ≡ l.l-index;
  open_at : AreOpen l.contexts (past_of (take l.l-index l.fn.plans));
  written : AreWritten (past_of (take l.l-index l.fn.plans)) (map (λ h. h.items) l.written);
}
