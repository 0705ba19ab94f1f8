use Rattle.std.proofs.Common.{drop}
use Rattle.dtx_model.specs.Words.{all_of}
use Rattle.replay_runs.specs.Objects.{IsTold, answers_by, told_by, volatile_by}
use Rattle.replay_runs.proofs.one.tell_from.Given as goal

-- whatever it is told from here on, with what it was told before, is what it is told from the start
abbrev pub invariant-loop-i : goal.invariant-loop-i
invariant-loop-i g l =
    (to : _) → IsTold g.R.Resource.gives l.t (all_of (told_by (answers_by l.tables.of l.tables.managers.items l.tables.volatiles.items) (volatile_by l.tables.volatiles.items)) (drop l.i l.entries.items)) l.object to
    → IsTold g.R.Resource.gives l.t (all_of (told_by (answers_by l.tables.of l.tables.managers.items l.tables.volatiles.items) (volatile_by l.tables.volatiles.items)) (drop l.fn.from l.entries.items)) l.fn.object to
