-- What becomes of an enlistment at the coordinator.
use Rattle.std.specs.Prelude.{ℕ}
use Rattle.dtx_model.specs.declared.branch.Branch.{Branch}
use Rattle.dtx_model.specs.Observed.{branch_aborted, branch_acked, branch_due, branch_enlisted}
use Rattle.half_parts.specs.declared.branches.BranchChange.{BranchChange}
use Rattle.half_parts.specs.declared.branches.BranchChange.TheVariants.{Enlisted, Aborted, Acked, Due}

-- it is changed so, where it is the enlistment of this number
abbrev pub changed : ℕ → BranchChange → Branch → Branch
changed e Enlisted b = branch_enlisted e b
changed e Aborted b = branch_aborted e b
changed e Acked b = branch_acked e b
changed e (Due c) b = branch_due e c b
