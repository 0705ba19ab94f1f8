-- Which votes are refused, each exactly where.
use Rattle.std.specs.Prelude.{not, List, Option, Some, None, if◌then◌else◌}
use Rattle.dtx_values.specs.declared.number.EnlNo.{EnlNo}
use Rattle.dtx_values.specs.declared.row.Row.{Row}
use Rattle.dtx_values.specs.Table.{voted, was_asked}
use Rattle.volatile_enlist.specs.declared.refusal.VoteRefusal.{VoteRefusal}
use Rattle.volatile_enlist.specs.declared.refusal.VoteRefusal.TheVariants.{NotAsked, AlreadyVoted}

-- the first cause for which a vote isn't taken; none where it is
abbrev pub vote_refusal : EnlNo → List Row → Option VoteRefusal
vote_refusal e xs =
    if not (was_asked e.value xs) then Some (NotAsked e) else if voted e.value xs then Some (AlreadyVoted e) else None
