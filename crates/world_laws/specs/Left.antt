-- How many steps of a transaction can still come: each pending step makes it less.
use Rattle.std.specs.Prelude.{ℕ, zero, suc, ◌+◌, ◌*◌, Bool, true, false, not, List, [], ◌∷◌, length, is_some, if◌then◌else◌}
use Rattle.dtx_values.specs.declared.entry.Entry.{Entry}
use Rattle.dtx_values.specs.declared.entry.Entry.TheVariants.{Sent}
use Rattle.dtx_values.specs.declared.message.Conn.{Conn}
use Rattle.dtx_values.specs.declared.message.Dir.{Dir}
use Rattle.dtx_values.specs.declared.message.Dir.TheVariants.{Up, Down}
use Rattle.dtx_values.specs.declared.message.Message.{Message}
use Rattle.dtx_values.specs.declared.message.Message.TheVariants.{BeginBegin, BeginBegun, VoterVoter, VoterCreated, EnlistEnlist, EnlistCommit, ReenlistReenlist, ReenlistCommitted}
use Rattle.dtx_values.specs.declared.row.Row.{Row}
use Rattle.dtx_values.specs.Lines.{is_opening}
use Rattle.dtx_values.specs.Row.{has_voted, is_marked}
use Rattle.dtx_values.specs.Table.{how_many}
use Rattle.local_half.specs.Half.{owes_ack}
use Rattle.dtx_model.specs.declared.desk.Stage.{Stage}
use Rattle.dtx_model.specs.declared.listener.Listener.{Listener}
use Rattle.dtx_model.specs.Coordinated.{Coordinated, is_given, is_recorded, is_undecided, without}
use Rattle.dtx_model.specs.Entries.{is_commit_got}
use Rattle.dtx_model.specs.Half.{Half}
use Rattle.dtx_model.specs.Observed.{Observed}
use Rattle.dtx_model.specs.Waiting.{is_place}
use Rattle.dtx_model.specs.Wires.{in_transit, is_ended}
use Rattle.dtx_model.specs.World.{World, core, half}

-- tests that tell an item that still has a step from one that hasn't
abbrev pub unmarked : Row → Bool
unmarked x = not (is_marked x)

-- it hasn't voted
abbrev pub unvoted : Row → Bool
unvoted x = not (has_voted x)

-- it wasn't told the outcome
abbrev pub untold : Listener → Bool
untold l = not l.told

-- so much, unless this holds
abbrev pub unless : Bool → ℕ → ℕ
unless true n = 0
unless false n = n

-- the sum over a list
abbrev pub total : {A : Type 0} → (A → ℕ) → List A → ℕ
total f [] = 0
total f (x ∷ xs) = f x + total f xs

-- How many steps a message on the way can bring, its own delivery counted: BEGIN brings BEGUN, this VOTER, this CREATED, and this ENLIST and the end of each
-- connection that is opened; a message down may bring a veto, and a commit its acknowledgement.
abbrev pub weight : Dir → Message → ℕ
weight Up BeginBegin = 20
weight Up (VoterVoter u) = 15
weight Up (EnlistEnlist i) = 10
weight Up (ReenlistReenlist i) = 4
weight Up _ = 1
weight Down (BeginBegun u) = 19
weight Down VoterCreated = 14
weight Down EnlistCommit = 3
weight Down ReenlistCommitted = 3
weight Down _ = 2

-- an end that isn't seen: seen by the local side it may bring a veto
abbrev pub end_weight : Dir → ℕ
end_weight Up = 1
end_weight Down = 2

-- what is on the way in one direction, and the end where it isn't seen
abbrev pub way_left : List Entry → Conn → Dir → ℕ
way_left h c d = total (weight d) (in_transit c d h) + unless (is_ended c d h) (end_weight d)

-- both directions of a connection
abbrev pub wire_left : List Entry → Conn → ℕ
wire_left h c = way_left h c Up + way_left h c Down

-- the connections that were opened, each once
abbrev pub opened_after : Entry → List Conn → List Conn
opened_after (Sent c Up m) cs = if is_opening c m then c ∷ without c cs else cs
opened_after _ cs = cs

-- of a history
abbrev pub opened : List Entry → List Conn
opened [] = []
opened (x ∷ past) = opened_after x (opened past)

-- the connections' part
abbrev pub wires_left : List Entry → ℕ
wires_left h = total (wire_left h) (opened h)

-- The coordinator's part: while nothing is decided the outcome for each of its enlistments and for each that came back, and one for the other two
-- connections, and SINGLE; after SINGLE all but that; for each COMMIT that may come the PREPARE of each enlistment and the voter's; the record's free; and a stop.
abbrev pub outcome_left : Stage → ℕ → ℕ
outcome_left s n = if is_undecided s then 3 * n + 8 else if is_given s then 3 * n + 6 else if is_recorded s then 1 else 0

-- COMMIT is sent twice at most: after the seal, and where it is requested
abbrev pub asks_left : ℕ → ℕ → ℕ
asks_left zero n = n + n
asks_left (suc zero) n = n
asks_left (suc (suc m)) n = 0

-- how many COMMITs the coordinator got
abbrev pub commits : List Entry → ℕ
commits h = how_many is_commit_got h

-- what is left at the coordinator, where so many COMMITs came
abbrev pub core_left : ℕ → Coordinated → ℕ
core_left m k = outcome_left k.stage (length k.desks + length k.waits) + asks_left m (2 * length k.desks + 2) + unless k.stopped 1

-- The part of the calls that wait for a place: the ENLIST of each is sent when the promotion is over, and it becomes a row.
abbrev pub places_left : Bool → ℕ → ℕ
places_left promoted n = if promoted then 4 * n else 17 * n

-- the local side's part: asks, votes, notifications, acknowledgements, and what comes once
abbrev pub local_left : Observed → ℕ
local_left o =
    how_many unmarked o.table + 2 * how_many unvoted o.table + how_many untold o.listeners + 2 * how_many owes_ack o.branches
    + unless o.sealed 2 + unless (is_some o.handed) 1 + unless o.answered 2 + unless (is_some o.decided) 1 + unless (is_some o.told_client) 1
    + unless o.promote_asked 1 + unless o.promote_replied 24 + unless o.single_asked 1 + unless o.requested 2 + unless o.yes 2

-- what is left at the local side and of the calls that wait
abbrev pub half_left : Half → ℕ
half_left h = local_left h.seen + places_left h.seen.promoted (how_many is_place h.waits)

-- at most so many pending steps can still come
unfoldable pub steps_left : World → ℕ
steps_left w = half_left (half w) + core_left (commits w.past) (core w) + wires_left w.past
