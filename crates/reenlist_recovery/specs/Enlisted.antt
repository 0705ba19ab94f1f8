-- What a history says of one enlistment: of its vote, and of it at the coordinator.
use Rattle.std.specs.Prelude.{ℕ, ◌==◌, Bool, false, ◌&&◌, ◌||◌, not, List, find, Option, Some, None, is_some, if◌then◌else◌}
use Rattle.std.specs.Option.{option_map}
use Rattle.dtx_values.specs.declared.entry.Entry.{Entry}
use Rattle.dtx_values.specs.declared.entry.Entry.TheVariants.{Enlisted, Voted, Sent, Got, Told, Acked}
use Rattle.dtx_values.specs.declared.entry.Party.TheVariants.{Enl}
use Rattle.dtx_values.specs.declared.message.Conn.TheVariants.{Enl as OnEnl}
use Rattle.dtx_values.specs.declared.message.Dir.TheVariants.{Up, Down}
use Rattle.dtx_values.specs.declared.message.Message.TheVariants.{EnlistEnlist, EnlistEnlisted}
use Rattle.dtx_values.specs.declared.number.RmNo.{RmNo}
use Rattle.dtx_values.specs.declared.row.Row.{Row}
use Rattle.dtx_values.specs.declared.words.Outcome.TheVariants.{Aborted}
use Rattle.dtx_values.specs.declared.words.Vote.{Vote}
use Rattle.dtx_values.specs.Row.{has_voted, is_of}
use Rattle.dtx_values.specs.Vote.{still_hears}
use Rattle.dtx_model.specs.declared.branch.Branch.{Branch}
use Rattle.dtx_model.specs.Observed.{is_branch, is_done_branch}
use Rattle.dtx_model.specs.Words.{has}
use Rattle.reenlist_recovery.specs.declared.ballot.Ballot.{Ballot}
use Rattle.reenlist_recovery.specs.declared.seat.Seat.{Seat}
use Rattle.dtx_model.specs.World.{is_out_row}

-- no enlistment
abbrev pub no_ballot : Ballot
no_ballot = record { unvoted = false; out = false }

-- who votes so still hears the outcome
abbrev pub still_hears_by : Vote → Bool
still_hears_by v = still_hears (Some v)

-- what the rows say of the enlistment's vote
abbrev pub is_unvoted : ℕ → Row → Bool
is_unvoted e x = is_of e x && not (has_voted x)

abbrev pub ballot_of : ℕ → List Row → Ballot
ballot_of e xs = record { unvoted = has (is_unvoted e) xs; out = has (is_out_row e) xs }

-- it is made, where the entry is of it
abbrev pub made_if : Bool → Ballot → Ballot
made_if is_its b = record { unvoted = is_its || b.unvoted; out = b.out }

-- it votes so, where the entry is of it; a vote that is there stays
abbrev pub voted_if : Bool → Vote → Ballot → Ballot
voted_if is_its v b = record { unvoted = not is_its && b.unvoted; out = b.out || ((is_its && not (still_hears_by v)) && b.unvoted) }

-- what becomes of it by an entry
abbrev pub ballot_after : ℕ → Entry → Ballot → Ballot
ballot_after e (Enlisted f c) b = made_if (e == f.value) b
ballot_after e (Voted f v) b = voted_if (e == f.value) v b
ballot_after e _ b = b

-- no ENLIST was sent
abbrev pub no_seat : Seat
no_seat = record { manager = None; enlisted = false; told = false }

abbrev pub is_accepted : Option Branch → Bool
is_accepted (Some b) = b.enlisted
is_accepted None = false

-- what the branches say of the enlistment: its manager, whether it was accepted, and whether it was told the abort or acknowledged
abbrev pub seat_of : ℕ → List Branch → Seat
seat_of e bs = record { manager = option_map (λ b. b.manager) (find (is_branch e) bs); enlisted = is_accepted (find (is_branch e) bs); told = has (is_done_branch e) bs }

-- its ENLIST is sent by this manager, where the entry is of it
abbrev pub sent_if : Bool → RmNo → Seat → Seat
sent_if is_its r s = if is_its then record { manager = Some r; enlisted = false; told = false } else s

-- its ENLISTED is got, where the entry is of it
abbrev pub accepted_if : Bool → Seat → Seat
accepted_if is_its s = record { manager = s.manager; enlisted = s.enlisted || (is_its && is_some s.manager); told = s.told }

-- it is told the abort or acknowledges, where the entry is of it
abbrev pub told_if : Bool → Seat → Seat
told_if is_its s = record { manager = s.manager; enlisted = s.enlisted; told = s.told || (is_its && is_some s.manager) }

-- what becomes of it by an entry
abbrev pub seat_after : ℕ → Entry → Seat → Seat
seat_after e (Sent (OnEnl f) Up (EnlistEnlist i)) s = sent_if (e == f.value) i.rm s
seat_after e (Got (OnEnl f) Down EnlistEnlisted) s = accepted_if (e == f.value) s
seat_after e (Told (Enl f) Aborted) s = told_if (e == f.value) s
seat_after e (Acked f) s = told_if (e == f.value) s
seat_after e _ s = s
