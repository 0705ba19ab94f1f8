-- What the coordinator keeps of one transaction, what a message makes of it, and for how much there is room.
use Rattle.std.specs.Prelude.{ℕ, ◌+◌, ◌≤◌, Bool, true, false, ◌&&◌, not, List, [], ◌∷◌, ◌++◌, filter, map, length, Some, if◌then◌else◌}
use Rattle.dtx_values.specs.declared.entry.Entry.{Entry}
use Rattle.dtx_values.specs.TxIds.{number_of}
use Rattle.dtx_values.specs.declared.entry.Entry.TheVariants.{Got}
use Rattle.dtx_values.specs.declared.limits.TheConstants.{CONNECTIONS, DURABLES}
use Rattle.dtx_values.specs.declared.message.Conn.{Conn}
use Rattle.dtx_values.specs.declared.message.Conn.TheVariants.{Again, Begin, Enl, Voter}
use Rattle.dtx_values.specs.declared.message.Dir.TheVariants.{Up}
use Rattle.dtx_values.specs.declared.message.Message.{Message}
use Rattle.dtx_values.specs.declared.message.Message.TheVariants.{EnlistSingle, ReenlistAborted, ReenlistCommitted, VoterAsk}
use Rattle.dtx_values.specs.declared.number.EnlNo.{EnlNo}
use Rattle.dtx_values.specs.declared.tx_id.TxId.{TxId}
use Rattle.dtx_values.specs.Ends.{order_of, same_connection}
use Rattle.dtx_values.specs.Table.{enl_number, insert_by}
use Rattle.dtx_values.specs.Outgoing.{Outgoing}
use Rattle.dtx_model.specs.declared.desk.Ballot.{Ballot}
use Rattle.dtx_model.specs.declared.desk.Stage.{Stage}
use Rattle.dtx_model.specs.declared.desk.Stage.TheVariants.{Answered}
use Rattle.dtx_model.specs.Words.{has}
use Rattle.dtx_model.specs.Promotes.{identifier_of}
use Rattle.dtx_model.specs.Coordinated.{Coordinated, abort_if, abort_sends, but, core_got, decides, doubt_sends, follow_all, has_aborted, is_active, is_recorded, is_sole, is_undecided, stage_if, to, to_each, with_ballot, without}

-- the transaction, and what the coordinator knows of it
pub record Kept : Type 0 where
  pub transaction : TxId
  pub state : Coordinated

-- what it writes after a message
abbrev pub answers : Kept → Conn → Message → List Entry
answers k c m = core_got (identifier_of (number_of k.transaction)) k.state c m

-- what is kept after a message and what it writes then
abbrev pub after_got : Kept → Conn → Message → Kept
after_got k c m = record { transaction = k.transaction; state = follow_all k.state (Got c Up m ∷ answers k c m) }

-- with this connection known
abbrev pub opened : Conn → Coordinated → Coordinated
opened c k =
    record { stage = k.stage; commit = k.commit; yes = k.yes; no = k.no; desks = k.desks; known = insert_by order_of c (without c k.known); waits = k.waits; recovered = k.recovered; stopped = k.stopped }

-- with this enlistment back: its connection is known, and it waits
abbrev pub came_back : EnlNo → Coordinated → Coordinated
came_back e k =
    record { stage = k.stage; commit = k.commit; yes = k.yes; no = k.no; desks = k.desks; known = insert_by order_of (Again e) (without (Again e) k.known); waits = insert_by enl_number e (but e.value k.waits); recovered = k.recovered; stopped = k.stopped }

-- what one that came back hears at once: the outcome, where there is one
abbrev pub outcome_for : EnlNo → Coordinated → List Entry
outcome_for e k = if is_recorded k.stage then to k (Again e) ReenlistCommitted else if has_aborted k.stage then to k (Again e) ReenlistAborted else []

-- aborted, where the test holds and nothing is decided
abbrev pub aborted_if : Bool → Coordinated → Coordinated
aborted_if b k = record { stage = abort_if b k.stage; commit = k.commit; yes = k.yes; no = k.no; desks = k.desks; known = k.known; waits = k.waits; recovered = k.recovered; stopped = k.stopped }

-- what it writes then
abbrev pub abort_block : Bool → Coordinated → List Entry
abort_block b k = if b && is_undecided k.stage then abort_sends k else []

-- with this stage, where the test holds
abbrev pub staged_if : Bool → Stage → Coordinated → Coordinated
staged_if b s k = record { stage = stage_if b s k.stage; commit = k.commit; yes = k.yes; no = k.no; desks = k.desks; known = k.known; waits = k.waits; recovered = k.recovered; stopped = k.stopped }

-- the abort that is told, where the test holds
abbrev pub off_block : Bool → Coordinated → List Entry
off_block b k = if b then abort_sends k else []

-- what is written after COMMIT for a single phase, where that is accepted: with one enlistment the voter is asked, else each is told of the abort
abbrev pub sole_block : Bool → Bool → Coordinated → List Entry
sole_block accepted one k = if not accepted then [] else if one then to k Voter VoterAsk else abort_sends k

-- what is written after the voter's YES: SINGLE to the one enlistment, where COMMIT for a single phase was got
abbrev pub single_sends : Coordinated → List Entry
single_sends k = if is_sole k.stage then to_each k EnlistSingle k.desks else []

-- what b and v are told, where the test holds
abbrev pub both_told : Bool → Message → Message → Coordinated → List Entry
both_told b x y k = if b then to k Begin x ++ to k Voter y else []

-- this connection is of the enlistment that decides
abbrev pub is_deciding : Coordinated → Conn → Bool
is_deciding k (Enl e) = decides k e.value
is_deciding k _ = false

-- what the end of a connection leads to: the doubt, where it was that of the one that decides, else an abort, where it came early
abbrev pub after_loss : Bool → Bool → Coordinated → Coordinated
after_loss doubt early k = if doubt then staged_if true Answered k else follow_all (aborted_if early k) (abort_block early k)

abbrev pub loss_block : Bool → Bool → Coordinated → List Entry
loss_block doubt early k = if doubt then doubt_sends k else abort_block early k

-- with this vote of an enlistment, which counts while it is active
abbrev pub voted : ℕ → Ballot → Coordinated → Coordinated
voted e b k =
    record { stage = k.stage; commit = k.commit; yes = k.yes; no = k.no; desks = if is_active k.stage then map (with_ballot e (Some b)) k.desks else k.desks; known = k.known; waits = k.waits; recovered = k.recovered; stopped = k.stopped }

-- those of these who came back whose connection isn't known
abbrev pub unreached : List Conn → List EnlNo → List EnlNo
unreached known es = filter (λ e. not (has (same_connection (Again e)) known)) es

-- it fits: at most 16 enlistments, 34 known connections, and 16 that came back and wait
pub record IsFew (k : Coordinated) : Type 0 where
  pub desks : length k.desks ≤ DURABLES
  pub known : length k.known ≤ CONNECTIONS
  pub waits : length k.waits ≤ DURABLES

-- there is room for so many more entries and messages
pub record HasRoomFor (n : ℕ) (o : Outgoing) : Type 0 where
  pub entries : n ≤ o.room
  pub sends : n ≤ o.send_room

-- there is room for what one call writes: at most 40 entries, and as many messages
abbrev pub HasRoom : Outgoing → Type 0
HasRoom o = HasRoomFor 40 o

-- no more than so much of the room was used
pub record Uses (n : ℕ) (old new : Outgoing) : Type 0 where
  pub entries : old.room ≤ new.room + n
  pub sends : old.send_room ≤ new.send_room + n
