-- What each entry is drawn as.
use Rattle.std.specs.Prelude.{ℕ, ◌==◌, Bool, true, false, List, Option, Some, None, length}
use Rattle.dtx_values.specs.declared.entry.Answer.{Answer}
use Rattle.dtx_values.specs.declared.entry.Entry.{Entry}
use Rattle.dtx_values.specs.declared.entry.Entry.TheVariants.{Acked, Asked, Called, Cut as WasCut, Decided, Down as HasEnded, Freed, Got, Handed, Init, Logged, OwnerAnswered, PromoteReply, Requested, Restarted, Sent, Stopped, Told, Voted}
use Rattle.dtx_values.specs.declared.entry.Request.{Request}
use Rattle.dtx_values.specs.declared.entry.Request.TheVariants.{Abort as AbortRequest, Commit as CommitRequest}
use Rattle.dtx_values.specs.declared.message.Conn.{Conn}
use Rattle.dtx_values.specs.declared.message.Dir.{Dir}
use Rattle.dtx_values.specs.declared.message.Message.{Message}
use Rattle.dtx_values.specs.declared.number.ActorNo.{ActorNo}
use Rattle.dtx_values.specs.declared.number.EnlNo.{EnlNo}
use Rattle.dtx_values.specs.declared.script.Line.{Line}
use Rattle.dtx_values.specs.declared.words.Outcome.{Outcome}
use Rattle.dtx_values.specs.declared.words.Outcome.TheVariants.{Aborted, Committed}
use Rattle.dtx_values.specs.declared.words.Vote.{Vote}
use Rattle.dtx_values.specs.declared.words.Vote.TheVariants.{Done, No, Yes}
use Rattle.dtx_model.specs.Words.{has, kth}
use Rattle.trace_picture.specs.Crossings.{origin_in}
use Rattle.trace_picture.specs.Parties.{getter, is_event, line_is, party_lane, sender}
use Rattle.trace_picture.specs.declared.lanes.Lane.{Lane}
use Rattle.trace_picture.specs.declared.lanes.Lane.TheVariants.{Client, Coordinator, Enlistment, Local, Log}
use Rattle.trace_picture.specs.declared.lanes.Spot.{Spot}
use Rattle.trace_picture.specs.declared.marks.Label.TheVariants.{Call, Entry as Whole, Message as Text}
use Rattle.trace_picture.specs.declared.marks.Mark.{Mark}
use Rattle.trace_picture.specs.declared.marks.Mark.TheVariants.{Arrow, Cut, Decision, End, Event, Lost, Note, Still}

abbrev pub spot : Lane → ℕ → Spot
spot l r = record { lane = l; row = r }

-- the outcome that a reply speaks for
abbrev pub vote_tone : Vote → Option Outcome
vote_tone Yes = Some Committed
vote_tone Done = Some Committed
vote_tone No = Some Aborted

abbrev pub reply_tone : Bool → Option Outcome
reply_tone true = Some Committed
reply_tone false = Some Aborted

abbrev pub request_tone : Request → Option Outcome
request_tone CommitRequest = Some Committed
request_tone AbortRequest = Some Aborted

-- an arrow in row r, from lane to lane, which has the entry's words
abbrev pub across : ℕ → Lane → Lane → Option Outcome → Entry → Option Mark
across r a b o x = Some (Arrow (spot a r) (spot b r) o (Whole x))

abbrev pub to_enlistment : ℕ → EnlNo → Entry → Option Mark
to_enlistment r e x = across r Local (Enlistment e) None x

abbrev pub from_enlistment : ℕ → EnlNo → Option Outcome → Entry → Option Mark
from_enlistment r e o x = across r (Enlistment e) Local o x

-- a call is an arrow to the local side; what happens around the client is a note
abbrev pub call_mark : Bool → ℕ → ℕ → ActorNo → Answer → Mark
call_mark true r n a x = Event (spot (Client a) r) (Call n x)
call_mark false r n a x = Arrow (spot (Client a) r) (spot Local r) None (Call n x)

abbrev pub row_or : ℕ → Option ℕ → ℕ
row_or r (Some i) = i
row_or r None = r

-- what is got is an arrow from the row in which it was sent
abbrev pub got_mark : ℕ → Conn → Dir → Message → Option ℕ → Mark
got_mark r c d m o = Arrow (spot (sender d) (row_or r o)) (spot (getter d) r) None (Text c m)

-- what is sent and never comes ends half-way
abbrev pub sent_mark : Bool → ℕ → Conn → Dir → Message → Option Mark
sent_mark true r c d m = None
sent_mark false r c d m = Some (Lost (spot (sender d) r) (Text c m))

-- what an entry is drawn as after these rows that is neither a call nor a message
abbrev pub plain_mark : List Line → List Entry → Entry → Option Mark
plain_mark s past (Init e) = to_enlistment (length past) e (Init e)
plain_mark s past (Asked e a) = to_enlistment (length past) e (Asked e a)
plain_mark s past (Handed e) = to_enlistment (length past) e (Handed e)
plain_mark s past (Told p o) = across (length past) Local (party_lane s past p) (Some o) (Told p o)
plain_mark s past (Voted e v) = from_enlistment (length past) e (vote_tone v) (Voted e v)
plain_mark s past (OwnerAnswered e o) = from_enlistment (length past) e (Some o) (OwnerAnswered e o)
plain_mark s past (PromoteReply e ok) = from_enlistment (length past) e (reply_tone ok) (PromoteReply e ok)
plain_mark s past (Requested e r) = from_enlistment (length past) e (request_tone r) (Requested e r)
plain_mark s past (Acked e) = from_enlistment (length past) e None (Acked e)
plain_mark s past Logged = across (length past) Coordinator Log None Logged
plain_mark s past Freed = across (length past) Coordinator Log None Freed
plain_mark s past (WasCut c u w) = Some (Cut (length past) (Whole (WasCut c u w)))
plain_mark s past (HasEnded c d) = Some (End (spot (getter d) (length past)) (Whole (HasEnded c d)))
plain_mark s past Stopped = Some (Still (length past) (Whole Stopped))
plain_mark s past (Restarted found) = Some (Still (length past) (Whole (Restarted found)))
plain_mark s past (Decided o) = Some (Decision (length past) o (Whole (Decided o)))
plain_mark s past x = Some (Note (length past) (Whole x))

-- what the entry is drawn as that comes after these rows, where these are the rows of what came
abbrev pub mark : List Line → List ℕ → List Entry → Entry → Option Mark
mark s came past (Called n a x) = Some (call_mark (line_is is_event (kth s n)) (length past) n a x)
mark s came past (Sent c d m) = sent_mark (has (λ i. length past == i) came) (length past) c d m
mark s came past (Got c d m) = Some (got_mark (length past) c d m (origin_in past (Got c d m)))
mark s came past x = plain_mark s past x
