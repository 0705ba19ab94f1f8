-- Why a transaction is open: what it waits for.
use Rattle.std.specs.Prelude.{ℕ, Bool, false, ◌&&◌, not, List, Option, Some, None, is_none, if◌then◌else◌}
use Rattle.dtx_values.specs.Clones.{blocks}
use Rattle.dtx_values.specs.declared.entry.Ask.{Ask}
use Rattle.dtx_values.specs.declared.entry.Ask.TheVariants.{Prepare as AskPrepare, Promote as AskPromote, Single as AskSingle}
use Rattle.dtx_values.specs.declared.entry.Entry.{Entry}
use Rattle.dtx_values.specs.declared.entry.Entry.TheVariants.{Asked, Cloned, Handed}
use Rattle.dtx_values.specs.declared.note.Note.{Note}
use Rattle.dtx_values.specs.declared.note.Note.TheVariants.{Hand, Prepare, Promote, Single}
use Rattle.dtx_values.specs.declared.note.Plan.{Plan}
use Rattle.dtx_values.specs.declared.number.CloneNo.{CloneNo}
use Rattle.dtx_values.specs.declared.number.EnlNo.{EnlNo}
use Rattle.dtx_values.specs.declared.script.Line.{Line}
use Rattle.dtx_model.specs.Caused.{plans_of}
use Rattle.dtx_model.specs.Entries.{is_any_owner, is_commit, is_promote_reply_of, is_request_of, is_vote}
use Rattle.dtx_model.specs.History.{is_still_lost}
use Rattle.dtx_model.specs.Outcome.{is_complete}
use Rattle.dtx_model.specs.Plans.{planned}
use Rattle.dtx_model.specs.Words.{has}
use Rattle.outcome_reasons.specs.declared.said.OpenReason.{OpenReason}
use Rattle.outcome_reasons.specs.declared.said.OpenReason.TheVariants.{NotAsked, OpenClone, Silent, Unsettled}
use Rattle.outcome_reasons.specs.First.{first_of, when}
use Rattle.outcome_reasons.specs.Moments.{number_at}

-- a blocking clone that isn't complete in h
abbrev pub blocking : List Entry → Entry → Option CloneNo
blocking h (Cloned c k) = when (blocks k && not (is_complete h (c, k))) c
blocking h _ = None

-- this enlistment's answer to the note
abbrev pub is_answer : ℕ → Note → Entry → Bool
is_answer e Prepare x = is_vote e x
is_answer e Promote x = is_promote_reply_of e x
is_answer e Single x = is_request_of e x
is_answer e Hand x = is_any_owner e x
is_answer e _ x = false

-- this enlistment stays silent to the note: it isn't lost, its plan has no reply to it, and h has none
abbrev pub is_silent_to : (ℕ → Plan) → List Entry → EnlNo → Note → Bool
is_silent_to p h e n = not (is_still_lost e.value h) && is_none (planned (p e.value) n) && not (has (is_answer e.value n) h)

-- the note that an ask is
abbrev pub note_of : Ask → Note
note_of AskPrepare = Prepare
note_of AskPromote = Promote
note_of AskSingle = Single

-- the enlistment to which the entry gives a note, and the note
abbrev pub given_note : Entry → Option (EnlNo × Note)
given_note (Asked e a) = Some (e, note_of a)
given_note (Handed e) = Some (e, Hand)
given_note _ = None

abbrev pub unanswered_by : (ℕ → Plan) → List Entry → Option (EnlNo × Note) → Option (EnlNo × Note)
unanswered_by p h (Some x) = when (is_silent_to p h x.0 x.1) x
unanswered_by p h None = None

-- the entry gives an enlistment a note to which it stays silent
abbrev pub unanswered : (ℕ → Plan) → List Entry → Entry → Option (EnlNo × Note)
unanswered p h x = unanswered_by p h (given_note x)

abbrev pub silent_by : List ℕ → Option (ℕ × (EnlNo × Note)) → OpenReason
silent_by ns (Some x) = Silent x.1.0 x.1.1 (number_at x.0 ns)
silent_by ns None = Unsettled

abbrev pub open_by : List ℕ → Option (ℕ × CloneNo) → Option (ℕ × (EnlNo × Note)) → OpenReason
open_by ns (Some x) silent = OpenClone x.1
open_by ns None silent = silent_by ns silent

-- why the transaction of this history is open: nobody asked for the commit; else a blocking clone isn't complete; else an enlistment stays silent
abbrev pub open_reason : List Line → List ℕ → List Entry → OpenReason
open_reason s ns h = if has is_commit h then open_by ns (first_of (λ past x. blocking h x) h) (first_of (λ past x. unanswered (plans_of s) h x) h) else NotAsked
