-- What the steps of a transaction come to while nothing is promoted, by what its local side has seen. proofs/Narrowing has that the definitions say the same there.
use Rattle.std.specs.Prelude.{ℕ, nat_le, Bool, true, false, ◌&&◌, ◌||◌, not, List, [], ◌∷◌, length, find, Option, Some, None, is_some, if◌then◌else◌}
use Rattle.dtx_values.specs.declared.limits.TheConstants.{DURABLES, ENLISTMENTS}
use Rattle.dtx_values.specs.declared.number.EnlNo.{EnlNo}
use Rattle.dtx_values.specs.declared.call.Call.{Call}
use Rattle.dtx_values.specs.declared.call.Call.TheVariants.{Begin, Volatile, Durable, Promotable, Clone, Complete, Commit, Rollback, Marshal, Status, Await, Tick, Do, Lose, Gone, Reenlist, Recovered}
use Rattle.dtx_values.specs.declared.entry.Answer.{Answer}
use Rattle.dtx_values.specs.declared.entry.Answer.TheVariants.{Fine, True, False, Wait, Did, NoSuch, TooLate, Many}
use Rattle.dtx_values.specs.declared.entry.Ask.TheVariants.{Prepare}
use Rattle.dtx_values.specs.declared.entry.Entry.{Entry}
use Rattle.dtx_values.specs.declared.entry.Entry.TheVariants.{Called, Began, Cloned, Completed, Enlisted, CommitAsked, RollbackAsked, Clock, TimedOut, Late, Asked, Voted, Sealed, Handed, OwnerAnswered, Decided, Init, Lost}
use Rattle.dtx_values.specs.declared.note.Reply.{Reply}
use Rattle.dtx_values.specs.declared.note.Reply.TheVariants.{Vote as VoteReply, Owner as OwnerReply}
use Rattle.dtx_values.specs.declared.note.Note.{Note}
use Rattle.dtx_values.specs.declared.note.Note.TheVariants.{Prepare as PrepareNote, Hand as HandNote}
use Rattle.dtx_values.specs.declared.words.Class.TheVariants.{DurableSingle, Promotable as PromotableClass}
use Rattle.dtx_values.specs.declared.words.Outcome.{Outcome}
use Rattle.dtx_values.specs.declared.words.Outcome.TheVariants.{Committed, Aborted}
use Rattle.dtx_values.specs.declared.row.Row.{Row}
use Rattle.dtx_values.specs.Table.{how_many, voted}
use Rattle.dtx_values.specs.Clones.{is_clone, is_complete_clone, is_open_rollback}
use Rattle.dtx_values.specs.Row.{is_lasting, has_voted, is_marked, is_of}
use Rattle.dtx_values.specs.Owners.{cause_of, may_own, owner_of, is_evident}
use Rattle.dtx_values.specs.Waves.{hears, is_over, next_ask, all_voted}
use Rattle.dtx_values.specs.Vote.{is_no}
use Rattle.dtx_values.specs.Support.{is_single}
use Rattle.dtx_model.specs.declared.listener.Listener.{Listener}
use Rattle.dtx_model.specs.Words.{has}
use Rattle.dtx_model.specs.Observed.{Observed}
use Rattle.dtx_model.specs.Half.{stands, is_gone, is_handed, is_aborted}
use Rattle.dtx_model.specs.Acts.{lasts, tell}
use Rattle.dtx_model.specs.Answers.{limit_of, class_of, if_begun, unless_over, wait_for, clone_answer, complete_answer, unless_late, gone_answer, status_answer, await_answer}
use Rattle.dtx_model.specs.Facts.{ticked, reaches, facts_if, is_done, lost_outcome}
use Rattle.dtx_model.specs.Steps.{Step, Calls, Replies, Acts}

abbrev pub volatile_answer : Bool → List Row → Answer
volatile_answer sealed xs = if sealed then TooLate else if nat_le ENLISTMENTS (length xs) then Many ENLISTMENTS else Fine

abbrev pub durable_answer : Bool → Bool → List Row → Answer
durable_answer sealed single xs =
    if sealed then TooLate else if nat_le ENLISTMENTS (length xs) then Many ENLISTMENTS else if nat_le DURABLES (how_many is_lasting xs) then Many DURABLES
    else wait_for (cause_of xs single)

abbrev pub promotable_answer : Bool → List Row → Answer
promotable_answer sealed xs = if sealed then TooLate else if not (may_own xs false) then False else if nat_le ENLISTMENTS (length xs) then Many ENLISTMENTS else True

-- the answer of a call for which so many steps were done
unfoldable pub answer : Observed → Call → ℕ → Answer
answer o (Volatile t e x v) m = unless_over o (volatile_answer o.sealed o.table)
answer o (Durable t e r x) m = unless_over o (durable_answer o.sealed (is_single x) o.table)
answer o (Promotable t e r v x p) m = unless_over o (promotable_answer o.sealed o.table)
answer o (Clone t c k) m = unless_over o (clone_answer o.commit (length o.clones))
answer o (Complete c) m = unless_over o (complete_answer (has (is_clone c.value) o.clones) (has (is_complete_clone c.value) o.clones))
answer o (Commit t) m = unless_over o (unless_late o.commit)
answer o (Rollback t) m = unless_over o (unless_late o.sealed)
answer o (Status t) m = if_begun o.limit (status_answer o.decided)
answer o (Await t) m = if_begun o.limit (await_answer o.told_client)
answer o (Tick t n) m = if_begun o.limit Fine
answer o (Do t k n) m = if_begun o.limit (Did m)
answer o (Gone e) m = if_begun o.limit (gone_answer (stands o e.value) (is_gone o e.value))
answer o (Marshal t) m = unless_over o (if o.sealed then TooLate else Wait)
answer o (Lose t c u w) m = if_begun o.limit NoSuch
answer o (Reenlist e) m = if_begun o.limit NoSuch
answer o (Recovered t r) m = if_begun o.limit NoSuch
answer o (Begin t d) m = Fine

-- a veto decides that it is aborted, in the same step
abbrev pub veto : List Entry
veto = Decided Aborted ∷ []

abbrev pub veto_if : Bool → List Entry
veto_if true = veto
veto_if false = []

-- the timeout comes too late: it was decided, the commit was handed over, or evidence stands
abbrev pub is_late : Observed → Bool
is_late o = is_some o.decided || is_some o.handed || is_evident o.sealed o.table

abbrev pub time_up : Bool → List Entry
time_up late = if late then Late ∷ [] else TimedOut ∷ veto

-- the facts of a tick to this clock
abbrev pub tick_facts : Observed → ℕ → List Entry
tick_facts o n = Clock n ∷ (if reaches o.limit o.clock n then time_up (is_late o) else [])

abbrev pub decided_if : Bool → Outcome → List Entry
decided_if true x = Decided x ∷ []
decided_if false x = []

-- an enlistment is lost: that decides, where nothing is decided and it hasn't voted
abbrev pub gone_facts : Observed → EnlNo → List Entry
gone_facts o e = Lost e ∷ decided_if (not (is_some o.decided) && not (voted e.value o.table)) (lost_outcome (is_handed o.handed e.value))

-- the facts of a call that was done
abbrev pub facts : Observed → Call → List Entry
facts o (Begin t d) = Began (limit_of d) ∷ []
facts o (Volatile t e x v) = Enlisted e (class_of x) ∷ []
facts o (Durable t e r x) = Enlisted e DurableSingle ∷ []
facts o (Promotable t e r v x p) = Enlisted e PromotableClass ∷ Init e ∷ []
facts o (Clone t c k) = Cloned c k ∷ []
facts o (Complete c) = Completed c ∷ []
facts o (Commit t) = CommitAsked ∷ veto_if (has is_open_rollback o.clones)
facts o (Rollback t) = RollbackAsked ∷ veto
facts o (Tick t n) = tick_facts o (ticked o.clock n)
facts o (Gone e) = gone_facts o e
facts o _ = []

-- the entries of a reply: a vote No is a veto, and an owner's answer decides
abbrev pub reply_entries : EnlNo → Reply → List Entry
reply_entries e (VoteReply v) = Voted e v ∷ veto_if (is_no v)
reply_entries e (OwnerReply x) = OwnerAnswered e x ∷ Decided x ∷ []
reply_entries e _ = []

-- an abort is told to a durable or promotable too, unless it was handed the commit or is lost
abbrev pub hears_abort : Observed → Listener → Bool
hears_abort o l = lasts o.table l.enlistment.value && not (is_handed o.handed l.enlistment.value) && not l.lost

-- still to be told the outcome: it wasn't, and it is a volatile that hears, or hears of an abort
abbrev pub is_to_tell : Observed → Outcome → Listener → Bool
is_to_tell o x l = not l.told && (hears o.table l.enlistment.value || (is_aborted x && hears_abort o l))

-- phase zero: the lowest that may be asked is asked; when it is over, the transaction is sealed
abbrev pub before_seal : Option EnlNo → Bool → List Entry
before_seal (Some e) over = Asked e Prepare ∷ []
before_seal None over = if over then Sealed ∷ [] else []

-- the commit is handed to the owner, once; where nothing is durable or promotable, it is committed
abbrev pub commit_act : Bool → Option EnlNo → List Entry
commit_act true owner = []
commit_act false (Some e) = Handed e ∷ []
commit_act false None = Decided Committed ∷ []

-- after the seal: the lowest that wasn't asked is asked; when all voted, the commit is handed over or decided
abbrev pub after_seal : Option EnlNo → Bool → List Entry → List Entry
after_seal (Some e) voted commit = Asked e Prepare ∷ []
after_seal None voted commit = if voted then commit else []

-- while nothing is decided: nothing before commit was asked, then phase zero, then what is after the seal
abbrev pub undecided_act : Bool → Bool → List Entry → List Entry → List Entry
undecided_act commit sealed before behind = if not commit then [] else if not sealed then before else behind

abbrev pub act_by : Option Outcome → Observed → List Entry
act_by (Some x) o = tell x (find (is_to_tell o x) o.listeners) o.told_client
act_by None o =
    undecided_act o.commit o.sealed (before_seal (next_ask o.table true) (is_over o.table o.clones 0)) (after_seal (next_ask o.table false) (all_voted o.table) (commit_act (is_some o.handed) (owner_of o.table)))

-- the entries of the local act: the first that applies. None where no act is pending.
unfoldable pub act_entries : Observed → List Entry
act_entries o = act_by o.decided o

-- the block of a step: the entries that it makes
unfoldable pub block : Observed → Step → List Entry
block o (Calls line actor c m) = Called line actor (answer o c m) ∷ facts_if (is_done (answer o c m)) (facts o c)
block o (Replies e r) = reply_entries e r
block o Acts = act_entries o
block o _ = []

-- to what a reply of the enlistment is due: to prepare where it was asked and hasn't voted, and to the handing of the commit
abbrev pub open_note : Bool → Bool → Option Note
open_note asked handed = if asked then Some PrepareNote else if handed then Some HandNote else None

-- none is due of one that is lost, or once it was decided
abbrev pub due_note : Observed → Row → Option Note
due_note o x =
    if is_some o.decided || is_gone o x.number.value then None else open_note (is_marked x && not (has_voted x)) (is_handed o.handed x.number.value)

-- to what a reply of the enlistment of this number is due
abbrev pub note_of : Observed → Option Row → Option Note
note_of o (Some x) = due_note o x
note_of o None = None

unfoldable pub due_of : Observed → ℕ → Option Note
due_of o e = note_of o (find (is_of e) o.table)

-- the reply fits the note: a vote answers prepare, an owner's answer the handing
abbrev pub fits : Reply → Note → Bool
fits (VoteReply v) PrepareNote = true
fits (OwnerReply x) HandNote = true
fits _ _ = false
