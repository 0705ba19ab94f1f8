-- The numbers that cross to C.
use Rattle.std.specs.Option.{option_map}
use Rattle.std.specs.Prelude.{ℕ, ℤ, negsuc, ◌≡◌, ◌==◌, ◌<◌, ◌+◌, ◌⊎◌, Bool, true, false, if◌then◌else◌, Option, Some, None}
use Rattle.dtx_values.specs.declared.entry.Answer.{Answer}
use Rattle.dtx_values.specs.declared.entry.Answer.TheVariants.{Fine, True, False, Wait, Id, StillActive, OutcomeIs, StillOpen, Did, NotBegun, Ended, TooLate, Many, NoSuch, Already, Finished, Over, Connected, Stopped, Deep, Isolation, NoScope, Nested, Ambient, Fault, NotALog}
use Rattle.dtx_values.specs.declared.note.Reply.{Reply}
use Rattle.dtx_values.specs.declared.note.Reply.TheVariants.{Ack, Owner, Promote, Vote as VoteReply}
use Rattle.dtx_values.specs.declared.number.CloneNo.{CloneNo}
use Rattle.dtx_values.specs.declared.number.EnlNo.{EnlNo}
use Rattle.dtx_values.specs.declared.number.RmNo.{RmNo}
use Rattle.dtx_values.specs.declared.number.TheConstants.CloneNo.{MAX as CLONES}
use Rattle.dtx_values.specs.declared.number.TheConstants.EnlNo.{MAX as ENLISTMENTS}
use Rattle.dtx_values.specs.declared.number.TheConstants.RmNo.{MAX as MANAGERS}
use Rattle.dtx_values.specs.declared.script.EnlistOption.{EnlistOption}
use Rattle.dtx_values.specs.declared.script.EnlistOption.TheVariants.{DuringPrepare, Plain}
use Rattle.dtx_values.specs.declared.words.CloneKind.{CloneKind}
use Rattle.dtx_values.specs.declared.words.CloneKind.TheVariants.{Block, Rollback}
use Rattle.dtx_values.specs.declared.words.Outcome.{Outcome}
use Rattle.dtx_values.specs.declared.words.Outcome.TheVariants.{Committed, Aborted, InDoubt}
use Rattle.dtx_values.specs.declared.words.Timeout.{Timeout}
use Rattle.dtx_values.specs.declared.words.Timeout.TheVariants.{Milliseconds}
use Rattle.dtx_values.specs.declared.words.Vote.TheVariants.{Yes, No, Done}
use Rattle.host_manager.specs.declared.error.HostError.{HostError}
use Rattle.host_manager.specs.declared.error.HostError.TheVariants.{Call, Disk, Live, NotALog as NoLog, Unasked}
use Rattle.wirtozhak_c.specs.declared.code.TheConstants.{DISK, MEMORY, NO_SUCH, UNASKED}
use Rattle.transactions.specs.declared.handle.Phases.{Phases}
use Rattle.transactions.specs.declared.handle.Phases.TheVariants.{Single, Two}
use Rattle.transactions.specs.declared.error.TxError.{TxError}
use Rattle.transactions.specs.declared.error.TxError.TheVariants.{LogFull, LogStopped, Many as NoneLeft, Memory, NoEpoch, Refused, Waits}

-- where an answer stands among all of them, from 0
abbrev pub place_of : Answer → ℕ
place_of Fine = 0
place_of True = 1
place_of False = 2
place_of Wait = 3
place_of (Id id) = 4
place_of StillActive = 5
place_of (OutcomeIs o) = 6
place_of StillOpen = 7
place_of (Did n) = 8
place_of NotBegun = 9
place_of (Ended o) = 10
place_of TooLate = 11
place_of (Many n) = 12
place_of NoSuch = 13
place_of Already = 14
place_of Finished = 15
place_of (Over r) = 16
place_of (Connected e) = 17
place_of Stopped = 18
place_of Deep = 19
place_of (Isolation asked found) = 20
place_of NoScope = 21
place_of (Nested s) = 22
place_of (Ambient t) = 23
place_of Fault = 24
place_of (NotALog p) = 25

-- the code of a call that was refused with this answer: that of no such number, or -20 less the answer's place
abbrev pub refusal_code : Answer → ℤ
refusal_code NoSuch = NO_SUCH
refusal_code a = negsuc (19 + place_of a)

-- The code of a manager's error: -4 where no number or no epoch is left, -8 where the log is full, -11 where it is stopped. That a call waits is -23, as that answer.
abbrev pub code_of : TxError → ℤ
code_of (Refused a) = refusal_code a
code_of Waits = negsuc 22
code_of NoneLeft = negsuc 3
code_of NoEpoch = negsuc 3
code_of LogFull = negsuc 7
code_of LogStopped = negsuc 10
code_of Memory = MEMORY

-- the code of an error: -3 where the bytes are no log, -7 where a transaction goes on
abbrev pub host_code : HostError → ℤ
host_code Disk = DISK
host_code NoLog = negsuc 2
host_code Unasked = UNASKED
host_code Live = negsuc 6
host_code (Call e) = code_of e

-- the word of an outcome; 0 where there is none
abbrev pub outcome_word : Option Outcome → ℕ
outcome_word None = 0
outcome_word (Some Committed) = 1
outcome_word (Some Aborted) = 2
outcome_word (Some InDoubt) = 3

-- the reply of a word
unfoldable pub reply_of : ℕ → Option Reply
reply_of word =
    if word == 1 then Some (VoteReply Yes) else
    (if word == 2 then Some (VoteReply No) else
    (if word == 3 then Some (VoteReply Done) else
    (if word == 4 then Some Ack else
    (if word == 5 then Some (Owner Committed) else
    (if word == 6 then Some (Owner Aborted) else
    (if word == 7 then Some (Owner InDoubt) else
    (if word == 8 then Some (Promote true) else
    (if word == 9 then Some (Promote false) else None))))))))

-- what a flag says: 0 no, 1 yes
abbrev pub flag_of : ℕ → Option Bool
flag_of word = if word == 0 then Some false else (if word == 1 then Some true else None)

-- whether a volatile resource may enlist others while it prepares
abbrev pub option_of : ℕ → Option EnlistOption
option_of word = option_map (λ may. if may then DuringPrepare else Plain) (flag_of word)

-- whether a durable resource may commit in a single phase
abbrev pub phases_of : ℕ → Option Phases
phases_of word = option_map (λ may. if may then Single else Two) (flag_of word)

-- whether a clone that isn't complete vetoes the commit, for which the commit waits else
abbrev pub clone_kind : ℕ → Option CloneKind
clone_kind word = option_map (λ vetoes. if vetoes then Rollback else Block) (flag_of word)

-- the number of an enlistment, or 0 for none
abbrev pub number_or_none : Option EnlNo → ℕ
number_or_none (Some e) = e.value
number_or_none None = 0

-- so many milliseconds; ten minutes where they are 0
abbrev pub timeout_of : ℕ → Timeout
timeout_of milliseconds = Milliseconds (if milliseconds == 0 then 600000 else milliseconds)

-- What is read of a number, which goes from 1 to a greatest one: what has this number, or nothing where it is out of range.
abbrev pub Numbers : {N : Type 0} → (N → ℕ) → ℕ → ℕ → Option N → Type 0
Numbers value greatest n (Some x) = value x ≡ n
Numbers value greatest n None = (n ≡ 0) ⊎ (greatest < n)

-- the enlistment, the clone and the resource manager of a number
abbrev pub IsEnlistment : ℕ → Option EnlNo → Type 0
IsEnlistment n e = Numbers (λ (x : EnlNo). x.value) ENLISTMENTS n e

abbrev pub IsClone : ℕ → Option CloneNo → Type 0
IsClone n c = Numbers (λ (x : CloneNo). x.value) CLONES n c

abbrev pub IsManager : ℕ → Option RmNo → Type 0
IsManager n r = Numbers (λ (x : RmNo). x.value) MANAGERS n r
