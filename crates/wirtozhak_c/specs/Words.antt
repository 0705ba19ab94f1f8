-- What is written through a pointer.
use Rattle.std.specs.Int.{to_be_bytes, w128}
use Rattle.std.specs.Prelude.{ℕ, ℤ, ◌≡◌, ◌≢◌, ◌⊎◌, true, false, List, Option, Some, None, Result, Ok, Err, length}
use Rattle.dtx_values.specs.declared.note.Note.{Note}
use Rattle.dtx_values.specs.declared.note.Note.TheVariants.{Init, Prepare, Promote, Hand, Single, Commit, Rollback, InDoubt}
use Rattle.host_disk.specs.Order.{Order, order_of}
use Rattle.host_disk.specs.declared.request.Request.{Request}
use Rattle.host_disk.specs.declared.request.Request.TheVariants.{Write, Zeros, Sync}
use Rattle.host_disk.specs.Order.Order.{WriteOrder, ZerosOrder, SyncOrder}
use Rattle.host_manager.specs.Host.{HostView}
use Rattle.host_manager.specs.Lives.{MayNotOpen}
use Rattle.host_manager.specs.Requests.{Asks, IsGiven}
use Rattle.host_manager.specs.declared.error.HostError.{HostError}
use Rattle.transactions.specs.declared.error.TxError.{TxError}
use Rattle.transactions.specs.declared.event.Event.{Event}
use Rattle.transactions.specs.declared.event.Event.TheVariants.{Asked, Done, Told}
use Rattle.transactions.specs.declared.event.Next.{Next}
use Rattle.transactions.specs.declared.event.Next.TheVariants.{Disk, Found, Nothing}
use Rattle.wirtozhak_c.specs.Codes.{code_of, host_code, outcome_word}
use Rattle.wirtozhak_c.specs.declared.code.TheConstants.{DISK, MEMORY, NOTHING, OK, UNASKED}
use Rattle.wirtozhak_c.specs.declared.words.EventWords.{EventWords}
use Rattle.wirtozhak_c.specs.declared.words.Work.{Work}

-- what a note asks, as a word, or 6 where it tells an outcome; and the word of that
abbrev pub asked_words : Note → ℕ × ℕ
asked_words Init = (1, 0)
asked_words Prepare = (2, 0)
asked_words Promote = (3, 0)
asked_words Hand = (4, 0)
asked_words Single = (5, 0)
asked_words Commit = (6, 1)
asked_words Rollback = (6, 2)
asked_words InDoubt = (6, 3)

-- the words of an event: what is asked, or 6 where an outcome is told; of which enlistment, 0 for the client; and the outcome
abbrev pub event_words : Event → EventWords
event_words (Asked e n) = record { kind = (asked_words n).0; enlistment = e.number.value; outcome = (asked_words n).1 }
event_words (Told e o) = record { kind = 6; enlistment = e.number.value; outcome = outcome_word (Some o) }
event_words (Done o) = record { kind = 6; enlistment = 0; outcome = outcome_word (Some o) }

-- the words of what the host is to do: 1 to write so many bytes at a place, 2 so many zeros, 3 to sync
abbrev pub work_of : Order → Work
work_of (WriteOrder at bytes) = record { kind = 1; at = at; length = length bytes }
work_of (ZerosOrder at n) = record { kind = 2; at = at; length = n }
work_of SyncOrder = record { kind = 3; at = 0; length = 0 }

-- the answer of a call that gives nothing back
abbrev pub IsDone : {E : Type 0} → (E → ℤ) → Result (Unit {0}) E → ℤ → Type 0
IsDone code (Ok x) answer = answer ≡ OK
IsDone code (Err e) answer = answer ≡ code e

-- The answer of a call that gives something back, which is written as this; where there is none, what was there stays.
abbrev pub IsWritten : {A E W : Type 0} → (E → ℤ) → (A → W) → Result A E → W → W → ℤ → Type 0
IsWritten code words (Ok x) was is answer = (answer ≡ OK) × (is ≡ words x)
IsWritten code words (Err e) was is answer = (answer ≡ code e) × (is ≡ was)

-- the answer of an identifier, and its bytes, the first most significant; or that it is to be asked for again
abbrev pub IsIdentifier : Result (Option ℕ) TxError → List ℕ → List ℕ → ℤ → Type 0
IsIdentifier (Ok (Some id)) was is answer = (answer ≡ OK) × (is ≡ to_be_bytes w128 id)
IsIdentifier (Ok None) was is answer = (answer ≡ NOTHING) × (is ≡ was)
IsIdentifier (Err e) was is answer = (answer ≡ code_of e) × (is ≡ was)

-- the answer of what comes next, and its words
abbrev pub IsNext : Result Next TxError → EventWords → EventWords → ℤ → Type 0
IsNext (Ok (Found x)) was is answer = (answer ≡ OK) × (is ≡ event_words x)
IsNext (Ok Nothing) was is answer = (answer ≡ NOTHING) × (is ≡ was)
IsNext (Ok Disk) was is answer = (answer ≡ DISK) × (is ≡ was)
IsNext (Err e) was is answer = (answer ≡ code_of e) × (is ≡ was)

-- the answer of what the host is to do, and its words
abbrev pub IsWork : Option Request → Work → Work → ℤ → Type 0
IsWork (Some r) was is answer = (answer ≡ OK) × (is ≡ work_of (order_of r))
IsWork None was is answer = (answer ≡ NOTHING) × (is ≡ was)

-- What the host is to do next is given; or it did all, and nothing is.
abbrev pub GivesWork : Work → Work → HostView → HostView → ℤ → Type 0
GivesWork was is old new answer =
    (Asks old new true × (r : Option Request) × IsGiven new r × IsWork r was is answer) ⊎ (Asks old new false × (answer ≡ NOTHING) × (is ≡ was))

-- the answer of bytes that are put where as many are to be written; there is no such write else, and what was there stays
abbrev pub IsCopied : Option Request → List ℕ → List ℕ → ℤ → Type 0
IsCopied (Some (Write at bytes)) was is answer = ((answer ≡ OK) × (is ≡ bytes.items)) ⊎ ((answer ≡ UNASKED) × (length was ≢ length bytes.items) × (is ≡ was))
IsCopied (Some (Zeros at n)) was is answer = (answer ≡ UNASKED) × (is ≡ was)
IsCopied (Some Sync) was is answer = (answer ≡ UNASKED) × (is ≡ was)
IsCopied None was is answer = (answer ≡ UNASKED) × (is ≡ was)

-- The bytes of what was given last are put, and nothing changes.
abbrev pub GivesBytes : List ℕ → List ℕ → HostView → HostView → ℤ → Type 0
GivesBytes was is old new answer = (new ≡ old) × (r : Option Request) × IsGiven old r × IsCopied r was is answer

-- why a handle isn't opened
abbrev pub MayNot : List ℕ → ℤ → Type 0
MayNot bytes answer = (answer ≡ MEMORY) ⊎ ((e : HostError) × (answer ≡ host_code e) × MayNotOpen bytes e)
