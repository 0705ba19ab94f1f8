-- The lines that say why a transaction was promoted, and why it ended as it did.
use Rattle.std.specs.Prelude.{ℕ, ◌==◌, Bool, true, false, ◌&&◌, List, [], ◌∷◌, ◌++◌, Option, Some, codes, if◌then◌else◌}
use Rattle.std.specs.List.{flat_map}
use Rattle.dtx_values.specs.Ends.{same_connection}
use Rattle.dtx_values.specs.declared.message.Conn.{Conn}
use Rattle.dtx_values.specs.declared.message.Conn.TheVariants.{Again, Begin, Enl, Voter}
use Rattle.dtx_values.specs.declared.message.Dir.{Dir}
use Rattle.dtx_values.specs.declared.message.Dir.TheVariants.{Down, Up}
use Rattle.dtx_values.specs.declared.note.Note.{Note}
use Rattle.dtx_values.specs.declared.note.Note.TheVariants.{Hand, Prepare, Promote, Single}
use Rattle.dtx_values.specs.declared.number.EnlNo.{EnlNo}
use Rattle.dtx_values.specs.declared.script.Line.{Line}
use Rattle.dtx_values.specs.declared.words.Outcome.{Outcome}
use Rattle.dtx_values.specs.declared.words.Outcome.TheVariants.{Aborted as AbortedWord, Committed as CommittedWord, InDoubt as InDoubtWord}
use Rattle.dtx_model.specs.Grammar.{transaction_name}
use Rattle.dtx_model.specs.Traces.{Placed}
use Rattle.outcome_reasons.specs.Moments.{line_in}
use Rattle.outcome_reasons.specs.Whys.{whys}
use Rattle.outcome_reasons.specs.declared.said.AbortReason.{AbortReason}
use Rattle.outcome_reasons.specs.declared.said.AbortReason.TheVariants.{Ended, LogFull, Lost, Nested, NoRecord, NotPromoted, OpenClone, OwnerAborted, Requested, RolledBack, TimedOut, Unfinished, VotedNo}
use Rattle.outcome_reasons.specs.declared.said.Caller.{Caller}
use Rattle.outcome_reasons.specs.declared.said.CommitReason.{CommitReason}
use Rattle.outcome_reasons.specs.declared.said.CommitReason.TheVariants.{Logged, Owner, Sealed}
use Rattle.outcome_reasons.specs.declared.said.DoubtReason.{DoubtReason}
use Rattle.outcome_reasons.specs.declared.said.DoubtReason.TheVariants.{Answered, Ended as BothEnded, Lost as OwnerLost, Unheard}
use Rattle.outcome_reasons.specs.declared.said.Moment.{Moment}
use Rattle.outcome_reasons.specs.declared.said.OpenReason.{OpenReason}
use Rattle.outcome_reasons.specs.declared.said.OpenReason.TheVariants.{NotAsked, OpenClone as Blocking, Silent, Unsettled}
use Rattle.outcome_reasons.specs.declared.said.PromotionReason.{PromotionReason}
use Rattle.outcome_reasons.specs.declared.said.PromotionReason.TheVariants.{Beside, Identifier, Second, Two}
use Rattle.outcome_reasons.specs.declared.said.Root.{Root}
use Rattle.outcome_reasons.specs.declared.said.Root.TheVariants.{Cut, Stopped, Unsaid}
use Rattle.outcome_reasons.specs.declared.said.Why.{Why}
use Rattle.outcome_reasons.specs.declared.said.Why.TheVariants.{Aborted, Committed, CoordinatorAborted, CoordinatorCommitted, CoordinatorUndecided, InDoubt, Open, Owes, Promoted, PromotionFailed, Unjust}
use Rattle.reason_text.specs.Phrases.{Phrase, phrases_text}
use Rattle.reason_text.specs.declared.phrases.Head.TheVariants.{Caller as ByCaller, Clone, Connection, Enlistment, Nothing, Number, Scope}

-- where an entry stands: its number, and the line of its call
abbrev pub by_line : Moment → List Phrase
by_line m = (Nothing, codes " (line ") ∷ (Number (line_in m.caller), codes ", entry ") ∷ (Number m.entry, codes ")") ∷ []

abbrev pub by_entry : ℕ → List Phrase
by_entry n = (Nothing, codes " (entry ") ∷ (Number n, codes ")") ∷ []

abbrev pub promotion_said : Option Caller → PromotionReason → List Phrase
promotion_said c Identifier = (ByCaller c, codes " asked for its identifier") ∷ []
promotion_said c (Second e f) = (Enlistment e, codes " is a second durable, beside ") ∷ (Enlistment f, []) ∷ []
promotion_said c (Beside e f) = (Enlistment e, codes " is a durable beside the promotable ") ∷ (Enlistment f, []) ∷ []
promotion_said c (Two e) = (Enlistment e, codes " is a durable that has two phases alone") ∷ []

abbrev pub commit_said : CommitReason → List Phrase
commit_said Sealed = (Nothing, codes "all voted yes or done, and nobody owned the commit") ∷ []
commit_said (Owner e) = (Enlistment (Some e), codes ", which was handed the commit, answered committed") ∷ []
commit_said Logged = (Nothing, codes "all voted yes or done, and the coordinator's record was in the log") ∷ []

abbrev pub root_said : Root → List Phrase
root_said (Cut c n) = (Connection c, codes " was cut in line ") ∷ (Number n, []) ∷ []
root_said (Stopped n) = (Nothing, codes "the coordinator stopped at entry ") ∷ (Number n, []) ∷ []
root_said (Unsaid c) = (Connection c, codes " ended") ∷ []

-- the side that saw the end of a connection
abbrev pub side_said : Dir → List Phrase
side_said Down = (Nothing, codes ", and the local side saw its end before ") ∷ []
side_said Up = (Nothing, codes ", and the coordinator saw its end before ") ∷ []

-- what the end of a connection came before
abbrev pub early_said : Conn → Dir → List Phrase
early_said Begin Down = (Nothing, codes "its yes") ∷ []
early_said Voter Down = (Nothing, codes "its yes") ∷ []
early_said Begin Up = (Nothing, codes "COMMIT came") ∷ []
early_said Voter Up = (Nothing, codes "YES came") ∷ []
early_said (Enl e) d = (Nothing, codes "the vote of ") ∷ (Connection (Enl e), []) ∷ []
early_said (Again e) d = (Nothing, codes "the vote of ") ∷ (Connection (Again e), []) ∷ []

-- what an enlistment did
abbrev pub one_said : EnlNo → List ℕ → List Phrase
one_said e words = (Enlistment (Some e), words) ∷ []

abbrev pub words_said : List ℕ → List Phrase
words_said words = (Nothing, words) ∷ []

-- how a connection ended too early
abbrev pub end_said : Root → Conn → Dir → List Phrase
end_said r c d = root_said r ++ (side_said d ++ early_said c d)

-- what justified an abort
abbrev pub abort_said : Option Caller → AbortReason → List Phrase
abort_said k RolledBack = (ByCaller k, codes " rolled it back") ∷ []
abort_said k (Unfinished q) = (ByCaller k, codes " closed ") ∷ (Scope q, codes ", which wasn't finished") ∷ []
abort_said k (Nested q r) = (ByCaller k, codes " closed ") ∷ (Scope q, codes " while ") ∷ (Scope r, codes " was open above it") ∷ []
abort_said k (TimedOut n d) = (Nothing, codes "its clock reached ") ∷ (Number n, codes " ms, and its timeout is ") ∷ (Number d, codes " ms") ∷ []
abort_said k (OpenClone c) = (ByCaller k, codes " asked for the commit while the clone ") ∷ (Clone c, codes " wasn't complete") ∷ []
abort_said k (Lost e) = one_said e (codes " was lost before it voted")
abort_said k (VotedNo e) = one_said e (codes " voted no")
abort_said k (OwnerAborted e) = one_said e (codes ", which was handed the commit, answered aborted")
abort_said k (NotPromoted e) = one_said e (codes " couldn't be promoted")
abort_said k (Requested e) = one_said e (codes " requested the abort")
abort_said k (Ended r c d) = end_said r c d
abort_said k LogFull = words_said (codes "the coordinator's log was full")
abort_said k NoRecord = words_said (codes "the coordinator was started again, and its log had no record")

-- a call gave it: so its line is said
abbrev pub is_by_line : AbortReason → Bool
is_by_line RolledBack = true
is_by_line (Unfinished q) = true
is_by_line (Nested q r) = true
is_by_line (TimedOut n d) = true
is_by_line (OpenClone c) = true
is_by_line (Lost e) = true
is_by_line _ = false

abbrev pub place_said : Bool → Moment → List Phrase
place_said true m = by_line m
place_said false m = by_entry m.entry

abbrev pub abort_text : AbortReason → Moment → List ℕ
abort_text r m = phrases_text (abort_said m.caller r) ++ phrases_text (place_said (is_by_line r) m)

abbrev pub same_root : Root → Root → Bool
same_root (Cut c n) (Cut d m) = same_connection c d && (n == m)
same_root (Stopped n) (Stopped m) = n == m
same_root (Unsaid c) (Unsaid d) = same_connection c d
same_root _ _ = false

-- the causes of two ends, one of them where they are the same
abbrev pub roots_said : Root → Root → List Phrase
roots_said b v = if same_root b v then root_said b else root_said b ++ (words_said (codes " and ") ++ root_said v)

abbrev pub doubt_said : DoubtReason → List Phrase
doubt_said (Answered e) = one_said e (codes ", which was handed the commit, answered in doubt")
doubt_said (OwnerLost e) = one_said e (codes " was lost after it was handed the commit, without an answer")
doubt_said (BothEnded b v) = roots_said b v ++ words_said (codes ": b and v ended after the local yes, and no outcome had come")
doubt_said (Unheard r e) = root_said r ++ ((Nothing, codes ": the coordinator had let ") ∷ (Enlistment (Some e), codes " decide, and no answer had come") ∷ [])

-- the note to which an enlistment is silent
abbrev pub note_said : Note → List ℕ
note_said Prepare = codes "prepare"
note_said Promote = codes "promote"
note_said Single = codes "single"
note_said Hand = codes "the hand"
note_said _ = codes "a note"

abbrev pub open_said : OpenReason → List Phrase
open_said NotAsked = words_said (codes "nobody asked for the commit or a rollback")
open_said (Blocking c) = (Nothing, codes "the blocking clone ") ∷ (Clone (Some c), codes " isn't complete") ∷ []
open_said (Silent e n k) = (Enlistment (Some e), codes " hasn't answered ") ∷ (Nothing, note_said n) ∷ by_entry k
open_said Unsettled = words_said (codes "it isn't settled")

abbrev pub outcome_said : Outcome → List ℕ
outcome_said CommittedWord = codes "committed"
outcome_said AbortedWord = codes "aborted"
outcome_said InDoubtWord = codes "in doubt"

-- what a line says after the transaction's name
abbrev pub said_text : Why → List ℕ
said_text (Promoted r m) = codes " promoted: " ++ (phrases_text (promotion_said m.caller r) ++ phrases_text (by_line m))
said_text (PromotionFailed r m) = codes " promotion failed: " ++ (phrases_text (promotion_said m.caller r) ++ phrases_text (by_line m))
said_text (Committed r n) = codes " committed: " ++ (phrases_text (commit_said r) ++ phrases_text (by_entry n))
said_text (Aborted r m) = codes " aborted: " ++ abort_text r m
said_text (InDoubt r n) = codes " in doubt: " ++ (phrases_text (doubt_said r) ++ phrases_text (by_entry n))
said_text (Unjust o) = phrases_text ((Nothing, codes " ") ∷ (Nothing, outcome_said o) ∷ (Nothing, codes ": nothing justifies it") ∷ [])
said_text (CoordinatorCommitted n) = codes " at the coordinator: committed" ++ phrases_text (by_entry n)
said_text (CoordinatorAborted n) = codes " at the coordinator: aborted" ++ phrases_text (by_entry n)
said_text CoordinatorUndecided = codes " at the coordinator: nothing was decided"
said_text (Open r) = codes " open: " ++ phrases_text (open_said r)
said_text (Owes e) = phrases_text ((Nothing, codes " owes ") ∷ (Enlistment (Some e), codes ": it said PREPARED and hasn't heard") ∷ [])

-- a line of the text: the transaction's name, what is said of it, and LF
abbrev pub why_line : ℕ × Why → List ℕ
why_line x = transaction_name x.0 ++ (said_text x.1 ++ 10 ∷ [])

-- the text of why each transaction of a trace was promoted, and why it ended as it did. The trace stands oldest first.
unfoldable pub why_text : List Line → List Placed → List ℕ
why_text s T = flat_map why_line (whys s T)
