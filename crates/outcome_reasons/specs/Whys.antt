-- What is said of each transaction of a trace.
use Rattle.std.specs.Prelude.{ℕ, Bool, true, false, List, [], ◌∷◌, ◌++◌, map, Option, Some, None, if◌then◌else◌}
use Rattle.std.specs.List.{flat_map, range_with_len}
use Rattle.dtx_values.specs.declared.entry.Entry.{Entry}
use Rattle.dtx_values.specs.declared.entry.Entry.TheVariants.{Began}
use Rattle.dtx_values.specs.declared.number.ScopeNo.{ScopeNo}
use Rattle.dtx_values.specs.declared.number.TxNo.{TxNo}
use Rattle.dtx_values.specs.declared.script.Line.{Line}
use Rattle.dtx_values.specs.declared.words.Outcome.{Outcome}
use Rattle.dtx_values.specs.declared.words.Outcome.TheVariants.{Aborted as AbortedWord, Committed as CommittedWord, InDoubt as InDoubtWord}
use Rattle.dtx_model.specs.Entries.{client_told_of}
use Rattle.dtx_model.specs.Traces.{Placed}
use Rattle.dtx_model.specs.Words.{all_of, has, latest, past_of}
use Rattle.outcome_reasons.specs.declared.said.AbortReason.{AbortReason}
use Rattle.outcome_reasons.specs.declared.said.CommitReason.{CommitReason}
use Rattle.outcome_reasons.specs.declared.said.DoubtReason.{DoubtReason}
use Rattle.outcome_reasons.specs.declared.said.DoubtReason.TheVariants.{Ended}
use Rattle.outcome_reasons.specs.declared.said.Moment.{Moment}
use Rattle.outcome_reasons.specs.declared.said.Why.{Why}
use Rattle.outcome_reasons.specs.declared.said.Why.TheVariants.{Aborted, Committed, InDoubt, Open, Unjust}
use Rattle.outcome_reasons.specs.Commits.{evident}
use Rattle.outcome_reasons.specs.Doubts.{at_coordinator, doubtful}
use Rattle.outcome_reasons.specs.First.{first_of}
use Rattle.outcome_reasons.specs.Histories.{Numbered, numbered}
use Rattle.outcome_reasons.specs.Moments.{number_at}
use Rattle.outcome_reasons.specs.Opens.{open_reason}
use Rattle.outcome_reasons.specs.Owed.{owed}
use Rattle.outcome_reasons.specs.Promotions.{promotion}
use Rattle.outcome_reasons.specs.Vetoes.{nested_in, vetoing}

-- the lines of the trace that were answered that their scope is beneath another, newest first
abbrev pub nested_lines : List Placed → List (ℕ × ScopeNo)
nested_lines T = all_of nested_in T

abbrev pub committed_line : List ℕ → Option (ℕ × CommitReason) → Why
committed_line ns (Some x) = Committed x.1 (number_at x.0 ns)
committed_line ns None = Unjust CommittedWord

abbrev pub aborted_line : Option (ℕ × (AbortReason × Moment)) → Why
aborted_line (Some x) = Aborted x.1.0 x.1.1
aborted_line None = Unjust AbortedWord

abbrev pub is_ended : DoubtReason → Bool
is_ended (Ended b v) = true
is_ended _ = false

abbrev pub ended_in : Option (ℕ × DoubtReason) → Bool
ended_in (Some x) = is_ended x.1
ended_in None = false

-- after the ends of both connections comes what the coordinator decided
abbrev pub there_after : List ℕ → List Entry → Bool → List Why
there_after ns h true = at_coordinator ns h ∷ []
there_after ns h false = []

abbrev pub doubt_line : List ℕ → Option (ℕ × DoubtReason) → Why
doubt_line ns (Some x) = InDoubt x.1 (number_at x.0 ns)
doubt_line ns None = Unjust InDoubtWord

abbrev pub doubt_lines : List ℕ → List Entry → Option (ℕ × DoubtReason) → List Why
doubt_lines ns h o = doubt_line ns o ∷ there_after ns h (ended_in o)

-- what is said of the outcome, by what the client was told
abbrev pub outcome_lines : List Line → List (ℕ × ScopeNo) → List ℕ → List Entry → Option Outcome → List Why
outcome_lines s qs ns h (Some CommittedWord) = committed_line ns (first_of evident h) ∷ []
outcome_lines s qs ns h (Some AbortedWord) = aborted_line (first_of (vetoing s qs ns) h) ∷ []
outcome_lines s qs ns h (Some InDoubtWord) = doubt_lines ns h (first_of (doubtful ns) h)
outcome_lines s qs ns h None = Open (open_reason s ns h) ∷ []

-- what is said of a transaction, by its history, the numbers of the entries in the trace, and the lines that are nested
unfoldable pub said_of : List Line → List (ℕ × ScopeNo) → List ℕ → List Entry → List Why
said_of s qs ns h = promotion s ns h ++ (outcome_lines s qs ns h (latest client_told_of h) ++ owed s h)

abbrev pub is_began : Entry → Bool
is_began (Began d) = true
is_began _ = false

-- what is said of transaction t, of this history and these numbers: nothing of one that wasn't begun
abbrev pub said_if : List Line → List (ℕ × ScopeNo) → ℕ → Numbered → List (ℕ × Why)
said_if s qs t h = if has is_began h.entries then map (λ w. (t, w)) (said_of s qs h.numbers h.entries) else []

-- the same of transaction t of the trace, which stands newest first
abbrev pub whys_of : List Line → List Placed → ℕ → List (ℕ × Why)
whys_of s T t = said_if s (nested_lines T) t (numbered T t)

-- what is said of each transaction, in order of number. The trace stands oldest first.
unfoldable pub whys : List Line → List Placed → List (ℕ × Why)
whys s T = flat_map (whys_of s (past_of T)) (range_with_len 1 256)

-- by the transaction's number
abbrev pub by_number : TxNo × Why → ℕ × Why
by_number x = (x.0.value, x.1)
