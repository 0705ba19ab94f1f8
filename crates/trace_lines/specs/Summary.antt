-- TraceText in the form summary.
use Rattle.std.specs.Prelude.{ℕ, Bool, true, false, ◌&&◌, not, List, [], ◌∷◌, ◌++◌, codes, count_by, decimal, is_some, map}
use Rattle.std.specs.List.{range_with_len}
use Rattle.dtx_values.specs.declared.entry.Entry.{Entry}
use Rattle.dtx_values.specs.declared.entry.Entry.TheVariants.{Began, Freed}
use Rattle.dtx_values.specs.declared.words.Outcome.TheVariants.{Committed, Aborted, InDoubt}
use Rattle.dtx_model.specs.Entries.{client_told_of, is_client_told, is_promoted}
use Rattle.dtx_model.specs.Tied.{is_logged}
use Rattle.dtx_model.specs.Traces.{Placed, history}
use Rattle.dtx_model.specs.Words.{has, past_of}
use Rattle.trace_lines.specs.declared.tally.Seen.{Seen}

abbrev pub is_began : Entry → Bool
is_began (Began d) = true
is_began x = false

abbrev pub is_freed : Entry → Bool
is_freed Freed = true
is_freed x = false

-- the client was told an outcome
abbrev pub is_told : Entry → Bool
is_told x = is_some (client_told_of x)

-- the transaction was begun, and its client wasn't told
abbrev pub is_open : List Entry → Bool
is_open h = has is_began h && not (has is_told h)

-- the numbers of the transactions: t1 to t256
unfoldable pub transactions : List ℕ
transactions = range_with_len 1 256

-- how many transactions of the trace have a history that passes
abbrev pub how_many : (List Entry → Bool) → List Placed → ℕ
how_many p T = count_by (λ t. p (history t (past_of T))) transactions

-- a line of the summary: a word, a number, and LF
abbrev pub count_line : List ℕ → ℕ → List ℕ
count_line word n = word ++ codes " " ++ decimal n ++ 10 ∷ []

-- the text of a trace in the form summary
unfoldable pub summary_text : List Placed → List ℕ
summary_text T =
    count_line (codes "transactions") (how_many (has is_began) T)
    ++ count_line (codes "committed") (how_many (has (is_client_told Committed)) T)
    ++ count_line (codes "aborted") (how_many (has (is_client_told Aborted)) T)
    ++ count_line (codes "indoubt") (how_many (has (is_client_told InDoubt)) T)
    ++ count_line (codes "open") (how_many is_open T)
    ++ count_line (codes "promoted") (how_many (has is_promoted) T)
    ++ count_line (codes "logged") (how_many (has is_logged) T)
    ++ count_line (codes "freed") (how_many (has is_freed) T)

-- what stands in a history
abbrev pub seen_of : List Entry → Seen
seen_of h = record {
  begun = has is_began h;
  told = has is_told h;
  committed = has (is_client_told Committed) h;
  aborted = has (is_client_told Aborted) h;
  in_doubt = has (is_client_told InDoubt) h;
  promoted = has is_promoted h;
  logged = has is_logged h;
  freed = has is_freed h;
}

-- the same of each transaction of the trace
unfoldable pub all_seen : List Placed → List Seen
all_seen T = map (λ t. seen_of (history t (past_of T))) transactions
