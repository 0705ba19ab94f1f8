-- The page of a trace: for each transaction why it ended so, and its picture; and then the trace in the plain form.
use Rattle.std.specs.Prelude.{ℕ, ◌==◌, ◌++◌, Bool, true, false, List, [], ◌∷◌, codes, if◌then◌else◌, length}
use Rattle.std.specs.List.{flat_map, range_with_len}
use Rattle.dtx_values.specs.declared.script.Line.{Line}
use Rattle.dtx_model.specs.Grammar.{transaction_name}
use Rattle.dtx_model.specs.Traces.{Placed}
use Rattle.dtx_model.specs.TraceText.{trace_text}
use Rattle.dtx_model.specs.Words.{has, past_of}
use Rattle.outcome_reasons.specs.Histories.{Numbered}
use Rattle.outcome_reasons.specs.Whys.{is_began, whys}
use Rattle.outcome_reasons.specs.declared.said.Why.{Why}
use Rattle.outcome_reasons.specs.declared.said.Why.TheVariants.{Aborted, Committed, CoordinatorAborted, CoordinatorCommitted, InDoubt}
use Rattle.reason_text.specs.Phrases.{phrases_text}
use Rattle.reason_text.specs.Sentences.{said_text}
use Rattle.reason_text.specs.declared.phrases.Head.TheVariants.{Nothing, Number}
use Rattle.trace_page.specs.Columns.{lanes_text}
use Rattle.trace_page.specs.Drawn.{rows_text}
use Rattle.trace_page.specs.Geometry.{spread, width, y_of}
use Rattle.trace_page.specs.Style.{style}
use Rattle.trace_picture.specs.Crossings.{arrived}
use Rattle.trace_picture.specs.Lanes.{LaneList, lanes, promotes}
use Rattle.trace_picture.specs.Rows.{rows}

-- the colour of what is said
abbrev pub why_kind : Why → List ℕ
why_kind (Committed r n) = codes "committed"
why_kind (CoordinatorCommitted n) = codes "committed"
why_kind (Aborted r m) = codes "aborted"
why_kind (CoordinatorAborted n) = codes "aborted"
why_kind (InDoubt r n) = codes "indoubt"
why_kind _ = codes "other"

abbrev pub paragraph : ℕ × Why → List ℕ
paragraph x = codes "<p class=\"" ++ (why_kind x.1 ++ (codes "\">" ++ ((transaction_name x.0 ++ said_text x.1) ++ codes "</p>\n")))

abbrev pub paragraph_of : ℕ → ℕ × Why → List ℕ
paragraph_of t x = if t == x.0 then paragraph x else []

-- where the picture ends at the right
abbrev pub right_of : LaneList → Bool → ℕ
right_of l true = spread 118 (width l) 690
right_of l false = spread 118 (width l) 560

unfoldable pub picture_head : (x y : ℕ) → List ℕ
picture_head x y =
    phrases_text
    ((Nothing, codes "<div><svg viewBox=\"0 0 ") ∷ (Number x, codes " ") ∷ (Number y, codes "\" width=\"") ∷ (Number x, codes "\" height=\"") ∷ (Number y, codes "\">\n") ∷ [])

unfoldable pub picture_end : List ℕ
picture_end = codes "</svg></div>\n"

-- the picture of these rows with these lanes, where these are the rows of what came: with the coordinator's and the log's lanes or without, and down to this place
abbrev pub drawn : List Line → Numbered → LaneList → List ℕ → Bool → ℕ → List ℕ
drawn s h l came far foot = picture_head (right_of l far) foot ++ (lanes_text l h.entries foot far ++ (rows_text s l came h.numbers h.entries ++ picture_end))

-- the picture of these rows
unfoldable pub picture : List Line → Numbered → List ℕ
picture s h = drawn s h (lanes h.entries) (arrived h.entries) (has promotes h.entries) (y_of (length h.entries))

abbrev pub heading : ℕ → List ℕ
heading t = codes "<h2>" ++ (transaction_name t ++ codes "</h2>\n")

-- what the page has of transaction t, whose rows these are: nothing, where it wasn't begun
abbrev pub section_if : List Line → List (ℕ × Why) → ℕ → Numbered → List ℕ
section_if s ws t h = if has is_began h.entries then heading t ++ (flat_map (paragraph_of t) ws ++ picture s h) else []

-- what it has of each transaction, in order of number
unfoldable pub sections : List Line → List (ℕ × Why) → List Placed → List ℕ
sections s ws T = flat_map (λ t. section_if s ws t (rows t (past_of T))) (range_with_len 1 256)

-- the page of a trace of this script. The trace stands oldest first.
unfoldable pub page : List Line → List Placed → List ℕ
page s T = style ++ (sections s (whys s T) T ++ (codes "<pre>" ++ (trace_text T ++ codes "</pre>\n")))
