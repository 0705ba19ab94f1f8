-- The marks of a picture as they are drawn.
use Rattle.std.specs.Prelude.{ℕ, ◌++◌, List, [], ◌∷◌, Option, Some, None, codes, length}
use Rattle.dtx_values.specs.declared.entry.Entry.{Entry}
use Rattle.dtx_values.specs.declared.script.Line.{Line}
use Rattle.dtx_values.specs.declared.words.Outcome.{Outcome}
use Rattle.dtx_values.specs.declared.words.Outcome.TheVariants.{Aborted, Committed, InDoubt}
use Rattle.outcome_reasons.specs.Moments.{number_at}
use Rattle.reason_text.specs.Phrases.{phrases_text}
use Rattle.reason_text.specs.declared.phrases.Head.TheVariants.{Number}
use Rattle.trace_picture.specs.Lanes.{LaneList}
use Rattle.trace_picture.specs.Marks.{mark}
use Rattle.trace_picture.specs.declared.lanes.Lane.{Lane}
use Rattle.trace_picture.specs.declared.lanes.Lane.TheVariants.{Between, Client, Coordinator, Enlistment, Local, Log}
use Rattle.trace_picture.specs.declared.lanes.Spot.{Spot}
use Rattle.trace_picture.specs.declared.marks.Label.{Label}
use Rattle.trace_picture.specs.declared.marks.Mark.{Mark}
use Rattle.trace_picture.specs.declared.marks.Mark.TheVariants.{Arrow, Cut, Decision, End, Event, Lost, Note, Still}
use Rattle.trace_page.specs.Geometry.{x_of, y_of}
use Rattle.trace_page.specs.Labels.{label_text}
use Rattle.trace_page.specs.Pieces.{line, words_at, words_end}

-- the style of an arrow
abbrev pub arrow_kind : Option Outcome → List ℕ
arrow_kind None = codes "arrow"
arrow_kind (Some Committed) = codes "arrow committed"
arrow_kind (Some Aborted) = codes "arrow aborted"
arrow_kind (Some InDoubt) = codes "arrow indoubt"

abbrev pub decision_kind : Outcome → List ℕ
decision_kind Committed = codes "decided committed"
decision_kind Aborted = codes "decided aborted"
decision_kind InDoubt = codes "decided indoubt"

-- words stand before the start of what runs to the left, and after the start of what runs to the right
abbrev pub words_kind : Lane → Lane → List ℕ
words_kind Local (Client a) = codes "before"
words_kind Local (Enlistment e) = codes "before"
words_kind Coordinator Local = codes "before"
words_kind Coordinator Between = codes "before"
words_kind a b = codes "after"

-- the words of a mark, at this place
abbrev pub said_at : List Line → LaneList → List ℕ → Lane → ℕ → Label → List ℕ
said_at s l kind a r label = words_at kind (x_of l a) (y_of r) ++ (label_text s label ++ words_end)

-- a line in a row or between two, with its words at its start
abbrev pub said_line : List Line → LaneList → List ℕ → Spot → Spot → Label → List ℕ
said_line s l kind a b label = line kind (x_of l a.lane) (y_of a.row) (x_of l b.lane) (y_of b.row) ++ said_at s l (words_kind a.lane b.lane) a.lane a.row label

abbrev pub row_line : LaneList → List ℕ → Lane → Lane → ℕ → List ℕ
row_line l kind a b r = line kind (x_of l a) (y_of r) (x_of l b) (y_of r)

-- a mark as it is drawn
abbrev pub mark_text : List Line → LaneList → Mark → List ℕ
mark_text s l (Arrow a b o label) = said_line s l (arrow_kind o) a b label
mark_text s l (Lost a label) = said_line s l (codes "arrow lost") a (record { lane = Between; row = a.row }) label
mark_text s l (Event a label) = said_at s l (codes "event") a.lane a.row label
mark_text s l (Cut r label) = row_line l (codes "cut") Local Coordinator r ++ said_at s l (codes "cut") Between r label
mark_text s l (End a label) = row_line l (codes "end") a.lane a.lane a.row ++ said_at s l (codes "ended") a.lane a.row label
mark_text s l (Still r label) = row_line l (codes "still") Coordinator Log r ++ said_at s l (codes "still") Coordinator r label
mark_text s l (Decision r o label) = said_at s l (decision_kind o) Local r label
mark_text s l (Note r label) = said_at s l (codes "note") Local r label

abbrev pub marked : List Line → LaneList → Option Mark → List ℕ
marked s l (Some m) = mark_text s l m
marked s l None = []

-- the number of an entry, at the left of its row
abbrev pub number_text : ℕ → ℕ → List ℕ
number_text r n = words_at (codes "number") 40 (y_of r) ++ (phrases_text ((Number n, []) ∷ []) ++ words_end)

-- the row of the entry that comes after these
abbrev pub row_text : List Line → LaneList → List ℕ → List Entry → Entry → ℕ → List ℕ
row_text s l came past x n = number_text (length past) n ++ marked s l (mark s came past x)

-- the rows of a picture, with the numbers of their entries, newest first
abbrev pub rows_text : List Line → LaneList → List ℕ → List ℕ → List Entry → List ℕ
rows_text s l came ns [] = []
rows_text s l came ns (x ∷ past) = rows_text s l came ns past ++ row_text s l came past x (number_at (length past) ns)
