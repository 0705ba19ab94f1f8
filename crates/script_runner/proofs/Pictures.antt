-- In the pictures of a run each message that comes is drawn as an arrow: as its messages cross as the connections carry them, and nothing at the log is a message.
use Rattle.std.proofs.Common.{◌≡◌, ℕ, ◌||◌, Bool, true, false, List, [], ◌∷◌, ◌++◌, Ok, Err, refl, ap, subst, ◌∙◌, if◌then◌else◌}
use Rattle.std.proofs.lemmas.Bool.{eq-eqb}
use Rattle.dtx_values.specs.declared.entry.Entry.{Entry}
use Rattle.dtx_values.specs.declared.entry.Entry.TheVariants.{Got}
use Rattle.dtx_values.specs.declared.script.Line.{Line}
use Rattle.dtx_values.specs.declared.trace.Place.TheVariants.{Transaction}
use Rattle.dtx_model.specs.AtLog.{at_log, is_log, is_up_by}
use Rattle.dtx_model.specs.Traces.{Placed, history, is_at}
use Rattle.dtx_model.specs.Wires.{WireRun}
use Rattle.dtx_model.specs.Words.{has, past_of}
use Rattle.script_runner.specs.Arrows.{HaveArrows}
use Rattle.trace_picture.specs.Crossings.{arrived}
use Rattle.trace_picture.specs.OwnSent.{is_message}
use Rattle.trace_picture.specs.Rows.{rows}
use Rattle.trace_picture.proofs.OwnArrow.{own_arrow}
use Rattle.turn_parts.specs.LogEvents.{CameInTurn, IsLogHistory, LogEvent, after_event}
use Rattle.turn_parts.specs.Runs.{IsRunHistory}
use Rattle.tx_world.specs.Kept.{stop_if}

-- nothing at the log is a message
stopped_none : (b : Bool) (past : List Entry) → has is_message past ≡ false → has is_message (stop_if b past) ≡ false
stopped_none true past none = none
stopped_none false past none = none

event_none : (x : LogEvent) (past : List Entry) → has is_message past ≡ false → has is_message (after_event x past) ≡ false
event_none (LogEvent.Arms n a k i) past none = none
event_none (LogEvent.Opens n a (Ok found)) past none = stopped_none (is_up_by past) _ none
event_none (LogEvent.Opens n a (Err r)) past none = stopped_none (is_up_by past) _ none
event_none LogEvent.Halts past none = none

events_none : (s : List Line) (xs : List LogEvent) (past : List Entry) → CameInTurn s xs past → has is_message past ≡ false
events_none s [] past came = ap (has is_message) came
events_none s (x ∷ xs) past came = ap (has is_message) came.3 ∙ event_none x came.0 (events_none s xs came.0 came.1)

none_at_log : (s : List Line) (past : List Entry) → IsLogHistory s past → has is_message past ≡ false
none_at_log s past log = events_none s log.0 past log.1

-- what holds of a trace holds before its newest entries
wires_before : (t : ℕ) (later before : List Placed) → WireRun (history t (later ++ before)) → WireRun (history t before)
wires_before t [] before run = run
wires_before t (x ∷ later) before run = wires_before t later before (by (is_at t x.0) (history t (later ++ before)) run)
  where
    by : (b : Bool) (past : List Entry) → WireRun (if b then x.1 ∷ past else past) → WireRun past
    by true past r = r.1
    by false past r = r

none_before : (later before : List Placed) → has is_message (at_log (later ++ before)) ≡ false → has is_message (at_log before) ≡ false
none_before [] before none = none
none_before (x ∷ later) before none = none_before later before (by (is_log x.0) (at_log (later ++ before)) none)
  where
    last : (a b : Bool) → (a || b) ≡ false → b ≡ false
    last true b e = absurd cc
    last false b e = e

    by : (b : Bool) (past : List Entry) → has is_message (if b then x.1 ∷ past else past) ≡ false → has is_message past ≡ false
    by true past r = last (is_message x.1) (has is_message past) r
    by false past r = r

pub arrows_of : (s : List Line) (k rise : ℕ) (T : List Placed) → IsRunHistory s k rise T → HaveArrows s (past_of T)
arrows_of s k rise T run u c d m later before e =
    let wires : WireRun (history u.value ((Transaction u, Got c d m) ∷ before)) =
    wires_before u.value later ((Transaction u, Got c d m) ∷ before) (subst (λ (z : List Placed). WireRun (history u.value z)) e (run.wires u)) in
    let own : history u.value ((Transaction u, Got c d m) ∷ before) ≡ Got c d m ∷ history u.value before = rw (eq-eqb u.value u.value refl) refl in
    let none : has is_message (at_log ((Transaction u, Got c d m) ∷ before)) ≡ false =
    none_before later ((Transaction u, Got c d m) ∷ before) (subst (λ (z : List Placed). has is_message (at_log z) ≡ false) e (none_at_log s (at_log (past_of T)) run.at_log)) in
    own_arrow s (arrived (rows u.value (past_of T)).entries) u.value before c d m (subst WireRun own wires) none
