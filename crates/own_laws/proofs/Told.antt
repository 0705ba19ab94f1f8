-- A settled world of own calls, whatever was lost, stopped and started again, in which each restart found what may be found and the commit was asked for: where the coordinator stopped, the outcome
-- is decided. So the client was told, or there is something that it waits for.
use Rattle.std.proofs.Common.{◌≡◌, ℕ, Bool, true, false, ◌&&◌, ◌||◌, List, [], refl, ◌∙◌, ap}
use Rattle.std.specs.Prelude.{is_some, not}
use Rattle.std.proofs.lemmas.Bool.{or_left}
use Rattle.dtx_values.specs.declared.entry.Entry.{Entry}
use Rattle.dtx_values.specs.declared.note.Plan.{Plan}
use Rattle.dtx_values.specs.Clones.{blocks, is_open_block}
use Rattle.dtx_model.specs.Words.{all_of, has, latest}
use Rattle.dtx_model.specs.Entries.{client_told_of, clone_of, is_commit}
use Rattle.dtx_model.specs.Observed.{clone_rows}
use Rattle.dtx_model.specs.Outcome.{enlisted, is_complete}
use Rattle.dtx_model.specs.Plans.{plan_of}
use Rattle.dtx_model.specs.Promotes.{is_promoting}
use Rattle.dtx_model.specs.Tied.{is_stop, tied}
use Rattle.dtx_model.specs.Steps.{pending}
use Rattle.dtx_model.specs.World.{World}
use Rattle.dtx_model.specs.Caused.{AreMadeOnce, IsIn, IsOwnRun}
use Rattle.dtx_model.specs.History.{is_silent}
use Rattle.dtx_model.proofs.Bools.{or_first, or_right, or_second}
use Rattle.dtx_model.proofs.Local.{free-local}
use Rattle.history_table.proofs.HalfRows.{open_blocks}
use Rattle.history_table.proofs.Steady.{run_keeps}
use Rattle.settled_histories.proofs.Climbed.{told_at_rest, told_decided}
use Rattle.settled_histories.proofs.Ending.{ran_goes}
use Rattle.settled_histories.proofs.Idle.{idle}
use Rattle.script_histories.proofs.Blocks.{own_kept}
use Rattle.script_histories.proofs.Runs.{own_free}
use Rattle.outcome_law.proofs.StopsDecide.{stop_decides}
use Rattle.own_laws.specs.Waiting.{is_waiting_by}
use Rattle.own_laws.proofs.Heeded.{all_heard}
use Rattle.own_laws.proofs.SettledRuns.{IsSettledRun, at_rest, settled_run}
use Rattle.own_laws.proofs.Unpromoted.{told_unpromoted}

-- where the coordinator didn't stop and it waits for nothing, the client was told, promoted or not
told_running : (t : ℕ) (w : World) → AreMadeOnce (IsIn w.calls) → IsOwnRun t w → has is_stop w.past ≡ false → pending w ≡ [] → has is_commit w.past ≡ true
    → is_waiting_by (plan_of w.calls) w.past ≡ false → is_some (latest client_told_of w.past) ≡ true
told_running t w once run running settled asked idles = by (has is_promoting h) refl
  where
    h : List Entry
    h = w.past

    p : ℕ → Plan
    p = plan_of w.calls

    blocked : Bool
    blocked = has (λ c. blocks c.1 && not (is_complete h c)) (all_of clone_of h)

    silent : Bool
    silent = has (λ x. is_silent (p x.0.value) h x.0.value) (enlisted h)

    r : IsSettledRun (IsIn w.calls) t w
    r = settled_run (IsIn w.calls) t run.0 w once run.1 running settled

    closed : has is_open_block (clone_rows h) ≡ false
    closed = open_blocks h r.stands.keeps ∙ or_first blocked silent idles

    quiet : silent ≡ false
    quiet = or_second blocked silent idles

    by : (b : Bool) → has is_promoting h ≡ b → is_some (latest client_told_of h) ≡ true
    by true q = told_at_rest w.calls h (at_rest (IsIn w.calls) t w r q asked closed (all_heard p h r.stands.keeps quiet))
    by false q = told_unpromoted (IsIn w.calls) t w r (own_kept t w once run (ap not q)) (free-local (IsIn w.calls) t h (own_free t w run) (ap not q)) settled asked closed quiet

-- the client was told, or there is something that it waits for
pub told_own : (t : ℕ) (w : World) → AreMadeOnce (IsIn w.calls) → IsOwnRun t w → tied w.past ≡ true → pending w ≡ [] → has is_commit w.past ≡ true
    → (is_some (latest client_told_of w.past) || is_waiting_by (plan_of w.calls) w.past) ≡ true
told_own t w once run tie settled asked = by (has is_stop h) refl
  where
    h : List Entry
    h = w.past

    is_told : Bool
    is_told = is_some (latest client_told_of h)

    waits : (b : Bool) → is_waiting_by (plan_of w.calls) h ≡ b → (b ≡ false → is_told ≡ true) → (is_told || b) ≡ true
    waits true e f = or_right is_told true refl
    waits false e f = or_left is_told false (f refl)

    by : (b : Bool) → has is_stop h ≡ b → (is_told || is_waiting_by (plan_of w.calls) h) ≡ true
    by true q =
        let i = idle w.calls h settled in
        or_left is_told (is_waiting_by (plan_of w.calls) h)
        (told_decided w.calls h i.act
        (stop_decides h (run_keeps (IsIn w.calls) t run.0 w once run.1 tie) (ran_goes (IsIn w.calls) t run.0 w once run.1 tie) i.undelivered q))
    by false q = waits (is_waiting_by (plan_of w.calls) h) refl (told_running t w once run q settled asked)
