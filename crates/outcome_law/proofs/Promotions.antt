-- A settled history of a script in which a promotion began and that can commit is committed.
use Rattle.std.proofs.Common.{◌≡◌, ℕ, true, List}
use Rattle.dtx_values.specs.declared.entry.Entry.{Entry}
use Rattle.dtx_values.specs.declared.script.Line.{Line}
use Rattle.dtx_values.specs.declared.words.Outcome.TheVariants.{Committed}
use Rattle.dtx_model.specs.Words.{has}
use Rattle.dtx_model.specs.Entries.{is_client_told}
use Rattle.dtx_model.specs.Grammar.{are_named_well}
use Rattle.dtx_model.specs.Plans.{plan_of}
use Rattle.dtx_model.specs.Promotes.{is_promoting}
use Rattle.dtx_model.specs.Caused.{FreelyCaused, IsCallOf, Settled, entered_in, plans_of}
use Rattle.dtx_model.specs.History.{CanCommit}
use Rattle.settled_histories.proofs.Unblamed.{nothing_bad}
use Rattle.settled_histories.proofs.Owed.{all_heeded}
use Rattle.script_histories.proofs.ClosedTables.{none_open}
use Rattle.outcome_law.proofs.ClosedRows.{kept_shut}
use Rattle.settled_histories.proofs.Climbed.{committed_at_rest}
use Rattle.settled_histories.proofs.Idle.{same_willing}
use Rattle.settled_histories.proofs.UnstoppedTies.{unlost_unstopped}
use Rattle.outcome_law.proofs.Told.{at_rest, settled_run}

-- all are willing, so each reply that is due is planned, and nothing bad came: at rest, its client was told that it is committed
pub promoted_committed : (s : List Line) (t : ℕ) (h : List Entry) → are_named_well s ≡ true → FreelyCaused (IsCallOf s t) t h → Settled s h → CanCommit s h → has is_promoting h ≡ true
    → has (is_client_told Committed) h ≡ true
promoted_committed s t h named c settled can began =
    let r = settled_run s t h named c (unlost_unstopped h can.unlost) settled in
    committed_at_rest (entered_in s h) h
    (at_rest s t h r began can.asked (none_open h (kept_shut h r.stands.keeps) can.completed)
    (all_heeded (plan_of (entered_in s h)) h (same_willing (plan_of (entered_in s h)) (plans_of s) h r.plans can.willing)))
    (nothing_bad (plans_of s) h r.wired r.lone can.in_time can.ended_by_none can.unlost r.more.caused can.planned can.willing)
