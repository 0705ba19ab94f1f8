-- What is pending where nothing is promoted is that at the local side, by the plans of the script; and what a settled history comes to there: the local side
-- has no act, and to no reply that is due a plan has an answer.
use Rattle.std.proofs.Common.{◌≡◌, ℕ, true, List, filter, ◌∙◌, ◌++◌, map, ap, sym, subst, []}
use Rattle.dtx_values.specs.declared.entry.Entry.{Entry}
use Rattle.dtx_values.specs.declared.number.EnlNo.{EnlNo}
use Rattle.dtx_values.specs.declared.note.Note.{Note}
use Rattle.dtx_values.specs.declared.script.Line.{Line}
use Rattle.dtx_values.specs.declared.note.Plan.{Plan}
use Rattle.dtx_model.specs.Observed.{observe, rows, Observed}
use Rattle.dtx_model.specs.Waiting.{managed}
use Rattle.dtx_model.specs.Plans.{plan_of}
use Rattle.dtx_model.specs.Acts.{act_entries as full_act}
use Rattle.dtx_model.specs.Replies.{all_due, is_answered, due_of}
use Rattle.dtx_model.specs.World.{half}
use Rattle.dtx_model.specs.Steps.{ReplyOf, local_if, local_pending, pending, replies_due}
use Rattle.dtx_model.specs.Caused.{IsCallOf, entered_in, plans_of, world_of, Settled}
use Rattle.dtx_model.specs.Grammar.{OfEnlistment, are_named_well}
use Rattle.dtx_model.proofs.Local.{pending-local}
use Rattle.dtx_model.proofs.Narrow.{act_entries, due_note}
use Rattle.dtx_model.proofs.Narrowing.{act-narrow}
use Rattle.dtx_model.proofs.Unpromoted.{narrow, are_local, observe-local, half-local}
use Rattle.dtx_model.specs.Words.{each}
use Rattle.history_table.proofs.Scans.{each-at}
use Rattle.history_table.proofs.Lists.{each_from_at}
use Rattle.history_table.proofs.EntryTests.{is_unplanned}
use Rattle.settled_histories.proofs.Idle.{due_same, append_second, no_act, named_rows, none_answered, no_name, append_first}
use Rattle.script_histories.proofs.Rule.{ruled}
use Rattle.script_histories.proofs.RuledRows.{rows_enlisted}
use Rattle.script_histories.proofs.Runs.{IsLocalRun}
use Rattle.script_histories.proofs.NamedCalls.{enlisted_namer, name_called}
use Rattle.script_histories.proofs.Planned.{plan_same}
use Rattle.script_histories.proofs.Dues.{row_due}
use Rattle.script_histories.proofs.Settled.{AreUnplanned}

-- so they are by the calls that were entered and by the lines of the script
due_planned : (s : List Line) (t : ℕ) (h : List Entry) → are_named_well s ≡ true → IsLocalRun (IsCallOf s t) h → ruled h ≡ true
    → filter (is_answered (plan_of (entered_in s h))) (all_due (narrow (observe h))) ≡ filter (is_answered (plans_of s)) (all_due (narrow (observe h)))
unfolding all_due observe
due_planned s t h named run r =
    due_same (plan_of (entered_in s h)) (plans_of s) (narrow (observe h)) (rows h)
    (λ k x e. let n = x.number.value in plan_same s t n h named (name_called (IsCallOf s t) (OfEnlistment n) h run (enlisted_namer n h ∙ rows_enlisted h k x r e)))

-- what is pending in a history of the script is that at the local side, by the plans of the script
pub pending_planned : (s : List Line) (t : ℕ) (h : List Entry) → are_named_well s ≡ true → IsLocalRun (IsCallOf s t) h → are_local h ≡ true → ruled h ≡ true
    → pending (world_of s h) ≡ local_pending (plans_of s) (half (world_of s h))
unfolding local_pending
pending_planned s t h named run p r =
    let own : filter (is_answered (plan_of (entered_in s h))) (all_due (observe h)) ≡ filter (is_answered (plans_of s)) (all_due (observe h)) =
    subst (λ (o : Observed). filter (is_answered (plan_of (entered_in s h))) (all_due o) ≡ filter (is_answered (plans_of s)) (all_due o)) (sym (observe-local h p)) (due_planned s t h named run r) in
    pending-local (world_of s h) p ∙ ap (λ (xs : List (EnlNo × Note)). map (λ x. ReplyOf x.0) xs ++ local_if (full_act (half (world_of s h)))) own

-- nothing is pending at the local side
settled_here : (s : List Line) (t : ℕ) (h : List Entry) → are_named_well s ≡ true → IsLocalRun (IsCallOf s t) h → are_local h ≡ true → ruled h ≡ true → Settled s h
    → replies_due (plans_of s) (half (world_of s h)) ++ local_if (full_act (half (world_of s h))) ≡ []
unfolding local_pending
settled_here s t h named run p r e = sym (pending_planned s t h named run p r) ∙ e

-- where nothing is pending, the local act has no entries
pub settled_act : (s : List Line) (t : ℕ) (h : List Entry) → are_named_well s ≡ true → IsLocalRun (IsCallOf s t) h → are_local h ≡ true → ruled h ≡ true → Settled s h → act_entries (observe h) ≡ []
settled_act s t h named run p r e =
    sym (ap full_act (half-local (entered_in s h) h p) ∙ act-narrow (observe h) (managed (entered_in s h) h))
    ∙ no_act (full_act (half (world_of s h))) (append_second (replies_due (plans_of s) (half (world_of s h))) (local_if (full_act (half (world_of s h)))) (settled_here s t h named run p r e))

-- where no reply is pending, each row's plan is silent to what is due of it
pub rows_unplanned : (p : ℕ → Plan) (h : List Entry) → ruled h ≡ true → filter (is_answered p) (all_due (narrow (observe h))) ≡ []
    → each (λ x. is_unplanned (p x.number.value) (due_note (observe h) x)) (rows h) ≡ true
unfolding all_due observe
rows_unplanned p h r k =
    let o = narrow (observe h) in
    let each_name = named_rows (λ e. is_unplanned (p e.value) (due_of o e.value)) (rows h) (none_answered p o (map (λ x. x.number) (rows h)) k) in
    each_from_at (λ x. is_unplanned (p x.number.value) (due_note (observe h) x)) (rows h)
    (λ i x e. subst (λ n. is_unplanned (p x.number.value) n ≡ true) (row_due h i x r e) (each-at (λ x. is_unplanned (p x.number.value) (due_of o x.number.value)) (rows h) i x each_name e))

-- and to none that is due the script's line has an answer
pub settled_unplanned : (s : List Line) (t : ℕ) (h : List Entry) → are_named_well s ≡ true → IsLocalRun (IsCallOf s t) h → are_local h ≡ true → ruled h ≡ true → Settled s h → AreUnplanned s h
settled_unplanned s t h named run p r e =
    rows_unplanned (plans_of s) h r
    (ap (λ (o : Observed). filter (is_answered (plans_of s)) (all_due o)) (sym (observe-local h p))
    ∙ no_name (filter (is_answered (plans_of s)) (all_due (observe h)))
    (append_first (replies_due (plans_of s) (half (world_of s h))) (local_if (full_act (half (world_of s h)))) (settled_here s t h named run p r e)))
