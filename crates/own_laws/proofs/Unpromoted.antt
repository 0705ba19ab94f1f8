-- A settled world of own calls in which nothing is promoted, the commit was asked for, and that waits for nothing: its client was told.
use Rattle.std.proofs.Common.{◌≡◌, ◌==◌, ℕ, Bool, true, false, ◌&&◌, ◌||◌, List, [], ◌∷◌, slice_get, Option, Some, None, filter, refl, ◌∙◌, ap, sym}
use Rattle.std.specs.Prelude.{find, if◌then◌else◌, is_none, is_some, not}
use Rattle.std.proofs.lemmas.Bool.{false_from_ne_true, or_left}
use Rattle.dtx_values.specs.declared.call.Call.{Call}
use Rattle.dtx_values.specs.declared.entry.Entry.{Entry}
use Rattle.dtx_values.specs.declared.entry.Entry.TheVariants.{Logged}
use Rattle.dtx_values.specs.declared.note.Plan.{Plan}
use Rattle.dtx_values.specs.declared.number.ActorNo.{ActorNo}
use Rattle.dtx_values.specs.declared.number.EnlNo.{EnlNo}
use Rattle.dtx_values.specs.declared.row.Row.{Row}
use Rattle.dtx_values.specs.declared.words.Class.{Class}
use Rattle.dtx_values.specs.declared.words.Outcome.{Outcome}
use Rattle.dtx_values.specs.Class.{is_volatile}
use Rattle.dtx_values.specs.Clones.{is_open_block}
use Rattle.dtx_values.specs.Row.{has_voted, is_marked}
use Rattle.dtx_model.specs.Words.{each, has, latest}
use Rattle.dtx_model.specs.Entries.{client_told_of, decision_of, handed_of, is_any_owner, is_commit, is_decision, is_hand, is_sealed, is_vote}
use Rattle.dtx_model.specs.Observed.{Observed, clone_rows, observe, rows}
use Rattle.dtx_model.specs.Outcome.{can_own, durables, enlisted}
use Rattle.dtx_model.specs.Half.{is_gone, is_handed}
use Rattle.dtx_model.specs.Plans.{owner_reply, plan_of}
use Rattle.dtx_model.specs.Acts.{act_entries as full_act}
use Rattle.dtx_model.specs.Replies.{all_due, is_answered}
use Rattle.dtx_model.specs.Tied.{is_logged}
use Rattle.dtx_model.specs.Waiting.{managed}
use Rattle.dtx_model.specs.World.{World, half}
use Rattle.dtx_model.specs.Steps.{local_if, local_pending, pending, replies_due}
use Rattle.dtx_model.specs.History.{is_silent}
use Rattle.dtx_model.proofs.Bools.{and_both, and_left, not_both, not_false, or_right}
use Rattle.dtx_model.proofs.Local.{pending-local}
use Rattle.dtx_model.proofs.Narrow.{act_by, act_entries, due_note, is_to_tell, open_note}
use Rattle.dtx_model.proofs.Narrowing.{act-narrow}
use Rattle.dtx_model.proofs.Unpromoted.{are_local, half-local, is_local, observe-local}
use Rattle.history_table.proofs.EntryTests.{is_answer, is_only, is_unplanned, undecided}
use Rattle.history_table.proofs.Handed.{any_answer}
use Rattle.history_table.proofs.Lists.{each_from_at}
use Rattle.history_table.proofs.NextActs.{has_answered, told_all}
use Rattle.history_table.proofs.Owned.{has_filter}
use Rattle.history_table.proofs.Scans.{each-at, has_less, none_more}
use Rattle.settled_histories.proofs.Idle.{append_first, idle, no_name}
use Rattle.settled_histories.proofs.Owed.{all_answered}
use Rattle.script_histories.proofs.Dues.{one_class, voted_volatile}
use Rattle.script_histories.proofs.Evidence.{hand_stands}
use Rattle.script_histories.proofs.Going.{IsKept, going_unanswered}
use Rattle.script_histories.proofs.Rule.{ruled}
use Rattle.script_histories.proofs.RuledRows.{hand_seen, row_voted}
use Rattle.script_histories.proofs.Settled.{by_seal, unhanded_by}
use Rattle.outcome_law.proofs.Settlings.{rows_unplanned}
use Rattle.own_laws.proofs.Heeded.{IsHeard, all_heard, is_silent_to_hand, rows_heard}
use Rattle.own_laws.proofs.SettledRuns.{IsSettledRun}

-- where nothing is pending, the local act has no entries
own_act : (w : World) → are_local w.past ≡ true → pending w ≡ [] → act_entries (observe w.past) ≡ []
own_act w p e = sym (ap full_act (half-local w.calls w.past p) ∙ act-narrow (observe w.past) (managed w.calls w.past)) ∙ (idle w.calls w.past e).act

-- and to no reply that is due of a row its plan has an answer
own_unplanned : (w : World) → are_local w.past ≡ true → ruled w.past ≡ true → pending w ≡ []
    → each (λ x. is_unplanned (plan_of w.calls x.number.value) (due_note (observe w.past) x)) (rows w.past) ≡ true
unfolding local_pending
own_unplanned w p r e =
    rows_unplanned (plan_of w.calls) w.past r
    (ap (λ (o : Observed). filter (is_answered (plan_of w.calls)) (all_due o)) (sym (observe-local w.past p))
    ∙ no_name (filter (is_answered (plan_of w.calls)) (all_due (observe w.past)))
    (append_first (replies_due (plan_of w.calls) (half w)) (local_if (full_act (half w))) (sym (pending-local w p) ∙ e)))

-- nothing is logged where nothing is promoted
unlogged : (h : List Entry) → are_local h ≡ true → has is_logged h ≡ false
unlogged h p = none_more is_local is_logged one h p
  where
    one : (x : Entry) → is_local x ≡ true → is_logged x ≡ false
    one Logged k = absurd cc
    one _ k = refl

-- whoever was handed the commit didn't vote
handed_unvoted : (e : ℕ) (h : List Entry) → ruled h ≡ true → has (is_hand e) h ≡ true → has (is_vote e) h ≡ false
handed_unvoted e h r k =
    false_from_ne_true (has (is_vote e) h)
    (λ v. one_class e h r (voted_volatile e h r v) (sym (has_filter (λ x. e == x.0.value) (λ x. not (is_volatile x.1)) (enlisted h)) ∙ only_there e (durables h) (hand_stands e h r k).alone))
  where
    only_there : (e : ℕ) (xs : List (EnlNo × Class)) → is_only e xs ≡ true → has (λ x. e == x.0.value) xs ≡ true
    only_there e [] o = absurd cc
    only_there e (x ∷ []) o = or_left (e == x.0.value) false (and_left (e == x.0.value) (can_own x.1) o)
    only_there e (x ∷ y ∷ ys) o = absurd cc

-- a plan that has no answer as the owner plans none
no_reply : (o : Option Outcome) → is_none (owner_reply o) ≡ true → is_none o ≡ true
no_reply (Some x) q = absurd cc
no_reply None q = refl

-- where the commit is handed to an enlistment that voted if it was asked, its answer as the owner is due: a plan that is silent to what is due has none
hand_due : (p : Plan) (d g m v w : Bool) → d ≡ false → g ≡ false → (not m || v) ≡ true → w ≡ true → is_unplanned p (if d || g then None else open_note (m && not v) w) ≡ true → is_none p.owner ≡ true
hand_due p true g m v w e f a k u = absurd cc
hand_due p false true m v w e f a k u = absurd cc
hand_due p false false m v false e f a k u = absurd cc
hand_due p false false true false true e f a k u = absurd cc
hand_due p false false true true true e f a k u = no_reply p.owner u
hand_due p false false false v true e f a k u = no_reply p.owner u

-- so none was handed the commit, where nothing is decided: its plan would have the answer, or it would be gone, and voted
row_unhanded : (p : Plan) (h : List Entry) (i : ℕ) (x : Row) → IsKept h → latest decision_of h ≡ None → slice_get (rows h) i ≡ Some x → (is_gone (observe h) x.number.value ≡ true → has_voted x ≡ true)
    → (is_gone (observe h) x.number.value ≡ false → IsHeard p h x.number.value) → has_answered x ≡ true → is_unplanned p (due_note (observe h) x) ≡ true
    → is_handed (latest handed_of h) x.number.value ≡ false
unfolding observe
row_unhanded p h i x k d e cast heard answered due =
    false_from_ne_true (is_handed (latest handed_of h) n)
    (λ handed.
    let given : has (is_hand n) h ≡ true = sym (hand_seen n h k.rules) ∙ handed in
    let there : is_gone (observe h) n ≡ false =
    false_from_ne_true (is_gone (observe h) n) (λ g. not_both (has (is_vote n) h) (sym (row_voted h i x k.rules e) ∙ cast g) (handed_unvoted n h k.rules given)) in
    let unanswered : has (is_any_owner n) h ≡ false = has_less (is_any_owner n) is_answer (any_answer n) h (going_unanswered h (undecided h d) k.going) in
    let bare : is_none p.owner ≡ true =
    hand_due p (is_some (latest decision_of h)) (is_gone (observe h) n) (is_marked x) (has_voted x) (is_handed (latest handed_of h) n) (ap is_some d) there answered handed due in
    not_both (is_silent_to_hand p h n)
    (and_both (has (is_hand n) h && is_none p.owner) (not (has (is_any_owner n) h)) (and_both (has (is_hand n) h) (is_none p.owner) given bare) (not_false (has (is_any_owner n) h) unanswered))
    (heard there).hand)
  where
    n : ℕ
    n = x.number.value

-- in a settled world in which nothing is promoted, the commit was asked for, no blocking clone is open and no enlistment is silent, the client was told
pub told_unpromoted : (G : ℕ → ActorNo → Call → Type 0) (t : ℕ) (w : World) → IsSettledRun G t w → IsKept w.past → are_local w.past ≡ true → pending w ≡ [] → has is_commit w.past ≡ true
    → has is_open_block (clone_rows w.past) ≡ false → has (λ x. is_silent (plan_of w.calls x.0.value) w.past x.0.value) (enlisted w.past) ≡ false → is_some (latest client_told_of w.past) ≡ true
unfolding observe act_entries
told_unpromoted G t w r kept home settled asked closed quiet = by (latest decision_of h) refl (own_act w home settled)
  where
    h : List Entry
    h = w.past

    p : ℕ → Plan
    p = plan_of w.calls

    answered : has is_decision h ≡ false → each has_answered (rows h) ≡ true
    answered u = all_answered p h (r.unowed u) (all_heard p h r.stands.keeps quiet) u (unlogged h home)

    still : latest decision_of h ≡ None → each (λ x. not (can_own x.class) || not (is_handed (latest handed_of h) x.number.value)) (rows h) ≡ true
    still d =
        let u = undecided h d in
        each_from_at (λ x. not (can_own x.class) || not (is_handed (latest handed_of h) x.number.value)) (rows h)
        (λ i x e.
        let n = x.number.value in
        or_right (not (can_own x.class)) (not (is_handed (latest handed_of h) n))
        (not_false (is_handed (latest handed_of h) n)
        (row_unhanded (p n) h i x kept d e (λ g. ((r.unowed u).spared i x e g).has_cast) (rows_heard p h i x r.stands.keeps quiet e) (each-at has_answered (rows h) i x (answered u) e)
        (each-at (λ y. is_unplanned (p y.number.value) (due_note (observe h) y)) (rows h) i x (own_unplanned w home kept.rules settled) e))))

    by : (d : Option Outcome) → latest decision_of h ≡ d → act_by d (observe h) ≡ [] → is_some (latest client_told_of h) ≡ true
    by (Some x) d a = told_all x (find (is_to_tell (observe h) x) (observe h).listeners) (latest client_told_of h) a
    by None d a = by_seal h (has is_commit h) (has is_sealed h) refl asked kept.rules closed (answered (undecided h d)) (unhanded_by h kept.rules (still d)) a
