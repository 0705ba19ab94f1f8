-- A settled history of a script in which the coordinator didn't stop: each call that was answered `wait` got its answer, or an enlistment that was asked to promote stays silent.
use Rattle.std.proofs.Common.{◌≡◌, ℕ, ◌==◌, Bool, true, false, ◌&&◌, ◌||◌, List, [], ◌∷◌, slice_get, Some, refl, ◌∙◌, sym, subst}
use Rattle.std.specs.Prelude.{filter, not, if◌then◌else◌}
use Rattle.std.proofs.lemmas.Bool.{eqb-true, false_from_ne_true, or_left}
use Rattle.dtx_values.specs.declared.call.Call.{Call}
use Rattle.dtx_values.specs.declared.entry.Answer.TheVariants.{Wait}
use Rattle.dtx_values.specs.declared.entry.Entry.{Entry}
use Rattle.dtx_values.specs.declared.entry.Entry.TheVariants.{Answered, Called}
use Rattle.dtx_values.specs.declared.number.ActorNo.{ActorNo}
use Rattle.dtx_values.specs.declared.row.Row.{Row}
use Rattle.dtx_values.specs.declared.script.Line.{Line}
use Rattle.dtx_values.specs.Class.{is_promotable, is_volatile}
use Rattle.dtx_values.specs.Row.{has_voted, is_marked}
use Rattle.dtx_model.specs.declared.waiting.EnteredCall.{EnteredCall}
use Rattle.dtx_model.specs.Words.{all_of, each, has}
use Rattle.dtx_model.specs.Entries.{is_asked, is_decision, is_promoted}
use Rattle.dtx_model.specs.Observed.{observe, rows}
use Rattle.dtx_model.specs.Outcome.{enlisted}
use Rattle.dtx_model.specs.Plans.{plan_of}
use Rattle.dtx_model.specs.Promotes.{is_promoting, is_wait}
use Rattle.dtx_model.specs.Tied.{is_stop}
use Rattle.dtx_model.specs.Replies.{may_still_vote, owes_vote}
use Rattle.dtx_model.specs.Waiting.{Waiter, call_at, waiter_line, waiting, wanted}
use Rattle.dtx_model.specs.Steps.{Step}
use Rattle.dtx_model.specs.World.{World}
use Rattle.dtx_model.specs.Grammar.{are_named_well}
use Rattle.dtx_model.specs.Caused.{FreelyCaused, IsCallOf, Ran, entered_in, plans_of}
use Rattle.history_table.specs.Waited.{AreCallsAnswered, is_answer_of, waiting_line}
use Rattle.dtx_model.specs.History.{is_silent_to_promote, is_still_lost}
use Rattle.dtx_model.proofs.Bools.{and_both, and_left, not_both, or_case, or_right}
use Rattle.history_table.proofs.Lists.{has-insert}
use Rattle.history_table.proofs.Scans.{each_more, has_more}
use Rattle.history_table.proofs.Tests.{eq_self}
use Rattle.history_table.proofs.Owned.{has_rows}
use Rattle.history_table.proofs.EntryTests.{is_volatile_of}
use Rattle.history_table.proofs.Table.{stands_volatile}
use Rattle.script_histories.proofs.EvidentOwners.{asked_volatile}
use Rattle.history_table.proofs.HalfRows.{row_marked, rows_enlisted}
use Rattle.settled_histories.proofs.SameRows.{found_passes, row_found}
use Rattle.settled_histories.proofs.Climbed.{none_waiting}
use Rattle.settled_histories.proofs.Owed.{ArePromised, IsPromised, unvolatile}
use Rattle.script_histories.proofs.PromotesRuns.{waits_promoting}
use Rattle.outcome_law.proofs.Told.{IsSettledRun, none_row, promise_planned, settled_run, unlost_row, unmoved}
use Rattle.script_histories.proofs.WaitsOver.{ran_over}

-- Each call that was answered `wait` got its answer, or still waits.
others_left : (n m : ℕ) (ws : List Waiter) → (n == m) ≡ false → has (λ w. n == w.0) ws ≡ true → has (λ w. n == w.0) (filter (λ w. not (m == w.0)) ws) ≡ true
others_left n m [] o k = absurd cc
others_left n m (w ∷ ws) o k = step (others_left n m ws o) (m == w.0) refl k
  where
    step : (has (λ v. n == v.0) ws ≡ true → has (λ v. n == v.0) (filter (λ v. not (m == v.0)) ws) ≡ true) → (b : Bool) → (m == w.0) ≡ b → ((n == w.0) || has (λ v. n == v.0) ws) ≡ true
        → has (λ v. n == v.0) (if not b then w ∷ filter (λ v. not (m == v.0)) ws else filter (λ v. not (m == v.0)) ws) ≡ true
    step ih true q k =
        or_case (n == w.0) (has (λ v. n == v.0) ws)
        (λ e. let same : n ≡ m = eqb-true n w.0 e ∙ sym (eqb-true m w.0 q) in absurd (not_both (n == m) (subst (λ l. (n == l) ≡ true) same (eq_self n)) o)) ih k
    step ih false q k =
        or_case (n == w.0) (has (λ v. n == v.0) ws) (λ e. or_left (n == w.0) (has (λ v. n == v.0) (filter (λ v. not (m == v.0)) ws)) e)
        (λ e. or_right (n == w.0) (has (λ v. n == v.0) (filter (λ v. not (m == v.0)) ws)) (ih e)) k

-- the call of this line got its answer, or waits
abbrev is_heard : List EnteredCall → List Entry → ℕ → Bool
is_heard ks h n = has (is_answer_of n) h || has (λ w. n == w.0) (waiting ks h)

all_heard : (ks : List EnteredCall) (h : List Entry) → each (is_heard ks h) (all_of waiting_line h) ≡ true
all_heard ks [] = refl
all_heard ks (Called m a Wait ∷ h) =
    let v : Waiter = (m, wanted (call_at ks m)) in
    let now = Called m a Wait ∷ h in
    and_both (is_heard ks now m) (each (is_heard ks now) (all_of waiting_line h))
    (or_right (has (is_answer_of m) h) (has (λ w. m == w.0) (waiting ks now))
    (has-insert (λ w. m == w.0) waiter_line v (waiting ks h) ∙ or_left (m == m) (has (λ w. m == w.0) (waiting ks h)) (eq_self m)))
    (each_more (is_heard ks h) (is_heard ks now)
    (λ n k. or_case (has (is_answer_of n) h) (has (λ w. n == w.0) (waiting ks h)) (λ q. or_left (has (is_answer_of n) h) (has (λ w. n == w.0) (waiting ks now)) q)
    (λ q. or_right (has (is_answer_of n) h) (has (λ w. n == w.0) (waiting ks now))
    (has-insert (λ w. n == w.0) waiter_line v (waiting ks h) ∙ or_right (n == m) (has (λ w. n == w.0) (waiting ks h)) q)) k)
    (all_of waiting_line h) (all_heard ks h))
all_heard ks (Answered m x ∷ h) = each_more (is_heard ks h) (is_heard ks (Answered m x ∷ h)) (λ n k. step n (n == m) refl k) (all_of waiting_line h) (all_heard ks h)
  where
    step : (n : ℕ) (b : Bool) → (n == m) ≡ b → is_heard ks h n ≡ true → ((b || has (is_answer_of n) h) || has (λ w. n == w.0) (filter (λ w. not (m == w.0)) (waiting ks h))) ≡ true
    step n true q k = refl
    step n false q k =
        let left = has (λ w. n == w.0) (filter (λ w. not (m == w.0)) (waiting ks h)) in
        or_case (has (is_answer_of n) h) (has (λ w. n == w.0) (waiting ks h)) (λ e. or_left (has (is_answer_of n) h) left e)
        (λ e. or_right (has (is_answer_of n) h) left (others_left n m (waiting ks h) q e)) k
all_heard ks (x ∷ h) = all_heard ks h

-- so where none waits, each got its answer
all_answered : (ks : List EnteredCall) (h : List Entry) → waiting ks h ≡ [] → each (λ n. has (is_answer_of n) h) (all_of waiting_line h) ≡ true
all_answered ks h e =
    each_more (is_heard ks h) (λ n. has (is_answer_of n) h)
    (λ n k. or_case (has (is_answer_of n) h) (has (λ w. n == w.0) (waiting ks h)) (λ q. q) (λ q. absurd (not_both (has (λ w. n == w.0) (waiting ks h)) q (none n))) k)
    (all_of waiting_line h) (all_heard ks h)
  where
    none : (n : ℕ) → has (λ w. n == w.0) (waiting ks h) ≡ false
    none n = subst (λ (ws : List Waiter). has (λ w. n == w.0) ws ≡ false) (sym e) refl

-- which is so once the outcome is decided
pub decided_answered : (G : ℕ → ActorNo → Call → Type 0) (t : ℕ) (steps : List Step) (w : World) → Ran G t steps w → has is_decision w.past ≡ true
    → each (λ n. has (is_answer_of n) w.past) (all_of waiting_line w.past) ≡ true
decided_answered G t steps w ran d = all_answered w.calls w.past (ran_over G t steps w ran d)

-- and where no call was to wait, there is none of which to say it
none_called : (h : List Entry) (p : ℕ → Bool) → has is_wait h ≡ false → each p (all_of waiting_line h) ≡ true
none_called [] p n = refl
none_called (Called m a Wait ∷ h) p n = absurd cc
none_called (x ∷ h) p n = none_called h p n

-- While it isn't promoted, a promotable owes no vote; so where none is silent to that, its plan has a reply to promote.
promised : (s : List Line) (t : ℕ) (h : List Entry) → IsSettledRun s t h → has is_promoted h ≡ false → has (λ x. not (is_still_lost x.0.value h) && is_silent_to_promote (plans_of s x.0.value) h x.0.value) (enlisted h) ≡ false
    → ArePromised (plan_of (entered_in s h)) h
promised s t h r u quiet = λ i x e promotable there.
    let n = x.number.value in
    let keeps = r.stands.keeps in
    subst (λ p. IsPromised p h x) (sym (r.plans n (rows_enlisted h i x keeps e)))
    (record {
      votes = λ o z. unasked i x e promotable (sym (row_marked h i x keeps e) ∙ marked x o);
      promotes = promise_planned (plans_of s n) h x
          (unlost_row h x keeps there (is_silent_to_promote (plans_of s n) h n) (none_row (λ m. not (is_still_lost m h) && is_silent_to_promote (plans_of s m) h m) h i x quiet e));
    })
  where
    marked : (x : Row) → owes_vote (observe h) x ≡ true → is_marked x ≡ true
    marked x o = and_left (is_marked x) (not (has_voted x)) (and_left (is_marked x && not (has_voted x)) (may_still_vote (observe h) x) o)

    unasked : (i : ℕ) (x : Row) → slice_get (rows h) i ≡ Some x → is_promotable x.class ≡ true → has (is_asked x.number.value) h ≡ true → ⊥
    unasked i x e promotable asked =
        let n = x.number.value in
        or_case (stands_volatile n h) (has is_promoted h)
        (λ v. unvolatile x.class
        (found_passes h n (λ y. is_volatile y.class) x r.once (row_found h i x r.once e)
        (has_rows (λ f c. (n == f.value) && is_volatile c) h ∙ has_more (is_volatile_of n) (λ y. (n == y.0.value) && is_volatile y.1) (λ y q. q) (enlisted h) v)) promotable)
        (λ p. not_both (has is_promoted h) p u) (asked_volatile n h r.stands.keeps asked)

-- an enlistment that was asked to promote, and isn't lost, stays silent
abbrev pub is_one_silent : List Line → List Entry → Bool
is_one_silent s h = has (λ x. not (is_still_lost x.0.value h) && is_silent_to_promote (plans_of s x.0.value) h x.0.value) (enlisted h)

-- each call that was answered `wait` got its answer
abbrev pub are_all_answered : List Entry → Bool
are_all_answered h = each (λ n. has (is_answer_of n) h) (all_of waiting_line h)

-- Each waiting call is answered: by the decision where there is one; else the promotion is over, and so is each enlistment that waited for it.
pub calls_answered : (s : List Line) (t : ℕ) (h : List Entry) → are_named_well s ≡ true → FreelyCaused (IsCallOf s t) t h → has is_stop h ≡ false → AreCallsAnswered s h
calls_answered s t h named c running = λ settled. began (settled_run s t h named c running settled) (has is_promoting h) refl
  where
    silent : Bool
    silent = is_one_silent s h

    answered : Bool
    answered = are_all_answered h

    undecided : IsSettledRun s t h → has is_promoting h ≡ true → has is_decision h ≡ false → (b : Bool) → silent ≡ b → (answered || b) ≡ true
    undecided r p d true q = or_right answered true refl
    undecided r p d false q =
        or_left answered false (all_answered (entered_in s h) h (none_waiting (entered_in s h) h (unmoved s t h r p (λ n. promised s t h r n q)) d))

    decided : IsSettledRun s t h → has is_promoting h ≡ true → (b : Bool) → has is_decision h ≡ b → (answered || silent) ≡ true
    decided r p true d = or_left answered silent (decided_answered (IsCallOf s t) t r.steps (record { calls = r.calls; past = h }) r.ran d)
    decided r p false d = undecided r p d silent refl

    began : IsSettledRun s t h → (b : Bool) → has is_promoting h ≡ b → (answered || silent) ≡ true
    began r true p = decided r p (has is_decision h) refl
    began r false p =
        or_left answered silent
        (none_called h (λ n. has (is_answer_of n) h)
        (false_from_ne_true (has is_wait h) (λ w. not_both (has is_promoting h) (waits_promoting s t r.steps (record { calls = r.calls; past = h }) r.ran r.stands.keeps w) p)))
