-- In a settled history of a script, whatever was lost, stopped and started again, each that came back was told: nothing is on the way to it, so nothing is decided where it wasn't.
use Rattle.std.proofs.Common.{◌≡◌, ℕ, ◌==◌, Bool, true, false, ◌&&◌, ◌||◌, List, [], ◌∷◌, refl, ap}
use Rattle.std.specs.Prelude.{is_some, not}
use Rattle.std.specs.List.{flat_map}
use Rattle.std.proofs.lemmas.Bool.{or_left}
use Rattle.dtx_values.specs.declared.entry.Entry.{Entry}
use Rattle.dtx_values.specs.declared.entry.Entry.TheVariants.{Reenlisted}
use Rattle.dtx_values.specs.declared.message.Conn.TheVariants.{Again}
use Rattle.dtx_values.specs.declared.message.Dir.TheVariants.{Up, Down}
use Rattle.dtx_values.specs.declared.number.EnlNo.{EnlNo}
use Rattle.dtx_values.specs.declared.script.Line.{Line}
use Rattle.dtx_model.specs.Words.{has}
use Rattle.dtx_model.specs.Entries.{is_told}
use Rattle.dtx_model.specs.Observed.{ends_of}
use Rattle.dtx_model.specs.Learned.{are_answered, breaks_off, is_answered, is_decided_there}
use Rattle.dtx_model.specs.Tied.{tied}
use Rattle.dtx_model.specs.Wires.{opens}
use Rattle.dtx_model.specs.Coordinated.{coordinate}
use Rattle.dtx_model.specs.Steps.{deliveries_on}
use Rattle.dtx_model.specs.Caused.{FreelyCaused, IsCallOf, entered_in}
use Rattle.dtx_model.specs.Grammar.{are_named_well}
use Rattle.dtx_model.specs.History.{AreAnswered}
use Rattle.dtx_model.proofs.Bools.{and_both, not_both, not_false, or_right}
use Rattle.history_table.proofs.Tests.{eq_self}
use Rattle.history_table.proofs.Crossed.{since_opened}
use Rattle.history_table.proofs.Keeping.{Keeps}
use Rattle.history_table.proofs.Steady.{run_keeps}
use Rattle.history_table.proofs.Names.{script_once}
use Rattle.settled_histories.proofs.Idle.{idle, none_left, none_pending_on}
use Rattle.settled_histories.proofs.EndsNoted.{noted}
use Rattle.history_table.proofs.EntryTests.{is_return}
use Rattle.settled_histories.proofs.Awaiting.{is_back, is_underway}
use Rattle.settled_histories.proofs.Back.{IsBack}
use Rattle.settled_histories.proofs.Returning.{IsReturning, ran_returning}
use Rattle.settled_histories.proofs.AllCome.{ran_stood}
use Rattle.settled_histories.proofs.Awaits.{withholds}
use Rattle.settled_histories.proofs.OnePhase.{withheld_open}

-- Where nothing is pending, nothing is on the way to it.
none_underway : (e : EnlNo) (h : List Entry) → has (opens (Again e)) h ≡ true → flat_map (deliveries_on h) (ends_of h) ≡ [] → is_underway e h ≡ false
none_underway e h o q =
    let left = none_pending_on (Again e) h (ends_of h) q (noted (Again e) h o) in
    rw (none_left (Again e) Up h left.0, none_left (Again e) Down h left.1) refl

-- Where whoever is back at the end is answered by what stands after, each that came back was.
answered_back : (behind h : List Entry) → ((e : EnlNo) → is_back e.value h ≡ true → (has (breaks_off e.value) behind || has (is_told e.value) behind) ≡ true) → are_answered true behind h ≡ true
answered_back behind [] f = refl
answered_back behind (x ∷ h) f = and_both (is_answered true behind x) (are_answered true (x ∷ behind) h) (one x f) (answered_back (x ∷ behind) h (λ e b. more e b))
  where
    one : (x : Entry) → ((e : EnlNo) → is_back e.value (x ∷ h) ≡ true → (has (breaks_off e.value) behind || has (is_told e.value) behind) ≡ true) → is_answered true behind x ≡ true
    one (Reenlisted e) g = or_left (has (breaks_off e.value) behind || has (is_told e.value) behind) false (g e (or_left (e.value == e.value) _ (eq_self e.value)))
    one _ g = refl

    more : (e : EnlNo) → is_back e.value h ≡ true → (has (breaks_off e.value) (x ∷ behind) || has (is_told e.value) (x ∷ behind)) ≡ true
    more e b = by (breaks_off e.value x) (is_told e.value x) refl refl
      where
        by : (p q : Bool) → breaks_off e.value x ≡ p → is_told e.value x ≡ q → ((p || has (breaks_off e.value) behind) || (q || has (is_told e.value) behind)) ≡ true
        by true q u v = refl
        by false true u v = or_right (has (breaks_off e.value) behind) true refl
        by false false u v =
            f e (or_right (is_return e.value x) (is_back e.value h && (not (breaks_off e.value x) && not (is_told e.value x)))
            (and_both (is_back e.value h) (not (breaks_off e.value x) && not (is_told e.value x)) b
            (and_both (not (breaks_off e.value x)) (not (is_told e.value x)) (not_false (breaks_off e.value x) u) (not_false (is_told e.value x) v))))

unasked : (behind h : List Entry) → are_answered false behind h ≡ true
unasked behind [] = refl
unasked behind (x ∷ h) = and_both (is_answered false behind x) (are_answered false (x ∷ behind) h) (one x) (unasked (x ∷ behind) h)
  where
    one : (x : Entry) → is_answered false behind x ≡ true
    one (Reenlisted e) = or_right (has (breaks_off e.value) behind || has (is_told e.value) behind) true refl
    one _ = refl

-- in a history of a script, each that came back was told
pub answered_returns : (s : List Line) (t : ℕ) (h : List Entry) → are_named_well s ≡ true → FreelyCaused (IsCallOf s t) t h → tied h ≡ true → AreAnswered s h
answered_returns s t h named c d settled =
    by (ran_returning (IsCallOf s t) t c.1.0 (record { calls = c.0; past = h }) (script_once s t named) c.1.1 d) (is_decided_there h) refl
  where
    keeps : Keeps h
    keeps = run_keeps (IsCallOf s t) t c.1.0 (record { calls = c.0; past = h }) (script_once s t named) c.1.1 d

    open_none : withholds (coordinate h).stage ≡ true → is_decided_there h ≡ false
    open_none u = withheld_open h keeps (ran_stood (IsCallOf s t) t c.1.0 (record { calls = c.0; past = h }) c.1.1 keeps) u

    opened : (e : EnlNo) → IsBack e h → has (opens (Again e)) h ≡ true
    opened e b = since_opened (Again e) h (ap is_some b.awaited.opened)

    by : IsReturning h → (b : Bool) → is_decided_there h ≡ b → are_answered b [] h ≡ true
    by all false p = unasked [] h
    by all true p =
        answered_back [] h
        (λ e b. let a = all.answering e b in
        absurd (not_both (is_decided_there h) p (open_none (a.heard (none_underway e h (opened e a.back) (idle (entered_in s h) h settled).undelivered)))))
