-- A settled history of a script, whatever was lost, stopped and started again, in which each restart found what may be found: where the coordinator stopped, the outcome is decided. So the client
-- was told, or there is something that it waits for; and each call that was answered `wait` got its answer, or an enlistment that was asked to promote stays silent.
use Rattle.std.proofs.Common.{◌≡◌, ℕ, Bool, true, false, ◌&&◌, ◌||◌, List, [], refl}
use Rattle.std.specs.Prelude.{is_some}
use Rattle.std.specs.List.{flat_map}
use Rattle.std.proofs.lemmas.Bool.{or_left, true_from_ne_false}
use Rattle.dtx_values.specs.declared.entry.Entry.{Entry}
use Rattle.dtx_values.specs.declared.message.Conn.TheVariants.{Begin, Voter}
use Rattle.dtx_values.specs.declared.message.Dir.TheVariants.{Down}
use Rattle.dtx_values.specs.declared.script.Line.{Line}
use Rattle.dtx_model.specs.Words.{has, latest}
use Rattle.dtx_model.specs.Entries.{client_told_of, is_commit, is_decision, is_yes}
use Rattle.dtx_model.specs.Observed.{ends_of}
use Rattle.dtx_model.specs.Tied.{is_stop, tied}
use Rattle.dtx_model.specs.Steps.{deliveries_on}
use Rattle.dtx_model.specs.World.{World}
use Rattle.dtx_model.specs.Grammar.{are_named_well}
use Rattle.dtx_model.specs.Caused.{FreelyCaused, IsCallOf, Settled, entered_in}
use Rattle.dtx_model.specs.History.{IsToldOrWaits, is_waiting}
use Rattle.dtx_model.proofs.Bools.{not_both, three_hold}
use Rattle.history_table.specs.Waited.{AreCallsAnswered}
use Rattle.history_table.proofs.Keeping.{Keeps}
use Rattle.settled_histories.proofs.BeforeRows.{kept_ordered, kept_sound}
use Rattle.settled_histories.proofs.Foregoing.{yes_commit}
use Rattle.settled_histories.proofs.Wired.{is_end_on}
use Rattle.settled_histories.proofs.Unblamed.{down_early}
use Rattle.settled_histories.proofs.Ending.{IsGoingOn, ran_goes}
use Rattle.history_table.proofs.Names.{script_once}
use Rattle.history_table.proofs.Steady.{run_keeps}
use Rattle.settled_histories.proofs.Idle.{idle}
use Rattle.settled_histories.proofs.Climbed.{told_decided}
use Rattle.outcome_law.proofs.Told.{told_promoted}
use Rattle.outcome_law.proofs.CallsAnswered.{calls_answered, decided_answered, are_all_answered, is_one_silent}
use Rattle.settled_histories.proofs.StoppedEnds.{begin_lost, lost_seen, voter_lost}

-- Where the coordinator stopped and nothing is left to deliver, the local side saw the end of b: a veto, unless it had said yes. But then it saw the end of v too, so the outcome is in doubt there.
pub stop_decides : (h : List Entry) → Keeps h → IsGoingOn h → flat_map (deliveries_on h) (ends_of h) ≡ [] → has is_stop h ≡ true → has is_decision h ≡ true
stop_decides h k going delivered stopped = true_from_ne_false (has is_decision h) undecided
  where
    begin_seen : has (is_end_on Begin Down) h ≡ true
    begin_seen = lost_seen Begin h k delivered (begin_lost h k stopped)

    voter_seen : has is_yes h ≡ true → has (is_end_on Voter Down) h ≡ true
    voter_seen said = lost_seen Voter h k delivered (voter_lost h k stopped (yes_commit h k.wires (kept_sound h k) (kept_ordered h k) said))

    undecided : has is_decision h ≡ false → ⊥
    undecided d =
        let u = going d in
        let said : has is_yes h ≡ true = true_from_ne_false (has is_yes h) (λ n. not_both (has (is_end_on Begin Down) h) begin_seen (down_early Begin h refl u.spared n)) in
        not_both (has is_yes h && has (is_end_on Begin Down) h && has (is_end_on Voter Down) h)
        (three_hold (has is_yes h) (has (is_end_on Begin Down) h) (has (is_end_on Voter Down) h) said begin_seen (voter_seen said)) u.certain

-- so it is in a settled history of a script
stopped_decided : (s : List Line) (t : ℕ) (h : List Entry) → are_named_well s ≡ true → FreelyCaused (IsCallOf s t) t h → tied h ≡ true → Settled s h → has is_stop h ≡ true → has is_decision h ≡ true
stopped_decided s t h named c tie settled stopped =
    let G = IsCallOf s t in
    let steps = c.1.0 in
    let w : World = record { calls = c.0; past = h } in
    let once = script_once s t named in
    stop_decides h (run_keeps G t steps w once c.1.1 tie) (ran_goes G t steps w once c.1.1 tie) (idle (entered_in s h) h settled).undelivered stopped

-- Where the commit was asked for, the client was told, or there is something that it waits for.
pub told_settled : (s : List Line) (t : ℕ) (h : List Entry) → are_named_well s ≡ true → FreelyCaused (IsCallOf s t) t h → tied h ≡ true → IsToldOrWaits s h
told_settled s t h named c tie = λ settled asked. by settled asked (has is_stop h) refl
  where
    by : Settled s h → has is_commit h ≡ true → (b : Bool) → has is_stop h ≡ b → (is_some (latest client_told_of h) || is_waiting s h) ≡ true
    by settled asked true q =
        or_left (is_some (latest client_told_of h)) (is_waiting s h)
        (told_decided (entered_in s h) h (idle (entered_in s h) h settled).act (stopped_decided s t h named c tie settled q))
    by settled asked false q = told_promoted s t h named c q settled asked

-- Each call that had to wait got its answer, or an enlistment that was asked to promote stays silent.
pub waits_answered : (s : List Line) (t : ℕ) (h : List Entry) → are_named_well s ≡ true → FreelyCaused (IsCallOf s t) t h → tied h ≡ true → AreCallsAnswered s h
waits_answered s t h named c tie = λ settled. by settled (has is_stop h) refl
  where
    by : Settled s h → (b : Bool) → has is_stop h ≡ b → (are_all_answered h || is_one_silent s h) ≡ true
    by settled true q =
        or_left (are_all_answered h) (is_one_silent s h)
        (decided_answered (IsCallOf s t) t c.1.0 (record { calls = c.0; past = h }) c.1.1 (stopped_decided s t h named c tie settled q))
    by settled false q = calls_answered s t h named c q settled
