-- What a replay gives is a history of its script.
use Rattle.std.proofs.Common.{◌≡◌, ◌<◌, ◌≤◌, ◌-◌, ℕ, Bool, true, false, suc, get_or, Some, List, ◌∷◌, ◌++◌, Option, ap, drop, length, refl, arith, sym, subst, take, ◌∙◌, if◌then◌else◌}
use Rattle.std.specs.Prelude.{nat_lt}
use Rattle.std.proofs.lemmas.Bool.Decides.{nat_tests}
use Rattle.std.proofs.lemmas.List.{take-append-drop}
use Rattle.std.proofs.lemmas.Option.{slice_get-get_or}
use Rattle.dtx_values.specs.declared.script.Line.{Line}
use Rattle.dtx_model.specs.Words.{kth, past_of}
use Rattle.dtx_values.specs.declared.number.TxNo.{TxNo}
use Rattle.dtx_values.specs.declared.trace.Place.{Place}
use Rattle.dtx_values.specs.Table.{how_many}
use Rattle.dtx_model.specs.AtLog.{at_log, faults as faults_told}
use Rattle.dtx_model.specs.Caused.{Of, Settled}
use Rattle.dtx_model.specs.History.{is_call_at}
use Rattle.dtx_model.specs.Traces.{Placed, calls, history}
use Rattle.dtx_model.specs.Replay.{IsReplayed, due_calls}
use Rattle.coordinator_log.specs.declared.stop.ArmedStop.{ArmedStop}
use Rattle.turn_parts.specs.Counted.{LAST}
use Rattle.turn_parts.specs.Runs.{IsRise}
use Rattle.turn_parts.proofs.Counting.{rise_told as told_there}
use Rattle.replay_runs.specs.LogRun.{IsCounted}
use Rattle.replay_runs.specs.RunState.{IsToPlan}

-- a list cut at one of its items
pub split_at : {A : Type 0} (xs : List A) (i : ℕ) (x : A) (rest : List A) → drop i xs ≡ x ∷ rest → xs ≡ take i xs ++ x ∷ rest
split_at xs i x rest e = sym (take-append-drop i xs) ∙ ap (λ ys. take i xs ++ ys) e

-- and the item is there by its number
pub line_at : (xs : List Line) (i : ℕ) (x : Line) → i < length xs → x ≡ get_or xs i x → kth xs (suc i) ≡ Some x
line_at xs i x less here = slice_get-get_or {X = Line} xs i x less ∙ ap Some (sym here)

-- a line has its call at a place as often as it is to have it
pub called_at : (s : List Line) (T : List Placed) → calls T ≡ due_calls s (past_of s) → (p : Place) (n a : ℕ) → how_many (is_call_at p n a) (calls T) ≡ how_many (is_call_at p n a) (due_calls s (past_of s))
called_at s T same p n a = ap (how_many (is_call_at p n a)) same

-- What a run of lines gives is a run of the script that has these lines.
pub record IsOfScript (s : List Line) (o : Of) (T : List Placed) : Type 0 where
  pub replayed : IsReplayed s T
  pub settled : (t : TxNo) → Settled s (history t.value T)
  pub planned : (t : TxNo) → IsToPlan s o (history t.value T)

pub of_script : (s r : List Line) (o : Of) (T : List Placed) → r ≡ s → IsReplayed r T → ((t : TxNo) → Settled r (history t.value T)) → ((t : TxNo) → IsToPlan r o (history t.value T)) → IsOfScript s o T
of_script s r o T same replayed settled planned = subst (λ (x : List Line). IsOfScript x o T) same (record { replayed = replayed; settled = settled; planned = planned })

-- By how much a count of faults rose, where nobody knows it at its last value: as much as the trace tells of, and more.
abbrev pub rise_of : ℕ → ℕ → ℕ → ℕ
rise_of before now told = if nat_lt now LAST then now - before else suc told

pub rise_known : (before now told : ℕ) → IsRise before now (rise_of before now told)
rise_known before now told less = let here : nat_lt now LAST ≡ true = grind (arith, nat_tests) in rw here refl

-- the faults that the trace tells of are no more
pub rise_told : (before now told : ℕ) (stop : Option ArmedStop) (T : List Placed) → faults_told (at_log T) ≤ told → IsCounted before now stop T → faults_told (at_log T) ≤ rise_of before now told
rise_told before now told stop T most k = by (nat_lt now LAST) (told_there before now stop (at_log T) (at_log T) refl k.count)
  where
    by : (b : Bool) → faults_told (at_log T) ≤ (if b then now - before else faults_told (at_log T)) → faults_told (at_log T) ≤ (if b then now - before else suc told)
    by true le = le
    by false le = omega (arith, most)
