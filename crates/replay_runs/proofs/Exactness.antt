-- What a run that is counted promises of its stops: exactly where, and why.
use Rattle.std.proofs.Common.{◌≡◌, ◌<◌, ◌≤◌, ◌⊎◌, ◌+◌, ◌-◌, ℕ, Bool, true, false, ◌&&◌, ◌||◌, not, List, [], ◌∷◌, Option, inl, inr, refl, arith, if◌then◌else◌}
use Rattle.std.specs.Prelude.{nat_lt}
use Rattle.std.proofs.lemmas.Bool.{cases_Bool}
use Rattle.std.proofs.lemmas.Bool.Decides.{nat_tests}
use Rattle.dtx_values.specs.declared.entry.Entry.TheVariants.{Freed, Logged, LogWord, Stopped}
use Rattle.dtx_values.specs.declared.entry.LogNote.TheVariants.{Armed, Opened}
use Rattle.dtx_values.specs.declared.trace.Place.TheVariants.{Context, Log, Transaction}
use Rattle.dtx_model.specs.AtLog.{armed, at_log, is_called, is_stopped_by, is_unarmed, one_if, stop_right, stops_right}
use Rattle.dtx_model.specs.Traces.{Placed}
use Rattle.dtx_model.proofs.Bools.{and_both, and_left, and_right}
use Rattle.coordinator_log.specs.declared.stop.ArmedStop.{ArmedStop}
use Rattle.turn_parts.specs.Counted.{LAST, is_left}
use Rattle.replay_runs.specs.Exact.{faults_made, is_fault_made, is_left_over, left_after, meets_no_stop, stops_exactly}
use Rattle.replay_runs.specs.LogRun.{IsCounted}
use Rattle.replay_runs.proofs.Replayed.{rise_of}

-- stops are exact
pub exact_of : (before now : ℕ) (stop : Option ArmedStop) (T : List Placed) → IsCounted before now stop T → stops_exactly T ≡ true
exact_of before now stop T k = k.exact

-- the count rose by each entry that a fault made
pub broken_of : (before now told : ℕ) (stop : Option ArmedStop) (T : List Placed) → faults_made [] T ≤ told → IsCounted before now stop T → faults_made [] T ≤ rise_of before now told
broken_of before now told stop T most k = by (cases_Bool (nat_lt now LAST))
  where
    at_least : (b : Bool) (f : ℕ) → before + one_if b f ≤ now → f ≤ now - before
    at_least true f le = omega arith
    at_least false f le = omega arith

    by : (nat_lt now LAST ≡ true) ⊎ (nat_lt now LAST ≡ false) → faults_made [] T ≤ rise_of before now told
    by (inl e) =
        let less : now < LAST = grind (arith, nat_tests) in
        rw e (at_least (is_left stop (armed (at_log T)) && not (is_left_over [] T)) (faults_made [] T) (k.broken [] less))
    by (inr e) = rw e (omega (arith, most))

-- Where a fault made no entry, nothing is left over,
calm_stop : (called unarmed met left : Bool) → not (called || met || left) ≡ false → left ≡ false → (if called then left else not (unarmed || met)) ≡ false
calm_stop true unarmed met left unmade none = none
calm_stop false true met left unmade none = refl
calm_stop false false true left unmade none = refl
calm_stop false false false true unmade none = absurd cc
calm_stop false false false false unmade none = absurd cc

calm_after : (behind past : List Placed) (x : Placed) → is_fault_made behind past x ≡ false → is_left_over (x ∷ behind) past ≡ false → left_after behind past x (is_left_over (x ∷ behind) past) ≡ false
calm_after behind past (Log, Stopped) unmade none = calm_stop (is_called (at_log past)) (is_unarmed (armed (at_log past))) (is_stopped_by past behind) (is_left_over ((Log, Stopped) ∷ behind) past) unmade none
calm_after behind past (Log, LogWord (Armed n i)) unmade none = refl
calm_after behind past (Log, LogWord (Opened n)) unmade none = none
calm_after behind past (Log, x) unmade none = none
calm_after behind past (Transaction t, x) unmade none = none
calm_after behind past (Context a, x) unmade none = none

none_made : (b : Bool) (n : ℕ) → one_if b n ≡ 0 → (b ≡ false) × (n ≡ 0)
none_made true n e = absurd (omega (arith, e))
none_made false n e = (refl, e)

calm_left : (behind T : List Placed) → faults_made behind T ≡ 0 → is_left_over behind T ≡ false
calm_left behind [] none = refl
calm_left behind (x ∷ past) none =
    let here = none_made (is_fault_made behind past x) (faults_made (x ∷ behind) past) none in
    calm_after behind past x here.0 (calm_left (x ∷ behind) past here.1)

-- and each stop stands exactly where its device call is reached.
explained : (called met left : Bool) → not (called || met || left) ≡ false → left ≡ false → (called || met) ≡ true
explained true met left unmade none = refl
explained false true left unmade none = refl
explained false false true unmade none = absurd cc
explained false false false unmade none = absurd cc

calm_right : (behind past : List Placed) (x : Placed) → is_fault_made behind past x ≡ false → is_left_over (x ∷ behind) past ≡ false → meets_no_stop past x ≡ true → stops_right behind past x ≡ true
calm_right behind past (Log, Stopped) unmade none free = explained (is_called (at_log past)) (is_stopped_by past behind) (is_left_over ((Log, Stopped) ∷ behind) past) unmade none
calm_right behind past (Log, x) unmade none free = refl
calm_right behind past (Transaction t, Logged) unmade none free = free
calm_right behind past (Transaction t, Freed) unmade none free = free
calm_right behind past (Transaction t, x) unmade none free = refl
calm_right behind past (Context a, x) unmade none free = refl

calm_stops : (behind T : List Placed) → faults_made behind T ≡ 0 → stops_exactly T ≡ true → stop_right behind T ≡ true
calm_stops behind [] none exact = refl
calm_stops behind (x ∷ past) none exact =
    let here = none_made (is_fault_made behind past x) (faults_made (x ∷ behind) past) none in
    let free = and_left (meets_no_stop past x) (stops_exactly past) exact in
    and_both (stops_right behind past x) (stop_right (x ∷ behind) past) (calm_right behind past x here.0 (calm_left (x ∷ behind) past here.1) free)
    (calm_stops (x ∷ behind) past here.1 (and_right (meets_no_stop past x) (stops_exactly past) exact))

-- So it is where the count didn't rise.
pub stops_of : (before now told : ℕ) (stop : Option ArmedStop) (T : List Placed) → faults_made [] T ≤ told → IsCounted before now stop T → rise_of before now told ≡ 0 → stop_right [] T ≡ true
stops_of before now told stop T most k none = let made = broken_of before now told stop T most k in calm_stops [] T (omega (arith, made, none)) k.exact
