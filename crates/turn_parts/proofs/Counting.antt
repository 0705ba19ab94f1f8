-- A count of faults as entries come to the log, and how much of it rose.
use Rattle.std.proofs.Common.{◌≡◌, ◌⊎◌, ◌≤◌, ◌<◌, ◌+◌, ◌-◌, ℕ, suc, nat_lt, Bool, true, false, List, ◌∷◌, Option, Some, None, arith, inl, inr, refl, sym, subst, le_trans, if◌then◌else◌}
use Rattle.std.proofs.lemmas.Bool.{cases_Bool}
use Rattle.std.proofs.lemmas.Bool.Decides.{nat_tests}
use Rattle.outside.specs.Faults.{Rose}
use Rattle.dtx_values.specs.declared.Image.{Image}
use Rattle.dtx_values.specs.declared.entry.Entry.{Entry}
use Rattle.dtx_values.specs.declared.entry.Entry.TheVariants.{Stopped}
use Rattle.dtx_values.specs.declared.number.ActorNo.{ActorNo}
use Rattle.dtx_model.specs.AtLog.{armed, faults as faults_told, is_called, is_unarmed, one_if}
use Rattle.coordinator_log.specs.declared.stop.ArmedStop.{ArmedStop}
use Rattle.turn_parts.specs.Counted.{AreCounted, LAST, is_left}
use Rattle.turn_parts.specs.Reopening.{stop_armed}
use Rattle.turn_parts.specs.Runs.{IsRise}

-- A stop that is armed tells of no fault.
fewer : (b m f : ℕ) (l : Bool) → b + one_if l f ≤ m → b + f ≤ m
fewer b m f true le = omega arith
fewer b m f false le = le

pub counted_armed : (b m : ℕ) (old : Option ArmedStop) (s : ArmedStop) (past : List Entry) (n : ℕ) (a : ActorNo) (k : ℕ) (i : Image) → AreCounted b m old past → AreCounted b m (Some s) (stop_armed n a k i past)
counted_armed b m old s past n a k i c = record { grows = c.grows; told = λ less. fewer b m (faults_told past) (is_left old (armed past)) (c.told less) }

-- A count that doesn't fall, and one that rose
pub not_fewer : (b m n f : ℕ) → m ≤ n → b + f ≤ m → b + f ≤ n
not_fewer b m n f le was = omega arith

pub one_more : (b m n f : ℕ) → n < LAST → b + f ≤ m → Rose m n → b + suc f ≤ n
one_more b m n f less was rose = omega arith

-- What a stop of the log adds to the faults that are told of, and to what is left armed, rose the count.
told_stopped : (b m n : ℕ) (old new : Option ArmedStop) (past : List Entry) → is_called past ≡ false → m ≤ n → n < LAST → b + one_if (is_left old (armed past)) (faults_told past) ≤ m
    → (old ≡ None → Rose m n) → Rose m n ⊎ (new ≡ None) → (old ≡ None → new ≡ None) → b + one_if (is_left new (armed (Stopped ∷ past))) (faults_told (Stopped ∷ past)) ≤ n
told_stopped b m n old new past uncalled le less was cause used unarmed = rw uncalled (count (armed past) (faults_told past) old new was cause used unarmed)
  where
    count : (a : Option ℕ) (f : ℕ) (old new : Option ArmedStop) → b + one_if (is_left old a) f ≤ m → (old ≡ None → Rose m n) → Rose m n ⊎ (new ≡ None) → (old ≡ None → new ≡ None)
        → b + one_if (is_left new None) (one_if (is_unarmed a) f) ≤ n
    count (Some i) f None None was cause used unarmed = not_fewer b m n f le was
    count (Some i) f (Some r) None was cause used unarmed = not_fewer b m n f le was
    count (Some i) f None (Some s) was cause used unarmed = let none = unarmed refl in absurd cc
    count (Some i) f (Some r) (Some s) was cause (inl rose) unarmed = one_more b m n f less was rose
    count (Some i) f (Some r) (Some s) was cause (inr e) unarmed = absurd cc
    count None f None None was cause used unarmed = one_more b m n f less was (cause refl)
    count None f None (Some s) was cause used unarmed = let none = unarmed refl in absurd cc
    count None f (Some r) None was cause used unarmed = not_fewer b m n (suc f) le was
    count None f (Some r) (Some s) was cause (inl rose) unarmed = one_more b m n (suc f) less was rose
    count None f (Some r) (Some s) was cause (inr e) unarmed = absurd cc

pub counted_stopped : (b m n : ℕ) (old new : Option ArmedStop) (past : List Entry) → is_called past ≡ false → m ≤ n → (old ≡ None → Rose m n) → Rose m n ⊎ (new ≡ None) → (old ≡ None → new ≡ None) → AreCounted b m old past → AreCounted b n new (Stopped ∷ past)
counted_stopped b m n old new past uncalled le cause used unarmed k = record {
  grows = le_trans k.grows le;
  told = λ less. told_stopped b m n old new past uncalled le less (k.told (omega arith)) cause used unarmed;
}

-- The count of faults rose as much as the trace tells of, unless it stands at its last value.
abbrev pub rise_of : ℕ → ℕ → ℕ → ℕ
rise_of from to told = if nat_lt to LAST then to - from else told

pub rise_known : (from to told : ℕ) → IsRise from to (rise_of from to told)
rise_known from to told less = let here : nat_lt to LAST ≡ true = grind (arith, nat_tests) in rw here refl

one_at_least : (b : Bool) (n : ℕ) → n ≤ one_if b n
one_at_least true n = omega arith
one_at_least false n = omega arith

pub rise_told : (from to : ℕ) (stop : Option ArmedStop) (l h : List Entry) → h ≡ l → AreCounted from to stop l → faults_told h ≤ rise_of from to (faults_told h)
rise_told from to stop l h is counted = by (cases_Bool (nat_lt to LAST))
  where
    by : (nat_lt to LAST ≡ true) ⊎ (nat_lt to LAST ≡ false) → faults_told h ≤ rise_of from to (faults_told h)
    by (inl e) =
        let less : to < LAST = grind (arith, nat_tests) in
        let told = subst (λ (x : List Entry). from + one_if (is_left stop (armed x)) (faults_told x) ≤ to) (sym is) (counted.told less) in
        let more = one_at_least (is_left stop (armed h)) (faults_told h) in
        rw e (omega (arith, told, more))
    by (inr e) = rw e (omega arith)
