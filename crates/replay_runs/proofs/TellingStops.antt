-- Where stops and openings stand in a trace, as entries come to it.
use Rattle.std.proofs.Common.{◌≡◌, ◌<◌, ◌≤◌, ◌+◌, ℕ, Bool, true, false, ◌&&◌, ◌||◌, not, if◌then◌else◌, nat_le, nat_lt, ◌==◌, List, [], ◌∷◌, Option, Some, None, refl, ap, sym, ◌∙◌, inl, inr, arith}
use Rattle.std.specs.Option.{option_map}
use Rattle.std.proofs.lemmas.Bool.{cases_Bool}
use Rattle.std.proofs.lemmas.Bool.Decides.{nat_tests}
use Rattle.dtx_values.specs.declared.entry.Entry.TheVariants.{LogWord, Restarted, Stopped}
use Rattle.dtx_values.specs.declared.entry.LogNote.TheVariants.{Armed, Opened}
use Rattle.dtx_values.specs.declared.trace.Place.TheVariants.{Context, Log, Transaction}
use Rattle.dtx_model.specs.AtLog.{armed, at_log, found_behind, is_called, is_reached, is_stopped_by, is_unarmed, made, one_if, open_right, opens_right}
use Rattle.dtx_model.specs.Traces.{Placed}
use Rattle.dtx_model.proofs.Bools.{and_both, not_both}
use Rattle.coordinator_log.specs.Stop.{after_calls, stop_in}
use Rattle.coordinator_log.specs.declared.stop.ArmedStop.{ArmedStop}
use Rattle.turn_parts.specs.Counted.{AreCounted, LAST, is_left}
use Rattle.replay_runs.specs.Exact.{faults_made, is_fault_made, is_left_over, left_after, meets_no_stop, stops_exactly}
use Rattle.replay_runs.specs.LogRun.{IsArmedBy, IsCounted}

-- The stop that is armed at a log, as a trace counts it in which so many calls were made
abbrev pub counted_at : ℕ → Option ArmedStop → Option ℕ
counted_at m o = option_map (λ s. m + (s.passes + 1)) o

-- The entry armed no stop, used none up, met none and made no call, and no fault made it.
pub record IsQuiet (T : List Placed) (x : Placed) : Type 0 where
  pub armed : armed (at_log (x ∷ T)) ≡ armed (at_log T)
  pub made : made (x ∷ T) ≡ made T
  pub unmade : (behind : List Placed) → is_fault_made behind T x ≡ false
  pub left : (behind : List Placed) (l : Bool) → left_after behind T x l ≡ l
  pub free : meets_no_stop T x ≡ true

-- so the faults are those before it, and so is what is left over
pub broken_on : (b n : ℕ) (old new : Option ArmedStop) (T : List Placed) (x : Placed) → armed (at_log (x ∷ T)) ≡ armed (at_log T) → ((behind : List Placed) → is_fault_made behind T x ≡ false)
    → ((behind : List Placed) (l : Bool) → left_after behind T x l ≡ l) → is_left new (armed (at_log T)) ≡ is_left old (armed (at_log T))
    → ((behind : List Placed) → n < LAST → b + one_if (is_left old (armed (at_log T)) && not (is_left_over behind T)) (faults_made behind T) ≤ n)
    → (behind : List Placed) → n < LAST → b + one_if (is_left new (armed (at_log (x ∷ T))) && not (is_left_over behind (x ∷ T))) (faults_made behind (x ∷ T)) ≤ n
broken_on b n old new T x a unmade left same k behind less =
    rw (unmade behind, left behind (is_left_over (x ∷ behind) T), a, same) (k (x ∷ behind) less)

armed_on : (stop : Option ArmedStop) (T U : List Placed) → armed (at_log U) ≡ armed (at_log T) → made U ≡ made T → IsArmedBy stop T → IsArmedBy stop U
armed_on stop T U a m (inl e) = inl (a ∙ (e ∙ ap (λ i. counted_at i stop) (sym m)))
armed_on stop T U a m (inr e) = inr (a ∙ e)

pub counted_on : (b n : ℕ) (stop : Option ArmedStop) (T : List Placed) (x : Placed) → AreCounted b n stop (at_log (x ∷ T)) → IsQuiet T x → IsCounted b n stop T → IsCounted b n stop (x ∷ T)
counted_on b n stop T x count quiet k = record {
  count = count;
  broken = broken_on b n stop stop T x quiet.armed quiet.unmade quiet.left refl k.broken;
  exact = and_both (meets_no_stop T x) (stops_exactly T) quiet.free k.exact;
  armed = armed_on stop T (x ∷ T) quiet.armed quiet.made k.armed;
}

-- a stop is left over only where the trace has none armed
pub left_unarmed : (behind T : List Placed) → is_left_over behind T ≡ true → armed (at_log T) ≡ None
left_unarmed behind [] l = refl
left_unarmed behind ((Log, Stopped) ∷ past) l = by (is_called (at_log past)) (left_unarmed ((Log, Stopped) ∷ behind) past) l
  where
    by : (c : Bool) → (is_left_over ((Log, Stopped) ∷ behind) past ≡ true → armed (at_log past) ≡ None) → (if c then is_left_over ((Log, Stopped) ∷ behind) past else not (is_unarmed (armed (at_log past)) || is_stopped_by past behind)) ≡ true → (if c then armed (at_log past) else None) ≡ None
    by true before l = before l
    by false before l = refl
left_unarmed behind ((Log, LogWord (Armed n i)) ∷ past) l = absurd cc
left_unarmed behind ((Log, LogWord (Opened n)) ∷ past) l = left_unarmed ((Log, LogWord (Opened n)) ∷ behind) past l
left_unarmed behind ((Log, x) ∷ past) l = left_unarmed ((Log, x) ∷ behind) past l
left_unarmed behind ((Transaction t, x) ∷ past) l = left_unarmed ((Transaction t, x) ∷ behind) past l
left_unarmed behind ((Context a, x) ∷ past) l = left_unarmed ((Context a, x) ∷ behind) past l

-- Of what stands after a trace its openings count what is found there directly.
found_more : (x : Placed) (b c : List Placed) → found_behind b ≡ found_behind c → found_behind (x ∷ b) ≡ found_behind (x ∷ c)
found_more (Transaction t, Restarted found) b c e = ap (one_if found) e
found_more (Transaction t, x) b c e = refl
found_more (Context a, x) b c e = refl
found_more (Log, x) b c e = refl

opens_same : (x : Placed) (b c : List Placed) → found_behind b ≡ found_behind c → opens_right b x ≡ opens_right c x
opens_same (Log, LogWord (Opened n)) b c e = ap (λ m. n == m) e
opens_same (Log, x) b c e = refl
opens_same (Transaction t, x) b c e = refl
opens_same (Context a, x) b c e = refl

pub open_same : (b c T : List Placed) → found_behind b ≡ found_behind c → open_right b T ≡ open_right c T
open_same b c [] e = refl
open_same b c (x ∷ past) e =
    ap (λ r. r && open_right (x ∷ b) past) (opens_same x b c e) ∙ ap (λ r. opens_right c x && r) (open_same (x ∷ b) (x ∷ c) past (found_more x b c e))

-- one entry more, which finds nothing
pub open_on : (x : Placed) (T : List Placed) → found_behind (x ∷ []) ≡ 0 → opens_right [] x ≡ true → open_right [] T ≡ true → open_right [] (x ∷ T) ≡ true
open_on x T none here k = and_both (opens_right [] x) (open_right (x ∷ []) T) here (open_same (x ∷ []) [] T none ∙ k)

some_none : {X : Type 0} (x : X) → Some x ≡ None → ⊥
some_none x e = cc

-- a stop that isn't reached in n calls passes as many
pub passed : (n : ℕ) (s : ArmedStop) → stop_in n (Some s) ≡ None → nat_lt s.passes n ≡ false
passed n s e = elim (cases_Bool (nat_lt s.passes n)) [
  | inl now ↦ absurd (some_none s.image (rw now at e))
  | inr later ↦ later
]

-- Calls that pass leave it where it was,
pub same_count : (n m : ℕ) (o : Option ArmedStop) → stop_in n o ≡ None → counted_at m o ≡ counted_at (n + m) (after_calls n o)
same_count n m None e = refl
same_count n m (Some s) e =
    let later : nat_lt s.passes n ≡ false = passed n s e in
    let most : n ≤ s.passes = grind (arith, nat_tests) in
    rw later (ap Some (omega (arith, most)))

-- aren't met,
pub unmet : (n m : ℕ) (o : Option ArmedStop) → stop_in n o ≡ None → is_reached (counted_at m o) (m + n) ≡ false
unmet n m None e = refl
unmet n m (Some s) e =
    let later : nat_lt s.passes n ≡ false = passed n s e in
    let most : n ≤ s.passes = grind (arith, nat_tests) in
    grind (arith, nat_tests)

-- and leave something armed where something was;
pub still_armed : (n : ℕ) (o : Option ArmedStop) (a : Option ℕ) → stop_in n o ≡ None → is_left (after_calls n o) a ≡ is_left o a
still_armed n None a e = refl
still_armed n (Some s) (Some k) e = let later : nat_lt s.passes n ≡ false = passed n s e in rw later refl
still_armed n (Some s) None e = let later : nat_lt s.passes n ≡ false = passed n s e in rw later refl

-- and where the calls meet none, none is reached in them.
pub unreached : (n m : ℕ) (o : Option ArmedStop) → is_reached (counted_at m o) (m + n) ≡ false → stop_in n o ≡ None
unreached n m None e = refl
unreached n m (Some s) e = elim (cases_Bool (nat_lt s.passes n)) [
  | inl now ↦ let there : nat_le (m + (s.passes + 1)) (m + n) ≡ true = grind (arith, nat_tests) in absurd (not_both (nat_le (m + (s.passes + 1)) (m + n)) there e)
  | inr later ↦ rw later refl
]
