-- A timeout comes directly behind the first tick that reaches it, promoted or not: the clock never falls, and a tick that reaches the timeout found it below.
use Rattle.std.proofs.Common.{◌≡◌, ℕ, Bool, true, false, ◌&&◌, List, [], ◌∷◌, Option, Some, None, refl, arith, subst, sym}
use Rattle.std.specs.Prelude.{find, nat_le, nat_lt, not, if◌then◌else◌}
use Rattle.std.proofs.lemmas.Bool.Decides.{nat_tests}
use Rattle.dtx_values.specs.declared.number.ActorNo.{ActorNo}
use Rattle.dtx_values.specs.declared.number.EnlNo.{EnlNo}
use Rattle.dtx_values.specs.declared.number.TxNo.{TxNo}
use Rattle.dtx_values.specs.declared.call.Call.{Call}
use Rattle.dtx_values.specs.declared.call.Call.TheVariants.{Gone, Reenlist, Tick}
use Rattle.dtx_values.specs.declared.entry.Answer.{Answer}
use Rattle.dtx_values.specs.declared.entry.Entry.{Entry}
use Rattle.dtx_values.specs.declared.entry.Entry.TheVariants.{Called, Clock, Late, TimedOut}
use Rattle.dtx_model.specs.Words.{has, each, always, latest, onto}
use Rattle.dtx_model.specs.Entries.{began_of}
use Rattle.dtx_model.specs.Observed.{observe, clock, is_branch}
use Rattle.dtx_model.specs.Seen.{is_clock_from, is_first_over, is_behind_first, is_timely}
use Rattle.dtx_model.specs.declared.branch.Branch.{Branch}
use Rattle.dtx_model.specs.Half.{Half, veto}
use Rattle.dtx_model.specs.Facts.{facts_if, has_facts, is_late, reaches, ticked, time_up}
use Rattle.dtx_model.specs.World.{World, answer_at, facts_at, half, open_ones, reenlist_facts}
use Rattle.dtx_model.specs.Steps.{Step, Calls, after, block_at}
use Rattle.dtx_model.specs.Caused.{FreelyCaused, Ran}
use Rattle.dtx_model.proofs.Bools.{and_left, and_right, and_both, or_false, not_false}
use Rattle.history_table.proofs.Scans.{each_more}
use Rattle.settled_histories.proofs.CommonBlocks.{common_veto, gone_passes, is_usual, usual, usual_block}

-- a clock isn't below the clock before it and fits a u64, and an entry of a timeout is timely
abbrev is_on_time : List Entry → Entry → Bool
is_on_time h (Clock n) = nat_le (clock h) n && nat_le n 18446744073709551615
is_on_time h x = is_timely h x

-- each entry is on time
abbrev all_on_time : List Entry → Bool
all_on_time h = always is_on_time h

-- the entries before the newest are on time
earlier : (x : Entry) (h : List Entry) → all_on_time (x ∷ h) ≡ true → all_on_time h ≡ true
earlier x h r = and_right (is_on_time h x) (all_on_time h) r

-- the newest entry is on time
newest : (x : Entry) (h : List Entry) → all_on_time (x ∷ h) ≡ true → is_on_time h x ≡ true
newest x h r = and_left (is_on_time h x) (all_on_time h) r

-- what is on time is timely
all_timely : (h : List Entry) → all_on_time h ≡ true → always is_timely h ≡ true
all_timely [] r = refl
all_timely (Clock n ∷ h) r = all_timely h (earlier (Clock n) h r)
all_timely (x ∷ h) r = and_both (is_timely h x) (always is_timely h) (newest x h r) (all_timely h (earlier x h r))

-- the clock fits a u64
clock_fits : (h : List Entry) → all_on_time h ≡ true → nat_le (clock h) 18446744073709551615 ≡ true
clock_fits [] r = refl
clock_fits (Clock n ∷ h) r = and_right (nat_le (clock h) n) (nat_le n 18446744073709551615) (newest (Clock n) h r)
clock_fits (x ∷ h) r = clock_fits h (earlier x h r)

-- no tick reached what the clock is below
none_reached : (d : ℕ) (h : List Entry) → all_on_time h ≡ true → nat_lt (clock h) d ≡ true → has (is_clock_from d) h ≡ false
none_reached d [] r l = refl
none_reached d (Clock n ∷ h) r l =
    let rises = and_left (nat_le (clock h) n) (nat_le n 18446744073709551615) (newest (Clock n) h r) in
    let before : nat_lt (clock h) d ≡ true = grind (arith, nat_tests) in
    or_false (nat_le d n) (has (is_clock_from d) h) (grind (arith, nat_tests)) (none_reached d h (earlier (Clock n) h r) before)
none_reached d (x ∷ h) r l = none_reached d h (earlier x h r) l

-- the tick that reaches the timeout is the first
reaches_first : (h : List Entry) (n : ℕ) (a : ActorNo) (y : Answer) (o : Option ℕ) (z : ℕ) → all_on_time h ≡ true → reaches o (clock h) z ≡ true
    → is_first_over o z (Called n a y ∷ h) ≡ true
reaches_first h n a y None z r k = absurd cc
reaches_first h n a y (Some d) z r k =
    and_both (nat_le d z) (not (has (is_clock_from d) h)) (and_right (nat_lt (clock h) d) (nat_le d z) k)
    (not_false (has (is_clock_from d) h) (none_reached d h r (and_left (nat_lt (clock h) d) (nat_le d z) k)))

-- entries that are of no clock and of no timeout
abbrev is_timeless : Entry → Bool
is_timeless (Clock n) = false
is_timeless TimedOut = false
is_timeless Late = false
is_timeless _ = true

usual_timeless : (x : Entry) → is_usual x ≡ true → is_timeless x ≡ true
usual_timeless (Clock n) k = absurd cc
usual_timeless TimedOut k = absurd cc
usual_timeless Late k = absurd cc
usual_timeless _ k = refl

timeless_on : (h es : List Entry) → each is_timeless es ≡ true → all_on_time h ≡ true → all_on_time (onto h es) ≡ true
timeless_on h [] k r = r
timeless_on h (x ∷ es) k r =
    timeless_on (x ∷ h) es (and_right (is_timeless x) (each is_timeless es) k) (and_both (is_on_time h x) (all_on_time h) (one h x (and_left (is_timeless x) (each is_timeless es) k)) r)
  where
    one : (h : List Entry) (x : Entry) → is_timeless x ≡ true → is_on_time h x ≡ true
    one h (Clock n) k = absurd cc
    one h TimedOut k = absurd cc
    one h Late k = absurd cc
    one h _ k = refl

usual_on : (h es : List Entry) → each is_usual es ≡ true → all_on_time h ≡ true → all_on_time (onto h es) ≡ true
usual_on h es k r = timeless_on h es (each_more is_usual is_timeless usual_timeless es k) r

-- the end of the time after a tick is on time
time_on : (v : Half) (h : List Entry) (b : Bool) → all_on_time h ≡ true → (b ≡ true → is_behind_first h ≡ true) → all_on_time (onto h (if b then time_up v else [])) ≡ true
time_on v h false r f = r
time_on v h true r f = by (is_late v.seen)
  where
    by : (late : Bool) → all_on_time (onto h (if late then Late ∷ [] else TimedOut ∷ veto v)) ≡ true
    by true = and_both (is_behind_first h) (all_on_time h) (f refl) r
    by false = usual_on (TimedOut ∷ h) (veto v) (usual (veto v) (common_veto v)) (and_both (is_behind_first h) (all_on_time h) (f refl) r)

-- a tick doesn't bring the clock back
tick_rises : (c n : ℕ) → nat_le c 18446744073709551615 ≡ true → (nat_le c (ticked c n) && nat_le (ticked c n) 18446744073709551615) ≡ true
tick_rises c n k = and_both (nat_le c (ticked c n)) (nat_le (ticked c n) 18446744073709551615) (grind (arith, nat_tests)) (grind (arith, nat_tests))

-- the block of a tick is on time
tick_on : (t : ℕ) (w : World) (n : ℕ) (a : ActorNo) (u : TxNo) (i : ℕ) (y : Answer) (b : Bool) → all_on_time w.past ≡ true → all_on_time (onto (Called n a y ∷ w.past) (facts_if b (facts_at t w (Tick u i) y))) ≡ true
unfolding observe
tick_on t w n a u i y false r = r
tick_on t w n a u i y true r =
    let h = w.past in
    let z = ticked (clock h) i in
    time_on (half w) (Clock z ∷ Called n a y ∷ h) (reaches (latest began_of h) (clock h) z)
    (and_both (nat_le (clock h) z && nat_le z 18446744073709551615) (all_on_time h) (tick_rises (clock h) i (clock_fits h r)) r) (reaches_first h n a y (latest began_of h) z r)

-- and that of the return of an enlistment
return_timeless : (t : ℕ) (w : World) (e : EnlNo) (y : Answer) (b : Bool) → each is_timeless (facts_if b (facts_at t w (Reenlist e) y)) ≡ true
return_timeless t w e y false = refl
return_timeless t w e y true = by (find (is_branch e.value) (half w).seen.branches)
  where
    by : (o : Option Branch) → each is_timeless (reenlist_facts t o) ≡ true
    by (Some b) = refl
    by None = refl

-- the block of a step is on time
step_on : (t : ℕ) (w : World) (m : Step) → all_on_time w.past ≡ true → all_on_time (after t w m).past ≡ true
unfolding after block_at
step_on t w (Calls n a (Tick u i) m) r = tick_on t w n a u i (answer_at t w (Tick u i) m) (has_facts (answer_at t w (Tick u i) m)) r
step_on t w (Calls n a (Reenlist e) m) r =
    let y = answer_at t w (Reenlist e) m in timeless_on (Called n a y ∷ w.past) (facts_if (has_facts y) (facts_at t w (Reenlist e) y)) (return_timeless t w e y (has_facts y)) r
step_on t w (Calls n a (Gone e) m) r =
    let y = answer_at t w (Gone e) m in timeless_on (Called n a y ∷ w.past) (facts_if (has_facts y) (facts_at t w (Gone e) y)) (gone_passes is_timeless usual_timeless w e (open_ones w e) (has_facts y) refl) r
step_on t w m r = usual_on w.past (block_at t w m) (usual_block t w m refl) r

-- what the steps make is on time
ran_on : (G : ℕ → ActorNo → Call → Type 0) (t : ℕ) (ms : List Step) (w : World) → Ran G t ms w → all_on_time w.past ≡ true
ran_on G t [] w r = subst (λ h. all_on_time h ≡ true) (sym r.1) refl
ran_on G t (m ∷ ms) w r = subst (λ (x : World). all_on_time x.past ≡ true) (sym r.3) (step_on t r.0 m (ran_on G t ms r.0 r.1))

-- a timeout comes directly behind the first tick that reaches it
pub run_timely : (G : ℕ → ActorNo → Call → Type 0) (t : ℕ) (h : List Entry) → FreelyCaused G t h → always is_timely h ≡ true
run_timely G t h r = all_timely h (ran_on G t r.1.0 (record { calls = r.0; past = h }) r.1.1)
