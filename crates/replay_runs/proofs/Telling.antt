-- What a trace tells of the log, as entries come to it.
use Rattle.std.proofs.Common.{◌≡◌, ◌⊎◌, ◌<◌, ◌≤◌, ◌+◌, ◌-◌, ℕ, suc, Bool, true, false, ◌&&◌, ◌||◌, not, List, [], ◌∷◌, Option, Some, None, refl, sym, ap, subst, ◌∙◌, inl, inr, arith}
use Rattle.std.specs.Prelude.{IsTrue}
use Rattle.outside.specs.Faults.{Rose}
use Rattle.dtx_values.specs.declared.Image.{Image}
use Rattle.dtx_values.specs.declared.entry.Answer.TheVariants.{Fine}
use Rattle.dtx_values.specs.declared.entry.Entry.{Entry}
use Rattle.dtx_values.specs.declared.entry.Entry.TheVariants.{Called, Freed, Logged, LogWord, Restarted, Stopped}
use Rattle.dtx_values.specs.declared.entry.LogNote.TheVariants.{Armed}
use Rattle.dtx_values.specs.declared.number.ActorNo.{ActorNo}
use Rattle.dtx_values.specs.declared.number.TxNo.{TxNo}
use Rattle.dtx_values.specs.declared.trace.Place.TheVariants.{Context, Log, Transaction}
use Rattle.dtx_model.specs.Words.{each, has, onto}
use Rattle.dtx_model.specs.AtLog.{act_calls, armed, at_log, calls_of, found_behind, is_called, is_met, is_reached, is_unarmed, made, one_if, opens_right}
use Rattle.dtx_model.specs.Replay.{at_the_log, put_at}
use Rattle.dtx_model.specs.Traces.{Placed, noted, placed}
use Rattle.dtx_model.proofs.Bools.{and_both, and_left, and_right, not_false, or_false, or_first, or_second}
use Rattle.coordinator_log.specs.Slots.{open_records}
use Rattle.coordinator_log.specs.State.{LogState}
use Rattle.coordinator_log.specs.Stop.{after_calls, stop_in}
use Rattle.coordinator_log.specs.declared.stop.ArmedStop.{ArmedStop}
use Rattle.turn_parts.specs.Counted.{AreCounted, LAST, is_left}
use Rattle.turn_parts.specs.Reopening.{is_no_log_answer}
use Rattle.script_histories.specs.LogQuiet.{is_found_full, is_log_full}
use Rattle.turn_parts.proofs.Counting.{counted_armed, counted_stopped, not_fewer, one_more}
use Rattle.replay_runs.specs.Exact.{faults_made, is_fault_made, is_left_over, left_after, meets_no_stop, stops_exactly}
use Rattle.replay_runs.specs.LogRun.{IsArmedBy, IsCounted, LogGoes}
use Rattle.replay_runs.specs.RunState.{Tells}
use Rattle.replay_runs.proofs.TellingStops.{IsQuiet, broken_on, counted_at, counted_on, left_unarmed, open_on, same_count, still_armed, unmet, unreached}

-- the entry tells nothing of the calls and the openings of the log
abbrev pub is_untelling : Entry → Bool
is_untelling Logged = false
is_untelling Freed = false
is_untelling (Restarted b) = false
is_untelling _ = true

-- so it makes no call, meets no stop, and finds nothing
pub untelling_calls : (x : Entry) (m : ℕ) → is_untelling x ≡ true → calls_of x + m ≡ m
untelling_calls Logged m k = absurd cc
untelling_calls Freed m k = absurd cc
untelling_calls x m k = omega arith

untelling_meets : (T : List Placed) (t : TxNo) (x : Entry) → is_untelling x ≡ true → meets_no_stop T (Transaction t, x) ≡ true
untelling_meets T t Logged k = absurd cc
untelling_meets T t Freed k = absurd cc
untelling_meets T t x k = refl

quiet_entry : (T : List Placed) (t : TxNo) (x : Entry) → is_untelling x ≡ true → IsQuiet T (Transaction t, x)
quiet_entry T t x k = record { armed = refl; made = untelling_calls x (made T) k; unmade = λ behind. refl; left = λ behind l. refl; free = untelling_meets T t x k }

untelling_found : (t : TxNo) (x : Entry) → is_untelling x ≡ true → found_behind ((Transaction t, x) ∷ []) ≡ 0
untelling_found t (Restarted b) k = absurd cc
untelling_found t x k = refl

-- Where the entry isn't the log's, the same is counted.
pub counted_same : (b n : ℕ) (stop : Option ArmedStop) (T : List Placed) (x : Placed) → at_log (x ∷ T) ≡ at_log T → IsQuiet T x → IsCounted b n stop T → IsCounted b n stop (x ∷ T)
counted_same b n stop T x l quiet k = counted_on b n stop T x (subst (AreCounted b n stop) (sym l) k.count) quiet k

-- An entry that tells nothing may come to the trace.
tells_entry : {D : Type 0} (faults : D → ℕ) (honest : Bool) (image : D → List ℕ → Type 0) (start log : LogState D) (T : List Placed) (x : Placed) → at_log (x ∷ T) ≡ at_log T → IsQuiet T x
    → found_behind (x ∷ []) ≡ 0 → opens_right [] x ≡ true → (IsTrue honest → open_records start.slots ≡ [] → is_found_full x ≡ false) → Tells faults honest image start log T → Tells faults honest image start log (x ∷ T)
tells_entry faults honest image start log T x l quiet none here room k = record {
  counted = counted_same (faults start.disk) (faults log.disk) log.armed T x l quiet k.counted;
  foreign = k.foreign;
  opens = λ is empty. open_on x T none here (k.opens is empty);
  unlike = λ is. ap (has is_no_log_answer) l ∙ k.unlike is;
  unfilled = λ is empty. or_false (is_found_full x) (has is_found_full T) (room is empty) (k.unfilled is empty);
}

-- So may a block of a transaction that tells nothing,
pub tells_block : {D : Type 0} (faults : D → ℕ) (honest : Bool) (image : D → List ℕ → Type 0) (start log : LogState D) (T : List Placed) (t : TxNo) (es : List Entry) → each is_untelling es ≡ true
    → (IsTrue honest → open_records start.slots ≡ [] → has is_log_full es ≡ false) → Tells faults honest image start log T → Tells faults honest image start log (onto T (placed t es))
tells_block faults honest image start log T t [] k room c = c
tells_block faults honest image start log T t (x ∷ es) k room c =
    let here : is_untelling x ≡ true = and_left (is_untelling x) (each is_untelling es) k in
    tells_block faults honest image start log ((Transaction t, x) ∷ T) t es (and_right (is_untelling x) (each is_untelling es) k) (λ is empty. or_second (is_log_full x) (has is_log_full es) (room is empty))
    (tells_entry faults honest image start log T (Transaction t, x) refl (quiet_entry T t x here) (untelling_found t x here) refl
    (λ is empty. or_first (is_log_full x) (has is_log_full es) (room is empty)) c)

-- and a block at a context.
pub tells_noted : {D : Type 0} (faults : D → ℕ) (honest : Bool) (image : D → List ℕ → Type 0) (start log : LogState D) (T : List Placed) (a : ActorNo) (es : List Entry) → Tells faults honest image start log T → Tells faults honest image start log (onto T (noted a es))
tells_noted faults honest image start log T a [] c = c
tells_noted faults honest image start log T a (x ∷ es) c =
    tells_noted faults honest image start log ((Context a, x) ∷ T) a es (tells_entry faults honest image start log T (Context a, x) refl (record { armed = refl; made = refl; unmade = λ behind. refl; left = λ behind l. refl; free = refl }) refl refl (λ is empty. refl) c)

-- So may `stopped` at transactions.
pub tells_put : {D : Type 0} (faults : D → ℕ) (honest : Bool) (image : D → List ℕ → Type 0) (start log : LogState D) (T : List Placed) (us : List TxNo) → Tells faults honest image start log T → Tells faults honest image start log (put_at (λ u. Stopped) us T)
tells_put faults honest image start log T [] c = c
tells_put faults honest image start log T (u ∷ us) c =
    tells_put faults honest image start log ((Transaction u, Stopped) ∷ T) us (tells_entry faults honest image start log T (Transaction u, Stopped) refl (quiet_entry T u Stopped refl) refl refl (λ is empty. refl) c)

-- An append or a free that was done met no stop that is armed, and counts its calls.
none_met : (m : ℕ) (old : Option ArmedStop) (T : List Placed) → stop_in m old ≡ None → IsArmedBy old T → is_met T m ≡ false
none_met m old T passes (inl e) = ap (λ a. is_reached a (made T + m)) e ∙ unmet m (made T) old passes
none_met m old T passes (inr e) = ap (λ a. is_reached a (made T + m)) e

armed_done : (m : ℕ) (old new : Option ArmedStop) (T U : List Placed) → armed (at_log U) ≡ armed (at_log T) → made U ≡ m + made T → stop_in m old ≡ None → new ≡ after_calls m old → IsArmedBy old T → IsArmedBy new U
armed_done m old new T U a calls passes left (inl e) =
    inl (a ∙ (e ∙ (same_count m (made T) old passes ∙ (ap (λ i. counted_at i (after_calls m old)) (sym calls) ∙ ap (λ o. counted_at (made U) o) (sym left)))))
armed_done m old new T U a calls passes left (inr e) = inr (a ∙ e)

counted_done : (b n m : ℕ) (old new : Option ArmedStop) (T : List Placed) (x : Placed) → at_log (x ∷ T) ≡ at_log T → made (x ∷ T) ≡ m + made T → ((behind : List Placed) → is_fault_made behind T x ≡ false)
    → ((behind : List Placed) (l : Bool) → left_after behind T x l ≡ l) → meets_no_stop T x ≡ not (is_met T m) → stop_in m old ≡ None → new ≡ after_calls m old → IsCounted b n old T → IsCounted b n new (x ∷ T)
counted_done b n m old new T x l calls unmade over meets passes left k =
    let same : is_left new (armed (at_log T)) ≡ is_left old (armed (at_log T)) = ap (λ o. is_left o (armed (at_log T))) left ∙ still_armed m old (armed (at_log T)) passes in
    record {
      count = record { grows = k.count.grows; told = λ less. rw (l, same) (k.count.told less) };
      broken = broken_on b n old new T x (ap armed l) unmade over same k.broken;
      exact = and_both (meets_no_stop T x) (stops_exactly T) (meets ∙ not_false (is_met T m) (none_met m old T passes k.armed)) k.exact;
      armed = armed_done m old new T (x ∷ T) (ap armed l) calls passes left k.armed;
    }

-- The calls of the same log with the same count of faults are the same.
pub counted_at_log : (b n m : ℕ) (stop : Option ArmedStop) (T : List Placed) → m ≡ n → IsCounted b n stop T → IsCounted b m stop T
counted_at_log b n m stop T e k = subst (λ i. IsCounted b i stop T) (sym e) k

done_entry : {D : Type 0} (faults : D → ℕ) (honest : Bool) (image : D → List ℕ → Type 0) (start from to : LogState D) (T : List Placed) (t : TxNo) (x : Entry) (n : ℕ) → ((x ≡ Logged) × (n ≡ 4)) ⊎ ((x ≡ Freed) × (n ≡ 2))
    → LogGoes faults honest image from to → faults to.disk ≡ faults from.disk → stop_in n from.armed ≡ None → to.armed ≡ after_calls n from.armed → Tells faults honest image start from T → Tells faults honest image start to ((Transaction t, x) ∷ T)
done_entry faults honest image start from to T t x n which goes same passes left k = record {
  counted = counted_at_log (faults start.disk) (faults from.disk) (faults to.disk) to.armed ((Transaction t, x) ∷ T) same (elim which [
    | inl e ↦
        subst (λ y. IsCounted (faults start.disk) (faults from.disk) to.armed ((Transaction t, y) ∷ T)) (sym e.0)
        (counted_done (faults start.disk) (faults from.disk) 4 from.armed to.armed T (Transaction t, Logged) refl refl (λ behind. refl) (λ behind l. refl) refl (ap (λ i. stop_in i from.armed) (sym e.1) ∙ passes)
        (left ∙ ap (λ i. after_calls i from.armed) e.1) k.counted)
    | inr e ↦
        subst (λ y. IsCounted (faults start.disk) (faults from.disk) to.armed ((Transaction t, y) ∷ T)) (sym e.0)
        (counted_done (faults start.disk) (faults from.disk) 2 from.armed to.armed T (Transaction t, Freed) refl refl (λ behind. refl) (λ behind l. refl) refl (ap (λ i. stop_in i from.armed) (sym e.1) ∙ passes)
        (left ∙ ap (λ i. after_calls i from.armed) e.1) k.counted)
  ]);
  foreign = λ is. goes.foreign is (open_records start.slots) (k.foreign is);
  opens = λ is empty. open_on (Transaction t, x) T (elim which [
    | inl e ↦ ap (λ y. found_behind ((Transaction t, y) ∷ [])) e.0
    | inr e ↦ ap (λ y. found_behind ((Transaction t, y) ∷ [])) e.0
  ]) refl (k.opens is empty);
  unlike = k.unlike;
  unfilled = λ is empty. or_false (is_log_full x) (has is_found_full T) (elim which [ inl e ↦ ap is_log_full e.0 | inr e ↦ ap is_log_full e.0 ]) (k.unfilled is empty);
}

-- an append or a free that was done, with what its transaction writes after it
pub tells_done : {D : Type 0} (faults : D → ℕ) (honest : Bool) (image : D → List ℕ → Type 0) (start from to : LogState D) (T : List Placed) (t : TxNo) (x : Entry) (n : ℕ) (es : List Entry) → ((x ≡ Logged) × (n ≡ 4)) ⊎ ((x ≡ Freed) × (n ≡ 2)) → each is_untelling es ≡ true → has is_log_full es ≡ false
    → LogGoes faults honest image from to → faults to.disk ≡ faults from.disk → stop_in n from.armed ≡ None → to.armed ≡ after_calls n from.armed → Tells faults honest image start from T → Tells faults honest image start to (onto T (placed t (x ∷ es)))
tells_done faults honest image start from to T t x n es which quiet room goes same passes left k =
    tells_block faults honest image start to ((Transaction t, x) ∷ T) t es quiet (λ is empty. room) (done_entry faults honest image start from to T t x n which goes same passes left k)

-- What is left over tells of no fault.
fewer_left : (b m f : ℕ) (l : Bool) → b + one_if l f ≤ m → b + f ≤ m
fewer_left b m f true le = omega arith
fewer_left b m f false le = le

-- A stop of the log is explained by the armed stop, which the act met, or by one that was left over, or a fault made it: that, and what the log has left armed then, rose the count.
stop_made : (b m n : ℕ) (a : Option ℕ) (l met : Bool) (f : ℕ) (old new : Option ArmedStop) → m ≤ n → n < LAST → b + one_if (is_left old a && not l) f ≤ m → (l ≡ true → a ≡ None) → (a ≡ None → met ≡ false)
    → (met ≡ false → is_unarmed a ≡ false → Rose m n) → (old ≡ None → Rose m n) → Rose m n ⊎ (new ≡ None) → (old ≡ None → new ≡ None)
    → b + one_if (is_left new None && not (not (is_unarmed a || met))) (one_if (not (met || l)) f) ≤ n
stop_made b m n (Some i) true met f old new le less was none unmet apart cause used unarmed = let no : Some i ≡ None = none refl in absurd cc
stop_made b m n (Some i) false true f None new le less was none unmet apart cause used unarmed = let gone = unarmed refl in rw gone (not_fewer b m n f le was)
stop_made b m n (Some i) false true f (Some r) None le less was none unmet apart cause used unarmed = not_fewer b m n f le was
stop_made b m n (Some i) false true f (Some r) (Some s) le less was none unmet apart cause (inl rose) unarmed = one_more b m n f less was rose
stop_made b m n (Some i) false true f (Some r) (Some s) le less was none unmet apart cause (inr e) unarmed = absurd cc
stop_made b m n (Some i) false false f None new le less was none unmet apart cause used unarmed = let gone = unarmed refl in rw gone (one_more b m n f less was (apart refl refl))
stop_made b m n (Some i) false false f (Some r) None le less was none unmet apart cause used unarmed = one_more b m n f less was (apart refl refl)
stop_made b m n (Some i) false false f (Some r) (Some s) le less was none unmet apart cause used unarmed = one_more b m n f less was (apart refl refl)
stop_made b m n None l true f old new le less was none unmet apart cause used unarmed = let no : true ≡ false = unmet refl in absurd cc
stop_made b m n None l false f old new le less was none unmet apart cause used unarmed = unarmed_made l old new was cause used unarmed
  where
    unarmed_made : (l : Bool) (old new : Option ArmedStop) → b + one_if (is_left old None && not l) f ≤ m → (old ≡ None → Rose m n) → Rose m n ⊎ (new ≡ None) → (old ≡ None → new ≡ None)
        → b + one_if (is_left new None && true) (one_if (not l) f) ≤ n
    unarmed_made true old None was cause used unarmed = not_fewer b m n f le (fewer_left b m f (is_left old None && false) was)
    unarmed_made true old (Some s) was cause (inl rose) unarmed = one_more b m n f less (fewer_left b m f (is_left old None && false) was) rose
    unarmed_made true old (Some s) was cause (inr e) unarmed = absurd cc
    unarmed_made false None None was cause used unarmed = one_more b m n f less was (cause refl)
    unarmed_made false None (Some s) was cause used unarmed = let no : Some s ≡ None = unarmed refl in absurd cc
    unarmed_made false (Some r) None was cause used unarmed = not_fewer b m n (suc f) le was
    unarmed_made false (Some r) (Some s) was cause (inl rose) unarmed = one_more b m n (suc f) less was rose
    unarmed_made false (Some r) (Some s) was cause (inr e) unarmed = absurd cc

-- calls in which what the trace has armed isn't met reach no stop
unreached_by : (calls : ℕ) (old : Option ArmedStop) (T : List Placed) → is_met T calls ≡ false → is_unarmed (armed (at_log T)) ≡ false → IsArmedBy old T → stop_in calls old ≡ None
unreached_by calls old T none some (inl e) = unreached calls (made T) old (sym (ap (λ a. is_reached a (made T + calls)) e) ∙ none)
unreached_by calls old T none some (inr e) = let no : true ≡ false = sym (ap is_unarmed e) ∙ some in absurd cc

stop_broken : (b m n : ℕ) (old new : Option ArmedStop) (T : List Placed) (t : TxNo) → is_called (at_log T) ≡ false → m ≤ n → (stop_in (act_calls t.value T) old ≡ None → Rose m n)
    → Rose m n ⊎ (new ≡ None) → (old ≡ None → new ≡ None) → IsCounted b m old T → (behind : List Placed) → n < LAST
    → b + one_if (is_left new (armed (Stopped ∷ at_log T)) && not (is_left_over behind ((Transaction t, Stopped) ∷ (Log, Stopped) ∷ T))) (faults_made behind ((Transaction t, Stopped) ∷ (Log, Stopped) ∷ T)) ≤ n
stop_broken b m n old new T t uncalled le cause used unarmed k behind less =
    let there = (Log, Stopped) ∷ (Transaction t, Stopped) ∷ behind in
    let calls = act_calls t.value T in
    rw uncalled
    (stop_made b m n (armed (at_log T)) (is_left_over there T) (is_met T calls) (faults_made there T) old new le less (k.broken there (omega arith)) (left_unarmed there T) (λ e. ap (λ a. is_reached a (made T + calls)) e)
    (λ none some. cause (unreached_by calls old T none some k.armed)) (λ e. cause (ap (stop_in calls) e)) used unarmed)

stop_counted : (b m n : ℕ) (old new : Option ArmedStop) (T : List Placed) (t : TxNo) → is_called (at_log T) ≡ false → m ≤ n → (stop_in (act_calls t.value T) old ≡ None → Rose m n)
    → Rose m n ⊎ (new ≡ None) → (old ≡ None → new ≡ None) → IsCounted b m old T → IsCounted b n new ((Transaction t, Stopped) ∷ (Log, Stopped) ∷ T)
stop_counted b m n old new T t uncalled le cause used unarmed k = record {
  count = counted_stopped b m n old new (at_log T) uncalled le (λ e. cause (ap (stop_in (act_calls t.value T)) e)) used unarmed k.count;
  broken = stop_broken b m n old new T t uncalled le cause used unarmed k;
  exact = k.exact;
  armed = inr (rw uncalled refl);
}

-- an append or a free that stopped the log
pub tells_stopped : {D : Type 0} (faults : D → ℕ) (honest : Bool) (image : D → List ℕ → Type 0) (start from to : LogState D) (T : List Placed) (t : TxNo) (us : List TxNo) → is_called (at_log T) ≡ false → LogGoes faults honest image from to
    → (stop_in (act_calls t.value T) from.armed ≡ None → Rose (faults from.disk) (faults to.disk)) → Rose (faults from.disk) (faults to.disk) ⊎ (to.armed ≡ None) → (from.armed ≡ None → to.armed ≡ None)
    → Tells faults honest image start from T → Tells faults honest image start to (put_at (λ u. Stopped) us (onto (at_the_log Stopped T) (placed t (Stopped ∷ []))))
tells_stopped faults honest image start from to T t us uncalled goes cause used unarmed k =
    tells_put faults honest image start to ((Transaction t, Stopped) ∷ (Log, Stopped) ∷ T) us (record {
      counted = stop_counted (faults start.disk) (faults from.disk) (faults to.disk) from.armed to.armed T t uncalled goes.grows cause used unarmed k.counted;
      foreign = λ is. goes.foreign is (open_records start.slots) (k.foreign is);
      opens = λ is empty. open_on (Transaction t, Stopped) ((Log, Stopped) ∷ T) refl refl (open_on (Log, Stopped) T refl refl (k.opens is empty));
      unlike = k.unlike;
      unfilled = k.unfilled;
    })

-- where only the log's records and its state changed
pub tells_grown : {D : Type 0} (faults : D → ℕ) (honest : Bool) (image : D → List ℕ → Type 0) (start from to : LogState D) (T : List Placed) → LogGoes faults honest image from to → faults to.disk ≡ faults from.disk → to.armed ≡ from.armed → Tells faults honest image start from T → Tells faults honest image start to T
tells_grown faults honest image start from to T goes same left k = record {
  counted = counted_at_log (faults start.disk) (faults from.disk) (faults to.disk) to.armed T same (subst (λ o. IsCounted (faults start.disk) (faults from.disk) o T) (sym left) k.counted);
  foreign = λ is. goes.foreign is (open_records start.slots) (k.foreign is);
  opens = k.opens;
  unlike = k.unlike;
  unfilled = k.unfilled;
}

-- A stop was armed at the log.
arm_counted : (b m : ℕ) (old : Option ArmedStop) (T : List Placed) (n : ℕ) (a : ActorNo) (k : ℕ) (i : Image) → 1 ≤ k → IsCounted b m old T
    → IsCounted b m (Some (record { passes = k - 1; image = i })) ((Log, LogWord (Armed k i)) ∷ (Log, Called n a Fine) ∷ T)
arm_counted b m old T n a k i first c = record {
  count = counted_armed b m old (record { passes = k - 1; image = i }) (at_log T) n a k i c.count;
  broken = λ behind less.
      let there = (Log, Called n a Fine) ∷ (Log, LogWord (Armed k i)) ∷ behind in
      fewer_left b m (faults_made there T) (is_left old (armed (at_log T)) && not (is_left_over there T)) (c.broken there less);
  exact = c.exact;
  armed = inl (ap Some (omega arith));
}

pub tells_armed : {D : Type 0} (faults : D → ℕ) (honest : Bool) (image : D → List ℕ → Type 0) (start from to : LogState D) (T : List Placed) (n : ℕ) (a : ActorNo) (k : ℕ) (i : Image) → 1 ≤ k → LogGoes faults honest image from to → faults to.disk ≡ faults from.disk
    → to.armed ≡ Some (record { passes = k - 1; image = i }) → Tells faults honest image start from T → Tells faults honest image start to (at_the_log (LogWord (Armed k i)) (at_the_log (Called n a Fine) T))
tells_armed faults honest image start from to T n a k i first goes same left c = record {
  counted = counted_at_log (faults start.disk) (faults from.disk) (faults to.disk) to.armed ((Log, LogWord (Armed k i)) ∷ (Log, Called n a Fine) ∷ T) same
      (subst (λ o. IsCounted (faults start.disk) (faults from.disk) o ((Log, LogWord (Armed k i)) ∷ (Log, Called n a Fine) ∷ T)) (sym left) (arm_counted (faults start.disk) (faults from.disk) from.armed T n a k i first c.counted));
  foreign = λ is. goes.foreign is (open_records start.slots) (c.foreign is);
  opens = λ is empty. open_on (Log, LogWord (Armed k i)) ((Log, Called n a Fine) ∷ T) refl refl (open_on (Log, Called n a Fine) T refl refl (c.opens is empty));
  unlike = c.unlike;
  unfilled = c.unfilled;
}
