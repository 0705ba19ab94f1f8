-- What a trace tells of the log, where it is opened again.
use Rattle.std.proofs.Common.{◌≡◌, ◌≤◌, ◌<◌, ◌+◌, ◌==◌, ℕ, suc, Bool, true, false, ◌&&◌, not, List, [], ◌∷◌, ◌++◌, map, Option, if◌then◌else◌, refl, sym, ap, subst, ◌∙◌, arith, le_trans}
use Rattle.std.specs.Prelude.{IsTrue}
use Rattle.std.proofs.lemmas.Bool.Decides.{Decides-eqb}
use Rattle.outside.specs.Faults.{Rose}
use Rattle.dtx_values.specs.Table.{how_many}
use Rattle.dtx_values.specs.declared.entry.Answer.{Answer}
use Rattle.dtx_values.specs.declared.entry.Answer.TheVariants.{Fault, Fine, NotALog}
use Rattle.dtx_values.specs.declared.entry.Entry.TheVariants.{Called, LogWord, Restarted, Stopped}
use Rattle.dtx_values.specs.declared.entry.LogNote.TheVariants.{Opened}
use Rattle.dtx_values.specs.declared.number.ActorNo.{ActorNo}
use Rattle.dtx_values.specs.declared.number.TxNo.{TxNo}
use Rattle.dtx_values.specs.declared.trace.Place.TheVariants.{Log, Transaction}
use Rattle.dtx_model.specs.Words.{has}
use Rattle.dtx_model.specs.AtLog.{armed, at_log, faults as faults_told, found_behind, hit, is_called, is_fault_answer, is_log_up, known, one_if, open_right}
use Rattle.dtx_model.specs.Replay.{Differs, Faults, Opens, Reopening, after_halt, after_restart, at_the_log, put_at, stopped_by_restart}
use Rattle.dtx_model.specs.Traces.{Placed}
use Rattle.dtx_model.proofs.Bools.{and_both, or_false}
use Rattle.script_histories.proofs.PutAt.{log-put}
use Rattle.coordinator_log.specs.Slots.{open_records}
use Rattle.coordinator_log.specs.State.{LogState}
use Rattle.coordinator_log.specs.declared.stop.ArmedStop.{ArmedStop}
use Rattle.turn_parts.specs.Counted.{LAST, is_left}
use Rattle.turn_parts.specs.Reopening.{is_no_log_answer}
use Rattle.replay_runs.specs.Exact.{faults_made, is_left_over}
use Rattle.replay_runs.specs.LogRun.{IsCounted, LogGoes}
use Rattle.script_histories.specs.LogQuiet.{is_found_full}
use Rattle.replay_runs.specs.RunState.{Tells}
use Rattle.replay_runs.proofs.Telling.{counted_same, tells_put}
use Rattle.replay_runs.proofs.TellingStops.{counted_on, open_on, open_same}

-- The call of a restart, which is answered `fault` only where the count of faults rose
told_called : (b m n : ℕ) (l c : Bool) (f : ℕ) → m ≤ n → n < LAST → b + one_if l f ≤ m → (c ≡ true → Rose m n) → b + one_if l (one_if c f) ≤ n
told_called b m n true true f le less was cause = let rose = cause refl in let before : b + suc f ≤ m = was in let after : b + suc (suc f) ≤ n = omega arith in after
told_called b m n false true f le less was cause = let rose = cause refl in let before : b + f ≤ m = was in let after : b + suc f ≤ n = omega arith in after
told_called b m n l false f le less was cause = le_trans was le

counted_called : (b m n : ℕ) (o : Option ArmedStop) (T : List Placed) (i : ℕ) (a : ActorNo) (x : Answer) → m ≤ n → (is_fault_answer x ≡ true → Rose m n) → IsCounted b m o T → IsCounted b n o ((Log, Called i a x) ∷ T)
counted_called b m n o T i a x le cause k = record {
  count = record {
    grows = le_trans k.count.grows le;
    told = λ less. told_called b m n (is_left o (armed (at_log T))) (is_fault_answer x) (faults_told (at_log T)) le less (k.count.told (omega arith)) cause;
  };
  broken = λ behind less.
      let there = (Log, Called i a x) ∷ behind in
      told_called b m n (is_left o (armed (at_log T)) && not (is_left_over there T)) (is_fault_answer x) (faults_made there T) le less (k.broken there (omega arith)) cause;
  exact = k.exact;
  armed = k.armed;
}

tells_called : {D : Type 0} (faults : D → ℕ) (honest : Bool) (image : D → List ℕ → Type 0) (start from to : LogState D) (T : List Placed) (i : ℕ) (a : ActorNo) (x : Answer) → LogGoes faults honest image from to
    → (is_fault_answer x ≡ true → Rose (faults from.disk) (faults to.disk)) → (IsTrue honest → is_no_log_answer (Called i a x) ≡ false) → to.armed ≡ from.armed → Tells faults honest image start from T → Tells faults honest image start to (at_the_log (Called i a x) T)
tells_called faults honest image start from to T i a x goes cause like left k = record {
  counted = subst (λ o. IsCounted (faults start.disk) (faults to.disk) o ((Log, Called i a x) ∷ T)) (sym left) (counted_called (faults start.disk) (faults from.disk) (faults to.disk) from.armed T i a x goes.grows cause k.counted);
  foreign = λ is. goes.foreign is (open_records start.slots) (k.foreign is);
  opens = λ is empty. open_on (Log, Called i a x) T refl refl (k.opens is empty);
  unlike = λ is. or_false (is_no_log_answer (Called i a x)) (has is_no_log_answer (at_log T)) (like is) (k.unlike is);
  unfilled = k.unfilled;
}

-- The stop that the call brings
counted_halted : (b m : ℕ) (o : Option ArmedStop) (T : List Placed) → is_called (at_log T) ≡ true → IsCounted b m o T → IsCounted b m o ((Log, Stopped) ∷ T)
counted_halted b m o T called k =
    counted_on b m o T (Log, Stopped) (record { grows = k.count.grows; told = λ less. rw called (k.count.told less) })
    (record { armed = rw called refl; made = refl; unmade = λ behind. rw called refl; left = λ behind l. rw called refl; free = refl }) k

tells_halted : {D : Type 0} (faults : D → ℕ) (honest : Bool) (image : D → List ℕ → Type 0) (start log : LogState D) (T : List Placed) (us : List TxNo) → is_called (at_log T) ≡ true → Tells faults honest image start log T
    → Tells faults honest image start log (put_at (λ u. Stopped) us (at_the_log Stopped T))
tells_halted faults honest image start log T us called k =
    tells_put faults honest image start log ((Log, Stopped) ∷ T) us (record {
      counted = counted_halted (faults start.disk) (faults log.disk) log.armed T called k.counted;
      foreign = k.foreign;
      opens = λ is empty. open_on (Log, Stopped) T refl refl (k.opens is empty);
      unlike = k.unlike;
      unfilled = k.unfilled;
    })

-- The opening, and what is found in it
counted_opened : (b m : ℕ) (o : Option ArmedStop) (T : List Placed) (n : ℕ) → IsCounted b m o T → IsCounted b m o ((Log, LogWord (Opened n)) ∷ T)
counted_opened b m o T n k = counted_on b m o T (Log, LogWord (Opened n)) (record { grows = k.count.grows; told = k.count.told }) (record { armed = refl; made = refl; unmade = λ behind. refl; left = λ behind l. refl; free = refl }) k

counted_found : (b m : ℕ) (o : Option ArmedStop) (T : List Placed) (found : ℕ → Bool) (ts : List TxNo) → IsCounted b m o T → IsCounted b m o (put_at (λ t. Restarted (found t.value)) ts T)
counted_found b m o T found [] k = k
counted_found b m o T found (t ∷ ts) k =
    let x : Placed = (Transaction t, Restarted (found t.value)) in
    counted_found b m o (x ∷ T) found ts (counted_same b m o T x refl (record { armed = refl; made = omega arith; unmade = λ behind. refl; left = λ behind l. refl; free = refl }) k)

-- what is found stands directly after the opening
open_put : (found : ℕ → Bool) (ts : List TxNo) (b T : List Placed) → open_right (map (λ t. (Transaction t, Restarted (found t.value))) ts ++ b) T ≡ true → open_right b (put_at (λ t. Restarted (found t.value)) ts T) ≡ true
open_put found [] b T k = k
open_put found (t ∷ ts) b T k = open_put found ts b ((Transaction t, Restarted (found t.value)) ∷ T) k

found_count : (found : ℕ → Bool) (ts : List TxNo) → found_behind (map (λ t. (Transaction t, Restarted (found t.value))) ts ++ []) ≡ how_many (λ t. found t.value) ts
found_count found [] = refl
found_count found (t ∷ ts) = ap (one_if (found t.value)) (found_count found ts) ∙ by (found t.value)
  where
    by : (b : Bool) → one_if b (how_many (λ t. found t.value) ts) ≡ (if b then suc (how_many (λ t. found t.value) ts) else how_many (λ t. found t.value) ts)
    by true = refl
    by false = refl

open_found : (found : ℕ → Bool) (ts : List TxNo) (n : ℕ) (T : List Placed) → n ≡ how_many (λ t. found t.value) ts → open_right [] T ≡ true → open_right [] (put_at (λ t. Restarted (found t.value)) ts (at_the_log (LogWord (Opened n)) T)) ≡ true
open_found found ts n T e k =
    let block = map (λ (t : TxNo). (Transaction t, Restarted (found t.value))) ts ++ [] in
    let here : (n == found_behind block) ≡ true = (Decides-eqb n (found_behind block)).1 (e ∙ sym (found_count found ts)) in
    open_put found ts [] ((Log, LogWord (Opened n)) ∷ T) (and_both (n == found_behind block) (open_right ((Log, LogWord (Opened n)) ∷ block) T) here (open_same ((Log, LogWord (Opened n)) ∷ block) [] T refl ∙ k))

-- no transaction that starts again finds the log full
put_unfilled : (found : ℕ → Bool) (ts : List TxNo) (T : List Placed) → has is_found_full (put_at (λ t. Restarted (found t.value)) ts T) ≡ has is_found_full T
put_unfilled found [] T = refl
put_unfilled found (t ∷ ts) T = put_unfilled found ts ((Transaction t, Restarted (found t.value)) ∷ T)

tells_opened : {D : Type 0} (faults : D → ℕ) (honest : Bool) (image : D → List ℕ → Type 0) (start log : LogState D) (T : List Placed) (found : ℕ → Bool) (n : ℕ) (ts : List TxNo)
    → (IsTrue honest → open_records start.slots ≡ [] → n ≡ how_many (λ t. found t.value) ts) → Tells faults honest image start log T
    → Tells faults honest image start log (put_at (λ t. Restarted (found t.value)) ts (at_the_log (LogWord (Opened n)) T))
tells_opened faults honest image start log T found n ts count k = record {
  counted = counted_found (faults start.disk) (faults log.disk) log.armed ((Log, LogWord (Opened n)) ∷ T) found ts (counted_opened (faults start.disk) (faults log.disk) log.armed T n k.counted);
  foreign = k.foreign;
  opens = λ is empty. open_found found ts n T (count is empty) (k.opens is empty);
  unlike = λ is. ap (has is_no_log_answer) (log-put (λ t. Restarted (found t.value)) ts ((Log, LogWord (Opened n)) ∷ T)) ∙ k.unlike is;
  unfilled = λ is empty. put_unfilled found ts ((Log, LogWord (Opened n)) ∷ T) ∙ k.unfilled is empty;
}

-- a restart's call, and the stop that it brings where the log runs
pub tells_halt : {D : Type 0} (faults : D → ℕ) (honest : Bool) (image : D → List ℕ → Type 0) (start from to : LogState D) (T : List Placed) (i : ℕ) (a : ActorNo) (x : Answer) → LogGoes faults honest image from to
    → (is_fault_answer x ≡ true → Rose (faults from.disk) (faults to.disk)) → (IsTrue honest → is_no_log_answer (Called i a x) ≡ false) → to.armed ≡ from.armed → Tells faults honest image start from T → Tells faults honest image start to (after_halt i a x T)
tells_halt {D} faults honest image start from to T i a x goes cause like left k = by (is_log_up T) (tells_called faults honest image start from to T i a x goes cause like left k)
  where
    by : (up : Bool) → Tells faults honest image start to (at_the_log (Called i a x) T) → Tells faults honest image start to (stopped_by_restart up (at_the_log (Called i a x) T))
    by true c = tells_halted faults honest image start to ((Log, Called i a x) ∷ T) (hit ((Log, Called i a x) ∷ T)) refl c
    by false c = c

-- What a restart gives is so: it opens the log with as many records as are found; `fault` is its answer where one came, and `notalog` only over a disk that isn't honest.
abbrev pub IsJust : (honest : Bool) (empty rose : Type 0) → List Placed → Reopening → Type 0
IsJust honest empty rose T (Opens found n) = IsTrue honest → empty → n ≡ how_many (λ (t : TxNo). found t.value) (known T)
IsJust honest empty rose T Faults = rose
IsJust honest empty rose T (Differs p) = IsTrue honest → ⊥

-- a restart
pub tells_restart : {D : Type 0} (faults : D → ℕ) (honest : Bool) (image : D → List ℕ → Type 0) (start from to : LogState D) (T : List Placed) (i : ℕ) (a : ActorNo) (x : Reopening) → LogGoes faults honest image from to → to.armed ≡ from.armed
    → IsJust honest (open_records start.slots ≡ []) (Rose (faults from.disk) (faults to.disk)) (after_halt i a Fine T) x → Tells faults honest image start from T → Tells faults honest image start to (after_restart i a x T)
tells_restart faults honest image start from to T i a (Opens found n) goes left just k =
    tells_opened faults honest image start to (after_halt i a Fine T) found n (known (after_halt i a Fine T)) just (tells_halt faults honest image start from to T i a Fine goes (λ e. absurd cc) (λ is. refl) left k)
tells_restart faults honest image start from to T i a Faults goes left just k = tells_halt faults honest image start from to T i a Fault goes (λ e. just) (λ is. refl) left k
tells_restart faults honest image start from to T i a (Differs p) goes left just k = tells_halt faults honest image start from to T i a (NotALog p) goes (λ e. absurd cc) (λ is. absurd (just is)) left k
