-- What the entries of the log tell, as they come to it.
use Rattle.std.proofs.Common.{◌≡◌, ◌≢◌, ◌⊎◌, ◌≤◌, ◌<◌, ◌+◌, ◌^◌, ◌||◌, ℕ, suc, Bool, true, false, List, ◌∷◌, length, Option, Some, Result, Ok, Err, refl, sym, ap, subst, ◌∙◌, inl, inr, arith, le_trans, if◌then◌else◌}
use Rattle.std.specs.Prelude.{IsTrue, IfErr, IfOk, OnOk, is_ok}
use Rattle.outside.specs.Disk.{AreWithin}
use Rattle.outside.specs.Faults.{Rose}
use Rattle.dtx_values.specs.declared.Image.{Image}
use Rattle.dtx_values.specs.declared.entry.Entry.{Entry}
use Rattle.dtx_values.specs.declared.entry.Entry.TheVariants.{Called}
use Rattle.dtx_values.specs.declared.number.ActorNo.{ActorNo}
use Rattle.dtx_values.specs.declared.script.Line.{Line}
use Rattle.dtx_model.specs.AtLog.{armed, faults as faults_told, is_called, is_up_by, one_if}
use Rattle.dtx_model.specs.Log.{log_has}
use Rattle.dtx_model.specs.Words.{has}
use Rattle.coordinator_log.specs.Slots.{open_records}
use Rattle.coordinator_log.specs.State.{LogState}
use Rattle.coordinator_log.specs.declared.refusal.LogRefusal.{LogRefusal}
use Rattle.coordinator_log.specs.declared.refusal.LogRefusal.TheVariants as Refusal
use Rattle.coordinator_log.specs.declared.stop.ArmedStop.{ArmedStop}
use Rattle.script_calls.specs.Prefix.{IsLogPrefix, lines_by}
use Rattle.script_calls.specs.SeenRow.{SeenRow}
use Rattle.script_calls.specs.declared.calls.LogCall.{LogCall}
use Rattle.tx_cells.specs.LogAnswers.{is_no_log_answer, stop_armed}
use Rattle.tx_cells.specs.LogCell.{AreCounted, AreOwn, IsLogKept, LAST, LogCell, is_left}
use Rattle.turn_parts.proofs.Counting.{counted_armed}
use Rattle.turn_parts.specs.LogEvents.{IsLogHistory}
use Rattle.turn_parts.specs.Reopening.{IsReopened, restart_answer, restarted}

-- Of what is counted, where as much is told as before,
counted_same : (b m n : ℕ) (stop : Option ArmedStop) (past U : List Entry) → armed U ≡ armed past → faults_told U ≡ faults_told past → m ≤ n → AreCounted b m stop past → AreCounted b n stop U
counted_same b m n stop past U left told le k = record {
  grows = le_trans k.grows le;
  told = λ less. rw (left, told) (let was = k.told (omega arith) in omega arith);
}

-- and where one fault more is told of, which rose the count.
more_if : (b m n f : ℕ) (l : Bool) → n < LAST → Rose m n → b + one_if l f ≤ m → b + one_if l (suc f) ≤ n
more_if b m n f true less rose was = omega arith
more_if b m n f false less rose was = omega arith

counted_more : (b m n : ℕ) (stop : Option ArmedStop) (past U : List Entry) → armed U ≡ armed past → faults_told U ≡ suc (faults_told past) → m ≤ n → Rose m n → AreCounted b m stop past → AreCounted b n stop U
counted_more b m n stop past U left told le rose k = record {
  grows = le_trans k.grows le;
  told = λ less. rw (left, told) (more_if b m n (faults_told past) (is_left stop (armed past)) less rose (k.told (omega arith)));
}

-- What a restart writes leaves the armed stop as it was,
armed_restarted : (n : ℕ) (a : ActorNo) (up : Bool) (found : Result ℕ LogRefusal) (past : List Entry) → armed (restarted n a up found past) ≡ armed past
armed_restarted n a true (Ok m) past = refl
armed_restarted n a false (Ok m) past = refl
armed_restarted n a true (Err e) past = refl
armed_restarted n a false (Err e) past = refl

-- and tells of a fault where the log wasn't opened by one.
faults_opened : (n m : ℕ) (a : ActorNo) (up : Bool) (past : List Entry) → faults_told (restarted n a up (Ok m) past) ≡ faults_told past
faults_opened n m a true past = refl
faults_opened n m a false past = refl

faults_unlike : (n p : ℕ) (a : ActorNo) (up : Bool) (past : List Entry) → faults_told (restarted n a up (Err (Refusal.NotALog p)) past) ≡ faults_told past
faults_unlike n p a true past = refl
faults_unlike n p a false past = refl

faults_met : (n : ℕ) (a : ActorNo) (up : Bool) (past : List Entry) → faults_told (restarted n a up (Err Refusal.Fault) past) ≡ suc (faults_told past)
faults_met n a true past = refl
faults_met n a false past = refl

abbrev pub IsByFault : LogRefusal → Type 0
IsByFault e = (e ≡ Refusal.Fault) ⊎ ((p : ℕ) × (e ≡ Refusal.NotALog p))

counted_restarted : (b m k : ℕ) (stop : Option ArmedStop) (past : List Entry) (n : ℕ) (a : ActorNo) (up : Bool) (found : Result ℕ LogRefusal) → m ≤ k → (found ≡ Err Refusal.Fault → Rose m k) → IfErr found IsByFault
    → AreCounted b m stop past → AreCounted b k stop (restarted n a up found past)
counted_restarted b m k stop past n a up (Ok r) le rise only c =
    counted_same b m k stop past (restarted n a up (Ok r) past) (armed_restarted n a up (Ok r) past) (faults_opened n r a up past) le c
counted_restarted b m k stop past n a up (Err e) le rise only c =
    elim only [
      | inl is ↦
          subst (λ x. AreCounted b k stop (restarted n a up (Err x) past)) (sym is)
          (counted_more b m k stop past (restarted n a up (Err Refusal.Fault) past) (armed_restarted n a up (Err Refusal.Fault) past) (faults_met n a up past) le (rise (ap Err is)) c)
      | inr is ↦
          subst (λ x. AreCounted b k stop (restarted n a up (Err x) past)) (sym is.1)
          (counted_same b m k stop past (restarted n a up (Err (Refusal.NotALog is.0)) past) (armed_restarted n a up (Err (Refusal.NotALog is.0)) past) (faults_unlike n is.0 a up past) le c)
    ]

-- The log is up after a restart where it was opened, and then no call is the last entry.
up_restarted : (n : ℕ) (a : ActorNo) (up : Bool) (found : Result ℕ LogRefusal) (past : List Entry) → is_up_by past ≡ up → is_up_by (restarted n a up found past) ≡ is_ok found
up_restarted n a up (Ok m) past is = refl
up_restarted n a true (Err e) past is = refl
up_restarted n a false (Err e) past is = is

uncalled_restarted : (n : ℕ) (a : ActorNo) (up : Bool) (found : Result ℕ LogRefusal) (past : List Entry) → is_ok found ≡ true → is_called (restarted n a up found past) ≡ false
uncalled_restarted n a up (Ok m) past is = refl
uncalled_restarted n a up (Err e) past is = absurd cc

answer_like : (n : ℕ) (a : ActorNo) (found : Result ℕ LogRefusal) → ((p : ℕ) → found ≢ Err (Refusal.NotALog p)) → is_no_log_answer (Called n a (restart_answer found)) ≡ false
answer_like n a (Ok m) never = refl
answer_like n a (Err (Refusal.NotALog p)) never = absurd (never p refl)
answer_like n a (Err Refusal.Fault) never = refl
answer_like n a (Err Refusal.Stopped) never = refl
answer_like n a (Err (Refusal.Full k)) never = refl
answer_like n a (Err Refusal.StoppedNow) never = refl
answer_like n a (Err (Refusal.NoSuch k)) never = refl
answer_like n a (Err Refusal.Memory) never = refl

neither : (b c : Bool) → b ≡ false → c ≡ false → (b || c) ≡ false
neither true c p q = absurd cc
neither false c p q = q

unlike_restarted : (n : ℕ) (a : ActorNo) (up : Bool) (found : Result ℕ LogRefusal) (past : List Entry) → ((p : ℕ) → found ≢ Err (Refusal.NotALog p)) → has is_no_log_answer past ≡ false
    → has is_no_log_answer (restarted n a up found past) ≡ false
unlike_restarted n a up found past never is =
    let here = neither (is_no_log_answer (Called n a (restart_answer found))) (has is_no_log_answer past) (answer_like n a found never) is in
    by up found here
  where
    by : (up : Bool) (found : Result ℕ LogRefusal) → has is_no_log_answer (Called n a (restart_answer found) ∷ past) ≡ false → has is_no_log_answer (restarted n a up found past) ≡ false
    by true (Ok m) h = h
    by false (Ok m) h = h
    by true (Err e) h = h
    by false (Err e) h = h

-- a restart writes at least one entry, and two where the log was opened
life_restarted : (n : ℕ) (a : ActorNo) (up : Bool) (found : Result ℕ LogRefusal) (past : List Entry) (l : ℕ) → l ≤ 2 ^ 62 + length past → (if is_ok found then l + 1 else l) ≤ 2 ^ 62 + length (restarted n a up found past)
life_restarted n a true (Ok m) past l le = omega arith
life_restarted n a false (Ok m) past l le = omega arith
life_restarted n a true (Err e) past l le = omega arith
life_restarted n a false (Err e) past l le = omega arith

-- The lines of an actor's calls in it are one more, where it is the actor's.
pub lines_restarted : (b n : ℕ) (a : ActorNo) (up : Bool) (found : Result ℕ LogRefusal) (past : List Entry) → lines_by b (restarted n a up found past) ≡ lines_by b (Called n a (restart_answer found) ∷ past)
lines_restarted b n a true (Ok m) past = refl
lines_restarted b n a false (Ok m) past = refl
lines_restarted b n a true (Err e) past = refl
lines_restarted b n a false (Err e) past = refl

-- A stop that is armed by the actor's next call keeps what the log's cell keeps,
pub kept_armed : {D : Type 0} (faults : D → ℕ) (honest : Bool) (image : D → List ℕ → Type 0) (s : List Line) (tells : Bool) (before : ℕ) (old : LogCell D) (log : LogState D) (rows : List (SeenRow LogCall)) (n : ℕ) (a : ActorNo) (k : ℕ) (i : Image) (st : ArmedStop)
    → log ≡ record old.log { armed = Some st } → IsLogPrefix s rows (stop_armed n a k i old.past) → IsLogHistory s (stop_armed n a k i old.past) → IsLogKept faults honest image s tells before old
    → IsLogKept faults honest image s tells before (record { log = log; rows = rows; past = stop_armed n a k i old.past })
kept_armed {D} faults honest image s tells before old log rows n a k i st is order events c =
    subst (λ (l : LogState D). IsLogKept faults honest image s tells before (record { log = l; rows = rows; past = stop_armed n a k i old.past })) (sym is) (record {
      script = c.script;
      in_order = order;
      events = events;
      honest_is = c.honest_is;
      counted = counted_armed before (faults old.log.disk) old.log.armed st old.past n a k i c.counted;
      up = c.up;
      uncalled = λ _. refl;
      life = let le = c.life in omega arith;
      unlike = c.unlike;
      held = c.held;
      imaged = c.imaged;
      logs = c.logs;
    })

-- and so does a restart.
pub kept_restarted : {D : Type 0} (faults : D → ℕ) (honest : Bool) (image : D → List ℕ → Type 0) (seen : D → List ℕ) (s : List Line) (tells : Bool) (before : ℕ) (old : LogCell D) (log : LogState D) (rows : List (SeenRow LogCall)) (n : ℕ) (a : ActorNo) (found : Result ℕ LogRefusal)
    → IsReopened faults honest seen found old.log log → IfErr found IsByFault → faults old.log.disk ≤ faults log.disk → (IsTrue honest → image old.log.disk (seen old.log.disk)) → (IsTrue honest → AreWithin (image old.log.disk) (image log.disk))
    → IsLogPrefix s rows (restarted n a old.log.is_up found old.past) → IsLogHistory s (restarted n a old.log.is_up found old.past) → IsLogKept faults honest image s tells before old
    → IsLogKept faults honest image s tells before (record { log = log; rows = rows; past = restarted n a old.log.is_up found old.past })
kept_restarted {D} faults honest image seen s tells before old log rows n a found r only grows among within order events c = record {
  script = c.script;
  in_order = order;
  events = events;
  honest_is = c.honest_is;
  counted = subst (λ (o : Option ArmedStop). AreCounted before (faults log.disk) o (restarted n a old.log.is_up found old.past)) (sym r.armed)
      (counted_restarted before (faults old.log.disk) (faults log.disk) old.log.armed old.past n a old.log.is_up found grows r.fault only c.counted);
  up = up_restarted n a old.log.is_up found old.past c.up ∙ sym r.up;
  uncalled = λ is. uncalled_restarted n a old.log.is_up found old.past (sym r.up ∙ is);
  life = subst (λ (l : ℕ). l ≤ 2 ^ 62 + length (restarted n a old.log.is_up found old.past)) (sym r.life) (life_restarted n a old.log.is_up found old.past old.log.life c.life);
  unlike = λ is. unlike_restarted n a old.log.is_up found old.past (r.never is) (c.unlike is);
  held = λ is up. held found (r.records is) (sym r.up ∙ up) (c.imaged is (seen old.log.disk) (among is));
  imaged = λ is b one. c.imaged is b (within is b one);
  logs = λ is b one. c.logs is b (within is b one);
}
  where
    held : (f : Result ℕ LogRefusal) → OnOk f (log_has (seen old.log.disk) ≡ Ok (open_records log.slots)) → is_ok f ≡ true → IfOk (log_has (seen old.log.disk)) (AreOwn s) → AreOwn s (open_records log.slots)
    held (Ok m) e is k = rw e at k
    held (Err m) e is k = absurd cc
