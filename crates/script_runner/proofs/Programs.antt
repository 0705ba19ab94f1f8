-- From what the parts of the top call say to what it promises.
use Rattle.std.proofs.Common.{◌≡◌, ℕ, Bool, ◌&&◌, IsTrue, ◌⊎◌, inl, inr, List, [], filter, None, ap, refl, sym, ◌∙◌, subst}
use Rattle.std.proofs.Math.Bool.{and-true}
use Rattle.std.specs.Prelude.{Result, Ok, Err, IfOk}
use Rattle.outside.specs.Faults.{Rose}
use Rattle.dtx_values.specs.declared.script.Line.{Line}
use Rattle.dtx_values.specs.declared.script.BadCause.{BadCause}
use Rattle.dtx_model.specs.AtLog.{is_log_up}
use Rattle.dtx_model.specs.Faults.{Bad}
use Rattle.dtx_model.specs.Grammar.{Reads}
use Rattle.dtx_model.specs.Log.{CommitRecord, is_record_of, log_has}
use Rattle.dtx_model.specs.Outcome.{is_empty}
use Rattle.dtx_model.specs.Traces.{Placed}
use Rattle.dtx_model.specs.Words.{past_of}
use Rattle.coordinator_log.specs.Crash.{AllHold}
use Rattle.coordinator_log.specs.Slots.{open_records}
use Rattle.coordinator_log.specs.State.{LogState}
use Rattle.tx_world.specs.AtLog.{AreLogs}
use Rattle.turn_parts.specs.Runs.{EachHolds}
use Rattle.replay_runs.specs.Ending.{AreOfTransactions, AreOwnLogs, AreRecorded, EndsAs, IsLog, IsLogOf, MayBeRecorded}
use Rattle.replay_runs.specs.LogRun.{AreForeignSame, IsForeignKept, LogGoes, LogStays, MetNoFault}
use Rattle.replay_runs.specs.Lawful.{IsLawful}
use Rattle.script_runner.specs.Program.{IsReplayOf}
use Rattle.replay_runs.specs.Run.{IsRunOf}

-- where a log has no record, each image that has its records has none
pub held_none : {D : Type 0} (image : D → List ℕ → Type 0) (log : LogState D) → open_records log.slots ≡ [] → AllHold (image log.disk) (open_records log.slots) → AllHold (image log.disk) []
held_none image log empty held = subst (λ (rs : List CommitRecord). AllHold (image log.disk) rs) empty held

-- Each image of a log that was formatted is a log without a record, and no record is no transaction's.
are_empty : (image : List ℕ → Type 0) → AllHold image [] → AreLogs image
are_empty image held c i = ([], held c i)

is_foreign_kept : {D : Type 0} (image : D → List ℕ → Type 0) (log : LogState D) → AllHold (image log.disk) [] → open_records log.slots ≡ [] → IsForeignKept image [] log
is_foreign_kept image log held empty =
    record {
      up = λ up id out. ap (λ (xs : List CommitRecord). filter (is_record_of id) xs) empty;
      imaged = λ c i. rw (held c i) (λ id out. refl);
    }

-- whatever came, each image of it is a log
pub are_logs : {D : Type 0} (faults : D → ℕ) (honest : Bool) (image : D → List ℕ → Type 0) (end : D) (from to : LogState D) → end ≡ to.disk → (IsTrue honest → AllHold (image from.disk) [])
    → LogGoes faults honest image from to → IsTrue honest → AreLogs (image end)
are_logs faults honest image end from to same held goes h = subst (λ d. AreLogs (image d)) (sym same) (goes.logs h (are_empty (image from.disk) (held h)))

-- whose records are of the script's transactions
own_records : (c : List ℕ) (rs : List CommitRecord) → log_has c ≡ Ok rs → IfOk (log_has c) (AreForeignSame []) → AreOfTransactions rs
own_records c rs e = rw e (λ k. k)

own_logs : (image : List ℕ → Type 0) → AreLogs image → ((c : List ℕ) → image c → IfOk (log_has c) (AreForeignSame [])) → AreOwnLogs image
own_logs image logs foreign c i = let k = logs c i in (k.0, k.1, own_records c k.0 k.1 (foreign c i))

pub are_own_logs : {D : Type 0} (faults : D → ℕ) (honest : Bool) (image : D → List ℕ → Type 0) (end : D) (from to : LogState D) → end ≡ to.disk → (IsTrue honest → AllHold (image from.disk) [])
    → open_records from.slots ≡ [] → LogGoes faults honest image from to → IsTrue honest → AreOwnLogs (image end)
are_own_logs faults honest image end from to same held empty goes h =
    let kept = goes.foreign h [] (is_foreign_kept image from (held h) empty) in
    let logs = goes.logs h (are_empty (image from.disk) (held h)) in
    subst (λ d. AreOwnLogs (image d)) (sym same) (own_logs (image to.disk) logs kept.imaged)

-- counts that are the same rose or not alike
pub none_rose : (a b x y : ℕ) → x ≡ a → y ≡ b → (Rose a b → ⊥) → Rose x y → ⊥
none_rose a b x y e f none rose = none (subst (λ (n : ℕ). Rose n b) e (subst (λ (n : ℕ). Rose x n) f rose))

-- the log is up after a run in which no fault came
stays_up : {D : Type 0} (faults : D → ℕ) (from to : LogState D) → LogStays faults from to → IsTrue from.is_up → from.armed ≡ None → (Rose (faults from.disk) (faults to.disk) → ⊥) → IsTrue to.is_up
stays_up faults from to stays up unarmed none = unless (stays.stays up unarmed)
  where
    unless : IsTrue to.is_up ⊎ Rose (faults from.disk) (faults to.disk) → IsTrue to.is_up
    unless (inl k) = k
    unless (inr rose) = absurd (none rose)

-- and each image has the same records then, each of a script's transactions
pub is_log : {D : Type 0} (faults : D → ℕ) (honest : Bool) (image : D → List ℕ → Type 0) (start end : D) (from to : LogState D) → faults from.disk ≡ faults start → end ≡ to.disk → IsTrue from.is_up
    → from.armed ≡ None → open_records from.slots ≡ [] → (IsTrue honest → AllHold (image from.disk) []) → LogGoes faults honest image from to → LogStays faults from to
    → (IsTrue honest → IsTrue to.is_up → AllHold (image end) (open_records to.slots)) → IsTrue honest → MetNoFault faults start end → IsLog (image end)
is_log faults honest image start end from to smooth same up unarmed empty blank goes stays held h none =
    let calm = none_rose (faults start) (faults end) (faults from.disk) (faults to.disk) smooth (sym (ap faults same)) none in
    let stands = stays_up faults from to stays up unarmed calm in
    let kept = goes.foreign h [] (is_foreign_kept image from (blank h) empty) in
    (open_records to.slots, held h stands, kept.up stands)

-- the log that a run over a log without a record leaves is that of its trace
is_log_of : {D : Type 0} (image : D → List ℕ → Type 0) (before : List CommitRecord) (to : LogState D) (T : List Placed) → before ≡ [] → to.is_up ≡ is_log_up (past_of T) → EndsAs image before to (past_of T)
    → IsLogOf (image to.disk) T
is_log_of image before to T none up ended =
    record {
      up = λ e. let k = ended.up (up ∙ e) in (open_records to.slots, k.0, subst (λ (old : List CommitRecord). AreRecorded (past_of T) old (open_records to.slots)) none k.1);
      stopped = subst (λ (old : List CommitRecord). EachHolds (image to.disk) (MayBeRecorded (past_of T) old)) none ended.stopped;
    }

-- the run is one from and to the counts that the disk had before it was a log and after it
is_run_of : (s : List Line) (k a b from to : ℕ) (honest : Bool) (rs : List CommitRecord) (T : List Placed) → from ≡ a → to ≡ b → rs ≡ [] → IsRunOf s k from to (honest && is_empty rs) T → IsRunOf s k a b honest T
is_run_of s k a b from to honest rs T e f none run =
    let blank : IsRunOf s k from to honest T =
    subst (λ (h : Bool). IsRunOf s k from to h T) (ap (λ (xs : List CommitRecord). honest && is_empty xs) none ∙ and-true honest) run in
    subst (λ (n : ℕ). IsRunOf s k n b honest T) e (subst (λ (n : ℕ). IsRunOf s k from n honest T) f blank)

-- What run_replay says of its trace is what a replay over a log without a record promises, at the disk that is taken back.
pub is_replay : {D : Type 0} (faults : D → ℕ) (honest : Bool) (image : D → List ℕ → Type 0) (k : ℕ) (s : List Line) (end : D) (old new : LogState D) (T : List Placed) → end ≡ new.disk → open_records old.slots ≡ []
    → IsRunOf s k (faults old.disk) (faults new.disk) (honest && is_empty (open_records old.slots)) T → IsLawful honest (is_empty (open_records old.slots)) s T → new.is_up ≡ is_log_up (past_of T)
    → (IsTrue honest → EndsAs image (open_records old.slots) new (past_of T)) → IsReplayOf k (faults old.disk) (faults end) honest (image end) s T
is_replay faults honest image k s end old new T same empty run lawful up ended =
    record {
      run = is_run_of s k (faults old.disk) (faults end) (faults old.disk) (faults new.disk) honest (open_records old.slots) T refl (sym (ap faults same)) empty run;
      lawful = subst (λ (f : Bool). IsLawful honest f s T) (ap is_empty empty) lawful;
      log = λ h. subst (λ d. IsLogOf (image d) T) (sym same) (is_log_of image (open_records old.slots) new T empty up (ended h));
    }

pub is_replay_if : {D : Type 0} (faults : D → ℕ) (honest : Bool) (image : D → List ℕ → Type 0) (k : ℕ) (s : List Line) (end : D) (old new : LogState D) {E : Type 0} (r : Result (List Placed) E) → end ≡ new.disk → open_records old.slots ≡ []
    → IfOk r (λ T. IsRunOf s k (faults old.disk) (faults new.disk) (honest && is_empty (open_records old.slots)) T) → IfOk r (IsLawful honest (is_empty (open_records old.slots)) s) → IfOk r (λ T. new.is_up ≡ is_log_up (past_of T))
    → (IsTrue honest → IfOk r (λ T. EndsAs image (open_records old.slots) new (past_of T))) → IfOk r (IsReplayOf k (faults old.disk) (faults end) honest (image end) s)
is_replay_if faults honest image k s end old new (Ok T) same empty run lawful up ended = is_replay faults honest image k s end old new T same empty run lawful up ended
is_replay_if faults honest image k s end old new (Err e) same empty run lawful up ended = run

-- bytes that are a script aren't bad, by the law of readings
abbrev pub NeverBoth : Type 0
NeverBoth = (b : List ℕ) (s : List Line) (n : ℕ) (c : BadCause) → Reads b s → Bad b n c → ⊥
