-- A stop and an opening of the log, what a restart is answered, and what they write there.
use Rattle.std.specs.Prelude.{ℕ, ◌+◌, ◌≡◌, ◌≢◌, Bool, true, false, List, ◌∷◌, length, Result, Ok, Err, IfOk, IsTrue, OnOk, is_ok, if◌then◌else◌}
use Rattle.outside.specs.Faults.{Rose}
use Rattle.dtx_values.specs.declared.Image.{Image}
use Rattle.dtx_values.specs.declared.entry.Answer.{Answer}
use Rattle.dtx_values.specs.declared.entry.Answer.TheVariants.{Fine, Fault, NotALog}
use Rattle.dtx_values.specs.declared.entry.Entry.{Entry}
use Rattle.dtx_values.specs.declared.entry.Entry.TheVariants.{Called, LogWord, Stopped}
use Rattle.dtx_values.specs.declared.entry.LogNote.TheVariants.{Armed, Opened}
use Rattle.dtx_values.specs.declared.number.ActorNo.{ActorNo}
use Rattle.coordinator_log.specs.Crash.{IsOpened}
use Rattle.coordinator_log.specs.Slots.{open_records}
use Rattle.coordinator_log.specs.State.{LogState}
use Rattle.coordinator_log.specs.declared.refusal.LogRefusal.{LogRefusal}
use Rattle.coordinator_log.specs.declared.refusal.LogRefusal.TheVariants as Refusal
use Rattle.tx_world.specs.Kept.{stop_if}

-- The log was stopped and opened again, or wasn't opened: `found` says how many records it then has, or why it wasn't. That comes by a fault alone, or over a disk that isn't honest.
pub record IsReopened {D : Type 0} (faults : D → ℕ) (honest : Bool) (seen : D → List ℕ) (found : Result ℕ LogRefusal) (from to : LogState D) : Type 0 where
  pub up : to.is_up ≡ is_ok found
  pub life : to.life ≡ (if is_ok found then from.life + 1 else from.life)
  pub armed : to.armed ≡ from.armed
  pub count : IfOk found (λ n. n ≡ length (open_records to.slots))
  pub records : IsTrue honest → OnOk found (IsOpened seen from.disk to)
  pub fault : found ≡ Err Refusal.Fault → Rose (faults from.disk) (faults to.disk)
  pub never : IsTrue honest → (p : ℕ) → found ≢ Err (Refusal.NotALog p)
  pub smooth : OnOk found (faults to.disk ≡ faults from.disk)

-- what a restart is answered: ok where the log was opened, `notalog` where its bytes are no log, and else `fault`
abbrev pub restart_answer : Result ℕ LogRefusal → Answer
restart_answer (Ok n) = Fine
restart_answer (Err (Refusal.NotALog p)) = NotALog p
restart_answer (Err r) = Fault

-- the call of a restart that found no log
abbrev pub is_no_log_answer : Entry → Bool
is_no_log_answer (Called n a (NotALog p)) = true
is_no_log_answer _ = false

abbrev pub opened_where : Result ℕ LogRefusal → List Entry → List Entry
opened_where (Ok n) past = LogWord (Opened n) ∷ past
opened_where (Err r) past = past

-- a restart by line n writes its call, `stopped` where the log was up, and `opened` where it was opened
abbrev pub restarted : ℕ → ActorNo → Bool → Result ℕ LogRefusal → List Entry → List Entry
restarted n a was_up r past = opened_where r (stop_if was_up (Called n a (restart_answer r) ∷ past))

-- a step that stopped the log, which was up before and isn't any more, writes `stopped` there
abbrev pub stop_noted : Bool → Bool → List Entry → List Entry
stop_noted true false past = Stopped ∷ past
stop_noted _ _ past = past

-- a stop at the k-th device call is armed by line n
abbrev pub stop_armed : ℕ → ActorNo → ℕ → Image → List Entry → List Entry
stop_armed n a k i past = LogWord (Armed k i) ∷ Called n a Fine ∷ past
