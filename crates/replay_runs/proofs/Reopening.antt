-- What holds of a run over a log that a line arms, stops or opens again.
use Rattle.std.proofs.Common.{◌≡◌, ◌⊎◌, ◌≤◌, ◌<◌, ◌+◌, ◌-◌, ◌==◌, ℕ, Bool, true, false, ◌&&◌, not, nat_le, List, [], ◌∷◌, ◌++◌, filter, length, Option, Some, None, if◌then◌else◌, is_some, refl, sym, ap, subst, ◌∙◌, inl, inr, arith, le_refl}
use Rattle.std.specs.Prelude.{IsTrue, IfOk, OnOk, Result, Ok, Err, is_ok}
use Rattle.std.proofs.lemmas.Bool.{cases_Bool}
use Rattle.std.proofs.lemmas.Bool.Decides.{leb_tells}
use Rattle.outside.specs.Disk.{AreWithin}
use Rattle.dtx_values.specs.declared.Image.{Image}
use Rattle.dtx_values.specs.TxIds.{first_id, number_of}
use Rattle.dtx_values.specs.declared.tx_id.TxId.{TxId}
use Rattle.dtx_values.specs.declared.entry.Answer.{Answer}
use Rattle.dtx_values.specs.declared.entry.Answer.TheVariants.{Fine}
use Rattle.dtx_values.specs.declared.entry.Entry.{Entry}
use Rattle.dtx_values.specs.declared.entry.Entry.TheVariants.{Called, LogWord, Restarted, Stopped}
use Rattle.dtx_values.specs.declared.entry.LogNote.TheVariants.{Armed, Opened}
use Rattle.dtx_values.specs.declared.number.ActorNo.{ActorNo}
use Rattle.dtx_values.specs.declared.number.TxNo.{TxNo}
use Rattle.dtx_values.specs.declared.script.Line.{Line}
use Rattle.dtx_values.specs.declared.trace.Place.TheVariants.{Log}
use Rattle.dtx_values.specs.Table.{how_many}
use Rattle.dtx_model.specs.Words.{has, latest, past_of}
use Rattle.dtx_model.specs.AtLog.{at_log, hit, is_called, is_known, is_log_up, known, one_if, unless_said, up_of}
use Rattle.dtx_model.specs.Caused.{IsIn, Of, is_begin_sent}
use Rattle.dtx_model.specs.Log.{CommitRecord, first_of, is_record_of}
use Rattle.dtx_model.specs.Promotes.{identifier_of}
use Rattle.dtx_model.specs.Replay.{Differs, Faults, Opens, Reopening, after_halt, after_restart, at_the_log, put_at, stopped_by_restart}
use Rattle.dtx_model.specs.Steps.{Restarts, after}
use Rattle.dtx_model.specs.Tied.{tied as is_tied_history}
use Rattle.dtx_model.specs.Traces.{Placed, history}
use Rattle.dtx_model.specs.World.{core}
use Rattle.dtx_model.proofs.Histories.{past_of-snoc}
use Rattle.script_histories.proofs.PutAt.{log-put, many-known}
use Rattle.history_table.proofs.BeginSent.{recorded_begun}
use Rattle.coordinator_log.specs.Crash.{AllHold, IsOpened}
use Rattle.coordinator_log.specs.Slots.{open_records}
use Rattle.coordinator_log.specs.State.{LogState}
use Rattle.coordinator_log.specs.declared.refusal.LogRefusal.{LogRefusal}
use Rattle.coordinator_log.specs.declared.refusal.LogRefusal.TheVariants as Refusal
use Rattle.tx_world.specs.AtLog.{Fits, IsHad, id_of}
use Rattle.tx_world.specs.Prepared.{NamesPrepared}
use Rattle.tx_world.specs.State.{TxState, is_reached_by}
use Rattle.turn_parts.specs.Reopening.{IsReopened, restart_answer}
use Rattle.replay_runs.specs.LogRun.{AreForeignSame, LogGoes}
use Rattle.replay_runs.specs.RunState.{FitsLog, GoesWith, HaveSameCalls, Holds, IsRecordKept, IsTied, RunState, Tells, halted, record_in, reopened, state_of}
use Rattle.replay_runs.proofs.Fitting.{fits_as, fits_opened, goes_opened}
use Rattle.replay_runs.proofs.FoundRecords.{all_found}
use Rattle.replay_runs.proofs.Halting.{goes_halted, goes_reopened, halted_as, halted_named, halted_sound, halted_tied, reopened_named, reopened_tied}
use Rattle.replay_runs.proofs.TellingOpenings.{IsJust}
use Rattle.replay_runs.proofs.Tying.{tied_same}

-- A transaction is tied to a trace with an entry of the log after it.
pub tied_at_log : (s : List Line) (o : Of) (t : TxNo) (T : List Placed) (e : Entry) (x : TxState) → IsTied s o t T x → IsTied s o t (at_the_log e T) x
tied_at_log s o t T e x k = tied_same s o t T ((Log, e) ∷ T) x refl k

-- the same of the same
pub tied_move : (s r : List Line) (o w : Of) (t : TxNo) (T U : List Placed) (x y : TxState) → r ≡ s → w ≡ o → U ≡ T → y ≡ x → IsTied s o t T x → IsTied r w t U y
tied_move s r o w t T U x y a e b c k =
    subst (λ (q : List Line). IsTied q w t U y) (sym a) (subst (λ (m : Of). IsTied s m t U y) (sym e) (subst (λ (V : List Placed). IsTied s o t V y) (sym b) (subst (λ (z : TxState). IsTied s o t T z) (sym c) k)))

-- a log isn't both up and down
never_up : {A : Type 0} (b : Bool) → b ≡ false → IsTrue b → A
never_up b e f = absurd cc

-- What fits each image before an opening of a log, or one that failed, does after it.
fits_down : {D : Type 0} (image : D → List ℕ → Type 0) (from to : LogState D) (x : TxState) → to.is_up ≡ false → AreWithin (image from.disk) (image to.disk) → FitsLog image from x → FitsLog image to x
fits_down image from to x down within f = record { fits = λ up. never_up to.is_up down up; imaged = λ c i. f.imaged c (within c i) }

goes_down : {D : Type 0} (from to : LogState D) (x : TxState) → to.is_up ≡ from.is_up → to.life ≡ from.life → GoesWith from x → GoesWith to x
goes_down from to x up life g = record { life = λ b. g.life b ∙ sym life; stopped = g.stopped ∙ ap (λ u. has is_begin_sent x.world.past && not u) (sym up) }

-- What two entries of the log leave of the trace, and one
pub one_written : (us xs ys : List Placed) (a : Entry) → xs ≡ us → ys ≡ xs ++ (Log, a) ∷ [] → past_of ys ≡ at_the_log a (past_of us)
one_written us xs ys a same e = ap past_of e ∙ (past_of-snoc xs (Log, a) ∙ ap (λ zs. (Log, a) ∷ past_of zs) same)

pub two_written : (us xs ys zs : List Placed) (a b : Entry) → xs ≡ us → ys ≡ xs ++ (Log, a) ∷ [] → zs ≡ ys ++ (Log, b) ∷ [] → past_of zs ≡ at_the_log b (at_the_log a (past_of us))
two_written us xs ys zs a b same e f = ap past_of f ∙ (past_of-snoc ys (Log, b) ∙ ap (λ T. (Log, b) ∷ T) (one_written us xs ys a same e))

-- the log with a stop armed
abbrev pub with_stop : {D : Type 0} → LogState D → ℕ → Image → LogState D
with_stop log k i = record { disk = log.disk; slots = log.slots; is_up = log.is_up; life = log.life; armed = Some (record { passes = k - 1; image = i }) }

-- A stop was armed: nothing else changed.
pub goes_armed : {D : Type 0} (faults : D → ℕ) (honest : Bool) (image : D → List ℕ → Type 0) (from to : LogState D) (k : ℕ) (i : Image) → to ≡ with_stop from k i → LogGoes faults honest image from to
goes_armed faults honest image from to k i e =
    subst (LogGoes faults honest image from) (sym e)
    (record { grows = le_refl (faults from.disk); logs = λ h are. are; foreign = λ h before kept. record { up = kept.up; imaged = kept.imaged } })

holds_with_stop : {D : Type 0} (honest : Bool) (image : D → List ℕ → Type 0) (from : LogState D) (r q : RunState) (n : ℕ) (a : ActorNo) (k : ℕ) (i : Image) → q.script ≡ r.script → q.objects ≡ r.objects → q.worlds ≡ r.worlds
    → past_of q.trace ≡ at_the_log (LogWord (Armed k i)) (at_the_log (Called n a Fine) (past_of r.trace)) → Holds honest image from r → Holds honest image (with_stop from k i) q
holds_with_stop {D} honest image from r q n a k i script objects worlds trace h =
    let T = past_of r.trace in record {
      tied = λ t.
          tied_move r.script q.script r.objects q.objects t ((Log, LogWord (Armed k i)) ∷ (Log, Called n a Fine) ∷ T) (past_of q.trace) (state_of t r.worlds) (state_of t q.worlds) script objects trace (ap (state_of t) worlds)
          (tied_at_log r.script r.objects t ((Log, Called n a Fine) ∷ T) (LogWord (Armed k i)) (state_of t r.worlds) (tied_at_log r.script r.objects t T (Called n a Fine) (state_of t r.worlds) (h.tied t)));
      kept = λ t. subst (λ ws. IsRecordKept (state_of t ws)) (sym worlds) (h.kept t);
      goes = λ t. subst (λ ws. GoesWith (with_stop from k i) (state_of t ws)) (sym worlds) (record { life = (h.goes t).life; stopped = (h.goes t).stopped });
      had = λ t. subst (λ ws. IsHad (state_of t ws) (with_stop from k i)) (sym worlds) (h.had t);
      up = h.up ∙ sym (ap is_log_up trace);
      uncalled = λ up. ap (λ U. is_called (at_log U)) trace;
      fits = λ is t. subst (λ ws. FitsLog image (with_stop from k i) (state_of t ws)) (sym worlds) (record { fits = (h.fits is t).fits; imaged = (h.fits is t).imaged });
      sound = λ is t. subst (λ ws. is_tied_history (state_of t ws).world.past ≡ true) (sym worlds) (h.sound is t);
      named = λ is t. subst (λ ws. NamesPrepared (state_of t ws)) (sym worlds) (h.named is t);
    }

pub holds_armed : {D : Type 0} (honest : Bool) (image : D → List ℕ → Type 0) (from to : LogState D) (r q : RunState) (n : ℕ) (a : ActorNo) (k : ℕ) (i : Image) → to ≡ with_stop from k i → q.script ≡ r.script → q.objects ≡ r.objects → q.worlds ≡ r.worlds
    → past_of q.trace ≡ at_the_log (LogWord (Armed k i)) (at_the_log (Called n a Fine) (past_of r.trace)) → Holds honest image from r → Holds honest image to q
holds_armed honest image from to r q n a k i e script objects worlds trace h = subst (λ l. Holds honest image l q) (sym e) (holds_with_stop honest image from r q n a k i script objects worlds trace h)

-- The call of a restart, where the log was down: it still is.
pub holds_called : {D : Type 0} (honest : Bool) (image : D → List ℕ → Type 0) (from to : LogState D) (r q : RunState) (n : ℕ) (a : ActorNo) (x : Answer) → from.is_up ≡ false → to.is_up ≡ false → to.life ≡ from.life
    → (IsTrue honest → AreWithin (image from.disk) (image to.disk)) → q.script ≡ r.script → q.objects ≡ r.objects → q.worlds ≡ r.worlds → past_of q.trace ≡ at_the_log (Called n a x) (past_of r.trace) → Holds honest image from r → Holds honest image to q
holds_called {D} honest image from to r q n a x was down life within script objects worlds trace h =
    let T = past_of r.trace in record {
      tied = λ t.
          tied_move r.script q.script r.objects q.objects t ((Log, Called n a x) ∷ T) (past_of q.trace) (state_of t r.worlds) (state_of t q.worlds) script objects trace (ap (state_of t) worlds)
          (tied_at_log r.script r.objects t T (Called n a x) (state_of t r.worlds) (h.tied t));
      kept = λ t. subst (λ ws. IsRecordKept (state_of t ws)) (sym worlds) (h.kept t);
      goes = λ t. subst (λ ws. GoesWith to (state_of t ws)) (sym worlds) (goes_down from to (state_of t r.worlds) (down ∙ sym was) life (h.goes t));
      had = λ t up. never_up to.is_up down up;
      up = down ∙ (sym was ∙ (h.up ∙ sym (ap is_log_up trace)));
      uncalled = λ up. never_up to.is_up down up;
      fits = λ is t. subst (λ ws. FitsLog image to (state_of t ws)) (sym worlds) (fits_down image from to (state_of t r.worlds) down (within is) (h.fits is t));
      sound = λ is t. subst (λ ws. is_tied_history (state_of t ws).world.past ≡ true) (sym worlds) (h.sound is t);
      named = λ is t. subst (λ ws. NamesPrepared (state_of t ws)) (sym worlds) (h.named is t);
    }

-- the log isn't up after a stop with what it brings to the transactions, and is after an opening
down_after : (us : List TxNo) (T : List Placed) → is_log_up (put_at (λ u. Stopped) us (at_the_log Stopped T)) ≡ false
down_after us T = ap (λ es. unless_said (latest up_of es)) (log-put (λ u. Stopped) us ((Log, Stopped) ∷ T))

up_after : (f : TxNo → Entry) (us : List TxNo) (n : ℕ) (T : List Placed) → is_log_up (put_at f us (at_the_log (LogWord (Opened n)) T)) ≡ true
up_after f us n T = ap (λ es. unless_said (latest up_of es)) (log-put f us ((Log, LogWord (Opened n)) ∷ T))

-- The call of a restart, where the log ran: it stops.
pub holds_halted : {D : Type 0} (honest : Bool) (image : D → List ℕ → Type 0) (from to : LogState D) (r q : RunState) (n : ℕ) (a : ActorNo) (x : Answer) → to.is_up ≡ false → to.life ≡ from.life
    → (IsTrue honest → AreWithin (image from.disk) (image to.disk)) → q.script ≡ r.script → q.objects ≡ r.objects → ((t : TxNo) → state_of t q.worlds ≡ halted from.life (state_of t r.worlds))
    → past_of q.trace ≡ put_at (λ u. Stopped) (hit (at_the_log Stopped (at_the_log (Called n a x) (past_of r.trace)))) (at_the_log Stopped (at_the_log (Called n a x) (past_of r.trace)))
    → ((t : TxNo) → IsRecordKept (state_of t q.worlds)) → Holds honest image from r → Holds honest image to q
holds_halted {D} honest image from to r q n a x down life within script objects worlds trace kept h =
    let T : List Placed = (Log, Stopped) ∷ (Log, Called n a x) ∷ past_of r.trace in record {
      tied = λ t.
          tied_move r.script q.script r.objects q.objects t (put_at (λ u. Stopped) (hit T) T) (past_of q.trace) (halted from.life (state_of t r.worlds)) (state_of t q.worlds) script objects trace (worlds t)
          (halted_tied r.script r.objects from.life t T (state_of t r.worlds)
          (tied_at_log r.script r.objects t ((Log, Called n a x) ∷ past_of r.trace) Stopped (state_of t r.worlds) (tied_at_log r.script r.objects t (past_of r.trace) (Called n a x) (state_of t r.worlds) (h.tied t))) (h.goes t).life);
      kept = kept;
      goes = λ t.
          subst (GoesWith to) (sym (worlds t ∙ ap (λ l. halted l (state_of t r.worlds)) (sym life)))
          (goes_halted to (state_of t r.worlds) (not from.is_up) down (λ b. (h.goes t).life b ∙ sym life) (h.goes t).stopped);
      had = λ t up. never_up to.is_up down up;
      up = down ∙ sym (ap is_log_up trace ∙ down_after (hit T) ((Log, Called n a x) ∷ past_of r.trace));
      uncalled = λ up. never_up to.is_up down up;
      fits = λ is t. subst (FitsLog image to) (sym (worlds t)) (fits (state_of t r.worlds) (fits_down image from to (state_of t r.worlds) down (within is) (h.fits is t)));
      sound = λ is t. subst (λ z. is_tied_history z.world.past ≡ true) (sym (worlds t)) (halted_sound from.life (state_of t r.worlds) (h.sound is t));
      named = λ is t. subst (λ z. NamesPrepared z) (sym (worlds t)) (halted_named from.life (state_of t r.worlds) (h.named is t));
    }
  where
    fits : (y : TxState) → FitsLog image to y → FitsLog image to (halted from.life y)
    fits y f = let same = halted_as from.life y in fits_as image to y (halted from.life y) same.transaction same.ours same.unsure f

-- A transaction of which the coordinator doesn't know keeps no record.
unknown_none : (x : TxState) → IsRecordKept x → (core x.world).stopped ≡ has is_begin_sent x.world.past → has is_begin_sent x.world.past ≡ false → is_some x.ours ≡ true → ⊥
unknown_none x kept stopped none some =
    let runs : (core x.world).stopped ≡ false = stopped ∙ none in
    let begun : has is_begin_sent x.world.past ≡ true = recorded_begun (IsIn x.world.calls) (number_of x.transaction) x.world kept.own (sym (kept.ours.recorded runs) ∙ some) in
    let c : true ≡ false = sym begun ∙ none in cc

-- So a record is found of those alone of which it knows.
found_known : (x : TxState) (rs : List CommitRecord) → IsRecordKept x → (core x.world).stopped ≡ has is_begin_sent x.world.past → Fits x rs → is_some (first_of (id_of x) rs) ≡ true → has is_begin_sent x.world.past ≡ true
found_known x rs kept stopped fits found = elim (cases_Bool (has is_begin_sent x.world.past)) [
  | inl k ↦ k
  | inr none ↦ absurd (elim fits.tie [
    | inl e ↦ unknown_none x kept stopped none (ap is_some (sym e) ∙ found)
    | inr e ↦ let c : false ≡ true = sym (ap is_some e.0) ∙ found in cc
  ])
]

-- A transaction after an opening: its record, where it was found, is there; and one that isn't told keeps none, since its coordinator doesn't know of it.
had_reopened : {D : Type 0} (log : LogState D) (x : TxState) → IsRecordKept x → ((has is_begin_sent x.world.past ≡ true) → x.life < log.life) → (core x.world).stopped ≡ has is_begin_sent x.world.past → IsHad (reopened log x) log
had_reopened {D} log x kept lives stopped = by (is_reached_by log.life x) refl
  where
    found : (o : Option CommitRecord) → is_some o ≡ true → o ≡ None → ⊥
    found (Some r) k e = cc
    found None k e = cc

    unknown : is_reached_by log.life x ≡ false → has is_begin_sent x.world.past ≡ false
    unknown e = elim (cases_Bool (has is_begin_sent x.world.past)) [
      | inl k ↦
          let later : nat_le log.life x.life ≡ false = elim (leb_tells log.life x.life) [ inl l ↦ let high = l.1 in let low = lives k in absurd (omega (arith, high, low)) | inr l ↦ l.0 ] in
          let c : true ≡ false = sym (ap (λ b. b && not (nat_le log.life x.life)) k ∙ ap not later) ∙ e in absurd cc
      | inr k ↦ k
    ]

    by : (b : Bool) → is_reached_by log.life x ≡ b
        → IsHad (if b then record { transaction = x.transaction; world = after (number_of x.transaction) x.world (Restarts (is_some (record_in log.slots (number_of x.transaction)))); ours = record_in log.slots (number_of x.transaction); unsure = false; life = log.life } else x) log
    by true e = λ up some none. found (record_in log.slots (number_of x.transaction)) some none
    by false e = λ up some none. unknown_none x kept stopped (unknown e) some

-- The records that were found fit it, in memory and in each image.
fits_found : {D : Type 0} (log : LogState D) (x : TxState) → Fits x (open_records log.slots) → Fits (reopened log x) (open_records log.slots)
fits_found {D} log x f = by (is_reached_by log.life x)
  where
    by : (b : Bool)
        → Fits (if b then record { transaction = x.transaction; world = after (number_of x.transaction) x.world (Restarts (is_some (record_in log.slots (number_of x.transaction)))); ours = record_in log.slots (number_of x.transaction); unsure = false; life = log.life } else x) (open_records log.slots)
    by true = record { tie = inl refl; one = f.one }
    by false = f

fits_reopened : {D : Type 0} (image : D → List ℕ → Type 0) (log : LogState D) (x : TxState) → AllHold (image log.disk) (open_records log.slots) → Fits x (open_records log.slots) → FitsLog image log (reopened log x)
fits_reopened image log x hold f =
    record { fits = λ up. fits_found log x f; imaged = λ c i. subst (λ res. IfOk res (Fits (reopened log x))) (sym (hold c i)) (fits_found log x f) }

-- while the log is down its coordinator stands stopped exactly where BEGIN was sent
same_and : (b : Bool) → (b && not false) ≡ b
same_and true = refl
same_and false = refl

pub halts_at : {D : Type 0} (log : LogState D) (x : TxState) → log.is_up ≡ false → GoesWith log x → (core x.world).stopped ≡ has is_begin_sent x.world.past
halts_at log x down g = g.stopped ∙ (ap (λ u. has is_begin_sent x.world.past && not u) down ∙ same_and (has is_begin_sent x.world.past))

-- The log was opened.
pub holds_opened : {D : Type 0} (honest : Bool) (image : D → List ℕ → Type 0) (seen : D → List ℕ) (from to : LogState D) (r q : RunState) (n : ℕ) → from.is_up ≡ false → to.is_up ≡ true → to.life ≡ from.life + 1
    → (IsTrue honest → image from.disk (seen from.disk)) → (IsTrue honest → IsOpened seen from.disk to) → (IsTrue honest → AreWithin (image from.disk) (image to.disk)) → (IsTrue honest → AllHold (image to.disk) (open_records to.slots))
    → ((t : TxNo) → (state_of t r.worlds).transaction ≡ first_id t) → q.script ≡ r.script → q.objects ≡ r.objects → ((t : TxNo) → state_of t q.worlds ≡ reopened to (state_of t r.worlds))
    → past_of q.trace ≡ put_at (λ t. Restarted (is_some (record_in to.slots t.value))) (known (at_the_log (LogWord (Opened n)) (past_of r.trace))) (at_the_log (LogWord (Opened n)) (past_of r.trace))
    → ((t : TxNo) → IsRecordKept (state_of t q.worlds)) → (IsTrue honest → (t : TxNo) → is_tied_history (state_of t q.worlds).world.past ≡ true) → Holds honest image from r → Holds honest image to q
holds_opened {D} honest image seen from to r q n was up life among opened within hold numbered script objects worlds trace kept sound h =
    let T : List Placed = (Log, LogWord (Opened n)) ∷ past_of r.trace in
    let found = λ (t : TxNo). Restarted (is_some (record_in to.slots t.value)) in record {
      tied = λ t.
          tied_move r.script q.script r.objects q.objects t (put_at found (known T) T) (past_of q.trace) (reopened to (state_of t r.worlds)) (state_of t q.worlds) script objects trace (worlds t)
          (reopened_tied r.script r.objects to t T (state_of t r.worlds) (numbered t) (tied_at_log r.script r.objects t (past_of r.trace) (LogWord (Opened n)) (state_of t r.worlds) (h.tied t)) (stands (state_of t r.worlds) (h.goes t))
          (lives (state_of t r.worlds) (h.goes t)));
      kept = kept;
      goes = λ t. subst (GoesWith to) (sym (worlds t)) (goes_reopened to (state_of t r.worlds) (not from.is_up) up (lives (state_of t r.worlds) (h.goes t)) (h.goes t).stopped);
      had = λ t. subst (λ z. IsHad z to) (sym (worlds t)) (had_reopened to (state_of t r.worlds) (h.kept t) (lives (state_of t r.worlds) (h.goes t)) (halts (state_of t r.worlds) (h.goes t)));
      up = up ∙ sym (ap is_log_up trace ∙ up_after found (known T) n (past_of r.trace));
      uncalled = λ k. ap (λ U. is_called (at_log U)) trace ∙ ap is_called (log-put found (known T) T);
      fits = λ is t.
          subst (FitsLog image to) (sym (worlds t))
          (fits_reopened image to (state_of t r.worlds) (hold is) ((fits_opened image seen from to (state_of t r.worlds) (among is) (opened is) (within is) (h.fits is t)).fits up));
      sound = sound;
      named = λ is t. subst (λ z. NamesPrepared z) (sym (worlds t)) (reopened_named to (state_of t r.worlds) ((fits_opened image seen from to (state_of t r.worlds) (among is) (opened is) (within is) (h.fits is t)).fits up) (h.named is t));
    }
  where
    lives : (x : TxState) → GoesWith from x → has is_begin_sent x.world.past ≡ true → x.life < to.life
    lives x g k = let own = g.life k in omega (arith, own, life)

    halts : (x : TxState) → GoesWith from x → (core x.world).stopped ≡ has is_begin_sent x.world.past
    halts x g = halts_at from x was g

    stands : (x : TxState) → GoesWith from x → has is_begin_sent x.world.past ≡ true → (core x.world).stopped ≡ true
    stands x g k = halts x g ∙ k

-- The log when it is stopped by a restart
abbrev pub halted_log : {D : Type 0} → LogState D → LogState D
halted_log log = record { disk = log.disk; slots = log.slots; is_up = false; life = log.life; armed = log.armed }

-- After the call of a restart, and the stop that it brings where the log ran, this holds over the log as long as it is down; the transactions are still those of their numbers.
pub record IsHalted {D : Type 0} (honest : Bool) (image : D → List ℕ → Type 0) (from : LogState D) (n : ℕ) (a : ActorNo) (x : Answer) (r q : RunState) : Type 0 where
  pub script : q.script ≡ r.script
  pub objects : q.objects ≡ r.objects
  pub contexts : q.contexts ≡ r.contexts
  pub calls : HaveSameCalls r.worlds q.worlds
  pub trace : past_of q.trace ≡ after_halt n a x (past_of r.trace)
  pub numbered : (t : TxNo) → (state_of t q.worlds).transaction ≡ first_id t
  pub holds : (to : LogState D) → to.is_up ≡ false → to.life ≡ from.life → (IsTrue honest → AreWithin (image from.disk) (image to.disk)) → Holds honest image to q

-- where the log was down,
pub halted_down : {D : Type 0} (honest : Bool) (image : D → List ℕ → Type 0) (from : LogState D) (n : ℕ) (a : ActorNo) (x : Answer) (r q : RunState) → from.is_up ≡ false → q.script ≡ r.script → q.objects ≡ r.objects → q.contexts ≡ r.contexts → q.worlds ≡ r.worlds
    → past_of q.trace ≡ at_the_log (Called n a x) (past_of r.trace) → ((t : TxNo) → (state_of t r.worlds).transaction ≡ first_id t) → Holds honest image from r → IsHalted honest image from n a x r q
halted_down honest image from n a x r q was script objects contexts worlds trace numbered h = record {
  script = script;
  objects = objects;
  contexts = contexts;
  calls = λ t. ap (λ ws. (state_of t ws).world.calls) worlds;
  trace = trace ∙ ap (λ up. stopped_by_restart up (at_the_log (Called n a x) (past_of r.trace))) (sym was ∙ h.up);
  numbered = λ t. ap (λ ws. (state_of t ws).transaction) worlds ∙ numbered t;
  holds = λ to down life within. holds_called honest image from to r q n a x was down life within script objects worlds trace h;
}

-- and where it was up
pub halted_up : {D : Type 0} (honest : Bool) (image : D → List ℕ → Type 0) (from : LogState D) (n : ℕ) (a : ActorNo) (x : Answer) (r q : RunState) → from.is_up ≡ true → q.script ≡ r.script → q.objects ≡ r.objects → q.contexts ≡ r.contexts → HaveSameCalls r.worlds q.worlds
    → ((t : TxNo) → state_of t q.worlds ≡ halted from.life (state_of t r.worlds))
    → past_of q.trace ≡ put_at (λ u. Stopped) (hit (at_the_log Stopped (at_the_log (Called n a x) (past_of r.trace)))) (at_the_log Stopped (at_the_log (Called n a x) (past_of r.trace)))
    → ((t : TxNo) → IsRecordKept (state_of t q.worlds)) → ((t : TxNo) → (state_of t r.worlds).transaction ≡ first_id t) → Holds honest image from r → IsHalted honest image from n a x r q
halted_up honest image from n a x r q was script objects contexts calls worlds trace kept numbered h = record {
  script = script;
  objects = objects;
  contexts = contexts;
  calls = calls;
  trace = trace ∙ ap (λ up. stopped_by_restart up (at_the_log (Called n a x) (past_of r.trace))) (sym was ∙ h.up);
  numbered = λ t. ap (λ z. z.transaction) (worlds t) ∙ ((halted_as from.life (state_of t r.worlds)).transaction ∙ numbered t);
  holds = λ to down life within. holds_halted honest image from to r q n a x down life within script objects worlds trace kept h;
}

-- A restart that doesn't open the log
abbrev pub unopened_by : LogRefusal → Reopening
unopened_by (Refusal.NotALog p) = Differs p
unopened_by _ = Faults

pub after_unopened : (n : ℕ) (a : ActorNo) (e : LogRefusal) (T : List Placed) → after_halt n a (restart_answer (Err e)) T ≡ after_restart n a (unopened_by e) T
after_unopened n a (Refusal.NotALog p) T = refl
after_unopened n a e T = refl

pub unopened_just : (honest : Bool) (empty rose : Type 0) (T : List Placed) (e : LogRefusal) → ((e ≡ Refusal.Fault) ⊎ ((p : ℕ) × (e ≡ Refusal.NotALog p))) → (e ≡ Refusal.Fault → rose)
    → (IsTrue honest → (p : ℕ) → e ≡ Refusal.NotALog p → ⊥) → IsJust honest empty rose T (unopened_by e)
unopened_just honest empty rose T (Refusal.NotALog p) only fault never = λ is. never is p refl
unopened_just honest empty rose T Refusal.Fault only fault never = fault refl
unopened_just honest empty rose T e (inl f) fault never = fault f
unopened_just honest empty rose T e (inr f) fault never = absurd (let k = f.1 in cc)

-- An opening finds as many records as there are: each is of a transaction of which the coordinator knows, which has one.
pub opened_just : {D : Type 0} (faults : D → ℕ) (honest : Bool) (image : D → List ℕ → Type 0) (seen : D → List ℕ) (start from to : LogState D) (r q : RunState) (n : ℕ) (a : ActorNo) (x : Answer) (m : ℕ) (T U : List Placed)
    → to.is_up ≡ true → (IsTrue honest → image from.disk (seen from.disk)) → (IsTrue honest → IsOpened seen from.disk to)
    → (IsTrue honest → AreWithin (image from.disk) (image to.disk)) → m ≡ length (open_records to.slots) → LogGoes faults honest image from to → IsHalted honest image from n a x r q → U ≡ after_halt n a x (past_of r.trace)
    → Tells faults honest image start from T → IsTrue honest → open_records start.slots ≡ [] → m ≡ how_many (λ (t : TxNo). is_some (record_in to.slots t.value)) (known U)
opened_just {D} faults honest image seen start from to r q n a x m T U up among opened within count goes halts ends told is empty =
    count ∙ sym (all_found (known U) rs own one there)
  where
    rs : List CommitRecord
    rs = open_records to.slots

    h : Holds honest image (halted_log from) q
    h = halts.holds (halted_log from) refl refl (λ k c i. i)

    fit : (t : TxNo) → Fits (state_of t q.worlds) (open_records to.slots)
    fit t = (fits_opened image seen (halted_log from) to (state_of t q.worlds) (among is) (opened is) (within is) (h.fits is t)).fits up

    own : AreForeignSame [] (open_records to.slots)
    own = subst (λ before. AreForeignSame before (open_records to.slots)) empty ((goes.foreign is (open_records start.slots) (told.foreign is)).up up)

    one : (t : TxNo) → length (filter (is_record_of (identifier_of t.value)) (open_records to.slots)) ≤ 1
    one t = subst (λ (u : TxId). length (filter (is_record_of (identifier_of (number_of u))) (open_records to.slots)) ≤ 1) (halts.numbered t) (fit t).one

    there : (t : TxNo) → is_some (first_of (identifier_of t.value) (open_records to.slots)) ≡ true → how_many (λ v. t.value == v.value) (known U) ≡ 1
    there t found =
        let begun =
        found_known (state_of t q.worlds) (open_records to.slots) (h.kept t) (halts_at (halted_log from) (state_of t q.worlds) refl (h.goes t)) (fit t)
        (subst (λ (u : TxId). is_some (first_of (identifier_of (number_of u)) (open_records to.slots)) ≡ true) (sym (halts.numbered t)) found) in
        let here : is_known U t ≡ true = ap (λ V. has is_begin_sent (history t.value V)) (ends ∙ sym halts.trace) ∙ (ap (has is_begin_sent) (sym (h.tied t).past) ∙ begun) in
        many-known t U ∙ ap (λ b. one_if b 0) here

-- A log that is stopped by a restart goes on, where it is opened after that or stays stopped.
goes_from_halted : {D : Type 0} (faults : D → ℕ) (honest : Bool) (image : D → List ℕ → Type 0) (from to : LogState D) → LogGoes faults honest image (halted_log from) to → LogGoes faults honest image from to
goes_from_halted faults honest image from to g =
    record { grows = g.grows; logs = g.logs; foreign = λ is before kept. g.foreign is before (record { up = λ up. never_up false refl up; imaged = kept.imaged }) }

pub goes_restart : {D : Type 0} (faults : D → ℕ) (honest : Bool) (image : D → List ℕ → Type 0) (seen : D → List ℕ) (from to : LogState D) (found : Result ℕ LogRefusal) → IsReopened faults honest seen found from to → faults from.disk ≤ faults to.disk
    → (IsTrue honest → image from.disk (seen from.disk)) → (IsTrue honest → AreWithin (image from.disk) (image to.disk)) → LogGoes faults honest image from to
goes_restart {D} faults honest image seen from to found r grows among within =
    goes_from_halted faults honest image from to (goes_opened faults honest image seen (halted_log from) to grows within (λ is up. (among is, opened found (r.records is) (sym r.up ∙ up))))
  where
    opened : (f : Result ℕ LogRefusal) → OnOk f (IsOpened seen from.disk to) → is_ok f ≡ true → IsOpened seen from.disk to
    opened (Ok n) o k = o
    opened (Err e) o k = absurd cc

-- where both are so of what is Ok
pub both_ok : {T E : Type 0} (P Q : Type 0) (r : Result T E) → OnOk r P → OnOk r Q → OnOk r (P × Q)
both_ok P Q (Ok x) p q = (p, q)
both_ok P Q (Err e) p q = tt

-- the trace after an opening
pub opened_trace : (n : ℕ) (a : ActorNo) (m : ℕ) (found : ℕ → Bool) (x : Answer) (T U V W : List Placed) → W ≡ put_at (λ t. Restarted (found t.value)) (known V) V → V ≡ at_the_log (LogWord (Opened m)) U → U ≡ after_halt n a x T → x ≡ Fine
    → W ≡ after_restart n a (Opens found m) T
opened_trace n a m found x T U V W put at halt fine =
    put ∙ ap (λ P. put_at (λ t. Restarted (found t.value)) (known P) P) (at ∙ ap (λ P. at_the_log (LogWord (Opened m)) P) (halt ∙ ap (λ y. after_halt n a y T) fine))
