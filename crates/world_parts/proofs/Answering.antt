-- What the log answered to the coordinator's act, and what the coordinator does at it.
use Rattle.std.proofs.Common.{◌≡◌, ◌⊎◌, ◌∙◌, inl, inr, ℕ, Bool, true, false, List, [], ◌∷◌, refl, sym, ap, subst}
use Rattle.std.specs.Prelude.{◌||◌, ◌&&◌, ◌≢◌, ◌↔◌, not, Some, None, Result, Ok, Err, IfErr, IsTrue, IsFalse, if◌then◌else◌}
use Rattle.outside.specs.Faults.{Rose}
use Rattle.dtx_values.specs.Outgoing.{Outgoing, written}
use Rattle.dtx_values.specs.declared.entry.Entry.{Entry}
use Rattle.dtx_values.specs.declared.entry.Entry.TheVariants.{Freed, LogFull, Logged, Stopped}
use Rattle.dtx_model.specs.Coordinated.{Coordinated, abort_sends, commit_sends, follow, follow_all, may_free, may_log}
use Rattle.dtx_model.specs.Log.{CommitRecord, first_of}
use Rattle.dtx_model.specs.Promotes.{identifier_of}
use Rattle.dtx_model.specs.Steps.{LogAnswer, Done, Full, StoppedNow, StoppedBefore, appended, coordinates, freed}
use Rattle.dtx_model.specs.Caused.{is_full_answer, may_coordinate}
use Rattle.coordinator_core.specs.Acting.{record_for}
use Rattle.coordinator_log.specs.Slots.{lowest_closed, open_records}
use Rattle.coordinator_log.specs.State.{LogState}
use Rattle.coordinator_log.specs.Stop.{after_calls, stop_in}
use Rattle.coordinator_log.specs.declared.refusal.LogRefusal.{LogRefusal}
use Rattle.coordinator_log.specs.declared.refusal.LogRefusal.TheVariants.{Stopped as Refused, StoppedNow as Broken, Full as HasNone, NoSuch}
use Rattle.world_parts.specs.AtLog.{Acts, Answered, Kept, act_calls, kept_after}

-- an append may be answered in each way, and a free in each but that the log is full
pub may_append : (k : Coordinated) (a : LogAnswer) → may_log k ≡ true → may_coordinate k a ≡ true
may_append k a m = rw m refl

pub may_release : (k : Coordinated) (a : LogAnswer) → may_free k ≡ true → is_full_answer a ≡ false → may_coordinate k a ≡ true
may_release k a f n = step (may_log k) (may_free k) (is_full_answer a) f n
  where
    step : (b c d : Bool) → c ≡ true → d ≡ false → (b || (c && not d)) ≡ true
    step true c d f n = refl
    step false true false f n = refl
    step false true true f n = absurd cc
    step false false d f n = absurd cc

-- either way `stopped` is written
stop_written : (k : Coordinated) (b : Bool) → (if b then appended k StoppedNow else freed StoppedNow) ≡ Stopped ∷ []
stop_written k true = refl
stop_written k false = refl

stop_written_before : (k : Coordinated) (b : Bool) → (if b then appended k StoppedBefore else freed StoppedBefore) ≡ Stopped ∷ []
stop_written_before k true = refl
stop_written_before k false = refl

one_stop : (k : Coordinated) (es : List Entry) → es ≡ Stopped ∷ [] → follow k Stopped ≡ follow_all k es
unfolding follow_all
one_stop k es e = let P : List Entry → Type 0 = λ xs. follow k Stopped ≡ follow_all k xs in subst P (sym e) refl

pub was_up : (b : Bool) → (b ≡ false → ⊥) → b ≡ true
was_up true n = refl
was_up false n = absurd (n refl)

-- how many device calls the act makes
pub appending : (k : Coordinated) → may_log k ≡ true → act_calls k ≡ 4
appending k m = ap (λ b. if b then 4 else 2) m

pub freeing : (k : Coordinated) → may_log k ≡ false → act_calls k ≡ 2
freeing k m = ap (λ b. if b then 4 else 2) m

-- what an armed stop counted, where the act was done
abbrev pub IsCounted : {D : Type 0} → ℕ → LogState D → LogState D → Type 0
IsCounted n from to = (stop_in n from.armed ≡ None) × (to.armed ≡ after_calls n from.armed)

-- What is kept then: the record that was appended, or that an append was stopped at; and none that was freed, or the one that a free was stopped at.
pub kept_logged : (t : ℕ) (k : Coordinated) (x : Kept) (r : CommitRecord) → may_log k ≡ true → r ≡ record_for t k → record { ours = Some r; unsure = x.unsure; life = x.life } ≡ kept_after t k Done x
kept_logged t k x r m is =
    let ours : Some r ≡ (if may_log k then Some (record_for t k) else None) = ap (λ (q : CommitRecord). Some q) is ∙ sym (ap (λ b. if b then Some (record_for t k) else None) m) in
    λ i. record { ours = ours i; unsure = x.unsure; life = x.life }

pub kept_tried : (t : ℕ) (k : Coordinated) (x : Kept) (r : CommitRecord) → may_log k ≡ true → r ≡ record_for t k → record { ours = Some r; unsure = true; life = x.life } ≡ kept_after t k StoppedNow x
kept_tried t k x r m is =
    let ours : Some r ≡ (if may_log k then Some (record_for t k) else x.ours) = ap (λ (q : CommitRecord). Some q) is ∙ sym (ap (λ b. if b then Some (record_for t k) else x.ours) m) in
    λ i. record { ours = ours i; unsure = true; life = x.life }

pub kept_freed : (t : ℕ) (k : Coordinated) (x : Kept) → may_log k ≡ false → record { ours = None; unsure = x.unsure; life = x.life } ≡ kept_after t k Done x
kept_freed t k x m = λ i. record { ours = sym (ap (λ b. if b then Some (record_for t k) else None) m) i; unsure = x.unsure; life = x.life }

pub kept_unfreed : (t : ℕ) (k : Coordinated) (x : Kept) → may_log k ≡ false → record { ours = x.ours; unsure = true; life = x.life } ≡ kept_after t k StoppedNow x
kept_unfreed t k x m = λ i. record { ours = sym (ap (λ b. if b then Some (record_for t k) else x.ours) m) i; unsure = true; life = x.life }

up_and_down : (b : Bool) → b ≡ true → b ≡ false → ⊥
up_and_down true t f = absurd cc
up_and_down false t f = absurd cc

-- The log was stopped by the act.
pub acts_now : {D : Type 0} (faults : D → ℕ) (t : ℕ) (k : Coordinated) (x : Kept) (out : Outgoing) (from : LogState D) (j : Coordinated) (y : Kept) (o : Outgoing) (to : LogState D) (n : ℕ)
    → may_coordinate k StoppedNow ≡ true → j ≡ follow k Stopped → o ≡ written out (Stopped ∷ []) → ((IsFalse from.is_up ⊎ (x.life ≢ from.life)) → ⊥) → IsFalse to.is_up → act_calls k ≡ n
    → (stop_in n from.armed ≡ None → Rose (faults from.disk) (faults to.disk)) → Rose (faults from.disk) (faults to.disk) ⊎ (to.armed ≡ None) → y ≡ kept_after t k StoppedNow x → Acts faults t k x out from j y o to
acts_now faults t k x out from j y o to n may state put ran down calls cause used kept =
    record {
      answer = StoppedNow;
      may = may;
      state = state ∙ one_stop k (coordinates k StoppedNow) (stop_written k (may_log k));
      written = put ∙ ap (written out) (sym (stop_written k (may_log k)));
      answered =
          record {
            now = (λ e. (was_up from.is_up (λ d. ran (inl d)), down), λ e. refl);
            before = (λ e. absurd cc, λ x. absurd (ran x));
            full = λ e. absurd cc;
            smooth = λ n. absurd (n refl);
            cause = λ e s. cause (ap (λ m. stop_in m from.armed) (sym calls) ∙ s);
            used = λ e. used;
            counted = λ e. absurd cc;
            unchanged = λ d n. absurd (n refl);
          };
      kept = kept;
    }

-- Nothing was done: the log is as it was.
same_there : {D : Type 0} (faults : D → ℕ) (k : Coordinated) (id life : ℕ) (from to : LogState D) (a : LogAnswer) → (a ≡ Done → ⊥) → (a ≡ StoppedNow → ⊥)
    → ((a ≡ StoppedBefore) ↔ (IsFalse from.is_up ⊎ (life ≢ from.life))) → (a ≡ Full → lowest_closed from.slots ≡ 1024) → to ≡ from → Answered faults k id life from to a
same_there {D} faults k id life from to a undone unbroken before full same =
    record {
      now = (λ e. absurd (unbroken e), λ x. absurd (up_and_down from.is_up x.0 (sym (ap (λ (l : LogState D). l.is_up) same) ∙ x.1)));
      before = before;
      full = full;
      smooth = λ n. ap (λ (l : LogState D). faults l.disk) same;
      cause = λ e. absurd (unbroken e);
      used = λ e. absurd (unbroken e);
      counted = λ e. absurd (undone e);
      unchanged = λ d n. same;
    }

-- The log was found stopped, or in another life, and is as it was.
pub acts_before : {D : Type 0} (faults : D → ℕ) (t : ℕ) (k : Coordinated) (x : Kept) (out : Outgoing) (from : LogState D) (j : Coordinated) (y : Kept) (o : Outgoing) (to : LogState D)
    → may_coordinate k StoppedBefore ≡ true → j ≡ follow k Stopped → o ≡ written out (Stopped ∷ []) → (IsFalse from.is_up ⊎ (x.life ≢ from.life)) → to ≡ from → y ≡ x → Acts faults t k x out from j y o to
acts_before {D} faults t k x out from j y o to may state put refused same kept =
    record {
      answer = StoppedBefore;
      may = may;
      state = state ∙ one_stop k (coordinates k StoppedBefore) (stop_written_before k (may_log k));
      written = put ∙ ap (written out) (sym (stop_written_before k (may_log k)));
      answered = same_there faults k (identifier_of t) x.life from to StoppedBefore (λ e. absurd cc) (λ e. absurd cc) (λ e. refused, λ z. refl) (λ e. absurd cc) same;
      kept = kept;
    }

-- The act was done.
done_there : {D : Type 0} (faults : D → ℕ) (k : Coordinated) (id life : ℕ) (from to : LogState D) → ((IsFalse from.is_up ⊎ (life ≢ from.life)) → ⊥) → IsTrue to.is_up → faults to.disk ≡ faults from.disk
    → ((may_log k ≡ true) ⊎ (first_of id (open_records from.slots) ≢ None) → IsCounted (act_calls k) from to) → Answered faults k id life from to Done
done_there faults k id life from to ran up smooth counted =
    record {
      now = (λ e. absurd cc, λ x. absurd (up_and_down to.is_up up x.1));
      before = (λ e. absurd cc, λ x. absurd (ran x));
      full = λ e. absurd cc;
      smooth = λ n. smooth;
      cause = λ e. absurd cc;
      used = λ e. absurd cc;
      counted = λ e. counted;
      unchanged = λ n. absurd (n refl);
    }

-- The record was appended: its entry is written, and then all are told.
pub acts_logged : {D : Type 0} (faults : D → ℕ) (t : ℕ) (k : Coordinated) (x : Kept) (out : Outgoing) (from : LogState D) (j : Coordinated) (y : Kept) (o : Outgoing) (to : LogState D)
    → may_log k ≡ true → j ≡ follow_all k (Logged ∷ commit_sends (follow k Logged)) → o ≡ written out (Logged ∷ commit_sends (follow k Logged)) → ((IsFalse from.is_up ⊎ (x.life ≢ from.life)) → ⊥)
    → IsTrue to.is_up → faults to.disk ≡ faults from.disk → IsCounted 4 from to → y ≡ kept_after t k Done x → Acts faults t k x out from j y o to
acts_logged faults t k x out from j y o to votes state put ran up smooth counted kept =
    let wrote : coordinates k Done ≡ Logged ∷ commit_sends (follow k Logged) = rw votes refl in
    record {
      answer = Done;
      may = may_append k Done votes;
      state = state ∙ ap (follow_all k) (sym wrote);
      written = put ∙ ap (written out) (sym wrote);
      answered = done_there faults k (identifier_of t) x.life from to ran up smooth (λ c. subst (λ n. IsCounted n from to) (sym (appending k votes)) counted);
      kept = kept;
    }

-- No gate is closed: its entry is written, and the coordinator aborts. The log is as it was.
pub acts_full : {D : Type 0} (faults : D → ℕ) (t : ℕ) (k : Coordinated) (x : Kept) (out : Outgoing) (from : LogState D) (j : Coordinated) (y : Kept) (o : Outgoing) (to : LogState D)
    → may_log k ≡ true → j ≡ follow_all k (LogFull ∷ abort_sends (follow k LogFull)) → o ≡ written out (LogFull ∷ abort_sends (follow k LogFull)) → IsTrue from.is_up → x.life ≡ from.life
    → lowest_closed from.slots ≡ 1024 → to ≡ from → y ≡ x → Acts faults t k x out from j y o to
acts_full {D} faults t k x out from j y o to votes state put up lives closed same kept =
    let wrote : coordinates k Full ≡ LogFull ∷ abort_sends (follow k LogFull) = rw votes refl in
    record {
      answer = Full;
      may = may_append k Full votes;
      state = state ∙ ap (follow_all k) (sym wrote);
      written = put ∙ ap (written out) (sym wrote);
      answered =
          same_there faults k (identifier_of t) x.life from to Full (λ e. absurd cc) (λ e. absurd cc)
          (λ e. absurd cc, λ z. elim z [ inl d ↦ absurd (up_and_down from.is_up up d) | inr d ↦ absurd (d lives) ]) (λ e. closed) same;
      kept = kept;
    }

-- The record was freed: nothing else is written.
pub acts_freed : {D : Type 0} (faults : D → ℕ) (t : ℕ) (k : Coordinated) (x : Kept) (out : Outgoing) (from : LogState D) (j : Coordinated) (y : Kept) (o : Outgoing) (to : LogState D)
    → may_log k ≡ false → may_free k ≡ true → j ≡ follow k Freed → o ≡ written out (Freed ∷ []) → ((IsFalse from.is_up ⊎ (x.life ≢ from.life)) → ⊥) → IsTrue to.is_up
    → faults to.disk ≡ faults from.disk → (first_of (identifier_of t) (open_records from.slots) ≢ None → IsCounted 2 from to) → y ≡ kept_after t k Done x → Acts faults t k x out from j y o to
unfolding follow_all
acts_freed faults t k x out from j y o to none may state put ran up smooth counted kept =
    record {
      answer = Done;
      may = may_release k Done may refl;
      state = state ∙ one_free (coordinates k Done) (written_free (may_log k) none);
      written = put ∙ ap (written out) (sym (written_free (may_log k) none));
      answered = done_there faults k (identifier_of t) x.life from to ran up smooth (λ c. subst (λ n. IsCounted n from to) (sym (freeing k none)) (there c));
      kept = kept;
    }
  where
    there : (may_log k ≡ true) ⊎ (first_of (identifier_of t) (open_records from.slots) ≢ None) → IsCounted 2 from to
    there (inl m) = absurd (up_and_down (may_log k) m none)
    there (inr f) = counted f

    written_free : (b : Bool) → b ≡ false → (if b then appended k Done else freed Done) ≡ Freed ∷ []
    written_free true n = absurd cc
    written_free false n = refl

    one_free : (es : List Entry) → es ≡ Freed ∷ [] → follow k Freed ≡ follow_all k es
    one_free es e = let P : List Entry → Type 0 = λ xs. follow k Freed ≡ follow_all k xs in subst P (sym e) refl

-- answers of the log that can't be both
pub broken_refused : {A : Type 0} (r : Result A LogRefusal) → r ≡ Err Broken → r ≡ Err Refused → ⊥
broken_refused (Ok x) a b = absurd cc
broken_refused (Err e) a b = absurd cc

pub none_refused : {A : Type 0} (r : Result A LogRefusal) (x : A) → r ≡ Ok x → r ≡ Err Refused → ⊥
none_refused (Ok y) x a b = absurd cc
none_refused (Err e) x a b = absurd cc

pub lost_refused : {A : Type 0} (r : Result A LogRefusal) (id : ℕ) → r ≡ Err (NoSuch id) → r ≡ Err Refused → ⊥
lost_refused (Ok x) id a b = absurd cc
lost_refused (Err e) id a b = absurd cc

pub never_both : (b : Bool) → b ≡ true → b ≡ false → ⊥
never_both true t f = absurd cc
never_both false t f = absurd cc

-- a log that refused a call as one that is stopped, or has no such record, is as it was
pub unchanged_by : {A L : Type 0} (r : Result A LogRefusal) {old new : L} (e : LogRefusal) → (e ≡ Broken → ⊥) → r ≡ Err e → IfErr r (λ x. x ≢ Broken → new ≡ old) → new ≡ old
unchanged_by {A} {L} r {old} {new} e differs a u =
    let P : Result A LogRefusal → Type 0 = λ x. IfErr x (λ y. y ≢ Broken → new ≡ old) in subst P a u differs

pub refused_unbroken : Refused ≡ Broken → ⊥
refused_unbroken e = absurd cc

pub full_unbroken : (slots : ℕ) → HasNone slots ≡ Broken → ⊥
full_unbroken slots e = absurd cc

pub lost_unbroken : (id : ℕ) → NoSuch id ≡ Broken → ⊥
lost_unbroken id e = absurd cc
