-- Whom the record of a transaction names, who is told by it, and when it goes.
use Rattle.std.specs.Prelude.{ℕ, ◌≡◌, ◌==◌, Bool, true, false, ◌&&◌, ◌||◌, not, List, Some}
use Rattle.std.specs.Option.{option_map}
use Rattle.dtx_values.specs.declared.entry.Ask.TheVariants.{Prepare}
use Rattle.dtx_values.specs.declared.entry.Entry.{Entry}
use Rattle.dtx_values.specs.declared.entry.Entry.TheVariants.{Acked, Asked, Freed, Handed, Recovered, Told, Voted}
use Rattle.dtx_values.specs.declared.entry.Party.TheVariants.{Enl}
use Rattle.dtx_values.specs.declared.words.Outcome.{Outcome}
use Rattle.dtx_values.specs.declared.words.Outcome.TheVariants.{Aborted, Committed}
use Rattle.dtx_values.specs.declared.words.Vote.TheVariants.{Yes}
use Rattle.coordinator_core.specs.Acting.{record_for}
use Rattle.dtx_model.specs.Caused.{makes_volatile}
use Rattle.dtx_model.specs.Words.{always, has}
use Rattle.dtx_model.specs.Entries.{is_any_hand, is_asked, is_good_vote, is_hand, same_outcome}
use Rattle.dtx_model.specs.Log.{CommitRecord}
use Rattle.dtx_model.specs.Plans.{manager_of}
use Rattle.dtx_model.specs.Tied.{before_first_stop, before_last_stop, can_free, can_log, has_mark, is_logged}
use Rattle.dtx_model.specs.World.{World, core}

-- a manager has recovered, and this is said in the history
abbrev pub is_recovered : Entry → Bool
is_recovered (Recovered r) = true
is_recovered _ = false

-- this enlistment was told this outcome
abbrev pub is_told_so : Outcome → ℕ → Entry → Bool
is_told_so o e (Told (Enl f) p) = (e == f.value) && same_outcome o p
is_told_so o e _ = false

-- this enlistment voted yes; it acknowledged the commit
abbrev pub is_vote_yes : ℕ → Entry → Bool
is_vote_yes e (Voted f Yes) = e == f.value
is_vote_yes e _ = false

abbrev pub is_ack : ℕ → Entry → Bool
is_ack e (Acked f) = e == f.value
is_ack e _ = false

abbrev pub is_freed : Entry → Bool
is_freed Freed = true
is_freed _ = false

-- a record was appended, or may have been: it was logged, or could be where the log stopped first
abbrev pub is_record_tried : List Entry → Bool
is_record_tried h = has is_logged h || has_mark h || can_log (before_first_stop h)

-- the record was freed, or may have been: it could be where the log stopped last
abbrev pub is_free_tried : List Entry → Bool
is_free_tried h = has is_freed h || can_free (before_last_stop h)

-- the enlistment of this number is durable or promotable, and this manager's, by the call that made it
abbrev pub IsOf : World → ℕ → ℕ → Type 0
IsOf w m e = option_map (λ r. r.value) (manager_of w.calls e) ≡ Some m

-- the enlistment of this number is volatile, by the call that made it
abbrev pub IsVolatile : World → ℕ → Type 0
IsVolatile w e = has (λ k. makes_volatile e k.call) w.calls ≡ true

-- the record names the enlistment of this manager and this number
abbrev pub is_named : ℕ → ℕ → CommitRecord → Bool
is_named m e r = has (λ p. (m == p.0) && (e == p.1)) r.enlistments

-- Where a record of transaction t was appended, or may have been: nobody was handed the commit, no enlistment was told that it aborted, each durable and promotable that was asked to prepare
-- voted yes or done, and the record names those that voted yes, each with its manager, and no other.
pub record RecordsVotes (t : ℕ) (w : World) : Type 0 where
  pub unhanded : is_record_tried w.past ≡ true → has is_any_hand w.past ≡ false
  pub unaborted : is_record_tried w.past ≡ true → (e : ℕ) → has (is_told_so Aborted e) w.past ≡ false
  pub voted : is_record_tried w.past ≡ true → (m e : ℕ) → IsOf w m e → has (is_asked e) w.past ≡ true → has (is_good_vote e) w.past ≡ true
  pub named : is_record_tried w.past ≡ true → (m e : ℕ) → is_named m e (record_for t (core w)) ≡ true → IsOf w m e × (has (is_vote_yes e) w.past ≡ true)
  pub names : is_record_tried w.past ≡ true → (m e : ℕ) → IsOf w m e → has (is_vote_yes e) w.past ≡ true → is_named m e (record_for t (core w)) ≡ true

-- none is asked to prepare a second time, nor asked or handed anything once it was told of the commit
abbrev pub is_note_new : List Entry → Entry → Bool
is_note_new past (Asked e Prepare) = not (has (is_asked e.value) past) && not (has (is_told_so Committed e.value) past)
is_note_new past (Handed e) = not (has (is_told_so Committed e.value) past)
is_note_new past _ = true

-- A durable or promotable is told of the commit only after the record, or where one was handed the commit; then no other was asked or handed anything. The record goes only once each that voted
-- yes acknowledged; and where one was logged and there is none, it was freed.
pub record TellsByRecord (w : World) : Type 0 where
  pub told : (m e : ℕ) → IsOf w m e → has (is_told_so Committed e) w.past ≡ true → (has is_any_hand w.past || has is_logged w.past) ≡ true
  pub alone : (e m f : ℕ) → has (is_hand e) w.past ≡ true → IsOf w m f → (has (is_asked f) w.past ≡ false) × (has (is_hand f) w.past ≡ true → f ≡ e)
  pub freed : is_free_tried w.past ≡ true → (m e : ℕ) → IsOf w m e → has (is_vote_yes e) w.past ≡ true → has (is_ack e) w.past ≡ true
  pub gone : has is_logged w.past ≡ true → has_mark w.past ≡ false → has is_freed w.past ≡ true
  pub new : always is_note_new w.past ≡ true
