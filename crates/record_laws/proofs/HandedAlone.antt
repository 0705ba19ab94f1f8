-- One that was handed the commit is the only durable or promotable that anything is asked of; who was told of the commit was told after the handing or the record; and a record that was logged and isn't
-- there was freed.
use Rattle.std.proofs.Common.{◌≡◌, ℕ, ◌==◌, Bool, true, false, ◌&&◌, ◌||◌, List, [], ◌∷◌, refl}
use Rattle.std.specs.Prelude.{not, if◌then◌else◌}
use Rattle.std.proofs.lemmas.Bool.{eqb-true, false_from_ne_true, or_left}
use Rattle.dtx_values.specs.declared.call.Call.{Call}
use Rattle.dtx_values.specs.declared.entry.Entry.{Entry}
use Rattle.dtx_values.specs.declared.entry.Entry.TheVariants.{Enlisted, Freed, Logged, Restarted, Told}
use Rattle.dtx_values.specs.declared.entry.Party.TheVariants.{Enl}
use Rattle.dtx_values.specs.declared.number.ActorNo.{ActorNo}
use Rattle.dtx_values.specs.declared.words.Outcome.{Outcome}
use Rattle.dtx_values.specs.declared.words.Outcome.TheVariants.{Committed}
use Rattle.dtx_values.specs.Class.{is_volatile}
use Rattle.dtx_model.specs.Words.{has}
use Rattle.dtx_model.specs.Entries.{is_any_hand, is_asked, is_commit_got, is_hand, is_record, is_told, is_two_phase_got, same_outcome}
use Rattle.dtx_model.specs.Outcome.{durables, is_empty}
use Rattle.dtx_model.specs.Promotes.{is_promoting}
use Rattle.dtx_model.specs.Tied.{has_mark, is_logged}
use Rattle.dtx_model.specs.AtLog.{is_restart}
use Rattle.dtx_model.specs.Steps.{Step}
use Rattle.dtx_model.specs.World.{World}
use Rattle.dtx_model.specs.Caused.{AreMadeOnce, Ran}
use Rattle.dtx_model.proofs.Bools.{and_left, not_both, or_case, or_right}
use Rattle.history_table.proofs.EntryTests.{is_enlisted}
use Rattle.history_table.proofs.Evident.{hand_stands}
use Rattle.history_table.proofs.Handed.{hand_any, only_name}
use Rattle.history_table.proofs.JointVotes.{two_if_prepared}
use Rattle.history_table.proofs.Keeping.{Keeps}
use Rattle.history_table.proofs.Recording.{promoting_if_promoted, two_phase_commit}
use Rattle.history_table.proofs.Scans.{has_more}
use Rattle.history_table.proofs.Sendings.{promoted_if_commit}
use Rattle.history_table.proofs.Standing.{prepared_if_asked}
use Rattle.history_table.proofs.Table.{is_prepare_got, stands_volatile}
use Rattle.record_laws.specs.Recorded.{IsOf, is_freed, is_told_so}
use Rattle.record_laws.proofs.AskedOnce.{prepared_unhanded}
use Rattle.record_laws.proofs.LastingCalls.{lasting_alone}
use Rattle.record_laws.proofs.ToldByRecord.{record_logged, told_alone, told_by}
use Rattle.record_laws.proofs.ToldListed.{told_enlisted}

-- where PREPARE was got a promotion began
prepared_promoting : (n : ℕ) (h : List Entry) → Keeps h → has (is_prepare_got n) h ≡ true → has is_promoting h ≡ true
prepared_promoting n h k t = promoting_if_promoted h k (promoted_if_commit h k (has_more is_two_phase_got is_commit_got two_phase_commit h (two_if_prepared n h k t)))

-- where one was handed the commit, no durable or promotable was asked, and no other was handed it
unasked : (e f : ℕ) (h : List Entry) → Keeps h → stands_volatile f h ≡ false → has (is_hand e) h ≡ true → has (is_asked f) h ≡ false
unasked e f h k v t =
    false_from_ne_true (has (is_asked f) h)
    (λ a. or_case (stands_volatile f h) (has (is_prepare_got f) h) (λ q. not_both (stands_volatile f h) q v)
    (λ p. not_both (has is_any_hand h) (has_more (is_hand e) is_any_hand (hand_any e) h t) (prepared_unhanded f h k (prepared_promoting f h k p) p)) (prepared_if_asked f h k a))

pub handed_alone : (e f : ℕ) (h : List Entry) → Keeps h → stands_volatile f h ≡ false → has (is_hand e) h ≡ true → (has (is_asked f) h ≡ false) × (has (is_hand f) h ≡ true → f ≡ e)
handed_alone e f h k v t = (unasked e f h k v t, λ s. eqb-true f e (only_name e f (durables h) (hand_stands e h k t).alone (hand_stands f h k s).alone))

-- one that is enlisted and no volatile is among the durables and promotables
lasting_there : (e : ℕ) (h : List Entry) → has (is_enlisted e) h ≡ true → stands_volatile e h ≡ false → is_empty (durables h) ≡ true → ⊥
lasting_there e [] s v n = absurd cc
lasting_there e (Enlisted f c ∷ h) s v n = by (is_volatile c) (e == f.value) (lasting_there e h) s v n
  where
    by : (a b : Bool) → (has (is_enlisted e) h ≡ true → stands_volatile e h ≡ false → is_empty (durables h) ≡ true → ⊥) → (b || has (is_enlisted e) h) ≡ true → ((b && a) || stands_volatile e h) ≡ false
        → is_empty (if not a then (f, c) ∷ durables h else durables h) ≡ true → ⊥
    by false b ih s v n = absurd cc
    by true true ih s v n = absurd cc
    by true false ih s v n = ih s v n
lasting_there e (x ∷ h) s v n = lasting_there e h s v n

told_any : (o : Outcome) (e : ℕ) (x : Entry) → is_told_so o e x ≡ true → is_told e x ≡ true
told_any o e (Told (Enl f) p) t = and_left (e == f.value) (same_outcome o p) t
told_any o e _ t = absurd cc

-- a durable or promotable is told of the commit after the handing or the record
pub told_after : (G : ℕ → ActorNo → Call → Type 0) (t m e : ℕ) (ms : List Step) (w : World) → AreMadeOnce G → Ran G t ms w → Keeps w.past → has is_restart w.past ≡ false → IsOf w m e
    → has (is_told_so Committed e) w.past ≡ true → (has is_any_hand w.past || has is_logged w.past) ≡ true
told_after G t m e ms w once r k n of s = by (has is_promoting w.past) refl
  where
    h : List Entry
    h = w.past

    by : (b : Bool) → has is_promoting h ≡ b → (has is_any_hand h || has is_logged h) ≡ true
    by true p = or_case (has is_any_hand h) (has is_record h) (λ a. or_left (has is_any_hand h) (has is_logged h) a) (λ a. or_right (has is_any_hand h) (has is_logged h) (record_logged h n a)) (told_by e h k p s)
    by false p =
        or_case (has is_any_hand h) (is_empty (durables h)) (λ a. or_left (has is_any_hand h) (has is_logged h) a)
        (λ a. absurd (lasting_there e h (told_enlisted G t e ms w r k p (has_more (is_told_so Committed e) (is_told e) (told_any Committed e) h s)) (lasting_alone G t m e ms w once r of) a)) (told_alone e h k p s)

-- what was logged and isn't there was freed
pub freed_if_gone : (h : List Entry) → has is_restart h ≡ false → has is_logged h ≡ true → has_mark h ≡ false → has is_freed h ≡ true
freed_if_gone [] n l g = absurd cc
freed_if_gone (Logged ∷ h) n l g = absurd cc
freed_if_gone (Freed ∷ h) n l g = refl
freed_if_gone (Restarted b ∷ h) n l g = absurd cc
freed_if_gone (x ∷ h) n l g = freed_if_gone h n l g
