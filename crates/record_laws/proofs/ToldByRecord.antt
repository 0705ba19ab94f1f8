-- What it shows that one was told of the commit: where a promotion began, the commit was handed to one, or there is a record; and where none began and it was handed to nobody, nothing is durable or
-- promotable.
use Rattle.std.proofs.Common.{◌≡◌, ℕ, ◌==◌, Bool, true, false, ◌&&◌, ◌||◌, List, [], ◌∷◌, refl}
use Rattle.std.specs.Prelude.{not}
use Rattle.std.proofs.lemmas.Bool.{or_left}
use Rattle.dtx_values.specs.declared.entry.Entry.{Entry}
use Rattle.dtx_values.specs.declared.entry.Entry.TheVariants.{Logged, Restarted, Told}
use Rattle.dtx_values.specs.declared.entry.Party.TheVariants.{Enl}
use Rattle.dtx_values.specs.declared.words.Outcome.TheVariants.{Committed}
use Rattle.dtx_model.specs.Words.{has}
use Rattle.dtx_model.specs.Entries.{is_any_hand, is_final, is_promoted, is_record, is_sealed, same_outcome}
use Rattle.dtx_model.specs.Outcome.{by_log, by_owner, by_seal, durables, evidence, is_empty, ready}
use Rattle.dtx_model.specs.Promotes.{is_promoting}
use Rattle.dtx_model.specs.Tied.{is_logged}
use Rattle.dtx_model.specs.AtLog.{is_restart}
use Rattle.dtx_model.proofs.Bools.{and_left, and_right, not_both, or_case, or_right}
use Rattle.history_table.proofs.Keeping.{Keeps}
use Rattle.history_table.proofs.Recording.{promoted_if_sealed, promoting_if_promoted}
use Rattle.history_table.proofs.Scans.{has_more}
use Rattle.history_table.proofs.Evident.{evident_record, owner_handed, sealed_if_evident}
use Rattle.script_histories.proofs.OneOutcome.{final_evident}
use Rattle.record_laws.specs.Recorded.{is_told_so}

-- who was told of the commit was told something final
pub told_final : (e : ℕ) (x : Entry) → is_told_so Committed e x ≡ true → is_final Committed x ≡ true
told_final e (Told (Enl f) p) t = and_right (e == f.value) (same_outcome Committed p) t
told_final e _ t = absurd cc

-- so there is evidence
pub told_evident : (e : ℕ) (h : List Entry) → Keeps h → has (is_told_so Committed e) h ≡ true → evidence h ≡ true
told_evident e h k t = final_evident h k (has_more (is_told_so Committed e) (is_final Committed) (told_final e) h t)

-- where a promotion began, by the owner or by the log
pub told_by : (e : ℕ) (h : List Entry) → Keeps h → has is_promoting h ≡ true → has (is_told_so Committed e) h ≡ true → (has is_any_hand h || has is_record h) ≡ true
told_by e h k p t = by (has is_any_hand h) refl
  where
    seen : evidence h ≡ true
    seen = told_evident e h k t

    by : (b : Bool) → has is_any_hand h ≡ b → (b || has is_record h) ≡ true
    by true q = refl
    by false q = evident_record h (promoted_if_sealed h k (sealed_if_evident h k seen) p) q seen

-- and where none began, by the owner, or by the seal of what has nothing durable or promotable
pub told_alone : (e : ℕ) (h : List Entry) → Keeps h → has is_promoting h ≡ false → has (is_told_so Committed e) h ≡ true → (has is_any_hand h || is_empty (durables h)) ≡ true
unfolding evidence by_seal by_owner by_log
told_alone e h k p t =
    or_case (by_seal h || by_owner h) (by_log h)
    (λ a. or_case (by_seal h) (by_owner h) (λ b. or_right (has is_any_hand h) (is_empty (durables h)) (and_right (has is_sealed h && not (has is_promoted h)) (is_empty (durables h)) b))
    (λ b. or_left (has is_any_hand h) (is_empty (durables h)) (owner_handed h (durables h) b)) a)
    (λ a. absurd (not_both (has is_promoting h) (promoting_if_promoted h k (and_left (has is_promoted h) (has is_record h) a)) p)) (and_right (ready h) (by_seal h || by_owner h || by_log h) (told_evident e h k t))

-- Without a restart a record was logged.
pub record_logged : (h : List Entry) → has is_restart h ≡ false → has is_record h ≡ true → has is_logged h ≡ true
record_logged [] n r = absurd cc
record_logged (Logged ∷ h) n r = refl
record_logged (Restarted b ∷ h) n r = absurd cc
record_logged (x ∷ h) n r = record_logged h n r
