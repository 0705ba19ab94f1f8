-- The base that a map is left with is the table of the puts of those that committed.
use Rattle.std.proofs.Common.{ℕ, ◌≡◌, ◌||◌, ◌&&◌, Bool, true, false, cond, not, List, [], ◌∷◌, map, Option, Some, None, refl, sym, ap, ◌∙◌}
use Rattle.std.proofs.lemmas.Bool.{false_from_ne_true}
use Rattle.dtx_values.specs.declared.entry.Entry.{Entry}
use Rattle.dtx_values.specs.declared.entry.Entry.TheVariants.{Told}
use Rattle.dtx_values.specs.declared.entry.Party.TheVariants.{Enl}
use Rattle.dtx_values.specs.declared.number.EnlNo.{EnlNo}
use Rattle.dtx_values.specs.declared.number.TxNo.{TxNo}
use Rattle.dtx_values.specs.declared.script.Line.{Line}
use Rattle.dtx_values.specs.declared.words.Outcome.TheVariants.{Aborted, Committed}
use Rattle.dtx_model.specs.Caused.{Volatiles, is_volatile_in}
use Rattle.dtx_model.specs.Entries.{is_final}
use Rattle.dtx_model.specs.Outcome.{agree, is_decided_again}
use Rattle.dtx_model.specs.Traces.{Placed, history}
use Rattle.dtx_model.specs.Words.{ever, has}
use Rattle.dtx_model.proofs.Bools.{and_both, and_left, and_right, not_both, not_true}
use Rattle.heard_notes.specs.Heard.{HeardNote, Reaches, heard}
use Rattle.heard_notes.specs.Tables.{hears_commit, table_after}
use Rattle.heard_notes.specs.declared.put.Put.{Put}
use Rattle.history_table.proofs.Lists.{OfEach}
use Rattle.history_table.proofs.Scans.{has_more}
use Rattle.history_table.proofs.Table.{is_acked_by}
use Rattle.tx_map.specs.Live.{MapState, Pair}
use Rattle.tx_map.specs.Notes.{GivesNote}
use Rattle.map_run.specs.Puts.{AreAllowed, empty, with_puts}
use Rattle.map_run.specs.Rows.{row_of}
use Rattle.map_run.proofs.Hearing.{hears_commit_note, hears_rollback_note, held_heard, key_heard, none_heard, outcome_of, reached_key, reached_rises}
use Rattle.map_run.proofs.Keys.{Held, KeyState, key_state, value_at}
use Rattle.map_run.proofs.Puts.{IsBeside, SeesNumbers, all_puts, held_at, value_if}
use Rattle.map_run.proofs.Rows.{row_at, rows_same}
use Rattle.map_run.proofs.Shown.{commit_was_shown, hears_abort, rollback_was_shown, told_is_heard}

-- the pair was told that its transaction committed
abbrev pub was_told : List Placed → Pair → Bool
was_told P p = has (hears_commit p.1.value) (history p.0.value P)

told_numbers : (P : List Placed) → SeesNumbers (was_told P)
told_numbers P p q a b = ap (λ n. has (hears_commit p.1.value) (history n P)) a ∙ ap (λ n. has (hears_commit n) (history q.0.value P)) b

-- in no history an enlistment hears both
final_commit : (e : ℕ) (x : Entry) → hears_commit e x ≡ true → is_final Committed x ≡ true
final_commit e (Told (Enl f) Committed) k = refl
final_commit e _ k = absurd cc

final_abort : (e : ℕ) (x : Entry) → hears_abort e x ≡ true → is_final Aborted x ≡ true
final_abort e (Told (Enl f) Aborted) k = refl
final_abort e _ k = absurd cc

not_told_both : (e : ℕ) (h : List Entry) → agree h ≡ true → has (hears_commit e) h ≡ true → has (hears_abort e) h ≡ true → ⊥
unfolding agree
not_told_both e h a c r =
    not_both (has (is_final Committed) h && has (is_final Aborted) h)
    (and_both (has (is_final Committed) h) (has (is_final Aborted) h) (has_more (hears_commit e) (is_final Committed) (final_commit e) h c) (has_more (hears_abort e) (is_final Aborted) (final_abort e) h r))
    (not_true (has (is_final Committed) h && has (is_final Aborted) h) (and_left (not (has (is_final Committed) h && has (is_final Aborted) h)) (not (ever is_decided_again h)) a))

-- what a volatile hears of a commit is what it is told
has_either : (p q : Entry → Bool) (h : List Entry) → has (λ x. p x || q x) h ≡ true → has q h ≡ false → has p h ≡ true
has_either p q [] k n = k
has_either p q (x ∷ h) k n = by (p x) (q x) k n (has_either p q h)
  where
    by : (a b : Bool) → ((a || b) || has (λ x. p x || q x) h) ≡ true → (b || has q h) ≡ false → (has (λ x. p x || q x) h ≡ true → has q h ≡ false → has p h ≡ true) → (a || has p h) ≡ true
    by true b k n f = refl
    by false true k n f = absurd cc
    by false false k n f = f k n

commit_heard : (s : List Line) (p : Pair) (P : List Placed) → is_volatile_in s p.1.value ≡ true → has (is_acked_by p.1.value) (history p.0.value P) ≡ false → has (hears_commit_note p) (heard s Volatiles P) ≡ was_told P p
commit_heard s p P v n = by (has (hears_commit_note p) (heard s Volatiles P)) (was_told P p) refl refl
  where
    by : (a b : Bool) → has (hears_commit_note p) (heard s Volatiles P) ≡ a → was_told P p ≡ b → a ≡ b
    by true true e f = refl
    by false false e f = refl
    by true false e f = absurd (not_both (was_told P p) (has_either (hears_commit p.1.value) (is_acked_by p.1.value) (history p.0.value P) (commit_was_shown s p P e) n) f)
    by false true e f = absurd (not_both (has (hears_commit_note p) (heard s Volatiles P)) (told_is_heard s p P v f) e)

-- The theorem.
module _ (s : List Line) (P : List Placed) (ps : List Put) (to : MapState) (allowed : AreAllowed empty ps)
    (volatile : OfEach (λ p. is_volatile_in s p.enlistment.value ≡ true) ps)
    (unacked : (t : TxNo) (e : EnlNo) → is_volatile_in s e.value ≡ true → has (is_acked_by e.value) (history t.value P) ≡ false)
    (agrees : (t : TxNo) → agree (history t.value P) ≡ true)
    (reached : Reaches GivesNote s (with_puts empty ps) (heard s Volatiles P) to) where
  good : Pair → Bool
  good p = is_volatile_in s p.1.value

  beside : IsBeside (was_told P) good (with_puts empty ps) (table_after Volatiles P ps)
  unfolding good
  beside = all_puts (was_told P) good (told_numbers P) ps empty [] allowed volatile (record { rises = record { base = tt; live = tt }; rows = tt; base = refl; same = λ k. refl; held = λ k h e. absurd cc })

  -- of a pair that hears nothing opposite, the key is what its outcome says
  held_value : (w : Held) → is_volatile_in s w.0.1.value ≡ true → (key_heard (heard s Volatiles P) (key_state (Some w) None)).base ≡ value_if (was_told P) (Some w)
  held_value w v =
      ap (λ (k : KeyState). k.base) (held_heard hs w apart) ∙ by (has (hears_commit_note w.0) hs) (has (hears_rollback_note w.0) hs)
      ∙ ap (λ b. cond b w.1 None) (commit_heard s w.0 P v (unacked w.0.0 w.0.1 v))
    where
      hs : List HeardNote
      hs = heard s Volatiles P

      apart : (has (hears_commit_note w.0) hs && has (hears_rollback_note w.0) hs) ≡ false
      apart = false_from_ne_true (has (hears_commit_note w.0) hs && has (hears_rollback_note w.0) hs) (λ k.
          not_told_both w.0.1.value (history w.0.0.value P) (agrees w.0.0)
          (sym (commit_heard s w.0 P v (unacked w.0.0 w.0.1 v)) ∙ and_left (has (hears_commit_note w.0) hs) (has (hears_rollback_note w.0) hs) k)
          (rollback_was_shown s w.0 P (and_right (has (hears_commit_note w.0) hs) (has (hears_rollback_note w.0) hs) k)))

      by : (c r : Bool) → (outcome_of w c r).base ≡ cond c w.1 None
      by true r = refl
      by false true = refl
      by false false = refl

  -- each key's value
  value_same : (k : ℕ) → value_at k to.base ≡ row_at k (table_after Volatiles P ps)
  unfolding good
  value_same k =
      ap (λ (x : KeyState). x.base) (reached_key s k (with_puts empty ps) to (heard s Volatiles P) reached beside.rises)
      ∙ ap (λ o. (key_heard (heard s Volatiles P) (key_state (held_at k (with_puts empty ps)) o)).base) (ap (value_at k) beside.base)
      ∙ by (held_at k (with_puts empty ps)) (beside.held k) ∙ sym (beside.same k)
    where
      by : (o : Option Held) → ((h : Held) → o ≡ Some h → good h.0 ≡ true) → (key_heard (heard s Volatiles P) (key_state o None)).base ≡ value_if (was_told P) o
      by (Some w) g = held_value w (g w refl)
      by None g = ap (λ (x : KeyState). x.base) (none_heard (heard s Volatiles P) None)

  -- so the base is the table
  pub base_is_table : map row_of to.base ≡ table_after Volatiles P ps
  base_is_table = rows_same 0 to.base (table_after Volatiles P ps) (reached_rises s (with_puts empty ps) to (heard s Volatiles P) reached beside.rises).base beside.rows value_same
