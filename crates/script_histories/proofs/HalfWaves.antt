-- By its row, an enlistment waits for the votes of those that were asked to prepare before it came, in each history that keeps the table, promoted or not.
use Rattle.std.proofs.Common.{◌≡◌, Bool, true, false, List, ◌∷◌, refl, ℕ, ◌&&◌, ◌||◌, [], ◌∙◌, ap, ◌==◌, map, arith, Some}
use Rattle.std.specs.Prelude.{not, if◌then◌else◌}
use Rattle.std.specs.List.{slice_get}
use Rattle.std.proofs.Math.Nat.{le_trans}
use Rattle.dtx_values.specs.declared.number.EnlNo.{EnlNo}
use Rattle.dtx_values.specs.declared.entry.Ask.TheVariants.{Prepare}
use Rattle.dtx_values.specs.declared.entry.Entry.{Entry}
use Rattle.dtx_values.specs.declared.entry.Entry.TheVariants.{Asked, Enlisted, Voted}
use Rattle.dtx_values.specs.declared.words.Class.{Class}
use Rattle.dtx_values.specs.Row.{is_of, number_of, fresh_row, vote_row, is_marked, mark_row, has_voted, is_asked_before}
use Rattle.dtx_values.specs.declared.row.Row.{Row}
use Rattle.dtx_values.specs.Table.{marks, voted_before}
use Rattle.dtx_values.specs.declared.row.CloneRow.{CloneRow}
use Rattle.dtx_model.specs.Words.{has, each, all_of}
use Rattle.dtx_model.specs.Entries.{is_asked, is_sealed, is_vote, is_completed}
use Rattle.dtx_model.specs.Observed.{rows, clone_rows}
use Rattle.dtx_model.specs.Seen.{asked_of, waited_for, IsCloneSeen, IsSeen}
use Rattle.dtx_model.proofs.Bools.{not_both, or_second}
use Rattle.dtx_model.proofs.Counts.{how_many-map}
use Rattle.history_table.proofs.Tests.{eq_self, eq_swap, apart}
use Rattle.history_table.proofs.EntryTests.{is_enlisted}
use Rattle.history_table.proofs.Keeping.{Keeps, keeps_before, newest}
use Rattle.history_table.proofs.HalfRows.{unenlisted_unasked, enlisted_once, keeps_order}
use Rattle.history_table.proofs.Lists.{each_kept, if_kept, each-insert, OfEach, of-more, of-map, of-insert, each_same, of-at}
use Rattle.history_table.proofs.TableRows.{enlisted_in_rows, IsRow, rows_by, row_by, clones_by}
use Rattle.history_table.proofs.Recording.{enlisted_unsealed}
use Rattle.script_histories.proofs.Waves.{passes_marked, each-marked, marked, passes_before, marks_more, IsBelow, marks_below, IsWave, asked_kept, own_wave}
use Rattle.script_histories.proofs.MoreLists.{of-both, how_many-insert}

-- before the seal, what is asked to prepare was enlisted
asked_enlisted : (e : EnlNo) (h : List Entry) → Keeps (Asked e Prepare ∷ h) → has is_sealed h ≡ false → has (is_enlisted e.value) h ≡ true
asked_enlisted e h k u = step (has (is_enlisted e.value) h) refl
  where
    step : (b : Bool) → has (is_enlisted e.value) h ≡ b → b ≡ true
    step true s = refl
    step false s = absurd (not_both (has (is_asked e.value) (Asked e Prepare ∷ h)) (rw (eq_self e.value) refl) (unenlisted_unasked e.value (Asked e Prepare ∷ h) k s u))

-- before the seal, each marked row passes v where each that was asked to prepare does
all_asked : (v : ℕ → Bool) (h : List Entry) → Keeps h → has is_sealed h ≡ false → each (passes_marked v) (rows h) ≡ each (λ f. v f.value) (all_of asked_of h)
all_asked v [] k u = refl
all_asked v (Enlisted e c ∷ h) k u =
    each-insert (passes_marked v) number_of (fresh_row e c (marks (rows h))) (rows h) ∙ all_asked v h (keeps_before (Enlisted e c) h k) u
all_asked v (Asked e Prepare ∷ h) k u =
    let stands : has (is_of e.value) (rows h) ≡ true = enlisted_in_rows e.value h ∙ asked_enlisted e h k u in
    each-marked e.value (marks (rows h)) v (rows h) ∙ ap (λ b. (not b || v e.value) && each (passes_marked v) (rows h)) stands
    ∙ ap (λ b. v e.value && b) (all_asked v h (keeps_before (Asked e Prepare) h k) u)
all_asked v (Voted e w ∷ h) k u =
    each_kept (passes_marked v) (λ x. if is_of e.value x then (vote_row w x) else x)
    (λ x. if_kept (passes_marked v) (is_of e.value x) (vote_row w x) x refl) (rows h) ∙ all_asked v h (keeps_before (Voted e w) h k) u
all_asked v (x ∷ h) k u = all_asked v h (keeps_before x h k) (or_second (is_sealed x) (has is_sealed h) u)

-- each row of a history that keeps the table waits for those that were asked before its enlistment came
rows_waves : (h : List Entry) → Keeps h → OfEach (IsWave h) (rows h)
rows_waves [] r = tt
rows_waves (Enlisted e c ∷ h) r =
    let n = marks (rows h) in
    let fresh : Row = (fresh_row e c n) in
    let kept : marks (rows (Enlisted e c ∷ h)) ≡ n = how_many-insert is_marked number_of fresh refl (rows h) in
    let rest = keeps_before (Enlisted e c) h r in
    let once = enlisted_once e c h (newest (Enlisted e c) h r) in
    of-insert (IsWave (Enlisted e c ∷ h)) number_of fresh
    (record {
      behind = rw kept (omega arith);
      waits =
          λ v. each-insert (passes_before n v) number_of fresh (rows h)
          ∙ each_same (passes_before n v) (passes_marked v) (rows h)
          (of-more (IsBelow n) (λ q. passes_before n v q ≡ passes_marked v q) (λ q w. ap (λ b. not b || v q.number.value) w) (rows h) (marks_below h))
          ∙ all_asked v h rest (enlisted_unsealed e c h (newest (Enlisted e c) h r)) ∙ rw (eq_self e.value) refl;
    }) (rows h)
    (of-more (λ x. IsRow h x × IsWave h x) (IsWave (Enlisted e c ∷ h)) (λ x w. older e c n h x kept once w.0.stands w.1) (rows h)
    (of-both (IsRow h) (IsWave h) (rows h) (rows_by keeps_order h rest) (rows_waves h rest)))
  where
    older : (e : EnlNo) (c : Class) (n : ℕ) (h : List Entry) (x : Row) → marks (rows (Enlisted e c ∷ h)) ≡ marks (rows h) → has (is_enlisted e.value) h ≡ false
        → has (is_enlisted x.number.value) h ≡ true → IsWave h x → IsWave (Enlisted e c ∷ h) x
    older e c n h x kept once stands w =
        let other : (x.number.value == e.value) ≡ false = eq_swap x.number.value e.value ∙ apart (λ m. has (is_enlisted m) h) e.value x.number.value once stands in
        record {
          behind = rw kept w.behind;
          waits = λ v. each-insert (passes_before x.added v) number_of (fresh_row e c (marks (rows h))) (rows h) ∙ w.waits v ∙ rw other refl;
        }
rows_waves (Asked e Prepare ∷ h) r =
    let n = marks (rows h) in
    of-map (IsWave h) (IsWave (Asked e Prepare ∷ h)) (marked e.value n)
    (λ x w. own_wave (Asked e Prepare ∷ h) (is_of e.value x) (mark_row n x) x refl refl
    (record {
      behind = le_trans w.behind (marks_more e.value n (rows h));
      waits = λ v. each_kept (passes_before x.added v) (marked e.value n) (λ q. asked_kept e.value n x.added v q w.behind) (rows h) ∙ w.waits v;
    })) (rows h) (rows_waves h (keeps_before (Asked e Prepare) h r))
rows_waves (Voted e v ∷ h) r =
    let f = λ (x : Row). if is_of e.value x then (vote_row v x) else x in
    let kept : marks (map f (rows h)) ≡ marks (rows h) = how_many-map is_marked f (λ x. if_kept is_marked (is_of e.value x) (vote_row v x) x refl) (rows h) in
    of-map (IsWave h) (IsWave (Voted e v ∷ h)) f
    (λ x w. own_wave (Voted e v ∷ h) (is_of e.value x) (vote_row v x) x refl refl
    (record {
      behind = rw kept w.behind;
      waits = λ t. each_kept (passes_before x.added t) f (λ q. if_kept (passes_before x.added t) (is_of e.value q) (vote_row v q) q refl) (rows h) ∙ w.waits t;
    })) (rows h) (rows_waves h (keeps_before (Voted e v) h r))
rows_waves (x ∷ h) r = of-more (IsWave h) (IsWave (x ∷ h)) (λ q w. record { behind = w.behind; waits = w.waits }) (rows h) (rows_waves h (keeps_before x h r))

-- each that was asked before the row was added has a vote by the rows where it has by the history
row_waited : (h : List Entry) (k : ℕ) (x : Row) → Keeps h → slice_get (rows h) k ≡ Some x → voted_before x.added (rows h) ≡ waited_for h x.number.value
row_waited h k x r e =
    let w = of-at (IsWave h) (rows h) k x (rows_waves h r) e in
    each_same (λ q. not (is_asked_before q.asked x.added) || has_voted q) (passes_before x.added (λ f. has (is_vote f) h)) (rows h)
    (of-more (IsRow h) (λ q. (not (is_asked_before q.asked x.added) || has_voted q) ≡ passes_before x.added (λ f. has (is_vote f) h) q)
    (λ q m. ap (λ b. not (is_asked_before q.asked x.added) || b) m.voted) (rows h) (rows_by keeps_order h r))
    ∙ w.waits (λ f. has (is_vote f) h)

-- the row at a place says what the history shows of its enlistment
pub row_seen : (h : List Entry) (k : ℕ) (x : Row) → Keeps h → slice_get (rows h) k ≡ Some x → IsRow h x
row_seen h k x r e = row_by keeps_order h k x r e

-- the clone's row at a place says whether it was completed
pub clone_seen : (h : List Entry) (k : ℕ) (c : CloneRow) → Keeps h → slice_get (clone_rows h) k ≡ Some c → c.complete ≡ has (is_completed c.clone.value) h
clone_seen h k c r e = of-at (IsCloneSeen h) (clone_rows h) k c (clones_by keeps_order h r) e

-- the row at a place says what the history shows of its enlistment
pub row_is_seen : (h : List Entry) (k : ℕ) (x : Row) → Keeps h → slice_get (rows h) k ≡ Some x → IsSeen h x
row_is_seen h k x r e = let w = row_seen h k x r e in record { marked = w.marked; voted = w.vote; waited = row_waited h k x r e }
