-- What the notes that are heard show of the histories.
use Rattle.std.proofs.Common.{ℕ, ◌≡◌, ◌==◌, ◌||◌, ◌&&◌, Bool, true, false, List, [], ◌∷◌, Option, Some, None, refl, sym, subst, ap, ◌∙◌}
use Rattle.std.specs.Prelude.{if◌then◌else◌}
use Rattle.std.proofs.lemmas.Bool.{eqb-true, or_left}
use Rattle.dtx_values.specs.declared.entry.Entry.{Entry}
use Rattle.dtx_values.specs.declared.entry.Entry.TheVariants.{Acked, Init as InitEntry, OwnerAnswered, PromoteReply, Requested, Told, Voted}
use Rattle.dtx_values.specs.declared.entry.Party.TheVariants.{Enl}
use Rattle.dtx_values.specs.declared.note.Note.{Note}
use Rattle.dtx_values.specs.declared.note.Note.TheVariants.{Commit}
use Rattle.dtx_values.specs.declared.number.EnlNo.{EnlNo}
use Rattle.dtx_values.specs.declared.script.Line.{Line}
use Rattle.dtx_values.specs.declared.trace.Place.TheVariants.{Transaction}
use Rattle.dtx_values.specs.declared.words.Outcome.TheVariants.{Aborted, Committed, InDoubt}
use Rattle.dtx_model.specs.Caused.{Volatiles, answers, is_volatile_in}
use Rattle.dtx_model.specs.Traces.{Placed, history}
use Rattle.dtx_model.specs.Words.{has, put}
use Rattle.dtx_model.proofs.Bools.{and_both, and_left, and_never, and_right, not_both, or_case, or_right, three_hold}
use Rattle.heard_notes.specs.Heard.{HeardNote, commit_of, heard, heard_at, heard_if, note_shown}
use Rattle.heard_notes.specs.Tables.{hears_commit}
use Rattle.history_table.proofs.Table.{is_acked_by}
use Rattle.tx_map.specs.Live.{Pair}
use Rattle.map_run.proofs.Hearing.{hears_commit_note, hears_rollback_note, is_commit_note, is_rollback_note, same_pair}

-- it tells the enlistment that the transaction aborted
abbrev pub hears_abort : ℕ → Entry → Bool
hears_abort e (Told (Enl f) Aborted) = e == f.value
hears_abort e _ = false

-- the note that is shown is the enlistment's, and passes
abbrev pub note_passes : ℕ → (Note → Bool) → Option (EnlNo × Note) → Bool
note_passes e q (Some n) = (e == n.0.value) && q n.1
note_passes e q None = false

-- where a note passes, and what shows it passes, the pair's history has what shows it
shown : (s : List Line) (p : Pair) (q : Note → Bool) (r : Entry → Bool) → ((x : Entry) → note_passes p.1.value q (note_shown (is_volatile_in s) x) ≡ true → r x ≡ true)
    → (P : List Placed) → has (λ h. same_pair p h && q h.note) (heard s Volatiles P) ≡ true → has r (history p.0.value P) ≡ true
shown s p q r sub [] k = absurd cc
shown s p q r sub ((Transaction t, x) ∷ P) k = by (note_shown (is_volatile_in s) x) refl k (shown s p q r sub P)
  where
    test : HeardNote → Bool
    test h = same_pair p h && q h.note

    rest : Bool
    rest = has (λ h. same_pair p h && q h.note) (heard s Volatiles P)

    later : (b : Bool) → has r (history p.0.value P) ≡ true → has r (if b then x ∷ history p.0.value P else history p.0.value P) ≡ true
    later true h = or_right (r x) (has r (history p.0.value P)) h
    later false h = h

    here : (b : Bool) → b ≡ true → r x ≡ true → has r (if b then x ∷ history p.0.value P else history p.0.value P) ≡ true
    here true e h = or_left (r x) (has r (history p.0.value P)) h
    here false e h = absurd cc

    by : (o : Option (EnlNo × Note)) → note_shown (is_volatile_in s) x ≡ o → has (λ h. same_pair p h && q h.note) (put (heard_if (answers s Volatiles) t x o) (heard s Volatiles P)) ≡ true
        → (rest ≡ true → has r (history p.0.value P) ≡ true) → has r (history p.0.value ((Transaction t, x) ∷ P)) ≡ true
    by None e k ih = later (p.0.value == t.value) (ih k)
    by (Some n) e k ih = split (is_volatile_in s n.0.value) k
      where
        split : (b : Bool) → has (λ h. same_pair p h && q h.note) (put (if b then Some (record { transaction = t; enlistment = n.0; note = n.1; entry = x }) else None) (heard s Volatiles P)) ≡ true
            → has r (history p.0.value ((Transaction t, x) ∷ P)) ≡ true
        split true k =
            or_case ((p.0.value == t.value) && (p.1.value == n.0.value) && q n.1) rest
            (λ a. let pair = and_left ((p.0.value == t.value) && (p.1.value == n.0.value)) (q n.1) a in
            here (p.0.value == t.value) (and_left (p.0.value == t.value) (p.1.value == n.0.value) pair)
            (sub x (subst (λ o. note_passes p.1.value q o ≡ true) (sym e)
            (and_both (p.1.value == n.0.value) (q n.1) (and_right (p.0.value == t.value) (p.1.value == n.0.value) pair) (and_right ((p.0.value == t.value) && (p.1.value == n.0.value)) (q n.1) a)))))
            (λ a. later (p.0.value == t.value) (ih a)) k
        split false k = later (p.0.value == t.value) (ih k)
shown s p q r sub (_ ∷ P) k = shown s p q r sub P k

-- A Commit is shown by what tells it, or by an acknowledgement; a Rollback by what tells it.
never : (b : Bool) → (b && false) ≡ true → ⊥
never b k = not_both (b && false) k (and_never b)

commit_shown : (v : ℕ → Bool) (e : ℕ) (x : Entry) → note_passes e is_commit_note (note_shown v x) ≡ true → (hears_commit e x || is_acked_by e x) ≡ true
commit_shown v e (InitEntry f) k = absurd (never (e == f.value) k)
commit_shown v e (Voted f w) k = absurd (never (e == f.value) k)
commit_shown v e (PromoteReply f w) k = absurd (never (e == f.value) k)
commit_shown v e (OwnerAnswered f w) k = absurd (never (e == f.value) k)
commit_shown v e (Requested f w) k = absurd (never (e == f.value) k)
commit_shown v e (Acked f) k = and_left (e == f.value) true k
commit_shown v e (Told (Enl f) Committed) k = by (v f.value) k
  where
    by : (b : Bool) → note_passes e is_commit_note (commit_of b f) ≡ true → ((e == f.value) || false) ≡ true
    by true k = or_left (e == f.value) false (and_left (e == f.value) true k)
    by false k = absurd cc
commit_shown v e (Told (Enl f) Aborted) k = absurd (never (e == f.value) k)
commit_shown v e (Told (Enl f) InDoubt) k = absurd (never (e == f.value) k)
commit_shown v e _ k = absurd cc

rollback_shown : (v : ℕ → Bool) (e : ℕ) (x : Entry) → note_passes e is_rollback_note (note_shown v x) ≡ true → hears_abort e x ≡ true
rollback_shown v e (InitEntry f) k = absurd (never (e == f.value) k)
rollback_shown v e (Voted f w) k = absurd (never (e == f.value) k)
rollback_shown v e (PromoteReply f w) k = absurd (never (e == f.value) k)
rollback_shown v e (OwnerAnswered f w) k = absurd (never (e == f.value) k)
rollback_shown v e (Requested f w) k = absurd (never (e == f.value) k)
rollback_shown v e (Acked f) k = absurd (never (e == f.value) k)
rollback_shown v e (Told (Enl f) Committed) k = by (v f.value) k
  where
    by : (b : Bool) → note_passes e is_rollback_note (commit_of b f) ≡ true → false ≡ true
    by true k = absurd (never (e == f.value) k)
    by false k = k
rollback_shown v e (Told (Enl f) Aborted) k = and_left (e == f.value) true k
rollback_shown v e (Told (Enl f) InDoubt) k = absurd (never (e == f.value) k)
rollback_shown v e _ k = absurd cc

pub commit_was_shown : (s : List Line) (p : Pair) (P : List Placed) → has (hears_commit_note p) (heard s Volatiles P) ≡ true → has (λ x. hears_commit p.1.value x || is_acked_by p.1.value x) (history p.0.value P) ≡ true
commit_was_shown s p P k = shown s p is_commit_note (λ x. hears_commit p.1.value x || is_acked_by p.1.value x) (commit_shown (is_volatile_in s) p.1.value) P k

pub rollback_was_shown : (s : List Line) (p : Pair) (P : List Placed) → has (hears_rollback_note p) (heard s Volatiles P) ≡ true → has (hears_abort p.1.value) (history p.0.value P) ≡ true
rollback_was_shown s p P k = shown s p is_rollback_note (hears_abort p.1.value) (rollback_shown (is_volatile_in s) p.1.value) P k

-- what tells a volatile of the script a commit is heard
pub told_is_heard : (s : List Line) (p : Pair) (P : List Placed) → is_volatile_in s p.1.value ≡ true → has (hears_commit p.1.value) (history p.0.value P) ≡ true → has (hears_commit_note p) (heard s Volatiles P) ≡ true
told_is_heard s p [] v k = absurd cc
told_is_heard s p ((Transaction t, x) ∷ P) v k = by (p.0.value == t.value) refl k (told_is_heard s p P v)
  where
    more : (o : Option HeardNote) → has (hears_commit_note p) (heard s Volatiles P) ≡ true → has (hears_commit_note p) (put o (heard s Volatiles P)) ≡ true
    more (Some h) k = or_right (hears_commit_note p h) (has (hears_commit_note p) (heard s Volatiles P)) k
    more None k = k

    now : (x : Entry) → (p.0.value == t.value) ≡ true → hears_commit p.1.value x ≡ true → has (hears_commit_note p) (put (heard_at s (answers s Volatiles) (Transaction t, x)) (heard s Volatiles P)) ≡ true
    now (Told (Enl f) Committed) a k =
        let made : is_volatile_in s f.value ≡ true = ap (is_volatile_in s) (sym (eqb-true p.1.value f.value k)) ∙ v in
        let P : Option (EnlNo × Note) → Type 0 = λ o. has (hears_commit_note p) (put (heard_if (answers s Volatiles) t (Told (Enl f) Committed) o) rest) ≡ true in
        subst P (sym (ap (λ b. commit_of b f) made)) (told (is_volatile_in s f.value) made)
      where
        rest : List HeardNote
        rest = heard s Volatiles P

        told : (b : Bool) → b ≡ true → has (hears_commit_note p) (put (if b then Some (record { transaction = t; enlistment = f; note = Commit; entry = Told (Enl f) Committed }) else None) rest) ≡ true
        told true e = or_left ((p.0.value == t.value) && (p.1.value == f.value) && true) (has (hears_commit_note p) rest) (three_hold (p.0.value == t.value) (p.1.value == f.value) true a k refl)
        told false e = absurd cc
    now _ a k = absurd cc

    by : (b : Bool) → (p.0.value == t.value) ≡ b → has (hears_commit p.1.value) (if b then x ∷ history p.0.value P else history p.0.value P) ≡ true
        → (has (hears_commit p.1.value) (history p.0.value P) ≡ true → has (hears_commit_note p) (heard s Volatiles P) ≡ true) → has (hears_commit_note p) (heard s Volatiles ((Transaction t, x) ∷ P)) ≡ true
    by true e k ih = or_case (hears_commit p.1.value x) (has (hears_commit p.1.value) (history p.0.value P)) (λ a. now x e a) (λ a. more (heard_at s (answers s Volatiles) (Transaction t, x)) (ih a)) k
    by false e k ih = more (heard_at s (answers s Volatiles) (Transaction t, x)) (ih k)
told_is_heard s p (_ ∷ P) v k = told_is_heard s p P v k
