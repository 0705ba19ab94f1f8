-- Of which rows a reply is due while nothing is promoted, and which of those are silent by their plan.
use Rattle.std.proofs.Common.{◌≡◌, ◌==◌, ℕ, true, ◌&&◌, List, [], ◌∷◌, sym, subst, Bool, false, ◌||◌, inl, inr, refl, slice_get, Some, ◌∙◌, None, Option, ap}
use Rattle.std.specs.Prelude.{not, if◌then◌else◌, is_some}
use Rattle.std.proofs.lemmas.Bool.{eqb-true, cases_Bool}
use Rattle.dtx_values.specs.declared.number.EnlNo.{EnlNo}
use Rattle.dtx_values.specs.declared.entry.Entry.{Entry}
use Rattle.dtx_values.specs.declared.entry.Entry.TheVariants.{Asked, Enlisted, Voted}
use Rattle.dtx_values.specs.declared.entry.Ask.TheVariants.{Prepare}
use Rattle.dtx_values.specs.declared.note.Note.TheVariants.{Prepare as PrepareNote, Hand as HandNote}
use Rattle.dtx_values.specs.declared.row.Row.{Row}
use Rattle.dtx_values.specs.declared.words.Class.{Class}
use Rattle.dtx_values.specs.Class.{is_volatile}
use Rattle.dtx_values.specs.Row.{is_marked, has_voted, is_of}
use Rattle.dtx_model.specs.Words.{has, or_else, latest}
use Rattle.dtx_model.specs.Entries.{is_asked, is_commit, is_decision, is_vote, is_sealed, decision_of, handed_of}
use Rattle.dtx_model.specs.Observed.{rows, observe}
use Rattle.dtx_model.specs.Outcome.{enlisted}
use Rattle.dtx_model.specs.Half.{is_gone, is_handed}
use Rattle.dtx_model.specs.Replies.{due_of, note_of_row}
use Rattle.dtx_model.proofs.Bools.{and_right, or_case, or_right, and_never, not_both, not_true}
use Rattle.dtx_model.proofs.Narrow.{open_note, due_note}
use Rattle.dtx_model.proofs.Unpromoted.{narrow}
use Rattle.history_table.proofs.EntryTests.{is_enlisted, is_volatile_of, is_lasting_of, is_there}
use Rattle.history_table.proofs.Tests.{third_of_four, eq_self}
use Rattle.history_table.proofs.Lists.{has-at, found_at}
use Rattle.history_table.proofs.Owned.{has_rows}
use Rattle.script_histories.proofs.Rule.{first_rule, other_rules, ruled}
use Rattle.script_histories.proofs.RuledRows.{row_marked, row_voted}
use Rattle.script_histories.proofs.MoreLists.{found_there}

-- who was asked to prepare is volatile
pub asked_volatile : (e : ℕ) (h : List Entry) → ruled h ≡ true → has (is_asked e) h ≡ true → has (is_volatile_of e) (enlisted h) ≡ true
asked_volatile e [] r a = absurd cc
asked_volatile e (Enlisted f c ∷ h) r a = or_right (is_volatile_of e (f, c)) (has (is_volatile_of e) (enlisted h)) (asked_volatile e h (other_rules (Enlisted f c) h r) a)
asked_volatile e (Asked f Prepare ∷ h) r a =
    or_case (e == f.value) (has (is_asked e) h)
    (λ s. let same : e ≡ f.value = eqb-true e f.value s in
    subst (λ n. has (is_volatile_of n) (enlisted h) ≡ true) (sym same)
    (and_right (not (has is_decision h) && has is_commit h && has (is_enlisted f.value) h && not (has (is_asked f.value) h)) (has (is_volatile_of f.value) (enlisted h)) (first_rule (Asked f Prepare) h r)))
    (asked_volatile e h (other_rules (Asked f Prepare) h r)) a
asked_volatile e (x ∷ h) r a = asked_volatile e h (other_rules x h r) a

-- and so is who voted
pub voted_volatile : (e : ℕ) (h : List Entry) → ruled h ≡ true → has (is_vote e) h ≡ true → has (is_volatile_of e) (enlisted h) ≡ true
voted_volatile e h r v = asked_volatile e h r (voted_asked e h r v)
  where
    voted_asked : (e : ℕ) (h : List Entry) → ruled h ≡ true → has (is_vote e) h ≡ true → has (is_asked e) h ≡ true
    voted_asked e [] r v = absurd cc
    voted_asked e (Voted f w ∷ h) r v =
        or_case (e == f.value) (has (is_vote e) h)
        (λ s. let same : e ≡ f.value = eqb-true e f.value s in
        subst (λ n. has (is_asked n) h ≡ true) (sym same)
        (third_of_four (not (has is_decision h)) (has (is_enlisted f.value) h) (has (is_asked f.value) h) (not (has (is_vote f.value) h)) (first_rule (Voted f w) h r)))
        (voted_asked e h (other_rules (Voted f w) h r)) v
    voted_asked e (x ∷ h) r v = or_right (is_asked e x) (has (is_asked e) h) (voted_asked e h (other_rules x h r) v)

-- nobody is both volatile and not
pub one_class : (e : ℕ) (h : List Entry) → ruled h ≡ true → has (is_volatile_of e) (enlisted h) ≡ true → has (is_lasting_of e) (enlisted h) ≡ true → ⊥
one_class e [] r v l = absurd cc
one_class e (Enlisted f c ∷ h) r v l =
    let own = other_rules (Enlisted f c) h r in
    elim (cases_Bool (e == f.value)) [
      | inl s ↦
          let same : e ≡ f.value = eqb-true e f.value s in
          let once : has (is_enlisted f.value) h ≡ false = not_true (has (is_enlisted f.value) h) (third_of_four (not (has is_decision h)) (not (has is_sealed h)) (not (has (is_enlisted f.value) h)) _ (first_rule (Enlisted f c) h r)) in
          let new : has (is_enlisted e) h ≡ false = subst (λ n. has (is_enlisted n) h ≡ false) (sym same) once in
          elim (cases_Bool (is_volatile c)) [
            | inl q ↦ let none : is_lasting_of e (f, c) ≡ false = rw q (and_never (e == f.value)) in not_both (has (is_enlisted e) h) (is_there e (λ c. not (is_volatile c)) h (or_second_true (is_lasting_of e (f, c)) _ none l)) new
            | inr q ↦ let none : is_volatile_of e (f, c) ≡ false = rw q (and_never (e == f.value)) in not_both (has (is_enlisted e) h) (is_there e is_volatile h (or_second_true (is_volatile_of e (f, c)) _ none v)) new
          ]
      | inr s ↦
          one_class e h own (or_second_true (is_volatile_of e (f, c)) _ (rw s refl) v) (or_second_true (is_lasting_of e (f, c)) _ (rw s refl) l)
    ]
  where
    or_second_true : (b c : Bool) → b ≡ false → (b || c) ≡ true → c ≡ true
    or_second_true true c n k = absurd cc
    or_second_true false c n k = k
one_class e (x ∷ h) r v l = one_class e h (other_rules x h r) v l

-- of a row that is marked it is so that its class is volatile
marked_volatile : (h : List Entry) (k : ℕ) (x : Row) → ruled h ≡ true → slice_get (rows h) k ≡ Some x → is_marked x ≡ true → is_volatile x.class ≡ true
marked_volatile h k x r e m = by_class (is_volatile x.class) refl
  where
    by_class : (b : Bool) → is_volatile x.class ≡ b → is_volatile x.class ≡ true
    by_class true f = f
    by_class false f =
        let n = x.number.value in
        let asked = asked_volatile n h r (sym (row_marked h k x r e) ∙ m) in
        let own : ((n == n) && not (is_volatile x.class)) ≡ true = rw (eq_self n, f) refl in
        let lasting : has (is_lasting_of n) (enlisted h) ≡ true = sym (has_rows (λ (e : EnlNo) (c : Class). (n == e.value) && not (is_volatile c)) h) ∙ has-at (λ y. (n == y.number.value) && not (is_volatile y.class)) (rows h) k x e own in
        absurd (one_class n h r asked lasting)

-- the note of a row, by what it says
note_step : (gone marked voted volatile decided handed : Bool) → (marked ≡ true → volatile ≡ true)
    → (if gone then None else or_else (if marked && not voted && (if volatile then not decided else false) then Some PrepareNote else if handed && not decided then Some HandNote else None) None)
    ≡ (if decided || gone then None else open_note (marked && not voted) handed)
note_step true marked voted volatile true handed f = refl
note_step true marked voted volatile false handed f = refl
note_step false true voted false decided handed f = let no : false ≡ true = f refl in absurd cc
note_step false true true true true true f = refl
note_step false true true true true false f = refl
note_step false true true true false true f = refl
note_step false true true true false false f = refl
note_step false true false true true true f = refl
note_step false true false true true false f = refl
note_step false true false true false handed f = refl
note_step false false voted volatile true true f = refl
note_step false false voted volatile true false f = refl
note_step false false voted volatile false true f = refl
note_step false false voted volatile false false f = refl

-- to what a reply of a row's enlistment is due
pub row_due : (h : List Entry) (k : ℕ) (x : Row) → ruled h ≡ true → slice_get (rows h) k ≡ Some x → due_of (narrow (observe h)) x.number.value ≡ due_note (observe h) x
unfolding due_of observe
row_due h k x r e =
    let n = x.number.value in
    let found = found_there (is_of n) (rows h) k x e (eq_self n) in
    let y = found.0 in
    let place = found_at (is_of n) (rows h) y found.1 in
    let same : n ≡ y.number.value = eqb-true n y.number.value place.2 in
    let gone = is_gone (narrow (observe h)) n in
    let marked : is_marked y ≡ is_marked x = row_marked h place.0 y r place.1 ∙ ap (λ m. has (is_asked m) h) (sym same) ∙ sym (row_marked h k x r e) in
    let voted : has_voted y ≡ has_voted x = row_voted h place.0 y r place.1 ∙ ap (λ m. has (is_vote m) h) (sym same) ∙ sym (row_voted h k x r e) in
    let decided = is_some (latest decision_of h) in
    ap (λ (o : Option Row). if gone then None else or_else (note_of_row (narrow (observe h)) o) None) found.1
    ∙ note_step gone (is_marked y) (has_voted y) (is_volatile y.class) decided (is_handed (latest handed_of h) y.number.value) (marked_volatile h place.0 y r place.1)
    ∙ ap (λ (b : Bool). if decided || gone then None else open_note (b && not (has_voted y)) (is_handed (latest handed_of h) y.number.value)) marked
    ∙ ap (λ (b : Bool). if decided || gone then None else open_note (is_marked x && not b) (is_handed (latest handed_of h) y.number.value)) voted
    ∙ ap (λ (m : ℕ). if decided || gone then None else open_note (is_marked x && not (has_voted x)) (is_handed (latest handed_of h) m)) (sym same)
