-- The next call of an actor at the log is new there, and the calls that were entered there are a prefix then too.
use Rattle.std.proofs.Common.{◌≡◌, ◌≢◌, ℕ, ◌+◌, ◌<◌, ◌==◌, Bool, true, false, List, [], ◌∷◌, ◌++◌, Option, Some, None, get_or, map, slice_get, take, inl, inr, refl, ap, subst, sym, ◌∙◌, arith}
use Rattle.std.specs.Prelude.{if◌then◌else◌}
use Rattle.std.proofs.lemmas.Bool.Decides.{eqb_tells}
use Rattle.std.proofs.lemmas.List.{map-append, take_more}
use Rattle.std.proofs.lemmas.Option.{slice_get-get_or, slice_get_within}
use Rattle.dtx_values.specs.declared.entry.Answer.{Answer}
use Rattle.dtx_values.specs.declared.entry.Entry.{Entry}
use Rattle.dtx_values.specs.declared.entry.Entry.TheVariants.{Called}
use Rattle.dtx_values.specs.declared.number.ActorNo.{ActorNo}
use Rattle.dtx_values.specs.declared.script.Line.{Line}
use Rattle.dtx_model.specs.Entries.{is_call}
use Rattle.dtx_model.specs.Words.{has, kth, past_of, put}
use Rattle.dtx_model.proofs.Bools.{or_false}
use Rattle.dtx_model.proofs.Histories.{past_of-snoc}
use Rattle.dtx_values.proofs.SameNumbers.{same_actor}
use Rattle.history_table.proofs.Lists.{OfEach, of-all, of-at, of-map, of-more}
use Rattle.script_histories.proofs.MoreLists.{of-both}
use Rattle.history_table.proofs.Tests.{eq_self}
use Rattle.script_calls.specs.declared.calls.LogCall.{LogCall}
use Rattle.script_calls.specs.declared.rows.Due.{Due}
use Rattle.script_calls.specs.Due.{log_calls_at}
use Rattle.script_calls.specs.Prefix.{IsLogPrefix, lines_by, own_line}
use Rattle.script_calls.specs.Rows.{further, next_in, row_at, unentered}
use Rattle.script_calls.specs.SeenRow.{SeenRow}
use Rattle.script_calls.proofs.Ascending.{AreAscending, IsLogDueTo, before_it, log_calls_due, of-onto, of-take}

-- The next call is that of a line of its actor.
pub next_log_given : (s : List Line) (rows : List (SeenRow LogCall)) (h : List Entry) (a : ActorNo) (d : Due LogCall) → IsLogPrefix s rows h → next_in (row_at a rows) ≡ Some d → IsLogDueTo s a.value d
next_log_given s rows h a d p e =
    of-at (IsLogDueTo s a.value) (row_at a rows).calls (row_at a rows).entered d
    (subst (λ (ds : List (Due LogCall)). OfEach (IsLogDueTo s a.value) ds) (sym (p.calls a)) (log_calls_due s a.value).0) e

-- Before any was entered they are a prefix,
pub none_entered_at_log : (s : List Line) (rows : List (SeenRow LogCall)) → ((a : ActorNo) → row_at a rows ≡ unentered (log_calls_at s a.value)) → IsLogPrefix s rows []
none_entered_at_log s rows are = record {
  calls = λ a. ap (λ (r : SeenRow LogCall). r.calls) (are a);
  entered = λ a. sym (ap (λ (r : SeenRow LogCall). past_of (map (λ (d : Due LogCall). d.line) (take r.entered r.calls))) (are a));
}

-- they are still after an entry that is no call,
pub no_call_at_log : (s : List Line) (rows : List (SeenRow LogCall)) (h : List Entry) (x : Entry) → ((a : ℕ) → own_line a x ≡ None) → IsLogPrefix s rows h → IsLogPrefix s rows (x ∷ h)
no_call_at_log s rows h x none p = record { calls = p.calls; entered = λ a. ap (λ (o : Option ℕ). put o (lines_by a.value h)) (none a.value) ∙ p.entered a }

-- the lines of the first calls of a row, and of one more
lines_more : (ds : List (Due LogCall)) (n : ℕ) (d : Due LogCall) → slice_get ds n ≡ Some d
    → past_of (map (λ (x : Due LogCall). x.line) (take (n + 1) ds)) ≡ d.line ∷ past_of (map (λ (x : Due LogCall). x.line) (take n ds))
lines_more ds n d e =
    let less = slice_get_within ds n d e in
    let found : Some (get_or ds n d) ≡ Some d = sym (slice_get-get_or {X = Due LogCall} ds n d less) ∙ e in
    let there : get_or ds n d ≡ d = cc in
    ap (λ (xs : List (Due LogCall)). past_of (map (λ (x : Due LogCall). x.line) xs)) (take_more ds n d less ∙ ap (λ (x : Due LogCall). take n ds ++ x ∷ []) there)
    ∙ ap past_of (map-append (λ (x : Due LogCall). x.line) (take n ds) (d ∷ []))
    ∙ past_of-snoc (map (λ (x : Due LogCall). x.line) (take n ds)) d.line

-- and after the next call was entered, with any answer.
pub next_entered_at_log : (s : List Line) (rows new : List (SeenRow LogCall)) (h : List Entry) (a : ActorNo) (d : Due LogCall) (x : Answer) → IsLogPrefix s rows h → next_in (row_at a rows) ≡ Some d
    → row_at a new ≡ further (row_at a rows) → ((b : ActorNo) → b ≢ a → row_at b new ≡ row_at b rows) → IsLogPrefix s new (Called d.line a x ∷ h)
next_entered_at_log s rows new h a d x p e here others = record { calls = calls; entered = entered }
  where
    calls : (b : ActorNo) → (row_at b new).calls ≡ log_calls_at s b.value
    calls b = elim (eqb_tells b.value a.value) [
      | inl k ↦ subst (λ (u : ActorNo). (row_at u new).calls ≡ log_calls_at s u.value) (sym (same_actor b a k.1)) (ap (λ (r : SeenRow LogCall). r.calls) here ∙ p.calls a)
      | inr k ↦ ap (λ (r : SeenRow LogCall). r.calls) (others b (λ q. k.1 (ap (λ (u : ActorNo). u.value) q))) ∙ p.calls b
    ]

    own : lines_by a.value (Called d.line a x ∷ h) ≡ past_of (map (λ (y : Due LogCall). y.line) (take (row_at a new).entered (row_at a new).calls))
    own =
        ap (λ (b : Bool). put (if b then Some d.line else None) (lines_by a.value h)) (eq_self a.value)
        ∙ ap (λ (ns : List ℕ). d.line ∷ ns) (p.entered a)
        ∙ sym (lines_more (row_at a rows).calls (row_at a rows).entered d e)
        ∙ sym (ap (λ (r : SeenRow LogCall). past_of (map (λ (y : Due LogCall). y.line) (take r.entered r.calls))) here)

    entered : (b : ActorNo) → lines_by b.value (Called d.line a x ∷ h) ≡ past_of (map (λ (y : Due LogCall). y.line) (take (row_at b new).entered (row_at b new).calls))
    entered b = elim (eqb_tells b.value a.value) [
      | inl k ↦
          subst (λ (u : ActorNo). lines_by u.value (Called d.line a x ∷ h) ≡ past_of (map (λ (y : Due LogCall). y.line) (take (row_at u new).entered (row_at u new).calls))) (sym (same_actor b a k.1)) own
      | inr k ↦
          ap (λ (t : Bool). put (if t then Some d.line else None) (lines_by b.value h)) k.0 ∙ p.entered b
          ∙ sym (ap (λ (r : SeenRow LogCall). past_of (map (λ (y : Due LogCall). y.line) (take r.entered r.calls))) (others b (λ q. k.1 (ap (λ (u : ActorNo). u.value) q))))
    ]

-- An entry of this line is none, where each actor's calls in the history are of other lines.
new_in : (P : ℕ → ℕ → Type 0) (n : ℕ) → ((b m : ℕ) → P b m → (n == m) ≡ false) → (h : List Entry) → ((b : ActorNo) → OfEach (P b.value) (lines_by b.value h)) → has (is_call n) h ≡ false
new_in P n out [] all = refl
new_in P n out (Called m a x ∷ h) all =
    or_false (n == m) (has (is_call n) h)
    (out a.value m (subst (λ (b : Bool). OfEach (P a.value) (put (if b then Some m else None) (lines_by a.value h))) (eq_self a.value) (all a)).0)
    (new_in P n out h (λ b. rest (P b.value) (b.value == a.value) m (lines_by b.value h) (all b)))
  where
    rest : (Q : ℕ → Type 0) (b : Bool) (m : ℕ) (ms : List ℕ) → OfEach Q (put (if b then Some m else None) ms) → OfEach Q ms
    rest Q true m ms k = k.1
    rest Q false m ms k = k
new_in P n out (x ∷ h) all = new_in P n out h all

-- a line of an actor's calls, and of another actor's, or before this one
abbrev IsOther : List Line → ActorNo → ℕ → ℕ → ℕ → Type 0
IsOther s a n b m = ((l : Line) × (kth s m ≡ Some l) × (l.actor.value ≡ b)) × (b ≡ a.value → m < n)

-- The next call isn't there yet.
pub next_log_new : (s : List Line) (rows : List (SeenRow LogCall)) (h : List Entry) (a : ActorNo) (d : Due LogCall) → IsLogPrefix s rows h → next_in (row_at a rows) ≡ Some d → has (is_call d.line) h ≡ false
next_log_new s rows h a d p e = new_in (IsOther s a d.line) d.line out h all
  where
    out : (b m : ℕ) → IsOther s a d.line b m → (d.line == m) ≡ false
    out b m k = elim (eqb_tells d.line m) [
      | inl q ↦
          let mine = next_log_given s rows h a d p e in
          let found : Some mine.line ≡ Some k.0.0 = sym mine.stands ∙ ap (kth s) q.1 ∙ k.0.1 in
          let same : mine.line ≡ k.0.0 = cc in
          let less = k.1 (sym k.0.2 ∙ ap (λ (l : Line). l.actor.value) (sym same) ∙ mine.by_actor) in
          let number = q.1 in
          absurd (omega (arith, less, number))
      | inr q ↦ q.0
    ]

    low : (b : ActorNo) → OfEach (λ x. b.value ≡ a.value → x.line < d.line) (take (row_at b rows).entered (row_at b rows).calls)
    low b = elim (eqb_tells b.value a.value) [
      | inl k ↦
          let up : AreAscending (row_at a rows).calls = subst (λ (ds : List (Due LogCall)). AreAscending ds) (sym (p.calls a)) (log_calls_due s a.value).1 in
          subst (λ (u : ActorNo). OfEach (λ x. u.value ≡ a.value → x.line < d.line) (take (row_at u rows).entered (row_at u rows).calls)) (sym (same_actor b a k.1))
          (of-more (λ x. x.line < d.line) (λ x. a.value ≡ a.value → x.line < d.line) (λ x less q. less) (take (row_at a rows).entered (row_at a rows).calls)
          (before_it (row_at a rows).calls (row_at a rows).entered d up e))
      | inr k ↦ of-all (λ x. b.value ≡ a.value → x.line < d.line) (λ x q. absurd (k.1 q)) (take (row_at b rows).entered (row_at b rows).calls)
    ]

    all : (b : ActorNo) → OfEach (IsOther s a d.line b.value) (lines_by b.value h)
    all b =
        let r = row_at b rows in
        let first = take r.entered r.calls in
        let due : OfEach (IsLogDueTo s b.value) r.calls = subst (λ (ds : List (Due LogCall)). OfEach (IsLogDueTo s b.value) ds) (sym (p.calls b)) (log_calls_due s b.value).0 in
        let both = of-both (IsLogDueTo s b.value) (λ x. b.value ≡ a.value → x.line < d.line) first (of-take (IsLogDueTo s b.value) r.entered r.calls due) (low b) in
        subst (λ (ms : List ℕ). OfEach (IsOther s a d.line b.value) ms) (sym (p.entered b))
        (of-onto (IsOther s a d.line b.value) [] (map (λ (x : Due LogCall). x.line) first) tt
        (of-map (λ x. IsLogDueTo s b.value x × (b.value ≡ a.value → x.line < d.line)) (IsOther s a d.line b.value) (λ (x : Due LogCall). x.line)
        (λ x k. ((k.0.line, k.0.stands, k.0.by_actor), k.1)) first both))
