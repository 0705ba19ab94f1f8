-- The next call of an actor at a transaction may be entered there, and the calls that were entered are a prefix then too.
use Rattle.std.proofs.Common.{◌≡◌, ◌≢◌, ℕ, zero, suc, ◌-◌, ◌<◌, ◌==◌, Bool, true, false, List, [], ◌∷◌, Option, Some, None, get_or, length, take, inl, inr, refl, ap, subst, sym, ◌∙◌, arith}
use Rattle.std.specs.Prelude.{if◌then◌else◌}
use Rattle.std.proofs.lemmas.Bool.{leb-true}
use Rattle.std.proofs.lemmas.Bool.Decides.{eqb_tells}
use Rattle.std.proofs.lemmas.List.{take_all}
use Rattle.std.proofs.lemmas.Option.{slice_get-get_or, slice_get_within}
use Rattle.dtx_values.specs.declared.call.Call.{Call}
use Rattle.dtx_values.specs.declared.number.ActorNo.{ActorNo}
use Rattle.dtx_values.specs.declared.script.Line.{Line}
use Rattle.dtx_model.specs.Words.{each, has, kth, past_of, put}
use Rattle.dtx_model.specs.declared.waiting.EnteredCall.{EnteredCall}
use Rattle.dtx_model.specs.Caused.{IsCallOf, IsIn, made_by}
use Rattle.dtx_model.specs.Grammar.{Name, are_named_well}
use Rattle.dtx_model.proofs.Bools.{and_left, and_right, or_false}
use Rattle.dtx_model.proofs.Prefixes.{past-more}
use Rattle.dtx_values.proofs.SameNumbers.{same_actor}
use Rattle.history_table.proofs.Lists.{OfEach, of-all, of-at, of-more}
use Rattle.script_histories.proofs.MoreLists.{of-both}
use Rattle.history_table.proofs.Names.{script_once}
use Rattle.history_table.proofs.Tests.{eq_self}
use Rattle.script_calls.specs.declared.rows.Due.{Due}
use Rattle.script_calls.specs.Due.{calls_at}
use Rattle.script_calls.specs.Prefix.{IsInOrder, IsPrefix, entered_by, own_call}
use Rattle.script_calls.specs.Rows.{are_entered, further, is_entered, next_in, no_calls, row_at, unentered}
use Rattle.script_calls.specs.SeenRow.{SeenRow}
use Rattle.script_calls.proofs.Ascending.{AreAscending, IsDueTo, before_it, calls_due, is_call_of, of-onto, of-take}

-- a call that was entered, as it was due
abbrev due_of : EnteredCall → Due Call
due_of k = record { line = k.line; call = k.call }

-- what is so of each actor's calls among those that were entered is so of each of these
of_each_own : (P : ℕ → Due Call → Type 0) (ks : List EnteredCall) → ((a : ActorNo) → OfEach (P a.value) (entered_by a.value ks)) → OfEach (λ k. P k.actor.value (due_of k)) ks
of_each_own P [] h = tt
of_each_own P (k ∷ ks) h = (here (h k.actor), of_each_own P ks (λ a. rest (P a.value) (own_call a.value k) (entered_by a.value ks) (h a)))
  where
    here : OfEach (P k.actor.value) (entered_by k.actor.value (k ∷ ks)) → P k.actor.value (due_of k)
    here all = (subst (λ (b : Bool). OfEach (P k.actor.value) (put (if b then Some (due_of k) else None) (entered_by k.actor.value ks))) (eq_self k.actor.value) all).0

    rest : (Q : Due Call → Type 0) (o : Option (Due Call)) (ds : List (Due Call)) → OfEach Q (put o ds) → OfEach Q ds
    rest Q (Some d) ds all = all.1
    rest Q None ds all = all

-- The calls of each actor that were entered are due there.
own_due : (s : List Line) (t : ℕ) (rows : List (SeenRow Call)) (ks : List EnteredCall) → IsPrefix s t rows ks → (a : ActorNo) → OfEach (IsDueTo s a.value t) (entered_by a.value ks)
own_due s t rows ks p a =
    let r = row_at a rows in
    let all : OfEach (IsDueTo s a.value t) r.calls = subst (λ (ds : List (Due Call)). OfEach (IsDueTo s a.value t) ds) (sym (p.calls a)) (calls_due s a.value t).0 in
    subst (λ (ds : List (Due Call)). OfEach (IsDueTo s a.value t) ds) (sym (p.entered a)) (of-onto (IsDueTo s a.value t) [] (take r.entered r.calls) tt (of-take (IsDueTo s a.value t) r.entered r.calls all))

-- So each call that was entered is one that the script gives the transaction.
pub entered_given : (s : List Line) (t : ℕ) (rows : List (SeenRow Call)) (ks : List EnteredCall) → IsPrefix s t rows ks → OfEach (λ k. IsCallOf s t k.line k.actor k.call) ks
entered_given s t rows ks p =
    of-more (λ k. IsDueTo s k.actor.value t (due_of k)) (λ k. IsCallOf s t k.line k.actor k.call) (λ k h. is_call_of s k.actor t (due_of k) h) ks
    (of_each_own (λ a d. IsDueTo s a t d) ks (own_due s t rows ks p))

pub entered_are_given : (s : List Line) (t : ℕ) (rows : List (SeenRow Call)) (ks : List EnteredCall) → IsPrefix s t rows ks → (n : ℕ) (a : ActorNo) (c : Call) → IsIn ks n a c → IsCallOf s t n a c
entered_are_given s t rows ks p n a c i = by i.place i.stands
  where
    by : (j : ℕ) → kth ks j ≡ Some (record { line = n; actor = a; call = c }) → IsCallOf s t n a c
    by zero e = absurd cc
    by (suc j) e = of-at (λ k. IsCallOf s t k.line k.actor k.call) ks j (record { line = n; actor = a; call = c }) (entered_given s t rows ks p) e

-- The next call is one that the script gives it,
pub next_given : (s : List Line) (t : ℕ) (rows : List (SeenRow Call)) (ks : List EnteredCall) (a : ActorNo) (d : Due Call) → IsPrefix s t rows ks → next_in (row_at a rows) ≡ Some d → IsCallOf s t d.line a d.call
next_given s t rows ks a d p e =
    let all : OfEach (IsDueTo s a.value t) (row_at a rows).calls = subst (λ (ds : List (Due Call)). OfEach (IsDueTo s a.value t) ds) (sym (p.calls a)) (calls_due s a.value t).0 in
    is_call_of s a t d (of-at (IsDueTo s a.value t) (row_at a rows).calls (row_at a rows).entered d all e)

-- two calls of one line are by one actor
one_actor : (s : List Line) (t n m : ℕ) (a b : ActorNo) (c d : Call) → IsCallOf s t n a c → IsCallOf s t m b d → m ≡ n → b.value ≡ a.value
one_actor s t n m a b c d x y same =
    let found : Some y.line ≡ Some x.line = sym y.stands ∙ ap (kth s) same ∙ x.stands in
    let line : y.line ≡ x.line = cc in
    ap (λ (u : ActorNo). u.value) (sym y.by_actor ∙ ap (λ (l : Line). l.actor) line ∙ x.by_actor)

-- and of another line than each that was entered,
pub next_apart : (s : List Line) (t : ℕ) (rows : List (SeenRow Call)) (ks : List EnteredCall) (a : ActorNo) (d : Due Call) → IsPrefix s t rows ks → next_in (row_at a rows) ≡ Some d
    → OfEach (λ k. IsCallOf s t k.line k.actor k.call × (k.line ≢ d.line)) ks
next_apart s t rows ks a d p e =
    of-more (λ k. IsDueTo s k.actor.value t (due_of k) × (k.actor.value ≡ a.value → k.line < d.line)) (λ k. IsCallOf s t k.line k.actor k.call × (k.line ≢ d.line))
    (λ k h.
    let given = is_call_of s k.actor t (due_of k) h.0 in
    (given, λ same. let less = h.1 (one_actor s t d.line k.line a k.actor d.call k.call (next_given s t rows ks a d p e) given same) in omega (arith, less, same)))
    ks (of_each_own (λ b x. IsDueTo s b t x × (b ≡ a.value → x.line < d.line)) ks own)
  where
    lines : (b : ActorNo) → OfEach (λ x. b.value ≡ a.value → x.line < d.line) (entered_by b.value ks)
    lines b = elim (eqb_tells b.value a.value) [
      | inl k ↦
          let same : b ≡ a = same_actor b a k.1 in
          let up : AreAscending (row_at a rows).calls = subst (λ (ds : List (Due Call)). AreAscending ds) (sym (p.calls a)) (calls_due s a.value t).1 in
          let low = before_it (row_at a rows).calls (row_at a rows).entered d up e in
          subst (λ (u : ActorNo). OfEach (λ x. u.value ≡ a.value → x.line < d.line) (entered_by u.value ks)) (sym same)
          (subst (λ (ds : List (Due Call)). OfEach (λ x. a.value ≡ a.value → x.line < d.line) ds) (sym (p.entered a))
          (of-onto (λ x. a.value ≡ a.value → x.line < d.line) [] (take (row_at a rows).entered (row_at a rows).calls) tt
          (of-more (λ x. x.line < d.line) (λ x. a.value ≡ a.value → x.line < d.line) (λ x h q. h) (take (row_at a rows).entered (row_at a rows).calls) low)))
      | inr k ↦ of-all (λ x. b.value ≡ a.value → x.line < d.line) (λ x q. absurd (k.1 q)) (entered_by b.value ks)
    ]

    own : (b : ActorNo) → OfEach (λ x. IsDueTo s b.value t x × (b.value ≡ a.value → x.line < d.line)) (entered_by b.value ks)
    own b = of-both (IsDueTo s b.value t) (λ x. b.value ≡ a.value → x.line < d.line) (entered_by b.value ks) (own_due s t rows ks p b) (lines b)

-- no item passes, where each fails
none_has : {A : Type 0} (q : A → Bool) (xs : List A) → OfEach (λ x. q x ≡ false) xs → has q xs ≡ false
none_has q [] h = refl
none_has q (x ∷ xs) h = or_false (q x) (has q xs) h.0 (none_has q xs h.1)

-- so that no call of its line was entered,
pub next_line_new : (s : List Line) (t : ℕ) (rows : List (SeenRow Call)) (ks : List EnteredCall) (a : ActorNo) (d : Due Call) → IsPrefix s t rows ks → next_in (row_at a rows) ≡ Some d
    → has (λ k. k.line == d.line) ks ≡ false
next_line_new s t rows ks a d p e =
    none_has (λ (k : EnteredCall). k.line == d.line) ks
    (of-more (λ k. IsCallOf s t k.line k.actor k.call × (k.line ≢ d.line)) (λ k. (k.line == d.line) ≡ false) (λ k h. elim (eqb_tells k.line d.line) [ inl q ↦ absurd (h.1 q.1) | inr q ↦ q.0 ]) ks
    (next_apart s t rows ks a d p e))

-- and none that makes a name that it makes: names are made once. A test that only such calls pass, none of them passes.
pub next_name_new : (s : List Line) (t : ℕ) (rows : List (SeenRow Call)) (ks : List EnteredCall) (a : ActorNo) (d : Due Call) (q : Call → Bool) → are_named_well s ≡ true → IsPrefix s t rows ks
    → next_in (row_at a rows) ≡ Some d → ((c : Call) → q c ≡ true → (x : Name) × (made_by d.call ≡ Some x) × (made_by c ≡ Some x)) → has (λ k. q k.call) ks ≡ false
next_name_new s t rows ks a d q named p e makes =
    none_has (λ (k : EnteredCall). q k.call) ks
    (of-more (λ k. IsCallOf s t k.line k.actor k.call × (k.line ≢ d.line)) (λ k. q k.call ≡ false) (λ k h. step k h.0 h.1 (q k.call) refl) ks (next_apart s t rows ks a d p e))
  where
    step : (k : EnteredCall) → IsCallOf s t k.line k.actor k.call → k.line ≢ d.line → (b : Bool) → q k.call ≡ b → b ≡ false
    step k given apart false is = refl
    step k given apart true is =
        let made = makes k.call is in
        absurd (apart (sym (script_once s t named d.line k.line a k.actor d.call k.call made.0 (next_given s t rows ks a d p e) given made.1 made.2)))

-- Before any was entered they are a prefix,
pub none_entered : (s : List Line) (t : ℕ) (rows : List (SeenRow Call)) → ((a : ActorNo) → row_at a rows ≡ unentered (calls_at s a.value t)) → IsPrefix s t rows []
none_entered s t rows are = record {
  calls = λ a. ap (λ (r : SeenRow Call). r.calls) (are a);
  entered = λ a. sym (ap (λ (r : SeenRow Call). past_of (take r.entered r.calls)) (are a));
}

-- and after the next one was entered they are still.
pub next_entered : (s : List Line) (t : ℕ) (rows new : List (SeenRow Call)) (ks : List EnteredCall) (a : ActorNo) (d : Due Call) → IsPrefix s t rows ks → next_in (row_at a rows) ≡ Some d
    → row_at a new ≡ further (row_at a rows) → ((b : ActorNo) → b ≢ a → row_at b new ≡ row_at b rows) → IsPrefix s t new (record { line = d.line; actor = a; call = d.call } ∷ ks)
next_entered s t rows new ks a d p e here others = record { calls = calls; entered = entered }
  where
    calls : (b : ActorNo) → (row_at b new).calls ≡ calls_at s b.value t
    calls b = elim (eqb_tells b.value a.value) [
      | inl k ↦ subst (λ (u : ActorNo). (row_at u new).calls ≡ calls_at s u.value t) (sym (same_actor b a k.1)) (ap (λ (r : SeenRow Call). r.calls) here ∙ p.calls a)
      | inr k ↦ ap (λ (r : SeenRow Call). r.calls) (others b (λ q. k.1 (ap (λ (u : ActorNo). u.value) q))) ∙ p.calls b
    ]

    own : entered_by a.value (record { line = d.line; actor = a; call = d.call } ∷ ks) ≡ past_of (take (row_at a new).entered (row_at a new).calls)
    own =
        let r = row_at a rows in
        let less = slice_get_within r.calls r.entered d e in
        let found : Some (get_or r.calls r.entered d) ≡ Some d = sym (slice_get-get_or {X = Due Call} r.calls r.entered d less) ∙ e in
        let there : get_or r.calls r.entered d ≡ d = cc in
        ap (λ (x : Bool). put (if x then Some d else None) (entered_by a.value ks)) (eq_self a.value)
        ∙ ap (λ (ds : List (Due Call)). d ∷ ds) (p.entered a)
        ∙ ap (λ (x : Due Call). x ∷ past_of (take r.entered r.calls)) (sym there)
        ∙ sym (past-more r.calls r.entered d less)
        ∙ sym (ap (λ (x : SeenRow Call). past_of (take x.entered x.calls)) here)

    entered : (b : ActorNo) → entered_by b.value (record { line = d.line; actor = a; call = d.call } ∷ ks) ≡ past_of (take (row_at b new).entered (row_at b new).calls)
    entered b = elim (eqb_tells b.value a.value) [
      | inl k ↦
          subst (λ (u : ActorNo). entered_by u.value (record { line = d.line; actor = a; call = d.call } ∷ ks) ≡ past_of (take (row_at u new).entered (row_at u new).calls)) (sym (same_actor b a k.1)) own
      | inr k ↦
          ap (λ (x : Bool). put (if x then Some d else None) (entered_by b.value ks)) k.0 ∙ p.entered b
          ∙ sym (ap (λ (r : SeenRow Call). past_of (take r.entered r.calls)) (others b (λ q. k.1 (ap (λ (u : ActorNo). u.value) q))))
    ]

-- So the calls of each actor that were entered are the first ones of its calls there, in order,
pub in_order : (s : List Line) (t : ℕ) (rows : List (SeenRow Call)) (ks : List EnteredCall) → IsPrefix s t rows ks → IsInOrder s t ks
in_order s t rows ks p a = ((row_at a rows).entered, p.entered a ∙ ap (λ (ds : List (Due Call)). past_of (take (row_at a rows).entered ds)) (p.calls a))

-- a test that each item and the blank pass, the item at a place passes
each_at : {A : Type 0} (q : A → Bool) (xs : List A) (i : ℕ) (blank : A) → each q xs ≡ true → q blank ≡ true → q (get_or xs i blank) ≡ true
each_at q [] i blank h k = k
each_at q (x ∷ xs) zero blank h k = and_left (q x) (each q xs) h
each_at q (x ∷ xs) (suc i) blank h k = each_at q xs i blank (and_right (q x) (each q xs) h) k

-- and where each was entered they are all of them.
pub all_entered : (s : List Line) (t : ℕ) (rows : List (SeenRow Call)) (ks : List EnteredCall) → IsPrefix s t rows ks → are_entered rows ≡ true → (a : ActorNo) → entered_by a.value ks ≡ past_of (calls_at s a.value t)
all_entered s t rows ks p all a =
    let r = row_at a rows in
    let done = leb-true (length r.calls) r.entered (each_at is_entered rows (a.value - 1) no_calls all refl) in
    p.entered a ∙ ap past_of (take_all r.entered r.calls done ∙ p.calls a)
