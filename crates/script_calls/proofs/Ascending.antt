-- The calls of an actor at a transaction: each is one that the script gives it, of a line of that actor, and no two are of one line.
use Rattle.std.proofs.Common.{◌≡◌, ℕ, zero, suc, ◌+◌, ◌-◌, ◌<◌, ◌≤◌, ◌==◌, Bool, true, false, List, [], ◌∷◌, ◌++◌, Option, Some, None, get_or, length, slice_get, take, inl, inr, refl, ap, subst, sym, ◌∙◌, arith}
use Rattle.std.specs.Prelude.{if◌then◌else◌}
use Rattle.std.proofs.lemmas.Bool.{eqb-true}
use Rattle.std.proofs.lemmas.Bool.Decides.{eqb_tells}
use Rattle.std.proofs.lemmas.List.{take_all}
use Rattle.dtx_values.specs.declared.call.Call.{Call}
use Rattle.dtx_values.specs.declared.number.ActorNo.{ActorNo}
use Rattle.dtx_values.specs.declared.number.TxNo.{TxNo}
use Rattle.dtx_values.specs.declared.script.Line.{Line}
use Rattle.dtx_model.specs.Words.{all_of, kth, onto, past_of, put}
use Rattle.dtx_model.specs.Calls.{call_of}
use Rattle.dtx_model.specs.Caused.{IsCallOf}
use Rattle.dtx_model.specs.Contexts.{calls_by, lines_before, scope_calls, scopes_of}
use Rattle.dtx_values.proofs.SameNumbers.{same_actor}
use Rattle.history_table.proofs.Lists.{OfEach, of-at, of-more}
use Rattle.script_histories.proofs.ScopesApart.{AreApart, IsBeside, own_line, scope_calls_apart}
use Rattle.history_table.proofs.Tests.{eq_self}
use Rattle.script_calls.specs.declared.calls.LogCall.{LogCall}
use Rattle.script_calls.specs.declared.rows.Due.{Due}
use Rattle.script_calls.specs.Due.{calls_at, due_at, due_by_line, given_by, log_call, log_calls_at, log_due, log_due_by_line}
use Rattle.script_calls.proofs.Filling.{number_after}
use Rattle.script_calls.proofs.Openings.{past_next}

-- A call that is due to actor a at transaction t is one of a line of a, which gives it t.
pub record IsDueTo (s : List Line) (a t : ℕ) (d : Due Call) : Type 0 where
  pub line : Line
  pub stands : kth s d.line ≡ Some line
  pub by_actor : line.actor.value ≡ a
  pub name : TxNo
  pub place : ℕ
  pub gives : slice_get (calls_by s (lines_before s d.line) line) place ≡ Some (name, d.call)
  pub at_t : name.value ≡ t

-- so it is a call of the script
pub is_call_of : (s : List Line) (a : ActorNo) (t : ℕ) (d : Due Call) → IsDueTo s a.value t d → IsCallOf s t d.line a d.call
is_call_of s a t d k = record { line = k.line; stands = k.stands; by_actor = same_actor k.line.actor a k.by_actor; name = k.name; place = k.place; gives = k.gives; at_t = k.at_t }

-- The lines go up.
abbrev pub AreAscending : {C : Type 0} → List (Due C) → Type 0
AreAscending [] = Unit {0}
AreAscending (d ∷ ds) = OfEach (λ e. d.line < e.line) ds × AreAscending ds

-- what is so of each of two lists is so of each of both
pub of-append : {A : Type 0} (P : A → Type 0) (xs ys : List A) → OfEach P xs → OfEach P ys → OfEach P (xs ++ ys)
of-append P [] ys h k = k
of-append P (x ∷ xs) ys h k = (h.0, of-append P xs ys h.1 k)

-- lines up to one, and lines after it
pub ascending_append : {C : Type 0} (n : ℕ) (xs ys : List (Due C)) → AreAscending xs → AreAscending ys → OfEach (λ d. d.line ≤ n) xs → OfEach (λ d. n < d.line) ys → AreAscending (xs ++ ys)
ascending_append n [] ys h k low high = k
ascending_append n (x ∷ xs) ys h k low high = (
  of-append (λ e. x.line < e.line) xs ys h.0 (of-more (λ e. n < e.line) (λ e. x.line < e.line) (λ e less. let most = low.0 in omega (arith, most, less)) ys high),
  ascending_append n xs ys h.1 k low.1 high,
)

-- what holds of the calls of the items that give one
pub of-all_of : {A B : Type 0} (f : A → Option B) (P : B → Type 0) (xs : List A) → ((k : ℕ) (x : A) (y : B) → slice_get xs k ≡ Some x → f x ≡ Some y → P y) → OfEach P (all_of f xs)
of-all_of f P [] h = tt
of-all_of {A = A} {B = B} f P (x ∷ xs) h = by (f x) refl (of-all_of f P xs (λ k. h (suc k)))
  where
    by : (o : Option B) → f x ≡ o → OfEach P (all_of f xs) → OfEach P (put o (all_of f xs))
    by (Some y) e rest = (h 0 x y refl e, rest)
    by None e rest = rest

-- what a call gives t is of this line and of t
due_at_is : (t n : ℕ) (x : TxNo × Call) (d : Due Call) → due_at t n x ≡ Some d → (d ≡ record { line = n; call = x.1 }) × (x.0.value ≡ t)
due_at_is t n x d e = elim (eqb_tells t x.0.value) [
  | inl k ↦ let found : Some (record { line = n; call = x.1 }) ≡ Some d = sym (ap (λ (b : Bool). if b then Some (record { line = n; call = x.1 }) else None) k.0) ∙ e in (cc, sym k.1)
  | inr k ↦ let none : None ≡ Some d = sym (ap (λ (b : Bool). if b then Some (record { line = n; call = x.1 }) else None) k.0) ∙ e in absurd (cc)
]

-- of calls that are apart none beside is t's too
none_beside : (t n : ℕ) (u : TxNo) (cs : List (TxNo × Call)) → t ≡ u.value → OfEach (IsBeside u) cs → all_of (due_at t n) cs ≡ []
none_beside t n u [] same h = refl
none_beside t n u (c ∷ cs) same h =
    let out : (t == c.0.value) ≡ false = ap (λ m. m == c.0.value) same ∙ other u.value c.0.value h.0 in
    ap (λ (o : Option (Due Call)). put o (all_of (due_at t n) cs)) (ap (λ (b : Bool). if b then Some (record { line = n; call = c.1 }) else None) out) ∙ none_beside t n u cs same h.1
  where
    other : (a b : ℕ) → (b == a) ≡ false → (a == b) ≡ false
    other a b k = elim (eqb_tells a b) [
      | inl e ↦ let yes : (b == a) ≡ true = ap (λ m. b == m) e.1 ∙ eq_self b in let clash : true ≡ false = sym yes ∙ k in absurd (cc)
      | inr e ↦ e.0
    ]

-- so they give t one call at most,
pub one_at_most : (t n : ℕ) (cs : List (TxNo × Call)) → AreApart cs → length (all_of (due_at t n) cs) ≤ 1
one_at_most t n [] h = omega arith
one_at_most t n (c ∷ cs) h = elim (eqb_tells t c.0.value) [
  | inl k ↦
      let only : all_of (due_at t n) (c ∷ cs) ≡ record { line = n; call = c.1 } ∷ [] =
      ap (λ (b : Bool). put (if b then Some (record { line = n; call = c.1 }) else None) (all_of (due_at t n) cs)) k.0
      ∙ ap (λ (ds : List (Due Call)). record { line = n; call = c.1 } ∷ ds) (none_beside t n c.0 cs k.1 h.0) in
      let many = ap length only in omega (arith, many)
  | inr k ↦
      let rest : all_of (due_at t n) (c ∷ cs) ≡ all_of (due_at t n) cs = ap (λ (b : Bool). put (if b then Some (record { line = n; call = c.1 }) else None) (all_of (due_at t n) cs)) k.0 in
      let many = ap length rest in let few = one_at_most t n cs h.1 in omega (arith, many, few)
]

-- and a line gives calls that are apart
pub line_apart : (s before : List Line) (l : Line) → AreApart (calls_by s before l)
line_apart s before l = by (call_of s l.body) refl
  where
    by : (o : Option (TxNo × Call)) → call_of s l.body ≡ o → AreApart (put o (scope_calls l.body (scopes_of l.actor.value before)))
    by None e = scope_calls_apart l.body (scopes_of l.actor.value before)
    by (Some c) e = subst (λ (cs : List (TxNo × Call)). AreApart (c ∷ cs)) (sym (own_line s l.body c (scopes_of l.actor.value before) e)) (tt, tt)

-- A line gives a transaction one call at most.
pub line_once : (s : List Line) (a t : ℕ) (before : List Line) (l : Line) → length (due_by_line s a t before l) ≤ 1
line_once s a t before l = by (a == l.actor.value)
  where
    by : (b : Bool) → length (if b then all_of (due_at t (suc (length before))) (calls_by s before l) else []) ≤ 1
    by true = one_at_most t (suc (length before)) (calls_by s before l) (line_apart s before l)
    by false = omega arith

-- a list of one at most goes up
ascending_one : {C : Type 0} (ds : List (Due C)) → length ds ≤ 1 → AreAscending ds
ascending_one [] h = tt
ascending_one (d ∷ []) h = (tt, tt)
ascending_one (d ∷ e ∷ ds) h = absurd (omega (arith, h))

-- what is so of each is so of each of the first ones,
pub of-take : {A : Type 0} (P : A → Type 0) (n : ℕ) (xs : List A) → OfEach P xs → OfEach P (take n xs)
of-take P zero xs h = tt
of-take P (suc n) [] h = tt
of-take P (suc n) (x ∷ xs) h = (h.0, of-take P n xs h.1)

-- and in the other order
pub of-onto : {A : Type 0} (P : A → Type 0) (h xs : List A) → OfEach P h → OfEach P xs → OfEach P (onto h xs)
of-onto P h [] p q = p
of-onto P h (x ∷ xs) p q = of-onto P (x ∷ h) xs (q.0, p) q.1

-- of calls that go up, those before one are of lines before its line
pub before_it : {C : Type 0} (ds : List (Due C)) (n : ℕ) (d : Due C) → AreAscending ds → slice_get ds n ≡ Some d → OfEach (λ e. e.line < d.line) (take n ds)
before_it [] n d up e = absurd cc
before_it (x ∷ ds) zero d up e = tt
before_it (x ∷ ds) (suc n) d up e = (of-at (λ y. x.line < y.line) ds n d up.0 e, before_it ds n d up.1 e)

-- What some first lines give: P holds of it, its lines go up, and they are no further than that.
record AreDue {C : Type 0} (P : Due C → Type 0) (k : ℕ) (ds : List (Due C)) : Type 0 where
  due : OfEach P ds
  low : OfEach (λ d. d.line ≤ k) ds
  ascending : AreAscending ds

-- an item stands at each place
item_there : {A : Type 0} (xs : List A) (k : ℕ) → k < length xs → (x : A) × (slice_get xs k ≡ Some x) × (x ≡ get_or xs k x)
item_there [] k less = absurd (omega (arith, less))
item_there (x ∷ xs) zero less = (x, refl, refl)
item_there (x ∷ xs) (suc k) less = item_there xs k (omega (arith, less))

-- what the first k lines give, where each gives one at most, of which P holds and which has its number
given_until : {C : Type 0} (P : Due C → Type 0) (f : List Line → Line → List (Due C)) (s : List Line) → ((before : List Line) (l : Line) → length (f before l) ≤ 1)
    → ((k : ℕ) (l : Line) → k < length s → slice_get s k ≡ Some l → OfEach (λ d. P d × (d.line ≡ k + 1)) (f (past_of (take k s)) l))
    → (k : ℕ) → k ≤ length s → AreDue P k (given_by f (past_of (take k s)))
given_until P f s once each zero most = record { due = tt; low = tt; ascending = tt }
given_until {C = C} P f s once each (suc k) most =
    let less : k < length s = omega (arith, most) in
    let item = item_there s k less in
    let l = item.0 in
    let before = past_of (take k s) in
    let ih = given_until P f s once each k (omega (arith, most)) in
    let next = each k l less item.1 in
    let Q : Due C → Type 0 = λ d. P d × (d.line ≡ k + 1) in
    let xs = given_by f before in
    let ys = f before l in
    let step : suc k ≡ k + 1 = omega arith in
    subst (λ (ls : List Line). AreDue P (suc k) (given_by f ls)) (sym (ap (λ m. past_of (take m s)) step ∙ past_next s k l less item.2))
    (record {
      due = of-append P xs ys ih.due (of-more Q P (λ d h. h.0) ys next);
      low = of-append (λ d. d.line ≤ suc k) xs ys (of-more (λ d. d.line ≤ k) (λ d. d.line ≤ suc k) (λ d h. omega (arith, h)) xs ih.low)
          (of-more Q (λ d. d.line ≤ suc k) (λ d h. let e = h.1 in omega (arith, e)) ys next);
      ascending = ascending_append k xs ys ih.ascending (ascending_one ys (once before l)) ih.low (of-more Q (λ d. k < d.line) (λ d h. let e = h.1 in omega (arith, e)) ys next);
    })

-- and what all of them give
given_by_all : {C : Type 0} (P : Due C → Type 0) (f : List Line → Line → List (Due C)) (s : List Line) → ((before : List Line) (l : Line) → length (f before l) ≤ 1)
    → ((k : ℕ) (l : Line) → k < length s → slice_get s k ≡ Some l → OfEach (λ d. P d × (d.line ≡ k + 1)) (f (past_of (take k s)) l))
    → OfEach P (given_by f (past_of s)) × AreAscending (given_by f (past_of s))
given_by_all P f s once each =
    let all = given_until P f s once each (length s) (omega arith) in
    let whole : take (length s) s ≡ s = take_all (length s) s (omega arith) in
    (subst (λ (ls : List Line). OfEach P (given_by f (past_of ls))) whole all.due, subst (λ (ls : List Line). AreAscending (given_by f (past_of ls))) whole all.ascending)

-- what line k + 1 gives
next_due : (s : List Line) (a t k : ℕ) (l : Line) → k < length s → slice_get s k ≡ Some l
    → OfEach (λ d. IsDueTo s a t d × (d.line ≡ k + 1)) (due_by_line s a t (past_of (take k s)) l)
next_due s a t k l less stands = by (a == l.actor.value) refl
  where
    given : (a ≡ l.actor.value) → OfEach (λ d. IsDueTo s a t d × (d.line ≡ k + 1)) (all_of (due_at t (suc (length (past_of (take k s))))) (calls_by s (past_of (take k s)) l))
    given mine = of-all_of (due_at t (suc (length (past_of (take k s))))) (λ d. IsDueTo s a t d × (d.line ≡ k + 1)) (calls_by s (past_of (take k s)) l) (λ p x d at e.
        let found = due_at_is t (suc (length (past_of (take k s)))) x d e in
        let number : d.line ≡ k + 1 = ap (λ (y : Due Call). y.line) found.0 ∙ number_after s k less in
        let after : d.line ≡ suc k = omega (arith, number) in
        let back : k ≡ d.line - 1 = omega (arith, number) in
        let call : d.call ≡ x.1 = ap (λ (y : Due Call). y.call) found.0 in (
          record {
            line = l;
            stands = ap (kth s) after ∙ stands;
            by_actor = sym mine;
            name = x.0;
            place = p;
            gives = ap (λ (ls : List Line). slice_get (calls_by s ls l) p) (ap (λ m. past_of (take m s)) (sym back)) ∙ at ∙ ap (λ (c : Call). Some (x.0, c)) (sym call);
            at_t = found.1;
          },
          number,
        ))

    by : (b : Bool) → (a == l.actor.value) ≡ b → OfEach (λ d. IsDueTo s a t d × (d.line ≡ k + 1)) (if b then all_of (due_at t (suc (length (past_of (take k s))))) (calls_by s (past_of (take k s)) l) else [])
    by true e = given (eqb-true a l.actor.value e)
    by false e = tt

-- So each call of an actor at a transaction is due there, and their lines go up.
pub calls_due : (s : List Line) (a t : ℕ) → OfEach (IsDueTo s a t) (calls_at s a t) × AreAscending (calls_at s a t)
calls_due s a t = given_by_all (IsDueTo s a t) (due_by_line s a t) s (line_once s a t) (next_due s a t)

-- A call that is due to actor a at the log is that of a line of a.
pub record IsLogDueTo (s : List Line) (a : ℕ) (d : Due LogCall) : Type 0 where
  pub line : Line
  pub stands : kth s d.line ≡ Some line
  pub by_actor : line.actor.value ≡ a
  pub gives : log_call line.body ≡ Some d.call

-- what line k + 1 gives the log
next_log_due : (s : List Line) (a k : ℕ) (l : Line) → k < length s → slice_get s k ≡ Some l → OfEach (λ d. IsLogDueTo s a d × (d.line ≡ k + 1)) (log_due_by_line a (past_of (take k s)) l)
next_log_due s a k l less stands = by (a == l.actor.value) refl (log_call l.body) refl
  where
    by : (b : Bool) → (a == l.actor.value) ≡ b → (o : Option LogCall) → log_call l.body ≡ o
        → OfEach (λ d. IsLogDueTo s a d × (d.line ≡ k + 1)) (if b then put (log_due (suc (length (past_of (take k s)))) o) [] else [])
    by true e (Some c) g =
        let number : suc (length (past_of (take k s))) ≡ k + 1 = number_after s k less in
        let after : suc (length (past_of (take k s))) ≡ suc k = omega (arith, number) in
        ((record { line = l; stands = ap (kth s) after ∙ stands; by_actor = sym (eqb-true a l.actor.value e); gives = g }, number), tt)
    by true e None g = tt
    by false e o g = tt

log_line_once : (a : ℕ) (before : List Line) (l : Line) → length (log_due_by_line a before l) ≤ 1
log_line_once a before l = by (a == l.actor.value) (log_call l.body)
  where
    by : (b : Bool) (o : Option LogCall) → length (if b then put (log_due (suc (length before)) o) [] else []) ≤ 1
    by true (Some c) = omega arith
    by true None = omega arith
    by false o = omega arith

-- So it is with the calls at the log.
pub log_calls_due : (s : List Line) (a : ℕ) → OfEach (IsLogDueTo s a) (log_calls_at s a) × AreAscending (log_calls_at s a)
log_calls_due s a = given_by_all (IsLogDueTo s a) (log_due_by_line a) s (log_line_once a) (next_log_due s a)
