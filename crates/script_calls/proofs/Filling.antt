-- What one more line gives goes after what the lines before it gave.
use Rattle.std.proofs.Common.{◌≡◌, ◌≢◌, ℕ, suc, ◌+◌, ◌-◌, ◌<◌, ◌==◌, Bool, true, false, List, [], ◌∷◌, ◌++◌, Option, Some, None, drop, get_or, length, replicate, take, inl, inr, refl, ap, subst, sym, ◌∙◌, append-nil, append_assoc, arith}
use Rattle.std.specs.Prelude.{if◌then◌else◌}
use Rattle.std.proofs.lemmas.Bool.Decides.{eqb_tells}
use Rattle.std.proofs.lemmas.List.{drop_more, get_or-replicate, length-take-le, take_all, take-append-drop, take-append-le}
use Rattle.dtx_values.specs.declared.call.Call.{Call}
use Rattle.dtx_values.specs.declared.number.ActorNo.{ActorNo}
use Rattle.dtx_values.specs.declared.number.TxNo.{TxNo}
use Rattle.dtx_values.specs.declared.script.Line.{Line}
use Rattle.dtx_model.specs.Contexts.{calls_by}
use Rattle.dtx_model.specs.Words.{all_of, past_of, put}
use Rattle.dtx_model.proofs.Pasts.{length-past}
use Rattle.dtx_values.proofs.SameNumbers.{same_actor}
use Rattle.script_calls.specs.declared.calls.LogCall.{LogCall}
use Rattle.script_calls.specs.declared.rows.Due.{Due}
use Rattle.script_calls.specs.Due.{calls_until, due_at, log_call, log_calls_until, log_due}
use Rattle.script_calls.specs.Rows.{no_calls, row_at, unentered, with_calls}
use Rattle.script_calls.specs.RowsOf.{rows_of}
use Rattle.script_calls.specs.SeenRow.{SeenRow}
use Rattle.script_calls.proofs.Openings.{past_next}

-- a row with no more calls
row_same : {C : Type 0} (r : SeenRow C) → r ≡ with_calls [] r
row_same r = ap (λ ds. record { calls = ds; entered = r.entered }) (sym (append-nil r.calls))

-- what some items give, and one more
pub all_of-snoc : {A B : Type 0} (f : A → Option B) (xs : List A) (x : A) → all_of f (xs ++ x ∷ []) ≡ all_of f xs ++ put (f x) []
all_of-snoc f [] x = refl
all_of-snoc f (y ∷ xs) x = ap (put (f y)) (all_of-snoc f xs x) ∙ put-append (f y) (all_of f xs) (put (f x) [])
  where
    put-append : {B : Type 0} (o : Option B) (ys zs : List B) → put o (ys ++ zs) ≡ put o ys ++ zs
    put-append (Some y) ys zs = refl
    put-append None ys zs = refl

-- a row with the calls of some items, and of one more
pub row_more : {A C : Type 0} (b : Bool) (f : A → Option (Due C)) (xs : List A) (x : A) (r : SeenRow C)
    → with_calls (if b then put (f x) [] else []) (with_calls (if b then all_of f xs else []) r) ≡ with_calls (if b then all_of f (xs ++ x ∷ []) else []) r
row_more true f xs x r = ap (λ ds. record { calls = ds; entered = r.entered }) (append_assoc r.calls (all_of f xs) (put (f x) []) ∙ ap (λ ds. r.calls ++ ds) (sym (all_of-snoc f xs x)))
row_more false f xs x r = ap (λ ds. record { calls = ds; entered = r.entered }) (append_assoc r.calls [] [])

-- a line's number, by the lines before it
pub number_after : (lines : List Line) (i : ℕ) → i < length lines → suc (length (past_of (take i lines))) ≡ i + 1
number_after lines i less =
    let many = length-past (take i lines) in let kept = length-take-le i lines (omega (arith, less)) in omega (arith, many, kept)

-- a list is what stands before a place, the item there, and the rest
pub split_here : {A : Type 0} (xs : List A) (i : ℕ) (x : A) → i < length xs → x ≡ get_or xs i x → xs ≡ take i xs ++ x ∷ drop (i + 1) xs
split_here xs i x less is = sym (take-append-drop i xs) ∙ ap (λ ys. take i xs ++ ys) (drop_more xs i x less ∙ ap (λ y. y ∷ drop (i + 1) xs) (sym is))

-- a list that was lent whole, and written
pub written_back : {A : Type 0} (xs ys : List A) (n : ℕ) → length ys ≡ length xs → n ≡ length xs → take n (ys ++ drop (length ys) xs) ≡ ys
written_back xs ys n same many =
    take-append-le n ys (drop (length ys) xs) (omega (arith, same, many)) ∙ take_all n ys (omega (arith, same, many))

-- before the first line nobody has a call
pub none_due : (t : TxNo) (a : ActorNo) → row_at a (rows_of t (replicate 256 (replicate 16 no_calls))) ≡ no_calls
none_due t a =
    ap (λ (rows : List (SeenRow Call)). row_at a rows) (get_or-replicate {A = List (SeenRow Call)} 256 (t.value - 1) (replicate 16 no_calls) [] (omega (arith, t.in_range.1)))
    ∙ get_or-replicate {A = SeenRow Call} 16 (a.value - 1) no_calls no_calls (omega (arith, a.in_range.1))

pub none_due_at_log : (a : ActorNo) → row_at {C = LogCall} a (replicate 16 no_calls) ≡ no_calls
none_due_at_log a = get_or-replicate {A = SeenRow LogCall} 16 (a.value - 1) no_calls no_calls (omega (arith, a.in_range.1))

-- the calls of one more line
pub calls_next : (s lines : List Line) (i n : ℕ) (l : Line) (a t : ℕ) (cs : List (TxNo × Call)) (old : SeenRow Call) → i < length lines → l ≡ get_or lines i l → n ≡ i
    → cs ≡ calls_by s (past_of (take i lines)) l → old ≡ unentered (calls_until s a t (past_of (take i lines)))
    → with_calls (if a == l.actor.value then all_of (due_at t (n + 1)) cs else []) old ≡ unentered (calls_until s a t (past_of (take (i + 1) lines)))
calls_next s lines i n l a t cs old less is count given was =
    let before = past_of (take i lines) in
    let number : n + 1 ≡ suc (length before) = let k = number_after lines i less in omega (arith, count, k) in
    ap (with_calls (if a == l.actor.value then all_of (due_at t (n + 1)) cs else [])) was
    ∙ ap (λ m. unentered (calls_until s a t before ++ (if a == l.actor.value then all_of (due_at t m) cs else []))) number
    ∙ ap (λ (ds : List (TxNo × Call)). unentered (calls_until s a t before ++ (if a == l.actor.value then all_of (due_at t (suc (length before))) ds else []))) given
    ∙ ap (λ (ls : List Line). unentered (calls_until s a t ls)) (sym (past_next lines i l less is))

-- and at the log
pub log_calls_next : (lines : List Line) (i n : ℕ) (l : Line) (a : ℕ) (old : SeenRow LogCall) → i < length lines → l ≡ get_or lines i l → n ≡ i
    → old ≡ unentered (log_calls_until a (past_of (take i lines)))
    → with_calls (if a == l.actor.value then put (log_due (n + 1) (log_call l.body)) [] else []) old ≡ unentered (log_calls_until a (past_of (take (i + 1) lines)))
log_calls_next lines i n l a old less is count was =
    let before = past_of (take i lines) in
    let number : n + 1 ≡ suc (length before) = let k = number_after lines i less in omega (arith, count, k) in
    ap (with_calls (if a == l.actor.value then put (log_due (n + 1) (log_call l.body)) [] else [])) was
    ∙ ap (λ m. unentered (log_calls_until a before ++ (if a == l.actor.value then put (log_due m (log_call l.body)) [] else []))) number
    ∙ ap (λ (ls : List Line). unentered (log_calls_until a ls)) (sym (past_next lines i l less is))

-- a row after its actor's call, or after another's, or after none
pub log_row_more : (a b : ActorNo) (n : ℕ) (o : Option LogCall) (c : LogCall) (old new : List (SeenRow LogCall)) → o ≡ Some c
    → row_at b new ≡ with_calls (record { line = n; call = c } ∷ []) (row_at b old) → ((x : ActorNo) → x ≢ b → row_at x new ≡ row_at x old)
    → row_at a new ≡ with_calls (if a.value == b.value then put (log_due n o) [] else []) (row_at a old)
log_row_more a b n o c old new is here others = elim (eqb_tells a.value b.value) [
  | inl k ↦
      let same : a ≡ b = same_actor a b k.1 in
      subst (λ (x : ActorNo). row_at x new ≡ with_calls (record { line = n; call = c } ∷ []) (row_at x old)) (sym same) here
      ∙ ap (λ (p : Option LogCall). with_calls (put (log_due n p) []) (row_at a old)) (sym is)
      ∙ ap (λ (t : Bool). with_calls (if t then put (log_due n o) [] else []) (row_at a old)) (sym k.0)
  | inr k ↦
      others a (λ e. k.1 (ap (λ (x : ActorNo). x.value) e)) ∙ row_same (row_at a old)
      ∙ ap (λ (t : Bool). with_calls (if t then put (log_due n o) [] else []) (row_at a old)) (sym k.0)
]

pub log_row_same : (a b : ActorNo) (n : ℕ) (o : Option LogCall) (old new : List (SeenRow LogCall)) → o ≡ None → new ≡ old
    → row_at a new ≡ with_calls (if a.value == b.value then put (log_due n o) [] else []) (row_at a old)
log_row_same a b n o old new none same =
    ap (λ (rows : List (SeenRow LogCall)). row_at a rows) same ∙ by (a.value == b.value) ∙ ap (λ (p : Option LogCall). with_calls (if a.value == b.value then put (log_due n p) [] else []) (row_at a old)) (sym none)
  where
    by : (t : Bool) → row_at a old ≡ with_calls (if t then [] else []) (row_at a old)
    by true = row_same (row_at a old)
    by false = row_same (row_at a old)
