-- What a line did, by its own words.
use Rattle.std.proofs.Common.{◌≡◌, ◌<◌, ◌+◌, ℕ, zero, suc, min, Bool, true, false, List, [], ◌∷◌, length, get_or, take, slice_get, Option, Some, None, refl, sym, ap, subst, ◌∙◌, arith}
use Rattle.std.proofs.lemmas.List.{length-take}
use Rattle.dtx_values.specs.declared.Image.{Image}
use Rattle.dtx_values.specs.declared.call.Call.{Call}
use Rattle.dtx_values.specs.declared.entry.Answer.TheVariants.{Fine}
use Rattle.dtx_values.specs.declared.entry.Entry.TheVariants.{Called, LogWord}
use Rattle.dtx_values.specs.declared.entry.LogNote.TheVariants.{Armed}
use Rattle.dtx_values.specs.declared.number.ActorNo.{ActorNo}
use Rattle.dtx_values.specs.declared.number.TxNo.{TxNo}
use Rattle.dtx_values.specs.declared.scope.OpenScope.{OpenScope}
use Rattle.dtx_values.specs.declared.script.Body.{Body}
use Rattle.dtx_values.specs.declared.script.Body.TheVariants.{Stop, Restart}
use Rattle.dtx_values.specs.declared.script.Line.{Line}
use Rattle.dtx_model.specs.Words.{each, has, past_of}
use Rattle.dtx_model.specs.Calls.{call_of}
use Rattle.dtx_model.specs.Contexts.{scope_answer, scopes_of}
use Rattle.dtx_model.specs.Replay.{CallRan, LineRan, LinesRan, Reopening, after_restart, after_scope, at_the_log}
use Rattle.dtx_model.specs.Traces.{Placed}
use Rattle.dtx_model.proofs.Bools.{and_left, and_right, or_first, or_second}
use Rattle.dtx_model.proofs.Pasts.{length-past}
use Rattle.scope_context.specs.Standing.{Standing}
use Rattle.script_calls.specs.Scoped.{AreOpen, scopes_at}
use Rattle.script_calls.proofs.Openings.{after_scope-none, no_scope_call, past_next}
use Rattle.dtx_model.specs.AtLog.{is_log_line}

-- a line that neither arms a stop nor opens the log again,
line_ran : (s before : List Line) (a : ActorNo) (b : Body) (start T : List Placed) → is_log_line b ≡ false
    → CallRan s a (suc (length before)) (call_of s b) (after_scope s (suc (length before)) (record { actor = a; body = b }) (scopes_of a.value before) start) T
    → LineRan s before (record { actor = a; body = b }) start T
line_ran s before a (Stop k i) start T off did = absurd cc
line_ran s before a Restart start T off did = absurd cc
line_ran s before a _ start T off did = did

-- as one with a call of its own is,
pub own_off : (s : List Line) (b : Body) (c : TxNo × Call) → call_of s b ≡ Some c → is_log_line b ≡ false
own_off s (Stop k i) c e = absurd cc
own_off s Restart c e = absurd cc
own_off s _ c e = refl

-- and one that is neither of the two
pub other_off : (b : Body) → ((k : ℕ) (i : Image) → b ≡ Stop k i → ⊥) → (b ≡ Restart → ⊥) → is_log_line b ≡ false
other_off (Stop k i) p q = absurd (p k i refl)
other_off Restart p q = absurd (q refl)
other_off _ p q = refl

number_of : (before : List Line) (n : ℕ) → length before + 1 ≡ n → n ≡ suc (length before)
number_of before n e = omega arith

-- What a line's own call did
pub own_line : (s : List Line) (l : Line) (before : List Line) (n : ℕ) (t : TxNo) (c : Call) (T U : List Placed) → call_of s l.body ≡ Some (t, c) → length before + 1 ≡ n → CallRan s l.actor n (Some (t, c)) T U → LineRan s before l T U
own_line s l before n t c T U gives number ran =
    let k = suc (length before) in
    let xs = scopes_of l.actor.value before in
    let here : CallRan s l.actor k (Some (t, c)) T U = subst (λ m. CallRan s l.actor m (Some (t, c)) T U) (number_of before n number) ran in
    let there : CallRan s l.actor k (Some (t, c)) (after_scope s k l xs T) U =
    subst (λ (V : List Placed). CallRan s l.actor k (Some (t, c)) V U) (sym (after_scope-none s k l xs T (no_scope_call s l.body (t, c) xs gives))) here in
    line_ran s before l.actor l.body T U (own_off s l.body (t, c) gives) (subst (λ (o : Option (TxNo × Call)). CallRan s l.actor k o (after_scope s k l xs T) U) (sym gives) there)

-- what a scope line did
pub scope_line : (s : List Line) (l : Line) (before : List Line) (n : ℕ) (cs : List Standing) (T U : List Placed) → is_log_line l.body ≡ false → call_of s l.body ≡ None → length before + 1 ≡ n → AreOpen cs before
    → U ≡ after_scope s n l (scopes_at l.actor cs) T → LineRan s before l T U
scope_line s l before n cs T U off none number ties did =
    let k = suc (length before) in
    let xs = scopes_of l.actor.value before in
    let here : U ≡ after_scope s k l xs T = did ∙ (ap (λ m. after_scope s m l (scopes_at l.actor cs) T) (number_of before n number) ∙ ap (λ (ys : List OpenScope). after_scope s k l ys T) (ties l.actor)) in
    line_ran s before l.actor l.body T U off (subst (λ (o : Option (TxNo × Call)). CallRan s l.actor k o (after_scope s k l xs T) U) (sym none) here)

-- what a line did that armed a stop,
pub stop_line : (s : List Line) (l : Line) (before : List Line) (n k : ℕ) (i : Image) (T U : List Placed) → l.body ≡ Stop k i → length before + 1 ≡ n
    → U ≡ at_the_log (LogWord (Armed k i)) (at_the_log (Called n l.actor Fine) T) → LineRan s before l T U
stop_line s l before n k i T U e number did =
    subst (λ (b : Body). LineRan s before (record { actor = l.actor; body = b }) T U) (sym e)
    (did ∙ ap (λ m. at_the_log (LogWord (Armed k i)) (at_the_log (Called m l.actor Fine) T)) (number_of before n number))

-- and one that opened the log again
pub restart_line : (s : List Line) (l : Line) (before : List Line) (n : ℕ) (T U : List Placed) → l.body ≡ Restart → length before + 1 ≡ n → (x : Reopening) × (U ≡ after_restart n l.actor x T) → LineRan s before l T U
restart_line s l before n T U e number did =
    subst (λ (b : Body). LineRan s before (record { actor = l.actor; body = b }) T U) (sym e) (did.0, did.1 ∙ ap (λ m. after_restart m l.actor did.0 T) (number_of before n number))

-- None of the two is answered at a context.
pub log_no_scope : (b : Body) (xs : List OpenScope) → is_log_line b ≡ true → scope_answer b xs ≡ None
log_no_scope (Stop k i) xs e = refl
log_no_scope Restart xs e = refl
log_no_scope _ xs e = absurd cc

-- One line more was run.
pub lines_more : (s r lines : List Line) (i n : ℕ) (l : Line) (old new : List Placed) → i < length lines → l ≡ get_or lines i l → n ≡ i → r ≡ s
    → (length (past_of (take i lines)) + 1 ≡ n + 1 → LineRan r (past_of (take i lines)) l old new) → LinesRan s (past_of (take i lines)) old → LinesRan s (past_of (take (i + 1) lines)) new
lines_more s r lines i n l old new less here count same did ran =
    let before = past_of (take i lines) in
    let many : length before ≡ min i (length lines) = length-past (take i lines) ∙ length-take i lines in
    let number : length before + 1 ≡ n + 1 = omega arith in
    subst (λ (b : List Line). LinesRan s b new) (sym (past_next lines i l less here)) (old, ran, subst (λ (t : List Line). LineRan t before l old new) same (did number))

-- of a list of which none passes no item does
pub none_there : {A : Type 0} (p : A → Bool) (xs : List A) (i : ℕ) (x : A) → has p xs ≡ false → slice_get xs i ≡ Some x → p x ≡ false
none_there p [] i x k e = absurd cc
none_there p (y ∷ ys) zero x k e = let same : y ≡ x = cc in ap p (sym same) ∙ or_first (p y) (has p ys) k
none_there p (y ∷ ys) (suc i) x k e = none_there p ys i x (or_second (p y) (has p ys) k) e

-- and of one of which each passes each does
pub each_there : {A : Type 0} (p : A → Bool) (xs : List A) (i : ℕ) (x : A) → each p xs ≡ true → slice_get xs i ≡ Some x → p x ≡ true
each_there p [] i x k e = absurd cc
each_there p (y ∷ ys) zero x k e = let same : y ≡ x = cc in ap p (sym same) ∙ and_left (p y) (each p ys) k
each_there p (y ∷ ys) (suc i) x k e = each_there p ys i x (and_right (p y) (each p ys) k) e
