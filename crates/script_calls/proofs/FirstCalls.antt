-- Where calls stand in order of lines, as in a replay, those of the lines before `par` come first at each place.
use Rattle.std.proofs.Common.{◌≡◌, ℕ, suc, ◌==◌, Bool, true, false, ◌&&◌, ◌||◌, List, [], ◌∷◌, ◌++◌, map, length, Option, Some, None, arith, refl, ap, sym, subst, ◌∙◌}
use Rattle.std.specs.Prelude.{nat_le, if◌then◌else◌}
use Rattle.std.proofs.lemmas.Bool.{eq-eqb, eqb-true, or_right}
use Rattle.std.proofs.lemmas.Bool.Decides.{nat_tests}
use Rattle.std.proofs.lemmas.List.Folds.{list_all-append}
use Rattle.dtx_values.specs.declared.entry.Answer.{Answer}
use Rattle.dtx_values.specs.declared.entry.Entry.{Entry}
use Rattle.dtx_values.specs.declared.entry.Entry.TheVariants.{Called}
use Rattle.dtx_values.specs.declared.number.ActorNo.{ActorNo}
use Rattle.dtx_values.specs.declared.number.TxNo.{TxNo}
use Rattle.dtx_values.specs.declared.call.Call.{Call}
use Rattle.dtx_values.specs.declared.script.Body.{Body}
use Rattle.dtx_values.specs.declared.script.Body.TheVariants.{Restart, Stop}
use Rattle.dtx_values.specs.declared.script.Line.{Line}
use Rattle.dtx_values.specs.declared.trace.Place.{Place}
use Rattle.dtx_values.specs.declared.trace.Place.TheVariants.{Transaction}
use Rattle.dtx_model.specs.Contexts.{calls_by, scope_answer, scopes_of}
use Rattle.dtx_model.specs.Replay.{at_its_context, at_log_line, due_by_line, due_calls}
use Rattle.dtx_model.specs.Traces.{Placed, calls, entries_at}
use Rattle.dtx_model.specs.Words.{all_of, always, each, onto}
use Rattle.dtx_model.proofs.Bools.{and_both, and_left, and_right}
use Rattle.script_calls.specs.FirstCalls.{are_first, comes_first, line_called}

-- each of these calls is of a line up to this one
abbrev pub are_low : ℕ → List (Place × ℕ × ActorNo) → Bool
are_low n cs = each (λ c. nat_le c.1 n) cs

-- the calls, newest first, stand in order of lines
abbrev pub in_lines : List (Place × ℕ × ActorNo) → Bool
in_lines cs = always (λ past c. are_low c.1 past) cs

-- each of these is of this line
abbrev are_of : ℕ → List (Place × ℕ × ActorNo) → Bool
are_of n cs = each (λ c. c.1 == n) cs

at_context_of : (n : ℕ) (a : ActorNo) (x : Option Answer) → are_of n (at_its_context n a x) ≡ true
at_context_of n a (Some x) = rw (eq-eqb n n refl) refl
at_context_of n a None = refl

at_log_of : (n : ℕ) (a : ActorNo) (b : Body) → are_of n (at_log_line n a b) ≡ true
at_log_of n a (Stop k i) = rw (eq-eqb n n refl) refl
at_log_of n a Restart = rw (eq-eqb n n refl) refl
at_log_of n a _ = refl

at_transactions_of : (n : ℕ) (a : ActorNo) (cs : List (TxNo × Call)) → are_of n (map (λ c. (Transaction c.0, n, a)) cs) ≡ true
at_transactions_of n a [] = refl
at_transactions_of n a (c ∷ cs) = rw (eq-eqb n n refl) (at_transactions_of n a cs)

-- the calls of a line are of that line
due_of_line : (s before : List Line) (l : Line) → are_of (suc (length before)) (due_by_line s before l) ≡ true
due_of_line s before l =
    let n = suc (length before) in
    let xs = at_its_context n l.actor (scope_answer l.body (scopes_of l.actor.value before)) in
    let ys = at_log_line n l.actor l.body in
    let zs : List (Place × ℕ × ActorNo) = map (λ c. (Transaction c.0, n, l.actor)) (calls_by s before l) in
    list_all-append (λ c. c.1 == n) (xs ++ ys) zs
    ∙ and_both (are_of n (xs ++ ys)) (are_of n zs)
    (list_all-append (λ c. c.1 == n) xs ys ∙ and_both (are_of n xs) (are_of n ys) (at_context_of n l.actor (scope_answer l.body (scopes_of l.actor.value before))) (at_log_of n l.actor l.body))
    (at_transactions_of n l.actor (calls_by s before l))

low_more : (m n : ℕ) (cs : List (Place × ℕ × ActorNo)) → nat_le m n ≡ true → are_low m cs ≡ true → are_low n cs ≡ true
low_more m n [] le k = refl
low_more m n (c ∷ cs) le k =
    let here : nat_le c.1 n ≡ true = let low = and_left (nat_le c.1 m) (are_low m cs) k in grind (arith, nat_tests) in
    and_both (nat_le c.1 n) (are_low n cs) here (low_more m n cs le (and_right (nat_le c.1 m) (are_low m cs) k))

-- calls of one line come after those of lines up to it
onto_in_lines : (n : ℕ) (past es : List (Place × ℕ × ActorNo)) → are_low n past ≡ true → in_lines past ≡ true → are_of n es ≡ true → (are_low n (onto past es) ≡ true) × (in_lines (onto past es) ≡ true)
onto_in_lines n past [] low k o = (low, k)
onto_in_lines n past (e ∷ es) low k o =
    let is : e.1 ≡ n = eqb-true e.1 n (and_left (e.1 == n) (are_of n es) o) in
    let under : are_low e.1 past ≡ true = subst (λ m. are_low m past ≡ true) (sym is) low in
    let here : nat_le e.1 n ≡ true = grind (arith, nat_tests) in
    onto_in_lines n (e ∷ past) es (and_both (nat_le e.1 n) (are_low n past) here low) (and_both (are_low e.1 past) (in_lines past) under k) (and_right (e.1 == n) (are_of n es) o)

-- the calls that the lines of a script are to write stand in order of lines
due_in_lines : (s ls : List Line) → (are_low (length ls) (due_calls s ls) ≡ true) × (in_lines (due_calls s ls) ≡ true)
due_in_lines s [] = (refl, refl)
due_in_lines s (l ∷ before) =
    let past = due_in_lines s before in
    let up : nat_le (length before) (suc (length before)) ≡ true = grind (arith, nat_tests) in
    onto_in_lines (suc (length before)) (due_calls s before) (due_by_line s before l) (low_more (length before) (suc (length before)) (due_calls s before) up past.0) past.1 (due_of_line s before l)

-- calls of lines up to this one are so at each place
low_there : (q : Place → Bool) (n : ℕ) (T : List Placed) → are_low n (calls T) ≡ true → each (λ m. nat_le m n) (all_of line_called (entries_at q T)) ≡ true
low_there q n [] k = refl
low_there q n ((p, Called m a x) ∷ T) k = by (q p) (low_there q n T (and_right (nat_le m n) (are_low n (calls T)) k))
  where
    by : (b : Bool) → each (λ m. nat_le m n) (all_of line_called (entries_at q T)) ≡ true → each (λ m. nat_le m n) (all_of line_called (if b then Called m a x ∷ entries_at q T else entries_at q T)) ≡ true
    by true ih = and_both (nat_le m n) (each (λ m. nat_le m n) (all_of line_called (entries_at q T))) (and_left (nat_le m n) (are_low n (calls T)) k) ih
    by false ih = ih
low_there q n ((p, x) ∷ T) k = by (q p) (low_there q n T k)
  where
    by : (b : Bool) → each (λ m. nat_le m n) (all_of line_called (entries_at q T)) ≡ true → each (λ m. nat_le m n) (all_of line_called (if b then x ∷ entries_at q T else entries_at q T)) ≡ true
    by true ih = ih
    by false ih = ih

-- and where all stand in order of lines, those of the lines before `par` come first at each place
first_at : (q : Place → Bool) (par : ℕ) (T : List Placed) → in_lines (calls T) ≡ true → are_first par (entries_at q T) ≡ true
first_at q par [] k = refl
first_at q par ((p, Called m a x) ∷ T) k = by (q p) (first_at q par T (and_right (are_low m (calls T)) (in_lines (calls T)) k))
  where
    by : (b : Bool) → are_first par (entries_at q T) ≡ true → are_first par (if b then Called m a x ∷ entries_at q T else entries_at q T) ≡ true
    by true ih =
        and_both (comes_first par (entries_at q T) (Called m a x)) (are_first par (entries_at q T))
        (or_right (nat_le par m) (each (λ n. nat_le n m) (all_of line_called (entries_at q T))) (low_there q m T (and_left (are_low m (calls T)) (in_lines (calls T)) k))) ih
    by false ih = ih
first_at q par ((p, x) ∷ T) k = by (q p) (first_at q par T k)
  where
    by : (b : Bool) → are_first par (entries_at q T) ≡ true → are_first par (if b then x ∷ entries_at q T else entries_at q T) ≡ true
    by true ih = ih
    by false ih = ih

pub first_by_due : (s ls : List Line) (q : Place → Bool) (par : ℕ) (T : List Placed) → calls T ≡ due_calls s ls → are_first par (entries_at q T) ≡ true
first_by_due s ls q par T is = first_at q par T (subst (λ cs. in_lines cs ≡ true) (sym is) (due_in_lines s ls).1)
