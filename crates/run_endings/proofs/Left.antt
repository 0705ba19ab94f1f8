-- How many calls are left to be entered, as the caller enters them.
use Rattle.std.proofs.Common.{◌≡◌, ◌≢◌, ◌⊎◌, ℕ, ◌+◌, ◌-◌, ◌<◌, ◌≤◌, Bool, true, false, ◌&&◌, List, [], ◌∷◌, Option, Some, None, Result, Ok, Err, get_or, length, map, nat_lt, set, take, inl, inr, refl, ap, subst, sym, ◌∙◌, arith}
use Rattle.std.specs.Prelude.{IfNone, IfSome, IsSome, MatchOption, OnOk, is_some, if◌then◌else◌}
use Rattle.std.specs.List.{sum_by}
use Rattle.std.proofs.lemmas.List.Sums.{get_or-le-sum_by, sum_by-cons, sum_by-set, sum_by_more}
use Rattle.std.proofs.lemmas.Option.{slice_get_cases, slice_get_read}
use Rattle.std.proofs.lemmas.Bool.Decides.{nat_tests}
use Rattle.dtx_values.specs.declared.call.Call.{Call}
use Rattle.dtx_values.specs.declared.number.ActorNo.{ActorNo}
use Rattle.dtx_model.specs.Words.{each}
use Rattle.dtx_values.proofs.SameNumbers.{same_actor}
use Rattle.history_table.proofs.Tests.{eq_self}
use Rattle.script_calls.specs.declared.calls.LogCall.{LogCall}
use Rattle.script_calls.specs.declared.rows.Due.{Due}
use Rattle.script_calls.specs.Rows.{are_entered, further, next_in, row_at}
use Rattle.script_calls.specs.SeenRow.{SeenRow}
use Rattle.tx_cells.specs.Cell.{Cell}
use Rattle.tx_cells.specs.Entering.{next_of}
use Rattle.tx_cells.specs.LogAnswers.{put_off_at_log}
use Rattle.tx_cells.specs.LogCell.{LogCell}
use Rattle.tx_cells.specs.LogEntering.{next_at_log}
use Rattle.tx_cells.specs.declared.turns.Turned.TheVariants.{NotNext}
use Rattle.run_endings.specs.Finishing.{HaveSameCalls, IsDueAt, left_among, left_in, left_of}

-- a row with no next call has none left,
pub none_left_in : {C : Type 0} (r : SeenRow C) → next_in r ≡ None → left_in r ≡ 0
none_left_in r none = elim (slice_get_cases r.calls r.entered).1 [
  | inl x ↦ let clash : Some x.0 ≡ None = sym x.2 ∙ none in absurd (cc)
  | inr x ↦ let most = x.0 in omega (arith, most)
]

-- and so has no next call one that has none left
pub no_next_in : {C : Type 0} (r : SeenRow C) → left_in r ≡ 0 → next_in r ≡ None
no_next_in r none = elim (slice_get_cases r.calls r.entered).1 [
  | inl x ↦ let less = x.1 in absurd (omega (arith, less, none))
  | inr x ↦ x.1
]

-- the next one was entered
pub one_less_in : {C : Type 0} (r q : SeenRow C) → IsSome (next_in r) → q ≡ further r → left_in q + 1 ≡ left_in r
one_less_in r q some e = elim (slice_get_cases r.calls r.entered).1 [
  | inl x ↦ let less = x.1 in ap (λ (y : SeenRow _). left_in y + 1) e ∙ omega (arith, less)
  | inr x ↦ let no : false ≡ true = sym (ap is_some x.1) ∙ some in absurd (cc)
]

-- where this is the actor's next call, a call at a place is one less,
pub set_less : (a : ActorNo) (cells : List Cell) (i : ℕ) (x y : Cell) → i < length cells → x ≡ get_or cells i x → left_in (row_at a y.rows) + 1 ≡ left_in (row_at a x.rows)
    → left_among a (set cells i y) + 1 ≡ left_among a cells
set_less a cells i x y less here one =
    let f : Cell → ℕ = λ c. left_in (row_at a c.rows) in
    let sum = sum_by-set f cells i y x less in
    let at : f (get_or cells i x) ≡ f x = ap f (sym here) in
    omega (arith, sum, at, one)

-- and else as many as before
pub set_same : (a : ActorNo) (cells : List Cell) (i : ℕ) (x y : Cell) → i < length cells → x ≡ get_or cells i x → left_in (row_at a y.rows) ≡ left_in (row_at a x.rows) → left_among a (set cells i y) ≡ left_among a cells
set_same a cells i x y less here same =
    let f : Cell → ℕ = λ c. left_in (row_at a c.rows) in
    let sum = sum_by-set f cells i y x less in
    let at : f (get_or cells i x) ≡ f x = ap f (sym here) in
    omega (arith, sum, at, same)

-- where an actor has no call left, it has no next one at any place
pub no_next : (a : ActorNo) (cells : List Cell) (i : ℕ) (x : Cell) → left_among a cells ≡ 0 → i < length cells → x ≡ get_or cells i x → next_of a x ≡ None
no_next a cells i x none less here =
    let f : Cell → ℕ = λ c. left_in (row_at a c.rows) in
    let most = get_or-le-sum_by f cells i x less in
    let at : f (get_or cells i x) ≡ f x = ap f (sym here) in
    no_next_in (row_at a x.rows) (omega (arith, most, at, none))

-- and none at the log
pub no_next_at_log : {D : Type 0} (a : ActorNo) (cells : List Cell) (log : LogCell D) → left_of a cells log ≡ 0 → next_at_log a log ≡ None
no_next_at_log a cells log none = no_next_in (row_at a log.rows) (omega (arith, none))

-- one actor more has no call left, and those before it have none still
pub none_more : {D : Type 0} (n : ℕ) (a : ActorNo) (cells mid : List Cell) (log to : LogCell D) → a.value ≡ n → ((b : ActorNo) → b.value < n → left_of b cells log ≡ 0) → left_of a mid to ≡ 0
    → ((b : ActorNo) → b ≢ a → left_of b mid to ≡ left_of b cells log) → (b : ActorNo) → b.value < n + 1 → left_of b mid to ≡ 0
none_more n a cells mid log to at before done others b less = by (nat_lt b.value n) refl
  where
    by : (q : Bool) → nat_lt b.value n ≡ q → left_of b mid to ≡ 0
    by true e =
        let low : b.value < n = grind (arith, nat_tests) in
        others b (λ (s : b ≡ a). let v : b.value ≡ n = ap (λ (x : ActorNo). x.value) s ∙ at in absurd (omega (arith, low, v))) ∙ before b low
    by false e =
        let v : b.value ≡ n = grind (arith, nat_tests) in
        subst (λ (x : ActorNo). left_of x mid to ≡ 0) (sym (same_actor b a (v ∙ sym at))) done

-- The best place among the first ones: the actor has a next call there; where there is none, it has none left at them.
pub record IsBest (a : ActorNo) (cells : List Cell) (i : ℕ) (best : Option (ℕ × ℕ)) : Type 0 where
  pub there : IfSome best (λ x. IsDueAt a cells x.0)
  pub none : IfNone best (left_among a (take i cells) ≡ 0)

best_there : (a : ActorNo) (cells : List Cell) (i : ℕ) (x : Cell) (d : Due Call) → i < length cells → x ≡ get_or cells i x → next_of a x ≡ Some d → IsDueAt a cells i
best_there a cells i x d less here next = (x, slice_get_read cells (length cells) i x refl less here, ap is_some next)

pub best_more : (a : ActorNo) (cells : List Cell) (i : ℕ) (x : Cell) (best new : Option (ℕ × ℕ)) → i < length cells → x ≡ get_or cells i x
    → ((new ≡ best) ⊎ ((d : Due Call) × (next_of a x ≡ Some d) × (new ≡ Some (i, d.line)))) → (IsSome (next_of a x) → IsSome new) → (IsSome best → IsSome new) → IsBest a cells i best → IsBest a cells (i + 1) new
best_more a cells i x best new less here either some kept was = record { there = there either; none = none best new refl refl (next_of a x) refl }
  where
    there : ((new ≡ best) ⊎ ((d : Due Call) × (next_of a x ≡ Some d) × (new ≡ Some (i, d.line)))) → IfSome new (λ y. IsDueAt a cells y.0)
    there (inl e) = subst (λ (o : Option (ℕ × ℕ)). IfSome o (λ y. IsDueAt a cells y.0)) (sym e) was.there
    there (inr d) = subst (λ (o : Option (ℕ × ℕ)). IfSome o (λ y. IsDueAt a cells y.0)) (sym d.2) (best_there a cells i x d.0 less here d.1)

    none : (b o : Option (ℕ × ℕ)) → best ≡ b → new ≡ o → (n : Option (Due Call)) → next_of a x ≡ n → IfNone new (left_among a (take (i + 1) cells) ≡ 0)
    none b (Some y) eb eo n en = subst (λ (o : Option (ℕ × ℕ)). IfNone o (left_among a (take (i + 1) cells) ≡ 0)) (sym eo) tt
    none (Some y) None eb eo n en = let is = kept (ap is_some eb) in let not = ap is_some eo in let clash : true ≡ false = sym is ∙ not in absurd (cc)
    none None None eb eo (Some d) en = let is = some (ap is_some en) in let not = ap is_some eo in let clash : true ≡ false = sym is ∙ not in absurd (cc)
    none None None eb eo None en =
        let f : Cell → ℕ = λ c. left_in (row_at a c.rows) in
        let before : left_among a (take i cells) ≡ 0 = subst (λ (o : Option (ℕ × ℕ)). IfNone o (left_among a (take i cells) ≡ 0)) eb was.none in
        let more = sum_by_more f cells i x less in
        let at : f (get_or cells i x) ≡ f x = ap f (sym here) in
        let here_none : f x ≡ 0 = none_left_in (row_at a x.rows) en in
        let all : left_among a (take (i + 1) cells) ≡ 0 = omega (arith, before, more, at, here_none) in
        subst (λ (o : Option (ℕ × ℕ)). IfNone o (left_among a (take (i + 1) cells) ≡ 0)) (sym eo) all

-- the best place is there where a line isn't before its line
pub some_best : (best : Option (ℕ × ℕ)) (least : Option ℕ) (b : Bool) (line : ℕ) → MatchOption best (least ≡ None) (λ x. least ≡ Some x.1) → MatchOption least (b ≡ true) (λ n. b ≡ nat_lt line n) → b ≡ false → IsSome best
some_best (Some x) least b line of lower not = refl
some_best None least b line of lower not =
    let is : b ≡ true = subst (λ (o : Option ℕ). MatchOption o (b ≡ true) (λ n. b ≡ nat_lt line n)) of lower in
    let clash : true ≡ false = sym is ∙ not in
    absurd (cc)

-- the call that an actor has next at the log isn't put off
pub not_put_off : (o : Option (Due LogCall)) (d : Due LogCall) → o ≡ Some d → put_off_at_log d.line o ≡ None
not_put_off o d e =
    ap (put_off_at_log d.line) e ∙ ap (λ (b : Bool). if b then None else Some (NotNext d.line)) (eq_self d.line)

-- what follows from P where there is no error
pub on_ok : {A E P Q : Type 0} (r : Result A E) → (P → Q) → OnOk r P → OnOk r Q
on_ok (Ok x) f p = f p
on_ok (Err e) f p = p

-- the same calls are left where the same were entered
pub same_left : (a : ActorNo) (old new : List Cell) → HaveSameCalls old new → left_among a new ≡ left_among a old
same_left a [] [] e = refl
same_left a [] (y ∷ ys) e = absurd (cc)
same_left a (x ∷ xs) [] e = absurd (cc)
same_left a (x ∷ xs) (y ∷ ys) e =
    let f : Cell → ℕ = λ c. left_in (row_at a c.rows) in
    let both : y.rows ∷ map (λ (c : Cell). c.rows) ys ≡ x.rows ∷ map (λ (c : Cell). c.rows) xs = e in
    let here : y.rows ≡ x.rows = cc in
    let rest : HaveSameCalls xs ys = cc in
    let same : f y ≡ f x = ap (λ rs. left_in (row_at a rs)) here in
    let more = same_left a xs ys rest in
    sum_by-cons f y ys ∙ (ap (λ n. n + left_among a ys) same ∙ (ap (λ n. f x + n) more ∙ sym (sum_by-cons f x xs)))

-- and at the log too
pub same_left_of : {D : Type 0} (a : ActorNo) (old new : List Cell) (from to : LogCell D) → HaveSameCalls old new → to.rows ≡ from.rows → left_of a new to ≡ left_of a old from
same_left_of a old new from to calls rows =
    let cells = same_left a old new calls in
    let at_log : left_in (row_at a to.rows) ≡ left_in (row_at a from.rows) = ap (λ (rs : List (SeenRow LogCall)). left_in (row_at a rs)) rows in
    omega (arith, cells, at_log)

-- a test of what is kept of each item
each_map : {A B : Type 0} (f : A → B) (p : B → Bool) (xs : List A) → each (λ x. p (f x)) xs ≡ each p (map f xs)
each_map f p [] = refl
each_map f p (x ∷ xs) = ap (λ b. p (f x) && b) (each_map f p xs)

-- where each call was entered, and the same are still, each is
pub still_entered : (old new : List Cell) → HaveSameCalls old new → each (λ c. are_entered c.rows) old ≡ true → each (λ c. are_entered c.rows) new ≡ true
still_entered old new same all =
    let rows : Cell → List (SeenRow Call) = λ c. c.rows in
    each_map rows are_entered new ∙ (ap (each are_entered) same ∙ (sym (each_map rows are_entered old) ∙ all))

-- what follows from three facts where there is no error
pub all_ok : {A E P Q R S : Type 0} (r : Result A E) → (P → Q → R → S) → OnOk r P → OnOk r Q → OnOk r R → OnOk r S
all_ok (Ok x) f p q r = f p q r
all_ok (Err e) f p q r = p

-- two facts where there is no error
pub both_ok : {A E : Type 0} (P Q : Type 0) (r : Result A E) → OnOk r P → OnOk r Q → OnOk r (P × Q)
both_ok P Q (Ok x) p q = (p, q)
both_ok P Q (Err e) p q = p
