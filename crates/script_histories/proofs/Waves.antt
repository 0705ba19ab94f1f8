-- The waves of a history: by its row, an enlistment waits for the votes of those that were asked to prepare before it came.
use Rattle.std.proofs.Common.{◌≡◌, ℕ, ◌==◌, ◌<◌, ◌≤◌, suc, Bool, true, false, ◌&&◌, ◌||◌, List, [], ◌∷◌, Option, Some, None, map}
use Rattle.std.proofs.Common.{refl, ◌∙◌, ap, subst, sym, arith}
use Rattle.std.specs.Prelude.{is_some, not, if◌then◌else◌}
use Rattle.std.proofs.lemmas.Bool.{eqb-true}
use Rattle.std.proofs.lemmas.Bool.Decides.{nat_tests}
use Rattle.dtx_values.specs.declared.entry.Ask.TheVariants.{Prepare}
use Rattle.dtx_values.specs.declared.entry.Entry.{Entry}
use Rattle.dtx_values.specs.declared.entry.Entry.TheVariants.{Enlisted, Asked, Voted}
use Rattle.dtx_values.specs.declared.words.Vote.{Vote}
use Rattle.dtx_values.specs.Row.{is_of, is_marked, is_asked_before, number_of, fresh_row, unless_there, mark_row, vote_row}
use Rattle.dtx_values.specs.declared.row.Row.{Row}
use Rattle.dtx_values.specs.Table.{marks}
use Rattle.dtx_model.specs.Words.{has, each, all_of}
use Rattle.dtx_model.specs.Observed.{rows}
use Rattle.dtx_model.specs.Seen.{asked_of, asked_before}
use Rattle.dtx_model.proofs.Bools.{and_swap}
use Rattle.dtx_model.proofs.Counts.{how_many-map}
use Rattle.history_table.proofs.Lists.{OfEach, of-map, of-insert, each_kept, if_kept, each-insert}
use Rattle.script_histories.proofs.MoreLists.{of-both, of-has, how_many-insert}
use Rattle.script_histories.proofs.Rule.{ruled, first_rule, other_rules}
use Rattle.history_table.proofs.TableRows.{enlisted_in_rows, there}
use Rattle.script_histories.proofs.RuledRows.{asked_enlisted}

-- the row as it is after an ask to prepare of this enlistment, after so many marks
abbrev pub marked : ℕ → ℕ → Row → Row
marked e n x = if is_of e x then (mark_row n x) else x

-- a row that is marked passes v by its number
abbrev pub passes_marked : (ℕ → Bool) → Row → Bool
passes_marked v q = not (is_marked q) || v q.number.value

-- a row with one of the first n marks passes v by its number
abbrev pub passes_before : ℕ → (ℕ → Bool) → Row → Bool
passes_before n v q = not (is_asked_before q.asked n) || v q.number.value

-- one step of `each-marked`
marked_step : (h m w rest : Bool) → (w && ((not h || w) && rest)) ≡ (w && ((not m || w) && rest))
marked_step true true true rest = refl
marked_step true false true rest = refl
marked_step false true true rest = refl
marked_step false false true rest = refl
marked_step h m false rest = refl

-- after an ask to prepare, each marked row passes v where the asked one passes, if it stands there, and each marked row passed before
pub each-marked : (e n : ℕ) (v : ℕ → Bool) (xs : List Row) → each (passes_marked v) (map (marked e n) xs) ≡ ((not (has (is_of e) xs) || v e) && each (passes_marked v) xs)
each-marked e n v [] = refl
each-marked e n v (x ∷ xs) =
    ap (λ b. passes_marked v (marked e n x) && b) (each-marked e n v xs) ∙ step e n v x (has (is_of e) xs) (each (passes_marked v) xs) (is_of e x) refl
  where
    step : (e n : ℕ) (v : ℕ → Bool) (x : Row) (h rest b : Bool) → (e == x.number.value) ≡ b
        → (passes_marked v (if b then (mark_row n x) else x) && ((not h || v e) && rest)) ≡ ((not (b || h) || v e) && (passes_marked v x && rest))
    step e n v x h rest true same =
        let number : e ≡ x.number.value = eqb-true e x.number.value same in rw (there x.asked n, ← number) (marked_step h (is_marked x) (v e) rest)
    step e n v x h rest false other = and_swap (passes_marked v x) (not h || v e) rest

-- each marked row passes v where each that was asked to prepare does
all_asked : (v : ℕ → Bool) (h : List Entry) → ruled h ≡ true → each (passes_marked v) (rows h) ≡ each (λ f. v f.value) (all_of asked_of h)
all_asked v [] r = refl
all_asked v (Enlisted e c ∷ h) r =
    each-insert (passes_marked v) number_of (fresh_row e c (marks (rows h))) (rows h) ∙ all_asked v h (other_rules (Enlisted e c) h r)
all_asked v (Asked e Prepare ∷ h) r =
    let stands : has (is_of e.value) (rows h) ≡ true = enlisted_in_rows e.value h ∙ asked_enlisted e h (first_rule (Asked e Prepare) h r) in
    each-marked e.value (marks (rows h)) v (rows h) ∙ ap (λ b. (not b || v e.value) && each (passes_marked v) (rows h)) stands
    ∙ ap (λ b. v e.value && b) (all_asked v h (other_rules (Asked e Prepare) h r))
all_asked v (Voted e w ∷ h) r =
    each_kept (passes_marked v) (λ x. if is_of e.value x then (vote_row w x) else x)
    (λ x. if_kept (passes_marked v) (is_of e.value x) (vote_row w x) x refl) (rows h) ∙ all_asked v h (other_rules (Voted e w) h r)
all_asked v (x ∷ h) r = all_asked v h (other_rules x h r)

-- the marks that stand keep standing
pub marks_more : (e n : ℕ) (xs : List Row) → marks xs ≤ marks (map (marked e n) xs)
marks_more e n [] = omega arith
marks_more e n (x ∷ xs) = step (is_of e x) x n (marks xs) (marks (map (marked e n) xs)) (marks_more e n xs)
  where
    count : (o : Option ℕ) (n a b : ℕ) → a ≤ b → (if is_some o then suc a else a) ≤ (if is_some (unless_there o n) then suc b else b)
    count (Some k) n a b h = omega arith
    count None n a b h = omega arith

    same : (t : Bool) (a b : ℕ) → a ≤ b → (if t then suc a else a) ≤ (if t then suc b else b)
    same true a b h = omega arith
    same false a b h = h

    step : (t : Bool) (x : Row) (n a b : ℕ) → a ≤ b → (if is_marked x then suc a else a) ≤ (if is_marked (if t then (mark_row n x) else x) then suc b else b)
    step true x n a b h = count x.asked n a b h
    step false x n a b h = same (is_marked x) a b h

-- the row is of this enlistment, and unmarked
abbrev pub is_unmarked : ℕ → Row → Bool
is_unmarked e x = is_of e x && not (is_marked x)

-- where the one that is asked wasn't marked, one mark more stands
marks_above : (e n : ℕ) (xs : List Row) → has (is_unmarked e) xs ≡ true → marks xs < marks (map (marked e n) xs)
marks_above e n [] h = absurd cc
marks_above e n (x ∷ xs) h =
    step (is_of e x) x n (marks xs) (marks (map (marked e n) xs)) (has (is_unmarked e) xs) (marks_more e n xs) (marks_above e n xs) h
  where
    count : (o : Option ℕ) (n a b : ℕ) (rest : Bool) → a ≤ b → (rest ≡ true → a < b) → (not (is_some o) || rest) ≡ true
        → (if is_some o then suc a else a) < (if is_some (unless_there o n) then suc b else b)
    count (Some k) n a b rest l ih h = let more = ih h in omega arith
    count None n a b rest l ih h = omega arith

    same : (t : Bool) (a b : ℕ) → a < b → (if t then suc a else a) < (if t then suc b else b)
    same true a b h = omega arith
    same false a b h = h

    step : (t : Bool) (x : Row) (n a b : ℕ) (rest : Bool) → a ≤ b → (rest ≡ true → a < b) → ((t && not (is_marked x)) || rest) ≡ true
        → (if is_marked x then suc a else a) < (if is_marked (if t then (mark_row n x) else x) then suc b else b)
    step true x n a b rest l ih h = count x.asked n a b rest l ih h
    step false x n a b rest l ih h = same (is_marked x) a b (ih h)

-- the row's mark, where it has one, is below n
abbrev pub IsBelow : ℕ → Row → Type 0
IsBelow n q = is_asked_before q.asked n ≡ is_marked q

-- a row whose mark is below n, after an ask to prepare, after which m stand: it is below m
asked_below : (n m : ℕ) (x : Row) (b : Bool) → n ≤ m → ((b && not (is_marked x)) ≡ true → n < m) → IsBelow n x → IsBelow m (if b then (mark_row n x) else x)
asked_below n m x true l more w = mark x.asked n m l more w
  where
    mark : (o : Option ℕ) (n m : ℕ) → n ≤ m → (not (is_some o) ≡ true → n < m) → is_asked_before o n ≡ is_some o
        → is_asked_before (unless_there o n) m ≡ is_some (unless_there o n)
    mark (Some k) n m l more w = grind (arith, nat_tests)
    mark None n m l more w = let above : n < m = more refl in grind (arith, nat_tests)
asked_below n m x false l more w = mark x.asked n m l w
  where
    mark : (o : Option ℕ) (n m : ℕ) → n ≤ m → is_asked_before o n ≡ is_some o → is_asked_before o m ≡ is_some o
    mark (Some k) n m l w = grind (arith, nat_tests)
    mark None n m l w = refl

-- each mark is below their number
pub marks_below : (h : List Entry) → OfEach (IsBelow (marks (rows h))) (rows h)
marks_below [] = tt
marks_below (Enlisted e c ∷ h) =
    let n = marks (rows h) in
    let kept : marks (rows (Enlisted e c ∷ h)) ≡ n = how_many-insert is_marked number_of (fresh_row e c n) refl (rows h) in
    subst (λ m. OfEach (IsBelow m) (rows (Enlisted e c ∷ h))) (sym kept) (of-insert (IsBelow n) number_of (fresh_row e c n) refl (rows h) (marks_below h))
marks_below (Asked e Prepare ∷ h) =
    let n = marks (rows h) in
    let m = marks (rows (Asked e Prepare ∷ h)) in
    of-map (λ x. IsBelow n x × (is_unmarked e.value x ≡ true → has (is_unmarked e.value) (rows h) ≡ true)) (IsBelow m) (marked e.value n)
    (λ x w. asked_below n m x (is_of e.value x) (marks_more e.value n (rows h)) (λ k. marks_above e.value n (rows h) (w.1 k)) w.0) (rows h)
    (of-both (IsBelow n) (λ x. is_unmarked e.value x ≡ true → has (is_unmarked e.value) (rows h) ≡ true) (rows h) (marks_below h) (of-has (is_unmarked e.value) (rows h)))
marks_below (Voted e v ∷ h) =
    let n = marks (rows h) in
    let f = λ (x : Row). if is_of e.value x then (vote_row v x) else x in
    let kept : marks (map f (rows h)) ≡ n = how_many-map is_marked f (λ x. if_kept is_marked (is_of e.value x) (vote_row v x) x refl) (rows h) in
    subst (λ m. OfEach (IsBelow m) (map f (rows h))) (sym kept)
    (of-map (IsBelow n) (IsBelow n) f (λ x w. voted_below n v x (is_of e.value x) w) (rows h) (marks_below h))
  where
    voted_below : (n : ℕ) (v : Vote) (x : Row) (b : Bool) → IsBelow n x → IsBelow n (if b then (vote_row v x) else x)
    voted_below n v x true w = w
    voted_below n v x false w = w
marks_below (x ∷ h) = marks_below h

-- the row was added after at most the marks that stand, and waits for those that were asked before its enlistment came
pub record IsWave (h : List Entry) (x : Row) : Type 0 where
  pub behind : x.added ≤ marks (rows h)
  pub waits : (v : ℕ → Bool) → each (passes_before x.added v) (rows h) ≡ each (λ f. v f.value) (asked_before x.number.value h)

-- a mark after n others isn't one of the first n
later_mark : (a n : ℕ) (o : Option ℕ) → a ≤ n → is_asked_before (unless_there o n) a ≡ is_asked_before o a
later_mark a n (Some k) l = refl
later_mark a n None l = grind (arith, nat_tests)

-- after an ask to prepare, those that are marked before stay the same
pub asked_kept : (e n a : ℕ) (v : ℕ → Bool) (x : Row) → a ≤ n → passes_before a v (marked e n x) ≡ passes_before a v x
asked_kept e n a v x l = if_kept (passes_before a v) (is_of e x) (mark_row n x) x (ap (λ b. not b || v x.number.value) (later_mark a n x.asked l))

-- a wave is a wave of the row after an ask or a vote
pub own_wave : (h : List Entry) (b : Bool) (y x : Row) → y.number ≡ x.number → y.added ≡ x.added → IsWave h x → IsWave h (if b then y else x)
own_wave h true y x same_name same_place w =
    record {
      behind = subst (λ n. n ≤ marks (rows h)) (sym same_place) w.behind;
      waits = λ v. ap (λ n. each (passes_before n v) (rows h)) same_place ∙ w.waits v ∙ ap (λ e. each (λ f. v f.value) (asked_before e.value h)) (sym same_name);
    }
own_wave h false y x same_name same_place w = w
