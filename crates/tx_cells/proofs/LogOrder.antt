-- The calls of each actor at the log, as one more is entered.
use Rattle.std.proofs.Common.{◌≡◌, ◌≢◌, ◌⊎◌, ◌≤◌, ◌<◌, ◌+◌, ◌==◌, ℕ, zero, suc, Bool, true, false, List, [], ◌∷◌, ◌++◌, length, map, take, get_or, Some, refl, sym, ap, subst, ◌∙◌, inl, inr, arith, nat_le, if◌then◌else◌}
use Rattle.std.specs.Prelude.{slice_get}
use Rattle.std.proofs.lemmas.Bool.{cases_Bool}
use Rattle.std.proofs.lemmas.Bool.Decides.{nat_tests}
use Rattle.std.proofs.lemmas.List.{map-append, take_more}
use Rattle.std.proofs.lemmas.Option.{slice_get-get_or, slice_get_within}
use Rattle.dtx_values.specs.declared.entry.Answer.{Answer}
use Rattle.dtx_values.specs.declared.entry.Entry.{Entry}
use Rattle.dtx_values.specs.declared.entry.Entry.TheVariants.{Called}
use Rattle.dtx_values.specs.declared.Image.{Image}
use Rattle.dtx_values.specs.declared.number.ActorNo.{ActorNo}
use Rattle.dtx_values.specs.declared.script.Body.{Body}
use Rattle.dtx_values.specs.declared.script.Body.TheVariants.{Stop, Restart}
use Rattle.dtx_values.specs.declared.script.Line.{Line}
use Rattle.dtx_model.specs.Grammar.{is_in_range}
use Rattle.dtx_model.specs.Words.{each, past_of, put}
use Rattle.dtx_model.proofs.Bools.{and_both, and_left, and_right}
use Rattle.dtx_model.proofs.Histories.{past_of-snoc}
use Rattle.dtx_model.proofs.Reading.{each-past}
use Rattle.dtx_values.proofs.SameNumbers.{same_actor}
use Rattle.script_calls.specs.Due.{log_call, log_calls_at, log_calls_until, log_due, log_due_by_line}
use Rattle.script_calls.specs.Prefix.{IsLogPrefix, lines_by}
use Rattle.script_calls.specs.Rows.{further, next_in, row_at}
use Rattle.script_calls.specs.SeenRow.{SeenRow}
use Rattle.script_calls.specs.declared.calls.LogCall.{LogCall}
use Rattle.script_calls.specs.declared.calls.LogCall.TheVariants.{Stop as StopCall, Restart as RestartCall}
use Rattle.script_calls.specs.declared.rows.Due.{Due}
use Rattle.tx_cells.specs.Cell.{IsThreadable}

same_number : (n : ℕ) → (n == n) ≡ true
same_number n = grind (arith, nat_tests)

-- two actors are the same, or have different numbers
by_actor : (a b : ActorNo) → (b ≡ a) ⊎ ((b.value == a.value) ≡ false)
by_actor a b = elim (cases_Bool (b.value == a.value)) [
  | inl is ↦ inl (same_actor b a (grind (arith, nat_tests)))
  | inr other ↦ inr other
]

apart : (a b : ActorNo) → (b.value == a.value) ≡ false → b ≢ a
apart a b other is =
    let same : (b.value == a.value) ≡ true = subst (λ (x : ActorNo). (b.value == x.value) ≡ true) is (same_number b.value) in let e : true ≡ false = sym same ∙ other in cc

-- two entries more
pub two_more : {E : Type 0} (xs ys zs us : List E) (x y : E) → ys ≡ xs → zs ≡ ys ++ x ∷ [] → us ≡ zs ++ y ∷ [] → past_of us ≡ y ∷ x ∷ past_of xs
two_more {E} xs ys zs us x y same first second =
    ap (λ (l : List E). past_of l) second
    ∙ (past_of-snoc zs y ∙ ap (λ l. y ∷ l) (ap (λ (l : List E). past_of l) first ∙ (past_of-snoc ys x ∙ ap (λ (l : List E). x ∷ past_of l) same)))

-- the first calls, with the next one
take_next : {X : Type 0} (xs : List X) (k : ℕ) (d : X) → slice_get xs k ≡ Some d → take (k + 1) xs ≡ take k xs ++ d ∷ []
take_next xs k d is =
    let lt : k < length xs = slice_get_within xs k d is in
    let e : get_or xs k d ≡ d = (let q = slice_get-get_or xs k d lt in cc) in
    take_more xs k d lt ∙ ap (λ x. take k xs ++ x ∷ []) e

abbrev entered_in_row : SeenRow LogCall → List ℕ
entered_in_row r = past_of (map (λ d. d.line) (take r.entered r.calls))

row_next : (r : SeenRow LogCall) (d : Due LogCall) → next_in r ≡ Some d → entered_in_row (further r) ≡ d.line ∷ entered_in_row r
row_next r d is =
    ap (λ (xs : List (Due LogCall)). past_of (map (λ x. x.line) xs)) (take_next r.calls r.entered d is)
    ∙ (ap (λ (xs : List ℕ). past_of xs) (map-append (λ (x : Due LogCall). x.line) (take r.entered r.calls) (d ∷ []))
    ∙ past_of-snoc (map (λ (x : Due LogCall). x.line) (take r.entered r.calls)) d.line)

called_own : (a : ActorNo) (n : ℕ) (x : Answer) (h : List Entry) → lines_by a.value (Called n a x ∷ h) ≡ n ∷ lines_by a.value h
called_own a n x h = rw (same_number a.value) refl

called_other : (a b : ActorNo) (n : ℕ) (x : Answer) (h : List Entry) → (b.value == a.value) ≡ false → lines_by b.value (Called n a x ∷ h) ≡ lines_by b.value h
called_other a b n x h other = rw other refl

-- The actor's next call was entered: of each actor's calls those that were entered are still the first ones.
pub prefix_next : (s : List Line) (rows after : List (SeenRow LogCall)) (h g : List Entry) (a : ActorNo) (n : ℕ) (c : LogCall) (x : Answer) → next_in (row_at a rows) ≡ Some (record { line = n; call = c }) → row_at a after ≡ further (row_at a rows)
    → ((b : ActorNo) → b ≢ a → row_at b after ≡ row_at b rows) → ((b : ℕ) → lines_by b g ≡ lines_by b (Called n a x ∷ h)) → IsLogPrefix s rows h → IsLogPrefix s after g
prefix_next s rows after h g a n c x next own others lines k = record {
  calls = λ b. elim (by_actor a b) [
    | inl is ↦ subst (λ (q : ActorNo). (row_at q after).calls ≡ log_calls_at s q.value) (sym is) (ap (λ r. r.calls) own ∙ k.calls a)
    | inr other ↦ ap (λ r. r.calls) (others b (apart a b other)) ∙ k.calls b
  ];
  entered = λ b. elim (by_actor a b) [
    | inl is ↦
        subst (λ (q : ActorNo). lines_by q.value g ≡ entered_in_row (row_at q after)) (sym is)
        (lines a.value ∙ (called_own a n x h ∙ (ap (λ ls. n ∷ ls) (k.entered a) ∙ (sym (row_next (row_at a rows) (record { line = n; call = c }) next) ∙ ap entered_in_row (sym own)))))
    | inr other ↦ lines b.value ∙ (called_other a b n x h other ∙ (k.entered b ∙ ap entered_in_row (sym (others b (apart a b other)))))
  ];
}

-- a stop at the log is one at the first device call, or at a later one
abbrev is_at_first : LogCall → Bool
is_at_first (StopCall k i) = nat_le 1 k
is_at_first RestartCall = true

due_first : (n : ℕ) (b : Body) → is_in_range b ≡ true → each (λ (d : Due LogCall). is_at_first d.call) (put (log_due n (log_call b)) []) ≡ true
due_first n (Stop k i) h = and_both (nat_le 1 k) true (and_left (nat_le 1 k) (nat_le k 99) h) refl
due_first n Restart h = refl
due_first n b h = refl

if_first : (b : Bool) (ds : List (Due LogCall)) → each (λ (d : Due LogCall). is_at_first d.call) ds ≡ true → each (λ (d : Due LogCall). is_at_first d.call) (if b then ds else []) ≡ true
if_first true ds h = h
if_first false ds h = refl

both_first : (xs ys : List (Due LogCall)) → each (λ (d : Due LogCall). is_at_first d.call) xs ≡ true → each (λ (d : Due LogCall). is_at_first d.call) ys ≡ true → each (λ (d : Due LogCall). is_at_first d.call) (xs ++ ys) ≡ true
both_first [] ys p q = q
both_first (x ∷ xs) ys p q =
    and_both (is_at_first x.call) (each (λ (d : Due LogCall). is_at_first d.call) (xs ++ ys)) (and_left (is_at_first x.call) (each (λ (d : Due LogCall). is_at_first d.call) xs) p)
    (both_first xs ys (and_right (is_at_first x.call) (each (λ (d : Due LogCall). is_at_first d.call) xs) p) q)

until_first : (a : ℕ) (before : List Line) → each (λ (l : Line). is_in_range l.body) before ≡ true → each (λ (d : Due LogCall). is_at_first d.call) (log_calls_until a before) ≡ true
until_first a [] h = refl
until_first a (l ∷ before) h =
    both_first (log_calls_until a before) (log_due_by_line a before l) (until_first a before (and_right (is_in_range l.body) (each (λ (m : Line). is_in_range m.body) before) h))
    (if_first (a == l.actor.value) (put (log_due (suc (length before)) (log_call l.body)) []) (due_first (suc (length before)) l.body (and_left (is_in_range l.body) (each (λ (m : Line). is_in_range m.body) before) h)))

each_get : (xs : List (Due LogCall)) (k : ℕ) (d : Due LogCall) → each (λ (d : Due LogCall). is_at_first d.call) xs ≡ true → slice_get xs k ≡ Some d → is_at_first d.call ≡ true
each_get [] k d h is = absurd cc
each_get (x ∷ xs) zero d h is = let e : x ≡ d = cc in subst (λ (y : Due LogCall). is_at_first y.call ≡ true) e (and_left (is_at_first x.call) (each (λ (d : Due LogCall). is_at_first d.call) xs) h)
each_get (x ∷ xs) (suc k) d h is = each_get xs k d (and_right (is_at_first x.call) (each (λ (d : Due LogCall). is_at_first d.call) xs) h) is

-- A stop that is an actor's next call is at the first device call, or at a later one.
pub stop_first : (s : List Line) (rows : List (SeenRow LogCall)) (h : List Entry) (a : ActorNo) (n k : ℕ) (i : Image) → IsThreadable s → IsLogPrefix s rows h → next_in (row_at a rows) ≡ Some (record { line = n; call = StopCall k i }) → 1 ≤ k
stop_first s rows h a n k i is order next =
    let all = until_first a.value (past_of s) (each-past (λ (l : Line). is_in_range l.body) s ∙ is.script.in_range) in
    let here : slice_get (log_calls_at s a.value) (row_at a rows).entered ≡ Some (record { line = n; call = StopCall k i }) =
    subst (λ (ds : List (Due LogCall)). slice_get ds (row_at a rows).entered ≡ Some (record { line = n; call = StopCall k i })) (order.calls a) next in
    let first : nat_le 1 k ≡ true = each_get (log_calls_at s a.value) (row_at a rows).entered (record { line = n; call = StopCall k i }) all here in
    grind (arith, nat_tests)
