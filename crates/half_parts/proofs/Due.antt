-- The replies that are due: where none may be, and which is the first.
use Rattle.std.proofs.Common.{◌≡◌, ◌≤◌, ◌<◌, ◌-◌, ◌==◌, ℕ, zero, suc, true, false, not, List, [], ◌∷◌, map, find, drop, Option, Some, None, is_some, ◌||◌, ◌&&◌, Bool, cond, if◌then◌else◌, nat_le, nat_lt, slice_get, refl, ap, sym, subst, arith, ◌∙◌}
use Rattle.std.specs.List.{cons_option, filter_map}
use Rattle.std.proofs.lemmas.Bool.Decides.{nat_tests}
use Rattle.dtx_values.specs.declared.message.Conn.{Conn}
use Rattle.dtx_values.specs.declared.note.Note.{Note}
use Rattle.dtx_values.specs.declared.note.Note.TheVariants.{Prepare, Promote as PromoteNote, Hand, Single}
use Rattle.dtx_values.specs.declared.note.Reply.TheVariants.{Vote as VoteReply}
use Rattle.dtx_values.specs.declared.words.Vote.{Vote}
use Rattle.dtx_values.specs.declared.number.EnlNo.{EnlNo}
use Rattle.dtx_values.specs.declared.row.Row.{Row}
use Rattle.dtx_values.specs.Row.{has_voted, is_marked, is_of, number_of}
use Rattle.dtx_values.specs.Table.{enl_number, insert_by, rises_above, was_asked}
use Rattle.dtx_model.specs.declared.branch.Branch.{Branch}
use Rattle.dtx_model.specs.Observed.{Observed, is_branch}
use Rattle.dtx_model.specs.Words.{has, kth, or_else}
use Rattle.dtx_model.specs.Half.{is_gone, is_handed}
use Rattle.dtx_model.specs.Replies.{all_due, conn_due, due_conn, due_of, fits, may_still_vote, names, note_at, note_of_conn, note_of_row, owes_outcome, owes_promotion, owes_request, row_note, with_name, with_names, with_note}
use Rattle.dtx_model.proofs.Bools.{and_both, and_left, and_right, or_case, or_first, or_second}
use Rattle.enlist_table.specs.Waiting.{is_waiting}
use Rattle.half_parts.specs.Half.{first_due, lower, may_owe, owes_ack, owes_more}

-- what is found fails a test that none passes
found_fails : {A : Type 0} (p q : A → Bool) (xs : List A) (x : A) → find p xs ≡ Some x → has q xs ≡ false → q x ≡ false
found_fails p q [] x f k = absurd (cc)
found_fails p q (y ∷ ys) x f k = step (p y) f (λ g. found_fails p q ys x g (or_second (q y) (has q ys) k))
  where
    step : (b : Bool) → cond b (Some y) (find p ys) ≡ Some x → (find p ys ≡ Some x → q x ≡ false) → q x ≡ false
    step true g ih = let same : y ≡ x = cc in subst (λ z. q z ≡ false) same (or_first (q y) (has q ys) k)
    step false g ih = ih g

-- what is found passes a test that each found passes
pub found_both : {A : Type 0} (p q : A → Bool) (xs : List A) (x : A) → find p xs ≡ Some x → q x ≡ true → has (λ y. p y && q y) xs ≡ true
found_both p q [] x f k = absurd (cc)
found_both p q (y ∷ ys) x f k = step (p y) f (λ g. found_both p q ys x g k)
  where
    step : (b : Bool) → cond b (Some y) (find p ys) ≡ Some x → (find p ys ≡ Some x → has (λ z. p z && q z) ys ≡ true) → ((b && q y) || has (λ z. p z && q z) ys) ≡ true
    step true g ih = let same : y ≡ x = cc in rw (same, k) refl
    step false g ih = ih g

unhanded : (f : Option EnlNo) (e : ℕ) → is_some f ≡ false → is_handed f e ≡ false
unhanded None e k = refl
unhanded (Some f) e k = absurd (cc)

-- where votes alone may be due, none is due of a row that isn't waited for, and none to a commit
module _ (o : Observed) (k : owes_more o ≡ false) where
  parts : (is_some o.handed ≡ false) × ((o.promote_asked && not o.promote_replied) ≡ false) × ((o.single_asked && not o.requested) ≡ false) × (has owes_ack o.branches ≡ false)
  parts =
      let a = is_some o.handed in
      let b = o.promote_asked && not o.promote_replied in
      let c = o.single_asked && not o.requested in
      let d = has owes_ack o.branches in
      let three = or_first ((a || b) || c) d k in
      let two = or_first (a || b) c three in
      (or_first a b two, or_second a b two, or_second (a || b) c three, or_second ((a || b) || c) d k)

  no_note : (x : Row) → is_waiting x ≡ false → row_note o x ≡ None
  no_note x unvoted =
      let outcome = unhanded o.handed x.number.value parts.0 in
      rw (unvoted, parts.1, outcome, parts.2) refl

  conn_none : (c : Option Conn) → is_some c ≡ false → note_of_conn c ≡ None
  conn_none None i = refl
  conn_none (Some c) i = absurd (cc)

  ack_due : (e : ℕ) (b : Option Branch) → find (is_branch e) o.branches ≡ b → note_of_conn (due_conn b) ≡ None
  ack_due e None f = refl
  ack_due e (Some b) f = conn_none b.due (found_fails (is_branch e) owes_ack o.branches b f parts.3)

  no_reply : (e : ℕ) (x : Option Row) → note_of_row o x ≡ None → note_at o e x ≡ None
  no_reply e x none = by (is_gone o e)
    where
      by : (g : Bool) → (if g then None else or_else (note_of_row o x) (note_of_conn (due_conn (find (is_branch e) o.branches)))) ≡ None
      by true = refl
      by false = rw (none, ack_due e (find (is_branch e) o.branches) refl) refl

-- such a row
pub quiet_row : (o : Observed) → owes_more o ≡ false → (x : Row) → is_waiting x ≡ false → note_at o x.number.value (Some x) ≡ None
quiet_row o k x unvoted = no_reply o k x.number.value (Some x) (no_note o k x unvoted)

-- where none may be due, none is
module _ (o : Observed) (k : may_owe o ≡ false) where
  note_due : (e : ℕ) (x : Option Row) → find (is_of e) o.table ≡ x → note_of_row o x ≡ None
  note_due e None f = refl
  note_due e (Some x) f = no_note o (or_second (has is_waiting o.table) (owes_more o) k) x (found_fails (is_of e) is_waiting o.table x f (or_first (has is_waiting o.table) (owes_more o) k))

  none_of : (e : ℕ) → due_of o e ≡ None
  unfolding due_of
  none_of e = no_reply o (or_second (has is_waiting o.table) (owes_more o) k) e (find (is_of e) o.table) (note_due e (find (is_of e) o.table) refl)

  none_in : (es : List EnlNo) → filter_map (λ (e : EnlNo). with_note e (due_of o e.value)) es ≡ []
  none_in [] = refl
  none_in (e ∷ es) = ap (λ (n : Option Note). cons_option (with_note e n) (filter_map (λ (f : EnlNo). with_note f (due_of o f.value)) es)) (none_of e.value) ∙ none_in es

pub none_due : (o : Observed) → may_owe o ≡ false → all_due o ≡ []
unfolding all_due
none_due o k = none_in o k (names o)

-- numbers in order from n on
abbrev pub numbers_from : ℕ → List EnlNo → Bool
numbers_from n [] = true
numbers_from n (e ∷ es) = nat_le n e.value && numbers_from e.value es

from_lower : (m n : ℕ) (es : List EnlNo) → m ≤ n → numbers_from n es ≡ true → numbers_from m es ≡ true
from_lower m n [] le k = refl
from_lower m n (e ∷ es) le k =
    let first = and_left (nat_le n e.value) (numbers_from e.value es) k in
    let low : nat_le m e.value ≡ true = grind (arith, nat_tests) in
    and_both (nat_le m e.value) (numbers_from e.value es) low (and_right (nat_le n e.value) (numbers_from e.value es) k)

from_insert : (n : ℕ) (e : EnlNo) (es : List EnlNo) → n ≤ e.value → numbers_from n es ≡ true → numbers_from n (insert_by enl_number e es) ≡ true
from_insert n e [] le k = let low : nat_le n e.value ≡ true = grind (arith, nat_tests) in rw low refl
from_insert n e (f ∷ es) le k = step (nat_lt f.value e.value) refl (λ up. from_insert f.value e es up (and_right (nat_le n f.value) (numbers_from f.value es) k))
  where
    step : (b : Bool) → nat_lt f.value e.value ≡ b → (f.value ≤ e.value → numbers_from f.value (insert_by enl_number e es) ≡ true) → numbers_from n (if b then f ∷ insert_by enl_number e es else e ∷ f ∷ es) ≡ true
    step true q ih =
        let above : f.value ≤ e.value = grind (arith, nat_tests) in
        and_both (nat_le n f.value) (numbers_from f.value (insert_by enl_number e es)) (and_left (nat_le n f.value) (numbers_from f.value es) k) (ih above)
    step false q ih =
        let low : nat_le n e.value ≡ true = grind (arith, nat_tests) in
        let next : nat_le e.value f.value ≡ true = grind (arith, nat_tests) in
        and_both (nat_le n e.value) (nat_le e.value f.value && numbers_from f.value es) low (and_both (nat_le e.value f.value) (numbers_from f.value es) next (and_right (nat_le n f.value) (numbers_from f.value es) k))

from_name : (e : EnlNo) (es : List EnlNo) → numbers_from 0 es ≡ true → numbers_from 0 (with_name e es) ≡ true
from_name e es k = step (has (λ f. e.value == f.value) es)
  where
    step : (b : Bool) → numbers_from 0 (if b then es else insert_by enl_number e es) ≡ true
    step true = k
    step false = from_insert 0 e es (omega arith) k

pub from_names : (bs : List Branch) (es : List EnlNo) → numbers_from 0 es ≡ true → numbers_from 0 (with_names bs es) ≡ true
from_names [] es k = k
from_names (b ∷ bs) es k = from_name b.enlistment (with_names bs es) (from_names bs es k)

pub from_rows : (n : ℕ) (xs : List Row) → rises_above n xs ≡ true → numbers_from n (map (λ (x : Row). x.number) xs) ≡ true
from_rows n [] k = refl
from_rows n (x ∷ xs) k =
    let first = and_left (nat_lt n (number_of x)) (rises_above (number_of x) xs) k in
    let low : nat_le n x.number.value ≡ true = grind (arith, nat_tests) in
    and_both (nat_le n x.number.value) (numbers_from x.number.value (map (λ (y : Row). y.number) xs)) low (from_rows x.number.value xs (and_right (nat_lt n (number_of x)) (rises_above (number_of x) xs) k))

-- the first where it is there, else what comes later
abbrev front : Option (EnlNo × Note) → Option (EnlNo × Note) → Option (EnlNo × Note)
front (Some x) y = Some x
front None y = y

-- the first of them that is due, where the front one may be
first_step : (o : Observed) (e : EnlNo) (es : List EnlNo) (n : Option Note) → due_of o e.value ≡ n → first_due o (e ∷ es) ≡ front (with_note e n) (first_due o es)
first_step o e es None k = rw k refl
first_step o e es (Some n) k = rw k refl

-- it isn't below where they begin
first_low : (o : Observed) (n : ℕ) (es : List EnlNo) (x : EnlNo × Note) → numbers_from n es ≡ true → first_due o es ≡ Some x → n ≤ x.0.value
first_low o n [] x k f = absurd (cc)
first_low o n (e ∷ es) x k f = step (due_of o e.value) refl (λ g. first_low o e.value es x (and_right (nat_le n e.value) (numbers_from e.value es) k) g)
  where
    low : nat_le n e.value ≡ true
    low = and_left (nat_le n e.value) (numbers_from e.value es) k

    step : (d : Option Note) → due_of o e.value ≡ d → (first_due o es ≡ Some x → e.value ≤ x.0.value) → n ≤ x.0.value
    step None q ih = let up = ih (sym (first_step o e es None q) ∙ f) in grind (arith, nat_tests, low)
    step (Some m) q ih = let same : Some (e, m) ≡ Some x = sym (first_step o e es (Some m) q) ∙ f in let it : (e, m) ≡ x = cc in let number : e.value ≡ x.0.value = ap (λ (y : EnlNo × Note). y.0.value) it in grind (arith, nat_tests, low)

lower_none : (x : Option (EnlNo × Note)) → lower x None ≡ x
lower_none None = refl
lower_none (Some x) = refl

-- with one more, which isn't among them
first_insert : (o : Observed) (n : ℕ) (e : EnlNo) (es : List EnlNo) → numbers_from n es ≡ true → has (λ f. e.value == f.value) es ≡ false
    → first_due o (insert_by enl_number e es) ≡ lower (with_note e (due_of o e.value)) (first_due o es)
first_insert o n e [] k none = first_step o e [] (due_of o e.value) refl ∙ alone (with_note e (due_of o e.value))
  where
    alone : (x : Option (EnlNo × Note)) → front x None ≡ lower x None
    alone None = refl
    alone (Some x) = refl
first_insert o n e (f ∷ es) k none =
    step (nat_lt f.value e.value) refl (first_insert o f.value e es (and_right (nat_le n f.value) (numbers_from f.value es) k) (or_second (e.value == f.value) (has (λ g. e.value == g.value) es) none))
  where
    rest : numbers_from f.value es ≡ true
    rest = and_right (nat_le n f.value) (numbers_from f.value es) k

    other : (e.value == f.value) ≡ false
    other = or_first (e.value == f.value) (has (λ g. e.value == g.value) es) none

    later : (x y : Option Note) → nat_lt e.value f.value ≡ false → front (with_note f y) (lower (with_note e x) (first_due o es)) ≡ lower (with_note e x) (front (with_note f y) (first_due o es))
    later x None lt = refl
    later None (Some m) lt = refl
    later (Some i) (Some m) lt = rw lt refl

    sooner : (x : Option Note) (y : Option (EnlNo × Note)) → first_due o (f ∷ es) ≡ y → nat_lt e.value f.value ≡ true → front (with_note e x) y ≡ lower (with_note e x) y
    sooner None y q lt = refl
    sooner (Some i) None q lt = refl
    sooner (Some i) (Some z) q lt =
        let low = first_low o f.value (f ∷ es) z (and_both (nat_le f.value f.value) (numbers_from f.value es) (grind (arith, nat_tests)) rest) q in
        let less : nat_lt e.value z.0.value ≡ true = grind (arith, nat_tests) in
        rw less refl

    step : (b : Bool) → nat_lt f.value e.value ≡ b → first_due o (insert_by enl_number e es) ≡ lower (with_note e (due_of o e.value)) (first_due o es)
        → first_due o (if b then f ∷ insert_by enl_number e es else e ∷ f ∷ es) ≡ lower (with_note e (due_of o e.value)) (first_due o (f ∷ es))
    step true q ih =
        let lt : nat_lt e.value f.value ≡ false = grind (arith, nat_tests) in
        first_step o f (insert_by enl_number e es) (due_of o f.value) refl
        ∙ ap (front (with_note f (due_of o f.value))) ih
        ∙ later (due_of o e.value) (due_of o f.value) lt
        ∙ ap (lower (with_note e (due_of o e.value))) (sym (first_step o f es (due_of o f.value) refl))
    step false q ih =
        let lt : nat_lt e.value f.value ≡ true = grind (arith, nat_tests, other) in
        first_step o e (f ∷ es) (due_of o e.value) refl ∙ sooner (due_of o e.value) (first_due o (f ∷ es)) refl lt

-- one that is among them changes nothing
above : (n : ℕ) (e : EnlNo) (es : List EnlNo) → numbers_from n es ≡ true → has (λ f. e.value == f.value) es ≡ true → n ≤ e.value
above n e [] k i = absurd (cc)
above n e (f ∷ es) k i =
    let low = and_left (nat_le n f.value) (numbers_from f.value es) k in
    or_case (e.value == f.value) (has (λ g. e.value == g.value) es)
    (λ same. grind (arith, nat_tests))
    (λ later. let up = above f.value e es (and_right (nat_le n f.value) (numbers_from f.value es) k) later in grind (arith, nat_tests)) i

first_there : (o : Observed) (n : ℕ) (e : EnlNo) (es : List EnlNo) → numbers_from n es ≡ true → has (λ f. e.value == f.value) es ≡ true
    → lower (with_note e (due_of o e.value)) (first_due o es) ≡ first_due o es
first_there o n e [] k i = absurd (cc)
first_there o n e (f ∷ es) k i =
    rw (first_step o f es (due_of o f.value) refl) (step (e.value == f.value) refl i (λ j. first_there o f.value e es (and_right (nat_le n f.value) (numbers_from f.value es) k) j))
  where
    rest : numbers_from f.value es ≡ true
    rest = and_right (nat_le n f.value) (numbers_from f.value es) k

    at : (x y : Option Note) (z : Option (EnlNo × Note)) → (is_some x ≡ true → is_some y ≡ true) → nat_lt e.value f.value ≡ false → lower (with_note e x) (front (with_note f y) z) ≡ front (with_note f y) z
    at None y z same lt = refl
    at (Some a) (Some b) z same lt = rw lt refl
    at (Some a) None z same lt = let never = same refl in absurd (cc)

    past : (x : Option Note) (b : Note) → nat_lt e.value f.value ≡ false → lower (with_note e x) (Some (f, b)) ≡ Some (f, b)
    past None b lt = refl
    past (Some a) b lt = rw lt refl

    later : (y : Option Note) → nat_lt e.value f.value ≡ false → lower (with_note e (due_of o e.value)) (first_due o es) ≡ first_due o es
        → lower (with_note e (due_of o e.value)) (front (with_note f y) (first_due o es)) ≡ front (with_note f y) (first_due o es)
    later None lt ih = ih
    later (Some b) lt ih = past (due_of o e.value) b lt

    step : (b : Bool) → (e.value == f.value) ≡ b → (b || has (λ g. e.value == g.value) es) ≡ true
        → (has (λ g. e.value == g.value) es ≡ true → lower (with_note e (due_of o e.value)) (first_due o es) ≡ first_due o es)
        → lower (with_note e (due_of o e.value)) (front (with_note f (due_of o f.value)) (first_due o es)) ≡ front (with_note f (due_of o f.value)) (first_due o es)
    step true q j ih =
        let number : e.value ≡ f.value = grind (arith, nat_tests) in
        let lt : nat_lt e.value f.value ≡ false = grind (arith, nat_tests) in
        at (due_of o e.value) (due_of o f.value) (first_due o es) (λ s. ap (λ m. is_some (due_of o m)) (sym number) ∙ s) lt
    step false q j ih =
        let up = above f.value e es rest j in
        let lt : nat_lt e.value f.value ≡ false = grind (arith, nat_tests) in
        later (due_of o f.value) lt (ih j)

pub first_name : (o : Observed) (e : EnlNo) (es : List EnlNo) → numbers_from 0 es ≡ true → first_due o (with_name e es) ≡ lower (with_note e (due_of o e.value)) (first_due o es)
first_name o e es k = step (has (λ f. e.value == f.value) es) refl
  where
    step : (b : Bool) → has (λ f. e.value == f.value) es ≡ b → first_due o (if b then es else insert_by enl_number e es) ≡ lower (with_note e (due_of o e.value)) (first_due o es)
    step true i = sym (first_there o 0 e es k i)
    step false i = first_insert o 0 e es k i

-- one more enlistment at the coordinator
pub first_branch : (o : Observed) (b : Branch) (bs : List Branch) → rises_above 0 o.table ≡ true
    → first_due o (with_names (b ∷ bs) (map (λ (x : Row). x.number) o.table)) ≡ lower (with_note b.enlistment (due_of o b.enlistment.value)) (first_due o (with_names bs (map (λ (x : Row). x.number) o.table)))
first_branch o b bs k =
    first_name o b.enlistment (with_names bs (map (λ (x : Row). x.number) o.table)) (from_names bs (map (λ (x : Row). x.number) o.table) (from_rows 0 o.table k))

-- all of them
pub first_of_all : (o : Observed) → kth (all_due o) 1 ≡ first_due o (with_names o.branches (map (λ (x : Row). x.number) o.table))
unfolding all_due
first_of_all o = refl

-- a row at a place is found by its number
pub found_above : (n : ℕ) (xs : List Row) (k : ℕ) (x : Row) → rises_above n xs ≡ true → slice_get xs k ≡ Some x → (n < number_of x) × (find (is_of x.number.value) xs ≡ Some x)
found_above n [] k x r e = absurd cc
found_above n (y ∷ ys) zero x r e =
    let same : y ≡ x = cc in
    let rise = and_left (nat_lt n (number_of y)) (rises_above (number_of y) ys) r in
    let itself : (number_of y == number_of y) ≡ true = grind (arith, nat_tests) in
    subst (λ (z : Row). (n < number_of z) × (find (is_of z.number.value) (y ∷ ys) ≡ Some z)) same (grind (arith, nat_tests, rise), rw itself refl)
found_above n (y ∷ ys) (suc k) x r e =
    let rise = and_left (nat_lt n (number_of y)) (rises_above (number_of y) ys) r in
    let rest = found_above (number_of y) ys k x (and_right (nat_lt n (number_of y)) (rises_above (number_of y) ys) r) e in
    let other : (number_of x == number_of y) ≡ false = grind (arith, nat_tests, rest.0) in
    (grind (arith, nat_tests, rise, rest.0), rw other rest.1)

-- the replies of these rows of the table
due_from : (o : Observed) (xs : List Row) → ((k : ℕ) (x : Row) → slice_get xs k ≡ Some x → find (is_of x.number.value) o.table ≡ Some x)
    → filter_map (λ (e : EnlNo). with_note e (due_of o e.value)) (map (λ (x : Row). x.number) xs) ≡ filter_map (λ (x : Row). with_note x.number (note_at o x.number.value (Some x))) xs
unfolding due_of
due_from o [] found = refl
due_from o (x ∷ xs) found =
    ap (λ (r : Option Row). cons_option (with_note x.number (note_at o x.number.value r)) (filter_map (λ (e : EnlNo). with_note e (due_of o e.value)) (map (λ (y : Row). y.number) xs))) (found 0 x refl)
    ∙ ap (λ ys. cons_option (with_note x.number (note_at o x.number.value (Some x))) ys) (due_from o xs (λ k y e. found (suc k) y e))

-- the replies of the table
pub due_rows : (o : Observed) → rises_above 0 o.table ≡ true
    → filter_map (λ (e : EnlNo). with_note e (due_of o e.value)) (map (λ (x : Row). x.number) o.table) ≡ filter_map (λ (x : Row). with_note x.number (note_at o x.number.value (Some x))) o.table
due_rows o rise = due_from o o.table (λ k x e. (found_above 0 o.table k x rise e).1)

-- a vote is due of one that was asked alone
prepare_alone : (v : Vote) (n : Note) → fits (VoteReply v) n ≡ true → n ≡ Prepare
prepare_alone v Prepare k = refl
prepare_alone v _ k = absurd cc

marked_then : (o : Observed) (x : Row) → row_note o x ≡ Some Prepare → is_marked x ≡ true
marked_then o x k = step (is_marked x) (has_voted x) (may_still_vote o x) (owes_promotion o x) (owes_outcome o x) (owes_request o x) k
  where
    step : (m v s p h r : Bool) → (if m && not v && s then Some Prepare else if p then Some PromoteNote else if h then Some Hand else if r then Some Single else None) ≡ Some Prepare → m ≡ true
    step true v s p h r k = refl
    step false v s true h r k = absurd cc
    step false v s false true r k = absurd cc
    step false v s false false true k = absurd cc
    step false v s false false false k = absurd cc

asked_row : (o : Observed) (e : ℕ) (x : Option Row) (d : Option Conn) → find (is_of e) o.table ≡ x → or_else (note_of_row o x) (note_of_conn d) ≡ Some Prepare → was_asked e o.table ≡ true
asked_row o e None None f k = absurd cc
asked_row o e None (Some c) f k = absurd cc
asked_row o e (Some x) d f k = found_both (is_of e) is_marked o.table x f (marked_then o x (by (row_note o x) d k))
  where
    by : (n : Option Note) (d : Option Conn) → or_else n (note_of_conn d) ≡ Some Prepare → n ≡ Some Prepare
    by (Some n) d k = k
    by None None k = absurd cc
    by None (Some c) k = absurd cc

pub voter_asked : (o : Observed) (e : ℕ) (v : Vote) (n : Note) → due_of o e ≡ Some n → fits (VoteReply v) n ≡ true → was_asked e o.table ≡ true
unfolding due_of
voter_asked o e v n due fit = by (is_gone o e) (due ∙ ap (λ m. Some m) (prepare_alone v n fit))
  where
    by : (g : Bool) → (if g then None else or_else (note_of_row o (find (is_of e) o.table)) (note_of_conn (conn_due o e))) ≡ Some Prepare → was_asked e o.table ≡ true
    by true k = absurd cc
    by false k = asked_row o e (find (is_of e) o.table) (conn_due o e) refl k

dropped : {A : Type 0} (xs : List A) (n : ℕ) (x : A) → slice_get xs n ≡ Some x → drop n xs ≡ x ∷ drop (suc n) xs
dropped [] n x e = absurd cc
dropped (y ∷ ys) zero x e = let same : y ≡ x = cc in ap (λ z. z ∷ ys) same
dropped (y ∷ ys) (suc n) x e = dropped ys n x e

-- with the one before it too
pub first_more : (o : Observed) (i : ℕ) (b : Branch) (found : Option (EnlNo × Note)) → rises_above 0 o.table ≡ true → 0 < i → slice_get o.branches (i - 1) ≡ Some b
    → found ≡ first_due o (with_names (drop i o.branches) (map (λ (x : Row). x.number) o.table))
    → lower (with_note b.enlistment (due_of o b.enlistment.value)) found ≡ first_due o (with_names (drop (i - 1) o.branches) (map (λ (x : Row). x.number) o.table))
first_more o i b found rise some here so_far =
    let next : suc (i - 1) ≡ i = omega arith in
    let names : List Branch → List EnlNo = λ bs. with_names bs (map (λ (x : Row). x.number) o.table) in
    let behind : drop (i - 1) o.branches ≡ b ∷ drop i o.branches = dropped o.branches (i - 1) b here ∙ ap (λ n. b ∷ drop n o.branches) next in
    ap (lower (with_note b.enlistment (due_of o b.enlistment.value))) so_far ∙ sym (first_branch o b (drop i o.branches) rise) ∙ ap (λ (bs : List Branch). first_due o (names bs)) (sym behind)
