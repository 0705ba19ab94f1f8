-- The work of a note: when it is due, and what it makes of the marks of its pair and of others.
use Rattle.std.specs.Prelude.{Contains}
use Rattle.std.proofs.Common.{◌≡◌, inl, inr, ℕ, zero, suc, Bool, true, false, not, ◌&&◌, ◌||◌, cond, List, [], ◌∷◌, ◌++◌, length, set, Option, Some, None, refl, sym, ap, subst, ◌∙◌, arith}
use Rattle.std.proofs.lemmas.Bool.{cases_Bool}
use Rattle.dtx_values.specs.declared.note.Note.{Note}
use Rattle.dtx_values.specs.declared.note.Note.TheVariants.{Init, Prepare, Promote, Hand, Single, Commit, Rollback, InDoubt}
use Rattle.dtx_model.proofs.Bools.{or_first, or_second}
use Rattle.dtx_model.specs.Outcome.{is_empty}
use Rattle.dtx_model.specs.Words.{has}
use Rattle.kv_resource.specs.Bytes.{KvRecord}
use Rattle.kv_resource.specs.Images.{may_hold}
use Rattle.kv_resource.specs.Notes.{AtMark, AtRecord, Closes, Fate, Marks, Nothing, Smooth, Work, Writes, WritesAndMarks, closed_record, fresh_record, into_slot, is_smooth, is_work, marked_record, memory_after, on_unmarked, slots_after, unless, work_of}
use Rattle.kv_resource.specs.Store.{KvMemory, Pair, has_draft, has_marked, has_slot, has_unmarked, next_slot, open_records, wrote, is_unmarked_of}
use Rattle.kv_resource.proofs.Giving.{commit_work, hand_work, prepare_work, rollback_work}
use Rattle.all_or_nothing.specs.Marks.{begins, commits, drops}
use Rattle.kv_holding.specs.Holding.{is_pair}
use Rattle.kv_holding.proofs.Marks.{Adds, DropsOne, MarksOne, Stays, Step, leads, led, may_step, not_led, stepped}
use Rattle.kv_holding.proofs.Records.{found_held, found_lead, found_unmarked, in_next, marks_at, other_closed, other_marked, other_more, own_closed, own_marked, own_more, own_pair, other_pair}

-- the marks of a pair in a memory
abbrev pub marks_now : KvMemory → Pair → List Bool
marks_now m p = marks_at p (open_records m.slots)

-- what holds where a note has this work
abbrev pub IsDue : KvMemory → Pair → Note → Work → Type 0
IsDue m p n Nothing = Unit {0}
IsDue m p n (Writes k) = (begins n ≡ true) × (is_empty (marks_now m p) ≡ true) × (next_slot m.slots ≡ Some k)
IsDue m p n (WritesAndMarks k) = ((begins n ≡ true) × (commits n ≡ true)) × (is_empty (marks_now m p) ≡ true) × (next_slot m.slots ≡ Some k)
IsDue m p n Marks = (commits n ≡ true) × (has not (marks_now m p) ≡ true)
IsDue m p n Closes = (drops n ≡ true) × (has not (marks_now m p) ≡ true)

due_unless : (m : KvMemory) (p : Pair) (n : Note) (b : Bool) (w : Work) → (b ≡ false → IsDue m p n w) → IsDue m p n (unless b w)
due_unless m p n true w h = tt
due_unless m p n false w h = h refl

due_into : (m : KvMemory) (p : Pair) (n : Note) (o : Option ℕ) (w : ℕ → Work) → ((k : ℕ) → o ≡ Some k → IsDue m p n (w k)) → IsDue m p n (into_slot o w)
due_into m p n None w h = tt
due_into m p n (Some k) w h = h k refl

due_cond : (m : KvMemory) (p : Pair) (n : Note) (b : Bool) (v w : Work) → (b ≡ true → IsDue m p n v) → (b ≡ false → IsDue m p n w) → IsDue m p n (cond b v w)
due_cond m p n true v w g h = g refl
due_cond m p n false v w g h = h refl

from_not : (b : Bool) → not b ≡ false → b ≡ true
from_not true e = refl
from_not false e = absurd cc

-- a pair without a slot has no marks
no_marks : (m : KvMemory) (p : Pair) → has_slot m p ≡ false → is_empty (marks_now m p) ≡ true
no_marks m p e = by (is_empty (marks_now m p)) (sym (found_held p (open_records m.slots)) ∙ e)
  where
    by : (b : Bool) → not b ≡ false → b ≡ true
    by true h = refl
    by false h = absurd cc

-- one with a slot has some
pub some_marks : (m : KvMemory) (p : Pair) → has_slot m p ≡ true → is_empty (marks_now m p) ≡ false
some_marks m p e = by (is_empty (marks_now m p)) (sym (found_held p (open_records m.slots)) ∙ e)
  where
    by : (b : Bool) → not b ≡ true → b ≡ false
    by true h = absurd cc
    by false h = refl

pub has_some : (m : KvMemory) (p : Pair) → is_empty (marks_now m p) ≡ false → has_slot m p ≡ true
has_some m p e = found_held p (open_records m.slots) ∙ ap not e

some_unmarked : (m : KvMemory) (p : Pair) → has_unmarked m p ≡ true → has not (marks_now m p) ≡ true
some_unmarked m p e = sym (found_unmarked p (open_records m.slots)) ∙ e

-- the work of each note is due
pub due : (m : KvMemory) (p : Pair) (n : Note) → IsDue m p n (work_of m p n)
unfolding work_of
due m p Prepare =
    due_unless m p Prepare (m.stopped || has_slot m p || not (has_draft m p)) (into_slot (next_slot m.slots) Writes)
    (λ off. due_into m p Prepare (next_slot m.slots) Writes (λ k e. (refl, no_marks m p (or_second m.stopped (has_slot m p) (or_first (m.stopped || has_slot m p) (not (has_draft m p)) off)), e)))
due m p Hand =
    due_unless m p Hand (m.stopped || has_marked m p || not (wrote m p)) (cond (has_slot m p) Marks (into_slot (next_slot m.slots) WritesAndMarks))
    (λ off. due_cond m p Hand (has_slot m p) Marks (into_slot (next_slot m.slots) WritesAndMarks)
    (λ there. (refl, not_led (marks_now m p) (some_marks m p there) (sym (found_lead p (open_records m.slots)) ∙ or_second m.stopped (has_marked m p) (or_first (m.stopped || has_marked m p) (not (wrote m p)) off))))
    (λ none. due_into m p Hand (next_slot m.slots) WritesAndMarks (λ k e. ((refl, refl), no_marks m p none, e))))
due m p Commit = due_unless m p Commit (m.stopped || not (has_unmarked m p)) Marks (λ off. (refl, some_unmarked m p (from_not (has_unmarked m p) (or_second m.stopped (not (has_unmarked m p)) off))))
due m p Rollback = due_unless m p Rollback (m.stopped || not (has_unmarked m p)) Closes (λ off. (refl, some_unmarked m p (from_not (has_unmarked m p) (or_second m.stopped (not (has_unmarked m p)) off))))
due m p Init = tt
due m p Promote = tt
due m p Single = tt
due m p InDoubt = tt

-- a stopped store has no work
pub stopped_works : (m : KvMemory) (p : Pair) (n : Note) → m.stopped ≡ true → work_of m p n ≡ Nothing
unfolding work_of
stopped_works m p Prepare e = prepare_work m p true (has_slot m p) (has_draft m p) (next_slot m.slots) e refl refl refl
stopped_works m p Hand e = hand_work m p true (has_marked m p) (has_slot m p) (has_draft m p) (next_slot m.slots) e refl refl refl refl
stopped_works m p Commit e = commit_work m p true (has_unmarked m p) e refl
stopped_works m p Rollback e = rollback_work m p true (has_unmarked m p) e refl
stopped_works m p Init e = refl
stopped_works m p Promote e = refl
stopped_works m p Single e = refl
stopped_works m p InDoubt e = refl

-- the work of a prepare is to write a record, or there is none
pub prepare_writes : (m : KvMemory) (p : Pair) → is_work (work_of m p Prepare) ≡ true → (k : ℕ) × (work_of m p Prepare ≡ Writes k)
unfolding work_of
prepare_writes m p e = by (m.stopped || has_slot m p || not (has_draft m p)) (next_slot m.slots) e
  where
    by : (b : Bool) (o : Option ℕ) → is_work (unless b (into_slot o Writes)) ≡ true → (k : ℕ) × (unless b (into_slot o Writes) ≡ Writes k)
    by true o e = absurd cc
    by false None e = absurd cc
    by false (Some k) e = (k, refl)

-- What the work of a note makes of these records: it takes a step with the marks of its pair, and none with those of another.
pub record IsWorked (n : Note) (p : Pair) (w : Work) (old new : List KvRecord) : Type 0 where
  pub step : Step
  pub fits : may_step n step (marks_at p old) ≡ true
  pub own : marks_at p new ≡ stepped step (marks_at p old)
  pub others : (q : Pair) → is_pair p q.0 q.1 ≡ false → marks_at q new ≡ marks_at q old
  pub idle : is_work w ≡ false → marks_at p new ≡ marks_at p old

unchanged : (n : Note) (p : Pair) (w : Work) (rs : List KvRecord) → IsWorked n p w rs rs
unchanged n p w rs = record { step = Stays; fits = refl; own = refl; others = λ q other. refl; idle = λ none. refl }

all_three : (a b c : Bool) → a ≡ true → b ≡ true → c ≡ true → a && (b && c) ≡ true
all_three true true true a b c = refl
all_three true true false a b c = absurd cc
all_three true false z a b c = absurd cc
all_three false y z a b c = absurd cc

-- a record in the next slot
added : (m : KvMemory) (p : Pair) (n : Note) (w : Work) (k : ℕ) (b : Bool) → is_work w ≡ true → length m.slots ≡ 1024 → next_slot m.slots ≡ Some k → begins n ≡ true → is_empty (marks_now m p) ≡ true → not b || commits n ≡ true
    → IsWorked n p w (open_records m.slots) (open_records (set m.slots k (Some (fresh_record m p b))))
added m p n w k b some many next on none may =
    let r = fresh_record m p b in
    let last : open_records (set m.slots k (Some r)) ≡ open_records m.slots ++ r ∷ [] = in_next m.slots k r many next in
    record {
      step = Adds b;
      fits = all_three (begins n) (is_empty (marks_now m p)) (not b || commits n) on none may;
      own = ap (marks_at p) last ∙ own_more p (open_records m.slots) r (own_pair p b r.writes);
      others = λ q other. ap (marks_at q) last ∙ other_more q (open_records m.slots) r (other_pair p q r other (own_pair p b r.writes));
      idle = λ none. absurd (let both : true ≡ false = sym some ∙ none in cc);
    }

both_true : (a b : Bool) → a ≡ true → b ≡ true → a && b ≡ true
both_true true b p q = q
both_true false b p q = p

marked : (m : KvMemory) (p : Pair) (n : Note) → IsDue m p n Marks → IsWorked n p Marks (open_records m.slots) (open_records (on_unmarked p marked_record m.slots))
marked m p n d = record {
  step = MarksOne;
  fits = both_true (commits n) (has not (marks_now m p)) d.0 d.1;
  own = own_marked p m.slots;
  others = λ q other. other_marked p q m.slots other;
  idle = λ none. absurd cc;
}

closed : (m : KvMemory) (p : Pair) (n : Note) → IsDue m p n Closes → IsWorked n p Closes (open_records m.slots) (open_records (on_unmarked p closed_record m.slots))
closed m p n d = record {
  step = DropsOne;
  fits = both_true (drops n) (has not (marks_now m p)) d.0 d.1;
  own = own_closed p m.slots;
  others = λ q other. other_closed p q m.slots other;
  idle = λ none. absurd cc;
}

-- one of these lists
pick : (P : List KvRecord → Type 0) (a : List KvRecord) (l : List (List KvRecord)) (x : List KvRecord) → P a → (Contains l x → P x) → Contains (a ∷ l) x → P x
pick P a l x here later (zero, lt, is) = subst P is here
pick P a l x here later (suc k, lt, is) = later (k, omega arith, is)

never : (P : List KvRecord → Type 0) (x : List KvRecord) → Contains [] x → P x
never P x (k, lt, is) = absurd (omega arith)

-- what an image may hold after the work came of the work
may_worked : (m : KvMemory) (p : Pair) (n : Note) (w : Work) → length m.slots ≡ 1024 → IsDue m p n w → (rs : List KvRecord) → Contains (may_hold m p w) rs → IsWorked n p w (open_records m.slots) rs
may_worked m p n Nothing many d rs c = pick (IsWorked n p Nothing (open_records m.slots)) (open_records m.slots) [] rs (unchanged n p Nothing (open_records m.slots)) (never (IsWorked n p Nothing (open_records m.slots)) rs) c
may_worked m p n (Writes k) many d rs c =
    let P = IsWorked n p (Writes k) (open_records m.slots) in
    pick P (open_records m.slots) (open_records (set m.slots k (Some (fresh_record m p false))) ∷ []) rs (unchanged n p (Writes k) (open_records m.slots))
    (pick P (open_records (set m.slots k (Some (fresh_record m p false)))) [] rs (added m p n (Writes k) k false refl many d.2 d.0 d.1 refl) (never P rs)) c
may_worked m p n (WritesAndMarks k) many d rs c =
    let P = IsWorked n p (WritesAndMarks k) (open_records m.slots) in
    pick P (open_records m.slots) (open_records (set m.slots k (Some (fresh_record m p false))) ∷ open_records (set m.slots k (Some (fresh_record m p true))) ∷ []) rs (unchanged n p (WritesAndMarks k) (open_records m.slots))
    (pick P (open_records (set m.slots k (Some (fresh_record m p false)))) (open_records (set m.slots k (Some (fresh_record m p true))) ∷ []) rs (added m p n (WritesAndMarks k) k false refl many d.2 d.0.0 d.1 refl)
    (pick P (open_records (set m.slots k (Some (fresh_record m p true)))) [] rs (added m p n (WritesAndMarks k) k true refl many d.2 d.0.0 d.1 d.0.1) (never P rs))) c
may_worked m p n Marks many d rs c =
    let P = IsWorked n p Marks (open_records m.slots) in
    pick P (open_records m.slots) (open_records (on_unmarked p marked_record m.slots) ∷ []) rs (unchanged n p Marks (open_records m.slots))
    (pick P (open_records (on_unmarked p marked_record m.slots)) [] rs (marked m p n d) (never P rs)) c
may_worked m p n Closes many d rs c =
    let P = IsWorked n p Closes (open_records m.slots) in
    pick P (open_records m.slots) (open_records (on_unmarked p closed_record m.slots) ∷ []) rs (unchanged n p Closes (open_records m.slots))
    (pick P (open_records (on_unmarked p closed_record m.slots)) [] rs (closed m p n d) (never P rs)) c

pub image_worked : (m : KvMemory) (p : Pair) (n : Note) → length m.slots ≡ 1024 → (rs : List KvRecord) → Contains (may_hold m p (work_of m p n)) rs → IsWorked n p (work_of m p n) (open_records m.slots) rs
image_worked m p n many rs c = may_worked m p n (work_of m p n) many (due m p n) rs c

-- and so did what the memory has
memory_may : (m : KvMemory) (p : Pair) (w : Work) (f : Fate) → Contains (may_hold m p w) (open_records (slots_after m p w f))
memory_may m p Nothing f = (0, omega arith, refl)
memory_may m p (Writes k) Smooth = (1, omega arith, refl)
memory_may m p (Writes k) AtRecord = (0, omega arith, refl)
memory_may m p (Writes k) AtMark = (0, omega arith, refl)
memory_may m p (WritesAndMarks k) Smooth = (2, omega arith, refl)
memory_may m p (WritesAndMarks k) AtRecord = (0, omega arith, refl)
memory_may m p (WritesAndMarks k) AtMark = (1, omega arith, refl)
memory_may m p Marks Smooth = (1, omega arith, refl)
memory_may m p Marks AtRecord = (0, omega arith, refl)
memory_may m p Marks AtMark = (0, omega arith, refl)
memory_may m p Closes Smooth = (1, omega arith, refl)
memory_may m p Closes AtRecord = (0, omega arith, refl)
memory_may m p Closes AtMark = (0, omega arith, refl)

pub memory_worked : (m : KvMemory) (p : Pair) (n : Note) (f : Fate) → length m.slots ≡ 1024 → IsWorked n p (work_of m p n) (open_records m.slots) (open_records (slots_after m p (work_of m p n) f))
memory_worked m p n f many = image_worked m p n many (open_records (slots_after m p (work_of m p n) f)) (memory_may m p (work_of m p n) f)

-- the slots and the stop after a note
pub slots_then : (m : KvMemory) (p : Pair) (n : Note) (f : Fate) → (memory_after m p n f).slots ≡ slots_after m p (work_of m p n) f
unfolding memory_after
slots_then m p n f = refl

pub stopped_then : (m : KvMemory) (p : Pair) (n : Note) (f : Fate) → (memory_after m p n f).stopped ≡ m.stopped || (is_work (work_of m p n) && not (is_smooth f))
unfolding memory_after
stopped_then m p n f = refl

-- there are as many slots as before
length_set : {X : Type 0} (xs : List X) (k : ℕ) (x : X) → length (set xs k x) ≡ length xs
length_set [] k x = refl
length_set (y ∷ xs) zero x = refl
length_set (y ∷ xs) (suc k) x = ap suc (length_set xs k x)

length_first : (p : Pair) (f : KvRecord → Option KvRecord) (ss : List (Option KvRecord)) → length (on_unmarked p f ss) ≡ length ss
length_first p f [] = refl
length_first p f (None ∷ ss) = ap suc (length_first p f ss)
length_first p f (Some r ∷ ss) = by (is_unmarked_of p r) (length_first p f ss)
  where
    by : (b : Bool) → length (on_unmarked p f ss) ≡ length ss → length (cond b (f r ∷ ss) (Some r ∷ on_unmarked p f ss)) ≡ suc (length ss)
    by true e = refl
    by false e = ap suc e

pub as_many : (m : KvMemory) (p : Pair) (w : Work) (f : Fate) → length (slots_after m p w f) ≡ length m.slots
as_many m p Nothing f = refl
as_many m p (Writes k) Smooth = length_set m.slots k (Some (fresh_record m p false))
as_many m p (Writes k) AtRecord = refl
as_many m p (Writes k) AtMark = refl
as_many m p (WritesAndMarks k) Smooth = length_set m.slots k (Some (fresh_record m p true))
as_many m p (WritesAndMarks k) AtRecord = refl
as_many m p (WritesAndMarks k) AtMark = length_set m.slots k (Some (fresh_record m p false))
as_many m p Marks Smooth = length_first p marked_record m.slots
as_many m p Marks AtRecord = refl
as_many m p Marks AtMark = refl
as_many m p Closes Smooth = length_first p closed_record m.slots
as_many m p Closes AtRecord = refl
as_many m p Closes AtMark = refl

-- What is marked in memory after work that a fault broke off was so before.
rough_more : (m : KvMemory) (p : Pair) (n : Note) (k : ℕ) (q : Pair) → length m.slots ≡ 1024 → next_slot m.slots ≡ Some k → leads (marks_at q (open_records (set m.slots k (Some (fresh_record m p false))))) ≡ true → leads (marks_now m q) ≡ true
rough_more m p n k q many next e =
    let r = fresh_record m p false in
    let own : is_pair p r.transaction r.enlistment ≡ true = own_pair p false r.writes in
    let last : open_records (set m.slots k (Some r)) ≡ open_records m.slots ++ r ∷ [] = in_next m.slots k r many next in
    elim (cases_Bool (is_pair q r.transaction r.enlistment)) [
      | inl same ↦ led (marks_now m q) (ap leads (sym (own_more q (open_records m.slots) r same)) ∙ (ap (λ (l : List KvRecord). leads (marks_at q l)) (sym last) ∙ e))
      | inr other ↦ ap leads (sym (other_more q (open_records m.slots) r other)) ∙ (ap (λ (l : List KvRecord). leads (marks_at q l)) (sym last) ∙ e)
    ]

rough_by : (m : KvMemory) (p : Pair) (n : Note) (w : Work) (f : Fate) (q : Pair) → length m.slots ≡ 1024 → IsDue m p n w → is_smooth f ≡ false → leads (marks_at q (open_records (slots_after m p w f))) ≡ true → leads (marks_now m q) ≡ true
rough_by m p n w Smooth q many d rough e = absurd cc
rough_by m p n Nothing AtRecord q many d rough e = e
rough_by m p n Nothing AtMark q many d rough e = e
rough_by m p n (Writes k) AtRecord q many d rough e = e
rough_by m p n (Writes k) AtMark q many d rough e = e
rough_by m p n (WritesAndMarks k) AtRecord q many d rough e = e
rough_by m p n (WritesAndMarks k) AtMark q many d rough e = rough_more m p n k q many d.2 e
rough_by m p n Marks AtRecord q many d rough e = e
rough_by m p n Marks AtMark q many d rough e = e
rough_by m p n Closes AtRecord q many d rough e = e
rough_by m p n Closes AtMark q many d rough e = e

pub rough_leads : (m : KvMemory) (p : Pair) (n : Note) (f : Fate) (q : Pair) → length m.slots ≡ 1024 → is_smooth f ≡ false → leads (marks_at q (open_records (slots_after m p (work_of m p n) f))) ≡ true → leads (marks_now m q) ≡ true
rough_leads m p n f q many rough e = rough_by m p n (work_of m p n) f q many (due m p n) rough e
