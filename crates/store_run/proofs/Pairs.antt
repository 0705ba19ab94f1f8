-- The drafts and the records of a pair: what becomes of them where a draft is dropped or written, and where a record is marked or its slot closed.
use Rattle.std.proofs.Common.{ℕ, zero, suc, ◌≡◌, ◌==◌, ◌+◌, ◌<◌, ◌≤◌, ◌||◌, ◌&&◌, Bool, true, false, not, List, [], ◌∷◌, length, get_or, set, Option, Some, None, refl, sym, ap, ◌∙◌, arith}
use Rattle.std.specs.Prelude.{if◌then◌else◌}
use Rattle.std.proofs.lemmas.Bool.{eqb-true, false_from_ne_true, or_left}
use Rattle.dtx_values.specs.Table.{how_many}
use Rattle.dtx_model.specs.Words.{has}
use Rattle.dtx_model.proofs.Bools.{and_left, and_right, and_both, not_both, or_false, or_right, or_swap}
use Rattle.history_table.proofs.Lists.{OfEach}
use Rattle.kv_resource.specs.Bytes.{KvRecord, with_mark}
use Rattle.kv_resource.specs.Notes.{closed_record, marked_record, on_unmarked}
use Rattle.kv_resource.specs.Store.{KvDraft, Pair, above_highest, is_draft_of, is_record_of, is_unmarked_of, on_open, open_records, pair_of_draft, without_draft}

abbrev pub Slots : Type 0
Slots = List (Option KvRecord)

abbrev pub is_pair : Pair → Pair → Bool
is_pair q p = (q.0 == p.0) && (q.1 == p.1)

pub pair_is : (q p : Pair) → is_pair q p ≡ true → q ≡ p
pair_is q p t = let a = eqb-true q.0 p.0 (and_left (q.0 == p.0) (q.1 == p.1) t) in let b = eqb-true q.1 p.1 (and_right (q.0 == p.0) (q.1 == p.1) t) in λ i. (a i, b i)

-- the record is the pair's, and marked
abbrev pub is_done_of : Pair → KvRecord → Bool
is_done_of p r = is_record_of p r && r.marked

-- what is there is counted
pub counted : {A : Type 0} (p : A → Bool) (xs : List A) → has p xs ≡ true → 1 ≤ how_many p xs
counted p [] t = absurd cc
counted p (x ∷ xs) t = by (p x) (counted p xs) t
  where
    by : (b : Bool) → (has p xs ≡ true → 1 ≤ how_many p xs) → (b || has p xs) ≡ true → 1 ≤ (if b then suc (how_many p xs) else how_many p xs)
    by true f t = omega arith
    by false f t = f t

pub uncounted : {A : Type 0} (p : A → Bool) (xs : List A) → how_many p xs ≤ 0 → has p xs ≡ false
uncounted p xs le = false_from_ne_true (has p xs) (λ t. let c = counted p xs t in omega arith)

-- Drafts without one.
of_other : (q p r : Pair) → is_pair q p ≡ false → is_pair p r ≡ true → is_pair q r ≡ false
of_other q p r n e = ap (is_pair q) (sym (pair_is p r e)) ∙ n

pub draft-without : (q p : Pair) (ds : List KvDraft) → is_pair q p ≡ false → has (is_draft_of q) (without_draft p ds) ≡ has (is_draft_of q) ds
draft-without q p [] n = refl
draft-without q p (d ∷ ds) n = by (is_draft_of p d) refl (draft-without q p ds n)
  where
    by : (b : Bool) → is_draft_of p d ≡ b → has (is_draft_of q) (without_draft p ds) ≡ has (is_draft_of q) ds
        → has (is_draft_of q) (if b then ds else d ∷ without_draft p ds) ≡ (is_draft_of q d || has (is_draft_of q) ds)
    by true e ih = sym (ap (λ b. b || has (is_draft_of q) ds) (of_other q p (pair_of_draft d) n e))
    by false e ih = ap (λ b. is_draft_of q d || b) ih

pub none-without : (p : Pair) (ds : List KvDraft) → how_many (is_draft_of p) ds ≤ 1 → has (is_draft_of p) (without_draft p ds) ≡ false
none-without p [] le = refl
none-without p (d ∷ ds) le = by (is_draft_of p d) refl le (none-without p ds)
  where
    by : (b : Bool) → is_draft_of p d ≡ b → (if b then suc (how_many (is_draft_of p) ds) else how_many (is_draft_of p) ds) ≤ 1
        → (how_many (is_draft_of p) ds ≤ 1 → has (is_draft_of p) (without_draft p ds) ≡ false) → has (is_draft_of p) (if b then ds else d ∷ without_draft p ds) ≡ false
    by true e le f = uncounted (is_draft_of p) ds (omega arith)
    by false e le f = or_false (is_draft_of p d) (has (is_draft_of p) (without_draft p ds)) e (f le)

pub count-without : (q p : Pair) (ds : List KvDraft) → how_many (is_draft_of q) (without_draft p ds) ≤ how_many (is_draft_of q) ds
count-without q p [] = omega arith
count-without q p (d ∷ ds) = by (is_draft_of p d) (is_draft_of q d) refl (count-without q p ds)
  where
    by : (b c : Bool) → is_draft_of q d ≡ c → how_many (is_draft_of q) (without_draft p ds) ≤ how_many (is_draft_of q) ds
        → how_many (is_draft_of q) (if b then ds else d ∷ without_draft p ds) ≤ (if c then suc (how_many (is_draft_of q) ds) else how_many (is_draft_of q) ds)
    by true true e ih = omega arith
    by true false e ih = omega arith
    by false true e ih = rw e (omega arith)
    by false false e ih = rw e ih

pub count-without_own : (p : Pair) (ds : List KvDraft) → has (is_draft_of p) ds ≡ true → suc (how_many (is_draft_of p) (without_draft p ds)) ≡ how_many (is_draft_of p) ds
count-without_own p [] t = absurd cc
count-without_own p (d ∷ ds) t = by (is_draft_of p d) refl (count-without_own p ds) t
  where
    by : (b : Bool) → is_draft_of p d ≡ b → (has (is_draft_of p) ds ≡ true → suc (how_many (is_draft_of p) (without_draft p ds)) ≡ how_many (is_draft_of p) ds) → (b || has (is_draft_of p) ds) ≡ true
        → suc (how_many (is_draft_of p) (if b then ds else d ∷ without_draft p ds)) ≡ (if b then suc (how_many (is_draft_of p) ds) else how_many (is_draft_of p) ds)
    by true e f t = refl
    by false e f t = rw e (f t)

pub length-without_own : (p : Pair) (ds : List KvDraft) → has (is_draft_of p) ds ≡ true → suc (length (without_draft p ds)) ≡ length ds
length-without_own p [] t = absurd cc
length-without_own p (d ∷ ds) t = by (is_draft_of p d) (length-without_own p ds) t
  where
    by : (b : Bool) → (has (is_draft_of p) ds ≡ true → suc (length (without_draft p ds)) ≡ length ds) → (b || has (is_draft_of p) ds) ≡ true
        → suc (length (if b then ds else d ∷ without_draft p ds)) ≡ suc (length ds)
    by true f t = refl
    by false f t = ap suc (f t)

pub length-without : (p : Pair) (ds : List KvDraft) → length (without_draft p ds) ≤ length ds
length-without p [] = omega arith
length-without p (d ∷ ds) = by (is_draft_of p d) (length-without p ds)
  where
    by : (b : Bool) → length (without_draft p ds) ≤ length ds → length (if b then ds else d ∷ without_draft p ds) ≤ suc (length ds)
    by true ih = omega arith
    by false ih = omega arith

pub of-without : (P : KvDraft → Type 0) (p : Pair) (ds : List KvDraft) → OfEach P ds → OfEach P (without_draft p ds)
of-without P p [] h = tt
of-without P p (d ∷ ds) h = by (is_draft_of p d) (of-without P p ds h.1)
  where
    by : (b : Bool) → OfEach P (without_draft p ds) → OfEach P (if b then ds else d ∷ without_draft p ds)
    by true r = h.1
    by false r = (h.0, r)

-- One more record.
pub has-set : (q : KvRecord → Bool) (r : KvRecord) (ss : Slots) (k : ℕ) → k < length ss → get_or ss k None ≡ None → has q (open_records (set ss k (Some r))) ≡ (q r || has q (open_records ss))
has-set q r [] k lt n = absurd (omega arith)
has-set q r (None ∷ ss) zero lt n = refl
has-set q r (Some x ∷ ss) zero lt n = absurd cc
has-set q r (None ∷ ss) (suc k) lt n = has-set q r ss k (omega arith) n
has-set q r (Some x ∷ ss) (suc k) lt n = ap (λ b. q x || b) (has-set q r ss k (omega arith) n) ∙ or_swap (q x) (q r) (has q (open_records ss))

pub count-set : (q : KvRecord → Bool) (r : KvRecord) (ss : Slots) (k : ℕ) → k < length ss → get_or ss k None ≡ None
    → how_many q (open_records (set ss k (Some r))) ≡ (if q r then suc (how_many q (open_records ss)) else how_many q (open_records ss))
count-set q r [] k lt n = absurd (omega arith)
count-set q r (None ∷ ss) zero lt n = refl
count-set q r (Some x ∷ ss) zero lt n = absurd cc
count-set q r (None ∷ ss) (suc k) lt n = count-set q r ss k (omega arith) n
count-set q r (Some x ∷ ss) (suc k) lt n = ap (λ c. if q x then suc c else c) (count-set q r ss k (omega arith) n) ∙ by (q x) (q r)
  where
    by : (a b : Bool) → (if a then suc (if b then suc (how_many q (open_records ss)) else how_many q (open_records ss)) else (if b then suc (how_many q (open_records ss)) else how_many q (open_records ss)))
        ≡ (if b then suc (if a then suc (how_many q (open_records ss)) else how_many q (open_records ss)) else (if a then suc (how_many q (open_records ss)) else how_many q (open_records ss)))
    by true true = refl
    by true false = refl
    by false true = refl
    by false false = refl

pub of-set : (P : KvRecord → Type 0) (r : KvRecord) (ss : Slots) (k : ℕ) → get_or ss k None ≡ None → P r → OfEach P (open_records ss) → OfEach P (open_records (set ss k (Some r)))
of-set P r [] k n p h = tt
of-set P r (None ∷ ss) zero n p h = (p, h)
of-set P r (Some x ∷ ss) zero n p h = absurd cc
of-set P r (None ∷ ss) (suc k) n p h = of-set P r ss k n p h
of-set P r (Some x ∷ ss) (suc k) n p h = (h.0, of-set P r ss k n p h.1)

above_from : (i : ℕ) (ss : Slots) (n j m : ℕ) → above_highest i ss n ≤ m → j ≤ m → above_highest i ss j ≤ m
above_from i [] n j m a b = b
above_from i (None ∷ ss) n j m a b = above_from (suc i) ss n j m a b
above_from i (Some x ∷ ss) n j m a b = a

pub above-set : (i : ℕ) (r : KvRecord) (ss : Slots) (k n m : ℕ) → above_highest i ss n ≤ m → i + k < m → n ≤ m → above_highest i (set ss k (Some r)) n ≤ m
above-set i r [] k n m a lt b = b
above-set i r (None ∷ ss) zero n m a lt b = above_from (suc i) ss n (suc i) m a (omega arith)
above-set i r (Some x ∷ ss) zero n m a lt b = a
above-set i r (None ∷ ss) (suc k) n m a lt b = above-set (suc i) r ss k n m a (omega arith) b
above-set i r (Some x ∷ ss) (suc k) n m a lt b = above-set (suc i) r ss k (suc i) m a (omega arith) (omega arith)

-- The lowest record of a pair that isn't marked becomes another, or none.
first_open : (q : KvRecord → Bool) (x : Option KvRecord) (ss : Slots) → has q (open_records (x ∷ ss)) ≡ (on_open q x || has q (open_records ss))
first_open q (Some r) ss = refl
first_open q None ss = refl

-- a test that fails before and after says what it said
pub has-on : (q : KvRecord → Bool) (p : Pair) (f : KvRecord → Option KvRecord) → ((r : KvRecord) → is_unmarked_of p r ≡ true → (q r ≡ false) × (on_open q (f r) ≡ false)) → (ss : Slots)
    → has q (open_records (on_unmarked p f ss)) ≡ has q (open_records ss)
has-on q p f fails [] = refl
has-on q p f fails (None ∷ ss) = has-on q p f fails ss
has-on q p f fails (Some r ∷ ss) = by (is_unmarked_of p r) refl (has-on q p f fails ss)
  where
    by : (b : Bool) → is_unmarked_of p r ≡ b → has q (open_records (on_unmarked p f ss)) ≡ has q (open_records ss)
        → has q (open_records (if b then f r ∷ ss else Some r ∷ on_unmarked p f ss)) ≡ (q r || has q (open_records ss))
    by true e ih = first_open q (f r) ss ∙ ap (λ b. b || has q (open_records ss)) ((fails r e).1 ∙ sym (fails r e).0)
    by false e ih = ap (λ b. q r || b) ih

-- the pair has none that isn't marked, where it had one at most
pub none-on : (p : Pair) (f : KvRecord → Option KvRecord) → ((r : KvRecord) → on_open (is_unmarked_of p) (f r) ≡ false) → (ss : Slots) → how_many (is_record_of p) (open_records ss) ≤ 1
    → has (is_unmarked_of p) (open_records (on_unmarked p f ss)) ≡ false
none-on p f fails [] le = refl
none-on p f fails (None ∷ ss) le = none-on p f fails ss le
none-on p f fails (Some r ∷ ss) le = by (is_unmarked_of p r) refl (is_record_of p r) refl le (none-on p f fails ss)
  where
    none_of : has (is_record_of p) (open_records ss) ≡ false → has (is_unmarked_of p) (open_records ss) ≡ false
    none_of n = less (open_records ss) n
      where
        less : (rs : List KvRecord) → has (is_record_of p) rs ≡ false → has (is_unmarked_of p) rs ≡ false
        less [] n = refl
        less (x ∷ rs) n = split (is_record_of p x) n (less rs)
          where
            split : (a : Bool) → (a || has (is_record_of p) rs) ≡ false → (has (is_record_of p) rs ≡ false → has (is_unmarked_of p) rs ≡ false) → ((a && not x.marked) || has (is_unmarked_of p) rs) ≡ false
            split true n g = absurd cc
            split false n g = g n

    by : (b : Bool) → is_unmarked_of p r ≡ b → (c : Bool) → is_record_of p r ≡ c → (if c then suc (how_many (is_record_of p) (open_records ss)) else how_many (is_record_of p) (open_records ss)) ≤ 1
        → (how_many (is_record_of p) (open_records ss) ≤ 1 → has (is_unmarked_of p) (open_records (on_unmarked p f ss)) ≡ false)
        → has (is_unmarked_of p) (open_records (if b then f r ∷ ss else Some r ∷ on_unmarked p f ss)) ≡ false
    by true e true d le g =
        first_open (is_unmarked_of p) (f r) ss ∙ or_false (on_open (is_unmarked_of p) (f r)) (has (is_unmarked_of p) (open_records ss)) (fails r) (none_of (uncounted (is_record_of p) (open_records ss) (omega arith)))
    by true e false d le g = absurd (not_both (is_record_of p r) (and_left (is_record_of p r) (not r.marked) e) d)
    by false e true d le g = or_false (is_unmarked_of p r) (has (is_unmarked_of p) (open_records (on_unmarked p f ss))) e (g (omega arith))
    by false e false d le g = or_false (is_unmarked_of p r) (has (is_unmarked_of p) (open_records (on_unmarked p f ss))) e (g le)

-- a mark makes one that is marked
pub done-on : (p : Pair) (ss : Slots) → has (is_unmarked_of p) (open_records ss) ≡ true → has (is_done_of p) (open_records (on_unmarked p marked_record ss)) ≡ true
done-on p [] t = absurd cc
done-on p (None ∷ ss) t = done-on p ss t
done-on p (Some r ∷ ss) t = by (is_unmarked_of p r) refl t (done-on p ss)
  where
    by : (b : Bool) → is_unmarked_of p r ≡ b → (b || has (is_unmarked_of p) (open_records ss)) ≡ true
        → (has (is_unmarked_of p) (open_records ss) ≡ true → has (is_done_of p) (open_records (on_unmarked p marked_record ss)) ≡ true)
        → has (is_done_of p) (open_records (if b then Some (with_mark true r) ∷ ss else Some r ∷ on_unmarked p marked_record ss)) ≡ true
    by true e t g = or_left (is_record_of p r && true) (has (is_done_of p) (open_records ss)) (and_both (is_record_of p r) true (and_left (is_record_of p r) (not r.marked) e) refl)
    by false e t g = or_right (is_done_of p r) (has (is_done_of p) (open_records (on_unmarked p marked_record ss))) (g t)

-- it changes no count
pub count-marked : (q p : Pair) (ss : Slots) → how_many (is_record_of q) (open_records (on_unmarked p marked_record ss)) ≡ how_many (is_record_of q) (open_records ss)
count-marked q p [] = refl
count-marked q p (None ∷ ss) = count-marked q p ss
count-marked q p (Some r ∷ ss) = by (is_unmarked_of p r) (count-marked q p ss)
  where
    by : (b : Bool) → how_many (is_record_of q) (open_records (on_unmarked p marked_record ss)) ≡ how_many (is_record_of q) (open_records ss)
        → how_many (is_record_of q) (open_records (if b then Some (with_mark true r) ∷ ss else Some r ∷ on_unmarked p marked_record ss)) ≡ how_many (is_record_of q) (r ∷ open_records ss)
    by true ih = refl
    by false ih = ap (λ c. if is_record_of q r then suc c else c) ih

-- a gate that is closed only lowers it
pub count-closed : (q p : Pair) (ss : Slots) → how_many (is_record_of q) (open_records (on_unmarked p closed_record ss)) ≤ how_many (is_record_of q) (open_records ss)
count-closed q p [] = omega arith
count-closed q p (None ∷ ss) = count-closed q p ss
count-closed q p (Some r ∷ ss) = by (is_unmarked_of p r) (is_record_of q r) refl (count-closed q p ss)
  where
    by : (b c : Bool) → is_record_of q r ≡ c → how_many (is_record_of q) (open_records (on_unmarked p closed_record ss)) ≤ how_many (is_record_of q) (open_records ss)
        → how_many (is_record_of q) (open_records (if b then None ∷ ss else Some r ∷ on_unmarked p closed_record ss)) ≤ (if c then suc (how_many (is_record_of q) (open_records ss)) else how_many (is_record_of q) (open_records ss))
    by true true e ih = omega arith
    by true false e ih = omega arith
    by false true e ih = rw e (omega arith)
    by false false e ih = rw e ih

pub length-on : (p : Pair) (f : KvRecord → Option KvRecord) (ss : Slots) → length (on_unmarked p f ss) ≡ length ss
length-on p f [] = refl
length-on p f (None ∷ ss) = ap suc (length-on p f ss)
length-on p f (Some r ∷ ss) = by (is_unmarked_of p r) (length-on p f ss)
  where
    by : (b : Bool) → length (on_unmarked p f ss) ≡ length ss → length (if b then f r ∷ ss else Some r ∷ on_unmarked p f ss) ≡ suc (length ss)
    by true h = refl
    by false h = ap suc h

-- what a mark, or a gate that is closed, leaves of each
pub of-on : (P : KvRecord → Type 0) (p : Pair) (f : KvRecord → Option KvRecord) → ((r : KvRecord) → P r → OfEach P (open_records (f r ∷ []))) → (ss : Slots) → OfEach P (open_records ss)
    → OfEach P (open_records (on_unmarked p f ss))
of-on P p f keep [] h = tt
of-on P p f keep (None ∷ ss) h = of-on P p f keep ss h
of-on P p f keep (Some r ∷ ss) h = by (is_unmarked_of p r) (of-on P p f keep ss h.1)
  where
    joined : (x : Option KvRecord) → OfEach P (open_records (x ∷ [])) → OfEach P (open_records (x ∷ ss))
    joined (Some y) k = (k.0, h.1)
    joined None k = h.1

    by : (b : Bool) → OfEach P (open_records (on_unmarked p f ss)) → OfEach P (open_records (if b then f r ∷ ss else Some r ∷ on_unmarked p f ss))
    by true g = joined (f r) (keep r h.0)
    by false g = (h.0, g)

pub above-on : (p : Pair) (f : KvRecord → Option KvRecord) (i : ℕ) (ss : Slots) (n m : ℕ) → above_highest i ss n ≤ m → n ≤ m → above_highest i (on_unmarked p f ss) n ≤ m
above-on p f i [] n m a b = a
above-on p f i (None ∷ ss) n m a b = above-on p f (suc i) ss n m a b
above-on p f i (Some r ∷ ss) n m a b = by (is_unmarked_of p r) (above-on p f (suc i) ss (suc i) m a (let low = least (suc i) ss (suc i) (omega arith) in omega arith))
  where
    least : (i : ℕ) (ss : Slots) (n : ℕ) → n ≤ i → n ≤ above_highest i ss n
    least i [] n le = omega arith
    least i (None ∷ ss) n le = least (suc i) ss n (omega arith)
    least i (Some r ∷ ss) n le = let h = least (suc i) ss (suc i) (omega arith) in omega arith

    first : (x : Option KvRecord) → above_highest i (x ∷ ss) n ≤ m
    first (Some y) = a
    first None = above_from (suc i) ss (suc i) n m a b

    by : (c : Bool) → above_highest (suc i) (on_unmarked p f ss) (suc i) ≤ m → above_highest i (if c then f r ∷ ss else Some r ∷ on_unmarked p f ss) n ≤ m
    by true h = first (f r)
    by false h = h
