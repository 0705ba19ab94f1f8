-- The marks of a pair in the records of a store's slots, and what the work of a note makes of them.
use Rattle.std.specs.Prelude.{find, map}
use Rattle.std.proofs.Common.{◌≡◌, inl, inr, ℕ, zero, suc, ◌+◌, ◌≤◌, ◌<◌, ◌==◌, Bool, true, false, not, ◌&&◌, ◌||◌, cond, nat_lt, List, [], ◌∷◌, ◌++◌, length, set, Option, Some, None, refl, sym, ap, ◌∙◌, arith}
use Rattle.std.proofs.lemmas.Bool.{and_parts, cases_Bool}
use Rattle.std.proofs.lemmas.Bool.Decides.{nat_tests}
use Rattle.dtx_model.specs.Outcome.{is_empty}
use Rattle.dtx_model.specs.Words.{has}
use Rattle.kv_resource.specs.Bytes.{KvRecord}
use Rattle.kv_resource.specs.Held.{record_held}
use Rattle.kv_resource.specs.Notes.{closed_record, marked_record, on_unmarked}
use Rattle.kv_resource.specs.Store.{Pair, above_highest, is_marked_record, is_record_of, is_unmarked_of, next_slot, open_records}
use Rattle.kv_resource.proofs.Finding.{Slots}
use Rattle.all_or_nothing.specs.Marks.{marks_in}
use Rattle.kv_holding.specs.Holding.{is_pair}
use Rattle.kv_holding.proofs.Marks.{leads, on_first}

-- the marks of a pair in these records
abbrev pub marks_at : Pair → List KvRecord → List Bool
marks_at q rs = marks_in q.0 q.1 (map (record_held false) rs)

-- ---- what a store finds of a pair, by its marks

pub found_held : (q : Pair) (rs : List KvRecord) → has (is_record_of q) rs ≡ not (is_empty (marks_at q rs))
found_held q [] = refl
found_held q (r ∷ rs) = by (is_record_of q r) (found_held q rs)
  where
    by : (b : Bool) → has (is_record_of q) rs ≡ not (is_empty (marks_at q rs)) → b || has (is_record_of q) rs ≡ not (is_empty (cond b (r.marked ∷ marks_at q rs) (marks_at q rs)))
    by true e = refl
    by false e = e

pub found_lead : (q : Pair) (rs : List KvRecord) → is_marked_record (find (is_record_of q) rs) ≡ leads (marks_at q rs)
found_lead q [] = refl
found_lead q (r ∷ rs) = by (is_record_of q r) (found_lead q rs)
  where
    by : (b : Bool) → is_marked_record (find (is_record_of q) rs) ≡ leads (marks_at q rs) → is_marked_record (cond b (Some r) (find (is_record_of q) rs)) ≡ leads (cond b (r.marked ∷ marks_at q rs) (marks_at q rs))
    by true e = refl
    by false e = e

pub found_unmarked : (q : Pair) (rs : List KvRecord) → has (is_unmarked_of q) rs ≡ has not (marks_at q rs)
found_unmarked q [] = refl
found_unmarked q (r ∷ rs) = by (is_record_of q r) (found_unmarked q rs)
  where
    by : (b : Bool) → has (is_unmarked_of q) rs ≡ has not (marks_at q rs) → (b && not r.marked) || has (is_unmarked_of q) rs ≡ has not (cond b (r.marked ∷ marks_at q rs) (marks_at q rs))
    by true e = ap (λ (x : Bool). not r.marked || x) e
    by false e = e

-- ---- pairs

-- a number is itself by the test
pub itself : (n : ℕ) → (n == n) ≡ true
itself n = grind (arith, nat_tests)

pub own_pair : (p : Pair) (m : Bool) (ws : List (ℕ × ℕ)) → is_record_of p (record { transaction = p.0; enlistment = p.1; writes = ws; marked = m }) ≡ true
own_pair p m ws = rw (itself p.0) (itself p.1)

same_numbers : (a b c d : ℕ) → (a == b) && (c == d) ≡ true → (a ≡ b) × (c ≡ d)
same_numbers a b c d e = let h = and_parts (a == b) (c == d) e in let l = h.0 in let r = h.1 in (grind (arith, nat_tests), grind (arith, nat_tests))

pub pair_is : (p q : Pair) → is_pair p q.0 q.1 ≡ true → q ≡ p
pair_is p q e = let h = same_numbers p.0 q.0 p.1 q.1 e in λ i. (sym h.0 i, sym h.1 i)

-- a record of a pair isn't another's
pub other_pair : (p q : Pair) (r : KvRecord) → is_pair p q.0 q.1 ≡ false → is_record_of p r ≡ true → is_record_of q r ≡ false
other_pair p q r other own = elim (cases_Bool (is_record_of q r)) [
  | inr apart ↦ apart
  | inl too ↦
      let a = same_numbers p.0 r.transaction p.1 r.enlistment own in
      let b = same_numbers q.0 r.transaction q.1 r.enlistment too in
      let same : is_pair p q.0 q.1 ≡ true = rw (a.0 ∙ sym b.0, a.1 ∙ sym b.1, itself q.0) (itself q.1) in
      absurd (let both : true ≡ false = sym same ∙ other in cc)
]

-- ---- one more record

pub one_more : (q : Pair) (rs : List KvRecord) (r : KvRecord) → marks_at q (rs ++ r ∷ []) ≡ marks_at q rs ++ marks_at q (r ∷ [])
one_more q [] r = refl
one_more q (x ∷ rs) r = by (is_record_of q x) (one_more q rs r)
  where
    by : (b : Bool) → marks_at q (rs ++ r ∷ []) ≡ marks_at q rs ++ marks_at q (r ∷ [])
        → cond b (x.marked ∷ marks_at q (rs ++ r ∷ [])) (marks_at q (rs ++ r ∷ [])) ≡ cond b (x.marked ∷ marks_at q rs) (marks_at q rs) ++ marks_at q (r ∷ [])
    by true e = ap (λ (l : List Bool). x.marked ∷ l) e
    by false e = e

-- one of the pair adds its mark, one of another nothing
pub own_more : (p : Pair) (rs : List KvRecord) (r : KvRecord) → is_record_of p r ≡ true → marks_at p (rs ++ r ∷ []) ≡ marks_at p rs ++ r.marked ∷ []
own_more p rs r e = one_more p rs r ∙ ap (λ (b : Bool). marks_at p rs ++ cond b (r.marked ∷ []) []) e

pub none_after : (l : List Bool) → l ++ [] ≡ l
none_after [] = refl
none_after (b ∷ l) = ap (λ (k : List Bool). b ∷ k) (none_after l)

pub other_more : (q : Pair) (rs : List KvRecord) (r : KvRecord) → is_record_of q r ≡ false → marks_at q (rs ++ r ∷ []) ≡ marks_at q rs
other_more q rs r e = one_more q rs r ∙ ap (λ (b : Bool). marks_at q rs ++ cond b (r.marked ∷ []) []) e ∙ none_after (marks_at q rs)

-- the slot after the highest is none that was counted
least : (i : ℕ) (ss : Slots) (n : ℕ) → n ≤ i → n ≤ above_highest i ss n
least i [] n le = omega arith
least i (None ∷ ss) n le = least (suc i) ss n (omega arith)
least i (Some r ∷ ss) n le = let h = least (suc i) ss (suc i) (omega arith) in omega arith

-- where it is below these, all of them are closed
all_closed : (i : ℕ) (ss : Slots) (n : ℕ) → n < i → above_highest i ss n < i → open_records ss ≡ []
all_closed i [] n lt h = refl
all_closed i (None ∷ ss) n lt h = all_closed (suc i) ss n (omega arith) (omega arith)
all_closed i (Some r ∷ ss) n lt h = absurd (let low = least (suc i) ss (suc i) (omega arith) in omega arith)

-- a record that is put there comes after all others
put_last : (i : ℕ) (ss : Slots) (n k : ℕ) (r : KvRecord) → above_highest i ss n ≡ i + k → n ≤ i → k < length ss → open_records (set ss k (Some r)) ≡ open_records ss ++ r ∷ []
put_last i [] n k r e le lt = absurd (omega arith)
put_last i (None ∷ ss) n zero r e le lt = let none : open_records ss ≡ [] = all_closed (suc i) ss n (omega arith) (omega arith) in rw none refl
put_last i (None ∷ ss) n (suc k) r e le lt = put_last (suc i) ss n k r (e ∙ (omega arith)) (omega arith) (omega arith)
put_last i (Some x ∷ ss) n zero r e le lt = absurd (let low = least (suc i) ss (suc i) (omega arith) in omega arith)
put_last i (Some x ∷ ss) n (suc k) r e le lt = ap (λ (l : List KvRecord). x ∷ l) (put_last (suc i) ss (suc i) k r (e ∙ (omega arith)) (omega arith) (omega arith))

-- so a record in the next slot comes last
pub in_next : (ss : Slots) (k : ℕ) (r : KvRecord) → length ss ≡ 1024 → next_slot ss ≡ Some k → open_records (set ss k (Some r)) ≡ open_records ss ++ r ∷ []
in_next ss k r many e =
    let f = facts (above_highest 0 ss 0) k (nat_lt (above_highest 0 ss 0) 1024) refl e in
    put_last 0 ss 0 k r (omega (arith, f.1)) (omega arith) (omega (arith, many, f.0))
  where
    facts : (h k : ℕ) (b : Bool) → nat_lt h 1024 ≡ b → cond b (Some h) None ≡ Some k → (k < 1024) × (h ≡ k)
    facts h k true t e = let is : h ≡ k = cc in (grind (arith, nat_tests), is)
    facts h k false t e = absurd cc

-- ---- the first unmarked record of a pair becomes another, or goes

slot_joined : (q : Pair) (s : Option KvRecord) (ss : Slots) → marks_at q (open_records (s ∷ ss)) ≡ marks_at q (open_records (s ∷ [])) ++ marks_at q (open_records ss)
slot_joined q None ss = refl
slot_joined q (Some r) ss = by (is_record_of q r)
  where
    by : (b : Bool) → cond b (r.marked ∷ marks_at q (open_records ss)) (marks_at q (open_records ss)) ≡ cond b (r.marked ∷ []) [] ++ marks_at q (open_records ss)
    by true = refl
    by false = refl

-- its own mark changes
pub own_first : (p : Pair) (f : KvRecord → Option KvRecord) (x : List Bool) → ((r : KvRecord) → is_record_of p r ≡ true → marks_at p (open_records (f r ∷ [])) ≡ x)
    → (ss : Slots) → marks_at p (open_records (on_unmarked p f ss)) ≡ on_first x (marks_at p (open_records ss))
own_first p f x made [] = refl
own_first p f x made (None ∷ ss) = own_first p f x made ss
own_first p f x made (Some r ∷ ss) = by (is_record_of p r) r.marked refl refl (own_first p f x made ss)
  where
    by : (b m : Bool) → is_record_of p r ≡ b → r.marked ≡ m → marks_at p (open_records (on_unmarked p f ss)) ≡ on_first x (marks_at p (open_records ss))
        → marks_at p (open_records (cond (b && not m) (f r ∷ ss) (Some r ∷ on_unmarked p f ss))) ≡ on_first x (cond b (m ∷ marks_at p (open_records ss)) (marks_at p (open_records ss)))
    by true false own mark rest = slot_joined p (f r) ss ∙ ap (λ (l : List Bool). l ++ marks_at p (open_records ss)) (made r own)
    by true true own mark rest = rw (own, mark) (ap (λ (l : List Bool). true ∷ l) rest)
    by false m own mark rest = rw own rest

-- those of others don't
pub other_first : (p q : Pair) (f : KvRecord → Option KvRecord) → ((r : KvRecord) → is_record_of q r ≡ false → marks_at q (open_records (f r ∷ [])) ≡ []) → is_pair p q.0 q.1 ≡ false
    → (ss : Slots) → marks_at q (open_records (on_unmarked p f ss)) ≡ marks_at q (open_records ss)
other_first p q f made other [] = refl
other_first p q f made other (None ∷ ss) = other_first p q f made other ss
other_first p q f made other (Some r ∷ ss) = by (is_unmarked_of p r) refl (ap (λ (l : List Bool). cond (is_record_of q r) (r.marked ∷ l) l) (other_first p q f made other ss))
  where
    by : (b : Bool) → is_unmarked_of p r ≡ b → marks_at q (open_records (Some r ∷ on_unmarked p f ss)) ≡ marks_at q (open_records (Some r ∷ ss))
        → marks_at q (open_records (cond b (f r ∷ ss) (Some r ∷ on_unmarked p f ss))) ≡ marks_at q (open_records (Some r ∷ ss))
    by true is rest =
        let apart : is_record_of q r ≡ false = other_pair p q r other (and_parts (is_record_of p r) (not r.marked) is).0 in
        slot_joined q (f r) ss ∙ ap (λ (l : List Bool). l ++ marks_at q (open_records ss)) (made r apart) ∙ sym (ap (λ (b : Bool). cond b (r.marked ∷ marks_at q (open_records ss)) (marks_at q (open_records ss))) apart)
    by false is rest = rest

pub own_marked : (p : Pair) (ss : Slots) → marks_at p (open_records (on_unmarked p marked_record ss)) ≡ on_first (true ∷ []) (marks_at p (open_records ss))
own_marked p ss = own_first p marked_record (true ∷ []) (λ r own. ap (λ (b : Bool). cond b (true ∷ []) []) own) ss

pub own_closed : (p : Pair) (ss : Slots) → marks_at p (open_records (on_unmarked p closed_record ss)) ≡ on_first [] (marks_at p (open_records ss))
own_closed p ss = own_first p closed_record [] (λ r own. refl) ss

pub other_marked : (p q : Pair) (ss : Slots) → is_pair p q.0 q.1 ≡ false → marks_at q (open_records (on_unmarked p marked_record ss)) ≡ marks_at q (open_records ss)
other_marked p q ss other = other_first p q marked_record (λ r apart. ap (λ (b : Bool). cond b (true ∷ []) []) apart) other ss

pub other_closed : (p q : Pair) (ss : Slots) → is_pair p q.0 q.1 ≡ false → marks_at q (open_records (on_unmarked p closed_record ss)) ≡ marks_at q (open_records ss)
other_closed p q ss other = other_first p q closed_record (λ r apart. refl) other ss
