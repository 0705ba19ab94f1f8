-- The drafts of a store after puts, and their writes.
use Rattle.std.proofs.Common.{ℕ, suc, ◌≡◌, ◌==◌, ◌<◌, ◌≤◌, nat_lt, ◌||◌, ◌&&◌, Bool, true, false, cond, find, List, [], ◌∷◌, length, Some, None, refl, sym, subst, ap, ◌∙◌, arith}
use Rattle.std.specs.Prelude.{if◌then◌else◌}
use Rattle.std.proofs.lemmas.Bool.{eqb-true, false_from_ne_true, or_left}
use Rattle.std.proofs.lemmas.Bool.Decides.{nat_tests}
use Rattle.dtx_values.specs.Table.{how_many}
use Rattle.dtx_model.specs.Words.{has}
use Rattle.dtx_model.proofs.Bools.{or_false, or_right, or_swap}
use Rattle.history_table.proofs.Lists.{OfEach, of-more}
use Rattle.history_table.proofs.Tests.{eq_self, eq_swap}
use Rattle.heard_notes.specs.Tables.{put_onto, with_value}
use Rattle.heard_notes.specs.declared.put.Put.{Put}
use Rattle.kv_resource.specs.Store.{KvDraft, KvState, Pair, draft_of, has_draft, is_draft_of, pair_of_draft, with_draft, with_write, writes_of, wrote_key}
use Rattle.store_run.specs.Puts.{pair_of, with_put, with_puts}
use Rattle.store_run.proofs.Pairs.{counted, is_pair, pair_is}

abbrev pub Rows : Type 0
Rows = List (ℕ × ℕ)

-- keys that rise, all from this one on
abbrev pub Rising : ℕ → Rows → Type 0
Rising n [] = Unit {0}
Rising n (w ∷ ws) = (n ≤ w.0) × Rising (suc w.0) ws

pub rising_from : (n m : ℕ) (ws : Rows) → m ≤ n → Rising n ws → Rising m ws
rising_from n m [] le h = tt
rising_from n m (w ∷ ws) le h = (let a = h.0 in omega arith, h.1)

-- a value is put where a write is
pub value_written : (k v : ℕ) (ws : Rows) → with_value k v ws ≡ with_write k v ws
value_written k v [] = refl
value_written k v (w ∷ ws) = ap (λ (r : Rows). if nat_lt w.0 k then w ∷ r else if w.0 == k then (k, v) ∷ ws else (k, v) ∷ w ∷ ws) (value_written k v ws)

pub rising-with : (n k v : ℕ) (ws : Rows) → n ≤ k → Rising n ws → Rising n (with_write k v ws)
rising-with n k v [] le h = (le, tt)
rising-with n k v (w ∷ ws) le h = by (nat_lt w.0 k) (w.0 == k) refl refl (λ a. rising-with (suc w.0) k v ws a h.1)
  where
    by : (b c : Bool) → nat_lt w.0 k ≡ b → (w.0 == k) ≡ c → (suc w.0 ≤ k → Rising (suc w.0) (with_write k v ws)) → Rising n (if b then w ∷ with_write k v ws else if c then (k, v) ∷ ws else (k, v) ∷ w ∷ ws)
    by true c a d g = (h.0, g (let less : w.0 < k = grind (arith, nat_tests) in omega arith))
    by false true a d g = (le, let same : w.0 ≡ k = grind (arith, nat_tests) in rising_from (suc w.0) (suc k) ws (omega arith) h.1)
    by false false a d g = (le, (let more : k ≤ w.0 = grind (arith, nat_tests) in let other : suc k ≤ w.0 = grind (arith, nat_tests) in other, h.1))

pub wrote-with : (j k v : ℕ) (ws : Rows) → wrote_key j (with_write k v ws) ≡ ((j == k) || wrote_key j ws)
wrote-with j k v [] = refl
wrote-with j k v (w ∷ ws) = by (nat_lt w.0 k) (w.0 == k) refl (wrote-with j k v ws)
  where
    again : (a b : Bool) → (a || b) ≡ (a || (a || b))
    again true b = refl
    again false b = refl

    by : (b c : Bool) → (w.0 == k) ≡ c → wrote_key j (with_write k v ws) ≡ ((j == k) || wrote_key j ws) → wrote_key j (if b then w ∷ with_write k v ws else if c then (k, v) ∷ ws else (k, v) ∷ w ∷ ws) ≡ ((j == k) || ((j == w.0) || wrote_key j ws))
    by true c q ih = ap (λ b. (j == w.0) || b) ih ∙ or_swap (j == w.0) (j == k) (wrote_key j ws)
    by false true q ih = again (j == k) (wrote_key j ws) ∙ ap (λ n. (j == k) || ((j == n) || wrote_key j ws)) (sym (eqb-true w.0 k q))
    by false false q ih = refl

pub none_below : (k n : ℕ) (ws : Rows) → k < n → Rising n ws → wrote_key k ws ≡ false
none_below k n [] lt h = refl
none_below k n (w ∷ ws) lt h =
    or_false (k == w.0) (wrote_key k ws) (false_from_ne_true (k == w.0) (λ q. let same : k ≡ w.0 = grind (arith, nat_tests) in let a = h.0 in omega arith)) (none_below k (suc w.0) ws (let a = h.0 in omega arith) h.1)

pub length-with : (n k v : ℕ) (ws : Rows) → Rising n ws → length (with_write k v ws) ≡ (if wrote_key k ws then length ws else suc (length ws))
length-with n k v [] h = refl
length-with n k v (w ∷ ws) h = by (nat_lt w.0 k) (w.0 == k) refl refl (length-with (suc w.0) k v ws h.1)
  where
    by : (b c : Bool) → nat_lt w.0 k ≡ b → (w.0 == k) ≡ c → length (with_write k v ws) ≡ (if wrote_key k ws then length ws else suc (length ws))
        → length (if b then w ∷ with_write k v ws else if c then (k, v) ∷ ws else (k, v) ∷ w ∷ ws) ≡ (if (k == w.0) || wrote_key k ws then suc (length ws) else suc (suc (length ws)))
    by true c a d ih =
        let other : (k == w.0) ≡ false = false_from_ne_true (k == w.0) (λ q. let same : k ≡ w.0 = grind (arith, nat_tests) in let less : w.0 < k = grind (arith, nat_tests) in omega arith) in
        ap suc ih ∙ either (wrote_key k ws) ∙ ap (λ b. if b || wrote_key k ws then suc (length ws) else suc (suc (length ws))) (sym other)
      where
        either : (b : Bool) → suc (if b then length ws else suc (length ws)) ≡ (if b then suc (length ws) else suc (suc (length ws)))
        either true = refl
        either false = refl
    by false true a d ih = ap (λ b. if b || wrote_key k ws then suc (length ws) else suc (suc (length ws))) (sym (eq_swap k w.0 ∙ d))
    by false false a d ih =
        let other : (k == w.0) ≡ false = eq_swap k w.0 ∙ d in
        let more : k ≤ w.0 = grind (arith, nat_tests) in
        let less : k < suc w.0 = omega arith in
        let none : wrote_key k ws ≡ false = none_below k (suc w.0) ws less h.1 in
        ap (λ b. if b then suc (length ws) else suc (suc (length ws))) (sym (or_false (k == w.0) (wrote_key k ws) other none))

-- A draft after a put.
pair_swap : (p q : Pair) → is_pair p q ≡ is_pair q p
pair_swap p q = λ i. eq_swap p.0 q.0 i && eq_swap p.1 q.1 i

pub draft-with : (p q : Pair) (k v : ℕ) (ds : List KvDraft) → writes_of (find (is_draft_of p) (with_draft q k v ds)) ≡ (if is_pair p q then with_write k v (writes_of (find (is_draft_of p) ds)) else writes_of (find (is_draft_of p) ds))
draft-with p q k v [] = by (is_pair p q)
  where
    by : (b : Bool) → writes_of (cond b (Some (record { transaction = q.0; enlistment = q.1; writes = (k, v) ∷ [] })) None) ≡ (if b then (k, v) ∷ [] else [])
    by true = refl
    by false = refl
draft-with p q k v (d ∷ ds) = by (is_draft_of q d) (is_draft_of p d) refl refl (draft-with p q k v ds)
  where
    both : is_draft_of q d ≡ true → is_pair p q ≡ is_draft_of p d
    both e = ap (is_pair p) (pair_is q (pair_of_draft d) e)

    other : is_draft_of q d ≡ false → is_draft_of p d ≡ true → is_pair p q ≡ false
    other e f = ap (λ x. is_pair x q) (pair_is p (pair_of_draft d) f) ∙ pair_swap (pair_of_draft d) q ∙ e

    by : (b c : Bool) → is_draft_of q d ≡ b → is_draft_of p d ≡ c
        → writes_of (find (is_draft_of p) (with_draft q k v ds)) ≡ (if is_pair p q then with_write k v (writes_of (find (is_draft_of p) ds)) else writes_of (find (is_draft_of p) ds))
        → writes_of (find (is_draft_of p) (if b then record { transaction = d.transaction; enlistment = d.enlistment; writes = with_write k v d.writes } ∷ ds else d ∷ with_draft q k v ds))
        ≡ (if is_pair p q then with_write k v (writes_of (cond c (Some d) (find (is_draft_of p) ds))) else writes_of (cond c (Some d) (find (is_draft_of p) ds)))
    by true true e f ih = rw (f, both e ∙ f) refl
    by true false e f ih = rw (f, both e ∙ f) refl
    by false true e f ih = rw (f, other e f) refl
    by false false e f ih = rw f ih

pub has-with : (p q : Pair) (k v : ℕ) (ds : List KvDraft) → has (is_draft_of p) (with_draft q k v ds) ≡ (is_pair p q || has (is_draft_of p) ds)
has-with p q k v [] = refl
has-with p q k v (d ∷ ds) = by (is_draft_of q d) refl (has-with p q k v ds)
  where
    again : (a b : Bool) → (a || b) ≡ (a || (a || b))
    again true b = refl
    again false b = refl

    by : (b : Bool) → is_draft_of q d ≡ b → has (is_draft_of p) (with_draft q k v ds) ≡ (is_pair p q || has (is_draft_of p) ds)
        → has (is_draft_of p) (if b then record { transaction = d.transaction; enlistment = d.enlistment; writes = with_write k v d.writes } ∷ ds else d ∷ with_draft q k v ds) ≡ (is_pair p q || (is_draft_of p d || has (is_draft_of p) ds))
    by true e ih = again (is_draft_of p d) (has (is_draft_of p) ds) ∙ ap (λ b. b || (is_draft_of p d || has (is_draft_of p) ds)) (sym (ap (is_pair p) (pair_is q (pair_of_draft d) e)))
    by false e ih = ap (λ b. is_draft_of p d || b) ih ∙ or_swap (is_draft_of p d) (is_pair p q) (has (is_draft_of p) ds)

count_other : (p q : Pair) (k v : ℕ) (ds : List KvDraft) → is_pair p q ≡ false → how_many (is_draft_of p) (with_draft q k v ds) ≡ how_many (is_draft_of p) ds
count_other p q k v [] n = ap (λ b. if b then 1 else 0) n
count_other p q k v (d ∷ ds) n = by (is_draft_of q d) (count_other p q k v ds n)
  where
    by : (b : Bool) → how_many (is_draft_of p) (with_draft q k v ds) ≡ how_many (is_draft_of p) ds
        → how_many (is_draft_of p) (if b then record { transaction = d.transaction; enlistment = d.enlistment; writes = with_write k v d.writes } ∷ ds else d ∷ with_draft q k v ds) ≡ how_many (is_draft_of p) (d ∷ ds)
    by true ih = refl
    by false ih = ap (λ c. if is_draft_of p d then suc c else c) ih

count_own : (q : Pair) (k v : ℕ) (ds : List KvDraft) → how_many (is_draft_of q) ds ≤ 1 → how_many (is_draft_of q) (with_draft q k v ds) ≤ 1
count_own q k v [] le = by (is_pair q q)
  where
    by : (b : Bool) → (if b then 1 else 0) ≤ 1
    by true = omega arith
    by false = omega arith
count_own q k v (d ∷ ds) le = by (is_draft_of q d) refl le (count_own q k v ds)
  where
    by : (b : Bool) → is_draft_of q d ≡ b → (if b then suc (how_many (is_draft_of q) ds) else how_many (is_draft_of q) ds) ≤ 1 → (how_many (is_draft_of q) ds ≤ 1 → how_many (is_draft_of q) (with_draft q k v ds) ≤ 1)
        → how_many (is_draft_of q) (if b then record { transaction = d.transaction; enlistment = d.enlistment; writes = with_write k v d.writes } ∷ ds else d ∷ with_draft q k v ds) ≤ 1
    by true e le ih = rw e le
    by false e le ih = rw e (ih le)

pub count-with : (p q : Pair) (k v : ℕ) (ds : List KvDraft) → how_many (is_draft_of p) ds ≤ 1 → how_many (is_draft_of p) (with_draft q k v ds) ≤ 1
count-with p q k v ds le = by (is_pair p q) refl
  where
    by : (b : Bool) → is_pair p q ≡ b → how_many (is_draft_of p) (with_draft q k v ds) ≤ 1
    by true e = subst (λ x. how_many (is_draft_of x) (with_draft q k v ds) ≤ 1) (sym (pair_is p q e)) (count_own q k v ds (subst (λ x. how_many (is_draft_of x) ds ≤ 1) (pair_is p q e) le))
    by false e = subst (λ n. n ≤ 1) (sym (count_other p q k v ds e)) le

-- what holds of each draft and of each with one more write holds of all with a put
pub of-with : (P : KvDraft → Type 0) (q : Pair) (k v : ℕ) → P (record { transaction = q.0; enlistment = q.1; writes = (k, v) ∷ [] })
    → ((d : KvDraft) → is_draft_of q d ≡ true → P d → P (record { transaction = d.transaction; enlistment = d.enlistment; writes = with_write k v d.writes })) → (ds : List KvDraft) → OfEach P ds → OfEach P (with_draft q k v ds)
of-with P q k v new more [] h = (new, tt)
of-with P q k v new more (d ∷ ds) h = by (is_draft_of q d) refl (of-with P q k v new more ds h.1)
  where
    by : (b : Bool) → is_draft_of q d ≡ b → OfEach P (with_draft q k v ds)
        → OfEach P (if b then record { transaction = d.transaction; enlistment = d.enlistment; writes = with_write k v d.writes } ∷ ds else d ∷ with_draft q k v ds)
    by true e r = (more d e h.0, h.1)
    by false e r = (h.0, r)

-- each draft is what its pair wrote, where each pair has one
abbrev has_own : List KvDraft → KvDraft → Type 0
has_own ds d = has (is_draft_of (pair_of_draft d)) ds ≡ true

abbrev is_first_own : List KvDraft → KvDraft → Type 0
is_first_own ds d = d.writes ≡ writes_of (find (is_draft_of (pair_of_draft d)) ds)

own_draft : (d : KvDraft) → is_draft_of (pair_of_draft d) d ≡ true
own_draft d = λ i. (eq_self d.transaction i && eq_self d.enlistment i)

all_there : (ds : List KvDraft) → OfEach (has_own ds) ds
all_there [] = tt
all_there (d ∷ ds) = (
  or_left (is_draft_of (pair_of_draft d) d) (has (is_draft_of (pair_of_draft d)) ds) (own_draft d),
  of-more (has_own ds) (has_own (d ∷ ds)) (λ x h. or_right (is_draft_of (pair_of_draft x) d) (has (is_draft_of (pair_of_draft x)) ds) h) ds (all_there ds),
)

pub first_own : (ds : List KvDraft) → ((p : Pair) → how_many (is_draft_of p) ds ≤ 1) → OfEach (is_first_own ds) ds
first_own [] one = tt
first_own (d ∷ ds) one = (
  ap (λ b. writes_of (cond b (Some d) (find (is_draft_of (pair_of_draft d)) ds))) (sym (own_draft d)),
  both ds (λ x h k. later x (is_draft_of (pair_of_draft x) d) refl h k) (all_there ds) (first_own ds (λ p. less p (is_draft_of p d) (one p))),
)
  where
    less : (p : Pair) (b : Bool) → (if b then suc (how_many (is_draft_of p) ds) else how_many (is_draft_of p) ds) ≤ 1 → how_many (is_draft_of p) ds ≤ 1
    less p true le = omega arith
    less p false le = le

    later : (x : KvDraft) (b : Bool) → is_draft_of (pair_of_draft x) d ≡ b → has_own ds x → is_first_own ds x → is_first_own (d ∷ ds) x
    later x true e h k =
        let c = counted (is_draft_of (pair_of_draft x)) ds h in
        let same : how_many (is_draft_of (pair_of_draft x)) (d ∷ ds) ≡ suc (how_many (is_draft_of (pair_of_draft x)) ds) = ap (λ b. if b then suc (how_many (is_draft_of (pair_of_draft x)) ds) else how_many (is_draft_of (pair_of_draft x)) ds) e in
        let o = one (pair_of_draft x) in
        absurd (omega arith)
    later x false e h k = rw e k

    both : (xs : List KvDraft) → ((x : KvDraft) → has_own ds x → is_first_own ds x → is_first_own (d ∷ ds) x) → OfEach (has_own ds) xs → OfEach (is_first_own ds) xs → OfEach (is_first_own (d ∷ ds)) xs
    both [] f h k = tt
    both (x ∷ xs) f h k = (f x h.0 k.0, both xs f h.1 k.1)

-- What puts leave.
abbrev pub is_put_of : Pair → Put → Bool
is_put_of p q = is_pair p (pair_of q)

pub puts-draft : {D : Type 0} (p : Pair) (ps : List Put) (m : KvState D) → draft_of (with_puts m ps).memory p ≡ put_onto (is_put_of p) (draft_of m.memory p) ps
puts-draft p [] m = refl
puts-draft p (q ∷ ps) m =
    puts-draft p ps (with_put m q)
    ∙ ap (λ (t : Rows). put_onto (is_put_of p) t ps) (draft-with p (pair_of q) q.key q.value m.memory.drafts ∙ ap (λ (r : Rows). if is_pair p (pair_of q) then r else draft_of m.memory p) (sym (value_written q.key q.value (draft_of m.memory p))))

pub puts-has : {D : Type 0} (p : Pair) (ps : List Put) (m : KvState D) → has_draft (with_puts m ps).memory p ≡ (has (is_put_of p) ps || has_draft m.memory p)
puts-has p [] m = refl
puts-has p (q ∷ ps) m =
    puts-has p ps (with_put m q) ∙ ap (λ b. has (is_put_of p) ps || b) (has-with p (pair_of q) q.key q.value m.memory.drafts) ∙ or_swap (has (is_put_of p) ps) (is_put_of p q) (has_draft m.memory p) ∙ assoc (is_put_of p q) (has (is_put_of p) ps) (has_draft m.memory p)
  where
    assoc : (a b c : Bool) → (a || (b || c)) ≡ ((a || b) || c)
    assoc true b c = refl
    assoc false b c = refl

pub puts-one : {D : Type 0} (p : Pair) (ps : List Put) (m : KvState D) → how_many (is_draft_of p) m.memory.drafts ≤ 1 → how_many (is_draft_of p) (with_puts m ps).memory.drafts ≤ 1
puts-one p [] m le = le
puts-one p (q ∷ ps) m le = puts-one p ps (with_put m q) (count-with p (pair_of q) q.key q.value m.memory.drafts le)

-- puts change drafts alone
pub puts-rest : {D : Type 0} (ps : List Put) (m : KvState D) → ((with_puts m ps).memory.slots ≡ m.memory.slots) × ((with_puts m ps).memory.stopped ≡ m.memory.stopped)
puts-rest [] m = (refl, refl)
puts-rest (q ∷ ps) m = puts-rest ps (with_put m q)
