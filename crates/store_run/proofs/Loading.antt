-- Puts of which none is bad: a store refuses none of them.
use Rattle.std.proofs.Common.{ℕ, suc, ◌≡◌, ◌==◌, ◌≤◌, nat_le, nat_lt, ◌||◌, ◌&&◌, Bool, true, false, cond, not, find, List, [], ◌∷◌, length, Option, Some, None, refl, sym, subst, ap, ◌∙◌, arith}
use Rattle.std.specs.Prelude.{if◌then◌else◌}
use Rattle.std.proofs.lemmas.Bool.{eqb-true, eq-eqb, or_left}
use Rattle.std.proofs.lemmas.Bool.Decides.{nat_tests}
use Rattle.dtx_values.specs.declared.number.RmNo.{RmNo}
use Rattle.dtx_values.specs.declared.script.BadCause.{BadCause}
use Rattle.dtx_values.specs.declared.script.BadCause.TheVariants.{KeyTaken, NameUnknown, TooManyPuts, WrongKind}
use Rattle.dtx_values.specs.declared.script.Line.{Line}
use Rattle.dtx_model.specs.Caused.{Manager, answers}
use Rattle.dtx_model.specs.Grammar.{are_named_well, is_made_lasting_of}
use Rattle.dtx_model.specs.Words.{has, onto}
use Rattle.dtx_model.proofs.Bools.{and_both, and_left, and_never, and_right, not_both, not_false, not_true, or_case, or_right}
use Rattle.heard_notes.specs.Puts.{is_key_of, is_key_of_another, keys_of, put_fault, with_number}
use Rattle.heard_notes.specs.declared.put.Put.{Put}
use Rattle.history_table.proofs.Lists.{OfEach, of-more}
use Rattle.history_table.proofs.Scans.{has_more}
use Rattle.history_table.proofs.Tests.{eq_swap}
use Rattle.kv_resource.specs.Bytes.{KvRecord}
use Rattle.kv_resource.specs.Store.{KvDraft, KvMemory, KvState, Pair, Prepared, Stopped, busy_by, draft_of, first_refusal, has_slot, is_busy_draft, is_busy_record, is_draft_of, is_record_of, open_records, or_too_many, put_refusal, with_write, wrote_key}
use Rattle.put_lines.specs.Input.{are_good, named_in}
use Rattle.store_run.specs.Puts.{AreAllowed, pair_of, with_put}
use Rattle.store_run.proofs.Drafts.{Rising, draft-with, length-with, of-with, rising-with, wrote-with}
use Rattle.store_run.proofs.Lasting.{IsMadeBy, made_so, one_transaction}
use Rattle.store_run.proofs.Pairs.{is_pair}

-- The keys of an enlistment, as numbers and as puts.
has-with_number : (k j : ℕ) (ks : List ℕ) → has (λ f. k == f) (with_number j ks) ≡ ((k == j) || has (λ f. k == f) ks)
has-with_number k j ks = by (has (λ f. j == f) ks) (k == j) refl refl
  where
    by : (h e : Bool) → has (λ f. j == f) ks ≡ h → (k == j) ≡ e → has (λ f. k == f) (if h then ks else j ∷ ks) ≡ (e || has (λ f. k == f) ks)
    by true true p q = ap (λ n. has (λ f. n == f) ks) (eqb-true k j q) ∙ p
    by true false p q = refl
    by false e p q = ap (λ b. b || has (λ f. k == f) ks) q

has-keys_of : (e k : ℕ) (ps : List Put) → has (λ f. k == f) (keys_of e ps) ≡ has (is_key_of e k) ps
has-keys_of e k [] = refl
has-keys_of e k (p ∷ ps) = by (e == p.enlistment.value) (has-keys_of e k ps)
  where
    by : (b : Bool) → has (λ f. k == f) (keys_of e ps) ≡ has (is_key_of e k) ps → has (λ f. k == f) (if b then with_number p.key (keys_of e ps) else keys_of e ps) ≡ ((b && (k == p.key)) || has (is_key_of e k) ps)
    by true h = has-with_number k p.key (keys_of e ps) ∙ ap (λ b. (k == p.key) || b) h
    by false h = h

length-with_number : (j : ℕ) (ks : List ℕ) → length (with_number j ks) ≡ (if has (λ f. j == f) ks then length ks else suc (length ks))
length-with_number j ks = by (has (λ f. j == f) ks)
  where
    by : (b : Bool) → length (if b then ks else j ∷ ks) ≡ (if b then length ks else suc (length ks))
    by true = refl
    by false = refl

-- A store in which these were put, the newest first: it isn't stopped and has no record; each draft is of a pair that a line makes, and its keys, which rise, are those that its enlistment put.
pub record IsLoaded (s : List Line) (before : List Put) (m : KvMemory) : Type 0 where
  pub up : m.stopped ≡ false
  pub empty : open_records m.slots ≡ []
  pub made : OfEach (λ d. IsMadeBy s d.enlistment d.transaction) m.drafts
  pub owned : OfEach (λ d. (k : ℕ) → wrote_key k d.writes ≡ true → has (is_key_of d.enlistment k) before ≡ true) m.drafts
  pub rising : (p : Pair) → Rising 0 (draft_of m p)
  pub keys : (p : Pair) (k : ℕ) → IsMadeBy s p.1 p.0 → wrote_key k (draft_of m p) ≡ has (is_key_of p.1 k) before
  pub count : (p : Pair) → IsMadeBy s p.1 p.0 → length (draft_of m p) ≡ length (keys_of p.1 before)
  pub few : (e : ℕ) → length (keys_of e before) ≤ 40

module _ (s : List Line) (named : are_named_well s ≡ true) {D : Type 0} (before : List Put) (q : Put) (m : KvState D) (loaded : IsLoaded s before m.memory) (made : IsMadeBy s q.enlistment.value q.transaction.value)
    (room : (not (has (is_key_of q.enlistment.value q.key) before) && nat_le 40 (length (keys_of q.enlistment.value before))) ≡ false) (free : has (is_key_of_another q.enlistment.value q.key) before ≡ false) where
  -- no other pair's draft has the key
  none_busy : (xs : List KvDraft) → OfEach (λ d. IsMadeBy s d.enlistment d.transaction) xs → OfEach (λ d. (j : ℕ) → wrote_key j d.writes ≡ true → has (is_key_of d.enlistment j) before ≡ true) xs
      → find (is_busy_draft (pair_of q) q.key) xs ≡ None
  none_busy [] g h = refl
  none_busy (d ∷ xs) g h = by (is_busy_draft (pair_of q) q.key d) refl (none_busy xs g.1 h.1)
    where
      -- a key of another enlistment is taken
      taken : wrote_key q.key d.writes ≡ true → (q.enlistment.value == d.enlistment) ≡ false → ⊥
      taken w n =
          not_both (has (is_key_of_another q.enlistment.value q.key) before)
          (has_more (is_key_of d.enlistment q.key) (is_key_of_another q.enlistment.value q.key)
          (λ x t. and_both (not (q.enlistment.value == x.enlistment.value)) (q.key == x.key)
          (not_false (q.enlistment.value == x.enlistment.value) (ap (λ n. q.enlistment.value == n) (sym (eqb-true d.enlistment x.enlistment.value (and_left (d.enlistment == x.enlistment.value) (q.key == x.key) t))) ∙ n))
          (and_right (d.enlistment == x.enlistment.value) (q.key == x.key) t)) before (h.0 q.key w)) free

      own : is_draft_of (pair_of q) d ≡ false → (q.enlistment.value == d.enlistment) ≡ true → ⊥
      own n t =
          let same : q.enlistment.value ≡ d.enlistment = eqb-true q.enlistment.value d.enlistment t in
          let here : q.transaction.value ≡ d.transaction = one_transaction s q.enlistment.value q.transaction.value d.transaction named made (subst (λ n. IsMadeBy s n d.transaction) (sym same) g.0) in
          not_both (is_draft_of (pair_of q) d) (and_both (q.transaction.value == d.transaction) (q.enlistment.value == d.enlistment) (eq-eqb q.transaction.value d.transaction here) t) n

      split : (b : Bool) → (q.enlistment.value == d.enlistment) ≡ b → is_draft_of (pair_of q) d ≡ false → wrote_key q.key d.writes ≡ true → ⊥
      split true t n w = own n t
      split false t n w = taken w t

      by : (b : Bool) → is_busy_draft (pair_of q) q.key d ≡ b → find (is_busy_draft (pair_of q) q.key) xs ≡ None → cond b (Some d) (find (is_busy_draft (pair_of q) q.key) xs) ≡ None
      by false t ih = ih
      by true t ih =
          absurd (split (q.enlistment.value == d.enlistment) refl (not_true (is_draft_of (pair_of q) d) (and_left (not (is_draft_of (pair_of q) d)) (wrote_key q.key d.writes) t)) (and_right (not (is_draft_of (pair_of q) d)) (wrote_key q.key d.writes) t))

  -- there is room for the key
  takes : (wrote_key q.key (draft_of m.memory (pair_of q)) || nat_lt (length (draft_of m.memory (pair_of q))) 40) ≡ true
  takes = (λ i. loaded.keys (pair_of q) q.key made i || nat_lt (loaded.count (pair_of q) made i) 40) ∙ by (has (is_key_of q.enlistment.value q.key) before) room
    where
      by : (b : Bool) → (not b && nat_le 40 (length (keys_of q.enlistment.value before))) ≡ false → (b || nat_lt (length (keys_of q.enlistment.value before)) 40) ≡ true
      by true r = refl
      by false r = grind (arith, nat_tests)

  pub put_allowed : put_refusal m.memory (pair_of q) q.key ≡ None
  unfolding put_refusal
  put_allowed =
      let slot : has_slot m.memory (pair_of q) ≡ false = ap (λ (rs : List KvRecord). has (is_record_of (pair_of q)) rs) loaded.empty in
      let busy : find (is_busy_record (pair_of q) q.key) (open_records m.memory.slots) ≡ None = ap (λ (rs : List KvRecord). find (is_busy_record (pair_of q) q.key) rs) loaded.empty in
      let none = none_busy m.memory.drafts loaded.made loaded.owned in
      λ i. first_refusal (loaded.up i) Stopped (first_refusal (slot i) (Prepared q.transaction.value q.enlistment.value) (or_too_many (not (takes i)) (busy_by (busy i) (none i))))

  -- the pair of an enlistment that a line makes is the put's where the enlistment is
  own_pair : (p : Pair) → IsMadeBy s p.1 p.0 → is_pair p (pair_of q) ≡ (p.1 == q.enlistment.value)
  own_pair p g = by (p.1 == q.enlistment.value) refl
    where
      by : (b : Bool) → (p.1 == q.enlistment.value) ≡ b → ((p.0 == q.transaction.value) && (p.1 == q.enlistment.value)) ≡ b
      by true t =
          let here : p.0 ≡ q.transaction.value = one_transaction s p.1 p.0 q.transaction.value named g (subst (λ n. IsMadeBy s n q.transaction.value) (sym (eqb-true p.1 q.enlistment.value t)) made) in
          and_both (p.0 == q.transaction.value) (p.1 == q.enlistment.value) (eq-eqb p.0 q.transaction.value here) t
      by false t = ap (λ b. (p.0 == q.transaction.value) && b) t ∙ and_never (p.0 == q.transaction.value)

  drafts_now : (p : Pair) → draft_of (with_put m q).memory p ≡ (if is_pair p (pair_of q) then with_write q.key q.value (draft_of m.memory p) else draft_of m.memory p)
  drafts_now p = draft-with p (pair_of q) q.key q.value m.memory.drafts

  rising_now : (p : Pair) → Rising 0 (draft_of (with_put m q).memory p)
  rising_now p = subst (Rising 0) (sym (drafts_now p)) (by (is_pair p (pair_of q)))
    where
      by : (b : Bool) → Rising 0 (if b then with_write q.key q.value (draft_of m.memory p) else draft_of m.memory p)
      by true = rising-with 0 q.key q.value (draft_of m.memory p) (omega arith) (loaded.rising p)
      by false = loaded.rising p

  keys_now : (p : Pair) (j : ℕ) → IsMadeBy s p.1 p.0 → wrote_key j (draft_of (with_put m q).memory p) ≡ has (is_key_of p.1 j) (q ∷ before)
  keys_now p j g = ap (wrote_key j) (drafts_now p ∙ ap (λ b. if b then with_write q.key q.value (draft_of m.memory p) else draft_of m.memory p) (own_pair p g)) ∙ by (p.1 == q.enlistment.value)
    where
      by : (b : Bool) → wrote_key j (if b then with_write q.key q.value (draft_of m.memory p) else draft_of m.memory p) ≡ ((b && (j == q.key)) || has (is_key_of p.1 j) before)
      by true = wrote-with j q.key q.value (draft_of m.memory p) ∙ ap (λ b. (j == q.key) || b) (loaded.keys p j g)
      by false = loaded.keys p j g

  count_now : (p : Pair) → IsMadeBy s p.1 p.0 → length (draft_of (with_put m q).memory p) ≡ length (keys_of p.1 (q ∷ before))
  count_now p g = ap (λ (ws : List (ℕ × ℕ)). length ws) (drafts_now p ∙ ap (λ b. if b then with_write q.key q.value (draft_of m.memory p) else draft_of m.memory p) (own_pair p g)) ∙ by (p.1 == q.enlistment.value)
    where
      by : (b : Bool) → length (if b then with_write q.key q.value (draft_of m.memory p) else draft_of m.memory p) ≡ length (if b then with_number q.key (keys_of p.1 before) else keys_of p.1 before)
      by true =
          length-with 0 q.key q.value (draft_of m.memory p) (loaded.rising p)
          ∙ (λ i. if (loaded.keys p q.key g ∙ sym (has-keys_of p.1 q.key before)) i then loaded.count p g i else suc (loaded.count p g i)) ∙ sym (length-with_number q.key (keys_of p.1 before))
      by false = loaded.count p g

  few_now : (e : ℕ) → length (keys_of e (q ∷ before)) ≤ 40
  few_now e = by (e == q.enlistment.value) refl
    where
      by : (b : Bool) → (e == q.enlistment.value) ≡ b → length (if b then with_number q.key (keys_of e before) else keys_of e before) ≤ 40
      by false t = loaded.few e
      by true t = subst (λ n. n ≤ 40) (sym (length-with_number q.key (keys_of e before))) (fits (has (λ f. q.key == f) (keys_of e before)) refl)
        where
          fits : (h : Bool) → has (λ f. q.key == f) (keys_of e before) ≡ h → (if h then length (keys_of e before) else suc (length (keys_of e before))) ≤ 40
          fits true a = loaded.few e
          fits false a =
              let same : e ≡ q.enlistment.value = eqb-true e q.enlistment.value t in
              let none : has (is_key_of q.enlistment.value q.key) before ≡ false = ap (λ i. has (is_key_of i q.key) before) (sym same) ∙ sym (has-keys_of e q.key before) ∙ a in
              let less : nat_le 40 (length (keys_of q.enlistment.value before)) ≡ false = sym (ap (λ b. not b && nat_le 40 (length (keys_of q.enlistment.value before))) none) ∙ room in
              let least : nat_le 40 (length (keys_of e before)) ≡ false = ap (λ i. nat_le 40 (length (keys_of i before))) same ∙ less in
              grind (arith, nat_tests)

  -- and the store with it is loaded
  pub put_loaded : IsLoaded s (q ∷ before) (with_put m q).memory
  put_loaded = record {
    up = loaded.up;
    empty = loaded.empty;
    made = of-with (λ d. IsMadeBy s d.enlistment d.transaction) (pair_of q) q.key q.value made (λ d t g. g) m.memory.drafts loaded.made;
    owned = of-with (λ d. (j : ℕ) → wrote_key j d.writes ≡ true → has (is_key_of d.enlistment j) (q ∷ before) ≡ true) (pair_of q) q.key q.value (λ j w. first q.enlistment.value j refl w) (λ d t g j w. more d j t w g) m.memory.drafts
        (of-more (λ d. (j : ℕ) → wrote_key j d.writes ≡ true → has (is_key_of d.enlistment j) before ≡ true) (λ d. (j : ℕ) → wrote_key j d.writes ≡ true → has (is_key_of d.enlistment j) (q ∷ before) ≡ true)
        (λ d g j w. or_right (is_key_of d.enlistment j q) (has (is_key_of d.enlistment j) before) (g j w)) m.memory.drafts loaded.owned);
    rising = rising_now;
    keys = keys_now;
    count = count_now;
    few = few_now;
  }
    where
      first : (n j : ℕ) → n ≡ q.enlistment.value → ((j == q.key) || false) ≡ true → has (is_key_of n j) (q ∷ before) ≡ true
      first n j same w =
          or_left (is_key_of n j q) (has (is_key_of n j) before) (and_both (n == q.enlistment.value) (j == q.key) (eq-eqb n q.enlistment.value same) (or_case (j == q.key) false (λ a. a) (λ a. absurd cc) w))

      more : (d : KvDraft) (j : ℕ) → is_draft_of (pair_of q) d ≡ true → wrote_key j (with_write q.key q.value d.writes) ≡ true → ((i : ℕ) → wrote_key i d.writes ≡ true → has (is_key_of d.enlistment i) (q ∷ before) ≡ true)
          → has (is_key_of d.enlistment j) (q ∷ before) ≡ true
      more d j t w g =
          or_case (j == q.key) (wrote_key j d.writes)
          (λ a. first d.enlistment j (sym (eqb-true q.enlistment.value d.enlistment (and_right (q.transaction.value == d.transaction) (q.enlistment.value == d.enlistment) t))) (or_left (j == q.key) false a))
          (λ a. g j a) (sym (wrote-with j q.key q.value d.writes) ∙ w)

-- What a put that isn't bad keeps.
no_fault : (a b c d : Bool) → (if not a then Some NameUnknown else if not b then Some WrongKind else if c then Some TooManyPuts else if d then Some KeyTaken else None) ≡ None → (b ≡ true) × (c ≡ false) × (d ≡ false)
no_fault true true false false q = (refl, refl, refl)
no_fault true true false true q = absurd cc
no_fault true true true d q = absurd cc
no_fault true false c d q = absurd cc
no_fault false b c d q = absurd cc

-- the first put is good, and the others after it
good_first : (s : List Line) (r : RmNo) (before : List Put) (p : Put) (ps : List Put) → are_good 40 s (Manager r) before (p ∷ ps) ≡ true
    → (put_fault 40 (named_in s (Manager r) p) before p ≡ None) × (are_good 40 s (Manager r) (p ∷ before) ps ≡ true)
good_first s r before p ps h = (by (put_fault 40 (named_in s (Manager r) p) before p) refl, and_right _ (are_good 40 s (Manager r) (p ∷ before) ps) h)
  where
    by : (o : Option BadCause) → put_fault 40 (named_in s (Manager r) p) before p ≡ o → o ≡ None
    by None e = refl
    by (Some c) e = absurd (let bad = rw e at h in cc)

-- each put is of a line, and of one of the manager's
abbrev pub IsMade : List Line → RmNo → Put → Type 0
IsMade s r p = IsMadeBy s p.enlistment.value p.transaction.value × (answers s (Manager r) p.enlistment.value ≡ true)

-- no key is put for two enlistments
abbrev pub AreApart : List Put → Type 0
AreApart ps = (e k : ℕ) → has (is_key_of e k) ps ≡ true → has (is_key_of_another e k) ps ≡ false

apart_more : (before : List Put) (p : Put) → has (is_key_of_another p.enlistment.value p.key) before ≡ false → AreApart before → AreApart (p ∷ before)
apart_more before p free apart e k h = by (e == p.enlistment.value) (k == p.key) refl refl h
  where
    by : (a b : Bool) → (e == p.enlistment.value) ≡ a → (k == p.key) ≡ b → ((a && b) || has (is_key_of e k) before) ≡ true → ((not a && b) || has (is_key_of_another e k) before) ≡ false
    by true true q w h =
        subst (λ n. has (is_key_of_another n k) before ≡ false) (sym (eqb-true e p.enlistment.value q)) (subst (λ n. has (is_key_of_another p.enlistment.value n) before ≡ false) (sym (eqb-true k p.key w)) free)
    by true false q w h = apart e k h
    by false true q w h =
        absurd (not_both (has (is_key_of_another p.enlistment.value p.key) before)
        (has_more (is_key_of e k) (is_key_of_another p.enlistment.value p.key)
        (λ x t. and_both (not (p.enlistment.value == x.enlistment.value)) (p.key == x.key)
        (not_false (p.enlistment.value == x.enlistment.value) (ap (λ n. p.enlistment.value == n) (sym (eqb-true e x.enlistment.value (and_left (e == x.enlistment.value) (k == x.key) t))) ∙ eq_swap p.enlistment.value e ∙ q))
        (ap (λ n. n == x.key) (sym (eqb-true k p.key w)) ∙ and_right (e == x.enlistment.value) (k == x.key) t)) before h) free)
    by false false q w h = apart e k h

-- So a store refuses none of them.
pub good_allowed : (s : List Line) (r : RmNo) → are_named_well s ≡ true → {D : Type 0} (before ps : List Put) (m : KvState D) → IsLoaded s before m.memory → AreApart before → are_good 40 s (Manager r) before ps ≡ true
    → AreAllowed m ps × OfEach (IsMade s r) ps × AreApart (onto before ps)
good_allowed s r named before [] m l a h = (tt, tt, a)
good_allowed s r named before (p ∷ ps) m l a h =
    let first = good_first s r before p ps h in
    let kept = no_fault (named_in s (Manager r) p).made (named_in s (Manager r) p).right (not (has (is_key_of p.enlistment.value p.key) before) && nat_le 40 (length (keys_of p.enlistment.value before)))
    (has (is_key_of_another p.enlistment.value p.key) before) first.0 in
    let lasting = and_left (is_made_lasting_of s p.transaction.value p.enlistment.value) (answers s (Manager r) p.enlistment.value) kept.0 in
    let own = and_right (is_made_lasting_of s p.transaction.value p.enlistment.value) (answers s (Manager r) p.enlistment.value) kept.0 in
    let made : IsMadeBy s p.enlistment.value p.transaction.value = made_so s p.transaction.value p.enlistment.value lasting in
    let rest = good_allowed s r named (p ∷ before) ps (with_put m p) (put_loaded s named before p m l made kept.1 kept.2) (apart_more before p kept.2 a) first.1 in
    ((put_allowed s named before p m l made kept.1 kept.2, rest.0), ((made, own), rest.1), rest.2)
