-- A store with puts of which none is bad, before a run.
use Rattle.std.proofs.Common.{ℕ, suc, ◌≡◌, ◌==◌, ◌+◌, ◌≤◌, ◌||◌, ◌&&◌, Bool, true, false, not, find, List, [], ◌∷◌, length, Some, None, refl, sym, subst, ap, ◌∙◌, arith}
use Rattle.std.specs.Prelude.{if◌then◌else◌}
use Rattle.std.specs.List.{slice_get}
use Rattle.std.proofs.lemmas.Bool.{eq-eqb, eqb-true, or_left}
use Rattle.dtx_values.specs.declared.number.RmNo.{RmNo}
use Rattle.dtx_values.specs.declared.script.Line.{Line}
use Rattle.dtx_values.specs.Table.{how_many}
use Rattle.dtx_model.specs.Caused.{Manager}
use Rattle.dtx_model.specs.Grammar.{are_named_well}
use Rattle.dtx_model.specs.Words.{has, onto}
use Rattle.dtx_model.proofs.Bools.{and_both, not_both, or_first, or_second}
use Rattle.dtx_model.proofs.Reading.{has-onto}
use Rattle.heard_notes.specs.Puts.{is_key_of, is_key_of_another, putters}
use Rattle.heard_notes.specs.Tables.{put_onto}
use Rattle.heard_notes.specs.declared.put.Put.{Put}
use Rattle.history_table.proofs.Lists.{OfEach, has-at, of-at}
use Rattle.history_table.proofs.Tests.{eq_self, eq_swap}
use Rattle.kv_resource.specs.Bytes.{KvRecord}
use Rattle.kv_resource.specs.Store.{KvDraft, KvMemory, KvState, Pair, above_highest, draft_of, has_draft, has_unmarked, is_draft_of, is_record_of, is_unmarked_of, open_records, pair_of_record, with_draft, with_write, writes_of, wrote_key}
use Rattle.put_lines.specs.Input.{are_good}
use Rattle.store_run.specs.Puts.{AreAllowed, IsBlank, pair_of, with_put, with_puts}
use Rattle.store_run.proofs.Acts.{Gone, IsOf, has_done, status, status_by}
use Rattle.store_run.proofs.Drafts.{Rising, Rows, count-with, first_own, is_put_of, of-with, puts-draft, puts-has, puts-one, puts-rest}
use Rattle.store_run.proofs.Following.{is_drafted}
use Rattle.store_run.proofs.Lasting.{IsMadeBy, one_transaction}
use Rattle.store_run.proofs.Loading.{AreApart, IsLoaded, IsMade, good_allowed}
use Rattle.store_run.proofs.Pairs.{Slots, is_done_of, is_pair}

-- no draft of it is found
none_drafted : (m : KvMemory) (p : Pair) → IsBlank m → draft_of m p ≡ []
none_drafted m p b = ap (λ (ds : List KvDraft). writes_of (find (is_draft_of p) ds)) b.undrafted

blank_loaded : (s : List Line) (m : KvMemory) → IsBlank m → IsLoaded s [] m
blank_loaded s m b = record {
  up = b.up;
  empty = b.empty;
  made = subst (OfEach (λ d. IsMadeBy s d.enlistment d.transaction)) (sym b.undrafted) tt;
  owned = subst (OfEach (λ d. (k : ℕ) → wrote_key k d.writes ≡ true → has (is_key_of d.enlistment k) [] ≡ true)) (sym b.undrafted) tt;
  rising = λ p. subst (Rising 0) (sym (none_drafted m p b)) tt;
  keys = λ p k g. ap (wrote_key k) (none_drafted m p b);
  count = λ p g. ap (λ (ws : Rows). length ws) (none_drafted m p b);
  few = λ e. omega arith;
}

-- What is known of puts of which none is bad.
pub record AreFine (s : List Line) (r : RmNo) (ps : List Put) : Type 0 where
  pub made : OfEach (IsMade s r) ps
  pub apart : (k n : ℕ) (x : Put) → slice_get ps n ≡ Some x → (k == x.key) ≡ true → OfEach (λ q. (k == q.key) ≡ true → is_pair (pair_of x) (pair_of q) ≡ true) ps

fine_apart : (s : List Line) (r : RmNo) → are_named_well s ≡ true → (ps : List Put) → OfEach (IsMade s r) ps → AreApart (onto [] ps) → (k n : ℕ) (x : Put) → slice_get ps n ≡ Some x → (k == x.key) ≡ true
    → OfEach (λ q. (k == q.key) ≡ true → is_pair (pair_of x) (pair_of q) ≡ true) ps
fine_apart s r named ps made apart k n x stands key = by ps made none
  where
    it_made : IsMadeBy s x.enlistment.value x.transaction.value
    it_made = (of-at (IsMade s r) ps n x made stands).0

    here : has (is_key_of x.enlistment.value k) ps ≡ true
    here = has-at (is_key_of x.enlistment.value k) ps n x stands (and_both (x.enlistment.value == x.enlistment.value) (k == x.key) (eq_self x.enlistment.value) key)

    none : has (is_key_of_another x.enlistment.value k) ps ≡ false
    none = or_first (has (is_key_of_another x.enlistment.value k) ps) false
        (sym (has-onto (is_key_of_another x.enlistment.value k) [] ps) ∙ apart x.enlistment.value k (has-onto (is_key_of x.enlistment.value k) [] ps ∙ or_left (has (is_key_of x.enlistment.value k) ps) false here))

    by : (xs : List Put) → OfEach (IsMade s r) xs → has (is_key_of_another x.enlistment.value k) xs ≡ false → OfEach (λ q. (k == q.key) ≡ true → is_pair (pair_of x) (pair_of q) ≡ true) xs
    by [] g n = tt
    by (q ∷ xs) g n = (λ t. split (x.enlistment.value == q.enlistment.value) refl t (or_first (is_key_of_another x.enlistment.value k q) (has (is_key_of_another x.enlistment.value k) xs) n), by xs g.1 (or_second (is_key_of_another x.enlistment.value k q) (has (is_key_of_another x.enlistment.value k) xs) n))
      where
        split : (b : Bool) → (x.enlistment.value == q.enlistment.value) ≡ b → (k == q.key) ≡ true → (not (x.enlistment.value == q.enlistment.value) && (k == q.key)) ≡ false → is_pair (pair_of x) (pair_of q) ≡ true
        split true w t f =
            let same : x.transaction.value ≡ q.transaction.value = one_transaction s x.enlistment.value x.transaction.value q.transaction.value named it_made (subst (λ n. IsMadeBy s n q.transaction.value) (sym (eqb-true x.enlistment.value q.enlistment.value w)) g.0.0) in
            and_both (x.transaction.value == q.transaction.value) (x.enlistment.value == q.enlistment.value) (eq-eqb x.transaction.value q.transaction.value same) w
        split false w t f = absurd (not_both (not (x.enlistment.value == q.enlistment.value) && (k == q.key)) (and_both (not (x.enlistment.value == q.enlistment.value)) (k == q.key) (ap not w) t) f)

pub good_puts : (s : List Line) (r : RmNo) {D : Type 0} (ps : List Put) (m : KvState D) → are_named_well s ≡ true → IsBlank m.memory → are_good 40 s (Manager r) [] ps ≡ true → AreAllowed m ps × AreFine s r ps
good_puts s r ps m named blank good =
    let g = good_allowed s r named [] ps m (blank_loaded s m.memory blank) (λ e k h. refl) good in
    (g.0, record { made = g.1; apart = fine_apart s r named ps g.1 g.2 })

-- The store with them.
module _ (s : List Line) (r : RmNo) (named : are_named_well s ≡ true) {D : Type 0} (ps : List Put) (m : KvState D) (blank : IsBlank m.memory) (fine : AreFine s r ps) where
  abbrev pub from : KvState D
  from = with_puts m ps

  -- what each pair wrote
  abbrev pub written : Pair → Rows
  written p = draft_of from.memory p

  no_records : open_records from.memory.slots ≡ []
  no_records = ap (λ (ss : Slots). open_records ss) (puts-rest ps m).0 ∙ blank.empty

  drafts_once : (p : Pair) → how_many (is_draft_of p) from.memory.drafts ≤ 1
  drafts_once p = puts-one p ps m (subst (λ (ds : List KvDraft). how_many (is_draft_of p) ds ≤ 1) (sym blank.undrafted) (omega arith))

  pub starts : IsOf written from.memory
  starts = record {
    up = (puts-rest ps m).1 ∙ blank.up;
    many = ap (λ (ss : Slots). length ss) (puts-rest ps m).0 ∙ blank.many;
    one = λ p. (let a = drafts_once p in let b : how_many (is_record_of p) (open_records from.memory.slots) ≡ 0 = ap (λ (rs : List KvRecord). how_many (is_record_of p) rs) no_records in omega arith);
    drafts = first_own from.memory.drafts drafts_once;
    records = subst (OfEach (λ r. r.writes ≡ written (pair_of_record r))) (sym no_records) tt;
  }

  pub wrote_puts : (p : Pair) → written p ≡ put_onto (is_put_of p) [] ps
  wrote_puts p = puts-draft p ps m ∙ ap (λ (t : Rows). put_onto (is_put_of p) t ps) (none_drafted m.memory p blank)

  pub begun : (p : Pair) → is_drafted (status from.memory p) ≡ false → status from.memory p ≡ Gone
  begun p = by (has_draft from.memory p) (has_unmarked from.memory p) (has_done from.memory p) (ap (λ (rs : List KvRecord). has (is_unmarked_of p) rs) no_records) (ap (λ (rs : List KvRecord). has (is_done_of p) rs) no_records)
    where
      by : (d u k : Bool) → u ≡ false → k ≡ false → is_drafted (status_by d u k) ≡ false → status_by d u k ≡ Gone
      by true u k a b f = absurd cc
      by false true k a b f = absurd cc
      by false false true a b f = absurd cc
      by false false false a b f = refl

  -- a pair has a draft where it has a put
  pub drafted_puts : (p : Pair) → is_drafted (status from.memory p) ≡ has (is_put_of p) ps
  drafted_puts p =
      by (has_draft from.memory p) (has_unmarked from.memory p) (has_done from.memory p) ∙ puts-has p ps m ∙ ap (λ b. has (is_put_of p) ps || b) (ap (λ (ds : List KvDraft). has (is_draft_of p) ds) blank.undrafted) ∙ or_none (has (is_put_of p) ps)
    where
      by : (d u k : Bool) → is_drafted (status_by d u k) ≡ d
      by true u k = refl
      by false true k = refl
      by false false true = refl
      by false false false = refl

      or_none : (b : Bool) → (b || false) ≡ b
      or_none true = refl
      or_none false = refl

  -- There are as many drafts at most as enlistments with puts.
  out : List ℕ → KvDraft → Bool
  out es d = not (has (λ f. d.enlistment == f) es)

  out_all : (ds : List KvDraft) → how_many (out []) ds ≡ length ds
  unfolding out
  out_all [] = refl
  out_all (d ∷ ds) = ap suc (out_all ds)

  out-with : (es : List ℕ) (q : Pair) (k v : ℕ) (ds : List KvDraft) → has (λ f. q.1 == f) es ≡ true → how_many (out es) (with_draft q k v ds) ≡ how_many (out es) ds
  unfolding out
  out-with es q k v [] h = ap (λ b. if not b then 1 else 0) h
  out-with es q k v (d ∷ ds) h = by (is_draft_of q d) (out-with es q k v ds h)
    where
      by : (b : Bool) → how_many (out es) (with_draft q k v ds) ≡ how_many (out es) ds
          → how_many (out es) (if b then record { transaction = d.transaction; enlistment = d.enlistment; writes = with_write k v d.writes } ∷ ds else d ∷ with_draft q k v ds) ≡ how_many (out es) (d ∷ ds)
      by true ih = refl
      by false ih = ap (λ c. if out es d then suc c else c) ih

  out_less : (e : ℕ) (es : List ℕ) (ds : List KvDraft) → how_many (out es) ds ≤ how_many (out (e ∷ es)) ds + how_many (λ d. e == d.enlistment) ds
  unfolding out
  out_less e es [] = omega arith
  out_less e es (d ∷ ds) = by (has (λ f. d.enlistment == f) es) (d.enlistment == e) (e == d.enlistment) (eq_swap d.enlistment e) (out_less e es ds)
    where
      by : (a b c : Bool) → b ≡ c → how_many (out es) ds ≤ how_many (out (e ∷ es)) ds + how_many (λ d. e == d.enlistment) ds
          → (if not a then suc (how_many (out es) ds) else how_many (out es) ds)
          ≤ (if not (b || a) then suc (how_many (out (e ∷ es)) ds) else how_many (out (e ∷ es)) ds) + (if c then suc (how_many (λ d. e == d.enlistment) ds) else how_many (λ d. e == d.enlistment) ds)
      by true true true q ih = omega arith
      by true false false q ih = omega arith
      by false true true q ih = omega arith
      by false false false q ih = omega arith
      by a true false q ih = absurd cc
      by a false true q ih = absurd cc

  own_less : (q : Put) (ds : List KvDraft) → IsMadeBy s q.enlistment.value q.transaction.value → OfEach (λ d. IsMadeBy s d.enlistment d.transaction) ds
      → how_many (λ d. q.enlistment.value == d.enlistment) ds ≤ how_many (is_draft_of (pair_of q)) ds
  own_less q [] g h = omega arith
  own_less q (d ∷ ds) g h = by (q.enlistment.value == d.enlistment) refl (q.transaction.value == d.transaction) refl (own_less q ds g h.1)
    where
      same : (q.enlistment.value == d.enlistment) ≡ true → (q.transaction.value == d.transaction) ≡ true
      same w = eq-eqb q.transaction.value d.transaction (one_transaction s q.enlistment.value q.transaction.value d.transaction named g (subst (λ n. IsMadeBy s n d.transaction) (sym (eqb-true q.enlistment.value d.enlistment w)) h.0))

      by : (b : Bool) → (q.enlistment.value == d.enlistment) ≡ b → (c : Bool) → (q.transaction.value == d.transaction) ≡ c → how_many (λ d. q.enlistment.value == d.enlistment) ds ≤ how_many (is_draft_of (pair_of q)) ds
          → (if b then suc (how_many (λ d. q.enlistment.value == d.enlistment) ds) else how_many (λ d. q.enlistment.value == d.enlistment) ds) ≤ (if c && b then suc (how_many (is_draft_of (pair_of q)) ds) else how_many (is_draft_of (pair_of q)) ds)
      by true w true x ih = omega arith
      by true w false x ih = absurd (not_both (q.transaction.value == d.transaction) (same w) x)
      by false w true x ih = ih
      by false w false x ih = ih

  few_drafts : (xs : List Put) (n : KvState D) → OfEach (IsMade s r) xs → OfEach (λ d. IsMadeBy s d.enlistment d.transaction) n.memory.drafts → ((p : Pair) → how_many (is_draft_of p) n.memory.drafts ≤ 1)
      → length (with_puts n xs).memory.drafts ≤ how_many (out (putters xs)) n.memory.drafts + length (putters xs)
  few_drafts [] n g h one = let all = out_all n.memory.drafts in omega arith
  few_drafts (q ∷ xs) n g h one =
      let made_now : OfEach (λ d. IsMadeBy s d.enlistment d.transaction) (with_put n q).memory.drafts = of-with (λ d. IsMadeBy s d.enlistment d.transaction) (pair_of q) q.key q.value g.0.0 (λ d t k. k) n.memory.drafts h in
      let one_now : (p : Pair) → how_many (is_draft_of p) (with_put n q).memory.drafts ≤ 1 = λ p. count-with p (pair_of q) q.key q.value n.memory.drafts (one p) in
      by (has (λ f. q.enlistment.value == f) (putters xs)) refl made_now one_now (few_drafts xs (with_put n q) g.1 made_now one_now)
    where
      by : (b : Bool) → has (λ f. q.enlistment.value == f) (putters xs) ≡ b → OfEach (λ d. IsMadeBy s d.enlistment d.transaction) (with_put n q).memory.drafts
          → ((p : Pair) → how_many (is_draft_of p) (with_put n q).memory.drafts ≤ 1)
          → length (with_puts (with_put n q) xs).memory.drafts ≤ how_many (out (putters xs)) (with_put n q).memory.drafts + length (putters xs)
          → length (with_puts (with_put n q) xs).memory.drafts
          ≤ how_many (out (if b then putters xs else q.enlistment.value ∷ putters xs)) n.memory.drafts + length (if b then putters xs else q.enlistment.value ∷ putters xs)
      by true e made_now one_now ih = let same = out-with (putters xs) (pair_of q) q.key q.value n.memory.drafts e in omega arith
      by false e made_now one_now ih =
          let less = out_less q.enlistment.value (putters xs) (with_put n q).memory.drafts in
          let own = own_less q (with_put n q).memory.drafts g.0.0 made_now in
          let once = one_now (pair_of q) in
          let same = out-with (q.enlistment.value ∷ putters xs) (pair_of q) q.key q.value n.memory.drafts (or_left (q.enlistment.value == q.enlistment.value) (has (λ f. q.enlistment.value == f) (putters xs)) (eq_self q.enlistment.value)) in
          omega arith

  -- so there is room for their records
  pub room : above_highest 0 from.memory.slots 0 + length from.memory.drafts ≤ length (putters ps)
  room =
      let few = few_drafts ps m fine.made (subst (OfEach (λ d. IsMadeBy s d.enlistment d.transaction)) (sym blank.undrafted) tt) (λ p. subst (λ (ds : List KvDraft). how_many (is_draft_of p) ds ≤ 1) (sym blank.undrafted) (omega arith)) in
      let none : how_many (out (putters ps)) m.memory.drafts ≡ 0 = ap (λ (ds : List KvDraft). how_many (out (putters ps)) ds) blank.undrafted in
      let low : above_highest 0 from.memory.slots 0 ≡ 0 = closed 0 from.memory.slots 0 no_records in
      omega arith
    where
      closed : (i : ℕ) (ss : Slots) (n : ℕ) → open_records ss ≡ [] → above_highest i ss n ≡ n
      closed i [] n e = refl
      closed i (None ∷ ss) n e = closed (suc i) ss n e
      closed i (Some x ∷ ss) n e = absurd cc
