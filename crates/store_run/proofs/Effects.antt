-- What each act leaves of a store: of each pair, and of the room for records.
use Rattle.std.proofs.Common.{ℕ, suc, ◌≡◌, ◌+◌, ◌<◌, ◌≤◌, ◌||◌, ◌&&◌, Bool, true, false, cond, nat_lt, not, find, List, [], ◌∷◌, length, get_or, set, Option, Some, None, refl, sym, subst, ap, ◌∙◌, arith}
use Rattle.std.specs.Prelude.{if◌then◌else◌}
use Rattle.std.proofs.lemmas.List.{length-set}
use Rattle.dtx_values.specs.Table.{how_many}
use Rattle.dtx_values.specs.declared.note.Note.{Note}
use Rattle.dtx_values.specs.declared.note.Note.TheVariants.{Init, Prepare, Promote, Hand, Single, Commit, Rollback, InDoubt}
use Rattle.dtx_model.specs.Words.{has}
use Rattle.dtx_model.proofs.Bools.{and_left, and_right, and_never, not_true, or_first, or_second}
use Rattle.history_table.proofs.Lists.{OfEach}
use Rattle.history_table.proofs.Tests.{eq_self}
use Rattle.kv_resource.specs.Bytes.{KvRecord}
use Rattle.kv_resource.specs.Notes.{closed_record, fresh_record, marked_record, on_unmarked}
use Rattle.kv_resource.specs.Store.{KvDraft, KvMemory, Pair, above_highest, has_draft, has_unmarked, writes_of, is_draft_of, is_record_of, is_unmarked_of, next_slot, open_records, pair_of_draft, pair_of_record, without_draft}
use Rattle.kv_resource.proofs.Finding.{next_facts}
use Rattle.store_run.proofs.Pairs.{Slots, above-on, above-set, count-closed, count-marked, count-set, count-without, count-without_own, done-on, draft-without, has-on, has-set, length-on, is_done_of, is_pair, length-without, length-without_own, none-on, none-without, of-on, of-set, of-without, pair_is}
use Rattle.store_run.proofs.Acts.{Act, Close, Drafted, Drop, Gone, IsOf, Mark, Marked, Prepared as PreparedPair, Put, Stay, Status, act_of, acted, after_act, has_done, kept_as, seen, status, status_by}

same_status : (m : KvMemory) (q : Pair) (ss : Slots) (ds : List KvDraft) → has (is_draft_of q) ds ≡ has_draft m q → has (is_unmarked_of q) (open_records ss) ≡ has_unmarked m q → has (is_done_of q) (open_records ss) ≡ has_done m q
    → status (kept_as ss ds) q ≡ status m q
same_status m q ss ds a b c = λ i. status_by (a i) (b i) (c i)

own_pair : (p : Pair) → is_pair p p ≡ true
own_pair p = rw (eq_self p.0, eq_self p.1) refl

-- it is so of each pair where it is so of this one, and of each other
split_pairs : (m : KvMemory) (p : Pair) (n : KvMemory) (s : Status) → status n p ≡ s → ((q : Pair) → is_pair q p ≡ false → status n q ≡ status m q) → (q : Pair) → status n q ≡ (if is_pair q p then s else status m q)
split_pairs m p n s own other q = by (is_pair q p) refl
  where
    by : (b : Bool) → is_pair q p ≡ b → status n q ≡ (if b then s else status m q)
    by true e = ap (status n) (pair_is q p e) ∙ own
    by false e = other q e

drafts_one : (W : Pair → List (ℕ × ℕ)) (m : KvMemory) (p : Pair) → IsOf W m → how_many (is_draft_of p) m.drafts ≤ 1
drafts_one W m p o = let one = o.one p in omega arith

records_one : (W : Pair → List (ℕ × ℕ)) (m : KvMemory) (p : Pair) → IsOf W m → how_many (is_record_of p) (open_records m.slots) ≤ 1
records_one W m p o = let one = o.one p in omega arith

pub record ActsWell (W : Pair → List (ℕ × ℕ)) (m : KvMemory) (p : Pair) (a : Act) : Type 0 where
  pub of : IsOf W (acted m p a)
  pub status : (q : Pair) → status (acted m p a) q ≡ (if is_pair q p then after_act (status m p) a else status m q)
  pub room : (n : ℕ) → above_highest 0 m.slots 0 + length m.drafts ≤ n → above_highest 0 (acted m p a).slots 0 + length (acted m p a).drafts ≤ n

stay_well : (W : Pair → List (ℕ × ℕ)) (m : KvMemory) (p : Pair) → IsOf W m → ActsWell W m p Stay
stay_well W m p o = record {
  of = record { up = refl; many = o.many; one = o.one; drafts = o.drafts; records = o.records };
  status = split_pairs m p (acted m p Stay) (after_act (status m p) Stay) (by (status m p)) (λ q e. refl);
  room = λ n le. le;
}
  where
    by : (s : Status) → s ≡ after_act s Stay
    by Drafted = refl
    by PreparedPair = refl
    by Marked = refl
    by Gone = refl

drop_well : (W : Pair → List (ℕ × ℕ)) (m : KvMemory) (p : Pair) → IsOf W m → ActsWell W m p Drop
drop_well W m p o = record {
  of = record {
    up = refl;
    many = o.many;
    one = λ q. (let a = count-without q p m.drafts in let one = o.one q in omega arith);
    drafts = of-without (λ d. d.writes ≡ W (pair_of_draft d)) p m.drafts o.drafts;
    records = o.records;
  };
  status = split_pairs m p (acted m p Drop) (after_act (status m p) Drop) (own (has_draft m p) (has_unmarked m p) (has_done m p) refl)
      (λ q e. same_status m q m.slots (without_draft p m.drafts) (draft-without q p m.drafts e) refl refl);
  room = λ n le. (let a = length-without p m.drafts in omega arith);
}
  where
    left : (u k : Bool) → status_by false u k ≡ after_act (status_by false u k) Drop
    left true k = refl
    left false true = refl
    left false false = refl

    gone : (u k : Bool) → (true && (u || k)) ≡ false → status_by false u k ≡ Gone
    gone true k e = absurd cc
    gone false true e = absurd cc
    gone false false e = refl

    own : (d u k : Bool) → has_draft m p ≡ d → status (acted m p Drop) p ≡ after_act (status_by (has_draft m p) (has_unmarked m p) (has_done m p)) Drop
    own true u k e =
        ap (λ b. status_by b (has_unmarked m p) (has_done m p)) (none-without p m.drafts (drafts_one W m p o))
        ∙ gone (has_unmarked m p) (has_done m p) (ap (λ b. b && (has_unmarked m p || has_done m p)) (sym e) ∙ (seen W m p o).alone) ∙ ap (λ b. after_act (status_by b (has_unmarked m p) (has_done m p)) Drop) (sym e)
    own false u k e =
        ap (λ b. status_by b (has_unmarked m p) (has_done m p)) (none-without p m.drafts (drafts_one W m p o))
        ∙ left (has_unmarked m p) (has_done m p) ∙ ap (λ b. after_act (status_by b (has_unmarked m p) (has_done m p)) Drop) (sym e)

put_well : (W : Pair → List (ℕ × ℕ)) (m : KvMemory) (p : Pair) (k : ℕ) (b : Bool) → IsOf W m → has_draft m p ≡ true → next_slot m.slots ≡ Some k → ActsWell W m p (Put k b)
put_well W m p k b o d next = record {
  of = record {
    up = refl;
    many = length-set m.slots k (Some r) ∙ o.many;
    one = λ q. one (is_pair q p) q refl;
    drafts = of-without (λ d. d.writes ≡ W (pair_of_draft d)) p m.drafts o.drafts;
    records = of-set (λ r. r.writes ≡ W (pair_of_record r)) r m.slots k at.1 (wrote m.drafts d o.drafts) o.records;
  };
  status = split_pairs m p (acted m p (Put k b)) (if b then Marked else PreparedPair) (own b) other;
  room = λ n le.
      (let less = length-without_own p m.drafts d in
      let low = above_least (nat_lt (above_highest 0 m.slots 0) 1024) refl next in
      let above = above-set 0 r m.slots k 0 (suc k) (omega arith) (omega arith) (omega arith) in
      omega arith);
}
  where
    r : KvRecord
    r = fresh_record m p b

    at : (k < 1024) × (get_or m.slots k None ≡ None)
    at = next_facts m.slots k next

    lt : k < length m.slots
    lt = let f = at.0 in let l = o.many in omega arith

    above_least : (c : Bool) → nat_lt (above_highest 0 m.slots 0) 1024 ≡ c → (if c then Some (above_highest 0 m.slots 0) else None) ≡ Some k → above_highest 0 m.slots 0 ≡ k
    above_least true e q = cc
    above_least false e q = absurd cc

    wrote : (ds : List KvDraft) → has (is_draft_of p) ds ≡ true → OfEach (λ d. d.writes ≡ W (pair_of_draft d)) ds → writes_of (find (is_draft_of p) ds) ≡ W p
    wrote [] t h = absurd cc
    wrote (x ∷ ds) t h = by (is_draft_of p x) refl t (λ u. wrote ds u h.1)
      where
        by : (c : Bool) → is_draft_of p x ≡ c → (c || has (is_draft_of p) ds) ≡ true → (has (is_draft_of p) ds ≡ true → writes_of (find (is_draft_of p) ds) ≡ W p)
            → writes_of (cond c (Some x) (find (is_draft_of p) ds)) ≡ W p
        by true e t g = h.0 ∙ ap W (sym (pair_is p (pair_of_draft x) e))
        by false e t g = g t

    one : (c : Bool) (q : Pair) → is_pair q p ≡ c → how_many (is_draft_of q) (without_draft p m.drafts) + how_many (is_record_of q) (open_records (set m.slots k (Some r))) ≤ 1
    one true q e =
        let P : Pair → Type 0 = λ x. how_many (is_draft_of x) (without_draft p m.drafts) + how_many (is_record_of x) (open_records (set m.slots k (Some r))) ≤ 1 in
        let less = count-without_own p m.drafts d in
        let more : how_many (is_record_of p) (open_records (set m.slots k (Some r))) ≡ suc (how_many (is_record_of p) (open_records m.slots)) =
        count-set (is_record_of p) r m.slots k lt at.1 ∙ ap (λ c. if c then suc (how_many (is_record_of p) (open_records m.slots)) else how_many (is_record_of p) (open_records m.slots)) (own_pair p) in
        let own = o.one p in
        subst P (sym (pair_is q p e)) (omega arith)
    one false q e =
        let less = count-without q p m.drafts in
        let more : how_many (is_record_of q) (open_records (set m.slots k (Some r))) ≡ how_many (is_record_of q) (open_records m.slots) =
        count-set (is_record_of q) r m.slots k lt at.1 ∙ ap (λ c. if c then suc (how_many (is_record_of q) (open_records m.slots)) else how_many (is_record_of q) (open_records m.slots)) e in
        let own = o.one q in
        omega arith

    alone : (has_unmarked m p || has_done m p) ≡ false
    alone = sym (ap (λ c. c && (has_unmarked m p || has_done m p)) d) ∙ (seen W m p o).alone

    unmarked_now : (q : Pair) → has (is_unmarked_of q) (open_records (set m.slots k (Some r))) ≡ ((is_pair q p && not b) || has_unmarked m q)
    unmarked_now q = has-set (is_unmarked_of q) r m.slots k lt at.1

    done_now : (q : Pair) → has (is_done_of q) (open_records (set m.slots k (Some r))) ≡ ((is_pair q p && b) || has_done m q)
    done_now q = has-set (is_done_of q) r m.slots k lt at.1

    by_parts : (u v : Bool) → has (is_unmarked_of p) (open_records (set m.slots k (Some r))) ≡ u → has (is_done_of p) (open_records (set m.slots k (Some r))) ≡ v → status (acted m p (Put k b)) p ≡ status_by false u v
    by_parts u v e f = let n = none-without p m.drafts (drafts_one W m p o) in λ i. status_by (n i) (e i) (f i)

    is_own : (c x : Bool) → x ≡ false → ((is_pair p p && c) || x) ≡ c
    is_own c x e = (λ i. (own_pair p i && c) || e i) ∙ right c
      where
        right : (c : Bool) → (c || false) ≡ c
        right true = refl
        right false = refl

    own : (c : Bool) → status (acted m p (Put k b)) p ≡ (if b then Marked else PreparedPair)
    own c =
        by_parts (not b) b (unmarked_now p ∙ is_own (not b) (has_unmarked m p) (or_first (has_unmarked m p) (has_done m p) alone)) (done_now p ∙ is_own b (has_done m p) (or_second (has_unmarked m p) (has_done m p) alone)) ∙ which b
      where
        which : (b : Bool) → status_by false (not b) b ≡ (if b then Marked else PreparedPair)
        which true = refl
        which false = refl

    other : (q : Pair) → is_pair q p ≡ false → status (acted m p (Put k b)) q ≡ status m q
    other q e =
        same_status m q (set m.slots k (Some r)) (without_draft p m.drafts) (draft-without q p m.drafts e) (unmarked_now q ∙ ap (λ c. (c && not b) || has_unmarked m q) e) (done_now q ∙ ap (λ c. (c && b) || has_done m q) e)

-- who is of another pair isn't of this one
not_other : (q p : Pair) (r : KvRecord) → is_pair q p ≡ false → is_unmarked_of p r ≡ true → is_record_of q r ≡ false
not_other q p r e t = ap (is_pair q) (sym (pair_is p (pair_of_record r) (and_left (is_record_of p r) (not r.marked) t))) ∙ e

mark_well : (W : Pair → List (ℕ × ℕ)) (m : KvMemory) (p : Pair) → IsOf W m → has_unmarked m p ≡ true → ActsWell W m p Mark
mark_well W m p o u = record {
  of = record {
    up = refl;
    many = length-on p marked_record m.slots ∙ o.many;
    one = λ q. (let same = count-marked q p m.slots in let one = o.one q in omega arith);
    drafts = o.drafts;
    records = of-on (λ r. r.writes ≡ W (pair_of_record r)) p marked_record (λ r h. (h, tt)) m.slots o.records;
  };
  status = split_pairs m p (acted m p Mark) Marked own other;
  room = λ n le. (let above = above-on p marked_record 0 m.slots 0 (above_highest 0 m.slots 0) (omega arith) (omega arith) in omega arith);
}
  where
    undrafted : (d x : Bool) → (d && (true || x)) ≡ false → d ≡ false
    undrafted true x e = absurd cc
    undrafted false x e = refl

    own : status (acted m p Mark) p ≡ Marked
    own =
        let d = undrafted (has_draft m p) (has_done m p) (sym (ap (λ c. has_draft m p && (c || has_done m p)) u) ∙ (seen W m p o).alone) in
        let n = none-on p marked_record (λ r. and_never (is_record_of p r)) m.slots (records_one W m p o) in
        let k = done-on p m.slots u in
        λ i. status_by (d i) (n i) (k i)

    other : (q : Pair) → is_pair q p ≡ false → status (acted m p Mark) q ≡ status m q
    other q e = same_status m q (on_unmarked p marked_record m.slots) m.drafts refl
        (has-on (is_unmarked_of q) p marked_record (λ r t. (ap (λ c. c && not r.marked) (not_other q p r e t), ap (λ c. c && false) (not_other q p r e t))) m.slots)
        (has-on (is_done_of q) p marked_record (λ r t. (ap (λ c. c && r.marked) (not_other q p r e t), ap (λ c. c && true) (not_other q p r e t))) m.slots)

close_well : (W : Pair → List (ℕ × ℕ)) (m : KvMemory) (p : Pair) → IsOf W m → has_unmarked m p ≡ true → ActsWell W m p Close
close_well W m p o u = record {
  of = record {
    up = refl;
    many = length-on p closed_record m.slots ∙ o.many;
    one = λ q. (let a = count-without q p m.drafts in let less = count-closed q p m.slots in let one = o.one q in omega arith);
    drafts = of-without (λ d. d.writes ≡ W (pair_of_draft d)) p m.drafts o.drafts;
    records = of-on (λ r. r.writes ≡ W (pair_of_record r)) p closed_record (λ r h. tt) m.slots o.records;
  };
  status = split_pairs m p (acted m p Close) Gone own other;
  room = λ n le. (let a = length-without p m.drafts in let above = above-on p closed_record 0 m.slots 0 (above_highest 0 m.slots 0) (omega arith) (omega arith) in omega arith);
}
  where
    unmarks : (r : KvRecord) → is_unmarked_of p r ≡ true → (q : Pair) → is_done_of q r ≡ false
    unmarks r t q = ap (λ c. is_record_of q r && c) (not_true r.marked (and_right (is_record_of p r) (not r.marked) t)) ∙ and_never (is_record_of q r)

    single : (x : Bool) → (true && x) ≡ false → x ≡ false
    single x e = e

    own : status (acted m p Close) p ≡ Gone
    own =
        let d = none-without p m.drafts (drafts_one W m p o) in
        let n = none-on p closed_record (λ r. refl) m.slots (records_one W m p o) in
        let k : has (is_done_of p) (open_records (on_unmarked p closed_record m.slots)) ≡ false =
        has-on (is_done_of p) p closed_record (λ r t. (unmarks r t p, refl)) m.slots ∙ single (has_done m p) (sym (ap (λ c. c && has_done m p) u) ∙ (seen W m p o).single) in
        λ i. status_by (d i) (n i) (k i)

    other : (q : Pair) → is_pair q p ≡ false → status (acted m p Close) q ≡ status m q
    other q e = same_status m q (on_unmarked p closed_record m.slots) (without_draft p m.drafts) (draft-without q p m.drafts e)
        (has-on (is_unmarked_of q) p closed_record (λ r t. (ap (λ c. c && not r.marked) (not_other q p r e t), refl)) m.slots) (has-on (is_done_of q) p closed_record (λ r t. (unmarks r t q, refl)) m.slots)

-- So each note's act goes well.
pub note_well : (W : Pair → List (ℕ × ℕ)) (m : KvMemory) (p : Pair) (n : Note) → IsOf W m → ActsWell W m p (act_of (status m p) (next_slot m.slots) n)
note_well W m p n o = by n (has_draft m p) (has_unmarked m p) (has_done m p) (next_slot m.slots) refl refl refl
  where
    by : (n : Note) (d u k : Bool) (next : Option ℕ) → has_draft m p ≡ d → has_unmarked m p ≡ u → next_slot m.slots ≡ next → ActsWell W m p (act_of (status_by d u k) next n)
    by Prepare true u k (Some i) e f h = put_well W m p i false o e h
    by Prepare true u k None e f h = drop_well W m p o
    by Hand true u k (Some i) e f h = put_well W m p i true o e h
    by Hand true u k None e f h = drop_well W m p o
    by Rollback true u k next e f h = drop_well W m p o
    by Hand false true k next e f h = mark_well W m p o f
    by Commit false true k next e f h = mark_well W m p o f
    by Rollback false true k next e f h = close_well W m p o f
    by Rollback false false true next e f h = drop_well W m p o
    by Prepare false false false next e f h = drop_well W m p o
    by Hand false false false next e f h = drop_well W m p o
    by Rollback false false false next e f h = drop_well W m p o
    by Prepare false true k next e f h = stay_well W m p o
    by Prepare false false true next e f h = stay_well W m p o
    by Hand false false true next e f h = stay_well W m p o
    by Commit true u k next e f h = stay_well W m p o
    by Commit false false true next e f h = stay_well W m p o
    by Commit false false false next e f h = stay_well W m p o
    by Init true u k next e f h = stay_well W m p o
    by Init false true k next e f h = stay_well W m p o
    by Init false false true next e f h = stay_well W m p o
    by Init false false false next e f h = stay_well W m p o
    by Promote true u k next e f h = stay_well W m p o
    by Promote false true k next e f h = stay_well W m p o
    by Promote false false true next e f h = stay_well W m p o
    by Promote false false false next e f h = stay_well W m p o
    by Single true u k next e f h = stay_well W m p o
    by Single false true k next e f h = stay_well W m p o
    by Single false false true next e f h = stay_well W m p o
    by Single false false false next e f h = stay_well W m p o
    by InDoubt true u k next e f h = stay_well W m p o
    by InDoubt false true k next e f h = stay_well W m p o
    by InDoubt false false true next e f h = stay_well W m p o
    by InDoubt false false false next e f h = stay_well W m p o
