-- The table of a store is that of the puts that passed, where just the records of those are marked.
use Rattle.std.proofs.Common.{ℕ, suc, ◌≡◌, ◌==◌, ◌<◌, ◌≤◌, ◌||◌, ◌&&◌, nat_lt, Bool, true, false, cond, find, List, [], ◌∷◌, Option, Some, None, refl, sym, subst, ap, ◌∙◌, arith}
use Rattle.std.specs.Prelude.{if◌then◌else◌}
use Rattle.std.specs.List.{slice_get}
use Rattle.std.proofs.lemmas.Bool.{eq-eqb, eqb-true, false_from_ne_true, ne_eqb, or_left}
use Rattle.std.proofs.lemmas.Bool.Decides.{nat_tests}
use Rattle.dtx_model.specs.Words.{has}
use Rattle.dtx_model.proofs.Bools.{and_both, and_left, and_never, and_right, not_both, or_case, or_first, or_second, or_swap}
use Rattle.heard_notes.specs.Tables.{put_onto}
use Rattle.heard_notes.specs.declared.put.Put.{Put}
use Rattle.history_table.proofs.Lists.{OfEach, has-at, of-at, of-more}
use Rattle.history_table.proofs.Scans.{has_more}
use Rattle.history_table.proofs.Tests.{eq_self}
use Rattle.kv_resource.specs.Bytes.{KvRecord}
use Rattle.kv_resource.specs.Store.{Pair, get_in, is_record_of, pair_of_record, table_of, table_onto, value_of, with_write, with_writes, wrote_key}
use Rattle.store_run.proofs.Writes.{get_here, get_other}
use Rattle.store_run.specs.Puts.{pair_of}
use Rattle.store_run.proofs.Drafts.{Rising, Rows, is_put_of, none_below, rising-with, value_written, wrote-with}
use Rattle.store_run.proofs.Lasting.{at_place}
use Rattle.store_run.proofs.Pairs.{is_done_of, is_pair, pair_is}

-- Two tables whose keys rise, with the same value at each key, are the same.
get_none : (k n : ℕ) (ws : Rows) → k < n → Rising n ws → get_in k ws ≡ None
get_none k n [] lt h = refl
get_none k n (w ∷ ws) lt h = rw (ne_eqb k w.0 (λ e. omega (arith, h.0))) (get_none k (suc w.0) ws (omega (arith, h.0)) h.1)

get_first : (w : ℕ × ℕ) (ws : Rows) → get_in w.0 (w ∷ ws) ≡ Some w.1
get_first w ws = rw (eq-eqb w.0 w.0 refl) refl

get_rest : (k : ℕ) (w : ℕ × ℕ) (ws : Rows) → (k == w.0) ≡ false → get_in k (w ∷ ws) ≡ get_in k ws
get_rest k w ws e = rw e refl

pub rows_same : (n : ℕ) (xs ys : Rows) → Rising n xs → Rising n ys → ((k : ℕ) → get_in k xs ≡ get_in k ys) → xs ≡ ys
rows_same n [] [] h g same = refl
rows_same n [] (y ∷ ys) h g same = absurd (let e : None ≡ Some y.1 = same y.0 ∙ get_first y ys in cc)
rows_same n (x ∷ xs) [] h g same = absurd (let e : Some x.1 ≡ None = sym (get_first x xs) ∙ same x.0 in cc)
rows_same n (x ∷ xs) (y ∷ ys) h g same = by (nat_lt x.0 y.0) (nat_lt y.0 x.0) refl refl (λ r f. rows_same (suc x.0) xs ys h.1 r f)
  where
    by : (l m : Bool) → nat_lt x.0 y.0 ≡ l → nat_lt y.0 x.0 ≡ m → (Rising (suc x.0) ys → ((k : ℕ) → get_in k xs ≡ get_in k ys) → xs ≡ ys) → x ∷ xs ≡ y ∷ ys
    by true m a b more = absurd (
        let less : x.0 < y.0 = grind (arith, nat_tests) in
        let e : Some x.1 ≡ None = sym (get_first x xs) ∙ same x.0 ∙ get_none x.0 y.0 (y ∷ ys) less (omega arith, g.1) in cc)
    by false true a b more = absurd (
        let less : y.0 < x.0 = grind (arith, nat_tests) in
        let e : None ≡ Some y.1 = sym (get_none y.0 x.0 (x ∷ xs) less (omega arith, h.1)) ∙ same y.0 ∙ get_first y ys in cc)
    by false false a b more =
        let one : y.0 ≤ x.0 = grind (arith, nat_tests) in
        let two : x.0 ≤ y.0 = grind (arith, nat_tests) in
        let key : x.0 ≡ y.0 = omega arith in
        let value : x.1 ≡ y.1 = some (sym (get_first x xs) ∙ same x.0 ∙ ap (λ k. get_in k (y ∷ ys)) key ∙ get_first y ys) in
        let rest : xs ≡ ys = more (subst (λ k. Rising (suc k) ys) (sym key) g.1) (λ k. left k key (k == x.0) refl) in
        λ i. (key i, value i) ∷ rest i
      where
        some : {a b : ℕ} → Some a ≡ Some b → a ≡ b
        some e = cc

        left : (k : ℕ) → x.0 ≡ y.0 → (b : Bool) → (k == x.0) ≡ b → get_in k xs ≡ get_in k ys
        left k key true e =
            let here : k ≡ x.0 = grind (arith, nat_tests) in
            get_none k (suc x.0) xs (omega arith) h.1 ∙ sym (get_none k (suc y.0) ys (omega arith) g.1)
        left k key false e = sym (get_rest k x xs e) ∙ same k ∙ get_rest k y ys (ap (λ j. k == j) (sym key) ∙ e)

-- What writes whose keys rise leave of a key.
pub get-writes : (k n : ℕ) (ws t : Rows) → Rising n ws → get_in k (with_writes ws t) ≡ (if wrote_key k ws then get_in k ws else get_in k t)
get-writes k n [] t h = refl
get-writes k n (w ∷ ws) t h = get-writes k (suc w.0) ws (with_write w.0 w.1 t) h.1 ∙ by (k == w.0) refl
  where
    by : (b : Bool) → (k == w.0) ≡ b → (if wrote_key k ws then get_in k ws else get_in k (with_write w.0 w.1 t)) ≡ (if b || wrote_key k ws then value_of (cond b (Some w) (find (λ x. k == x.0) ws)) else get_in k t)
    by true e =
        let same : k ≡ w.0 = eqb-true k w.0 e in
        let none : wrote_key k ws ≡ false = none_below k (suc w.0) ws (omega arith) h.1 in
        ap (λ b. if b then get_in k ws else get_in k (with_write w.0 w.1 t)) none ∙ ap (λ j. get_in j (with_write w.0 w.1 t)) same ∙ get_here w.0 w.1 t
    by false e = ap (λ o. if wrote_key k ws then get_in k ws else o) (get_other k w.0 w.1 t e)

rising-writes : (ws t : Rows) → Rising 0 t → Rising 0 (with_writes ws t)
rising-writes [] t h = h
rising-writes (w ∷ ws) t h = rising-writes ws (with_write w.0 w.1 t) (rising-with 0 w.0 w.1 t (omega arith) h)

rising-table : (rs : List KvRecord) (t : Rows) → Rising 0 t → Rising 0 (table_onto t rs)
rising-table [] t h = h
rising-table (r ∷ rs) t h = rising-table rs (if r.marked then with_writes r.writes t else t) (by r.marked)
  where
    by : (b : Bool) → Rising 0 (if b then with_writes r.writes t else t)
    by true = rising-writes r.writes t h
    by false = h

-- of a key that one pair alone wrote, the table has what that pair wrote, where a record of it is marked
module _ (W : Pair → Rows) (rising : (p : Pair) → Rising 0 (W p)) (k : ℕ) (o : Pair) (own : (p : Pair) → wrote_key k (W p) ≡ true → is_pair o p ≡ true) where
  get-table : (rs : List KvRecord) (t : Rows) → OfEach (λ r. r.writes ≡ W (pair_of_record r)) rs → get_in k (table_onto t rs) ≡ (if has (is_done_of o) rs && wrote_key k (W o) then get_in k (W o) else get_in k t)
  get-table [] t h = refl
  get-table (r ∷ rs) t h = get-table rs (if r.marked then with_writes r.writes t else t) h.1 ∙ by r.marked (is_record_of o r) refl
    where
      -- one more of the pair itself
      more : (d w : Bool) (v x : Option ℕ) → (if d && w then v else (if w then v else x)) ≡ (if w then v else x)
      more true true v x = refl
      more true false v x = refl
      more false w v x = refl

      of_it : is_record_of o r ≡ true → get_in k (with_writes r.writes t) ≡ (if wrote_key k (W o) then get_in k (W o) else get_in k t)
      of_it e =
          let is : r.writes ≡ W o = h.0 ∙ ap W (sym (pair_is o (pair_of_record r) e)) in
          ap (λ (ws : Rows). get_in k (with_writes ws t)) is ∙ get-writes k 0 (W o) t (rising o)

      of_other : is_record_of o r ≡ false → get_in k (with_writes r.writes t) ≡ get_in k t
      of_other e =
          let none : wrote_key k (W (pair_of_record r)) ≡ false = false_from_ne_true (wrote_key k (W (pair_of_record r))) (λ q. not_both (is_record_of o r) (own (pair_of_record r) q) e) in
          ap (λ (ws : Rows). get_in k (with_writes ws t)) h.0 ∙ get-writes k 0 (W (pair_of_record r)) t (rising (pair_of_record r)) ∙ ap (λ b. if b then get_in k (W (pair_of_record r)) else get_in k t) none

      by : (m b : Bool) → is_record_of o r ≡ b → (if has (is_done_of o) rs && wrote_key k (W o) then get_in k (W o) else get_in k (if m then with_writes r.writes t else t))
          ≡ (if ((is_record_of o r && m) || has (is_done_of o) rs) && wrote_key k (W o) then get_in k (W o) else get_in k t)
      by true true e =
          ap (λ x. if has (is_done_of o) rs && wrote_key k (W o) then get_in k (W o) else x) (of_it e) ∙ more (has (is_done_of o) rs) (wrote_key k (W o)) (get_in k (W o)) (get_in k t)
          ∙ ap (λ b. if ((b && true) || has (is_done_of o) rs) && wrote_key k (W o) then get_in k (W o) else get_in k t) (sym e)
      by true false e =
          ap (λ x. if has (is_done_of o) rs && wrote_key k (W o) then get_in k (W o) else x) (of_other e)
          ∙ ap (λ b. if ((b && true) || has (is_done_of o) rs) && wrote_key k (W o) then get_in k (W o) else get_in k t) (sym e)
      by false b e = ap (λ b. if (b || has (is_done_of o) rs) && wrote_key k (W o) then get_in k (W o) else get_in k t) (sym (and_never (is_record_of o r)))

-- What puts that pass leave of a key.
abbrev value_after : ℕ → (Put → Bool) → Option ℕ → List Put → Option ℕ
value_after k f v [] = v
value_after k f v (q ∷ ps) = value_after k f (if f q && (k == q.key) then Some q.value else v) ps

get-put : (k : ℕ) (q : Put) (t : Rows) (b : Bool) → get_in k (if b then with_write q.key q.value t else t) ≡ (if b && (k == q.key) then Some q.value else get_in k t)
get-put k q t false = refl
get-put k q t true = by (k == q.key) refl
  where
    by : (b : Bool) → (k == q.key) ≡ b → get_in k (with_write q.key q.value t) ≡ (if b then Some q.value else get_in k t)
    by true e = ap (λ j. get_in j (with_write q.key q.value t)) (eqb-true k q.key e) ∙ get_here q.key q.value t
    by false e = get_other k q.key q.value t e

get-puts : (k : ℕ) (f : Put → Bool) (ps : List Put) (t : Rows) → get_in k (put_onto f t ps) ≡ value_after k f (get_in k t) ps
get-puts k f [] t = refl
get-puts k f (q ∷ ps) t =
    get-puts k f ps _ ∙ ap (λ v. value_after k f v ps) (ap (λ (r : Rows). get_in k (if f q then r else t)) (value_written q.key q.value t) ∙ get-put k q t (f q))

same-values : (k : ℕ) (f g : Put → Bool) (ps : List Put) (v : Option ℕ) → OfEach (λ q. (k == q.key) ≡ true → f q ≡ g q) ps → value_after k f v ps ≡ value_after k g v ps
same-values k f g [] v h = refl
same-values k f g (q ∷ ps) v h = same-values k f g ps (if f q && (k == q.key) then Some q.value else v) h.1 ∙ ap (λ x. value_after k g x ps) (by (k == q.key) refl)
  where
    by : (b : Bool) → (k == q.key) ≡ b → (if f q && (k == q.key) then Some q.value else v) ≡ (if g q && (k == q.key) then Some q.value else v)
    by true e = ap (λ b. if b && (k == q.key) then Some q.value else v) (h.0 e)
    by false e = ap (λ b. if b then Some q.value else v) (ap (λ b. f q && b) e ∙ and_never (f q) ∙ sym (ap (λ b. g q && b) e ∙ and_never (g q)))

no-values : (k : ℕ) (ps : List Put) (v : Option ℕ) → value_after k (λ q. false) v ps ≡ v
no-values k [] v = refl
no-values k (q ∷ ps) v = no-values k ps v

pub wrote-puts : (k : ℕ) (f : Put → Bool) (ps : List Put) (t : Rows) → wrote_key k (put_onto f t ps) ≡ (has (λ q. f q && (k == q.key)) ps || wrote_key k t)
wrote-puts k f [] t = refl
wrote-puts k f (q ∷ ps) t =
    wrote-puts k f ps _ ∙ ap (λ b. has (λ q. f q && (k == q.key)) ps || b) (ap (λ (r : Rows). wrote_key k (if f q then r else t)) (value_written q.key q.value t) ∙ by (f q))
    ∙ or_swap (has (λ q. f q && (k == q.key)) ps) (f q && (k == q.key)) (wrote_key k t) ∙ assoc (f q && (k == q.key)) (has (λ q. f q && (k == q.key)) ps) (wrote_key k t)
  where
    by : (b : Bool) → wrote_key k (if b then with_write q.key q.value t else t) ≡ ((b && (k == q.key)) || wrote_key k t)
    by true = wrote-with k q.key q.value t
    by false = refl

    assoc : (a b c : Bool) → (a || (b || c)) ≡ ((a || b) || c)
    assoc true b c = refl
    assoc false b c = refl

pub rising-puts : (f : Put → Bool) (ps : List Put) (t : Rows) → Rising 0 t → Rising 0 (put_onto f t ps)
rising-puts f [] t h = h
rising-puts f (q ∷ ps) t h = rising-puts f ps _ (subst (λ (r : Rows). Rising 0 (if f q then r else t)) (sym (value_written q.key q.value t)) (by (f q)))
  where
    by : (b : Bool) → Rising 0 (if b then with_write q.key q.value t else t)
    by true = rising-with 0 q.key q.value t (omega arith) h
    by false = h

-- The theorem: W is what each pair wrote, the puts of it; no key is two pairs'; and a pair with puts has a record that is marked just where it passes.
module _ (ps : List Put) (rs : List KvRecord) (W : Pair → Rows) (wrote : (p : Pair) → W p ≡ put_onto (is_put_of p) [] ps) (records : OfEach (λ r. r.writes ≡ W (pair_of_record r)) rs)
    (apart : (k n : ℕ) (x : Put) → slice_get ps n ≡ Some x → (k == x.key) ≡ true → OfEach (λ q. (k == q.key) ≡ true → is_pair (pair_of x) (pair_of q) ≡ true) ps) (passes : Pair → Bool)
    (done : OfEach (λ q. has (is_done_of (pair_of q)) rs ≡ passes (pair_of q)) ps) where
  rising : (p : Pair) → Rising 0 (W p)
  rising p = subst (Rising 0) (sym (wrote p)) (rising-puts (is_put_of p) ps [] tt)

  -- who wrote a key has a put of it
  put_there : (k : ℕ) (p : Pair) → wrote_key k (W p) ≡ true → has (λ q. is_put_of p q && (k == q.key)) ps ≡ true
  put_there k p t = or_case (has (λ q. is_put_of p q && (k == q.key)) ps) false (λ a. a) (λ a. absurd cc) (sym (ap (wrote_key k) (wrote p) ∙ wrote-puts k (is_put_of p) ps []) ∙ t)

  own_is : (p : Pair) → is_pair p p ≡ true
  own_is p = λ i. eq_self p.0 i && eq_self p.1 i

  -- a key that somebody put
  of_put : (k n : ℕ) (x : Put) → slice_get ps n ≡ Some x → (k == x.key) ≡ true → get_in k (table_of rs) ≡ get_in k (put_onto (λ q. passes (pair_of q)) [] ps)
  of_put k n x stands key = get-table W rising k (pair_of x) own rs [] records ∙ by (passes (pair_of x)) refl ∙ sym (get-puts k (λ q. passes (pair_of q)) ps [])
    where
      mine : OfEach (λ q. (k == q.key) ≡ true → is_pair (pair_of x) (pair_of q) ≡ true) ps
      mine = apart k n x stands key

      own : (p : Pair) → wrote_key k (W p) ≡ true → is_pair (pair_of x) p ≡ true
      own p t =
          let at = at_place (λ q. is_put_of p q && (k == q.key)) ps (put_there k p t) in
          let q = at.1 in
          let same = of-at (λ q. (k == q.key) ≡ true → is_pair (pair_of x) (pair_of q) ≡ true) ps at.0 q mine at.2 (and_right (is_put_of p q) (k == q.key) at.3) in
          subst (λ y. is_pair (pair_of x) y ≡ true) (sym (pair_is p (pair_of q) (and_left (is_put_of p q) (k == q.key) at.3))) same

      marked : has (is_done_of (pair_of x)) rs ≡ passes (pair_of x)
      marked = of-at (λ q. has (is_done_of (pair_of q)) rs ≡ passes (pair_of q)) ps n x done stands

      it_wrote : wrote_key k (W (pair_of x)) ≡ true
      it_wrote =
          ap (wrote_key k) (wrote (pair_of x)) ∙ wrote-puts k (is_put_of (pair_of x)) ps []
          ∙ or_left (has (λ q. is_put_of (pair_of x) q && (k == q.key)) ps) false (has-at (λ q. is_put_of (pair_of x) q && (k == q.key)) ps n x stands (and_both (is_put_of (pair_of x) x) (k == x.key) (own_is (pair_of x)) key))

      same_pass : (b : Bool) → passes (pair_of x) ≡ b → OfEach (λ q. (k == q.key) ≡ true → passes (pair_of q) ≡ b) ps
      same_pass b e = of-more (λ q. (k == q.key) ≡ true → is_pair (pair_of x) (pair_of q) ≡ true) (λ q. (k == q.key) ≡ true → passes (pair_of q) ≡ b) (λ q h t. ap passes (sym (pair_is (pair_of x) (pair_of q) (h t))) ∙ e) ps mine

      by : (b : Bool) → passes (pair_of x) ≡ b → (if has (is_done_of (pair_of x)) rs && wrote_key k (W (pair_of x)) then get_in k (W (pair_of x)) else None) ≡ value_after k (λ q. passes (pair_of q)) None ps
      by true e =
          (λ i. if (marked ∙ e) i && it_wrote i then get_in k (W (pair_of x)) else None) ∙ ap (get_in k) (wrote (pair_of x)) ∙ get-puts k (is_put_of (pair_of x)) ps []
          ∙ same-values k (is_put_of (pair_of x)) (λ q. passes (pair_of q)) ps None (both ps mine (same_pass true e))
        where
          both : (xs : List Put) → OfEach (λ q. (k == q.key) ≡ true → is_pair (pair_of x) (pair_of q) ≡ true) xs → OfEach (λ q. (k == q.key) ≡ true → passes (pair_of q) ≡ true) xs → OfEach (λ q. (k == q.key) ≡ true → is_put_of (pair_of x) q ≡ passes (pair_of q)) xs
          both [] a b = tt
          both (q ∷ xs) a b = (λ t. a.0 t ∙ sym (b.0 t), both xs a.1 b.1)
      by false e =
          ap (λ b. if b && wrote_key k (W (pair_of x)) then get_in k (W (pair_of x)) else None) (marked ∙ e)
          ∙ sym (same-values k (λ q. passes (pair_of q)) (λ q. false) ps None (same_pass false e) ∙ no-values k ps None)

  -- one that nobody put
  of_none : (k : ℕ) → has (λ q. k == q.key) ps ≡ false → get_in k (table_of rs) ≡ get_in k (put_onto (λ q. passes (pair_of q)) [] ps)
  of_none k none =
      get-table W rising k (0, 0) (λ p t. absurd (not_both (wrote_key k (W p)) t (unwritten p))) rs [] records
      ∙ ap (λ b. if b then get_in k (W (0, 0)) else None) (ap (λ b. has (is_done_of (0, 0)) rs && b) (unwritten (0, 0)) ∙ and_never (has (is_done_of (0, 0)) rs))
      ∙ sym (get-puts k (λ q. passes (pair_of q)) ps [] ∙ same-values k (λ q. passes (pair_of q)) (λ q. false) ps None (vacuous ps none) ∙ no-values k ps None)
    where
      unwritten : (p : Pair) → wrote_key k (W p) ≡ false
      unwritten p = false_from_ne_true (wrote_key k (W p)) (λ t.
          not_both (has (λ q. k == q.key) ps) (has_more (λ q. is_put_of p q && (k == q.key)) (λ q. k == q.key) (λ q a. and_right (is_put_of p q) (k == q.key) a) ps (put_there k p t)) none)

      vacuous : (xs : List Put) → has (λ q. k == q.key) xs ≡ false → OfEach (λ q. (k == q.key) ≡ true → passes (pair_of q) ≡ false) xs
      vacuous [] n = tt
      vacuous (q ∷ xs) n = (λ t. absurd (not_both (k == q.key) t (or_first (k == q.key) (has (λ q. k == q.key) xs) n)), vacuous xs (or_second (k == q.key) (has (λ q. k == q.key) xs) n))

  pub table_is : table_of rs ≡ put_onto (λ q. passes (pair_of q)) [] ps
  table_is = rows_same 0 (table_of rs) (put_onto (λ q. passes (pair_of q)) [] ps) (rising-table rs [] tt) (rising-puts (λ q. passes (pair_of q)) ps [] tt) (λ k. by k (has (λ q. k == q.key) ps) refl)
    where
      by : (k : ℕ) (b : Bool) → has (λ q. k == q.key) ps ≡ b → get_in k (table_of rs) ≡ get_in k (put_onto (λ q. passes (pair_of q)) [] ps)
      by k true e = let at = at_place (λ q. k == q.key) ps e in of_put k at.0 at.1 at.2 at.3
      by k false e = of_none k e
