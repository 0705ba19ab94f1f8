-- What is written at transactions by number, one after the other: where it is written at each that passes a test, it is put at those of the trace that pass, in their order.
use Rattle.std.proofs.Common.{◌≡◌, ◌≢◌, ◌⊎◌, ◌≤◌, ◌<◌, ℕ, suc, ◌+◌, ◌==◌, nat_le, nat_lt, Bool, true, false, ◌&&◌, not, List, [], ◌∷◌, ◌++◌, filter, inl, inr, refl, ap, sym, subst, ◌∙◌, append-nil, arith, if◌then◌else◌}
use Rattle.std.proofs.lemmas.Bool.{cases_Bool, cases_lt}
use Rattle.std.proofs.lemmas.Bool.Decides.{Decides-eqb, Decides-ltb, eqb_tells, leb_tells}
use Rattle.dtx_values.specs.declared.entry.Entry.{Entry}
use Rattle.dtx_values.specs.declared.number.TxNo.{TxNo}
use Rattle.dtx_values.specs.declared.trace.Place.TheVariants.{Context, Log, Transaction}
use Rattle.dtx_values.specs.Table.{how_many, insert_by}
use Rattle.dtx_model.specs.Words.{onto}
use Rattle.dtx_model.specs.Traces.{Placed, placed}
use Rattle.dtx_model.specs.AtLog.{one_if, transactions, tx_number}
use Rattle.dtx_model.specs.Replay.{put_at}
use Rattle.dtx_values.proofs.SameNumbers.{same_transaction}
use Rattle.script_histories.proofs.PutAt.{is_tx}

-- The numbers rise, from above n on.
abbrev pub Rises : ℕ → List TxNo → Type 0
Rises n [] = Unit {0}
Rises n (t ∷ ts) = (n < t.value) × Rises t.value ts

rises_less : (m n : ℕ) (ts : List TxNo) → m ≤ n → Rises n ts → Rises m ts
rises_less m n [] k r = tt
rises_less m n (t ∷ ts) k r = (omega (arith, k, r.0), r.1)

-- so none of them is n, nor one below it
none_below : (n u : ℕ) (ts : List TxNo) → u ≤ n → Rises n ts → how_many (is_tx u) ts ≡ 0
none_below n u [] k r = refl
none_below n u (t ∷ ts) k r = elim (eqb_tells u t.value) [
  | inl e ↦ let more = r.0 in let same = e.1 in absurd (omega (arith, more, same, k))
  | inr e ↦ step (u == t.value) e.0 (none_below t.value u ts (let more = r.0 in omega (arith, more, k)) r.1)
]
  where
    step : (b : Bool) → b ≡ false → how_many (is_tx u) ts ≡ 0 → (if b then suc (how_many (is_tx u) ts) else how_many (is_tx u) ts) ≡ 0
    step true e ih = absurd cc
    step false e ih = ih

-- Two such lists in which each transaction stands as often are one.
head_many : (u : TxNo) (ts : List TxNo) → how_many (is_tx u.value) (u ∷ ts) ≡ suc (how_many (is_tx u.value) ts)
head_many u ts = step (u.value == u.value) ((Decides-eqb u.value u.value).1 refl)
  where
    step : (b : Bool) → b ≡ true → (if b then suc (how_many (is_tx u.value) ts) else how_many (is_tx u.value) ts) ≡ suc (how_many (is_tx u.value) ts)
    step true e = refl
    step false e = absurd cc

tail_many : (u t : TxNo) (xs ys : List TxNo) → how_many (is_tx u.value) (t ∷ xs) ≡ how_many (is_tx u.value) (t ∷ ys) → how_many (is_tx u.value) xs ≡ how_many (is_tx u.value) ys
tail_many u t xs ys = step (u.value == t.value) (how_many (is_tx u.value) xs) (how_many (is_tx u.value) ys)
  where
    step : (b : Bool) (m n : ℕ) → (if b then suc m else m) ≡ (if b then suc n else n) → m ≡ n
    step true m n e = omega (arith, e)
    step false m n e = e

heads_same : (n : ℕ) (x y : TxNo) (xs ys : List TxNo) → Rises n (x ∷ xs) → Rises n (y ∷ ys) → ((u : TxNo) → how_many (is_tx u.value) (x ∷ xs) ≡ how_many (is_tx u.value) (y ∷ ys)) → y.value ≤ x.value
heads_same n x y xs ys r q same = elim (cases_lt x.value y.value) [
  | inl k ↦
      let none : how_many (is_tx x.value) (y ∷ ys) ≡ 0 = none_below x.value x.value (y ∷ ys) (omega arith) (k, q.1) in
      let some = head_many x xs in
      let both = same x in
      absurd (omega (arith, none, some, both))
  | inr k ↦ k
]

pub same_rising : (n : ℕ) (xs ys : List TxNo) → Rises n xs → Rises n ys → ((u : TxNo) → how_many (is_tx u.value) xs ≡ how_many (is_tx u.value) ys) → xs ≡ ys
same_rising n [] [] r q same = refl
same_rising n [] (y ∷ ys) r q same = let some = head_many y ys in let both = same y in absurd (omega (arith, some, both))
same_rising n (x ∷ xs) [] r q same = let some = head_many x xs in let both = same x in absurd (omega (arith, some, both))
same_rising n (x ∷ xs) (y ∷ ys) r q same =
    let low = heads_same n x y xs ys r q same in
    let high = heads_same n y x ys xs q r (λ u. sym (same u)) in
    let here : x ≡ y = same_transaction x y (omega (arith, low, high)) in
    let moved : Rises y.value xs = subst (λ (z : TxNo). Rises z.value xs) here r.1 in
    let tails : (u : TxNo) → how_many (is_tx u.value) xs ≡ how_many (is_tx u.value) ys = λ u.
    tail_many u y xs ys (subst (λ (z : TxNo). how_many (is_tx u.value) (z ∷ xs) ≡ how_many (is_tx u.value) (y ∷ ys)) here (same u)) in
    ap (λ (z : TxNo). z ∷ xs) here ∙ ap (λ (zs : List TxNo). y ∷ zs) (same_rising y.value xs ys moved q.1 tails)

-- The transactions of a trace are such a list, and those of them that pass a test.
pub rises-filter : (n : ℕ) (p : TxNo → Bool) (ts : List TxNo) → Rises n ts → Rises n (filter p ts)
rises-filter n p [] r = tt
rises-filter n p (t ∷ ts) r = step (p t) (rises-filter t.value p ts r.1)
  where
    step : (b : Bool) → Rises t.value (filter p ts) → Rises n (if b then t ∷ filter p ts else filter p ts)
    step true ih = (r.0, ih)
    step false ih = rises_less n t.value (filter p ts) (let more = r.0 in omega (arith, more)) ih

lt_tells : (a b : ℕ) → ((nat_lt a b ≡ true) × (a < b)) ⊎ ((nat_lt a b ≡ false) × (b ≤ a))
lt_tells a b = by (cases_Bool (nat_lt a b)) (cases_lt a b)
  where
    by : ((nat_lt a b ≡ true) ⊎ (nat_lt a b ≡ false)) → ((a < b) ⊎ (b ≤ a)) → ((nat_lt a b ≡ true) × (a < b)) ⊎ ((nat_lt a b ≡ false) × (b ≤ a))
    by (inl e) k = inl (e, (Decides-ltb a b).0 e)
    by (inr e) (inr k) = inr (e, k)
    by (inr e) (inl k) = let f : true ≡ false = sym ((Decides-ltb a b).1 k) ∙ e in absurd cc

rest_of : (b : Bool) (m : ℕ) → (if b then suc m else m) ≡ 0 → (b ≡ false) × (m ≡ 0)
rest_of true m e = absurd (omega (arith, e))
rest_of false m e = (refl, e)

rises-insert : (n : ℕ) (t : TxNo) (ts : List TxNo) → n < t.value → how_many (is_tx t.value) ts ≡ 0 → Rises n ts → Rises n (insert_by tx_number t ts)
rises-insert n t [] k none r = (k, tt)
rises-insert n t (x ∷ ts) k none r = elim (lt_tells x.value t.value) [ inl e ↦ after (λ less out. rises-insert x.value t ts less out r.1) e.0 e.1 | inr e ↦ before e.0 e.1 ]
  where
    chosen : (b : Bool) → b ≡ true → Rises n (x ∷ insert_by tx_number t ts) → Rises n (if b then x ∷ insert_by tx_number t ts else t ∷ x ∷ ts)
    chosen true e q = q
    chosen false e q = absurd cc

    first : (b : Bool) → b ≡ false → Rises n (t ∷ x ∷ ts) → Rises n (if b then x ∷ insert_by tx_number t ts else t ∷ x ∷ ts)
    first true e q = absurd cc
    first false e q = q

    after : (x.value < t.value → how_many (is_tx t.value) ts ≡ 0 → Rises x.value (insert_by tx_number t ts)) → nat_lt x.value t.value ≡ true → x.value < t.value
        → Rises n (if nat_lt x.value t.value then x ∷ insert_by tx_number t ts else t ∷ x ∷ ts)
    after ih e less = chosen (nat_lt x.value t.value) e (r.0, ih less (rest_of (t.value == x.value) (how_many (is_tx t.value) ts) none).1)

    before : nat_lt x.value t.value ≡ false → t.value ≤ x.value → Rises n (if nat_lt x.value t.value then x ∷ insert_by tx_number t ts else t ∷ x ∷ ts)
    before e more = elim (eqb_tells t.value x.value) [
      | inl s ↦ let apart : true ≡ false = sym s.0 ∙ (rest_of (t.value == x.value) (how_many (is_tx t.value) ts) none).0 in absurd cc
      | inr s ↦ let other = s.1 in first (nat_lt x.value t.value) e (k, (omega (arith, other, more), r.1))
    ]

taken_out : (t : TxNo) (ts : List TxNo) → how_many (is_tx t.value) (filter (λ (u : TxNo). not (t.value == u.value)) ts) ≡ 0
taken_out t [] = refl
taken_out t (x ∷ ts) = step (t.value == x.value) refl (taken_out t ts)
  where
    none : (b : Bool) (m : ℕ) → b ≡ false → m ≡ 0 → (if b then suc m else m) ≡ 0
    none true m e q = absurd cc
    none false m e q = q

    step : (b : Bool) → (t.value == x.value) ≡ b → how_many (is_tx t.value) (filter (λ (u : TxNo). not (t.value == u.value)) ts) ≡ 0
        → how_many (is_tx t.value) (if not b then x ∷ filter (λ (u : TxNo). not (t.value == u.value)) ts else filter (λ (u : TxNo). not (t.value == u.value)) ts) ≡ 0
    step true e ih = ih
    step false e ih = none (t.value == x.value) (how_many (is_tx t.value) (filter (λ (u : TxNo). not (t.value == u.value)) ts)) e ih

pub rises-transactions : (T : List Placed) → Rises 0 (transactions T)
rises-transactions [] = tt
rises-transactions ((Transaction t, x) ∷ T) =
    let others = λ (u : TxNo). not (t.value == u.value) in
    rises-insert 0 t (filter others (transactions T)) (let first = t.in_range.0 in omega (arith, first)) (taken_out t (transactions T)) (rises-filter 0 others (transactions T) (rises-transactions T))
rises-transactions ((Context a, x) ∷ T) = rises-transactions T
rises-transactions ((Log, x) ∷ T) = rises-transactions T

-- Those that pass a test, of the numbers up to this one, in their order.
pub record AreUpTo (p : TxNo → Bool) (n : ℕ) (ts : List TxNo) : Type 0 where
  pub rises : Rises 0 ts
  pub passed : (u : TxNo) → how_many (is_tx u.value) ts ≡ one_if (nat_le u.value n && p u) 0

pub up_to_none : (p : TxNo → Bool) → AreUpTo p 0 []
up_to_none p = record { rises = tt; passed = λ u. none u (nat_le u.value 0) refl }
  where
    none : (u : TxNo) (b : Bool) → nat_le u.value 0 ≡ b → 0 ≡ one_if (b && p u) 0
    none u true e = elim (leb_tells u.value 0) [
      | inl k ↦ let low = k.1 in let first = u.in_range.0 in absurd (omega (arith, low, first))
      | inr k ↦ let f : true ≡ false = sym e ∙ k.0 in absurd cc
    ]
    none u false e = refl

-- The next one comes to them where it passes.
abbrev pub one_where : {A : Type 0} → Bool → A → List A
one_where true x = x ∷ []
one_where false x = []

many_more : (u t : TxNo) (ts : List TxNo) → how_many (is_tx u.value) (ts ++ t ∷ []) ≡ (if u.value == t.value then suc (how_many (is_tx u.value) ts) else how_many (is_tx u.value) ts)
many_more u t [] = refl
many_more u t (x ∷ ts) = step (u.value == x.value) (u.value == t.value) (how_many (is_tx u.value) (ts ++ t ∷ [])) (how_many (is_tx u.value) ts) (many_more u t ts)
  where
    step : (a b : Bool) (m n : ℕ) → m ≡ (if b then suc n else n) → (if a then suc m else m) ≡ (if b then suc (if a then suc n else n) else (if a then suc n else n))
    step true true m n e = ap suc e
    step true false m n e = ap suc e
    step false b m n e = e

rises-more : (m n : ℕ) (t : TxNo) (ts : List TxNo) → Rises m ts → m < t.value → ((u : TxNo) → t.value ≤ u.value → how_many (is_tx u.value) ts ≡ 0) → Rises m (ts ++ t ∷ [])
rises-more m n t [] r k low = (k, tt)
rises-more m n t (x ∷ ts) r k low =
    let less : x.value < t.value = elim (cases_lt x.value t.value) [
      | inl l ↦ l
      | inr l ↦ let none = low x l in let some = head_many x ts in absurd (omega (arith, none, some))
    ] in
    (r.0, rises-more x.value n t ts r.1 less (λ u l. rest (u.value == x.value) (how_many (is_tx u.value) ts) (low u l)))
  where
    rest : (b : Bool) (j : ℕ) → (if b then suc j else j) ≡ 0 → j ≡ 0
    rest true j e = absurd (omega (arith, e))
    rest false j e = e

above_none : (p : TxNo → Bool) (n : ℕ) (ts : List TxNo) → AreUpTo p n ts → (u : TxNo) → n < u.value → how_many (is_tx u.value) ts ≡ 0
above_none p n ts a u more = a.passed u ∙ none (nat_le u.value n) refl
  where
    none : (b : Bool) → nat_le u.value n ≡ b → one_if (b && p u) 0 ≡ 0
    none true e = elim (leb_tells u.value n) [
      | inl k ↦ let low = k.1 in absurd (omega (arith, low, more))
      | inr k ↦ let f : true ≡ false = sym e ∙ k.0 in absurd cc
    ]
    none false e = refl

-- the tests of a number up to the next one
le_here : (u : TxNo) (n : ℕ) → u.value ≡ n + 1 → (nat_le u.value n ≡ false) × (nat_le u.value (n + 1) ≡ true)
le_here u n e = elim (leb_tells u.value n) [
  | inl k ↦ let low = k.1 in absurd (omega (arith, low, e))
  | inr k ↦ (k.0, elim (leb_tells u.value (n + 1)) [ inl l ↦ l.0 | inr l ↦ let high = l.1 in absurd (omega (arith, high, e)) ])
]

pub le_other : (v n m : ℕ) → v ≢ n + 1 → m ≡ n + 1 → nat_le v m ≡ nat_le v n
le_other v n m other is = elim (leb_tells v n) [
  | inl k ↦ elim (leb_tells v m) [ inl l ↦ l.0 ∙ sym k.0 | inr l ↦ let low = k.1 in let high = l.1 in absurd (omega (arith, low, high, is)) ]
  | inr k ↦ elim (leb_tells v m) [ inl l ↦ let low = l.1 in let high = k.1 in absurd (omega (arith, low, high, other, is)) | inr l ↦ l.0 ∙ sym k.0 ]
]

pub le_last : (u : TxNo) (n : ℕ) → u.value ≡ n + 1 → nat_le u.value (n + 1) ≡ true
le_last u n e = (le_here u n e).1

pub le_yet : (u : TxNo) (n : ℕ) → u.value ≡ n + 1 → nat_le u.value n ≡ false
le_yet u n e = (le_here u n e).0

pub up_to_next : (p : TxNo → Bool) (n : ℕ) (ts : List TxNo) (t : TxNo) → t.value ≡ n + 1 → AreUpTo p n ts → AreUpTo p (n + 1) (ts ++ one_where (p t) t)
up_to_next p n ts t next a = by (p t) refl
  where
    passed_on : (b : Bool) (us : List TxNo) → p t ≡ b → ((u : TxNo) → u ≢ t → how_many (is_tx u.value) us ≡ how_many (is_tx u.value) ts) → how_many (is_tx t.value) us ≡ one_if b 0 → (u : TxNo)
        → how_many (is_tx u.value) us ≡ one_if (nat_le u.value (n + 1) && p u) 0
    passed_on b us e other own u = elim (eqb_tells u.value t.value) [
      | inl k ↦
          let same : u ≡ t = same_transaction u t k.1 in
          subst (λ (v : TxNo). how_many (is_tx v.value) us ≡ one_if (nat_le v.value (n + 1) && p v) 0) (sym same)
          (own ∙ (ap (λ c. one_if c 0) (sym e) ∙ ap (λ c. one_if (c && p t) 0) (sym (le_last t n next))))
      | inr k ↦
          let differs = k.1 in
          other u (λ s. differs (ap (λ (v : TxNo). v.value) s)) ∙ (a.passed u ∙ ap (λ c. one_if (c && p u) 0) (sym (le_other u.value n (n + 1) (omega (arith, differs, next)) refl)))
    ]

    unequal : (u : TxNo) → u ≢ t → (u.value == t.value) ≡ false
    unequal u k = elim (eqb_tells u.value t.value) [ inl e ↦ absurd (k (same_transaction u t e.1)) | inr e ↦ e.0 ]

    taken : (c : Bool) (m k : ℕ) → c ≡ false → (if c then m else k) ≡ k
    taken true m k e = absurd cc
    taken false m k e = refl

    is_one : (c : Bool) (m : ℕ) → c ≡ true → m ≡ 0 → (if c then suc m else m) ≡ 1
    is_one true m e z = ap suc z
    is_one false m e z = absurd cc

    by : (b : Bool) → p t ≡ b → AreUpTo p (n + 1) (ts ++ one_where b t)
    by true e =
        let none = above_none p n ts a t (omega (arith, next)) in
        record {
          rises = rises-more 0 n t ts a.rises (omega (arith, next)) (λ u l. above_none p n ts a u (omega (arith, next, l)));
          passed = passed_on true (ts ++ t ∷ []) e (λ u k. many_more u t ts ∙ taken (u.value == t.value) (suc (how_many (is_tx u.value) ts)) (how_many (is_tx u.value) ts) (unequal u k))
              (many_more t t ts ∙ is_one (t.value == t.value) (how_many (is_tx t.value) ts) ((Decides-eqb t.value t.value).1 refl) none);
        }
    by false e =
        let none = above_none p n ts a t (omega (arith, next)) in
        let same : ts ++ [] ≡ ts = append-nil ts in
        subst (λ (us : List TxNo). AreUpTo p (n + 1) us) (sym same) (record { rises = a.rises; passed = passed_on false ts e (λ u k. refl) none })

-- At the end they are those of the trace that pass, where no other does.
pub up_to_all : (p q : TxNo → Bool) (n : ℕ) (ts us : List TxNo) → AreUpTo p n ts → Rises 0 us → ((u : TxNo) → how_many (is_tx u.value) us ≡ one_if (q u) 0) → ((u : TxNo) → p u ≡ q u)
    → ((u : TxNo) → n < u.value → p u ≡ false) → ts ≡ us
up_to_all p q n ts us a rises many same none = same_rising 0 ts us a.rises rises (λ u. a.passed u ∙ (ap (λ b. one_if b 0) (by u (cases_lt n u.value)) ∙ sym (many u)))
  where
    both : (b c d : Bool) → b ≡ true → c ≡ d → (b && c) ≡ d
    both true c d e f = f
    both false c d e f = absurd cc

    neither : (b c d : Bool) → c ≡ false → c ≡ d → (b && c) ≡ d
    neither true c d e f = f
    neither false c d e f = sym e ∙ f

    low : (u : TxNo) → u.value ≤ n → nat_le u.value n ≡ true
    low u k = elim (leb_tells u.value n) [ inl l ↦ l.0 | inr l ↦ let high = l.1 in absurd (omega (arith, high, k)) ]

    by : (u : TxNo) → ((n < u.value) ⊎ (u.value ≤ n)) → (nat_le u.value n && p u) ≡ q u
    by u (inl k) = neither (nat_le u.value n) (p u) (q u) (none u k) (same u)
    by u (inr k) = both (nat_le u.value n) (p u) (q u) (low u k) (same u)

-- What is put at one more stands after the others.
pub put_next : (f : TxNo → Entry) (ts : List TxNo) (b : Bool) (t : TxNo) (T : List Placed) → put_at f (ts ++ one_where b t) T ≡ onto (put_at f ts T) (placed t (one_where b (f t)))
put_next f [] true t T = refl
put_next f [] false t T = refl
put_next f (x ∷ ts) b t T = put_next f ts b t ((Transaction x, f x) ∷ T)
