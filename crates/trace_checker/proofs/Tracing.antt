-- A trace with one more entry.
use Rattle.std.proofs.Common.{◌≡◌, ◌≢◌, ℕ, ◌+◌, ◌-◌, ◌<◌, ◌≤◌, Bool, true, false, cond, ◌==◌, nat_lt, List, [], ◌∷◌, ◌++◌, length, take, get_or, set, Some, refl, ap, subst, sym, ◌∙◌, arith, get_or-set_other, get_or-set_same}
use Rattle.std.proofs.lemmas.List.{take_more}
use Rattle.std.proofs.Math.ListN.{get_or-append}
use Rattle.std.proofs.Math.Seq.{get_or-append_seam}
use Rattle.std.proofs.lemmas.Bool.Decides.{nat_tests}
use Rattle.dtx_values.specs.declared.entry.Entry.{Entry}
use Rattle.dtx_values.specs.declared.number.ActorNo.{ActorNo}
use Rattle.dtx_values.specs.declared.number.TxNo.{TxNo}
use Rattle.dtx_values.specs.declared.trace.Place.TheVariants.{Context, Log, Transaction}
use Rattle.dtx_model.specs.Outcome.{agree, justified}
use Rattle.dtx_model.specs.Traces.{Placed, history}
use Rattle.dtx_model.specs.Wires.{WireRun}
use Rattle.dtx_model.specs.Words.{past_of}
use Rattle.dtx_model.proofs.Histories.{past_of-snoc}
use Rattle.trace_checker.specs.declared.book.Book.{Book}
use Rattle.trace_checker.specs.declared.checked.Why.{Why}
use Rattle.trace_checker.specs.declared.checked.Why.TheVariants.{Justified, Agree, Wire}
use Rattle.trace_checker.specs.Keeps.{Keeps, Loses}
use Rattle.trace_checker.specs.Kept.{IsBookOf}
use Rattle.trace_checker.specs.Loss.{IsKept, IsLossOf}

same_is : (n m : ℕ) → (n == m) ≡ true → n ≡ m
same_is n m e = grind (arith, nat_tests)

same_number : (n : ℕ) → (n == n) ≡ true
same_number n = grind (arith, nat_tests)

-- the history of t, with an entry at u
at_history : (t : ℕ) (u : TxNo) (x : Entry) (T : List Placed) → history t (past_of (T ++ (Transaction u, x) ∷ [])) ≡ cond (t == u.value) (x ∷ history t (past_of T)) (history t (past_of T))
at_history t u x T = ap (history t) (past_of-snoc T (Transaction u, x))

pub own_history : (u : TxNo) (x : Entry) (T : List Placed) → history u.value (past_of (T ++ (Transaction u, x) ∷ [])) ≡ (x ∷ history u.value (past_of T))
own_history u x T = at_history u.value u x T ∙ ap (λ b. cond b (x ∷ history u.value (past_of T)) (history u.value (past_of T))) (same_number u.value)

pub aside_context : (t : ℕ) (a : ActorNo) (x : Entry) (T : List Placed) → history t (past_of (T ++ (Context a, x) ∷ [])) ≡ history t (past_of T)
aside_context t a x T = ap (history t) (past_of-snoc T (Context a, x))

pub aside_log : (t : ℕ) (x : Entry) (T : List Placed) → history t (past_of (T ++ (Log, x) ∷ [])) ≡ history t (past_of T)
aside_log t x T = ap (history t) (past_of-snoc T (Log, x))

-- what holds of each history still does, where it holds of the one that goes on
each_more : (P : List Entry → Type 0) (T : List Placed) (u : TxNo) (x : Entry) → ((t : TxNo) → P (history t.value (past_of T))) → P (x ∷ history u.value (past_of T)) → (t : TxNo) → P (history t.value (past_of (T ++ (Transaction u, x) ∷ [])))
each_more P T u x k n t = subst P (sym (at_history t.value u x T)) (by (t.value == u.value) refl)
  where
    by : (b : Bool) → (t.value == u.value) ≡ b → P (cond b (x ∷ history t.value (past_of T)) (history t.value (past_of T)))
    by true e = let Q : ℕ → Type 0 = λ j. P (x ∷ history j (past_of T)) in subst Q (sym (same_is t.value u.value e)) n
    by false e = k t

pub kept_at : (T : List Placed) (t : TxNo) → Keeps T → IsKept (history t.value (past_of T))
kept_at T t k = record { just = k.just t; agrees = k.agrees t; wires = k.wires t }

pub keeps_more : (T : List Placed) (u : TxNo) (x : Entry) → Keeps T → IsKept (x ∷ history u.value (past_of T)) → Keeps (T ++ (Transaction u, x) ∷ [])
keeps_more T u x k n = record {
  just = each_more (λ h. justified h ≡ true) T u x k.just n.just;
  agrees = each_more (λ h. agree h ≡ true) T u x k.agrees n.agrees;
  wires = each_more (λ h. WireRun h) T u x k.wires n.wires;
}

pub loses_more : (T : List Placed) (u : TxNo) (x : Entry) (why : Why) → Keeps T → IsLossOf (x ∷ history u.value (past_of T)) (Some why) → Loses why (T ++ (Transaction u, x) ∷ [])
loses_more T u x Justified k l = (u, ap justified (own_history u x T) ∙ l)
loses_more T u x Agree k l = (each_more (λ h. justified h ≡ true) T u x k.just l.0, u, ap agree (own_history u x T) ∙ l.1)
loses_more T u x Wire k l =
    (each_more (λ h. justified h ≡ true) T u x k.just l.0, each_more (λ h. agree h ≡ true) T u x k.agrees l.1, u, λ r. l.2 (subst WireRun (own_history u x T) r))

-- the book of u is changed, and the others stay
pub books_more : (T : List Placed) (u : TxNo) (x : Entry) (bs : List Book) (i : ℕ) (b : Book) → i + 1 ≡ u.value → i < length bs → ((t : TxNo) (d : Book) → IsBookOf (history t.value (past_of T)) (get_or bs (t.value - 1) d))
    → IsBookOf (x ∷ history u.value (past_of T)) b → (t : TxNo) (d : Book) → IsBookOf (history t.value (past_of (T ++ (Transaction u, x) ∷ []))) (get_or (set bs i b) (t.value - 1) d)
books_more T u x bs i b p lt k n t d =
    let P : List Entry → Type 0 = λ h. IsBookOf h (get_or (set bs i b) (t.value - 1) d) in
    subst P (sym (at_history t.value u x T)) (by (t.value == u.value) refl)
  where
    by : (s : Bool) → (t.value == u.value) ≡ s → IsBookOf (cond s (x ∷ history t.value (past_of T)) (history t.value (past_of T))) (get_or (set bs i b) (t.value - 1) d)
    by true e =
        let j : t.value ≡ u.value = same_is t.value u.value e in
        let at : i ≡ t.value - 1 = omega (arith, j, p) in
        let got : get_or (set bs i b) (t.value - 1) d ≡ b = ap (λ m. get_or (set bs i b) m d) (sym at) ∙ get_or-set_same bs i b d lt in
        let Q : Book → Type 0 = λ c. IsBookOf (x ∷ history t.value (past_of T)) c in
        let R : ℕ → Type 0 = λ m. IsBookOf (x ∷ history m (past_of T)) b in
        subst Q (sym got) (subst R (sym j) n)
    by false e =
        let low : 1 ≤ t.value = t.in_range.0 in
        let other : t.value - 1 ≢ i = λ q. absurd (apart (t.value) (u.value) e (omega (arith, q, p, low))) in
        let Q : Book → Type 0 = λ c. IsBookOf (history t.value (past_of T)) c in
        subst Q (sym (get_or-set_other bs i (t.value - 1) b d other)) (k t d)
      where
        apart : (n m : ℕ) → (n == m) ≡ false → n ≡ m → ⊥
        apart n m e q = grind (arith, nat_tests)

-- nothing is lost by no entries
pub none_kept : Keeps []
unfolding justified agree
none_kept = record { just = λ t. refl; agrees = λ t. refl; wires = λ t. tt }

-- one more book of no entries
pub blank_more : (bs : List Book) (b : Book) (n : ℕ) → length bs ≡ n → ((j : ℕ) (d : Book) → j < n → IsBookOf [] (get_or bs j d)) → IsBookOf [] b → (j : ℕ) (d : Book) → j < n + 1 → IsBookOf [] (get_or (bs ++ b ∷ []) j d)
blank_more bs b n e k new j d lt = by (nat_lt j n) refl
  where
    by : (s : Bool) → nat_lt j n ≡ s → IsBookOf [] (get_or (bs ++ b ∷ []) j d)
    by true f =
        let before : j < n = below j n f in
        let within : j < length bs = omega (arith, before, e) in
        let Q : Book → Type 0 = λ c. IsBookOf [] c in
        subst Q (sym (get_or-append bs (b ∷ []) d j within)) (k j d before)
      where
        below : (j n : ℕ) → nat_lt j n ≡ true → j < n
        below j n f = grind (arith, nat_tests)
    by false f =
        let at : length bs ≡ j = here j n (length bs) f lt e in
        let Q : Book → Type 0 = λ c. IsBookOf [] c in
        subst Q (sym (ap (λ m. get_or (bs ++ b ∷ []) m d) (sym at) ∙ get_or-append_seam bs b [] d)) new
      where
        here : (j n m : ℕ) → nat_lt j n ≡ false → j < n + 1 → m ≡ n → m ≡ j
        here j n m f l e = grind (arith, nat_tests)

-- the book at an index is that of its transaction
pub book_at : (T : List Placed) (u : TxNo) (bs : List Book) (i : ℕ) (b : Book) → i + 1 ≡ u.value → b ≡ get_or bs i b → ((t : TxNo) (d : Book) → IsBookOf (history t.value (past_of T)) (get_or bs (t.value - 1) d)) → IsBookOf (history u.value (past_of T)) b
book_at T u bs i b p e k =
    let at : u.value - 1 ≡ i = omega (arith, p) in
    let Q : Book → Type 0 = λ c. IsBookOf (history u.value (past_of T)) c in
    subst Q (ap (λ m. get_or bs m b) at ∙ sym e) (k u b)

-- the first entries with the next one
pub with_next : (xs : List Placed) (i : ℕ) (y : Placed) → i < length xs → y ≡ get_or xs i y → (take i xs ++ y ∷ []) ≡ take (i + 1) xs
with_next xs i y lt e = sym (take_more xs i y lt ∙ ap (λ (z : Placed). take i xs ++ z ∷ []) (sym e))

-- where each history stays, all is kept
pub aside_kept : (T U : List Placed) → ((t : TxNo) → history t.value (past_of U) ≡ history t.value (past_of T)) → Keeps T → Keeps U
aside_kept T U e k = record {
  just = λ t. ap justified (e t) ∙ k.just t;
  agrees = λ t. ap agree (e t) ∙ k.agrees t;
  wires = λ t. subst WireRun (sym (e t)) (k.wires t);
}
