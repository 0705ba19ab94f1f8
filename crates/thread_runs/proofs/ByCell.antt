-- Of the cells of a run, the one of a transaction, and its history in the trace.
use Rattle.std.proofs.Common.{◌≡◌, ◌⊎◌, ◌≤◌, ◌<◌, ◌+◌, ℕ, zero, suc, ◌==◌, Bool, true, false, ◌||◌, List, [], ◌∷◌, ◌++◌, filter, map, append-nil, arith, inl, inr, refl, ap, sym, ◌∙◌, if◌then◌else◌}
use Rattle.std.specs.List.{range_with_len}
use Rattle.std.proofs.lemmas.Bool.Decides.{eqb_tells}
use Rattle.dtx_values.specs.declared.entry.Entry.{Entry}
use Rattle.dtx_values.specs.declared.number.TxNo.{TxNo}
use Rattle.dtx_values.specs.declared.script.Line.{Line}
use Rattle.dtx_values.specs.declared.trace.Place.TheVariants.{Transaction}
use Rattle.dtx_model.specs.Grammar.{OfTransaction, is_made}
use Rattle.dtx_model.specs.Traces.{Placed, history, is_at, placed}
use Rattle.dtx_model.specs.Words.{has}
use Rattle.dtx_model.proofs.Bools.{not_both, or_first, or_second}
use Rattle.tx_cells.specs.Board.{transactions_of}
use Rattle.tx_cells.specs.Cell.{Cell}
use Rattle.thread_runs.specs.Gathering.{with_histories}
use Rattle.thread_runs.proofs.Placing.{entries_here, entries_there}

-- The numbers rise, each at least this.
abbrev pub Rises : ℕ → List ℕ → Type 0
Rises n [] = Unit {0}
Rises n (k ∷ ks) = (n ≤ k) × Rises (k + 1) ks

rises_less : (m n : ℕ) (ks : List ℕ) → m ≤ n → Rises n ks → Rises m ks
rises_less m n [] k r = tt
rises_less m n (x ∷ xs) k r = (omega (arith, k, r.0), r.1)

rises_filter : (p : ℕ → Bool) (n : ℕ) (ks : List ℕ) → Rises n ks → Rises n (filter p ks)
rises_filter p n [] r = tt
rises_filter p n (k ∷ ks) r = by (p k) (rises_filter p (k + 1) ks r.1)
  where
    by : (b : Bool) → Rises (k + 1) (filter p ks) → Rises n (if b then k ∷ filter p ks else filter p ks)
    by true ih = (r.0, ih)
    by false ih = rises_less n (k + 1) (filter p ks) (let low = r.0 in omega (arith, low)) ih

rises_range : (n m : ℕ) → Rises n (range_with_len n m)
rises_range n zero = tt
rises_range n (suc m) = (omega arith, rises_range (n + 1) m)

-- a number stands among these
abbrev pub is_among : ℕ → List ℕ → Bool
is_among t ks = has (λ k. t == k) ks

unequal : (t k : ℕ) → t < k → (t == k) ≡ false
unequal t k less = elim (eqb_tells t k) [ inl e ↦ let same = e.1 in absurd (omega (arith, less, same)) | inr e ↦ e.0 ]

none_below : (t n : ℕ) (ks : List ℕ) → t < n → Rises n ks → is_among t ks ≡ false
none_below t n [] less r = refl
none_below t n (k ∷ ks) less r = rw (unequal t k (let low = r.0 in omega (arith, low, less))) (none_below t (k + 1) ks (let low = r.0 in omega (arith, low, less)) r.1)

-- so do those of the script's transactions,
pub rises_transactions : (s : List Line) → Rises 1 (transactions_of s)
unfolding transactions_of
rises_transactions s = rises_filter (λ n. is_made s (OfTransaction n)) 1 (range_with_len 1 256) (rises_range 1 256)

-- and a transaction that isn't among them is made by no line.
in_range : (t n m : ℕ) → n ≤ t → t < n + m → is_among t (range_with_len n m) ≡ true
in_range t n zero low high = absurd (omega (arith, low, high))
in_range t n (suc m) low high = elim (eqb_tells t n) [
  | inl e ↦ rw e.0 refl
  | inr e ↦ let other = e.1 in rw e.0 (in_range t (n + 1) m (omega (arith, low, other)) (omega (arith, high)))
]

not_made : (p : ℕ → Bool) (t : ℕ) (ks : List ℕ) → is_among t ks ≡ true → is_among t (filter p ks) ≡ false → p t ≡ false
not_made p t [] k none = absurd cc
not_made p t (x ∷ xs) k none = elim (eqb_tells t x) [ inl e ↦ here (p x) refl e.1 e.0 none | inr e ↦ there (p x) e.0 k none (not_made p t xs) ]
  where
    here : (b : Bool) → p x ≡ b → t ≡ x → (t == x) ≡ true → is_among t (if b then x ∷ filter p xs else filter p xs) ≡ false → p t ≡ false
    here true e same eq none = absurd (not_both (t == x) eq (or_first (t == x) (is_among t (filter p xs)) none))
    here false e same eq none = ap p same ∙ e

    there : (b : Bool) → (t == x) ≡ false → ((t == x) || is_among t xs) ≡ true → is_among t (if b then x ∷ filter p xs else filter p xs) ≡ false → (is_among t xs ≡ true → is_among t (filter p xs) ≡ false → p t ≡ false) → p t ≡ false
    there b other k none ih = ih (later (t == x) (is_among t xs) other k) (rest b (is_among t (filter p xs)) none)
      where
        later : (c d : Bool) → c ≡ false → (c || d) ≡ true → d ≡ true
        later true d e q = absurd cc
        later false d e q = q

        rest : (b d : Bool) → is_among t (if b then x ∷ filter p xs else filter p xs) ≡ false → is_among t (filter p xs) ≡ false
        rest true d q = or_second (t == x) (is_among t (filter p xs)) q
        rest false d q = q

pub unmade : (s : List Line) (t : TxNo) → is_among t.value (transactions_of s) ≡ false → is_made s (OfTransaction t.value) ≡ false
unfolding transactions_of
unmade s t none = not_made (λ n. is_made s (OfTransaction n)) t.value (range_with_len 1 256) (in_range t.value 1 256 t.in_range.0 (let high = t.in_range.1 in omega (arith, high))) none

-- P holds of each of these.
abbrev pub AllOf : (Cell → Type 0) → List Cell → Type 0
AllOf P [] = Unit {0}
AllOf P (c ∷ cs) = P c × AllOf P cs

-- the numbers of their transactions
abbrev pub numbers : List Cell → List ℕ
numbers cs = map (λ c. c.tx.transaction.t.value) cs

-- The history of a transaction that has none of these cells is as before.
no_history : (t : ℕ) (cs : List Cell) (T : List Placed) → is_among t (numbers cs) ≡ false → history t (with_histories cs T) ≡ history t T
no_history t [] T none = refl
no_history t (c ∷ cs) T none =
    no_history t cs (placed c.tx.transaction.t c.tx.world.past ++ T) (or_second (t == c.tx.transaction.t.value) (is_among t (numbers cs)) none)
    ∙ entries_there (is_at t) (Transaction c.tx.transaction.t) c.tx.world.past T (or_first (t == c.tx.transaction.t.value) (is_among t (numbers cs)) none)

-- A transaction has one of these cells, and its history is that cell's; or it has none, and its history is empty.
abbrev pub IsFound : (Cell → Type 0) → ℕ → List Cell → List Entry → Type 0
IsFound P t cs h = ((c : Cell) × (c.tx.transaction.t.value ≡ t) × P c × (h ≡ c.tx.world.past)) ⊎ ((is_among t (numbers cs) ≡ false) × (h ≡ []))

pub find_cell : (P : Cell → Type 0) (t n : ℕ) (cs : List Cell) (T : List Placed) → Rises n (numbers cs) → AllOf P cs → history t T ≡ [] → IsFound P t cs (history t (with_histories cs T))
find_cell P t n [] T r all none = inr (refl, none)
find_cell P t n (c ∷ cs) T r all none = elim (eqb_tells t c.tx.transaction.t.value) [ inl e ↦ inl (c, sym e.1, all.0, here e.0 e.1) | inr e ↦ there e.0 (find_cell P t (c.tx.transaction.t.value + 1) cs (placed c.tx.transaction.t c.tx.world.past ++ T) r.1 all.1 (beside e.0)) ]
  where
    beside : (t == c.tx.transaction.t.value) ≡ false → history t (placed c.tx.transaction.t c.tx.world.past ++ T) ≡ []
    beside other = entries_there (is_at t) (Transaction c.tx.transaction.t) c.tx.world.past T other ∙ none

    here : (t == c.tx.transaction.t.value) ≡ true → t ≡ c.tx.transaction.t.value → history t (with_histories cs (placed c.tx.transaction.t c.tx.world.past ++ T)) ≡ c.tx.world.past
    here is same =
        no_history t cs (placed c.tx.transaction.t c.tx.world.past ++ T) (none_below t (c.tx.transaction.t.value + 1) (numbers cs) (omega (arith, same)) r.1)
        ∙ (entries_here (is_at t) (Transaction c.tx.transaction.t) c.tx.world.past T is ∙ (ap (λ (es : List Entry). c.tx.world.past ++ es) none ∙ append-nil c.tx.world.past))

    there : (t == c.tx.transaction.t.value) ≡ false → IsFound P t cs (history t (with_histories cs (placed c.tx.transaction.t c.tx.world.past ++ T)))
        → IsFound P t (c ∷ cs) (history t (with_histories cs (placed c.tx.transaction.t c.tx.world.past ++ T)))
    there other (inl f) = inl f
    there other (inr f) = inr (rw other f.0, f.1)
