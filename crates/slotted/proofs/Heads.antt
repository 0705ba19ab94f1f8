-- The head of a slotted file, and bytes that are compared with it.
use Rattle.std.specs.Prelude.{replicate}
use Rattle.std.proofs.Common.{◌≡◌, ℕ, zero, suc, ◌-◌, ◌+◌, ◌≤◌, ◌<◌, Bool, true, false, cond, eqb, List, [], ◌∷◌, ◌++◌, length, get_or, take, drop, Result, Ok, Err, refl, sym, ap, ◌∙◌, inl, inr, arith}
use Rattle.std.proofs.lemmas.Bool.{cases_eq}
use Rattle.std.proofs.lemmas.Bool.Decides.{nat_tests}
use Rattle.std.proofs.lemmas.List.{drop_more, drop_all, drop-replicate, take-append-drop}
use Rattle.dtx_model.specs.Log.{same_at, zeros_at}

-- the first place that differs ends the comparison
pub differs : (w b : List ℕ) (i : ℕ) → i < length w → i < length b → (get_or w i 0 ≡ get_or b i 0 → ⊥) → same_at i (drop i w) (drop i b) ≡ same_at 0 w b → same_at 0 w b ≡ Err i
unfolding same_at
differs w b i lw lb other so_far =
    let test : eqb (get_or b i 0) (get_or w i 0) ≡ false = grind (arith, nat_tests) in
    let one : same_at i (drop i w) (drop i b) ≡ Err i = rw (drop_more w i 0 lw, drop_more b i 0 lb, test) refl in
    sym so_far ∙ one

-- a place that is as wanted leaves the rest to be compared
pub goes_same : (w b : List ℕ) (i : ℕ) → i < length w → i < length b → get_or w i 0 ≡ get_or b i 0 → same_at i (drop i w) (drop i b) ≡ same_at 0 w b → same_at (i + 1) (drop (i + 1) w) (drop (i + 1) b) ≡ same_at 0 w b
unfolding same_at
goes_same w b i lw lb is so_far =
    let test : eqb (get_or b i 0) (get_or w i 0) ≡ true = grind (arith, nat_tests) in
    let one : same_at i (drop i w) (drop i b) ≡ same_at (i + 1) (drop (i + 1) w) (drop (i + 1) b) = rw (drop_more w i 0 lw, drop_more b i 0 lb, test) refl in
    sym one ∙ so_far

-- all places are as wanted
pub all_same : (w b : List ℕ) (i : ℕ) → length w ≤ i → same_at i (drop i w) (drop i b) ≡ same_at 0 w b → same_at 0 w b ≡ Ok i
unfolding same_at
all_same w b i lw so_far =
    let one : same_at i (drop i w) (drop i b) ≡ Ok i = rw (drop_all i w lw) refl in
    sym so_far ∙ one

-- bytes that are as wanted, and no more, are those that are wanted
pub same_is : (place : ℕ) (w b : List ℕ) (q : ℕ) → length w ≡ length b → same_at place w b ≡ Ok q → b ≡ w
unfolding same_at
same_is place [] [] q long e = refl
same_is place [] (x ∷ xs) q long e = absurd (omega arith)
same_is place (y ∷ w) [] q long e = absurd (omega arith)
same_is place (y ∷ w) (x ∷ xs) q long e = elim (cases_eq x y) [
  | inl is ↦
      let test : eqb x y ≡ true = grind (arith, nat_tests) in
      let rest : same_at (place + 1) w xs ≡ Ok q = sym (ap (λ (t : Bool). cond t (same_at (place + 1) w xs) (Err place)) test) ∙ e in
      λ i. is i ∷ same_is (place + 1) w xs q (omega arith) rest i
  | inr not ↦
      let test : eqb x y ≡ false = grind (arith, nat_tests) in
      let no_ok : err_of place ≡ Ok q = sym (ap (λ (t : Bool). cond t (same_at (place + 1) w xs) (Err place)) test) ∙ e in absurd cc
]
  where
    err_of : ℕ → Result ℕ ℕ
    err_of p = Err p

-- bytes are as they are
pub same_self : (place : ℕ) (w : List ℕ) → (p : ℕ) × (same_at place w w ≡ Ok p)
unfolding same_at
same_self place [] = (place, refl)
same_self place (x ∷ w) = let h = same_self (place + 1) w in let test : eqb x x ≡ true = grind (arith, nat_tests) in (h.0, rw test h.1)

-- a front, and zeros behind it
pub whole_of : (all f : List ℕ) (k n l : ℕ) → take k all ≡ f → drop k all ≡ drop k (replicate l 0) → l - k ≡ n → all ≡ f ++ replicate n 0
whole_of all f k n l first rest is =
    sym (take-append-drop k all) ∙ ap (λ (x : List ℕ). x ++ drop k all) first ∙ ap (λ (x : List ℕ). f ++ x) (rest ∙ drop-replicate k l 0 ∙ ap (λ (m : ℕ). replicate m 0) is)

-- eight letters over zeros are a head
pub head_made : (letters all : List ℕ) → take 8 all ≡ letters → drop 8 all ≡ drop 8 (replicate 512 0) → all ≡ letters ++ replicate 504 0
head_made letters all first rest = whole_of all letters 8 504 512 first rest refl

-- ---- zeros

-- a byte that isn't zero ends the zeros
pub zero_found : (xs : List ℕ) (i place at : ℕ) → i < length xs → (get_or xs i 0 ≡ 0 → ⊥) → zeros_at place (drop i xs) ≡ zeros_at at xs → zeros_at at xs ≡ Err place
unfolding zeros_at
zero_found xs i place at lt other so_far =
    let test : eqb (get_or xs i 0) 0 ≡ false = grind (arith, nat_tests) in
    let one : zeros_at place (drop i xs) ≡ Err place = rw (drop_more xs i 0 lt, test) refl in
    sym so_far ∙ one

-- a zero leaves the rest to be zeros
pub zero_passed : (xs : List ℕ) (i place at : ℕ) → i < length xs → get_or xs i 0 ≡ 0 → zeros_at place (drop i xs) ≡ zeros_at at xs
    → zeros_at (place + 1) (drop (i + 1) xs) ≡ zeros_at at xs
unfolding zeros_at
zero_passed xs i place at lt is so_far =
    let one : zeros_at place (drop i xs) ≡ zeros_at (place + 1) (drop (i + 1) xs) = rw (drop_more xs i 0 lt, is) refl in
    sym one ∙ so_far

-- behind the last zero stands the end
pub zeros_done : (xs : List ℕ) (i place at : ℕ) → length xs ≤ i → zeros_at place (drop i xs) ≡ zeros_at at xs → zeros_at at xs ≡ Ok place
unfolding zeros_at
zeros_done xs i place at le so_far =
    let one : zeros_at place (drop i xs) ≡ Ok place = rw (drop_all i xs le) refl in
    sym so_far ∙ one

-- zeros are read as zeros
pub zeros_again : (place n : ℕ) → zeros_at place (replicate n 0) ≡ Ok (place + n)
unfolding zeros_at
zeros_again place zero = ap (λ (k : ℕ). Ok k) (omega arith)
zeros_again place (suc n) = zeros_again (place + 1) n ∙ ap (λ (k : ℕ). Ok k) (omega arith)
