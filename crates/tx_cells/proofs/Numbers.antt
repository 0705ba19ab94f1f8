-- The cells of a run, one number after the other.
use Rattle.std.proofs.Common.{◌≡◌, ℕ, ◌+◌, ◌++◌, ◌∷◌, [], Bool, true, false, List, append-nil, ap, cond, filter, map, refl, sym, ◌∙◌}
use Rattle.std.specs.List.{range_with_len}
use Rattle.std.proofs.lemmas.List.{map-append}
use Rattle.std.proofs.lemmas.List.FromFn.{map-range_with_len_more}
use Rattle.std.proofs.lemmas.List.Elements.{filter-append}

same : (xs : List ℕ) → map (λ (k : ℕ). k) xs ≡ xs
same [] = refl
same (x ∷ xs) = ap (λ ys. x ∷ ys) (same xs)

range_more : (a n j : ℕ) → a + n ≡ j → range_with_len a (n + 1) ≡ range_with_len a n ++ j ∷ []
range_more a n j e = sym (same (range_with_len a (n + 1))) ∙ (map-range_with_len_more (λ (k : ℕ). k) a n j e ∙ ap (λ xs. xs ++ j ∷ []) (same (range_with_len a n)))

filter_one : (p : ℕ → Bool) (j : ℕ) (b : Bool) → p j ≡ b → filter p (j ∷ []) ≡ cond b (j ∷ []) []
filter_one p j true e = rw e refl
filter_one p j false e = rw e refl

-- one number more, which passes or not
filter_more : (p : ℕ → Bool) (n j : ℕ) (b : Bool) → 1 + n ≡ j → p j ≡ b → filter p (range_with_len 1 (n + 1)) ≡ filter p (range_with_len 1 n) ++ cond b (j ∷ []) []
filter_more p n j b e is =
    ap (filter p) (range_more 1 n j e) ∙ (filter-append p (range_with_len 1 n) (j ∷ []) ∙ ap (λ xs. filter p (range_with_len 1 n) ++ xs) (filter_one p j b is))

-- Items for the numbers that pass: one more for the next number, where it passes,
pub made_more : {A : Type 0} (f : A → ℕ) (p : ℕ → Bool) (n j : ℕ) (xs ys : List A) (x : A) → 1 + n ≡ j → ys ≡ xs ++ x ∷ [] → f x ≡ j → p j ≡ true → map f xs ≡ filter p (range_with_len 1 n)
    → map f ys ≡ filter p (range_with_len 1 (n + 1))
made_more f p n j xs ys x e is at pass was =
    ap (map f) is
    ∙ (map-append f xs (x ∷ [])
    ∙ (ap (λ ks. ks ++ f x ∷ []) was ∙ (ap (λ (k : ℕ). filter p (range_with_len 1 n) ++ k ∷ []) at ∙ sym (filter_more p n j true e pass))))

-- and none where it doesn't.
pub made_same : {A : Type 0} (f : A → ℕ) (p : ℕ → Bool) (n j : ℕ) (xs : List A) → 1 + n ≡ j → p j ≡ false → map f xs ≡ filter p (range_with_len 1 n) → map f xs ≡ filter p (range_with_len 1 (n + 1))
made_same f p n j xs e pass was = was ∙ (sym (append-nil (filter p (range_with_len 1 n))) ∙ sym (filter_more p n j false e pass))
