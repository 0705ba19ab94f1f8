-- The array of a trace, an object at a time.
use Rattle.std.proofs.Common.{◌≡◌, refl, ℕ, zero, suc, ◌+◌, ◌<◌, Bool, true, false, List, [], ◌∷◌, ◌++◌, length, take, get_or, ap, arith, add-one, sym, ◌∙◌, append_assoc}
use Rattle.std.proofs.lemmas.List.{append-nil}
use Rattle.serde_json.specs.Data.{array}
use Rattle.serde_json.specs.Written.{comma_if, compact_text, items_text}
use Rattle.dtx_model.specs.Traces.{Placed}
use Rattle.trace_lines.specs.Forms.{object_of, object_text, objects_from}
use Rattle.trace_lines.proofs.Plain.{object-written}

-- the objects of these entries, numbered from n, with a comma before each but the first of all
abbrev pub objects_text : Bool → ℕ → List Placed → List ℕ
objects_text later n [] = []
objects_text later n (x ∷ xs) = comma_if later ++ (compact_text (object_of n x) ++ objects_text true (suc n) xs)

-- the array as far as the loop has come
abbrev pub array_so_far : List Placed → List ℕ
array_so_far xs = 91 ∷ objects_text false 1 xs

-- one entry more is one object more
more : (n : ℕ) (xs : List Placed) (k m : ℕ) (x : Placed) → k < length xs → m ≡ n + k → get_or xs k x ≡ x
    → objects_text true n (take (suc k) xs) ≡ objects_text true n (take k xs) ++ (comma_if true ++ compact_text (object_of m x))
more n [] k m x h number e = absurd (omega arith)
more n (y ∷ xs) zero m x h number e =
    let same : m ≡ n = omega arith in
    ap (λ (t : List ℕ). 44 ∷ t) (append-nil (compact_text (object_of n y))) ∙ ap (λ (z : Placed). 44 ∷ compact_text (object_of n z)) e ∙ ap (λ (i : ℕ). 44 ∷ compact_text (object_of i x)) (sym same)
more n (y ∷ xs) (suc k) m x h number e =
    ap (λ (t : List ℕ). 44 ∷ (compact_text (object_of n y) ++ t)) (more (suc n) xs k m x (omega arith) (omega arith) e)
    ∙ ap (λ (t : List ℕ). 44 ∷ t) (sym (append_assoc (compact_text (object_of n y)) (objects_text true (suc n) (take k xs)) (comma_if true ++ compact_text (object_of m x))))

-- a loop's step at the first entry
pub first-step : (xs : List Placed) (k : ℕ) (x : Placed) → k ≡ 0 → k < length xs → x ≡ get_or xs k x → array_so_far (take (k + 1) xs) ≡ array_so_far (take k xs) ++ object_text (k + 1) x
first-step xs (suc k) x none h e = absurd (omega arith)
first-step [] zero x none h e = absurd (omega arith)
first-step (y ∷ xs) zero x none h e = ap (λ (t : List ℕ). 91 ∷ t) (append-nil (compact_text (object_of 1 y)) ∙ ap (λ (z : Placed). compact_text (object_of 1 z)) (sym e) ∙ object-written 1 x)

-- and at each later one
pub later-step : (xs : List Placed) (k : ℕ) (x : Placed) → 0 < k → k < length xs → x ≡ get_or xs k x
    → array_so_far (take (k + 1) xs) ≡ (array_so_far (take k xs) ++ 44 ∷ []) ++ object_text (k + 1) x
later-step xs zero x low h e = absurd (omega arith)
later-step [] (suc k) x low h e = absurd (omega arith)
later-step (y ∷ xs) (suc k) x low h e =
    rw add-one (
    ap (λ (t : List ℕ). 91 ∷ (compact_text (object_of 1 y) ++ t)) (more 2 xs k (suc (suc k)) x (omega arith) (omega arith) (sym e))
    ∙ ap (λ (t : List ℕ). 91 ∷ t) (sym (append_assoc (compact_text (object_of 1 y)) (objects_text true 2 (take k xs)) (44 ∷ compact_text (object_of (suc (suc k)) x))))
    ∙ ap (λ (t : List ℕ). 91 ∷ t) (sym (append_assoc (compact_text (object_of 1 y) ++ objects_text true 2 (take k xs)) (44 ∷ []) (compact_text (object_of (suc (suc k)) x))))
    ∙ ap (λ (t : List ℕ). (array_so_far (take (suc k) (y ∷ xs)) ++ 44 ∷ []) ++ t) (object-written (suc (suc k)) x)
    )

closed : (later : Bool) (n : ℕ) (xs : List Placed) → items_text later (objects_from n xs) ≡ objects_text later n xs ++ 93 ∷ []
closed later n [] = refl
closed later n (x ∷ xs) =
    ap (λ (t : List ℕ). comma_if later ++ (compact_text (object_of n x) ++ t)) (closed true (suc n) xs)
    ∙ ap (λ (t : List ℕ). comma_if later ++ t) (sym (append_assoc (compact_text (object_of n x)) (objects_text true (suc n) xs) (93 ∷ [])))
    ∙ sym (append_assoc (comma_if later) (compact_text (object_of n x) ++ objects_text true (suc n) xs) (93 ∷ []))

-- the array is whole once it is closed
pub whole : (xs : List Placed) → array_so_far xs ++ 93 ∷ 10 ∷ [] ≡ compact_text (array (objects_from 1 xs)) ++ 10 ∷ []
whole xs =
    ap (λ (t : List ℕ). 91 ∷ t) (sym (append_assoc (objects_text false 1 xs) (93 ∷ []) (10 ∷ [])))
    ∙ ap (λ (t : List ℕ). 91 ∷ (t ++ 10 ∷ [])) (sym (closed false 1 xs))
