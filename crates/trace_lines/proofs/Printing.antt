-- A trace's text, a line at a time.
use Rattle.std.proofs.Common.{◌≡◌, Bool, true, refl, ℕ, zero, suc, ◌+◌, ◌<◌, List, [], ◌∷◌, ◌++◌, length, take, get_or, ap, arith, add-one, sym, ◌∙◌, append_assoc}
use Rattle.std.proofs.lemmas.List.{append-nil}
use Rattle.dtx_model.specs.Traces.{Placed}
use Rattle.dtx_model.specs.TraceText.{trace_line, lines_from}
use Rattle.dtx_model.specs.Words.{each}
use Rattle.dtx_model.proofs.Bools.{and_both, and_left, and_right}

-- one entry more is one line more
pub lines_from-more : (n : ℕ) (xs : List Placed) (k m : ℕ) (x : Placed) → k < length xs → m ≡ n + k → get_or xs k x ≡ x → lines_from n (take (suc k) xs) ≡ lines_from n (take k xs) ++ trace_line m x
lines_from-more n [] k m x h number e = absurd (omega arith)
lines_from-more n (y ∷ xs) zero m x h number e =
    let same : m ≡ n = omega arith in
    append-nil (trace_line n y) ∙ ap (λ (z : Placed). trace_line n z) e ∙ ap (λ (i : ℕ). trace_line i x) (sym same)
lines_from-more n (y ∷ xs) (suc k) m x h number e =
    ap (λ (t : List ℕ). trace_line n y ++ t) (lines_from-more (suc n) xs k m x (omega arith) (omega arith) e) ∙ sym (append_assoc (trace_line n y) (lines_from (suc n) (take k xs)) (trace_line m x))

-- a loop's step from entry k, whose line has the number k + 1
pub lines-step : (xs : List Placed) (k : ℕ) (x : Placed) → k < length xs → x ≡ get_or xs k x → lines_from 1 (take (k + 1) xs) ≡ lines_from 1 (take k xs) ++ trace_line (k + 1) x
lines-step xs k x h e = rw add-one (lines_from-more 1 xs k (suc k) x h (omega arith) (sym e))

-- where the entries so far pass and the next does, so do they with it
each-more : (p : Placed → Bool) (xs : List Placed) (k : ℕ) (x : Placed) → k < length xs → get_or xs k x ≡ x → each p (take k xs) ≡ true → p x ≡ true → each p (take (suc k) xs) ≡ true
each-more p [] k x h e f g = absurd (omega arith)
each-more p (y ∷ xs) zero x h e f g = and_both (p y) _ (ap p e ∙ g) refl
each-more p (y ∷ xs) (suc k) x h e f g = and_both (p y) _ (and_left (p y) (each p (take k xs)) f) (each-more p xs k x (omega arith) e (and_right (p y) (each p (take k xs)) f) g)

-- so do they after a loop's step
pub each-step : (p : Placed → Bool) (xs : List Placed) (k : ℕ) (x : Placed) → k < length xs → x ≡ get_or xs k x → each p (take k xs) ≡ true → p x ≡ true → each p (take (k + 1) xs) ≡ true
each-step p xs k x h e f g = rw add-one (each-more p xs k x h (sym e) f g)
