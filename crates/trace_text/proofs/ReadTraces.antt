-- Texts of traces, line by line.
use Rattle.std.proofs.Common.{◌≡◌, ◌≢◌, ℕ, suc, ◌+◌, true, List, [], ◌∷◌, ◌++◌, length, length-append, refl, ap, sym, ◌∙◌, arith, append_assoc}
use Rattle.std.proofs.lemmas.List.{append-nil}
use Rattle.dtx_model.specs.Words.{each}
use Rattle.dtx_model.specs.Traces.{Placed}
use Rattle.dtx_model.specs.TraceText.{trace_line, lines_from, trace_text, is_fit, IsTextOf, IsBadLine}
use Rattle.dtx_model.proofs.Bools.{and_left, and_right, and_both}
use Rattle.trace_lines.proofs.LineEnds.{line_long, same_after}

-- one entry more at the end is one line more
lines_push : (n m : ℕ) (xs : List Placed) (x : Placed) → m ≡ n + length xs → lines_from n (xs ++ x ∷ []) ≡ lines_from n xs ++ trace_line m x
lines_push n m [] x e =
    let same : n ≡ m = omega arith in
    append-nil (trace_line n x) ∙ ap (λ k. trace_line k x) same
lines_push n m (y ∷ xs) x e =
    ap (λ t. trace_line n y ++ t) (lines_push (suc n) m xs x (omega arith)) ∙ sym (append_assoc (trace_line n y) (lines_from (suc n) xs) (trace_line m x))

-- the same for a trace whose text the bytes begin with
pub text_push : (b rest after : List ℕ) (xs : List Placed) (x : Placed) (m : ℕ) → b ≡ trace_text xs ++ rest → m ≡ length xs + 1 → rest ≡ trace_line m x ++ after
    → b ≡ trace_text (xs ++ x ∷ []) ++ after
unfolding trace_text
text_push b rest after xs x m e n r =
    e ∙ ap (λ t. lines_from 1 xs ++ t) r ∙ sym (append_assoc (lines_from 1 xs) (trace_line m x) after) ∙ ap (λ t. t ++ after) (sym (lines_push 1 m xs x (omega arith)))

-- no entry has no text
pub text_none : (b : List ℕ) (xs : List Placed) → xs ≡ [] → b ≡ trace_text xs ++ b
unfolding trace_text
text_none b xs e = ap (λ t. lines_from 1 t ++ b) (sym e)

-- one fit entry more leaves all fit
pub fit_push : (xs : List Placed) (x : Placed) → each is_fit xs ≡ true → is_fit x ≡ true → each is_fit (xs ++ x ∷ []) ≡ true
fit_push [] x h k = and_both (is_fit x) _ k refl
fit_push (y ∷ xs) x h k = and_both (is_fit y) _ (and_left (is_fit y) (each is_fit xs) h) (fit_push xs x (and_right (is_fit y) (each is_fit xs) h) k)

-- no line of a trace stands at the front
abbrev IsUnread : ℕ → List ℕ → Type 0
IsUnread n rest = (x : Placed) (after : List ℕ) → is_fit x ≡ true → rest ≡ trace_line n x ++ after → ⊥

-- a trace's lines aren't lines before one that no trace has
walk : (k n : ℕ) (T before : List Placed) (rest : List ℕ) → lines_from k T ≡ lines_from k before ++ rest → each is_fit T ≡ true → rest ≢ [] → n ≡ k + length before → IsUnread n rest → ⊥
walk k n [] [] rest e f l m u = l (sym e)
walk k n [] (y ∷ ys) rest e f l m u =
    omega (arith, ap length e, line_long k y, length-append (trace_line k y ++ lines_from (suc k) ys) rest, length-append (trace_line k y) (lines_from (suc k) ys))
walk k n (x ∷ xs) [] rest e f l m u =
    let same : k ≡ n = omega arith in
    u x (lines_from (suc k) xs) (and_left (is_fit x) (each is_fit xs) f) (sym e ∙ ap (λ i. trace_line i x ++ lines_from (suc k) xs) same)
walk k n (x ∷ xs) (y ∷ ys) rest e f l m u =
    let after = same_after k k x y (lines_from (suc k) xs) (lines_from (suc k) ys ++ rest) (e ∙ append_assoc (trace_line k y) (lines_from (suc k) ys) rest) in
    walk (suc k) n xs ys rest after (and_right (is_fit x) (each is_fit xs) f) l (omega arith) u

-- so bytes aren't both a trace's and bad
pub text_or_bad : (b : List ℕ) (T : List Placed) (n : ℕ) → IsTextOf b T → IsBadLine b n → ⊥
unfolding trace_text
text_or_bad b T n h k = walk 1 n T k.before k.rest (sym h.spelled ∙ k.bytes) h.fit k.left (omega (arith, k.number)) k.unread

-- two runs of lines before one that no trace has are of one length
meet : (k n m : ℕ) (xs ys : List Placed) (r s : List ℕ) → lines_from k xs ++ r ≡ lines_from k ys ++ s → each is_fit xs ≡ true → each is_fit ys ≡ true → n ≡ k + length xs
    → m ≡ k + length ys → IsUnread n r → IsUnread m s → n ≡ m
meet k n m [] [] r s e f g hn hm u v = omega arith
meet k n m (x ∷ xs) [] r s e f g hn hm u v =
    let same : k ≡ m = omega arith in
    absurd (v x (lines_from (suc k) xs ++ r) (and_left (is_fit x) (each is_fit xs) f) (sym e ∙ append_assoc (trace_line k x) (lines_from (suc k) xs) r ∙ ap (λ i. trace_line i x ++
    (lines_from (suc k) xs ++ r)) same))
meet k n m [] (y ∷ ys) r s e f g hn hm u v =
    let same : k ≡ n = omega arith in
    absurd (u y (lines_from (suc k) ys ++ s) (and_left (is_fit y) (each is_fit ys) g) (e ∙ append_assoc (trace_line k y) (lines_from (suc k) ys) s ∙ ap (λ i. trace_line i y ++ (lines_from
    (suc k) ys ++ s)) same))
meet k n m (x ∷ xs) (y ∷ ys) r s e f g hn hm u v =
    let after = same_after k k x y (lines_from (suc k) xs ++ r) (lines_from (suc k) ys ++ s) (sym (append_assoc (trace_line k x) (lines_from (suc k) xs) r) ∙ e ∙ append_assoc
    (trace_line k y) (lines_from (suc k) ys) s) in
    meet (suc k) n m xs ys r s after (and_right (is_fit x) (each is_fit xs) f) (and_right (is_fit y) (each is_fit ys) g) (omega arith) (omega arith) u v

-- so the first bad line is one
pub one_bad : (b : List ℕ) (n m : ℕ) → IsBadLine b n → IsBadLine b m → n ≡ m
unfolding trace_text
one_bad b n m h k = meet 1 n m h.before k.before h.rest k.rest (sym h.bytes ∙ k.bytes) h.fit k.fit (omega (arith, h.number)) (omega (arith, k.number)) h.unread k.unread
