-- Which line of a text is the first that isn't one of a trace within so many bytes.
use Rattle.std.proofs.Common.{◌≡◌, ◌≢◌, ℕ, suc, ◌+◌, ◌<◌, ◌≤◌, Bool, true, false, nat_le, List, [], ◌∷◌, ◌++◌, length, length-append, refl, ap, sym, ◌∙◌, subst, arith, append_assoc, take, drop}
use Rattle.std.proofs.Math.ListN.{drop_of_length-le, length-drop}
use Rattle.std.proofs.lemmas.Bool.Decides.{nat_tests}
use Rattle.std.proofs.lemmas.List.{append-nil, length-take, take-append-drop, take-append-le, take_all, take_at}
use Rattle.dtx_model.specs.Words.{each}
use Rattle.dtx_model.specs.Traces.{Placed}
use Rattle.dtx_model.specs.TraceText.{IsBadLine, IsTextOf, is_fit, lines_from, trace_line, trace_text}
use Rattle.dtx_model.proofs.Bools.{and_both, and_left, and_right}
use Rattle.trace_lines.proofs.LineEnds.{line_long, same_after}
use Rattle.program_io.specs.TraceRead.{IsBadTraceLine, IsTraceWithin}

-- whatever line of a trace stands at the front, as line n, it goes beyond so many bytes, of which these are used
abbrev IsBeyond : ℕ → ℕ → ℕ → List ℕ → Type 0
IsBeyond most n used rest = (x : Placed) (after : List ℕ) → is_fit x ≡ true → rest ≡ trace_line n x ++ after → most < used + length (trace_line n x)

-- a trace within the bytes has no line that goes beyond them
walk : (most k n used : ℕ) (T before : List Placed) (rest : List ℕ) → lines_from k T ≡ lines_from k before ++ rest → each is_fit T ≡ true → rest ≢ [] → n ≡ k + length before
    → used + length (lines_from k T) ≤ most → IsBeyond most n (used + length (lines_from k before)) rest → ⊥
walk most k n used [] [] rest e f l m w u = l (sym e)
walk most k n used [] (y ∷ ys) rest e f l m w u =
    omega (arith, ap length e, line_long k y, length-append (trace_line k y ++ lines_from (suc k) ys) rest, length-append (trace_line k y) (lines_from (suc k) ys))
walk most k n used (x ∷ xs) [] rest e f l m w u =
    let same : k ≡ n = omega arith in
    let there : rest ≡ trace_line n x ++ lines_from (suc k) xs = sym e ∙ ap (λ i. trace_line i x ++ lines_from (suc k) xs) same in
    let beyond = u x (lines_from (suc k) xs) (and_left (is_fit x) (each is_fit xs) f) there in
    omega (arith, beyond, w, ap length there, ap length e, length-append (trace_line n x) (lines_from (suc k) xs))
walk most k n used (x ∷ xs) (y ∷ ys) rest e f l m w u =
    let whole = e ∙ append_assoc (trace_line k y) (lines_from (suc k) ys) rest in
    let after = same_after k k x y (lines_from (suc k) xs) (lines_from (suc k) ys ++ rest) whole in
    let long : length (trace_line k x) ≡ length (trace_line k y) =
    omega (arith, ap length whole, ap length after, length-append (trace_line k x) (lines_from (suc k) xs), length-append (trace_line k y) (lines_from (suc k) ys ++ rest)) in
    let more : used + length (trace_line k y) + length (lines_from (suc k) ys) ≡ used + length (trace_line k y ++ lines_from (suc k) ys) = omega (arith, length-append (trace_line k y) (lines_from (suc k) ys)) in
    walk most (suc k) n (used + length (trace_line k y)) xs ys rest after (and_right (is_fit x) (each is_fit xs) f) l (omega arith)
    (omega (arith, w, long, length-append (trace_line k x) (lines_from (suc k) xs))) (subst (λ (i : ℕ). IsBeyond most n i rest) (sym more) u)

-- so bytes aren't both a trace within them and bad
pub within_or_bad : (most : ℕ) (b : List ℕ) (T : List Placed) (n : ℕ) → IsTraceWithin most b T → IsBadTraceLine most b n → ⊥
unfolding trace_text
within_or_bad most b T n h k =
    let start : length (lines_from 1 k.before) ≡ 0 + length (lines_from 1 k.before) = omega arith in
    walk most 1 n 0 T k.before k.rest (sym h.text.spelled ∙ k.bytes) h.text.fit k.left (omega (arith, k.number)) (omega (arith, h.within, ap length h.text.spelled))
    (subst (λ (i : ℕ). IsBeyond most n i k.rest) start k.unread)

-- two runs of lines within the bytes, before one that goes beyond, are of one length
meet : (most k n m used : ℕ) (xs ys : List Placed) (r s : List ℕ) → lines_from k xs ++ r ≡ lines_from k ys ++ s → each is_fit xs ≡ true → each is_fit ys ≡ true → n ≡ k + length xs
    → m ≡ k + length ys → used + length (lines_from k xs) ≤ most → used + length (lines_from k ys) ≤ most → IsBeyond most n (used + length (lines_from k xs)) r → IsBeyond most m (used + length (lines_from k ys)) s → n ≡ m
meet most k n m used [] [] r s e f g hn hm w v p q = omega arith
meet most k n m used (x ∷ xs) [] r s e f g hn hm w v p q =
    let same : k ≡ m = omega arith in
    let there : s ≡ trace_line m x ++ (lines_from (suc k) xs ++ r) =
    sym e ∙ append_assoc (trace_line k x) (lines_from (suc k) xs) r ∙ ap (λ i. trace_line i x ++ (lines_from (suc k) xs ++ r)) same in
    let beyond = q x (lines_from (suc k) xs ++ r) (and_left (is_fit x) (each is_fit xs) f) there in
    let long : length (trace_line m x) ≡ length (trace_line k x) = ap (λ i. length (trace_line i x)) (sym same) in
    omega (arith, beyond, w, long, length-append (trace_line k x) (lines_from (suc k) xs))
meet most k n m used [] (y ∷ ys) r s e f g hn hm w v p q =
    let same : k ≡ n = omega arith in
    let there : r ≡ trace_line n y ++ (lines_from (suc k) ys ++ s) =
    e ∙ append_assoc (trace_line k y) (lines_from (suc k) ys) s ∙ ap (λ i. trace_line i y ++ (lines_from (suc k) ys ++ s)) same in
    let beyond = p y (lines_from (suc k) ys ++ s) (and_left (is_fit y) (each is_fit ys) g) there in
    let long : length (trace_line n y) ≡ length (trace_line k y) = ap (λ i. length (trace_line i y)) (sym same) in
    omega (arith, beyond, v, long, length-append (trace_line k y) (lines_from (suc k) ys))
meet most k n m used (x ∷ xs) (y ∷ ys) r s e f g hn hm w v p q =
    let whole = sym (append_assoc (trace_line k x) (lines_from (suc k) xs) r) ∙ e ∙ append_assoc (trace_line k y) (lines_from (suc k) ys) s in
    let after = same_after k k x y (lines_from (suc k) xs ++ r) (lines_from (suc k) ys ++ s) whole in
    let long : length (trace_line k x) ≡ length (trace_line k y) =
    omega (arith, ap length whole, ap length after, length-append (trace_line k x) (lines_from (suc k) xs ++ r), length-append (trace_line k y) (lines_from (suc k) ys ++ s)) in
    let front : used + length (trace_line k x) + length (lines_from (suc k) xs) ≡ used + length (trace_line k x ++ lines_from (suc k) xs) = omega (arith, length-append (trace_line k x) (lines_from (suc k) xs)) in
    let other : used + length (trace_line k x) + length (lines_from (suc k) ys) ≡ used + length (trace_line k y ++ lines_from (suc k) ys) = omega (arith, long, length-append (trace_line k y) (lines_from (suc k) ys)) in
    meet most (suc k) n m (used + length (trace_line k x)) xs ys r s after (and_right (is_fit x) (each is_fit xs) f) (and_right (is_fit y) (each is_fit ys) g) (omega arith) (omega arith)
    (omega (arith, w, front)) (omega (arith, v, other)) (subst (λ (i : ℕ). IsBeyond most n i r) (sym front) p) (subst (λ (i : ℕ). IsBeyond most m i s) (sym other) q)

-- so the first bad line is one
pub one_bad_line : (most : ℕ) (b : List ℕ) (n m : ℕ) → IsBadTraceLine most b n → IsBadTraceLine most b m → n ≡ m
unfolding trace_text
one_bad_line most b n m h k =
    let start : length (lines_from 1 h.before) ≡ 0 + length (lines_from 1 h.before) = omega arith in
    let other : length (lines_from 1 k.before) ≡ 0 + length (lines_from 1 k.before) = omega arith in
    meet most 1 n m 0 h.before k.before h.rest k.rest (sym h.bytes ∙ k.bytes) h.fit k.fit (omega (arith, h.number)) (omega (arith, k.number)) (omega (arith, h.within)) (omega (arith, k.within))
    (subst (λ (i : ℕ). IsBeyond most n i h.rest) start h.unread) (subst (λ (i : ℕ). IsBeyond most m i k.rest) other k.unread)

-- a line that no trace has there is bad, also within more bytes
pub bad_line : (most : ℕ) (b : List ℕ) (n : ℕ) → length b ≤ suc most → IsBadLine b n → IsBadTraceLine most b n
unfolding trace_text
bad_line most b n w h =
    record {
      before = h.before;
      rest = h.rest;
      bytes = h.bytes;
      fit = h.fit;
      within = short h.rest h.left (ap length h.bytes ∙ length-append (lines_from 1 h.before) h.rest);
      number = h.number;
      left = h.left;
      unread = λ x after fit there. absurd (h.unread x after fit there);
    }
  where
    short : (r : List ℕ) → r ≢ [] → length b ≡ length (lines_from 1 h.before) + length r → length (lines_from 1 h.before) ≤ most
    short [] left e = absurd (left refl)
    short (y ∷ ys) left e = omega (arith, w, e)

-- the last line of a trace that isn't empty
record HasLast (k : ℕ) (T : List Placed) : Type 0 where
  before : List Placed
  last : Placed
  lines : lines_from k T ≡ lines_from k before ++ trace_line (k + length before) last
  many : length T ≡ length before + 1
  fit : each is_fit T ≡ true → each is_fit before ≡ true

last_of : (k : ℕ) (x : Placed) (xs : List Placed) → HasLast k (x ∷ xs)
last_of k x [] =
    let same : k ≡ k + 0 = omega arith in
    record {
      before = [];
      last = x;
      lines = append-nil (trace_line k x) ∙ ap (λ i. trace_line i x) same;
      many = refl;
      fit = λ f. refl;
    }
last_of k x (y ∷ ys) =
    let l = last_of (suc k) y ys in
    let same : suc k + length l.before ≡ k + length (x ∷ l.before) = omega arith in
    record {
      before = x ∷ l.before;
      last = l.last;
      lines = ap (λ t. trace_line k x ++ t) l.lines ∙ sym (append_assoc (trace_line k x) (lines_from (suc k) l.before) (trace_line (suc k + length l.before) l.last))
          ∙ ap (λ i. (trace_line k x ++ lines_from (suc k) l.before) ++ trace_line i l.last) same;
      many = omega (arith, l.many);
      fit = λ f. and_both (is_fit x) (each is_fit l.before) (and_left (is_fit x) (each is_fit (y ∷ ys)) f) (l.fit (and_right (is_fit x) (each is_fit (y ∷ ys)) f));
    }

-- a text of one byte more than are allowed is bad at its last line
pub last_line : (most : ℕ) (b : List ℕ) (T : List Placed) → length b ≡ suc most → IsTextOf b T → IsBadTraceLine most b (length T)
unfolding trace_text
last_line most b [] long h = absurd (omega (arith, long, ap length h.spelled))
last_line most b (x ∷ xs) long h =
    let l = last_of 1 x xs in
    let number : length (x ∷ xs) ≡ 1 + length l.before = omega (arith, l.many) in
    let spelled = h.spelled ∙ l.lines in
    let size : suc most ≡ length (lines_from 1 l.before) + length (trace_line (1 + length l.before) l.last) =
    sym long ∙ ap length spelled ∙ length-append (lines_from 1 l.before) (trace_line (1 + length l.before) l.last) in
    record {
      before = l.before;
      rest = trace_line (1 + length l.before) l.last;
      bytes = spelled;
      fit = l.fit h.fit;
      within = omega (arith, size, line_long (1 + length l.before) l.last);
      number = l.many;
      left = λ e. omega (arith, ap length e, line_long (1 + length l.before) l.last);
      unread = λ y after fit there. beyond l.before l.last y after number size there;
    }
  where
    beyond : (before : List Placed) (last y : Placed) (after : List ℕ) → length (x ∷ xs) ≡ 1 + length before → suc most ≡ length (lines_from 1 before) + length (trace_line (1 + length before) last)
        → trace_line (1 + length before) last ≡ trace_line (length (x ∷ xs)) y ++ after → most < length (lines_from 1 before) + length (trace_line (length (x ∷ xs)) y)
    beyond before last y after number size there =
        let whole = append-nil (trace_line (1 + length before) last) ∙ there in
        let none : [] ≡ after = same_after (1 + length before) (length (x ∷ xs)) last y [] after whole in
        omega (arith, size, ap length there, length-append (trace_line (length (x ∷ xs)) y) after, ap length none)

-- what is bad in the bytes that were read is bad in all of them
pub longer_line : (most : ℕ) (b : List ℕ) (n : ℕ) → IsBadTraceLine most (take (most + 1) b) n → IsBadTraceLine most b n
longer_line most b n h =
    record {
      before = h.before;
      rest = h.rest ++ drop (most + 1) b;
      bytes = sym (take-append-drop (most + 1) b) ∙ ap (λ t. t ++ drop (most + 1) b) h.bytes ∙ append_assoc (trace_text h.before) h.rest (drop (most + 1) b);
      fit = h.fit;
      within = h.within;
      number = h.number;
      left = λ e. h.left (front_none h.rest (drop (most + 1) b) e);
      unread = λ x after fit there. beyond x after fit there (nat_le (length (trace_line n x)) (length h.rest)) refl;
    }
  where
    front_none : (r d : List ℕ) → r ++ d ≡ [] → r ≡ []
    front_none [] d e = refl
    front_none (y ∷ ys) d e = absurd cc

    beyond : (x : Placed) (after : List ℕ) → is_fit x ≡ true → h.rest ++ drop (most + 1) b ≡ trace_line n x ++ after → (short : Bool) → nat_le (length (trace_line n x)) (length h.rest) ≡ short
        → most < length (trace_text h.before) + length (trace_line n x)
    beyond x after fit there true k =
        let few : length (trace_line n x) ≤ length h.rest = grind (arith, nat_tests) in
        let same : take (length (trace_line n x)) h.rest ≡ trace_line n x =
        sym (take-append-le (length (trace_line n x)) h.rest (drop (most + 1) b) few) ∙ ap (λ t. take (length (trace_line n x)) t) there ∙ take_at (trace_line n x) after (length (trace_line n x)) refl in
        h.unread x (drop (length (trace_line n x)) h.rest) fit (sym (take-append-drop (length (trace_line n x)) h.rest) ∙ ap (λ t. t ++ drop (length (trace_line n x)) h.rest) same)
    beyond x after fit there false k =
        let many : length h.rest < length (trace_line n x) = grind (arith, nat_tests) in
        omega (arith, ap length h.bytes, length-append (trace_text h.before) h.rest, length-take (most + 1) b, length-drop (most + 1) b, ap length there, length-append h.rest (drop (most + 1) b), length-append (trace_line n x) after)

-- a trace in the bytes that were read ends before they do, so they are all
few_bytes : (most : ℕ) (b : List ℕ) (T : List Placed) → IsTraceWithin most (take (most + 1) b) T → length b ≤ most
few_bytes most b T r = omega (arith, r.within, length-take (most + 1) b)

pub whole_trace : (most : ℕ) (b : List ℕ) (T : List Placed) → IsTraceWithin most (take (most + 1) b) T → IsTraceWithin most b T
whole_trace most b T r = subst (λ (x : List ℕ). IsTraceWithin most x T) (take_all (most + 1) b (omega (arith, few_bytes most b T r))) r

-- and nothing is left after it
pub trace_left : (most : ℕ) (b : List ℕ) (T : List Placed) → IsTraceWithin most (take (most + 1) b) T → drop (most + 1) b ≡ []
trace_left most b T r = drop_of_length-le b {i = most + 1} (omega (arith, few_bytes most b T r))
