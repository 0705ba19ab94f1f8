-- Lists that are read or written a piece at a time.
use Rattle.std.proofs.Common.{◌≡◌, ℕ, ◌+◌, ◌≤◌, List, ◌++◌, [], take, drop, length, arith, ◌∙◌, sym, ap, append_assoc, length-append}
use Rattle.std.proofs.lemmas.List.{take-append-drop, take-take, drop-take, drop-drop, length-take, append-nil, take_all}

-- the first m + n are the first m, and then the first n of the rest
pub take_more_of : (m n : ℕ) (xs : List ℕ) → take (m + n) xs ≡ take m xs ++ take n (drop m xs)
take_more_of m n xs =
    let whole = take-append-drop m (take (m + n) xs) in
    let front : take m (take (m + n) xs) ≡ take m xs = take-take m (m + n) xs (omega arith) in
    let back = drop-take m n xs in
    cc

-- what was read so far, and then a piece more
pub read_on : (b bytes piece : List ℕ) (n : ℕ) → bytes ≡ take (length bytes) b → piece ≡ take n (drop (length bytes) b) → n ≤ length (drop (length bytes) b) → bytes ++ piece ≡ take (length (bytes ++ piece)) b
read_on b bytes piece n so_far next within =
    let more = take_more_of (length bytes) n b in
    let long : length piece ≡ n = ap length next ∙ (omega (arith, length-take n (drop (length bytes) b))) in
    let all : length (bytes ++ piece) ≡ length bytes + n = omega (arith, length-append bytes piece) in
    cc

-- what is left after a piece more
pub left_after : (b bytes piece : List ℕ) (n : ℕ) → piece ≡ take n (drop (length bytes) b) → n ≤ length (drop (length bytes) b) → drop n (drop (length bytes) b) ≡ drop (length (bytes ++ piece)) b
left_after b bytes piece n next within =
    let long : length piece ≡ n = ap length next ∙ (omega (arith, length-take n (drop (length bytes) b))) in
    let all : length (bytes ++ piece) ≡ length bytes + n = omega (arith, length-append bytes piece) in
    drop-drop n (length bytes) b ∙ ap (λ (k : ℕ). drop k b) (sym all)

-- nothing is left past the end, so all was read
pub read_all : (b bytes : List ℕ) (most : ℕ) → bytes ≡ take (length bytes) b → drop (length bytes) b ≡ [] → length bytes ≤ most → bytes ≡ take most b
read_all b bytes most so_far end within =
    let cut = take-append-drop (length bytes) b in
    let whole : b ≡ bytes = sym cut ∙ (rw (end, ← so_far) (append-nil bytes)) in
    whole_taken whole
  where
    whole_taken : b ≡ bytes → bytes ≡ take most b
    whole_taken e = sym e ∙ sym (take_all most b (omega (arith, ap length e)))

-- what was written so far, and then a piece more
pub written_on : (w from : List ℕ) (at n : ℕ) → (w ++ take at from) ++ take n (drop at from) ≡ w ++ take (at + n) from
written_on w from at n = append_assoc w (take at from) (take n (drop at from)) ∙ ap (λ (l : List ℕ). w ++ l) (sym (take_more_of at n from))
