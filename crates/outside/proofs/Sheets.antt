-- Writes into bytes of which the zeros at the end are not kept.
use Rattle.std.proofs.Common.{◌≡◌, inl, inr, ℕ, ◌+◌, ◌-◌, ◌≤◌, ◌⊎◌, List, ◌++◌, length, take, drop, replicate, refl, ap, sym, ◌∙◌, arith, length-append, append_assoc}
use Rattle.std.proofs.lemmas.List.{drop-append-le, drop-drop, length-drop, length-replicate, length-take, replicate-append-replicate, take-append-drop, take-append-le, take_at, drop_at}
use Rattle.std.proofs.lemmas.Slice.{drop-append-drop}
use Rattle.outside.specs.Disk.{overwritten}
use Rattle.outside.specs.Sheet.{with_zeros}

-- so many zeros
abbrev pub zeros : ℕ → List ℕ
zeros n = replicate n 0

length-zeros : (n : ℕ) → length (zeros n) ≡ n
length-zeros n = length-replicate {A = ℕ} n 0

-- zeros of two lengths together
zeros_joined : (a b n : ℕ) → a + b ≡ n → zeros a ++ zeros b ≡ zeros n
zeros_joined a b n e = replicate-append-replicate {A = ℕ} a b 0 ∙ ap zeros e

-- as many bytes as wanted
pub length-with_zeros : (n : ℕ) (xs : List ℕ) → length xs ≤ n → length (with_zeros n xs) ≡ n
length-with_zeros n xs few = omega (arith, few, length-append xs (zeros (n - length xs)), length-zeros (n - length xs))

-- zeros up to one place, and then up to a later one
with_zeros-twice : (m n : ℕ) (xs : List ℕ) → length xs ≤ n → m ≤ n → with_zeros n (with_zeros m xs) ≡ with_zeros n xs
with_zeros-twice m n xs few less =
    let long : length (with_zeros m xs) ≡ length xs + (m - length xs) = omega (arith, length-append xs (zeros (m - length xs)), length-zeros (m - length xs)) in
    let rest : (m - length xs) + (n - length (with_zeros m xs)) ≡ n - length xs = omega (arith, long, few, less) in
    append_assoc xs (zeros (m - length xs)) (zeros (n - length (with_zeros m xs))) ∙ ap (λ (z : List ℕ). xs ++ z) (zeros_joined _ _ _ rest)

-- a write leaves the length
pub length-overwritten : (old bytes : List ℕ) (at : ℕ) → at + length bytes ≤ length old → length (overwritten old at bytes) ≡ length old
length-overwritten old bytes at room =
    let all : length (overwritten old at bytes) ≡ length (take at old ++ bytes) + length (drop (at + length bytes) old) = length-append (take at old ++ bytes) (drop (at + length bytes) old) in
    omega (arith, room, all, length-append (take at old) bytes, length-take at old, length-drop (at + length bytes) old)

-- a write into the front
overwritten-front : (xs zs bytes : List ℕ) (at : ℕ) → at + length bytes ≤ length xs → overwritten (xs ++ zs) at bytes ≡ overwritten xs at bytes ++ zs
overwritten-front xs zs bytes at room =
    let before : take at (xs ++ zs) ≡ take at xs = take-append-le at xs zs (omega (arith, room)) in
    let behind : drop (at + length bytes) (xs ++ zs) ≡ drop (at + length bytes) xs ++ zs = drop-append-le (at + length bytes) xs zs room in
    ap (λ (b : List ℕ). (b ++ bytes) ++ drop (at + length bytes) (xs ++ zs)) before
    ∙ ap (λ (b : List ℕ). (take at xs ++ bytes) ++ b) behind
    ∙ sym (append_assoc (take at xs ++ bytes) (drop (at + length bytes) xs) zs)

-- the same, with zeros behind
pub put-front : (n : ℕ) (xs bytes : List ℕ) (at m : ℕ) → length bytes ≡ m → length xs ≤ n → at + m ≤ n
    → with_zeros n (overwritten (with_zeros (at + m) xs) at bytes) ≡ overwritten (with_zeros n xs) at bytes
put-front n xs bytes at m long few room =
    let ys = with_zeros (at + m) xs in
    let reach : at + length bytes ≤ length ys = omega (arith, long, length-append xs (zeros ((at + m) - length xs)), length-zeros ((at + m) - length xs)) in
    let same : length (overwritten ys at bytes) ≡ length ys = length-overwritten ys bytes at reach in
    ap (λ (k : ℕ). overwritten ys at bytes ++ zeros (n - k)) same
    ∙ sym (overwritten-front ys (zeros (n - length ys)) bytes at reach)
    ∙ ap (λ (v : List ℕ). overwritten v at bytes) (with_zeros-twice (at + m) n xs few room)

-- zeros over zeros
pub blank-behind : (n : ℕ) (xs : List ℕ) (at m : ℕ) → length xs ≤ at → at + m ≤ n → overwritten (with_zeros n xs) at (zeros m) ≡ with_zeros n xs
blank-behind n xs at m behind room =
    let k = n - length xs in
    let w = with_zeros at xs in
    let rest = zeros (n - (at + m)) in
    let long : length (zeros m) ≡ m = length-zeros m in
    let front : length w ≡ at = length-with_zeros at xs behind in
    let split : with_zeros n xs ≡ w ++ zeros (n - at) =
    ap (λ (z : List ℕ). xs ++ z) (sym (zeros_joined (at - length xs) (n - at) k (omega (arith, behind, room)))) ∙ sym (append_assoc xs (zeros (at - length xs)) (zeros (n - at))) in
    let cut : with_zeros n xs ≡ (w ++ zeros m) ++ rest =
    split ∙ ap (λ (z : List ℕ). w ++ z) (sym (zeros_joined m (n - (at + m)) (n - at) (omega (arith, room)))) ∙ sym (append_assoc w (zeros m) rest) in
    let longer : length (w ++ zeros m) ≡ at + m = omega (arith, front, long, length-append w (zeros m)) in
    let before : take at (with_zeros n xs) ≡ w = ap (λ (v : List ℕ). take at v) split ∙ take_at w (zeros (n - at)) at front in
    let after : drop (at + length (zeros m)) (with_zeros n xs) ≡ rest =
    ap (λ (j : ℕ). drop (at + j) (with_zeros n xs)) long ∙ ap (λ (v : List ℕ). drop (at + m) v) cut ∙ drop_at (w ++ zeros m) rest (at + m) longer in
    ap (λ (b : List ℕ). (b ++ zeros m) ++ drop (at + length (zeros m)) (with_zeros n xs)) before
    ∙ ap (λ (b : List ℕ). (w ++ zeros m) ++ b) after
    ∙ sym cut

-- two writes side by side
pub overwritten-joined : (old front rest : List ℕ) (at k : ℕ) → k ≡ at + length front → k ≤ length old → overwritten (overwritten old at front) k rest ≡ overwritten old at (front ++ rest)
overwritten-joined old front rest at k next room =
    let head : length (take at old) ≡ at = omega (arith, length-take at old, room, next) in
    let first : length (take at old ++ front) ≡ k = omega (arith, head, next, length-append (take at old) front) in
    let both : at + length (front ++ rest) ≡ k + length rest = omega (arith, next, length-append front rest) in
    let before : take k (overwritten old at front) ≡ take at old ++ front = take_at (take at old ++ front) (drop (at + length front) old) k first in
    let after : drop (k + length rest) (overwritten old at front) ≡ drop (at + length (front ++ rest)) old =
    drop-append-drop (at + length front) old (take at old ++ front) (k + length rest) (omega (arith, next)) (first ∙ next) ∙ ap (λ (j : ℕ). drop j old) (sym both) in
    ap (λ (b : List ℕ). (b ++ rest) ++ drop (k + length rest) (overwritten old at front)) before
    ∙ ap (λ (b : List ℕ). ((take at old ++ front) ++ rest) ++ b) after
    ∙ ap (λ (b : List ℕ). b ++ drop (at + length (front ++ rest)) old) (append_assoc (take at old) front rest)

-- zeros over what the front has of a range, to the end of the range or of the front
pub blank-part : (n : ℕ) (xs : List ℕ) (at m k : ℕ) → length xs ≤ n → at + m ≤ n → at + k ≤ length xs → k ≤ m → (k ≡ m) ⊎ (at + k ≡ length xs)
    → with_zeros n (overwritten xs at (zeros k)) ≡ overwritten (with_zeros n xs) at (zeros m)
blank-part n xs at m k few room within less end =
    let long : length (zeros k) ≡ k = length-zeros k in
    let inside : at + length (zeros k) ≤ length xs = omega (arith, long, within) in
    let ys = overwritten xs at (zeros k) in
    let same : length ys ≡ length xs = length-overwritten xs (zeros k) at inside in
    let front : with_zeros n ys ≡ overwritten (with_zeros n xs) at (zeros k) =
    ap (λ (j : ℕ). ys ++ zeros (n - j)) same ∙ sym (overwritten-front xs (zeros (n - length xs)) (zeros k) at inside) in
    elim end [
      | inl e ↦ front ∙ ap (λ (j : ℕ). overwritten (with_zeros n xs) at (zeros j)) e
      | inr e ↦
          let next : at + k ≡ at + length (zeros k) = omega (arith, long) in
          let all : at + k ≤ length (with_zeros n xs) = omega (arith, length-with_zeros n xs few, less, room) in
          sym (blank-behind n ys (at + k) (m - k) (omega (arith, same, e)) (omega (arith, less, room)))
          ∙ ap (λ (v : List ℕ). overwritten v (at + k) (zeros (m - k))) front
          ∙ overwritten-joined (with_zeros n xs) (zeros k) (zeros (m - k)) at (at + k) next all
          ∙ ap (λ (z : List ℕ). overwritten (with_zeros n xs) at z) (zeros_joined k (m - k) m (omega (arith, less)))
    ]

-- bytes of which the last are zeros are put as the others, and zeros after them
pub put-both : (n : ℕ) (front put blanked from : List ℕ) (at end : ℕ) → length front ≤ n → at + length from ≤ n → end ≤ length from → drop end from ≡ zeros (length from - end)
    → put ≡ overwritten (with_zeros (at + length (take end from)) front) at (take end from)
    → (length put ≤ n → (at + end) + (length from - end) ≤ n → with_zeros n blanked ≡ overwritten (with_zeros n put) (at + end) (zeros (length from - end)))
    → with_zeros n blanked ≡ overwritten (with_zeros n front) at from
put-both n front put blanked from at end few room within zero first last =
    let bytes = take end from in
    let reached = with_zeros (at + length bytes) front in
    let long : length bytes ≡ end = omega (arith, length-take end from, within) in
    let reach : length reached ≡ length front + ((at + length bytes) - length front) = omega (arith, length-append front (zeros ((at + length bytes) - length front)), length-zeros ((at + length bytes) - length front)) in
    let put_long : length put ≡ length reached = ap length first ∙ length-overwritten reached bytes at (omega (arith, reach)) in
    let put_is : with_zeros n put ≡ overwritten (with_zeros n front) at bytes =
    ap (λ (v : List ℕ). with_zeros n v) first ∙ put-front n front bytes at (length bytes) refl few (omega (arith, within, room, long)) in
    let next : at + end ≡ at + length bytes = omega (arith, long) in
    let all : at + end ≤ length (with_zeros n front) = omega (arith, length-with_zeros n front few, within, room) in
    let whole : bytes ++ zeros (length from - end) ≡ from = ap (λ (z : List ℕ). bytes ++ z) (sym zero) ∙ take-append-drop end from in
    last (omega (arith, put_long, reach, few, room, within, long)) (omega (arith, room, within))
    ∙ ap (λ (v : List ℕ). overwritten v (at + end) (zeros (length from - end))) put_is
    ∙ overwritten-joined (with_zeros n front) bytes (zeros (length from - end)) at (at + end) next all
    ∙ ap (λ (z : List ℕ). overwritten (with_zeros n front) at z) whole

-- a piece of zeros before zeros
pub blank-more : (bytes : List ℕ) (start end : ℕ) → start ≤ end → end ≤ length bytes
    → take (end - start) (drop start bytes) ≡ zeros (length (take (end - start) (drop start bytes))) → drop end bytes ≡ zeros (length bytes - end)
    → drop start bytes ≡ zeros (length bytes - start)
blank-more bytes start end next within piece rest =
    let m = end - start in
    let long : length (take m (drop start bytes)) ≡ m = omega (arith, length-take m (drop start bytes), length-drop start bytes, next, within) in
    let place : start + m ≡ end = omega (arith, next) in
    sym (take-append-drop m (drop start bytes))
    ∙ ap (λ (z : List ℕ). z ++ drop m (drop start bytes)) (piece ∙ ap zeros long)
    ∙ ap (λ (z : List ℕ). zeros m ++ z) (drop-drop m start bytes ∙ ap (λ (k : ℕ). drop k bytes) place ∙ rest)
    ∙ zeros_joined m (length bytes - end) (length bytes - start) (omega (arith, next, within))
