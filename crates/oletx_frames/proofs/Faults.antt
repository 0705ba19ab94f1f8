-- The first fault of bytes.
use Rattle.std.proofs.Common.{◌≡◌, ℕ, ◌+◌, ◌*◌, ◌≤◌, Bool, true, not, cond, eqb, leb, List, ◌∷◌, ◌++◌, length, take, drop, get_or, Option, Some, None, refl, ap, sym, subst, ◌∙◌, arith, length-append}
use Rattle.std.proofs.Math.Seq.{take-add}
use Rattle.std.proofs.lemmas.Bool.Decides.{nat_tests}
use Rattle.std.proofs.lemmas.List.{length-take-le, take_at}
use Rattle.std.proofs.lemmas.Nat.{from_le_bytes-to_le_bytes_2}
use Rattle.std.specs.Int.{w16, from_le_bytes, to_le_bytes}
use Rattle.dtx_values.specs.declared.message.Message.{Message}
use Rattle.dtx_model.specs.Frames.{BodyKind, Empty, Identifier, Information, Reason, FrameFault, TooShort, NoType, WrongLength, IsFrame, bad_place, body_fault, body_kind, body_length, field_fault, frame, frame_fault, tag_fault}
use Rattle.dtx_values.specs.RecoveryInfo.{is_from_one}

-- where three tests hold, what is chosen stands behind them
three_tests : (p q r : Bool) (x y z w : Option FrameFault) → p ≡ true → q ≡ true → r ≡ true
    → cond (not p) x (cond (not q) y (cond (not r) z w)) ≡ w
three_tests p q r x y z w first second third = (λ i. cond (not (first i)) x (cond (not (second i)) y (cond (not (third i)) z w)))

-- where the length is the body's and the bytes are enough, only a field can be bad
pub length_passed : (b : List ℕ) (k : BodyKind) → 4 + body_length k ≤ length b → from_le_bytes w16 (take 2 (drop 2 b)) ≡ body_length k
    → body_fault b k ≡ field_fault (bad_place k (take (body_length k) (drop 4 b)))
length_passed b k long counted =
    let head : leb 4 (length b) ≡ true = grind (arith, nat_tests) in
    let same : eqb (from_le_bytes w16 (take 2 (drop 2 b))) (body_length k) ≡ true = ap (λ n. eqb n (body_length k)) counted ∙ grind (arith, nat_tests) in
    let whole : leb (4 + body_length k) (length b) ≡ true = grind (arith, nat_tests) in
    three_tests (leb 4 (length b)) (eqb (from_le_bytes w16 (take 2 (drop 2 b))) (body_length k)) (leb (4 + body_length k) (length b)) (Some (TooShort (length b))) (Some WrongLength) (Some (TooShort (length b)))
    (field_fault (bad_place k (take (body_length k) (drop 4 b)))) head same whole

-- a body has at most 36 bytes
pub length_small : (k : BodyKind) → body_length k ≤ 36
length_small Empty = omega arith
length_small Identifier = omega arith
length_small Information = omega arith
length_small Reason = omega arith

-- bytes that begin with a whole frame of the table, none of whose fields is bad, have no fault
pub whole_frame : (type tag : ℕ) (k : BodyKind) (body rest : List ℕ) → is_from_one 4 type ≡ true → body_kind type tag ≡ Some k → length body ≡ body_length k → bad_place k body ≡ None
    → frame_fault (frame type tag body ++ rest) ≡ None
whole_frame type tag k body rest known listed l good =
    let b = frame type tag body ++ rest in
    let long : 4 + body_length k ≤ length b = omega (arith, length-append body rest) in
    let counted : from_le_bytes w16 (to_le_bytes w16 (length body)) ≡ body_length k = from_le_bytes-to_le_bytes_2 (length body) (omega (arith, length_small k)) ∙ l in
    ap (λ c. cond c (tag_fault b (body_kind type tag)) (Some NoType)) known ∙ ap (tag_fault b) listed ∙ length_passed b k long counted
    ∙ ap (λ (xs : List ℕ). field_fault (bad_place k xs)) (take_at body rest (body_length k) l) ∙ ap field_fault good

-- the first bytes are the frame that their type, tag, length and body make
pub split_frame : (b : List ℕ) (n : ℕ) → 4 + n ≤ length b → take 2 (drop 2 b) ≡ to_le_bytes w16 n
    → frame (get_or b 0 0) (get_or b 1 0) (take n (drop 4 b)) ≡ take (4 + n) b
split_frame (p ∷ q ∷ r ∷ s ∷ xs) n long counted =
    let l : length (take n xs) ≡ n = length-take-le n xs (omega arith) in
    ap (λ k. p ∷ q ∷ to_le_bytes w16 k ++ take n xs) l ∙ ap (λ (ys : List ℕ). p ∷ q ∷ ys ++ take n xs) (sym counted) ∙ sym (take-add 4 n (p ∷ q ∷ r ∷ s ∷ xs))
split_frame _ n long counted = absurd (omega arith)

-- the two bytes of a length, read one by one
pub two_bytes : (b : List ℕ) → 4 ≤ length b → get_or b 2 0 + get_or b 3 0 * 256 ≡ from_le_bytes w16 (take 2 (drop 2 b))
two_bytes (p ∷ q ∷ r ∷ s ∷ xs) long = refl
two_bytes _ long = absurd (omega arith)

-- so bytes whose type, tag and body make the frame of a message begin with its frame
pub framed : (b body : List ℕ) (l n : ℕ) (m : Message) → IsFrame (frame (get_or b 0 0) (get_or b 1 0) body) m → body ≡ take l (drop 4 b) → 4 + l ≤ length b → take 2 (drop 2 b) ≡ to_le_bytes w16 l
    → n ≡ l → (4 + n ≤ length b) × IsFrame (take (4 + n) b) m
framed b body l n m p cut long counted same =
    let whole = ap (frame (get_or b 0 0) (get_or b 1 0)) cut ∙ split_frame b l long counted ∙ ap (λ k. take (4 + k) b) (sym same) in
    (omega arith, subst (λ (xs : List ℕ). IsFrame xs m) whole p)
