-- Bytes cut up, and put together again.
use Rattle.std.proofs.Common.{◌≡◌, ℕ, zero, suc, ◌+◌, ◌-◌, ◌*◌, ◌≤◌, ◌<◌, false, List, [], ◌∷◌, ◌++◌, length, take, drop, refl, ap, sym, ◌∙◌, arith, length-drop}
use Rattle.std.specs.List.{flat_map}
use Rattle.std.proofs.Math.Nat.{lt_of_mul-lt-mul_right}
use Rattle.std.proofs.lemmas.Grind.{div_ceil_times}
use Rattle.std.proofs.lemmas.List.{take-append-drop}
use Rattle.std.proofs.lemmas.List.Concat.{flat_map-append}
use Rattle.std.proofs.lemmas.List.Folds.{flat_map-map}
use Rattle.dtx_values.specs.declared.message.Message.{Message}
use Rattle.dtx_model.specs.Frames.{frame_of}
use Rattle.dtx_model.specs.Outcome.{is_empty}
use Rattle.oletx_session.specs.declared.piece.Piece.{Piece}
use Rattle.oletx_session.specs.Queues.{bytes_in}
use Rattle.oletx_session.specs.Traffic.{Spells}
use Rattle.oletx_session.specs.Crossing.{AreCutUp, cut, cut_up, most_pieces, pieces_of}

-- bytes without the first of them are fewer
fewer : (n k x : ℕ) (b : List ℕ) → 1 ≤ n → length (x ∷ b) ≤ suc k → length (drop n (x ∷ b)) ≤ k
fewer n k x b some enough = omega (arith, length-drop n (x ∷ b))

-- more pieces than there are bytes aren't made
as_many : (j k n : ℕ) (b : List ℕ) → 1 ≤ n → length b ≤ j → length b ≤ k → cut_up j n b ≡ cut_up k n b
as_many zero zero n b some first second = refl
as_many zero (suc k) n [] some first second = refl
as_many zero (suc k) n (x ∷ b) some first second = absurd (omega arith)
as_many (suc j) zero n [] some first second = refl
as_many (suc j) zero n (x ∷ b) some first second = absurd (omega arith)
as_many (suc j) (suc k) n [] some first second = refl
as_many (suc j) (suc k) n (x ∷ b) some first second =
    ap (λ ps. take n (x ∷ b) ∷ ps) (as_many j k n (drop n (x ∷ b)) some (fewer n j x b some first) (fewer n k x b some second))

-- the first piece has the first n bytes, and the others are the pieces of the rest
pub cut_first : (n : ℕ) (b : List ℕ) → 1 ≤ n → is_empty b ≡ false → cut n b ≡ take n b ∷ cut n (drop n b)
cut_first n [] some full = absurd cc
cut_first n (x ∷ b) some full =
    ap (λ ps. take n (x ∷ b) ∷ ps) (as_many (length b) (length (drop n (x ∷ b))) n (drop n (x ∷ b)) some (fewer n (length b) x b some (omega arith)) (omega arith))

-- the pieces together are the bytes
joined : (k n : ℕ) (b : List ℕ) → 1 ≤ n → length b ≤ k → flat_map (λ x. x) (cut_up k n b) ≡ b
joined zero n [] some enough = refl
joined zero n (x ∷ b) some enough = absurd (omega arith)
joined (suc k) n [] some enough = refl
joined (suc k) n (x ∷ b) some enough =
    ap (λ (xs : List ℕ). take n (x ∷ b) ++ xs) (joined k n (drop n (x ∷ b)) some (fewer n k x b some enough)) ∙ take-append-drop n (x ∷ b)

-- those of a frame are the frame
pub pieces_joined : (n : ℕ) (m : Message) → 1 ≤ n → flat_map (λ (x : List ℕ). x) (pieces_of n m) ≡ frame_of m
pieces_joined n m some = joined (length (frame_of m)) n (frame_of m) some (omega arith)

-- so are those of several frames
all_joined : (n : ℕ) (ms : List Message) → 1 ≤ n → flat_map (λ x. x) (flat_map (pieces_of n) ms) ≡ flat_map frame_of ms
all_joined n [] some = refl
all_joined n (m ∷ ms) some =
    flat_map-append (λ (x : List ℕ). x) (pieces_of n m) (flat_map (pieces_of n) ms)
    ∙ (λ k. pieces_joined n m some k ++ all_joined n ms some k)

-- pieces of frames spell their messages
pub cut_spells : (n : ℕ) (ps : List Piece) → 1 ≤ n → (whole : AreCutUp n ps) → Spells (flat_map bytes_in ps) whole.messages
cut_spells n ps some whole = record {
  valid = whole.valid;
  bytes = sym (flat_map-map (λ (x : List ℕ). x) bytes_in ps) ∙ ap (flat_map (λ (x : List ℕ). x)) whole.pieces ∙ all_joined n whole.messages some;
}

-- where bytes are left behind a piece it was full
full_piece : (l n : ℕ) (pieces : ℕ) → 1 ≤ l → pieces * n < (l - n) + n → suc pieces * n < l + n
full_piece l n zero some few = omega arith
full_piece l n (suc k) some few = let more : suc k * n ≡ n + k * n = omega arith in omega (arith, more)

-- so many pieces have more bytes than all but the last could
many : (k n : ℕ) (b : List ℕ) → 1 ≤ n → length (cut_up k n b) * n < length b + n
many zero n b some = omega arith
many (suc k) n [] some = omega arith
many (suc k) n (x ∷ b) some =
    let rest = many k n (drop n (x ∷ b)) some in
    full_piece (length (x ∷ b)) n (length (cut_up k n (drop n (x ∷ b)))) (omega arith) (omega (arith, rest, length-drop n (x ∷ b)))

-- a frame has no more pieces than the most that one has
pub few_pieces : (n : ℕ) (b : List ℕ) → 1 ≤ n → length b ≤ 40 → length (cut n b) ≤ most_pieces n
few_pieces n b some short =
    let enough = (div_ceil_times 40 n some).0 in
    let bound : length (cut n b) * n < suc (most_pieces n) * n = omega (arith, many (length b) n b some, enough) in
    let below = lt_of_mul-lt-mul_right n bound in
    omega (arith, below)
