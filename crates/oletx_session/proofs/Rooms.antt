-- Room for frames, of which each takes several places.
use Rattle.std.proofs.Common.{◌≡◌, ℕ, zero, suc, ◌+◌, ◌*◌, ◌/◌, ◌≤◌, arith}
use Rattle.std.proofs.Math.Nat.{lt-div-mul-add}
use Rattle.std.proofs.lemmas.Grind.{div_ceil_times}
use Rattle.std.proofs.lemmas.Nat.{div_below, le-div}
use Rattle.oletx_session.specs.Crossing.{most_pieces}

-- no pieces hold no bytes
at_least : (k n : ℕ) → 40 ≤ k * n → 1 ≤ k
at_least zero n enough = absurd (omega arith)
at_least (suc k) n enough = omega arith

-- a frame has a piece
pub most_some : (n : ℕ) → 1 ≤ n → 1 ≤ most_pieces n
most_some n some = at_least (most_pieces n) n (div_ceil_times 40 n some).0

-- so many frames have room where so many times their places are free
pub room_for : (frames free most : ℕ) → 1 ≤ most → frames * most ≤ free → frames ≤ free / most
room_for frames free most some enough = le-div frames free most some enough

-- with the places of one frame fewer there is room for one frame less at the worst
pub one_less : (old new most : ℕ) → 1 ≤ most → old ≤ new + most → old / most ≤ new / most + 1
one_less old new most some few =
    let bound = lt-div-mul-add {a = new} {b = most} some in
    let more : (new / most + 2) * most ≡ new / most * most + most + most = omega arith in
    let below = div_below old most (new / most + 2) some (omega (arith, bound, few, more)) in
    omega (arith, below)
