-- A write into a part of a list of bytes, and what it makes of the images of a disk.
use Rattle.std.proofs.Common.{◌≡◌, inl, inr, ℕ, ◌+◌, ◌≤◌, List, ◌++◌, length, take, drop, refl, ap, ◌∙◌, arith, length-append, append_assoc}
use Rattle.std.proofs.lemmas.List.{take_at, drop_at, length-take, length-drop}
use Rattle.outside.specs.Disk.{IsTorn, Follows, overwritten}
use Rattle.outside.specs.Images.{Images, IsOneOf}

-- what a Vec holds after a slice of all of it was written
pub vec_written : (xs ys : List ℕ) (n : ℕ) → n ≡ length xs → length ys ≡ n → take n (ys ++ drop (length ys) xs) ≡ ys
vec_written xs ys n all long = take_at ys (drop (length ys) xs) n long

-- bytes that are written over others change no more than their range
pub IsTorn-overwritten : (old : List ℕ) (at n : ℕ) (bytes new : List ℕ) → new ≡ overwritten old at bytes → length bytes ≡ n → at + n ≤ length old → IsTorn at n old new
IsTorn-overwritten old at n bytes new is long room =
    let front : length (take at old) ≡ at = omega (arith, length-take at old) in
    let back : length (drop (at + length bytes) old) + (at + length bytes) ≡ length old = omega (arith, length-drop (at + length bytes) old) in
    let middle : length (take at old ++ bytes) ≡ at + length bytes = omega (arith, length-append (take at old) bytes) in
    let ends : at + length bytes ≡ at + n = omega arith in
    record {
      before = ap (λ (l : List ℕ). take at l) is ∙ ap (λ (l : List ℕ). take at l) (append_assoc (take at old) bytes (drop (at + length bytes) old)) ∙ take_at (take at old) (bytes ++ drop (at + length bytes) old) at front;
      after = ap (λ (l : List ℕ). drop (at + n) l) is ∙ drop_at (take at old ++ bytes) (drop (at + length bytes) old) (at + n) (middle ∙ ends) ∙ ap (λ (k : ℕ). drop k old) ends;
      long = ap length is ∙ omega (arith, length-append (take at old ++ bytes) (drop (at + length bytes) old));
    }

-- nothing was changed
IsTorn-same : (at n : ℕ) (old : List ℕ) → IsTorn at n old old
IsTorn-same at n old = record { before = refl; after = refl; long = refl }

-- the same list under another name is torn as it was
IsTorn-along : (at n : ℕ) (old new other : List ℕ) → other ≡ new → IsTorn at n old new → IsTorn at n old other
IsTorn-along at n old new other same torn = record {
  before = ap (λ (l : List ℕ). take at l) same ∙ torn.before;
  after = ap (λ (l : List ℕ). drop (at + n) l) same ∙ torn.after;
  long = ap length same ∙ torn.long;
}

-- where two of the three images are torn in one range, each new image is an old one that is torn there
pub Follows-torn : (d e : Images) (at n : ℕ) → length d.torn ≡ length d.kept → e.synced ≡ d.synced → IsTorn at n d.kept e.kept → IsTorn at n d.torn e.torn → Follows (IsTorn at n) (IsOneOf d) (IsOneOf e)
Follows-torn d e at n same stays x y c left =
    elim left.one [
      | inl s ↦ (d.kept, record { one = inl refl; long = refl }, IsTorn-along at n d.kept e.kept c s x)
      | inr rest ↦ elim rest [
        | inl s ↦ (c, record { one = inr (inl (s ∙ stays)); long = left.long ∙ x.long }, IsTorn-same at n c)
        | inr s ↦ (d.torn, record { one = inr (inr refl); long = same }, IsTorn-along at n d.torn e.torn c s y)
      ]
    ]
