-- A script in the bytes that were read is the script of all that the source gives.
use Rattle.std.proofs.Common.{◌≡◌, ℕ, ◌≤◌, List, [], length, take, drop, Option, Some, ap, ◌∙◌, subst, arith}
use Rattle.std.proofs.Math.ListN.{drop_of_length-le}
use Rattle.std.proofs.lemmas.List.{length-take, take_all}
use Rattle.std.specs.Option.{ForSome}
use Rattle.dtx_values.specs.declared.script.Line.{Line}
use Rattle.dtx_model.specs.Grammar.{Reads}

-- a script in the bytes that are read ends before they do, so they are all
pub length-read : (b : List ℕ) (s : List Line) → Reads (take 1048577 b) s → length b ≤ 1048576
length-read b s r =
    let short : length (take 1048577 b) ≤ 1048576 = rw r.bytes r.script.within in
    omega (arith, length-take 1048577 b)

pub reads-all : (b : List ℕ) (s : List Line) → Reads (take 1048577 b) s → Reads b s
reads-all b s r = subst (λ (x : List ℕ). Reads x s) (take_all 1048577 b (omega (arith, length-read b s r))) r

-- where the source tells b, what was read is its front
abbrev pub IsFront : Option (List ℕ) → List ℕ → Type 0
IsFront given bytes = ForSome given (λ b. bytes ≡ take 1048577 b)

-- so a script in what was read is the script of all
pub reads-front : (given : Option (List ℕ)) (bytes : List ℕ) (s : List Line) → IsFront given bytes → Reads bytes s → ForSome given (λ b. Reads b s)
reads-front given bytes s front reads b told = reads-all b s (subst (λ (x : List ℕ). Reads x s) (front b told) reads)

-- nothing is left after a script
pub left-none : (given left : Option (List ℕ)) (bytes : List ℕ) (s : List Line) → IsFront given bytes → Reads bytes s → ForSome given (λ b. left ≡ Some (drop 1048577 b))
    → ForSome given (λ b. left ≡ Some [])
left-none given left bytes s front reads rest b told =
    let few = length-read b s (subst (λ (x : List ℕ). Reads x s) (front b told) reads) in
    rest b told ∙ ap Some (drop_of_length-le b {i = 1048577} (omega (arith, few)))
