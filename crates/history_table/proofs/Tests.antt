-- Facts on tests of several parts, and on tests of numbers.
use Rattle.std.proofs.Common.{◌≡◌, ℕ, ◌==◌, true, arith, Bool, false, refl, ◌&&◌, ◌||◌}
use Rattle.std.proofs.lemmas.Bool.{eqb-true}
use Rattle.std.proofs.lemmas.Bool.Decides.{nat_tests}
use Rattle.std.specs.Prelude.{not}
use Rattle.dtx_values.specs.declared.words.Outcome.{Outcome}
use Rattle.dtx_values.specs.declared.words.Outcome.TheVariants.{Committed, Aborted, InDoubt}
use Rattle.dtx_values.specs.Clones.{blocks}
use Rattle.dtx_values.specs.declared.words.CloneKind.{CloneKind}
use Rattle.dtx_values.specs.declared.words.CloneKind.TheVariants.{Block, Rollback}
use Rattle.dtx_model.proofs.Bools.{and_left, and_right, and_both, three_hold, or_right}
use Rattle.dtx_model.specs.Entries.{same_outcome}
use Rattle.dtx_model.specs.Outcome.{is_rollback}

-- a number is itself
pub eq_self : (n : ℕ) → (n == n) ≡ true
eq_self n = grind (arith, nat_tests)

-- which of two equal numbers stands first doesn't matter
pub eq_swap : (a b : ℕ) → (a == b) ≡ (b == a)
eq_swap a b = grind (arith, nat_tests)

-- where one number passes and another doesn't, they differ
pub apart : (p : ℕ → Bool) (a b : ℕ) → p a ≡ false → p b ≡ true → (a == b) ≡ false
apart p a b h k = step (a == b) refl
  where
    step : (t : Bool) → (a == b) ≡ t → t ≡ false
    step true e = let same : a ≡ b = eqb-true a b e in absurd cc
    step false e = refl

-- where all of three hold, the first does
pub first_of_three : (a b c : Bool) → (a && b && c) ≡ true → a ≡ true
first_of_three a b c k = and_left a b (and_left (a && b) c k)

-- where all of three hold, the second does
pub second_of_three : (a b c : Bool) → (a && b && c) ≡ true → b ≡ true
second_of_three a b c k = and_right a b (and_left (a && b) c k)

-- where all of four hold, the first does
pub first_of_four : (a b c d : Bool) → (a && b && c && d) ≡ true → a ≡ true
first_of_four a b c d k = first_of_three a b c (and_left (a && b && c) d k)

-- where all of four hold, the second does
pub second_of_four : (a b c d : Bool) → (a && b && c && d) ≡ true → b ≡ true
second_of_four a b c d k = and_right a b (and_left (a && b) c (and_left (a && b && c) d k))

-- where all of four hold, the third does
pub third_of_four : (a b c d : Bool) → (a && b && c && d) ≡ true → c ≡ true
third_of_four a b c d k = and_right (a && b) c (and_left (a && b && c) d k)

-- where all of four hold, the fourth does
pub fourth_of_four : (a b c d : Bool) → (a && b && c && d) ≡ true → d ≡ true
fourth_of_four a b c d k = and_right (a && b && c) d k

-- where each of four holds, all hold
pub four_hold : (a b c d : Bool) → a ≡ true → b ≡ true → c ≡ true → d ≡ true → (a && b && c && d) ≡ true
four_hold a b c d p q r s = and_both (a && b && c) d (three_hold a b c p q r) s

-- where all of five hold, the first does
pub first_of_five : (a b c d e : Bool) → (a && b && c && d && e) ≡ true → a ≡ true
first_of_five a b c d e k = first_of_four a b c d (and_left (a && b && c && d) e k)

-- where all of five hold, the second does
pub second_of_five : (a b c d e : Bool) → (a && b && c && d && e) ≡ true → b ≡ true
second_of_five a b c d e k = second_of_four a b c d (and_left (a && b && c && d) e k)

-- where all of five hold, the third does
pub third_of_five : (a b c d e : Bool) → (a && b && c && d && e) ≡ true → c ≡ true
third_of_five a b c d e k = third_of_four a b c d (and_left (a && b && c && d) e k)

-- where all of five hold, the fourth does
pub fourth_of_five : (a b c d e : Bool) → (a && b && c && d && e) ≡ true → d ≡ true
fourth_of_five a b c d e k = fourth_of_four a b c d (and_left (a && b && c && d) e k)

-- where each of five holds, all hold
pub five_hold : (a b c d e : Bool) → a ≡ true → b ≡ true → c ≡ true → d ≡ true → e ≡ true → (a && b && c && d && e) ≡ true
five_hold a b c d e p q r s t = and_both (a && b && c && d) e (four_hold a b c d p q r s) t

-- where the first or the third of three holds, one holds
pub or_between : (a b c : Bool) → (a || c) ≡ true → (a || (b || c)) ≡ true
or_between true b c k = refl
or_between false b c k = or_right b c k

-- a clone that makes no commit a veto is closed
pub closed_step : (k : CloneKind) (x : Bool) → (is_rollback k && not x) ≡ false → (blocks k || x) ≡ true
closed_step Block x e = refl
closed_step Rollback true e = refl
closed_step Rollback false e = absurd cc

-- an outcome is itself
pub same_self : (x : Outcome) → same_outcome x x ≡ true
same_self Committed = refl
same_self Aborted = refl
same_self InDoubt = refl

-- what neither waits nor is open is complete
pub close_step : (b x : Bool) → (not b || x) ≡ true → (b || x) ≡ true → x ≡ true
close_step true x p q = p
close_step false x p q = q

-- what isn't open blocks nothing
pub shut_step : (b x : Bool) → (b && not x) ≡ false → (not b || x) ≡ true
shut_step true true p = refl
shut_step true false p = absurd cc
shut_step false x p = refl

-- what goes down isn't what goes up
pub not_up : (a b : Bool) → (a && false && b) ≡ false
not_up true b = refl
not_up false b = refl
