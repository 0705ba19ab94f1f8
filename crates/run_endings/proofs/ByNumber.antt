-- The transactions of a script, by number, one after the other.
use Rattle.std.proofs.Common.{◌≡◌, ◌↔◌, ◌==◌, ℕ, suc, ◌+◌, ◌-◌, ◌<◌, ◌≤◌, Bool, true, false, not, IsTrue, List, [], ◌∷◌, map, filter, length, refl, ap, sym, ◌∙◌, arith, cond, inl, inr}
use Rattle.std.specs.List.{range_with_len}
use Rattle.std.proofs.lemmas.Bool.{eqb-true}
use Rattle.std.proofs.lemmas.Bool.Decides.{eqb_tells}
use Rattle.dtx_values.specs.declared.script.Line.{Line}
use Rattle.dtx_model.specs.Grammar.{OfTransaction, is_made}
use Rattle.history_table.proofs.Tests.{eq_self}
use Rattle.tx_cells.specs.Board.{transactions_of}
use Rattle.tx_cells.specs.Cell.{Cell}

-- the numbers of the cells' transactions
abbrev pub numbers : List Cell → List ℕ
numbers cells = map (λ c. c.tx.transaction.t.value) cells

-- the transactions from number n on
unfoldable pub made_from : List Line → ℕ → List ℕ
made_from s n = filter (λ m. is_made s (OfTransaction m)) (range_with_len n (257 - n))

-- the cells are those of the script exactly where these are those from number n on
pub record IsRest (s : List Line) (cells rest : List Cell) (n : ℕ) : Type 0 where
  pub same : (numbers cells ≡ transactions_of s) ↔ (numbers rest ≡ made_from s n)

from_first : (s : List Line) → transactions_of s ≡ made_from s 1
unfolding transactions_of made_from
from_first s = refl

-- the next number is passed over or made
from_next : (s : List Line) (n : ℕ) → n < 257 → made_from s n ≡ cond (is_made s (OfTransaction n)) (n ∷ made_from s (n + 1)) (made_from s (n + 1))
unfolding made_from
from_next s n less =
    let all : 257 - n ≡ suc (257 - (n + 1)) = omega arith in
    ap (λ k. filter (λ m. is_made s (OfTransaction m)) (range_with_len n k)) all

from_last : (s : List Line) (n : ℕ) → 257 ≤ n → made_from s n ≡ []
unfolding made_from
from_last s n past = let none : 257 - n ≡ 0 = omega arith in ap (λ k. filter (λ m. is_made s (OfTransaction m)) (range_with_len n k)) none

from_passed : (s : List Line) (n : ℕ) → n < 257 → is_made s (OfTransaction n) ≡ false → made_from s n ≡ made_from s (n + 1)
from_passed s n less not = from_next s n less ∙ ap (λ b. cond b (n ∷ made_from s (n + 1)) (made_from s (n + 1))) not

from_made : (s : List Line) (n : ℕ) → n < 257 → is_made s (OfTransaction n) ≡ true → made_from s n ≡ n ∷ made_from s (n + 1)
from_made s n less is = from_next s n less ∙ ap (λ b. cond b (n ∷ made_from s (n + 1)) (made_from s (n + 1))) is

pub rest_first : (s : List Line) (cells : List Cell) → IsRest s cells cells 1
rest_first s cells = record { same = (λ e. e ∙ from_first s, λ e. e ∙ sym (from_first s)) }

pub rest_passed : (s : List Line) (cells rest : List Cell) (n : ℕ) → n < 257 → is_made s (OfTransaction n) ≡ false → IsRest s cells rest n → IsRest s cells rest (n + 1)
rest_passed s cells rest n less not is = record { same = (λ e. is.same.0 e ∙ from_passed s n less not, λ e. is.same.1 (e ∙ sym (from_passed s n less not))) }

equal : (a b : ℕ) → not (a == b) ≡ false → a ≡ b
equal a b same = elim (eqb_tells a b) [ inl e ↦ e.1 | inr e ↦ let other : not (a == b) ≡ true = ap not e.0 in absurd (cc) ]

pub rest_next : (s : List Line) (cells others : List Cell) (x : Cell) (n : ℕ) → n < 257 → is_made s (OfTransaction n) ≡ true → not (x.tx.transaction.t.value == n) ≡ false → IsRest s cells (x ∷ others) n → IsRest s cells others (n + 1)
rest_next s cells others x n less made same is = let at : x.tx.transaction.t.value ≡ n = equal x.tx.transaction.t.value n same in record {
  same = (
    λ e. let both : x.tx.transaction.t.value ∷ numbers others ≡ n ∷ made_from s (n + 1) = is.same.0 e ∙ from_made s n less made in cc,
    λ e. let both : x.tx.transaction.t.value ∷ numbers others ≡ n ∷ made_from s (n + 1) = cc in is.same.1 (both ∙ sym (from_made s n less made)),
  );
}

-- none is left, but a number
pub rest_short : (s : List Line) (cells rest : List Cell) (n : ℕ) → n < 257 → is_made s (OfTransaction n) ≡ true → length rest ≡ 0 → IsRest s cells rest n → numbers cells ≡ transactions_of s → ⊥
rest_short s cells [] n less made none is e = let both : [] ≡ n ∷ made_from s (n + 1) = is.same.0 e ∙ from_made s n less made in absurd (cc)
rest_short s cells (x ∷ rest) n less made none is e = absurd (omega (arith, none))

-- the next is of another number
pub rest_other : (s : List Line) (cells others : List Cell) (x : Cell) (n : ℕ) → n < 257 → is_made s (OfTransaction n) ≡ true → not (x.tx.transaction.t.value == n) ≡ true → IsRest s cells (x ∷ others) n → numbers cells ≡ transactions_of s → ⊥
rest_other s cells others x n less made other is e =
    let both : x.tx.transaction.t.value ∷ numbers others ≡ n ∷ made_from s (n + 1) = is.same.0 e ∙ from_made s n less made in
    let at : x.tx.transaction.t.value ≡ n = cc in
    let same : not (x.tx.transaction.t.value == n) ≡ false = ap not (ap (λ m. x.tx.transaction.t.value == m) (sym at) ∙ eq_self x.tx.transaction.t.value) in
    absurd (cc)

-- no number is left
pub rest_last : (s : List Line) (cells rest : List Cell) (n : ℕ) → 257 ≤ n → IsRest s cells rest n → IsTrue (length rest == 0) ↔ (numbers cells ≡ transactions_of s)
rest_last s cells [] n past is = (λ e. is.same.1 (sym (from_last s n past)), λ e. refl)
rest_last s cells (x ∷ rest) n past is = (λ e. absurd (omega (arith, eqb-true (length (x ∷ rest)) 0 e)), λ e. let none : numbers (x ∷ rest) ≡ [] = is.same.0 e ∙ from_last s n past in absurd (cc))
