-- What the maker pushes, by the remainder of a transaction's number by 5.
use Rattle.std.proofs.Common.{◌≡◌, ◌≢◌, ℕ, ◌+◌, ◌%◌, ◌==◌, false, List, [], ◌∷◌, ◌++◌, refl, ap, ◌∙◌, arith, append_assoc, add-one, codes}
use Rattle.std.proofs.lemmas.Bool.Decides.{nat_tests}
use Rattle.std.proofs.lemmas.List.{append-nil}
use Rattle.dtx_values.specs.declared.script.Line.{Line}
use Rattle.dtx_model.specs.Grammar.{line_text, script_text}
use Rattle.line_reader.proofs.Scripts.{script_text-append}
use Rattle.script_maker.specs.Gen.{clone_line, enlisted_lines, first_durable_line, owner_line, second_durable_line, up_to, volatile_line, work_lines}

-- a line more
pub text_push : (s r : List Line) (l : Line) (x y : List ℕ) → r ≡ s ++ l ∷ [] → script_text s ≡ x → line_text l ≡ y → script_text r ≡ x ++ y
text_push s r l x y e f g =
    ap script_text e ∙ script_text-append s (l ∷ []) ∙ ap (λ z. script_text s ++ z) (append-nil (line_text l)) ∙ ap (λ z. z ++ line_text l) f ∙ ap (λ z. x ++ z) g

-- different numbers
differs : (m n : ℕ) → m ≢ n → (m == n) ≡ false
differs m n h = grind (arith, nat_tests)

-- the kinds
pub kind_yes : (k : ℕ) → k % 5 ≡ 0 → volatile_line (codes "yes") k ≡ enlisted_lines k
kind_yes k e = rw e refl

pub kind_no : (k : ℕ) → k % 5 ≡ 1 → volatile_line (codes "no") k ≡ enlisted_lines k
kind_no k e = rw e refl

pub kind_owner : (k : ℕ) → k % 5 ≡ 2 → owner_line k ≡ enlisted_lines k
kind_owner k e = rw e refl

pub kind_two : (k : ℕ) → k % 5 ≡ 3 → first_durable_line k ++ second_durable_line k ≡ enlisted_lines k
kind_two k e = rw e refl

pub kind_clone : (k : ℕ) → k % 5 ≢ 0 → k % 5 ≢ 1 → k % 5 ≢ 2 → k % 5 ≢ 3 → clone_line k ≡ enlisted_lines k
kind_clone k a b c d = rw (differs (k % 5) 0 a, differs (k % 5) 1 b, differs (k % 5) 2 c, differs (k % 5) 3 d) refl

-- the work up to one more
work_more : (k : ℕ) → up_to work_lines k ++ work_lines (k + 1) ≡ up_to work_lines (k + 1)
work_more k = rw (add-one k) refl

-- what is pushed of one more
pub text_work : (x : List ℕ) (k : ℕ) (s r : List Line) → script_text r ≡ script_text s ++ work_lines (k + 1) → script_text s ≡ x ++ up_to work_lines k → script_text r ≡ x ++ up_to work_lines (k + 1)
text_work x k s r e f =
    e ∙ ap (λ z. z ++ work_lines (k + 1)) f ∙ append_assoc x (up_to work_lines k) (work_lines (k + 1)) ∙ ap (λ z. x ++ z) (work_more k)
