-- An answer is read back from its words.
use Rattle.std.proofs.Common.{◌≡◌, ℕ, ◌^◌, ◌<◌, nat_le, Bool, true, false, List, [], ◌∷◌, ◌++◌, codes, decimal, get_or, Some, None, if◌then◌else◌, refl, ap, ◌∙◌, arith}
use Rattle.std.specs.Int.{IsInRange}
use Rattle.std.proofs.lemmas.Bool.Decides.{nat_tests}
use Rattle.std.proofs.lemmas.Fmt.{decimal_nonempty}
use Rattle.dtx_values.specs.declared.entry.Answer.{Answer}
use Rattle.dtx_values.specs.declared.entry.Answer.TheVariants.{Fine, True, False, Wait, Id, StillActive, OutcomeIs, StillOpen, Did, NotBegun, Ended, TooLate, Many, NoSuch, Already, Finished, Over, Connected, Stopped, Deep, Isolation, NoScope, Nested, Ambient, Fault, NotALog}
use Rattle.dtx_values.specs.declared.words.Iso.{Iso}
use Rattle.dtx_values.specs.declared.words.Iso.TheVariants.{Serializable, RepeatableRead, ReadCommitted, ReadUncommitted, Snapshot, Chaos, Unspecified}
use Rattle.dtx_values.specs.declared.words.Outcome.TheVariants.{Committed, Aborted, InDoubt}
use Rattle.dtx_model.specs.Grammar.{iso_word}
use Rattle.dtx_model.specs.TraceText.{answer_text, is_answer_fit}
use Rattle.dtx_model.proofs.Digits.{digit_of_number}
use Rattle.line_tail.specs.Cut.{IsWithout, behind, front}
use Rattle.trace_lines.proofs.TellPieces.{of_two, two_are}
use Rattle.trace_lines.proofs.TellWords.{chosen, value, value_is, enlistment_of, enlistment_is, id_of, id_is, iso_of, iso_is, manager_of, manager_is, outcome_of, outcome_is, scope_of, scope_is, transaction_of, transaction_is}

-- the first branch where the test holds
pub taken : {A : Type 0} (b : Bool) (x y : A) → b ≡ true → (if b then x else y) ≡ x
taken true x y h = refl
taken false x y h = absurd cc

-- a number's first byte is a digit
pub digit_first : (n : ℕ) → n < 2 ^ 64 → IsInRange 48 57 (get_or (decimal n) 0 0)
digit_first n h = digit_of_number (decimal n) n 0 h (decimal_nonempty n h) refl

-- a level of isolation has no space
iso_apart : (x : Iso) → IsWithout 32 (iso_word x)
iso_apart Serializable = refl
iso_apart RepeatableRead = refl
iso_apart ReadCommitted = refl
iso_apart ReadUncommitted = refl
iso_apart Snapshot = refl
iso_apart Chaos = refl
iso_apart Unspecified = refl

-- answers of one word
abbrev plain : List (List ℕ × Answer)
plain =
    (codes "ok", Fine) ∷ (codes "true", True) ∷ (codes "false", False) ∷ (codes "wait", Wait) ∷ (codes "active", StillActive) ∷
    (codes "committed", OutcomeIs Committed) ∷ (codes "aborted", OutcomeIs Aborted) ∷ (codes "indoubt", OutcomeIs InDoubt) ∷
    (codes "open", StillOpen) ∷ (codes "notbegun", NotBegun) ∷ (codes "toolate", TooLate) ∷ (codes "nosuch", NoSuch) ∷ (codes "already", Already) ∷
    (codes "finished", Finished) ∷ (codes "stopped", Stopped) ∷ (codes "deep", Deep) ∷ (codes "noscope", NoScope) ∷ (codes "none", Ambient None) ∷
    (codes "fault", Fault) ∷ []

-- answers of a keyword and these words behind it
abbrev detailed : List ℕ → List (List ℕ × Answer)
detailed w =
    (codes "id", Id (id_of w)) ∷ (codes "did", Did (value w)) ∷ (codes "ended", Ended (outcome_of w)) ∷ (codes "many", Many (value w)) ∷
    (codes "over", Over (manager_of w)) ∷ (codes "connected", Connected (enlistment_of w)) ∷ (codes "nested", Nested (scope_of w)) ∷
    (codes "notalog", NotALog (value w)) ∷ (codes "isolation", of_two Isolation iso_of iso_of w) ∷ []

-- by its keyword; the name of a transaction has a digit in the second place
abbrev pub answer_of : List ℕ → Answer
answer_of w = if nat_le (get_or w 1 0) 57 then Ambient (Some (transaction_of w)) else chosen (front 32 w) (plain ++ detailed (behind 32 w)) Fine

-- so an answer is read back
pub answer_is : (x : Answer) → is_answer_fit x ≡ true → answer_of (answer_text x) ≡ x
answer_is Fine f = refl
answer_is True f = refl
answer_is False f = refl
answer_is Wait f = refl
answer_is StillActive f = refl
answer_is (OutcomeIs Committed) f = refl
answer_is (OutcomeIs Aborted) f = refl
answer_is (OutcomeIs InDoubt) f = refl
answer_is StillOpen f = refl
answer_is NotBegun f = refl
answer_is TooLate f = refl
answer_is NoSuch f = refl
answer_is Already f = refl
answer_is Finished f = refl
answer_is Stopped f = refl
answer_is Deep f = refl
answer_is NoScope f = refl
answer_is (Ambient None) f = refl
answer_is Fault f = refl
answer_is (Id u) f =
    let small : u < 2 ^ 128 = grind (arith, nat_tests) in
    ap Id (id_is u small)
answer_is (Did n) f =
    let small : n < 2 ^ 64 = grind (arith, nat_tests) in
    ap Did (value_is n small)
answer_is (Ended x) f = ap Ended (outcome_is x)
answer_is (Many n) f =
    let small : n < 2 ^ 64 = grind (arith, nat_tests) in
    ap Many (value_is n small)
answer_is (Over x) f = ap Over (manager_is x)
answer_is (Connected x) f = ap Connected (enlistment_is x)
answer_is (Nested x) f = ap Nested (scope_is x)
answer_is (NotALog n) f =
    let small : n < 2 ^ 64 = grind (arith, nat_tests) in
    ap NotALog (value_is n small)
answer_is (Isolation x y) f = two_are Isolation iso_of iso_of x y (iso_word x) (iso_word y) (iso_apart x) (iso_is x) (iso_is y)
answer_is (Ambient (Some t)) f =
    let small : t.value < 2 ^ 64 = omega (arith, t.in_range.1) in
    let digit = digit_first t.value small in
    let named : nat_le (get_or (decimal t.value) 0 0) 57 ≡ true = grind (arith, nat_tests) in
    taken (nat_le (get_or (decimal t.value) 0 0) 57) _ _ named ∙ ap (λ x. Ambient (Some x)) (transaction_is t)
