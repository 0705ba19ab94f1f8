use Rattle.std.proofs.Common.{◌≡◌, ℕ, Bool, true, false, List, [], ◌∷◌, refl, sym, if◌then◌else◌, rules}
use Rattle.dtx_values.specs.declared.script.BadCause.TheVariants.{BadNumber, UnknownWord}
use Rattle.script_words.specs.Places.{cause_of, is_misnamed, is_misnumbered}
use Rattle.put_lines.proofs.words.number_cause.Goals as goal

-- no letter is misnumbered where none may stand
unnamed : (w : List ℕ) → is_misnamed [] w ≡ false
unnamed [] = refl
unnamed (b ∷ []) = refl
unnamed (b ∷ d ∷ ds) = refl

-- so the cause is by the number alone
by_number : (w : List ℕ) (b : Bool) → is_misnumbered w ≡ b → cause_of [] true w ≡ (if b then BadNumber else UnknownWord)
unfolding cause_of
by_number w b e = rw (unnamed w, e) refl

pub returns-then-is_misnumbered : goal.returns-then-is_misnumbered
returns-then-is_misnumbered c = sym (by_number c.args.word.now true (search rules))

pub returns : goal.returns
returns c = sym (by_number c.args.word.now false (search rules))
