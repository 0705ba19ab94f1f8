-- Bytes split at their spaces.
use Rattle.std.proofs.Common.{◌≡◌, ℕ, ◌==◌, Bool, true, false, List, [], ◌∷◌, ◌++◌, refl, Some, if◌then◌else◌}
use Rattle.dtx_values.specs.declared.script.BadCause.TheVariants.{ExtraWord}
use Rattle.dtx_model.specs.Faults.{push, split}
use Rattle.dtx_model.proofs.Bools.{or_first, or_second}
use Rattle.dtx_model.specs.Words.{has}
use Rattle.dtx_model.specs.Outcome.{is_empty}
use Rattle.line_tail.specs.Cut.{IsWithout}
use Rattle.script_words.specs.Places.{words_left, end_fault}

-- bytes with a space are split there
pub split_at : (w r : List ℕ) → IsWithout 32 w → split (w ++ 32 ∷ r) ≡ w ∷ split r
split_at [] r h = refl
split_at (b ∷ w) r h = rw (or_first (b == 32) (has (λ x. x == 32) w) h, split_at w r (or_second (b == 32) _ h)) refl

-- bytes without a space are one word
pub split_none : (w : List ℕ) → IsWithout 32 w → split w ≡ w ∷ []
split_none [] h = refl
split_none (b ∷ w) h = rw (or_first (b == 32) (has (λ x. x == 32) w) h, split_none w (or_second (b == 32) _ h)) refl

-- a byte in front leaves a word
push_some : (b : ℕ) (ws : List (List ℕ)) → is_empty (push b ws) ≡ false
push_some b [] = refl
push_some b (w ∷ ws) = refl

-- one of two that have words has words
either_some : (t : Bool) (ws vs : List (List ℕ)) → is_empty ws ≡ false → is_empty vs ≡ false → is_empty (if t then ws else vs) ≡ false
either_some true ws vs h k = h
either_some false ws vs h k = k

-- bytes have words
pub split_some : (bs : List ℕ) → is_empty (split bs) ≡ false
split_some [] = refl
split_some (b ∷ bs) = either_some (b == 32) ([] ∷ split bs) (push b (split bs)) refl (push_some b (split bs))

-- where there are words, one is too many
one_extra : (ws : List (List ℕ)) → is_empty ws ≡ false → end_fault ws ≡ Some ExtraWord
unfolding end_fault
one_extra [] h = absurd (cc h)
one_extra (w ∷ ws) h = refl

-- the words that are left behind the next
pub next_word : (s : Bool) (rest word after : List ℕ) → s ≡ true → rest ≡ word ++ 32 ∷ after → IsWithout 32 word → words_left s rest ≡ word ∷ words_left s after
next_word s rest word after t e h = rw (t, e) (split_at word after h)

-- none is left behind the last
pub last_word : (s : Bool) (rest : List ℕ) → s ≡ true → IsWithout 32 rest → words_left s rest ≡ rest ∷ []
last_word s rest t h = rw t (split_none rest h)

-- where some are left, there is one
pub left_over : (s : Bool) (rest : List ℕ) → s ≡ true → end_fault (words_left s rest) ≡ Some ExtraWord
left_over s rest t = rw t (one_extra (split rest) (split_some rest))
