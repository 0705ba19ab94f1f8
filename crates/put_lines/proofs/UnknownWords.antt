-- Words that begin no line before the script.
use Rattle.std.proofs.Common.{◌≡◌, ◌≢◌, ℕ, ◌||◌, false, List, [], ◌∷◌, refl, codes, Some, None}
use Rattle.dtx_values.specs.declared.script.BadCause.TheVariants.{UnknownWord}
use Rattle.dtx_model.specs.Faults.{looks_named, looks_numbered, word, word_fault}
use Rattle.script_words.proofs.Patterns.{allows-none}
use Rattle.put_lines.specs.Input.{put_forms}

-- a place for a word wants no number
wants_none : (w k : List ℕ) → (looks_named (word k) w || looks_numbered None w) ≡ false
wants_none [] k = refl
wants_none (b ∷ []) k = refl
wants_none (b ∷ d ∷ ds) k = refl

-- another word than `put` and `script` is unknown there
pub unknown_front : (w : List ℕ) (ws : List (List ℕ)) → w ≢ codes "put" → w ≢ codes "script" → word_fault put_forms (w ∷ ws) ≡ Some UnknownWord
unknown_front w ws h k =
    rw (allows-none w (codes "put" ∷ []) (h, tt), allows-none w (codes "script" ∷ []) (k, tt), wants_none w (codes "put")) refl
