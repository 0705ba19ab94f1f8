-- Words that are none of the words that forms begin with.
use Rattle.std.proofs.Common.{◌≡◌, ◌≢◌, ℕ, ◌||◌, true, false, List, [], ◌∷◌, ◌++◌, refl, Some, None, subst, rules}
use Rattle.std.specs.List.{filter_map}
use Rattle.dtx_values.specs.declared.script.BadCause.TheVariants.{UnknownWord}
use Rattle.dtx_model.specs.Words.{has}
use Rattle.dtx_model.specs.Outcome.{is_empty}
use Rattle.dtx_model.specs.Faults.{Pattern, same_bytes, behind, looks_named, looks_numbered, wants_number, word, word_fault, command_forms}
use Rattle.dtx_model.proofs.Bools.{or_false, or_case}
use Rattle.script_words.specs.Places.{IsOther}
use Rattle.line_reader.specs.Reader.{opening_forms, opening_keys, transaction_keys, scope_keys, event_keys}
use Rattle.line_tail.proofs.SameBytes.{same_bytes-equal}
use Rattle.script_words.proofs.Patterns.{allows-none}

-- each form begins with one of these words
data Keyed (ks : List (List ℕ)) : List (List Pattern) → Type 0 where
  NoForm : Keyed ks []
  AlsoForm : (k : List ℕ) (f : List Pattern) (fs : List (List Pattern)) → has (same_bytes k) ks ≡ true → Keyed ks fs → Keyed ks ((word k ∷ f) ∷ fs)

-- a word that is none of these isn't one of them
other_word : (w k : List ℕ) (ks : List (List ℕ)) → IsOther w ks → has (same_bytes k) ks ≡ true → w ≢ k
other_word w k [] h e = absurd cc
other_word w k (x ∷ ks) h e = or_case (same_bytes k x) (has (same_bytes k) ks) (λ t q. h.0 (subst (λ (y : List ℕ). w ≡ y) (same_bytes-equal k x t) q)) (λ t. other_word w k ks h.1 t) e

-- a place for a word wants no number
wants_none : (w k : List ℕ) → (looks_named (word k) w || looks_numbered None w) ≡ false
wants_none [] k = refl
wants_none (b ∷ []) k = refl
wants_none (b ∷ d ∷ ds) k = refl

-- no form is left after such a word
none_left : (w : List ℕ) (ks : List (List ℕ)) (fs : List (List Pattern)) → IsOther w ks → Keyed ks fs → filter_map (behind w) fs ≡ []
none_left w ks _ h NoForm = refl
none_left w ks _ h (AlsoForm k f fs e n) = rw (allows-none w (k ∷ []) (other_word w k ks h e, tt), none_left w ks fs h n) refl

-- none is filled
none_filled : (ks : List (List ℕ)) (fs : List (List Pattern)) → Keyed ks fs → has is_empty fs ≡ false
none_filled ks _ NoForm = refl
none_filled ks _ (AlsoForm k f fs e n) = none_filled ks fs n

-- none wants a number
none_wants : (w : List ℕ) (ks : List (List ℕ)) (fs : List (List Pattern)) → Keyed ks fs → has (wants_number w) fs ≡ false
none_wants w ks _ NoForm = refl
none_wants w ks _ (AlsoForm k f fs e n) = or_false (looks_named (word k) w || looks_numbered None w) _ (wants_none w k) (none_wants w ks fs n)

-- so the word is unknown
unknown : (w : List ℕ) (ws ks : List (List ℕ)) (fs : List (List Pattern)) → IsOther w ks → Keyed ks fs → word_fault fs (w ∷ ws) ≡ Some UnknownWord
unknown w ws ks fs h n = rw (none_left w ks fs h n, none_filled ks fs n, none_wants w ks fs n) refl

-- a word that is none of these and none of those is none of them together
others : (w : List ℕ) (ks ls : List (List ℕ)) → IsOther w ks → IsOther w ls → IsOther w (ks ++ ls)
others w [] ls h k = k
others w (x ∷ ks) ls h k = (h.0, others w ks ls h.1 k)

-- another word than those of an opening is unknown after a scope's name
pub unknown_opening : (w : List ℕ) (ws : List (List ℕ)) → IsOther w opening_keys → word_fault opening_forms (w ∷ ws) ≡ Some UnknownWord
unknown_opening w ws h = unknown w ws opening_keys opening_forms h (search (rules, AlsoForm, NoForm))

-- another word than those of commands is unknown where a command begins
pub unknown_command : (w : List ℕ) (ws : List (List ℕ)) → IsOther w transaction_keys → IsOther w scope_keys → IsOther w event_keys → word_fault command_forms (w ∷ ws) ≡ Some UnknownWord
unknown_command w ws h k n =
    let other = others w (transaction_keys ++ scope_keys) event_keys (others w transaction_keys scope_keys h k) n in
    unknown w ws (transaction_keys ++ scope_keys ++ event_keys) command_forms other (search (rules, AlsoForm, NoForm) depth 60)
