-- The words of a line, and what may stand at a place.
use Rattle.std.specs.Prelude.{ℕ, ◌≡◌, ◌≢◌, ◌==◌, ◌||◌, ◌&&◌, not, Bool, true, false, List, ◌∷◌, [], Option, Some, None, if◌then◌else◌}
use Rattle.dtx_values.specs.declared.script.BadCause.{BadCause}
use Rattle.dtx_values.specs.declared.script.BadCause.TheVariants.{MissingWord, UnknownWord, BadNumber, ExtraWord}
use Rattle.dtx_model.specs.Words.{has}
use Rattle.dtx_model.specs.Faults.{Pattern, allows, is_digit, is_letter, split}

-- the words that are left: none, or those of these bytes
abbrev pub words_left : Bool → List ℕ → List (List ℕ)
words_left true bs = split bs
words_left false bs = []

-- the words behind the first
abbrev pub tail : List (List ℕ) → List (List ℕ)
tail [] = []
tail (w ∷ ws) = ws

-- the word has one of these letters and a digit behind it
abbrev pub is_misnamed : List ℕ → List ℕ → Bool
is_misnamed letters (b ∷ d ∷ ds) = has (λ c. b == c) letters && is_digit d
is_misnamed letters _ = false

-- the word begins with a digit or has no letter
abbrev pub is_misnumbered : List ℕ → Bool
is_misnumbered [] = false
is_misnumbered (b ∷ bs) = is_digit b || not (has is_letter (b ∷ bs))

-- the cause where a word isn't allowed at a place for a name of these letters, or for a number
unfoldable pub cause_of : List ℕ → Bool → List ℕ → BadCause
cause_of letters numbered w = if is_misnamed letters w || (numbered && is_misnumbered w) then BadNumber else UnknownWord

-- a number may stand there
abbrev pub is_numbered : Option (ℕ × ℕ) → Bool
is_numbered (Some r) = true
is_numbered None = false

-- the fault of the first word at a place: none where it is allowed there
unfoldable pub place_fault : Pattern → List (List ℕ) → Option BadCause
place_fault s [] = Some MissingWord
place_fault s (w ∷ ws) = if allows s w then None else Some (cause_of s.letters (is_numbered s.number) w)

-- no word may be left
unfoldable pub end_fault : List (List ℕ) → Option BadCause
end_fault [] = None
end_fault (w ∷ ws) = Some ExtraWord

-- these words begin with this one, which may stand at that place
abbrev pub IsAt : Pattern → List (List ℕ) → List ℕ → List (List ℕ) → Type 0
IsAt s old w new = (old ≡ w ∷ new) × (place_fault s old ≡ None) × (tail old ≡ new)

-- the word is none of these
abbrev pub IsOther : List ℕ → List (List ℕ) → Type 0
IsOther w [] = Unit {0}
IsOther w (k ∷ ks) = (w ≢ k) × IsOther w ks
