-- A line before the script: a put, or the line `script`.
use Rattle.std.specs.Prelude.{ℕ, ◌≡◌, ◌+◌, ◌≤◌, Bool, true, List, [], ◌∷◌, ◌++◌, codes, decimal, length, Some, None, Result, Ok, Err}
use Rattle.dtx_values.specs.declared.script.BadCause.{BadCause}
use Rattle.dtx_values.specs.declared.limits.TheConstants.{SCRIPT_BYTES}
use Rattle.dtx_model.specs.Faults.{word_fault}
use Rattle.dtx_model.specs.Grammar.{enlistment_name, transaction_name}
use Rattle.heard_notes.specs.declared.put.Put.{Put}
use Rattle.put_lines.specs.Input.{is_put_in_range, put_forms, put_text, script_line}
use Rattle.put_lines.specs.declared.words.FrontLine.{FrontLine}
use Rattle.put_lines.specs.declared.words.FrontLine.TheVariants.{Put as APut, Script}

-- the words of a put
abbrev pub put_words : Put → List (List ℕ)
put_words p = codes "put" ∷ transaction_name p.transaction.value ∷ enlistment_name p.enlistment.value ∷ decimal p.key ∷ decimal p.value ∷ []

-- the words of such a line
abbrev pub front_words_of : FrontLine → List (List ℕ)
front_words_of (APut p) = put_words p
front_words_of Script = codes "script" ∷ []

-- its text, with its LF
abbrev pub front_line_text : FrontLine → List ℕ
front_line_text (APut p) = put_text p
front_line_text Script = script_line

abbrev pub is_front_in_range : FrontLine → Bool
is_front_in_range (APut p) = is_put_in_range p
is_front_in_range Script = true

-- what a reader of such a line says of its words
abbrev pub IsFrontLine : List (List ℕ) → Result FrontLine BadCause → Type 0
IsFrontLine ws (Ok l) = (ws ≡ front_words_of l) × (is_front_in_range l ≡ true) × (word_fault put_forms ws ≡ None)
IsFrontLine ws (Err c) = word_fault put_forms ws ≡ Some c

-- the bytes begin with this line, after so many others, and this follows it
pub record BeginsWith (taken : ℕ) (bytes : List ℕ) (l : FrontLine) (after : List ℕ) : Type 0 where
  pub text : bytes ≡ front_line_text l ++ after
  pub in_range : is_front_in_range l ≡ true
  pub within : taken + length (front_line_text l) ≤ SCRIPT_BYTES
