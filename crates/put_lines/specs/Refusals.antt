-- What an error says of the bytes.
use Rattle.std.specs.Prelude.{ℕ, ◌≡◌, ◌≢◌, ◌+◌, ◌≤◌, true, List, [], ◌∷◌, ◌++◌, length, Some}
use Rattle.dtx_values.specs.declared.limits.TheConstants.{SCRIPT_BYTES}
use Rattle.dtx_values.specs.declared.script.BadCause.{BadCause}
use Rattle.dtx_values.specs.declared.script.Line.{Line}
use Rattle.dtx_model.specs.Caused.{Of}
use Rattle.dtx_model.specs.Grammar.{IsScript, script_text}
use Rattle.dtx_model.specs.Words.{past_of}
use Rattle.heard_notes.specs.Puts.{put_fault}
use Rattle.heard_notes.specs.declared.put.Put.{Put}
use Rattle.put_lines.specs.Input.{IsBadLineAfter, IsRefused, are_good, named_in}
use Rattle.put_lines.specs.declared.error.InputError.{InputError}
use Rattle.put_lines.specs.declared.error.InputError.TheVariants.{Bad, Memory}

-- the bytes are refused at this line for this cause; nothing is said of want of memory
abbrev pub IsWhy : ℕ → Of → List ℕ → InputError → Type 0
IsWhy most o b (Bad n c) = IsRefused most o b n c
IsWhy most o b Memory = Unit {0}

-- so they are whatever the object, where a line before the script is bad by its form
abbrev pub IsBadFront : List ℕ → InputError → Type 0
IsBadFront b e = (most : ℕ) (o : Of) → IsWhy most o b e

-- line n is the first bad one of a script that stands behind so many bytes and lines, and c its first cause
pub record IsBadAt (taken lines : ℕ) (b : List ℕ) (n : ℕ) (c : BadCause) : Type 0 where
  pub before : List Line
  pub rest : List ℕ
  pub bytes : b ≡ script_text before ++ rest
  pub script : IsScript before
  pub within : taken + length (script_text before) ≤ SCRIPT_BYTES
  pub left : rest ≢ []
  pub number : n ≡ lines + length before + 1
  pub cause : IsBadLineAfter taken before rest c

abbrev pub IsBadBody : ℕ → ℕ → List ℕ → InputError → Type 0
IsBadBody taken lines b (Bad n c) = IsBadAt taken lines b n c
IsBadBody taken lines b Memory = Unit {0}

-- put n is the first bad one, and c its first cause
pub record IsBadPutAt (most : ℕ) (s : List Line) (o : Of) (ps : List Put) (n : ℕ) (c : BadCause) : Type 0 where
  pub before : List Put
  pub put : Put
  pub after : List Put
  pub whole : ps ≡ before ++ put ∷ after
  pub number : n ≡ length before + 1
  pub good : are_good most s o [] before ≡ true
  pub fault : put_fault most (named_in s o put) (past_of before) put ≡ Some c

abbrev pub IsBadPut : ℕ → List Line → Of → List Put → InputError → Type 0
IsBadPut most s o ps (Bad n c) = IsBadPutAt most s o ps n c
IsBadPut most s o ps Memory = Unit {0}
