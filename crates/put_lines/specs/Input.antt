-- The input of `store` and of `map`: lines `put`, a line `script`, and a script.
use Rattle.std.specs.Prelude.{ℕ, ◌≡◌, ◌≢◌, ◌+◌, ◌==◌, ◌≤◌, nat_lt, Bool, true, false, ◌&&◌, not, List, [], ◌∷◌, ◌++◌, codes, decimal, length, Option, Some, None, if◌then◌else◌}
use Rattle.dtx_values.specs.declared.limits.TheConstants.{LINE_BYTES, SCRIPT_BYTES}
use Rattle.dtx_values.specs.declared.script.BadCause.{BadCause}
use Rattle.dtx_values.specs.declared.script.BadCause.TheVariants.{TooLong, LongLine, NoNewline, BadByte, MissingWord}
use Rattle.dtx_values.specs.declared.script.Body.{Body}
use Rattle.dtx_values.specs.declared.script.Body.TheVariants.{Volatile}
use Rattle.dtx_values.specs.declared.script.Line.{Line}
use Rattle.dtx_model.specs.Faults.{Pattern, enlistment_pattern, front, has_newline, line_forms, name_fault, number, reach, transaction_pattern, word, word_fault, words_of}
use Rattle.dtx_model.specs.Grammar.{IsScript, OfEnlistment, OfTransaction, is_from, is_in_range, is_made, is_made_lasting_of, script_text, words}
use Rattle.dtx_model.specs.Words.{each, has, past_of}
use Rattle.dtx_model.specs.Caused.{Of, Volatiles, answers}
use Rattle.heard_notes.specs.Puts.{Named, put_fault}
use Rattle.heard_notes.specs.declared.put.Put.{Put}

-- a line `put T E KEY VALUE`, with its LF
abbrev pub put_text : Put → List ℕ
put_text p = codes "put t" ++ decimal p.transaction.value ++ codes " e" ++ decimal p.enlistment.value ++ codes " " ++ decimal p.key ++ codes " " ++ decimal p.value ++ 10 ∷ []

abbrev pub puts_text : List Put → List ℕ
puts_text [] = []
puts_text (p ∷ ps) = put_text p ++ puts_text ps

-- the line `script`, with its LF
abbrev pub script_line : List ℕ
script_line = codes "script" ++ 10 ∷ []

-- what stands before the script
abbrev pub front_text : List Put → List ℕ
front_text ps = puts_text ps ++ script_line

-- the input's bytes
abbrev pub input_text : List Put → List Line → List ℕ
input_text ps s = front_text ps ++ script_text s

-- the key and the value are in their ranges; the types of the names keep theirs
abbrev pub is_put_in_range : Put → Bool
is_put_in_range p = is_from 0 4294967295 p.key && is_from 0 18446744073709551615 p.value

abbrev pub are_in_range : List Put → Bool
are_in_range ps = each is_put_in_range ps

-- a line before the script: what may stand at each of its places
abbrev pub put_forms : List (List Pattern)
put_forms = (word (codes "put") ∷ transaction_pattern ∷ enlistment_pattern ∷ number 0 4294967295 ∷ number 0 18446744073709551615 ∷ []) ∷ (word (codes "script") ∷ []) ∷ []

-- the first cause by the bytes of the line at the front, after so many bytes, where a line has one of these forms: the first eight causes.
-- By the forms of a script's line it is the `form_fault` of scripts
unfoldable pub form_fault_by : List (List Pattern) → ℕ → List ℕ → Option BadCause
form_fault_by forms taken bs =
    if nat_lt SCRIPT_BYTES (taken + reach bs) then Some TooLong
    else if nat_lt LINE_BYTES (length (front bs)) then Some LongLine
    else if not (has_newline bs) then Some NoNewline
    else if not (each (is_from 32 126) (front bs)) then Some BadByte
    else word_fault forms (words_of (front bs))

-- the command makes this enlistment as a volatile one of this transaction
abbrev pub makes_volatile_of : ℕ → ℕ → Body → Bool
makes_volatile_of t e (Volatile u f x v) = (t == u.value) && (e == f.value)
makes_volatile_of t e _ = false

-- the enlistment is one of this transaction, and has the object: a volatile one, or a durable or promotable one of the object's manager
abbrev pub is_putter : List Line → Of → ℕ → ℕ → Bool
is_putter s Volatiles t e = has (λ l. makes_volatile_of t e l.body) s
is_putter s o t e = is_made_lasting_of s t e && answers s o e

-- what the script says of a put
abbrev pub named_in : List Line → Of → Put → Named
named_in s o p = record {
  made = is_made s (OfTransaction p.transaction.value) && is_made s (OfEnlistment p.enlistment.value);
  right = is_putter s o p.transaction.value p.enlistment.value;
}

-- the line at the front is bad for this cause, after these lines of the script and so many bytes before it: by its bytes, or, where its bytes are those
-- of a line, by its names
pub data IsBadLineAfter (taken : ℕ) (before : List Line) (rest : List ℕ) (c : BadCause) : Type 0 where
  ByForm : form_fault_by line_forms (taken + length (script_text before)) rest ≡ Some c → IsBadLineAfter taken before rest c
  ByNames : (l : Line) → form_fault_by line_forms (taken + length (script_text before)) rest ≡ None → words_of (front rest) ≡ words l → is_in_range l.body ≡ true
      → name_fault (past_of before) l ≡ Some c → IsBadLineAfter taken before rest c

abbrev pub is_fine : Option BadCause → Bool
is_fine (Some c) = false
is_fine None = true

-- no put of these is bad, after those before them, the newest first
abbrev pub are_good : ℕ → List Line → Of → List Put → List Put → Bool
are_good most s o before [] = true
are_good most s o before (p ∷ ps) = is_fine (put_fault most (named_in s o p) before p) && are_good most s o (p ∷ before) ps

-- these bytes are these puts and this script
pub record ReadsInput (most : ℕ) (o : Of) (b : List ℕ) (ps : List Put) (s : List Line) : Type 0 where
  pub bytes : b ≡ input_text ps s
  pub in_range : are_in_range ps ≡ true
  pub within : length b ≤ SCRIPT_BYTES
  pub script : IsScript s
  pub good : are_good most s o [] ps ≡ true

-- the bytes begin with these lines `put`, and this follows them
pub record HasPuts (b : List ℕ) (ps : List Put) (rest : List ℕ) : Type 0 where
  pub bytes : b ≡ puts_text ps ++ rest
  pub in_range : are_in_range ps ≡ true
  pub within : length (puts_text ps) ≤ SCRIPT_BYTES

-- the bytes begin with these lines `put` and the line `script`, and this follows them
pub record HasFront (b : List ℕ) (ps : List Put) (rest : List ℕ) : Type 0 where
  pub bytes : b ≡ front_text ps ++ rest
  pub in_range : are_in_range ps ≡ true
  pub within : length (front_text ps) ≤ SCRIPT_BYTES

-- why line n of these bytes is refused: a line before the script is bad by its form; there is no line `script`; a line of the script is bad; or, where all
-- lines are well formed, a put is bad. The lines before it are good, and end within the most bytes
pub data IsRefused (most : ℕ) (o : Of) (b : List ℕ) (n : ℕ) (c : BadCause) : Type 0 where
  AtFront : (ps : List Put) → (rest : List ℕ) → HasPuts b ps rest → rest ≢ [] → n ≡ length ps + 1 → form_fault_by put_forms (length (puts_text ps)) rest ≡ Some c
      → IsRefused most o b n c
  NoScript : (ps : List Put) → HasPuts b ps [] → n ≡ length ps + 1 → c ≡ MissingWord → IsRefused most o b n c
  InScript : (ps : List Put) → (before : List Line) → (rest : List ℕ) → HasFront b ps (script_text before ++ rest) → IsScript before
      → length (front_text ps) + length (script_text before) ≤ SCRIPT_BYTES → rest ≢ [] → n ≡ length ps + 1 + length before + 1
      → IsBadLineAfter (length (front_text ps)) before rest c → IsRefused most o b n c
  AtPut : (before : List Put) → (p : Put) → (after : List Put) → (s : List Line) → HasFront b (before ++ p ∷ after) (script_text s) → length b ≤ SCRIPT_BYTES → IsScript s
      → n ≡ length before + 1 → are_good most s o [] before ≡ true → put_fault most (named_in s o p) (past_of before) p ≡ Some c → IsRefused most o b n c
