-- Bad: the first bad line of bytes that are no script, and its first cause.
use Rattle.std.specs.Prelude.{ℕ, ◌≡◌, ◌≢◌, ◌+◌, ◌-◌, ◌*◌, ◌==◌, nat_lt, Bool, true, false, ◌&&◌, ◌||◌, not, List, [], ◌∷◌, ◌++◌, length, codes, decimal, Option, Some, None, if◌then◌else◌}
use Rattle.std.specs.List.{filter_map}
use Rattle.dtx_values.specs.declared.limits.TheConstants.{LINE_BYTES, SCRIPT_BYTES}
use Rattle.dtx_values.specs.declared.number.TheConstants.ActorNo.{MAX as ACTORS}
use Rattle.dtx_values.specs.declared.number.TheConstants.TxNo.{MAX as TRANSACTIONS}
use Rattle.dtx_values.specs.declared.number.TheConstants.EnlNo.{MAX as ENLISTMENTS}
use Rattle.dtx_values.specs.declared.number.TheConstants.CloneNo.{MAX as CLONES}
use Rattle.dtx_values.specs.declared.number.TheConstants.ScopeNo.{MAX as SCOPES}
use Rattle.dtx_values.specs.declared.number.TheConstants.RmNo.{MAX as MANAGERS}
use Rattle.dtx_values.specs.declared.script.BadCause.{BadCause}
use Rattle.dtx_values.specs.declared.script.BadCause.TheVariants.{TooLong, LongLine, NoNewline, BadByte, MissingWord, UnknownWord, BadNumber, ExtraWord, NameTwice, NameUnknown, WrongKind, ParTwice}
use Rattle.dtx_values.specs.declared.script.Line.{Line}
use Rattle.dtx_model.specs.Words.{has, each, past_of}
use Rattle.dtx_model.specs.Outcome.{is_empty}
use Rattle.dtx_model.specs.Grammar.{is_from, is_in_range, is_made, is_of_kind, is_par_once, makes, uses, words, script_text, IsScript}

-- the bytes before the first LF, or before the end
abbrev pub front : List ℕ → List ℕ
front [] = []
front (b ∷ bs) = if b == 10 then [] else b ∷ front bs

-- some LF is there
abbrev pub has_newline : List ℕ → Bool
has_newline bs = has (λ b. b == 10) bs

-- a byte in front of the first word
abbrev pub push : ℕ → List (List ℕ) → List (List ℕ)
push b [] = (b ∷ []) ∷ []
push b (w ∷ ws) = (b ∷ w) ∷ ws

-- the words between the spaces
abbrev pub split : List ℕ → List (List ℕ)
split [] = [] ∷ []
split (b ∷ bs) = if b == 32 then [] ∷ split bs else push b (split bs)

-- the words of a line: none where it has no bytes
abbrev pub words_of : List ℕ → List (List ℕ)
words_of [] = []
words_of (b ∷ bs) = split (b ∷ bs)

abbrev pub same_bytes : List ℕ → List ℕ → Bool
same_bytes [] [] = true
same_bytes (x ∷ xs) (y ∷ ys) = (x == y) && same_bytes xs ys
same_bytes _ _ = false

abbrev pub is_digit : ℕ → Bool
is_digit b = is_from 48 57 b

abbrev pub is_letter : ℕ → Bool
is_letter b = is_from 65 90 b || is_from 97 122 b

-- the number that digits write
abbrev pub value_from : ℕ → List ℕ → ℕ
value_from n [] = n
value_from n (b ∷ bs) = value_from (n * 10 + (b - 48)) bs

-- the word writes a number from low to high, without sign and without leading zeros: it is how its value is written
abbrev pub writes : ℕ → ℕ → List ℕ → Bool
writes low high w = same_bytes w (decimal (value_from 0 w)) && is_from low high (value_from 0 w)

-- what may stand at one place of a line: one of these words; a name of one of these letters with a number from 1 to `most`; or a number in a range
pub record Pattern : Type 0 where
  pub words : List (List ℕ)
  pub letters : List ℕ
  pub most : ℕ
  pub number : Option (ℕ × ℕ)

abbrev pub one_of : List (List ℕ) → Pattern
one_of ws = record { words = ws; letters = []; most = 0; number = None }

abbrev pub word : List ℕ → Pattern
word w = one_of (w ∷ [])

abbrev pub named : List ℕ → ℕ → Pattern
named letters most = record { words = []; letters = letters; most = most; number = None }

abbrev pub number : ℕ → ℕ → Pattern
number low high = record { words = []; letters = []; most = 0; number = Some (low, high) }

-- the word is a name that may stand there
abbrev pub is_name : Pattern → List ℕ → Bool
is_name s [] = false
is_name s (b ∷ bs) = has (λ c. b == c) s.letters && writes 1 s.most bs

-- the word is a number that may stand there
abbrev pub is_number : Option (ℕ × ℕ) → List ℕ → Bool
is_number (Some r) w = writes r.0 r.1 w
is_number None w = false

abbrev pub allows : Pattern → List ℕ → Bool
allows s w = has (same_bytes w) s.words || is_name s w || is_number s.number w

-- the word has the right letter and a digit behind it
abbrev pub looks_named : Pattern → List ℕ → Bool
looks_named s (b ∷ d ∷ ds) = has (λ c. b == c) s.letters && is_digit d
looks_named s _ = false

-- a number stands there, and the word begins with a digit or has no letter
abbrev pub looks_numbered : Option (ℕ × ℕ) → List ℕ → Bool
looks_numbered (Some r) (b ∷ bs) = is_digit b || not (has is_letter (b ∷ bs))
looks_numbered _ _ = false

abbrev pub actor_pattern : Pattern
actor_pattern = named (codes "a") ACTORS

abbrev pub transaction_pattern : Pattern
transaction_pattern = named (codes "t") TRANSACTIONS

abbrev pub enlistment_pattern : Pattern
enlistment_pattern = named (codes "e") ENLISTMENTS

abbrev pub clone_pattern : Pattern
clone_pattern = named (codes "c") CLONES

abbrev pub scope_pattern : Pattern
scope_pattern = named (codes "s") SCOPES

abbrev pub manager_pattern : Pattern
manager_pattern = named (codes "r") MANAGERS

abbrev pub connection_pattern : Pattern
connection_pattern = record { words = codes "b" ∷ codes "v" ∷ []; letters = codes "ex"; most = ENLISTMENTS; number = None }

abbrev pub timeout_pattern : Pattern
timeout_pattern = record { words = codes "default" ∷ []; letters = []; most = 0; number = Some (0, 4294967295) }

abbrev pub iso_pattern : Pattern
iso_pattern =
    one_of (codes "default" ∷ codes "serializable" ∷ codes "repeatableread" ∷ codes "readcommitted" ∷ codes "readuncommitted" ∷ codes "snapshot" ∷ codes "chaos" ∷ codes "unspecified" ∷ [])

abbrev pub option_pattern : Pattern
option_pattern = one_of (codes "none" ∷ codes "during" ∷ [])

abbrev pub vote_pattern : Pattern
vote_pattern = one_of (codes "yes" ∷ codes "no" ∷ codes "done" ∷ codes "silent" ∷ [])

abbrev pub owner_pattern : Pattern
owner_pattern = one_of (codes "committed" ∷ codes "aborted" ∷ codes "indoubt" ∷ codes "silent" ∷ [])

abbrev pub promote_pattern : Pattern
promote_pattern = one_of (codes "ok" ∷ codes "fail" ∷ codes "silent" ∷ [])

abbrev pub kind_pattern : Pattern
kind_pattern = one_of (codes "block" ∷ codes "rollback" ∷ [])

abbrev pub image_pattern : Pattern
image_pattern = one_of (codes "lose" ∷ codes "keep" ∷ codes "torn" ∷ [])

-- the forms of a command: what may stand at each of its places
abbrev pub command_forms : List (List Pattern)
command_forms =
    (word (codes "begin") ∷ transaction_pattern ∷ timeout_pattern ∷ [])
    ∷ (word (codes "open") ∷ scope_pattern ∷ word (codes "required") ∷ transaction_pattern ∷ timeout_pattern ∷ iso_pattern ∷ [])
    ∷ (word (codes "open") ∷ scope_pattern ∷ word (codes "requiresnew") ∷ transaction_pattern ∷ timeout_pattern ∷ iso_pattern ∷ [])
    ∷ (word (codes "open") ∷ scope_pattern ∷ word (codes "suppress") ∷ [])
    ∷ (word (codes "finish") ∷ scope_pattern ∷ [])
    ∷ (word (codes "close") ∷ scope_pattern ∷ [])
    ∷ (word (codes "current") ∷ [])
    ∷ (word (codes "volatile") ∷ transaction_pattern ∷ enlistment_pattern ∷ option_pattern ∷ vote_pattern ∷ [])
    ∷ (word (codes "durable") ∷ transaction_pattern ∷ enlistment_pattern ∷ manager_pattern ∷ word (codes "single") ∷ vote_pattern ∷ owner_pattern ∷ [])
    ∷ (word (codes "durable") ∷ transaction_pattern ∷ enlistment_pattern ∷ manager_pattern ∷ word (codes "two") ∷ vote_pattern ∷ [])
    ∷ (word (codes "promotable") ∷ transaction_pattern ∷ enlistment_pattern ∷ manager_pattern ∷ vote_pattern ∷ owner_pattern ∷ promote_pattern ∷ [])
    ∷ (word (codes "clone") ∷ transaction_pattern ∷ clone_pattern ∷ kind_pattern ∷ [])
    ∷ (word (codes "complete") ∷ clone_pattern ∷ [])
    ∷ (word (codes "commit") ∷ transaction_pattern ∷ [])
    ∷ (word (codes "rollback") ∷ transaction_pattern ∷ [])
    ∷ (word (codes "marshal") ∷ transaction_pattern ∷ [])
    ∷ (word (codes "status") ∷ transaction_pattern ∷ [])
    ∷ (word (codes "await") ∷ transaction_pattern ∷ [])
    ∷ (word (codes "tick") ∷ transaction_pattern ∷ number 1 1000000000 ∷ [])
    ∷ (word (codes "do") ∷ transaction_pattern ∷ number 1 99 ∷ number 1 999 ∷ [])
    ∷ (word (codes "lose") ∷ transaction_pattern ∷ connection_pattern ∷ number 0 999 ∷ number 0 999 ∷ [])
    ∷ (word (codes "gone") ∷ enlistment_pattern ∷ [])
    ∷ (word (codes "reenlist") ∷ enlistment_pattern ∷ [])
    ∷ (word (codes "recovered") ∷ transaction_pattern ∷ manager_pattern ∷ [])
    ∷ (word (codes "stop") ∷ number 1 99 ∷ image_pattern ∷ [])
    ∷ (word (codes "restart") ∷ [])
    ∷ (word (codes "par") ∷ [])
    ∷ []

-- what of a form is left after a word, where its first place allows the word
abbrev pub behind : List ℕ → List Pattern → Option (List Pattern)
behind w [] = None
behind w (s ∷ f) = if allows s w then Some f else None

-- the first place of some form looks as if it wanted a number that this word misspells or has out of range
abbrev pub wants_number : List ℕ → List Pattern → Bool
wants_number w [] = false
wants_number w (s ∷ f) = looks_named s w || looks_numbered s.number w

-- the cause where a word fits no form that is left
abbrev pub word_cause : List (List Pattern) → List ℕ → BadCause
word_cause forms w = if has is_empty forms then ExtraWord else if has (wants_number w) forms then BadNumber else UnknownWord

-- the first fault of a line's words, from the left, by the forms that are left; none where a form is filled
abbrev pub word_fault : List (List Pattern) → List (List ℕ) → Option BadCause
word_fault forms [] = if has is_empty forms then None else Some MissingWord
word_fault forms (w ∷ ws) = if is_empty (filter_map (behind w) forms) then Some (word_cause forms w) else word_fault (filter_map (behind w) forms) ws

-- a line's form: an actor, and a command
abbrev pub line_forms : List (List Pattern)
line_forms = line_of command_forms
  where
    line_of : List (List Pattern) → List (List Pattern)
    line_of [] = []
    line_of (f ∷ fs) = (actor_pattern ∷ f) ∷ line_of fs

-- how many bytes the line at the front has, with its LF where it is there
abbrev pub reach : List ℕ → ℕ
reach bs = length (front bs) + (if has_newline bs then 1 else 0)

-- the first cause by the bytes of the line at the front, after so many bytes: the first eight causes
unfoldable pub form_fault : ℕ → List ℕ → Option BadCause
form_fault taken bs =
    if nat_lt SCRIPT_BYTES (taken + reach bs) then Some TooLong
    else if nat_lt LINE_BYTES (length (front bs)) then Some LongLine
    else if not (has_newline bs) then Some NoNewline
    else if not (each (is_from 32 126) (front bs)) then Some BadByte
    else word_fault line_forms (words_of (front bs))

-- the first cause by the names of a line after these ones: the last four causes
abbrev pub name_fault : List Line → Line → Option BadCause
name_fault before l =
    if not (each (λ n. not (is_made before n)) (makes l.body)) then Some NameTwice
    else if not (each (λ n. is_made before n) (uses l.body)) then Some NameUnknown
    else if not (is_of_kind before l.body) then Some WrongKind
    else if not (is_par_once before l.body) then Some ParTwice
    else None

-- the line at the front, after these lines, is bad for this cause: by its bytes, or, where its bytes are those of a line, by its names
pub data IsBadFor (before : List Line) (rest : List ℕ) (c : BadCause) : Type 0 where
  ByForm : form_fault (length (script_text before)) rest ≡ Some c → IsBadFor before rest c
  ByNames : (l : Line) → form_fault (length (script_text before)) rest ≡ None → words_of (front rest) ≡ words l → is_in_range l.body ≡ true
      → name_fault (past_of before) l ≡ Some c → IsBadFor before rest c

-- Bad: line n of these bytes is the first bad one, and c its first cause. The lines before it are a script, and something is left.
pub record Bad (b : List ℕ) (n : ℕ) (c : BadCause) : Type 0 where
  pub before : List Line
  pub rest : List ℕ
  pub bytes : b ≡ script_text before ++ rest
  pub script : IsScript before
  pub number : n ≡ length before + 1
  pub left : rest ≢ []
  pub cause : IsBadFor before rest c
