-- What the reader's parts read.
use Rattle.std.specs.Prelude.{ℕ, ◌≡◌, ◌==◌, ◌<◌, ◌+◌, Bool, true, false, List, ◌∷◌, ◌++◌, [], codes, Option, Some, None, is_some, Result, Ok, Err, length, slice_index_or}
use Rattle.dtx_values.specs.declared.number.TxNo.{TxNo}
use Rattle.dtx_values.specs.declared.number.TheConstants.TxNo.{MAX as TRANSACTIONS}
use Rattle.dtx_values.specs.declared.number.TheConstants.EnlNo.{MAX as ENLISTMENTS}
use Rattle.dtx_values.specs.declared.number.TheConstants.CloneNo.{MAX as CLONES}
use Rattle.dtx_values.specs.declared.number.TheConstants.ScopeNo.{MAX as SCOPES}
use Rattle.dtx_values.specs.declared.script.BadCause.{BadCause}
use Rattle.dtx_values.specs.declared.script.Body.{Body}
use Rattle.dtx_values.specs.declared.script.Opening.{Opening}
use Rattle.dtx_values.specs.declared.script.Support.{Support}
use Rattle.dtx_values.specs.declared.script.Line.{Line}
use Rattle.dtx_model.specs.Words.{has, past_of}
use Rattle.dtx_model.specs.Grammar.{words, line_text, IsScript, command_words, opening_words, support_words, is_in_range, is_opening_in_range, is_made, is_made_lasting, is_made_lasting_of, is_par, OfTransaction, OfEnlistment, OfClone, OfScope}
use Rattle.dtx_model.specs.Faults.{Pattern, command_forms, word, transaction_pattern, timeout_pattern, iso_pattern, vote_pattern, owner_pattern, word_fault, line_forms, words_of, name_fault}

-- the first fault of two
unfoldable pub first_fault : Option BadCause → Option BadCause → Option BadCause
first_fault (Some c) o = Some c
first_fault None o = o

-- each form with this place in front
abbrev pub ahead : Pattern → List (List Pattern) → List (List Pattern)
ahead s [] = []
ahead s (f ∷ fs) = (s ∷ f) ∷ ahead s fs

-- what a command's reader says of its words, whose first fault is this one
abbrev pub IsAnswer : List (List ℕ) → Option BadCause → Result Body BadCause → Type 0
IsAnswer ws f (Ok b) = (ws ≡ command_words b) × (is_in_range b ≡ true) × (f ≡ None)
IsAnswer ws f (Err c) = f ≡ Some c

-- what a command's reader says of its own word and the words behind it
abbrev pub IsAnswerTo : List ℕ → List (List ℕ) → Result Body BadCause → Type 0
IsAnswerTo w ws r = IsAnswer (w ∷ ws) (word_fault command_forms (w ∷ ws)) r

-- the commands of transactions, and of what enlists in them or is cloned of them
abbrev pub transaction_keys : List (List ℕ)
transaction_keys =
    codes "begin" ∷ codes "volatile" ∷ codes "durable" ∷ codes "promotable" ∷ codes "clone" ∷ codes "complete" ∷ codes "commit" ∷ codes "rollback"
    ∷ codes "marshal" ∷ codes "status" ∷ codes "await" ∷ []

-- those of scopes
abbrev pub scope_keys : List (List ℕ)
scope_keys = codes "open" ∷ codes "finish" ∷ codes "close" ∷ codes "current" ∷ []

-- those of time, steps, losses, recovery and stops
abbrev pub event_keys : List (List ℕ)
event_keys = codes "tick" ∷ codes "do" ∷ codes "lose" ∷ codes "gone" ∷ codes "reenlist" ∷ codes "recovered" ∷ codes "stop" ∷ codes "restart" ∷ codes "par" ∷ []

-- the forms after a scope's name
abbrev pub opening_forms : List (List Pattern)
opening_forms =
    (word (codes "required") ∷ transaction_pattern ∷ timeout_pattern ∷ iso_pattern ∷ [])
    ∷ (word (codes "requiresnew") ∷ transaction_pattern ∷ timeout_pattern ∷ iso_pattern ∷ [])
    ∷ (word (codes "suppress") ∷ [])
    ∷ []

-- the words that they begin with
abbrev pub opening_keys : List (List ℕ)
opening_keys = codes "required" ∷ codes "requiresnew" ∷ codes "suppress" ∷ []

-- what a reader of the words behind a scope's name says of them
abbrev pub IsOpening : List (List ℕ) → Result Opening BadCause → Type 0
IsOpening ws (Ok o) = (ws ≡ opening_words o) × (is_opening_in_range o ≡ true) × (word_fault opening_forms ws ≡ None)
IsOpening ws (Err c) = word_fault opening_forms ws ≡ Some c

-- the forms after a durable's manager
abbrev pub support_forms : List (List Pattern)
support_forms = (word (codes "single") ∷ vote_pattern ∷ owner_pattern ∷ []) ∷ (word (codes "two") ∷ vote_pattern ∷ []) ∷ []

-- what a reader of the words behind a durable's manager says of them
abbrev pub IsSupport : List (List ℕ) → Result Support BadCause → Type 0
IsSupport ws (Ok s) = (ws ≡ support_words s) × (word_fault support_forms ws ≡ None)
IsSupport ws (Err c) = word_fault support_forms ws ≡ Some c

-- what a reader of a line without its LF says of its words
abbrev pub IsLine : List ℕ → Result Line BadCause → Type 0
IsLine t (Ok l) = (words_of t ≡ words l) × (is_in_range l.body ≡ true) × (word_fault line_forms (words_of t) ≡ None)
IsLine t (Err c) = word_fault line_forms (words_of t) ≡ Some c

-- the transaction of this number is the one there
abbrev pub is_owner : ℕ → Option TxNo → Bool
is_owner t (Some owner) = t == owner.value
is_owner t None = false

-- the tables say at place n, from 0, whether the name of number n + 1 is made, and of which transaction that enlistment is a durable or
-- promotable one
pub record AreMade (past : List Line) (transactions enlistments clones scopes : List Bool) (owners : List (Option TxNo)) (par : Bool) : Type 0 where
  pub transactions_long : length transactions ≡ TRANSACTIONS
  pub enlistments_long : length enlistments ≡ ENLISTMENTS
  pub clones_long : length clones ≡ CLONES
  pub scopes_long : length scopes ≡ SCOPES
  pub owners_long : length owners ≡ ENLISTMENTS
  pub transaction : (n : ℕ) → n < TRANSACTIONS → slice_index_or transactions n false ≡ is_made past (OfTransaction (n + 1))
  pub enlistment : (n : ℕ) → n < ENLISTMENTS → slice_index_or enlistments n false ≡ is_made past (OfEnlistment (n + 1))
  pub clone : (n : ℕ) → n < CLONES → slice_index_or clones n false ≡ is_made past (OfClone (n + 1))
  pub scope : (n : ℕ) → n < SCOPES → slice_index_or scopes n false ≡ is_made past (OfScope (n + 1))
  pub lasting : (n : ℕ) → n < ENLISTMENTS → is_some (slice_index_or owners n None) ≡ is_made_lasting past (n + 1)
  pub owner : (t n : ℕ) → n < ENLISTMENTS → is_owner t (slice_index_or owners n None) ≡ is_made_lasting_of past t (n + 1)
  pub par_stands : par ≡ has (λ l. is_par l.body) past

-- the bytes begin with this line, which may follow these ones
abbrev pub Continues : List Line → List ℕ → Line → List ℕ → Type 0
Continues s bytes l after = (bytes ≡ line_text l ++ after) × IsScript (s ++ l ∷ []) × (name_fault (past_of s) l ≡ None)
