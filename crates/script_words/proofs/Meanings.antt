-- What may stand at a place of a form: each word that the place allows is the text of a value.
use Rattle.std.proofs.Common.{◌≡◌, ◌≢◌, ℕ, ◌==◌, ◌&&◌, ◌||◌, Bool, true, false, List, [], ◌∷◌, refl, ap, ap₂, sym, arith, codes, decimal, map, Option, Some, None, is_some, ◌⊎◌, inl, inr}
use Rattle.std.proofs.lemmas.Bool.{false_from_ne_true, false≢true}
use Rattle.std.proofs.lemmas.Bool.Decides.{nat_tests}
use Rattle.dtx_values.specs.declared.number.TheConstants.ActorNo.{MAX as ACTORS}
use Rattle.dtx_values.specs.declared.number.TheConstants.TxNo.{MAX as TRANSACTIONS}
use Rattle.dtx_values.specs.declared.number.TheConstants.EnlNo.{MAX as ENLISTMENTS}
use Rattle.dtx_values.specs.declared.number.TheConstants.CloneNo.{MAX as CLONES}
use Rattle.dtx_values.specs.declared.number.TheConstants.ScopeNo.{MAX as SCOPES}
use Rattle.dtx_values.specs.declared.number.TheConstants.RmNo.{MAX as MANAGERS}
use Rattle.dtx_values.specs.declared.message.Conn.{Conn}
use Rattle.dtx_values.specs.declared.message.Conn.TheVariants.{Begin as OnBegin, Voter as OnVoter, Enl as OnEnl, Again}
use Rattle.dtx_values.specs.declared.number.ActorNo.{ActorNo}
use Rattle.dtx_values.specs.declared.number.TxNo.{TxNo}
use Rattle.dtx_values.specs.declared.number.EnlNo.{EnlNo}
use Rattle.dtx_values.specs.declared.number.CloneNo.{CloneNo}
use Rattle.dtx_values.specs.declared.number.ScopeNo.{ScopeNo}
use Rattle.dtx_values.specs.declared.number.RmNo.{RmNo}
use Rattle.dtx_values.specs.declared.script.EnlistOption.{EnlistOption}
use Rattle.dtx_values.specs.declared.script.EnlistOption.TheVariants.{Plain, DuringPrepare}
use Rattle.dtx_values.specs.declared.words.CloneKind.{CloneKind}
use Rattle.dtx_values.specs.declared.words.CloneKind.TheVariants.{Block, Rollback as RollbackKind}
use Rattle.dtx_values.specs.declared.words.Image.{Image}
use Rattle.dtx_values.specs.declared.words.Image.TheVariants.{Lose, Keep, Torn}
use Rattle.dtx_values.specs.declared.words.Iso.TheVariants.{Serializable, RepeatableRead, ReadCommitted, ReadUncommitted, Snapshot, Chaos, Unspecified}
use Rattle.dtx_values.specs.declared.words.IsoWord.{IsoWord}
use Rattle.dtx_values.specs.declared.words.IsoWord.TheVariants.{Default as DefaultIso, Level}
use Rattle.dtx_values.specs.declared.words.Outcome.{Outcome}
use Rattle.dtx_values.specs.declared.words.Outcome.TheVariants.{Committed, Aborted, InDoubt}
use Rattle.dtx_values.specs.declared.words.Timeout.{Timeout}
use Rattle.dtx_values.specs.declared.words.Timeout.TheVariants.{Default, Milliseconds}
use Rattle.dtx_values.specs.declared.words.Vote.{Vote}
use Rattle.dtx_values.specs.declared.words.Vote.TheVariants.{Yes, No, Done}
use Rattle.dtx_model.specs.Words.{has}
use Rattle.dtx_model.specs.Grammar.{actor_name, transaction_name, enlistment_name, clone_name, scope_name, manager_name, is_timeout, connection_word, image_word, asked_iso_word, timeout_word, option_word, vote_word, owner_word, promote_word, kind_word}
use Rattle.dtx_model.specs.Faults.{Pattern, one_of, named, number, allows, same_bytes, writes, actor_pattern, transaction_pattern, enlistment_pattern, clone_pattern, scope_pattern, manager_pattern, connection_pattern, timeout_pattern, iso_pattern, option_pattern, vote_pattern, owner_pattern, promote_pattern, kind_pattern, image_pattern}
use Rattle.dtx_model.proofs.Bools.{and_left, and_right, or_case}
use Rattle.line_tail.proofs.SameBytes.{same_bytes-equal}
use Rattle.script_words.proofs.Numbers.{Within, from_low, to_high, writes_one}

-- whatever word the place allows is the text of a value
pub record Means (A : Type 0) (spell : A → List ℕ) (s : Pattern) : Type 0 where
  pub value : (w : List ℕ) → allows s w ≡ true → (x : A) × (spell x ≡ w)

-- so a word that is the text of none isn't allowed
pub not_allowed : {A : Type 0} {spell : A → List ℕ} {s : Pattern} (m : Means A spell s) (w : List ℕ) → ((x : A) → w ≢ spell x) → allows s w ≡ false
not_allowed {A} {spell} {s} m w f = false_from_ne_true (allows s w) (λ h. let x = m.value w h in f x.0 (sym x.1))

-- nothing was read, so no value
pub no_value : {A : Type 0} {x : A} → None ≡ Some x → ⊥
no_value e = false≢true (ap is_some e)

-- either holds, and the second doesn't
first_holds : (a : Bool) → (a || false) ≡ true → a ≡ true
first_holds true h = refl
first_holds false h = h

-- numbers that are the same
one_number : (b c : ℕ) → (b == c) ≡ true → c ≡ b
one_number b c h = grind (arith, nat_tests)

-- a name of one letter has a number in its range
name_of : (letter most : ℕ) (w : List ℕ) → allows (named (letter ∷ []) most) w ≡ true → (n : Within 1 most) × (letter ∷ decimal n.0 ≡ w)
name_of letter most [] h = absurd (cc h)
name_of letter most (b ∷ bs) h =
    let right = (b == letter) || false in
    let k : (right && writes 1 most bs) ≡ true = first_holds (right && writes 1 most bs) h in
    let n = writes_one 1 most bs (and_right _ _ k) in
    (n.0, ap₂ (λ x xs. x ∷ xs) (one_number b letter (first_holds (b == letter) (and_left _ _ k))) n.1)

-- an actor's name
pub actor : Means ActorNo (λ x. actor_name x.value) actor_pattern
actor = record {
  value = λ w h. let n = name_of 97 ACTORS w h in (record { value = n.0.0; in_range = (from_low 1 ACTORS n.0.0 n.0.1, to_high 1 ACTORS n.0.0 n.0.1) }, n.1);
}

-- a transaction's name
pub transaction : Means TxNo (λ x. transaction_name x.value) transaction_pattern
transaction = record {
  value = λ w h. let n = name_of 116 TRANSACTIONS w h in (record { value = n.0.0; in_range = (from_low 1 TRANSACTIONS n.0.0 n.0.1, to_high 1 TRANSACTIONS n.0.0 n.0.1) }, n.1);
}

-- an enlistment's
pub enlistment : Means EnlNo (λ x. enlistment_name x.value) enlistment_pattern
enlistment = record {
  value = λ w h. let n = name_of 101 ENLISTMENTS w h in (record { value = n.0.0; in_range = (from_low 1 ENLISTMENTS n.0.0 n.0.1, to_high 1 ENLISTMENTS n.0.0 n.0.1) }, n.1);
}

-- a clone's
pub clone : Means CloneNo (λ x. clone_name x.value) clone_pattern
clone = record {
  value = λ w h. let n = name_of 99 CLONES w h in (record { value = n.0.0; in_range = (from_low 1 CLONES n.0.0 n.0.1, to_high 1 CLONES n.0.0 n.0.1) }, n.1);
}

-- a scope's
pub scope : Means ScopeNo (λ x. scope_name x.value) scope_pattern
scope = record {
  value = λ w h. let n = name_of 115 SCOPES w h in (record { value = n.0.0; in_range = (from_low 1 SCOPES n.0.0 n.0.1, to_high 1 SCOPES n.0.0 n.0.1) }, n.1);
}

-- a manager's
pub manager : Means RmNo (λ x. manager_name x.value) manager_pattern
manager = record {
  value = λ w h. let n = name_of 114 MANAGERS w h in (record { value = n.0.0; in_range = (from_low 1 MANAGERS n.0.0 n.0.1, to_high 1 MANAGERS n.0.0 n.0.1) }, n.1);
}

-- a number in its range
number_of : (low high : ℕ) (w : List ℕ) → allows (number low high) w ≡ true → (n : Within low high) × (decimal n.0 ≡ w)
number_of low high [] h = writes_one low high [] h
number_of low high (b ∷ bs) h = writes_one low high (b ∷ bs) h

-- so a number stands for itself
pub counted : (low high : ℕ) → Means (Within low high) (λ n. decimal n.0) (number low high)
counted low high = record { value = number_of low high }

-- a word of a list is one of the list
in_list : (vs : List (List ℕ)) (w : List ℕ) → allows (one_of vs) w ≡ true → has (same_bytes w) vs ≡ true
in_list vs [] h = first_holds (has (same_bytes []) vs) (first_holds (has (same_bytes []) vs || false) h)
in_list vs (b ∷ bs) h = first_holds (has (same_bytes (b ∷ bs)) vs) (first_holds (has (same_bytes (b ∷ bs)) vs || false) h)

-- a text that is among those of some values is that of one
found : {A : Type 0} (spell : A → List ℕ) (xs : List A) (w : List ℕ) → has (same_bytes w) (map spell xs) ≡ true → (x : A) × (spell x ≡ w)
found spell [] w h = absurd (cc h)
found spell (x ∷ xs) w h = or_case (same_bytes w (spell x)) (has (same_bytes w) (map spell xs)) (λ e. (x, sym (same_bytes-equal w (spell x) e))) (found spell xs w) h

-- so words of lists stand for values
pub listed : {A : Type 0} (spell : A → List ℕ) (xs : List A) → Means A spell (one_of (map spell xs))
listed spell xs = record { value = λ w h. found spell xs w (in_list (map spell xs) w h) }

-- an isolation level
pub iso : Means IsoWord asked_iso_word iso_pattern
iso =
    listed asked_iso_word
    (DefaultIso ∷ Level Serializable ∷ Level RepeatableRead ∷ Level ReadCommitted ∷ Level ReadUncommitted ∷ Level Snapshot ∷ Level Chaos ∷ Level Unspecified ∷ [])

-- an option
pub option : Means EnlistOption option_word option_pattern
option = listed option_word (Plain ∷ DuringPrepare ∷ [])

-- a vote's plan
pub vote : Means (Option Vote) vote_word vote_pattern
vote = listed vote_word (Some Yes ∷ Some No ∷ Some Done ∷ None ∷ [])

-- the plan of an owner's answer
pub owner : Means (Option Outcome) owner_word owner_pattern
owner = listed owner_word (Some Committed ∷ Some Aborted ∷ Some InDoubt ∷ None ∷ [])

-- a promotion's plan
pub promote : Means (Option Bool) promote_word promote_pattern
promote = listed promote_word (Some true ∷ Some false ∷ None ∷ [])

-- a clone's kind
pub kind : Means CloneKind kind_word kind_pattern
kind = listed kind_word (Block ∷ RollbackKind ∷ [])

-- an image
pub image : Means Image image_word image_pattern
image = listed image_word (Lose ∷ Keep ∷ Torn ∷ [])

-- a timeout is `default`, or a number in its range
abbrev pub Timed : Type 0
Timed = (d : Timeout) × (is_timeout d ≡ true)

-- either is the text of a timeout
timed : (w : List ℕ) → (((same_bytes w (codes "default") || false) || false) ≡ true) ⊎ (writes 0 4294967295 w ≡ true) → (d : Timed) × (timeout_word d.0 ≡ w)
timed w (inl h) = ((Default, refl), sym (same_bytes-equal w (codes "default") (first_holds (same_bytes w (codes "default")) (first_holds (same_bytes w (codes "default") || false) h))))
timed w (inr h) =
    let n = writes_one 0 4294967295 w h in
    ((Milliseconds n.0.0, n.0.1), n.1)

-- so is what the place allows
timeout_of : (w : List ℕ) → allows timeout_pattern w ≡ true → (d : Timed) × (timeout_word d.0 ≡ w)
timeout_of [] h = timed [] (or_case ((same_bytes [] (codes "default") || false) || false) (writes 0 4294967295 []) inl inr h)
timeout_of (b ∷ bs) h = timed (b ∷ bs) (or_case ((same_bytes (b ∷ bs) (codes "default") || false) || false) (writes 0 4294967295 (b ∷ bs)) inl inr h)

-- a timeout
pub timeout : Means Timed (λ d. timeout_word d.0) timeout_pattern
timeout = record { value = timeout_of }

-- a connection is `b`, `v`, or a letter and an enlistment's number
enlisted : (bs : List ℕ) → writes 1 ENLISTMENTS bs ≡ true → (e : EnlNo) × (decimal e.value ≡ bs)
enlisted bs h =
    let n = writes_one 1 ENLISTMENTS bs h in
    (record { value = n.0.0; in_range = (from_low 1 ENLISTMENTS n.0.0 n.0.1, to_high 1 ENLISTMENTS n.0.0 n.0.1) }, n.1)

-- a letter and a number are the text of a connection
connected : (b : ℕ) (bs : List ℕ) → ((b == 101) || ((b == 120) || false)) ≡ true → writes 1 ENLISTMENTS bs ≡ true → (c : Conn) × (connection_word c ≡ b ∷ bs)
connected b bs h k =
    let e = enlisted bs k in
    or_case (b == 101) ((b == 120) || false) (λ q. (OnEnl e.0, ap₂ (λ x xs. x ∷ xs) (one_number b 101 q) e.1))
    (λ q. (Again e.0, ap₂ (λ x xs. x ∷ xs) (one_number b 120 (first_holds (b == 120) q)) e.1)) h

-- so is what the place allows
connection_of : (w : List ℕ) → allows connection_pattern w ≡ true → (c : Conn) × (connection_word c ≡ w)
connection_of [] h = absurd (cc h)
connection_of (b ∷ bs) h =
    let fixed = has (same_bytes (b ∷ bs)) connection_pattern.words in
    let letter = (b == 101) || ((b == 120) || false) in
    or_case fixed (letter && writes 1 ENLISTMENTS bs) (found connection_word (OnBegin ∷ OnVoter ∷ []) (b ∷ bs))
    (λ k. connected b bs (and_left _ _ k) (and_right _ _ k)) (first_holds (fixed || (letter && writes 1 ENLISTMENTS bs)) h)

-- a connection
pub connection : Means Conn connection_word connection_pattern
connection = record { value = connection_of }
