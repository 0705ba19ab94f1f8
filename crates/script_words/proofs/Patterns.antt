-- What may stand at a place.
use Rattle.std.proofs.Common.{◌≡◌, ℕ, ◌==◌, ◌||◌, ◌^◌, ◌<◌, Bool, true, false, List, [], ◌∷◌, refl, arith, Option, Some, None, decimal}
use Rattle.dtx_values.specs.declared.number.TheConstants.RmNo.{MAX as MANAGERS}
use Rattle.dtx_values.specs.declared.number.TheConstants.ScopeNo.{MAX as SCOPES}
use Rattle.dtx_values.specs.declared.number.TheConstants.CloneNo.{MAX as CLONES}
use Rattle.dtx_values.specs.declared.number.TheConstants.EnlNo.{MAX as ENLISTMENTS}
use Rattle.dtx_values.specs.declared.number.TheConstants.TxNo.{MAX as TRANSACTIONS}
use Rattle.dtx_values.specs.declared.number.TheConstants.ActorNo.{MAX as ACTORS}
use Rattle.dtx_values.specs.declared.message.Conn.{Conn}
use Rattle.dtx_values.specs.declared.message.Conn.TheVariants.{Begin as OnBegin, Voter as OnVoter, Enl as OnEnl, Again}
use Rattle.dtx_values.specs.declared.number.ActorNo.{ActorNo}
use Rattle.dtx_values.specs.declared.number.TxNo.{TxNo}
use Rattle.dtx_values.specs.declared.number.EnlNo.{EnlNo}
use Rattle.dtx_values.specs.declared.number.CloneNo.{CloneNo}
use Rattle.dtx_values.specs.declared.number.ScopeNo.{ScopeNo}
use Rattle.dtx_values.specs.declared.number.RmNo.{RmNo}
use Rattle.dtx_values.specs.declared.script.EnlistOption.{EnlistOption}
use Rattle.dtx_values.specs.declared.script.EnlistOption.TheVariants.{Plain, DuringPrepare}
use Rattle.dtx_values.specs.declared.words.CloneKind.{CloneKind}
use Rattle.dtx_values.specs.declared.words.CloneKind.TheVariants.{Block, Rollback as RollbackKind}
use Rattle.dtx_values.specs.declared.words.Image.{Image}
use Rattle.dtx_values.specs.declared.words.Image.TheVariants.{Lose, Keep, Torn}
use Rattle.dtx_values.specs.declared.words.Iso.TheVariants.{Serializable, RepeatableRead, ReadCommitted, ReadUncommitted, Snapshot, Chaos, Unspecified}
use Rattle.dtx_values.specs.declared.words.IsoWord.{IsoWord}
use Rattle.dtx_values.specs.declared.words.Outcome.{Outcome}
use Rattle.dtx_values.specs.declared.words.Outcome.TheVariants.{Committed, Aborted, InDoubt}
use Rattle.dtx_values.specs.declared.words.Timeout.{Timeout}
use Rattle.dtx_values.specs.declared.words.Timeout.TheVariants.{Default, Milliseconds}
use Rattle.dtx_values.specs.declared.words.Vote.{Vote}
use Rattle.dtx_values.specs.declared.words.Vote.TheVariants.{Yes, No, Done}
use Rattle.dtx_values.specs.declared.words.IsoWord.TheVariants.{Default as DefaultIso, Level}
use Rattle.dtx_model.specs.Words.{has}
use Rattle.dtx_model.proofs.Bools.{or_false, or_right}
use Rattle.dtx_model.specs.Grammar.{is_from, is_timeout, connection_word, timeout_word, option_word, vote_word, owner_word, promote_word, kind_word, image_word, asked_iso_word, actor_name, transaction_name, enlistment_name, clone_name, scope_name, manager_name}
use Rattle.dtx_model.specs.Faults.{actor_pattern, transaction_pattern, enlistment_pattern, clone_pattern, scope_pattern, manager_pattern, Pattern, same_bytes, writes, one_of, named, number, is_name, allows, connection_pattern, timeout_pattern, option_pattern, vote_pattern, owner_pattern, promote_pattern, kind_pattern, image_pattern, iso_pattern}
use Rattle.script_words.specs.Places.{IsOther}
use Rattle.line_tail.proofs.SameBytes.{same_bytes-other}
use Rattle.script_words.proofs.Numbers.{writes-decimal, to_high}
use Rattle.std.proofs.lemmas.Bool.Decides.{nat_tests}

-- no name may stand where no letter may
no_name : (s : Pattern) (w : List ℕ) → s.letters ≡ [] → is_name s w ≡ false
no_name s [] e = refl
no_name s (b ∷ bs) e = rw e refl

-- at a place for a number stands what writes one
pub allows-number : (low high : ℕ) (w : List ℕ) (b : Bool) → writes low high w ≡ b → allows (number low high) w ≡ b
allows-number low high w b e = rw (no_name (number low high) w refl) e

-- a word that is none of these is none of them
none_of : (w : List ℕ) (ks : List (List ℕ)) → IsOther w ks → has (same_bytes w) ks ≡ false
none_of w [] h = refl
none_of w (k ∷ ks) h = or_false (same_bytes w k) _ (same_bytes-other w k h.0) (none_of w ks h.1)

-- a word that is none of those that may stand at a place may not
pub allows-none : (w : List ℕ) (ks : List (List ℕ)) → IsOther w ks → allows (one_of ks) w ≡ false
allows-none w ks h = rw (none_of w ks h, no_name (one_of ks) w refl) refl

-- a number of the range may stand at its place
pub number_allowed : (low high n : ℕ) → high < 2 ^ 32 → is_from low high n ≡ true → allows (number low high) (decimal n) ≡ true
number_allowed low high n h k =
    let below = to_high low high n k in
    allows-number low high (decimal n) true (writes-decimal low high n (omega arith) k)

-- a name of a number in its range may stand at its place
pub name_allowed : (letter most n : ℕ) → most < 2 ^ 32 → is_from 1 most n ≡ true → allows (named (letter ∷ []) most) (letter ∷ decimal n) ≡ true
name_allowed letter most n h k =
    let below = to_high 1 most n k in
    let same : (letter == letter) ≡ true = grind (arith, nat_tests) in
    rw (same, writes-decimal 1 most n (omega arith) k) refl

-- so an actor's name may
pub actor_allowed : (a : ActorNo) → allows actor_pattern (actor_name a.value) ≡ true
actor_allowed a = name_allowed 97 ACTORS a.value (omega arith) (grind (arith, nat_tests))

-- a transaction's
pub transaction_allowed : (t : TxNo) → allows transaction_pattern (transaction_name t.value) ≡ true
transaction_allowed t = name_allowed 116 TRANSACTIONS t.value (omega arith) (grind (arith, nat_tests))

-- an enlistment's
pub enlistment_allowed : (e : EnlNo) → allows enlistment_pattern (enlistment_name e.value) ≡ true
enlistment_allowed e = name_allowed 101 ENLISTMENTS e.value (omega arith) (grind (arith, nat_tests))

-- a clone's
pub clone_allowed : (c : CloneNo) → allows clone_pattern (clone_name c.value) ≡ true
clone_allowed c = name_allowed 99 CLONES c.value (omega arith) (grind (arith, nat_tests))

-- a scope's
pub scope_allowed : (s : ScopeNo) → allows scope_pattern (scope_name s.value) ≡ true
scope_allowed s = name_allowed 115 SCOPES s.value (omega arith) (grind (arith, nat_tests))

-- and a manager's
pub manager_allowed : (r : RmNo) → allows manager_pattern (manager_name r.value) ≡ true
manager_allowed r = name_allowed 114 MANAGERS r.value (omega arith) (grind (arith, nat_tests))

-- a timeout may stand at its place
pub timeout_allowed : (d : Timeout) → is_timeout d ≡ true → allows timeout_pattern (timeout_word d) ≡ true
timeout_allowed Default k = refl
timeout_allowed (Milliseconds n) k =
    let below = to_high 0 4294967295 n k in
    or_right (has (same_bytes (decimal n)) timeout_pattern.words || is_name timeout_pattern (decimal n)) _ (writes-decimal 0 4294967295 n (omega arith) k)

-- so may a connection
pub connection_allowed : (c : Conn) → allows connection_pattern (connection_word c) ≡ true
connection_allowed OnBegin = refl
connection_allowed OnVoter = refl
connection_allowed (OnEnl e) = let k : is_from 1 ENLISTMENTS e.value ≡ true = grind (arith, nat_tests) in rw (writes-decimal 1 ENLISTMENTS e.value (omega arith) k) refl
connection_allowed (Again e) = let k : is_from 1 ENLISTMENTS e.value ≡ true = grind (arith, nat_tests) in rw (writes-decimal 1 ENLISTMENTS e.value (omega arith) k) refl

-- so may the word of an option
pub option_allowed : (o : EnlistOption) → allows option_pattern (option_word o) ≡ true
option_allowed Plain = refl
option_allowed DuringPrepare = refl

-- that of a vote's plan
pub vote_allowed : (v : Option Vote) → allows vote_pattern (vote_word v) ≡ true
vote_allowed (Some Yes) = refl
vote_allowed (Some No) = refl
vote_allowed (Some Done) = refl
vote_allowed None = refl

-- that of the plan of an owner's answer
pub owner_allowed : (o : Option Outcome) → allows owner_pattern (owner_word o) ≡ true
owner_allowed (Some Committed) = refl
owner_allowed (Some Aborted) = refl
owner_allowed (Some InDoubt) = refl
owner_allowed None = refl

-- that of a promotion's plan
pub promotion_allowed : (p : Option Bool) → allows promote_pattern (promote_word p) ≡ true
promotion_allowed (Some true) = refl
promotion_allowed (Some false) = refl
promotion_allowed None = refl

-- that of a clone's kind
pub kind_allowed : (k : CloneKind) → allows kind_pattern (kind_word k) ≡ true
kind_allowed Block = refl
kind_allowed RollbackKind = refl

-- that of an image
pub image_allowed : (i : Image) → allows image_pattern (image_word i) ≡ true
image_allowed Lose = refl
image_allowed Keep = refl
image_allowed Torn = refl

-- and that of an isolation
pub isolation_allowed : (i : IsoWord) → allows iso_pattern (asked_iso_word i) ≡ true
isolation_allowed DefaultIso = refl
isolation_allowed (Level Serializable) = refl
isolation_allowed (Level RepeatableRead) = refl
isolation_allowed (Level ReadCommitted) = refl
isolation_allowed (Level ReadUncommitted) = refl
isolation_allowed (Level Snapshot) = refl
isolation_allowed (Level Chaos) = refl
isolation_allowed (Level Unspecified) = refl
