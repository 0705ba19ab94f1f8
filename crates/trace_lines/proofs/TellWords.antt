-- The words of a trace's lines, read back.
use Rattle.std.proofs.Common.{◌≡◌, ℕ, ◌^◌, ◌<◌, ◌≤◌, min, max, Bool, true, false, List, [], ◌∷◌, codes, decimal, get_or, Option, Some, None, unwrap_or, if◌then◌else◌, refl, ap, sym, ◌∙◌, arith}
use Rattle.std.specs.Int.{w128, from_be_bytes}
use Rattle.std.specs.Str.Parse.{digits_value}
use Rattle.std.proofs.lemmas.Fmt.{digits_value-decimal}
use Rattle.uuid.specs.Text.{parsed}
use Rattle.uuid.proofs.OrderLemmas.{from_be_bytes-to_be_bytes_16}
use Rattle.dtx_values.specs.declared.entry.Ask.{Ask}
use Rattle.dtx_values.specs.declared.entry.Ask.TheVariants.{Prepare, Promote, Single}
use Rattle.dtx_values.specs.declared.entry.Party.{Party}
use Rattle.dtx_values.specs.declared.entry.Party.TheVariants.{Client, Enl}
use Rattle.dtx_values.specs.declared.entry.Request.{Request}
use Rattle.dtx_values.specs.declared.entry.Request.TheVariants.{Commit, Abort}
use Rattle.dtx_values.specs.declared.message.Conn.{Conn}
use Rattle.dtx_values.specs.declared.message.Conn.TheVariants.{Begin, Voter, Enl as OnEnl, Again}
use Rattle.dtx_values.specs.declared.message.Dir.{Dir}
use Rattle.dtx_values.specs.declared.message.Dir.TheVariants.{Up, Down}
use Rattle.dtx_values.specs.declared.number.ActorNo.{ActorNo}
use Rattle.dtx_values.specs.declared.number.CloneNo.{CloneNo}
use Rattle.dtx_values.specs.declared.number.EnlNo.{EnlNo}
use Rattle.dtx_values.specs.declared.number.RmNo.{RmNo}
use Rattle.dtx_values.specs.declared.number.ScopeNo.{ScopeNo}
use Rattle.dtx_values.specs.declared.number.TxNo.{TxNo}
use Rattle.dtx_values.specs.declared.trace.Place.{Place}
use Rattle.dtx_values.specs.declared.trace.Place.TheVariants.{Context, Transaction, Log}
use Rattle.dtx_values.specs.declared.words.Cause.{Cause}
use Rattle.dtx_values.specs.declared.words.Cause.TheVariants.{Two, Second, Beside, Marshal}
use Rattle.dtx_values.specs.declared.words.Class.{Class}
use Rattle.dtx_values.specs.declared.words.Class.TheVariants.{Zero, One, DurableTwo, DurableSingle, Promotable}
use Rattle.dtx_values.specs.declared.words.CloneKind.{CloneKind}
use Rattle.dtx_values.specs.declared.words.CloneKind.TheVariants.{Block, Rollback}
use Rattle.dtx_values.specs.declared.words.Image.{Image}
use Rattle.dtx_values.specs.declared.words.Image.TheVariants.{Lose, Keep, Torn}
use Rattle.dtx_values.specs.declared.words.Iso.{Iso}
use Rattle.dtx_values.specs.declared.words.Iso.TheVariants.{Serializable, RepeatableRead, ReadCommitted, ReadUncommitted, Snapshot, Chaos, Unspecified}
use Rattle.dtx_values.specs.declared.words.Outcome.{Outcome}
use Rattle.dtx_values.specs.declared.words.Outcome.TheVariants.{Committed, Aborted, InDoubt}
use Rattle.dtx_values.specs.declared.words.Vote.{Vote}
use Rattle.dtx_values.specs.declared.words.Vote.TheVariants.{Yes, No, Done}
use Rattle.dtx_model.specs.Faults.{same_bytes}
use Rattle.dtx_model.specs.Grammar.{actor_name, clone_name, connection_word, enlistment_name, image_word, iso_word, kind_word, manager_name, scope_name, transaction_name}
use Rattle.dtx_model.specs.TraceText.{ambient_text, ask_text, cast_vote_text, cause_text, class_text, direction_text, found_text, id_text, outcome_text, party_text, place_text, promote_text, request_text}
use Rattle.dtx_model.proofs.Digits.{own}
use Rattle.dtx_values.proofs.SameNumbers.{same_actor, same_clone, same_enlistment, same_manager, same_scope, same_transaction}
use Rattle.line_words.proofs.Identifiers.{id_parses}

-- what stands beside this word in a table, and x where it isn't there
abbrev pub chosen : {A : Type 0} → List ℕ → List (List ℕ × A) → A → A
chosen w [] x = x
chosen w (p ∷ ps) x = if same_bytes w p.0 then p.1 else chosen w ps x

-- the number that a word writes
abbrev pub value : List ℕ → ℕ
value w = digits_value 10 w

pub value_is : (n : ℕ) → n < 2 ^ 64 → value (decimal n) ≡ n
value_is n h = digits_value-decimal own n h

-- the number behind a name's letter
abbrev named : List ℕ → ℕ
named [] = 0
named (letter ∷ w) = value w

-- the number from 1 to high that is nearest
abbrev pub nearest : ℕ → ℕ → ℕ
nearest high n = max 1 (min n high)

pub nearest_range : (high n : ℕ) → 1 ≤ high → (1 ≤ nearest high n) × (nearest high n ≤ high)
nearest_range high n h = (omega arith, omega arith)

-- a number in its range is its own nearest
pub nearest_own : (high n : ℕ) → 1 ≤ n → n ≤ high → nearest high n ≡ n
nearest_own high n a b = omega arith

-- also as its text is read
nearest_same : (high n : ℕ) → n < 2 ^ 64 → 1 ≤ n → n ≤ high → nearest high (value (decimal n)) ≡ n
nearest_same high n small a b = omega (arith, value_is n small)

-- names: each is read back
abbrev pub actor_of : List ℕ → ActorNo
actor_of w = record { value = nearest 16 (named w); in_range = nearest_range 16 (named w) (omega arith) }

pub actor_is : (x : ActorNo) → actor_of (actor_name x.value) ≡ x
actor_is x = same_actor (actor_of (actor_name x.value)) x (nearest_same 16 x.value (omega (arith, x.in_range.1)) x.in_range.0 x.in_range.1)

abbrev pub transaction_of : List ℕ → TxNo
transaction_of w = record { value = nearest 256 (named w); in_range = nearest_range 256 (named w) (omega arith) }

pub transaction_is : (x : TxNo) → transaction_of (transaction_name x.value) ≡ x
transaction_is x = same_transaction (transaction_of (transaction_name x.value)) x (nearest_same 256 x.value (omega (arith, x.in_range.1)) x.in_range.0 x.in_range.1)

abbrev pub enlistment_of : List ℕ → EnlNo
enlistment_of w = record { value = nearest 9999 (named w); in_range = nearest_range 9999 (named w) (omega arith) }

pub enlistment_is : (x : EnlNo) → enlistment_of (enlistment_name x.value) ≡ x
enlistment_is x = same_enlistment (enlistment_of (enlistment_name x.value)) x (nearest_same 9999 x.value (omega (arith, x.in_range.1)) x.in_range.0 x.in_range.1)

abbrev pub clone_of : List ℕ → CloneNo
clone_of w = record { value = nearest 9999 (named w); in_range = nearest_range 9999 (named w) (omega arith) }

pub clone_is : (x : CloneNo) → clone_of (clone_name x.value) ≡ x
clone_is x = same_clone (clone_of (clone_name x.value)) x (nearest_same 9999 x.value (omega (arith, x.in_range.1)) x.in_range.0 x.in_range.1)

abbrev pub scope_of : List ℕ → ScopeNo
scope_of w = record { value = nearest 9999 (named w); in_range = nearest_range 9999 (named w) (omega arith) }

pub scope_is : (x : ScopeNo) → scope_of (scope_name x.value) ≡ x
scope_is x = same_scope (scope_of (scope_name x.value)) x (nearest_same 9999 x.value (omega (arith, x.in_range.1)) x.in_range.0 x.in_range.1)

abbrev pub manager_of : List ℕ → RmNo
manager_of w = record { value = nearest 16 (named w); in_range = nearest_range 16 (named w) (omega arith) }

pub manager_is : (x : RmNo) → manager_of (manager_name x.value) ≡ x
manager_is x = same_manager (manager_of (manager_name x.value)) x (nearest_same 16 x.value (omega (arith, x.in_range.1)) x.in_range.0 x.in_range.1)

-- an identifier
abbrev pub id_of : List ℕ → ℕ
id_of w = from_be_bytes w128 (unwrap_or (parsed w) [])

pub id_is : (u : ℕ) → u < 2 ^ 128 → id_of (id_text u) ≡ u
id_is u h = ap (λ o. from_be_bytes w128 (unwrap_or o [])) (sym (id_parses u (id_text u) refl)) ∙ from_be_bytes-to_be_bytes_16 u h

-- words of which each has a few
abbrev pub outcome_of : List ℕ → Outcome
outcome_of w = chosen w ((codes "committed", Committed) ∷ (codes "aborted", Aborted) ∷ []) InDoubt

pub outcome_is : (x : Outcome) → outcome_of (outcome_text x) ≡ x
outcome_is Committed = refl
outcome_is Aborted = refl
outcome_is InDoubt = refl

abbrev pub class_of : List ℕ → Class
class_of w = chosen w ((codes "zero", Zero) ∷ (codes "one", One) ∷ (codes "two", DurableTwo) ∷ (codes "single", DurableSingle) ∷ []) Promotable

pub class_is : (x : Class) → class_of (class_text x) ≡ x
class_is Zero = refl
class_is One = refl
class_is DurableTwo = refl
class_is DurableSingle = refl
class_is Promotable = refl

abbrev pub ask_of : List ℕ → Ask
ask_of w = chosen w ((codes "prepare", Prepare) ∷ (codes "promote", Promote) ∷ []) Single

pub ask_is : (x : Ask) → ask_of (ask_text x) ≡ x
ask_is Prepare = refl
ask_is Promote = refl
ask_is Single = refl

abbrev pub vote_of : List ℕ → Vote
vote_of w = chosen w ((codes "yes", Yes) ∷ (codes "no", No) ∷ []) Done

pub vote_is : (x : Vote) → vote_of (cast_vote_text x) ≡ x
vote_is Yes = refl
vote_is No = refl
vote_is Done = refl

abbrev pub promote_of : List ℕ → Bool
promote_of w = chosen w ((codes "ok", true) ∷ []) false

pub promote_is : (x : Bool) → promote_of (promote_text x) ≡ x
promote_is true = refl
promote_is false = refl

abbrev pub request_of : List ℕ → Request
request_of w = chosen w ((codes "commit", Commit) ∷ []) Abort

pub request_is : (x : Request) → request_of (request_text x) ≡ x
request_is Commit = refl
request_is Abort = refl

abbrev pub cause_of : List ℕ → Cause
cause_of w = chosen w ((codes "two", Two) ∷ (codes "second", Second) ∷ (codes "beside", Beside) ∷ []) Marshal

pub cause_is : (x : Cause) → cause_of (cause_text x) ≡ x
cause_is Two = refl
cause_is Second = refl
cause_is Beside = refl
cause_is Marshal = refl

abbrev pub direction_of : List ℕ → Dir
direction_of w = chosen w ((codes "up", Up) ∷ []) Down

pub direction_is : (x : Dir) → direction_of (direction_text x) ≡ x
direction_is Up = refl
direction_is Down = refl

abbrev pub found_of : List ℕ → Bool
found_of w = chosen w ((codes "found", true) ∷ []) false

pub found_is : (x : Bool) → found_of (found_text x) ≡ x
found_is true = refl
found_is false = refl

abbrev pub kind_of : List ℕ → CloneKind
kind_of w = chosen w ((codes "block", Block) ∷ []) Rollback

pub kind_is : (x : CloneKind) → kind_of (kind_word x) ≡ x
kind_is Block = refl
kind_is Rollback = refl

abbrev pub image_of : List ℕ → Image
image_of w = chosen w ((codes "lose", Lose) ∷ (codes "keep", Keep) ∷ []) Torn

pub image_is : (x : Image) → image_of (image_word x) ≡ x
image_is Lose = refl
image_is Keep = refl
image_is Torn = refl

abbrev pub iso_of : List ℕ → Iso
iso_of w = chosen w ((codes "serializable", Serializable) ∷ (codes "repeatableread", RepeatableRead) ∷ (codes "readcommitted", ReadCommitted) ∷ (codes "readuncommitted", ReadUncommitted) ∷ (codes "snapshot", Snapshot) ∷ (codes "chaos", Chaos) ∷ []) Unspecified

pub iso_is : (x : Iso) → iso_of (iso_word x) ≡ x
iso_is Serializable = refl
iso_is RepeatableRead = refl
iso_is ReadCommitted = refl
iso_is ReadUncommitted = refl
iso_is Snapshot = refl
iso_is Chaos = refl
iso_is Unspecified = refl

-- words that may be names
abbrev pub ambient_of : List ℕ → Option TxNo
ambient_of w = chosen w ((codes "none", None) ∷ []) (Some (transaction_of w))

pub ambient_is : (x : Option TxNo) → ambient_of (ambient_text x) ≡ x
ambient_is None = refl
ambient_is (Some t) = ap Some (transaction_is t)

abbrev pub party_of : List ℕ → Party
party_of w = chosen w ((codes "client", Client) ∷ []) (Enl (enlistment_of w))

pub party_is : (x : Party) → party_of (party_text x) ≡ x
party_is Client = refl
party_is (Enl e) = ap Enl (enlistment_is e)

-- by the first byte: that of `b`, `v`, `e`, or else `x`
abbrev pub connection_of : List ℕ → Conn
connection_of w = chosen (get_or w 0 0 ∷ []) ((codes "b", Begin) ∷ (codes "v", Voter) ∷ (codes "e", OnEnl (enlistment_of w)) ∷ []) (Again (enlistment_of w))

pub connection_is : (x : Conn) → connection_of (connection_word x) ≡ x
connection_is Begin = refl
connection_is Voter = refl
connection_is (OnEnl e) = ap OnEnl (enlistment_is e)
connection_is (Again e) = ap Again (enlistment_is e)

-- by the first byte too
abbrev pub place_of : List ℕ → Place
place_of w = chosen (get_or w 0 0 ∷ []) ((codes "a", Context (actor_of w)) ∷ (codes "t", Transaction (transaction_of w)) ∷ []) Log

pub place_is : (x : Place) → place_of (place_text x) ≡ x
place_is (Context a) = ap Context (actor_is a)
place_is (Transaction t) = ap Transaction (transaction_is t)
place_is Log = refl
