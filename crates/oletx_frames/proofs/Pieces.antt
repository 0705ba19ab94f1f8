-- Messages as the pieces of their frames, and back.
use Rattle.std.proofs.Common.{◌≡◌, ℕ, ◌≤◌, Bool, true, List, [], ◌++◌, length, take, drop, get_or, Some, None, refl, ap, sym, ◌∙◌, arith, if◌then◌else◌, ◌==◌}
use Rattle.std.proofs.lemmas.List.{length-take-le, take-append-drop, take_at}
use Rattle.dtx_values.specs.declared.message.Info.{Info}
use Rattle.dtx_values.specs.declared.message.Message.{Message}
use Rattle.dtx_values.specs.declared.message.Message.TheVariants.{BeginBegin, BeginCommit, BeginAbort, BeginBegun, BeginCommitted, BeginAborted, BeginCommitOne, BeginInDoubt, VoterVoter, VoterYes, VoterNo, VoterCreated, VoterRefused, VoterAsk, VoterCommit, VoterAbort, VoterInDoubt, EnlistEnlist, EnlistPrepared, EnlistNo, EnlistReadonly, EnlistAck, EnlistEnlisted, EnlistRefused, EnlistPrepare, EnlistCommit, EnlistAbort, EnlistSingle, EnlistOneCommitted, EnlistOneAborted, EnlistOneInDoubt, ReenlistReenlist, ReenlistAck, ReenlistCommitted, ReenlistAborted}
use Rattle.dtx_model.specs.Frames.{BodyKind, FrameFault, IsFrame, bad_place, body_kind, body_length, frame, frame_fault, frame_of, is_valid}
use Rattle.dtx_model.specs.Frames as kind
use Rattle.dtx_values.specs.RecoveryInfo.{IsInfo, id_bytes, info_bytes, is_from_one, is_id, pair_bytes}
use Rattle.dtx_values.proofs.Infos.{id_again, info_id, info_pair, read_same as read_info_same}
use Rattle.oletx_frames.specs.Bodies.{body_bytes}
use Rattle.oletx_frames.specs.declared.parts.Body.{Body}
use Rattle.oletx_frames.specs.declared.parts.Body.TheVariants.{Empty, Identifier, Information, Reason}
use Rattle.oletx_frames.proofs.Faults.{length_small, whole_frame}
use Rattle.oletx_frames.proofs.Identifiers.{good_id, good_info}

-- the type, the tag and the body of a frame
pub record Pieces : Type 0 where
  pub type : ℕ
  pub tag : ℕ
  pub body : Body

-- the pieces of this type, tag and body
abbrev pieces : ℕ → ℕ → Body → Pieces
pieces t n x = record { type = t; tag = n; body = x }

-- the pieces of a message's frame
abbrev pub pieces_of : Message → Pieces
pieces_of BeginBegin = pieces 1 1 Empty
pieces_of BeginCommit = pieces 1 2 Empty
pieces_of BeginAbort = pieces 1 3 Empty
pieces_of (BeginBegun u) = pieces 1 4 (Identifier u)
pieces_of BeginCommitted = pieces 1 5 Empty
pieces_of BeginAborted = pieces 1 6 Empty
pieces_of BeginCommitOne = pieces 1 7 Empty
pieces_of BeginInDoubt = pieces 1 8 Empty
pieces_of (VoterVoter u) = pieces 2 1 (Identifier u)
pieces_of VoterYes = pieces 2 2 Empty
pieces_of VoterNo = pieces 2 3 Empty
pieces_of VoterCreated = pieces 2 4 Empty
pieces_of (VoterRefused cause) = pieces 2 5 (Reason cause)
pieces_of VoterAsk = pieces 2 6 Empty
pieces_of VoterCommit = pieces 2 7 Empty
pieces_of VoterAbort = pieces 2 8 Empty
pieces_of VoterInDoubt = pieces 2 9 Empty
pieces_of (EnlistEnlist i) = pieces 3 1 (Information i)
pieces_of EnlistPrepared = pieces 3 2 Empty
pieces_of EnlistNo = pieces 3 3 Empty
pieces_of EnlistReadonly = pieces 3 4 Empty
pieces_of EnlistAck = pieces 3 5 Empty
pieces_of EnlistEnlisted = pieces 3 6 Empty
pieces_of (EnlistRefused cause) = pieces 3 7 (Reason cause)
pieces_of EnlistPrepare = pieces 3 8 Empty
pieces_of EnlistCommit = pieces 3 9 Empty
pieces_of EnlistAbort = pieces 3 10 Empty
pieces_of EnlistSingle = pieces 3 11 Empty
pieces_of EnlistOneCommitted = pieces 3 12 Empty
pieces_of EnlistOneAborted = pieces 3 13 Empty
pieces_of EnlistOneInDoubt = pieces 3 14 Empty
pieces_of (ReenlistReenlist i) = pieces 4 1 (Information i)
pieces_of ReenlistAck = pieces 4 2 Empty
pieces_of ReenlistCommitted = pieces 4 3 Empty
pieces_of ReenlistAborted = pieces 4 4 Empty

-- the message without a body of this type and tag
abbrev plain : ℕ → ℕ → Message
plain t n =
    if t == 1 then (if n == 1 then BeginBegin else if n == 2 then BeginCommit else if n == 3 then BeginAbort else if n == 5 then BeginCommitted else if n == 6 then BeginAborted else if n == 7 then BeginCommitOne else BeginInDoubt)
    else if t == 2 then (if n == 2 then VoterYes else if n == 3 then VoterNo else if n == 4 then VoterCreated else if n == 6 then VoterAsk else if n == 7 then VoterCommit else if n == 8 then VoterAbort else VoterInDoubt)
    else if t == 3 then (if n == 2 then EnlistPrepared else if n == 3 then EnlistNo else if n == 4 then EnlistReadonly else if n == 5 then EnlistAck else if n == 6 then EnlistEnlisted else if n == 8 then EnlistPrepare else if n == 9 then EnlistCommit else if n == 10 then EnlistAbort
    else if n == 11 then EnlistSingle else if n == 12 then EnlistOneCommitted else if n == 13 then EnlistOneAborted else EnlistOneInDoubt)
    else (if n == 2 then ReenlistAck else if n == 3 then ReenlistCommitted else ReenlistAborted)

-- the message of these pieces
abbrev named : ℕ → ℕ → Body → Message
named t n Empty = plain t n
named t n (Identifier u) = if t == 1 then BeginBegun u else VoterVoter u
named t n (Information i) = if t == 3 then EnlistEnlist i else ReenlistReenlist i
named t n (Reason cause) = if t == 2 then VoterRefused cause else EnlistRefused cause

-- a message is the message of its pieces
named_back : (m : Message) → named (pieces_of m).type (pieces_of m).tag (pieces_of m).body ≡ m
named_back BeginBegin = refl
named_back _ = refl

-- its frame is the frame of its pieces
pub frame_is : (m : Message) → frame_of m ≡ frame (pieces_of m).type (pieces_of m).tag (body_bytes (pieces_of m).body)
unfolding frame_of
frame_is BeginBegin = refl
frame_is _ = refl

-- what a body is
abbrev pub kind_in : Body → BodyKind
kind_in Empty = kind.Empty
kind_in (Identifier u) = kind.Identifier
kind_in (Information i) = kind.Information
kind_in (Reason cause) = kind.Reason

-- the table has a message's type and tag, with its body
pub kind_is : (m : Message) → body_kind (pieces_of m).type (pieces_of m).tag ≡ Some (kind_in (pieces_of m).body)
kind_is BeginBegin = refl
kind_is _ = refl

-- its type is one of the four
pub type_is : (m : Message) → is_from_one 4 (pieces_of m).type ≡ true
type_is BeginBegin = refl
type_is _ = refl

-- what is valid in a body
abbrev is_valid_body : Body → Bool
is_valid_body Empty = true
is_valid_body (Identifier u) = is_id u
is_valid_body (Information i) = is_id i.id
is_valid_body (Reason cause) = is_from_one 2 cause

-- a message is valid exactly where its body is
pub valid_is : (m : Message) → is_valid m ≡ is_valid_body (pieces_of m).body
valid_is BeginBegin = refl
valid_is _ = refl

-- the length of a body's bytes
pub length_is : (x : Body) → length (body_bytes x) ≡ body_length (kind_in x)
unfolding info_bytes pair_bytes
length_is Empty = refl
length_is (Identifier u) = refl
length_is (Information i) = refl
length_is (Reason cause) = refl

-- a body has at most 36 bytes
pub body_small : (x : Body) → length (body_bytes x) ≤ 36
body_small x = omega (arith, length_is x, length_small (kind_in x))

-- a valid body has no bad field
good_body : (x : Body) → is_valid_body x ≡ true → bad_place (kind_in x) (body_bytes x) ≡ None
good_body Empty valid = refl
good_body (Identifier u) valid = good_id u valid
good_body (Information i) valid = good_info i valid
good_body (Reason cause) valid = ap (λ c. if c then None else Some 0) valid

-- bytes that begin with the frame of a valid message have no fault
pub no_fault : (m : Message) (rest : List ℕ) → is_valid m ≡ true → frame_fault (frame_of m ++ rest) ≡ None
no_fault m rest valid =
    let x = (pieces_of m).body in
    ap (λ (xs : List ℕ). frame_fault (xs ++ rest)) (frame_is m)
    ∙ whole_frame (pieces_of m).type (pieces_of m).tag (kind_in x) (body_bytes x) rest (type_is m) (kind_is m) (length_is x) (good_body x (sym (valid_is m) ∙ valid))

-- a valid identifier is told by its bytes
same_id : (u k : ℕ) → is_id u ≡ true → is_id k ≡ true → id_bytes u ≡ id_bytes k → u ≡ k
same_id u k v w e = let first = id_again u [] v in let second = id_again k [] w in cc (first, second, e)

-- so is valid information
same_infos : (i j : Info) → is_id i.id ≡ true → is_id j.id ≡ true → info_bytes i ≡ info_bytes j → i ≡ j
same_infos i j v w e =
    let b = info_bytes j in
    let p : IsInfo b i = record { valid = v; bytes = sym e } in
    let q : IsInfo b j = record { valid = w; bytes = refl } in
    read_info_same b j i q (info_id b i p) (info_pair b i p)

-- a valid body is told by its bytes
same_body : (x y : Body) → is_valid_body x ≡ true → is_valid_body y ≡ true → body_bytes x ≡ body_bytes y → x ≡ y
unfolding info_bytes pair_bytes
same_body Empty Empty v w e = refl
same_body (Identifier u) (Identifier k) v w e = ap Identifier (same_id u k v w e)
same_body (Information i) (Information j) v w e = ap Information (same_infos i j v w e)
same_body (Reason c) (Reason d) v w e = ap (λ (xs : List ℕ). Reason (get_or xs 0 0)) e
same_body _ _ v w e = absurd (omega (arith, ap length e))

-- frames that begin the same bytes have the same type, tag and body
same_frames : (t n : ℕ) (f : List ℕ) (u k : ℕ) (g x y : List ℕ) → length f ≤ 36 → length g ≤ 36 → frame t n f ++ x ≡ frame u k g ++ y → (t ≡ u) × (n ≡ k) × (f ≡ g)
same_frames t n f u k g x y short small e =
    let low = ap (λ (xs : List ℕ). get_or xs 2 0) e in
    let high = ap (λ (xs : List ℕ). get_or xs 3 0) e in
    let same : length f ≡ length g = omega arith in (
      ap (λ (xs : List ℕ). get_or xs 0 0) e,
      ap (λ (xs : List ℕ). get_or xs 1 0) e,
      sym (take_at f x (length g) same) ∙ ap (λ (xs : List ℕ). take (length g) (drop 4 xs)) e ∙ take_at g y (length g) refl,
    )

-- so no frame of a valid message begins another's
pub same_messages : (m n : Message) (x y : List ℕ) → frame_of m ++ x ≡ frame_of n ++ y → is_valid m ≡ true → is_valid n ≡ true → m ≡ n
same_messages m n x y e first second =
    let f = pieces_of m in
    let g = pieces_of n in
    let framed = ap (λ (xs : List ℕ). xs ++ x) (sym (frame_is m)) ∙ e ∙ ap (λ (xs : List ℕ). xs ++ y) (frame_is n) in
    let same = same_frames f.type f.tag (body_bytes f.body) g.type g.tag (body_bytes g.body) x y (body_small f.body) (body_small g.body) framed in
    let body = same_body f.body g.body (sym (valid_is m) ∙ first) (sym (valid_is n) ∙ second) same.2 in
    sym (named_back m) ∙ (λ k. named (same.0 k) (same.1 k) (body k)) ∙ named_back n

-- bytes that begin with the frame of a valid message are read as this message
pub read_same : (b : List ℕ) (m : Message) (k : ℕ) (n : Message) (rest : List ℕ) → k ≤ length b → IsFrame (take k b) m → is_valid n ≡ true → b ≡ frame_of n ++ rest
    → (m ≡ n) × (k ≡ length (frame_of n))
read_same b m k n rest within p valid is =
    let same = same_messages m n (drop k b) rest (ap (λ (xs : List ℕ). xs ++ drop k b) (sym p.bytes) ∙ take-append-drop k b ∙ is) p.valid valid in
    (same, sym (length-take-le k b within) ∙ ap length p.bytes ∙ ap (λ x. length (frame_of x)) same)

-- nor has such a beginning a fault
pub not_refused : (b : List ℕ) (m : Message) (rest : List ℕ) (f : FrameFault) → is_valid m ≡ true → b ≡ frame_of m ++ rest → frame_fault b ≡ Some f → ⊥
not_refused b m rest f valid is fault =
    let none : frame_fault b ≡ None = ap frame_fault is ∙ no_fault m rest valid in
    cc (none, fault)
