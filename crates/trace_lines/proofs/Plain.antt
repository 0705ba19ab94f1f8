-- The texts of places and entries have no character that JSON escapes.
use Rattle.std.proofs.Common.{◌≡◌, refl, ℕ, zero, suc, ◌/◌, ◌%◌, ◌<◌, ◌==◌, nat_le, nat_lt, Bool, true, false, ◌&&◌, ◌||◌, if◌then◌else◌, List, [], ◌∷◌, ◌++◌, ap, append_assoc, ◌∙◌, arith, codes, decimal, Option, Some, None}
use Rattle.std.specs.Fmt.{digit_glyph, digits, digits_onto}
use Rattle.std.specs.Int.{w128, to_be_bytes}
use Rattle.std.proofs.lemmas.Bool.{eqb-true}
use Rattle.std.proofs.lemmas.Bool.Decides.{nat_tests}
use Rattle.std.proofs.lemmas.List.Concat.{flat_map-cons}
use Rattle.std.proofs.lemmas.List.Folds.{list_all-append}
use Rattle.json.specs.Print.{escape, escape_byte}
use Rattle.serde_json.specs.Written.{compact_text}
use Rattle.uuid.specs.Text.{by_index, digit_place, hex_digit, hyphen, is_hyphen_place, lower}
use Rattle.uuid.proofs.TextLemmas.{nibble_small}
use Rattle.dtx_values.specs.declared.entry.Answer.{Answer}
use Rattle.dtx_values.specs.declared.entry.Answer.TheVariants.{Fine, True, False, Wait, Id, StillActive, OutcomeIs, StillOpen, Did, NotBegun, Ended, TooLate, Many, NoSuch, Already, Finished, Over, Connected, Stopped, Deep, Isolation, NoScope, Nested, Ambient, Fault, NotALog}
use Rattle.dtx_values.specs.declared.entry.Ask.{Ask}
use Rattle.dtx_values.specs.declared.entry.Ask.TheVariants.{Prepare, Promote, Single}
use Rattle.dtx_values.specs.declared.entry.Entry.{Entry}
use Rattle.dtx_values.specs.declared.entry.Entry.TheVariants.{Called, Answered, Began, Cloned, Completed, Enlisted, Init, CommitAsked, RollbackAsked, Clock, TimedOut, Late, Asked, Voted, PromoteReply, Requested, Sealed, Handed, OwnerAnswered, LocalYes}
use Rattle.dtx_values.specs.declared.entry.Entry.TheVariants.{Decided, Told, Promoting, Promoted, PromotionFailed, Sent, Got, Cut, Down, Lost, Logged, LogFull, Freed, Stopped as CoordinatorStopped, Restarted, Reenlisted, Recovered, Acked, Scope, LogWord}
use Rattle.dtx_values.specs.declared.entry.LogNote.{LogNote}
use Rattle.dtx_values.specs.declared.entry.LogNote.TheVariants.{Armed, Opened as LogOpened}
use Rattle.dtx_values.specs.declared.entry.Party.{Party}
use Rattle.dtx_values.specs.declared.entry.Party.TheVariants.{Client, Enl}
use Rattle.dtx_values.specs.declared.entry.Request.{Request}
use Rattle.dtx_values.specs.declared.entry.Request.TheVariants.{Commit, Abort}
use Rattle.dtx_values.specs.declared.entry.ScopeNote.{ScopeNote}
use Rattle.dtx_values.specs.declared.entry.ScopeNote.TheVariants.{Opened, Finished as ScopeFinished, Closed}
use Rattle.dtx_values.specs.declared.message.Conn.{Conn}
use Rattle.dtx_values.specs.declared.message.Conn.TheVariants.{Begin, Voter, Enl as OnEnl, Again}
use Rattle.dtx_values.specs.declared.message.Dir.{Dir}
use Rattle.dtx_values.specs.declared.message.Dir.TheVariants.{Up, Down as Downward}
use Rattle.dtx_values.specs.declared.message.Message.{Message}
use Rattle.dtx_values.specs.declared.message.Message.TheVariants.{BeginBegin, BeginCommit, BeginAbort, BeginBegun, BeginCommitted, BeginAborted, BeginCommitOne, BeginInDoubt, VoterVoter, VoterYes, VoterNo, VoterCreated, VoterRefused, VoterAsk, VoterCommit, VoterAbort, VoterInDoubt}
use Rattle.dtx_values.specs.declared.message.Message.TheVariants.{EnlistEnlist, EnlistPrepared, EnlistNo, EnlistReadonly, EnlistAck, EnlistEnlisted, EnlistRefused, EnlistPrepare, EnlistCommit, EnlistAbort, EnlistSingle, EnlistOneCommitted, EnlistOneAborted, EnlistOneInDoubt, ReenlistReenlist, ReenlistAck, ReenlistCommitted, ReenlistAborted}
use Rattle.dtx_values.specs.declared.number.TxNo.{TxNo}
use Rattle.dtx_values.specs.declared.trace.Place.{Place}
use Rattle.dtx_values.specs.declared.trace.Place.TheVariants.{Context, Transaction, Log}
use Rattle.dtx_values.specs.declared.words.Cause.{Cause}
use Rattle.dtx_values.specs.declared.words.Cause.TheVariants.{Two, Second, Beside, Marshal}
use Rattle.dtx_values.specs.declared.words.Class.{Class}
use Rattle.dtx_values.specs.declared.words.Class.TheVariants.{Zero, One, DurableTwo, DurableSingle, Promotable}
use Rattle.dtx_values.specs.declared.words.CloneKind.{CloneKind}
use Rattle.dtx_values.specs.declared.words.CloneKind.TheVariants.{Block, Rollback}
use Rattle.dtx_values.specs.declared.words.Image.{Image}
use Rattle.dtx_values.specs.declared.words.Image.TheVariants.{Lose, Keep, Torn}
use Rattle.dtx_values.specs.declared.words.Iso.{Iso}
use Rattle.dtx_values.specs.declared.words.Iso.TheVariants.{Serializable, RepeatableRead, ReadCommitted, ReadUncommitted, Snapshot, Chaos, Unspecified}
use Rattle.dtx_values.specs.declared.words.Outcome.{Outcome}
use Rattle.dtx_values.specs.declared.words.Outcome.TheVariants.{Committed, Aborted, InDoubt}
use Rattle.dtx_values.specs.declared.words.Vote.{Vote}
use Rattle.dtx_values.specs.declared.words.Vote.TheVariants.{Yes, No, Done}
use Rattle.dtx_model.specs.Grammar.{actor_name, clone_name, connection_word, enlistment_name, image_word, iso_word, kind_word, scope_name}
use Rattle.dtx_model.specs.TraceText.{ambient_text, answer_text, ask_text, cast_vote_text, cause_text, class_text, direction_text, entry_text, found_text, id_text, log_text, message_text, outcome_text, party_text, place_text, promote_text, request_text, scope_text, sent_text, trace_line}
use Rattle.dtx_model.specs.Traces.{Placed}
use Rattle.dtx_model.specs.Words.{each}
use Rattle.dtx_model.proofs.Bools.{and_both, and_left, and_right, or_false}
use Rattle.line_tail.specs.Cut.{IsWithout}
use Rattle.line_tail.proofs.CutLemmas.{without_append}
use Rattle.trace_lines.specs.Forms.{object_of, object_text}

-- a space, a hyphen, a digit or a lower-case letter
abbrev pub is_plain : ℕ → Bool
is_plain c = (c == 32) || ((nat_le 45 c && nat_le c 57) || (nat_le 97 c && nat_le c 122))

-- each is
abbrev pub are_plain : List ℕ → Bool
are_plain s = each is_plain s

-- of two texts
both : (a b : List ℕ) → are_plain a ≡ true → are_plain b ≡ true → are_plain (a ++ b) ≡ true
both a b p q = list_all-append is_plain a b ∙ and_both _ _ p q

plain_glyph : (d : ℕ) → d < 10 → is_plain (digit_glyph false d) ≡ true
plain_glyph d h = grind (arith, nat_tests)

either_plain : (b : Bool) (xs ys : List ℕ) → are_plain xs ≡ true → are_plain ys ≡ true → are_plain (if b then xs else ys) ≡ true
either_plain true xs ys h k = h
either_plain false xs ys h k = k

digits_plain : (k n : ℕ) (acc : List ℕ) → are_plain acc ≡ true → are_plain (digits_onto k 10 false n acc) ≡ true
digits_plain zero n acc h = h
digits_plain (suc k) n acc h =
    let more : are_plain (digit_glyph false (n % 10) ∷ acc) ≡ true = and_both _ _ (plain_glyph (n % 10) (omega arith)) h in
    either_plain (n / 10 == 0) _ _ more (digits_plain k (n / 10) (digit_glyph false (n % 10) ∷ acc) more)

-- a number's text
number : (n : ℕ) → are_plain (decimal n) ≡ true
unfolding digits
number n = digits_plain 64 n [] refl

plain_hex : (d : ℕ) → d < 16 → is_plain (hex_digit lower d) ≡ true
plain_hex d h = grind (arith, nat_tests)

index_plain : (n : ℕ) (f : ℕ → ℕ) → ((k : ℕ) → is_plain (f k) ≡ true) → are_plain (by_index n f) ≡ true
unfolding by_index
index_plain zero f h = refl
index_plain (suc n) f h = both (by_index n f) (f n ∷ []) (index_plain n f h) (and_both _ _ (h n) refl)

plain_place : (b : Bool) (d : ℕ) → d < 16 → is_plain (if b then hyphen else hex_digit lower d) ≡ true
plain_place true d h = refl
plain_place false d h = plain_hex d h

-- an identifier's text
identifier : (u : ℕ) → are_plain (id_text u) ≡ true
unfolding id_text
identifier u = index_plain 36 _ (λ k. plain_place (is_hyphen_place k) _ (nibble_small (to_be_bytes w128 u) (digit_place k)))

outcome : (x : Outcome) → are_plain (outcome_text x) ≡ true
outcome Committed = refl
outcome Aborted = refl
outcome InDoubt = refl

class : (x : Class) → are_plain (class_text x) ≡ true
class Zero = refl
class One = refl
class DurableTwo = refl
class DurableSingle = refl
class Promotable = refl

ask : (x : Ask) → are_plain (ask_text x) ≡ true
ask Prepare = refl
ask Promote = refl
ask Single = refl

vote : (x : Vote) → are_plain (cast_vote_text x) ≡ true
vote Yes = refl
vote No = refl
vote Done = refl

promote : (x : Bool) → are_plain (promote_text x) ≡ true
promote true = refl
promote false = refl

request : (x : Request) → are_plain (request_text x) ≡ true
request Commit = refl
request Abort = refl

cause : (x : Cause) → are_plain (cause_text x) ≡ true
cause Two = refl
cause Second = refl
cause Beside = refl
cause Marshal = refl

direction : (x : Dir) → are_plain (direction_text x) ≡ true
direction Up = refl
direction Downward = refl

found : (x : Bool) → are_plain (found_text x) ≡ true
found true = refl
found false = refl

kind : (x : CloneKind) → are_plain (kind_word x) ≡ true
kind Block = refl
kind Rollback = refl

image : (x : Image) → are_plain (image_word x) ≡ true
image Lose = refl
image Keep = refl
image Torn = refl

isolation : (x : Iso) → are_plain (iso_word x) ≡ true
isolation Serializable = refl
isolation RepeatableRead = refl
isolation ReadCommitted = refl
isolation ReadUncommitted = refl
isolation Snapshot = refl
isolation Chaos = refl
isolation Unspecified = refl

ambient : (x : Option TxNo) → are_plain (ambient_text x) ≡ true
ambient (Some t) = number t.value
ambient None = refl

party : (x : Party) → are_plain (party_text x) ≡ true
party Client = refl
party (Enl e) = number e.value

connection : (x : Conn) → are_plain (connection_word x) ≡ true
connection Begin = refl
connection Voter = refl
connection (OnEnl e) = number e.value
connection (Again e) = number e.value

answer : (x : Answer) → are_plain (answer_text x) ≡ true
answer Fine = refl
answer True = refl
answer False = refl
answer Wait = refl
answer (Id u) = identifier u
answer StillActive = refl
answer (OutcomeIs x) = outcome x
answer StillOpen = refl
answer (Did n) = number n
answer NotBegun = refl
answer (Ended x) = outcome x
answer TooLate = refl
answer (Many n) = number n
answer NoSuch = refl
answer Already = refl
answer Finished = refl
answer (Over r) = number r.value
answer (Connected e) = number e.value
answer Stopped = refl
answer Deep = refl
answer (Isolation asked around) = both (iso_word asked ++ codes " ") (iso_word around) (both (iso_word asked) (codes " ") (isolation asked) refl) (isolation around)
answer NoScope = refl
answer (Nested s) = number s.value
answer (Ambient t) = ambient t
answer Fault = refl
answer (NotALog place) = number place

message : (x : Message) → are_plain (message_text x) ≡ true
message BeginBegin = refl
message BeginCommit = refl
message BeginAbort = refl
message (BeginBegun u) = refl
message BeginCommitted = refl
message BeginAborted = refl
message BeginCommitOne = refl
message BeginInDoubt = refl
message (VoterVoter u) = refl
message VoterYes = refl
message VoterNo = refl
message VoterCreated = refl
message (VoterRefused n) = number n
message VoterAsk = refl
message VoterCommit = refl
message VoterAbort = refl
message VoterInDoubt = refl
message (EnlistEnlist i) = refl
message EnlistPrepared = refl
message EnlistNo = refl
message EnlistReadonly = refl
message EnlistAck = refl
message EnlistEnlisted = refl
message (EnlistRefused n) = number n
message EnlistPrepare = refl
message EnlistCommit = refl
message EnlistAbort = refl
message EnlistSingle = refl
message EnlistOneCommitted = refl
message EnlistOneAborted = refl
message EnlistOneInDoubt = refl
message (ReenlistReenlist i) = refl
message ReenlistAck = refl
message ReenlistCommitted = refl
message ReenlistAborted = refl

sent : (c : Conn) (d : Dir) (m : Message) → are_plain (sent_text c d m) ≡ true
sent c d m = both (connection_word c ++ codes " " ++ direction_text d ++ codes " ") (message_text m) (both (connection_word c ++ codes " " ++ direction_text d) (codes " ") (both (connection_word c ++ codes " ") (direction_text d) (both (connection_word c) (codes " ") (connection c) refl) (direction d)) refl) (message m)

scope : (x : ScopeNote) → are_plain (scope_text x) ≡ true
scope (Opened s t) = both (scope_name s.value ++ codes " ") (ambient_text t) (both (scope_name s.value) (codes " ") (number s.value) refl) (ambient t)
scope (ScopeFinished s) = number s.value
scope (Closed s) = number s.value

log : (x : LogNote) → are_plain (log_text x) ≡ true
log (Armed n i) = both (decimal n ++ codes " ") (image_word i) (both (decimal n) (codes " ") (number n) refl) (image i)
log (LogOpened n) = number n

entry : (x : Entry) → are_plain (entry_text x) ≡ true
entry (Called n a x) = both (decimal n ++ codes " " ++ actor_name a.value ++ codes " ") (answer_text x) (both (decimal n ++ codes " " ++ actor_name a.value) (codes " ") (both (decimal n ++ codes " ") (actor_name a.value) (both (decimal n) (codes " ") (number n) refl) (number a.value)) refl) (answer x)
entry (Answered n x) = both (decimal n ++ codes " ") (answer_text x) (both (decimal n) (codes " ") (number n) refl) (answer x)
entry (Began n) = number n
entry (Cloned c k) = both (clone_name c.value ++ codes " ") (kind_word k) (both (clone_name c.value) (codes " ") (number c.value) refl) (kind k)
entry (Completed c) = number c.value
entry (Enlisted e c) = both (enlistment_name e.value ++ codes " ") (class_text c) (both (enlistment_name e.value) (codes " ") (number e.value) refl) (class c)
entry (Init e) = number e.value
entry CommitAsked = refl
entry RollbackAsked = refl
entry (Clock n) = number n
entry TimedOut = refl
entry Late = refl
entry (Asked e a) = both (enlistment_name e.value ++ codes " ") (ask_text a) (both (enlistment_name e.value) (codes " ") (number e.value) refl) (ask a)
entry (Voted e v) = both (enlistment_name e.value ++ codes " ") (cast_vote_text v) (both (enlistment_name e.value) (codes " ") (number e.value) refl) (vote v)
entry (PromoteReply e ok) = both (enlistment_name e.value ++ codes " ") (promote_text ok) (both (enlistment_name e.value) (codes " ") (number e.value) refl) (promote ok)
entry (Requested e r) = both (enlistment_name e.value ++ codes " ") (request_text r) (both (enlistment_name e.value) (codes " ") (number e.value) refl) (request r)
entry Sealed = refl
entry (Handed e) = number e.value
entry (OwnerAnswered e x) = both (enlistment_name e.value ++ codes " ") (outcome_text x) (both (enlistment_name e.value) (codes " ") (number e.value) refl) (outcome x)
entry LocalYes = refl
entry (Decided x) = outcome x
entry (Told p x) = both (party_text p ++ codes " ") (outcome_text x) (both (party_text p) (codes " ") (party p) refl) (outcome x)
entry (Promoting c) = cause c
entry (Promoted u c) = both (id_text u ++ codes " ") (cause_text c) (both (id_text u) (codes " ") (identifier u) refl) (cause c)
entry PromotionFailed = refl
entry (Sent c d m) = sent c d m
entry (Got c d m) = sent c d m
entry (Cut c up down) = both (connection_word c ++ codes " " ++ decimal up ++ codes " ") (decimal down) (both (connection_word c ++ codes " " ++ decimal up) (codes " ") (both (connection_word c ++ codes " ") (decimal up) (both (connection_word c) (codes " ") (connection c) refl) (number up)) refl) (number down)
entry (Down c d) = both (connection_word c ++ codes " ") (direction_text d) (both (connection_word c) (codes " ") (connection c) refl) (direction d)
entry (Lost e) = number e.value
entry Logged = refl
entry LogFull = refl
entry Freed = refl
entry CoordinatorStopped = refl
entry (Restarted b) = found b
entry (Reenlisted e) = number e.value
entry (Recovered r) = number r.value
entry (Acked e) = number e.value
entry (Scope x) = scope x
entry (LogWord x) = log x

place : (p : Place) → are_plain (place_text p) ≡ true
place (Context a) = number a.value
place (Transaction t) = number t.value
place Log = refl

byte_same : (c : ℕ) → is_plain c ≡ true → escape_byte c ≡ c ∷ []
unfolding escape_byte
byte_same c h =
    let quote : (c == 34) ≡ false = grind (arith, nat_tests) in
    let slash : (c == 92) ≡ false = grind (arith, nat_tests) in
    let back : (c == 8) ≡ false = grind (arith, nat_tests) in
    let feed : (c == 12) ≡ false = grind (arith, nat_tests) in
    let line : (c == 10) ≡ false = grind (arith, nat_tests) in
    let return : (c == 13) ≡ false = grind (arith, nat_tests) in
    let tab : (c == 9) ≡ false = grind (arith, nat_tests) in
    let control : nat_lt c 32 ≡ false = grind (arith, nat_tests) in
    simp (quote, slash, back, feed, line, return, tab, control)

-- a plain text stands in JSON as it is
same : (s : List ℕ) → are_plain s ≡ true → escape s ≡ s
same [] h = refl
same (c ∷ s) h =
    flat_map-cons escape_byte c s ∙ ap (λ (t : List ℕ). t ++ escape s) (byte_same c (and_left (is_plain c) (are_plain s) h)) ∙ ap (λ (t : List ℕ). c ∷ t) (same s (and_right (is_plain c) (are_plain s) h))

-- nor has it a quotation mark
unquoted : (s : List ℕ) → are_plain s ≡ true → IsWithout 34 s
unquoted [] h = refl
unquoted (c ∷ s) h =
    let here : is_plain c ≡ true = and_left (is_plain c) (are_plain s) h in
    let quote : (c == 34) ≡ false = grind (arith, nat_tests) in
    or_false (c == 34) _ quote (unquoted s (and_right (is_plain c) (are_plain s) h))

-- nor a letter that is none of these
without_other : (q : ℕ) → is_plain q ≡ false → (s : List ℕ) → are_plain s ≡ true → IsWithout q s
without_other q other [] h = refl
without_other q other (c ∷ s) h = or_false (c == q) _ (apart (c == q) refl) (without_other q other s (and_right (is_plain c) (are_plain s) h))
  where
    clash : (b : Bool) → b ≡ true → b ≡ false → ⊥
    clash b k l = cc

    apart : (b : Bool) → (c == q) ≡ b → (c == q) ≡ false
    apart false e = e
    apart true e = absurd (clash (is_plain c) (and_left (is_plain c) (are_plain s) h) (ap is_plain (eqb-true c q e) ∙ other))

-- so a line of a trace has no angle bracket
pub line_unbracketed : (n : ℕ) (x : Placed) → IsWithout 62 (trace_line n x)
line_unbracketed n x =
    let numbered : IsWithout 62 (decimal n) = without_other 62 refl (decimal n) (number n) in
    let placed : IsWithout 62 (place_text x.0) = without_other 62 refl (place_text x.0) (place x.0) in
    let said : IsWithout 62 (entry_text x.1) = without_other 62 refl (entry_text x.1) (entry x.1) in
    without_append 62 (decimal n ++ codes " " ++ place_text x.0 ++ codes " " ++ entry_text x.1) (10 ∷ [])
    (without_append 62 (decimal n ++ codes " " ++ place_text x.0 ++ codes " ") (entry_text x.1)
    (without_append 62 (decimal n ++ codes " " ++ place_text x.0) (codes " ") (without_append 62 (decimal n ++ codes " ") (place_text x.0) (without_append 62 (decimal n) (codes " ") numbered refl) placed) refl) said) refl

pub place_unquoted : (p : Place) → IsWithout 34 (place_text p)
place_unquoted p = unquoted (place_text p) (place p)

pub entry_unquoted : (x : Entry) → IsWithout 34 (entry_text x)
entry_unquoted x = unquoted (entry_text x) (entry x)

-- the text of a place stands in JSON as it is
place_same : (p : Place) → escape (place_text p) ≡ place_text p
place_same p = same (place_text p) (place p)

-- and so does that of an entry
entry_same : (x : Entry) → escape (entry_text x) ≡ entry_text x
entry_same x = same (entry_text x) (entry x)

-- an object as its parts are written
abbrev object_with : ℕ → List ℕ → List ℕ → List ℕ
object_with n p e = 123 ∷ 34 ∷ 97 ∷ 116 ∷ 34 ∷ 58 ∷ 34 ∷ ((p ++ 34 ∷ []) ++ 44 ∷ 34 ∷ 110 ∷ 34 ∷ 58 ∷ (decimal n ++ 44 ∷ 34 ∷ 116 ∷ 101 ∷ 120 ∷ 116 ∷ 34 ∷ 58 ∷ 34 ∷ ((e ++ 34 ∷ []) ++ 125 ∷ [])))

-- an entry's object in JSON's compact form
pub object-written : (n : ℕ) (x : Placed) → compact_text (object_of n x) ≡ object_text n x
unfolding escape_byte
object-written n x =
    let plain : object_with n (place_text x.0) (entry_text x.1) ≡ object_text n x = simp append_assoc in
    ap (λ (s : List ℕ). object_with n s (escape (entry_text x.1))) (place_same x.0) ∙ ap (λ (s : List ℕ). object_with n (place_text x.0) s) (entry_same x.1) ∙ plain
