-- A line holds no LF but the one at its end.
use Rattle.std.proofs.Common.{◌≡◌, ◌<◌, ℕ, Bool, true, false, List, [], ◌∷◌, ◌++◌, codes, decimal, Option, Some, None, refl, ap, sym, ◌∙◌, arith, append_assoc, length, length-append}
use Rattle.dtx_values.specs.declared.words.Outcome.{Outcome}
use Rattle.dtx_values.specs.declared.words.Outcome.TheVariants.{Committed, Aborted, InDoubt}
use Rattle.dtx_values.specs.declared.words.Class.{Class}
use Rattle.dtx_values.specs.declared.words.Class.TheVariants.{Zero, One, DurableTwo, DurableSingle, Promotable}
use Rattle.dtx_values.specs.declared.entry.Ask.{Ask}
use Rattle.dtx_values.specs.declared.entry.Ask.TheVariants.{Prepare, Promote, Single}
use Rattle.dtx_values.specs.declared.words.Vote.{Vote}
use Rattle.dtx_values.specs.declared.words.Vote.TheVariants.{Yes, No, Done}
use Rattle.dtx_values.specs.declared.entry.Request.{Request}
use Rattle.dtx_values.specs.declared.entry.Request.TheVariants.{Commit, Abort}
use Rattle.dtx_values.specs.declared.words.Cause.{Cause}
use Rattle.dtx_values.specs.declared.words.Cause.TheVariants.{Two, Second, Beside, Marshal}
use Rattle.dtx_values.specs.declared.message.Dir.{Dir}
use Rattle.dtx_values.specs.declared.message.Dir.TheVariants.{Up, Down as Downward}
use Rattle.dtx_values.specs.declared.words.CloneKind.{CloneKind}
use Rattle.dtx_values.specs.declared.words.CloneKind.TheVariants.{Block, Rollback}
use Rattle.dtx_values.specs.declared.words.Image.{Image}
use Rattle.dtx_values.specs.declared.words.Image.TheVariants.{Lose, Keep, Torn}
use Rattle.dtx_values.specs.declared.words.Iso.{Iso}
use Rattle.dtx_values.specs.declared.words.Iso.TheVariants.{Serializable, RepeatableRead, ReadCommitted, ReadUncommitted, Snapshot, Chaos, Unspecified}
use Rattle.dtx_values.specs.declared.entry.Answer.{Answer}
use Rattle.dtx_values.specs.declared.entry.Answer.TheVariants.{Id, OutcomeIs, Did, Ended, Many, Over, Connected, Isolation, Nested, Ambient, NotALog}
use Rattle.dtx_values.specs.declared.entry.Entry.{Entry}
use Rattle.dtx_values.specs.declared.entry.Entry.TheVariants.{Called, Answered, Began, Cloned, Completed, Enlisted, Init, Clock, Asked, Voted, PromoteReply, Requested, Handed, OwnerAnswered, Decided, Told, Promoting, Promoted, Sent, Got, Cut, Down, Lost, Restarted, Reenlisted, Recovered, Acked, Scope, LogWord}
use Rattle.dtx_values.specs.declared.entry.LogNote.TheVariants.{Armed, Opened as LogOpened}
use Rattle.dtx_values.specs.declared.entry.Party.{Party}
use Rattle.dtx_values.specs.declared.entry.Party.TheVariants.{Client, Enl}
use Rattle.dtx_values.specs.declared.entry.ScopeNote.TheVariants.{Opened, Finished as ScopeFinished, Closed}
use Rattle.dtx_values.specs.declared.message.Conn.{Conn}
use Rattle.dtx_values.specs.declared.message.Conn.TheVariants.{Begin, Voter, Enl as OnEnl, Again}
use Rattle.dtx_values.specs.declared.message.Message.{Message}
use Rattle.dtx_values.specs.declared.message.Message.TheVariants.{VoterRefused, EnlistRefused}
use Rattle.dtx_values.specs.declared.number.TxNo.{TxNo}
use Rattle.dtx_values.specs.declared.trace.Place.{Place}
use Rattle.dtx_values.specs.declared.trace.Place.TheVariants.{Context, Transaction, Log}
use Rattle.dtx_model.specs.Grammar.{actor_name, connection_word, iso_word, kind_word, image_word}
use Rattle.dtx_model.specs.Traces.{Placed}
use Rattle.dtx_model.specs.TraceText.{ambient_text, answer_text, ask_text, cast_vote_text, cause_text, class_text, direction_text, entry_text, found_text, id_text, message_text, outcome_text, party_text, place_text, promote_text, request_text, trace_line}
use Rattle.trace_lines.specs.Forms.{line_words}
use Rattle.line_tail.specs.Cut.{IsWithout, front}
use Rattle.line_tail.proofs.CutLemmas.{cut_same, front_cut, without_append}
use Rattle.line_words.proofs.Identifiers.{id_without}
use Rattle.line_words.proofs.Without.{without_decimal}

-- a number has no LF
number : (n : ℕ) → IsWithout 10 (decimal n)
number n = without_decimal 10 n (omega arith)

-- two texts with a space between them have none where neither has
spaced : (a r : List ℕ) → IsWithout 10 a → IsWithout 10 r → IsWithout 10 (a ++ codes " " ++ r)
spaced a r h k = without_append 10 (a ++ codes " ") r (without_append 10 a (codes " ") h refl) k

-- nor have the words of a trace
of_outcome : (w : Outcome) → IsWithout 10 (outcome_text w)
of_outcome Committed = refl
of_outcome Aborted = refl
of_outcome InDoubt = refl

of_class : (w : Class) → IsWithout 10 (class_text w)
of_class Zero = refl
of_class One = refl
of_class DurableTwo = refl
of_class DurableSingle = refl
of_class Promotable = refl

of_ask : (w : Ask) → IsWithout 10 (ask_text w)
of_ask Prepare = refl
of_ask Promote = refl
of_ask Single = refl

of_vote : (w : Vote) → IsWithout 10 (cast_vote_text w)
of_vote Yes = refl
of_vote No = refl
of_vote Done = refl

of_promote : (w : Bool) → IsWithout 10 (promote_text w)
of_promote true = refl
of_promote false = refl

of_request : (w : Request) → IsWithout 10 (request_text w)
of_request Commit = refl
of_request Abort = refl

of_cause : (w : Cause) → IsWithout 10 (cause_text w)
of_cause Two = refl
of_cause Second = refl
of_cause Beside = refl
of_cause Marshal = refl

of_direction : (w : Dir) → IsWithout 10 (direction_text w)
of_direction Up = refl
of_direction Downward = refl

of_found : (w : Bool) → IsWithout 10 (found_text w)
of_found true = refl
of_found false = refl

of_kind : (w : CloneKind) → IsWithout 10 (kind_word w)
of_kind Block = refl
of_kind Rollback = refl

of_image : (w : Image) → IsWithout 10 (image_word w)
of_image Lose = refl
of_image Keep = refl
of_image Torn = refl

of_iso : (w : Iso) → IsWithout 10 (iso_word w)
of_iso Serializable = refl
of_iso RepeatableRead = refl
of_iso ReadCommitted = refl
of_iso ReadUncommitted = refl
of_iso Snapshot = refl
of_iso Chaos = refl
of_iso Unspecified = refl

of_ambient : (t : Option TxNo) → IsWithout 10 (ambient_text t)
of_ambient None = refl
of_ambient (Some t) = number t.value

of_party : (p : Party) → IsWithout 10 (party_text p)
of_party Client = refl
of_party (Enl e) = number e.value

of_connection : (c : Conn) → IsWithout 10 (connection_word c)
of_connection Begin = refl
of_connection Voter = refl
of_connection (OnEnl e) = number e.value
of_connection (Again e) = number e.value

of_place : (p : Place) → IsWithout 10 (place_text p)
of_place (Context a) = number a.value
of_place (Transaction t) = number t.value
of_place Log = refl

-- nor has a message
of_message : (m : Message) → IsWithout 10 (message_text m)
of_message (VoterRefused n) = number n
of_message (EnlistRefused n) = number n
of_message _ = refl

-- nor has an answer
of_answer : (x : Answer) → IsWithout 10 (answer_text x)
of_answer (Id u) = id_without 10 u (omega arith)
of_answer (OutcomeIs o) = of_outcome o
of_answer (Did n) = number n
of_answer (Ended o) = of_outcome o
of_answer (Many n) = number n
of_answer (Over r) = number r.value
of_answer (Connected e) = number e.value
of_answer (Isolation a b) = spaced (iso_word a) (iso_word b) (of_iso a) (of_iso b)
of_answer (Nested s) = number s.value
of_answer (Ambient t) = of_ambient t
of_answer (NotALog n) = number n
of_answer _ = refl

-- nor has what crosses on a connection
of_crossing : (c : Conn) (d : Dir) (m : Message) → IsWithout 10 (connection_word c ++ codes " " ++ direction_text d ++ codes " " ++ message_text m)
of_crossing c d m = spaced (connection_word c ++ codes " " ++ direction_text d) (message_text m) (spaced (connection_word c) (direction_text d) (of_connection c) (of_direction d)) (of_message m)

-- nor has an entry
of_entry : (x : Entry) → IsWithout 10 (entry_text x)
of_entry (Called n a w) = spaced (decimal n ++ codes " " ++ actor_name a.value) (answer_text w) (spaced (decimal n) (actor_name a.value) (number n) (number a.value)) (of_answer w)
of_entry (Answered n w) = spaced (decimal n) (answer_text w) (number n) (of_answer w)
of_entry (Began n) = number n
of_entry (Cloned c k) = spaced (decimal c.value) (kind_word k) (number c.value) (of_kind k)
of_entry (Completed c) = number c.value
of_entry (Enlisted e c) = spaced (decimal e.value) (class_text c) (number e.value) (of_class c)
of_entry (Init e) = number e.value
of_entry (Clock n) = number n
of_entry (Asked e a) = spaced (decimal e.value) (ask_text a) (number e.value) (of_ask a)
of_entry (Voted e v) = spaced (decimal e.value) (cast_vote_text v) (number e.value) (of_vote v)
of_entry (PromoteReply e ok) = spaced (decimal e.value) (promote_text ok) (number e.value) (of_promote ok)
of_entry (Requested e r) = spaced (decimal e.value) (request_text r) (number e.value) (of_request r)
of_entry (Handed e) = number e.value
of_entry (OwnerAnswered e o) = spaced (decimal e.value) (outcome_text o) (number e.value) (of_outcome o)
of_entry (Decided o) = of_outcome o
of_entry (Told p o) = spaced (party_text p) (outcome_text o) (of_party p) (of_outcome o)
of_entry (Promoting c) = of_cause c
of_entry (Promoted u c) = spaced (id_text u) (cause_text c) (id_without 10 u (omega arith)) (of_cause c)
of_entry (Sent c d m) = of_crossing c d m
of_entry (Got c d m) = of_crossing c d m
of_entry (Cut c i j) = spaced (connection_word c ++ codes " " ++ decimal i) (decimal j) (spaced (connection_word c) (decimal i) (of_connection c) (number i)) (number j)
of_entry (Down c d) = spaced (connection_word c) (direction_text d) (of_connection c) (of_direction d)
of_entry (Lost e) = number e.value
of_entry (Restarted b) = of_found b
of_entry (Reenlisted e) = number e.value
of_entry (Recovered r) = number r.value
of_entry (Acked e) = number e.value
of_entry (Scope (Opened i t)) = spaced (decimal i.value) (ambient_text t) (number i.value) (of_ambient t)
of_entry (Scope (ScopeFinished i)) = number i.value
of_entry (Scope (Closed i)) = number i.value
of_entry (LogWord (Armed n i)) = spaced (decimal n) (image_word i) (number n) (of_image i)
of_entry (LogWord (LogOpened n)) = number n
of_entry _ = refl

-- nor has a line before its LF
pub body_without : (n : ℕ) (x : Placed) → IsWithout 10 (line_words n x)
body_without n x = spaced (decimal n ++ codes " " ++ place_text x.0) (entry_text x.1) (spaced (decimal n) (place_text x.0) (number n) (of_place x.0)) (of_entry x.1)

-- what follows a line stands after its LF
pub line-append : (n : ℕ) (x : Placed) (after : List ℕ) → trace_line n x ++ after ≡ line_words n x ++ 10 ∷ after
line-append n x after = append_assoc (line_words n x) (10 ∷ []) after

-- what stands before the first LF is the line
pub front_line : (n : ℕ) (x : Placed) (after : List ℕ) → front 10 (trace_line n x ++ after) ≡ line_words n x
front_line n x after = ap (λ t. front 10 t) (line-append n x after) ∙ front_cut 10 (line_words n x) after (body_without n x)

-- two lines at the front of one text are followed by one text
pub same_after : (n m : ℕ) (x y : Placed) (a b : List ℕ) → trace_line n x ++ a ≡ trace_line m y ++ b → a ≡ b
same_after n m x y a b e = (cut_same 10 (line_words n x) (line_words m y) a b (body_without n x) (body_without m y) (sym (line-append n x a) ∙ e ∙ line-append m y b)).1

-- a line isn't empty
pub line_long : (n : ℕ) (x : Placed) → 0 < length (trace_line n x)
line_long n x = omega (arith, length-append (line_words n x) (10 ∷ []))
