-- What a text of a trace tells of it.
use Rattle.std.specs.Prelude.{ℕ, Bool, true, nat_le, List, [], ◌∷◌, get_or, if◌then◌else◌}
use Rattle.dtx_values.specs.declared.entry.Entry.{Entry}
use Rattle.dtx_values.specs.declared.entry.Entry.TheVariants.{Sent, Got}
use Rattle.dtx_values.specs.declared.message.Conn.{Conn}
use Rattle.dtx_values.specs.declared.message.Dir.{Dir}
use Rattle.dtx_values.specs.declared.message.Info.{Info}
use Rattle.dtx_values.specs.declared.message.Message.{Message}
use Rattle.dtx_values.specs.declared.message.Message.TheVariants.{BeginBegun, BeginCommit, BeginAbort, BeginCommitted, BeginAborted, BeginInDoubt, VoterVoter, VoterNo, VoterRefused, VoterCommit, VoterAbort, VoterInDoubt, EnlistEnlist, EnlistNo, EnlistAck, EnlistRefused, EnlistCommit, EnlistAbort, ReenlistReenlist, ReenlistAck, ReenlistCommitted, ReenlistAborted}
use Rattle.dtx_values.specs.declared.trace.Place.TheVariants.{Log}
use Rattle.dtx_values.specs.Lines.{has_line}
use Rattle.dtx_model.specs.Traces.{Placed}
use Rattle.dtx_model.specs.TraceText.{is_entry_fit}

-- the message with this identifier and this recovery information in place of its own: those are what its line leaves out, and no more is.
-- A line says what a message is, and a refusal's cause.
abbrev pub carrying : ℕ → Info → Message → Message
carrying u i (BeginBegun own) = BeginBegun u
carrying u i (VoterVoter own) = VoterVoter u
carrying u i (EnlistEnlist own) = EnlistEnlist i
carrying u i (ReenlistReenlist own) = ReenlistReenlist i
carrying u i m = m

-- the entry with these in its message. One without a message stays as it is, and a line tells it whole.
abbrev pub told : ℕ → Info → Entry → Entry
told u i (Sent c d m) = Sent c d (carrying u i m)
told u i (Got c d m) = Got c d (carrying u i m)
told u i x = x

-- the same at its place
abbrev pub told_at : ℕ → Info → Placed → Placed
told_at u i x = (x.0, told u i x.1)

-- a refusal's cause is a number of its type
abbrev pub is_cause_typed : Message → Bool
is_cause_typed (VoterRefused n) = nat_le n 255
is_cause_typed (EnlistRefused n) = nat_le n 255
is_cause_typed m = true

-- the numbers that the entry's line tells are those of their types
abbrev pub is_typed : Entry → Bool
is_typed (Sent c d m) = is_cause_typed m
is_typed (Got c d m) = is_cause_typed m
is_typed x = is_entry_fit Log x

abbrev pub is_typed_at : Placed → Bool
is_typed_at x = is_typed x.1

-- where the entry has a message, it is one that its connection carries in its direction
abbrev pub is_carried : Entry → Bool
is_carried (Sent c d m) = has_line c d m
is_carried (Got c d m) = has_line c d m
is_carried x = true

abbrev pub is_carried_at : Placed → Bool
is_carried_at x = is_carried x.1

-- the messages of the same name
abbrev pub namesakes : Message → List Message
namesakes BeginCommit = BeginCommit ∷ VoterCommit ∷ EnlistCommit ∷ []
namesakes VoterCommit = BeginCommit ∷ VoterCommit ∷ EnlistCommit ∷ []
namesakes EnlistCommit = BeginCommit ∷ VoterCommit ∷ EnlistCommit ∷ []
namesakes BeginAbort = BeginAbort ∷ VoterAbort ∷ EnlistAbort ∷ []
namesakes VoterAbort = BeginAbort ∷ VoterAbort ∷ EnlistAbort ∷ []
namesakes EnlistAbort = BeginAbort ∷ VoterAbort ∷ EnlistAbort ∷ []
namesakes BeginCommitted = BeginCommitted ∷ ReenlistCommitted ∷ []
namesakes ReenlistCommitted = BeginCommitted ∷ ReenlistCommitted ∷ []
namesakes BeginAborted = BeginAborted ∷ ReenlistAborted ∷ []
namesakes ReenlistAborted = BeginAborted ∷ ReenlistAborted ∷ []
namesakes BeginInDoubt = BeginInDoubt ∷ VoterInDoubt ∷ []
namesakes VoterInDoubt = BeginInDoubt ∷ VoterInDoubt ∷ []
namesakes VoterNo = VoterNo ∷ EnlistNo ∷ []
namesakes EnlistNo = VoterNo ∷ EnlistNo ∷ []
namesakes EnlistAck = EnlistAck ∷ ReenlistAck ∷ []
namesakes ReenlistAck = EnlistAck ∷ ReenlistAck ∷ []
namesakes (VoterRefused n) = VoterRefused n ∷ EnlistRefused n ∷ []
namesakes (EnlistRefused n) = VoterRefused n ∷ EnlistRefused n ∷ []
namesakes m = m ∷ []

-- the first of these that the connection carries in this direction, and m where it carries none
abbrev pub first_carried : Conn → Dir → Message → List Message → Message
first_carried c d m [] = m
first_carried c d m (x ∷ xs) = if has_line c d x then x else first_carried c d m xs

-- the message that the name stands for on this connection in this direction, where it stands for one there
abbrev pub by_name : Conn → Dir → Message → Message
by_name c d m = first_carried c d (get_or (namesakes m) 0 m) (namesakes m)

-- the entry with these in its message, and the message taken by its name: a line doesn't tell one that its connection doesn't carry from
-- another of that name
abbrev pub named : ℕ → Info → Entry → Entry
named u i (Sent c d m) = Sent c d (by_name c d (carrying u i m))
named u i (Got c d m) = Got c d (by_name c d (carrying u i m))
named u i x = x

-- the same at its place
abbrev pub named_at : ℕ → Info → Placed → Placed
named_at u i x = (x.0, named u i x.1)

-- where the entry has a message that is got, it is one that its connection carries in its direction
abbrev pub is_got_carried : Entry → Bool
is_got_carried (Got c d m) = has_line c d m
is_got_carried x = true

abbrev pub is_got_carried_at : Placed → Bool
is_got_carried_at x = is_got_carried x.1

-- the entry as its line in the form wire tells it: which message is sent is told by its frame, whatever its connection carries; one that is got
-- is taken by its name
abbrev pub wired : ℕ → Info → Entry → Entry
wired u i (Sent c d m) = Sent c d (carrying u i m)
wired u i x = named u i x

-- the same at its place
abbrev pub wired_at : ℕ → Info → Placed → Placed
wired_at u i x = (x.0, wired u i x.1)

-- the identifier that the message has, alone or in its recovery information, is a number of its type
abbrev pub is_identifier_typed : Message → Bool
is_identifier_typed (BeginBegun u) = nat_le u 340282366920938463463374607431768211455
is_identifier_typed (VoterVoter u) = nat_le u 340282366920938463463374607431768211455
is_identifier_typed (EnlistEnlist i) = nat_le i.id 340282366920938463463374607431768211455
is_identifier_typed (ReenlistReenlist i) = nat_le i.id 340282366920938463463374607431768211455
is_identifier_typed m = true

-- where the entry has a message that is sent, so is its identifier
abbrev pub is_frame_typed : Entry → Bool
is_frame_typed (Sent c d m) = is_identifier_typed m
is_frame_typed x = true

abbrev pub is_frame_typed_at : Placed → Bool
is_frame_typed_at x = is_frame_typed x.1

-- the entry with a message that is sent as it is, since its frame tells it whole; one that is got is taken by its name
abbrev pub framed : ℕ → Info → Entry → Entry
framed u i (Sent c d m) = Sent c d m
framed u i x = named u i x

-- the same at its place
abbrev pub framed_at : ℕ → Info → Placed → Placed
framed_at u i x = (x.0, framed u i x.1)
