-- A message is read back from its connection, its direction and its name.
use Rattle.std.proofs.Common.{◌≡◌, ℕ, true, List, [], ◌∷◌, ◌++◌, codes, refl, ap, ◌∙◌, arith, ◌^◌, ◌<◌}
use Rattle.std.proofs.lemmas.Bool.Decides.{nat_tests}
use Rattle.dtx_values.specs.declared.message.Conn.{Conn}
use Rattle.dtx_values.specs.declared.message.Conn.TheVariants.{Begin, Voter, Enl, Again}
use Rattle.dtx_values.specs.declared.message.Dir.{Dir}
use Rattle.dtx_values.specs.declared.message.Dir.TheVariants.{Up, Down}
use Rattle.dtx_values.specs.declared.message.Info.{Info}
use Rattle.dtx_values.specs.declared.message.Message.{Message}
use Rattle.dtx_values.specs.declared.message.Message.TheVariants.{BeginBegin, BeginCommit, BeginAbort, BeginBegun, BeginCommitted, BeginAborted, BeginCommitOne, BeginInDoubt, VoterVoter, VoterYes, VoterNo, VoterCreated, VoterRefused, VoterAsk, VoterCommit, VoterAbort, VoterInDoubt, EnlistEnlist, EnlistPrepared, EnlistNo, EnlistReadonly, EnlistAck, EnlistEnlisted, EnlistRefused, EnlistPrepare, EnlistCommit, EnlistAbort, EnlistSingle, EnlistOneCommitted, EnlistOneAborted, EnlistOneInDoubt, ReenlistReenlist, ReenlistAck, ReenlistCommitted, ReenlistAborted}
use Rattle.dtx_values.specs.Lines.{has_line}
use Rattle.dtx_model.specs.TraceText.{message_text}
use Rattle.line_tail.specs.Cut.{behind, front}
use Rattle.trace_lines.specs.OneTrace.{by_name, carrying, is_cause_typed}
use Rattle.trace_lines.proofs.TellWords.{chosen, value, value_is}

-- names of one message, with this identifier or this recovery information where it has one
abbrev single : ℕ → Info → List (List ℕ × Message)
single u i =
    (codes "begin", BeginBegin) ∷ (codes "begun", BeginBegun u) ∷ (codes "voter", VoterVoter u) ∷ (codes "yes", VoterYes) ∷ (codes "created", VoterCreated) ∷ (codes "ask", VoterAsk) ∷
    (codes "enlist", EnlistEnlist i) ∷ (codes "prepared", EnlistPrepared) ∷ (codes "readonly", EnlistReadonly) ∷ (codes "enlisted", EnlistEnlisted) ∷
    (codes "prepare", EnlistPrepare) ∷ (codes "reenlist", ReenlistReenlist i) ∷ (codes "commitone", BeginCommitOne) ∷ (codes "single", EnlistSingle) ∷
    (codes "onecommitted", EnlistOneCommitted) ∷ (codes "oneaborted", EnlistOneAborted) ∷ (codes "oneindoubt", EnlistOneInDoubt) ∷ []

-- names that messages share, each with the first of them; the words behind are a refusal's cause
abbrev shared : List ℕ → List (List ℕ × Message)
shared w =
    (codes "commit", BeginCommit) ∷ (codes "abort", BeginAbort) ∷ (codes "committed", BeginCommitted) ∷ (codes "aborted", BeginAborted) ∷ (codes "indoubt", BeginInDoubt) ∷ (codes "no", VoterNo) ∷
    (codes "ack", EnlistAck) ∷ (codes "refused", VoterRefused (value w)) ∷ []

-- the first message of a name
abbrev first_of : ℕ → Info → List ℕ → Message
first_of u i w = chosen (front 32 w) (single u i ++ shared (behind 32 w)) VoterYes

-- the message of this name on this connection in this direction
abbrev pub message_of : ℕ → Info → Conn → Dir → List ℕ → Message
message_of u i c d w = by_name c d (first_of u i w)

-- a message is read back by its name
pub message_is : (u : ℕ) (i : Info) (c : Conn) (d : Dir) (m : Message) → is_cause_typed m ≡ true → message_of u i c d (message_text m) ≡ by_name c d (carrying u i m)
message_is u i c d (VoterRefused n) f =
    let small : n < 2 ^ 64 = grind (arith, nat_tests) in
    ap (λ k. by_name c d (VoterRefused k)) (value_is n small)
message_is u i c d (EnlistRefused n) f =
    let small : n < 2 ^ 64 = grind (arith, nat_tests) in
    ap (λ k. by_name c d (VoterRefused k)) (value_is n small)
message_is u i c d _ f = refl

-- a connection carries no two messages of one name in one direction, so there a name stands for its message
pub own_name : (c : Conn) (d : Dir) (m : Message) → has_line c d m ≡ true → by_name c d m ≡ m
own_name Begin Up BeginBegin h = refl
own_name Begin Up BeginCommit h = refl
own_name Begin Up BeginAbort h = refl
own_name Begin Up BeginCommitOne h = refl
own_name Begin Up _ h = absurd (cc h)
own_name Begin Down BeginCommitted h = refl
own_name Begin Down BeginAborted h = refl
own_name Begin Down BeginInDoubt h = refl
own_name Begin Down (BeginBegun x) h = refl
own_name Begin Down _ h = absurd (cc h)
own_name Voter Up VoterYes h = refl
own_name Voter Up VoterNo h = refl
own_name Voter Up (VoterVoter x) h = refl
own_name Voter Up _ h = absurd (cc h)
own_name Voter Down VoterCreated h = refl
own_name Voter Down VoterAsk h = refl
own_name Voter Down VoterCommit h = refl
own_name Voter Down VoterAbort h = refl
own_name Voter Down VoterInDoubt h = refl
own_name Voter Down (VoterRefused x) h = refl
own_name Voter Down _ h = absurd (cc h)
own_name (Enl e) Up EnlistPrepared h = refl
own_name (Enl e) Up EnlistNo h = refl
own_name (Enl e) Up EnlistReadonly h = refl
own_name (Enl e) Up EnlistAck h = refl
own_name (Enl e) Up EnlistOneCommitted h = refl
own_name (Enl e) Up EnlistOneAborted h = refl
own_name (Enl e) Up EnlistOneInDoubt h = refl
own_name (Enl e) Up (EnlistEnlist x) h = refl
own_name (Enl e) Up _ h = absurd (cc h)
own_name (Enl e) Down EnlistEnlisted h = refl
own_name (Enl e) Down EnlistPrepare h = refl
own_name (Enl e) Down EnlistCommit h = refl
own_name (Enl e) Down EnlistAbort h = refl
own_name (Enl e) Down EnlistSingle h = refl
own_name (Enl e) Down (EnlistRefused x) h = refl
own_name (Enl e) Down _ h = absurd (cc h)
own_name (Again e) Up ReenlistAck h = refl
own_name (Again e) Up (ReenlistReenlist x) h = refl
own_name (Again e) Up _ h = absurd (cc h)
own_name (Again e) Down ReenlistCommitted h = refl
own_name (Again e) Down ReenlistAborted h = refl
own_name (Again e) Down _ h = absurd (cc h)

-- a message with another identifier or other recovery information is carried where it was
same_line : (u : ℕ) (i : Info) (c : Conn) (d : Dir) (m : Message) → has_line c d (carrying u i m) ≡ has_line c d m
same_line u i Begin Up (BeginBegun v) = refl
same_line u i Begin Up _ = refl
same_line u i Begin Down (BeginBegun v) = refl
same_line u i Begin Down _ = refl
same_line u i Voter Up (BeginBegun v) = refl
same_line u i Voter Up _ = refl
same_line u i Voter Down (BeginBegun v) = refl
same_line u i Voter Down _ = refl
same_line u i (Enl e) Up (BeginBegun v) = refl
same_line u i (Enl e) Up _ = refl
same_line u i (Enl e) Down (BeginBegun v) = refl
same_line u i (Enl e) Down _ = refl
same_line u i (Again e) Up (BeginBegun v) = refl
same_line u i (Again e) Up _ = refl
same_line u i (Again e) Down (BeginBegun v) = refl
same_line u i (Again e) Down _ = refl

-- so there it is the one that its name stands for
pub carried_name : (u : ℕ) (i : Info) (c : Conn) (d : Dir) (m : Message) → has_line c d m ≡ true → by_name c d (carrying u i m) ≡ carrying u i m
carried_name u i c d m h = own_name c d (carrying u i m) (same_line u i c d m ∙ h)
