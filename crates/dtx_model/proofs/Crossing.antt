-- WireRun as a test: for a history that is written out it computes.
use Rattle.std.proofs.Common.{◌≡◌, ℕ, ◌==◌, Bool, true, false, ◌&&◌, not, List, [], ◌∷◌, refl, ap, arith}
use Rattle.std.proofs.lemmas.Bool.Decides.{nat_tests}
use Rattle.dtx_values.specs.declared.entry.Entry.{Entry}
use Rattle.dtx_values.specs.declared.entry.Entry.TheVariants.{Got, Down as Ended}
use Rattle.dtx_values.specs.declared.message.Info.{Info}
use Rattle.dtx_values.specs.declared.message.Message.{Message}
use Rattle.dtx_values.specs.declared.message.Message.TheVariants.{BeginBegin, BeginCommit, BeginAbort, BeginCommitOne, BeginInDoubt, VoterInDoubt, EnlistOneCommitted, EnlistOneAborted, EnlistOneInDoubt, EnlistSingle, BeginBegun, BeginCommitted, BeginAborted, VoterVoter, VoterYes, VoterNo, VoterCreated, VoterRefused, VoterAsk, VoterCommit, VoterAbort, EnlistEnlist, EnlistPrepared, EnlistNo, EnlistReadonly, EnlistAck, EnlistEnlisted, EnlistRefused, EnlistPrepare, EnlistCommit, EnlistAbort, ReenlistReenlist, ReenlistAck, ReenlistCommitted, ReenlistAborted}
use Rattle.dtx_model.specs.Words.{always}
use Rattle.dtx_model.specs.Outcome.{is_empty}
use Rattle.dtx_model.specs.Wires.{MayCross, WireRun, in_transit, is_ended, is_lost_wire, is_next}
use Rattle.dtx_model.proofs.Bools.{and_left, and_right}
use Rattle.dtx_values.proofs.SameNumbers.{same_enlistment, same_manager}

abbrev pub same_info : Info → Info → Bool
same_info i j = (i.id == j.id) && ((i.rm.value == j.rm.value) && (i.enl.value == j.enl.value))

abbrev pub same_message : Message → Message → Bool
same_message BeginBegin BeginBegin = true
same_message BeginCommit BeginCommit = true
same_message BeginAbort BeginAbort = true
same_message BeginCommitted BeginCommitted = true
same_message BeginAborted BeginAborted = true
same_message VoterYes VoterYes = true
same_message VoterNo VoterNo = true
same_message VoterCreated VoterCreated = true
same_message VoterAsk VoterAsk = true
same_message VoterCommit VoterCommit = true
same_message VoterAbort VoterAbort = true
same_message EnlistPrepared EnlistPrepared = true
same_message EnlistNo EnlistNo = true
same_message EnlistReadonly EnlistReadonly = true
same_message EnlistAck EnlistAck = true
same_message EnlistEnlisted EnlistEnlisted = true
same_message EnlistPrepare EnlistPrepare = true
same_message EnlistCommit EnlistCommit = true
same_message EnlistAbort EnlistAbort = true
same_message ReenlistAck ReenlistAck = true
same_message ReenlistCommitted ReenlistCommitted = true
same_message ReenlistAborted ReenlistAborted = true
same_message BeginCommitOne BeginCommitOne = true
same_message BeginInDoubt BeginInDoubt = true
same_message VoterInDoubt VoterInDoubt = true
same_message EnlistOneCommitted EnlistOneCommitted = true
same_message EnlistOneAborted EnlistOneAborted = true
same_message EnlistOneInDoubt EnlistOneInDoubt = true
same_message EnlistSingle EnlistSingle = true
same_message (BeginBegun u) (BeginBegun v) = u == v
same_message (VoterVoter u) (VoterVoter v) = u == v
same_message (VoterRefused u) (VoterRefused v) = u == v
same_message (EnlistRefused u) (EnlistRefused v) = u == v
same_message (EnlistEnlist i) (EnlistEnlist j) = same_info i j
same_message (ReenlistReenlist i) (ReenlistReenlist j) = same_info i j
same_message _ _ = false

abbrev pub is_first : Message → List Message → Bool
is_first m [] = false
is_first m (n ∷ ms) = same_message m n

-- MayCross
abbrev pub may_cross : List Entry → Entry → Bool
may_cross past (Got c d m) = is_first m (in_transit c d past)
may_cross past (Ended c d) = is_lost_wire c past && is_empty (in_transit c d past) && not (is_ended c d past)
may_cross past _ = true

-- a test that passes is right
eq_of : (m n : ℕ) → (m == n) ≡ true → m ≡ n
eq_of m n e = grind (arith, nat_tests)

infos : (i j : Info) → same_info i j ≡ true → i ≡ j
infos i j e =
    let number = eq_of i.id j.id (and_left (i.id == j.id) (i.rm.value == j.rm.value && i.enl.value == j.enl.value) e) in
    let rest = and_right (i.id == j.id) (i.rm.value == j.rm.value && i.enl.value == j.enl.value) e in
    let manager = same_manager i.rm j.rm (eq_of i.rm.value j.rm.value (and_left (i.rm.value == j.rm.value) (i.enl.value == j.enl.value) rest)) in
    let enlistment = same_enlistment i.enl j.enl (eq_of i.enl.value j.enl.value (and_right (i.rm.value == j.rm.value) (i.enl.value == j.enl.value) rest)) in
    λ k. record { id = number k; rm = manager k; enl = enlistment k }

messages : (m n : Message) → same_message m n ≡ true → m ≡ n
messages BeginBegin BeginBegin e = refl
messages BeginCommit BeginCommit e = refl
messages BeginAbort BeginAbort e = refl
messages BeginCommitted BeginCommitted e = refl
messages BeginAborted BeginAborted e = refl
messages VoterYes VoterYes e = refl
messages VoterNo VoterNo e = refl
messages VoterCreated VoterCreated e = refl
messages VoterAsk VoterAsk e = refl
messages VoterCommit VoterCommit e = refl
messages VoterAbort VoterAbort e = refl
messages EnlistPrepared EnlistPrepared e = refl
messages EnlistNo EnlistNo e = refl
messages EnlistReadonly EnlistReadonly e = refl
messages EnlistAck EnlistAck e = refl
messages EnlistEnlisted EnlistEnlisted e = refl
messages EnlistPrepare EnlistPrepare e = refl
messages EnlistCommit EnlistCommit e = refl
messages EnlistAbort EnlistAbort e = refl
messages ReenlistAck ReenlistAck e = refl
messages ReenlistCommitted ReenlistCommitted e = refl
messages ReenlistAborted ReenlistAborted e = refl
messages BeginCommitOne BeginCommitOne e = refl
messages BeginInDoubt BeginInDoubt e = refl
messages VoterInDoubt VoterInDoubt e = refl
messages EnlistOneCommitted EnlistOneCommitted e = refl
messages EnlistOneAborted EnlistOneAborted e = refl
messages EnlistOneInDoubt EnlistOneInDoubt e = refl
messages EnlistSingle EnlistSingle e = refl
messages (BeginBegun u) (BeginBegun v) e = ap BeginBegun (eq_of u v e)
messages (VoterVoter u) (VoterVoter v) e = ap VoterVoter (eq_of u v e)
messages (VoterRefused u) (VoterRefused v) e = ap VoterRefused (eq_of u v e)
messages (EnlistRefused u) (EnlistRefused v) e = ap EnlistRefused (eq_of u v e)
messages (EnlistEnlist i) (EnlistEnlist j) e = ap EnlistEnlist (infos i j e)
messages (ReenlistReenlist i) (ReenlistReenlist j) e = ap ReenlistReenlist (infos i j e)
messages _ _ e = absurd cc

first_crosses : (m : Message) (ms : List Message) → is_first m ms ≡ true → is_next m ms
first_crosses m [] e = absurd cc
first_crosses m (n ∷ ms) e = messages m n e

crosses : (past : List Entry) (x : Entry) → may_cross past x ≡ true → MayCross past x
crosses past (Got c d m) e = first_crosses m (in_transit c d past) e
crosses past (Ended c d) e = e
crosses past _ e = tt

pub wired : (h : List Entry) → always may_cross h ≡ true → WireRun h
wired [] e = tt
wired (x ∷ past) e = (crosses past x (and_left (may_cross past x) (always may_cross past) e), wired past (and_right (may_cross past x) (always may_cross past) e))
