-- Histories of promotions, with their messages, losses and a stop, good and bad, that compute. Each stands oldest first.
use Rattle.std.proofs.Common.{◌≡◌, ℕ, true, false, List, [], ◌∷◌, refl, lit≤, Some}
use Rattle.dtx_values.specs.declared.entry.Answer.TheVariants.{Fine, Wait, Id, OutcomeIs, StillOpen, Ended}
use Rattle.dtx_values.specs.declared.entry.Ask.TheVariants.{Prepare}
use Rattle.dtx_values.specs.declared.entry.Entry.{Entry}
use Rattle.dtx_values.specs.declared.entry.Entry.TheVariants.{Called, Answered, Began, Enlisted, CommitAsked, Asked, Voted, Sealed, LocalYes, Decided, Told, Promoting, Promoted, PromotionFailed, Sent, Got, Cut, Down as End, Logged, Freed, Stopped, Restarted, Reenlisted, Acked}
use Rattle.dtx_values.specs.declared.entry.Party.TheVariants.{Client, Enl}
use Rattle.dtx_values.specs.declared.message.Conn.TheVariants.{Begin, Voter, Enl as OnEnl, Again}
use Rattle.dtx_values.specs.declared.message.Dir.TheVariants.{Up, Down}
use Rattle.dtx_values.specs.declared.message.Info.{Info}
use Rattle.dtx_values.specs.declared.message.Message.TheVariants.{BeginBegin, BeginCommit, BeginAbort, BeginBegun, BeginCommitted, VoterVoter, VoterYes, VoterCreated, VoterAsk, VoterCommit, EnlistEnlist, EnlistPrepared, EnlistAck, EnlistEnlisted, EnlistPrepare, EnlistCommit, EnlistAbort, ReenlistReenlist, ReenlistAck, ReenlistCommitted}
use Rattle.dtx_values.specs.declared.script.Body.TheVariants.{Begin as BeginLine, Durable as DurableLine, Marshal as MarshalLine}
use Rattle.dtx_values.specs.declared.script.Line.{Line}
use Rattle.dtx_values.specs.declared.script.Support.TheVariants.{TwoPhase}
use Rattle.dtx_values.specs.declared.words.Timeout.TheVariants.{Default}
use Rattle.dtx_values.specs.declared.words.Cause.TheVariants.{Two, Marshal as MarshalCause}
use Rattle.dtx_values.specs.declared.words.Class.TheVariants.{DurableTwo}
use Rattle.dtx_values.specs.declared.words.Outcome.TheVariants.{Committed, Aborted, InDoubt}
use Rattle.dtx_values.specs.declared.words.Vote.TheVariants.{Yes}
use Rattle.dtx_model.specs.Words.{past_of}
use Rattle.dtx_model.specs.Outcome.{ready, by_seal, by_owner, by_log, evidence, vetoed, owner_doubt, coordinator_doubt, single_doubt, doubt, may_tell, justified, agree}
use Rattle.dtx_values.specs.Owners.{cause_of}
use Rattle.dtx_model.specs.Promotes.{ends_refused, promotes}
use Rattle.dtx_model.specs.Wires.{MayCross, WireRun, in_transit}
use Rattle.script_histories.proofs.Examples.{agree_in, just_in}
use Rattle.dtx_model.proofs.Cast.{a1, e1, e2, t1}

-- the identifier of t1
abbrev u1 : ℕ
u1 = 18446744073709551617

-- recovery information of e1
abbrev info1 : Info
info1 = record { id = u1; rm = record { value = 1; in_range = (lit≤ tt, lit≤ tt) }; enl = e1 }

-- `a1 begin t1 default`, `a1 marshal t1`
abbrev marshalled : List Line
marshalled = record { actor = a1; body = BeginLine t1 Default } ∷ record { actor = a1; body = MarshalLine t1 } ∷ []

-- `a1 begin t1 default`, `a1 durable t1 e1 r1 two yes`
abbrev two_phase : List Line
two_phase = record { actor = a1; body = BeginLine t1 Default } ∷ record { actor = a1; body = DurableLine t1 e1 info1.rm (TwoPhase (Some Yes)) } ∷ []

-- a marshalled transaction with a two-phase durable commits
abbrev over_the_wire : List Entry
over_the_wire =
    Called 1 a1 Fine ∷ Began 60000 ∷ Called 2 a1 Wait ∷ Promoting MarshalCause ∷ Sent Begin Up BeginBegin ∷ Got Begin Up BeginBegin
    ∷ Sent Begin Down (BeginBegun u1) ∷ Got Begin Down (BeginBegun u1) ∷ Sent Voter Up (VoterVoter u1) ∷ Got Voter Up (VoterVoter u1)
    ∷ Sent Voter Down VoterCreated ∷ Got Voter Down VoterCreated ∷ Promoted u1 MarshalCause ∷ Answered 2 (Id u1) ∷ Called 3 a1 StillOpen
    ∷ Called 4 a1 Wait ∷ Sent (OnEnl e1) Up (EnlistEnlist info1) ∷ Called 5 a1 Fine ∷ CommitAsked ∷ Got (OnEnl e1) Up (EnlistEnlist info1)
    ∷ Sent (OnEnl e1) Down EnlistEnlisted ∷ Got (OnEnl e1) Down EnlistEnlisted ∷ Enlisted e1 DurableTwo ∷ Answered 4 Fine ∷ Sealed
    ∷ Sent Begin Up BeginCommit ∷ Got Begin Up BeginCommit ∷ Sent Voter Down VoterAsk ∷ Sent (OnEnl e1) Down EnlistPrepare ∷ Got Voter Down VoterAsk
    ∷ LocalYes ∷ Sent Voter Up VoterYes ∷ Got Voter Up VoterYes ∷ Got (OnEnl e1) Down EnlistPrepare ∷ Asked e1 Prepare ∷ Voted e1 Yes
    ∷ Sent (OnEnl e1) Up EnlistPrepared ∷ Got (OnEnl e1) Up EnlistPrepared ∷ Logged ∷ Sent Begin Down BeginCommitted ∷ Sent Voter Down VoterCommit
    ∷ Sent (OnEnl e1) Down EnlistCommit ∷ Got Begin Down BeginCommitted ∷ Decided Committed ∷ Told Client Committed ∷ Got Voter Down VoterCommit
    ∷ Got (OnEnl e1) Down EnlistCommit ∷ Told (Enl e1) Committed ∷ Acked e1 ∷ Sent (OnEnl e1) Up EnlistAck ∷ Got (OnEnl e1) Up EnlistAck ∷ Freed ∷ []

-- it is promoted in order
over_the_wire_promotes : promotes marshalled 1 (past_of over_the_wire) ≡ true
unfolding promotes cause_of
over_the_wire_promotes = refl

-- what is got was sent
over_the_wire_runs : WireRun (past_of over_the_wire)
over_the_wire_runs =
    (tt, (refl, (tt, (tt, (tt, (refl, (refl, (tt, (tt, (refl, (tt, (tt, (tt, (tt, (refl, (tt, (tt, (tt, (refl, (refl, (tt, (tt, (refl, (tt, (tt, (refl, (tt, (tt, (tt, (tt, (refl, (tt, (refl, (tt, (tt, (tt, (tt, (tt, (tt, (tt, (refl, (tt, (refl, (tt, (refl, (tt, (refl, (tt, (tt, (tt, (tt, (tt, tt))))))))))))))))))))))))))))))))))))))))))))))))))))

-- what is told is just
over_the_wire_is_just : just_in over_the_wire ≡ true
unfolding justified may_tell evidence ready by_seal by_owner by_log vetoed doubt owner_doubt coordinator_doubt single_doubt
over_the_wire_is_just = refl

-- and its outcomes agree
over_the_wire_agrees : agree_in over_the_wire ≡ true
unfolding agree
over_the_wire_agrees = refl

-- the first connection is lost
abbrev begin_lost : List Entry
begin_lost =
    Called 1 a1 Fine ∷ Began 60000 ∷ Called 2 a1 Wait ∷ Promoting MarshalCause ∷ Sent Begin Up BeginBegin ∷ Called 3 a1 Fine ∷ Cut Begin 0 0
    ∷ End Begin Up ∷ End Begin Down ∷ PromotionFailed ∷ Decided Aborted ∷ Answered 2 (Ended Aborted) ∷ Told Client Aborted ∷ []

-- it is promoted in order
begin_lost_promotes : promotes marshalled 1 (past_of begin_lost) ≡ true
unfolding promotes cause_of
begin_lost_promotes = refl

-- what is got was sent
begin_lost_runs : WireRun (past_of begin_lost)
begin_lost_runs =
    (tt, (tt, (tt, (tt, (refl, (refl, (tt, (tt, (tt, (tt, (tt, (tt, (tt, tt)))))))))))))

-- what is told is just
begin_lost_is_just : just_in begin_lost ≡ true
unfolding justified may_tell evidence ready by_seal by_owner by_log vetoed doubt owner_doubt coordinator_doubt single_doubt
begin_lost_is_just = refl

-- and its outcomes agree
begin_lost_agrees : agree_in begin_lost ≡ true
unfolding agree
begin_lost_agrees = refl

-- the coordinator stops in the append, and finds the record again; the durable comes back
abbrev stopped_at_the_gate : List Entry
stopped_at_the_gate =
    Called 1 a1 Fine ∷ Began 60000 ∷ Called 2 a1 Wait ∷ Promoting Two ∷ Sent Begin Up BeginBegin ∷ Called 3 a1 Fine ∷ CommitAsked
    ∷ Got Begin Up BeginBegin ∷ Sent Begin Down (BeginBegun u1) ∷ Got Begin Down (BeginBegun u1) ∷ Sent Voter Up (VoterVoter u1)
    ∷ Got Voter Up (VoterVoter u1) ∷ Sent Voter Down VoterCreated ∷ Got Voter Down VoterCreated ∷ Promoted u1 Two
    ∷ Sent (OnEnl e1) Up (EnlistEnlist info1) ∷ Got (OnEnl e1) Up (EnlistEnlist info1) ∷ Sent (OnEnl e1) Down EnlistEnlisted
    ∷ Got (OnEnl e1) Down EnlistEnlisted ∷ Enlisted e1 DurableTwo ∷ Answered 2 Fine ∷ Sealed ∷ Sent Begin Up BeginCommit ∷ Got Begin Up BeginCommit
    ∷ Sent Voter Down VoterAsk ∷ Sent (OnEnl e1) Down EnlistPrepare ∷ Got Voter Down VoterAsk ∷ LocalYes ∷ Sent Voter Up VoterYes
    ∷ Got Voter Up VoterYes ∷ Got (OnEnl e1) Down EnlistPrepare ∷ Asked e1 Prepare ∷ Voted e1 Yes ∷ Sent (OnEnl e1) Up EnlistPrepared
    ∷ Got (OnEnl e1) Up EnlistPrepared ∷ Stopped ∷ End Begin Down ∷ End Voter Down ∷ Decided InDoubt ∷ Told Client InDoubt ∷ End (OnEnl e1) Down
    ∷ Called 5 a1 (OutcomeIs InDoubt) ∷ Restarted true ∷ Called 7 a1 Fine ∷ Reenlisted e1 ∷ Sent (Again e1) Up (ReenlistReenlist info1)
    ∷ Got (Again e1) Up (ReenlistReenlist info1) ∷ Sent (Again e1) Down ReenlistCommitted ∷ Got (Again e1) Down ReenlistCommitted
    ∷ Told (Enl e1) Committed ∷ Acked e1 ∷ Sent (Again e1) Up ReenlistAck ∷ Got (Again e1) Up ReenlistAck ∷ Freed ∷ []

-- it is promoted in order
stopped_at_the_gate_promotes : promotes two_phase 1 (past_of stopped_at_the_gate) ≡ true
unfolding promotes cause_of
stopped_at_the_gate_promotes = refl

-- what is got was sent
stopped_at_the_gate_runs : WireRun (past_of stopped_at_the_gate)
stopped_at_the_gate_runs =
    (tt, (refl, (tt, (tt, (tt, (refl, (tt, (refl, (tt, (tt, (tt, (tt, (tt, (refl, (tt, (tt, (refl, (refl, (tt, (refl, (tt, (tt, (tt, (refl, (refl, (tt, (tt, (refl, (tt, (tt, (refl, (tt, (tt, (tt, (tt, (refl, (tt, (refl, (tt, (tt, (refl, (tt, (refl, (tt, (refl, (tt, (refl, (tt, (tt, (tt, (tt, (tt, (tt, (tt, tt))))))))))))))))))))))))))))))))))))))))))))))))))))))

-- what is told is just: the client in doubt, and the durable the logged outcome
stopped_at_the_gate_is_just : just_in stopped_at_the_gate ≡ true
unfolding justified may_tell evidence ready by_seal by_owner by_log vetoed doubt owner_doubt coordinator_doubt single_doubt
stopped_at_the_gate_is_just = refl

-- and its outcomes agree
stopped_at_the_gate_agrees : agree_in stopped_at_the_gate ≡ true
unfolding agree
stopped_at_the_gate_agrees = refl

-- a promotion without messages
silent_promotion : promotes marshalled 1 (past_of (Called 1 a1 Fine ∷ Began 60000 ∷ Called 2 a1 Wait ∷ Promoting MarshalCause ∷ Promoted u1 MarshalCause ∷ [])) ≡ false
unfolding promotes cause_of
silent_promotion = refl

-- BEGIN, COMMIT and ABORT are on the way, and a loss keeps the first two
abbrev cut_behind_two : List Entry
cut_behind_two = past_of (Sent Begin Up BeginBegin ∷ Sent Begin Up BeginCommit ∷ Sent Begin Up BeginAbort ∷ Cut Begin 2 0 ∷ [])

two_in_transit : in_transit Begin Up cut_behind_two ≡ BeginBegin ∷ BeginCommit ∷ []
two_in_transit = refl

-- the end comes after them and not before, and once
no_early_end : MayCross cut_behind_two (End Begin Up) → ⊥
no_early_end early = cc early

no_second_end : MayCross (End Begin Down ∷ cut_behind_two) (End Begin Down) → ⊥
no_second_end again = cc again

-- what is opened while the coordinator stands stopped is lost at once: the local side sees its end, and the coordinator never does
abbrev opened_while_stopped : List Entry
opened_while_stopped = past_of (Sent Begin Up BeginBegin ∷ Stopped ∷ Sent (OnEnl e1) Up (EnlistEnlist info1) ∷ [])

nothing_in_transit : in_transit (OnEnl e1) Up opened_while_stopped ≡ []
nothing_in_transit = refl

local_end : MayCross opened_while_stopped (End (OnEnl e1) Down)
local_end = refl

no_end_above : MayCross opened_while_stopped (End (OnEnl e1) Up) → ⊥
no_end_above seen = cc seen

-- a promotion fails after the abort of an enlistment, also where that one was told first; after another's telling it doesn't
told_first : (past : List Entry) → ends_refused (Told (Enl e1) Aborted ∷ Got (OnEnl e1) Down EnlistAbort ∷ past) ≡ true
told_first past = refl

another_told : (past : List Entry) → ends_refused (Told (Enl e2) Aborted ∷ Got (OnEnl e1) Down EnlistAbort ∷ past) ≡ false
another_told past = refl
