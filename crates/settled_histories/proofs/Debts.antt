-- What directly follows what: the entry that the newest one demands, and that each was followed so.
use Rattle.std.proofs.Common.{Bool, true, false, List, Option, Some, None, ℕ, ◌&&◌, [], ◌∷◌}
use Rattle.std.specs.Prelude.{not}
use Rattle.dtx_values.specs.declared.entry.Entry.{Entry}
use Rattle.dtx_values.specs.declared.entry.Entry.TheVariants.{Decided, OwnerAnswered, Voted, PromoteReply, Requested, Sealed, LocalYes, Promoting, Got, Logged}
use Rattle.dtx_values.specs.declared.entry.Request.TheVariants.{Abort, Commit}
use Rattle.dtx_values.specs.declared.message.Conn.{Conn}
use Rattle.dtx_values.specs.declared.message.Conn.TheVariants.{Enl, Begin, Voter}
use Rattle.dtx_values.specs.declared.message.Dir.TheVariants.{Up, Down}
use Rattle.dtx_values.specs.declared.message.Message.TheVariants.{BeginBegin, BeginBegun, BeginCommit, BeginCommitOne, BeginCommitted, VoterVoter, VoterCreated, VoterYes, EnlistEnlist, EnlistEnlisted, EnlistPrepare, EnlistSingle}
use Rattle.dtx_values.specs.declared.number.EnlNo.{EnlNo}
use Rattle.dtx_values.specs.declared.words.Outcome.TheVariants.{Committed}
use Rattle.dtx_values.specs.Ends.{same_connection, knows}
use Rattle.dtx_model.specs.declared.desk.Desk.{Desk}
use Rattle.dtx_model.specs.Words.{has, always, latest}
use Rattle.dtx_model.specs.Entries.{decision_of, is_any_single_sent, is_hand, is_promoted, is_decision, is_asked}
use Rattle.dtx_model.specs.Promotes.{is_under_way}
use Rattle.dtx_model.specs.Observed.{ends_of, handover, observe}
use Rattle.dtx_model.specs.Half.{is_gone, is_handed}
use Rattle.dtx_model.specs.Arrivals.{is_called_off}
use Rattle.dtx_model.specs.Coordinated.{accepts, coordinate, is_active, is_one, is_sole}
use Rattle.history_table.proofs.Messages.{ENLIST, BEGIN, COMMIT, YES}
use Rattle.history_table.proofs.Crossed.{is_sent_on}
use Rattle.history_table.proofs.EntryTests.{is_enlisted, is_volatile_made, has_promotable}
use Rattle.settled_histories.proofs.MessageKinds.{ABORT, ASK, BEGUN, COMMITTED, ENLIST_ANSWER, ONE, VOTE, VOTER, VOTER_ANSWER}

abbrev pub is_decided_committed : Entry → Bool
is_decided_committed (Decided Committed) = true
is_decided_committed _ = false

-- the coordinator knows the connection
abbrev pub knows_there : Conn → List Entry → Bool
knows_there c h = has (same_connection c) (coordinate h).known

abbrev pub when : Bool → (Entry → Bool) → Option (Entry → Bool)
when true q = Some q
when false q = None

-- after CREATED: the ENLIST of the handover, or the promotion is over
abbrev pub created_next : Option EnlNo → Entry → Bool
created_next (Some e) x = is_sent_on (Enl e) Up ENLIST x
created_next None x = is_promoted x

-- after ENLISTED: the promotion is over where it is that of the handover, else the enlistment stands
abbrev pub enlisted_next : Bool → ℕ → Entry → Bool
enlisted_next true e x = is_promoted x
enlisted_next false e x = is_enlisted e x

-- it is under way, and nothing is decided
abbrev pub is_going_up : List Entry → Bool
is_going_up h = is_under_way h && not (has is_decision h)

-- the coordinator knows the connection of the desk's enlistment
abbrev pub is_desk_there : List Entry → Desk → Bool
is_desk_there h d = knows_there (Enl d.enlistment) h

-- what the newest entry demands to follow
abbrev pub debt : List Entry → Entry → Option (Entry → Bool)
debt past (Promoting c) = when (not (has_promotable past)) (is_sent_on Begin Up BEGIN)
debt past (PromoteReply e true) = Some (is_sent_on Begin Up BEGIN)
debt past Sealed = when (has is_promoted past && not (has_promotable past) && knows Begin (ends_of past)) (is_sent_on Begin Up COMMIT)
debt past (Requested e Commit) = when (knows Begin (ends_of past)) (is_sent_on Begin Up COMMIT)
debt past (Requested e Abort) = when (knows Begin (ends_of past)) (is_sent_on Begin Up ABORT)
debt past (OwnerAnswered e x) = when (has is_promoted past && knows (Enl e) (ends_of past)) (is_sent_on (Enl e) Up ONE)
debt past LocalYes = when (knows Voter (ends_of past)) (is_sent_on Voter Up YES)
debt past (Voted e v) = when (not (has (is_volatile_made e.value) past) && knows (Enl e) (ends_of past)) (is_sent_on (Enl e) Up (VOTE v))
debt past Logged = when (knows_there Begin past) (is_sent_on Begin Down COMMITTED)
debt past (Got Begin Up BeginBegin) = Some (is_sent_on Begin Down BEGUN)
debt past (Got Begin Down (BeginBegun u)) = when (is_going_up past) (is_sent_on Voter Up VOTER)
debt past (Got Voter Up (VoterVoter u)) = Some (is_sent_on Voter Down VOTER_ANSWER)
debt past (Got Voter Down VoterCreated) = when (is_going_up past) (created_next (handover past))
debt past (Got (Enl e) Up (EnlistEnlist i)) = Some (is_sent_on (Enl e) Down ENLIST_ANSWER)
debt past (Got (Enl e) Down EnlistEnlisted) = when (not (has is_decision past)) (enlisted_next (is_under_way past && is_handed (handover past) e.value) e.value)
debt past (Got (Enl e) Down EnlistPrepare) = Some (is_asked e.value)
debt past (Got (Enl e) Down EnlistSingle) = when (not (is_called_off (latest decision_of past)) && not (is_gone (observe past) e.value)) (is_hand e.value)
debt past (Got Begin Up BeginCommit) = when (is_active (coordinate past).stage && knows_there Voter past) (is_sent_on Voter Down ASK)
debt past (Got Begin Up BeginCommitOne) = when (accepts (coordinate past) && is_one (coordinate past).desks && knows_there Voter past) (is_sent_on Voter Down ASK)
debt past (Got Voter Up VoterYes) = when (is_sole (coordinate past).stage && has (is_desk_there past) (coordinate past).desks) is_any_single_sent
debt past (Got Begin Down BeginCommitted) = when (not (has is_decision past)) is_decided_committed
debt past _ = None

abbrev pub meets : Option (Entry → Bool) → Entry → Bool
meets (Some q) x = q x
meets None x = true

abbrev pub is_free : Option (Entry → Bool) → Bool
is_free (Some q) = false
is_free None = true

-- the row of each entry: it is what the one before it demands
abbrev pub pays : List Entry → Entry → Bool
pays [] x = true
pays (y ∷ past) x = meets (debt past y) x

abbrev pub paid : List Entry → Bool
paid h = always pays h

-- nothing is owed
abbrev pub owes_none : List Entry → Bool
owes_none [] = true
owes_none (y ∷ past) = is_free (debt past y)
