-- A history at rest: the rows of the table of rules, and what is so at the end of a block, of which completeness makes use.
use Rattle.std.proofs.Common.{◌≡◌, Bool, true, false, ◌&&◌, ◌||◌, List, []}
use Rattle.std.specs.Prelude.{not}
use Rattle.dtx_values.specs.declared.entry.Entry.{Entry}
use Rattle.dtx_values.specs.declared.entry.Entry.TheVariants.{Voted, Requested, LocalYes, Promoting, Promoted, Sent, Got, Logged, Freed}
use Rattle.dtx_values.specs.declared.message.Conn.{Conn}
use Rattle.dtx_values.specs.declared.message.Conn.TheVariants.{Begin, Voter, Enl}
use Rattle.dtx_values.specs.declared.message.Dir.{Dir}
use Rattle.dtx_values.specs.declared.message.Dir.TheVariants.{Up, Down}
use Rattle.dtx_values.specs.declared.message.Message.TheVariants.{BeginCommit, BeginCommitOne, EnlistEnlist, EnlistPrepare, EnlistPrepared, EnlistReadonly, EnlistSingle, VoterAsk, VoterYes}
use Rattle.dtx_values.specs.declared.number.EnlNo.{EnlNo}
use Rattle.dtx_values.specs.Clones.{is_open_block}
use Rattle.dtx_values.specs.Lines.{is_opening}
use Rattle.dtx_values.specs.Waves.{zeros_voted}
use Rattle.dtx_model.specs.Words.{has, each, always}
use Rattle.dtx_model.specs.Entries.{is_asked, is_commit, is_decision, is_hand, is_lost, is_owner_answer, is_promoted, is_record, is_sealed, is_vote, is_yes}
use Rattle.dtx_model.specs.Observed.{clone_rows, is_ask_promote, is_ask_single, is_promote_reply, is_request, rows}
use Rattle.dtx_model.specs.Promotes.{is_promoting}
use Rattle.dtx_model.specs.Tied.{is_logged}
use Rattle.dtx_model.specs.Wires.{in_transit}
use Rattle.dtx_model.specs.Coordinated.{coordinate, has_desk, is_sole, may_log}
use Rattle.dtx_model.specs.declared.waiting.EnteredCall.{EnteredCall}
use Rattle.dtx_model.specs.Waiting.{waiting}
use Rattle.dtx_model.specs.Half.{half_of}
use Rattle.dtx_model.specs.Acts.{act_entries}
use Rattle.history_table.proofs.EntryTests.{is_enlisted, is_volatile_made}
use Rattle.history_table.proofs.NextActs.{has_answered}
use Rattle.settled_histories.proofs.MessageKinds.{ASK, BEGUN, CREATED}
use Rattle.history_table.proofs.Messages.{COMMIT, COMMIT_ONE, COMMIT_TWO, ENLIST, PREPARE, VOTED}
use Rattle.settled_histories.proofs.Fine.{IsFine}
use Rattle.settled_histories.proofs.Joined.{IsJoined}
use Rattle.settled_histories.proofs.Debts.{owes_none, paid, pays}
use Rattle.history_table.proofs.Waiters.{is_on_its_way, is_unplaced}
use Rattle.history_table.proofs.Crossed.{is_sent_on, is_got_on}

-- Rows of the table of rules: what is sent is sent after `promoting`, which comes once.
abbrev pub is_after_start : List Entry → Entry → Bool
is_after_start past (Sent c d m) = has is_promoting past
is_after_start past (Promoting c) = not (has is_promoting past)
is_after_start past x = true

-- A promotion is over after BEGUN and CREATED, and before the seal. A request comes after it, and so does COMMIT. The coordinator sends where it got the
-- opening message. The local yes comes once and after ASK, the record after COMMIT, and the vote of a durable after PREPARE.
abbrev pub is_sound : List Entry → Entry → Bool
is_sound past (Promoted u c) = has (is_got_on Begin Down BEGUN) past && has (is_got_on Voter Down CREATED) past && not (has is_sealed past)
is_sound past (Requested e x) = has is_promoted past
is_sound past (Sent c Down m) = has (is_got_on c Up (is_opening c)) past
is_sound past (Sent Begin Up BeginCommit) = has is_promoted past
is_sound past (Sent Begin Up BeginCommitOne) = has is_promoted past
is_sound past LocalYes = has (is_got_on Voter Down ASK) past && not (has is_yes past)
is_sound past Logged = has (is_got_on Begin Up COMMIT) past
is_sound past (Voted e v) = has (is_volatile_made e.value) past || has (is_got_on (Enl e) Down PREPARE) past
is_sound past x = true

-- A record is freed where there is one. ENLIST comes to the coordinator before COMMIT, which comes before ASK is sent, and for two phases before PREPARE; and a vote is sent after PREPARE. SINGLE is
-- sent to the one enlistment that came, where COMMIT was got for a single phase and nothing came of it yet; and YES where the local side said yes.
abbrev pub is_ordered : List Entry → Entry → Bool
is_ordered past Freed = has is_record past
is_ordered past (Got (Enl e) Up (EnlistEnlist i)) = not (has (is_got_on Begin Up COMMIT) past)
is_ordered past (Sent (Enl e) Up EnlistPrepared) = has (is_got_on (Enl e) Down PREPARE) past
is_ordered past (Sent (Enl e) Up EnlistReadonly) = has (is_got_on (Enl e) Down PREPARE) past
is_ordered past (Sent (Enl e) Down EnlistPrepare) = has (is_got_on Begin Up COMMIT_TWO) past
is_ordered past (Sent (Enl e) Down EnlistSingle) = has (is_got_on Begin Up COMMIT_ONE) past && (is_sole (coordinate past).stage && has_desk (coordinate past) e.value)
is_ordered past (Sent Voter Up VoterYes) = has is_yes past
is_ordered past (Sent Voter Down VoterAsk) = has (is_got_on Begin Up COMMIT) past
is_ordered past x = true

-- What is sent upward on v or on an enlistment's connection is sent after BEGUN.
abbrev pub is_begun : List Entry → Entry → Bool
is_begun past (Sent Voter Up m) = has (is_got_on Begin Down BEGUN) past
is_begun past (Sent (Enl e) Up m) = has (is_got_on Begin Down BEGUN) past
is_begun past x = true

-- COMMIT, of either name, is got once.
abbrev pub is_once_committed : List Entry → Entry → Bool
is_once_committed past (Got Begin Up m) = not (COMMIT m) || not (has (is_got_on Begin Up COMMIT) past)
is_once_committed past x = true

-- each demand was met, and nothing is on the way
pub record IsQuiet (h : List Entry) : Type 0 where
  pub paid : paid h ≡ true
  pub free : owes_none h ≡ true
  pub empty : (c : Conn) (d : Dir) → in_transit c d h ≡ []

-- A history in which a promotion began and can't go on, by the calls that were entered: no message is pending, no act of the local side and no reply to promote; and nothing
-- bad came, unless something is decided.
pub record IsUnmoved (ks : List EnteredCall) (h : List Entry) : Type 0 where
  -- where nothing is decided, nothing bad came, and the connections that were lost had carried what they were to carry
  pub fine : has is_decision h ≡ false → IsFine h
  pub joined : has is_decision h ≡ false → IsJoined h
  -- by the table of rules; an enlistment whose vote was got stands
  pub later : always is_after_start h ≡ true
  pub sound : always is_sound h ≡ true
  pub ordered : always is_ordered h ≡ true
  pub stood : (e : EnlNo) → has (is_got_on (Enl e) Up VOTED) h ≡ true → has (is_enlisted e.value) h ≡ true
  pub paying : always pays h ≡ true
  -- at the end of a block: nothing is owed; after the promotion each call that waits has its ENLIST sent, and its enlistment doesn't stand
  pub free : owes_none h ≡ true
  pub waits : has is_promoted h ≡ true → each (is_on_its_way h) (waiting ks h) ≡ true
  pub unplaced : each (is_unplaced h) (waiting ks h) ≡ true
  -- nothing is pending: no message, no act of the local side, and no reply to promote
  pub empty : (c : Conn) (d : Dir) → in_transit c d h ≡ []
  pub act : act_entries (half_of ks h) ≡ []
  pub replied : has is_decision h ≡ false → has is_promoted h ≡ false → has is_ask_promote h ≡ true → has is_promote_reply h ≡ true
  pub started : has is_promoting h ≡ true

-- A history at rest: the commit was asked for too, no blocking clone is open, and nothing at all is pending.
pub record IsAtRest (ks : List EnteredCall) (h : List Entry) : Type 0 where
  pub unmoved : IsUnmoved ks h
  -- by the table of rules
  pub begun : always is_begun h ≡ true
  -- by the table and the rows: after the seal each Zero voted, and no blocking clone is open
  pub zeros : has is_sealed h ≡ true → zeros_voted (rows h) ≡ true
  pub closed : has is_open_block (clone_rows h) ≡ false
  pub once : always is_once_committed h ≡ true
  -- at the end of a block: after COMMIT for two phases, while nothing is logged, each enlistment at the coordinator has its PREPARE sent; and none of these is volatile
  pub prepares : has is_decision h ≡ false → has is_logged h ≡ false → has (is_got_on Begin Up COMMIT_TWO) h ≡ true → (e : EnlNo) → has (is_got_on (Enl e) Up ENLIST) h ≡ true → has (is_sent_on (Enl e) Down PREPARE) h ≡ true
  pub lasting : (e : EnlNo) → has (is_got_on (Enl e) Up ENLIST) h ≡ true → has (is_volatile_made e.value) h ≡ false
  -- no act of the coordinator is pending, and no other reply
  pub append : may_log (coordinate h) ≡ false
  pub answered : has is_decision h ≡ false → has is_logged h ≡ false → each has_answered (rows h) ≡ true
  pub voted : has is_decision h ≡ false → has is_logged h ≡ false → (e : EnlNo) → has (is_asked e.value) h ≡ true → has (is_vote e.value) h ≡ true
  pub requested : has is_decision h ≡ false → has is_ask_single h ≡ true → has is_request h ≡ true
  -- who was handed the commit has answered; but an answer would have come to the coordinator, and whoever was lost had voted
  pub owned : has is_decision h ≡ false → (e : EnlNo) → has (is_hand e.value) h ≡ true → has is_owner_answer h ≡ true
  pub unanswered : has is_decision h ≡ false → has is_owner_answer h ≡ false
  pub spared : has is_decision h ≡ false → (e : EnlNo) → has (is_lost e.value) h ≡ true → has (is_vote e.value) h ≡ true
  pub asked : has is_commit h ≡ true
