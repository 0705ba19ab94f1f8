-- What is so of the connections between the two sides where nothing is pending and nothing is decided.
use Rattle.std.proofs.Common.{◌≡◌, true, false, List}
use Rattle.dtx_values.specs.declared.entry.Entry.{Entry}
use Rattle.dtx_values.specs.declared.message.Conn.{Conn}
use Rattle.dtx_values.specs.declared.message.Conn.TheVariants.{Begin, Voter, Enl}
use Rattle.dtx_values.specs.declared.message.Dir.TheVariants.{Up}
use Rattle.dtx_values.specs.declared.number.EnlNo.{EnlNo}
use Rattle.dtx_model.specs.Words.{has}
use Rattle.dtx_model.specs.Entries.{is_yes}
use Rattle.dtx_model.specs.Coordinated.{coordinate}
use Rattle.dtx_model.specs.Wires.{is_lost_wire}
use Rattle.history_table.proofs.Crossed.{is_got_on}
use Rattle.history_table.proofs.Messages.{COMMIT, VOTED, YES}
use Rattle.settled_histories.proofs.Awaits.{awaits}
use Rattle.settled_histories.proofs.Wired.{IsFirm}
use Rattle.settled_histories.proofs.Fine.{is_pair}

-- The coordinator has decided nothing. Before the local yes b and v are firm. Where b was lost, COMMIT was got; where v was, YES was got; and where the connection of an enlistment was, its vote
-- was got.
pub record IsJoined (h : List Entry) : Type 0 where
  pub undecided : awaits (coordinate h).stage ≡ true
  pub early : (c : Conn) → is_pair c ≡ true → has is_yes h ≡ false → IsFirm c h
  pub commit : is_lost_wire Begin h ≡ true → has (is_got_on Begin Up COMMIT) h ≡ true
  pub yes : is_lost_wire Voter h ≡ true → has (is_got_on Voter Up YES) h ≡ true
  pub cast : (e : EnlNo) → is_lost_wire (Enl e) h ≡ true → has (is_got_on (Enl e) Up VOTED) h ≡ true
