-- Where the right to commit stands, by the history and by what the local side has seen.
use Rattle.std.specs.Prelude.{Bool, false, ◌&&◌, ◌||◌, not, List, is_some, if◌then◌else◌}
use Rattle.dtx_values.specs.declared.entry.Entry.{Entry}
use Rattle.dtx_values.specs.declared.entry.Entry.TheVariants.{Decided, Handed, Promoting, Promoted, PromotionFailed, Sent}
use Rattle.dtx_values.specs.declared.message.Conn.TheVariants.{Begin}
use Rattle.dtx_values.specs.declared.message.Dir.TheVariants.{Up}
use Rattle.dtx_values.specs.declared.message.Message.TheVariants.{BeginCommit, BeginCommitOne}
use Rattle.dtx_values.specs.Ends.{was_commit_sent}
use Rattle.dtx_model.specs.Words.{has}
use Rattle.dtx_model.specs.Entries.{is_any_hand, is_any_single_sent, is_commit_message, is_decision}
use Rattle.dtx_model.specs.Observed.{Observed}
use Rattle.dtx_model.specs.Promotes.{is_under_way}
use Rattle.promotion.specs.Handover.{place_of}
use Rattle.promotion.specs.declared.handing.Right.{Right}
use Rattle.promotion.specs.declared.handing.Right.TheVariants.{Local, Owner, InFlight, Coordinator, Spent}
use Rattle.local_half.specs.Told.{handover_of}

-- COMMIT was sent to the coordinator, for two phases or for a single one
abbrev pub is_commit_sent : Entry → Bool
is_commit_sent (Sent Begin Up m) = is_commit_message m
is_commit_sent _ = false

-- RightOf: spent where it is decided; else with the owner where the commit was handed over; else with the coordinator where COMMIT was sent; else in flight where a
-- promotion is under way; else at the local side
abbrev pub right_of : List Entry → Right
right_of h =
    if has is_decision h then Spent else if has is_any_hand h then Owner else if has is_commit_sent h then Coordinator else if is_under_way h then InFlight else Local

-- Where the entry leaves the right that stood there. A promotion takes it on its way, and brings it back where it succeeds or fails; from the local side it goes to the owner
-- with the commit, or to the coordinator with COMMIT; from the coordinator it goes on to the owner with the commit; and a decision spends it, wherever it was. Nothing else moves it.
abbrev pub right_after : Entry → Right → Right
right_after (Promoting c) Local = InFlight
right_after (Promoted u c) InFlight = Local
right_after PromotionFailed InFlight = Local
right_after (Handed e) Local = Owner
right_after (Handed e) Coordinator = Owner
right_after (Sent Begin Up BeginCommit) Local = Coordinator
right_after (Sent Begin Up BeginCommitOne) Local = Coordinator
right_after (Decided o) r = Spent
right_after x r = r

-- where the commit was handed over and COMMIT was sent, SINGLE was sent: by it the coordinator handed it on
abbrev pub is_handed_on : List Entry → Bool
is_handed_on h = not (has is_any_hand h && has is_commit_sent h) || has is_any_single_sent h

-- of these three at most one stands: the commit was handed over, COMMIT was sent, and a promotion is under way. After SINGLE the first two may both stand.
abbrev pub is_in_one_place : List Entry → Bool
is_in_one_place h = is_handed_on h && not (has is_any_hand h && is_under_way h) && not (has is_commit_sent h && is_under_way h)

-- the place of the right by what the local side has seen
abbrev pub right_seen : Observed → Right
right_seen o = place_of (is_some o.handed) (was_commit_sent o.ends) (is_some o.decided) (handover_of o)
