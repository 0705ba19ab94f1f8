-- What is said of appends to the log: what stands before one, and that none comes once an abort is decided.
use Rattle.std.specs.Prelude.{Bool, true, false, ◌&&◌, ◌||◌, not, List}
use Rattle.dtx_values.specs.declared.entry.Entry.{Entry}
use Rattle.dtx_values.specs.declared.entry.Entry.TheVariants.{Decided, OwnerAnswered}
use Rattle.dtx_values.specs.declared.message.Conn.TheVariants.{Enl}
use Rattle.dtx_values.specs.declared.message.Dir.TheVariants.{Up}
use Rattle.dtx_values.specs.declared.message.Message.{Message}
use Rattle.dtx_values.specs.declared.message.Message.TheVariants.{EnlistNo, EnlistPrepared, EnlistReadonly}
use Rattle.dtx_values.specs.declared.number.EnlNo.{EnlNo}
use Rattle.dtx_values.specs.declared.words.Outcome.TheVariants.{Aborted, Committed}
use Rattle.dtx_model.specs.Words.{all_of, each, has}
use Rattle.dtx_model.specs.Entries.{is_any_single_sent, is_commit_got, is_vote_got, is_yes, is_yes_got}
use Rattle.dtx_model.specs.Outcome.{ready}
use Rattle.dtx_model.specs.Learned.{coordinator_aborted}
use Rattle.dtx_model.specs.Wires.{in_transit, is_lost_wire}
use Rattle.dtx_model.specs.Coordinated.{coordinate, may_log}
use Rattle.dtx_model.specs.Tied.{before_first_stop, can_log, enlist_got, has_mark, is_logged, is_stop}

-- the outcome is decided to be aborted
abbrev pub is_abort_decision : Entry → Bool
is_abort_decision (Decided Aborted) = true
is_abort_decision _ = false

-- an append may be tried here, or was done, or there is a record
abbrev pub has_append : List Entry → Bool
has_append h = may_log (coordinate h) || has is_logged h || has_mark h

-- where the log stopped first, an append could be tried: it may have been tried in the step that stopped
abbrev pub stopped_at_append : List Entry → Bool
stopped_at_append h = has is_stop h && can_log (before_first_stop h)

-- a vote of an enlistment
abbrev pub is_vote_message : Message → Bool
is_vote_message EnlistPrepared = true
is_vote_message EnlistNo = true
is_vote_message EnlistReadonly = true
is_vote_message _ = false

-- this enlistment's vote never comes to the coordinator: none was got, its connection is lost, and none is left on it
abbrev pub never_votes : List Entry → EnlNo → Bool
never_votes h e = not (has (is_vote_got e.value) h) && is_lost_wire (Enl e) h && not (has is_vote_message (in_transit (Enl e) Up h))

-- an owner answered committed
abbrev pub is_owner_commit : Entry → Bool
is_owner_commit (OwnerAnswered e Committed) = true
is_owner_commit _ = false

-- no append comes any more: the local side said no yes, the coordinator aborted or let one decide, or the vote of one whose ENLIST it got never comes
abbrev pub is_append_barred : List Entry → Bool
is_append_barred h = not (has is_yes h) || coordinator_aborted h || has is_any_single_sent h || has (λ i. never_votes h i.enl) (all_of enlist_got h)

-- no commit comes any more: no append does, and no owner answered committed
abbrev pub is_barred : List Entry → Bool
is_barred h = is_append_barred h && not (has is_owner_commit h)

-- the coordinator got the vote of each enlistment whose ENLIST it got
abbrev pub are_votes_got : List Entry → Bool
are_votes_got h = each (λ i. has (is_vote_got i.enl.value) h) (all_of enlist_got h)

-- what an append needs: the transaction is ready, and COMMIT, YES and each vote were got
abbrev pub backs_append : List Entry → Bool
backs_append h = ready h && has is_commit_got h && has is_yes_got h && are_votes_got h
