-- The worked histories keep the table, and their restarts find what may be found. So the table isn't too narrow for a promotion, a loss, a stop or a reenlistment.
use Rattle.std.proofs.Common.{◌≡◌, Bool, true, false, ◌&&◌, List, [], ◌∷◌, ◌++◌, refl}
use Rattle.std.specs.Prelude.{not}
use Rattle.dtx_values.specs.declared.entry.Entry.{Entry}
use Rattle.dtx_values.specs.declared.entry.Ask.TheVariants.{Prepare}
use Rattle.dtx_values.specs.declared.entry.Entry.TheVariants.{Asked, Decided, Enlisted, Freed, LocalYes, LogFull, Logged, Promoted, Promoting, Restarted, RollbackAsked, Sealed, Sent, Stopped, TimedOut, Told, Voted}
use Rattle.dtx_values.specs.declared.entry.Party.TheVariants.{Client, Enl as Member}
use Rattle.dtx_values.specs.declared.message.Conn.TheVariants.{Again, Begin, Enl, Voter}
use Rattle.dtx_values.specs.declared.message.Dir.TheVariants.{Down, Up}
use Rattle.dtx_values.specs.declared.message.Message.TheVariants.{BeginBegun, BeginCommit, BeginCommitted, EnlistAbort, ReenlistAborted, VoterVoter}
use Rattle.dtx_values.specs.declared.words.Cause.TheVariants.{Two}
use Rattle.dtx_values.specs.declared.words.Class.TheVariants.{DurableTwo}
use Rattle.dtx_values.specs.declared.words.Outcome.TheVariants.{Aborted, Committed, InDoubt}
use Rattle.dtx_values.specs.declared.words.Vote.TheVariants.{No}
use Rattle.dtx_model.specs.Words.{each, past_of}
use Rattle.dtx_model.proofs.Cast.{e1, e2, id1}
use Rattle.dtx_model.specs.Tied.{tied}
use Rattle.dtx_model.proofs.Computing.{model}
use Rattle.dtx_model.proofs.WorkedOutcomes.{cannot_promote_history, commits_history, loses_begin_history, loses_none_history, rolls_back_history, votes_no_history}
use Rattle.dtx_model.proofs.WorkedPromotions.{loses_both_history, promotable_commits_history, second_durable_history, waits_for_handover_history}
use Rattle.dtx_model.proofs.WorkedParts.{asked}
use Rattle.dtx_model.proofs.WorkedRecoveries.{comes_back_twice_history, finds_none_history, finds_the_record_history, is_recovered_history, prepared, stopped}
use Rattle.history_table.proofs.Table.{rule, ruled}

-- the history keeps the table, and is tied
abbrev is_kept : List Entry → Bool
is_kept h = ruled h && tied h

commits : is_kept (past_of commits_history) ≡ true
unfolding model
commits = refl

votes_no : is_kept (past_of votes_no_history) ≡ true
unfolding model
votes_no = refl

rolls_back : is_kept (past_of rolls_back_history) ≡ true
unfolding model
rolls_back = refl

cannot_promote : is_kept (past_of cannot_promote_history) ≡ true
unfolding model
cannot_promote = refl

loses_begin : is_kept (past_of loses_begin_history) ≡ true
unfolding model
loses_begin = refl

loses_none : is_kept (past_of loses_none_history) ≡ true
unfolding model
loses_none = refl

second_durable : is_kept (past_of second_durable_history) ≡ true
unfolding model
second_durable = refl

waits_for_handover : is_kept (past_of waits_for_handover_history) ≡ true
unfolding model
waits_for_handover = refl

promotable_commits : is_kept (past_of promotable_commits_history) ≡ true
unfolding model
promotable_commits = refl

loses_both : is_kept (past_of loses_both_history) ≡ true
unfolding model
loses_both = refl

finds_the_record : is_kept (past_of finds_the_record_history) ≡ true
unfolding model
finds_the_record = refl

finds_none : is_kept (past_of finds_none_history) ≡ true
unfolding model
finds_none = refl

comes_back_twice : is_kept (past_of comes_back_twice_history) ≡ true
unfolding model
comes_back_twice = refl

is_recovered : is_kept (past_of is_recovered_history) ≡ true
unfolding model
is_recovered = refl

-- Nor is it too wide: these don't come where a promotion has just begun,
abbrev none_comes : List Entry → List Entry → Bool
none_comes h xs = each (λ x. not (rule h x)) xs

begun : none_comes (past_of asked) (
    Promoting Two ∷ Promoted id1 Two ∷ Sealed ∷ LocalYes ∷ Logged ∷ Freed ∷ Restarted true ∷ Decided Committed ∷ Decided Aborted ∷ Decided InDoubt ∷ Told Client Aborted ∷ Sent Begin Up BeginCommit
    ∷ Sent Voter Up (VoterVoter id1) ∷ Sent Begin Down (BeginBegun id1) ∷ []) ≡ true
unfolding model
begun = refl

-- these where all votes are in and the record isn't appended yet,
voted : none_comes (past_of (asked ++ prepared)) (
    Sealed ∷ LocalYes ∷ Voted e1 No ∷ Asked e1 Prepare ∷ Enlisted e2 DurableTwo ∷ RollbackAsked ∷ TimedOut ∷ Freed ∷ Restarted false ∷ Decided Committed ∷ Decided Aborted ∷ Decided InDoubt ∷ Told (Member e1) Committed
    ∷ Sent Begin Down BeginCommitted ∷ Sent (Enl e1) Down EnlistAbort ∷ Sent (Again e1) Down ReenlistAborted ∷ []) ≡ true
unfolding model
voted = refl

-- and these where the coordinator has stopped with the append: but it may be opened again
halted : none_comes (past_of (asked ++ prepared ++ stopped)) (Logged ∷ LogFull ∷ Freed ∷ Stopped ∷ Decided Committed ∷ Told Client Committed ∷ Told (Member e1) Aborted ∷ []) ≡ true
unfolding model
halted = refl

opened_again : each (rule (past_of (asked ++ prepared ++ stopped))) (Restarted true ∷ Restarted false ∷ []) ≡ true
unfolding model
opened_again = refl
