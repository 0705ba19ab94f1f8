-- A replay with restarts, so that the law of a replay speaks of these too: a fault stops the log, BEGIN is sent while it stands stopped, it is opened again, and stopped and opened once
-- more. It stands oldest first.
use Rattle.std.proofs.Common.{◌≡◌, true, false, List, [], ◌∷◌, ◌++◌, refl}
use Rattle.dtx_values.specs.declared.entry.Answer.TheVariants.{Fault, Fine, Wait}
use Rattle.dtx_values.specs.declared.entry.Entry.TheVariants.{Began, Called, LogWord, Promoting, Restarted, Sent, Stopped}
use Rattle.dtx_values.specs.declared.entry.LogNote.TheVariants.{Opened}
use Rattle.dtx_values.specs.declared.message.Conn.TheVariants.{Begin}
use Rattle.dtx_values.specs.declared.message.Dir.TheVariants.{Up}
use Rattle.dtx_values.specs.declared.message.Message.TheVariants.{BeginBegin}
use Rattle.dtx_values.specs.declared.script.Body.TheVariants.{Begin as BeginLine, Marshal, Restart}
use Rattle.dtx_values.specs.declared.script.Line.{Line}
use Rattle.dtx_values.specs.declared.trace.Place.TheVariants.{Log}
use Rattle.dtx_values.specs.declared.words.Cause.TheVariants.{Marshal as MarshalCause}
use Rattle.dtx_values.specs.declared.words.Timeout.TheVariants.{Milliseconds}
use Rattle.dtx_model.specs.Words.{past_of}
use Rattle.dtx_model.specs.Observed.{observe}
use Rattle.dtx_model.specs.Answers.{local_answer}
use Rattle.dtx_model.specs.World.{answer_at}
use Rattle.dtx_model.specs.Steps.{block_at}
use Rattle.dtx_model.specs.AtLog.{follow_log}
use Rattle.dtx_model.specs.Traces.{Placed, placed}
use Rattle.dtx_model.specs.Replay.{Faults, IsReplayed, LinesRan, Opens}
use Rattle.script_histories.proofs.Replays.{replayed_followed}
use Rattle.dtx_model.proofs.Cast.{a1, t1}

-- the lines `a1 restart`, `a1 begin t1 0`, `a1 marshal t1`, `a1 restart` and `a1 restart`
abbrev restarting : List Line
restarting =
    record { actor = a1; body = Restart } ∷ record { actor = a1; body = BeginLine t1 (Milliseconds 0) } ∷ record { actor = a1; body = Marshal t1 } ∷ record { actor = a1; body = Restart }
    ∷ record { actor = a1; body = Restart } ∷ []

-- the first meets a fault, which leaves the log stopped
abbrev faulted : List Placed
faulted = (Log, Called 1 a1 Fault) ∷ (Log, Stopped) ∷ []

abbrev begun : List Placed
begun = faulted ++ placed t1 (Called 2 a1 Fine ∷ Began 600000 ∷ [])

-- BEGIN is sent meanwhile: t1 stands stopped at once
abbrev sent : List Placed
sent = begun ++ placed t1 (Called 3 a1 Wait ∷ Promoting MarshalCause ∷ Sent Begin Up BeginBegin ∷ Stopped ∷ [])

-- the log is opened, and t1 starts again
abbrev opened : List Placed
opened = sent ++ (Log, Called 4 a1 Fine) ∷ (Log, LogWord (Opened 0)) ∷ placed t1 (Restarted false ∷ [])

-- the last restart stops the log first, which hits t1
abbrev hit_again : List Placed
hit_again = opened ++ (Log, Called 5 a1 Fine) ∷ (Log, Stopped) ∷ placed t1 (Stopped ∷ []) ++ (Log, LogWord (Opened 0)) ∷ []

abbrev opened_again : List Placed
opened_again = hit_again ++ placed t1 (Restarted false ∷ [])

restarted_lines : LinesRan restarting (past_of restarting) (past_of opened_again)
unfolding block_at answer_at local_answer observe
restarted_lines =
    (past_of opened, (past_of sent, (past_of begun, (past_of faulted, ([], refl, (Faults, refl)), refl), refl), (Opens (λ t. false) 0, refl)), (Opens (λ t. false) 0, refl))

-- it is a replay, and follows its log
pub restarted_replayed : IsReplayed restarting (past_of opened_again)
restarted_replayed = record { by_lines = past_of opened_again; lines = restarted_lines; turns = []; rounds = refl }

pub restarted_followed : follow_log (past_of opened_again) ≡ true
restarted_followed = replayed_followed restarting (past_of opened_again) restarted_replayed

-- where t1 doesn't start again with the log, it is none
pub unrestarted_is_none : (s : List Line) → IsReplayed s (past_of hit_again) → ⊥
unrestarted_is_none s r = let same = replayed_followed s (past_of hit_again) r in cc
