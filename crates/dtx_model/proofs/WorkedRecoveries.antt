-- Worked histories and traces: the log stops while it appends, is opened again, and the durable comes back.
use Rattle.std.proofs.Common.{Bool, List, Some, [], false, refl, true, ℕ, ◌++◌, ◌==◌, ◌∷◌}
use Rattle.dtx_values.specs.declared.entry.Answer.TheVariants.{Fine, Finished, OutcomeIs, Over}
use Rattle.dtx_values.specs.declared.entry.Entry.{Entry}
use Rattle.dtx_values.specs.declared.entry.Entry.TheVariants.{Acked, Began, Called, Decided, Down as Ended, Freed, Got, LogWord, Recovered as RecoveredEntry, Reenlisted, Restarted, Sent, Stopped, Told}
use Rattle.dtx_values.specs.declared.entry.LogNote.{LogNote}
use Rattle.dtx_values.specs.declared.entry.LogNote.TheVariants.{Armed, Opened}
use Rattle.dtx_values.specs.declared.entry.Party.TheVariants.{Client, Enl as Member}
use Rattle.dtx_values.specs.declared.message.Conn.TheVariants.{Again, Begin, Enl, Voter}
use Rattle.dtx_values.specs.declared.message.Dir.TheVariants.{Down, Up}
use Rattle.dtx_values.specs.declared.message.Message.{Message}
use Rattle.dtx_values.specs.declared.message.Message.TheVariants.{ReenlistAborted, ReenlistAck, ReenlistCommitted, ReenlistReenlist, VoterYes}
use Rattle.dtx_values.specs.declared.script.Body.TheVariants.{Await as AwaitLine, Begin as BeginLine, Commit as CommitLine, Durable as DurableLine, Recovered as RecoveredLine, Reenlist as ReenlistLine, Restart as RestartLine, Stop as StopLine}
use Rattle.dtx_values.specs.declared.script.Line.{Line}
use Rattle.dtx_values.specs.declared.script.Support.TheVariants.{TwoPhase}
use Rattle.dtx_values.specs.declared.trace.Place.TheVariants.{Log}
use Rattle.dtx_values.specs.declared.words.Image.{Image}
use Rattle.dtx_values.specs.declared.words.Image.TheVariants.{Keep, Torn}
use Rattle.dtx_values.specs.declared.words.Outcome.{Outcome}
use Rattle.dtx_values.specs.declared.words.Outcome.TheVariants.{Aborted, Committed, InDoubt}
use Rattle.dtx_values.specs.declared.words.Timeout.TheVariants.{Default}
use Rattle.dtx_values.specs.declared.words.Vote.TheVariants.{Yes}
use Rattle.dtx_model.specs.Half.{info}
use Rattle.dtx_model.specs.Traces.{Placed, placed}
use Rattle.dtx_model.specs.Steps.{StoppedNow}
use Rattle.dtx_model.specs.Words.{past_of}
use Rattle.dtx_model.proofs.Cast.{a1, e1, r1, says, t1}
use Rattle.dtx_model.proofs.Computing.{model}
use Rattle.dtx_model.proofs.Crossing.{wired}
use Rattle.dtx_model.proofs.Replaying.{IsWorkedTrace}
use Rattle.dtx_model.proofs.Working.{IsWorked}
use Rattle.dtx_model.proofs.WorkedParts.{asked, commit_sent, prepared_there}

-- the coordinator has all votes: it is about to append the record of the commit
abbrev pub prepared : List Entry
prepared = commit_sent ++ Got Voter Up VoterYes ∷ prepared_there e1

-- the log stops under that append, and the coordinator with it. All connections are lost, and here the outcome is in doubt.
abbrev pub stopped : List Entry
stopped =
    Stopped ∷
    Ended Begin Down ∷
    Ended Voter Down ∷ Decided InDoubt ∷
    Told Client InDoubt ∷
    Ended (Enl e1) Down ∷
    Called 5 a1 (OutcomeIs InDoubt) ∷ []

-- the lines up to the restart: the stop with this wish comes at the n-th device call from the commit on
abbrev stops_in_commit : ℕ → Image → List Line
stops_in_commit n i =
    says a1 (BeginLine t1 Default) ∷
    says a1 (DurableLine t1 e1 r1 (TwoPhase (Some Yes))) ∷
    says a1 (CommitLine t1) ∷
    says a1 (StopLine n i) ∷
    says a1 (AwaitLine t1) ∷
    says a1 RestartLine ∷ []

-- the durable comes back, and hears this outcome in this message
abbrev pub comes_back : Message → Outcome → List Entry
comes_back m x =
    Called 7 a1 Fine ∷ Reenlisted e1 ∷ Sent (Again e1) Up (ReenlistReenlist (info 1 e1 r1)) ∷
    Got (Again e1) Up (ReenlistReenlist (info 1 e1 r1)) ∷ Sent (Again e1) Down m ∷
    Got (Again e1) Down m ∷ Told (Member e1) x ∷ []

-- The whole trace has what stands at the log too: lines 4 and 6 have their calls there. A stop comes to the log first, and then to the transaction.
abbrev with_log : LogNote → ℕ → List Entry → List Placed
with_log armed records rest =
    placed t1 asked ++ ((Log, Called 4 a1 Fine) ∷ (Log, LogWord armed) ∷ placed t1 prepared)
    ++ ((Log, Stopped) ∷ placed t1 stopped) ++ ((Log, Called 6 a1 Fine) ∷ (Log, LogWord (Opened records)) ∷ placed t1 rest)

-- the record of transaction 1 is found, or none
abbrev one : ℕ → Bool
one n = n == 1

abbrev none : ℕ → Bool
none n = false

-- The stop comes at the third of the four device calls, so the record is durable. The restart finds it; the durable comes back, hears the commit, and acknowledges it.
abbrev pub finds_the_record_lines : List Line
finds_the_record_lines = stops_in_commit 3 Keep ++ says a1 (ReenlistLine e1) ∷ []

abbrev pub finds_the_record_rest : List Entry
finds_the_record_rest = Restarted true ∷ comes_back ReenlistCommitted Committed ++ Acked e1 ∷ Sent (Again e1) Up ReenlistAck ∷ Got (Again e1) Up ReenlistAck ∷ Freed ∷ []

abbrev pub finds_the_record_history : List Entry
finds_the_record_history = asked ++ prepared ++ stopped ++ finds_the_record_rest

finds_the_record : IsWorked finds_the_record_lines (StoppedNow ∷ []) (true ∷ []) finds_the_record_history
unfolding model
finds_the_record = (refl, refl, refl, refl, refl, wired (past_of finds_the_record_history) refl, refl, refl, refl, refl)

finds_the_record_trace : IsWorkedTrace finds_the_record_lines ((one, 1) ∷ []) (with_log (Armed 3 Keep) 1 finds_the_record_rest)
unfolding model
finds_the_record_trace = (refl, refl, refl, refl)

-- The stop comes at the first device call. The restart finds no record, so the transaction is aborted there, and the durable that comes back hears that.
abbrev finds_none_lines : List Line
finds_none_lines = stops_in_commit 1 Torn ++ says a1 (ReenlistLine e1) ∷ []

abbrev pub finds_none_rest : List Entry
finds_none_rest = Restarted false ∷ comes_back ReenlistAborted Aborted

abbrev pub finds_none_history : List Entry
finds_none_history = asked ++ prepared ++ stopped ++ finds_none_rest

finds_none : IsWorked finds_none_lines (StoppedNow ∷ []) (false ∷ []) finds_none_history
unfolding model
finds_none = (refl, refl, refl, refl, refl, wired (past_of finds_none_history) refl, refl, refl, refl, refl)

finds_none_trace : IsWorkedTrace finds_none_lines ((none, 0) ∷ []) (with_log (Armed 1 Torn) 0 finds_none_rest)
unfolding model
finds_none_trace = (refl, refl, refl, refl)

-- Who acknowledged has finished: it can't come back a second time.
abbrev comes_back_twice_lines : List Line
comes_back_twice_lines = finds_the_record_lines ++ says a1 (AwaitLine t1) ∷ says a1 (ReenlistLine e1) ∷ []

abbrev pub comes_back_twice_rest : List Entry
comes_back_twice_rest = finds_the_record_rest ++ Called 8 a1 (OutcomeIs InDoubt) ∷ Called 9 a1 Finished ∷ []

abbrev pub comes_back_twice_history : List Entry
comes_back_twice_history = asked ++ prepared ++ stopped ++ comes_back_twice_rest

comes_back_twice : IsWorked comes_back_twice_lines (StoppedNow ∷ []) (true ∷ []) comes_back_twice_history
unfolding model
comes_back_twice = (refl, refl, refl, refl, refl, wired (past_of comes_back_twice_history) refl, refl, refl, refl, refl)

comes_back_twice_trace : IsWorkedTrace comes_back_twice_lines ((one, 1) ∷ []) (with_log (Armed 3 Keep) 1 comes_back_twice_rest)
unfolding model
comes_back_twice_trace = (refl, refl, refl, refl)

-- A manager that says that its recovery is complete needs nothing more: the record is freed, and its durable can't come back.
abbrev is_recovered_lines : List Line
is_recovered_lines = stops_in_commit 3 Keep ++ says a1 (RecoveredLine t1 r1) ∷ says a1 (ReenlistLine e1) ∷ []

abbrev pub is_recovered_rest : List Entry
is_recovered_rest =
    Restarted true ∷
    Called 7 a1 Fine ∷ RecoveredEntry r1 ∷
    Called 8 a1 (Over r1) ∷
    Freed ∷ []

abbrev pub is_recovered_history : List Entry
is_recovered_history = asked ++ prepared ++ stopped ++ is_recovered_rest

is_recovered : IsWorked is_recovered_lines (StoppedNow ∷ []) (true ∷ []) is_recovered_history
unfolding model
is_recovered = (refl, refl, refl, refl, refl, wired (past_of is_recovered_history) refl, refl, refl, refl, refl)

is_recovered_trace : IsWorkedTrace is_recovered_lines ((one, 1) ∷ []) (with_log (Armed 3 Keep) 1 is_recovered_rest)
unfolding model
is_recovered_trace = (refl, refl, refl, refl)

-- A restart of a log that nothing was sent to: no transaction has an entry of it.
abbrev restarts_alone_lines : List Line
restarts_alone_lines = says a1 (BeginLine t1 Default) ∷ says a1 RestartLine ∷ []

restarts_alone : IsWorkedTrace restarts_alone_lines ((none, 0) ∷ []) (placed t1 (Called 1 a1 Fine ∷ Began 60000 ∷ []) ++ ((Log, Called 2 a1 Fine) ∷ (Log, Stopped) ∷ (Log, LogWord (Opened 0)) ∷ []))
unfolding model
restarts_alone = (refl, refl, refl, refl)
