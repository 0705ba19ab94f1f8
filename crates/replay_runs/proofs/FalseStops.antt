-- Two false traces of replays, refused. Of the first the disk met one fault, and two entries are of faults. A restart is answered `fault`, and later a stop is armed at the ninth device call, which an append of four doesn't reach, and the log is stopped all the same.
use Rattle.std.proofs.Common.{◌≡◌, Bool, true, false, List, [], ◌∷◌, refl}
use Rattle.dtx_values.specs.declared.Image.TheVariants.{Lose}
use Rattle.dtx_values.specs.declared.entry.Answer.TheVariants.{Fault, Fine}
use Rattle.dtx_values.specs.declared.entry.Entry.TheVariants.{Called, Got, LogWord, Restarted, Stopped}
use Rattle.dtx_values.specs.declared.entry.LogNote.TheVariants.{Armed, Opened}
use Rattle.dtx_values.specs.declared.message.Conn.TheVariants.{Begin, Voter}
use Rattle.dtx_values.specs.declared.message.Dir.TheVariants.{Up}
use Rattle.dtx_values.specs.declared.message.Message.TheVariants.{BeginBegin, BeginCommit, VoterYes}
use Rattle.dtx_values.specs.declared.trace.Place.TheVariants.{Log, Transaction}
use Rattle.dtx_model.specs.AtLog.{one_if}
use Rattle.dtx_model.specs.Traces.{Placed}
use Rattle.dtx_model.proofs.Cast.{a1, t1}
use Rattle.dtx_model.proofs.Computing.{model}
use Rattle.replay_runs.specs.Exact.{faults_made}
use Rattle.replay_runs.specs.Found.{finds_as_wished}

-- newest first
abbrev pub stopped_too_early : List Placed
stopped_too_early =
    (Transaction t1, Stopped) ∷ (Log, Stopped) ∷
    (Log, LogWord (Armed 9 Lose)) ∷ (Log, Called 3 a1 Fine) ∷
    (Log, LogWord (Opened 0)) ∷ (Log, Called 2 a1 Fine) ∷
    (Log, Stopped) ∷ (Log, Called 1 a1 Fault) ∷ []

pub two_faults : faults_made [] stopped_too_early ≡ 2
unfolding model
two_faults = refl

-- In the second a stop is armed at the first device call, and its crash is to lose what wasn't synced. The append of t1 is stopped there, and the restart is said to find the record, which was never synced.
abbrev pub after_lost : Bool → List Placed
after_lost found =
    (Transaction t1, Restarted found) ∷ (Log, LogWord (Opened (one_if found 0))) ∷ (Log, Called 2 a1 Fine) ∷
    (Transaction t1, Stopped) ∷ (Log, Stopped) ∷
    (Transaction t1, Got Voter Up VoterYes) ∷ (Transaction t1, Got Begin Up BeginCommit) ∷ (Transaction t1, Got Begin Up BeginBegin) ∷
    (Log, LogWord (Armed 1 Lose)) ∷ (Log, Called 1 a1 Fine) ∷ []

pub found_though_lost : finds_as_wished (after_lost true) ≡ false
unfolding model
found_though_lost = refl

-- that it isn't there is right
pub lost_as_wished : finds_as_wished (after_lost false) ≡ true
unfolding model
lost_as_wished = refl
