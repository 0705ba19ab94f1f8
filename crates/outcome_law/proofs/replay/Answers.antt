use Rattle.script_histories.proofs.Replays.{line_new, ran_new, replayed_called, replayed_caused, replayed_followed, replayed_noted}
use Rattle.script_histories.proofs.Determined.{history_same}
use Rattle.script_histories.proofs.SoundLogs.{local_sound}
use Rattle.outcome_law.proofs.replay.Goals as goal

pub returns-clause-caused : goal.returns-clause-caused
returns-clause-caused c = replayed_caused

pub returns-clause-contexts : goal.returns-clause-contexts
returns-clause-contexts c = replayed_noted

pub returns-clause-called : goal.returns-clause-called
returns-clause-called c = replayed_called

pub returns-clause-followed : goal.returns-clause-followed
returns-clause-followed c = replayed_followed

pub returns-clause-uncalled : goal.returns-clause-uncalled
returns-clause-uncalled c = line_new

pub returns-clause-fresh : goal.returns-clause-fresh
returns-clause-fresh c = ran_new

pub returns-clause-determined : goal.returns-clause-determined
returns-clause-determined c = history_same

pub returns-clause-sound : goal.returns-clause-sound
returns-clause-sound c = local_sound
