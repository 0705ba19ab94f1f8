-- What is said of the outcome where the log stops: while it isn't known whether the record is there, nobody hears it; and where a restart found no record, there was no evidence and nobody was let decide, there never is any.
use Rattle.std.specs.Prelude.{Bool, false, ◌&&◌, ◌||◌, not, List}
use Rattle.dtx_values.specs.declared.entry.Entry.{Entry}
use Rattle.dtx_values.specs.declared.entry.Entry.TheVariants.{Restarted}
use Rattle.dtx_values.specs.declared.words.Outcome.TheVariants.{Committed, Aborted}
use Rattle.dtx_model.specs.Words.{has}
use Rattle.dtx_model.specs.Entries.{is_any_single_sent, is_final}
use Rattle.dtx_model.specs.Outcome.{evidence}
use Rattle.dtx_model.specs.AtLog.{is_restart}
use Rattle.history_table.specs.Appended.{stopped_at_append}

-- the log stopped first where an append could be tried, and no restart came since: it isn't known whether the record is there
abbrev pub is_record_unknown : List Entry → Bool
is_record_unknown h = stopped_at_append h && not (has is_restart h)

-- committed or aborted is told, decided, or answered by an owner
abbrev pub is_outcome_said : Entry → Bool
is_outcome_said x = is_final Committed x || is_final Aborted x

-- where it isn't known whether the record is there, the entry says neither committed nor aborted
abbrev pub is_outcome_withheld : List Entry → Entry → Bool
is_outcome_withheld past x = not (is_record_unknown past && is_outcome_said x)

-- a restart finds no record, and before it there was no evidence and nobody was let decide
abbrev pub restarts_without_evidence : List Entry → Entry → Bool
restarts_without_evidence past (Restarted found) = not found && not (evidence past) && not (has is_any_single_sent past)
restarts_without_evidence past _ = false
