-- What the two sides heard over the connections of the transaction as a whole.
use Rattle.std.specs.Prelude.{◌≡◌, ◌==◌, ◌&&◌, ◌||◌, not, List, if◌then◌else◌}
use Rattle.dtx_values.specs.declared.entry.Entry.{Entry}
use Rattle.dtx_values.specs.Table.{how_many}
use Rattle.dtx_model.specs.Entries.{is_commit_got, is_enlist_got, is_yes_got}
use Rattle.dtx_model.specs.Outcome.{is_begin_end, is_outcome_got, is_voter_end}
use Rattle.dtx_model.specs.Words.{has}
use Rattle.trace_checker.specs.declared.heard.Heard.{Heard}

-- each flag is a reading of the history; the last two say that no ENLIST was got, or exactly one
pub record IsHeardOf (h : List Entry) (d : Heard) : Type 0 where
  pub commit : d.commit ≡ has is_commit_got h
  pub yes : d.yes ≡ has is_yes_got h
  pub begin_end : d.begin_end ≡ has is_begin_end h
  pub voter_end : d.voter_end ≡ has is_voter_end h
  pub outcome : d.outcome ≡ has is_outcome_got h
  pub nobody : d.nobody ≡ (how_many is_enlist_got h == 0)
  pub lone : d.lone ≡ (how_many is_enlist_got h == 1)

-- the flags with one more entry
abbrev pub heard_after : Entry → Heard → Heard
heard_after x d =
    record {
      commit = is_commit_got x || d.commit;
      yes = is_yes_got x || d.yes;
      begin_end = is_begin_end x || d.begin_end;
      voter_end = is_voter_end x || d.voter_end;
      outcome = is_outcome_got x || d.outcome;
      nobody = not (is_enlist_got x) && d.nobody;
      lone = if is_enlist_got x then d.nobody else d.lone;
    }
