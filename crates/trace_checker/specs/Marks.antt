-- The flags of a transaction.
use Rattle.std.specs.Prelude.{◌≡◌, ◌||◌, List}
use Rattle.dtx_values.specs.declared.entry.Entry.{Entry}
use Rattle.dtx_values.specs.declared.words.Outcome.TheVariants.{Committed, Aborted}
use Rattle.dtx_model.specs.Entries.{is_any_hand, is_any_single_sent, is_commit, is_decision, is_final, is_promoted, is_record, is_sealed, is_yes}
use Rattle.dtx_model.specs.Words.{has}
use Rattle.trace_checker.specs.declared.marks.Marks.{Marks}

-- each flag says whether such an entry stands in the history
pub record IsMarksOf (h : List Entry) (m : Marks) : Type 0 where
  pub commit : m.commit ≡ has is_commit h
  pub sealed : m.sealed ≡ has is_sealed h
  pub promoted : m.promoted ≡ has is_promoted h
  pub recorded : m.recorded ≡ has is_record h
  pub yes : m.yes ≡ has is_yes h
  pub handed : m.handed ≡ has is_any_hand h
  pub single : m.single ≡ has is_any_single_sent h
  pub decided : m.decided ≡ has is_decision h
  pub committed : m.committed ≡ has (is_final Committed) h
  pub aborted : m.aborted ≡ has (is_final Aborted) h

-- the flags with one more entry
abbrev pub marks_after : Entry → Marks → Marks
marks_after x m =
    record {
      commit = is_commit x || m.commit;
      sealed = is_sealed x || m.sealed;
      promoted = is_promoted x || m.promoted;
      recorded = is_record x || m.recorded;
      yes = is_yes x || m.yes;
      handed = is_any_hand x || m.handed;
      single = is_any_single_sent x || m.single;
      decided = is_decision x || m.decided;
      committed = is_final Committed x || m.committed;
      aborted = is_final Aborted x || m.aborted;
    }
