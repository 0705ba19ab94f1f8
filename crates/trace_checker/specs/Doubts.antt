-- Whether whoever held the commit answered in doubt, or was lost.
use Rattle.std.specs.Prelude.{◌≡◌, Bool, List}
use Rattle.dtx_values.specs.declared.entry.Entry.{Entry}
use Rattle.dtx_values.specs.declared.words.Outcome.TheVariants.{InDoubt}
use Rattle.dtx_model.specs.Entries.{handed_of, is_owner}
use Rattle.dtx_model.specs.Outcome.{is_lost_owner, is_lost_single}
use Rattle.dtx_model.specs.Words.{all_of, ever, has}
use Rattle.trace_checker.specs.declared.doubts.Doubts.{Doubts}

-- one that was handed the commit answered in doubt
abbrev pub has_unsure : List Entry → Bool
has_unsure h = has (λ e. has (is_owner e.value InDoubt) h) (all_of handed_of h)

pub record IsDoubtsOf (h : List Entry) (d : Doubts) : Type 0 where
  pub unsure : d.unsure ≡ has_unsure h
  pub lost_owner : d.lost_owner ≡ ever is_lost_owner h
  pub lost_single : d.lost_single ≡ ever is_lost_single h
