-- What holds of the book of a transaction after its history: each field is a reading of it.
use Rattle.std.specs.Prelude.{◌≡◌, List}
use Rattle.dtx_values.specs.declared.entry.Entry.{Entry}
use Rattle.dtx_model.specs.Outcome.{vetoed}
use Rattle.trace_checker.specs.declared.book.Book.{Book}
use Rattle.trace_checker.specs.Doubts.{IsDoubtsOf}
use Rattle.trace_checker.specs.Heard.{IsHeardOf}
use Rattle.trace_checker.specs.Marks.{IsMarksOf}
use Rattle.trace_checker.specs.Members.{IsMembersOf}
use Rattle.trace_checker.specs.Owner.{IsOwnerOf}
use Rattle.trace_checker.specs.Voters.{IsVotersOf}
use Rattle.trace_checker.specs.Wires.{IsWiresOf}

pub record IsBookOf (h : List Entry) (b : Book) : Type 0 where
  pub marks : IsMarksOf h b.marks
  pub heard : IsHeardOf h b.heard
  pub owner : IsOwnerOf h b.owner
  pub doubts : IsDoubtsOf h b.doubts
  pub vetoed : b.vetoed ≡ vetoed h
  pub voters : IsVotersOf h b.voters
  pub members : IsMembersOf h b.members
  pub wires : IsWiresOf h b.wires
