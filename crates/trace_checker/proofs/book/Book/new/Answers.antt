use Rattle.std.proofs.Common.{refl}
use Rattle.dtx_model.specs.Outcome.{vetoed}
use Rattle.trace_checker.proofs.book.Book.new.Goals as goal

pub returns : goal.returns
unfolding vetoed
returns c = record {
  marks = record { commit = refl; sealed = refl; promoted = refl; recorded = refl; yes = refl; handed = refl; single = refl; decided = refl; committed = refl; aborted = refl };
  heard = record { commit = refl; yes = refl; begin_end = refl; voter_end = refl; outcome = refl; nobody = refl; lone = refl };
  owner = record { lasting = refl; able = refl };
  doubts = record { unsure = refl; lost_owner = refl; lost_single = refl };
  vetoed = refl;
  voters = c.new.ensures;
  members = c.new-2.ensures;
  wires = c.new-3.ensures;
}
