use Rattle.std.proofs.Common.{◌∷◌, subst, sym}
use Rattle.trace_checker.specs.declared.heard.Heard.{Heard}
use Rattle.trace_checker.specs.declared.marks.Marks.{Marks}
use Rattle.trace_checker.specs.Heard.{IsHeardOf}
use Rattle.trace_checker.specs.Marks.{IsMarksOf}
use Rattle.trace_checker.proofs.Losing.{vetoed_more}
use Rattle.trace_checker.proofs.Marking.{heard_more, marks_more}
use Rattle.trace_checker.proofs.book.Book.note.Goals as goal

pub returns-clause-noted : goal.returns-clause-noted
returns-clause-noted c = λ n h k.
    let x = c.args.x.now in
    let b = c.args.self.now in
    let M : Marks → Type 0 = λ m. IsMarksOf (x ∷ h) m in
    let H : Heard → Type 0 = λ d. IsHeardOf (x ∷ h) d in
    record {
      marks = subst M (sym c.follow-2.ensures) (marks_more h x b.marks k.marks);
      heard = subst H (sym c.follow-3.ensures) (heard_more h x b.heard k.heard);
      owner = c.follow-4.ensures h k.owner;
      doubts = c.follow.ensures h k.members k.doubts;
      vetoed = vetoed_more h x b.vetoed c.is_first_veto-is_first_veto.result k.vetoed (c.is_first_veto-is_first_veto.ensures h k);
      voters = c.in_ok-follow.ensures h k.voters;
      members = c.in_ok-follow-2.ensures h k.members;
      wires = c.in_ok-cross.ensures.noted c.if-not-branch.false h k.wires;
    }
