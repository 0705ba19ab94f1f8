use Rattle.std.proofs.Common.{◌&&◌, ◌||◌, not, ap, sym, ◌∙◌}
use Rattle.trace_checker.specs.declared.members.Member.{Member}
use Rattle.trace_checker.specs.Members.{member}
use Rattle.trace_checker.proofs.Owned.{owner_one}
use Rattle.trace_checker.proofs.book.Book.is_by_owner.Goals as goal

pub returns-then-self : goal.returns-then-self
returns-then-self c = λ h k.
    let b = c.args.self.now in let m = member c.in-One.n b.members in
    c.has_decided.ensures ∙ ap (λ (m : Member). (not b.marks.promoted || m.single) && m.handed && m.committed) c.at.ensures
    ∙ sym (owner_one h b c.in-One.n c.in-One.is k ∙ ap (λ a. a && ((not b.marks.promoted || m.single) && m.handed && m.committed)) c.if-self.true)

pub returns-else-self : goal.returns-else-self
returns-else-self c = λ h k.
    let b = c.args.self.now in let m = member c.in-One.n b.members in
    c.if-self.false ∙ sym (owner_one h b c.in-One.n c.in-One.is k ∙ ap (λ a. a && ((not b.marks.promoted || m.single) && m.handed && m.committed)) c.if-self.false)
