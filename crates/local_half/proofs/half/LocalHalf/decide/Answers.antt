use Rattle.std.proofs.Common.{arith, subst, sym}
use Rattle.dtx_values.specs.Outgoing.{Outgoing}
use Rattle.dtx_model.specs.Half.{ended, is_promoting}
use Rattle.half_parts.specs.Half.{IsLeft}
use Rattle.half_parts.proofs.Deciding.{ended_length, ended_unsent, fails_short, fails_unsent, left_of}
use Rattle.local_half.proofs.half.LocalHalf.decide.Goals as goal

pub returns-clause-left : goal.returns-clause-left
returns-clause-left c =
    let b = is_promoting c.args.self.now.half.seen in
    let ws = c.end.new.self.half.waits in
    let first = subst (λ (o : Outgoing). IsLeft 2 0 c.args.out.now o) (sym c.end.ensures.out) (left_of c.args.out.now _ 2 (fails_short b c.args.o) (fails_unsent b c.args.o)) in
    let second = subst (λ (o : Outgoing). IsLeft 32 0 c.end.new.out o) (sym c.end_waits.ensures.out) (left_of c.end.new.out (ended ws c.args.o) 32 (omega (arith, ended_length ws c.args.o, c.end.ensures.few)) (ended_unsent ws c.args.o)) in
    record { entries_left = omega (arith, first.entries_left, second.entries_left); messages_left = omega (arith, first.messages_left, second.messages_left) }
