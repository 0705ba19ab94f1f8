use Rattle.std.proofs.Common.{refl}
use Rattle.std.specs.Vec.{with_item}
use Rattle.trace_checker.proofs.Membering.{ballot_put}
use Rattle.trace_checker.proofs.members.Members.vote.Goals as goal

pub returns : goal.returns
returns c = λ h k.
    ballot_put h c.args.x.now c.args.self.now (record { ballots = with_item c.reach.new.items c.get-n.result c.follow.new.self; dealings = c.args.self.now.dealings }) c.reach.new.items.items c.args.e c.get-n.result c.index_mut-row.result.now c.follow.new.self
    c.requires c.get-n.ensures.value c.in_ok-reach.ensures.room c.reach.ensures.same c.index_mut-row.ensures.value c.follow.ensures refl (λ q. refl) k
