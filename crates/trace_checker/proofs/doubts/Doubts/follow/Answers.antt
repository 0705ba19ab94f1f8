use Rattle.trace_checker.proofs.Doubting.{doubts_more}
use Rattle.trace_checker.proofs.doubts.Doubts.follow.Goals as goal

pub returns : goal.returns
returns c = λ h k d. doubts_more h c.args.x.now c.args.self.now c.makes_unsure.result c.loses_owner.result c.loses_single.result (c.makes_unsure.ensures h k) (c.loses_owner.ensures h k) (c.loses_single.ensures h k) d
