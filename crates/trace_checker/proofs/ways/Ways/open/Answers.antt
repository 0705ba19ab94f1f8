use Rattle.std.proofs.Common.{false, [], refl}
use Rattle.trace_checker.proofs.Placing.{after_same, change}
use Rattle.trace_checker.proofs.ways.Ways.open.Goals as goal

pub returns : goal.returns
returns c =
    let k = c.args.k in let y = c.index_mut-way.result.now in let mid = c.reach.new.self in
    after_same k [] false c.args.self.now mid _ c.in_ok-p.ensures.same
    (change k c.in_ok-p.p mid _ y (record y { messages = c.clear.new.self; ended = false }) [] false c.in_ok-p.ensures.there c.index_mut-way.ensures.value refl refl refl c.clear.ensures.items refl)
