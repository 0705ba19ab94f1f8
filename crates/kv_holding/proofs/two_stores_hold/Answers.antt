use Rattle.kv_holding.proofs.TwoStores.{two_hold}
use Rattle.kv_holding.proofs.two_stores_hold.Goals as goal

pub returns : goal.returns
returns g c = λ i j two. two_hold g.D.Disk.honest g.D.Disk.image g.D.Disk.faults i j two
