use Rattle.ledger_book.proofs.Holding.{stores_hold}
use Rattle.ledger_book.proofs.stores.StoresHolder.hold.Goals as goal

pub returns : goal.returns
returns g c = stores_hold g.D.Disk.honest g.D.Disk.image g.D.Disk.faults
