use Rattle.tx_cells.proofs.cells.TxCell.post.Goals as goal

pub returns-clause-known : goal.returns-clause-known
returns-clause-known g c = rw (← c.note.view_is) c.set_as.ensures.known
