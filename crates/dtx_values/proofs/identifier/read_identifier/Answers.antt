use Rattle.std.proofs.Common.{rules}
use Rattle.dtx_values.proofs.Infos.{AreBytes, read_id_bytes}
use Rattle.dtx_values.proofs.identifier.read_identifier.Goals as goal

pub returns-clause-bytes : goal.returns-clause-bytes
returns-clause-bytes c =
    let small : AreBytes c.args.b.now = λ k. search (rules, c.type_inv.b k) in
    read_id_bytes c.args.b.now c.read_wide-n.result c.requires small c.read_wide-n.ensures
