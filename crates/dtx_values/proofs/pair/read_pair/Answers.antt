use Rattle.std.proofs.Common.{◌∙◌, ap, rules}
use Rattle.dtx_values.specs.RecoveryInfo.{number_in}
use Rattle.dtx_values.proofs.Infos.{AreBytes, read_pair_bytes}
use Rattle.dtx_values.proofs.pair.read_pair.Goals as goal

pub returns-clause-bytes : goal.returns-clause-bytes
returns-clause-bytes c =
    let small : AreBytes c.args.b.now = λ k. search (rules, c.type_inv.b k) in
    read_pair_bytes c.args.b.now (c.in-Some.rm, c.in-Some-read_number.enl) c.requires small c.in-Some.ensures.value
    (c.in-Some-read_number.ensures.value ∙ ap number_in c.split_at.ensures.back)
