use Rattle.std.proofs.Common.{◌<◌, arith, ap, ◌∙◌, refl, length, None}
use Rattle.kv_resource.specs.Bytes.{are_spelled}
use Rattle.kv_resource.proofs.Tables.{write_some, write_spelled}
use Rattle.kv_resource.proofs.draft.Draft.put.Goals as goal

pub invariant_of-self : goal.invariant_of-self
invariant_of-self c =
    let ws = c.self.inside.writes.items in
    let kf : c.args.key < 4294967296 = omega arith in
    let vf : c.args.value < 18446744073709551616 = omega arith in (
      omega (arith, ap length c.put_write.ensures, write_some c.args.key c.args.value ws),
      ap (are_spelled None) c.put_write.ensures ∙ write_spelled None c.args.key c.args.value ws refl kf vf c.self.invariant.1,
    )
