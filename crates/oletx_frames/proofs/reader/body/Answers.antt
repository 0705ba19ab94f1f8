use Rattle.std.proofs.Common.{◌≡◌, ◌+◌, ◌-◌, take, drop, ap, ◌∙◌, arith}
use Rattle.std.specs.Int.{w16, from_le_bytes}
use Rattle.dtx_model.specs.Frames.{bad_place, body_length, field_fault}
use Rattle.oletx_frames.specs.Shapes.{kind_of}
use Rattle.oletx_frames.proofs.Faults.{length_passed, two_bytes}
use Rattle.oletx_frames.proofs.reader.body.Goals as goal

pub returns-clause-next : goal.returns-clause-next
returns-clause-next c =
    let b = c.args.b.now in
    let k = kind_of c.args.shape in
    let l = c.body_length-length.ensures in
    let n : body_length k ≡ 4 + c.body_length-length.result - 4 = omega (arith, l) in
    let counted : from_le_bytes w16 (take 2 (drop 2 b)) ≡ body_length k = omega (arith, two_bytes b c.if-b-lt4.false, l) in
    length_passed b k (omega (arith, l)) counted ∙ ap (λ m. field_fault (bad_place k (take m (drop 4 b)))) n
