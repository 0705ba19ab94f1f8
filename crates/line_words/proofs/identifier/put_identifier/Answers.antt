use Rattle.std.proofs.Common.{◌≡◌, length, ap, ◌∙◌, arith}
use Rattle.dtx_model.specs.TraceText.{id_text}
use Rattle.line_words.proofs.Identifiers.{length-id}
use Rattle.line_words.proofs.identifier.put_identifier.Goals as goal

pub put-requires : goal.put-requires
unfolding id_text
put-requires c =
    let text : c.as_bytes.result.now ≡ id_text c.args.id = cc in
    let long : length c.as_bytes.result.now ≡ 36 = ap length text ∙ length-id c.args.id in
    omega arith

pub returns-clause-text : goal.returns-clause-text
unfolding id_text
returns-clause-text c = cc

pub returns-clause-length : goal.returns-clause-length
unfolding id_text
returns-clause-length c =
    let text : c.as_bytes.result.now ≡ id_text c.args.id = cc in
    let long : length c.as_bytes.result.now ≡ 36 = ap length text ∙ length-id c.args.id in
    omega arith
