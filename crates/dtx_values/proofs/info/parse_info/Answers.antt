use Rattle.std.proofs.Common.{Ok, length, take, ap, sym, ◌∙◌}
use Rattle.dtx_values.specs.declared.message.Info.{Info}
use Rattle.dtx_values.specs.RecoveryInfo.{pair_in}
use Rattle.dtx_values.proofs.Infos.{info_id, info_long, info_pair, read_info, read_same}
use Rattle.dtx_values.proofs.info.parse_info.Goals as goal

pub returns-then-b-ne36-clause-written : goal.returns-then-b-ne36-clause-written
returns-then-b-ne36-clause-written c = λ i p. absurd (c.if-b-ne36.true (ap length p.bytes ∙ info_long i))

pub returns-in-Err-clause-written : goal.returns-in-Err-clause-written
returns-in-Err-clause-written c = λ i p. absurd (let e = info_id c.args.b.now i p in let f = c.in-Err.ensures.identifier in cc (e, f))

pub returns-in-Ok-read_pair-clause-info : goal.returns-in-Ok-read_pair-clause-info
returns-in-Ok-read_pair-clause-info c =
    read_info c.args.b.now _ c.if-b-ne36.false c.in-Ok.ensures.valid c.in-Ok.ensures.bytes (ap (take 20) (sym c.split_at.ensures.back) ∙ c.in-Ok-read_pair.ensures.bytes)

pub returns-in-Ok-read_pair-clause-written : goal.returns-in-Ok-read_pair-clause-written
returns-in-Ok-read_pair-clause-written c = λ i p.
    let j : Info = record { id = c.in-Ok.id; rm = c.in-Ok-read_pair.rm; enl = c.in-Ok-read_pair.enl } in
    ap Ok (read_same c.args.b.now i j p (sym c.in-Ok.ensures.identifier) (sym (c.in-Ok-read_pair.ensures.pair ∙ ap pair_in c.split_at.ensures.back)))

pub returns-in-Err-read_pair-clause-written : goal.returns-in-Err-read_pair-clause-written
returns-in-Err-read_pair-clause-written c = λ i p.
    absurd (let e = info_pair c.args.b.now i p in let f = c.in-Err-read_pair.ensures.pair ∙ ap pair_in c.split_at.ensures.back in cc (e, f))
