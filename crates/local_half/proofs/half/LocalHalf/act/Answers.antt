use Rattle.std.proofs.Common.{◌∙◌, [], List, ap, sym}
use Rattle.dtx_values.specs.declared.entry.Entry.{Entry}
use Rattle.dtx_values.specs.TxIds.{number_of}
use Rattle.dtx_model.specs.Half.{heeds_all}
use Rattle.dtx_model.specs.Outcome.{is_empty}
use Rattle.half_parts.specs.Half.{Known}
use Rattle.local_half.proofs.Acting.{act_made}
use Rattle.half_parts.proofs.Following.{acted}
use Rattle.local_half.proofs.half.LocalHalf.act.Goals as goal

pub returns-in-Some-clause-runs : goal.returns-in-Some-clause-runs
returns-in-Some-clause-runs c w follows done =
    let known = c.args.self.now in
    acted (number_of known.transaction) w known.half c.do_act.new.self.half follows
    (ap (λ (es : List Entry). is_empty es) (sym c.in-Some.ensures.entries) ∙ act_made known.half c.in-Some.a)
    (ap (λ (k : Known). k.half) c.do_act.ensures.state ∙ ap (λ (es : List Entry). heeds_all [] known.half es) c.in-Some.ensures.entries)
