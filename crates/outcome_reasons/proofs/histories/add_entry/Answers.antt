use Rattle.std.proofs.Common.{sym}
use Rattle.outcome_reasons.proofs.Spread.{add-none, add-own}
use Rattle.outcome_reasons.proofs.histories.add_entry.Goals as goal

pub returns-in_ok-add : goal.returns-in_ok-add
returns-in_ok-add c = λ past all counted.
    add-own past c.args.z c.in-Transaction.tx c.args.histories.now.items c.index.result c.args.number c.index_mut.result.now c.add.new.self c.in-Transaction.is c.index.ensures.place c.index.ensures.within all (sym c.index_mut.ensures.value) c.in_ok-add.ensures counted

pub returns-in_default : goal.returns-in_default
returns-in_default c = λ past all counted. add-none past c.args.z c.args.histories.now.items c.in_default.not-Transaction all
