use Rattle.std.proofs.Common.{◌≡◌, ◌∷◌, [], ◌++◌, None, ◌∙◌, ap, rules}
use Rattle.dtx_model.specs.Words.{past_of}
use Rattle.dtx_model.specs.Faults.{name_fault}
use Rattle.dtx_model.proofs.Histories.{past_of-snoc}
use Rattle.line_reader.proofs.Tables.{lasting_more}
use Rattle.line_reader.proofs.draft.Draft.push.Goals as goal

pub invariant_of-self-in-Durable : goal.invariant_of-self-in-Durable
invariant_of-self-in-Durable c =
    let i = c.self.inside in
    let t = c.in-Durable.t in
    let e = c.in-Durable.e in
    let pushed : c.push.new.self.items ≡ i.lines.items ++ c.args.line ∷ [] = search rules in
    let grown : past_of c.push.new.self.items ≡ c.args.line ∷ past_of i.lines.items = ap past_of pushed ∙ past_of-snoc i.lines.items c.args.line in
    let fine : name_fault (past_of i.lines.items) c.args.line ≡ None = search rules in
    let made = lasting_more (past_of i.lines.items) c.args.line t e c.index-place.result i.transactions.items i.enlistments.items i.clones.items i.scopes.items i.owners.items i.par c.in-Durable.is c.index-place.ensures.place fine c.self.invariant in
    rw grown made
