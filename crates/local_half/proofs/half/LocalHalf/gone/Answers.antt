use Rattle.std.proofs.Common.{◌≡◌, ◌∙◌, [], arith, false, true, is_some, sym, ap, subst}
use Rattle.dtx_values.specs.declared.entry.Answer.TheVariants.{Fine}
use Rattle.dtx_values.specs.TxIds.{number_of}
use Rattle.dtx_model.specs.Answers.{gone_answer}
use Rattle.dtx_model.specs.Half.{heeds_all, is_gone, stands}
use Rattle.dtx_model.specs.World.{gone_decides}
use Rattle.half_parts.specs.Half.{Known, after, loss}
use Rattle.half_parts.proofs.Following.{lost}
use Rattle.half_parts.proofs.Notes.{standing_begun}
use Rattle.local_half.proofs.half.LocalHalf.gone.Goals as goal

pub returns-then-not-linked-clause-runs : goal.returns-then-not-linked-clause-runs
unfolding heeds_all
returns-then-not-linked-clause-runs c w n a follows fresh unlinked none =
    let known = c.args.self.now in
    let e = c.args.e in
    let there = subst (λ (k : Known). gone_answer (stands k.half.seen e.value) (is_gone k.half.seen e.value) ≡ Fine) (sym c.self.view_is) c.requires.stands in
    let begun : is_some known.half.seen.limit ≡ true =
    subst (λ (k : Known). is_some k.half.seen.limit ≡ true) c.self.view_is (standing_begun c.self.inside.limit c.self.inside.table e.value _ (λ k. omega (arith, c.self.invariant.4.begun k)) there) in
    let state : c.gone_decides.new.self ≡ after [] known (loss false known.half e) = c.gone_decides.ensures.state ∙ ap (λ (k : Known). after [] k (gone_decides k.half e)) c.write.ensures.state in
    lost (number_of known.transaction) w known.half c.gone_decides.new.self.half n a e follows fresh begun c.requires.stands none (ap (λ (k : Known). k.half) state)
