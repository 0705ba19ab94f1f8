use Rattle.std.proofs.Common.{◌≡◌, ◌++◌, OnOk, subst, sym}
use Rattle.outcome_reasons.specs.declared.said.PromotionReason.{PromotionReason}
use Rattle.reason_text.specs.Phrases.{phrases_text}
use Rattle.reason_text.specs.Sentences.{promotion_said}
use Rattle.reason_text.proofs.outcomes.push_promotion.Goals as goal

pub returns-in-Identifier : goal.returns-in-Identifier
returns-in-Identifier c =
    subst (λ (r : PromotionReason). OnOk c.push_phrases.result (c.push_phrases.new.text.items ≡ c.args.text.now.items ++ phrases_text (promotion_said c.args.by r))) (sym c.in-Identifier.is) c.push_phrases.ensures

pub returns-in-Second : goal.returns-in-Second
returns-in-Second c =
    subst (λ (r : PromotionReason). OnOk c.push_phrases-in-Second.result (c.push_phrases-in-Second.new.text.items ≡ c.args.text.now.items ++ phrases_text (promotion_said c.args.by r))) (sym c.in-Second.is) c.push_phrases-in-Second.ensures

pub returns-in-Beside : goal.returns-in-Beside
returns-in-Beside c =
    subst (λ (r : PromotionReason). OnOk c.push_phrases-in-Beside.result (c.push_phrases-in-Beside.new.text.items ≡ c.args.text.now.items ++ phrases_text (promotion_said c.args.by r))) (sym c.in-Beside.is) c.push_phrases-in-Beside.ensures

pub returns-in-Two : goal.returns-in-Two
returns-in-Two c =
    subst (λ (r : PromotionReason). OnOk c.push_phrases-in-Two.result (c.push_phrases-in-Two.new.text.items ≡ c.args.text.now.items ++ phrases_text (promotion_said c.args.by r))) (sym c.in-Two.is) c.push_phrases-in-Two.ensures
