use Rattle.std.proofs.Common.{◌≡◌, ◌++◌, OnOk, subst, sym}
use Rattle.outcome_reasons.specs.declared.said.AbortReason.{AbortReason}
use Rattle.reason_text.specs.Phrases.{phrases_text}
use Rattle.reason_text.specs.Sentences.{abort_said}
use Rattle.reason_text.proofs.aborts.push_reason.Goals as goal

pub returns-in-RolledBack : goal.returns-in-RolledBack
returns-in-RolledBack c =
    subst (λ (r : AbortReason). OnOk c.push_phrases.result (c.push_phrases.new.text.items ≡ c.args.text.now.items ++ phrases_text (abort_said c.args.by r))) (sym c.in-RolledBack.is) c.push_phrases.ensures

pub returns-in-OpenClone : goal.returns-in-OpenClone
returns-in-OpenClone c =
    subst (λ (r : AbortReason). OnOk c.push_two-in-OpenClone.result (c.push_two-in-OpenClone.new.text.items ≡ c.args.text.now.items ++ phrases_text (abort_said c.args.by r))) (sym c.in-OpenClone.is) c.push_two-in-OpenClone.ensures

pub returns-in-Lost : goal.returns-in-Lost
returns-in-Lost c =
    subst (λ (r : AbortReason). OnOk c.push_one.result (c.push_one.new.text.items ≡ c.args.text.now.items ++ phrases_text (abort_said c.args.by r))) (sym c.in-Lost.is) c.push_one.ensures

pub returns-in-OwnerAborted : goal.returns-in-OwnerAborted
returns-in-OwnerAborted c =
    subst (λ (r : AbortReason). OnOk c.push_one-in-OwnerAborted.result (c.push_one-in-OwnerAborted.new.text.items ≡ c.args.text.now.items ++ phrases_text (abort_said c.args.by r))) (sym c.in-OwnerAborted.is) c.push_one-in-OwnerAborted.ensures

pub returns-in-NotPromoted : goal.returns-in-NotPromoted
returns-in-NotPromoted c =
    subst (λ (r : AbortReason). OnOk c.push_one-in-NotPromoted.result (c.push_one-in-NotPromoted.new.text.items ≡ c.args.text.now.items ++ phrases_text (abort_said c.args.by r))) (sym c.in-NotPromoted.is) c.push_one-in-NotPromoted.ensures
