use Rattle.std.proofs.Common.{◌≡◌, true, append-nil, ap, map, sym, ◌++◌, ◌∙◌}
use Rattle.dtx_model.specs.Words.{has, past_of}
use Rattle.dtx_model.proofs.Reading.{has-past}
use Rattle.outcome_reasons.specs.Histories.{Numbered}
use Rattle.outcome_reasons.specs.Whys.{by_number, is_began, said_of}
use Rattle.outcome_reasons.proofs.Begun.{not-said, was-said}
use Rattle.outcome_reasons.proofs.lines.add_of.Goals as goal

pub returns-then-not-is_begun : goal.returns-then-not-is_begun
returns-then-not-is_begun c = λ are.
    let h = c.h.inside.entries.items in
    sym (append-nil (map by_number c.args.all.now.items))
    ∙ ap (λ v. map by_number c.args.all.now.items ++ v)
    (sym (not-said c.args.lines.now (past_of c.args.nested.now) c.args.t.value c.args.h.now (ap (λ (x : Numbered). has is_began x.entries) (sym c.h.view_is) ∙ has-past is_began h ∙ ap (has is_began) (sym c.deref.ensures.value) ∙ sym c.if-not-is_begun.ensures.begun)))

pub returns : goal.returns
returns c = λ are.
    let s = c.args.lines.now in
    let qs = past_of c.args.nested.now in
    let t = c.args.t.value in
    let all = map by_number c.args.all.now.items in
    let numbers : past_of c.deref-2.result.now ≡ c.args.h.now.numbers = ap past_of c.deref-2.ensures.value ∙ ap (λ (x : Numbered). x.numbers) c.h.view_is in
    let entries : past_of c.deref-3.result.now ≡ c.args.h.now.entries = ap past_of c.deref-3.ensures.value ∙ ap (λ (x : Numbered). x.entries) c.h.view_is in
    let begun : has is_began c.args.h.now.entries ≡ true =
    ap (λ (x : Numbered). has is_began x.entries) (sym c.h.view_is) ∙ has-past is_began c.h.inside.entries.items ∙ ap (has is_began) (sym c.deref.ensures.value) ∙ sym c.if-not-is_begun.ensures.begun in
    c.in_ok-add_said.ensures
    ∙ ap (λ v. all ++ v)
    (ap (map (λ w. (t, w))) (c.deref-4.ensures.value ∙ c.in_ok-said.ensures are ∙ (λ j. said_of s qs (numbers j) (entries j))) ∙ sym (was-said s qs t c.args.h.now begun))
