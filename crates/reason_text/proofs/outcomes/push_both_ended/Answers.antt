use Rattle.std.proofs.Common.{◌++◌, append_assoc, ap, codes, sym, ◌∙◌}
use Rattle.reason_text.specs.Phrases.{phrases_text}
use Rattle.reason_text.specs.Sentences.{roots_said, words_said}
use Rattle.reason_text.proofs.Joined.{joined, then-ok}
use Rattle.reason_text.proofs.outcomes.push_both_ended.Goals as goal

pub returns : goal.returns
returns c =
    let old = c.args.text.now.items in
    let roots = roots_said c.args.b c.args.v in
    let words = words_said (codes ": b and v ended after the local yes, and no outcome had come") in
    then-ok c.push_words.result
    (λ e. e ∙ ap (λ v. v ++ phrases_text words) c.in_ok-push_roots.ensures ∙ append_assoc old (phrases_text roots) (phrases_text words) ∙ ap (λ v. old ++ v) (sym (joined roots words)))
    c.push_words.ensures
