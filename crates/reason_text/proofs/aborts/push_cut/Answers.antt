use Rattle.std.proofs.Common.{◌≡◌, ℕ, ◌∷◌, [], ◌++◌, OnOk, codes, subst}
use Rattle.reason_text.specs.Phrases.{phrases_text}
use Rattle.reason_text.specs.declared.phrases.Head.TheVariants.{Connection, Number}
use Rattle.reason_text.proofs.aborts.push_cut.Goals as goal

pub returns : goal.returns
returns c =
    subst (λ (k : ℕ). OnOk c.push_phrases.result (c.push_phrases.new.text.items ≡ c.args.text.now.items ++ phrases_text ((Connection c.args.c, codes " was cut in line ") ∷ (Number k, []) ∷ []))) c.from-line.ensures c.push_phrases.ensures
