use Rattle.std.proofs.Common.{◌≡◌, ◌++◌, map, take}
use Rattle.reason_text.specs.Phrases.{phrases_text}
use Rattle.reason_text.proofs.phrases.push_phrases.Given as goal

abbrev pub invariant-loop-x : goal.invariant-loop-x
invariant-loop-x l = l.text.items ≡ l.fn.text.items ++ phrases_text (map (λ x. (x.0, x.1.now)) (take l.x-index l.phrases))
