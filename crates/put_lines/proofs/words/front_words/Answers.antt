use Rattle.std.proofs.Common.{rules, ap, sym, ◌∙◌}
use Rattle.dtx_model.specs.Faults.{word_fault}
use Rattle.put_lines.specs.Input.{put_forms}
use Rattle.put_lines.proofs.UnknownWords.{unknown_front}
use Rattle.put_lines.proofs.words.front_words.Goals as goal

pub returns : goal.returns
returns c = ap (word_fault put_forms) (sym c.new-words.ensures ∙ c.in-Some.ensures.some) ∙ unknown_front c.in-Some.word.now c.next.new.self (search rules) (search rules)
