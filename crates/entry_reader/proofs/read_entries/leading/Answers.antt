use Rattle.std.proofs.Common.{arith}
use Rattle.dtx_model.specs.Grammar.{enlistment_name}
use Rattle.line_words.proofs.Without.{name_without}
use Rattle.trace_lines.proofs.CutWords.{cut_spaced}
use Rattle.entry_reader.proofs.read_entries.leading.Goals as goal

pub returns-clause-name : goal.returns-clause-name
returns-clause-name c = λ e r h. c.enlistment_of.ensures.of e (cut_spaced c.args.words.now _ _ (enlistment_name e.value) r c.parts.ensures.front c.parts.ensures.behind h
    (name_without 101 e.value (omega arith))).first

pub returns-clause-behind : goal.returns-clause-behind
returns-clause-behind c = λ e r h. (cut_spaced c.args.words.now _ _ (enlistment_name e.value) r c.parts.ensures.front c.parts.ensures.behind h (name_without 101 e.value (omega arith))).last
