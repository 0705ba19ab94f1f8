use Rattle.fine_texts.proofs.FineTexts.{text_keeps}
use Rattle.fine_texts.proofs.same_text_keeps.Goals as goal

pub returns : goal.returns
returns c = record { keeps = text_keeps }
