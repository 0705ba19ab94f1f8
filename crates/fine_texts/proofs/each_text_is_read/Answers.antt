use Rattle.fine_texts.proofs.ReadTexts.{text_read}
use Rattle.fine_texts.proofs.each_text_is_read.Goals as goal

pub returns : goal.returns
returns c = record { read = text_read }
