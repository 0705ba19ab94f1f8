use Rattle.oletx_frames.proofs.Telling.{part_begun, refusal_stays}
use Rattle.oletx_frames.proofs.law.only_a_whole_frame_is_told.Goals as goal

pub returns-clause-part : goal.returns-clause-part
returns-clause-part c = λ m b rest valid is some. part_begun m b rest is some

pub returns-clause-stays : goal.returns-clause-stays
returns-clause-stays c = refusal_stays
