use Rattle.oletx_frames.proofs.Pieces.{same_messages}
use Rattle.oletx_frames.proofs.law.no_frame_begins_another.Goals as goal

pub returns : goal.returns
returns c = same_messages
