use Rattle.std.proofs.Common.{[], refl}
use Rattle.oletx_frames.proofs.Streams.{fed}
use Rattle.oletx_frames.proofs.law.pieces_give_the_messages.Goals as goal

pub returns : goal.returns
returns c = record { in_order = λ ms rest e pieces calls end valid r is f. fed calls [] ms rest e pieces end refl valid r is f }
