use Rattle.trace_picture.proofs.OwnArrow.{own_arrow}
use Rattle.trace_picture.proofs.laws.each_got_has_its_arrow.Goals as goal

pub returns : goal.returns
returns c = record { own = λ s came t T c d m run none. own_arrow s came t T c d m run none }
