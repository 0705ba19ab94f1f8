use Rattle.oletx_session.proofs.Alike.{calls_alike}
use Rattle.oletx_session.proofs.law.same_answers.Goals as goal

pub returns : goal.returns
returns c = λ call r s after also alike room more first second. calls_alike call r s c.args.a.now after c.args.b.now also alike room more first second
