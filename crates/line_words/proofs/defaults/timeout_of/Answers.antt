use Rattle.std.proofs.Common.{rules}
use Rattle.line_words.proofs.Values.{default_only}
use Rattle.line_words.proofs.defaults.timeout_of.Goals as goal

pub returns-then-eq-clause-of : goal.returns-then-eq-clause-of
returns-then-eq-clause-of c = λ d k e. default_only c.args.word.now d (search rules) k e
