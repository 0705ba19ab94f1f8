use Rattle.program_words.proofs.Injective.{one_command}
use Rattle.program_words.proofs.words.command_of.Goals as goal

pub returns-in-len2-clause-one : goal.returns-in-len2-clause-one
returns-in-len2-clause-one c x y a b = one_command _ x y a b

pub returns-in-len3-clause-one : goal.returns-in-len3-clause-one
returns-in-len3-clause-one c x y a b = one_command _ x y a b
