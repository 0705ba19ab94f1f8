use Rattle.half_parts.proofs.Due.{voter_asked}
use Rattle.local_half.proofs.half.LocalHalf.take_reply.Goals as goal

pub vote-requires-clause-asked : goal.vote-requires-clause-asked
vote-requires-clause-asked c = voter_asked c.args.self.now.half.seen c.args.e.value c.in-Vote.v c.args.note c.requires.due (rw c.in-Vote.is at c.requires.fits)
