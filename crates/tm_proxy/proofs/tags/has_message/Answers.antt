use Rattle.std.proofs.Common.{◌∙◌}
use Rattle.dtx_values.specs.Ends.{tag_of}
use Rattle.tm_proxy.proofs.Bits.{has-bit}
use Rattle.tm_proxy.proofs.tags.has_message.Goals as goal

pub returns : goal.returns
returns c = c.contains.ensures tt ∙ rw (c.from_bits_retain.ensures tt, c.of.ensures) (has-bit c.args.set (tag_of c.args.m.now))
