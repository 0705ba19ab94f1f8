use Rattle.std.proofs.Common.{◌≡◌, ◌∙◌, Bool, true, false, not, is_some, Option, ap, refl}
use Rattle.dtx_values.specs.declared.words.Cause.{Cause}
use Rattle.dtx_values.specs.TxIds.{number_of}
use Rattle.half_parts.specs.Half.{Known}
use Rattle.half_parts.proofs.Following.{unpromoted}
use Rattle.local_half.proofs.half.LocalHalf.is_unpromoted.Goals as goal

flipped : (a b : Bool) → a ≡ not b → b ≡ not a
flipped true true k = absurd cc
flipped true false k = refl
flipped false true k = refl
flipped false false k = absurd cc

pub returns : goal.returns
returns c w follows =
    let cause : c.cause.result ≡ c.args.self.now.half.seen.cause = c.cause.ensures ∙ ap (λ (k : Known). k.half.seen.cause) c.self.view_is in
    flipped (is_some c.cause.result) c.is_none.result c.is_none.ensures ∙ ap (λ (o : Option Cause). not (is_some o)) cause ∙ unpromoted (number_of c.args.self.now.transaction) w c.args.self.now.half follows
