-- Blocks that are written after each other.
use Rattle.std.proofs.Common.{◌≡◌, ◌∙◌, List, ◌++◌, ap}
use Rattle.dtx_values.specs.declared.entry.Entry.{Entry}
use Rattle.dtx_values.specs.Outgoing.{Outgoing, written}
use Rattle.dtx_model.proofs.Writing.{written-none, written-written}

-- four blocks after each other are one
pub written-four : (o : Outgoing) (a b c d : List Entry) → written (written (written (written o a) b) c) d ≡ written o (a ++ b ++ c ++ d)
written-four o a b c d =
    ap (λ (p : Outgoing). written (written p c) d) (written-written o a b) ∙ ap (λ (p : Outgoing). written p d) (written-written o (a ++ b) c) ∙ written-written o (a ++ b ++ c) d

pub ruleset outgoing = (written-written, written-none)
