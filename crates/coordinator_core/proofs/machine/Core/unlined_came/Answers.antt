use Rattle.std.proofs.Common.{◌∙◌, List, ap, sym}
use Rattle.dtx_values.specs.Outgoing.{written}
use Rattle.dtx_values.specs.TxIds.{number_of}
use Rattle.dtx_values.specs.declared.entry.Entry.{Entry}
use Rattle.dtx_model.specs.Promotes.{identifier_of}
use Rattle.coordinator_core.proofs.Unlined.{unlined_all, unlined_block}
use Rattle.coordinator_core.proofs.machine.Core.unlined_came.Goals as goal

pub returns-clause-kept : goal.returns-clause-kept
returns-clause-kept c =
    let state = c.down.ensures.state ∙ sym (unlined_all (identifier_of (number_of c.args.self.now.transaction)) c.args.self.now.state c.args.c c.args.m c.requires.line) in
    λ i. record { transaction = c.down.ensures.transaction i; state = state i }

pub returns-clause-out : goal.returns-clause-out
returns-clause-out c =
    c.down.ensures.out ∙ ap (λ (es : List Entry). written c.args.out.now es) (sym (unlined_block (identifier_of (number_of c.args.self.now.transaction)) c.args.self.now.state c.args.c c.args.m c.requires.line))
