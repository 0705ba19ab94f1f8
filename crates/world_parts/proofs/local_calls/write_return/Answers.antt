use Rattle.std.proofs.Common.{◌∷◌, [], ap, refl, ◌∙◌, find}
use Rattle.dtx_values.specs.Outgoing.{Outgoing, written}
use Rattle.dtx_values.specs.TxIds.{number_of}
use Rattle.dtx_values.specs.declared.entry.Answer.TheVariants.{Fine}
use Rattle.dtx_values.specs.declared.entry.Entry.TheVariants.{Called}
use Rattle.dtx_model.specs.Observed.{is_branch}
use Rattle.dtx_model.specs.World.{reenlist_facts}
use Rattle.half_parts.proofs.Writing.{unsent}
use Rattle.world_parts.proofs.LocalCalls.{return_known}
use Rattle.world_parts.proofs.local_calls.write_return.Goals as goal
use Rattle.dtx_model.proofs.Writing.{written-written}

pub returns-clause-state : goal.returns-clause-state
returns-clause-state c m = c.reenlist.ensures.state ∙ return_known c.args.half.now c.args.line c.args.actor c.args.e m

pub returns-clause-out : goal.returns-clause-out
returns-clause-out c =
    let h = c.args.half.now in
    let es = reenlist_facts (number_of h.transaction) (find (is_branch c.args.e.value) h.half.seen.branches) in
    let first = Called c.args.line c.args.actor Fine ∷ [] in
    c.reenlist.ensures.out ∙ ap (λ (o : Outgoing). written o es) (c.put.ensures ∙ unsent c.args.out.now first refl) ∙ written-written c.args.out.now first es
