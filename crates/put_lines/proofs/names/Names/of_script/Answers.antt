use Rattle.std.proofs.Common.{◌≡◌, List, length, take, ap, subst, ◌∙◌, arith}
use Rattle.std.proofs.Math.Seq.{take-length}
use Rattle.dtx_values.specs.declared.script.Line.{Line}
use Rattle.heard_notes.specs.Whose.{whose}
use Rattle.put_lines.proofs.NameTables.{AreTabled, tables_right}
use Rattle.put_lines.proofs.names.Names.of_script.Goals as goal

pub returns : goal.returns
returns c =
    let s = c.args.lines.now in
    let full : c.loop-line.line-index ≡ length s = omega arith in
    let whole : take c.loop-line.line-index s ≡ s = ap (λ i. take i s) full ∙ take-length s in
    tables_right s c.args.of (record { transactions = c.loop-line.transactions; enlistments = c.loop-line.enlistments }) c.requires
    (subst (λ (r : List Line). AreTabled r (whose c.args.of) c.loop-line.transactions.items c.loop-line.enlistments.items) whole c.loop-line.invariant)
