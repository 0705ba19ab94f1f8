use Rattle.std.proofs.Common.{rules}
use Rattle.dtx_values.specs.declared.number.TheConstants.TxNo.{MAX as TRANSACTIONS}
use Rattle.dtx_values.specs.declared.number.TheConstants.EnlNo.{MAX as ENLISTMENTS}
use Rattle.dtx_values.specs.declared.number.TheConstants.CloneNo.{MAX as CLONES}
use Rattle.dtx_values.specs.declared.number.TheConstants.ScopeNo.{MAX as SCOPES}
use Rattle.line_reader.proofs.Tables.{new_table, new_tables}
use Rattle.line_reader.proofs.draft.Draft.for_bytes.Goals as goal

pub invariant_of-result : goal.invariant_of-result
invariant_of-result c =
    let ts = c.in_ok-vec.field-0.items in
    let es = c.in_ok-vec-2.field-0.items in
    let cs = c.in_ok-vec-3.field-0.items in
    let ss = c.in_ok-vec-4.field-0.items in
    new_tables _ ts es cs ss _ c.in_ok-with_capacity.ensures.items
    (new_table TRANSACTIONS ts (search rules) (c.in_ok-vec.ensures.items_if_clones_equal (λ y e. search rules)))
    (new_table ENLISTMENTS es (search rules) (c.in_ok-vec-2.ensures.items_if_clones_equal (λ y e. search rules)))
    (new_table CLONES cs (search rules) (c.in_ok-vec-3.ensures.items_if_clones_equal (λ y e. search rules)))
    (new_table SCOPES ss (search rules) (c.in_ok-vec-4.ensures.items_if_clones_equal (λ y e. search rules)))
    (search rules)
