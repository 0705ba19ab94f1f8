use Rattle.std.proofs.Common.{sym, ap, subst, ◌∙◌}
use Rattle.kv_resource.specs.Store.{get_in, open_records, table_of}
use Rattle.kv_resource.specs.Table.{IsRising}
use Rattle.kv_resource.proofs.Rising.{table_rises}
use Rattle.kv_resource.proofs.kv.Kv.get.Goals as goal

pub value_in-requires : goal.value_in-requires
value_in-requires g c = subst IsRising (sym (c.deref.ensures.value ∙ c.self.invariant.1.is)) (table_rises (open_records c.self.inside.slots.items))

pub returns : goal.returns
returns g c = c.value_in.ensures ∙ ap (get_in c.args.key) (c.deref.ensures.value ∙ c.self.invariant.1.is ∙ ap (λ s. table_of (open_records s.memory.slots)) c.self.view_is)
