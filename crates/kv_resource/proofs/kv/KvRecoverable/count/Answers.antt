use Rattle.std.proofs.Common.{ap, sym, ◌∙◌}
use Rattle.std.specs.Prelude.{is_some, length}
use Rattle.std.specs.List.{count_by}
use Rattle.kv_resource.specs.Held.{holdings_of}
use Rattle.kv_resource.proofs.Finding.{Slots}
use Rattle.kv_resource.proofs.Held.{length-holdings}
use Rattle.kv_resource.proofs.kv.KvRecoverable.count.Goals as goal

pub returns : goal.returns
returns g c = c.open_slots.ensures ∙ ap (λ (l : Slots). count_by is_some l) c.deref.ensures.value ∙ sym (length-holdings c.self.inside.earlier 0 c.self.inside.slots.items) ∙ ap (λ s. length (holdings_of s)) c.self.view_is
